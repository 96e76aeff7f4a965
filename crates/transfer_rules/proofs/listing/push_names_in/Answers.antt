use Rattle.std.proofs.Common.{◌<◌, ℕ, sym, subst}
use Rattle.transfer_rules.specs.Body.{Body, sight, setting}
use Rattle.transfer_rules.specs.Exist.{EdgesExist}
use Rattle.transfer_rules.proofs.Whole.{member_edges}
use Rattle.transfer_rules.proofs.listing.push_names_in.Goals as goal

pub push_names_of-requires : goal.push_names_of-requires
push_names_of-requires c =
    let P : Body → Type 0 = λ b. (q : ℕ) → q < (sight b).places → EdgesExist (sight b) (setting b) q in
    subst P (sym c.body_of-body.ensures) (member_edges c.args.program.now c.args.group c.args.proc c.law.ensures c.requires.group c.requires.member)
