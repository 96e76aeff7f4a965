use Rattle.std.proofs.Common.{◌<◌, ℕ, sym, subst}
use Rattle.transfer_rules.specs.Body.{Body, sight, setting}
use Rattle.transfer_rules.specs.Exist.{EdgesExist}
use Rattle.transfer_rules.proofs.Whole.{member_edges}
use Rattle.transfer_rules.proofs.listing.with_clauses_in.Goals as goal

pub with_clauses_of-requires : goal.with_clauses_of-requires
with_clauses_of-requires c =
    let P : Body → Type 0 = λ b. (q : ℕ) → q < (sight b).places → EdgesExist (sight b) (setting b) q in
    subst P (sym c.body_of-body.ensures) (member_edges c.args.program.now c.args.group c.args.proc c.law.ensures c.requires.group c.requires.member)
