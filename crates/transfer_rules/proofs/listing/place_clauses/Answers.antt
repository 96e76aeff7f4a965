use Rattle.std.proofs.Common.{◌<◌, ℕ, sym, subst}
use Rattle.transfer_rules.specs.Body.{Body, sight, setting}
use Rattle.transfer_rules.specs.Exist.{EdgesExist}
use Rattle.transfer_rules.proofs.Whole.{member_edges}
use Rattle.transfer_rules.proofs.listing.place_clauses.Goals as goal

pub with_clauses_at-requires : goal.with_clauses_at-requires
with_clauses_at-requires c =
    let P : Body → Type 0 = λ b. EdgesExist (sight b) (setting b) c.args.place in
    subst P (sym c.body_of-body.ensures) (member_edges c.args.program.now c.args.group c.args.proc c.law.ensures c.requires.group c.requires.member c.args.place c.requires.place)
