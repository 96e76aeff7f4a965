use Rattle.std.proofs.Common.{ℕ, ◌<◌, List, subst}
use Rattle.std.specs.List.{All}
use Rattle.std.proofs.lemmas.List.{take_all}
use Rattle.zo_core.specs.Literals.{Literal}
use Rattle.group_solver.proofs.Reading.{read_at, all_next}
use Rattle.group_solver.proofs.values.are_numbered.Goals as goal

pub loop-lit-preserved : goal.loop-lit-preserved
loop-lit-preserved c =
    all_next (λ (m : Literal). 0 < m.var) c.args.lits.now c.loop-lit.lit-index c.lit-item.result (read_at c.args.lits.now c.loop-lit.lit-index c.lit-item.result c.loop-lit-test.true c.lit-item.is) c.loop-lit.invariant
    (subst (λ (n : ℕ). 0 < n) c.var-number.ensures.var c.var-number.ensures.range.0)

pub returns : goal.returns
returns c = subst (λ (ls : List Literal). All (λ (m : Literal). 0 < m.var) ls) (take_all c.loop-lit.lit-index c.args.lits.now c.loop-lit-test.false) c.loop-lit.invariant
