use Rattle.std.proofs.Common.{◌<◌, ◌≤◌, ◌^◌, take}
use Rattle.std.specs.List.{All}
use Rattle.zo_core.specs.Literals.{Literal}
use Rattle.unit_answers.proofs.closing.most_of.Given as goal

abbrev pub invariant-loop-lit : goal.invariant-loop-lit
invariant-loop-lit l = record { least : l.least ≤ l.most; small : l.most < 2 ^ 31; most : All (λ (m : Literal). m.var ≤ l.most) (take l.lit-index l.lits) }
