use Rattle.std.proofs.Common.{◌≡◌, ◌∷◌, map, take}
use Rattle.call_summary.specs.Joins.{code_of}
use Rattle.call_summary.proofs.joining.key_of.Given as goal

abbrev pub invariant-loop-lit : goal.invariant-loop-lit
invariant-loop-lit l = l.key.items ≡ l.line.group ∷ map code_of (take l.lit-index l.lits)
