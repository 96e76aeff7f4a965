use Rattle.std.proofs.Common.{ℕ, ◌<◌, ◌≤◌, get_or}
use Rattle.zo_core.specs.Literals.{Literal}
use Rattle.call_search.proofs.site.is_of_fields.Given as goal

abbrev pub invariant-loop-lit : goal.invariant-loop-lit
invariant-loop-lit l = (k : ℕ) (d : Literal) → k < l.lit-index → (get_or l.lits k d).var ≤ l.fields
