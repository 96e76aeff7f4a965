use Rattle.std.proofs.Common.{◌≡◌, false, take}
use Rattle.zo_core.specs.Truth.{clause_true}
use Rattle.verdict_meaning.specs.Certificates.{bit_at}
use Rattle.call_search.proofs.keeping.is_true.Given as goal

abbrev pub invariant-loop-lit : goal.invariant-loop-lit
invariant-loop-lit l = clause_true (bit_at l.bits) (take l.lit-index l.lits) ≡ false
