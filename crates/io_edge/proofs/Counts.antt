-- One more fault is a rise of the count.
use Rattle.std.proofs.Common.{ℕ, inl, inr, arith}
use Rattle.std.proofs.lemmas.Bool.Decides.{leb_tells}
use Rattle.io_edge.specs.Faults.{greatest, raised, Rose}

pub raised_rose : (n : ℕ) → Rose n (raised n)
raised_rose n = elim (leb_tells greatest n) [ inl at_end ↦ inr (omega arith) | inr below ↦ inl (omega arith) ]
