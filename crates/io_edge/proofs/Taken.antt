-- How far the reading of one file has come, and what it leaves when it ends.
use Rattle.std.proofs.Common.{◌≡◌, ℕ, ◌+◌, ◌≤◌, List, [], ◌++◌, length, Option, None, Some, sym, ◌∙◌, ap, append-nil, arith}
use Rattle.std.specs.Io.KnownBytes.{Consumes, Keeps, IsAtEnd}
use Rattle.std.proofs.KnownBytes.{Consumes-trans, Consumes-kept}
use Rattle.std.proofs.lemmas.Grind.{common_steps}
use Rattle.io_edge.specs.Held.{Held, Untold, Absent, Whole, Opens}
use Rattle.io_edge.specs.Reading.{IsContent, IsOver, TakesAtMost}

-- the file was opened, and of its bytes these were taken, from the front on
abbrev pub HasTaken : Held → Option (List ℕ) → List ℕ → Type 0
HasTaken Untold left bytes = Unit {0}
HasTaken Absent left bytes = ⊥
HasTaken (Whole content) left bytes = Consumes (Some content) left bytes

pub taken_none : (held : Held) (left : Option (List ℕ)) → Opens held left → HasTaken held left []
taken_none Untold left p = tt
taken_none Absent left p = p
taken_none (Whole content) None p = absurd (cc)
taken_none (Whole content) (Some rest) p = cc

pub taken_more : (held : Held) (a b : Option (List ℕ)) (bytes piece : List ℕ) → HasTaken held a bytes → Consumes a b piece → HasTaken held b (bytes ++ piece)
taken_more Untold a b bytes piece p q = tt
taken_more Absent a b bytes piece p q = p
taken_more (Whole content) a b bytes piece p q = Consumes-trans (Some content) a b bytes piece p q

pub taken_kept : (held : Held) (a b : Option (List ℕ)) (bytes : List ℕ) → HasTaken held a bytes → Keeps a b → HasTaken held b bytes
taken_kept Untold a b bytes p q = tt
taken_kept Absent a b bytes p q = p
taken_kept (Whole content) a b bytes p q = Consumes-kept (Some content) a b bytes p q

pub taken_all : (held : Held) (left : Option (List ℕ)) (bytes : List ℕ) → HasTaken held left bytes → IsAtEnd left → IsContent held bytes
taken_all Untold left bytes p end = tt
taken_all Absent left bytes p end = p
taken_all (Whole content) None bytes p end = absurd p
taken_all (Whole content) (Some rest) bytes p end = sym (p ∙ ap (λ l. bytes ++ l) end ∙ append-nil bytes)

pub taken_over : (held : Held) (left : Option (List ℕ)) (bytes : List ℕ) (most : ℕ) → HasTaken held left bytes → length bytes ≡ most + 1 → IsOver held left most
taken_over Untold left bytes most p long = tt
taken_over Absent left bytes most p long = p
taken_over (Whole content) None bytes most p long = absurd p
taken_over (Whole content) (Some rest) bytes most p long =
    rw (p, ← long) (grind (arith, common_steps), grind (arith, common_steps))

pub taken_at_most : (held : Held) (left : Option (List ℕ)) (bytes : List ℕ) (limit : ℕ) → HasTaken held left bytes → length bytes ≤ limit → TakesAtMost held left limit
taken_at_most Untold left bytes limit p short = tt
taken_at_most Absent left bytes limit p short = p
taken_at_most (Whole content) None bytes limit p short = absurd p
taken_at_most (Whole content) (Some rest) bytes limit p short = (length bytes, short, rw p (grind (arith, common_steps)))
