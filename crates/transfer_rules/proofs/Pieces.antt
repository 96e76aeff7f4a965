-- The pieces of a list by their ends.
use Rattle.std.proofs.Common.{◌≡◌, ℕ, zero, suc, ◌+◌, ◌-◌, ◌<◌, ◌≤◌, List, [], ◌∷◌, length, take, drop, get_or, refl, sym, ap, ◌∙◌, arith}
use Rattle.zo_core.specs.Literals.{Literal}
use Rattle.conflict_proof.specs.declared.names.ConstraintName.{ConstraintName}
use Rattle.transfer_rules.specs.Table.{cut, start, AreEnds, named, rows, IsTable, no_clause}

drop_nil : {X : Type 0} (n : ℕ) → drop {A = X} n [] ≡ []
drop_nil zero = refl
drop_nil (suc n) = refl

drop_twice : {X : Type 0} (m k : ℕ) (xs : List X) → drop m (drop k xs) ≡ drop (k + m) xs
drop_twice m zero xs = let e : m ≡ 0 + m = omega arith in ap (λ n. drop n xs) e
drop_twice m (suc k) [] = drop_nil m ∙ sym (drop_nil (suc k + m))
drop_twice m (suc k) (x ∷ xs) = drop_twice m k xs ∙ (let e : suc (k + m) ≡ suc k + m = omega arith in ap (λ n. drop n (x ∷ xs)) e)

length_drop : {X : Type 0} (n : ℕ) (xs : List X) → n ≤ length xs → n + length (drop n xs) ≡ length xs
length_drop zero xs le = omega arith
length_drop (suc n) [] le = absurd (omega arith)
length_drop (suc n) (x ∷ xs) le = let e = length_drop n xs (omega arith) in omega arith

-- a piece begins at its start and ends at its end, within the list
pub record IsWithin (from n : ℕ) (es : List ℕ) (ls : List Literal) : Type 0 where
  pub after : from ≤ start from es n
  pub ordered : start from es n ≤ get_or es n 0
  pub within : get_or es n 0 ≤ from + length ls

pub is_within : (from n : ℕ) (es : List ℕ) (ls : List Literal) → AreEnds from es ls → n < length es → IsWithin from n es ls
is_within from zero [] ls h lt = absurd (omega arith)
is_within from (suc n) [] ls h lt = absurd (omega arith)
is_within from zero (e ∷ es) ls h lt = let le = h.0 in let fits = h.1 in record { after = omega arith; ordered = le; within = omega (arith, le, fits) }
is_within from (suc n) (e ∷ es) ls h lt =
    let next = is_within e n es (drop (e - from) ls) h.2 (omega arith) in
    let le = h.0 in
    let long = length_drop (e - from) ls h.1 in
    let a = next.after in
    let w = next.within in
    record { after = omega arith; ordered = next.ordered; within = omega arith }

pub cut_at : (from n : ℕ) (es : List ℕ) (ls : List Literal) → AreEnds from es ls → n < length es
    → get_or (cut from es ls) n [] ≡ take (get_or es n 0 - start from es n) (drop (start from es n - from) ls)
cut_at from zero [] ls h lt = absurd (omega arith)
cut_at from (suc n) [] ls h lt = absurd (omega arith)
cut_at from zero (e ∷ es) ls h lt = let none : 0 ≡ from - from = omega arith in ap (λ k. take (e - from) (drop k ls)) none
cut_at from (suc n) (e ∷ es) ls h lt =
    let next = is_within e n es (drop (e - from) ls) h.2 (omega arith) in
    let le = h.0 in
    let a = next.after in
    let sum : (e - from) + (start e es n - e) ≡ start e es n - from = omega arith in
    cut_at e n es (drop (e - from) ls) h.2 (omega arith)
    ∙ ap (λ (zs : List Literal). take (get_or es n 0 - start e es n) zs) (drop_twice (start e es n - e) (e - from) ls ∙ ap (λ k. drop k ls) sum)

pub start_is : (from n : ℕ) (es : List ℕ) → n < length es → start from es (suc n) ≡ get_or es n 0
start_is from n [] lt = absurd (omega arith)
start_is from zero (e ∷ es) lt = refl
start_is from (suc n) (e ∷ es) lt = start_is e n es (omega arith)

pub begin_is : (n : ℕ) (es : List ℕ) → (n ≡ 0 → ⊥) → n < length es → get_or es (n - 1) 0 ≡ start 0 es n
begin_is n es some lt =
    let e : suc (n - 1) ≡ n = omega (arith, some) in
    let lt' : n - 1 < length es = omega arith in
    sym (start_is 0 (n - 1) es lt') ∙ ap (start 0 es) e

named_at : (n : ℕ) (ns : List ConstraintName) (cs : List (List Literal)) → length ns ≡ length cs → n < length cs
    → get_or (named ns cs) n no_clause ≡ record { name = get_or ns n no_clause.name; lits = get_or cs n [] }
named_at n [] [] e lt = absurd (omega arith)
named_at n [] (c ∷ cs) e lt = absurd (omega arith)
named_at n (m ∷ ns) [] e lt = absurd (omega arith)
named_at zero (m ∷ ns) (c ∷ cs) e lt = refl
named_at (suc n) (m ∷ ns) (c ∷ cs) e lt = named_at n ns cs (omega arith) (omega arith)

cut_length : (from : ℕ) (es : List ℕ) (ls : List Literal) → length (cut from es ls) ≡ length es
cut_length from [] ls = refl
cut_length from (e ∷ es) ls = ap suc (cut_length e es (drop (e - from) ls))

pub row_at : (n : ℕ) (ns : List ConstraintName) (es : List ℕ) (ls : List Literal) → IsTable ns es ls → n < length es
    → get_or (rows ns es ls) n no_clause ≡ record { name = get_or ns n no_clause.name; lits = get_or (cut 0 es ls) n [] }
row_at n ns es ls t lt = let e = cut_length 0 es ls in let count = t.count in named_at n ns (cut 0 es ls) (omega arith) (omega arith)
