-- Lines of instances follow one another.
use Rattle.std.proofs.Common.{◌≡◌, ℕ, zero, suc, ◌+◌, ◌<◌, ◌≤◌, ◌⊎◌, inl, inr, Bool, true, false, List, [], ◌∷◌, Option, Some, None, refl, sym, ap, ◌∙◌, subst, arith, length, take, ltb, slice_get, add-one, zero-le}
use Rattle.std.specs.Prelude.{sum_by, MatchBool}
use Rattle.std.proofs.lemmas.Bool.{ltb-true, ltb-false}
use Rattle.std.proofs.lemmas.List.Sums.{sum_by-cons}
use Rattle.own_cert.specs.declared.certificate.Instance.{Instance}
use Rattle.verdict_meaning.specs.CertificateFaults.{lines_of, instance_line}

pub match_true : (b : Bool) (P Q : Type 0) → b ≡ true → MatchBool b P Q → P
match_true true P Q e m = m
match_true false P Q e m = cc

pub match_false : (b : Bool) (P Q : Type 0) → b ≡ false → MatchBool b P Q → Q
match_false true P Q e m = cc
match_false false P Q e m = m

pub lt_or_le : (n m : ℕ) → (n < m) ⊎ (m ≤ n)
lt_or_le n m = by_test (ltb n m) refl
  where
    by_test : (b : Bool) → ltb n m ≡ b → (n < m) ⊎ (m ≤ n)
    by_test true e = inl (ltb-true n m e)
    by_test false e = inr (ltb-false n m e)

sum_next : (is : List Instance) (n : ℕ) (i : Instance) → slice_get is n ≡ Some i → sum_by lines_of (take (suc n) is) ≡ sum_by lines_of (take n is) + (3 + length i.places)
sum_next [] n i at = cc
sum_next (j ∷ is) zero i at =
    let same : j ≡ i = cc in
    let e : lines_of j ≡ 3 + length i.places = ap lines_of same in
    sum_by-cons lines_of j [] ∙ (let h : lines_of j + 0 ≡ 0 + (3 + length i.places) = omega arith in h)
sum_next (j ∷ is) (suc n) i at =
    let e : sum_by lines_of (take (suc n) is) ≡ sum_by lines_of (take n is) + (3 + length i.places) = sum_next is n i at in
    let l : sum_by lines_of (j ∷ take (suc n) is) ≡ lines_of j + sum_by lines_of (take (suc n) is) = sum_by-cons lines_of j (take (suc n) is) in
    let r : sum_by lines_of (j ∷ take n is) ≡ lines_of j + sum_by lines_of (take n is) = sum_by-cons lines_of j (take n is) in
    l ∙ (let h : lines_of j + sum_by lines_of (take (suc n) is) ≡ (lines_of j + sum_by lines_of (take n is)) + (3 + length i.places) = omega (arith, e) in h)
    ∙ ap (λ (k : ℕ). k + (3 + length i.places)) (sym r)

-- the line after those of an instance
pub line_next : (is : List Instance) (n : ℕ) (i : Instance) → slice_get is n ≡ Some i → instance_line is (n + 1) ≡ instance_line is n + (length i.places + 3)
line_next is n i at =
    let e : sum_by lines_of (take (suc n) is) ≡ sum_by lines_of (take n is) + (3 + length i.places) = sum_next is n i at in
    let f : sum_by lines_of (take (n + 1) is) ≡ sum_by lines_of (take (suc n) is) = (let one : n + 1 ≡ suc n = omega arith in ap (λ (k : ℕ). sum_by lines_of (take k is)) one) in
    omega (arith, e, f)

sum_mono : (is : List Instance) (n m : ℕ) → n ≤ m → sum_by lines_of (take n is) ≤ sum_by lines_of (take m is)
sum_mono is zero m le = zero-le
sum_mono [] (suc n) zero le = absurd (omega arith)
sum_mono [] (suc n) (suc m) le = zero-le
sum_mono (i ∷ is) (suc n) zero le = absurd (omega arith)
sum_mono (i ∷ is) (suc n) (suc m) le =
    let e : sum_by lines_of (take n is) ≤ sum_by lines_of (take m is) = sum_mono is n m (omega arith) in
    let l : sum_by lines_of (i ∷ take n is) ≡ lines_of i + sum_by lines_of (take n is) = sum_by-cons lines_of i (take n is) in
    let r : sum_by lines_of (i ∷ take m is) ≡ lines_of i + sum_by lines_of (take m is) = sum_by-cons lines_of i (take m is) in
    omega (arith, e, l, r)

pub line_mono : (is : List Instance) (n m : ℕ) → n ≤ m → instance_line is n ≤ instance_line is m
line_mono is n m le = let e = sum_mono is n m le in omega (arith, e)

pub line_above : (is : List Instance) (n : ℕ) → 3 ≤ instance_line is n
line_above is n = omega arith

-- an instance that comes later begins after the lines of this one
pub line_later : (is : List Instance) (n m : ℕ) (i : Instance) → slice_get is n ≡ Some i → n < m → instance_line is n + (length i.places + 3) ≤ instance_line is m
line_later is n m i at lt =
    let e = line_next is n i at in
    let h : instance_line is (n + 1) ≤ instance_line is m = line_mono is (n + 1) m (omega arith) in
    omega (arith, e, h)
