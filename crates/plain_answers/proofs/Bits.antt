-- For each unknown whether its positive literal is there.
use Rattle.std.proofs.Common.{◌≡◌, ◌≢◌, ℕ, zero, suc, ◌-◌, ◌<◌, ◌≤◌, Bool, true, false, List, [], ◌∷◌, ◌++◌, inl, inr, refl, sym, ap, ◌∙◌, subst, arith, length, get_or}
use Rattle.std.specs.Prelude.{◌↔◌, slice_set, replicate}
use Rattle.std.specs.List.{Contains}
use Rattle.std.proofs.lemmas.Bool.{cases_eq}
use Rattle.std.proofs.lemmas.List.{get_or-set_same, get_or-set_other, length-set}
use Rattle.std.proofs.lemmas.List.Elements.{Contains-push_cases, Contains-push, Contains-append_left}
use Rattle.zo_core.specs.Literals.{Literal, yes}
use Rattle.verdict_meaning.specs.Certificates.{bit_at}
use Rattle.plain_answers.proofs.Lists.{none_contained}

-- the bits of the first n unknowns tell which positive literals are there
pub record AreBitsOf (n : ℕ) (lits : List Literal) (bits : List Bool) : Type 0 where
  pub size : length bits ≡ n
  pub each : (v : ℕ) → 0 < v → v ≤ n → (bit_at bits v ≡ true) ↔ Contains lits (yes v)

blank_bit : (n v : ℕ) → bit_at (replicate n false) v ≡ true → ⊥
blank_bit n zero e = cc
blank_bit zero (suc v) e = cc
blank_bit (suc n) (suc zero) e = cc
blank_bit (suc n) (suc (suc v)) e = blank_bit n (suc v) e

length-blank : (n : ℕ) → length (replicate n false) ≡ n
length-blank zero = refl
length-blank (suc n) = ap suc (length-blank n)

pub bits_none : (n : ℕ) (bits : List Bool) → bits ≡ replicate n false → AreBitsOf n [] bits
bits_none n bits e = record {
  size = ap length e ∙ length-blank n;
  each = λ v some most. (
    (λ h. absurd (blank_bit n v (ap (λ (bs : List Bool). bit_at bs v) (sym e) ∙ h))),
    (λ h. absurd (none_contained [] (yes v) refl h)),
  );
}

-- a literal that is negative says nothing of the positive ones
pub bits_negative : (n : ℕ) (lits : List Literal) (l : Literal) (bits : List Bool) → l.sign ≡ false → AreBitsOf n lits bits → AreBitsOf n (lits ++ l ∷ []) bits
bits_negative n lits l bits sign h = record {
  size = h.size;
  each = λ v some most. (
    (λ e. Contains-append_left lits (l ∷ []) (yes v) ((h.each v some most).0 e)),
    (λ there. elim (Contains-push_cases lits l (yes v) there) [
      | inl before ↦ (h.each v some most).1 before
      | inr is ↦ absurd (never v (ap (λ (m : Literal). m.sign) is))
    ]),
  );
}
  where
    never : (v : ℕ) → l.sign ≡ true → ⊥
    never v e = let f : false ≡ true = sym sign ∙ e in cc

bit_is : (bits : List Bool) (v : ℕ) → 0 < v → bit_at bits v ≡ get_or bits (v - 1) false
bit_is bits zero lt = absurd (omega arith)
bit_is bits (suc v) lt = ap (λ k. get_or bits k false) (omega arith)

-- a positive one sets its bit
pub bits_positive : (n at : ℕ) (lits : List Literal) (l : Literal) (bits new : List Bool) → l.sign ≡ true → 0 < l.var → at ≡ l.var - 1 → new ≡ slice_set bits at true → AreBitsOf n lits bits → AreBitsOf n (lits ++ l ∷ []) new
bits_positive n at lits l bits new sign low ae ne h = record {
  size = ap length ne ∙ length-set bits at true ∙ h.size;
  each = λ v some most. elim (cases_eq v l.var) [
    | inl same ↦ (
      (λ e. here v same),
      (λ there. there_bit v some same most),
    )
    | inr other ↦ (
      (λ e. Contains-append_left lits (l ∷ []) (yes v) ((h.each v some most).0 (sym (kept v some other) ∙ e))),
      (λ there. kept v some other ∙ elim (Contains-push_cases lits l (yes v) there) [
        | inl before ↦ (h.each v some most).1 before
        | inr is ↦ absurd (other (sym (ap (λ (m : Literal). m.var) is)))
      ]),
    )
  ];
}
  where
    here : (v : ℕ) → v ≡ l.var → Contains (lits ++ l ∷ []) (yes v)
    here v same =
        let is : l ≡ yes v = ap (λ k. let m : Literal = record { var = k; sign = l.sign } in m) (sym same) ∙ ap (λ b. let m : Literal = record { var = v; sign = b } in m) sign in
        subst (λ (m : Literal). Contains (lits ++ l ∷ []) m) is (Contains-push lits l)

    there_bit : (v : ℕ) → 0 < v → v ≡ l.var → v ≤ n → bit_at new v ≡ true
    there_bit v some same most =
        let i : v - 1 ≡ at = omega arith in
        let size : length bits ≡ n = h.size in
        bit_is new v some ∙ ap (λ k. get_or new k false) i ∙ ap (λ (bs : List Bool). get_or bs at false) ne ∙ get_or-set_same bits at true false (omega arith)

    kept : (v : ℕ) → 0 < v → (v ≡ l.var → ⊥) → bit_at new v ≡ bit_at bits v
    kept v some other =
        let apart : v - 1 ≢ at = λ e. other (omega arith) in
        bit_is new v some ∙ ap (λ (bs : List Bool). get_or bs (v - 1) false) ne ∙ get_or-set_other bits at (v - 1) true false apart ∙ sym (bit_is bits v some)

pub bits_next : (n : ℕ) (lits : List Literal) (l : Literal) (bits new : List Bool) → 0 < l.var → (l.sign ≡ true → new ≡ slice_set bits (l.var - 1) true) → (l.sign ≡ false → new ≡ bits) → AreBitsOf n lits bits → AreBitsOf n (lits ++ l ∷ []) new
bits_next n lits l bits new low positive negative h = pick l.sign refl
  where
    pick : (b : Bool) → l.sign ≡ b → AreBitsOf n (lits ++ l ∷ []) new
    pick true e = bits_positive n (l.var - 1) lits l bits new e low refl (positive e) h
    pick false e = subst (λ (bs : List Bool). AreBitsOf n (lits ++ l ∷ []) bs) (sym (negative e)) (bits_negative n lits l bits e h)
