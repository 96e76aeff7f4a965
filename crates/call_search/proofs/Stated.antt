-- Literals that say what values are: none with its opposite, and within a group's unknowns.
use Rattle.std.proofs.Common.{◌≡◌, ℕ, zero, suc, ◌+◌, ◌<◌, ◌≤◌, inl, inr, Bool, true, false, not, List, [], ◌∷◌, refl, sym, ap, ◌∙◌, arith, length, get_or}
use Rattle.std.specs.List.{Contains}
use Rattle.std.proofs.lemmas.List.Elements.{Contains-append_cases}
use Rattle.zo_core.specs.Literals.{Literal, opposite}
use Rattle.verdict_meaning.specs.declared.callee.Callee.{Callee}
use Rattle.verdict_meaning.specs.Systems.{System, count}
use Rattle.call_search.specs.Shapes.{IsThere, before_own, stated}
use Rattle.call_search.specs.Ledgers.{IsGiven}
use Rattle.call_search.specs.Answers.{given_for}
use Rattle.call_search.proofs.Faces.{own_within}
use Rattle.call_search.proofs.Carry.{StatedAt, stated_in}

-- one literal says one thing
unlike : (b : Bool) → b ≡ not b → ⊥
unlike true e = cc
unlike false e = cc

apart_in : (n : ℕ) (bs : List Bool) (l : Literal) → StatedAt n bs l → StatedAt n bs (opposite l) → ⊥
apart_in n bs l a b =
    let i : a.index ≡ b.index = let x = a.var in let y = b.var in omega arith in
    unlike l.sign (a.sign ∙ ap (λ k. get_or bs k false) i ∙ sym b.sign)

module _ (s : System) (phi : List Bool) (c : Callee) (face : List Bool) (there : IsThere s c) (phi_size : length phi ≡ s.fields) (face_size : length face ≡ s.parts c.proc) where
  apart : (l : Literal) → Contains (given_for s phi c face) l → Contains (given_for s phi c face) (opposite l) → ⊥
  apart l h k =
      elim (Contains-append_cases (stated 1 phi) (stated (suc (before_own s c)) face) l h) [
        | inl p ↦ elim (Contains-append_cases (stated 1 phi) (stated (suc (before_own s c)) face) (opposite l) k) [
          | inl q ↦ apart_in 1 phi l (stated_in 1 phi l p) (stated_in 1 phi (opposite l) q)
          | inr q ↦ low_high (stated_in 1 phi l p) (stated_in (suc (before_own s c)) face (opposite l) q)
        ]
        | inr p ↦ elim (Contains-append_cases (stated 1 phi) (stated (suc (before_own s c)) face) (opposite l) k) [
          | inl q ↦ high_low (stated_in (suc (before_own s c)) face l p) (stated_in 1 phi (opposite l) q)
          | inr q ↦ apart_in (suc (before_own s c)) face l (stated_in (suc (before_own s c)) face l p) (stated_in (suc (before_own s c)) face (opposite l) q)
        ]
      ]
    where
      low_high : StatedAt 1 phi l → StatedAt (suc (before_own s c)) face (opposite l) → ⊥
      low_high a b = let x = a.var in let y = b.var in let w = a.within in omega arith

      high_low : StatedAt (suc (before_own s c)) face l → StatedAt 1 phi (opposite l) → ⊥
      high_low a b = let x = a.var in let y = b.var in let w = b.within in omega arith

  within_by : (l : Literal) → Contains (given_for s phi c face) l → l.var ≤ count s c.group
  within_by l h = elim (Contains-append_cases (stated 1 phi) (stated (suc (before_own s c)) face) l h) [
    | inl p ↦ low (stated_in 1 phi l p)
    | inr p ↦ high (stated_in (suc (before_own s c)) face l p)
  ]
    where
      fits : before_own s c + s.parts c.proc ≤ count s c.group
      fits = own_within s c there

      low : StatedAt 1 phi l → l.var ≤ count s c.group
      low a = let x = a.var in let w = a.within in let f = fits in omega arith

      high : StatedAt (suc (before_own s c)) face l → l.var ≤ count s c.group
      high a = let x = a.var in let w = a.within in let f = fits in omega arith

  pub are_given : IsGiven s c.group (given_for s phi c face)
  are_given = record { within = λ k d lt. within_by (get_or (given_for s phi c face) k d) (k, lt, same_read (given_for s phi c face) k d (get_or (given_for s phi c face) k d) lt); apart = apart }
    where
      same_read : (ls : List Literal) (k : ℕ) (d e : Literal) → k < length ls → get_or ls k e ≡ get_or ls k d
      same_read ls k d e lt = at ls k lt
        where
          at : (ls : List Literal) (k : ℕ) → k < length ls → get_or ls k e ≡ get_or ls k d
          at [] k lt = absurd (omega arith)
          at (x ∷ ls) zero lt = refl
          at (x ∷ ls) (suc k) lt = at ls k (omega arith)
