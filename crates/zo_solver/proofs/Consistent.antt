-- Literals of unknowns that ascend: no two of them are opposites.
use Rattle.std.proofs.Common.{◌≡◌, Bool, true, false, not, List, get_or, sym, ap, ◌∙◌, inl, inr, arith}
use Rattle.std.proofs.lemmas.Bool.{cases_order}
use Rattle.zo_core.specs.Literals.{Literal, opposite}
use Rattle.zo_core.specs.Order.{Ascends}
use Rattle.zo_core.proofs.PlaceLemmas.{at_any}
use Rattle.zo_core.proofs.RenameLemmas.{ordered}
use Rattle.zo_solver.specs.Runs.{AreConsistent}

differ : (b : Bool) → b ≡ not b → ⊥
differ true e = cc
differ false e = cc

pub ascending_consistent : (c : List Literal) → Ascends 0 c → AreConsistent c
ascending_consistent c h l (i, i_in, e) (j, j_in, f) = elim (cases_order i j) [
  | inl same ↦
      let there : get_or c j (opposite l) ≡ get_or c i (opposite l) = ap (λ k. get_or c k (opposite l)) (sym same) in
      let here : opposite l ≡ l = sym f ∙ there ∙ at_any c i (opposite l) l i_in ∙ e in
      differ l.sign (sym (ap (λ (x : Literal). x.sign) here))
  | inr (inl lt) ↦
      let less = ordered 0 c i j l (opposite l) h lt j_in in
      let first : (get_or c i l).var ≡ l.var = ap (λ (x : Literal). x.var) e in
      let second : (get_or c j (opposite l)).var ≡ l.var = ap (λ (x : Literal). x.var) f in
      omega arith
  | inr (inr lt) ↦
      let less = ordered 0 c j i (opposite l) l h lt i_in in
      let first : (get_or c i l).var ≡ l.var = ap (λ (x : Literal). x.var) e in
      let second : (get_or c j (opposite l)).var ≡ l.var = ap (λ (x : Literal). x.var) f in
      omega arith
]
