-- What the order of what is asked for does not tell apart is the same.
use Rattle.std.proofs.Common.{◌≡◌, ℕ, Bool, true, false, List, [], ◌∷◌, refl, sym, ap, ◌∙◌}
use Rattle.std.proofs.lemmas.Bool.{eqb-true}
use Rattle.std.specs.declared.cmp.Ordering.{Ordering}
use Rattle.std.specs.declared.cmp.Ordering.TheVariants.{Less, Equal, Greater}
use Rattle.std.specs.Ordering.{nat_cmp, bool_cmp, ordering_then, is_eq, eq_by_cmp}
use Rattle.std.specs.Cmp.{unsigned_tied}
use Rattle.std.specs.Cmp.Lexicographic.{slice_cmp}
use Rattle.plain_answers.specs.declared.wants.Want.{Want}
use Rattle.plain_answers.specs.Orders.{face_order, want_order}

both_tied : (a b : Ordering) → is_eq (ordering_then a b) ≡ true → (is_eq a ≡ true) × (is_eq b ≡ true)
both_tied Less b e = cc
both_tied Equal b e = (refl, e)
both_tied Greater b e = cc

bits_same : (x y : Bool) → is_eq (bool_cmp x y) ≡ true → x ≡ y
bits_same true true e = refl
bits_same true false e = cc
bits_same false true e = cc
bits_same false false e = refl

faces_same : (xs ys : List Bool) → is_eq (slice_cmp bool_cmp xs ys) ≡ true → xs ≡ ys
faces_same [] [] e = refl
faces_same [] (y ∷ ys) e = cc
faces_same (x ∷ xs) [] e = cc
faces_same (x ∷ xs) (y ∷ ys) e =
    let parts = both_tied (bool_cmp x y) (slice_cmp bool_cmp xs ys) e in
    ap (λ z. z ∷ xs) (bits_same x y parts.0) ∙ ap (λ l. y ∷ l) (faces_same xs ys parts.1)

abbrev pub want_with : ℕ → List Bool → Want
want_with k face = record { proc = k; face = face }

pub want_same : (p q : Want) → eq_by_cmp want_order p q ≡ true → p ≡ q
want_same p q e =
    let parts = both_tied (nat_cmp p.proc q.proc) (face_order p.face q.face) e in
    let procs : p.proc ≡ q.proc = eqb-true p.proc q.proc (sym (unsigned_tied p.proc q.proc) ∙ parts.0) in
    ap (λ k. want_with k p.face) procs ∙ ap (λ f. want_with q.proc f) (faces_same p.face q.face parts.1)
