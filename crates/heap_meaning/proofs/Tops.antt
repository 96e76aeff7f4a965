-- Frames in the order of the code, the running one last, and in that of contracts, the running one first.
use Rattle.std.proofs.Common.{◌≡◌, ℕ, suc, ◌-◌, ◌<◌, List, [], ◌∷◌, ◌++◌, length, get_or, set, drop, refl, sym, ap, ◌∙◌, arith}
use Rattle.std.proofs.lemmas.List.{reverse-append, length-reverse}
use Rattle.std.specs.Prelude.{reverse}

module _ {X : Type 0} where
  -- a list that is not empty has a last element
  split_last : (xs : List X) → 0 < length xs → (ys : List X) × (y : X) × (xs ≡ ys ++ y ∷ [])
  split_last [] lt = absurd (omega arith)
  split_last (x ∷ []) lt = ([], x, refl)
  split_last (x ∷ z ∷ xs) lt = let p = split_last (z ∷ xs) (omega arith) in (x ∷ p.0, p.1, ap (λ (t : List X). x ∷ t) p.2)

  set_last : (ys : List X) (y v : X) → set (ys ++ y ∷ []) (length ys) v ≡ ys ++ v ∷ []
  set_last [] y v = refl
  set_last (x ∷ ys) y v = ap (λ (t : List X). x ∷ t) (set_last ys y v)

  set_second : (ys : List X) (y z v : X) → set ((ys ++ y ∷ []) ++ z ∷ []) (length ys) v ≡ (ys ++ v ∷ []) ++ z ∷ []
  set_second [] y z v = refl
  set_second (x ∷ ys) y z v = ap (λ (t : List X). x ∷ t) (set_second ys y z v)

  length_more : (ys : List X) (y : X) → length (ys ++ y ∷ []) ≡ suc (length ys)
  length_more [] y = refl
  length_more (x ∷ ys) y = ap suc (length_more ys y)

  reverse_more : (ys : List X) (y : X) → reverse (ys ++ y ∷ []) ≡ y ∷ reverse ys
  reverse_more ys y = reverse-append ys (y ∷ [])

  at_last : (ys : List X) (y : X) → length (ys ++ y ∷ []) - 1 ≡ length ys
  at_last ys y = omega (arith, length_more ys y)

  set_top : (ys : List X) (y v : X) → reverse (set (ys ++ y ∷ []) (length (ys ++ y ∷ []) - 1) v) ≡ v ∷ drop 1 (reverse (ys ++ y ∷ []))
  set_top ys y v = rw (at_last ys y, set_last ys y v, reverse_more ys v, reverse_more ys y) refl

  set_below : (ys : List X) (y z v : X) → reverse (set ((ys ++ y ∷ []) ++ z ∷ []) (length (ys ++ y ∷ []) - 1) v) ≡ z ∷ v ∷ drop 1 (reverse (ys ++ y ∷ []))
  set_below ys y z v = rw (at_last ys y, set_second ys y z v, reverse_more (ys ++ v ∷ []) z, reverse_more ys v, reverse_more ys y) refl

  last_is : (ys : List X) (y d : X) → get_or (ys ++ y ∷ []) (length (ys ++ y ∷ []) - 1) d ≡ y
  last_is ys y d = rw (at_last ys y) (at ys)
    where
      at : (ys : List X) → get_or (ys ++ y ∷ []) (length ys) d ≡ y
      at [] = refl
      at (x ∷ ys) = at ys

  first_is : (ys : List X) (y d : X) → get_or (reverse (ys ++ y ∷ [])) 0 d ≡ y
  first_is ys y d = rw (reverse_more ys y) refl

  top_split : (ys : List X) (y x v d : X) (F : X → X) → x ≡ get_or (ys ++ y ∷ []) (length (ys ++ y ∷ []) - 1) x → v ≡ F x
      → reverse (set (ys ++ y ∷ []) (length (ys ++ y ∷ []) - 1) v) ≡ F (get_or (reverse (ys ++ y ∷ [])) 0 d) ∷ drop 1 (reverse (ys ++ y ∷ []))
  top_split ys y x v d F at by =
      let same : v ≡ F (get_or (reverse (ys ++ y ∷ [])) 0 d) = by ∙ ap F (at ∙ last_is ys y x ∙ sym (first_is ys y d)) in
      set_top ys y v ∙ ap (λ (z : X). z ∷ drop 1 (reverse (ys ++ y ∷ []))) same

  below_split : (ys : List X) (y z x v d : X) (F : X → X) → x ≡ get_or ((ys ++ y ∷ []) ++ z ∷ []) (length (ys ++ y ∷ []) - 1) x → v ≡ F x
      → reverse (set ((ys ++ y ∷ []) ++ z ∷ []) (length (ys ++ y ∷ []) - 1) v) ≡ z ∷ F (get_or (reverse (ys ++ y ∷ [])) 0 d) ∷ drop 1 (reverse (ys ++ y ∷ []))
  below_split ys y z x v d F at by =
      let here : x ≡ y = at ∙ rw (at_last ys y) (second ys) in
      let same : v ≡ F (get_or (reverse (ys ++ y ∷ [])) 0 d) = by ∙ ap F (here ∙ sym (first_is ys y d)) in
      set_below ys y z v ∙ ap (λ (w : X). z ∷ w ∷ drop 1 (reverse (ys ++ y ∷ []))) same
    where
      second : (ys : List X) → get_or ((ys ++ y ∷ []) ++ z ∷ []) (length ys) x ≡ y
      second [] = refl
      second (w ∷ ys) = second ys

  -- the last element has changed
  pub top_set : (xs fs : List X) (n : ℕ) (x v d : X) (F : X → X) → reverse xs ≡ fs → 0 < length fs → n ≡ length xs → x ≡ get_or xs (n - 1) x → v ≡ F x
      → reverse (set xs (n - 1) v) ≡ F (get_or fs 0 d) ∷ drop 1 fs
  top_set xs fs n x v d F view lt is at by =
      let p = split_last xs (rw (length-reverse xs) at (rw (← view) at lt)) in by_split p.0 p.1 xs fs n p.2 view is at
    where
      by_split : (ys : List X) (y : X) (xs fs : List X) (n : ℕ) → xs ≡ ys ++ y ∷ [] → reverse xs ≡ fs → n ≡ length xs → x ≡ get_or xs (n - 1) x → reverse (set xs (n - 1) v) ≡ F (get_or fs 0 d) ∷ drop 1 fs
      by_split ys y xs fs n e view is at = rw (← view, is, e) (top_split ys y x v d F (rw (is, e) at at) by)

  -- one was put at the end, and the one before it has changed
  pub below_set : (xs fs ps : List X) (n : ℕ) (z x v d : X) (F : X → X) → reverse xs ≡ fs → 0 < length fs → n ≡ length xs → ps ≡ xs ++ z ∷ [] → x ≡ get_or ps (n - 1) x → v ≡ F x
      → reverse (set ps (n - 1) v) ≡ z ∷ F (get_or fs 0 d) ∷ drop 1 fs
  below_set xs fs ps n z x v d F view lt is push at by =
      let p = split_last xs (rw (length-reverse xs) at (rw (← view) at lt)) in by_split p.0 p.1 xs fs ps n p.2 view is push at
    where
      by_split : (ys : List X) (y : X) (xs fs ps : List X) (n : ℕ) → xs ≡ ys ++ y ∷ [] → reverse xs ≡ fs → n ≡ length xs → ps ≡ xs ++ z ∷ [] → x ≡ get_or ps (n - 1) x → reverse (set ps (n - 1) v) ≡ z ∷ F (get_or fs 0 d) ∷ drop 1 fs
      by_split ys y xs fs ps n e view is push at = rw (← view, push, is, e) (below_split ys y z x v d F (rw (push, is, e) at at) by)
