-- The last slot that a name was given.
use Rattle.std.proofs.Common.{◌≡◌, ℕ, zero, suc, ◌<◌, inl, inr, List, [], ◌∷◌, ◌++◌, map, length, get_or, set, take, fold, Option, Some, None, nat_eq, if◌then◌else◌, refl, sym, ap, ◌∙◌, subst, arith, length-append}
use Rattle.std.proofs.Math.Seq.{get_or-append_seam, take-append_seam}
use Rattle.std.proofs.lemmas.List.{get_or-set_same, get_or-set_other, get_or_append_left, take-append-le, map-append, length-map}
use Rattle.std.proofs.lemmas.List.Sums.{fold-append}
use Rattle.std.proofs.lemmas.Bool.{eq-eqb}
use Rattle.std.proofs.lemmas.Bool.Decides.{eqb_tells}
use Rattle.c_types.specs.declared.meanings.Meaning.{Meaning}

abbrev pub latest : List (ℕ × ℕ) → ℕ → Option ℕ
latest gs n = fold (λ (o : Option ℕ) (g : ℕ × ℕ). if nat_eq g.0 n then Some g.1 else o) None gs

latest_push : (gs : List (ℕ × ℕ)) (m s n : ℕ) → latest (gs ++ (m, s) ∷ []) n ≡ (if nat_eq m n then Some s else latest gs n)
latest_push gs m s n = fold-append (λ (o : Option ℕ) (g : ℕ × ℕ). if nat_eq g.0 n then Some g.1 else o) None gs ((m, s) ∷ [])

answers : (row : List (Option ℕ)) (n s : ℕ) → get_or row n None ≡ Some s → n < length row
answers [] n s h = absurd (cc)
answers (o ∷ os) zero s h = omega arith
answers (o ∷ os) (suc n) s h = omega (arith, answers os n s h)

set_row : (row : List (Option ℕ)) (m n : ℕ) (o : Option ℕ) → m < length row → get_or (set row m o) n None ≡ (if nat_eq m n then o else get_or row n None)
set_row row m n o h =
    elim (eqb_tells m n) as (λ _. get_or (set row m o) n None ≡ (if nat_eq m n then o else get_or row n None)) [
      | inl p ↦ ap (λ k. get_or (set row m o) k None) (sym p.1) ∙ get_or-set_same row m o None h ∙ sym (ap (λ b. if b then o else get_or row n None) p.0)
      | inr p ↦ get_or-set_other row m n o None (λ e. p.1 (sym e)) ∙ sym (ap (λ b. if b then o else get_or row n None) p.0)
    ]

abbrev pub pair : Meaning → ℕ × ℕ
pair g = (g.name, g.slot)

-- a meaning that remembers what its name meant after these
abbrev Remembers : Meaning → List (ℕ × ℕ) → Type 0
Remembers g gs = g.before ≡ latest gs g.name

remembers_like : (g h : Meaning) (gs hs : List (ℕ × ℕ)) → g ≡ h → gs ≡ hs → Remembers g gs → Remembers h hs
remembers_like g h gs hs e f r = subst (λ x. Remembers x hs) e (subst (λ xs. Remembers g xs) f r)

-- the invariant of Meanings
abbrev pub Tells : List (Option ℕ) → List Meaning → Type 0
Tells row gs =
    ((n : ℕ) → get_or row n None ≡ latest (map pair gs) n)
    × ((k : ℕ) (d : Meaning) → k < length gs → Remembers (get_or gs k d) (take k (map pair gs)))

paired : (gs : List Meaning) (g : Meaning) → map pair (gs ++ g ∷ []) ≡ map pair gs ++ pair g ∷ []
paired gs g = map-append pair gs (g ∷ [])

front : (gs : List Meaning) (g : Meaning) (k : ℕ) → k < length gs → take k (map pair (gs ++ g ∷ [])) ≡ take k (map pair gs)
front gs g k h = ap (take k) (paired gs g) ∙ take-append-le k (map pair gs) (pair g ∷ []) (omega (arith, length-map gs pair))

whole_front : (gs : List Meaning) (g : Meaning) → take (length gs) (map pair (gs ++ g ∷ [])) ≡ map pair gs
whole_front gs g =
    ap (take (length gs)) (paired gs g)
    ∙ ap (λ n. take n (map pair gs ++ pair g ∷ [])) (sym (length-map gs pair))
    ∙ take-append_seam (map pair gs) (pair g ∷ [])

pub tells_pushed : (old row : List (Option ℕ)) (gs : List Meaning) (g : Meaning) → Tells old gs → ((n : ℕ) → get_or row n None ≡ get_or old n None)
    → g.name < length row → g.before ≡ get_or row g.name None → Tells (set row g.name (Some g.slot)) (gs ++ g ∷ [])
tells_pushed old row gs g t same h r =
    let now : (n : ℕ) → get_or row n None ≡ latest (map pair gs) n = λ n. same n ∙ t.0 n in (
      (λ n.
          set_row row g.name n (Some g.slot) h
          ∙ ap (λ o. if nat_eq g.name n then Some g.slot else o) (now n)
          ∙ sym (ap (λ xs. latest xs n) (paired gs g) ∙ latest_push (map pair gs) g.name g.slot n)),
      (λ k d below.
          elim (eqb_tells k (length gs)) as (λ _. Remembers (get_or (gs ++ g ∷ []) k d) (take k (map pair (gs ++ g ∷ [])))) [
            | inl p ↦
                subst (λ n. Remembers (get_or (gs ++ g ∷ []) n d) (take n (map pair (gs ++ g ∷ [])))) (sym p.1)
                (remembers_like g (get_or (gs ++ g ∷ []) (length gs) d) (map pair gs) (take (length gs) (map pair (gs ++ g ∷ [])))
                (sym (get_or-append_seam gs g [] d)) (sym (whole_front gs g)) (r ∙ now g.name))
            | inr p ↦
                let less : k < length gs = omega (arith, p.1, below, length-append gs (g ∷ [])) in
                remembers_like (get_or gs k d) (get_or (gs ++ g ∷ []) k d) (take k (map pair gs)) (take k (map pair (gs ++ g ∷ [])))
                (sym (get_or_append_left gs (g ∷ []) d k less)) (sym (front gs g k less)) (t.1 k d less)
          ]),
    )

pub known_name : (row : List (Option ℕ)) (gs : List Meaning) (g : Meaning) → Tells row (gs ++ g ∷ []) → g.name < length row
known_name row gs g t =
    answers row g.name g.slot
    (t.0 g.name
    ∙ ap (λ xs. latest xs g.name) (paired gs g)
    ∙ latest_push (map pair gs) g.name g.slot g.name
    ∙ ap (λ b. if b then Some g.slot else latest (map pair gs) g.name) (eq-eqb g.name g.name refl))

pub tells_popped : (row : List (Option ℕ)) (gs : List Meaning) (g : Meaning) → Tells row (gs ++ g ∷ []) → Tells (set row g.name g.before) gs
tells_popped row gs g t =
    let last : Remembers g (map pair gs) =
    remembers_like (get_or (gs ++ g ∷ []) (length gs) g) g (take (length gs) (map pair (gs ++ g ∷ []))) (map pair gs)
    (get_or-append_seam gs g [] g) (whole_front gs g) (t.1 (length gs) g (omega (arith, length-append gs (g ∷ [])))) in (
      (λ n.
          set_row row g.name n g.before (known_name row gs g t)
          ∙ elim (eqb_tells g.name n) as (λ _. (if nat_eq g.name n then g.before else get_or row n None) ≡ latest (map pair gs) n) [
            | inl p ↦ ap (λ b. if b then g.before else get_or row n None) p.0 ∙ last ∙ ap (latest (map pair gs)) p.1
            | inr p ↦
                ap (λ b. if b then g.before else get_or row n None) p.0
                ∙ t.0 n ∙ ap (λ xs. latest xs n) (paired gs g) ∙ latest_push (map pair gs) g.name g.slot n
                ∙ ap (λ b. if b then Some g.slot else latest (map pair gs) n) p.0
          ]),
      (λ k d less.
          remembers_like (get_or (gs ++ g ∷ []) k d) (get_or gs k d) (take k (map pair (gs ++ g ∷ []))) (take k (map pair gs))
          (get_or_append_left gs (g ∷ []) d k less) (front gs g k less) (t.1 k d (omega (arith, less, length-append gs (g ∷ []))))),
    )
