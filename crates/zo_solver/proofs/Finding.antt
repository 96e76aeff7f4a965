-- A literal among literals in order, by the place of its unknown.
use Rattle.std.proofs.Common.{◌≡◌, ℕ, zero, suc, ◌<◌, ◌≤◌, Bool, true, false, ◌||◌, List, [], ◌∷◌, length, get_or, subst, sym, refl, ap, ◌∙◌, arith}
use Rattle.std.proofs.lemmas.Bool.{ne_eqb}
use Rattle.zo_core.specs.Literals.{Literal, literal_eq}
use Rattle.zo_core.specs.Order.{Ascends}
use Rattle.zo_core.specs.Places.{AllBelow}
use Rattle.zo_core.specs.Resolvents.{has_literal}
use Rattle.zo_core.proofs.PlaceLemmas.{Ascends-above}

-- where the literal at i is of an unknown not below v, so are those behind it
pub above_from : (n v : ℕ) (c : List Literal) (i : ℕ) (x : Literal) → Ascends n c → get_or c i x ≡ x → v ≤ x.var → (k : ℕ) (d : Literal) → i ≤ k → k < length c → v ≤ (get_or c k d).var
above_from n v [] i x h e up k d le lt = absurd (omega arith)
above_from n v (m ∷ c) zero x h e up zero d le lt = let P : Literal → Type 0 = λ y. v ≤ y.var in subst P (sym e) up
above_from n v (m ∷ c) zero x h e up (suc k) d le lt =
    let more : m.var < (get_or c k d).var = Ascends-above m.var c k d h.1 (omega arith) in
    let first : v ≤ m.var = let P : Literal → Type 0 = λ y. v ≤ y.var in subst P (sym e) up in
    omega arith
above_from n v (m ∷ c) (suc i) x h e up zero d le lt = absurd (omega arith)
above_from n v (m ∷ c) (suc i) x h e up (suc k) d le lt = above_from m.var v c i x h.1 e up k d (omega arith) (omega arith)

other : (m l : Literal) → (m.var ≡ l.var → ⊥) → literal_eq m l ≡ false
other m l ne = rw (ne_eqb m.var l.var ne) refl

lacks : (low : ℕ) (l : Literal) (c : List Literal) → l.var ≤ low → Ascends low c → has_literal l c ≡ false
lacks low l [] le h = refl
lacks low l (m ∷ c) le h =
    let ne : (m.var ≡ l.var → ⊥) = λ e. let up : low < m.var = h.0 in omega arith in
    rw (other m l ne) (lacks m.var l c (let up : low < m.var = h.0 in omega arith) h.1)

or_false : (x : Bool) → (x || false) ≡ x
or_false true = refl
or_false false = refl

pub found : (n : ℕ) (l : Literal) (c : List Literal) (i : ℕ) (x : Literal) → Ascends n c → i < length c → AllBelow l.var i c → l.var ≤ x.var → get_or c i x ≡ x → has_literal l c ≡ literal_eq x l
found n l [] i x h lt below up e = absurd (omega arith)
found n l (m ∷ c) zero x h lt below up e =
    let up' : l.var ≤ m.var = let P : Literal → Type 0 = λ y. l.var ≤ y.var in subst P (sym e) up in
    ap (λ b. literal_eq m l || b) (lacks m.var l c up' h.1) ∙ or_false (literal_eq m l) ∙ ap (λ (y : Literal). literal_eq y l) e
found n l (m ∷ c) (suc i) x h lt below up e =
    let less : m.var < l.var = below 0 m (omega arith) in
    let ne : (m.var ≡ l.var → ⊥) = λ k. omega arith in
    rw (other m l ne) (found m.var l c i x h.1 (omega arith) (λ k d k_lt. below (suc k) d (omega arith)) up e)

pub not_found : (l : Literal) (c : List Literal) → AllBelow l.var (length c) c → has_literal l c ≡ false
not_found l [] below = refl
not_found l (m ∷ c) below =
    let less : m.var < l.var = below 0 m (omega arith) in
    let ne : (m.var ≡ l.var → ⊥) = λ k. omega arith in
    rw (other m l ne) (not_found l c (λ k d k_lt. below (suc k) d (omega arith)))
