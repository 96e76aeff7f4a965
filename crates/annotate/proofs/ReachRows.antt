-- What steps lead to.
use Rattle.std.proofs.Common.{◌≡◌, ℕ, zero, suc, ◌+◌, ◌<◌, List, [], ◌∷◌, ◌++◌, length, get_or, refl, sym, subst, arith}
use Rattle.std.proofs.lemmas.List.Elements.{Contains-get_or, All-from_get_or}
use Rattle.std.specs.List.{Contains, All}
use Rattle.annotate.specs.Reach.{Steps, StepsAlong, Reaches, AreMutual}

pub all_from_contains : (P : ℕ → Type 0) (xs : List ℕ) → ((x : ℕ) → Contains xs x → P x) → All P xs
all_from_contains P xs h = All-from_get_or P xs 0 (λ i lt. h (get_or xs i 0) (Contains-get_or xs i 0 lt))

-- what stands where a number does stand, whatever is read past the end
pub any_default : (xs : List ℕ) (k c d : ℕ) → k < length xs → get_or xs k c ≡ get_or xs k d
any_default [] k c d lt = absurd (omega (arith, lt))
any_default (x ∷ xs) zero c d lt = refl
any_default (x ∷ xs) (suc k) c d lt = any_default xs k c d (omega (arith, lt))

along_more : (g : List (List ℕ)) (p : ℕ) (rs : List ℕ) (q r : ℕ) → StepsAlong g p rs q → Steps g q r → StepsAlong g p (rs ++ r ∷ []) r
along_more g p [] q r h c = (subst (λ k. Steps g k r) (sym h) c, refl)
along_more g p (s ∷ rs) q r h c = (h.0, along_more g s rs q r h.1 c)

pub reaches_itself : (g : List (List ℕ)) (p : ℕ) → Reaches g p p
reaches_itself g p = ([], refl)

pub reaches_more : (g : List (List ℕ)) (p q r : ℕ) → Reaches g p q → Steps g q r → Reaches g p r
reaches_more g p q r h c = (h.0 ++ r ∷ [], along_more g p h.0 q r h.1 c)

pub step_reaches : (g : List (List ℕ)) (p q r : ℕ) → Steps g p q → Reaches g q r → Reaches g p r
step_reaches g p q r h c = (q ∷ c.0, (h, c.1))

-- what holds of p and passes along steps holds of all that p reaches
pub along : (g : List (List ℕ)) (P : ℕ → Type 0) → ((q r : ℕ) → P q → Steps g q r → P r) → (p : ℕ) (rs : List ℕ) (q : ℕ) → StepsAlong g p rs q → P p → P q
along g P step p [] q h is = subst P h is
along g P step p (r ∷ rs) q h is = along g P step r rs q h.1 (step p r is h.0)

-- what holds of q and passes against steps holds of all that reaches q
pub against : (g : List (List ℕ)) (P : ℕ → Type 0) → ((q r : ℕ) → P r → Steps g q r → P q) → (p : ℕ) (rs : List ℕ) (q : ℕ) → StepsAlong g p rs q → P q → P p
against g P step p [] q h is = subst P (sym h) is
against g P step p (r ∷ rs) q h is = step p r (against g P step r rs q h.1 is) h.0

pub reaches_on : (g : List (List ℕ)) (p q r : ℕ) → Reaches g p q → Reaches g q r → Reaches g p r
reaches_on g p q r h c = along g (Reaches g p) (λ s t. reaches_more g p s t) q c.0 r c.1 h

pub mutual_itself : (g : List (List ℕ)) (p : ℕ) → AreMutual g p p
mutual_itself g p = (reaches_itself g p, reaches_itself g p)

pub mutual_back : (g : List (List ℕ)) (p q : ℕ) → AreMutual g p q → AreMutual g q p
mutual_back g p q h = (h.1, h.0)

pub mutual_on : (g : List (List ℕ)) (p q r : ℕ) → AreMutual g p q → AreMutual g q r → AreMutual g p r
mutual_on g p q r h c = (reaches_on g p q r h.0 c.0, reaches_on g r q p c.1 h.1)
