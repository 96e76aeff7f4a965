-- A clause without one of its literals is its resolvent with the denial of that literal.
use Rattle.std.proofs.Common.{◌≡◌, ℕ, ◌+◌, ◌<◌, ◌≤◌, Bool, true, false, cond, List, [], ◌∷◌, ◌++◌, Option, Some, refl, sym, ap, ◌∙◌, arith}
use Rattle.std.proofs.lemmas.Bool.{le-ltb, ne_eqb}
use Rattle.std.proofs.lemmas.List.{append-nil, append_assoc}
use Rattle.std.specs.List.{Contains}
use Rattle.zo_core.specs.Literals.{Literal, opposite, literal_eq}
use Rattle.zo_core.specs.Equality.{literal_eq-itself}
use Rattle.zo_core.specs.Order.{Ascends, with_literal, with_more, gathered}
use Rattle.zo_core.specs.Resolvents.{without, IsResolvent}

-- each literal is of an unknown below v
abbrev pub Below : ℕ → List Literal → Type 0
Below v [] = Unit {0}
Below v (m ∷ c) = (m.var < v) × Below v c

below-push : (v : ℕ) (c : List Literal) (l : Literal) → Below v c → l.var < v → Below v (c ++ l ∷ [])
below-push v [] l h k = (k, tt)
below-push v (m ∷ c) l h k = (h.0, below-push v c l h.1 k)

below-later : (v w : ℕ) (c : List Literal) → v ≤ w → Below v c → Below w c
below-later v w [] le h = tt
below-later v w (m ∷ c) le h = let lt = h.0 in (omega (arith, lt), below-later v w c le h.1)

last_in : (l : Literal) (c : List Literal) → Below l.var c → with_literal l c ≡ Some (c ++ l ∷ [])
last_in l [] h = refl
last_in l (m ∷ c) h =
    let lt : m.var < l.var = h.0 in
    let ne : (l.var ≡ m.var → ⊥) = λ e. omega arith in
    rw (le-ltb l.var m.var (omega arith), ne_eqb l.var m.var ne, last_in l c h.1) refl

more_in : (n : ℕ) (c built : List Literal) → Ascends n c → Below (n + 1) built → with_more c (Some built) ≡ Some (built ++ c)
more_in n [] built h b = ap Some (sym (append-nil built))
more_in n (l ∷ c) built h b =
    let low : Below l.var built = below-later (n + 1) l.var built (let lt = h.0 in omega (arith, lt)) b in
    let here : l.var < l.var + 1 = omega arith in
    ap (λ (o : Option (List Literal)). with_more c o) (last_in l built low)
    ∙ more_in l.var c (built ++ l ∷ []) h.1 (below-push (l.var + 1) built l (below-later l.var (l.var + 1) built (omega arith) low) here)
    ∙ ap Some (append_assoc built (l ∷ []) c)

-- a clause in order is gathered as it is
pub gathered_clause : (c : List Literal) → Ascends 0 c → gathered c ≡ Some c
gathered_clause c h = more_in 0 c [] h tt

ascends-lower : (n k : ℕ) (c : List Literal) → k ≤ n → Ascends n c → Ascends k c
ascends-lower n k [] le h = tt
ascends-lower n k (m ∷ c) le h = let lt = h.0 in (omega (arith, lt), h.1)

by_test : (b : Bool) (n : ℕ) (xs ys : List Literal) → Ascends n xs → Ascends n ys → Ascends n (cond b xs ys)
by_test true n xs ys h k = h
by_test false n xs ys h k = k

pub ascends_without : (n : ℕ) (x : Literal) (c : List Literal) → Ascends n c → Ascends n (without x c)
ascends_without n x [] h = tt
ascends_without n x (l ∷ c) h =
    let rest = ascends_without l.var x c h.1 in
    let lt = h.0 in
    by_test (literal_eq l x) n (without x c) (l ∷ without x c) (ascends-lower l.var n (without x c) (omega (arith, lt)) rest) (h.0, rest)

without_itself : (x : Literal) → without x (x ∷ []) ≡ []
without_itself x = rw (literal_eq-itself x) refl

-- c without m is the resolvent of c, which holds m, and the clause of the opposite of m alone
pub resolvent_without : (c : List Literal) (m : Literal) → Ascends 0 c → Contains c m → IsResolvent c (opposite m ∷ []) (without m c)
resolvent_without c m h holds = (
  m,
  (
    holds,
    (0, omega arith, refl),
    ap (λ (ls : List Literal). gathered (without m c ++ ls)) (without_itself (opposite m))
        ∙ ap gathered (append-nil (without m c))
        ∙ gathered_clause (without m c) (ascends_without 0 m c h),
  ),
)
