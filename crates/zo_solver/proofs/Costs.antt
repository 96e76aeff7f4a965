-- What lines cost at least.
use Rattle.std.proofs.Common.{◌≡◌, ℕ, zero, suc, ◌+◌, ◌*◌, ◌<◌, ◌≤◌, List, [], ◌∷◌, ◌++◌, length, Some, refl, arith}
use Rattle.std.specs.Prelude.{slice_get}
use Rattle.zo_core.specs.Literals.{Literal}
use Rattle.zo_solver.specs.Clauses.{cost}
use Rattle.zo_solver.specs.Stores.{Shelf}
use Rattle.zo_solver.specs.Derived.{AreApart, IsNew}
use Rattle.std.proofs.lemmas.List.{length-append}
use Rattle.zo_solver.proofs.Storing.{cost-push}
use Rattle.zo_solver.proofs.Bucketing.{apart-push}

-- clauses that all have a literal
twice : (cs : List (List Literal)) → ((k : ℕ) (c : List Literal) → slice_get cs k ≡ Some c → 0 < length c) → 2 * length cs ≤ cost cs
twice [] h = omega arith
twice (c ∷ cs) h =
    let first : 0 < length c = h 0 c refl in
    let rest : 2 * length cs ≤ cost cs = twice cs (λ k d e. h (suc k) d e) in
    omega arith

apart-rest : (c : List Literal) (cs : List (List Literal)) → AreApart (c ∷ cs) → AreApart cs
apart-rest c cs h zero n d e f = cc
apart-rest c cs h (suc m) zero d e f = cc
apart-rest c cs h (suc m) (suc n) d e f = let same : suc (suc m) ≡ suc (suc n) = h (suc (suc m)) (suc (suc n)) d e f in omega arith

has_some : (c : List Literal) → (c ≡ [] → ⊥) → 0 < length c
has_some [] h = absurd (h refl)
has_some (l ∷ c) h = omega arith

-- of different clauses, all but one cost two words at least
pub few_lines : (cs : List (List Literal)) → AreApart cs → 2 * length cs ≤ cost cs + 1
few_lines [] h = omega arith
few_lines ([] ∷ cs) h =
    let rest : 2 * length cs ≤ cost cs = twice cs (λ k c e. has_some c (λ empty.
    let there : slice_get cs k ≡ Some [] = rw empty at e in
    let same : 1 ≡ suc (suc k) = h 1 (suc (suc k)) [] refl there in
    omega arith)) in
    omega arith
few_lines ((l ∷ c) ∷ cs) h = let rest : 2 * length cs ≤ cost cs + 1 = few_lines cs (apart-rest (l ∷ c) cs h) in omega arith

-- so with a new line that is paid there are few
pub few_more : (old new : Shelf) (lits : List Literal) → AreApart old.clauses → IsNew old.clauses lits → new.clauses ≡ old.clauses ++ lits ∷ [] → new.words + (length lits + 1) ≡ old.words
    → 2 * (length old.clauses + 1) ≤ cost old.clauses + old.words + 1
few_more old new lits apart fresh put paid =
    let all = few_lines (old.clauses ++ lits ∷ []) (apart-push old.clauses lits apart fresh) in
    let count = length-append old.clauses (lits ∷ []) in
    let costs = cost-push old.clauses lits in
    omega arith
