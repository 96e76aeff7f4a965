-- Clauses and values, one after another.
use Rattle.std.proofs.Common.{◌≡◌, ℕ, zero, suc, ◌+◌, ◌<◌, ◌≤◌, inl, inr, Bool, false, List, [], ◌∷◌, ◌++◌, length, take, get_or, Some, slice_get, refl, sym, ap, subst, ◌∙◌, arith}
use Rattle.std.specs.List.{All}
use Rattle.std.proofs.lemmas.Bool.{cases_eq}
use Rattle.std.proofs.lemmas.List.{append_assoc, append-nil, take_all, length_push, get_or_push, get_or_append_left}
use Rattle.std.proofs.lemmas.Option.{slice_get-get_or}
use Rattle.zo_core.specs.Literals.{Literal}
use Rattle.zo_core.specs.Order.{Ascends}
use Rattle.zo_solver.specs.Clauses.{EachLiteral, AreWithin}
use Rattle.zo_solver.specs.Trail.{IsClauseOver}
use Rattle.verdict_meaning.specs.Certificates.{bit_at}
use Rattle.group_solver.specs.Values.{AreValues}
use Rattle.group_solver.proofs.Lists.{take_step, each_all, all_each}

pub read_at : {X : Type 0} (xs : List X) (k : ℕ) (x : X) → k < length xs → x ≡ get_or xs k x → slice_get xs k ≡ Some x
read_at xs k x lt e = slice_get-get_or xs k x lt ∙ ap Some (sym e)

each_push : (P : Literal → Type 0) (c : List Literal) (l : Literal) → EachLiteral P c → P l → EachLiteral P (c ++ l ∷ [])
each_push P [] l h p = (p, tt)
each_push P (m ∷ c) l h p = (h.0, each_push P c l h.1 p)

-- the first literals ascend up to an unknown, and are of unknowns up to a number
pub record AreUpTo (vars last : ℕ) (c : List Literal) : Type 0 where
  pub ascend : (rest : List Literal) → Ascends last rest → Ascends 0 (c ++ rest)
  pub within : AreWithin vars c

pub upto_none : (vars : ℕ) → AreUpTo vars 0 []
upto_none vars = record { ascend = λ rest h. h; within = tt }

pub upto_next : (vars last k : ℕ) (lits : List Literal) (l : Literal) → slice_get lits k ≡ Some l → last < l.var → l.var ≤ vars → AreUpTo vars last (take k lits) → AreUpTo vars l.var (take (k + 1) lits)
upto_next vars last k lits l at low high h =
    let is = take_step lits k l at in
    subst (AreUpTo vars l.var) (sym is) (record {
      ascend = λ rest up. subst (Ascends 0) (sym (append_assoc (take k lits) (l ∷ []) rest)) (h.ascend (l ∷ rest) (low, up));
      within = each_push (λ m. m.var ≤ vars) (take k lits) l h.within high;
    })

pub upto_all : (vars last k : ℕ) (lits : List Literal) → length lits ≤ k → AreUpTo vars last (take k lits) → IsClauseOver vars lits
upto_all vars last k lits le h =
    let is = take_all k lits le in
    (subst (Ascends 0) (append-nil (take k lits) ∙ is) (h.ascend [] tt), subst (AreWithin vars) is h.within)

pub all_next : (P : Literal → Type 0) (xs : List Literal) (k : ℕ) (x : Literal) → slice_get xs k ≡ Some x → All P (take k xs) → P x → All P (take (k + 1) xs)
all_next P xs k x at h p = subst (All P) (sym (take_step xs k x at)) (each_all P (take k xs ++ x ∷ []) (each_push P (take k xs) x (all_each P (take k xs) h) p))

-- one value more
pub values_next : (t : ℕ → Bool) (n : ℕ) (bits : List Bool) (b : Bool) → b ≡ t (suc n) → AreValues t n bits → AreValues t (suc n) (bits ++ b ∷ [])
values_next t n bits b is h = record {
  size = (let l = length_push bits b in let s = h.size in omega arith);
  each = each;
}
  where
    each : (v : ℕ) → 0 < v → v ≤ suc n → bit_at (bits ++ b ∷ []) v ≡ t v
    each zero some le = absurd (omega arith)
    each (suc k) some le = elim (cases_eq k n) [
      | inl e ↦ get_or_push bits b false k (h.size ∙ sym e) ∙ is ∙ ap (λ (i : ℕ). t (suc i)) (sym e)
      | inr ne ↦ get_or_append_left bits (b ∷ []) false k (let s = h.size in omega arith) ∙ h.each (suc k) some (omega arith)
    ]

pub values_none : (t : ℕ → Bool) → AreValues t 0 []
values_none t = record { size = refl; each = λ v some le. absurd (omega arith) }
