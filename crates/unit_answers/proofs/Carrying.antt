-- What sites carry.
use Rattle.std.proofs.Common.{◌≡◌, ℕ, ◌+◌, ◌*◌, ◌-◌, ◌<◌, ◌≤◌, ◌⊎◌, inl, inr, Bool, true, false, cond, ◌&&◌, List, length, map, get_or, Some, None, slice_get, refl, sym, ap, subst, ◌∙◌, arith}
use Rattle.std.specs.Prelude.{nat_le, nat_lt}
use Rattle.std.proofs.lemmas.Bool.{cases_eq, cases_lt, leb-true, ltb-true, and_parts}
use Rattle.std.proofs.lemmas.List.{length-map, get_or-map}
use Rattle.std.proofs.lemmas.List.Kept.{AllPairs-from_increasing}
use Rattle.std.proofs.lemmas.Option.{slice_get_within, get_or_from_slice_get}
use Rattle.std.specs.List.{Contains}
use Rattle.std.specs.List.Sorted.{IsStrictlyIncreasing}
use Rattle.zo_core.specs.Literals.{Literal}
use Rattle.unit_answers.specs.declared.findings.Reason.TheVariants as why
use Rattle.unit_answers.specs.declared.layouts.Call.{Call}
use Rattle.unit_answers.specs.Sets.{rank}
use Rattle.unit_answers.specs.Layouts.{carried_var, StandsAt}
use Rattle.unit_answers.specs.Trails.{Trail, known, Adds}
use Rattle.unit_answers.specs.Settled.{Takes, TakesAll}
use Rattle.unit_answers.proofs.Places.{same_some, at_contains, contains_at}
use Rattle.unit_answers.proofs.Forcing.{grows_none, grows_then, grows_kept, adds_grows, added_there, reasons_adds}

choose : (a b : Bool) (x y w : ℕ) → cond a (Some x) (cond b (Some y) None) ≡ Some w → ((a ≡ true) × (x ≡ w)) ⊎ ((b ≡ true) × (y ≡ w))
choose true b x y w e = inl (refl, same_some x w e)
choose false true x y w e = inr (refl, same_some y w e)
choose false false x y w e = cc

-- a field's unknown for itself, or one of the interface for that in its place
pub record OfInterface (c : Call) (v w : ℕ) : Type 0 where
  pub first : c.there.first ≤ v
  pub last : v - c.there.first < c.there.count
  pub is : c.here.first + (v - c.there.first) ≡ w

pub carried_cases : (fields : ℕ) (c : Call) (v w : ℕ) → carried_var fields c v ≡ Some w → ((v ≤ fields) × (v ≡ w)) ⊎ OfInterface c v w
carried_cases fields c v w e =
    elim (choose (nat_le v fields) (nat_le c.there.first v && nat_lt (v - c.there.first) c.there.count) v (c.here.first + (v - c.there.first)) w e) [
      | inl h ↦ inl (leb-true v fields h.0, h.1)
      | inr h ↦
          let both = and_parts (nat_le c.there.first v) (nat_lt (v - c.there.first) c.there.count) h.0 in
          inr (record { first = leb-true c.there.first v both.0; last = ltb-true (v - c.there.first) c.there.count both.1; is = h.1 })
    ]

-- what stands at a site is one of the fields' unknowns or of the site's
pub within : (fields : ℕ) (c : Call) (v w n : ℕ) → carried_var fields c v ≡ Some w → fields ≤ n → c.there.count ≡ c.here.count → c.here.first + c.here.count ≤ n + 1 → w ≤ n
within fields c v w n e f size last = elim (carried_cases fields c v w e) [
  | inl h ↦ (let low = h.0 in let is = h.1 in omega arith)
  | inr h ↦ (let a = h.first in let b = h.last in let is = h.is in omega arith)
]

-- one that is no field's and beyond the interface has none
pub beyond : (fields : ℕ) (c : Call) (v w outer : ℕ) → fields ≤ outer → c.there.first + c.there.count ≤ outer + 1 → outer < v → carried_var fields c v ≡ Some w → ⊥
beyond fields c v w outer f o lt e = elim (carried_cases fields c v w e) [
  | inl h ↦ (let low = h.0 in omega arith)
  | inr h ↦ (let a = h.first in let b = h.last in omega arith)
]

var_rank : (v : ℕ) (s : Bool) (w : ℕ) (t : Bool) → 2 * v + cond s 0 1 < 2 * w + cond t 0 1 → v ≤ w
var_rank v true w true h = omega arith
var_rank v true w false h = omega arith
var_rank v false w true h = omega arith
var_rank v false w false h = omega arith

-- of literals in order, the unknowns do not fall
pub vars_ascend : (ls : List Literal) → IsStrictlyIncreasing (map rank ls) → (j k : ℕ) (l m : Literal) → slice_get ls j ≡ Some l → slice_get ls k ≡ Some m → j ≤ k → l.var ≤ m.var
vars_ascend ls up j k l m at_j at_k le = elim (cases_eq j k) [
  | inl e ↦ let one : l ≡ m = same_some l m (sym at_j ∙ ap (slice_get ls) e ∙ at_k) in let vars : l.var ≡ m.var = ap (λ (x : Literal). x.var) one in omega arith
  | inr ne ↦
      let in_j = slice_get_within ls j l at_j in
      let in_k = slice_get_within ls k m at_k in
      let many : length (map rank ls) ≡ length ls = length-map ls rank in
      let pairs = AllPairs-from_increasing (map rank ls) up j k 0 (omega arith) (omega arith) in
      let rank_j : get_or (map rank ls) j 0 ≡ rank l = get_or-map rank ls j l 0 in_j ∙ ap rank (get_or_from_slice_get ls j l l at_j) in
      let rank_k : get_or (map rank ls) k 0 ≡ rank m = get_or-map rank ls k m 0 in_k ∙ ap rank (get_or_from_slice_get ls k m m at_k) in
      var_rank l.var l.sign m.var m.sign (subst (λ (n : ℕ). n < rank m) rank_j (subst (λ (n : ℕ). get_or (map rank ls) j 0 < n) rank_k pairs))
]

module _ (fields site : ℕ) (c : Call) (lower : List Literal) where
  pub takes_none : (t : Trail) → Takes fields site c lower 0 t t
  takes_none t = record { grows = grows_none t; keeps = λ s g rows sets from all h. h; holds = λ k m l lt. absurd (omega arith) }

  -- something stands there, and was added
  pub takes_more : (n : ℕ) (m l : Literal) (old a b : Trail) (added : Bool) → slice_get lower n ≡ Some m → StandsAt fields c m l → Adds l (why.Site site m) a b added
      → Takes fields site c lower n old a → Takes fields site c lower (n + 1) old b
  takes_more n m l old a b added at stands adds h = record {
    grows = grows_then old a b h.grows (adds_grows l (why.Site site m) a b added adds);
    keeps = λ s g rows sets from all k.
        reasons_adds s g rows sets from l (why.Site site m) a b added adds (all m l (contains_at lower n m at) stands) (h.keeps s g rows sets from all k);
    holds = λ k x y lt at_k other. elim (cases_eq k n) [
      | inl e ↦
          let one : x ≡ m = same_some x m (sym at_k ∙ ap (slice_get lower) e ∙ at) in
          let var : Some y.var ≡ Some l.var = sym other.var ∙ ap (λ (z : Literal). carried_var fields c z.var) one ∙ stands.var in
          let sign : y.sign ≡ l.sign = other.sign ∙ ap (λ (z : Literal). z.sign) one ∙ sym stands.sign in
          let same : y ≡ l = literal_is y l (same_some y.var l.var var) sign in
          subst (λ (z : Literal). Contains (known b) z) (sym same) (added_there l (why.Site site m) a b added adds)
      | inr ne ↦ grows_kept a b (adds_grows l (why.Site site m) a b added adds) y (h.holds k x y (omega arith) at_k other)
    ];
  }
    where
      literal_is : (x y : Literal) → x.var ≡ y.var → x.sign ≡ y.sign → x ≡ y
      literal_is x y v s = ap (λ n. (let r : Literal = record { var = n; sign = x.sign } in r)) v ∙ ap (λ b. (let r : Literal = record { var = y.var; sign = b } in r)) s

  -- nothing stands there
  pub takes_nothing : (n : ℕ) (m : Literal) (old a : Trail) → slice_get lower n ≡ Some m → carried_var fields c m.var ≡ None
      → Takes fields site c lower n old a → Takes fields site c lower (n + 1) old a
  takes_nothing n m old a at nothing h = record {
    grows = h.grows;
    keeps = h.keeps;
    holds = λ k x y lt at_k other. elim (cases_eq k n) [
      | inl e ↦
          let one : x ≡ m = same_some x m (sym at_k ∙ ap (slice_get lower) e ∙ at) in
          let no : carried_var fields c x.var ≡ None = ap (λ (z : Literal). carried_var fields c z.var) one ∙ nothing in
          let some = other.var in cc
      | inr ne ↦ h.holds k x y (omega arith) at_k other
    ];
  }

  pub takes_whole : (n : ℕ) (old a : Trail) → length lower ≤ n → Takes fields site c lower n old a → TakesAll fields site c lower old a
  takes_whole n old a le h = record {
    grows = h.grows;
    keeps = h.keeps;
    holds = λ m l there stands. let at = at_contains lower m there in h.holds at.0 m l (let lt = slice_get_within lower at.0 m at.1 in omega arith) at.1 stands;
  }

  -- nothing stands there for the literals that are left
  pub takes_front : (n : ℕ) (m : Literal) (outer : ℕ) (old a : Trail) → IsStrictlyIncreasing (map rank lower) → slice_get lower n ≡ Some m → fields ≤ outer
      → c.there.first + c.there.count ≤ outer + 1 → outer < m.var → Takes fields site c lower n old a → TakesAll fields site c lower old a
  takes_front n m outer old a up at f o lt h = record {
    grows = h.grows;
    keeps = h.keeps;
    holds = λ x l there stands.
        let here = at_contains lower x there in
        elim (cases_lt here.0 n) [
          | inl less ↦ h.holds here.0 x l less here.1 stands
          | inr more ↦
              let past : m.var ≤ x.var = vars_ascend lower up n here.0 m x at here.1 more in
              absurd (beyond fields c x.var l.var outer f o (omega arith) stands.var)
        ];
  }
