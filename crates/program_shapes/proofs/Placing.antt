-- What there is of procedures is put down, one group after another.
use Rattle.std.proofs.Common.{◌≡◌, ℕ, zero, suc, ◌+◌, ◌<◌, ◌≤◌, ◌⊎◌, inl, inr, Bool, true, false, cond, List, [], ◌∷◌, ◌++◌, length, take, set, get_or, Some, slice_get, refl, sym, ap, subst, ◌∙◌, arith}
use Rattle.std.specs.Prelude.{nat_eq, sum_by}
use Rattle.std.specs.List.{Contains, All}
use Rattle.std.specs.List.Sorted.{IsStrictlyIncreasing}
use Rattle.std.proofs.lemmas.Bool.{cases_eq, eq-eqb, ne_eqb}
use Rattle.std.proofs.lemmas.List.{length-set, get_or_default, take_more}
use Rattle.std.proofs.lemmas.List.Sums.{sum_by-cons, sum_by_push}
use Rattle.std.proofs.lemmas.List.Elements.{Contains-get_or, Contains-append_left, Contains-append_right, All-contains}
use Rattle.std.proofs.lemmas.List.Kept.{AllPairs-from_increasing}
use Rattle.flow_graph.specs.FlowGraph.{FlowGraph}
use Rattle.recursion_groups.specs.Grouping.{IsGroup, IsOrdered, IsGrouping}
use Rattle.recursion_groups.proofs.Each.{group_at}
use Rattle.verdict_meaning.specs.declared.callee.Callee.{Callee}
use Rattle.verdict_meaning.specs.Systems.{System, root, members, parts_before}
use Rattle.call_search.specs.Shapes.{IsThere, before_own}
use Rattle.program_shapes.specs.declared.procs.ProcShape.{ProcShape}
use Rattle.program_shapes.specs.Tables.{IsProcOf, IsProcShape, AreProcShapes, HoldsGroup}

get_set_same : (xs : List ProcShape) (k : ℕ) (x : ProcShape) → k < length xs → slice_get (set xs k x) k ≡ Some x
get_set_same [] k x lt = absurd (omega arith)
get_set_same (y ∷ xs) zero x lt = refl
get_set_same (y ∷ xs) (suc k) x lt = get_set_same xs k x (omega arith)

get_set_other : (xs : List ProcShape) (k j : ℕ) (x : ProcShape) → (j ≡ k → ⊥) → slice_get (set xs k x) j ≡ slice_get xs j
get_set_other [] k j x ne = refl
get_set_other (y ∷ xs) zero zero x ne = absurd (ne refl)
get_set_other (y ∷ xs) zero (suc j) x ne = refl
get_set_other (y ∷ xs) (suc k) zero x ne = refl
get_set_other (y ∷ xs) (suc k) (suc j) x ne = get_set_other xs k j x (λ e. ne (ap suc e))

same_some : (x y : ProcShape) → Some x ≡ Some y → x ≡ y
same_some x y e = cc

-- what stands before a member
off : (b : Bool) (n : ℕ) → b ≡ false → cond b 0 n ≡ n
off true n e = cc
off false n e = refl

on : (b : Bool) (n : ℕ) → b ≡ true → cond b 0 n ≡ 0
on true n e = refl
on false n e = cc

before_at : (s : System) (ms : List ℕ) (i : ℕ) → i < length ms → ((j : ℕ) → j < i → get_or ms j 0 ≡ get_or ms i 0 → ⊥) → parts_before s (get_or ms i 0) ms ≡ sum_by s.parts (take i ms)
before_at s [] i lt ne = absurd (omega arith)
before_at s (m ∷ ms) zero lt ne = on (nat_eq m m) (s.parts m + parts_before s m ms) (eq-eqb m m refl)
before_at s (m ∷ ms) (suc i) lt ne =
    off (nat_eq m (get_or ms i 0)) (s.parts m + parts_before s (get_or ms i 0) ms) (ne_eqb m (get_or ms i 0) (ne 0 (omega arith)))
    ∙ ap (λ n. s.parts m + n) (before_at s ms i (omega arith) (λ j below e. ne (suc j) (omega arith) e))
    ∙ sym (sum_by-cons s.parts m (take i ms))

-- the first members were put down
pub record IsPlacing (s : System) (g i : ℕ) (old new : List ProcShape) (first : ℕ) : Type 0 where
  pub size : length new ≡ length old
  pub these : (j : ℕ) (p : ProcShape) → j < i → slice_get new (get_or (members s g) j 0) ≡ Some p → IsProcShape s (record { proc = get_or (members s g) j 0; group = g }) p
  pub others : (k : ℕ) → ((j : ℕ) → j < i → j < length (members s g) → get_or (members s g) j 0 ≡ k → ⊥) → slice_get new k ≡ slice_get old k
  pub before : first ≡ s.fields + sum_by s.parts (take i (members s g))

pub placing_none : (s : System) (g : ℕ) (old : List ProcShape) (first : ℕ) → first ≡ s.fields → IsPlacing s g 0 old old first
placing_none s g old first e = record {
  size = refl;
  these = λ j p lt at. absurd (omega arith);
  others = λ k none. refl;
  before = omega (arith, e);
}

module _ (s : System) (g i : ℕ) (old new : List ProcShape) (first : ℕ) (up : IsStrictlyIncreasing (members s g)) (lt : i < length (members s g)) (h : IsPlacing s g i old new first) where
  abbrev ms : List ℕ
  ms = members s g

  -- the member itself
  abbrev k : ℕ
  k = get_or ms i 0

  earlier : (j : ℕ) → j < i → get_or ms j 0 ≡ k → ⊥
  earlier j below e = let less : get_or ms j 0 < get_or ms i 0 = AllPairs-from_increasing ms up j i 0 below lt in omega arith

  first_is : first ≡ before_own s (record { proc = k; group = g })
  first_is = h.before ∙ ap (λ n. s.fields + n) (sym (before_at s ms i lt earlier))

  pub placing_next : (p : ProcShape) → IsProcOf s k first p → k < length new → (next : ℕ) → next ≡ first + p.parts → IsPlacing s g (i + 1) old (set new k p) next
  placing_next p is room next e = record {
    size = length-set new k p ∙ h.size;
    these = λ j q below at. elim (cases_eq j i) [
      | inl same ↦
          let here : slice_get (set new k p) k ≡ Some q = subst (λ (n : ℕ). slice_get (set new k p) (get_or ms n 0) ≡ Some q) same at in
          let one : p ≡ q = same_some p q (sym (get_set_same new k p room) ∙ here) in
          subst (λ (n : ℕ). IsProcShape s (record { proc = get_or ms n 0; group = g }) q) (sym same)
          (subst (λ (x : ProcShape). IsProcShape s (record { proc = k; group = g }) x) one (subst (λ (n : ℕ). IsProcOf s k n p) first_is is))
      | inr ne ↦ h.these j q (omega arith) (sym (get_set_other new k (get_or ms j 0) p (earlier j (omega arith))) ∙ at)
    ];
    others = λ n none. get_set_other new k n p (λ e. none i (omega arith) lt (sym e)) ∙ h.others n (λ j below within e. none j (omega arith) within e);
    before =
        let sum : sum_by s.parts (take (i + 1) ms) ≡ sum_by s.parts (take i ms) + s.parts k = ap (sum_by s.parts) (take_more ms i 0 lt) ∙ sum_by_push s.parts (take i ms) k in
        let was = h.before in
        let parts = is.parts in
        omega arith;
  }

-- all members were put down
pub placing_all : (s : System) (g i : ℕ) (old new : List ProcShape) (first : ℕ) → length (members s g) ≤ i → IsPlacing s g i old new first → HoldsGroup s g old new
placing_all s g i old new first all h = record {
  size = h.size;
  these = λ k p has at.
      let here : get_or (members s g) has.0 0 ≡ k = get_or_default (members s g) has.0 0 k has.1 ∙ has.2 in
      let below : has.0 < length (members s g) = has.1 in
      subst (λ (n : ℕ). IsProcShape s (record { proc = n; group = g }) p) here
      (h.these has.0 p (omega arith) (subst (λ (n : ℕ). slice_get new n ≡ Some p) (sym here) at));
  others = λ k none. h.others k (λ j below within e. none (subst (λ (n : ℕ). Contains (members s g) n) e (Contains-get_or (members s g) j 0 within)));
}

-- Groups have no procedure in common

done_apart : (g : FlowGraph) (done : List ℕ) (gs : List (List ℕ)) (i k : ℕ) → IsOrdered g done gs → i < length gs → Contains done k → Contains (get_or gs i []) k → ⊥
done_apart g done [] i k h lt before here = absurd (omega arith)
done_apart g done (ms ∷ gs) zero k h lt before here = h.0.apart k here before
done_apart g done (ms ∷ gs) (suc i) k h lt before here = done_apart g (done ++ ms) gs i k h.1 (omega arith) (Contains-append_left done ms k before) here

two_apart : (g : FlowGraph) (done : List ℕ) (gs : List (List ℕ)) (i j k : ℕ) → IsOrdered g done gs → i < j → j < length gs → Contains (get_or gs i []) k → Contains (get_or gs j []) k → ⊥
two_apart g done [] i j k h less lt one other = absurd (omega arith)
two_apart g done (ms ∷ gs) i zero k h less lt one other = absurd (omega arith)
two_apart g done (ms ∷ gs) zero (suc j) k h less lt one other = done_apart g (done ++ ms) gs j k h.1 (omega arith) (Contains-append_right done ms k one) other
two_apart g done (ms ∷ gs) (suc i) (suc j) k h less lt one other = two_apart g (done ++ ms) gs i j k h.1 (omega arith) (omega arith) one other

-- the procedures of the first groups were put down
pub record AreDone (s : System) (n bodies : ℕ) (ps : List ProcShape) : Type 0 where
  pub size : length ps ≡ bodies
  pub each : (c : Callee) (p : ProcShape) → c.group < n → IsThere s c → slice_get ps c.proc ≡ Some p → IsProcShape s c p

module _ (g : FlowGraph) (s : System) (grouping : IsGrouping g s.groups) where
  pub done_next : (n bodies : ℕ) (old new : List ProcShape) → n < root s → AreDone s n bodies old → HoldsGroup s n old new → AreDone s (n + 1) bodies new
  done_next n bodies old new lt h put = record {
    size = put.size ∙ h.size;
    each = λ c p below there at. elim (cases_eq c.group n) [
      | inl e ↦
          let member : Contains (members s n) c.proc = subst (λ (i : ℕ). Contains (members s i) c.proc) e there.member in
          subst (λ (i : ℕ). IsProcShape s (record { proc = c.proc; group = i }) p) (sym e) (put.these c.proc p member at)
      | inr ne ↦
          let less : c.group < n = omega arith in
          h.each c p less there (sym (put.others c.proc (λ other. two_apart g [] s.groups c.group n c.proc grouping less lt there.member other)) ∙ at)
    ];
  }

  pub done_all : (n : ℕ) (ps : List ProcShape) → root s ≤ n → AreDone s n g.bodies ps → AreProcShapes s ps
  done_all n ps all h = record {
    within = λ c there.
        let body : c.proc < g.bodies = All-contains (λ (k : ℕ). k < g.bodies) (members s c.group) c.proc (group_at g [] s.groups c.group grouping there.group).bodies there.member in
        let size = h.size in
        omega arith;
    each = λ c p there at. (let lt = there.group in h.each c p (omega arith) there at);
  }
