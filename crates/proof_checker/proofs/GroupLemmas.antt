-- The groups of a grouping, and the numbers of the groups of procedures.
use Rattle.std.proofs.Common.{◌≡◌, ℕ, zero, suc, ◌+◌, ◌<◌, ◌≤◌, ◌⊎◌, inl, inr, ⊎_elim, Bool, true, false, cond, not, ◌||◌, List, [], ◌∷◌, ◌++◌, refl, sym, ap, ◌∙◌, subst, arith, eqb, length, get_or, set, drop, replicate}
use Rattle.std.specs.Prelude.{slice_index, nat_eq}
use Rattle.std.specs.List.{Contains, IsDistinct, AllByRecursion, list_any}
use Rattle.std.proofs.lemmas.Bool.{eqb-true, eq-eqb, ne_eqb, cases_eq}
use Rattle.std.proofs.lemmas.List.{get_or-set_same, get_or-set_other, get_or-replicate}
use Rattle.std.proofs.lemmas.List.Elements.{Contains-get_or, Contains-append_left, Contains-append_right, Contains-append_cases}
use Rattle.std.proofs.lemmas.Map.Keys.{IsDistinct-cons}
use Rattle.std.proofs.lemmas.Map.Steps.{length-le_from_distinct_below}
use Rattle.std.proofs.Math.Seq.{drop-cons}
use Rattle.flow_graph.specs.FlowGraph.{FlowGraph}
use Rattle.flow_graph.specs.Fits.{is_in}
use Rattle.recursion_groups.specs.Grouping.{IsGroup, IsOrdered, IsGrouping}
use Rattle.owner_vars.proofs.IndexLemmas.{is_in_true, from_is_in}
use Rattle.verdict_meaning.specs.Programs.{group_of}

-- Groups

ordered : (g : FlowGraph) (done : List ℕ) (gs : List (List ℕ)) → IsOrdered g done gs → (k : ℕ) → k < length gs → IsGroup g (get_or gs k [])
ordered g done [] h k lt = absurd (omega arith)
ordered g done (ps ∷ gs) h zero lt = h.0.group
ordered g done (ps ∷ gs) h (suc k) lt = ordered g (done ++ ps) gs h.1 k (omega arith)

pub group_is : (g : FlowGraph) (gs : List (List ℕ)) → IsGrouping g gs → (k : ℕ) → k < length gs → IsGroup g (get_or gs k [])
group_is g gs h k lt = ordered g [] gs h k lt

-- How many there are

or_first : (a b : Bool) → a ≡ true → (a || b) ≡ true
or_first a b e = rw e refl

or_second : (a b : Bool) → b ≡ true → (a || b) ≡ true
or_second true b e = refl
or_second false b e = e

or_cases : (a b : Bool) → (a || b) ≡ true → (a ≡ true) ⊎ (b ≡ true)
or_cases true b e = inl refl
or_cases false b e = inr e

apart_from : (p : ℕ) (seen : List ℕ) → ((q : ℕ) → list_any (eqb q) seen ≡ true → p ≡ q → ⊥) → AllByRecursion (λ q. eqb p q ≡ false) seen
apart_from p [] differ = tt
apart_from p (x ∷ seen) differ =
    (ne_eqb p x (differ x (or_first (eqb x x) (list_any (eqb x) seen) (eq-eqb x x refl))), apart_from p seen (λ q e. differ q (or_second (eqb q x) (list_any (eqb q) seen) e)))

-- one procedure of each group was seen
module _ (g : FlowGraph) where
  -- the procedure is one of those that are done
  record IsDone (done : List ℕ) (q : ℕ) : Type 0 where
    body : q < g.bodies
    there : Contains done q

  several : (done : List ℕ) (gs : List (List ℕ)) (seen : List ℕ) → IsOrdered g done gs → IsDistinct eqb seen → ((q : ℕ) → list_any (eqb q) seen ≡ true → IsDone done q) → length seen + length gs ≤ g.bodies
  several done [] seen h distinct each = let le = length-le_from_distinct_below seen g.bodies distinct (λ q e. (each q e).body) in omega arith
  several done (ps ∷ gs) seen h distinct each =
      let next = several (done ++ ps) gs (p ∷ seen) h.1 (IsDistinct-cons eqb p seen (apart_from p seen differ) distinct) all in
      omega arith
    where
      p : ℕ
      p = get_or ps 0 0

      here : Contains ps p
      here = Contains-get_or ps 0 0 h.0.group.some

      differ : (q : ℕ) → list_any (eqb q) seen ≡ true → p ≡ q → ⊥
      differ q e same = h.0.apart p here (subst (Contains done) (sym same) (each q e).there)

      first_is : p < g.bodies
      first_is = h.0.group.bodies 0 0 h.0.group.some

      all : (q : ℕ) → list_any (eqb q) (p ∷ seen) ≡ true → IsDone (done ++ ps) q
      all q e =
          ⊎_elim
          (λ (is : eqb q p ≡ true). subst (IsDone (done ++ ps)) (sym (eqb-true q p is)) (record { body = first_is; there = Contains-append_right done ps p here }))
          (λ (is : list_any (eqb q) seen ≡ true). let one = each q is in record { body = one.body; there = Contains-append_left done ps q one.there })
          (or_cases (eqb q p) (list_any (eqb q) seen) e)

none_twice : IsDistinct eqb []
unfolding IsDistinct
none_twice = tt

pub few : (g : FlowGraph) (gs : List (List ℕ)) → IsGrouping g gs → length gs ≤ g.bodies
few g gs h = let le = several g [] gs [] h none_twice (λ q e. absurd (never e)) in omega arith
  where
    never : false ≡ true → ⊥
    never e = cc

-- Numbers

cond_same : (b : Bool) (n : ℕ) → cond b n n ≡ n
cond_same true n = refl
cond_same false n = refl

-- the number after a list of members: where one of them is left it gets the number
pub put_step : (ms : List ℕ) (i m number : ℕ) (xs ys : List ℕ) (k : ℕ) → i < length ms → m ≡ get_or ms i m → m < length xs → ys ≡ set xs m number
    → cond (is_in (drop (i + 1) ms) k) number (get_or ys k 0) ≡ cond (is_in (drop i ms) k) number (get_or xs k 0)
put_step ms i m number xs ys k lt read there e =
    let whole : drop i ms ≡ m ∷ drop (i + 1) ms = (let next : suc i ≡ i + 1 = omega arith in drop-cons ms i m lt ∙ ap (λ (x : ℕ). x ∷ drop (suc i) ms) (sym read) ∙ ap (λ n. m ∷ drop n ms) next) in
    ap (λ (zs : List ℕ). cond (is_in (drop (i + 1) ms) k) number (get_or zs k 0)) e
    ∙ by_case (cases_eq k m)
    ∙ ap (λ (zs : List ℕ). cond (is_in zs k) number (get_or xs k 0)) (sym whole)
  where
    by_case : (k ≡ m) ⊎ (k ≡ m → ⊥) → cond (is_in (drop (i + 1) ms) k) number (get_or (set xs m number) k 0) ≡ cond (nat_eq k m || is_in (drop (i + 1) ms) k) number (get_or xs k 0)
    by_case (inl same) =
        let here : get_or (set xs m number) k 0 ≡ number = ap (λ n. get_or (set xs m number) n 0) same ∙ get_or-set_same xs m number 0 there in
        ap (cond (is_in (drop (i + 1) ms) k) number) here ∙ cond_same (is_in (drop (i + 1) ms) k) number ∙ ap (λ (b : Bool). cond (b || is_in (drop (i + 1) ms) k) number (get_or xs k 0)) (sym (eq-eqb k m same))
    by_case (inr ne) =
        ap (cond (is_in (drop (i + 1) ms) k) number) (get_or-set_other xs m k number 0 ne) ∙ ap (λ (b : Bool). cond (b || is_in (drop (i + 1) ms) k) number (get_or xs k 0)) (sym (ne_eqb k m ne))

-- each procedure's number, of the groups from i on
abbrev pub AreFrom : List (List ℕ) → ℕ → ℕ → List ℕ → Type 0
AreFrom gs bodies i numbers = (k : ℕ) → k < bodies → slice_index numbers k ≡ i + group_of (drop i gs) k

group_step : (b : Bool) (i n number : ℕ) → number ≡ (i + 1) + n → cond b i number ≡ i + cond (not b) (1 + n) 0
group_step true i n number e = omega arith
group_step false i n number e = omega arith

pub one_before : (gs : List (List ℕ)) (bodies i : ℕ) (numbers more : List ℕ) → i < length gs → AreFrom gs bodies (i + 1) numbers
    → ((k : ℕ) → k < bodies → slice_index more k ≡ cond (is_in (get_or gs i []) k) i (slice_index numbers k)) → AreFrom gs bodies i more
one_before gs bodies i numbers more lt from put k small =
    let whole : drop i gs ≡ get_or gs i [] ∷ drop (i + 1) gs = (let next : suc i ≡ i + 1 = omega arith in drop-cons gs i [] lt ∙ ap (λ n. get_or gs i [] ∷ drop n gs) next) in
    put k small ∙ group_step (is_in (get_or gs i []) k) i (group_of (drop (i + 1) gs) k) (slice_index numbers k) (from k small) ∙ ap (λ (zs : List (List ℕ)). i + group_of zs k) (sym whole)

drop_end : (gs : List (List ℕ)) → drop (length gs) gs ≡ []
drop_end [] = refl
drop_end (ms ∷ gs) = drop_end gs

pub from_end : (gs : List (List ℕ)) (bodies : ℕ) → AreFrom gs bodies (length gs) (replicate bodies (length gs))
from_end gs bodies k small = get_or-replicate bodies k (length gs) 0 small ∙ (let none : 0 ≡ group_of (drop (length gs) gs) k = ap (λ (zs : List (List ℕ)). group_of zs k) (sym (drop_end gs)) in omega arith)

-- the group of a procedure that is in one
pub record IsInGroup (gs : List (List ℕ)) (e k : ℕ) : Type 0 where
  pub there : e < length gs
  pub member : Contains (get_or gs e []) k

pub group_found : (gs : List (List ℕ)) (k e : ℕ) → e < length gs → Contains (get_or gs e []) k → IsInGroup gs (group_of gs k) k
group_found [] k e lt there = absurd (omega arith)
group_found (ms ∷ gs) k e lt there = by_test (is_in ms k) refl (λ n small here. group_found gs k n small here)
  where
    later : (n : ℕ) → is_in ms k ≡ false → n < length (ms ∷ gs) → Contains (get_or (ms ∷ gs) n []) k → ((n : ℕ) → n < length gs → Contains (get_or gs n []) k → IsInGroup gs (group_of gs k) k) → IsInGroup gs (group_of gs k) k
    later zero off lt here next = absurd (differ (sym (is_in_true ms k here) ∙ off))
      where
        differ : true ≡ false → ⊥
        differ e = cc
    later (suc n) off lt here next = next n (omega arith) here

    by_test : (b : Bool) → is_in ms k ≡ b → ((n : ℕ) → n < length gs → Contains (get_or gs n []) k → IsInGroup gs (group_of gs k) k) → IsInGroup (ms ∷ gs) (cond (not b) (1 + group_of gs k) 0) k
    by_test true on next = record { there = omega arith; member = from_is_in ms k on }
    by_test false off next =
        let found = later e off lt there next in
        let same : suc (group_of gs k) ≡ 1 + group_of gs k = omega arith in
        subst (λ n. IsInGroup (ms ∷ gs) n k) same (record { there = (let small = found.there in omega arith); member = found.member })

-- a procedure with a body is in a group
in_some : (g : FlowGraph) (done : List ℕ) (gs : List (List ℕ)) → IsOrdered g done gs → (k : ℕ) → k < g.bodies → Contains done k ⊎ ((e : ℕ) × (e < length gs) × Contains (get_or gs e []) k)
in_some g done [] h k small = inl (h k small)
in_some g done (ms ∷ gs) h k small =
    ⊎_elim
    (λ (there : Contains (done ++ ms) k). ⊎_elim (λ (d : Contains done k). inl d) (λ (m : Contains ms k). inr (0, omega arith, m)) (Contains-append_cases done ms k there))
    (λ (p : (e : ℕ) × (e < length gs) × Contains (get_or gs e []) k). inr (suc p.0, (let lt = p.1 in omega arith), p.2))
    (in_some g (done ++ ms) gs h.1 k small)

pub in_its_group : (g : FlowGraph) (gs : List (List ℕ)) → IsGrouping g gs → (k : ℕ) → k < g.bodies → IsInGroup gs (group_of gs k) k
in_its_group g gs h k small =
    ⊎_elim (λ (none : Contains [] k). absurd (let lt = none.1 in omega arith)) (λ (p : (e : ℕ) × (e < length gs) × Contains (get_or gs e []) k). group_found gs k p.0 p.1 p.2)
    (in_some g [] gs h k small)
