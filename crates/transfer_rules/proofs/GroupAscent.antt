-- The names of a call group ascend, so each finds its own constraint.
use Rattle.std.proofs.Common.{◌≡◌, ℕ, suc, ◌<◌, Bool, true, false, cond, ◌||◌, ◌&&◌, List, [], ◌∷◌, length, get_or, Option, Some, refl, ◌∙◌, arith, eqb, ltb}
use Rattle.std.specs.Prelude.{map}
use Rattle.std.specs.List.{All, AllPairs, flat_map}
use Rattle.std.specs.List.Sorted.{IsStrictlyIncreasing}
use Rattle.std.proofs.lemmas.Bool.{eqb-true, eq-eqb, ltb-true, and_parts}
use Rattle.std.proofs.lemmas.List.Elements.{All-nil, All-cons}
use Rattle.std.proofs.lemmas.List.Kept.{AllPairs-from_increasing, AllPairs-cons}
use Rattle.conflict_proof.specs.declared.names.ConstraintName.{ConstraintName}
use Rattle.flow_graph.specs.FlowGraph.{FlowGraph}
use Rattle.path_facts.specs.Tables.{FactTables}
use Rattle.transfer_rules.specs.declared.constraint.Condition.{Condition}
use Rattle.transfer_rules.specs.declared.constraint.Constraint.{Constraint}
use Rattle.transfer_rules.specs.Body.{sight, setting}
use Rattle.transfer_rules.specs.Names.{is_less, is_equal, comes_before, is_name, condition_in, name_of, names}
use Rattle.transfer_rules.specs.Rules.{body_of, body_constraints, constraints}
use Rattle.transfer_rules.specs.Holds.{Each}
use Rattle.transfer_rules.proofs.EachLemmas.{each-flat}
use Rattle.transfer_rules.proofs.Listed.{each-all}
use Rattle.transfer_rules.proofs.Placed.{of_proc}
use Rattle.transfer_rules.proofs.Ascent.{Rise, rise-append, cross, Precedes, by_proc, proc_rises}

-- All elements, and all pairs of elements

from_index : {X : Type 0} (P : X → Type 0) (xs : List X) → ((k : ℕ) (d : X) → k < length xs → P (get_or xs k d)) → Each P xs
from_index P [] h = tt
from_index P (x ∷ xs) h = (h 0 x (omega arith), from_index P xs (λ k d lt. h (suc k) d (omega arith)))

pub each_from_all : {X : Type 0} (P : X → Type 0) (xs : List X) → All P xs → Each P xs
each_from_all P xs h = from_index P xs h

all_from_each : {X : Type 0} (P : X → Type 0) (xs : List X) → Each P xs → All P xs
all_from_each P [] h = All-nil P
all_from_each P (x ∷ xs) h = All-cons P x xs h.0 (all_from_each P xs h.1)

pairs_rise : {X : Type 0} (B : X → X → Type 0) (xs : List X) → AllPairs B xs → Rise B xs
pairs_rise B [] h = tt
pairs_rise B (x ∷ xs) h = (from_index (B x) xs (λ k d lt. h 0 (suc k) d (omega arith) (omega arith)), pairs_rise B xs (λ i j d lt le. h (suc i) (suc j) d (omega arith) (omega arith)))

rise_pairs : {X : Type 0} (B : X → X → Type 0) (xs : List X) → Rise B xs → AllPairs B xs
rise_pairs B [] h = λ i j d lt le. absurd (omega arith)
rise_pairs B (x ∷ xs) h = AllPairs-cons B x xs (all_from_each (B x) xs h.0) (rise_pairs B xs h.1)

-- The procedures of a group in turn

abbrev Below : ℕ → ℕ → Type 0
Below m k = m < k

abbrev After : ℕ → Constraint → Type 0
After m c = m < c.name.proc

in_turn : (f : ℕ → List Constraint) → ((k : ℕ) → Each (λ c. c.name.proc ≡ k) (f k)) → ((k : ℕ) → Rise Precedes (f k)) → (ms : List ℕ) → Rise Below ms → Rise Precedes (flat_map f ms)
in_turn f is rises [] h = tt
in_turn f is rises (m ∷ ms) h =
    rise-append Precedes (f m) (flat_map f ms) (rises m) (in_turn f is rises ms h.1)
    (cross Precedes (λ c. c.name.proc ≡ m) (After m) (λ c d e lt. by_proc c d (omega arith)) (f m) (flat_map f ms) (is m)
    ((each-flat (After m) f ms).1 (each-all (Below m) (λ k. Each (After m) (f k)) ms (λ k lt. each-all (λ c. c.name.proc ≡ k) (After m) (f k) (λ c e. omega arith) (is k)) h.0)))

pub group_rises : (g : FlowGraph) (ts : FactTables) (members : List ℕ) → IsStrictlyIncreasing members → Rise Precedes (constraints g ts members)
group_rises g ts members up =
    in_turn (body_constraints g ts members) (λ k. of_proc (sight (body_of g ts members k)) (setting (body_of g ts members k)))
    (λ k. proc_rises (sight (body_of g ts members k)) (setting (body_of g ts members k)) (λ r. omega arith)) members (pairs_rise Below members (AllPairs-from_increasing members up))

abbrev NameBefore : ConstraintName → ConstraintName → Type 0
NameBefore m n = comes_before m n ≡ true

of_names : (cs : List Constraint) → Rise Precedes cs → Rise NameBefore (map name_of cs)
of_names [] h = tt
of_names (c ∷ cs) h = (one cs h.0, of_names cs h.1)
  where
    one : (ds : List Constraint) → Each (Precedes c) ds → Each (NameBefore c.name) (map name_of ds)
    one [] h = tt
    one (d ∷ ds) h = (h.0, one ds h.1)

pub names_ascend : (g : FlowGraph) (ts : FactTables) (members : List ℕ) → IsStrictlyIncreasing members → AllPairs (λ m n. comes_before m n ≡ true) (names g ts members)
names_ascend g ts members up = rise_pairs NameBefore (names g ts members) (of_names (constraints g ts members) (group_rises g ts members up))

-- Each finds its own

less_differs : (ks bs : List ℕ) → is_less ks bs ≡ true → is_equal ks bs ≡ true → ⊥
less_differs [] [] h e = cc
less_differs [] (b ∷ bs) h e = cc
less_differs (a ∷ ks) [] h e = cc
less_differs (a ∷ ks) (b ∷ bs) h e =
    let p = and_parts (eqb a b) (is_equal ks bs) e in
    let same : a ≡ b = eqb-true a b p.0 in
    by (ltb a b) refl (eqb a b) h same (λ k. less_differs ks bs k p.1)
  where
    by : (x : Bool) → ltb a b ≡ x → (y : Bool) → (x || (y && is_less ks bs)) ≡ true → a ≡ b → (is_less ks bs ≡ true → ⊥) → ⊥
    by true lt y h same next = let l : a < b = ltb-true a b lt in omega arith
    by false lt true h same next = next h
    by false lt false h same next = cc

apart : (m n : ConstraintName) → comes_before m n ≡ true → is_name m n ≡ false
apart m n h = by (is_name m n) refl
  where
    by : (b : Bool) → is_name m n ≡ b → b ≡ false
    by true e = absurd (less_differs (m.proc ∷ m.place ∷ m.edge ∷ m.rule ∷ m.slot ∷ m.field ∷ m.other ∷ []) (n.proc ∷ n.place ∷ n.edge ∷ n.rule ∷ n.slot ∷ n.field ∷ n.other ∷ []) h e)
    by false e = refl

itself : (n : ConstraintName) → is_name n n ≡ true
itself n = rw (eq-eqb n.proc n.proc refl, eq-eqb n.place n.place refl, eq-eqb n.edge n.edge refl, eq-eqb n.rule n.rule refl, eq-eqb n.slot n.slot refl, eq-eqb n.field n.field refl, eq-eqb n.other n.other refl) refl

pub finds_itself : (cs : List Constraint) → Rise Precedes cs → Each (λ d. condition_in cs d.name ≡ Some d.condition) cs
finds_itself [] h = tt
finds_itself (c ∷ cs) h = (head (is_name c.name c.name) (itself c.name), later cs h.0 (finds_itself cs h.1))
  where
    head : (b : Bool) → b ≡ true → cond b (Some c.condition) (condition_in cs c.name) ≡ Some c.condition
    head true e = refl
    head false e = cc

    skip : (b : Bool) (o : Option Condition) → b ≡ false → cond b (Some c.condition) o ≡ o
    skip true o e = cc
    skip false o e = refl

    later : (ds : List Constraint) → Each (Precedes c) ds → Each (λ d. condition_in cs d.name ≡ Some d.condition) ds → Each (λ d. condition_in (c ∷ cs) d.name ≡ Some d.condition) ds
    later [] b k = tt
    later (d ∷ ds) b k = (skip (is_name c.name d.name) (condition_in cs d.name) (apart c.name d.name b.0) ∙ k.0, later ds b.1 k.1)
