-- The groups of a program by its numbers, its sites and its rules.
use Rattle.std.proofs.Common.{◌≡◌, ℕ, zero, suc, ◌+◌, ◌-◌, ◌<◌, ◌≤◌, ◌⊎◌, inl, inr, ⊎_elim, Bool, true, false, cond, not, ◌||◌, List, [], ◌∷◌, ◌++◌, Option, Some, None, refl, sym, ap, ◌∙◌, subst, arith, length, map, get_or, slice_get, eqb}
use Rattle.std.specs.Prelude.{nat_eq, slice_index, slice_index_or}
use Rattle.std.specs.List.{Contains, All, filter, flat_map, range_with_len, position_or_len, count_by}
use Rattle.std.specs.Option.{option_map}
use Rattle.std.proofs.lemmas.Bool.{cases_eq, eqb-true}
use Rattle.std.proofs.lemmas.List.{length-map, get_or-map}
use Rattle.std.proofs.lemmas.List.Sums.{length-filter}
use Rattle.std.proofs.lemmas.List.Elements.{filter_passes, All-contains, Contains-append_left, Contains-append_right}
use Rattle.std.specs.List.Sorted.{IsStrictlyIncreasing}
use Rattle.std.proofs.lemmas.List.Folds.{flat_map-map}
use Rattle.std.proofs.lemmas.Option.{slice_get_within}
use Rattle.zo_core.specs.declared.number_range.NumberRange.{NumberRange}
use Rattle.zo_core.specs.Literals.{Literal}
use Rattle.conflict_proof.specs.declared.names.ConstraintName.{ConstraintName}
use Rattle.flow_graph.specs.FlowGraph.{FlowGraph, flow_of}
use Rattle.flow_graph.specs.Fits.{IsFlowGraph}
use Rattle.path_facts.specs.Tables.{FactTables}
use Rattle.field_rules.specs.Lists.{gather}
use Rattle.recursion_groups.specs.Grouping.{IsGroup, IsOrdered, IsGrouping}
use Rattle.owner_vars.specs.Unknowns.{Unknown, Pi, Sigma, unknowns, interface, parts_of, site_callees, place_unknowns, number_of, is_same}
use Rattle.owner_vars.specs.Rows.{is_pi_of, is_sigma_of, is_at, range_where}
use Rattle.owner_vars.specs.Laws.{RowsAreTogether, part_count, place_width}
use Rattle.owner_vars.proofs.Numbers.{is_same_true, same_itself}
use Rattle.transfer_rules.specs.declared.constraint.Constraint.{Constraint}
use Rattle.transfer_rules.specs.declared.constraint.Condition.{Condition}
use Rattle.transfer_rules.specs.declared.scope.Scope.{Scope}
use Rattle.transfer_rules.specs.Names.{NamedClause, name_of, named_clause, named_clauses, condition_clauses, condition_in, is_in_force, in_scope, clauses_in}
use Rattle.transfer_rules.specs.Names as rules
use Rattle.transfer_rules.specs.Programs.{group_at}
use Rattle.transfer_rules.specs.Rules.{body_constraints, place_constraints, constraints}
use Rattle.verdict_meaning.specs.declared.callee.Callee.{Callee}
use Rattle.verdict_meaning.specs.Systems.{System, root, members, callees, nobody, parts_before, pi_numbers}
use Rattle.verdict_meaning.specs.Certificates.{Spot}
use Rattle.verdict_meaning.specs.Solutions.{counts}
use Rattle.verdict_meaning.specs.Programs.{system_of, callee_in, clauses_found, NumbersAgree, NamesAreApart, SystemIsOfGraph}
use Rattle.cert_checker.specs.Tables.{clauses_if, table_of}
use Rattle.cert_checker.specs.Grouped.{called}
use Rattle.cert_checker.specs.Placed.{names_at}
use Rattle.cert_checker.proofs.LineLemmas.{lt_or_le}
use Rattle.cert_checker.proofs.Among.{here, there, first_or_rest, none_there, at_place, in_all}

-- Unknowns that stand together

-- the first that passes is the first of those that pass
first_passing : (p : Unknown → Bool) (us : List Unknown) (u : Unknown) (rest : List Unknown) → filter p us ≡ u ∷ rest → number_of us u ≡ 1 + position_or_len p us
first_passing p [] u rest e = cc
first_passing p (v ∷ us) u rest e = by_test (p v) refl e (first_passing p us u rest)
  where
    passes : filter p us ≡ u ∷ rest → p u ≡ true
    passes f = subst (All (λ (x : Unknown). p x ≡ true)) f (filter_passes p us) 0 u (omega arith)

    number : (t : Bool) → is_same u v ≡ t → t ≡ true → number_of (v ∷ us) u ≡ 1
    number t x y = ap (λ (b : Bool). cond b 1 (suc (number_of us u))) (x ∙ y)

    later_number : (t : Bool) → is_same u v ≡ t → t ≡ false → number_of (v ∷ us) u ≡ suc (number_of us u)
    later_number t x y = ap (λ (b : Bool). cond b 1 (suc (number_of us u))) (x ∙ y)

    differs : (t : Bool) → is_same u v ≡ t → p v ≡ false → p u ≡ true → t ≡ false
    differs false x y z = refl
    differs true x y z = let same : u ≡ v = is_same_true u v x in let w : p u ≡ p v = ap p same in cc

    by_test : (b : Bool) → p v ≡ b → cond b (v ∷ filter p us) (filter p us) ≡ u ∷ rest → (filter p us ≡ u ∷ rest → number_of us u ≡ 1 + position_or_len p us)
        → number_of (v ∷ us) u ≡ 1 + cond (not b) (1 + position_or_len p us) 0
    by_test true x f later =
        let same : v ≡ u = cc in
        number (is_same u v) refl (ap (is_same u) same ∙ same_itself u)
    by_test false x f later =
        let h = later f in
        later_number (is_same u v) refl (differs (is_same u v) refl x (passes f)) ∙ (let z : suc (number_of us u) ≡ 1 + (1 + position_or_len p us) = omega (arith, h) in z)

first_number : (f : Unknown → ℕ) (xs : List Unknown) (n len : ℕ) → map f xs ≡ range_with_len n len → length xs ≡ len → 0 < len → (u : Unknown) × (rest : List Unknown) × (xs ≡ u ∷ rest) × (f u ≡ n)
first_number f [] n zero e l pos = absurd (omega arith)
first_number f [] n (suc len) e l pos = absurd (omega arith)
first_number f (x ∷ xs) n zero e l pos = absurd (omega arith)
first_number f (x ∷ xs) n (suc len) e l pos = (x, xs, refl, cc)

count_is : (p : Unknown → Bool) (us xs : List Unknown) → filter p us ≡ xs → count_by p us ≡ length xs
count_is p us xs e = sym (length-filter p us) ∙ ap length e

-- a place of a procedure
abbrev pub spot : ℕ → ℕ → Spot
spot k p = record { proc = k; place = p }

-- what is gathered below n
in_gather : {X : Type 0} (f : ℕ → List X) (n p : ℕ) (x : X) → p < n → Contains (f p) x → Contains (gather n f) x
in_gather f zero p x lt h = absurd (omega arith)
in_gather f (suc n) p x lt h =
    ⊎_elim (λ (less : p < n). Contains-append_left (gather n f) (f n) x (in_gather f n p x less h))
    (λ (ge : n ≤ p). let e : p ≡ n = omega arith in Contains-append_right (gather n f) (f n) x (subst (λ (q : ℕ). Contains (f q) x) e h)) (lt_or_le p n)

module _ (g : FlowGraph) (facts : FactTables) (groups : List (List ℕ)) where
  abbrev s : System
  s = system_of g facts groups

  module _ (e : ℕ) (us : List Unknown) (is : us ≡ unknowns g (group_at groups e)) (together : RowsAreTogether g (group_at groups e)) where
    pub face_count : (k : ℕ) (range : NumberRange) → Contains (group_at groups e) k → range ≡ range_where (is_pi_of k) us → range.count ≡ part_count g k
    face_count k range member r =
        ap (λ (x : NumberRange). x.count) r ∙ count_is (is_pi_of k) us (interface g k) (ap (filter (is_pi_of k)) is ∙ together.pi k member) ∙ length-map (parts_of (flow_of g k)) (Pi k)

    pub face_start : NumbersAgree g s e → (k : ℕ) (range : NumberRange) → Contains (group_at groups e) k → range ≡ range_where (is_pi_of k) us → 0 < range.count
        → range.first - 1 - s.fields ≡ parts_before s k (members s e)
    face_start agree k range member r some =
        let those : filter (is_pi_of k) us ≡ interface g k = ap (filter (is_pi_of k)) is ∙ together.pi k member in
        let count : range.count ≡ part_count g k = face_count k range member r in
        let one = first_number (number_of (unknowns g (members s e))) (interface g k) (suc (s.fields + parts_before s k (members s e))) (s.parts k) (agree.pi k member)
        (length-map (parts_of (flow_of g k)) (Pi k)) (omega (arith, some, count)) in
        let at : number_of us one.0 ≡ 1 + position_or_len (is_pi_of k) us = first_passing (is_pi_of k) us one.0 one.1 (those ∙ one.2) in
        let same : number_of us one.0 ≡ number_of (unknowns g (members s e)) one.0 = ap (λ (vs : List Unknown). number_of vs one.0) is in
        let first : range.first ≡ 1 + position_or_len (is_pi_of k) us = ap (λ (x : NumberRange). x.first) r in
        let n = one.3 in
        omega (arith, at, same, first, n)

    pub width_is : (k : ℕ) (range : NumberRange) → Contains (group_at groups e) k → 0 < length (flow_of g k).places → range ≡ range_where (is_at k 0) us → range.count ≡ place_width g k
    width_is k range member some r =
        ap (λ (x : NumberRange). x.count) r ∙ count_is (is_at k 0) us (place_unknowns g k 0) (ap (filter (is_at k 0)) is ∙ together.place k 0 member some)

    pub site_count : (site : ℕ) (range : NumberRange) → site < length (called g groups e) → range ≡ range_where (is_sigma_of site) us
        → range.count ≡ part_count g (slice_index_or (called g groups e) site nobody).proc
    site_count site range within r =
        let small : site < length (site_callees g (group_at groups e)) = (let m = length-map (site_callees g (group_at groups e)) (callee_in groups) in omega (arith, within, m)) in
        let proc : slice_index (site_callees g (group_at groups e)) site ≡ (slice_index_or (called g groups e) site nobody).proc =
        sym (ap (λ (c : Callee). c.proc) (get_or-map (callee_in groups) (site_callees g (group_at groups e)) site 0 nobody small)) in
        ap (λ (x : NumberRange). x.count) r
        ∙ count_is (is_sigma_of site) us (map (Sigma site) (parts_of (flow_of g (slice_index (site_callees g (group_at groups e)) site)))) (ap (filter (is_sigma_of site)) is ∙ together.sigma site small)
        ∙ length-map (parts_of (flow_of g (slice_index (site_callees g (group_at groups e)) site))) (Sigma site)
        ∙ ap (part_count g) proc

  -- Clauses

  pub table_is : ((members : List ℕ) → NamesAreApart g facts members) → (scope : Scope) (e k p : ℕ) → Contains (group_at groups e) k → p < length (flow_of g k).places
      → clauses_in scope (place_constraints g facts (group_at groups e) k p) ≡ table_of s (in_scope scope) e (names_at g facts (group_at groups e) (spot k p))
  table_is apart scope e k p member lt =
      same_clauses (place_constraints g facts (group_at groups e) k p)
      (λ c h. in_all (body_constraints g facts (group_at groups e)) (group_at groups e) k c member (in_gather (place_constraints g facts (group_at groups e) k) (length (flow_of g k).places) p c lt h))
      ∙ sym (flat_map-map (clauses_if s (in_scope scope) e) name_of (place_constraints g facts (group_at groups e) k p))
    where
      one : (c : Constraint) → Contains (constraints g facts (group_at groups e)) c → rules.clauses_if scope c ≡ clauses_if s (in_scope scope) e c.name
      one c h =
          let found : s.clauses e c.name ≡ condition_clauses c.condition = ap (λ (o : Option Condition). clauses_found (option_map condition_clauses o)) (apart (group_at groups e) c h) in
          ap (λ (cs : List (List Literal)). cond (counts (in_scope scope) c.name) (map (named_clause c.name) cs) []) (sym found)

      same_clauses : (cs : List Constraint) → ((c : Constraint) → Contains cs c → Contains (constraints g facts (group_at groups e)) c)
          → flat_map (rules.clauses_if scope) cs ≡ flat_map (λ (c : Constraint). clauses_if s (in_scope scope) e (name_of c)) cs
      same_clauses [] f = refl
      same_clauses (c ∷ cs) f =
          ap (λ (rs : List NamedClause). rs ++ flat_map (rules.clauses_if scope) cs) (one c (f c (here c cs c refl)))
          ∙ ap (λ (rs : List NamedClause). clauses_if s (in_scope scope) e (name_of c) ++ rs) (same_clauses cs (λ d h. f d (there c cs d h)))

-- Groups

ordered : (g : FlowGraph) (done : List ℕ) (gs : List (List ℕ)) → IsOrdered g done gs → (k : ℕ) (d : List ℕ) → k < length gs → IsGroup g (slice_index_or gs k d)
ordered g done [] h k d lt = absurd (omega arith)
ordered g done (ps ∷ gs) h zero d lt = h.0.group
ordered g done (ps ∷ gs) h (suc k) d lt = ordered g (done ++ ps) gs h.1 k d (omega arith)

group_is : (g : FlowGraph) (gs : List (List ℕ)) → IsGrouping g gs → (k : ℕ) (d : List ℕ) → k < length gs → IsGroup g (slice_index_or gs k d)
group_is g gs h k d lt = ordered g [] gs h k d lt

pub group_ascends : (g : FlowGraph) (groups : List (List ℕ)) (e : ℕ) → IsGrouping g groups → e < length groups → IsStrictlyIncreasing (group_at groups e)
group_ascends g groups e grouping lt = (group_is g groups grouping e [] lt).ascend

pub group_bodies : (g : FlowGraph) (groups : List (List ℕ)) (e : ℕ) → IsGrouping g groups → e < length groups → All (λ (k : ℕ). k < g.bodies) (group_at groups e)
group_bodies g groups e grouping lt = (group_is g groups grouping e [] lt).bodies

pub member_body : (g : FlowGraph) (groups : List (List ℕ)) (e k : ℕ) → IsGrouping g groups → e < length groups → Contains (group_at groups e) k → k < g.bodies
member_body g groups e k grouping lt member = All-contains (λ (j : ℕ). j < g.bodies) (group_at groups e) k (group_bodies g groups e grouping lt) member

pub some_place : (g : FlowGraph) (k : ℕ) → IsFlowGraph g → k < g.bodies → 0 < length (flow_of g k).places
some_place g k graph lt = slice_get_within (flow_of g k).places 0 _ (graph.body k lt).entry
