-- The system of a program is shaped as the search asks.
use Rattle.std.proofs.Common.{◌≡◌, ℕ, zero, suc, ◌+◌, ◌<◌, ◌≤◌, ◌^◌, ◌⊎◌, inl, inr, Bool, true, false, cond, List, [], ◌∷◌, length, map, get_or, Some, slice_get, refl, sym, ap, subst, ◌∙◌, arith}
use Rattle.std.specs.Prelude.{nat_eq, slice_index}
use Rattle.std.specs.List.{Contains}
use Rattle.std.proofs.lemmas.Bool.{cases_eq, cases_lt, eq-eqb, ne_eqb}
use Rattle.std.proofs.lemmas.List.{get_or_past, get_or-map, length-map}
use Rattle.std.proofs.lemmas.List.Elements.{Contains-get_or}
use Rattle.flow_graph.specs.FlowGraph.{FlowGraph}
use Rattle.path_facts.specs.Tables.{FactTables}
use Rattle.recursion_groups.specs.Grouping.{IsGrouping}
use Rattle.recursion_groups.proofs.Each.{group_at}
use Rattle.owner_vars.specs.Unknowns.{site_callees}
use Rattle.verdict_meaning.specs.declared.callee.Callee.{Callee}
use Rattle.verdict_meaning.specs.Systems.{System, root, members, firsts, callee, callees, count, nobody}
use Rattle.verdict_meaning.specs.Programs.{IsSystemOf, system_of, callee_in, group_of}
use Rattle.owner_vars.proofs.IndexLemmas.{is_in_true}
use Rattle.program_shapes.specs.Tables.{KeepsShape}
use Rattle.unit_answers.specs.declared.layouts.Call.{Call}
use Rattle.unit_answers.specs.Layouts.{Numbers, GroupNumbers, IsLayoutOf, IsCallAt, no_numbers}
use Rattle.unit_answers.specs.Layouts as layouts
use Rattle.unit_answers.proofs.Places.{get_below}
use Rattle.unit_answers.proofs.NumberLemmas.{group_holds}
use Rattle.unit_answers.proofs.FaceNumbers.{root_callee, root_many}

module _ (g : FlowGraph) (facts : FactTables) (groups : List (List ℕ)) (grouping : IsGrouping g groups) (of : IsSystemOf g facts (system_of g facts groups)) (l : Numbers) (is : IsLayoutOf (system_of g facts groups) l) where
  abbrev s : System
  s = system_of g facts groups

  own_sites : (e : ℕ) → (e ≡ root s → ⊥) → callees s e ≡ map (callee_in groups) (site_callees g (get_or groups e []))
  own_sites e ne = pick (nat_eq e (root s)) (ne_eqb e (root s) ne)
    where
      pick : (b : Bool) → b ≡ false → cond b (firsts 0 groups) (s.sites e) ≡ s.sites e
      pick true h = cc
      pick false h = refl

  -- beyond the root nothing is called
  none_beyond : (e : ℕ) → root s < e → length (callees s e) ≡ 0
  none_beyond e lt =
      ap (λ (cs : List Callee). length cs) (own_sites e (λ h. omega arith))
      ∙ ap (λ (ms : List ℕ). length (map (callee_in groups) (site_callees g ms))) (get_or_past groups e [] (omega arith))

  call_at : (e site : ℕ) → e ≤ root s → site < length (callees s e) → (c : Call) × IsCallAt s e site c
  call_at e site le lt =
      let own = is.each e le in
      let c = get_below (layouts.group_at l e).calls site (let many = own.sites in omega arith) in
      (c.0, own.each site c.0 c.1)

  lower : (e site : ℕ) → e ≤ root s → site < length (callees s e) → (callee s e site).group < e
  lower e site le lt =
      let c = call_at e site le lt in
      let less : c.0.callee.group < e = c.1.lower in
      subst (λ (d : Callee). d.group < e) c.1.callee less

  below : (e site : ℕ) → site < length (callees s e) → (callee s e site).group < e
  below e site lt = elim (cases_lt (root s) e) [
    | inl gt ↦ absurd (let none = none_beyond e gt in omega arith)
    | inr le ↦ lower e site le lt
  ]

  at_root : (site : ℕ) → site < length (callees s (root s)) → Contains (members s (callee s (root s) site).group) (callee s (root s) site).proc
  at_root site lt =
      let within : site < length groups = (let many = root_many g facts groups grouping of in omega arith) in
      subst (λ (c : Callee). Contains (members s c.group) c.proc) (sym (root_callee g facts groups grouping of site within))
      (Contains-get_or (get_or groups site []) 0 0 (group_at g [] groups site grouping within).some)

  inside : (e site : ℕ) → site < length (callees s e) → (callee s e site).group < root s
  inside e site lt = elim (cases_lt (root s) e) [
    | inl gt ↦ absurd (let none = none_beyond e gt in omega arith)
    | inr le ↦ (let less = lower e site le lt in omega arith)
  ]

  in_group : (e site : ℕ) → (e ≡ root s → ⊥) → site < length (callees s e) → Contains (members s (callee s e site).group) (callee s e site).proc
  in_group e site ne lt =
      let calls = own_sites e ne in
      let many : length (callees s e) ≡ length (site_callees g (get_or groups e [])) = ap (λ (cs : List Callee). length cs) calls ∙ length-map (site_callees g (get_or groups e [])) (callee_in groups) in
      let who : callee s e site ≡ callee_in groups (get_or (site_callees g (get_or groups e [])) site 0) =
      ap (λ (cs : List Callee). get_or cs site nobody) calls ∙ get_or-map (callee_in groups) (site_callees g (get_or groups e [])) site 0 nobody (omega arith) in
      let home : group_of groups (get_or (site_callees g (get_or groups e [])) site 0) < length groups = subst (λ (c : Callee). c.group < length groups) who (inside e site lt) in
      subst (λ (c : Callee). Contains (members s c.group) c.proc) (sym who) (group_holds groups (get_or (site_callees g (get_or groups e [])) site 0) home)

  held : (e site : ℕ) → site < length (callees s e) → Contains (members s (callee s e site).group) (callee s e site).proc
  held e site lt = elim (cases_eq e (root s)) [
    | inl same ↦ subst (λ (d : ℕ). Contains (members s (callee s d site).group) (callee s d site).proc) (sym same) (at_root site (subst (λ (d : ℕ). site < length (callees s d)) same lt))
    | inr ne ↦ in_group e site ne lt
  ]

  pub keeps : KeepsShape s
  keeps = record {
    below = below;
    inside = inside;
    held = λ e site lt. is_in_true (members s (callee s e site).group) (callee s e site).proc (held e site lt);
    groups = (let few = is.few in let many = is.groups in omega arith);
    small = λ e le. (let own = is.each e le in let n = own.count in let few = own.small in omega arith);
    few = λ e le. (let own = is.each e le in let n = own.sites in let few = own.few in omega arith);
  }
