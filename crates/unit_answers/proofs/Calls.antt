-- Whom the sites of a program call.
use Rattle.std.proofs.Common.{◌≡◌, ℕ, ◌<◌, false, List, [], length, get_or, sym, ap, subst, ◌∙◌, arith}
use Rattle.std.specs.Prelude.{slice_index}
use Rattle.std.specs.List.{All, Contains}
use Rattle.std.proofs.lemmas.List.{length-map, get_or-map, get_or_default}
use Rattle.std.proofs.lemmas.Option.{slice_get-get_or}
use Rattle.conflict_proof.specs.declared.names.ConstraintName.{ConstraintName}
use Rattle.flow_graph.specs.FlowGraph.{FlowGraph}
use Rattle.flow_graph.specs.Fits.{is_in}
use Rattle.path_facts.specs.Tables.{FactTables}
use Rattle.recursion_groups.specs.Calls.{Calls}
use Rattle.recursion_groups.specs.Grouping.{IsGroup, IsGrouping}
use Rattle.recursion_groups.proofs.Each.{group_at}
use Rattle.owner_vars.specs.declared.site.Site.{Site}
use Rattle.owner_vars.specs.Unknowns.{sites, site_callees}
use Rattle.owner_vars.specs.Laws.{CallsOut, NumbersFollow}
use Rattle.owner_vars.proofs.IndexLemmas.{is_in_true}
use Rattle.transfer_rules.specs.Names.{names, clauses_of_name}
use Rattle.verdict_meaning.specs.declared.callee.Callee.{Callee}
use Rattle.verdict_meaning.specs.Systems.{System, root, members, callee, callees}
use Rattle.verdict_meaning.specs.Programs.{system_of, IsSystemOf, group_of, callee_in, clauses_found}
use Rattle.verdict_meaning.proofs.Numbers.{called_is}
use Rattle.unit_answers.specs.declared.layouts.Call.{Call}
use Rattle.unit_answers.specs.Layouts.{IsFace, IsSiteFace, IsCallAt}
use Rattle.unit_answers.proofs.NumberLemmas.{called_lower, group_holds}
use Rattle.unit_answers.proofs.FaceNumbers.{root_callee}

module _ (g : FlowGraph) (facts : FactTables) (groups : List (List ℕ)) (grouping : IsGrouping g groups) (of : IsSystemOf g facts (system_of g facts groups)) where
  abbrev s : System
  s = system_of g facts groups

  pub own_group : (e : ℕ) → e < length groups → IsGroup g (members s e)
  own_group e lt = group_at g [] groups e grouping lt

  -- all procedures of groups have bodies
  pub all_bodies : All (All (λ (k : ℕ). k < g.bodies)) groups
  all_bodies k d lt = subst (λ (ms : List ℕ). All (λ (n : ℕ). n < g.bodies) ms) (get_or_default groups k [] d lt) (own_group k lt).bodies

  module _ (e site k : ℕ) (lower : e < length groups) (there : site < length (callees s e)) (is : k ≡ slice_index (site_callees g (members s e)) site) where
    -- the site itself
    abbrev one : Site
    one = get_or (sites g (members s e)) site (record { proc = 0; place = 0; callee = 0 })

    within : site < length (sites g (members s e))
    within = let many = of.count e lower in let same = length-map (sites g (members s e)) (λ (x : Site). x.callee) in omega arith

    one_callee : one.callee ≡ k
    one_callee = sym (is ∙ get_or-map (λ (x : Site). x.callee) (sites g (members s e)) site (record { proc = 0; place = 0; callee = 0 }) 0 within)

    calls_out : CallsOut g (members s e) one.proc one.place one.callee
    calls_out = (of.sites e lower).calls site one (slice_get-get_or (sites g (members s e)) site (record { proc = 0; place = 0; callee = 0 }) within)

    pub has_body : k < g.bodies
    has_body = subst (λ (n : ℕ). n < g.bodies) one_callee calls_out.body

    calls : Calls g one.proc k
    calls = subst (λ (n : ℕ). Calls g one.proc n) one_callee (record {
      caller = of.bodies e one.proc lower calls_out.member;
      place = one.place;
      edge = calls_out.edge;
      there = calls_out.at;
      call = calls_out.calls;
      callee = calls_out.body;
    })

    not_member : Contains (members s e) k → ⊥
    not_member h =
        let yes = is_in_true (members s e) k h in
        let no : is_in (members s e) k ≡ false = ap (is_in (members s e)) (sym one_callee) ∙ calls_out.outside in
        cc

    pub home_lower : group_of groups k < e
    home_lower = called_lower g groups grouping e one.proc k lower calls_out.member calls not_member

    pub home_holds : Contains (members s (group_of groups k)) k
    home_holds = let less = home_lower in group_holds groups k (omega arith)

    pub callee_is : NumbersFollow g (members s e) → callee s e site ≡ record { proc = k; group = group_of groups k }
    callee_is follow =
        called_is g groups (names g facts) (λ (ms : List ℕ) (n : ConstraintName). clauses_found (clauses_of_name g facts ms n)) e lower follow site there
        ∙ ap (callee_in groups) (sym is)

    pub call_is : NumbersFollow g (members s e) → (home : ℕ) → home ≡ group_of groups k → (c : Call) → c.callee ≡ record { proc = k; group = home } → IsFace s home k c.there → IsSiteFace s e site c.here → IsCallAt s e site c
    call_is follow home at c who face here =
        let whom : c.callee ≡ callee s e site =
        who ∙ ap (λ n. (let q : Callee = record { proc = k; group = n } in q)) at ∙ sym (callee_is follow) in
        let proc : c.callee.proc ≡ k = ap (λ (q : Callee). q.proc) who in
        let group : c.callee.group ≡ home = ap (λ (q : Callee). q.group) who in
        let own : IsFace s c.callee.group c.callee.proc c.there = subst (λ (n : ℕ). IsFace s n c.callee.proc c.there) (sym group) (subst (λ (n : ℕ). IsFace s home n c.there) (sym proc) face) in
        let less = home_lower in
        record {
          callee = whom;
          lower = omega arith;
          size = own.size ∙ ap (λ (q : Callee). s.parts q.proc) whom ∙ sym here.size;
          there = own.numbers;
          there_first = own.first;
          there_last = own.last;
          here = here.numbers;
          here_first = here.first;
          here_last = here.last;
        }

  pub root_call_is : (e k : ℕ) → e < length groups → k ≡ slice_index (members s e) 0 → (c : Call) → c.callee ≡ record { proc = k; group = e } → IsFace s e k c.there → IsSiteFace s (root s) e c.here → IsCallAt s (root s) e c
  root_call_is e k lt is c who face here =
      let whom : c.callee ≡ callee s (root s) e =
      who ∙ ap (λ n. (let q : Callee = record { proc = n; group = e } in q)) is ∙ sym (root_callee g facts groups grouping of e lt) in
      let proc : c.callee.proc ≡ k = ap (λ (q : Callee). q.proc) who in
      let group : c.callee.group ≡ e = ap (λ (q : Callee). q.group) who in
      let own : IsFace s c.callee.group c.callee.proc c.there = subst (λ (n : ℕ). IsFace s n c.callee.proc c.there) (sym group) (subst (λ (n : ℕ). IsFace s e n c.there) (sym proc) face) in
      record {
        callee = whom;
        lower = omega arith;
        size = own.size ∙ ap (λ (q : Callee). s.parts q.proc) whom ∙ sym here.size;
        there = own.numbers;
        there_first = own.first;
        there_last = own.last;
        here = here.numbers;
        here_first = here.first;
        here_last = here.last;
      }
