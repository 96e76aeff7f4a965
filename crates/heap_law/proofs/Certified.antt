-- A good certificate of a program is a good marking of its graph.
use Rattle.std.proofs.Common.{◌≡◌, ◌<◌, ◌≤◌, ◌&&◌, ◌||◌, ◌⊎◌, ◌∷◌, ◌++◌, ◌∙◌, [], inl, inr, ⊎_elim, zero, suc, ℕ, Bool, true, false, cond, List, length, map, refl, sym, ap, subst, arith, eqb, ltb, get_or, slice_get, slice_index_or, Option, Some, None}
use Rattle.std.specs.Prelude.{slice_index}
use Rattle.std.specs.List.{Contains, position_or_len}
use Rattle.std.proofs.lemmas.Bool.{and_parts, ltb-true, ltb-false, lt-ltb, eqb-true, eq-eqb, or_cases, cases_eq}
use Rattle.std.proofs.lemmas.List.{get_or_append_left, get_or_past, length-map, get_or_default}
use Rattle.std.proofs.lemmas.List.Sums.{passes_at_first, fails_before_first}
use Rattle.std.proofs.lemmas.Option.{slice_get-get_or, slice_get_within, get_or_from_slice_get}
use Rattle.c_types.specs.Types.{is_pointer}
use Rattle.flow_graph.specs.declared.action.Action.{Action}
use Rattle.flow_graph.specs.declared.action.Action.TheVariants as act
use Rattle.flow_graph.specs.declared.action.Edge.{Edge}
use Rattle.flow_graph.specs.Calls.{callee_of}
use Rattle.flow_graph.specs.FlowGraph.{FlowGraph, flow_of, edges_from, members_of, member_type}
use Rattle.flow_graph.specs.Fits.{is_in, other_side, AreWays, out_of, IsFlowGraph}
use Rattle.path_facts.specs.Tables.{FactTables, AreFactsOf}
use Rattle.owner_vars.specs.Unknowns.{Unknown, Pi, Sigma, parts_of, sites, site_callees, unknowns, number_of}
use Rattle.owner_vars.specs.declared.site.Site.{Site}
use Rattle.owner_vars.specs.Fields.{field_number, part_of}
use Rattle.owner_vars.specs.Sites.{is_site_of, site_at}
use Rattle.owner_vars.specs.Laws.{FieldsAreNumbered, PartsAreNumbered, IsSiteAt, SitesAreNumbered}
use Rattle.own_cert.specs.declared.certificate.Instance.{Instance}
use Rattle.own_cert.specs.declared.certificate.Certificate.{Certificate}
use Rattle.transfer_rules.specs.Body.{part_at, sight}
use Rattle.transfer_rules.specs.Rules.{body_of}
use Rattle.verdict_meaning.specs.Systems.{System, members, callee as site_callee, callees, pi_numbers, sigma_numbers}
use Rattle.verdict_meaning.specs.Solutions.{all_names}
use Rattle.verdict_meaning.specs.Certificates.{bit_at, IsSite, IsGoodInstance, IsGoodIn, IsInstanceOf}
use Rattle.verdict_meaning.specs.Programs.{IsSystemOf}
use Rattle.verdict_meaning.proofs.Good.{asked_is_had}
use Rattle.heap_meaning.proofs.Lists.{by_bool, differ}
use Rattle.heap_law.specs.Assigned.{phi_of, own_face, callee_face}
use Rattle.heap_law.specs.Markings.{Marking, called, CallsInto}
use Rattle.heap_law.specs.Instances.{CallAgrees, AreInstances}
use Rattle.heap_law.specs.Law.{IsCertified}
use Rattle.heap_law.specs.Certified.{no_instance, instance_at, members_in, value_in, named_at, marking_of}
use Rattle.heap_law.proofs.FieldCounts.{has_pointer}
use Rattle.heap_law.proofs.Instances.{faces_same, instances_good}

-- Numbers among others

contains_in : (xs : List ℕ) (x : ℕ) → Contains xs x → is_in xs x ≡ true
contains_in [] x there = absurd (let lt = there.1 in omega arith)
contains_in (y ∷ ys) x (zero, lt, e) = on_first (eqb x y) (is_in ys x) (eq-eqb x y (sym e))
  where
    on_first : (a b : Bool) → a ≡ true → (a || b) ≡ true
    on_first true b e = refl
    on_first false b e = cc
contains_in (y ∷ ys) x (suc k, lt, e) = on_second (eqb x y) (is_in ys x) (contains_in ys x (k, omega arith, e))
  where
    on_second : (a b : Bool) → b ≡ true → (a || b) ≡ true
    on_second true b e = refl
    on_second false b e = e

in_contains : (xs : List ℕ) (x : ℕ) → is_in xs x ≡ true → Contains xs x
in_contains [] x e = cc
in_contains (y ∷ ys) x e =
    ⊎_elim (λ (h : eqb x y ≡ true). (0, omega arith, sym (eqb-true x y h)))
    (λ (h : is_in ys x ≡ true). let there = in_contains ys x h in (suc there.0, (let lt = there.1 in omega arith), there.2)) (or_cases (eqb x y) (is_in ys x) e)

both : (a b : Bool) → a ≡ true → b ≡ true → (a && b) ≡ true
both true b e f = f
both false b e f = cc

-- Assignments by lists

fused : (a : ℕ → Bool) (number : Unknown → ℕ) (u : ℕ → Unknown) (xs : List ℕ) → map a (map number (map u xs)) ≡ map (λ x. a (number (u x))) xs
fused a number u [] = refl
fused a number u (x ∷ xs) = ap (λ (bs : List Bool). a (number (u x)) ∷ bs) (fused a number u xs)

same_each : (f h : ℕ → Bool) (xs : List ℕ) → map f xs ≡ map h xs → (x : ℕ) → Contains xs x → f x ≡ h x
same_each f h [] e x there = absurd (let lt = there.1 in omega arith)
same_each f h (y ∷ ys) e x (zero, lt, is) = (let first : f y ≡ h y = cc in ap f (sym is) ∙ first ∙ ap h is)
same_each f h (y ∷ ys) e x (suc k, lt, is) = same_each f h ys (let rest : map f ys ≡ map h ys = cc in rest) x (k, omega arith, is)

-- the first bits
first_bits : (xs ys : List Bool) (n : ℕ) → 0 < n → n ≤ length xs → bit_at (xs ++ ys) n ≡ bit_at xs n
first_bits xs ys zero some within = absurd (omega arith)
first_bits xs ys (suc n) some within = get_or_append_left xs ys false n (omega arith)

-- Edges of a place where a call begins

no_call : (a d : Action) → other_side a ≡ Some d → (callee_of a ≡ None) × (callee_of d ≡ None)
no_call (act.IsNull x) d e = let is : d ≡ act.NotNull x = cc in (refl, rw is refl)
no_call (act.FieldNull y f) d e = let is : d ≡ act.FieldSet y f = cc in (refl, rw is refl)
no_call (act.NonZero x) d e = let is : d ≡ act.Zero x = cc in (refl, rw is refl)
no_call (act.Equal x y) d e = let is : d ≡ act.Differ x y = cc in (refl, rw is refl)
no_call a d e = cc

-- all calls of a place call one procedure
one_call : (es : List Edge) → AreWays es → (e d : Edge) → Contains es e → Contains es d → (k l : ℕ) → callee_of e.action ≡ Some k → callee_of d.action ≡ Some l → k ≡ l
one_call [] ways e d there there' k l ck cl = absurd ways
one_call (w ∷ []) ways e d there there' k l ck cl =
    let e_is : w ≡ e = only there in
    let d_is : w ≡ d = only there' in
    let same : e ≡ d = sym e_is ∙ d_is in
    let c : callee_of e.action ≡ callee_of d.action = ap (λ (x : Edge). callee_of x.action) same in cc
  where
    only : {x : Edge} → Contains (w ∷ []) x → w ≡ x
    only (zero, lt, is) = is
    only (suc n, lt, is) = absurd (omega arith)
one_call (v ∷ w ∷ []) ways e d there there' k l ck cl =
    let none = no_call v.action w.action ways in absurd (never e none.0 none.1 there ck)
  where
    never : (x : Edge) → callee_of v.action ≡ None → callee_of w.action ≡ None → Contains (v ∷ w ∷ []) x → callee_of x.action ≡ Some k → ⊥
    never x nv nw (zero, lt, is) c = clash (sym (ap (λ (y : Edge). callee_of y.action) is) ∙ nv) c
      where
        clash : callee_of x.action ≡ None → callee_of x.action ≡ Some k → ⊥
        clash n s = cc
    never x nv nw (suc zero, lt, is) c = clash (sym (ap (λ (y : Edge). callee_of y.action) is) ∙ nw) c
      where
        clash : callee_of x.action ≡ None → callee_of x.action ≡ Some k → ⊥
        clash n s = cc
    never x nv nw (suc (suc n), lt, is) c = absurd (omega arith)
one_call (u ∷ v ∷ w ∷ es) ways e d there there' k l ck cl = absurd ways

module _ (g : FlowGraph) (graph : IsFlowGraph g) (k : ℕ) (body : k < g.bodies) where
  -- an edge leads from no place but those before the exit
  edge_place : (p : ℕ) (e : Edge) → Contains (edges_from g k p) e → (p < length (flow_of g k).places) × (p < out_of g k)
  edge_place p e there =
      let is = graph.body k body in
      let rows = is.rows in
      let last = is.last in
      let some = there.1 in
      by_bool (ltb p (length (flow_of g k).edges))
      (λ lt.
      let small = ltb-true p (length (flow_of g k).edges) lt in
      ⊎_elim (λ (out : p ≡ out_of g k). let none = ap length (ap (edges_from g k) out ∙ last) in absurd (omega arith)) (λ (ne : p ≡ out_of g k → ⊥). (omega arith, omega arith)) (cases_eq p (out_of g k)))
      (λ ge.
      let none = ap length (get_or_past (flow_of g k).edges p [] (ltb-false p (length (flow_of g k).edges) ge)) in absurd (omega arith))

-- a site that is found is at the place
site_is : (ss : List Site) (k p n : ℕ) (d : Site) → cond (ltb (position_or_len (is_site_of k p) ss) (length ss)) (Some (position_or_len (is_site_of k p) ss)) None ≡ Some n
    → (n < length ss) × (is_site_of k p (get_or ss n d) ≡ true)
site_is ss k p n d e = by_test (ltb (position_or_len (is_site_of k p) ss) (length ss)) refl e
  where
    by_test : (b : Bool) → ltb (position_or_len (is_site_of k p) ss) (length ss) ≡ b → cond b (Some (position_or_len (is_site_of k p) ss)) None ≡ Some n → (n < length ss) × (is_site_of k p (get_or ss n d) ≡ true)
    by_test true lt e =
        let is : position_or_len (is_site_of k p) ss ≡ n = cc in
        let small = ltb-true (position_or_len (is_site_of k p) ss) (length ss) lt in
        (omega arith, ap (λ (m : ℕ). is_site_of k p (get_or ss m d)) (sym is) ∙ passes_at_first (is_site_of k p) ss d small)
    by_test false lt e = cc

module _ (g : FlowGraph) (facts : FactTables) (s : System) (c : Certificate) (graph : IsFlowGraph g) (facts_are : AreFactsOf g facts) (fields : FieldsAreNumbered g) (parts : (k : ℕ) → PartsAreNumbered (flow_of g k))
    (system : IsSystemOf g facts s) (good : IsGoodIn s all_names c) where
  abbrev marks : Marking
  marks = marking_of g facts s c

  abbrev ms : ℕ → List ℕ
  ms = members_in s c

  abbrev value : ℕ → ℕ → Bool
  value = value_in s c

  -- An instance that has a procedure

  record Has (i k : ℕ) : Type 0 where
    there : slice_get c.instances i ≡ Some (instance_at c i)
    ok : IsGoodInstance s all_names c i (instance_at c i)
    member : Contains (ms i) k

  has_of : (i k : ℕ) → marks.has i k ≡ true → Has i k
  has_of i k has =
      let p = and_parts (ltb i (length c.instances)) (is_in (ms i) k) has in
      let there : slice_get c.instances i ≡ Some (instance_at c i) = slice_get-get_or c.instances i no_instance (ltb-true i (length c.instances) p.0) in
      record { there = there; ok = good.each i (instance_at c i) there; member = in_contains (ms i) k p.1 }

  body_is : (i k : ℕ) → Has i k → k < g.bodies
  body_is i k has = system.bodies (instance_at c i).group k has.ok.group has.member

  -- phi is that of the first bits

  phi_is : (i k z f : ℕ) → Has i k → phi_of (body_of g facts (ms i) k) (value i) z f ≡ marks.phi z f
  phi_is i k z f has = and_same (is_pointer (member_type g z f)) (value i ((sight (body_of g facts (ms i) k)).phi (field_number g z f))) (bit_at c.phi (field_number g z f)) (λ pointer.
      let at = has_pointer (members_of g z) f pointer in
      let above = fields.above z f at in
      let within = fields.within z f at in
      let long = good.phi in
      let count = system.fields in
      ap (value i) (system.field (instance_at c i).group (field_number g z f) has.ok.group above within)
      ∙ first_bits c.phi _ (field_number g z f) above (omega arith))
    where
      and_same : (b x y : Bool) → (b ≡ true → x ≡ y) → (b && x) ≡ (b && y)
      and_same true x y same = same refl
      and_same false x y same = refl

  -- Calls

  -- a call inside the group has no site, and one out of it has one
  record Inside (i k p callee : ℕ) : Type 0 where
    none : site_at g (ms i) k p ≡ None
    member : is_in (ms i) callee ≡ true

  record Outside (i k p callee : ℕ) : Type 0 where
    site : ℕ
    is : site_at g (ms i) k p ≡ Some site
    within : site < length (sites g (ms i))
    called_is : slice_index (site_callees g (ms i)) site ≡ callee

  resolved : (i k p callee : ℕ) (e : Edge) → Has i k → Contains (edges_from g k p) e → callee_of e.action ≡ Some callee → callee < g.bodies → Inside i k p callee ⊎ Outside i k p callee
  resolved i k p callee e has there calls small =
      by_bool (is_in (ms i) callee)
      (λ inside. inl (record { none = no_site inside (site_at g (ms i) k p) refl; member = inside }))
      (λ outside.
      let place = edge_place g graph k (body_is i k has) p e there in
      let found : (site : ℕ) × IsSiteAt g (ms i) k p callee site = sites_are.there k p callee (record { member = has.member; place = place.0; edge = e; at = there; calls = calls; body = small; outside = outside }) in
      inr (record { site = found.0; is = found.1.number; within = found.1.within; called_is = found.1.called }))
    where
      sites_are : SitesAreNumbered g (ms i)
      sites_are = system.sites (instance_at c i).group has.ok.group

      no_site : is_in (ms i) callee ≡ true → (o : Option ℕ) → site_at g (ms i) k p ≡ o → o ≡ None
      no_site inside None is = refl
      no_site inside (Some n) is =
          let d : Site = record { proc = 0; place = 0; callee = 0 } in
          let found = site_is (sites g (ms i)) k p n d is in
          let at : Site = get_or (sites g (ms i)) n d in
          let out = sites_are.calls n at (slice_get-get_or (sites g (ms i)) n d found.0) in
          let here = and_parts (eqb at.proc k) (eqb at.place p) found.1 in
          let proc_is = eqb-true at.proc k here.0 in
          let place_is = eqb-true at.place p here.1 in
          let also : Contains (edges_from g k p) out.edge = subst (λ (l : ℕ). Contains (edges_from g l p) out.edge) proc_is (subst (λ (q : ℕ). Contains (edges_from g at.proc q) out.edge) place_is out.at) in
          let place = edge_place g graph k (body_is i k has) p e there in
          let same = one_call (edges_from g k p) ((graph.body k (body_is i k has)).ways p place.1) e out.edge there also callee at.callee calls out.calls in
          absurd (differ {P = ⊥} (is_in (ms i) callee) inside (ap (is_in (ms i)) same ∙ out.outside))

  -- the instance that is named for a call out of the group
  record Named (i k p callee : ℕ) : Type 0 where
    number : ℕ
    is : marks.site i k p ≡ Some number
    instance : Instance
    there : slice_get c.instances number ≡ Some instance
    entry : instance.entry ≡ callee
    site : ℕ
    at : site_at g (ms i) k p ≡ Some site
    within : site < length (callees s (instance_at c i).group)
    names : slice_get (instance_at c i).sites site ≡ Some number
    procedure : (site_callee s (instance_at c i).group site).proc ≡ callee

  named : (i k p callee : ℕ) → Has i k → Outside i k p callee → Named i k p callee
  named i k p callee has out =
      let e : ℕ = (instance_at c i).group in
      let as_many = system.count e has.ok.group in
      let many = length-map (sites g (ms i)) (λ (x : Site). x.callee) in
      let count = has.ok.count in
      let below = out.within in
      let within : out.site < length (callees s e) = omega arith in
      let names : slice_get (instance_at c i).sites out.site ≡ Some (get_or (instance_at c i).sites out.site 0) = slice_get-get_or (instance_at c i).sites out.site 0 (omega arith) in
      let m : ℕ = get_or (instance_at c i).sites out.site 0 in
      let right : IsSite s c.instances i (site_callee s e out.site) m = has.ok.sites out.site m names in
      let procedure = system.called e out.site has.ok.group within ∙ out.called_is in
      record {
        number = m;
        is = ap (named_at c i) out.is ∙ names;
        instance = right.instance;
        there = right.there;
        entry = right.entry ∙ procedure;
        site = out.site;
        at = out.is;
        within = within;
        names = names;
        procedure = procedure;
      }

  at_instance : (n : ℕ) (j : Instance) → slice_get c.instances n ≡ Some j → instance_at c n ≡ j
  at_instance n j there = get_or_from_slice_get c.instances n j no_instance there

  -- the named instance has the procedure called
  named_has : (i k p callee : ℕ) → Named i k p callee → marks.has (called marks i k p) callee ≡ true
  named_has i k p callee n =
      let entry : Contains (members s n.instance.group) n.instance.entry = (good.each n.number n.instance n.there).entry in
      let here : is_in (ms n.number) callee ≡ true = ap (λ (j : Instance). is_in (members s j.group) callee) (at_instance n.number n.instance n.there) ∙ ap (is_in (members s n.instance.group)) (sym n.entry) ∙ contains_in (members s n.instance.group) n.instance.entry entry in
      let there : ltb n.number (length c.instances) ≡ true = lt-ltb n.number (length c.instances) (slice_get_within c.instances n.number n.instance n.there) in
      ap (λ (o : Option ℕ). marks.has (elim o [ None ↦ i | Some j ↦ j ]) callee) n.is ∙ both (ltb n.number (length c.instances)) (is_in (ms n.number) callee) there here

  stays : (i k p : ℕ) → site_at g (ms i) k p ≡ None → called marks i k p ≡ i
  stays i k p none = ap (λ (o : Option ℕ). elim (named_at c i o) [ None ↦ i | Some j ↦ j ]) none

  -- Agreement of what a call asks for and the interface of the procedure called

  -- each part of an interface has one value at the site and in the instance that it names
  part_same : (i k p callee : ℕ) → Has i k → (n : Named i k p callee) → (part : ℕ) → Contains (parts_of (flow_of g callee)) part
      → value i (number_of (unknowns g (ms i)) (Sigma n.site part)) ≡ value n.number (number_of (unknowns g (ms n.number)) (Pi callee part))
  part_same i k p callee has n part there =
      let e : ℕ = (instance_at c i).group in
      let at = at_instance n.number n.instance n.there in
      let inst : Instance = instance_at c n.number in
      let inst_there : slice_get c.instances n.number ≡ Some inst = n.there ∙ ap (λ (j : Instance). let o : Option Instance = Some j in o) (sym at) in
      let ok : IsGoodInstance s all_names c n.number inst = good.each n.number inst inst_there in
      let proc : ℕ = (site_callee s e n.site).proc in
      let entry : inst.entry ≡ proc = ap (λ (j : Instance). j.entry) at ∙ n.entry ∙ sym n.procedure in
      let had = asked_is_had s all_names c good i (instance_at c i) has.there n.site n.number n.names inst inst_there entry in
      let asks : map (value i) (sigma_numbers s e n.site) ≡ map (λ x. value i (number_of (unknowns g (ms i)) (Sigma n.site x))) (parts_of (flow_of g proc)) =
      ap (map (value i)) (sym ((system.numbers e has.ok.group).sigma n.site n.within)) ∙ fused (value i) (number_of (unknowns g (ms i))) (Sigma n.site) (parts_of (flow_of g proc)) in
      let member : Contains (members s inst.group) proc = subst (λ (q : ℕ). Contains (members s inst.group) q) entry ok.entry in
      let has_it : map (value n.number) (pi_numbers s inst.group proc) ≡ map (λ x. value n.number (number_of (unknowns g (ms n.number)) (Pi proc x))) (parts_of (flow_of g proc)) =
      ap (map (value n.number)) (sym ((system.numbers inst.group ok.group).pi proc member)) ∙ fused (value n.number) (number_of (unknowns g (ms n.number))) (Pi proc) (parts_of (flow_of g proc)) in
      let all : (x : ℕ) → Contains (parts_of (flow_of g proc)) x → value i (number_of (unknowns g (ms i)) (Sigma n.site x)) ≡ value n.number (number_of (unknowns g (ms n.number)) (Pi proc x)) =
      same_each _ _ (parts_of (flow_of g proc)) (sym asks ∙ sym had ∙ has_it) in
      subst (λ (q : ℕ). (x : ℕ) → Contains (parts_of (flow_of g q)) x → value i (number_of (unknowns g (ms i)) (Sigma n.site x)) ≡ value n.number (number_of (unknowns g (ms n.number)) (Pi q x))) n.procedure all part there

  agree_outside : (i k p callee : ℕ) → Has i k → (n : Named i k p callee) → callee_face (body_of g facts (ms i) k) (value i) p callee ≡ own_face (body_of g facts (ms n.number) callee) (value n.number)
  agree_outside i k p callee has n =
      faces_same g facts ms value i k p n.number callee
      (λ x pointer. ap (λ (o : Option ℕ). value i (number_of (unknowns g (ms i)) (part_at o callee (part_of (flow_of g callee).params x)))) n.at
      ∙ part_same i k p callee has n (part_of (flow_of g callee).params x) ((parts callee).param x (has_pointer (flow_of g callee).params x pointer)))
      (λ pointer. ap (λ (o : Option ℕ). value i (number_of (unknowns g (ms i)) (part_at o callee 0))) n.at ∙ part_same i k p callee has n 0 ((parts callee).result pointer))

  agree_inside : (i k p callee : ℕ) → site_at g (ms i) k p ≡ None → callee_face (body_of g facts (ms i) k) (value i) p callee ≡ own_face (body_of g facts (ms i) callee) (value i)
  agree_inside i k p callee none =
      faces_same g facts ms value i k p i callee
      (λ x pointer. ap (λ (o : Option ℕ). value i (number_of (unknowns g (ms i)) (part_at o callee (part_of (flow_of g callee).params x)))) none)
      (λ pointer. ap (λ (o : Option ℕ). value i (number_of (unknowns g (ms i)) (part_at o callee 0))) none)

  agrees : (i k p callee : ℕ) (e : Edge) → Has i k → Contains (edges_from g k p) e → callee_of e.action ≡ Some callee → callee < g.bodies
      → callee_face (body_of g facts (ms i) k) (value i) p callee ≡ own_face (body_of g facts (ms (called marks i k p)) callee) (value (called marks i k p))
  agrees i k p callee e has there calls small = elim (resolved i k p callee e has there calls small) [
    | inl inside ↦ subst (λ (j : ℕ). callee_face (body_of g facts (ms i) k) (value i) p callee ≡ own_face (body_of g facts (ms j) callee) (value j)) (sym (stays i k p inside.none)) (agree_inside i k p callee inside.none)
    | inr outside ↦ let n = named i k p callee has outside in
        subst (λ (j : ℕ). callee_face (body_of g facts (ms i) k) (value i) p callee ≡ own_face (body_of g facts (ms j) callee) (value j)) (sym (ap (λ (o : Option ℕ). elim o [ None ↦ i | Some j ↦ j ]) n.is)) (agree_outside i k p callee has n)
  ]

  leads : (i k p callee : ℕ) (e : Edge) → marks.has i k ≡ true → Contains (edges_from g k p) e → callee_of e.action ≡ Some callee → callee < g.bodies → marks.has (called marks i k p) callee ≡ true
  leads i k p callee e has there calls small = elim (resolved i k p callee e (has_of i k has) there calls small) [
    | inl inside ↦ ap (λ (j : ℕ). marks.has j callee) (stays i k p inside.none) ∙ both (ltb i (length c.instances)) (is_in (ms i) callee) (and_parts (ltb i (length c.instances)) (is_in (ms i) k) has).0 inside.member
    | inr outside ↦ named_has i k p callee (named i k p callee (has_of i k has) outside)
  ]

  -- by the action of an edge

  call_agrees : (i k p : ℕ) (a : Action)
      → ((callee : ℕ) → callee_of a ≡ Some callee → callee < g.bodies → callee_face (body_of g facts (ms i) k) (value i) p callee ≡ own_face (body_of g facts (ms (called marks i k p)) callee) (value (called marks i k p)))
      → CallAgrees g (λ j l. body_of g facts (ms j) l) value i k p (called marks i k p) a
  call_agrees i k p (act.Call r callee us) h = h callee refl
  call_agrees i k p a h = tt

  calls_into : (j : ℕ) (a : Action) → ((callee : ℕ) → callee_of a ≡ Some callee → callee < g.bodies → marks.has j callee ≡ true) → CallsInto g marks j a
  calls_into j (act.Call r callee us) h = h callee refl
  calls_into j a h = tt

  edge_there : (k p n : ℕ) (d : Edge) → n < length (edges_from g k p) → Contains (edges_from g k p) (slice_index_or (edges_from g k p) n d)
  edge_there k p n d lt = (n, lt, get_or_default (edges_from g k p) n _ d lt)

  -- `main` has an instance
  main_has : marks.has marks.first g.main_proc ≡ true
  main_has =
      let e = system.main in
      let one : IsInstanceOf c.instances e.0 = good.all e.0 e.1 in
      let test : Instance → Bool = λ (i : Instance). is_in (members s i.group) g.main_proc in
      let passes : test one.instance ≡ true = ap (λ (q : ℕ). is_in (members s q) g.main_proc) one.group ∙ contains_in (members s e.0) g.main_proc e.2 in
      let small : position_or_len test c.instances < length c.instances = first_below test c.instances one.number one.instance one.there passes in
      both (ltb (position_or_len test c.instances) (length c.instances)) (is_in (ms (position_or_len test c.instances)) g.main_proc) (lt-ltb _ _ small) (passes_at_first test c.instances no_instance small)
    where
      first_below : (test : Instance → Bool) (is : List Instance) (n : ℕ) (i : Instance) → slice_get is n ≡ Some i → test i ≡ true → position_or_len test is < length is
      first_below test is n i there passes =
          by_bool (ltb (position_or_len test is) (length is)) (λ e. ltb-true _ _ e)
          (λ e.
          let ge = ltb-false (position_or_len test is) (length is) e in
          let within = slice_get_within is n i there in
          let off = fails_before_first test is n i (omega arith) in
          differ (test i) passes (ap test (sym (get_or_from_slice_get is n i i there)) ∙ off))

  are_instances : AreInstances g facts ms value marks
  are_instances = record {
    bodies = λ i k has. body_is i k (has_of i k has);
    rules = λ i k has. let is = has_of i k has in system.rules (instance_at c i).group k (value i) is.ok.group is.ok.local is.member;
    phi = λ i k z f has. phi_is i k z f (has_of i k has);
    marks = λ i k p has. refl;
    face = λ i k has. refl;
    agree = λ i k p has n d lt. call_agrees i k p (slice_index_or (edges_from g k p) n d).action (λ callee calls small. agrees i k p callee (slice_index_or (edges_from g k p) n d) (has_of i k has) (edge_there k p n d lt) calls small);
    main = main_has;
    calls = λ i k p has n d lt. calls_into (called marks i k p) (slice_index_or (edges_from g k p) n d).action (λ callee calls small. leads i k p callee (slice_index_or (edges_from g k p) n d) has (edge_there k p n d lt) calls small);
  }

  pub certified : IsCertified g facts marks
  certified = record { graph = graph; facts_are = facts_are; good = instances_good g facts ms value marks graph fields are_instances }
