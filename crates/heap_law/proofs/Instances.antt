-- Instances whose assignments meet the rules are a good certificate.
use Rattle.std.proofs.Common.{◌≡◌, ◌<◌, ◌&&◌, ◌∙◌, ℕ, Bool, true, false, [], List, length, refl, sym, ap, arith, ltb, Option, slice_index_or, All}
use Rattle.std.proofs.lemmas.List.{get_or_past}
use Rattle.std.proofs.lemmas.Bool.{ltb-true, ltb-false}
use Rattle.c_types.specs.declared.kinds.SlotType.TheVariants as type
use Rattle.c_types.specs.Types.{is_pointer}
use Rattle.flow_graph.specs.declared.action.Action.{Action}
use Rattle.flow_graph.specs.declared.action.Action.TheVariants as act
use Rattle.flow_graph.specs.declared.action.Edge.{Edge}
use Rattle.flow_graph.specs.FlowGraph.{FlowGraph, flow_of, has_body, edges_from, type_in, slot_type}
use Rattle.flow_graph.specs.Fits.{CallFits, ActionFits, IsFlowGraph}
use Rattle.path_facts.specs.Tables.{FactTables}
use Rattle.owner_vars.specs.Fields.{part_of}
use Rattle.owner_vars.specs.Laws.{FieldsAreNumbered}
use Rattle.transfer_rules.specs.Body.{Body, setting}
use Rattle.owner_vars.specs.Unknowns.{returns_pointer}
use Rattle.transfer_rules.specs.Rules.{body_of}
use Rattle.heap_meaning.proofs.Lists.{by_bool, differ, at_get}
use Rattle.heap_law.specs.Rules.{Marks, Known, Face, Owning, known_at, CallRules, Rules, EdgeHolds, PlaceHolds}
use Rattle.heap_law.specs.Markings.{Marking, called, CallsInto, IsGood}
use Rattle.heap_law.proofs.Externs.{no_pointer_result}
use Rattle.heap_law.specs.Assigned.{phi_of, own_face, callee_face}
use Rattle.heap_law.specs.Instances.{CallAgrees, AreInstances}
use Rattle.std.specs.Prelude.{⊤}
use Rattle.heap_law.proofs.ByMembers.{edges_hold, places_hold}

off_body : (b x y : Bool) → b ≡ false → (b && x) ≡ (b && y)
off_body b x y e = rw e refl

-- Other faces, the same for procedures with bodies

module _ (g : FlowGraph) (graph : IsFlowGraph g) (k : ℕ) (phi : Owning) (m m' : Marks) (e : Known) (face face' : ℕ → Face) where
  abbrev Agrees : Action → Type 0
  Agrees (act.Call r callee us) = callee < g.bodies → face callee ≡ face' callee
  Agrees _ = ⊤

  call_change : (r : Option ℕ) (callee : ℕ) (us : List ℕ) → CallFits g (flow_of g k).slots r callee us → (callee < g.bodies → face callee ≡ face' callee)
      → CallRules g phi (slot_type g k) m m' e (face callee) (has_body g callee) r us → CallRules g phi (slot_type g k) m m' e (face' callee) (has_body g callee) r us
  call_change r callee us fits same h =
      by_bool (has_body g callee)
      (λ on. rw (← same (ltb-true callee g.bodies on)) h)
      (λ off. record {
        target = h.target;
        closed = h.closed;
        arg = λ j u at pointer em. h.arg j u at pointer em ∙ off_body (has_body g callee) ((face callee).param j) ((face' callee).param j) off;
        result = λ x is pointer.
            let p = no_pointer_result (flow_of g k).slots r (flow_of g callee).result x fits.result (graph.external callee (ltb-false callee g.bodies off) fits.exists).result is in
            let ty : slot_type g k x ≡ p.0 = at_get (flow_of g k).slots x p.0 type.Int p.1 in
            differ (is_pointer (slot_type g k x)) pointer (ap is_pointer ty ∙ p.2);
        arg_closed = h.arg_closed;
        call_closed = λ y f out fr om.
            let seal = h.call_closed y f out fr om in
            record {
              owns = seal.owns;
              fields = seal.fields;
              args = λ j u at ty em. off_body (has_body g callee) ((face' callee).param j) ((face callee).param j) off ∙ seal.args j u at ty em;
            };
      })

  rules_change : (a : Action) → ActionFits g (flow_of g k).slots a → Agrees a → Rules g phi (slot_type g k) m m' e face a → Rules g phi (slot_type g k) m m' e face' a
  rules_change (act.Unset x) fits same h = h
  rules_change (act.Null x) fits same h = h
  rules_change (act.Text x n) fits same h = h
  rules_change (act.Copy x y) fits same h = h
  rules_change (act.New x zeroed kind count) fits same h = h
  rules_change (act.Free x) fits same h = h
  rules_change (act.Load x y f) fits same h = h
  rules_change (act.Store y f x) fits same h = h
  rules_change (act.Call r callee us) fits same h = call_change r callee us fits same h
  rules_change a fits same h = tt

  edge_change : (a : Action) → ActionFits g (flow_of g k).slots a → Agrees a → EdgeHolds g phi (slot_type g k) m m' e face a → EdgeHolds g phi (slot_type g k) m m' e face' a
  edge_change a fits same h = record { same = h.same; rules = rules_change a fits same h.rules }

-- When a call and the procedure called agree

module _ (g : FlowGraph) (ts : FactTables) (members : ℕ → List ℕ) (value : ℕ → ℕ → Bool) (i k p j : ℕ) where
  and_same : (b x y : Bool) → (b ≡ true → x ≡ y) → (b && x) ≡ (b && y)
  and_same true x y same = same refl
  and_same false x y same = refl

  -- where each part of the interface has one value in both
  pub faces_same : (callee : ℕ)
      → ((x : ℕ) → is_pointer (type_in (flow_of g callee).params x) ≡ true
      → value i ((setting (body_of g ts (members i) k)).part p callee (part_of (flow_of g callee).params x)) ≡ value j ((setting (body_of g ts (members j) callee)).pi (part_of (flow_of g callee).params x)))
      → (returns_pointer (flow_of g callee).result ≡ true → value i ((setting (body_of g ts (members i) k)).part p callee 0) ≡ value j ((setting (body_of g ts (members j) callee)).pi 0))
      → callee_face (body_of g ts (members i) k) (value i) p callee ≡ own_face (body_of g ts (members j) callee) (value j)
  faces_same callee params result = λ at. record {
    param = λ x. and_same (is_pointer (type_in (flow_of g callee).params x)) (value i ((setting (body_of g ts (members i) k)).part p callee (part_of (flow_of g callee).params x))) (value j ((setting (body_of g ts (members j) callee)).pi (part_of (flow_of g callee).params x))) (params x) at;
    result = and_same (returns_pointer (flow_of g callee).result) (value i ((setting (body_of g ts (members i) k)).part p callee 0)) (value j ((setting (body_of g ts (members j) callee)).pi 0)) result at;
  }

module _ (g : FlowGraph) (ts : FactTables) (members : ℕ → List ℕ) (value : ℕ → ℕ → Bool) (c : Marking) (graph : IsFlowGraph g) (numbered : FieldsAreNumbered g) (are : AreInstances g ts members value c) where
  abbrev in_ : ℕ → ℕ → Body
  in_ i k = body_of g ts (members i) k

  phi_same : (i k : ℕ) → c.has i k ≡ true → phi_of (in_ i k) (value i) ≡ c.phi
  phi_same i k has = λ at z f. are.phi i k z f has at

  places : (i k p : ℕ) → c.has i k ≡ true → p < length (flow_of g k).places → PlaceHolds g ts c.phi k p (c.marks i k p) (c.face i k)
  places i k p has lt = rw (← phi_same i k has, are.marks i k p has, are.face i k has) (places_hold (in_ i k) (value i) graph numbered (are.bodies i k has) p lt (are.rules i k has))

  place_of : (k p i : ℕ) → k < g.bodies → i < length (edges_from g k p) → p < length (flow_of g k).places
  place_of k p i body lt =
      by_bool (ltb p (length (flow_of g k).places)) (λ e. ltb-true p (length (flow_of g k).places) e)
      (λ e.
      let past = ltb-false p (length (flow_of g k).places) e in
      let rows = (graph.body k body).rows in
      let none = ap length (get_or_past (flow_of g k).edges p [] (omega arith)) in
      absurd (omega arith))

  agrees : (i k p : ℕ) (m' : Marks) (a : Action) → CallAgrees g in_ value i k p (called c i k p) a → CallsInto g c (called c i k p) a
      → Agrees g graph k c.phi (c.marks i k p) m' (known_at ts k p) (callee_face (in_ i k) (value i) p) (c.face (called c i k p)) a
  agrees i k p m' (act.Call r callee us) agree into = λ body. agree body ∙ sym (are.face (called c i k p) callee (into body))
  agrees i k p m' a agree into = tt

  edges : (i k p : ℕ) → c.has i k ≡ true
      → All (λ (e : Edge). EdgeHolds g c.phi (slot_type g k) (c.marks i k p) (c.marks i k e.to) (known_at ts k p) (c.face (called c i k p)) e.action) (edges_from g k p)
  edges i k p has n d lt =
      let body = are.bodies i k has in
      let e = slice_index_or (edges_from g k p) n d in
      let given = edges_hold (in_ i k) (value i) graph numbered body p (place_of k p n body lt) (are.rules i k has) n d lt in
      let marked : EdgeHolds g c.phi (slot_type g k) (c.marks i k p) (c.marks i k e.to) (known_at ts k p) (callee_face (in_ i k) (value i) p) e.action = rw (← phi_same i k has, are.marks i k p has, are.marks i k e.to has) given in
      edge_change g graph k c.phi (c.marks i k p) (c.marks i k e.to) (known_at ts k p) (callee_face (in_ i k) (value i) p) (c.face (called c i k p)) e.action ((graph.body k body).fits p n d lt).action
      (agrees i k p (c.marks i k e.to) e.action (are.agree i k p has n d lt) (are.calls i k p has n d lt)) marked

  pub instances_good : IsGood g ts c
  instances_good = record { main = are.main; calls = are.calls; edges = edges; places = places }
