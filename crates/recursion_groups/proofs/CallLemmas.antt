-- Calls, and lists of calls.
use Rattle.std.proofs.Common.{◌≡◌, ℕ, ◌+◌, ◌<◌, ◌≤◌, ◌⊎◌, inl, inr, ◌↔◌, List, [], ◌∷◌, ◌++◌, length, get_or, take, Some, refl, sym, ap, subst, ◌∙◌, arith}
use Rattle.std.proofs.lemmas.Bool.{cases_lt}
use Rattle.std.proofs.lemmas.List.{take_more, get_or_past, get_or_append_left, get_or_push}
use Rattle.std.proofs.lemmas.List.Elements.{Contains-push, Contains-push_cases, Contains-append_left, Contains-get_or, All-from_get_or}
use Rattle.std.specs.List.{Contains, All}
use Rattle.flow_graph.specs.declared.action.Edge.{Edge}
use Rattle.flow_graph.specs.FlowGraph.{FlowGraph, flow_of, edges_from}
use Rattle.flow_graph.specs.Fits.{IsFlowGraph}
use Rattle.flow_graph.specs.Calls.{callee_of}
use Rattle.recursion_groups.specs.Calls.{Calls, Leads, Reaches, IsCalled, Gains}
use Rattle.recursion_groups.proofs.FoundLemmas.{contains_none}

-- One more of a list

pub take_one_more : {X : Type 0} (xs : List X) (i : ℕ) (x : X) → i < length xs → x ≡ get_or xs i x → take (i + 1) xs ≡ take i xs ++ x ∷ []
take_one_more xs i x lt e = take_more xs i x lt ∙ ap (λ y. take i xs ++ y ∷ []) (sym e)

module _ {X : Type 0} (xs : List X) (i : ℕ) (x : X) (lt : i < length xs) (e : x ≡ get_or xs i x) where
  pub take_old : (y : X) → Contains (take i xs) y → Contains (take (i + 1) xs) y
  take_old y h = subst (λ (ys : List X). Contains ys y) (sym (take_one_more xs i x lt e)) (Contains-append_left (take i xs) (x ∷ []) y h)

  pub take_new : Contains (take (i + 1) xs) x
  take_new = subst (λ (ys : List X). Contains ys x) (sym (take_one_more xs i x lt e)) (Contains-push (take i xs) x)

  pub take_cases : (y : X) → Contains (take (i + 1) xs) y → Contains (take i xs) y ⊎ (x ≡ y)
  take_cases y h = Contains-push_cases (take i xs) x y (subst (λ (ys : List X). Contains ys y) (take_one_more xs i x lt e) h)

pub all_from_contains : (P : ℕ → Type 0) (xs : List ℕ) → ((x : ℕ) → Contains xs x → P x) → All P xs
all_from_contains P xs h = All-from_get_or P xs 0 (λ i lt. h (get_or xs i 0) (Contains-get_or xs i 0 lt))

-- The calls of one procedure

module _ (n : ℕ) (es : List Edge) (i : ℕ) (e : Edge) (lt : i < length es) (is : e ≡ get_or es i e) where
  pub called_old : (q : ℕ) → IsCalled n (take i es) q → IsCalled n (take (i + 1) es) q
  called_old q h = record { edge = h.edge; there = take_old es i e lt is h.edge h.there; call = h.call; body = h.body }

  pub called_new : (q : ℕ) → callee_of e.action ≡ Some q → q < n → IsCalled n (take (i + 1) es) q
  called_new q c b = record { edge = e; there = take_new es i e lt is; call = c; body = b }

  pub called_cases : (q : ℕ) → IsCalled n (take (i + 1) es) q → IsCalled n (take i es) q ⊎ (callee_of e.action ≡ Some q) × (q < n)
  called_cases q h = elim (take_cases es i e lt is h.edge h.there) [
    | inl k ↦ inl (record { edge = h.edge; there = k; call = h.call; body = h.body })
    | inr k ↦ inr (ap (λ (d : Edge). callee_of d.action) k ∙ h.call, h.body)
  ]

-- one more edge

module _ (n : ℕ) (s t : List ℕ) (es : List Edge) (i : ℕ) (e : Edge) (lt : i < length es) (is : e ≡ get_or es i e) (g : Gains s t (IsCalled n (take i es))) where
  pub edge_skipped : ((q : ℕ) → callee_of e.action ≡ Some q → q < n → ⊥) → Gains s t (IsCalled n (take (i + 1) es))
  edge_skipped none = record {
    kept = g.kept;
    only = λ q k. elim (g.only q k) [ inl l ↦ inl l | inr l ↦ inr (called_old n es i e lt is q l) ];
    all = λ q k. elim (called_cases n es i e lt is q k) [ inl l ↦ g.all q l | inr l ↦ absurd (none q l.0 l.1) ];
  }

  pub edge_on : (x : ℕ) → callee_of e.action ≡ Some x → x < n → Gains s (t ++ x ∷ []) (IsCalled n (take (i + 1) es))
  edge_on x c b = record {
    kept = λ q k. Contains-append_left t (x ∷ []) q (g.kept q k);
    only = λ q k. elim (Contains-push_cases t x q k) [
      | inl old ↦ elim (g.only q old) [ inl l ↦ inl l | inr l ↦ inr (called_old n es i e lt is q l) ]
      | inr same ↦ inr (subst (λ r. IsCalled n (take (i + 1) es) r) same (called_new n es i e lt is x c b))
    ];
    all = λ q k. elim (called_cases n es i e lt is q k) [
      | inl l ↦ Contains-append_left t (x ∷ []) q (g.all q l)
      | inr l ↦ subst (λ r. Contains (t ++ x ∷ []) r) (one q l.0) (Contains-push t x)
    ];
  }
    where
      one : (q : ℕ) → callee_of e.action ≡ Some q → x ≡ q
      one q f = let same : Some x ≡ Some q = sym c ∙ f in cc

-- an edge of a place below `to` calls q
pub record CalledBefore (g : FlowGraph) (p to q : ℕ) : Type 0 where
  pub place : ℕ
  pub below : place < to
  pub called : IsCalled g.bodies (edges_from g p place) q

pub before_old : (g : FlowGraph) (p to q : ℕ) → CalledBefore g p to q → CalledBefore g p (to + 1) q
before_old g p to q h = record { place = h.place; below = omega (arith, h.below); called = h.called }

pub before_new : (g : FlowGraph) (p to q : ℕ) → IsCalled g.bodies (edges_from g p to) q → CalledBefore g p (to + 1) q
before_new g p to q h = record { place = to; below = omega arith; called = h }

before_at : (g : FlowGraph) (p to q : ℕ) (h : CalledBefore g p (to + 1) q) → h.place ≡ to → IsCalled g.bodies (edges_from g p to) q
before_at g p to q h e = subst (λ k. IsCalled g.bodies (edges_from g p k) q) e h.called

pub before_cases : (g : FlowGraph) (p to q : ℕ) → CalledBefore g p (to + 1) q → CalledBefore g p to q ⊎ IsCalled g.bodies (edges_from g p to) q
before_cases g p to q h = elim (cases_lt h.place to) [
  | inl k ↦ inl (record { place = h.place; below = k; called = h.called })
  | inr k ↦ inr (before_at g p to q h (omega (arith, k, h.below)))
]

module _ (g : FlowGraph) (is : IsFlowGraph g) (p : ℕ) (body : p < g.bodies) where
  pub calls_from_before : (to q : ℕ) → CalledBefore g p to q → Calls g p q
  calls_from_before to q h = record { caller = body; place = h.place; edge = h.called.edge; there = h.called.there; call = h.called.call; callee = h.called.body }

  no_edges : (k : ℕ) → length (flow_of g p).places ≤ k → edges_from g p k ≡ []
  no_edges k h = get_or_past (flow_of g p).edges k [] (subst (λ n. n ≤ k) (sym (is.body p body).rows) h)

  pub before_from_calls : (q : ℕ) → Calls g p q → CalledBefore g p (length (flow_of g p).places) q
  before_from_calls q h = elim (cases_lt h.place (length (flow_of g p).places)) [
    | inl k ↦ record { place = h.place; below = k; called = record { edge = h.edge; there = h.there; call = h.call; body = h.callee } }
    | inr k ↦ absurd (no_edge h.edge (subst (λ (es : List Edge). Contains es h.edge) (no_edges h.place k) h.there))
  ]
    where
      no_edge : (e : Edge) → Contains {X = Edge} [] e → ⊥
      no_edge e c = omega (arith, c.1)

-- Lists of calls

pub leads_more : (g : FlowGraph) (p : ℕ) (rs : List ℕ) (q r : ℕ) → Leads g p rs q → Calls g q r → Leads g p (rs ++ r ∷ []) r
leads_more g p [] q r h c = (subst (λ k. Calls g k r) (sym h) c, refl)
leads_more g p (s ∷ rs) q r h c = (h.0, leads_more g s rs q r h.1 c)

pub reaches_itself : (g : FlowGraph) (p : ℕ) → Reaches g p p
reaches_itself g p = ([], refl)

pub reaches_more : (g : FlowGraph) (p q r : ℕ) → Reaches g p q → Calls g q r → Reaches g p r
reaches_more g p q r h c = (h.0 ++ r ∷ [], leads_more g p h.0 q r h.1 c)

leads_on : (g : FlowGraph) (p : ℕ) (rs : List ℕ) (q r : ℕ) → Leads g p rs q → Reaches g q r → Reaches g p r
leads_on g p [] q r h t = subst (λ k. Reaches g k r) (sym h) t
leads_on g p (s ∷ rs) q r h t = let u = leads_on g s rs q r h.1 t in (s ∷ u.0, (h.0, u.1))

pub reaches_on : (g : FlowGraph) (p q r : ℕ) → Reaches g p q → Reaches g q r → Reaches g p r
reaches_on g p q r h t = leads_on g p h.0 q r h.1 t

-- what holds of p and passes along calls holds of all that p reaches
pub along : (g : FlowGraph) (P : ℕ → Type 0) → ((q r : ℕ) → P q → Calls g q r → P r) → (p : ℕ) (rs : List ℕ) (q : ℕ) → Leads g p rs q → P p → P q
along g P step p [] q h is = subst P h is
along g P step p (r ∷ rs) q h is = along g P step r rs q h.1 (step p r is h.0)

pub no_gains : (s : List ℕ) (P : ℕ → Type 0) → ((q : ℕ) → P q → ⊥) → Gains s s P
no_gains s P none = record { kept = λ q k. k; only = λ q k. inl k; all = λ q k. absurd (none q k) }

pub none_before : (g : FlowGraph) (p q : ℕ) → CalledBefore g p 0 q → ⊥
none_before g p q h = omega (arith, h.below)

pub places_on : (g : FlowGraph) (p to : ℕ) (s t u : List ℕ) → Gains s t (CalledBefore g p to) → Gains t u (IsCalled g.bodies (edges_from g p to)) → Gains s u (CalledBefore g p (to + 1))
places_on g p to s t u h k = record {
  kept = λ q l. k.kept q (h.kept q l);
  only = λ q l. elim (k.only q l) [
    | inl m ↦ elim (h.only q m) [ inl old ↦ inl old | inr n ↦ inr (before_old g p to q n) ]
    | inr m ↦ inr (before_new g p to q m)
  ];
  all = λ q l. elim (before_cases g p to q l) [ inl m ↦ k.kept q (h.all q m) | inr m ↦ k.all q m ];
}

pub calls_found : (g : FlowGraph) (p : ℕ) (t : List ℕ) → IsFlowGraph g → p < g.bodies → Gains [] t (CalledBefore g p (length (flow_of g p).places)) → (q : ℕ) → Contains t q ↔ Calls g p q
calls_found g p t is body h q = (
  (λ k. elim (h.only q k) [ inl l ↦ absurd (contains_none q l) | inr l ↦ calls_from_before g is p body (length (flow_of g p).places) q l ]),
  (λ k. h.all q (before_from_calls g is p body q k)),
)

-- one more of a list of which each is said to be something by its place
pub each_push : {X : Type 0} (P : ℕ → X → Type 0) (xs : List X) (x d : X) (n : ℕ) → length xs ≡ n → ((p : ℕ) → p < n → P p (get_or xs p d)) → P n x → (p : ℕ) → p < n + 1 → P p (get_or (xs ++ x ∷ []) p d)
each_push P xs x d n len old new p lt =
    elim (cases_lt p n) [
      | inl below ↦ subst (P p) (sym (get_or_append_left xs (x ∷ []) d p (omega arith))) (old p below)
      | inr above ↦
          let at : n ≡ p = omega arith in
          subst (P p) (sym (get_or_push xs x d p (len ∙ at))) (subst (λ k. P k x) at new)
    ]
