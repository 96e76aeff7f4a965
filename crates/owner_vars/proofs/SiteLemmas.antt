-- Where the sites of a group stand among them.
use Rattle.std.proofs.Common.{◌≡◌, ◌+◌, ◌-◌, ◌<◌, ◌≤◌, ◌∷◌, ◌++◌, ◌∙◌, inl, inr, [], ℕ, zero, suc, Bool, true, false, cond, not, ◌&&◌, eqb, ltb, List, length, get_or, take, drop, refl, sym, ap, subst, arith}
use Rattle.std.proofs.lemmas.Bool.{true≢false, false≢true, cases_Bool, cases_lt, and_parts, and_from, eq-eqb, eqb-true, ne_eqb, ltb-true, lt-ltb, le-ltb}
use Rattle.std.proofs.lemmas.List.{length-append, append_assoc, take_more, take-append-drop, get_or_append_left, get_or-append_right, get_or-take, get_or-drop, length-drop, length-take, append-nil, get_or_default, get_or_read, take_all}
use Rattle.std.proofs.lemmas.List.Quantifiers.{position-Some}
use Rattle.std.proofs.lemmas.List.Concat.{flat_map-append}
use Rattle.std.proofs.lemmas.List.Elements.{Contains-append_cases, Contains-get_or}
use Rattle.std.proofs.lemmas.List.Sums.{position_or_len_is}
use Rattle.std.specs.Prelude.{Option, Some, None}
use Rattle.std.specs.List.{Contains, flat_map, position}
use Rattle.std.specs.List.Sorted.{IsStrictlyIncreasing}
use Rattle.flow_graph.specs.declared.action.Action.{Action}
use Rattle.flow_graph.specs.declared.action.Action.TheVariants as act
use Rattle.flow_graph.specs.declared.action.Edge.{Edge}
use Rattle.flow_graph.specs.Calls.{callee_of}
use Rattle.flow_graph.specs.FlowGraph.{FlowGraph, flow_of, edges_from}
use Rattle.flow_graph.specs.Fits.{is_in}
use Rattle.owner_vars.specs.Unknowns.{Site, gather, sites_of, sites_along, sites}
use Rattle.owner_vars.specs.Sites.{is_site_of, site_among, site_at}
use Rattle.owner_vars.specs.Tables.{listed, place_in, sites_before, sites_from, site_row, site_rows, row_of, AreSites}
use Rattle.owner_vars.proofs.Lists.{contains_none, contains_cases, contains_head, contains_tail, from_gather, length-listed, get_or-listed}
use Rattle.owner_vars.proofs.IndexLemmas.{ascends, apart, is_in_true}

-- the first that passes

pub position_there : {X : Type 0} (test : X → Bool) (us : List X) (i : ℕ) (d : X) → i < length us → ((j : ℕ) → j < i → test (get_or us j d) ≡ false) → test (get_or us i d) ≡ true → position test us ≡ Some i
position_there test us i d lt before here =
    let e = position_or_len_is test us i d (omega (arith, lt)) before (λ _. here) in
    ap (λ n. cond (ltb n (length us)) (Some n) None) e ∙ ap (λ b. cond b (Some i) None) (lt-ltb i (length us) lt)

pub position_none : {X : Type 0} (test : X → Bool) (us : List X) (d : X) → ((j : ℕ) → j < length us → test (get_or us j d) ≡ false) → position test us ≡ None
position_none test us d none =
    let e = position_or_len_is test us (length us) d (omega arith) none (λ lt. absurd (omega (arith, lt))) in
    ap (λ n. cond (ltb n (length us)) (Some n) None) e ∙ ap (λ b. cond b (Some (length us)) None) (le-ltb (length us) (length us) (omega arith))

-- Lists one after another

pub gather_split : {X : Type 0} (n i : ℕ) (F : ℕ → List X) → i < n → (rest : List X) × (gather n F ≡ (gather i F ++ F i) ++ rest) × ((x : X) → Contains rest x → (j : ℕ) × (i < j) × (j < n) × Contains (F j) x)
gather_split zero i F lt = absurd (omega arith)
gather_split {X = X} (suc n) i F lt = elim (cases_lt i n) [
  | inl k ↦
      let r = gather_split n i F k in (
        r.0 ++ F n,
        ap (λ us. us ++ F n) r.1 ∙ append_assoc (gather i F ++ F i) r.0 (F n),
        λ x h. elim (Contains-append_cases r.0 (F n) x h) [
          | inl a ↦ let q = r.2 x a in (q.0, q.1, omega (arith, q.2), q.3)
          | inr b ↦ (n, omega (arith, k), omega arith, b)
        ],
      )
  | inr k ↦ last (omega arith)
]
  where
    last : i ≡ n → (rest : List X) × (gather (suc n) F ≡ (gather i F ++ F i) ++ rest) × ((x : X) → Contains rest x → (j : ℕ) × (i < j) × (j < suc n) × Contains (F j) x)
    last e = ([], ap (λ m. gather m F ++ F m) (sym e) ∙ sym (append-nil (gather i F ++ F i)), λ x h. absurd (contains_none x h))

pub from_flat : {X Y : Type 0} (f : X → List Y) (xs : List X) (y : Y) → Contains (flat_map f xs) y → (x : X) × Contains xs x × Contains (f x) y
from_flat f [] y h = absurd (contains_none y h)
from_flat f (x ∷ xs) y h = elim (Contains-append_cases (f x) (flat_map f xs) y h) [
  | inl k ↦ (x, contains_head x x xs refl, k)
  | inr k ↦ let r = from_flat f xs y k in (r.0, contains_tail x r.0 xs r.1, r.2)
]

pub flat_split : {Y : Type 0} (f : ℕ → List Y) (xs : List ℕ) (i : ℕ) → i < length xs → flat_map f xs ≡ (flat_map f (take i xs) ++ f (get_or xs i 0)) ++ flat_map f (drop (i + 1) xs)
flat_split f xs i lt =
    ap (flat_map f) (sym (take-append-drop (i + 1) xs))
    ∙ flat_map-append f (take (i + 1) xs) (drop (i + 1) xs)
    ∙ ap (λ us. us ++ flat_map f (drop (i + 1) xs)) (ap (flat_map f) (take_more xs i 0 lt) ∙ flat_map-append f (take i xs) (get_or xs i 0 ∷ []) ∙ ap (λ us. flat_map f (take i xs) ++ us) (append-nil (f (get_or xs i 0))))

-- members before and after one differ from it
module _ (ms : List ℕ) (ascend : IsStrictlyIncreasing ms) (i : ℕ) (lt : i < length ms) where
  pub before_differs : (x : ℕ) → Contains (take i ms) x → x ≡ get_or ms i 0 → ⊥
  before_differs x h e =
      let short = length-take i ms in
      let j_lt : h.0 < i = omega (arith, h.1, short, lt) in
      let at : get_or ms h.0 0 ≡ x = sym (get_or-take i ms h.0 0 j_lt) ∙ get_or_any (take i ms) h.0 0 x h.1 ∙ h.2 in
      let less = ascends ms ascend h.0 i j_lt lt in
      omega (arith, at, less, e)
    where
      get_or_any : (us : List ℕ) (j d e : ℕ) → j < length us → get_or us j d ≡ get_or us j e
      get_or_any us j d e l = get_or_default us j d e l

  pub after_differs : (x : ℕ) → Contains (drop (i + 1) ms) x → x ≡ get_or ms i 0 → ⊥
  after_differs x h e =
      let short = length-drop (i + 1) ms in
      let j_lt : i + 1 + h.0 < length ms = omega (arith, h.1, short) in
      let at : get_or ms (i + 1 + h.0) 0 ≡ x = sym (get_or-drop (i + 1) ms h.0 0) ∙ get_or_default (drop (i + 1) ms) h.0 0 x h.1 ∙ h.2 in
      let less = ascends ms ascend i (i + 1 + h.0) (omega arith) j_lt in
      omega (arith, at, less, e)

module _ (g : FlowGraph) (ms : List ℕ) where
  abbrev pub at : ℕ → ℕ → List Site
  at k p = sites_along g ms k p (edges_from g k p)

  -- the edge of which a site is
  pub record IsSiteOf (k p : ℕ) (es : List Edge) (s : Site) : Type 0 where
    pub proc : s.proc ≡ k
    pub place : s.place ≡ p
    pub edge : Edge
    pub among : Contains es edge
    pub calls : callee_of edge.action ≡ Some s.callee
    pub body : s.callee < g.bodies
    pub outside : is_in ms s.callee ≡ false

  of_not : (b : Bool) → not b ≡ true → b ≡ false
  of_not true e = absurd (false≢true e)
  of_not false e = refl

  of_action : (k p : ℕ) (a : Action) (s : Site) → Contains (sites_of g ms k p a) s → (s.proc ≡ k) × (s.place ≡ p) × (callee_of a ≡ Some s.callee) × (s.callee < g.bodies) × (is_in ms s.callee ≡ false)
  of_action k p (act.Call r c us) s h = by (ltb c g.bodies && not (is_in ms c)) refl h
    where
      by : (b : Bool) → (ltb c g.bodies && not (is_in ms c)) ≡ b → Contains (cond b (record { proc = k; place = p; callee = c } ∷ []) []) s → (s.proc ≡ k) × (s.place ≡ p) × (Some c ≡ Some s.callee) × (s.callee < g.bodies) × (is_in ms s.callee ≡ false)
      by false e k = absurd (contains_none s k)
      by true e l =
          let same : record { proc = k; place = p; callee = c } ≡ s = elim (contains_cases (record { proc = k; place = p; callee = c }) s [] l) [ inl q ↦ q | inr q ↦ absurd (contains_none s q) ] in
          let called : c ≡ s.callee = ap (λ (t : Site). t.callee) same in
          let parts = and_parts (ltb c g.bodies) (not (is_in ms c)) e in (
            sym (ap (λ (t : Site). t.proc) same),
            sym (ap (λ (t : Site). t.place) same),
            ap (λ n. Some n) called,
            subst (λ n. n < g.bodies) called (ltb-true c g.bodies parts.0),
            subst (λ n. is_in ms n ≡ false) called (of_not (is_in ms c) parts.1),
          )
  of_action k p a s h = absurd (contains_none s h)

  pub of_edges : (k p : ℕ) (es : List Edge) (s : Site) → Contains (sites_along g ms k p es) s → IsSiteOf k p es s
  of_edges k p [] s h = absurd (contains_none s h)
  of_edges k p (e ∷ es) s h = elim (Contains-append_cases (sites_of g ms k p e.action) (sites_along g ms k p es) s h) [
    | inl a ↦ let r = of_action k p e.action s a in record { proc = r.0; place = r.1; edge = e; among = contains_head e e es refl; calls = r.2; body = r.3; outside = r.4 }
    | inr b ↦ let r = of_edges k p es s b in record { proc = r.proc; place = r.place; edge = r.edge; among = contains_tail e r.edge es r.among; calls = r.calls; body = r.body; outside = r.outside }
  ]

  -- a site stands at its own place of a member
  pub of_sites : (s : Site) → Contains (sites g ms) s → Contains ms s.proc × (s.place < length (flow_of g s.proc).places) × Contains (at s.proc s.place) s
  of_sites s h =
      let a = from_flat (sites_from g ms) ms s h in
      let b = from_gather (length (flow_of g a.0).places) (at a.0) s a.2 in
      let o = of_edges a.0 b.0 (edges_from g a.0 b.0) s b.2 in (
        subst (λ k. Contains ms k) (sym o.proc) a.1,
        subst (λ p. p < length (flow_of g s.proc).places) (sym o.place) (subst (λ k. b.0 < length (flow_of g k).places) (sym o.proc) b.1),
        subst (λ p. Contains (at s.proc p) s) (sym o.place) (subst (λ k. Contains (at k b.0) s) (sym o.proc) b.2),
      )

  other_proc : (k p : ℕ) (s : Site) → (s.proc ≡ k → ⊥) → is_site_of k p s ≡ false
  other_proc k p s ne = rw (ne_eqb s.proc k ne) refl

  other_place : (k p : ℕ) (s : Site) → (s.place ≡ p → ⊥) → is_site_of k p s ≡ false
  other_place k p s ne = off (eqb s.proc k)
    where
      off : (b : Bool) → (b && eqb s.place p) ≡ false
      off true = ne_eqb s.place p ne
      off false = refl

  pub own_place : (k p : ℕ) (s : Site) → Contains (at k p) s → is_site_of k p s ≡ true
  own_place k p s h = let o = of_edges k p (edges_from g k p) s h in and_from (eqb s.proc k) (eqb s.place p) (eq-eqb s.proc k o.proc) (eq-eqb s.place p o.place)

  module _ (ascend : IsStrictlyIncreasing ms) (i p : ℕ) (lt : i < length ms) (inside : p < length (flow_of g (get_or ms i 0)).places) where
    abbrev k : ℕ
    k = get_or ms i 0

    abbrev pub before : List Site
    before = flat_map (sites_from g ms) (take i ms) ++ sites_before g ms k p

    pub split : (rest : List Site) × (sites g ms ≡ (before ++ at k p) ++ rest) × ((s : Site) → Contains rest s → is_site_of k p s ≡ false)
    split =
        let a = gather_split (length (flow_of g k).places) p (at k) inside in
        let early : List Site = flat_map (sites_from g ms) (take i ms) in
        let late : List Site = flat_map (sites_from g ms) (drop (i + 1) ms) in (
          a.0 ++ late,
          flat_split (sites_from g ms) ms i lt
              ∙ ap (λ (us : List Site). (early ++ us) ++ late) a.1
              ∙ ap (λ (us : List Site). us ++ late) (sym (append_assoc early (sites_before g ms k p ++ at k p) a.0) ∙ ap (λ (us : List Site). us ++ a.0) (sym (append_assoc early (sites_before g ms k p) (at k p))))
              ∙ append_assoc (before ++ at k p) a.0 late,
          λ s h. elim (Contains-append_cases a.0 late s h) [
            | inl l ↦ let r = a.2 s l in let o = of_edges k r.0 (edges_from g k r.0) s r.3 in other_place k p s (λ e. omega (arith, e, o.place, r.1))
            | inr l ↦
                let r = from_flat (sites_from g ms) (drop (i + 1) ms) s l in
                let q = from_gather (length (flow_of g r.0).places) (at r.0) s r.2 in
                let o = of_edges r.0 q.0 (edges_from g r.0 q.0) s q.2 in
                other_proc k p s (λ e. after_differs ms ascend i lt r.0 r.1 (sym o.proc ∙ e))
          ],
        )

    in_before : (s : Site) → Contains before s → is_site_of k p s ≡ false
    in_before s h = elim (Contains-append_cases (flat_map (sites_from g ms) (take i ms)) (sites_before g ms k p) s h) [
      | inl l ↦
          let r = from_flat (sites_from g ms) (take i ms) s l in
          let q = from_gather (length (flow_of g r.0).places) (at r.0) s r.2 in
          let o = of_edges r.0 q.0 (edges_from g r.0 q.0) s q.2 in
          other_proc k p s (λ e. before_differs ms ascend i lt r.0 r.1 (sym o.proc ∙ e))
      | inr l ↦
          let r = from_gather p (at k) s l in
          let o = of_edges k r.0 (edges_from g k r.0) s r.2 in
          other_place k p s (λ e. omega (arith, e, o.place, r.1))
    ]

    abbrev pub none : Site
    none = record { proc = 0; place = 0; callee = 0 }

    pub early_fails : (j : ℕ) → j < length before → is_site_of k p (get_or (sites g ms) j none) ≡ false
    early_fails j l =
        let whole : List Site = (before ++ at k p) ++ split.0 in
        let same : get_or (sites g ms) j none ≡ get_or before j none =
        ap (λ (us : List Site). get_or us j none) split.1
        ∙ get_or_append_left (before ++ at k p) split.0 none j (rw length-append (omega (arith, l)))
        ∙ get_or_append_left before (at k p) none j l in
        ap (is_site_of k p) same ∙ in_before (get_or before j none) (Contains-get_or before j none l)

    pub first_here : 0 < length (at k p) → get_or (sites g ms) (length before) none ≡ get_or (at k p) 0 none
    first_here some =
        let e : length before - length before ≡ 0 = omega arith in
        ap (λ (us : List Site). get_or us (length before) none) split.1
        ∙ get_or_append_left (before ++ at k p) split.0 none (length before) (let l = length-append before (at k p) in omega (arith, l, some))
        ∙ get_or-append_right before (at k p) (length before) (length before) none refl (omega arith)
        ∙ ap (λ n. get_or (at k p) n none) e

    pub whole_length : length (sites g ms) ≡ length before + length (at k p) + length split.0
    whole_length =
        let a = ap (λ (us : List Site). length us) split.1 in
        let b = length-append (before ++ at k p) split.0 in
        let c = length-append before (at k p) in
        omega (arith, a, b, c)

    pub found_some : 0 < length (at k p) → site_at g ms k p ≡ Some (length before)
    found_some some =
        position_there (is_site_of k p) (sites g ms) (length before) none (omega (arith, whole_length, some)) early_fails
        (ap (is_site_of k p) (first_here some) ∙ own_place k p (get_or (at k p) 0 none) (Contains-get_or (at k p) 0 none some))

    pub found_none : length (at k p) ≡ 0 → site_at g ms k p ≡ None
    found_none empty = position_none (is_site_of k p) (sites g ms) none (λ j l. elim (cases_lt j (length before)) [
      | inl a ↦ early_fails j a
      | inr b ↦
          let long : length (before ++ at k p) ≡ length before = rw length-append (omega (arith, empty)) in
          let short : j - length before < length split.0 = omega (arith, l, whole_length, empty, b) in
          let same : get_or (sites g ms) j none ≡ get_or split.0 (j - length before) none =
          ap (λ (us : List Site). get_or us j none) split.1 ∙ get_or-append_right (before ++ at k p) split.0 (length before) j none long b in
          ap (is_site_of k p) same ∙ split.2 (get_or split.0 (j - length before) none) (Contains-get_or split.0 (j - length before) none short)
    ])

    pub late_fails : (j : ℕ) → length before + length (at k p) ≤ j → j < length (sites g ms) → is_site_of k p (get_or (sites g ms) j none) ≡ false
    late_fails j le l =
        let n = length before + length (at k p) in
        let long : length (before ++ at k p) ≡ n = length-append before (at k p) in
        let short : j - n < length split.0 = omega (arith, l, whole_length, le) in
        let same : get_or (sites g ms) j none ≡ get_or split.0 (j - n) none =
        ap (λ (us : List Site). get_or us j none) split.1 ∙ get_or-append_right (before ++ at k p) split.0 n j none long le in
        ap (is_site_of k p) same ∙ split.2 (get_or split.0 (j - n) none) (Contains-get_or split.0 (j - n) none short)

-- The tables

module _ (g : FlowGraph) (ms : List ℕ) (ascend : IsStrictlyIncreasing ms) where
  abbrev start : ℕ → ℕ
  start i = length (flat_map (sites_from g ms) (take i ms))

  row_here : (i : ℕ) → i < length ms → row_of (site_rows g ms) i ≡ site_row g ms (start i) (get_or ms i 0)
  row_here i lt = get_or-listed (length ms) i (λ j. site_row g ms (start j) (get_or ms j 0)) [] lt

  row_at : (b k p : ℕ) → p < suc (length (flow_of g k).places) → get_or (site_row g ms b k) p 0 ≡ b + length (sites_before g ms k p)
  row_at b k p lt = get_or-listed (suc (length (flow_of g k).places)) p (λ q. b + length (sites_before g ms k q)) 0 lt

  row_length : (b k : ℕ) → length (site_row g ms b k) ≡ suc (length (flow_of g k).places)
  row_length b k = length-listed (suc (length (flow_of g k).places)) (λ q. b + length (sites_before g ms k q))

  abbrev looked : List ℕ → ℕ → Option ℕ
  looked row p = cond (ltb (get_or row p 0) (get_or row (p + 1) 0)) (Some (get_or row p 0)) None

  found_at : (i p : ℕ) → i < length ms → p + 1 < length (site_row g ms (start i) (get_or ms i 0)) → site_at g ms (get_or ms i 0) p ≡ looked (site_row g ms (start i) (get_or ms i 0)) p
  found_at i p lt short =
      let k = get_or ms i 0 in
      let b = start i in
      let long = row_length b k in
      let inside : p < length (flow_of g k).places = omega (arith, short, long) in
      let next : suc p ≡ p + 1 = omega arith in
      let first : get_or (site_row g ms b k) p 0 ≡ length (before g ms ascend i p lt inside) =
      row_at b k p (omega (arith, inside)) ∙ sym (length-append (flat_map (sites_from g ms) (take i ms)) (sites_before g ms k p)) in
      let more : get_or (site_row g ms b k) (p + 1) 0 ≡ length (before g ms ascend i p lt inside) + length (at g ms k p) =
      let a = row_at b k (p + 1) (omega (arith, inside)) in
      let c : length (sites_before g ms k (p + 1)) ≡ length (sites_before g ms k p) + length (at g ms k p) = ap (λ n. length (sites_before g ms k n)) (sym next) ∙ length-append (sites_before g ms k p) (at g ms k p) in
      let d = length-append (flat_map (sites_from g ms) (take i ms)) (sites_before g ms k p) in
      omega (arith, a, c, d) in
      elim (cases_lt 0 (length (at g ms k p))) [
        | inl some ↦
            found_some g ms ascend i p lt inside some
            ∙ ap (λ n. Some n) (sym first)
            ∙ ap (λ b. cond b (Some (get_or (site_row g ms (start i) k) p 0)) None) (sym (lt-ltb (get_or (site_row g ms (start i) k) p 0) (get_or (site_row g ms (start i) k) (p + 1) 0) (omega (arith, first, more, some))))
        | inr empty ↦
            found_none g ms ascend i p lt inside (omega (arith, empty))
            ∙ ap (λ b. cond b (Some (get_or (site_row g ms (start i) k) p 0)) None) (sym (le-ltb (get_or (site_row g ms (start i) k) p 0) (get_or (site_row g ms (start i) k) (p + 1) 0) (omega (arith, first, more, empty))))
      ]

  pub stands : (k : ℕ) → Contains ms k → (place_in ms k < length ms) × (get_or ms (place_in ms k) 0 ≡ k)
  stands k h =
      let e : get_or ms h.0 0 ≡ k = get_or_default ms h.0 0 k h.1 ∙ h.2 in
      let p : place_in ms k ≡ h.0 = ap (place_in ms) (sym e) ∙ apart ms ascend h.0 h.1 in
      (omega (arith, p, h.1), ap (λ i. get_or ms i 0) p ∙ e)

  pub sites_made : length (sites g ms) ≤ 268435456 → AreSites ms (site_rows g ms) (sites g ms)
  sites_made small = record {
    count = rows_long;
    within = λ k h. let s = stands k h in omega (arith, s.0, rows_long);
    found = λ k p h short.
        let s = stands k h in
        let i = place_in ms k in
        let row = row_here i s.0 in
        let here = found_at i p s.0 (subst (λ (r : List ℕ). p + 1 < length r) row short) in
        ap (λ n. site_at g ms n p) (sym s.1) ∙ here ∙ ap (λ (r : List ℕ). looked r p) (sym row);
    only = λ s h.
        let o = of_sites g ms s h in
        let at = stands s.proc o.0 in
        let row = row_here (place_in ms s.proc) at.0 in
        let long : length (row_of (site_rows g ms) (place_in ms s.proc)) ≡ suc (length (flow_of g s.proc).places) =
        ap (λ (r : List ℕ). length r) row ∙ row_length (start (place_in ms s.proc)) (get_or ms (place_in ms s.proc) 0) ∙ ap (λ k. suc (length (flow_of g k).places)) at.1 in
        (o.0, omega (arith, long, o.1));
    small = small;
  }
    where
      rows_long : length (site_rows g ms) ≡ length ms
      rows_long = length-listed (length ms) (λ j. site_row g ms (start j) (get_or ms j 0))

pub sites_are : (g : FlowGraph) (ms index : List ℕ) (rows : List (List ℕ)) (items : List Site) (n : ℕ) → IsStrictlyIncreasing ms → length (sites g ms) ≤ 268435456 → index ≡ ms → n ≡ length ms
    → rows ≡ listed n (λ i. site_row g ms (length (flat_map (sites_from g ms) (take i ms))) (get_or ms i 0))
    → items ≡ flat_map (sites_from g ms) (take n ms) → AreSites index rows items × (items ≡ sites g ms)
sites_are g ms index rows items n ascend small is all made found =
    let r : rows ≡ site_rows g ms = made ∙ ap (λ m. listed m (λ i. site_row g ms (length (flat_map (sites_from g ms) (take i ms))) (get_or ms i 0))) all in
    let s : items ≡ sites g ms = found ∙ ap (flat_map (sites_from g ms)) (take_all n ms (omega (arith, all))) in
    (subst (λ (i : List ℕ). AreSites i rows items) (sym is) (subst (λ (t : List (List ℕ)). AreSites ms t items) (sym r) (subst (λ (us : List Site). AreSites ms (site_rows g ms) us) (sym s) (sites_made g ms ascend small))), s)

-- what a look-up reads
module _ (ms : List ℕ) (rows : List (List ℕ)) (ss : List Site) (a : AreSites ms rows ss) (view : List Site) (same : ss ≡ view) where
  absent : (k p : ℕ) → ((s : Site) → Contains ss s → is_site_of k p s ≡ false) → None ≡ site_among view k p
  absent k p none =
      let d : Site = record { proc = 0; place = 0; callee = 0 } in
      sym (ap (λ (us : List Site). site_among us k p) (sym same) ∙ position_none (is_site_of k p) ss d (λ j lt. none (get_or ss j d) (Contains-get_or ss j d lt)))

  off : (k p : ℕ) (s : Site) → (is_site_of k p s ≡ true → ⊥) → is_site_of k p s ≡ false
  off k p s ne = elim (cases_Bool (is_site_of k p s)) [ inl e ↦ absurd (ne e) | inr e ↦ e ]

  pub no_member : (k p : ℕ) → is_in ms k ≡ false → None ≡ site_among view k p
  no_member k p out = absent k p (λ s h. off k p s (λ e.
      let parts = and_parts (eqb s.proc k) (eqb s.place p) e in
      let member = subst (λ n. Contains ms n) (eqb-true s.proc k parts.0) (a.only s h).0 in
      true≢false (sym (is_in_true ms k member) ∙ out)))

  module _ (k at : ℕ) (member : Contains ms k) (is : at ≡ place_in ms k) (row : List ℕ) (read : row ≡ get_or rows at row) where
    pub row_within : at < length rows
    row_within = let w = a.within k member in omega (arith, w, is)

    row_is : row ≡ row_of rows (place_in ms k)
    row_is = get_or_read rows at row row_within read [] ∙ ap (row_of rows) is

    pub no_place : (p : ℕ) → length row ≤ p + 1 → None ≡ site_among view k p
    no_place p short = absent k p (λ s h. off k p s (λ e.
        let parts = and_parts (eqb s.proc k) (eqb s.place p) e in
        let proc = eqb-true s.proc k parts.0 in
        let place = eqb-true s.place p parts.1 in
        let long : s.place + 1 < length (row_of rows (place_in ms k)) = subst (λ n. s.place + 1 < length (row_of rows (place_in ms n))) proc (a.only s h).1 in
        let n = ap (λ (r : List ℕ). length r) row_is in
        omega (arith, long, n, short, place)))

    pub looked_up : (p : ℕ) → p + 1 < length row → site_among view k p ≡ cond (ltb (get_or row p 0) (get_or row (p + 1) 0)) (Some (get_or row p 0)) None
    looked_up p short =
        ap (λ (us : List Site). site_among us k p) (sym same)
        ∙ a.found k p member (subst (λ (r : List ℕ). p + 1 < length r) row_is short)
        ∙ ap (λ (r : List ℕ). cond (ltb (get_or r p 0) (get_or r (p + 1) 0)) (Some (get_or r p 0)) None) (sym row_is)

    pub there : (p : ℕ) → p + 1 < length row → get_or row p 0 < get_or row (p + 1) 0 → Some (get_or row p 0) ≡ site_among view k p
    there p short lt = sym (looked_up p short ∙ ap (λ b. cond b (Some (get_or row p 0)) None) (lt-ltb (get_or row p 0) (get_or row (p + 1) 0) lt))

    pub nothing : (p : ℕ) → p + 1 < length row → get_or row (p + 1) 0 ≤ get_or row p 0 → None ≡ site_among view k p
    nothing p short le = sym (looked_up p short ∙ ap (λ b. cond b (Some (get_or row p 0)) None) (le-ltb (get_or row p 0) (get_or row (p + 1) 0) le))

    pub number_small : (p : ℕ) → p + 1 < length row → get_or row p 0 < get_or row (p + 1) 0 → get_or row p 0 < 268435456
    number_small p short lt =
        let d : Site = record { proc = 0; place = 0; callee = 0 } in
        let e : position (is_site_of k p) view ≡ Some (get_or row p 0) = sym (there p short lt) in
        let q = position-Some (is_site_of k p) view (get_or row p 0) d e in
        let n = ap (λ (us : List Site). length us) same in
        omega (arith, q.0, n, a.small)
