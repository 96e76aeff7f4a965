-- The laws of pointer fields, of parts, of sites, and of which unknowns there are.
use Rattle.std.proofs.Common.{◌≡◌, ◌+◌, ◌<◌, ◌≤◌, ◌∷◌, ◌∙◌, inl, inr, [], ℕ, true, false, not, ◌&&◌, ltb, List, length, get_or, take, refl, sym, ap, subst, arith}
use Rattle.std.proofs.lemmas.Bool.{true≢false, cases_lt, lt-ltb}
use Rattle.std.proofs.lemmas.List.{append-nil, get_or-map}
use Rattle.std.proofs.lemmas.Option.{slice_get_within, get_or_from_slice_get}
use Rattle.std.specs.Prelude.{Some, None, slice_get}
use Rattle.std.specs.List.{All, Contains}
use Rattle.std.proofs.lemmas.List.Elements.{All-contains}
use Rattle.std.specs.List.Sorted.{IsStrictlyIncreasing}
use Rattle.flow_graph.specs.declared.action.Action.{Action}
use Rattle.flow_graph.specs.declared.action.Action.TheVariants as act
use Rattle.flow_graph.specs.declared.action.Edge.{Edge}
use Rattle.flow_graph.specs.Calls.{callee_of}
use Rattle.flow_graph.specs.FlowGraph.{Flow, FlowGraph, flow_of, edges_from, members_of}
use Rattle.flow_graph.specs.Fits.{HasPointer, IsFlowGraph, AreWays, other_side, is_in, out_of, pointer_count}
use Rattle.owner_vars.specs.Unknowns.{Site, field_count, sites_of, sites_along, sites}
use Rattle.owner_vars.specs.Fields.{points_to, field_number, field_owner, field_member}
use Rattle.owner_vars.specs.Sites.{is_site_of}
use Rattle.owner_vars.specs.Laws.{FieldsAreNumbered, PartsAreNumbered, HasUnknowns, HasRootUnknowns, CallsOut, IsSiteAt, SitesAreNumbered}
use Rattle.owner_vars.proofs.Lists.{contains_none, contains_cases, contains_count}
use Rattle.owner_vars.proofs.FieldLemmas.{pointer_at, count_below, field_in, field_same, field_is, field_at, member_at, field_with, pointer_has}
use Rattle.owner_vars.proofs.SiteLemmas.{at, of_edges, of_sites, stands, before, whole_length, early_fails, late_fails, first_here, found_some, own_place}
use Rattle.owner_vars.specs.Tables.{place_in}
use Rattle.owner_vars.proofs.Existence as exist

-- Pointer fields

pub fields_law : (g : FlowGraph) → FieldsAreNumbered g
fields_law g = record {
  above = λ s m h. (field_is g s m (pointer_at (members_of g s) m h)).0;
  within = λ s m h. (field_is g s m (pointer_at (members_of g s) m h)).1;
  among = λ s m h. let f = field_in g s m (pointer_at (members_of g s) m h) in contains_count _ _ (field_number g s m) f.0 f.1;
  apart = λ s m t n h k e.
      let same : s ≡ t = sym (owner s m h) ∙ ap (field_owner g) e ∙ owner t n k in
      let moved : HasPointer (members_of g s) n = subst (λ z. HasPointer (members_of g z) n) (sym same) k in
      let number : field_number g s m ≡ field_number g s n = e ∙ ap (λ z. field_number g z n) (sym same) in
      (same, field_same g s m n (pointer_at (members_of g s) m h) (pointer_at (members_of g s) n moved) number);
  owner = owner;
  member = member;
  target = λ s m h. field_at g (λ z t. points_to t) None s m (pointer_at (members_of g s) m h);
  each = λ f above within. (found f above within).0;
  back = λ f above within. (found f above within).1;
}
  where
    owner : (s m : ℕ) → HasPointer (members_of g s) m → field_owner g (field_number g s m) ≡ s
    owner s m h = field_at g (λ z t. z) 0 s m (pointer_at (members_of g s) m h)

    member : (s m : ℕ) → HasPointer (members_of g s) m → field_member g (field_number g s m) ≡ m
    member s m h = member_at g s m (pointer_at (members_of g s) m h)

    found : (f : ℕ) → 0 < f → f ≤ field_count g → HasPointer (members_of g (field_owner g f)) (field_member g f) × (field_number g (field_owner g f) (field_member g f) ≡ f)
    found f above within =
        let r = field_with g f above within in
        let has : HasPointer (members_of g r.0) r.1 = pointer_has (members_of g r.0) r.1 r.2 in
        let struct_is : field_owner g f ≡ r.0 = ap (field_owner g) (sym r.3) ∙ owner r.0 r.1 has in
        let member_is : field_member g f ≡ r.1 = ap (field_member g) (sym r.3) ∙ member r.0 r.1 has in
        (rw struct_is (rw member_is has), rw struct_is (rw member_is r.3))

pub parts_law : (f : Flow) → PartsAreNumbered f
parts_law f = record {
  param = λ j h. let lt = count_below f.params j (pointer_at f.params j h) in exist.has_param f (1 + pointer_count (take j f.params)) (omega arith) (omega (arith, lt));
  result = exist.has_result f;
}

-- Which unknowns there are

pub there_law : (g : FlowGraph) (ms : List ℕ) → HasUnknowns g ms
there_law g ms = record {
  phi = exist.has_phi g ms;
  pi = exist.has_pi g ms;
  sigma = exist.has_sigma g ms;
  rho = λ k p x member place h. exist.has_rho g ms k p x member place (slice_get_within (flow_of g k).slots x h.type h.is) (pointer_at (flow_of g k).slots x h);
  omega = λ k p x f member place h field. exist.has_omega g ms k p x f member place (slice_get_within (flow_of g k).slots x h.type h.is) (pointer_at (flow_of g k).slots x h) field;
}

pub root_there_law : (g : FlowGraph) (firsts : List ℕ) → HasRootUnknowns g firsts
root_there_law g firsts = record {
  phi = exist.root_has_phi g firsts;
  sigma = exist.root_has_sigma g firsts;
}

-- Sites

-- the second side of a test calls nobody
no_call : (a b : Action) → other_side a ≡ Some b → callee_of b ≡ None
no_call (act.IsNull x) b e = let same : act.NotNull x ≡ b = cc in ap callee_of (sym same)
no_call (act.FieldNull y f) b e = let same : act.FieldSet y f ≡ b = cc in ap callee_of (sym same)
no_call (act.NonZero x) b e = let same : act.Zero x ≡ b = cc in ap callee_of (sym same)
no_call (act.Equal x y) b e = let same : act.Differ x y ≡ b = cc in ap callee_of (sym same)
no_call a b e = absurd (cc)

-- and the first side of one neither
no_test : (a b : Action) (c : ℕ) → callee_of a ≡ Some c → other_side a ≡ Some b → ⊥
no_test (act.IsNull x) b c e f = cc
no_test (act.FieldNull y g) b c e f = cc
no_test (act.NonZero x) b c e f = cc
no_test (act.Equal x y) b c e f = cc
no_test a b c e f = cc

-- a call stands alone at its place
alone : (es : List Edge) (e : Edge) (c : ℕ) → AreWays es → Contains es e → callee_of e.action ≡ Some c → es ≡ e ∷ []
alone [] e c ways h calls = absurd (contains_none e h)
alone (d ∷ []) e c ways h calls = elim (contains_cases d e [] h) [ inl s ↦ ap (λ (x : Edge). x ∷ []) s | inr k ↦ absurd (contains_none e k) ]
alone (d ∷ b ∷ []) e c ways h calls = elim (contains_cases d e (b ∷ []) h) [
  | inl s ↦ absurd (no_test d.action b.action c (ap (λ (x : Edge). callee_of x.action) s ∙ calls) ways)
  | inr k ↦ elim (contains_cases b e [] k) [
    | inl s ↦ absurd (let n = no_call d.action b.action ways in let y : callee_of b.action ≡ Some c = ap (λ (x : Edge). callee_of x.action) s ∙ calls in cc)
    | inr l ↦ absurd (contains_none e l)
  ]
]
alone (d ∷ b ∷ a ∷ es) e c ways h calls = absurd ways

module _ (g : FlowGraph) (ms : List ℕ) where
  one_site : (k p c : ℕ) (a : Action) → callee_of a ≡ Some c → c < g.bodies → is_in ms c ≡ false → sites_of g ms k p a ≡ record { proc = k; place = p; callee = c } ∷ []
  one_site k p c (act.Call r n us) e body out =
      let same : n ≡ c = cc in
      let here : (ltb n g.bodies && not (is_in ms n)) ≡ true = ap (λ x. ltb x g.bodies && not (is_in ms x)) same ∙ rw (lt-ltb c g.bodies body) (rw out refl) in
      rw here (ap (λ x. record { proc = k; place = p; callee = x } ∷ []) same)
  one_site k p c a e body out = absurd (cc)

module _ (g : FlowGraph) (ms : List ℕ) (flow : IsFlowGraph g) (ascend : IsStrictlyIncreasing ms) (bodies : All (λ k. k < g.bodies) ms) where
  ways_at : (k p : ℕ) (e : Edge) → Contains ms k → p < length (flow_of g k).places → Contains (edges_from g k p) e → AreWays (edges_from g k p)
  ways_at k p e member place h =
      let body = flow.body k (All-contains (λ n. n < g.bodies) ms k bodies member) in
      elim (cases_lt p (out_of g k)) [
        | inl below ↦ body.ways p below
        | inr above ↦
            let last : p ≡ out_of g k = omega arith in
            absurd (contains_none e (subst (λ (es : List Edge). Contains es e) (ap (edges_from g k) last ∙ body.last) h))
      ]

  one_at : (k p c : ℕ) → CallsOut g ms k p c → at g ms k p ≡ record { proc = k; place = p; callee = c } ∷ []
  one_at k p c h =
      ap (sites_along g ms k p) (alone (edges_from g k p) h.edge c (ways_at k p h.edge h.member h.place h.at) h.at h.calls)
      ∙ append-nil (sites_of g ms k p h.edge.action)
      ∙ one_site g ms k p c h.edge.action h.calls h.body h.outside

  -- the site of a call, and that no other site is at its place
  abbrev Stands : ℕ → ℕ → ℕ → Type 0
  Stands k p c = (site : ℕ) × IsSiteAt g ms k p c site × ((j : ℕ) → j < length (sites g ms) → is_site_of k p (get_or (sites g ms) j (record { proc = 0; place = 0; callee = 0 })) ≡ true → j ≡ site)

  at_member : (i p c : ℕ) → i < length ms → CallsOut g ms (get_or ms i 0) p c → Stands (get_or ms i 0) p c
  at_member i p c lt h =
      let k = get_or ms i 0 in
      let one = one_at k p c h in
      let n : length {A = Site} (at g ms k p) ≡ 1 = ap (λ (us : List Site). length us) one in
      let first = before g ms ascend i p lt h.place in
      let some : 0 < length {A = Site} (at g ms k p) = omega (arith, n) in
      let here = first_here g ms ascend i p lt h.place some in
      let whole = whole_length g ms ascend i p lt h.place in
      let inside : length {A = Site} first < length {A = Site} (sites g ms) = omega (arith, whole, n) in (
        length first,
        record {
          number = found_some g ms ascend i p lt h.place some;
          within = inside;
          called = get_or-map (λ (s : Site). s.callee) (sites g ms) (length first) (record { proc = 0; place = 0; callee = 0 }) 0 inside
              ∙ ap (λ (s : Site). s.callee) (here ∙ ap (λ (us : List Site). get_or us 0 (record { proc = 0; place = 0; callee = 0 })) one);
        },
        λ j short passes. elim (cases_lt j (length first)) [
          | inl early ↦ absurd (true≢false (sym passes ∙ early_fails g ms ascend i p lt h.place j early))
          | inr le ↦ elim (cases_lt j (length first + 1)) [
            | inl now ↦ omega (arith, le, now)
            | inr late ↦ absurd (true≢false (sym passes ∙ late_fails g ms ascend i p lt h.place j (omega (arith, late, n)) short))
          ]
        ],
      )

  stands_at : (k p c : ℕ) → CallsOut g ms k p c → Stands k p c
  stands_at k p c h =
      let s = stands g ms ascend k h.member in
      subst (λ n. CallsOut g ms n p c → Stands n p c) s.1 (at_member (place_in ms k) p c s.0) h

  calls_out : (site : ℕ) (s : Site) → slice_get (sites g ms) site ≡ Some s → CallsOut g ms s.proc s.place s.callee
  calls_out site s e =
      let lt = slice_get_within (sites g ms) site s e in
      let o = of_sites g ms s (site, lt, get_or_from_slice_get (sites g ms) site s s e) in
      let r = of_edges g ms s.proc s.place (edges_from g s.proc s.place) s o.2 in
      record { member = o.0; place = o.1; edge = r.edge; at = r.among; calls = r.calls; body = r.body; outside = r.outside }

  pub sites_law : SitesAreNumbered g ms
  sites_law = record {
    there = λ k p c h. let s = stands_at k p c h in (s.0, s.1);
    each = λ site s e.
        let lt = slice_get_within (sites g ms) site s e in
        let o = of_sites g ms s (site, lt, get_or_from_slice_get (sites g ms) site s s e) in
        let r = stands_at s.proc s.place s.callee (calls_out site s e) in
        let here : get_or (sites g ms) site (record { proc = 0; place = 0; callee = 0 }) ≡ s = get_or_from_slice_get (sites g ms) site s (record { proc = 0; place = 0; callee = 0 }) e in
        let same : site ≡ r.0 = r.2 site lt (ap (is_site_of s.proc s.place) here ∙ own_place g ms s.proc s.place s o.2) in
        r.1.number ∙ ap (λ n. Some n) (sym same);
    calls = calls_out;
  }
