-- Each unknown that the rules of a member name is one of its group.
use Rattle.std.proofs.Common.{◌≡◌, ℕ, zero, suc, ◌+◌, ◌-◌, ◌<◌, ◌≤◌, ◌^◌, Bool, true, false, cond, ◌&&◌, ◌||◌, ◌⊎◌, inl, inr, List, [], ◌∷◌, length, get_or, Option, Some, None, refl, sym, ap, subst, ◌∙◌, arith, eqb}
use Rattle.std.proofs.lemmas.Bool.{eqb-true, eq-eqb, and_parts}
use Rattle.std.proofs.lemmas.List.{get_or_past}
use Rattle.std.proofs.lemmas.List.Quantifiers.{position-Some}
use Rattle.std.proofs.lemmas.Option.{slice_get-get_or}
use Rattle.std.specs.Prelude.{map, slice_get, slice_index_or}
use Rattle.std.specs.List.{Contains}
use Rattle.c_types.specs.declared.kinds.SlotType.{SlotType}
use Rattle.c_types.specs.declared.kinds.SlotType.TheVariants as type
use Rattle.c_types.specs.Types.{is_pointer}
use Rattle.flow_graph.specs.declared.action.Action.{Action}
use Rattle.flow_graph.specs.declared.action.Action.TheVariants as act
use Rattle.flow_graph.specs.declared.action.Edge.{Edge}
use Rattle.flow_graph.specs.Calls.{callee_of}
use Rattle.flow_graph.specs.FlowGraph.{FlowGraph, flow_of, has_body, edges_from, members_of}
use Rattle.flow_graph.specs.Fits.{is_in, pointer_count, AreWays, other_side, out_of, IsFlowGraph}
use Rattle.flow_graph.specs.Fits as fits
use Rattle.path_facts.specs.Tables.{FactTables}
use Rattle.owner_vars.specs.declared.site.Site.{Site}
use Rattle.owner_vars.specs.Unknowns.{Unknown, Phi, Pi, Sigma, Rho, Omega, first_field, fields_of, fields_behind, parts_of, sites, unknowns}
use Rattle.owner_vars.specs.Fields.{points_to}
use Rattle.owner_vars.specs.Sites.{is_site_of, site_at}
use Rattle.owner_vars.specs.Laws.{CallsOut, IsSiteAt, SitesAreNumbered}
use Rattle.owner_vars.specs.Laws as laws
use Rattle.field_rules.specs.Sight.{HasPointer, HasOmega}
use Rattle.transfer_rules.specs.Body.{Body, sight, setting, slot_kind, part_at, call_part, calls, is_called, has_part}
use Rattle.transfer_rules.specs.Bodies.{HasUnknowns}
use Rattle.transfer_rules.specs.Rules.{body_of}
use Rattle.transfer_rules.proofs.BodyExists.{in_count}

differ : true ≡ false → ⊥
differ e = cc

head : {X : Type 0} (x : X) (xs : List X) → Contains (x ∷ xs) x
head x xs = (0, omega arith, refl)

tail : {X : Type 0} (x y : X) (xs : List X) → Contains xs y → Contains (x ∷ xs) y
tail x y xs h = let lt = h.1 in (suc h.0, omega arith, h.2)

one_of : {X : Type 0} (x : X) (xs : List X) (y : X) → Contains (x ∷ xs) y → (x ≡ y) ⊎ Contains xs y
one_of x xs y (zero, lt, e) = inl e
one_of x xs y (suc k, lt, e) = inr (k, omega arith, e)

none : {X : Type 0} (y : X) → Contains [] y → ⊥
none y h = let lt = h.1 in omega arith

pub in_contains : (xs : List ℕ) (i : ℕ) → is_in xs i ≡ true → Contains xs i
in_contains [] i e = absurd (differ (sym e))
in_contains (x ∷ xs) i e = by (eqb i x) refl e (in_contains xs i)
  where
    by : (b : Bool) → eqb i x ≡ b → (b || is_in xs i) ≡ true → (is_in xs i ≡ true → Contains xs i) → Contains (x ∷ xs) i
    by true same _ _ = subst (λ j. Contains (x ∷ xs) j) (sym (eqb-true i x same)) (head x xs)
    by false _ more next = tail x i xs (next more)

length_map : {X Y : Type 0} (f : X → Y) (xs : List X) → length (map f xs) ≡ length xs
length_map f [] = refl
length_map f (x ∷ xs) = ap suc (length_map f xs)

-- Calls

calls_is : (a : Action) (c : ℕ) → calls a c ≡ true → callee_of a ≡ Some c
calls_is (act.Call r callee us) c e = ap Some (sym (eqb-true c callee e))
calls_is a c e = absurd (differ (sym e))

pub record Caller (es : List Edge) (c : ℕ) : Type 0 where
  pub edge : Edge
  pub at : Contains es edge
  pub calls : callee_of edge.action ≡ Some c

caller : (es : List Edge) (c : ℕ) → is_called es c ≡ true → Caller es c
caller [] c e = absurd (differ (sym e))
caller (x ∷ es) c e = by (calls x.action c) refl e (caller es c)
  where
    by : (b : Bool) → calls x.action c ≡ b → (b || is_called es c) ≡ true → (is_called es c ≡ true → Caller es c) → Caller (x ∷ es) c
    by true here _ _ = record { edge = x; at = head x es; calls = calls_is x.action c here }
    by false _ more next = let r = next more in record { edge = r.edge; at = tail x r.edge es r.at; calls = r.calls }

-- a call is no side of a test
side : (a d : Action) → other_side a ≡ Some d → (callee_of a ≡ None) × (callee_of d ≡ None)
side (act.IsNull x) d e = (refl, ap callee_of (sym (let q : act.NotNull x ≡ d = cc in q)))
side (act.FieldNull y f) d e = (refl, ap callee_of (sym (let q : act.FieldSet y f ≡ d = cc in q)))
side (act.NonZero x) d e = (refl, ap callee_of (sym (let q : act.Zero x ≡ d = cc in q)))
side (act.Equal x y) d e = (refl, ap callee_of (sym (let q : act.Differ x y ≡ d = cc in q)))
side a d e = absurd (no e)
  where
    no : None ≡ Some d → ⊥
    no q = cc

none_some : {X : Type 0} (x : X) → None ≡ Some x → ⊥
none_some x e = cc

-- so it is alone at its place
alone : (es : List Edge) → AreWays es → (d e : Edge) → Contains es d → Contains es e → (a b : ℕ) → callee_of d.action ≡ Some a → callee_of e.action ≡ Some b → a ≡ b
alone [] ways d e hd he a b ca cb = absurd ways
alone (x ∷ []) ways d e hd he a b ca cb = same (only d hd) (only e he)
  where
    only : (y : Edge) → Contains (x ∷ []) y → x ≡ y
    only y h = elim (one_of x [] y h) [ inl q ↦ q | inr q ↦ absurd (none y q) ]

    same : x ≡ d → x ≡ e → a ≡ b
    same p q =
        let two : Some a ≡ Some b = sym ca ∙ ap (λ (y : Edge). callee_of y.action) (sym p ∙ q) ∙ cb in
        cc
alone (x ∷ y ∷ []) ways d e hd he a b ca cb = absurd (no d a hd ca)
  where
    sides : (callee_of x.action ≡ None) × (callee_of y.action ≡ None)
    sides = side x.action y.action ways

    no : (z : Edge) (c : ℕ) → Contains (x ∷ y ∷ []) z → callee_of z.action ≡ Some c → ⊥
    no z c h is = elim (one_of x (y ∷ []) z h) [
      | inl q ↦ none_some c (sym sides.0 ∙ ap (λ (w : Edge). callee_of w.action) q ∙ is)
      | inr k ↦ elim (one_of y [] z k) [
        | inl q ↦ none_some c (sym sides.1 ∙ ap (λ (w : Edge). callee_of w.action) q ∙ is)
        | inr r ↦ none z r
      ]
    ]
alone (x ∷ y ∷ z ∷ es) ways d e hd he a b ca cb = absurd ways

module _ (g : FlowGraph) (ts : FactTables) (ms : List ℕ) (k : ℕ) (graph : IsFlowGraph g) (body : k < g.bodies) (member : Contains ms k) (there : laws.HasUnknowns g ms) (site_law : SitesAreNumbered g ms) where
  abbrev b : Body
  b = body_of g ts ms k

  pointer_slot : (x : ℕ) → x < length (flow_of g k).slots → is_pointer (slot_kind b x) ≡ true → fits.HasPointer (flow_of g k).slots x
  pointer_slot x lt is = record { type = slot_kind b x; is = slice_get-get_or (flow_of g k).slots x type.Int lt; pointer = is }

  rho : (p x : ℕ) → HasPointer (sight b) p x → Contains (unknowns g ms) (Rho k p x)
  rho p x h = there.rho k p x member h.place (pointer_slot x h.slot h.pointer)

  behind : (t : SlotType) (s f : ℕ) → points_to t ≡ Some s → Contains (fields_of g s) f → Contains (fields_behind g t) f
  behind type.Int s f e h = absurd (none_some s e)
  behind type.Char s f e h = absurd (none_some s e)
  behind type.IntPtr s f e h = absurd (none_some s e)
  behind type.CharPtr s f e h = absurd (none_some s e)
  behind (type.StructPtr n) s f e h = let same : s ≡ n = cc in subst (λ i. Contains (fields_of g i) f) same h

  is_struct : (t : SlotType) (s : ℕ) → points_to t ≡ Some s → is_pointer t ≡ true
  is_struct type.Int s e = absurd (none_some s e)
  is_struct type.Char s e = absurd (none_some s e)
  is_struct type.IntPtr s e = refl
  is_struct type.CharPtr s e = refl
  is_struct (type.StructPtr n) s e = refl

  omega_there : (p x f : ℕ) → HasOmega (sight b) p x f → Contains (unknowns g ms) (Omega k p x f)
  omega_there p x f h =
      let o = h.field in
      let among = in_contains (fields_of g o.structure) f (in_count (first_field g o.structure) (pointer_count (members_of g o.structure)) f o.from o.to) in
      there.omega k p x f member h.place (pointer_slot x h.slot (is_struct (slot_kind b x) o.structure o.is)) (behind (slot_kind b x) o.structure f o.is among)

  -- an edge starts at a place
  place_of : (p : ℕ) (e : Edge) → Contains (edges_from g k p) e → p < length (flow_of g k).places
  place_of p e h = by (Rattle.std.proofs.Common.ltb p (length (flow_of g k).edges)) refl
    where
      by : (c : Bool) → Rattle.std.proofs.Common.ltb p (length (flow_of g k).edges) ≡ c → p < length (flow_of g k).places
      by true is = let lt = Rattle.std.proofs.lemmas.Bool.ltb-true p (length (flow_of g k).edges) is in let rows = (graph.body k body).rows in omega arith
      by false is =
          let past = get_or_past (flow_of g k).edges p [] (Rattle.std.proofs.lemmas.Bool.ltb-false p (length (flow_of g k).edges) is) in
          absurd (none e (subst (λ (es : List Edge). Contains es e) past h))

  ways : (p : ℕ) (e : Edge) → Contains (edges_from g k p) e → AreWays (edges_from g k p)
  ways p e h = by (Rattle.std.proofs.Common.ltb p (out_of g k)) refl
    where
      by : (c : Bool) → Rattle.std.proofs.Common.ltb p (out_of g k) ≡ c → AreWays (edges_from g k p)
      by true is = (graph.body k body).ways p (Rattle.std.proofs.lemmas.Bool.ltb-true p (out_of g k) is)
      by false is =
          let le = Rattle.std.proofs.lemmas.Bool.ltb-false p (out_of g k) is in
          let lt = place_of p e h in
          let last : p ≡ out_of g k = omega arith in
          absurd (none e (subst (λ (es : List Edge). Contains es e) (ap (edges_from g k) last ∙ (graph.body k body).last) h))

  module _ (p callee i : ℕ) (called : Caller (edges_from g k p) callee) (has : callee < g.bodies) (part : Contains (parts_of (flow_of g callee)) i) where
    calls_out : is_in ms callee ≡ false → CallsOut g ms k p callee
    calls_out out = record { member = member; place = place_of p called.edge called.at; edge = called.edge; at = called.at; calls = called.calls; body = has; outside = out }

    at_site : (s : ℕ) → IsSiteAt g ms k p callee s → Contains (unknowns g ms) (Sigma s i)
    at_site s h =
        let long = length_map (λ (z : Site). z.callee) (sites g ms) in
        let lt = h.within in
        there.sigma s i (omega arith) (subst (λ c. Contains (parts_of (flow_of g c)) i) (sym h.called) part)

    -- a site here calls this procedure, which is then no member
    no_member : (s : ℕ) → site_at g ms k p ≡ Some s → is_in ms callee ≡ false
    no_member s e =
        let no_site : Site = record { proc = 0; place = 0; callee = 0 } in
        let at = position-Some (is_site_of k p) (sites g ms) s no_site e in
        let z = slice_index_or (sites g ms) s no_site in
        let is : slice_get (sites g ms) s ≡ Some z = slice_get-get_or (sites g ms) s no_site at.0 in
        let out = site_law.calls s z is in
        let here = and_parts (eqb z.proc k) (eqb z.place p) at.1 in
        let proc : z.proc ≡ k = eqb-true z.proc k here.0 in
        let place : z.place ≡ p = eqb-true z.place p here.1 in
        let there' : Contains (edges_from g k p) out.edge = subst (λ q. Contains (edges_from g k q) out.edge) place (subst (λ j. Contains (edges_from g j z.place) out.edge) proc out.at) in
        let same : z.callee ≡ callee = alone (edges_from g k p) (ways p called.edge called.at) out.edge called.edge there' called.at z.callee callee out.calls called.calls in
        subst (λ c. is_in ms c ≡ false) same out.outside

    by_site : (o : Option ℕ) → site_at g ms k p ≡ o → Contains (unknowns g ms) (part_at o callee i)
    by_site None e = inside (is_in ms callee) refl
      where
        inside : (c : Bool) → is_in ms callee ≡ c → Contains (unknowns g ms) (Pi callee i)
        inside true is = there.pi callee i (in_contains ms callee is) part
        inside false is = let h = site_law.there k p callee (calls_out is) in absurd (none_some h.0 (sym e ∙ h.1.number))
    by_site (Some s) e =
        let h = site_law.there k p callee (calls_out (no_member s e)) in
        let two : Some h.0 ≡ Some s = sym h.1.number ∙ e in
        let same : h.0 ≡ s = cc in
        subst (λ n. Contains (unknowns g ms) (Sigma n i)) same (at_site h.0 h.1)

  part_there : (p callee i : ℕ) → (setting b).has_part p callee i ≡ true → Contains (unknowns g ms) (call_part b p callee i)
  part_there p callee i h =
      let one = and_parts (has_body g callee) (is_called (edges_from g k p) callee && has_part (flow_of g callee) i) h in
      let two = and_parts (is_called (edges_from g k p) callee) (has_part (flow_of g callee) i) one.1 in
      by_site p callee i (caller (edges_from g k p) callee two.0) (Rattle.std.proofs.lemmas.Bool.ltb-true callee g.bodies one.0) (in_contains (parts_of (flow_of g callee)) i two.1) (site_at g ms k p) refl

  pub unknowns_there : (numbers : List Unknown) → numbers ≡ unknowns g ms → HasUnknowns b numbers
  unknowns_there numbers is =
      let back : (u : Unknown) → Contains (unknowns g ms) u → Contains numbers u = λ u h. subst (λ (us : List Unknown). Contains us u) (sym is) h in
      record {
        is = is;
        phi = λ f h. back (Phi f) (there.phi f h.0 h.1);
        rho = λ p x h. back (Rho k p x) (rho p x h);
        omega = λ p x f h. back (Omega k p x f) (omega_there p x f h);
        pi = λ i h. back (Pi k i) (there.pi k i member (in_contains (parts_of (flow_of g k)) i h));
        part = λ p callee i h. back (call_part b p callee i) (part_there p callee i h);
      }
