-- Each place of a body but the exit has one edge, or the two sides of one test, and each edge leads to such a place.
use Rattle.std.proofs.Common.{◌≡◌, ℕ, ◌+◌, ◌*◌, inl, inr, Bool, true, false, List, [], ◌∷◌, ◌++◌, refl, sym, ap, subst, ◌∙◌, arith}
use Rattle.std.specs.Prelude.{⊤}
use Rattle.std.specs.List.{All}
use Rattle.std.proofs.lemmas.Bool.{true≢false}
use Rattle.std.proofs.lemmas.List.{append-nil}
use Rattle.std.proofs.lemmas.List.Elements.{All-nil, All-cons, All-append, All-weaker}
use Rattle.c_tree.specs.declared.position.Place.{Place}
use Rattle.c_tree.specs.declared.position.Place.TheVariants as place
use Rattle.c_tree.specs.Plain.{Stmt}
use Rattle.c_tree.specs.Nodes.{stmt_count}
use Rattle.c_types.specs.declared.infos.NodeInfo.{NodeInfo}
use Rattle.flow_graph.specs.declared.raw.RawAction.TheVariants as act
use Rattle.flow_graph.specs.declared.raw.RawEdge.{RawEdge}
use Rattle.flow_graph.specs.Parts.{Part, edge}
use Rattle.flow_graph.specs.Edges.{flow, closing, body_edges}
use Rattle.flow_graph.proofs.RawWays.{raw_at, AreRawWays, MayBegin, MayLead, IsControlled}
use Rattle.flow_graph.proofs.ControlPlaces.{Inside, raw_at-append, ways_inside, NoneOrWays}
use Rattle.flow_graph.proofs.ControlParts.{Goes, IsFragment, IsPart}
use Rattle.flow_graph.proofs.ControlFlow.{flow_fit}

-- where a body leads that is no node
abbrev pub MayEnd : Bool → Place → Type 0
MayEnd main place.In = ⊥
MayEnd main (place.At n j) = ⊥
MayEnd main place.End = main ≡ true
MayEnd main place.Out = ⊤

-- What closes a body

closing_goes : (main : Bool) → MayEnd main (closing main).start
closing_goes false = tt
closing_goes true = refl

closing_in : (main : Bool) → raw_at ((closing main).after []) place.In ≡ []
closing_in false = refl
closing_in true = refl

closing_at : (main : Bool) (n j : ℕ) → raw_at ((closing main).after []) (place.At n j) ≡ []
closing_at false n j = refl
closing_at true n j = refl

closing_end : (main : Bool) → main ≡ true → AreRawWays (raw_at ((closing main).after []) place.End)
closing_end false e = absurd (true≢false (sym e))
closing_end true e = refl

closing_begins : (main : Bool) (count : ℕ) → All (λ e. MayBegin main count e.from) ((closing main).after [])
closing_begins false count = All-nil (λ e. MayBegin false count e.from)
closing_begins true count = All-cons (λ e. MayBegin true count e.from) _ [] refl (All-nil (λ e. MayBegin true count e.from))

closing_leads : (main : Bool) (count : ℕ) (es : List RawEdge) → All (λ e. MayLead main count es e.to) ((closing main).after [])
closing_leads false count es = All-nil (λ e. MayLead false count es e.to)
closing_leads true count es = All-cons (λ e. MayLead true count es e.to) _ [] tt (All-nil (λ e. MayLead true count es e.to))

-- The edges of a body between what closes it and its entry

none_outside : (low high : ℕ) (es : List RawEdge) (p : Place) → (Inside low high p → ⊥) → All (λ e. Inside low high e.from) es → NoneOrWays es p → raw_at es p ≡ []
none_outside low high es p out all (inl none) = none
none_outside low high es p out all (inr w) = absurd (out (ways_inside low high es p all w))

begins_in : (main : Bool) (count : ℕ) (p : Place) → Inside (4 * 0) (4 * (0 + count)) p → MayBegin main count p
begins_in main count (place.At n j) h = (omega (arith, h.2), h.0)
begins_in main count place.In h = absurd h
begins_in main count place.End h = absurd h
begins_in main count place.Out h = absurd h

ends_in : (main : Bool) (count : ℕ) (es : List RawEdge) (p : Place) → MayEnd main p → MayLead main count es p
ends_in main count es place.In h = absurd h
ends_in main count es (place.At n j) h = absurd h
ends_in main count es place.End h = h
ends_in main count es place.Out h = h

-- the edges of a body with what closes it before them and the entry behind them
abbrev pub whole : Bool → Place → List RawEdge → List RawEdge
whole main start es = ((closing main).after [] ++ es) ++ edge place.In act.Skip start ∷ []

module _ (main : Bool) (count : ℕ) (start : Place) (es : List RawEdge) (f : IsFragment (4 * 0) (4 * (0 + count)) (MayEnd main) start es) where
  at_all : (p : Place) → raw_at (whole main start es) p
      ≡ (raw_at ((closing main).after []) p ++ raw_at es p) ++ raw_at (edge place.In act.Skip start ∷ []) p
  at_all p = raw_at-append ((closing main).after [] ++ es) (edge place.In act.Skip start ∷ []) p
      ∙ ap (λ xs. xs ++ raw_at (edge place.In act.Skip start ∷ []) p) (raw_at-append ((closing main).after []) es p)

  at_node : (n j : ℕ) → raw_at (whole main start es) (place.At n j) ≡ raw_at es (place.At n j)
  at_node n j = at_all (place.At n j) ∙ ap (λ xs. (xs ++ raw_at es (place.At n j)) ++ []) (closing_at main n j) ∙ append-nil (raw_at es (place.At n j))

  at_in : raw_at (whole main start es) place.In ≡ edge place.In act.Skip start ∷ []
  at_in = at_all place.In
      ∙ ap (λ xs. (xs ++ raw_at es place.In) ++ edge place.In act.Skip start ∷ []) (closing_in main)
      ∙ ap (λ xs. xs ++ edge place.In act.Skip start ∷ []) (none_outside (4 * 0) (4 * (0 + count)) es place.In (λ h. h) f.begins (f.places place.In))

  at_end : raw_at (whole main start es) place.End ≡ raw_at ((closing main).after []) place.End
  at_end = at_all place.End
      ∙ ap (λ xs. (raw_at ((closing main).after []) place.End ++ xs) ++ []) (none_outside (4 * 0) (4 * (0 + count)) es place.End (λ h. h) f.begins (f.places place.End))
      ∙ append-nil (raw_at ((closing main).after []) place.End ++ []) ∙ append-nil (raw_at ((closing main).after []) place.End)

  ways_lead : (p : Place) → AreRawWays (raw_at es p) → Inside (4 * 0) (4 * (0 + count)) p → MayLead main count (whole main start es) p
  ways_lead (place.At n j) w h = ((omega (arith, h.2), h.0), subst AreRawWays (sym (at_node n j)) w)
  ways_lead place.In w h = absurd h
  ways_lead place.End w h = absurd h
  ways_lead place.Out w h = absurd h

  goes_lead : (p : Place) → Goes (MayEnd main) es p → MayLead main count (whole main start es) p
  goes_lead p (inl t) = ends_in main count (whole main start es) p t
  goes_lead p (inr w) = ways_lead p w (ways_inside (4 * 0) (4 * (0 + count)) es p f.begins w)

  node_ways : (n j : ℕ) → NoneOrWays es (place.At n j)
      → NoneOrWays (whole main start es) (place.At n j)
  node_ways n j (inl none) = inl (at_node n j ∙ none)
  node_ways n j (inr w) = inr (subst AreRawWays (sym (at_node n j)) w)

  all_begin : All (λ e. MayBegin main count e.from) (whole main start es)
  all_begin = All-append (λ e. MayBegin main count e.from) ((closing main).after [] ++ es) (edge place.In act.Skip start ∷ [])
      (All-append (λ e. MayBegin main count e.from) ((closing main).after []) es (closing_begins main count)
      (All-weaker (λ e. Inside (4 * 0) (4 * (0 + count)) e.from) (λ e. MayBegin main count e.from) (λ e. begins_in main count e.from) es f.begins))
      (All-cons (λ e. MayBegin main count e.from) (edge place.In act.Skip start) [] tt (All-nil (λ e. MayBegin main count e.from)))

  all_lead : (ds : List RawEdge) → ((p : Place) → Goes (MayEnd main) es p → MayLead main count ds p)
      → All (λ e. MayLead main count ds e.to) (whole main start es)
  all_lead ds goes = All-append (λ e. MayLead main count ds e.to) ((closing main).after [] ++ es) (edge place.In act.Skip start ∷ [])
      (All-append (λ e. MayLead main count ds e.to) ((closing main).after []) es (closing_leads main count ds)
      (All-weaker (λ e. Goes (MayEnd main) es e.to) (λ e. MayLead main count ds e.to) (λ e. goes e.to) es f.leads))
      (All-cons (λ e. MayLead main count ds e.to) (edge place.In act.Skip start) [] (goes start f.starts) (All-nil (λ e. MayLead main count ds e.to)))

  whole_controlled : IsControlled main count (whole main start es)
  whole_controlled = record {
    entry = subst AreRawWays (sym at_in) refl;
    end = λ e. subst AreRawWays (sym at_end) (closing_end main e);
    nodes = λ n j. node_ways n j (f.places (place.At n j));
    begins = all_begin;
    leads = all_lead (whole main start es) goes_lead;
  }

pub body_controlled : (main : Bool) (is : List NodeInfo) (s : Stmt) → IsControlled main (stmt_count s) (body_edges main is s)
body_controlled main is s = subst (IsControlled main (stmt_count s)) (ap (λ es. es ++ edge place.In act.Skip body.start ∷ []) (sym (fits.appends ((closing main).after []))))
    (whole_controlled main (stmt_count s) body.start (body.after []) fits.fragment)
  where
    body : Part
    body = flow is place.Out place.Out 0 s (closing main).start

    fits : IsPart (4 * 0) (4 * (0 + stmt_count s)) (MayEnd main) body
    fits = flow_fit is 0 s (MayEnd main) place.Out place.Out (closing main).start tt tt tt (closing_goes main)
