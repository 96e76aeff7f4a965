-- Every state of every run is sound.
use Rattle.std.proofs.Common.{◌≡◌, ◌≢◌, ◌&&◌, ◌∷◌, ◌++◌, [], zero, suc, ℕ, false, List, length, refl, arith, eqb, pos, map, replicate, slice_index_or, All}
use Rattle.std.proofs.lemmas.Bool.{eqb-true}
use Rattle.std.proofs.lemmas.List.{get_or_default}
use Rattle.std.proofs.lemmas.List.Elements.{All-head, All-tail, All-nil, All-cons, All-weaker}
use Rattle.flow_graph.specs.Paths.{edge_at, no_edge, IsReached}
use Rattle.path_facts.proofs.LawLemmas.{over as facts_over}
use Rattle.heap_meaning.specs.Paths.{AreReached, KeepsShape}
use Rattle.heap_meaning.specs.Run.{along}
use Rattle.flow_graph.specs.declared.action.Edge.{Edge}
use Rattle.heap_meaning.specs.declared.states.Frame.{Frame}
use Rattle.heap_meaning.specs.declared.states.Object.{Object}
use Rattle.heap_meaning.specs.declared.states.State.{State}
use Rattle.heap_meaning.specs.declared.choices.Choice.{Choice}
use Rattle.heap_meaning.specs.declared.choices.Stepped.{Stepped}
use Rattle.c_types.specs.declared.kinds.SlotType.TheVariants as type
use Rattle.flow_graph.specs.declared.action.Action.TheVariants as act
use Rattle.heap_meaning.specs.declared.values.Value.TheVariants as value
use Rattle.heap_meaning.specs.declared.choices.Stepped.TheVariants as stepped
use Rattle.zo_core.specs.Forms.{bit}
use Rattle.flow_graph.specs.FlowGraph.{FlowGraph, flow_of, edges_from}
use Rattle.flow_graph.specs.Fits.{out_of}
use Rattle.path_facts.specs.Tables.{FactTables}
use Rattle.heap_meaning.specs.Numbers.{stored_as}
use Rattle.heap_meaning.specs.Reads.{slot, object_at, live_at, kind_at, cell, is_allocated}
use Rattle.heap_meaning.specs.Run.{Answer, returns, frames_step, step_of, IsAnswer, Steps, text_object, first_state_of, states_from, states_of, Moved, Ended, Stopped, DoubleFree}
use Rattle.heap_meaning.specs.Shape.{HeapHasShape, FramesHaveShape}
use Rattle.heap_law.specs.Markings.{Marking, called, CallsInto}
use Rattle.heap_law.specs.Owners.{instance_of_frame, refers, frames_open, cells_own, HasOneOwner}
use Rattle.heap_law.specs.Sound.{IsSound, IsFine}
use Rattle.heap_law.specs.Law.{IsOwned, IsCertified, RunsAreOwned, RunsAreSound, RunsBeginSound, StepsKeepSound, StepsLeadToSound}
use Rattle.heap_meaning.proofs.Lists.{differ}
use Rattle.heap_meaning.proofs.Shapes.{cond_holds, steps_keep_shape}
use Rattle.heap_meaning.proofs.Runs.{first_kept}
use Rattle.heap_law.proofs.Totals.{total-zero}
use Rattle.heap_law.proofs.Bits.{off_right}
use Rattle.heap_law.proofs.Stacks.{StackIsSound}
use Rattle.heap_law.proofs.Heaps.{share_none, Rest, AnswerRests}
use Rattle.heap_law.proofs.Pairs.{have_owners}
use Rattle.heap_law.proofs.Facts.{facts_of, stack_of}
use Rattle.heap_law.proofs.Running.{Here, Way, has_here}
use Rattle.heap_law.proofs.Returns.{ends, returns_rest}
use Rattle.heap_law.proofs.Steps.{taken_rests}
use Rattle.heap_law.proofs.Left.{left_kept, none_kept}

module _ (g : FlowGraph) (facts : FactTables) (c : Marking) (all : IsCertified g facts c) where
  -- Ways

  abbrev IsWay : Frame → List Frame → Edge → Type 0
  IsWay t below e = Way g facts c t below e.to e.action × CallsInto g c (called c (instance_of_frame c below) t.proc t.place) e.action

  ways : (t : Frame) (below : List Frame) (h : List Object) → Here g facts c t below h → IsReached g t.proc t.place → All (IsWay t below) (edges_from g t.proc t.place)
  ways t below h here reached i d lt =
      let e = slice_index_or (edges_from g t.proc t.place) i d in
      let fit = (all.graph.body t.proc here.shape.body).fits t.place i d lt in
      let at : edge_at g t.proc t.place i ≡ e = get_or_default (edges_from g t.proc t.place) i no_edge d lt in
      let follows = facts_over g facts all.graph all.facts_are t.proc here.shape.body t.place i lt reached in (
        record {
          to = fit.to;
          fits = fit.action;
          holds = all.good.edges (instance_of_frame c below) t.proc t.place (has_here here) i d lt;
          empty = λ x em. rw at at (follows.empty x (rw at em));
          fresh = λ x fr. rw at at (follows.fresh x (rw at fr));
        },
        all.good.calls (instance_of_frame c below) t.proc t.place (has_here here) i d lt,
      )

  here_of : (t : Frame) (below : List Frame) (h : List Object) → FramesHaveShape g h (t ∷ below) → HeapHasShape g h → StackIsSound facts c h (t ∷ below) → Here g facts c t below h
  here_of t below h shapes heap stack = record {
    good = all.good;
    shape = shapes.0;
    stands = shapes.1;
    shapes = shapes.2;
    heap = heap;
    frame = stack.0;
    over = stack.1;
    stack = stack.2;
  }

  -- One step

  along_rests : (ch : Choice) (t : Frame) (below : List Frame) (h : List Object) → Here g facts c t below h → HasOneOwner c (t ∷ below) h → Rest facts c (t ∷ below) h
      → (es : List Edge) → All (IsWay t below) es → AnswerRests facts c (along g ch t below h es)
  along_rests ch t below h here one rest [] ways_ = rest
  along_rests ch t below h here one rest (e ∷ es) ways_ =
      let way = All-head (IsWay t below) e es ways_ in
      taken_rests all.graph all.facts_are here one ch e.action (along g ch t below h es) way.0 way.1 (along_rests ch t below h here one rest es (All-tail (IsWay t below) e es ways_))

  returned_rests : (t : Frame) (fs : List Frame) (h : List Object) → FramesHaveShape g h (t ∷ fs) → HeapHasShape g h → StackIsSound facts c h (t ∷ fs) → AreReached g (t ∷ fs) → HasOneOwner c (t ∷ fs) h
      → t.place ≡ out_of g t.proc → AnswerRests facts c (returns g t fs h)
  returned_rests t [] h shapes heap stack reached one at_out = ends (here_of t [] h shapes heap stack) all.graph at_out one
  returned_rests t (w ∷ ws) h shapes heap stack reached one at_out =
      let here = here_of t (w ∷ ws) h shapes heap stack in
      let here_w = here_of w ws h shapes.2 heap stack.2 in
      let way = All-head (IsWay w ws) (record { action = act.Call here.stands.into t.proc here.stands.args; to = here.stands.to }) [] (rw here.stands.edge at (ways w ws h here_w reached.1.0)) in
      returns_rest all.graph here at_out here_w one way.0

  frames_rest : (ch : Choice) (fs : List Frame) (h : List Object) → FramesHaveShape g h fs → HeapHasShape g h → StackIsSound facts c h fs → AreReached g fs → HasOneOwner c fs h → AnswerRests facts c (frames_step g ch fs h)
  frames_rest ch [] h shapes heap stack reached one = record { stack = stack; one = one }
  frames_rest ch (t ∷ below) h shapes heap stack reached one =
      cond_holds (AnswerRests facts c) (eqb t.place (out_of g t.proc)) (returns g t below h) (along g ch t below h (edges_from g t.proc t.place))
      (λ e. returned_rests t below h shapes heap stack reached one (eqb-true t.place (out_of g t.proc) e))
      (λ _.
      let here = here_of t below h shapes heap stack in
      along_rests ch t below h here one (record { stack = stack; one = one }) (edges_from g t.proc t.place) (ways t below h here reached.0))

  fine_by : (s : State) (a : Answer) → AreReached g s.frames → KeepsShape g s a → AnswerRests facts c a → IsFine g facts c a
  fine_by s (Moved s') reached keeps rest = record { run = record { shape = keeps.shape; reached = keeps.reached reached }; hold = facts_of facts c s'.heap s'.frames rest.stack; one = rest.one }
  fine_by s (Ended s') reached keeps rest = record { run = record { shape = keeps.0.shape; reached = keeps.0.reached reached }; hold = facts_of facts c s'.heap s'.frames rest.stack; one = rest.one }
  fine_by s (Stopped e) reached keeps rest = tt
  fine_by s DoubleFree reached keeps rest = rest

  pub step_fine : (s : State) (ch : Choice) → IsSound g facts c s → IsFine g facts c (step_of g s ch)
  step_fine s ch sound =
      fine_by s (step_of g s ch) sound.run.reached (steps_keep_shape g all.graph s ch sound.run.shape)
      (frames_rest ch s.frames s.heap sound.run.shape.frames sound.run.shape.heap (stack_of facts c s.heap s.frames sound.hold) sound.run.reached sound.one)

  -- The first state

  unset_holds_none : (n x o : ℕ) → refers (slot (replicate n value.Unset) x) o ≡ false
  unset_holds_none zero x o = refl
  unset_holds_none (suc n) zero o = refl
  unset_holds_none (suc n) (suc x) o = unset_holds_none n x o

  text_is : (us : List (List ℕ)) (o : ℕ) → is_allocated (kind_at (map text_object us) o) ≡ false
  text_is [] o = refl
  text_is (u ∷ us) zero = refl
  text_is (u ∷ us) (suc o) = text_is us o

  units_hold_none : (us : List ℕ) (n o : ℕ) → refers (slot (map (λ u. value.Int (stored_as type.Char (pos u))) us ++ value.Int (pos 0) ∷ []) n) o ≡ false
  units_hold_none [] zero o = refl
  units_hold_none [] (suc n) o = refl
  units_hold_none (u ∷ us) zero o = refl
  units_hold_none (u ∷ us) (suc n) o = units_hold_none us n o

  texts_hold_none : (us : List (List ℕ)) (b n o : ℕ) → refers (cell (map text_object us) b n) o ≡ false
  texts_hold_none [] b n o = refl
  texts_hold_none (u ∷ us) zero n o = units_hold_none u n o
  texts_hold_none (u ∷ us) (suc b) n o = texts_hold_none us b n o

  pub first_sound : IsSound g facts c (first_state_of g)
  first_sound =
      let h = map text_object g.texts in
      let n = length (flow_of g g.main_proc).slots in
      record {
        run = first_kept g all.graph;
        hold = facts_of facts c h (first_state_of g).frames (record { empty = λ x o em. unset_holds_none n x o; fresh = λ x o fr r. differ _ r (unset_holds_none n x o) }, tt, tt);
        one = λ o.
            let own = total-zero (length (replicate n value.Unset)) (λ x. bit ((c.marks c.first g.main_proc 0).rho x && refers (slot (replicate n value.Unset) x) o)) (λ x. off_right _ _ (unset_holds_none n x o)) in
            let cells : cells_own c.phi h (frames_open c (first_state_of g).frames) o ≡ 0 = total-zero (length h) _ (λ b. total-zero (length (object_at h b).cells) _ (λ m. share_none c.phi h _ o b m (texts_hold_none g.texts b m o))) in
            let right : bit (live_at h o && is_allocated (kind_at h o)) ≡ 0 = off_right (live_at h o) (is_allocated (kind_at h o)) (text_is g.texts o) in
            omega arith;
      }

  -- Runs

  after_sound : (a : Answer) (cs : List Choice) → ((z : State) → IsSound g facts c z → All (IsSound g facts c) (states_from g z cs)) → IsFine g facts c a
      → All (IsSound g facts c) (elim a [ Moved z ↦ states_from g z cs | Ended z ↦ z ∷ [] | Stopped e ↦ [] | DoubleFree ↦ [] ])
  after_sound (Moved z) cs rest is = rest z is
  after_sound (Ended z) cs rest is = All-cons (IsSound g facts c) z [] is (All-nil (IsSound g facts c))
  after_sound (Stopped e) cs rest is = All-nil (IsSound g facts c)
  after_sound DoubleFree cs rest is = All-nil (IsSound g facts c)

  from_sound : (cs : List Choice) (s : State) → IsSound g facts c s → All (IsSound g facts c) (states_from g s cs)
  from_sound [] s is = All-cons (IsSound g facts c) s [] is (All-nil (IsSound g facts c))
  from_sound (ch ∷ cs) s is =
      All-cons (IsSound g facts c) s (elim (step_of g s ch) [ Moved z ↦ states_from g z cs | Ended z ↦ z ∷ [] | Stopped e ↦ [] | DoubleFree ↦ [] ]) is
      (after_sound (step_of g s ch) cs (from_sound cs) (step_fine s ch is))

  -- what comes of a step
  no_step_frees_twice : (r : Stepped) (s s' : State) (a : Answer) → IsFine g facts c a → IsAnswer a s r s' → r ≡ stepped.DoubleFree → ⊥
  no_step_frees_twice r s s' a fine is none = (rw ((rw none at is).0) at fine)

  pub step_leads : (s : State) (ch : Choice) (r : Stepped) (s' : State) → IsSound g facts c s → Steps g s ch r s' → (r ≢ stepped.DoubleFree) × IsSound g facts c s'
  step_leads s ch r s' sound is = (no_step_frees_twice r s s' (step_of g s ch) (step_fine s ch sound) is, by_answer r (step_of g s ch) (step_fine s ch sound) is)
    where
      by_answer : (r : Stepped) (a : Answer) → IsFine g facts c a → IsAnswer a s r s' → IsSound g facts c s'
      by_answer stepped.Moved a fine is = rw is at fine
      by_answer stepped.Ended a fine is = rw is at fine
      by_answer (stepped.Stopped e) a fine is = rw is.1 sound
      by_answer stepped.DoubleFree a fine is = rw is.1 sound

  no_double_free : (a : Answer) → IsFine g facts c a → a ≡ DoubleFree → ⊥
  no_double_free a fine is = rw is at fine

  owned : (s : State) → IsSound g facts c s → IsOwned g c s
  owned s sound = record {
    count = sound.one;
    owners = have_owners c s.frames s.heap sound.one;
    no_double = λ ch is. no_double_free (step_of g s ch) (step_fine s ch sound) is;
    kept = λ none o. (left_kept c s.heap (rw none at sound.one) o, λ is. is.left);
    nothing = λ none back o left. none_kept g c.phi s.heap sound.run.shape.heap back o (left_kept c s.heap (rw none at sound.one) o left);
  }

  runs_owned : (choices : List Choice) → All (IsOwned g c) (states_of g choices)
  runs_owned choices = All-weaker (IsSound g facts c) (IsOwned g c) owned (states_of g choices) (from_sound choices (first_state_of g) first_sound)

pub runs_are_owned : RunsAreOwned
runs_are_owned g facts c all choices = runs_owned g facts c all choices

pub runs_begin_sound : RunsBeginSound
runs_begin_sound g facts c all = first_sound g facts c all

pub steps_keep_sound : StepsKeepSound
steps_keep_sound g facts c all s choice sound = step_fine g facts c all s choice sound

pub runs_are_sound : RunsAreSound
runs_are_sound g facts c all choices = from_sound g facts c all choices (first_state_of g) (first_sound g facts c all)

pub steps_lead_to_sound : StepsLeadToSound
steps_lead_to_sound g facts c all s choice r s' sound is = step_leads g facts c all s choice r s' sound is
