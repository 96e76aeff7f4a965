-- What the parts of a step say of the step.
use Rattle.std.proofs.Common.{◌≡◌, ℕ, ◌-◌, ◌<◌, ◌≤◌, true, false, List, ◌∷◌, length, [], refl, sym, ap, ◌∙◌, arith, Option, Some, eqb}
use Rattle.std.proofs.lemmas.Bool.{lt-ltb, eq-eqb, ne_eqb}
use Rattle.std.specs.Prelude.{Result, Ok, Err, IfOk, OnErr, ⊤, slice_index_or}
use Rattle.c_tree.specs.declared.memory.Memory.{Memory}
use Rattle.c_tree.specs.declared.position.Place.{Place}
use Rattle.flow_graph.specs.declared.action.Action.{Action}
use Rattle.flow_graph.specs.declared.action.Action.TheVariants as act
use Rattle.flow_graph.specs.declared.action.Edge.{Edge}
use Rattle.flow_graph.specs.FlowGraph.{FlowGraph, has_body, flow_of, edges_from}
use Rattle.flow_graph.specs.Fits.{is_test, other_side, AreWays, out_of, IsFlowGraph}
use Rattle.heap_meaning.specs.declared.states.Frame.{Frame}
use Rattle.heap_meaning.specs.declared.states.Object.{Object}
use Rattle.heap_meaning.specs.declared.states.State.{State}
use Rattle.heap_meaning.specs.declared.choices.Choice.{Choice}
use Rattle.heap_meaning.specs.declared.choices.Stop.{Stop}
use Rattle.heap_meaning.specs.declared.choices.Stepped.{Stepped}
use Rattle.heap_meaning.specs.declared.choices.Stepped.TheVariants as stepped
use Rattle.heap_meaning.specs.declared.deeds.Deed.{Deed}
use Rattle.heap_meaning.specs.Reads.{all_set}
use Rattle.heap_meaning.specs.Run.{Answer, ◌>>=◌, entered, taken, along, returns, frames_step, step_of, IsAnswer, Steps}
use Rattle.heap_meaning.specs.Shape.{FrameHasShape, FramesHaveShape, HasShape}
use Rattle.heap_meaning.specs.Paths.{Keeps, KeepsShape}
use Rattle.heap_meaning.specs.Deeds.{running, below, done, is_plain, DoesAs}
use Rattle.heap_meaning.proofs.Shapes.{steps_keep_shape}

-- a call of a procedure with a body
pub entered_taken : (g : FlowGraph) (c : Choice) (t : Frame) (ws : List Frame) (h : List Object) (q : ℕ) (into : Option ℕ) (callee : ℕ) (args : List ℕ) (action : Action) (u : ⊤) (s s' : State) (r : Result Stepped Memory)
    → action ≡ act.Call into callee args → all_set t.slots args ≡ Ok u → callee < g.bodies
    → IfOk r (λ x. (k : Choice) → IsAnswer (entered g k t ws h into callee args) s x s') → IfOk r (λ x. (next : Answer) → IsAnswer (taken g c t ws h q next action) s x s')
entered_taken g c t ws h q into callee args action u s s' (Ok x) is set body p = λ next.
    let b : has_body g callee ≡ true = lt-ltb callee g.bodies body in
    let e : taken g c t ws h q next action ≡ entered g c t ws h into callee args = rw (is, set, b) refl in
    rw e (p c)
entered_taken g c t ws h q into callee args action u s s' (Err e) is set body p = tt

plain_if : (a : Action) → is_test a ≡ false → ((r : Option ℕ) (k : ℕ) (us : List ℕ) → a ≡ act.Call r k us → ⊥) → is_plain a ≡ true
plain_if (act.Call r k us) plain none = absurd (none r k us refl)
plain_if a plain none = cc

-- any other edge that is no test
pub done_taken : (g : FlowGraph) (c : Choice) (t : Frame) (ws : List Frame) (h : List Object) (q : ℕ) (action : Action) (found : Result Deed Stop) (deed : Deed) (s s' : State) (r : Result Stepped Memory)
    → is_test action ≡ false → ((r : Option ℕ) (k : ℕ) (us : List ℕ) → action ≡ act.Call r k us → ⊥) → (is_plain action ≡ true → DoesAs g c t h found action) → found ≡ Ok deed
    → IfOk r (λ x. (k : Choice) → IsAnswer (done g k t ws h q deed) s x s') → IfOk r (λ x. (next : Answer) → IsAnswer (taken g c t ws h q next action) s x s')
done_taken g c t ws h q action found deed s s' (Ok x) plain none does is p = λ next.
    let e : taken g c t ws h q next action ≡ done g c t ws h q deed = sym (does (plain_if action plain none) ws q next) ∙ ap (λ (z : Result Deed Stop). z >>= done g c t ws h q) is in
    rw e (p c)
done_taken g c t ws h q action found deed s s' (Err e) plain none does is p = tt

-- A state with a running frame

parts_are : (fs : List Frame) → 0 < length fs → fs ≡ running fs ∷ below fs
parts_are [] lt = absurd (omega arith)
parts_are (f ∷ fs) lt = refl

pub at_exit : (g : FlowGraph) (s : State) (c : Choice) → 0 < length s.frames → (running s.frames).place ≡ out_of g (running s.frames).proc
    → step_of g s c ≡ returns g (running s.frames) (below s.frames) s.heap
at_exit g s c lt at = exit s.frames lt at
  where
    exit : (fs : List Frame) → 0 < length fs → (running fs).place ≡ out_of g (running fs).proc → frames_step g c fs s.heap ≡ returns g (running fs) (below fs) s.heap
    exit [] lt at = absurd (omega arith)
    exit (t ∷ ws) lt at = let e : eqb t.place (out_of g t.proc) ≡ true = eq-eqb t.place (out_of g t.proc) at in rw e refl

pub on_way : (g : FlowGraph) (s : State) (c : Choice) → 0 < length s.frames → ((running s.frames).place ≡ out_of g (running s.frames).proc → ⊥)
    → step_of g s c ≡ along g c (running s.frames) (below s.frames) s.heap (edges_from g (running s.frames).proc (running s.frames).place)
on_way g s c lt off = way s.frames lt off
  where
    way : (fs : List Frame) → 0 < length fs → ((running fs).place ≡ out_of g (running fs).proc → ⊥) → frames_step g c fs s.heap ≡ along g c (running fs) (below fs) s.heap (edges_from g (running fs).proc (running fs).place)
    way [] lt off = absurd (omega arith)
    way (t ∷ ws) lt off = let e : eqb t.place (out_of g t.proc) ≡ false = ne_eqb t.place (out_of g t.proc) off in rw e refl

pub running_shape : (g : FlowGraph) (s : State) → HasShape g s → 0 < length s.frames → FrameHasShape g s.heap (running s.frames)
running_shape g s shape lt = first s.frames shape.frames lt
  where
    first : (fs : List Frame) → FramesHaveShape g s.heap fs → 0 < length fs → FrameHasShape g s.heap (running fs)
    first [] is lt = absurd (omega arith)
    first (f ∷ fs) is lt = is.0

-- the ways from a place that is no exit
pub ways_on : (g : FlowGraph) (s : State) → IsFlowGraph g → HasShape g s → 0 < length s.frames → ((running s.frames).place ≡ out_of g (running s.frames).proc → ⊥)
    → AreWays (edges_from g (running s.frames).proc (running s.frames).place)
ways_on g s graph shape lt off =
    let f = running_shape g s shape lt in
    let place = f.place in
    (graph.body (running s.frames).proc f.body).ways (running s.frames).place (omega (arith, off))

pub one_way : (es : List Edge) (e : Edge) → AreWays es → length es ≡ 1 → e ≡ slice_index_or es 0 e → (is_test e.action ≡ false) × (es ≡ e ∷ [])
one_way [] e ways long at = absurd (omega arith)
one_way (d ∷ []) e ways long at = (rw at ways, ap (λ (z : Edge). z ∷ []) (sym at))
one_way (d ∷ f ∷ es) e ways long at = absurd (omega arith)

pub two_ways : (es : List Edge) (d e : Edge) → AreWays es → 2 ≤ length es → d ≡ slice_index_or es 0 d → e ≡ slice_index_or es 1 e → (other_side d.action ≡ Some e.action) × (es ≡ d ∷ e ∷ [])
two_ways [] d e ways long at next = absurd (omega arith)
two_ways (a ∷ []) d e ways long at next = absurd (omega arith)
two_ways (a ∷ b ∷ []) d e ways long at next = (rw (at, next) ways, cc)
two_ways (a ∷ b ∷ f ∷ es) d e ways long at next = absurd ways

-- What a step keeps

kept_same : (g : FlowGraph) (s s' : State) → HasShape g s → s' ≡ s → Keeps g s s'
kept_same g s s' shape same = rw same (record { shape = shape; reached = λ is. is })

kept_answer : (g : FlowGraph) (s s' : State) (a : Answer) (x : Stepped) → HasShape g s → KeepsShape g s a → IsAnswer a s x s' → Keeps g s s'
kept_answer g s s' a stepped.Moved shape keeps is = rw is at keeps
kept_answer g s s' a stepped.Ended shape keeps is = (rw is at keeps).0
kept_answer g s s' a (stepped.Stopped e) shape keeps is = kept_same g s s' shape is.1
kept_answer g s s' a stepped.DoubleFree shape keeps is = kept_same g s s' shape is.1

pub step_keeps : (g : FlowGraph) (s s' : State) (c : Choice) (x : Stepped) → IsFlowGraph g → HasShape g s → Steps g s c x s' → Keeps g s s'
step_keeps g s s' c x graph shape is = kept_answer g s s' (step_of g s c) x shape (steps_keep_shape g graph s c shape) is

pub steps_keep : (g : FlowGraph) (s s' : State) (c : Choice) (r : Result Stepped Memory) → IsFlowGraph g → HasShape g s → IfOk r (λ x. Steps g s c x s') → OnErr r (s' ≡ s) → Keeps g s s'
steps_keep g s s' c (Ok x) graph shape is same = step_keeps g s s' c x graph shape is
steps_keep g s s' c (Err e) graph shape is same = kept_same g s s' shape same

pub answer_as : (r : Result Stepped Memory) (a b : Answer) (s s' : State) → a ≡ b → IfOk r (λ x. IsAnswer b s x s') → IfOk r (λ x. IsAnswer a s x s')
answer_as (Ok x) a b s s' e is = rw e is
answer_as (Err m) a b s s' e is = tt

-- The step over the one edge of a place, and over the two sides of a test

pub one_way_steps : (g : FlowGraph) (s s' : State) (c : Choice) (r : Result Stepped Memory) (e : Edge) → 0 < length s.frames → ((running s.frames).place ≡ out_of g (running s.frames).proc → ⊥)
    → edges_from g (running s.frames).proc (running s.frames).place ≡ e ∷ []
    → IfOk r (λ x. (next : Answer) → IsAnswer (taken g c (running s.frames) (below s.frames) s.heap e.to next e.action) s x s') → IfOk r (λ x. Steps g s c x s')
one_way_steps g s s' c (Err m) e lt off edges is = tt
one_way_steps g s s' c (Ok x) e lt off edges is =
    let same : step_of g s c ≡ taken g c (running s.frames) (below s.frames) s.heap e.to (along g c (running s.frames) (below s.frames) s.heap []) e.action =
    on_way g s c lt off ∙ ap (along g c (running s.frames) (below s.frames) s.heap) edges in
    rw same (is (along g c (running s.frames) (below s.frames) s.heap []))

pub two_ways_step : (g : FlowGraph) (s s' : State) (c : Choice) (x : Stepped) (d e : Edge) → 0 < length s.frames → ((running s.frames).place ≡ out_of g (running s.frames).proc → ⊥)
    → edges_from g (running s.frames).proc (running s.frames).place ≡ d ∷ e ∷ []
    → ((next : Answer) → IsAnswer (taken g c (running s.frames) (below s.frames) s.heap d.to (taken g c (running s.frames) (below s.frames) s.heap e.to next e.action) d.action) s x s')
    → Steps g s c x s'
two_ways_step g s s' c x d e lt off edges is =
    let same : step_of g s c ≡ taken g c (running s.frames) (below s.frames) s.heap d.to (taken g c (running s.frames) (below s.frames) s.heap e.to (along g c (running s.frames) (below s.frames) s.heap []) e.action) d.action =
    on_way g s c lt off ∙ ap (along g c (running s.frames) (below s.frames) s.heap) edges in
    rw same (is (along g c (running s.frames) (below s.frames) s.heap []))

pub off_exit : (g : FlowGraph) (s : State) (t : Frame) (places : List Place) → t ≡ running s.frames → places ≡ (flow_of g t.proc).places → (t.place ≡ length places - 1 → ⊥)
    → (running s.frames).place ≡ out_of g (running s.frames).proc → ⊥
off_exit g s t places is at no_ = rw (← is) (λ (e : t.place ≡ out_of g t.proc). no_ (e ∙ sym (ap (λ (ps : List Place). length ps - 1) at)))

pub exit_at : (g : FlowGraph) (s : State) (t : Frame) (places : List Place) → t ≡ running s.frames → places ≡ (flow_of g t.proc).places → t.place ≡ length places - 1
    → (running s.frames).place ≡ out_of g (running s.frames).proc
exit_at g s t places is at here = rw (← is) (here ∙ ap (λ (ps : List Place). length ps - 1) at)

pub edges_at : (g : FlowGraph) (s : State) (t : Frame) (es : List Edge) → t ≡ running s.frames → es ≡ edges_from g t.proc t.place → es ≡ edges_from g (running s.frames).proc (running s.frames).place
edges_at g s t es is at = rw is at at
