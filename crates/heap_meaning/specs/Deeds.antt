-- The parts of which the code of a step is made: the running frame, and what a step does once its checks have passed.
use Rattle.std.specs.Prelude.{◌≡◌, ℕ, Bool, false, cond, not, List, [], ◌∷◌, ◌++◌, length, drop, slice_index_or, slice_set, Option, Some, None, Result}
use Rattle.c_types.specs.declared.kinds.SlotType.{SlotType}
use Rattle.flow_graph.specs.declared.action.Action.{Action}
use Rattle.flow_graph.specs.declared.action.Action.TheVariants as act
use Rattle.flow_graph.specs.FlowGraph.{FlowGraph, edges_from}
use Rattle.flow_graph.specs.Fits.{is_test, other_side}
use Rattle.heap_meaning.specs.declared.values.Value.{Value}
use Rattle.heap_meaning.specs.declared.values.Value.TheVariants as value
use Rattle.heap_meaning.specs.declared.states.Frame.{Frame}
use Rattle.heap_meaning.specs.declared.states.Object.{Object}
use Rattle.heap_meaning.specs.declared.choices.Choice.{Choice}
use Rattle.heap_meaning.specs.declared.choices.Stop.{Stop}
use Rattle.heap_meaning.specs.declared.deeds.Deed.{Deed}
use Rattle.heap_meaning.specs.declared.deeds.Deed.TheVariants as deed
use Rattle.heap_meaning.specs.Reads.{slot, put_cell, freed_at}
use Rattle.heap_meaning.specs.Run.{Answer, Moved, DoubleFree, ◌>>=◌, put_as, put_into, without, made, go, assign, taken, resumed}

abbrev pub no_frame : Frame
no_frame = record { proc = 0; place = 0; slots = []; waiting = None }

-- the frame that runs, and those on which it stands
abbrev pub running : List Frame → Frame
running fs = slice_index_or fs 0 no_frame

abbrev pub below : List Frame → List Frame
below fs = drop 1 fs

-- slots of which one may get a value
abbrev pub put_at : Option ℕ → Value → List Value → List Value
put_at None v vs = vs
put_at (Some x) v vs = slice_set vs x v

-- a frame at a place, one slot changed
abbrev pub settled : Frame → ℕ → Option ℕ → Value → Frame
settled t q x v = record { proc = t.proc; place = q; slots = put_at x v t.slots; waiting = None }

-- a frame that has handed over the values of these slots
abbrev pub handed : Frame → Option ℕ → List ℕ → Frame
handed t r us = record { proc = t.proc; place = t.place; slots = without t.slots us; waiting = r }

-- what a deed does to the running frame, which goes on at a place, and to the heap
abbrev pub done : FlowGraph → Choice → Frame → List Frame → List Object → ℕ → Deed → Answer
done g c t ws h q deed.Go = go g c t ws h q t.slots h
done g c t ws h q (deed.Assign x v) = assign g c t ws h q x v
done g c t ws h q (deed.Put b f v) = go g c t ws h q t.slots (put_cell h b f v)
done g c t ws h q (deed.Free b) = go g c t ws h q t.slots (freed_at h b)
done g c t ws h q (deed.Make x zeroed kind n) = go g c t ws h q (slice_set t.slots x (value.Ref (length h))) (h ++ made g zeroed kind n ∷ [])
done g c t ws h q deed.FreeTwice = DoubleFree

-- a deed, or an error, is what comes of an action
abbrev pub DoesAs : FlowGraph → Choice → Frame → List Object → Result Deed Stop → Action → Type 0
DoesAs g c t h r a = (ws : List Frame) (q : ℕ) (next : Answer) → (r >>= done g c t ws h q) ≡ taken g c t ws h q next a

-- neither a test nor a call
abbrev pub is_plain : Action → Bool
is_plain (act.Call r callee us) = false
is_plain a = not (is_test a)

-- an answer, or an error, is what comes of the first of the two sides of a test and the other one after it
abbrev pub TestsAs : Frame → List Object → Result Bool Stop → Action → Type 0
TestsAs t h r a = (g : FlowGraph) (c : Choice) (ws : List Frame) (q z : ℕ) (next : Answer) (b : Action) → other_side a ≡ Some b
    → (r >>= (λ holds. cond holds (go g c t ws h q t.slots h) (go g c t ws h z t.slots h))) ≡ taken g c t ws h q (taken g c t ws h z next b) a

-- what a slot of a new frame holds of an argument, where there is one
abbrev pub argument_of : List Value → Option ℕ → SlotType → Value
argument_of vs None t = value.Unset
argument_of vs (Some u) t = put_as t (slot vs u)

-- a frame that waits goes on at this place
abbrev pub CallLeadsTo : FlowGraph → Frame → ℕ → Type 0
CallLeadsTo g w q = (v : Value) (ws : List Frame) (h : List Object) → resumed g w ws h (edges_from g w.proc w.place) v
    ≡ Moved (record { frames = record { proc = w.proc; place = q; slots = put_into g w.proc w.waiting w.slots v; waiting = None } ∷ ws; heap = h })
