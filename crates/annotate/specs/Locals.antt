-- The pointers among the locals of a procedure.
use Rattle.std.specs.Prelude.{ℕ, zero, suc, Bool, true, false, cond, not, ◌&&◌, ◌||◌, nat_le, List, [], ◌∷◌, length, Option, Some, None, slice_get}
use Rattle.c_types.specs.Types.{is_pointer}
use Rattle.c_types.specs.declared.infos.SlotInfo.{SlotInfo}
use Rattle.c_types.specs.declared.typed.Typed.{Typed}
use Rattle.flow_graph.specs.FlowGraph.{FlowGraph, flow_of, slot_type}
use Rattle.own_cert.specs.declared.certificate.PlaceBits.{PlaceBits}
use Rattle.owner_vars.specs.Unknowns.{gather}
use Rattle.owner_vars.specs.Tables.{total, size_at}
use Rattle.path_facts.specs.Tables.{FactTables, empty_in}
use Rattle.annotate.specs.declared.locals.Local.{Local}
use Rattle.annotate.specs.Names.{slots_of}
use Rattle.annotate.specs.Instances.{place_bit}

abbrev pub has_letters : List ℕ → Bool
has_letters [] = false
has_letters (c ∷ name) = true

-- a parameter or a local, since the result has no name
abbrev pub is_named : Option SlotInfo → Bool
is_named None = false
is_named (Some s) = has_letters s.name

-- a named slot after the parameters that is a pointer
abbrev pub is_local : Typed → FlowGraph → ℕ → ℕ → Bool
is_local t g k x = is_pointer (slot_type g k x) && (nat_le (length (flow_of g k).params) x && is_named (slice_get (slots_of t k) x))

-- a slot, and which bit of a place says whether it owns: as many stand before it as unknowns of the slots before
abbrev pub local_at : FlowGraph → ℕ → ℕ → Local
local_at g k x = record { slot = x; bit = total x (size_at g (flow_of g k).slots) }

-- in order of declaration
abbrev pub locals_of : Typed → FlowGraph → ℕ → List Local
locals_of t g k = gather (length (flow_of g k).slots) (λ x. cond (is_local t g k x) (local_at g k x ∷ []) [])

abbrev pub any_below : ℕ → (ℕ → Bool) → Bool
any_below zero test = false
any_below (suc n) test = any_below n test || test n

-- it owns at a place at which it is not empty
abbrev pub owns_at : FactTables → ℕ → List PlaceBits → Local → ℕ → Bool
owns_at facts k rows l p = not (empty_in facts k p l.slot) && place_bit rows p l.bit

-- it owns at some place
abbrev pub local_owns : FlowGraph → FactTables → ℕ → List PlaceBits → Local → Bool
local_owns g facts k rows l = any_below (length (flow_of g k).places) (owns_at facts k rows l)
