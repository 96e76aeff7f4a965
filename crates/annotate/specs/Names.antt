-- What procedures, slots and structs are called in a text: by their declarations in the source.
use Rattle.std.specs.Prelude.{ℕ, List, [], ◌∷◌, ◌++◌, Option, Some, None, option_and_then, slice_get, codes, decimal}
use Rattle.std.specs.Option.{option_map_or}
use Rattle.c_tree.specs.declared.tree.ProcItem.{ProcItem}
use Rattle.c_types.specs.declared.infos.MemberInfo.{MemberInfo}
use Rattle.c_types.specs.declared.infos.ProcInfo.{ProcInfo}
use Rattle.c_types.specs.declared.infos.SlotInfo.{SlotInfo}
use Rattle.c_types.specs.declared.infos.StructInfo.{StructInfo}
use Rattle.c_types.specs.declared.typed.Typed.{Typed}

-- the body of a procedure, or its first prototype where it has none
abbrev pub item_of : Typed → ℕ → Option ProcItem
item_of t k = option_and_then (λ (p : ProcInfo). slice_get t.tree.procs p.item) (slice_get t.procs k)

abbrev pub proc_name : Typed → ℕ → List ℕ
proc_name t k = option_map_or (λ (i : ProcItem). i.name) (item_of t k) []

-- the parameters, the locals and the result
abbrev pub slots_of : Typed → ℕ → List SlotInfo
slots_of t k = option_map_or (λ (p : ProcInfo). p.slots) (slice_get t.procs k) []

-- a parameter or a local, with the line of its declaration; of the slots of a body the result alone has no name
abbrev pub declared_text : List ℕ → ℕ → List ℕ
declared_text [] line = codes "ret"
declared_text (c ∷ name) line = (c ∷ name) ++ (58 ∷ decimal line)

-- a slot that is not declared is a temporary
abbrev pub slot_name : Option SlotInfo → List ℕ
slot_name None = codes "tmp"
slot_name (Some s) = declared_text s.name s.at.line

abbrev pub slot_text : Typed → ℕ → ℕ → List ℕ
slot_text t k x = slot_name (slice_get (slots_of t k) x)

abbrev pub struct_tag : Typed → ℕ → List ℕ
struct_tag t s = option_map_or (λ (i : StructInfo). i.tag) (slice_get t.structs s) []

abbrev pub member_name : Typed → ℕ → ℕ → List ℕ
member_name t s m = option_map_or (λ (i : MemberInfo). i.name) (option_and_then (λ (i : StructInfo). slice_get i.members m) (slice_get t.structs s)) []
