-- The annotation of a certificate, line by line.
use Rattle.std.specs.Prelude.{◌≡◌, ℕ, suc, ◌+◌, ◌-◌, Bool, false, cond, nat_eq, List, [], ◌∷◌, ◌++◌, length, take, Option, Some, None, slice_get, codes}
use Rattle.std.specs.Option.{option_map_or}
use Rattle.std.specs.List.{flat_map}
use Rattle.c_types.specs.declared.infos.SlotInfo.{SlotInfo}
use Rattle.c_types.specs.declared.kinds.SlotType.{SlotType}
use Rattle.c_types.specs.declared.kinds.SlotType.TheVariants as type
use Rattle.c_types.specs.declared.typed.Typed.{Typed}
use Rattle.flow_graph.specs.FlowGraph.{FlowGraph, flow_of, type_in}
use Rattle.flow_graph.specs.Fits.{pointer_count}
use Rattle.own_cert.specs.declared.certificate.Certificate.{Certificate}
use Rattle.own_cert.specs.declared.certificate.Instance.{Instance}
use Rattle.own_cert.specs.declared.certificate.PlaceBits.{PlaceBits}
use Rattle.owner_vars.specs.Unknowns.{gather, field_count}
use Rattle.path_facts.specs.Tables.{FactTables}
use Rattle.transfer_rules.specs.Programs.{Parts}
use Rattle.annotate.specs.declared.locals.Local.{Local}
use Rattle.annotate.specs.declared.seats.Seat.{Seat}
use Rattle.annotate.specs.Names.{proc_name, slots_of, slot_text}
use Rattle.annotate.specs.Fields.{field_path}
use Rattle.annotate.specs.Instances.{AreInOrder, bit_at, face_of, instance_at, of_group, rows_of, seat_of}
use Rattle.annotate.specs.Keeps.{field_owns, TellsBack}
use Rattle.annotate.specs.Locals.{local_owns, locals_of}

-- what a bit says of a pointer
abbrev pub owning_text : Bool → List ℕ
owning_text b = cond b (codes "owns") (codes "borrows")

abbrev pub kind_text : SlotType → Bool → List ℕ
kind_text type.Int b = codes "int"
kind_text type.Char b = codes "char"
kind_text type.IntPtr b = owning_text b
kind_text type.CharPtr b = owning_text b
kind_text (type.StructPtr s) b = owning_text b

abbrev pub result_text : Option SlotType → Bool → List ℕ
result_text None b = codes "void"
result_text (Some t) b = kind_text t b

-- what stands before parameter j
abbrev pub comma : ℕ → List ℕ
comma j = cond (nat_eq j 0) [] (codes ", ")

-- for each pointer field: field STRUCT.FIELD owns or borrows
abbrev pub field_line : Typed → FlowGraph → List Bool → ℕ → List ℕ
field_line t g phi f = codes "field " ++ field_path t g f ++ codes " " ++ owning_text (field_owns phi f) ++ codes "\n"

abbrev pub field_lines : Typed → FlowGraph → List Bool → List ℕ
field_lines t g phi = gather (field_count g) (λ j. field_line t g phi (suc j))

-- for each procedure without a body: extern NAME(KIND, KIND) -> KIND, of which no pointer owns
abbrev pub extern_params : List SlotType → List ℕ
extern_params ts = gather (length ts) (λ j. comma j ++ kind_text (type_in ts j) false)

abbrev pub extern_line : Typed → FlowGraph → ℕ → List ℕ
extern_line t g k =
    codes "extern " ++ proc_name t k ++ codes "(" ++ extern_params (flow_of g k).params ++ codes ") -> " ++ result_text (flow_of g k).result false ++ codes "\n"

abbrev pub extern_lines : Typed → FlowGraph → List ℕ
extern_lines t g = gather (length g.procs - g.bodies) (λ j. extern_line t g (g.bodies + j))

-- for each procedure with a body and each instance of its group: proc NAME(NAME KIND, NAME KIND) -> KIND, by the bits of its
-- interface, which has the pointer parameters and then the result
abbrev pub param_name : Typed → ℕ → ℕ → List ℕ
param_name t k j = option_map_or (λ (s : SlotInfo). s.name) (slice_get (slots_of t k) j) []

abbrev pub param_text : Typed → ℕ → List SlotType → List Bool → ℕ → List ℕ
param_text t k ts face j = param_name t k j ++ codes " " ++ kind_text (type_in ts j) (bit_at face (pointer_count (take j ts)))

abbrev pub params_text : Typed → ℕ → List SlotType → List Bool → List ℕ
params_text t k ts face = gather (length ts) (λ j. comma j ++ param_text t k ts face j)

abbrev pub proc_line : Typed → FlowGraph → ℕ → List Bool → List ℕ
proc_line t g k face =
    codes "proc " ++ proc_name t k ++ codes "(" ++ params_text t k (flow_of g k).params face ++ codes ") -> "
    ++ result_text (flow_of g k).result (bit_at face (pointer_count (flow_of g k).params)) ++ codes "\n"

-- then for each pointer among its locals, two spaces and: local NAME:LINE owns or borrows
abbrev pub local_line : Typed → FlowGraph → FactTables → ℕ → List PlaceBits → Local → List ℕ
local_line t g facts k rows l = codes "  local " ++ slot_text t k l.slot ++ codes " " ++ owning_text (local_owns g facts k rows l) ++ codes "\n"

abbrev pub local_lines : Typed → FlowGraph → FactTables → ℕ → List PlaceBits → List Local → List ℕ
local_lines t g facts k rows ls = flat_map (local_line t g facts k rows) ls

abbrev pub instance_lines : Typed → FlowGraph → FactTables → ℕ → Seat → Instance → List ℕ
instance_lines t g facts k s i = proc_line t g k (face_of i s) ++ local_lines t g facts k (rows_of i s) (locals_of t g k)

-- in the instances of these numbers
abbrev pub lines_in : Typed → FlowGraph → FactTables → ℕ → Seat → List Instance → List ℕ → List ℕ
lines_in t g facts k s is ns = flat_map (λ n. instance_lines t g facts k s (instance_at is n)) ns

-- in those of its group, where these are the numbers of all instances in their order
abbrev pub proc_lines : Typed → FlowGraph → FactTables → List (List ℕ) → List Instance → List ℕ → ℕ → List ℕ
proc_lines t g facts gs is ns k = lines_in t g facts k (seat_of g gs k) is (of_group is ns (seat_of g gs k).group)

-- for each owning field that leads back to its own struct: keeps STRUCT.FIELD
abbrev pub keeps_line : Typed → FlowGraph → ℕ → List ℕ
keeps_line t g f = codes "keeps " ++ field_path t g f ++ codes "\n"

abbrev pub keeps_lines : Typed → FlowGraph → (ℕ → Bool) → List ℕ
keeps_lines t g kept = gather (field_count g) (λ j. cond (kept (suc j)) (keeps_line t g (suc j)) [])

-- The whole, where these are the numbers of the instances in order, and the test tells which fields lead back

module _ (t : Typed) (g : FlowGraph) (facts : FactTables) (gs : List (List ℕ)) (phi : List Bool) (is : List Instance) where
  abbrev pub annotation_text : List ℕ → (ℕ → Bool) → List ℕ
  annotation_text numbers kept =
      codes "accepted\n" ++ field_lines t g phi ++ extern_lines t g ++ gather g.bodies (proc_lines t g facts gs is numbers) ++ keeps_lines t g kept

  pub record Annotates (bs : List ℕ) : Type 0 where
    pub numbers : List ℕ
    pub order : AreInOrder is numbers
    pub kept : ℕ → Bool
    pub back : TellsBack g phi kept
    pub text : bs ≡ annotation_text numbers kept

-- the bytes are the annotation of the certificate
abbrev pub IsAnnotation : Parts → Certificate → List ℕ → Type 0
IsAnnotation p c bs = Annotates p.typed p.graph p.facts p.groups c.phi c.instances bs

-- Its parts

-- these bytes, and then the lines of all procedures with bodies
pub record AddsInstances (t : Typed) (g : FlowGraph) (facts : FactTables) (gs : List (List ℕ)) (is : List Instance) (old new : List ℕ) : Type 0 where
  pub numbers : List ℕ
  pub order : AreInOrder is numbers
  pub text : new ≡ old ++ gather g.bodies (proc_lines t g facts gs is numbers)

-- these bytes, and then the lines of the owning fields that lead back
pub record AddsKept (t : Typed) (g : FlowGraph) (phi : List Bool) (old new : List ℕ) : Type 0 where
  pub kept : ℕ → Bool
  pub back : TellsBack g phi kept
  pub text : new ≡ old ++ keeps_lines t g kept
