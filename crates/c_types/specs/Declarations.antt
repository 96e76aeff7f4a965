-- What the declarations of a file say: which structs and procedures there are, how they are numbered, and their types.
use Rattle.std.specs.Prelude.{ℕ, ◌+◌, List, [], ◌∷◌, ◌++◌, map, length, take, drop, Bool, Option, Some, None, is_some, option_map, slice_get, nat_lt, bytes_eq, if◌then◌else◌}
use Rattle.std.specs.List.{position_or_len}
use Rattle.c_tree.specs.declared.tree.TypeName.{TypeName}
use Rattle.c_tree.specs.declared.tree.TypeName.TheVariants as written
use Rattle.c_tree.specs.declared.tree.Unit.{Unit as Measured}
use Rattle.c_tree.specs.declared.tree.Unit.TheVariants as measured
use Rattle.c_tree.specs.declared.tree.Member.{Member}
use Rattle.c_tree.specs.declared.tree.StructDef.{StructDef}
use Rattle.c_tree.specs.Plain.{Expr, num, text, null, name, call, new, new_of, arrow, index, not_of, neg, binary, Exprs, no_exprs, expr, Stmt, block, local, local_as, assign, do_call, free, when, when_else, while, for, break, continue, return, return_of, nothing, Stmts, no_stmts, stmt, Procedure, Tree}
use Rattle.c_types.specs.declared.kinds.SlotType.{SlotType}
use Rattle.c_types.specs.declared.infos.MemberInfo.{MemberInfo}
use Rattle.c_types.specs.declared.infos.StructInfo.{StructInfo}
use Rattle.c_types.specs.declared.tables.Signature.{Signature}
use Rattle.c_types.specs.declared.tables.Tables.{Tables}
use Rattle.c_types.specs.Names.{has_name, with_name, with_names}
use Rattle.c_types.specs.Types.{slot_type, tag_number, is_pointer}

-- the tags, and then those that a type, members or parameters, and an allocation mention
abbrev pub with_type : List (List ℕ) → TypeName → List (List ℕ)
with_type ns written.Int = ns
with_type ns written.Char = ns
with_type ns written.IntPtr = ns
with_type ns written.CharPtr = ns
with_type ns (written.StructPtr t) = with_name ns t

abbrev pub with_members : List (List ℕ) → List Member → List (List ℕ)
with_members ns [] = ns
with_members ns (m ∷ ms) = with_members (with_type ns m.kind) ms

abbrev pub with_maybe : List (List ℕ) → Option TypeName → List (List ℕ)
with_maybe ns None = ns
with_maybe ns (Some t) = with_type ns t

abbrev pub with_unit : List (List ℕ) → Option Measured → List (List ℕ)
with_unit ns None = ns
with_unit ns (Some measured.Int) = ns
with_unit ns (Some measured.Char) = ns
with_unit ns (Some (measured.Struct t)) = with_name ns t
with_unit ns (Some (measured.Behind x)) = ns

-- the tags, and then those that an expression mentions; those of an allocation stand before those of its count
abbrev mutual
  pub with_expr : List (List ℕ) → Expr → List (List ℕ)
  with_expr ns (num at z) = ns
  with_expr ns (text at b) = ns
  with_expr ns (null at) = ns
  with_expr ns (name at x) = ns
  with_expr ns (call at f es) = with_exprs ns es
  with_expr ns (new at n) = with_unit (with_maybe ns n.cast) n.unit
  with_expr ns (new_of at n e) = with_expr (with_unit (with_maybe ns n.cast) n.unit) e
  with_expr ns (arrow at b f) = with_expr ns b
  with_expr ns (index at b i) = with_expr (with_expr ns b) i
  with_expr ns (not_of at e) = with_expr ns e
  with_expr ns (neg at e) = with_expr ns e
  with_expr ns (binary at o a b) = with_expr (with_expr ns a) b

  pub with_exprs : List (List ℕ) → Exprs → List (List ℕ)
  with_exprs ns no_exprs = ns
  with_exprs ns (expr e es) = with_exprs (with_expr ns e) es

-- the tags, and then those that a statement mentions
abbrev mutual
  pub with_stmt : List (List ℕ) → Stmt → List (List ℕ)
  with_stmt ns (block at ss) = with_stmts ns ss
  with_stmt ns (local at x t) = with_type ns t
  with_stmt ns (local_as at x t e) = with_expr (with_type ns t) e
  with_stmt ns (assign at a b) = with_expr (with_expr ns a) b
  with_stmt ns (do_call at e) = with_expr ns e
  with_stmt ns (free at e) = with_expr ns e
  with_stmt ns (when at c s) = with_stmt (with_expr ns c) s
  with_stmt ns (when_else at c s t) = with_stmt (with_stmt (with_expr ns c) s) t
  with_stmt ns (while at c s) = with_stmt (with_expr ns c) s
  with_stmt ns (for at init c step s) = with_stmt (with_stmts (with_exprs (with_stmts ns init) c) step) s
  with_stmt ns (break at) = ns
  with_stmt ns (continue at) = ns
  with_stmt ns (return at) = ns
  with_stmt ns (return_of at e) = with_expr ns e
  with_stmt ns (nothing at) = ns

  pub with_stmts : List (List ℕ) → Stmts → List (List ℕ)
  with_stmts ns no_stmts = ns
  with_stmts ns (stmt s ss) = with_stmts (with_stmt ns s) ss

abbrev pub with_body_tags : List (List ℕ) → Option Stmt → List (List ℕ)
with_body_tags ns None = ns
with_body_tags ns (Some s) = with_stmt ns s

abbrev pub with_proc : List (List ℕ) → Procedure → List (List ℕ)
with_proc ns p = with_body_tags (with_members (with_maybe ns p.result) p.params) p.body

abbrev pub with_procs : List (List ℕ) → List Procedure → List (List ℕ)
with_procs ns [] = ns
with_procs ns (p ∷ ps) = with_procs (with_proc ns p) ps

-- how many procedures, from the front, stand before that struct in the file
abbrev pub before_count : StructDef → List Procedure → ℕ
before_count d [] = 0
before_count d (p ∷ ps) = if nat_lt p.at.start d.at.start then before_count d ps + 1 else 0

-- the tags, and then those that a file mentions, in its order
abbrev pub with_file : List (List ℕ) → List StructDef → List Procedure → List (List ℕ)
with_file ns [] ps = with_procs ns ps
with_file ns (d ∷ ds) ps =
    with_file (with_members (with_procs ns (take (before_count d ps) ps)) d.members) ds (drop (before_count d ps) ps)

-- the tags of the structs that have a definition, in order of their definitions
unfoldable pub defined_tags : Tree → List (List ℕ)
defined_tags t = with_names [] (map (λ d. d.tag) t.structs)

-- the tags of all structs by number: then those that are only named, in order of their first mention
unfoldable pub struct_tags : Tree → List (List ℕ)
struct_tags t = with_file (defined_tags t) t.structs t.procs

-- a member of a struct, where n pointer fields stand before it
abbrev pub member_info : List (List ℕ) → ℕ → Member → MemberInfo
member_info tags n m = record {
  name = m.name;
  kind = slot_type tags m.kind;
  field = if is_pointer (slot_type tags m.kind) then n + 1 else 0;
}

-- how many pointer fields there are after it
abbrev pub fields_with : List (List ℕ) → ℕ → Member → ℕ
fields_with tags n m = if is_pointer (slot_type tags m.kind) then n + 1 else n

abbrev pub member_infos : List (List ℕ) → ℕ → List Member → List MemberInfo
member_infos tags n [] = []
member_infos tags n (m ∷ ms) = member_info tags n m ∷ member_infos tags (fields_with tags n m) ms

abbrev pub fields_after : List (List ℕ) → ℕ → List Member → ℕ
fields_after tags n [] = n
fields_after tags n (m ∷ ms) = fields_after tags (fields_with tags n m) ms

abbrev pub struct_info : List (List ℕ) → ℕ → StructDef → StructInfo
struct_info tags n d = record { tag = d.tag; members = member_infos tags n d.members }

-- the structs that have a definition, where these tags stand before; of two definitions the first counts
abbrev pub defined_infos : List (List ℕ) → List (List ℕ) → ℕ → List StructDef → List StructInfo
defined_infos tags seen n [] = []
defined_infos tags seen n (d ∷ ds) =
    if has_name seen d.tag then defined_infos tags (with_name seen d.tag) n ds
    else struct_info tags n d ∷ defined_infos tags (with_name seen d.tag) (fields_after tags n d.members) ds

-- a struct that is only named
abbrev pub named_info : List ℕ → StructInfo
named_info t = record { tag = t; members = [] }

-- the structs of a file by number
unfoldable pub struct_infos : Tree → List StructInfo
struct_infos t = defined_infos (struct_tags t) [] 0 t.structs ++ map named_info (drop (length (defined_tags t)) (struct_tags t))

-- the names, and that of this procedure where it has a body
abbrev pub with_body : List (List ℕ) → Procedure → List (List ℕ)
with_body ns p = if is_some p.body then with_name ns p.name else ns

abbrev pub with_bodies : List (List ℕ) → List Procedure → List (List ℕ)
with_bodies ns [] = ns
with_bodies ns (p ∷ ps) = with_bodies (with_body ns p) ps

-- the names of the procedures that have a body, in order of their bodies
unfoldable pub body_names : Tree → List (List ℕ)
body_names t = with_bodies [] t.procs

-- the names of all procedures by number: then the others, in order of their first prototype
unfoldable pub proc_names : Tree → List (List ℕ)
proc_names t = with_names (body_names t) (map (λ p. p.name) t.procs)

-- the names of all procedures, in order of their first prototype or body
unfoldable pub declared_names : Tree → List (List ℕ)
declared_names t = with_names [] (map (λ p. p.name) t.procs)

abbrev pub params_types : List (List ℕ) → List Member → List SlotType
params_types tags ms = map (λ m. slot_type tags m.kind) ms

abbrev pub result_type : List (List ℕ) → Option TypeName → Option SlotType
result_type tags o = option_map (slot_type tags) o

abbrev pub signature : List (List ℕ) → Procedure → Signature
signature tags p = record { params = params_types tags p.params; result = result_type tags p.result }

-- the signatures of the first prototypes or bodies, where these names stand before
abbrev pub signatures_from : List (List ℕ) → List (List ℕ) → List Procedure → List Signature
signatures_from tags seen [] = []
signatures_from tags seen (p ∷ ps) =
    if has_name seen p.name then signatures_from tags (with_name seen p.name) ps
    else signature tags p ∷ signatures_from tags (with_name seen p.name) ps

unfoldable pub signatures : Tree → List Signature
signatures t = signatures_from (struct_tags t) [] t.procs

-- all of it
abbrev pub declarations : Tree → Tables
declarations t = record {
  tags = struct_tags t;
  defined = length (defined_tags t);
  structs = struct_infos t;
  procs = proc_names t;
  bodies = length (body_names t);
  declared = declared_names t;
  signatures = signatures t;
}

-- a tag has a definition
abbrev pub is_defined : Tables → List ℕ → Bool
is_defined c t = nat_lt (tag_number c.tags t) c.defined

-- what the first prototype or body of that name says
abbrev pub signature_of : Tables → List ℕ → Option Signature
signature_of c f = slice_get c.signatures (position_or_len (bytes_eq f) c.declared)

-- a procedure of that name has a body
abbrev pub has_body : Tables → List ℕ → Bool
has_body c f = nat_lt (position_or_len (bytes_eq f) c.procs) c.bodies
