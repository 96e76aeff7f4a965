-- The rules of a file, and what its procedures are.
use Rattle.std.specs.Prelude.{◌≡◌, ℕ, ◌+◌, List, [], ◌∷◌, ◌++◌, map, length, take, Bool, true, false, not, ◌&&◌, ◌||◌, Option, Some, None, is_some, is_none, option_map, nat_lt, find, codes, bytes_eq, if◌then◌else◌}
use Rattle.std.specs.Option.{option_map_or}
use Rattle.std.specs.List.{list_any, position_or_len}
use Rattle.c_tree.specs.declared.position.Span.{Span}
use Rattle.c_tree.specs.declared.tree.TypeName.{TypeName}
use Rattle.c_tree.specs.declared.tree.TypeName.TheVariants as written
use Rattle.c_tree.specs.declared.tree.Member.{Member}
use Rattle.c_tree.specs.declared.tree.StructDef.{StructDef}
use Rattle.c_tree.specs.Plain.{Stmt, block, Procedure, Tree}
use Rattle.c_types.specs.declared.kinds.SlotType.{SlotType}
use Rattle.c_types.specs.declared.rules.Breach.{Breach}
use Rattle.c_types.specs.declared.infos.NodeInfo.{NodeInfo}
use Rattle.c_types.specs.declared.infos.SlotInfo.{SlotInfo}
use Rattle.c_types.specs.declared.infos.StructInfo.{StructInfo}
use Rattle.c_types.specs.declared.infos.ProcInfo.{ProcInfo}
use Rattle.c_types.specs.declared.tables.Tables.{Tables}
use Rattle.c_types.specs.declared.scope.Scope.{Scope}
use Rattle.c_types.specs.declared.error.TypeError.{TypeError}
use Rattle.c_types.specs.declared.error.TypeError.TheVariants as refusal
use Rattle.c_types.specs.declared.error.LimitKind.{LimitKind}
use Rattle.c_types.specs.declared.error.LimitKind.TheVariants as limit
use Rattle.c_types.specs.Breaches.{Gathering, breach_if, first, listed}
use Rattle.c_types.specs.Names.{has_name, with_name}
use Rattle.c_types.specs.Types.{is_pointer, same_signature}
use Rattle.c_types.specs.Declarations.{signature, result_type, signature_of, has_body, with_body, declarations, struct_infos, body_names, proc_names}
use Rattle.c_types.specs.Scopes.{no_scope, is_empty, with_param, with_params, breaks_5}
use Rattle.c_types.specs.Stmts.{after, after_all, stmt_breaches, stmts_breaches, stmt_infos, stmts_infos, plain_info}

-- 3: all prototypes and the body of one name agree with the first of them, and there is at most one body
abbrev pub breaks_3 : Tables → List (List ℕ) → Procedure → Bool
breaks_3 c bodied p =
    not (option_map_or (same_signature (signature c.tags p)) (signature_of c p.name) true) || (is_some p.body && has_name bodied p.name)

-- 4: a procedure without a body returns an int, a char or nothing
abbrev pub breaks_4 : Tables → Procedure → Bool
breaks_4 c p = not (has_body c p.name) && option_map_or is_pointer (result_type c.tags p.result) false

module _ {M : Type 0} (g : Gathering M) where
  infixr 5 ◌also◌
  open g use {also as ◌also◌}

  -- 2: the members of a struct have different names
  abbrev pub members_breaches : List (List ℕ) → List Member → M
  members_breaches seen [] = g.none
  members_breaches seen (m ∷ ms) = breach_if g (has_name seen m.name) m.at 2 also members_breaches (with_name seen m.name) ms

  -- 1: a struct has at most one definition
  abbrev pub structs_breaches : List (List ℕ) → List StructDef → M
  structs_breaches seen [] = g.none
  structs_breaches seen (d ∷ ds) =
      breach_if g (has_name seen d.tag) d.at 1
      also (members_breaches [] d.members also structs_breaches (with_name seen d.tag) ds)

  abbrev pub params_breaches : Tables → Scope → List Member → M
  params_breaches c s [] = g.none
  params_breaches c s (m ∷ ms) =
      breach_if g (not (is_empty m.name) && breaks_5 s m.name) m.at 5 also params_breaches c (with_param c.tags s m) ms

  -- the body's outermost block and the parameters are one scope
  abbrev pub body_breaches : Tables → Option SlotType → Scope → Option Stmt → M
  body_breaches c r s None = g.none
  body_breaches c r s (Some (block at sts)) = stmts_breaches g c r false s sts
  body_breaches c r s (Some st) = stmt_breaches g c r false s st

  abbrev pub proc_breaches : Tables → List (List ℕ) → Procedure → M
  proc_breaches c bodied p =
      breach_if g (breaks_3 c bodied p) p.at 3
      also (breach_if g (breaks_4 c p) p.at 4
      also (params_breaches c no_scope p.params
      also body_breaches c (result_type c.tags p.result) (with_params c.tags no_scope p.params) p.body))

  abbrev pub procs_breaches : Tables → List (List ℕ) → List Procedure → M
  procs_breaches c bodied [] = g.none
  procs_breaches c bodied (p ∷ ps) = proc_breaches c bodied p also procs_breaches c (with_body bodied p) ps

  unfoldable pub tree_breaches : Tree → M
  tree_breaches t = structs_breaches [] t.structs also procs_breaches (declarations t) [] t.procs

-- the broken rules of a tree
abbrev pub broken_rules : Tree → List Breach
broken_rules t = tree_breaches listed t

-- no rule is broken
abbrev pub IsWellTyped : Tree → Type 0
IsWellTyped t = broken_rules t ≡ []

-- the broken rule that stands first, by the first byte of its node, then in preorder, then by its number
abbrev pub first_broken : Tree → Option Breach
first_broken t = first (broken_rules t)

-- what is declared after a body
abbrev pub body_after : Tables → Scope → Option Stmt → Scope
body_after c s None = s
body_after c s (Some (block at sts)) = after_all c s sts
body_after c s (Some st) = after c s st

-- the slot of the result
abbrev pub ret_slots : Option Stmt → Option SlotType → Span → List SlotInfo
ret_slots None r close = []
ret_slots (Some st) None close = []
ret_slots (Some st) (Some k) close = record { name = []; kind = k; at = close } ∷ []

-- the slots of a procedure
abbrev pub slots_of : Tables → Procedure → List SlotInfo
slots_of c p =
    (body_after c (with_params c.tags no_scope p.params) p.body).slots ++ ret_slots p.body (result_type c.tags p.result) p.close

abbrev pub body_infos : Tables → Option SlotType → Scope → Option Stmt → List NodeInfo
body_infos c r s None = []
body_infos c r s (Some (block at sts)) = plain_info ∷ stmts_infos c r s sts
body_infos c r s (Some st) = stmt_infos c r s st

-- the nodes of a procedure's body
abbrev pub nodes_of : Tables → Procedure → List NodeInfo
nodes_of c p = body_infos c (result_type c.tags p.result) (with_params c.tags no_scope p.params) p.body

-- a procedure whose item has that place
abbrev pub proc_info : Tables → ℕ → Procedure → ProcInfo
proc_info c i p = record {
  item = i;
  params = length p.params;
  result = result_type c.tags p.result;
  slots = slots_of c p;
  nodes = nodes_of c p;
}

abbrev pub chosen : Bool → ProcInfo → List ProcInfo
chosen false p = []
chosen true p = p ∷ []

-- the procedures that have a body, from a place on, where these names have one before; of two bodies the first counts
abbrev pub bodied_infos : Tables → List (List ℕ) → ℕ → List Procedure → List ProcInfo
bodied_infos c bodied i [] = []
bodied_infos c bodied i (p ∷ ps) =
    chosen (is_some p.body && not (has_name bodied p.name)) (proc_info c i p) ++ bodied_infos c (with_body bodied p) (i + 1) ps

-- the names that have a body, or a prototype so far
abbrev pub with_prototype : List (List ℕ) → Procedure → List (List ℕ)
with_prototype known p = if is_some p.body then known else with_name known p.name

-- the others, from a place on, where these names have a body or a prototype before
abbrev pub external_infos : Tables → List (List ℕ) → ℕ → List Procedure → List ProcInfo
external_infos c known i [] = []
external_infos c known i (p ∷ ps) =
    chosen (is_none p.body && not (has_name known p.name)) (proc_info c i p) ++ external_infos c (with_prototype known p) (i + 1) ps

-- the procedures of a file by number
unfoldable pub proc_infos : Tree → List ProcInfo
proc_infos t = bodied_infos (declarations t) [] 0 t.procs ++ external_infos (declarations t) (body_names t) 0 t.procs

-- how many have a body
abbrev pub body_count : Tree → ℕ
body_count t = length (body_names t)

abbrev pub is_int : Option TypeName → Bool
is_int None = false
is_int (Some written.Int) = true
is_int (Some written.Char) = false
is_int (Some written.IntPtr) = false
is_int (Some written.CharPtr) = false
is_int (Some (written.StructPtr t)) = false

abbrev pub no_members : List Member → Bool
no_members [] = true
no_members (m ∷ ms) = false

-- a body of `int main` without parameters
abbrev pub is_main : Procedure → Bool
is_main p = bytes_eq (codes "main") p.name && (is_some p.body && (is_int p.result && no_members p.params))

abbrev pub has_main : Tree → Bool
has_main t = list_any is_main t.procs

-- the number of main
abbrev pub main_number : Tree → ℕ
main_number t = position_or_len (bytes_eq (codes "main")) (proc_names t)

-- the first of these numbers that is over the limit
abbrev pub first_over : ℕ → List ℕ → Option ℕ
first_over most ns = find (λ n. nat_lt most n) ns

abbrev pub pointer_count : List SlotInfo → ℕ
pointer_count [] = 0
pointer_count (v ∷ vs) = if is_pointer v.kind then pointer_count vs + 1 else pointer_count vs

abbrev pub pointer_params : ProcInfo → ℕ
pointer_params p = pointer_count (take p.params p.slots)

abbrev pub limit_on : LimitKind → ℕ → List ℕ → Option TypeError
limit_on k most ns = option_map (λ n. refusal.Limit k n) (first_over most ns)

abbrev pub or_else : Option TypeError → Option TypeError → Option TypeError
or_else None o = o
or_else (Some e) o = Some e

-- the first limit that is passed: structs, members of a struct, procedures, pointer parameters of a procedure
unfoldable pub limit_passed : List StructInfo → List ProcInfo → Option TypeError
limit_passed ss ps =
    or_else (limit_on limit.Structs 1024 (length ss ∷ []))
    (or_else (limit_on limit.Fields 64 (map (λ s. length s.members) ss))
    (or_else (limit_on limit.Procs 4096 (length ps ∷ []))
    (limit_on limit.Params 8 (map pointer_params ps))))

-- the refusals in their order
abbrev pub refused_for : Option Breach → Bool → Option TypeError → Option TypeError
refused_for (Some b) main over = Some (refusal.BadType b.at b.rule)
refused_for None false over = Some refusal.NoMain
refused_for None true over = over

-- why a tree is no typed one: a broken rule, no main, a limit
unfoldable pub refusal_of : Tree → Option TypeError
refusal_of t = refused_for (first_broken t) (has_main t) (limit_passed (struct_infos t) (proc_infos t))
