-- What a clause sees of what the parser of items returns.
use Rattle.std.specs.Prelude.{ℕ, List, [], ◌∷◌, Option, Some, None, option_and_then, if◌then◌else◌}
use Rattle.c_tree.specs.declared.tree.TypeName.{TypeName}
use Rattle.c_tree.specs.declared.tree.Member.{Member}
use Rattle.c_tree.specs.declared.tree.StructDef.{StructDef}
use Rattle.c_tree.specs.declared.tree.ProcItem.{ProcItem}
use Rattle.c_tree.specs.Plain.{Procedure, Tree}
use Rattle.c_tree.specs.View.{proc_view}
use Rattle.c_token.specs.declared.token.Token.{Token}
use Rattle.c_grammar.specs.Parts.{Part, Piece}
use Rattle.c_grammar.specs.ReadItems.{Row, Head, Kind, defined, forward, procedure, kind_of, is_first_word, read_definition, read_proc, File}
use Rattle.c_parser.specs.declared.items.MembersRow as code_members
use Rattle.c_parser.specs.declared.items.DefinitionRow as code_definition
use Rattle.c_parser.specs.declared.items.TypePiece as code_type
use Rattle.c_parser.specs.declared.items.AnswerPiece as code_answer
use Rattle.c_parser.specs.declared.items.Head as code_head
use Rattle.c_parser.specs.declared.items.ProcPart as code_proc
use Rattle.c_parser.specs.declared.file.Item as code_item
use Rattle.c_parser.specs.declared.file.ItemRow as code_row
use Rattle.c_parser.specs.declared.file.Kind as code_kind
use Rattle.c_parser.specs.Views.{named_of, front_of}

abbrev pub members_row : code_members.MembersRow → Row (List Member)
members_row m = record { items = m.items; rest = m.rest.now }

abbrev pub definition_row : code_definition.DefinitionRow → Row (Option StructDef)
definition_row d = record { items = Some d.tree; rest = d.rest.now }

abbrev pub type_piece : code_type.TypePiece → Piece TypeName
type_piece p = record { tree = p.tree; at = p.at; rest = p.rest.now }

abbrev pub answer_piece : code_answer.AnswerPiece → Piece (Option TypeName)
answer_piece p = record { tree = p.tree; at = p.at; rest = p.rest.now }

abbrev pub head_of : code_head.Head → Head
head_of h = record { answer = answer_piece h.answer; name = h.name; name_at = h.name_at; params = h.params; rest = h.rest.now }

abbrev pub proc_part : code_proc.ProcPart → Part Procedure
proc_part p = record { tree = proc_view p.tree; at = p.tree.at; depth = p.depth; rest = p.rest.now }

-- an item, which a forward declaration leaves out of the tree
pub data Item : Type 0 where
  structure : Option StructDef → Item
  proc : Procedure → Item

abbrev pub item_view : code_item.Item → Item
item_view (code_item.Item.Struct d) = structure (Some d)
item_view code_item.Item.Forward = structure None
item_view (code_item.Item.Proc p) = proc (proc_view p)

pub record ItemRow : Type 0 where
  pub item : Item
  pub depth : ℕ
  pub rest : List Token

abbrev pub item_row : code_row.ItemRow → ItemRow
item_row r = record { item = item_view r.item; depth = r.depth; rest = r.rest.now }

abbrev pub structure_row : Row (Option StructDef) → Option ItemRow
structure_row r = Some (record { item = structure r.items; depth = 0; rest = r.rest })

abbrev pub proc_row : Part Procedure → Option ItemRow
proc_row p = Some (record { item = proc p.tree; depth = p.depth; rest = p.rest })

abbrev pub item_by : List Token → Token → Kind → Option ItemRow
item_by ts t (defined n q) = option_and_then structure_row (read_definition t n.name q.rest)
item_by ts t (forward n q) = Some (record { item = structure None; depth = 0; rest = q.rest })
item_by ts t procedure = option_and_then proc_row (read_proc ts)

-- the item at the front, after the words before it
abbrev pub read_item : List Token → Option ItemRow
read_item [] = None
read_item (t ∷ ts) = if is_first_word t.kind then read_item ts else item_by (t ∷ ts) t (kind_of (t ∷ ts))

-- the tokens after `static` or `extern`
abbrev pub after_linkage : List Token → Option (List Token)
after_linkage [] = None
after_linkage (t ∷ ts) = if is_first_word t.kind then Some ts else None

-- an item that begins with neither of these
abbrev pub bare_item : List Token → Option ItemRow
bare_item [] = None
bare_item (t ∷ ts) = item_by (t ∷ ts) t (kind_of (t ∷ ts))

abbrev pub tree_of : File → Tree
tree_of f = f.tree

-- what an item adds to the lists of a tree
abbrev pub item_structs : code_item.Item → List StructDef
item_structs (code_item.Item.Struct d) = d ∷ []
item_structs code_item.Item.Forward = []
item_structs (code_item.Item.Proc p) = []

abbrev pub item_procs : code_item.Item → List ProcItem
item_procs (code_item.Item.Struct d) = []
item_procs code_item.Item.Forward = []
item_procs (code_item.Item.Proc p) = p ∷ []

abbrev pub kind_view : code_kind.Kind → Kind
kind_view (code_kind.Kind.Defined n q) = defined (named_of n) (front_of q)
kind_view (code_kind.Kind.Forward n q) = forward (named_of n) (front_of q)
kind_view code_kind.Kind.Procedure = procedure
