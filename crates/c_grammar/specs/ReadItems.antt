-- What a parser reads of a file.
use Rattle.std.specs.Prelude.{ℕ, zero, suc, max, Bool, true, false, not, ◌&&◌, if◌then◌else◌, bytes_eq, List, [], ◌∷◌, ◌++◌, length, Option, Some, None, option_and_then, codes}
use Rattle.c_tree.specs.declared.position.Span.{Span}
use Rattle.c_tree.specs.declared.tree.TypeName.{TypeName}
use Rattle.c_tree.specs.declared.tree.Unit.{Unit as Base}
use Rattle.c_tree.specs.declared.tree.Member.{Member}
use Rattle.c_tree.specs.declared.tree.StructDef.{StructDef}
use Rattle.c_tree.specs.Plain.{Procedure, Tree}
use Rattle.c_token.specs.declared.token.Token.{Token}
use Rattle.c_token.specs.declared.token.TokenKind.{TokenKind}
use Rattle.c_grammar.specs.Parts.{Part, Piece, join}
use Rattle.c_grammar.specs.Types.{type_of}
use Rattle.c_grammar.specs.Items.{with_struct, with_proc}
use Rattle.c_grammar.specs.Reading.{is_word, Front, Named, after_mark, after_word, after_name, Stretch, read_base, read_star}
use Rattle.c_grammar.specs.ReadStmts.{Declared, read_declarator, Braced, read_block}

-- members or parameters, and what comes after them
pub record Row (X : Type 0) : Type 0 where
  pub items : X
  pub rest : List Token

abbrev pub one_member : Declared → Row (List Member)
one_member q = record { items = q.member ∷ []; rest = q.rest }

abbrev pub more_members : Member → Row (List Member) → Option (Row (List Member))
more_members m r = Some (record { items = m ∷ r.items; rest = r.rest })

abbrev pub declarators_after : (List Token → Option (Row (List Member))) → Declared → Option Front → Option (Row (List Member))
declarators_after next q None = Some (one_member q)
declarators_after next q (Some c) = option_and_then (more_members q.member) (next c.rest)

-- at most so many
abbrev pub declarators : ℕ → Base → List Token → Option (Row (List Member))
declarators zero b ts = None
declarators (suc n) b ts = option_and_then (λ q. declarators_after (declarators n b) q (after_mark (codes ",") q.rest)) (read_declarator b ts)

abbrev pub member_closed : Row (List Member) → Option (Row (List Member))
member_closed r = option_and_then (λ q. Some (record { items = r.items; rest = q.rest })) (after_mark (codes ";") r.rest)

abbrev pub member_of : Piece Base → Option (Row (List Member))
member_of b = option_and_then member_closed (declarators (length b.rest) b.tree b.rest)

abbrev pub read_member : List Token → Option (Row (List Member))
read_member ts = option_and_then member_of (read_base ts)

abbrev pub members_joined : List Member → Row (List Member) → Option (Row (List Member))
members_joined ms r = Some (record { items = ms ++ r.items; rest = r.rest })

abbrev pub members_after : (List Token → Option (Row (List Member))) → Row (List Member) → Option Front → Option (Row (List Member))
members_after next r (Some brace) = Some r
members_after next r None = option_and_then (members_joined r.items) (next r.rest)

-- members up to the closing brace, at most so many
abbrev pub members : ℕ → List Token → Option (Row (List Member))
members zero ts = None
members (suc n) ts = option_and_then (λ r. members_after (members n) r (after_mark (codes "}") r.rest)) (read_member ts)

-- structure: after `struct NAME`
abbrev pub definition_ended : Token → List ℕ → Row (List Member) → Front → Option (Row (Option StructDef))
definition_ended t s r q = option_and_then (λ e. Some (record { items = Some (record { tag = s; at = join t.at e.token.at; members = r.items }); rest = e.rest })) (after_mark (codes ";") q.rest)

abbrev pub definition_closed : Token → List ℕ → Row (List Member) → Option (Row (Option StructDef))
definition_closed t s r = option_and_then (definition_ended t s r) (after_mark (codes "}") r.rest)

abbrev pub read_definition : Token → List ℕ → List Token → Option (Row (Option StructDef))
read_definition t s ts = option_and_then (definition_closed t s) (members (length ts) ts)

-- types
abbrev pub typed : TypeName → Span → List Token → Option (Piece TypeName)
typed k at ts = Some (record { tree = k; at = at; rest = ts })

abbrev pub type_at : Piece Base → Option Stretch → Option (Piece TypeName)
type_at b None = option_and_then (λ k. typed k b.at b.rest) (type_of b.tree false)
type_at b (Some s) = option_and_then (λ k. typed k (join b.at s.at) s.rest) (type_of b.tree true)

abbrev pub read_type : List Token → Option (Piece TypeName)
read_type ts = option_and_then (λ b. type_at b (read_star b.rest)) (read_base ts)

abbrev pub param_at : Piece TypeName → Option Named → Declared
param_at p None = record { member = record { name = []; kind = p.tree; at = p.at }; rest = p.rest }
param_at p (Some n) = record { member = record { name = n.name; kind = p.tree; at = join p.at n.token.at }; rest = n.rest }

abbrev pub param_of : Piece TypeName → Option Declared
param_of p = Some (param_at p (after_name p.rest))

abbrev pub read_param : List Token → Option Declared
read_param ts = option_and_then param_of (read_type ts)

-- at most so many
abbrev pub some_params : ℕ → List Token → Option (Row (List Member))
some_params zero ts = None
some_params (suc n) ts = option_and_then (λ q. declarators_after (some_params n) q (after_mark (codes ",") q.rest)) (read_param ts)

abbrev pub params_void : List Token → Option Front → Option (Row (List Member))
params_void ts (Some v) = Some (record { items = []; rest = v.rest })
params_void ts None = some_params (length ts) ts

abbrev pub params_at : List Token → Option Front → Option (Row (List Member))
params_at ts (Some q) = Some (record { items = []; rest = ts })
params_at ts None = params_void ts (after_word (codes "void") ts)

abbrev pub read_params : List Token → Option (Row (List Member))
read_params ts = params_at ts (after_mark (codes ")") ts)

abbrev pub answer_type : Piece TypeName → Option (Piece (Option TypeName))
answer_type p = Some (record { tree = Some p.tree; at = p.at; rest = p.rest })

abbrev pub answer_at : List Token → Option Front → Option (Piece (Option TypeName))
answer_at ts (Some v) = Some (record { tree = None; at = v.token.at; rest = v.rest })
answer_at ts None = option_and_then answer_type (read_type ts)

abbrev pub read_answer : List Token → Option (Piece (Option TypeName))
read_answer ts = answer_at ts (after_word (codes "void") ts)

-- what stands before a `;` or a body
pub record Head : Type 0 where
  pub answer : Piece (Option TypeName)
  pub name : List ℕ
  pub name_at : Span
  pub params : List Member
  pub rest : List Token

abbrev pub head_closed : Piece (Option TypeName) → Named → Row (List Member) → Option Head
head_closed r n ps = option_and_then (λ q. Some (record { answer = r; name = n.name; name_at = n.token.at; params = ps.items; rest = q.rest })) (after_mark (codes ")") ps.rest)

abbrev pub head_params : Piece (Option TypeName) → Named → Front → Option Head
head_params r n q = option_and_then (head_closed r n) (read_params q.rest)

abbrev pub head_named : Piece (Option TypeName) → Named → Option Head
head_named r n = option_and_then (head_params r n) (after_mark (codes "(") n.rest)

abbrev pub head_answered : Piece (Option TypeName) → Option Head
head_answered r = option_and_then (head_named r) (after_name r.rest)

abbrev pub read_head : List Token → Option Head
read_head ts = option_and_then head_answered (read_answer ts)

abbrev pub are_named : List Member → Bool
are_named [] = true
are_named (m ∷ ms) = not (bytes_eq m.name []) && are_named ms

abbrev pub proc_body : Head → Braced → Option (Part Procedure)
proc_body h b = Some (record {
  tree = record { name = h.name; name_at = h.name_at; at = join h.answer.at b.part.at; result = h.answer.tree; params = h.params; body = Some b.part.tree; close = b.brace };
  at = join h.answer.at b.part.at;
  depth = b.part.depth;
  rest = b.part.rest;
})

abbrev pub proc_at : Head → Option Front → Option (Part Procedure)
proc_at h (Some q) = Some (record {
  tree = record { name = h.name; name_at = h.name_at; at = join h.answer.at q.token.at; result = h.answer.tree; params = h.params; body = None; close = q.token.at };
  at = join h.answer.at q.token.at;
  depth = 1;
  rest = q.rest;
})
proc_at h None = if are_named h.params then option_and_then (proc_body h) (read_block 200 h.rest) else None

abbrev pub proc_of : Head → Option (Part Procedure)
proc_of h = proc_at h (after_mark (codes ";") h.rest)

abbrev pub read_proc : List Token → Option (Part Procedure)
read_proc ts = option_and_then proc_of (read_head ts)

-- items
abbrev pub is_first_word : TokenKind → Bool
is_first_word k = if is_word (codes "static") k then true else is_word (codes "extern") k

pub record File : Type 0 where
  pub tree : Tree
  pub depth : ℕ

abbrev pub file_struct : Option StructDef → File → Option File
file_struct d f = Some (record { tree = with_struct d f.tree; depth = f.depth })

abbrev pub file_proc : Part Procedure → File → Option File
file_proc p f = Some (record { tree = with_proc p.tree f.tree; depth = max p.depth f.depth })

-- what `struct NAME` is the beginning of
pub data Kind : Type 0 where
  defined : Named → Front → Kind
  forward : Named → Front → Kind
  procedure : Kind

abbrev pub kind_forward : Named → Option Front → Kind
kind_forward n None = procedure
kind_forward n (Some q) = forward n q

abbrev pub kind_defined : Named → Option Front → Kind
kind_defined n None = kind_forward n (after_mark (codes ";") n.rest)
kind_defined n (Some q) = defined n q

abbrev pub kind_named : Option Named → Kind
kind_named None = procedure
kind_named (Some n) = kind_defined n (after_mark (codes "{") n.rest)

abbrev pub kind_struct : Option Front → Kind
kind_struct None = procedure
kind_struct (Some q) = kind_named (after_name q.rest)

abbrev pub kind_of : List Token → Kind
kind_of ts = kind_struct (after_word (codes "struct") ts)

abbrev pub structure_then : (List Token → Option File) → Row (Option StructDef) → Option File
structure_then next r = option_and_then (file_struct r.items) (next r.rest)

abbrev pub item_at : (List Token → Option File) → Token → List Token → Kind → Option File
item_at next t ts (defined n q) = option_and_then (structure_then next) (read_definition t n.name q.rest)
item_at next t ts (forward n q) = option_and_then (file_struct None) (next q.rest)
item_at next t ts procedure = option_and_then (λ p. option_and_then (file_proc p) (next p.rest)) (read_proc (t ∷ ts))

abbrev pub from_item : (List Token → Option File) → List Token → Option File
from_item next [] = None
from_item next (t ∷ ts) = if is_first_word t.kind then from_item next ts else item_at next t ts (kind_of (t ∷ ts))

abbrev pub no_items : File
no_items = record { tree = record { structs = []; procs = [] }; depth = 0 }

-- at most so many
abbrev pub items : ℕ → List Token → Option File
items n [] = Some no_items
items zero (t ∷ ts) = None
items (suc n) (t ∷ ts) = from_item (items n) (t ∷ ts)

abbrev pub read_file : List Token → Option File
read_file ts = items (length ts) ts
