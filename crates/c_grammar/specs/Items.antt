-- The grammar of a file:
--   file    = {item}
--   item    = {"static" | "extern"} (structure | proc)
--   structure = "struct" NAME "{" member {member} "}" ";" | "struct" NAME ";"
--   member  = base [star] NAME {"," [star] NAME} ";"
--   proc    = ("void" | base [star]) NAME "(" params ")" (";" | block)
--   params  = [] | "void" | param {"," param}
--   param   = base [star] [NAME]
-- A parameter of a body has a name. An item's span begins after `static` and `extern`.
use Rattle.std.specs.Prelude.{◌≡◌, ◌≢◌, ◌≤◌, ℕ, max, List, [], ◌∷◌, ◌++◌, Option, Some, None, codes}
use Rattle.c_tree.specs.declared.position.Span.{Span}
use Rattle.c_tree.specs.declared.tree.TypeName.{TypeName}
use Rattle.c_tree.specs.declared.tree.Unit.{Unit as Base}
use Rattle.c_tree.specs.declared.tree.Member.{Member}
use Rattle.c_tree.specs.declared.tree.StructDef.{StructDef}
use Rattle.c_tree.specs.Plain.{Stmt, Procedure, Tree}
use Rattle.c_token.specs.declared.token.Token.{Token}
use Rattle.c_token.specs.declared.token.TokenKind.TheVariants as kind
use Rattle.c_grammar.specs.Parts.{Part, Piece, join, Next}
use Rattle.c_grammar.specs.Types.{IsBase, IsType, IsDeclarator}
use Rattle.c_grammar.specs.Stmts.{Block}

-- [star] NAME {"," [star] NAME}, after this base
pub data Declarators (b : Base) : List Token → List Member → List Token → Type 0 where
  last : (ts us : List Token) (m : Member) → IsDeclarator b ts m us → Declarators b ts (m ∷ []) us
  more : (ts us vs ws : List Token) (comma : Token) (m : Member) (ms : List Member) → IsDeclarator b ts m us
      → Next (kind.Mark (codes ",")) us comma vs → Declarators b vs ms ws → Declarators b ts (m ∷ ms) ws

pub data IsMember : List Token → List Member → List Token → Type 0 where
  member : (ts us vs : List Token) (b : Piece Base) (semicolon : Token) (ms : List Member) → IsBase ts b → Declarators b.tree b.rest ms us
      → Next (kind.Mark (codes ";")) us semicolon vs → IsMember ts ms vs

-- member {member}
pub data Members : List Token → List Member → List Token → Type 0 where
  last : (ts us : List Token) (ms : List Member) → IsMember ts ms us → Members ts ms us
  more : (ts us vs : List Token) (ms ns : List Member) → IsMember ts ms us → Members us ns vs → Members ts (ms ++ ns) vs

-- the definition of a struct, or none for a forward declaration
pub data Structure : List Token → Option StructDef → List Token → Type 0 where
  definition : (t n opening closing semicolon : Token) (ts us vs ws xs ys : List Token) (s : List ℕ) (ms : List Member)
      → t.kind ≡ kind.Word (codes "struct") → Next (kind.Name s) ts n us → Next (kind.Mark (codes "{")) us opening vs
      → Members vs ms ws → Next (kind.Mark (codes "}")) ws closing xs → Next (kind.Mark (codes ";")) xs semicolon ys
      → Structure (t ∷ ts) (Some (record { tag = s; at = join t.at semicolon.at; members = ms })) ys
  forward : (t n semicolon : Token) (ts us vs : List Token) (s : List ℕ) → t.kind ≡ kind.Word (codes "struct")
      → Next (kind.Name s) ts n us → Next (kind.Mark (codes ";")) us semicolon vs → Structure (t ∷ ts) None vs

-- its span holds its base; without a name it has the empty one
pub data Param : List Token → Member → List Token → Type 0 where
  unnamed : (ts : List Token) (p : Piece TypeName) → IsType ts p → Param ts (record { name = []; kind = p.tree; at = p.at }) p.rest
  named : (ts us : List Token) (p : Piece TypeName) (n : Token) (x : List ℕ) → IsType ts p → Next (kind.Name x) p.rest n us
      → Param ts (record { name = x; kind = p.tree; at = join p.at n.at }) us

-- param {"," param}
pub data SomeParams : List Token → List Member → List Token → Type 0 where
  last : (ts us : List Token) (m : Member) → Param ts m us → SomeParams ts (m ∷ []) us
  more : (ts us vs ws : List Token) (comma : Token) (m : Member) (ms : List Member) → Param ts m us
      → Next (kind.Mark (codes ",")) us comma vs → SomeParams vs ms ws → SomeParams ts (m ∷ ms) ws

pub data Params : List Token → List Member → List Token → Type 0 where
  none : (ts : List Token) → Params ts [] ts
  void : (t : Token) (ts : List Token) → t.kind ≡ kind.Word (codes "void") → Params (t ∷ ts) [] ts
  some : (ts us : List Token) (ms : List Member) → SomeParams ts ms us → Params ts ms us

-- "void" | base [star]
pub data Answer : List Token → Piece (Option TypeName) → Type 0 where
  void : (t : Token) (ts : List Token) → t.kind ≡ kind.Word (codes "void") → Answer (t ∷ ts) (record { tree = None; at = t.at; rest = ts })
  typed : (ts : List Token) (p : Piece TypeName) → IsType ts p → Answer ts (record { tree = Some p.tree; at = p.at; rest = p.rest })

abbrev pub AreNamed : List Member → Type 0
AreNamed [] = Unit {0}
AreNamed (m ∷ ms) = (m.name ≢ []) × AreNamed ms

-- the depth of a procedure is that of its body; a prototype has its one pair of parentheses
pub data Proc : List Token → Part Procedure → Type 0 where
  prototype : (ts us vs ws xs ys : List Token) (r : Piece (Option TypeName)) (n opening closing semicolon : Token) (f : List ℕ) (ms : List Member)
      → Answer ts r → Next (kind.Name f) r.rest n us → Next (kind.Mark (codes "(")) us opening vs → Params vs ms ws
      → Next (kind.Mark (codes ")")) ws closing xs → Next (kind.Mark (codes ";")) xs semicolon ys
      → Proc ts (record {
        tree = record { name = f; name_at = n.at; at = join r.at semicolon.at; result = r.tree; params = ms; body = None; close = semicolon.at };
        at = join r.at semicolon.at;
        depth = 1;
        rest = ys;
      })
  body : (ts us vs ws xs : List Token) (r : Piece (Option TypeName)) (n opening closing : Token) (f : List ℕ) (ms : List Member)
      (b : Part Stmt) (brace : Span)
      → Answer ts r → Next (kind.Name f) r.rest n us → Next (kind.Mark (codes "(")) us opening vs → Params vs ms ws
      → Next (kind.Mark (codes ")")) ws closing xs → AreNamed ms → Block xs b brace
      → Proc ts (record {
        tree = record { name = f; name_at = n.at; at = join r.at b.at; result = r.tree; params = ms; body = Some b.tree; close = brace };
        at = join r.at b.at;
        depth = b.depth;
        rest = b.rest;
      })

abbrev pub with_struct : Option StructDef → Tree → Tree
with_struct None t = t
with_struct (Some d) t = record { structs = d ∷ t.structs; procs = t.procs }

abbrev pub with_proc : Procedure → Tree → Tree
with_proc p t = record { structs = t.structs; procs = p ∷ t.procs }

-- the tokens spell the tree, by a spelling of this depth
mutual
  pub data Spells : List Token → Tree → ℕ → Type 0 where
    end : Spells [] (record { structs = []; procs = [] }) 0
    item : (ts : List Token) (tree : Tree) (h : ℕ) → FromItem ts tree h → Spells ts tree h

  -- an item and those after it; the words before it leave nothing in the tree
  pub data FromItem : List Token → Tree → ℕ → Type 0 where
    static : (t : Token) (ts : List Token) (tree : Tree) (h : ℕ) → t.kind ≡ kind.Word (codes "static") → FromItem ts tree h
        → FromItem (t ∷ ts) tree h
    extern : (t : Token) (ts : List Token) (tree : Tree) (h : ℕ) → t.kind ≡ kind.Word (codes "extern") → FromItem ts tree h
        → FromItem (t ∷ ts) tree h
    structure : (ts us : List Token) (d : Option StructDef) (tree : Tree) (h : ℕ) → Structure ts d us → Spells us tree h
        → FromItem ts (with_struct d tree) h
    proc : (ts : List Token) (p : Part Procedure) (tree : Tree) (h : ℕ) → Proc ts p → Spells p.rest tree h
        → FromItem ts (with_proc p.tree tree) (max p.depth h)

-- the tokens spell the tree, by a spelling that is not too deep
abbrev pub IsSpelled : List Token → Tree → Type 0
IsSpelled ts tree = (h : ℕ) × (h ≤ 200) × Spells ts tree h
