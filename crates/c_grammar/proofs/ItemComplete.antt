-- What is spelled as a file is read.
use Rattle.std.proofs.Common.{◌≡◌, ◌≤◌, ◌<◌, ℕ, zero, suc, Bool, true, false, List, [], ◌∷◌, length, refl, ◌∙◌, Option, Some, None, arith}
use Rattle.std.specs.Prelude.{option_and_then, codes, bytes_eq, not}
use Rattle.std.proofs.lemmas.Slice.Eq.{bytes_eq-Decides}
use Rattle.c_tree.specs.declared.position.Span.{Span}
use Rattle.c_tree.specs.declared.tree.TypeName.{TypeName}
use Rattle.c_tree.specs.declared.tree.Unit.{Unit as Base}
use Rattle.c_tree.specs.declared.tree.Member.{Member}
use Rattle.c_tree.specs.declared.tree.StructDef.{StructDef}
use Rattle.c_tree.specs.Plain.{Stmt, Procedure, Tree}
use Rattle.c_token.specs.declared.token.Token.{Token}
use Rattle.c_token.specs.declared.token.TokenKind.{TokenKind}
use Rattle.c_token.specs.declared.token.TokenKind.TheVariants as kind
use Rattle.c_grammar.specs.Parts.{Part, Piece, Next}
use Rattle.c_grammar.specs.Types.{IsBase, IsStar, Consts, IsType, type_of}
use Rattle.c_grammar.specs.Types as types
use Rattle.c_grammar.specs.Stmts.{Block}
use Rattle.c_grammar.specs.Stmts as stmts
use Rattle.c_grammar.specs.Items.{Structure, Params, Answer, AreNamed, Proc, Spells, FromItem}
use Rattle.c_grammar.specs.Items as grammar
use Rattle.c_grammar.specs.Reading.{after_mark}
use Rattle.c_grammar.specs.ReadItems.{are_named, read_proc, is_first_word, File, file_struct, file_proc, procedure, kind_of, item_at, from_item, items, read_file}
use Rattle.c_grammar.proofs.Fronts.{by_bool, next_mark, next_name}
use Rattle.c_grammar.proofs.Begins.{begins}
use Rattle.c_grammar.proofs.Shorter.{next_shorter}
use Rattle.c_grammar.proofs.StmtComplete.{block_complete, block_shorter}
use Rattle.c_grammar.proofs.MemberComplete.{members_complete, members_shorter, params_complete, params_shorter, answer_complete, answer_shorter}

named_complete : (ms : List Member) → AreNamed ms → are_named ms ≡ true
named_complete [] named = refl
named_complete (m ∷ ms) named = by_bool (bytes_eq m.name [])
    (λ yes'. absurd (named.0 ((bytes_eq-Decides m.name []).0 yes')))
    (λ no'. rw (no', named_complete ms named.1) refl)

block_no_semicolon : (ts : List Token) (b : Part Stmt) (brace : Span) → Block ts b brace → after_mark (codes ";") ts ≡ None
block_no_semicolon ts b brace (stmts.block o c us vs s is x y) = rw is refl

proc_complete : (ts : List Token) (p : Part Procedure) → Proc ts p → p.depth ≤ 200 → read_proc ts ≡ Some p
proc_complete ts p (grammar.prototype vs ws xs ys zs as' r n o c m f ms answer name x params y z) low =
    rw (answer_complete vs ws r f n answer name, next_name f r.rest ws n name, next_mark _ ws xs o x, params_complete xs ys zs ms c params y, next_mark _ ys zs c y, next_mark _ zs as' m z) refl
proc_complete ts p (grammar.body vs ws xs ys zs r n o c f ms b brace answer name x params y named braced) low =
    rw (
      answer_complete vs ws r f n answer name,
      next_name f r.rest ws n name,
      next_mark _ ws xs o x,
      params_complete xs ys zs ms c params y,
      next_mark _ ys zs c y,
      block_no_semicolon zs b brace braced,
      named_complete ms named,
      block_complete 200 zs b brace braced low,
    ) refl

pub proc_shorter : (ts : List Token) (p : Part Procedure) → Proc ts p → length p.rest < length ts
proc_shorter ts p (grammar.prototype vs ws xs ys zs as' r n o c m f ms answer name x params y z) =
    let a = answer_shorter vs r answer in let b = next_shorter _ r.rest ws n name in let d = next_shorter _ ws xs o x in
    let e = params_shorter xs ys ms params in let g = next_shorter _ ys zs c y in let h = next_shorter _ zs as' m z in omega arith
proc_shorter ts p (grammar.body vs ws xs ys zs r n o c f ms b brace answer name x params y named braced) =
    let a = answer_shorter vs r answer in let b' = next_shorter _ r.rest ws n name in let d = next_shorter _ ws xs o x in
    let e = params_shorter xs ys ms params in let g = next_shorter _ ys zs c y in let h = block_shorter zs b brace braced in omega arith

-- a procedure is taken for no structure: after `struct NAME` it has a star
star_kind : (t n : Token) (s : List ℕ) (ts us vs ws : List Token) (from at at' : Span) → t.kind ≡ kind.Word (codes "struct") → Next (kind.Name s) ts n us
    → Consts from us at vs → IsStar vs at' ws → kind_of (t ∷ ts) ≡ procedure
star_kind t n s ts us vs ws from at at' is name (types.Consts.none a xs) (types.star u ys zs a' mark rest) = rw (is, next_name s ts us n name, mark) refl
star_kind t n s ts us vs ws from at at' is name (types.Consts.const a b u xs ys word rest) stars = rw (is, next_name s ts us n name, word) refl

type_kind : (ts : List Token) (p : Piece TypeName) → IsType ts p → kind_of ts ≡ procedure
type_kind ts p (types.IsType.plain us b k (types.IsBase.const t vs q is from) type) = rw is refl
type_kind ts p (types.IsType.plain us b k (types.int t vs ws at is from) type) = rw is refl
type_kind ts p (types.IsType.plain us b k (types.char t vs ws at is from) type) = rw is refl
type_kind ts p (types.IsType.plain us b k (types.struct t n x vs ws xs at is next from) type) = cc
type_kind ts p (types.IsType.starred us vs b at k (types.IsBase.const t ws q is from) stars type) = rw is refl
type_kind ts p (types.IsType.starred us vs b at k (types.int t ws xs at' is from) stars type) = rw is refl
type_kind ts p (types.IsType.starred us vs b at k (types.char t ws xs at' is from) stars type) = rw is refl
type_kind ts p (types.IsType.starred us vs b at k (types.struct t n x ws xs ys at' is next from) stars type) = star_kind t n x ws xs ys vs _ at' at is next from stars

answer_kind : (ts : List Token) (r : Piece (Option TypeName)) → Answer ts r → kind_of ts ≡ procedure
answer_kind ts r (grammar.Answer.void t us is) = rw is refl
answer_kind ts r (grammar.Answer.typed us p type) = type_kind us p type

abbrev is_later : TokenKind → Bool
is_later k = not (is_first_word k)

base_later : (ts : List Token) (b : Piece Base) → IsBase ts b → begins is_later ts ≡ true
base_later ts b (types.IsBase.const t us p is from) = rw is refl
base_later ts b (types.int t us vs at is from) = rw is refl
base_later ts b (types.char t us vs at is from) = rw is refl
base_later ts b (types.struct t n x us vs ws at is next from) = rw is refl

answer_later : (ts : List Token) (r : Piece (Option TypeName)) → Answer ts r → begins is_later ts ≡ true
answer_later ts r (grammar.Answer.void t us is) = rw is refl
answer_later ts r (grammar.Answer.typed us p (types.IsType.plain vs b k base type)) = base_later vs b base
answer_later ts r (grammar.Answer.typed us p (types.IsType.starred vs ws b at k base stars type)) = base_later vs b base

-- an item that begins with neither `static` nor `extern`
later_item : (next : List Token → Option File) (t : Token) (ts : List Token) → is_later t.kind ≡ true → from_item next (t ∷ ts) ≡ item_at next t ts (kind_of (t ∷ ts))
later_item next t ts is = by_bool (is_first_word t.kind)
    (λ yes'. let wrong : false ≡ true = rw yes' at is in cc)
    (λ no'. rw no' refl)

proc_front : (us : List Token) (r : Part Procedure) → Proc us r → (begins is_later us ≡ true) × (kind_of us ≡ procedure)
proc_front us r (grammar.prototype vs ws xs ys zs as' a n o c m f ms answer name x params y z) = (answer_later vs a answer, answer_kind vs a answer)
proc_front us r (grammar.body vs ws xs ys zs a n o c f ms b brace answer name x params y named braced) = (answer_later vs a answer, answer_kind vs a answer)

proc_item : (next : List Token → Option File) (ts : List Token) (p : Part Procedure) → Proc ts p → p.depth ≤ 200
    → from_item next ts ≡ option_and_then (file_proc p) (next p.rest)
proc_item next [] p from low = let s = proc_shorter [] p from in absurd (omega arith)
proc_item next (t ∷ ts) p from low =
    let first = proc_front (t ∷ ts) p from in
    later_item next t ts first.0 ∙ rw (first.1, proc_complete (t ∷ ts) p from low) refl

abbrev file : Tree → ℕ → File
file tree h = record { tree = tree; depth = h }

structure_item : (next : List Token → Option File) (ts us : List Token) (d : Option StructDef) → Structure ts d us
    → from_item next ts ≡ option_and_then (file_struct d) (next us)
structure_item next ts us d (grammar.definition t n o c m vs ws xs ys zs as' s ms is name x from y z) =
    later_item next t vs (rw is refl)
    ∙ rw (is, next_name s vs ws n name, next_mark _ ws xs o x, members_complete (length xs) xs ys zs ms c from y (omega arith), next_mark _ ys zs c y, next_mark _ zs as' m z) refl
structure_item next ts us d (grammar.forward t n m vs ws xs s is name x) =
    later_item next t vs (rw is refl) ∙ rw (is, next_name s vs ws n name, no_brace ws xs m x, next_mark _ ws xs m x) refl
  where
    no_brace : (es fs : List Token) (e : Token) → Next (kind.Mark (codes ";")) es e fs → after_mark (codes "{") es ≡ None
    no_brace es fs e n = rw (n.0, n.1) refl

pub structure_shorter : (ts us : List Token) (d : Option StructDef) → Structure ts d us → length us < length ts
structure_shorter ts us d (grammar.definition t n o c m vs ws xs ys zs as' s ms is name x from y z) =
    let a = next_shorter _ vs ws n name in let b = next_shorter _ ws xs o x in let e = members_shorter xs ys ms from in
    let f = next_shorter _ ys zs c y in let g = next_shorter _ zs as' m z in omega arith
structure_shorter ts us d (grammar.forward t n m vs ws xs s is name x) = let a = next_shorter _ vs ws n name in let b = next_shorter _ ws xs m x in omega arith

item_some : (ts : List Token) (tree : Tree) (h : ℕ) → FromItem ts tree h → 0 < length ts
item_some ts tree h (grammar.static t us a b is from) = omega arith
item_some ts tree h (grammar.extern t us a b is from) = omega arith
item_some ts tree h (grammar.structure us vs d a b from rest) = let s = structure_shorter us vs d from in omega arith
item_some ts tree h (grammar.proc us p a b from rest) = let s = proc_shorter us p from in omega arith

enough : (n : ℕ) (ts : List Token) (f : File) → 0 < length ts → length ts ≤ n → ((m : ℕ) → length ts ≤ suc m → from_item (items m) ts ≡ Some f) → items n ts ≡ Some f
enough n [] f some fuel reads = absurd (omega arith)
enough zero (t ∷ ts) f some fuel reads = absurd (omega arith)
enough (suc m) (t ∷ ts) f some fuel reads = reads m fuel

no_more : (n : ℕ) → items n [] ≡ Some (file (record { structs = []; procs = [] }) 0)
no_more zero = refl
no_more (suc n) = refl

mutual
  pub spells_complete : (ts : List Token) (tree : Tree) (h : ℕ) → Spells ts tree h → h ≤ 200 → (n : ℕ) → length ts ≤ n → items n ts ≡ Some (file tree h)
  spells_complete ts tree h grammar.end low n fuel = no_more n
  spells_complete ts tree h (grammar.item us a b from) low n fuel =
      enough n us (file a b) (item_some us a b from) fuel (λ m l. item_complete us a b from low m l)

  item_complete : (ts : List Token) (tree : Tree) (h : ℕ) → FromItem ts tree h → h ≤ 200 → (n : ℕ) → length ts ≤ suc n → from_item (items n) ts ≡ Some (file tree h)
  item_complete ts tree h (grammar.static t us a b is from) low n fuel = rw is (item_complete us a b from low n (omega arith))
  item_complete ts tree h (grammar.extern t us a b is from) low n fuel = rw is (item_complete us a b from low n (omega arith))
  item_complete ts tree h (grammar.structure us vs d a b from rest) low n fuel =
      let s = structure_shorter us vs d from in
      structure_item (items n) us vs d from ∙ rw (spells_complete vs a b rest low n (omega arith)) refl
  item_complete ts tree h (grammar.proc us p a b from rest) low n fuel =
      let s = proc_shorter us p from in
      proc_item (items n) us p from (omega arith) ∙ rw (spells_complete p.rest a b rest (omega arith) n (omega arith)) refl

-- what the whole of the tokens spells is read
pub file_complete : (ts : List Token) (tree : Tree) (h : ℕ) → Spells ts tree h → h ≤ 200 → read_file ts ≡ Some (record { tree = tree; depth = h })
file_complete ts tree h spelled low = spells_complete ts tree h spelled low (length ts) (omega arith)
