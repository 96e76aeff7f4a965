-- What is spelled as a type or a unit is read.
use Rattle.std.proofs.Common.{◌≡◌, ◌≤◌, ℕ, zero, suc, Bool, true, false, List, [], ◌∷◌, refl, Some, None, arith}
use Rattle.std.specs.Prelude.{codes, not}
use Rattle.c_tree.specs.declared.position.Span.{Span}
use Rattle.c_tree.specs.declared.tree.Unit.{Unit as Measured}
use Rattle.c_token.specs.declared.token.Token.{Token}
use Rattle.c_token.specs.declared.token.TokenKind.TheVariants as kind
use Rattle.c_grammar.specs.Parts.{Row, Piece, Next}
use Rattle.c_grammar.specs.Types.{Consts, IsBase, IsStar}
use Rattle.c_grammar.specs.Types as types
use Rattle.c_grammar.specs.Exprs.{IsUnit}
use Rattle.c_grammar.specs.Exprs as grammar
use Rattle.c_grammar.specs.Reading.{is_word, Stretch, consts, read_base, read_star, after_mark}
use Rattle.c_grammar.specs.ReadExprs.{read_unit, begins_base, begins_sizeof}
use Rattle.c_grammar.proofs.Fronts.{next_mark, next_name}

-- no `const` comes
abbrev pub ends_consts : List Token → Bool
ends_consts [] = true
ends_consts (t ∷ ts) = not (is_word (codes "const") t.kind)

abbrev pub stretch : Span → List Token → Stretch
stretch at ts = record { at = at; rest = ts }

not_false : (b : Bool) → not b ≡ true → b ≡ false
not_false true e = cc
not_false false e = refl

pub consts_complete : (at to : Span) (ts us : List Token) → Consts at ts to us → ends_consts us ≡ true → consts at ts ≡ stretch to us
consts_complete at to ts us (types.none a []) end = refl
consts_complete at to ts us (types.none a (t ∷ vs)) end = let no' = not_false (is_word (codes "const") t.kind) end in rw no' refl
consts_complete at to ts us (types.Consts.const a b t vs ws is from) end = rw is (consts_complete _ b vs ws from end)

pub next_ends_consts : (m : List ℕ) (ts us : List Token) (t : Token) → Next (kind.Mark m) ts t us → ends_consts ts ≡ true
next_ends_consts m ts us t n = rw (n.0, n.1) refl

pub name_ends_consts : (x : List ℕ) (ts us : List Token) (t : Token) → Next (kind.Name x) ts t us → ends_consts ts ≡ true
name_ends_consts x ts us t n = rw (n.0, n.1) refl

pub star_ends_consts : (ts us : List Token) (at : Span) → IsStar ts at us → ends_consts ts ≡ true
star_ends_consts ts us at (types.star t vs ws a is from) = rw is refl

pub base_complete : (ts : List Token) (b : Piece Measured) → IsBase ts b → ends_consts b.rest ≡ true → read_base ts ≡ Some b
base_complete ts b (types.IsBase.const t us p is from) end = rw (is, base_complete us p from end) refl
base_complete ts b (types.int t us vs at is from) end = rw (is, consts_complete t.at at us vs from end) refl
base_complete ts b (types.char t us vs at is from) end = rw (is, consts_complete t.at at us vs from end) refl
base_complete ts b (types.struct t n x us vs ws at is next from) end =
    rw (is, next_name x us vs n next, consts_complete _ at vs ws from end) refl

pub star_complete : (ts us : List Token) (at : Span) → IsStar ts at us → ends_consts us ≡ true → read_star ts ≡ Some (stretch at us)
star_complete ts us at (types.star t vs ws a is from) end = rw (is, consts_complete t.at a vs ws from end) refl

pub base_begins : (ts : List Token) (b : Piece Measured) → IsBase ts b → begins_base ts ≡ true
base_begins ts b (types.IsBase.const t us p is from) = rw is refl
base_begins ts b (types.int t us vs at is from) = rw is refl
base_begins ts b (types.char t us vs at is from) = rw is refl
base_begins ts b (types.struct t n x us vs ws at is next from) = rw is refl

base_no_star : (ts : List Token) (b : Piece Measured) → IsBase ts b → after_mark (codes "*") ts ≡ None
base_no_star ts b (types.IsBase.const t us p is from) = rw is refl
base_no_star ts b (types.int t us vs at is from) = rw is refl
base_no_star ts b (types.char t us vs at is from) = rw is refl
base_no_star ts b (types.struct t n x us vs ws at is next from) = rw is refl

pub unit_begins : (ts : List Token) (u : Row Measured) → IsUnit ts u → begins_sizeof ts ≡ true
unit_begins ts u (grammar.type t o c us vs ws b is x from y) = rw is refl
unit_begins ts u (grammar.behind t s n us vs ws x is a b) = rw is refl
unit_begins ts u (grammar.behind_enclosed t o s n c us vs ws xs ys x is a b e f) = rw is refl

pub unit_complete : (limit : ℕ) (ts : List Token) (u : Row Measured) → IsUnit ts u → u.depth ≤ limit → read_unit limit ts ≡ Some u
unit_complete zero ts u (grammar.type t o c us vs ws b is x from y) low = absurd (omega arith)
unit_complete (suc d) ts u (grammar.type t o c us vs ws b is x from y) low =
    rw (is, next_mark _ us vs o x, base_no_star vs b from, base_complete vs b from (next_ends_consts _ b.rest ws c y), next_mark _ b.rest ws c y) refl
unit_complete limit ts u (grammar.behind t s n us vs ws x is a b) low =
    rw (is, a.0, a.1, next_name x vs ws n b) refl
unit_complete zero ts u (grammar.behind_enclosed t o s n c us vs ws xs ys x is a b e f) low = absurd (omega arith)
unit_complete (suc d) ts u (grammar.behind_enclosed t o s n c us vs ws xs ys x is a b e f) low =
    rw (is, next_mark _ us vs o a, next_mark _ vs ws s b, next_name x ws xs n e, next_mark _ xs ys c f) refl
