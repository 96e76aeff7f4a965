-- What is read of a type is spelled so.
use Rattle.std.proofs.Common.{◌≡◌, List, [], ◌∷◌, Some, None}
use Rattle.std.specs.Prelude.{codes}
use Rattle.c_tree.specs.declared.position.Span.{Span}
use Rattle.c_tree.specs.declared.tree.Unit.{Unit as Base}
use Rattle.c_token.specs.declared.token.Token.{Token}
use Rattle.c_grammar.specs.Parts.{Piece, join}
use Rattle.c_grammar.specs.Types.{Consts, IsBase, IsStar}
use Rattle.c_grammar.specs.Types as types
use Rattle.c_grammar.specs.Reading.{is_word, after_mark, after_name, Stretch, consts, base_struct, base_at, after_const, read_base, star_at, read_star}
use Rattle.c_grammar.proofs.Fronts.{bound, binding, by_bool, given, is_word_true, mark_next, name_next}

pub consts_sound : (at : Span) (ts : List Token) → Consts at ts (consts at ts).at (consts at ts).rest
consts_sound at [] = types.none at []
consts_sound at (t ∷ ts) = by_bool (is_word (codes "const") t.kind)
    (λ e. rw e (types.const at (consts (join at t.at) ts).at t ts (consts (join at t.at) ts).rest (is_word_true (codes "const") t.kind e) (consts_sound (join at t.at) ts)))
    (λ e. rw e (types.none at (t ∷ ts)))

pub base_at_sound : (t : Token) (ts : List Token) (p : Piece Base) → base_at t ts ≡ Some p → IsBase (t ∷ ts) p
base_at_sound t ts p e = by_bool (is_word (codes "int") t.kind)
    (λ is. given (IsBase (t ∷ ts)) _ p (rw is at e) (types.int t ts (consts t.at ts).rest (consts t.at ts).at (is_word_true (codes "int") t.kind is) (consts_sound t.at ts)))
    (λ not_int. let f = rw not_int at e in by_bool (is_word (codes "char") t.kind)
    (λ is. given (IsBase (t ∷ ts)) _ p (rw is at f) (types.char t ts (consts t.at ts).rest (consts t.at ts).at (is_word_true (codes "char") t.kind is) (consts_sound t.at ts)))
    (λ not_char. let g = rw not_char at f in by_bool (is_word (codes "struct") t.kind)
    (λ is. let n = bound (after_name ts) (base_struct t) p (rw is at g) in
    given (IsBase (t ∷ ts)) _ p n.2 (types.struct t n.0.token n.0.name ts n.0.rest (consts (join t.at n.0.token.at) n.0.rest).rest (consts (join t.at n.0.token.at) n.0.rest).at
    (is_word_true (codes "struct") t.kind is) (name_next ts n.0 n.1) (consts_sound (join t.at n.0.token.at) n.0.rest)))
    (λ none. let never : None ≡ Some p = rw none at g in cc)))

pub base_sound : (ts : List Token) (p : Piece Base) → read_base ts ≡ Some p → IsBase ts p
base_sound [] p e = cc
base_sound (t ∷ ts) p e = by_bool (is_word (codes "const") t.kind)
    (λ is. let b = bound (read_base ts) (after_const t) p (rw is at e) in
    given (IsBase (t ∷ ts)) _ p b.2 (types.IsBase.const t ts b.0 (is_word_true (codes "const") t.kind is) (base_sound ts b.0 b.1)))
    (λ no. base_at_sound t ts p (rw no at e))

pub star_sound : (ts : List Token) (s : Stretch) → read_star ts ≡ Some s → IsStar ts s.at s.rest
star_sound ts s e = binding (after_mark (codes "*") ts) (λ q. Some (star_at q)) s e (λ q is made.
    let n = mark_next (codes "*") ts q is in
    given (λ (r : Stretch). IsStar ts r.at r.rest) (star_at q) s made
    (rw n.0 (types.star q.token q.rest (star_at q).rest (star_at q).at n.1 (consts_sound q.token.at q.rest))))
