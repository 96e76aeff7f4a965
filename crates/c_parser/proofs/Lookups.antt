-- Lemmas on what is looked up at the front of the tokens.
use Rattle.std.proofs.Common.{◌≡◌, ◌<◌, ℕ, List, [], ◌∷◌, length, refl, Option, Some, None, arith}
use Rattle.std.specs.Prelude.{codes, option_and_then}
use Rattle.c_tree.specs.declared.position.Span.{Span}
use Rattle.c_tree.specs.declared.tree.Unit.{Unit as Base}
use Rattle.c_token.specs.declared.token.Token.{Token}
use Rattle.c_grammar.specs.Parts.{Piece, join}
use Rattle.c_grammar.specs.Reading.{is_word, Front, Named, after_mark, after_word, after_name, consts, after_const, read_base}
use Rattle.c_grammar.proofs.Fronts.{front_if_true, mark_next, word_next, name_next, by_bool}
use Rattle.c_parser.specs.Views.{plain_base}

pub mark_shorter : (m : List ℕ) (ts : List Token) (q : Front) → after_mark m ts ≡ Some q → length q.rest < length ts
mark_shorter m ts q e = let n = mark_next m ts q e in rw n.0 (omega arith)

pub word_shorter : (m : List ℕ) (ts : List Token) (q : Front) → after_word m ts ≡ Some q → length q.rest < length ts
word_shorter m ts q e = let n = word_next m ts q e in rw n.0 (omega arith)

pub name_shorter : (ts : List Token) (n : Named) → after_name ts ≡ Some n → length n.rest < length ts
name_shorter ts n e = let s = name_next ts n e in rw s.0 (omega arith)

pub consts_more : (at : Span) (ts : List Token) (q : Front) → after_word (codes "const") ts ≡ Some q → consts at ts ≡ consts (join at q.token.at) q.rest
consts_more at [] q e = cc
consts_more at (t ∷ ts) q e = let f = front_if_true (is_word (codes "const") t.kind) t ts q e in rw (f.0, f.1, f.2) refl

pub consts_end : (at : Span) (ts : List Token) → after_word (codes "const") ts ≡ None → consts at ts ≡ record { at = at; rest = ts }
consts_end at [] e = refl
consts_end at (t ∷ ts) e = by_bool (is_word (codes "const") t.kind)
    (λ y. let never : Some (record { token = t; rest = ts }) ≡ None = rw y at e in cc)
    (λ n. rw n refl)

pub base_more : (ts : List Token) (q : Front) → after_word (codes "const") ts ≡ Some q → read_base ts ≡ option_and_then (after_const q.token) (read_base q.rest)
base_more [] q e = cc
base_more (t ∷ ts) q e = let f = front_if_true (is_word (codes "const") t.kind) t ts q e in rw (f.0, f.1, f.2) refl

pub base_end : (ts : List Token) → after_word (codes "const") ts ≡ None → read_base ts ≡ plain_base ts
base_end [] e = refl
base_end (t ∷ ts) e = by_bool (is_word (codes "const") t.kind)
    (λ y. let never : Some (record { token = t; rest = ts }) ≡ None = rw y at e in cc)
    (λ n. rw n refl)

pub after_consts : (t u : Token) (o : Option (Piece Base)) → option_and_then (after_const t) (option_and_then (after_const u) o) ≡ option_and_then (after_const t) o
after_consts t u None = refl
after_consts t u (Some p) = refl
