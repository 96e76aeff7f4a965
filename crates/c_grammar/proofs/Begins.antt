-- What a spelling begins with, that it is deep, and that it takes a token.
use Rattle.std.proofs.Common.{◌≡◌, ◌<◌, ℕ, suc, Bool, true, false, ◌||◌, List, [], ◌∷◌, refl, sym, ap, ◌∙◌, None, arith}
use Rattle.std.specs.Prelude.{codes, bytes_eq}
use Rattle.c_tree.specs.Plain.{Expr}
use Rattle.c_token.specs.declared.token.Token.{Token}
use Rattle.c_token.specs.declared.token.TokenKind.{TokenKind}
use Rattle.c_token.specs.declared.token.TokenKind.TheVariants as kind
use Rattle.c_grammar.specs.Parts.{Part}
use Rattle.c_grammar.specs.Exprs.{IsUnit, Args, SomeArgs, Line, Unary, Postfix, Primary, Call, New, Allocation, Size, Request}
use Rattle.c_grammar.specs.Exprs as grammar
use Rattle.c_grammar.specs.Reading.{is_mark, is_word, after_mark, after_word}
use Rattle.c_grammar.proofs.Fronts.{by_bool, is_mark_true, is_word_true}

abbrev pub begins : (TokenKind → Bool) → List Token → Bool
begins f [] = false
begins f (t ∷ ts) = f t.kind

abbrev pub starts_primary : TokenKind → Bool
starts_primary (kind.Word w) = bytes_eq w (codes "NULL") || (bytes_eq w (codes "malloc") || bytes_eq w (codes "calloc"))
starts_primary (kind.Mark m) = bytes_eq m (codes "(")
starts_primary _ = true

abbrev pub starts_expr : TokenKind → Bool
starts_expr k = is_mark (codes "!") k || (is_mark (codes "-") k || starts_primary k)

-- where the kinds that may stand there are without this one
pub no_mark : (f : TokenKind → Bool) (m : List ℕ) (k : TokenKind) → f (kind.Mark m) ≡ false → f k ≡ true → is_mark m k ≡ false
no_mark f m k never is = by_bool (is_mark m k)
    (λ yes'. let same = is_mark_true m k yes' in let wrong : false ≡ true = sym never ∙ (ap f (sym same) ∙ is) in cc)
    (λ no'. no')

pub no_word : (f : TokenKind → Bool) (m : List ℕ) (k : TokenKind) → f (kind.Word m) ≡ false → f k ≡ true → is_word m k ≡ false
no_word f m k never is = by_bool (is_word m k)
    (λ yes'. let same = is_word_true m k yes' in let wrong : false ≡ true = sym never ∙ (ap f (sym same) ∙ is) in cc)
    (λ no'. no')

pub no_mark_after : (f : TokenKind → Bool) (m : List ℕ) (ts : List Token) → f (kind.Mark m) ≡ false → begins f ts ≡ true → after_mark m ts ≡ None
no_mark_after f m [] never is = refl
no_mark_after f m (t ∷ ts) never is = let no' : is_mark m t.kind ≡ false = no_mark f m t.kind never is in rw no' refl

pub no_word_after : (f : TokenKind → Bool) (m : List ℕ) (ts : List Token) → f (kind.Word m) ≡ false → begins f ts ≡ true → after_word m ts ≡ None
no_word_after f m [] never is = refl
no_word_after f m (t ∷ ts) never is = let no' : is_word m t.kind ≡ false = no_word f m t.kind never is in rw no' refl

pub weaker : (f g : TokenKind → Bool) (ts : List Token) → ((k : TokenKind) → f k ≡ true → g k ≡ true) → begins f ts ≡ true → begins g ts ≡ true
weaker f g [] more is = is
weaker f g (t ∷ ts) more is = more t.kind is

pub or_right : (a b : Bool) → b ≡ true → (a || b) ≡ true
or_right true b e = refl
or_right false b e = e

primary_starts : (k : TokenKind) → starts_primary k ≡ true → starts_expr k ≡ true
primary_starts k is = or_right (is_mark (codes "!") k) (is_mark (codes "-") k || starts_primary k) (or_right (is_mark (codes "-") k) (starts_primary k) is)

pub allocation_begins : (ts : List Token) (a : Part Request) → Allocation ts a → begins starts_primary ts ≡ true
allocation_begins ts a (grammar.malloc t o c us vs ws r is x y z) = rw is refl
allocation_begins ts a (grammar.calloc t o m c us vs ws xs p u is x y z v w) = rw is refl
allocation_begins ts a (grammar.calloc_bytes t o m n c us vs ws xs ys p is x y z v w) = rw is refl

new_begins : (ts : List Token) (p : Part Expr) → New ts p → begins starts_primary ts ≡ true
new_begins ts p (grammar.New.plain us a from) = allocation_begins us a from
new_begins ts p (grammar.New.cast o c us vs ws b s k a is x y z v w) = rw is refl

call_begins : (ts : List Token) (p : Part Expr) → Call ts p → begins starts_primary ts ≡ true
call_begins ts p (grammar.call_of t o c f us vs ws a is x y z) = rw is refl

pub primary_begins : (ts : List Token) (p : Part Expr) → Primary ts p → begins starts_primary ts ≡ true
primary_begins ts p (grammar.Primary.number t us z is) = rw is refl
primary_begins ts p (grammar.Primary.char t us z is) = rw is refl
primary_begins ts p (grammar.Primary.string t us z is) = rw is refl
primary_begins ts p (grammar.Primary.null t us is) = rw is refl
primary_begins ts p (grammar.Primary.name t us x is) = rw is refl
primary_begins ts p (grammar.Primary.call us q from) = call_begins us q from
primary_begins ts p (grammar.Primary.new us q from) = new_begins us q from
primary_begins ts p (grammar.Primary.enclosed o c us vs q is x y) = rw is refl

pub postfix_begins : (ts : List Token) (p : Part Expr) → Postfix ts p → begins starts_primary ts ≡ true
postfix_begins ts p (grammar.Postfix.primary us q from) = primary_begins us q from
postfix_begins ts p (grammar.Postfix.arrow us vs ws t n f q from x y) = postfix_begins us q from
postfix_begins ts p (grammar.Postfix.index us vs ws o c q i from x y z) = postfix_begins us q from

pub unary_begins : (ts : List Token) (p : Part Expr) → Unary ts p → begins starts_expr ts ≡ true
unary_begins ts p (grammar.Unary.not_of t us q is from) = rw is refl
unary_begins ts p (grammar.Unary.neg t us q is from) = rw is refl
unary_begins ts p (grammar.Unary.postfix us q from) = weaker starts_primary starts_expr us primary_starts (postfix_begins us q from)

pub line_begins : (k : ℕ) (ts : List Token) (p : Part Expr) → Line k ts p → begins starts_expr ts ≡ true
line_begins k ts p (grammar.operand j us q from) = line_begins j us q from
line_begins k ts p (grammar.operation_of j us vs t o l r left split is right) = line_begins (suc j) us l left
line_begins k ts p (grammar.unary us q from) = unary_begins us q from

-- each node is of depth 1 or more
primary_deep : (ts : List Token) (p : Part Expr) → Primary ts p → 0 < p.depth
primary_deep ts p (grammar.Primary.number t us z is) = omega arith
primary_deep ts p (grammar.Primary.char t us z is) = omega arith
primary_deep ts p (grammar.Primary.string t us z is) = omega arith
primary_deep ts p (grammar.Primary.null t us is) = omega arith
primary_deep ts p (grammar.Primary.name t us x is) = omega arith
primary_deep ts p (grammar.Primary.call us q (grammar.call_of t o c f vs ws xs a is x y z)) = omega arith
primary_deep ts p (grammar.Primary.new us q (grammar.New.plain vs a from)) = omega arith
primary_deep ts p (grammar.Primary.new us q (grammar.New.cast o c vs ws xs b s k a is x y z v w)) = omega arith
primary_deep ts p (grammar.Primary.enclosed o c us vs q is x y) = omega arith

pub line_deep : (k : ℕ) (ts : List Token) (p : Part Expr) → Line k ts p → 0 < p.depth
line_deep k ts p (grammar.operand j us q from) = line_deep j us q from
line_deep k ts p (grammar.operation_of j us vs t o l r left split is right) = omega arith
line_deep k ts p (grammar.unary us q (grammar.Unary.not_of t vs r is from)) = omega arith
line_deep k ts p (grammar.unary us q (grammar.Unary.neg t vs r is from)) = omega arith
line_deep k ts p (grammar.unary us q (grammar.Unary.postfix vs r (grammar.Postfix.primary ws s from))) = primary_deep ws s from
line_deep k ts p (grammar.unary us q (grammar.Unary.postfix vs r (grammar.Postfix.arrow ws xs ys t n f s from x y))) = omega arith
line_deep k ts p (grammar.unary us q (grammar.Unary.postfix vs r (grammar.Postfix.index ws xs ys o c s i from x y z))) = omega arith
