-- What is read of a primary and of a unary is spelled so.
use Rattle.std.proofs.Common.{◌≡◌, ◌≤◌, ℕ, zero, suc, true, List, [], ◌∷◌, refl, ◌∙◌, Some, None, arith}
use Rattle.std.specs.Prelude.{option_and_then, codes}
use Rattle.c_tree.specs.declared.position.Span.{Span}
use Rattle.c_tree.specs.Plain.{Expr, Exprs}
use Rattle.c_tree.specs.Plain as tree
use Rattle.c_token.specs.declared.token.Token.{Token}
use Rattle.c_token.specs.declared.token.TokenKind.{TokenKind}
use Rattle.c_token.specs.declared.token.TokenKind.TheVariants as kind
use Rattle.c_grammar.specs.Parts.{Part, Row, join}
use Rattle.c_grammar.specs.Types.{type_of}
use Rattle.c_grammar.specs.Exprs.{Line, Unary, Postfix, Primary, New, Allocation, Size, Request, leaf, called, in_parentheses, allocated, negation, expr_line}
use Rattle.c_grammar.specs.Exprs as grammar
use Rattle.c_grammar.specs.Reading.{is_mark, is_word, after_mark, read_base, read_star}
use Rattle.c_grammar.specs.ReadExprs.{Group, Stage, call_closed, name_at, cast_made, cast_closed, cast_typed, cast_base, paren_closed, begins_base, paren_at, plain_new, primary_at, read_primary, steps, read_postfix, negated, read_unary}
use Rattle.c_grammar.proofs.Fronts.{binding, by_bool, by_option, given, is_mark_true, is_word_true, mark_next}
use Rattle.c_grammar.proofs.TypeSound.{base_sound, star_sound}
use Rattle.c_grammar.proofs.UnitSound.{IsSoundAt, IsGroup}
use Rattle.c_grammar.proofs.LineSound.{FitsPostfix, steps_sound}

-- what is read with this depth left is spelled so
pub record IsSound (d : ℕ) (s : Stage) : Type 0 where
  pub line : (k : ℕ) → IsSoundAt k d (s.line k)
  pub args : (ts : List Token) (g : Group Exprs) → s.args ts ≡ Some g → IsGroup d ts g
  pub size : (ts : List Token) (r : Row Request) → s.size ts ≡ Some r → Size ts r × (r.depth ≤ d)
  pub allocation : (ts : List Token) (a : Part Request) → s.allocation ts ≡ Some a → Allocation ts a × (a.depth ≤ d)

abbrev pub FitsPrimary : ℕ → List Token → Part Expr → Type 0
FitsPrimary d ts p = Primary ts p × (p.depth ≤ d)

module _ (d : ℕ) (s : Stage) (sound : IsSound d s) where
  name_sound : (t : Token) (ts : List Token) (x : List ℕ) (p : Part Expr) → t.kind ≡ kind.Name x → name_at s t x ts (after_mark (codes "(") ts) ≡ Some p
      → FitsPrimary (suc d) (t ∷ ts) p
  name_sound t ts x p is e = by_option (after_mark (codes "(") ts)
      (λ q opening. binding (s.args ts) (call_closed t x) p (rw opening at e) (λ g read made.
      let i = sound.args ts g read in
      let low = i.within in
      given (FitsPrimary (suc d) (t ∷ ts)) (called t x g.row g.closing g.rest) p made
      (grammar.Primary.call (t ∷ ts) (called t x g.row g.closing g.rest) (grammar.call_of t i.opening g.closing x ts i.inner g.rest g.row is i.opens i.args i.closes), omega arith)))
      (λ none. given (FitsPrimary (suc d) (t ∷ ts)) (leaf (λ at. tree.name at x) t ts) p (rw none at e) (grammar.Primary.name t ts x is, omega arith))

  cast_sound : (t : Token) (ts : List Token) (p : Part Expr) → t.kind ≡ kind.Mark (codes "(") → option_and_then (cast_base s t) (read_base ts) ≡ Some p
      → FitsPrimary (suc d) (t ∷ ts) p
  cast_sound t ts p is e = binding (read_base ts) (cast_base s t) p e (λ b base starred.
      binding (read_star b.rest) (λ r. cast_typed s t r (type_of b.tree true)) p starred (λ r star typed.
      binding (type_of b.tree true) (λ k. cast_closed s t k r) p typed (λ k type closed.
      binding (after_mark (codes ")") r.rest) (λ q. cast_made t k q.rest s) p closed (λ q end made_of.
      binding (s.allocation q.rest) (λ a. Some (allocated (Some k) (join t.at a.at) a)) p made_of (λ a read made.
      let f = sound.allocation q.rest a read in
      let low = f.1 in
      given (FitsPrimary (suc d) (t ∷ ts)) (allocated (Some k) (join t.at a.at) a) p made (
        grammar.Primary.new (t ∷ ts) (allocated (Some k) (join t.at a.at) a)
            (grammar.New.cast t q.token ts r.rest q.rest b r.at k a is (base_sound ts b base) (star_sound b.rest r star) type (mark_next (codes ")") r.rest q end) f.0),
        omega arith,
      ))))))

  paren_sound : (t : Token) (ts : List Token) (p : Part Expr) → t.kind ≡ kind.Mark (codes "(") → paren_at s t ts ≡ Some p → FitsPrimary (suc d) (t ∷ ts) p
  paren_sound t ts p is e = by_bool (begins_base ts)
      (λ yes'. cast_sound t ts p is (rw yes' at e))
      (λ no'. binding (s.line expr_line ts) (paren_closed t) p (rw no' at e) (λ r read closed.
      binding (after_mark (codes ")") r.rest) (λ q. Some (in_parentheses t r q.token q.rest)) p closed (λ q end made.
      let f = sound.line expr_line ts r read in
      let low = f.1 in
      given (FitsPrimary (suc d) (t ∷ ts)) (in_parentheses t r q.token q.rest) p made
      (grammar.Primary.enclosed t q.token ts q.rest r is f.0 (mark_next (codes ")") r.rest q end), omega arith))))

  new_sound : (ts : List Token) (p : Part Expr) → option_and_then plain_new (s.allocation ts) ≡ Some p → FitsPrimary (suc d) ts p
  new_sound ts p e = binding (s.allocation ts) plain_new p e (λ a read made.
      let f = sound.allocation ts a read in
      let low = f.1 in
      given (FitsPrimary (suc d) ts) (allocated None a.at a) p made (grammar.Primary.new ts (allocated None a.at a) (grammar.New.plain ts a f.0), omega arith))

  primary_at_sound : (k : TokenKind) (t : Token) (ts : List Token) (p : Part Expr) → t.kind ≡ k → primary_at s k t ts ≡ Some p → FitsPrimary (suc d) (t ∷ ts) p
  primary_at_sound (kind.Num z) t ts p is e = given (FitsPrimary (suc d) (t ∷ ts)) (leaf (λ at. tree.num at z) t ts) p e (grammar.Primary.number t ts z is, omega arith)
  primary_at_sound (kind.Char z) t ts p is e = given (FitsPrimary (suc d) (t ∷ ts)) (leaf (λ at. tree.num at z) t ts) p e (grammar.Primary.char t ts z is, omega arith)
  primary_at_sound (kind.Text units) t ts p is e = given (FitsPrimary (suc d) (t ∷ ts)) (leaf (λ at. tree.text at units) t ts) p e (grammar.Primary.string t ts units is, omega arith)
  primary_at_sound (kind.Name x) t ts p is e = name_sound t ts x p is e
  primary_at_sound (kind.Word w) t ts p is e = by_bool (is_word (codes "NULL") (kind.Word w))
      (λ yes'. given (FitsPrimary (suc d) (t ∷ ts)) (leaf tree.null t ts) p (rw yes' at e) (grammar.Primary.null t ts (is ∙ is_word_true (codes "NULL") (kind.Word w) yes'), omega arith))
      (λ no'. new_sound (t ∷ ts) p (rw no' at e))
  primary_at_sound (kind.Mark m) t ts p is e = by_bool (is_mark (codes "(") (kind.Mark m))
      (λ yes'. paren_sound t ts p (is ∙ is_mark_true (codes "(") (kind.Mark m) yes') (rw yes' at e))
      (λ no'. let never : None ≡ Some p = rw no' at e in cc)

  pub primary_sound : (ts : List Token) (p : Part Expr) → read_primary s ts ≡ Some p → FitsPrimary (suc d) ts p
  primary_sound [] p e = cc
  primary_sound (t ∷ ts) p e = primary_at_sound t.kind t ts p refl e

  postfix_sound : (ts : List Token) (p : Part Expr) → read_postfix s d ts ≡ Some p → FitsPostfix (suc d) ts p
  postfix_sound ts p e = binding (read_primary s ts) (steps (suc d) (s.line expr_line) d) p e (λ q read more.
      let f = primary_sound ts q read in
      steps_sound d (s.line expr_line) (sound.line expr_line) ts (suc d) q p (grammar.Postfix.primary ts q f.0, f.1) more)

  negation_sound : (t : Token) (ts : List Token) (node : Span → Expr → Expr) (p : Part Expr)
      → ((q : Part Expr) → Unary ts q → Unary (t ∷ ts) (negation node t q)) → option_and_then (negated node t) (s.line 0 ts) ≡ Some p
      → Unary (t ∷ ts) p × (p.depth ≤ suc d)
  negation_sound t ts node p makes e = binding (s.line 0 ts) (negated node t) p e (λ q read made.
      let f = sound.line 0 ts q read in
      let low = f.1 in
      given (λ (r : Part Expr). Unary (t ∷ ts) r × (r.depth ≤ suc d)) (negation node t q) p made (makes q (unary_of ts q f.0), omega arith))
    where
      unary_of : (us : List Token) (q : Part Expr) → Line zero us q → Unary us q
      unary_of us q (grammar.unary vs r u) = u

  pub unary_sound : (ts : List Token) (p : Part Expr) → read_unary s d ts ≡ Some p → Line 0 ts p × (p.depth ≤ suc d)
  unary_sound [] p e = cc
  unary_sound (t ∷ ts) p e = by_bool (is_mark (codes "!") t.kind)
      (λ yes'. let f = negation_sound t ts tree.not_of p (λ q u. grammar.Unary.not_of t ts q (is_mark_true (codes "!") t.kind yes') u) (rw yes' at e) in
      (grammar.unary (t ∷ ts) p f.0, f.1))
      (λ no'. let g = rw no' at e in by_bool (is_mark (codes "-") t.kind)
      (λ yes'. let f = negation_sound t ts tree.neg p (λ q u. grammar.Unary.neg t ts q (is_mark_true (codes "-") t.kind yes') u) (rw yes' at g) in
      (grammar.unary (t ∷ ts) p f.0, f.1))
      (λ none. let f = postfix_sound (t ∷ ts) p (rw none at g) in
      (grammar.unary (t ∷ ts) p (grammar.Unary.postfix (t ∷ ts) p f.0), f.1)))
