-- What is spelled as a statement is read.
use Rattle.std.proofs.Common.{◌≡◌, ◌≤◌, ◌<◌, ℕ, zero, suc, Bool, true, false, ◌||◌, List, [], ◌∷◌, length, refl, ◌∙◌, Some, None, arith}
use Rattle.std.specs.Prelude.{option_and_then, codes}
use Rattle.c_tree.specs.declared.position.Span.{Span}
use Rattle.c_tree.specs.Plain.{Stmt, Stmts}
use Rattle.c_token.specs.declared.token.Token.{Token}
use Rattle.c_token.specs.declared.token.TokenKind.{TokenKind}
use Rattle.c_token.specs.declared.token.TokenKind.TheVariants as kind
use Rattle.c_grammar.specs.Parts.{Part, Row, Next}
use Rattle.c_grammar.specs.Exprs.{expr_line}
use Rattle.c_grammar.specs.Stmts.{Simple, IsStmt, Block, Body, begins_else, is_else_kind}
use Rattle.c_grammar.specs.Stmts as grammar
use Rattle.c_grammar.specs.Reading.{is_mark, is_word, after_word}
use Rattle.c_grammar.specs.ReadStmts.{Statements, body, stmt_by, read_stmt, read_block, read_simple, simple_closed}
use Rattle.c_grammar.proofs.Fronts.{next_mark, next_word}
use Rattle.c_grammar.proofs.Begins.{begins, starts_expr, no_mark, no_word, no_mark_after, weaker, or_right, line_begins}
use Rattle.c_grammar.proofs.Shorter.{next_shorter, line_shorter}
use Rattle.c_grammar.proofs.LineComplete.{next_rank}
use Rattle.c_grammar.proofs.StageComplete.{stage_complete}
use Rattle.c_grammar.proofs.LocalComplete.{locals_complete, locals_shorter, enclosed_complete, enclosed_shorter}
use Rattle.c_grammar.proofs.SimpleComplete.{simple_complete, simple_deep, simple_shorter}
use Rattle.c_grammar.proofs.HeadingComplete.{starts_simple, simple_begins, no_base_by, locals_no_mark, locals_base, heading_complete, heading_shorter}

abbrev starts_stmt : TokenKind → Bool
starts_stmt k = is_mark (codes "{") k || (is_mark (codes ";") k || (is_word (codes "break") k || (is_word (codes "continue") k
    || (is_word (codes "return") k || (is_word (codes "if") k || (is_word (codes "while") k || (is_word (codes "for") k || starts_simple k)))))))

last_of_three : (a b c z : Bool) → z ≡ true → (a || (b || (c || z))) ≡ true
last_of_three a b c z is = or_right a (b || (c || z)) (or_right b (c || z) (or_right c z is))

last_of_nine : (a b c d e f g h z : Bool) → z ≡ true → (a || (b || (c || (d || (e || (f || (g || (h || z)))))))) ≡ true
last_of_nine a b c d e f g h z is =
    last_of_three a b c (d || (e || (f || (g || (h || z))))) (last_of_three d e f (g || (h || z)) (or_right g (h || z) (or_right h z is)))

simple_stmt : (k : TokenKind) → starts_simple k ≡ true → starts_stmt k ≡ true
simple_stmt k is = last_of_nine (is_mark (codes "{") k) (is_mark (codes ";") k) (is_word (codes "break") k) (is_word (codes "continue") k)
    (is_word (codes "return") k) (is_word (codes "if") k) (is_word (codes "while") k) (is_word (codes "for") k) (starts_simple k) is

stmt_begins : (ts : List Token) (p : Part Stmt) → IsStmt ts p → begins starts_stmt ts ≡ true
stmt_begins ts p (grammar.block_of us q brace (grammar.block o c vs ws s is x y)) = rw is refl
stmt_begins ts p (grammar.nothing t us is) = rw is refl
stmt_begins ts p (grammar.IsStmt.simple us vs m q from x) = weaker starts_simple starts_stmt us simple_stmt (simple_begins us q from)
stmt_begins ts p (grammar.break t e us vs is x) = rw is refl
stmt_begins ts p (grammar.continue t e us vs is x) = rw is refl
stmt_begins ts p (grammar.return t e us vs is x) = rw is refl
stmt_begins ts p (grammar.return_of t e us vs q is x y) = rw is refl
stmt_begins ts p (grammar.when t us c s is x y z) = rw is refl
stmt_begins ts p (grammar.when_else t o us vs c s e is x y z w) = rw is refl
stmt_begins ts p (grammar.while t us c s is x y) = rw is refl
stmt_begins ts p (grammar.for t us h s is x y) = rw is refl

pub stmt_deep : (ts : List Token) (p : Part Stmt) → IsStmt ts p → 0 < p.depth
stmt_deep ts p (grammar.block_of us q brace (grammar.block o c vs ws s is x y)) = omega arith
stmt_deep ts p (grammar.nothing t us is) = omega arith
stmt_deep ts p (grammar.IsStmt.simple us vs m q from x) = let deep = simple_deep us q from in omega arith
stmt_deep ts p (grammar.break t e us vs is x) = omega arith
stmt_deep ts p (grammar.continue t e us vs is x) = omega arith
stmt_deep ts p (grammar.return t e us vs is x) = omega arith
stmt_deep ts p (grammar.return_of t e us vs q is x y) = omega arith
stmt_deep ts p (grammar.when t us c s is x y z) = omega arith
stmt_deep ts p (grammar.when_else t o us vs c s e is x y z w) = omega arith
stmt_deep ts p (grammar.while t us c s is x y) = omega arith
stmt_deep ts p (grammar.for t us h s is x y) = omega arith

mutual
  pub stmt_shorter : (ts : List Token) (p : Part Stmt) → IsStmt ts p → length p.rest < length ts
  stmt_shorter ts p (grammar.block_of us q brace from) = block_shorter us q brace from
  stmt_shorter ts p (grammar.nothing t us is) = omega arith
  stmt_shorter ts p (grammar.IsStmt.simple us vs m q from x) = let a = simple_shorter us q from in let b = next_shorter _ q.rest vs m x in omega arith
  stmt_shorter ts p (grammar.break t e us vs is x) = let b = next_shorter _ us vs e x in omega arith
  stmt_shorter ts p (grammar.continue t e us vs is x) = let b = next_shorter _ us vs e x in omega arith
  stmt_shorter ts p (grammar.return t e us vs is x) = let b = next_shorter _ us vs e x in omega arith
  stmt_shorter ts p (grammar.return_of t e us vs q is x y) = let a = line_shorter _ us q x in let b = next_shorter _ q.rest vs e y in omega arith
  stmt_shorter ts p (grammar.when t us c s is x y z) = let a = enclosed_shorter us c x in let b = stmt_shorter c.rest s y in omega arith
  stmt_shorter ts p (grammar.when_else t o us vs c s e is x y z w) =
      let a = enclosed_shorter us c x in let b = stmt_shorter c.rest s y in let d = next_shorter _ s.rest vs o z in let f = stmt_shorter vs e w in omega arith
  stmt_shorter ts p (grammar.while t us c s is x y) = let a = enclosed_shorter us c x in let b = stmt_shorter c.rest s y in omega arith
  stmt_shorter ts p (grammar.for t us h s is x y) = let a = heading_shorter us h x in let b = stmt_shorter h.rest s y in omega arith

  pub block_shorter : (ts : List Token) (p : Part Stmt) (brace : Span) → Block ts p brace → length p.rest < length ts
  block_shorter ts p brace (grammar.block o c us vs s is x y) = let a = body_shorter us s x in let b = next_shorter _ s.rest vs c y in omega arith

  body_shorter : (ts : List Token) (s : Row Stmts) → Body ts s → length s.rest ≤ length ts
  body_shorter ts s (grammar.Body.none us) = omega arith
  body_shorter ts s (grammar.Body.locals us vs m l r x y z) =
      let a = locals_shorter us l x in let b = next_shorter _ l.rest vs m y in let c = body_shorter vs r z in omega arith
  body_shorter ts s (grammar.Body.stmt us q r x y) = let a = stmt_shorter us q x in let b = body_shorter q.rest r y in omega arith

-- at any depth that is enough
at_depth : (d : ℕ) (ts : List Token) (p : Part Stmt) → 0 < p.depth → p.depth ≤ d → ((e : ℕ) → p.depth ≤ suc e → stmt_by (read_stmt e) e ts ≡ Some p)
    → read_stmt d ts ≡ Some p
unfolding read_stmt
at_depth zero ts p deep low reads = absurd (omega arith)
at_depth (suc e) ts p deep low reads = reads e low

no_else : (ts : List Token) → begins_else ts ≡ false → after_word (codes "else") ts ≡ None
no_else [] none = refl
no_else (t ∷ ts) none = let no' = else_of t.kind none in rw no' refl
  where
    else_of : (k : TokenKind) → is_else_kind k ≡ false → is_word (codes "else") k ≡ false
    else_of (kind.Word w) is = is
    else_of _ is = refl

-- what begins as a simple statement is read as one
simple_at : (read : Statements) (d : ℕ) (ts : List Token) → begins starts_simple ts ≡ true → stmt_by read d ts ≡ option_and_then simple_closed (read_simple (suc d) ts)
simple_at read d [] is = cc
simple_at read d (t ∷ ts) is =
    let a = no_mark starts_simple (codes "{") t.kind refl is in
    let b = no_mark starts_simple (codes ";") t.kind refl is in
    let c = no_word starts_simple (codes "break") t.kind refl is in
    let e = no_word starts_simple (codes "continue") t.kind refl is in
    let f = no_word starts_simple (codes "return") t.kind refl is in
    let g = no_word starts_simple (codes "if") t.kind refl is in
    let h = no_word starts_simple (codes "while") t.kind refl is in
    let i = no_word starts_simple (codes "for") t.kind refl is in
    rw (a, b, c, e, f, g, h, i) refl

mutual
  pub stmt_complete : (ts : List Token) (p : Part Stmt) → IsStmt ts p → (d : ℕ) → p.depth ≤ suc d → stmt_by (read_stmt d) d ts ≡ Some p
  stmt_complete ts p (grammar.block_of us q brace (grammar.block o c vs ws s is x y)) d low =
      let inner = body_complete vs s x d (suc (length vs)) ws c (omega arith) y (omega arith) in
      rw (is, inner, next_mark _ s.rest ws c y) refl
  stmt_complete ts p (grammar.nothing t us is) d low = rw is refl
  stmt_complete ts p (grammar.IsStmt.simple us vs m q from x) d low =
      let rk = next_rank _ q.rest vs m x in
      simple_at (read_stmt d) d us (simple_begins us q from) ∙ rw (simple_complete (suc d) us q from low (omega arith), next_mark _ q.rest vs m x) refl
  stmt_complete ts p (grammar.break t e us vs is x) d low = rw (is, next_mark _ us vs e x) refl
  stmt_complete ts p (grammar.continue t e us vs is x) d low = rw (is, next_mark _ us vs e x) refl
  stmt_complete ts p (grammar.return t e us vs is x) d low = rw (is, next_mark _ us vs e x) refl
  stmt_complete ts p (grammar.return_of t e us vs q is x y) d low =
      let rk = next_rank _ q.rest vs e y in
      let none = no_mark_after starts_expr (codes ";") us refl (line_begins _ us q x) in
      let read = (stage_complete d).line expr_line us q x (omega arith) (omega arith) (omega arith) in
      rw (is, none, read, next_mark _ q.rest vs e y) refl
  stmt_complete ts p (grammar.when t us c s is x y z) d low =
      let one = at_depth d c.rest s (stmt_deep c.rest s y) (omega arith) (λ e l. stmt_complete c.rest s y e l) in
      rw (is, enclosed_complete d us c x (omega arith), one, no_else s.rest z) refl
  stmt_complete ts p (grammar.when_else t o us vs c s e is x y z w) d low =
      let one = at_depth d c.rest s (stmt_deep c.rest s y) (omega arith) (λ f l. stmt_complete c.rest s y f l) in
      let two = at_depth d vs e (stmt_deep vs e w) (omega arith) (λ f l. stmt_complete vs e w f l) in
      rw (is, enclosed_complete d us c x (omega arith), one, next_word _ s.rest vs o z, two) refl
  stmt_complete ts p (grammar.while t us c s is x y) d low =
      let one = at_depth d c.rest s (stmt_deep c.rest s y) (omega arith) (λ e l. stmt_complete c.rest s y e l) in
      rw (is, enclosed_complete d us c x (omega arith), one) refl
  stmt_complete ts p (grammar.for t us h s is x y) d low =
      let one = at_depth d h.rest s (stmt_deep h.rest s y) (omega arith) (λ e l. stmt_complete h.rest s y e l) in
      rw (is, heading_complete d us h x (omega arith), one) refl

  -- up to the closing brace
  pub body_complete : (ts : List Token) (s : Row Stmts) → Body ts s → (d n : ℕ) (us : List Token) (c : Token) → s.depth ≤ d
      → Next (kind.Mark (codes "}")) s.rest c us → length ts < n → body n (read_stmt d) d ts ≡ Some s
  body_complete ts s from d zero us c low end fuel = absurd (omega arith)
  body_complete ts s (grammar.Body.none vs) d (suc n) us c low end fuel = rw (next_mark _ vs us c end) refl
  body_complete ts s (grammar.Body.locals vs ws m l r x y z) d (suc n) us c low end fuel =
      let a = locals_shorter vs l x in
      let b = next_shorter _ l.rest ws m y in
      let locals = locals_complete d vs ws l m x (omega arith) y in
      let others = body_complete ws r z d n us c (omega arith) end (omega arith) in
      rw (locals_no_mark (codes "}") vs l x, locals_base vs l x, locals, next_mark _ l.rest ws m y, others) refl
  body_complete ts s (grammar.Body.stmt vs q r x y) d (suc n) us c low end fuel =
      let begin = stmt_begins vs q x in
      let a = stmt_shorter vs q x in
      let none = no_mark_after starts_stmt (codes "}") vs refl begin in
      let no' = no_base_by starts_stmt vs refl refl refl refl begin in
      let one = at_depth d vs q (stmt_deep vs q x) (omega arith) (λ e l. stmt_complete vs q x e l) in
      let others = body_complete q.rest r y d n us c (omega arith) end (omega arith) in
      rw (none, no', one, others) refl

pub block_complete : (limit : ℕ) (ts : List Token) (p : Part Stmt) (brace : Span) → Block ts p brace → p.depth ≤ limit
    → read_block limit ts ≡ Some (record { part = p; brace = brace })
block_complete zero ts p brace (grammar.block o c us vs s is x y) low = absurd (omega arith)
block_complete (suc d) ts p brace (grammar.block o c us vs s is x y) low =
    let inner = body_complete us s x d (suc (length us)) vs c (omega arith) y (omega arith) in
    rw (is, inner, next_mark _ s.rest vs c y) refl
