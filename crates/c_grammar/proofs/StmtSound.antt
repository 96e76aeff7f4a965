-- What is read of a statement is spelled so, at every depth that is left.
use Rattle.std.proofs.Common.{◌≡◌, ◌≤◌, ℕ, zero, suc, false, List, [], ◌∷◌, length, refl, sym, subst, ◌∙◌, Option, Some, None, arith}
use Rattle.std.specs.Prelude.{option_and_then, codes}
use Rattle.c_tree.specs.declared.position.Span.{Span}
use Rattle.c_tree.specs.Plain.{Expr, Exprs, no_exprs, Stmt, Stmts, no_stmts}
use Rattle.c_tree.specs.Plain as tree
use Rattle.c_token.specs.declared.token.Token.{Token}
use Rattle.c_token.specs.declared.token.TokenKind.{TokenKind}
use Rattle.c_token.specs.declared.token.TokenKind.TheVariants as kind
use Rattle.c_grammar.specs.Parts.{Part, Row, Next}
use Rattle.c_grammar.specs.Exprs.{expr_line}
use Rattle.c_grammar.specs.Stmts.{First, Condition, Step, IsHeading, Heading, Body, Block, IsStmt, begins_else, ended, holding, governed, chosen, repeated, blocked}
use Rattle.c_grammar.specs.Stmts as grammar
use Rattle.c_grammar.specs.Reading.{is_mark, is_word, Front, after_mark, after_word}
use Rattle.c_grammar.specs.ReadExprs.{stage, begins_base}
use Rattle.c_grammar.specs.ReadStmts.{one_stmt, more_stmts, first_row, read_first, condition_row, read_condition, read_step, heading_closed, heading_step, heading_condition, read_heading, Statements, after_locals, body, body_at, Braced, block_closed, block_after, block_by, whole, word_end, return_closed, return_at, when_at, when_after, while_after, for_after, simple_closed, stmt_at, read_stmt, read_block, read_locals, read_simple, read_enclosed}
use Rattle.c_grammar.proofs.Fronts.{binding, by_bool, by_option, given, is_mark_true, is_word_true, mark_next, word_next}
use Rattle.c_grammar.proofs.StageSound.{stage_sound}
use Rattle.c_grammar.proofs.LocalSound.{locals_sound, enclosed_sound}
use Rattle.c_grammar.proofs.SimpleSound.{simple_sound}

-- a row that is spelled so and not deeper than this
abbrev Fits : {X : Type 0} → (List Token → Row X → Type 0) → ℕ → List Token → Row X → Type 0
Fits R d ts r = R ts r × (r.depth ≤ d)

first_sound : (d : ℕ) (ts : List Token) (r : Row Stmts) → read_first d ts ≡ Some r → Fits First d ts r
first_sound d ts r e = by_option (after_mark (codes ";") ts)
    (λ q is. given (Fits First d ts) _ r (rw is at e) (grammar.First.none ts, omega arith))
    (λ none. let e' = rw none at e in by_bool (begins_base ts)
    (λ yes'. let f = locals_sound d ts r (rw yes' at e') in (grammar.First.locals ts r f.0, f.1))
    (λ no'. binding (read_simple d ts) first_row r (rw no' at e') (λ p read made.
    let f = simple_sound d ts p read in given (Fits First d ts) (one_stmt p) r made (grammar.First.simple ts p f.0, f.1))))

condition_sound : (d : ℕ) (ts : List Token) (r : Row Exprs) → read_condition d ts ≡ Some r → Fits Condition d ts r
condition_sound d ts r e = by_option (after_mark (codes ";") ts)
    (λ q is. given (Fits Condition d ts) _ r (rw is at e) (grammar.Condition.none ts, omega arith))
    (λ none. binding ((stage d).line expr_line ts) condition_row r (rw none at e) (λ p read made.
    let f = (stage_sound d).line expr_line ts p read in given (Fits Condition d ts) _ r made (grammar.Condition.some ts p f.0, f.1)))

step_sound : (d : ℕ) (ts : List Token) (r : Row Stmts) → read_step d ts ≡ Some r → Fits Step d ts r
step_sound d ts r e = by_option (after_mark (codes ")") ts)
    (λ q is. given (Fits Step d ts) _ r (rw is at e) (grammar.Step.none ts, omega arith))
    (λ none. binding (read_simple d ts) first_row r (rw none at e) (λ p read made.
    let f = simple_sound d ts p read in given (Fits Step d ts) (one_stmt p) r made (grammar.Step.some ts p f.0, f.1)))

pub heading_sound : (limit : ℕ) (ts : List Token) (h : Row Heading) → read_heading limit ts ≡ Some h → Fits IsHeading limit ts h
heading_sound zero ts h e = cc
heading_sound (suc d) ts h e = binding (after_mark (codes "(") ts) (λ q. option_and_then (heading_condition d) (read_first d q.rest)) h e (λ o opening e1.
    binding (read_first d o.rest) (heading_condition d) h e1 (λ f first e2.
    binding (after_mark (codes ";") f.rest) (λ q. option_and_then (heading_step d f) (read_condition d q.rest)) h e2 (λ m semicolon e3.
    binding (read_condition d m.rest) (heading_step d f) h e3 (λ c condition e4.
    binding (after_mark (codes ";") c.rest) (λ q. option_and_then (heading_closed f c) (read_step d q.rest)) h e4 (λ n semicolon' e5.
    binding (read_step d n.rest) (heading_closed f c) h e5 (λ s step e6.
    binding (after_mark (codes ")") s.rest) _ h e6 (λ q closing made.
    let a = first_sound d o.rest f first in
    let b = condition_sound d m.rest c condition in
    let g = step_sound d n.rest s step in
    let low_a = a.1 in
    let low_b = b.1 in
    let low_g = g.1 in
    given (Fits IsHeading (suc d) ts) _ h made (
      grammar.heading ts o.rest m.rest n.rest q.rest o.token m.token n.token q.token f c s (mark_next (codes "(") ts o opening) a.0 (mark_next (codes ";") f.rest m semicolon)
          b.0 (mark_next (codes ";") c.rest n semicolon') g.0 (mark_next (codes ")") s.rest q closing),
      omega arith,
    ))))))))

abbrev pub IsSoundStmt : ℕ → Statements → Type 0
IsSoundStmt d read = (ts : List Token) (p : Part Stmt) → read ts ≡ Some p → IsStmt ts p × (p.depth ≤ d)

abbrev FitsStmt : ℕ → List Token → Part Stmt → Type 0
FitsStmt d ts p = IsStmt ts p × (p.depth ≤ d)

-- a block with its closing brace
abbrev pub FitsBlock : ℕ → List Token → Braced → Type 0
FitsBlock d ts b = Block ts b.part b.brace × (b.part.depth ≤ d)

module _ (d : ℕ) (read : Statements) (sound : IsSoundStmt d read) where
  body_at_sound : (next : List Token → Option (Row Stmts)) → ((us : List Token) (s : Row Stmts) → next us ≡ Some s → Fits Body d us s)
      → (ts : List Token) (r : Row Stmts) → body_at next read d ts (after_mark (codes "}") ts) ≡ Some r → Fits Body d ts r
  body_at_sound next again ts r e = by_option (after_mark (codes "}") ts)
      (λ q is. given (Fits Body d ts) _ r (rw is at e) (grammar.Body.none ts, omega arith))
      (λ none. let e' = rw none at e in by_bool (begins_base ts)
      (λ yes'. binding (read_locals d ts) (λ l. option_and_then (λ q. option_and_then (after_locals l) (next q.rest)) (after_mark (codes ";") l.rest)) r (rw yes' at e') (λ l locals e1.
      binding (after_mark (codes ";") l.rest) (λ q. option_and_then (after_locals l) (next q.rest)) r e1 (λ q semicolon e2.
      binding (next q.rest) (after_locals l) r e2 (λ s rest made.
      let f = locals_sound d ts l locals in
      let g = again q.rest s rest in
      let low_f = f.1 in
      let low_g = g.1 in
      given (Fits Body d ts) _ r made (grammar.Body.locals ts q.rest q.token l s f.0 (mark_next (codes ";") l.rest q semicolon) g.0, omega arith)))))
      (λ no'. binding (read ts) (λ p. option_and_then (more_stmts p) (next p.rest)) r (rw no' at e') (λ p one e1.
      binding (next p.rest) (more_stmts p) r e1 (λ s rest made.
      let f = sound ts p one in
      let g = again p.rest s rest in
      let low_f = f.1 in
      let low_g = g.1 in
      given (Fits Body d ts) _ r made (grammar.Body.stmt ts p s f.0 g.0, omega arith)))))

  body_sound : (n : ℕ) (ts : List Token) (r : Row Stmts) → body n read d ts ≡ Some r → Fits Body d ts r
  body_sound zero ts r e = cc
  body_sound (suc n) ts r e = body_at_sound (body n read d) (λ us s rest. body_sound n us s rest) ts r e

  block_after_sound : (o : Front) (b : Braced) → o.token.kind ≡ kind.Mark (codes "{") → block_after read d o ≡ Some b → FitsBlock (suc d) (o.token ∷ o.rest) b
  block_after_sound o b is e = binding (body (suc (length o.rest)) read d o.rest) (block_closed o.token) b e (λ s inner e1.
      binding (after_mark (codes "}") s.rest) _ b e1 (λ q closing made.
      let f = body_sound (suc (length o.rest)) o.rest s inner in
      let low = f.1 in
      given (FitsBlock (suc d) (o.token ∷ o.rest)) _ b made
      (grammar.block o.token q.token o.rest q.rest s is f.0 (mark_next (codes "}") s.rest q closing), omega arith)))

  pub block_sound : (ts : List Token) (b : Braced) → block_by read d ts ≡ Some b → FitsBlock (suc d) ts b
  block_sound ts b e = binding (after_mark (codes "{") ts) (block_after read d) b e (λ o opening after.
      let n = mark_next (codes "{") ts o opening in
      subst (λ (us : List Token). FitsBlock (suc d) us b) (sym n.0) (block_after_sound o b n.1 after))

  return_sound : (t : Token) (ts : List Token) (p : Part Stmt) → t.kind ≡ kind.Word (codes "return") → return_at d t ts (after_mark (codes ";") ts) ≡ Some p → FitsStmt (suc d) (t ∷ ts) p
  return_sound t ts p is e = by_option (after_mark (codes ";") ts)
      (λ q end. given (FitsStmt (suc d) (t ∷ ts)) (ended tree.return t q.token q.rest) p (rw end at e)
      (grammar.return t q.token ts q.rest is (mark_next (codes ";") ts q end), omega arith))
      (λ none. binding ((stage d).line expr_line ts) (return_closed t) p (rw none at e) (λ r read' e1.
      binding (after_mark (codes ";") r.rest) _ p e1 (λ q end made.
      let f = (stage_sound d).line expr_line ts r read' in
      let low = f.1 in
      given (FitsStmt (suc d) (t ∷ ts)) _ p made (grammar.return_of t q.token ts q.rest r is f.0 (mark_next (codes ";") r.rest q end), omega arith))))

  no_else : (ts : List Token) → after_word (codes "else") ts ≡ None → begins_else ts ≡ false
  no_else [] none = refl
  no_else (t ∷ ts) none = else_of t.kind refl
    where
      else_of : (k : TokenKind) → t.kind ≡ k → grammar.is_else_kind k ≡ false
      else_of (kind.Word w) is = by_bool (is_word (codes "else") (kind.Word w))
          (λ yes'. let wrong : None ≡ Some (record { token = t; rest = ts }) = sym none ∙ rw (is, yes') refl in cc)
          (λ no'. no')
      else_of _ is = refl

  when_sound : (t : Token) (ts : List Token) (p : Part Stmt) → t.kind ≡ kind.Word (codes "if") → option_and_then (when_after read t) (read_enclosed d ts) ≡ Some p
      → FitsStmt (suc d) (t ∷ ts) p
  when_sound t ts p is e = binding (read_enclosed d ts) (when_after read t) p e (λ c condition e1.
      binding (read c.rest) (λ s. when_at read t c s (after_word (codes "else") s.rest)) p e1 (λ s one e2.
      let f = enclosed_sound d ts c condition in
      let g = sound c.rest s one in
      let low_f = f.1 in
      let low_g = g.1 in
      by_option (after_word (codes "else") s.rest)
      (λ q other. binding (read q.rest) (λ r. Some (chosen t c s r)) p (rw other at e2) (λ r two made.
      let h = sound q.rest r two in
      let low_h = h.1 in
      given (FitsStmt (suc d) (t ∷ ts)) (chosen t c s r) p made
      (grammar.when_else t q.token ts q.rest c s r is f.0 g.0 (word_next (codes "else") s.rest q other) h.0, omega arith)))
      (λ none. given (FitsStmt (suc d) (t ∷ ts)) (governed tree.when t c s) p (rw none at e2)
      (grammar.when t ts c s is f.0 g.0 (no_else s.rest none), omega arith))))

  while_sound : (t : Token) (ts : List Token) (p : Part Stmt) → t.kind ≡ kind.Word (codes "while") → option_and_then (while_after read t) (read_enclosed d ts) ≡ Some p
      → FitsStmt (suc d) (t ∷ ts) p
  while_sound t ts p is e = binding (read_enclosed d ts) (while_after read t) p e (λ c condition e1.
      binding (read c.rest) (λ s. Some (governed tree.while t c s)) p e1 (λ s one made.
      let f = enclosed_sound d ts c condition in
      let g = sound c.rest s one in
      let low_f = f.1 in
      let low_g = g.1 in
      given (FitsStmt (suc d) (t ∷ ts)) (governed tree.while t c s) p made (grammar.while t ts c s is f.0 g.0, omega arith)))

  for_sound : (t : Token) (ts : List Token) (p : Part Stmt) → t.kind ≡ kind.Word (codes "for") → option_and_then (for_after read t) (read_heading d ts) ≡ Some p
      → FitsStmt (suc d) (t ∷ ts) p
  for_sound t ts p is e = binding (read_heading d ts) (for_after read t) p e (λ h heading e1.
      binding (read h.rest) (λ s. Some (repeated t h s)) p e1 (λ s one made.
      let f = heading_sound d ts h heading in
      let g = sound h.rest s one in
      let low_f = f.1 in
      let low_g = g.1 in
      given (FitsStmt (suc d) (t ∷ ts)) (repeated t h s) p made (grammar.for t ts h s is f.0 g.0, omega arith)))

  closed_sound : (ts : List Token) (p : Part Stmt) → option_and_then simple_closed (read_simple (suc d) ts) ≡ Some p → FitsStmt (suc d) ts p
  closed_sound ts p e = binding (read_simple (suc d) ts) simple_closed p e (λ r simple e1.
      binding (after_mark (codes ";") r.rest) _ p e1 (λ q end made.
      let f = simple_sound (suc d) ts r simple in
      given (FitsStmt (suc d) ts) _ p made (grammar.IsStmt.simple ts q.rest q.token r f.0 (mark_next (codes ";") r.rest q end), f.1)))

  end_sound : (node : Span → Stmt) (t : Token) (ts : List Token) (p : Part Stmt) → ((q : Front) → Next (kind.Mark (codes ";")) ts q.token q.rest → IsStmt (t ∷ ts) (ended node t q.token q.rest))
      → word_end node t ts ≡ Some p → FitsStmt (suc d) (t ∷ ts) p
  end_sound node t ts p makes e = binding (after_mark (codes ";") ts) _ p e (λ q end made.
      given (FitsStmt (suc d) (t ∷ ts)) (ended node t q.token q.rest) p made (makes q (mark_next (codes ";") ts q end), omega arith))

  pub stmt_at_sound : (t : Token) (ts : List Token) (p : Part Stmt) → stmt_at read d t ts ≡ Some p → FitsStmt (suc d) (t ∷ ts) p
  stmt_at_sound t ts p e = by_bool (is_mark (codes "{") t.kind)
      (λ is. binding (block_after read d (record { token = t; rest = ts })) whole p (rw is at e) (λ b block made.
      let f = block_after_sound (record { token = t; rest = ts }) b (is_mark_true (codes "{") t.kind is) block in
      given (FitsStmt (suc d) (t ∷ ts)) b.part p made (grammar.block_of (t ∷ ts) b.part b.brace f.0, f.1)))
      (λ no1. let e1 = rw no1 at e in by_bool (is_mark (codes ";") t.kind)
      (λ is. given (FitsStmt (suc d) (t ∷ ts)) _ p (rw is at e1) (grammar.nothing t ts (is_mark_true (codes ";") t.kind is), omega arith))
      (λ no2. let e2 = rw no2 at e1 in by_bool (is_word (codes "break") t.kind)
      (λ is. end_sound tree.break t ts p (λ q n. grammar.break t q.token ts q.rest (is_word_true (codes "break") t.kind is) n) (rw is at e2))
      (λ no3. let e3 = rw no3 at e2 in by_bool (is_word (codes "continue") t.kind)
      (λ is. end_sound tree.continue t ts p (λ q n. grammar.continue t q.token ts q.rest (is_word_true (codes "continue") t.kind is) n) (rw is at e3))
      (λ no4. let e4 = rw no4 at e3 in by_bool (is_word (codes "return") t.kind)
      (λ is. return_sound t ts p (is_word_true (codes "return") t.kind is) (rw is at e4))
      (λ no5. let e5 = rw no5 at e4 in by_bool (is_word (codes "if") t.kind)
      (λ is. when_sound t ts p (is_word_true (codes "if") t.kind is) (rw is at e5))
      (λ no6. let e6 = rw no6 at e5 in by_bool (is_word (codes "while") t.kind)
      (λ is. while_sound t ts p (is_word_true (codes "while") t.kind is) (rw is at e6))
      (λ no7. let e7 = rw no7 at e6 in by_bool (is_word (codes "for") t.kind)
      (λ is. for_sound t ts p (is_word_true (codes "for") t.kind is) (rw is at e7))
      (λ no8. closed_sound (t ∷ ts) p (rw no8 at e7)))))))))

pub stmt_sound : (d : ℕ) → IsSoundStmt d (read_stmt d)
unfolding read_stmt
stmt_sound zero ts p e = cc
stmt_sound (suc d) [] p e = cc
stmt_sound (suc d) (t ∷ ts) p e = stmt_at_sound d (read_stmt d) (stmt_sound d) t ts p e

pub read_block_sound : (d : ℕ) (ts : List Token) (b : Braced) → read_block d ts ≡ Some b → FitsBlock d ts b
read_block_sound zero ts b e = cc
read_block_sound (suc d) ts b e = block_sound d (read_stmt d) (stmt_sound d) ts b e
