-- What is read of a declaration or of an expression in parentheses is spelled so.
use Rattle.std.proofs.Common.{◌≡◌, ◌≤◌, ℕ, zero, suc, true, false, List, length, sym, subst, Some, arith}
use Rattle.std.specs.Prelude.{option_and_then, codes}
use Rattle.c_tree.specs.declared.tree.Unit.{Unit as Base}
use Rattle.c_tree.specs.Plain.{Expr, Stmt, Stmts}
use Rattle.c_token.specs.declared.token.Token.{Token}
use Rattle.c_grammar.specs.Parts.{Part, Row, join}
use Rattle.c_grammar.specs.Types.{IsDeclarator, type_of}
use Rattle.c_grammar.specs.Types as types
use Rattle.c_grammar.specs.Exprs.{expr_line}
use Rattle.c_grammar.specs.Stmts.{Local, SomeLocals, Locals, Enclosed, declared_as}
use Rattle.c_grammar.specs.Stmts as grammar
use Rattle.c_grammar.specs.Reading.{after_mark, after_name, read_base, read_star}
use Rattle.c_grammar.specs.ReadExprs.{stage}
use Rattle.c_grammar.specs.ReadStmts.{Declared, declared, plain_declarator, starred_declarator, read_declarator, initialised, local_at, read_local, more_stmts, locals_after, some_locals, read_locals, closed_expr, read_enclosed}
use Rattle.c_grammar.proofs.Fronts.{binding, by_option, given, mark_next, name_next}
use Rattle.c_grammar.proofs.TypeSound.{base_sound, star_sound}
use Rattle.c_grammar.proofs.StageSound.{stage_sound}

pub declarator_sound : (b : Base) (ts : List Token) (q : Declared) → read_declarator b ts ≡ Some q → IsDeclarator b ts q.member q.rest
declarator_sound b ts q e = by_option (read_star ts)
    (λ s star. binding (after_name s.rest) (starred_declarator b s.at) q (rw star at e) (λ n named typed.
    binding (type_of b true) (declared n (join s.at n.token.at)) q typed (λ k type made.
    given (λ (r : Declared). IsDeclarator b ts r.member r.rest) _ q made
    (types.IsDeclarator.starred ts s.rest n.rest n.token n.name k s.at (star_sound ts s star) (name_next s.rest n named) type))))
    (λ none. binding (after_name ts) (plain_declarator b) q (rw none at e) (λ n named typed.
    binding (type_of b false) (declared n n.token.at) q typed (λ k type made.
    let next = name_next ts n named in
    given (λ (r : Declared). IsDeclarator b ts r.member r.rest) _ q made
    (subst (λ (us : List Token). IsDeclarator b us (record { name = n.name; kind = k; at = n.token.at }) n.rest) (sym next.0)
    (types.IsDeclarator.plain n.token n.rest n.name k next.1 type)))))

abbrev pub FitsLocal : Base → ℕ → List Token → Part Stmt → Type 0
FitsLocal b d ts p = Local b ts p × (p.depth ≤ d)

pub local_sound : (limit : ℕ) (b : Base) (ts : List Token) (p : Part Stmt) → read_local limit b ts ≡ Some p → FitsLocal b limit ts p
local_sound zero b ts p e = cc
local_sound (suc d) b ts p e = binding (read_declarator b ts) (λ q. local_at d q (after_mark (codes "=") q.rest)) p e (λ q read rest.
    let dec = declarator_sound b ts q read in
    by_option (after_mark (codes "=") q.rest)
    (λ f equals. binding ((stage d).line expr_line f.rest) (initialised q.member) p (rw equals at rest) (λ r one made.
    let s = (stage_sound d).line expr_line f.rest r one in
    let low = s.1 in
    given (FitsLocal b (suc d) ts) (declared_as q.member r) p made
    (grammar.Local.initialised ts q.rest f.rest f.token q.member r dec (mark_next (codes "=") q.rest f equals) s.0, omega arith)))
    (λ none. given (FitsLocal b (suc d) ts) _ p (rw none at rest) (grammar.Local.plain ts q.rest q.member dec, omega arith)))

abbrev FitsSome : Base → ℕ → List Token → Row Stmts → Type 0
FitsSome b d ts l = SomeLocals b ts l × (l.depth ≤ d)

pub some_locals_sound : (n d : ℕ) (b : Base) (ts : List Token) (l : Row Stmts) → some_locals n d b ts ≡ Some l → FitsSome b d ts l
some_locals_sound zero d b ts l e = cc
some_locals_sound (suc n) d b ts l e = binding (read_local d b ts) (λ p. locals_after (some_locals n d b) p (after_mark (codes ",") p.rest)) l e (λ p one rest.
    let f = local_sound d b ts p one in
    let low = f.1 in
    by_option (after_mark (codes ",") p.rest)
    (λ q comma. binding (some_locals n d b q.rest) (more_stmts p) l (rw comma at rest) (λ m others made.
    let g = some_locals_sound n d b q.rest m others in
    let low_m = g.1 in
    given (FitsSome b d ts) _ l made (grammar.SomeLocals.more ts q.rest q.token p m f.0 (mark_next (codes ",") p.rest q comma) g.0, omega arith)))
    (λ none. given (FitsSome b d ts) _ l (rw none at rest) (grammar.SomeLocals.last ts p f.0, low)))

abbrev pub FitsLocals : ℕ → List Token → Row Stmts → Type 0
FitsLocals d ts l = Locals ts l × (l.depth ≤ d)

pub locals_sound : (d : ℕ) (ts : List Token) (l : Row Stmts) → read_locals d ts ≡ Some l → FitsLocals d ts l
locals_sound d ts l e = binding (read_base ts) (λ b. some_locals (length b.rest) d b.tree b.rest) l e (λ b base some.
    let f = some_locals_sound (length b.rest) d b.tree b.rest l some in
    (grammar.Locals.locals ts b l (base_sound ts b base) f.0, f.1))

pub enclosed_sound : (limit : ℕ) (ts : List Token) (p : Part Expr) → read_enclosed limit ts ≡ Some p → Enclosed ts p × (p.depth ≤ limit)
enclosed_sound zero ts p e = cc
enclosed_sound (suc d) ts p e = binding (after_mark (codes "(") ts) (λ o. option_and_then (closed_expr o) ((stage d).line expr_line o.rest)) p e (λ o opening rest.
    binding ((stage d).line expr_line o.rest) (closed_expr o) p rest (λ r read closed.
    binding (after_mark (codes ")") r.rest) _ p closed (λ c end made.
    let s = (stage_sound d).line expr_line o.rest r read in
    let low = s.1 in
    given (λ (q : Part Expr). Enclosed ts q × (q.depth ≤ suc d)) _ p made
    (grammar.enclosed ts o.rest c.rest o.token c.token r (mark_next (codes "(") ts o opening) s.0 (mark_next (codes ")") r.rest c end), omega arith))))
