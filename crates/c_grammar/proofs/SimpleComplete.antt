-- What is spelled as a simple statement is read.
use Rattle.std.proofs.Common.{◌≡◌, ◌≤◌, ◌<◌, ℕ, zero, suc, Bool, true, List, [], ◌∷◌, length, refl, sym, ap, ◌∙◌, inl, inr, Some, arith}
use Rattle.std.specs.Prelude.{option_and_then, codes, ◌⊎◌, nat_lt}
use Rattle.std.proofs.lemmas.Bool.{lt-ltb}
use Rattle.c_tree.specs.declared.tree.BinaryOp.TheVariants as op
use Rattle.c_tree.specs.Plain.{Expr, Exprs, Stmt, Stmts}
use Rattle.c_token.specs.declared.token.Token.{Token}
use Rattle.c_token.specs.declared.token.TokenKind.TheVariants as kind
use Rattle.c_grammar.specs.Parts.{Part, Next}
use Rattle.c_grammar.specs.Exprs.{Postfix, Primary, Call, expr_line}
use Rattle.c_grammar.specs.Exprs as exprs
use Rattle.c_tree.specs.Plain as tree
use Rattle.c_grammar.specs.Stmts.{IsTarget, IsPath, Simple, Enclosed, holding}
use Rattle.c_grammar.specs.Stmts as grammar
use Rattle.c_grammar.specs.ReadExprs.{Stage, stage, read_primary, steps, Way, no_way, by_arrow, by_index, way}
use Rattle.c_grammar.specs.ReadStmts.{is_path, change, by_assign, by_one, from_target, from_way, from_primary, is_name, read_simple}
use Rattle.c_grammar.proofs.Begins.{begins, starts_primary, no_word, postfix_begins}
use Rattle.c_grammar.proofs.Shorter.{next_shorter, line_shorter, postfix_shorter, call_shorter}
use Rattle.c_grammar.proofs.LineComplete.{rank, next_rank, mark_none, way_none}
use Rattle.c_grammar.proofs.PrimaryComplete.{primary_complete, postfix_complete}
use Rattle.c_grammar.proofs.StageComplete.{stage_complete}
use Rattle.c_grammar.proofs.LocalComplete.{enclosed_complete, enclosed_shorter}
use Rattle.c_grammar.proofs.SimpleSound.{path_deep}

-- the primary that a postfix begins with: all of it, or a step follows
pub record IsFront (e : ℕ) (ts : List Token) (p : Part Expr) : Type 0 where
  pub first : Part Expr
  pub reads : read_primary (stage e) ts ≡ Some first
  pub alone : (p ≡ first) ⊎ (way first.rest ≡ no_way → ⊥)

arrow_way : (ts us : List Token) (t : Token) → Next (kind.Mark (codes "->")) ts t us → way ts ≡ no_way → ⊥
arrow_way ts us t n none = let w : way ts ≡ by_arrow (record { token = t; rest = us }) = rw (n.0, n.1) refl in let wrong : by_arrow (record { token = t; rest = us }) ≡ no_way = sym w ∙ none in cc

index_way : (ts us : List Token) (t : Token) → Next (kind.Mark (codes "[")) ts t us → way ts ≡ no_way → ⊥
index_way ts us t n none = let w : way ts ≡ by_index (record { token = t; rest = us }) = rw (n.0, n.1) refl in let wrong : by_index (record { token = t; rest = us }) ≡ no_way = sym w ∙ none in cc

-- a step follows that postfix
followed : (e : ℕ) (ts : List Token) (p : Part Expr) (f : IsFront e ts p) → (way p.rest ≡ no_way → ⊥) → way f.first.rest ≡ no_way → ⊥
followed e ts p f step = go f.alone
  where
    go : (p ≡ f.first) ⊎ (way f.first.rest ≡ no_way → ⊥) → way f.first.rest ≡ no_way → ⊥
    go (inl same) none = step (ap (λ (q : Part Expr). way q.rest) same ∙ none)
    go (inr no') none = no' none

postfix_front : (e : ℕ) (ts : List Token) (p : Part Expr) → Postfix ts p → p.depth ≤ suc e → 0 < rank p.rest → IsFront e ts p
postfix_front e ts p (exprs.Postfix.primary us q from) low free =
    record { first = q; reads = primary_complete e (stage e) (stage_complete e) us q from low free; alone = inl refl }
postfix_front e ts p (exprs.Postfix.arrow us vs ws t n f q from x y) low free =
    let rk = next_rank _ q.rest vs t x in
    let g = postfix_front e us q from (omega arith) (omega arith) in
    record { first = g.first; reads = g.reads; alone = inr (followed e us q g (arrow_way q.rest vs t x)) }
postfix_front e ts p (exprs.Postfix.index us vs ws o c q i from x y z) low free =
    let rk = next_rank _ q.rest vs o x in
    let g = postfix_front e us q from (omega arith) (omega arith) in
    record { first = g.first; reads = g.reads; alone = inr (followed e us q g (index_way q.rest vs o x)) }

by_steps : (e : ℕ) (s : Stage) (named : Bool) (p : Part Expr) (w : Way) → (w ≡ no_way → ⊥)
    → from_way e s named p w ≡ option_and_then (from_target (suc e) named) (steps (suc e) (s.line expr_line) e p)
by_steps e s named p no_way step = absurd (step refl)
by_steps e s named p (by_arrow f) step = refl
by_steps e s named p (by_index f) step = refl

-- a postfix of which the last is a step is read as a target
stepped_read : (e : ℕ) (named : Bool) (ts : List Token) (q p : Part Expr) → Postfix ts q → Postfix ts p → q.depth ≤ suc e → p.depth ≤ suc e → 0 < rank q.rest
    → (way q.rest ≡ no_way → ⊥) → 7 < rank p.rest
    → option_and_then (from_primary e (stage e) named) (read_primary (stage e) ts) ≡ from_target (suc e) named p
stepped_read e named ts q p before whole low_q low free step end =
    let g = postfix_front e ts q before low_q free in
    let some = followed e ts q g step in
    let all = postfix_complete e (stage e) (stage_complete e) ts p whole low (omega arith) in
    let loop : steps (suc e) ((stage e).line expr_line) e g.first ≡ Some p = ap (option_and_then (steps (suc e) ((stage e).line expr_line) e)) (sym g.reads) ∙ all in
    ap (option_and_then (from_primary e (stage e) named)) g.reads ∙ (by_steps e (stage e) named g.first (way g.first.rest) some ∙ ap (option_and_then (from_target (suc e) named)) loop)

target_read : (e : ℕ) (ts : List Token) (p : Part Expr) → IsTarget ts p → p.depth ≤ suc e → 7 < rank p.rest
    → option_and_then (from_primary e (stage e) (begins is_name ts)) (read_primary (stage e) ts) ≡ from_target (suc e) (begins is_name ts) p
target_read e ts p (grammar.IsTarget.name t us x is) low end =
    let none = mark_none (codes "(") 0 us (omega arith) (omega arith) in
    let no_step = way_none us (omega arith) in
    rw (is, none, no_step) refl
target_read e ts p (grammar.IsTarget.arrow us vs ws t n f q from x y) low end =
    let rk = next_rank _ q.rest vs t x in
    stepped_read e (begins is_name us) us q p from (exprs.Postfix.arrow us vs ws t n f q from x y) (omega arith) low (omega arith) (arrow_way q.rest vs t x) end
target_read e ts p (grammar.IsTarget.index us vs ws o c q i from x y z) low end =
    let rk = next_rank _ q.rest vs o x in
    stepped_read e (begins is_name us) us q p from (exprs.Postfix.index us vs ws o c q i from x y z) (omega arith) low (omega arith) (index_way q.rest vs o x) end

pub target_begins : (ts : List Token) (p : Part Expr) → IsTarget ts p → begins starts_primary ts ≡ true
target_begins ts p (grammar.IsTarget.name t us x is) = rw is refl
target_begins ts p (grammar.IsTarget.arrow us vs ws t n f q from x y) = postfix_begins us q from
target_begins ts p (grammar.IsTarget.index us vs ws o c q i from x y z) = postfix_begins us q from

target_deep : (ts : List Token) (p : Part Expr) → IsTarget ts p → 0 < p.depth
target_deep ts p (grammar.IsTarget.name t us x is) = omega arith
target_deep ts p (grammar.IsTarget.arrow us vs ws t n f q from x y) = omega arith
target_deep ts p (grammar.IsTarget.index us vs ws o c q i from x y z) = omega arith

-- a path is a target
path_postfix : (ts : List Token) (p : Part Expr) → IsPath ts p → Postfix ts p
path_postfix ts p (grammar.IsPath.name t us x is) = exprs.Postfix.primary ts p (exprs.Primary.name t us x is)
path_postfix ts p (grammar.IsPath.arrow us vs ws t n f q from x y) = exprs.Postfix.arrow us vs ws t n f q (path_postfix us q from) x y

pub path_target : (ts : List Token) (p : Part Expr) → IsPath ts p → IsTarget ts p
path_target ts p (grammar.IsPath.name t us x is) = grammar.IsTarget.name t us x is
path_target ts p (grammar.IsPath.arrow us vs ws t n f q from x y) = grammar.IsTarget.arrow us vs ws t n f q (path_postfix us q from) x y

path_named : (ts : List Token) (p : Part Expr) → IsPath ts p → begins is_name ts ≡ true
path_named ts p (grammar.IsPath.name t us x is) = rw is refl
path_named ts p (grammar.IsPath.arrow us vs ws t n f q from x y) = path_named us q from

path_tree : (ts : List Token) (p : Part Expr) → IsPath ts p → is_path p.tree ≡ true
path_tree ts p (grammar.IsPath.name t us x is) = refl
path_tree ts p (grammar.IsPath.arrow us vs ws t n f q from x y) = path_tree us q from

-- what begins as a primary is read from it
from_first : (e : ℕ) (ts : List Token) → begins starts_primary ts ≡ true
    → read_simple (suc (suc e)) ts ≡ option_and_then (from_primary e (stage e) (begins is_name ts)) (read_primary (stage e) ts)
from_first e [] is = cc
from_first e (t ∷ ts) is = let no' = no_word starts_primary (codes "free") t.kind refl is in rw no' refl

assign_change : (ts us : List Token) (t : Token) → Next (kind.Mark (codes "=")) ts t us → change ts ≡ by_assign (record { token = t; rest = us })
assign_change ts us t n = rw (n.0, n.1) refl

more_change : (ts us : List Token) (t : Token) → Next (kind.Mark (codes "++")) ts t us → change ts ≡ by_one op.Add (record { token = t; rest = us })
more_change ts us t n = rw (n.0, n.1) refl

less_change : (ts us : List Token) (t : Token) → Next (kind.Mark (codes "--")) ts t us → change ts ≡ by_one op.Sub (record { token = t; rest = us })
less_change ts us t n = rw (n.0, n.1) refl

pub simple_deep : (ts : List Token) (p : Part Stmt) → Simple ts p → 1 < p.depth
simple_deep ts p (grammar.assign us vs t l r target x from) = let a = target_deep us l target in omega arith
simple_deep ts p (grammar.increment us vs t q path x) = omega arith
simple_deep ts p (grammar.decrement us vs t q path x) = omega arith
simple_deep ts p (grammar.Simple.call us q (exprs.call_of t o c f vs ws xs a is x y z)) = omega arith
simple_deep ts p (grammar.free t o c us vs ws q is x y z) = omega arith

call_read : (e : ℕ) (ts : List Token) (p : Part Expr) → Call ts p → p.depth ≤ suc e → 7 < rank p.rest
    → read_simple (suc (suc e)) ts ≡ Some (holding tree.do_call p.at p p.rest)
call_read e ts p (exprs.call_of t o c f us vs ws a is x y z) low end =
    let read = primary_complete e (stage e) (stage_complete e) (t ∷ us) p (exprs.Primary.call (t ∷ us) p (exprs.call_of t o c f us vs ws a is x y z)) low (omega arith) in
    let no_step = way_none ws (omega arith) in
    let named : is_name t.kind ≡ true = rw is refl in
    from_first e (t ∷ us) (rw is refl) ∙ rw (read, no_step, named) refl

pub simple_complete : (d : ℕ) (ts : List Token) (p : Part Stmt) → Simple ts p → p.depth ≤ d → 7 < rank p.rest → read_simple d ts ≡ Some p
simple_complete zero ts p from low end = let deep = simple_deep ts p from in absurd (omega arith)
simple_complete (suc zero) ts p from low end = let deep = simple_deep ts p from in absurd (omega arith)
simple_complete (suc (suc e)) ts p (grammar.assign us vs t l r target x from) low end =
    let rk = next_rank _ l.rest vs t x in
    let read = (stage_complete (suc e)).line expr_line vs r from (omega arith) (omega arith) (omega arith) in
    from_first e us (target_begins us l target) ∙ (target_read e us l target (omega arith) (omega arith) ∙ rw (assign_change l.rest vs t x, read) refl)
simple_complete (suc (suc e)) ts p (grammar.increment us vs t q path x) low end =
    let rk = next_rank _ q.rest vs t x in
    let deep = path_deep us q path in
    let test : nat_lt q.depth (suc e) ≡ true = lt-ltb q.depth (suc e) (omega arith) in
    from_first e us (target_begins us q (path_target us q path))
    ∙ (target_read e us q (path_target us q path) (omega arith) (omega arith) ∙ rw (path_named us q path, path_tree us q path, more_change q.rest vs t x, test) refl)
simple_complete (suc (suc e)) ts p (grammar.decrement us vs t q path x) low end =
    let rk = next_rank _ q.rest vs t x in
    let deep = path_deep us q path in
    let test : nat_lt q.depth (suc e) ≡ true = lt-ltb q.depth (suc e) (omega arith) in
    from_first e us (target_begins us q (path_target us q path))
    ∙ (target_read e us q (path_target us q path) (omega arith) (omega arith) ∙ rw (path_named us q path, path_tree us q path, less_change q.rest vs t x, test) refl)
simple_complete (suc (suc e)) ts p (grammar.Simple.call us q from) low end = call_read e us q from (omega arith) end
simple_complete (suc (suc e)) ts p (grammar.free t o c us vs ws q is x y z) low end =
    let read = enclosed_complete (suc e) us _ (grammar.enclosed us vs ws o c q x y z) (omega arith) in
    rw (is, read) refl

pub simple_shorter : (ts : List Token) (p : Part Stmt) → Simple ts p → length p.rest < length ts
simple_shorter ts p (grammar.assign us vs t l r target x from) =
    let a = target_shorter us l target in let b = next_shorter _ l.rest vs t x in let c = line_shorter _ vs r from in omega arith
  where
    target_shorter : (xs : List Token) (q : Part Expr) → IsTarget xs q → length q.rest < length xs
    target_shorter xs q (grammar.IsTarget.name s ys y is) = omega arith
    target_shorter xs q (grammar.IsTarget.arrow ys zs ws s n f r' from' v w) = postfix_shorter ys q (exprs.Postfix.arrow ys zs ws s n f r' from' v w)
    target_shorter xs q (grammar.IsTarget.index ys zs ws o c r' i from' u v w) = postfix_shorter ys q (exprs.Postfix.index ys zs ws o c r' i from' u v w)
simple_shorter ts p (grammar.increment us vs t q path x) = let a = postfix_shorter us q (path_postfix us q path) in let b = next_shorter _ q.rest vs t x in omega arith
simple_shorter ts p (grammar.decrement us vs t q path x) = let a = postfix_shorter us q (path_postfix us q path) in let b = next_shorter _ q.rest vs t x in omega arith
simple_shorter ts p (grammar.Simple.call us q from) = call_shorter us q from
simple_shorter ts p (grammar.free t o c us vs ws q is x y z) = let a = enclosed_shorter us _ (grammar.enclosed us vs ws o c q x y z) in omega arith
