-- A path is copied as itself.
use Rattle.std.proofs.Common.{◌≡◌, ℕ, zero, suc, ◌≤◌, ◌<◌, ◌-◌, Bool, true, false, List, [], ◌∷◌, arith, refl, sym, ap, ◌∙◌, Some, None}
use Rattle.c_tree.specs.Plain.{Expr}
use Rattle.c_tree.specs.Plain as tree
use Rattle.c_grammar.specs.ReadStmts.{is_path}
use Rattle.std.specs.Prelude.{codes, option_and_then, nat_lt, if◌then◌else◌, IfOk, Ok, Err}
use Rattle.std.specs.declared.result.Result.{Result}
use Rattle.std.proofs.lemmas.Bool.{lt-ltb, ltb-true}
use Rattle.c_tree.specs.declared.tree.BinaryOp.{BinaryOp}
use Rattle.c_token.specs.declared.token.Token.{Token}
use Rattle.c_grammar.specs.Parts.{Part}
use Rattle.c_grammar.specs.Stmts.{stepped, holding}
use Rattle.c_grammar.specs.Reading.{is_word, Front, after_mark}
use Rattle.c_grammar.specs.Exprs.{expr_line}
use Rattle.c_grammar.specs.ReadExprs.{Stage, stage, read_primary, steps, Way, no_way, by_arrow, by_index, way}
use Rattle.c_parser.specs.Below.{begins_step}
use Rattle.c_grammar.specs.ReadStmts.{read_simple, read_enclosed, free_closed, from_primary, from_way, from_target, from_tree, is_name, read_stmt, stmt_by, read_block, block_by}
use Rattle.c_grammar.proofs.SimpleSound.{simple_sound}
use Rattle.c_parser.specs.declared.error.ParseError.{ParseError}
use Rattle.c_parser.specs.declared.statement_parts.StmtPart as code
use Rattle.c_parser.specs.Views.{Gives}
use Rattle.c_parser.specs.StmtViews.{stmt_part, step_path}
use Rattle.c_parser.proofs.Stages.{line_at_none}
use Rattle.c_grammar.proofs.Fronts.{by_option, by_bool}
use Rattle.c_parser.specs.StmtViews.{path_of, is_variable, is_call}

pub path_some : (e f : Expr) → path_of e ≡ Some f → (is_path e ≡ true) × (f ≡ e)
path_some (tree.name at x) f is = (refl, cc)
path_some (tree.arrow at b m) f is = by_option (path_of b)
    (λ g found. let p = path_some b g found in
    let made : Some (tree.arrow at g m) ≡ Some f = rw found at is in
    let inner = p.1 in
    let same : tree.arrow at g m ≡ f = cc in
    (p.0, sym same ∙ ap (λ (h : Expr). tree.arrow at h m) inner))
    (λ none. let never : None ≡ Some f = rw none at is in cc)
path_some _ f is = cc

pub path_none : (e : Expr) → path_of e ≡ None → is_path e ≡ false
path_none (tree.name at x) is = cc
path_none (tree.arrow at b m) is = by_option (path_of b)
    (λ g found. let never : Some (tree.arrow at g m) ≡ None = rw found at is in cc)
    (λ none. path_none b none)
path_none _ is = refl

pub step_taken : (d : ℕ) (p : Part Expr) (f : Expr) (o : BinaryOp) (q : Front) → path_of p.tree ≡ Some f → p.depth < d
    → step_path d true p o q ≡ Some (stepped o p q.token q.rest)
step_taken d p f o q path low = let is = (path_some p.tree f path).0 in let test : nat_lt p.depth d ≡ true = lt-ltb p.depth d low in rw (is, test) refl

pub step_no_path : (d : ℕ) (p : Part Expr) (o : BinaryOp) (q : Front) → path_of p.tree ≡ None → step_path d true p o q ≡ None
step_no_path d p o q path = let is = path_none p.tree path in rw is refl

pub step_deep : (d : ℕ) (named : Bool) (p : Part Expr) (o : BinaryOp) (q : Front) → d ≤ p.depth → step_path d named p o q ≡ None
step_deep d named p o q deep = by_bool (if named then is_path p.tree else false)
    (λ y. by_bool (nat_lt p.depth d)
    (λ less. let l : p.depth < d = ltb-true p.depth d less in absurd (omega arith))
    (λ test. rw (y, test) refl))
    (λ n. rw n refl)

-- simple statements, by how much depth is left
pub simple_first : (limit : ℕ) (ts : List Token) → limit < 2 → read_simple limit ts ≡ None
simple_first zero ts low = refl
simple_first (suc zero) [] low = refl
simple_first (suc zero) (t ∷ ts) low = refl
simple_first (suc (suc d)) ts low = absurd (omega arith)

pub simple_nothing : (limit : ℕ) → read_simple limit [] ≡ None
simple_nothing zero = refl
simple_nothing (suc d) = refl

pub simple_free : (limit : ℕ) (t : Token) (ts : List Token) → 2 ≤ limit → is_word (codes "free") t.kind ≡ true
    → read_simple limit (t ∷ ts) ≡ option_and_then (free_closed t) (read_enclosed (limit - 1) ts)
simple_free zero t ts low is = absurd (omega arith)
simple_free (suc zero) t ts low is = absurd (omega arith)
simple_free (suc (suc d)) t ts low is = let less : suc (suc d) - 1 ≡ suc d = omega arith in rw (less, is) refl

pub simple_other : (limit : ℕ) (t : Token) (ts : List Token) → 2 ≤ limit → is_word (codes "free") t.kind ≡ false
    → read_simple limit (t ∷ ts)
    ≡ option_and_then (from_primary (limit - 2) (stage (limit - 2)) (is_name t.kind)) (read_primary (stage (limit - 2)) (t ∷ ts))
simple_other zero t ts low is = absurd (omega arith)
simple_other (suc zero) t ts low is = absurd (omega arith)
simple_other (suc (suc d)) t ts low is = let less : suc (suc d) - 2 ≡ d = omega arith in rw (less, is) refl

pub enclosed_first : (ts : List Token) → read_enclosed 1 ts ≡ None
enclosed_first ts = by_option (after_mark (codes "(") ts) (λ q is. rw (is, line_at_none) refl) (λ none. rw none refl)

pub simple_within : (r : Result code.StmtPart ParseError) (d : ℕ) (ts : List Token) → Gives stmt_part r (read_simple d ts) → IfOk r (λ p. p.depth ≤ d)
simple_within (Ok p) d ts g = (simple_sound d ts (stmt_part p) g).1
simple_within (Err e) d ts g = tt

-- what a primary begins
pub from_steps : (d : ℕ) (s : Stage) (named : Bool) (p : Part Expr) → begins_step p.rest ≡ true
    → from_primary d s named p ≡ option_and_then (from_target (suc d) named) (steps (suc d) (s.line expr_line) d p)
from_steps d s named p begins = go (way p.rest) refl
  where
    go : (w : Way) → way p.rest ≡ w → from_way d s named p w ≡ option_and_then (from_target (suc d) named) (steps (suc d) (s.line expr_line) d p)
    go no_way is = let never : false ≡ true = rw is at begins in cc
    go (by_arrow q) is = refl
    go (by_index q) is = refl

from_named : (d : ℕ) (s : Stage) (p : Part Expr) → begins_step p.rest ≡ false → from_primary d s true p ≡ from_tree (suc d) p p.tree
from_named d s p ends = go (way p.rest) refl
  where
    go : (w : Way) → way p.rest ≡ w → from_way d s true p w ≡ from_tree (suc d) p p.tree
    go no_way none = refl
    go (by_arrow q) some = let never : true ≡ false = rw some at ends in cc
    go (by_index q) some = let never : true ≡ false = rw some at ends in cc

variable_tree : (d : ℕ) (p : Part Expr) (e : Expr) → is_variable e ≡ true → from_tree d p e ≡ from_target d true p
variable_tree d p (tree.name at x) is = refl
variable_tree d p _ is = cc

call_tree : (d : ℕ) (p : Part Expr) (e : Expr) → is_call e ≡ true → from_tree d p e ≡ Some (holding tree.do_call p.at p p.rest)
call_tree d p (tree.call at f es) is = refl
call_tree d p _ is = cc

other_tree : (d : ℕ) (p : Part Expr) (e : Expr) → is_variable e ≡ false → is_call e ≡ false → from_tree d p e ≡ None
other_tree d p (tree.name at x) v k = cc
other_tree d p (tree.call at f es) v k = cc
other_tree d p _ v k = refl

pub from_variable : (d : ℕ) (s : Stage) (p : Part Expr) → begins_step p.rest ≡ false → is_variable p.tree ≡ true → from_primary d s true p ≡ from_target (suc d) true p
from_variable d s p ends is = from_named d s p ends ∙ variable_tree (suc d) p p.tree is

pub from_call : (d : ℕ) (s : Stage) (p : Part Expr) → begins_step p.rest ≡ false → is_call p.tree ≡ true
    → from_primary d s true p ≡ Some (holding tree.do_call p.at p p.rest)
from_call d s p ends is = from_named d s p ends ∙ call_tree (suc d) p p.tree is

pub from_other : (d : ℕ) (s : Stage) (p : Part Expr) → begins_step p.rest ≡ false → is_variable p.tree ≡ false → is_call p.tree ≡ false
    → from_primary d s true p ≡ None
from_other d s p ends v k = from_named d s p ends ∙ other_tree (suc d) p p.tree v k

pub from_unnamed : (d : ℕ) (s : Stage) (p : Part Expr) → begins_step p.rest ≡ false → from_primary d s false p ≡ None
from_unnamed d s p ends = go (way p.rest) refl
  where
    go : (w : Way) → way p.rest ≡ w → from_way d s false p w ≡ None
    go no_way none = refl
    go (by_arrow q) some = let never : true ≡ false = rw some at ends in cc
    go (by_index q) some = let never : true ≡ false = rw some at ends in cc

-- statements, by how much depth is left
pub enclosed_shallow : (d : ℕ) (ts : List Token) → d < 2 → read_enclosed d ts ≡ None
enclosed_shallow zero ts low = refl
enclosed_shallow (suc zero) ts low = enclosed_first ts
enclosed_shallow (suc (suc d)) ts low = absurd (omega arith)

pub stmt_zero : (ts : List Token) → read_stmt 0 ts ≡ None
unfolding read_stmt
stmt_zero ts = refl

pub stmt_below : (limit : ℕ) (ts : List Token) → 0 < limit → read_stmt limit ts ≡ stmt_by (read_stmt (limit - 1)) (limit - 1) ts
unfolding read_stmt
stmt_below zero ts some = absurd (omega arith)
stmt_below (suc d) ts some = let less : suc d - 1 ≡ d = omega arith in rw less refl

pub block_below : (limit : ℕ) (ts : List Token) → 0 < limit → read_block limit ts ≡ block_by (read_stmt (limit - 1)) (limit - 1) ts
block_below zero ts some = absurd (omega arith)
block_below (suc d) ts some = let less : suc d - 1 ≡ d = omega arith in rw less refl
