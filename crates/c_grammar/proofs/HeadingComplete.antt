-- What statements begin with, and that what is spelled as the parts of a `for` is read.
use Rattle.std.proofs.Common.{◌≡◌, ◌≤◌, ◌<◌, ℕ, zero, suc, Bool, true, false, ◌||◌, List, [], ◌∷◌, length, refl, Some, None, arith}
use Rattle.std.specs.Prelude.{codes}
use Rattle.c_tree.specs.declared.tree.Unit.{Unit as Base}
use Rattle.c_tree.specs.Plain.{Exprs, Stmt, Stmts}
use Rattle.c_token.specs.declared.token.Token.{Token}
use Rattle.c_token.specs.declared.token.TokenKind.{TokenKind}
use Rattle.c_token.specs.declared.token.TokenKind.TheVariants as kind
use Rattle.c_grammar.specs.Parts.{Part, Row, Piece, Next}
use Rattle.c_grammar.specs.Types.{IsBase}
use Rattle.c_grammar.specs.Types as types
use Rattle.c_grammar.specs.Exprs.{Line, Call, expr_line}
use Rattle.c_grammar.specs.Exprs as exprs
use Rattle.c_grammar.specs.Stmts.{IsTarget, Simple, Locals, First, Condition, Step, Heading, IsHeading, IsStmt, Block, Body}
use Rattle.c_grammar.specs.Stmts as grammar
use Rattle.c_grammar.specs.Reading.{is_word, after_mark}
use Rattle.c_grammar.specs.ReadExprs.{begins_base, is_base_kind}
use Rattle.c_grammar.specs.ReadStmts.{read_first, read_condition, read_step, read_heading}
use Rattle.c_grammar.proofs.Fronts.{next_mark}
use Rattle.c_grammar.proofs.Begins.{begins, starts_primary, starts_expr, no_word, no_mark_after, weaker, or_right, line_begins}
use Rattle.c_grammar.proofs.Shorter.{next_shorter, line_shorter}
use Rattle.c_grammar.proofs.TypeComplete.{base_begins}
use Rattle.c_grammar.proofs.LineComplete.{next_rank}
use Rattle.c_grammar.proofs.StageComplete.{stage_complete}
use Rattle.c_grammar.proofs.LocalComplete.{locals_complete, locals_shorter}
use Rattle.c_grammar.proofs.SimpleComplete.{target_begins, path_target, simple_complete, simple_shorter}

abbrev pub starts_simple : TokenKind → Bool
starts_simple k = is_word (codes "free") k || starts_primary k

primary_simple : (k : TokenKind) → starts_primary k ≡ true → starts_simple k ≡ true
primary_simple k is = or_right (is_word (codes "free") k) (starts_primary k) is

pub simple_begins : (ts : List Token) (p : Part Stmt) → Simple ts p → begins starts_simple ts ≡ true
simple_begins ts p (grammar.assign us vs t l r target x from) = weaker starts_primary starts_simple us primary_simple (target_begins us l target)
simple_begins ts p (grammar.increment us vs t q path x) = weaker starts_primary starts_simple us primary_simple (target_begins us q (path_target us q path))
simple_begins ts p (grammar.decrement us vs t q path x) = weaker starts_primary starts_simple us primary_simple (target_begins us q (path_target us q path))
simple_begins ts p (grammar.Simple.call us q (exprs.call_of t o c f vs ws xs a is x y z)) = rw is refl
simple_begins ts p (grammar.free t o c us vs ws q is x y z) = rw is refl

no_base_kind : (f : TokenKind → Bool) (k : TokenKind) → f (kind.Word (codes "const")) ≡ false → f (kind.Word (codes "int")) ≡ false
    → f (kind.Word (codes "char")) ≡ false → f (kind.Word (codes "struct")) ≡ false → f k ≡ true → is_base_kind k ≡ false
no_base_kind f (kind.Word w) a b c d is =
    let a' = no_word f (codes "const") (kind.Word w) a is in
    let b' = no_word f (codes "int") (kind.Word w) b is in
    let c' = no_word f (codes "char") (kind.Word w) c is in
    let d' = no_word f (codes "struct") (kind.Word w) d is in
    rw (a', b', c', d') refl
no_base_kind f _ a b c d is = refl

pub no_base_by : (f : TokenKind → Bool) (ts : List Token) → f (kind.Word (codes "const")) ≡ false → f (kind.Word (codes "int")) ≡ false
    → f (kind.Word (codes "char")) ≡ false → f (kind.Word (codes "struct")) ≡ false → begins f ts ≡ true → begins_base ts ≡ false
no_base_by f [] a b c d is = refl
no_base_by f (t ∷ ts) a b c d is = no_base_kind f t.kind a b c d is

pub base_no_mark : (m : List ℕ) (ts : List Token) (b : Piece Base) → IsBase ts b → after_mark m ts ≡ None
base_no_mark m ts b (types.IsBase.const t us p is from) = rw is refl
base_no_mark m ts b (types.int t us vs at is from) = rw is refl
base_no_mark m ts b (types.char t us vs at is from) = rw is refl
base_no_mark m ts b (types.struct t n x us vs ws at is next from) = rw is refl

pub locals_no_mark : (m : List ℕ) (ts : List Token) (l : Row Stmts) → Locals ts l → after_mark m ts ≡ None
locals_no_mark m ts l (grammar.Locals.locals us b r base some) = base_no_mark m us b base

pub locals_base : (ts : List Token) (l : Row Stmts) → Locals ts l → begins_base ts ≡ true
locals_base ts l (grammar.Locals.locals us b r base some) = base_begins us b base

first_complete : (d : ℕ) (ts us : List Token) (r : Row Stmts) (m : Token) → First ts r → r.depth ≤ d → Next (kind.Mark (codes ";")) r.rest m us → read_first d ts ≡ Some r
first_complete d ts us r m (grammar.First.none vs) low end = rw (next_mark _ vs us m end) refl
first_complete d ts us r m (grammar.First.simple vs p from) low end =
    let rk = next_rank _ p.rest us m end in
    let begin = simple_begins vs p from in
    let none = no_mark_after starts_simple (codes ";") vs refl begin in
    let no' = no_base_by starts_simple vs refl refl refl refl begin in
    rw (none, no', simple_complete d vs p from low (omega arith)) refl
first_complete d ts us r m (grammar.First.locals vs l from) low end =
    rw (locals_no_mark (codes ";") vs l from, locals_base vs l from) (locals_complete d vs us l m from low end)

condition_complete : (d : ℕ) (ts us : List Token) (r : Row Exprs) (m : Token) → Condition ts r → r.depth ≤ d → Next (kind.Mark (codes ";")) r.rest m us
    → read_condition d ts ≡ Some r
condition_complete d ts us r m (grammar.Condition.none vs) low end = rw (next_mark _ vs us m end) refl
condition_complete d ts us r m (grammar.Condition.some vs p from) low end =
    let rk = next_rank _ p.rest us m end in
    let none = no_mark_after starts_expr (codes ";") vs refl (line_begins _ vs p from) in
    let read = (stage_complete d).line expr_line vs p from low (omega arith) (omega arith) in
    rw (none, read) refl

step_complete : (d : ℕ) (ts us : List Token) (r : Row Stmts) (m : Token) → Step ts r → r.depth ≤ d → Next (kind.Mark (codes ")")) r.rest m us → read_step d ts ≡ Some r
step_complete d ts us r m (grammar.Step.none vs) low end = rw (next_mark _ vs us m end) refl
step_complete d ts us r m (grammar.Step.some vs p from) low end =
    let rk = next_rank _ p.rest us m end in
    let none = no_mark_after starts_simple (codes ")") vs refl (simple_begins vs p from) in
    rw (none, simple_complete d vs p from low (omega arith)) refl

pub heading_complete : (d : ℕ) (ts : List Token) (h : Row Heading) → IsHeading ts h → h.depth ≤ d → read_heading d ts ≡ Some h
heading_complete zero ts h (grammar.heading us vs ws xs ys o m n c f k s a b e g i j q) low = absurd (omega arith)
heading_complete (suc d) ts h (grammar.heading us vs ws xs ys o m n c f k s a b e g i j q) low =
    let first = first_complete d vs ws f m b (omega arith) e in
    let condition = condition_complete d ws xs k n g (omega arith) i in
    let step = step_complete d xs ys s c j (omega arith) q in
    rw (next_mark _ us vs o a, first, next_mark _ f.rest ws m e, condition, next_mark _ k.rest xs n i, step, next_mark _ s.rest ys c q) refl

first_shorter : (ts : List Token) (r : Row Stmts) → First ts r → length r.rest ≤ length ts
first_shorter ts r (grammar.First.none us) = omega arith
first_shorter ts r (grammar.First.simple us p from) = let a = simple_shorter us p from in omega arith
first_shorter ts r (grammar.First.locals us l from) = let a = locals_shorter us l from in omega arith

condition_shorter : (ts : List Token) (r : Row Exprs) → Condition ts r → length r.rest ≤ length ts
condition_shorter ts r (grammar.Condition.none us) = omega arith
condition_shorter ts r (grammar.Condition.some us p from) = let a = line_shorter _ us p from in omega arith

step_shorter : (ts : List Token) (r : Row Stmts) → Step ts r → length r.rest ≤ length ts
step_shorter ts r (grammar.Step.none us) = omega arith
step_shorter ts r (grammar.Step.some us p from) = let a = simple_shorter us p from in omega arith

pub heading_shorter : (ts : List Token) (h : Row Heading) → IsHeading ts h → length h.rest < length ts
heading_shorter ts h (grammar.heading us vs ws xs ys o m n c f k s a b e g i j q) =
    let a' = next_shorter _ us vs o a in
    let b' = first_shorter vs f b in
    let c' = next_shorter _ f.rest ws m e in
    let d' = condition_shorter ws k g in
    let e' = next_shorter _ k.rest xs n i in
    let f' = step_shorter xs s j in
    let g' = next_shorter _ s.rest ys c q in
    omega arith
