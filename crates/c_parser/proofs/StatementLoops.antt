-- One turn of each loop over statements, as a fact about what is read.
use Rattle.std.proofs.Common.{◌≡◌, ◌≤◌, ◌<◌, ℕ, zero, suc, max, true, false, List, [], ◌∷◌, ◌++◌, length, refl, ap, ◌∙◌, Option, Some, None, arith}
use Rattle.std.specs.Prelude.{codes, is_some, option_and_then}
use Rattle.c_tree.specs.declared.tree.Stmt as code
use Rattle.c_tree.specs.declared.tree.Unit.{Unit as Base}
use Rattle.c_tree.specs.Plain.{Stmt, Stmts, no_stmts}
use Rattle.c_tree.specs.Plain as tree
use Rattle.c_tree.specs.View.{stmt_view, stmts_view}
use Rattle.c_token.specs.declared.token.Token.{Token}
use Rattle.c_grammar.specs.Parts.{Part, Row}
use Rattle.c_grammar.specs.Stmts.{joined}
use Rattle.c_grammar.specs.Reading.{Front, after_mark, read_base}
use Rattle.c_grammar.proofs.Fronts.{binding, given, by_option, by_bool}
use Rattle.c_parser.specs.StmtViews.{chunk_ended, chunk_of, chunk}
use Rattle.c_parser.proofs.Lookups.{mark_shorter}
use Rattle.c_grammar.specs.ReadExprs.{begins_base}
use Rattle.c_grammar.specs.ReadStmts.{Statements, more_stmts, after_locals, some_locals, read_local, read_locals, read_stmt, body}
use Rattle.c_grammar.proofs.LocalSound.{local_sound, locals_sound}
use Rattle.c_grammar.proofs.LocalComplete.{local_shorter as spelled_local_shorter, locals_shorter as spelled_locals_shorter}
use Rattle.c_grammar.proofs.StmtSound.{stmt_sound}
use Rattle.c_grammar.proofs.StmtComplete.{stmt_shorter as spelled_stmt_shorter}

-- statements before others, with the depth of the deepest
abbrev pub prepended : Stmts → ℕ → Row Stmts → Option (Row Stmts)
prepended ss h r = Some (record { tree = joined ss r.tree; depth = max h r.depth; rest = r.rest })

pub joined_joined : (a b c : Stmts) → joined a (joined b c) ≡ joined (joined a b) c
joined_joined no_stmts b c = refl
joined_joined (tree.stmt s ss) b c = ap (tree.stmt s) (joined_joined ss b c)

pub joined_none : (a : Stmts) → joined a no_stmts ≡ a
joined_none no_stmts = refl
joined_none (tree.stmt s ss) = ap (tree.stmt s) (joined_none ss)

pub view_both : (a b : List code.Stmt) → stmts_view (a ++ b) ≡ joined (stmts_view a) (stmts_view b)
view_both [] b = refl
view_both (s ∷ ss) b = ap (tree.stmt (stmt_view s)) (view_both ss b)

pub view_one : (a : List code.Stmt) (s : code.Stmt) → stmts_view (a ++ s ∷ []) ≡ joined (stmts_view a) (tree.stmt (stmt_view s) no_stmts)
view_one a s = view_both a (s ∷ [])

pub prepended_none : (o : Option (Row Stmts)) → option_and_then (prepended no_stmts 0) o ≡ o
prepended_none None = refl
prepended_none (Some r) = let deep : max 0 r.depth ≡ r.depth = omega arith in rw deep refl

prepended_more : (ss : Stmts) (h : ℕ) (p : Part Stmt) (o : Option (Row Stmts))
    → option_and_then (prepended ss h) (option_and_then (more_stmts p) o) ≡ option_and_then (prepended (joined ss (tree.stmt p.tree no_stmts)) (max p.depth h)) o
prepended_more ss h p None = refl
prepended_more ss h p (Some r) =
    let deep : max h (max p.depth r.depth) ≡ max (max p.depth h) r.depth = omega arith in
    let trees = joined_joined ss (tree.stmt p.tree no_stmts) r.tree in
    rw (deep, trees) refl

prepended_locals : (ss : Stmts) (h : ℕ) (l : Row Stmts) (o : Option (Row Stmts))
    → option_and_then (prepended ss h) (option_and_then (after_locals l) o) ≡ option_and_then (prepended (joined ss l.tree) (max l.depth h)) o
prepended_locals ss h l None = refl
prepended_locals ss h l (Some r) =
    let deep : max h (max l.depth r.depth) ≡ max (max l.depth h) r.depth = omega arith in
    let trees = joined_joined ss l.tree r.tree in
    rw (deep, trees) refl

pub local_shorter : (limit : ℕ) (b : Base) (ts : List Token) (p : Part Stmt) → read_local limit b ts ≡ Some p → length p.rest < length ts
local_shorter limit b ts p read = spelled_local_shorter b ts p (local_sound limit b ts p read).0

pub locals_shorter : (d : ℕ) (ts : List Token) (l : Row Stmts) → read_locals d ts ≡ Some l → length l.rest < length ts
locals_shorter d ts l read = spelled_locals_shorter ts l (locals_sound d ts l read).0

pub stmt_shorter : (d : ℕ) (ts : List Token) (p : Part Stmt) → read_stmt d ts ≡ Some p → length p.rest < length ts
stmt_shorter d ts p read = spelled_stmt_shorter ts p (stmt_sound d ts p read).0

-- variables of one base
pub locals_more : (n d : ℕ) (b : Base) (ss : Stmts) (h : ℕ) (ts : List Token) (p : Part Stmt) (q : Front) → length ts ≤ n → length q.rest < length ts
    → read_local d b ts ≡ Some p → after_mark (codes ",") p.rest ≡ Some q
    → (k : ℕ) × (length q.rest ≤ k)
    × (option_and_then (prepended ss h) (some_locals n d b ts) ≡ option_and_then (prepended (joined ss (tree.stmt p.tree no_stmts)) (max p.depth h)) (some_locals k d b q.rest))
locals_more zero d b ss h ts p q enough less is comma = absurd (omega arith)
locals_more (suc n) d b ss h ts p q enough less is comma = (n, omega arith, rw (is, comma) (prepended_more ss h p (some_locals n d b q.rest)))

pub locals_last : (n d : ℕ) (b : Base) (ss : Stmts) (h : ℕ) (ts : List Token) (p : Part Stmt) → 0 < n
    → read_local d b ts ≡ Some p → after_mark (codes ",") p.rest ≡ None
    → option_and_then (prepended ss h) (some_locals n d b ts) ≡ Some (record { tree = joined ss (tree.stmt p.tree no_stmts); depth = max p.depth h; rest = p.rest })
locals_last zero d b ss h ts p enough is comma = absurd (omega arith)
locals_last (suc n) d b ss h ts p enough is comma = let deep : max h p.depth ≡ max p.depth h = omega arith in rw (is, comma, deep) refl

pub locals_refused : (n d : ℕ) (b : Base) (ts : List Token) → read_local d b ts ≡ None → some_locals n d b ts ≡ None
locals_refused zero d b ts none = refl
locals_refused (suc n) d b ts none = rw none refl

pub some_none : (n : ℕ) (b : Base) (ts : List Token) → some_locals n 0 b ts ≡ None
some_none zero b ts = refl
some_none (suc n) b ts = refl

-- the statements of a block
pub body_end : (n : ℕ) (read : Statements) (d : ℕ) (ss : Stmts) (h : ℕ) (ts : List Token) (q : Front) → 0 < n → after_mark (codes "}") ts ≡ Some q
    → option_and_then (prepended ss h) (body n read d ts) ≡ Some (record { tree = ss; depth = h; rest = ts })
body_end zero read d ss h ts q enough is = absurd (omega arith)
body_end (suc n) read d ss h ts q enough is =
    let deep : max h 0 ≡ h = omega arith in let trees = joined_none ss in rw (is, deep, trees) refl

chunk_stmt : (read : Statements) (d : ℕ) (ss : Stmts) (h : ℕ) (next : List Token → Option (Row Stmts)) (o : Option (Part Stmt))
    → option_and_then (prepended ss h) (option_and_then (λ p. option_and_then (more_stmts p) (next p.rest)) o)
    ≡ option_and_then (λ (r : Row Stmts). option_and_then (prepended (joined ss r.tree) (max r.depth h)) (next r.rest)) (option_and_then chunk_of o)
chunk_stmt read d ss h next None = refl
chunk_stmt read d ss h next (Some p) = prepended_more ss h p (next p.rest)

chunk_locals : (ss : Stmts) (h : ℕ) (next : List Token → Option (Row Stmts)) (o : Option (Row Stmts))
    → option_and_then (prepended ss h) (option_and_then (λ l. option_and_then (λ q. option_and_then (after_locals l) (next q.rest)) (after_mark (codes ";") l.rest)) o)
    ≡ option_and_then (λ (r : Row Stmts). option_and_then (prepended (joined ss r.tree) (max r.depth h)) (next r.rest)) (option_and_then chunk_ended o)
chunk_locals ss h next None = refl
chunk_locals ss h next (Some l) = by_option (after_mark (codes ";") l.rest)
    (λ q is. rw is (prepended_locals ss h l (next q.rest)))
    (λ none. rw none refl)

body_chunk : (n : ℕ) (read : Statements) (d : ℕ) (ss : Stmts) (h : ℕ) (ts : List Token) → after_mark (codes "}") ts ≡ None
    → option_and_then (prepended ss h) (body (suc n) read d ts)
    ≡ option_and_then (λ (r : Row Stmts). option_and_then (prepended (joined ss r.tree) (max r.depth h)) (body n read d r.rest)) (chunk read d ts)
body_chunk n read d ss h ts going = by_bool (begins_base ts)
    (λ y. rw (going, y) (chunk_locals ss h (body n read d) (read_locals d ts)))
    (λ no'. rw (going, no') (chunk_stmt read d ss h (body n read d) (read ts)))

pub body_more : (n : ℕ) (read : Statements) (d : ℕ) (ss : Stmts) (h : ℕ) (ts : List Token) (r : Row Stmts) → length ts < n → length r.rest < length ts
    → after_mark (codes "}") ts ≡ None → chunk read d ts ≡ Some r
    → (k : ℕ) × (length r.rest < k)
    × (option_and_then (prepended ss h) (body n read d ts) ≡ option_and_then (prepended (joined ss r.tree) (max r.depth h)) (body k read d r.rest))
body_more zero read d ss h ts r enough less going is = absurd (omega arith)
body_more (suc n) read d ss h ts r enough less going is = (n, omega arith, body_chunk n read d ss h ts going ∙ rw is refl)

pub body_refused : (n : ℕ) (read : Statements) (d : ℕ) (ss : Stmts) (h : ℕ) (ts : List Token) → after_mark (codes "}") ts ≡ None → chunk read d ts ≡ None
    → option_and_then (prepended ss h) (body n read d ts) ≡ None
body_refused zero read d ss h ts going none = refl
body_refused (suc n) read d ss h ts going none = body_chunk n read d ss h ts going ∙ rw none refl

pub chunk_shorter : (d : ℕ) (ts : List Token) (r : Row Stmts) → chunk (read_stmt d) d ts ≡ Some r → length r.rest < length ts
chunk_shorter d ts r is = by_bool (begins_base ts)
    (λ y. let e = rw y at is in binding (read_locals d ts) chunk_ended r e (λ l read e1.
    binding (after_mark (codes ";") l.rest) _ r e1 (λ q end made.
    let a = locals_shorter d ts l read in
    let b = mark_shorter (codes ";") l.rest q end in
    given (λ (x : Row Stmts). length x.rest < length ts) _ r made (omega arith))))
    (λ no'. let e = rw no' at is in binding (read_stmt d ts) chunk_of r e (λ p read made.
    given (λ (x : Row Stmts). length x.rest < length ts) _ r made (stmt_shorter d ts p read)))

pub locals_none : (ts : List Token) → read_locals 0 ts ≡ None
locals_none ts = by_option (read_base ts) (λ b is. rw is (some_none (length b.rest) b.tree b.rest)) (λ none. rw none refl)

pub some_of : {A : Type 0} (o : Option A) → is_some o ≡ true → (x : A) × (o ≡ Some x)
some_of None is = cc
some_of (Some x) is = (x, refl)

pub none_of : {A : Type 0} (o : Option A) → is_some o ≡ false → o ≡ None
none_of None is = refl
none_of (Some x) is = cc
