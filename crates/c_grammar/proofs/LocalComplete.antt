-- What is spelled as a declaration or as an expression in parentheses is read.
use Rattle.std.proofs.Common.{◌≡◌, ◌≤◌, ◌<◌, ℕ, zero, suc, true, List, length, refl, Some, None, arith}
use Rattle.std.specs.Prelude.{codes}
use Rattle.c_tree.specs.declared.tree.Unit.{Unit as Base}
use Rattle.c_tree.specs.declared.tree.Member.{Member}
use Rattle.c_tree.specs.Plain.{Expr, Stmt, Stmts}
use Rattle.c_token.specs.declared.token.Token.{Token}
use Rattle.c_token.specs.declared.token.TokenKind.TheVariants as kind
use Rattle.c_grammar.specs.Parts.{Part, Row, Next}
use Rattle.c_grammar.specs.Types.{IsDeclarator}
use Rattle.c_grammar.specs.Types as types
use Rattle.c_grammar.specs.Exprs.{expr_line}
use Rattle.c_grammar.specs.Stmts.{Local, SomeLocals, Locals, Enclosed}
use Rattle.c_grammar.specs.Stmts as grammar
use Rattle.c_grammar.specs.Reading.{after_mark}
use Rattle.c_grammar.specs.ReadStmts.{read_declarator, read_local, some_locals, read_locals, read_enclosed}
use Rattle.c_grammar.proofs.Fronts.{next_mark, next_name}
use Rattle.c_grammar.proofs.Shorter.{next_shorter, star_shorter, base_shorter, line_shorter}
use Rattle.c_grammar.proofs.TypeComplete.{ends_consts, name_ends_consts, star_ends_consts, base_complete, star_complete}
use Rattle.c_grammar.proofs.LineComplete.{rank, next_rank}
use Rattle.c_grammar.proofs.StageComplete.{stage_complete}

pub declarator_complete : (b : Base) (ts us : List Token) (m : Member) → IsDeclarator b ts m us → read_declarator b ts ≡ Some (record { member = m; rest = us })
declarator_complete b ts us m (types.IsDeclarator.plain n vs x k is type) = rw (is, type) refl
declarator_complete b ts us m (types.IsDeclarator.starred vs ws xs n x k at stars next type) =
    rw (star_complete vs ws at stars (name_ends_consts x ws xs n next), next_name x ws xs n next, type) refl

pub declarator_shorter : (b : Base) (ts us : List Token) (m : Member) → IsDeclarator b ts m us → length us < length ts
declarator_shorter b ts us m (types.IsDeclarator.plain n vs x k is type) = omega arith
declarator_shorter b ts us m (types.IsDeclarator.starred vs ws xs n x k at stars next type) =
    let a = star_shorter vs ws at stars in let c = next_shorter _ ws xs n next in omega arith

pub declarator_ends_consts : (b : Base) (ts us : List Token) (m : Member) → IsDeclarator b ts m us → ends_consts ts ≡ true
declarator_ends_consts b ts us m (types.IsDeclarator.plain n vs x k is type) = rw is refl
declarator_ends_consts b ts us m (types.IsDeclarator.starred vs ws xs n x k at stars next type) = star_ends_consts vs ws at stars

pub local_shorter : (b : Base) (ts : List Token) (p : Part Stmt) → Local b ts p → length p.rest < length ts
local_shorter b ts p (grammar.Local.plain us vs m dec) = declarator_shorter b us vs m dec
local_shorter b ts p (grammar.Local.initialised us vs ws t m q dec x from) =
    let a = declarator_shorter b us vs m dec in let c = next_shorter _ vs ws t x in let e = line_shorter _ ws q from in omega arith

local_ends_consts : (b : Base) (ts : List Token) (p : Part Stmt) → Local b ts p → ends_consts ts ≡ true
local_ends_consts b ts p (grammar.Local.plain us vs m dec) = declarator_ends_consts b us vs m dec
local_ends_consts b ts p (grammar.Local.initialised us vs ws t m q dec x from) = declarator_ends_consts b us vs m dec

some_ends_consts : (b : Base) (ts : List Token) (l : Row Stmts) → SomeLocals b ts l → ends_consts ts ≡ true
some_ends_consts b ts l (grammar.SomeLocals.last us p from) = local_ends_consts b us p from
some_ends_consts b ts l (grammar.SomeLocals.more us vs c p m from x rest) = local_ends_consts b us p from

pub local_complete : (limit : ℕ) (b : Base) (ts : List Token) (p : Part Stmt) → Local b ts p → p.depth ≤ limit → 7 < rank p.rest → after_mark (codes "=") p.rest ≡ None
    → read_local limit b ts ≡ Some p
local_complete zero b ts p (grammar.Local.plain us vs m dec) low free none = absurd (omega arith)
local_complete zero b ts p (grammar.Local.initialised us vs ws t m q dec x from) low free none = absurd (omega arith)
local_complete (suc d) b ts p (grammar.Local.plain us vs m dec) low free none = rw (declarator_complete b us vs m dec, none) refl
local_complete (suc d) b ts p (grammar.Local.initialised us vs ws t m q dec x from) low free none =
    let read = (stage_complete d).line expr_line ws q from (omega arith) (omega arith) (omega arith) in
    rw (declarator_complete b us vs m dec, next_mark _ vs ws t x, read) refl

semicolon_no : (ts us : List Token) (t : Token) → Next (kind.Mark (codes ";")) ts t us → (after_mark (codes "=") ts ≡ None) × (after_mark (codes ",") ts ≡ None)
semicolon_no ts us t n = (rw (n.0, n.1) refl, rw (n.0, n.1) refl)

comma_no : (ts us : List Token) (t : Token) → Next (kind.Mark (codes ",")) ts t us → after_mark (codes "=") ts ≡ None
comma_no ts us t n = rw (n.0, n.1) refl

pub some_locals_complete : (n d : ℕ) (b : Base) (ts us : List Token) (l : Row Stmts) (end : Token) → SomeLocals b ts l → l.depth ≤ d
    → Next (kind.Mark (codes ";")) l.rest end us → length ts ≤ n → some_locals n d b ts ≡ Some l
some_locals_complete zero d b ts us l end (grammar.SomeLocals.last vs p from) low e fuel = let s = local_shorter b vs p from in absurd (omega arith)
some_locals_complete zero d b ts us l end (grammar.SomeLocals.more vs ws c p m from x rest) low e fuel = let s = local_shorter b vs p from in absurd (omega arith)
some_locals_complete (suc n) d b ts us l end (grammar.SomeLocals.last vs p from) low e fuel =
    let rk = next_rank _ p.rest us end e in
    let no' = semicolon_no p.rest us end e in
    let one = local_complete d b vs p from low (omega arith) no'.0 in
    rw (one, no'.1) refl
some_locals_complete (suc n) d b ts us l end (grammar.SomeLocals.more vs ws c p m from x rest) low e fuel =
    let rk = next_rank _ p.rest ws c x in
    let one = local_complete d b vs p from (omega arith) (omega arith) (comma_no p.rest ws c x) in
    let s = local_shorter b vs p from in
    let s' = next_shorter _ p.rest ws c x in
    let others = some_locals_complete n d b ws us m end rest (omega arith) e (omega arith) in
    rw (one, next_mark _ p.rest ws c x, others) refl

pub locals_complete : (d : ℕ) (ts us : List Token) (l : Row Stmts) (end : Token) → Locals ts l → l.depth ≤ d → Next (kind.Mark (codes ";")) l.rest end us
    → read_locals d ts ≡ Some l
locals_complete d ts us l end (grammar.Locals.locals vs b m base some) low e =
    rw (base_complete vs b base (some_ends_consts b.tree b.rest m some), some_locals_complete (length b.rest) d b.tree b.rest us m end some low e (omega arith)) refl

some_shorter : (b : Base) (ts : List Token) (l : Row Stmts) → SomeLocals b ts l → length l.rest < length ts
some_shorter b ts l (grammar.SomeLocals.last us p from) = local_shorter b us p from
some_shorter b ts l (grammar.SomeLocals.more us vs c p m from x rest) =
    let a = local_shorter b us p from in let e = next_shorter _ p.rest vs c x in let f = some_shorter b vs m rest in omega arith

pub locals_shorter : (ts : List Token) (l : Row Stmts) → Locals ts l → length l.rest < length ts
locals_shorter ts l (grammar.Locals.locals us b m base some) = let a = base_shorter us b base in let c = some_shorter b.tree b.rest m some in omega arith

pub enclosed_complete : (limit : ℕ) (ts : List Token) (p : Part Expr) → Enclosed ts p → p.depth ≤ limit → read_enclosed limit ts ≡ Some p
enclosed_complete zero ts p (grammar.enclosed us vs ws o c q x y z) low = absurd (omega arith)
enclosed_complete (suc d) ts p (grammar.enclosed us vs ws o c q x y z) low =
    let rk = next_rank _ q.rest ws c z in
    let read = (stage_complete d).line expr_line vs q y (omega arith) (omega arith) (omega arith) in
    rw (next_mark _ us vs o x, read, next_mark _ q.rest ws c z) refl

pub enclosed_shorter : (ts : List Token) (p : Part Expr) → Enclosed ts p → length p.rest < length ts
enclosed_shorter ts p (grammar.enclosed us vs ws o c q x y z) =
    let a = next_shorter _ us vs o x in let b = line_shorter _ vs q y in let d = next_shorter _ q.rest ws c z in omega arith
