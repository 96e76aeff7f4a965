-- What is spelled as an expression is read, where what is less deep is.
use Rattle.std.proofs.Common.{◌≡◌, ◌≤◌, ◌<◌, ◌+◌, ℕ, zero, suc, true, false, List, [], ◌∷◌, length, refl, ◌∙◌, Some, None, arith}
use Rattle.std.specs.Prelude.{option_and_then, codes}
use Rattle.c_tree.specs.Plain.{Expr, Exprs}
use Rattle.c_token.specs.declared.token.Token.{Token}
use Rattle.c_token.specs.declared.token.TokenKind.{TokenKind}
use Rattle.c_token.specs.declared.token.TokenKind.TheVariants as kind
use Rattle.c_grammar.specs.Parts.{Part, Row, Next}
use Rattle.c_grammar.specs.Exprs.{Args, SomeArgs, Line, Unary, Postfix, Primary, Call, New, Allocation, Size, Request, expr_line}
use Rattle.c_grammar.specs.Exprs as grammar
use Rattle.c_grammar.specs.Reading.{after_mark}
use Rattle.c_grammar.specs.ReadExprs.{Reader, Stage, some_args, read_args, begins_base, is_base_kind, plain_new, read_primary, steps, read_postfix, read_unary}
use Rattle.c_grammar.proofs.Fronts.{next_mark}
use Rattle.c_grammar.proofs.Begins.{begins, starts_primary, starts_expr, no_mark, no_word, no_mark_after, postfix_begins, line_begins}
use Rattle.c_grammar.proofs.Shorter.{next_shorter, line_shorter}
use Rattle.c_grammar.proofs.TypeComplete.{next_ends_consts, star_ends_consts, base_complete, star_complete, base_begins}
use Rattle.c_grammar.proofs.LineComplete.{rank, next_rank, mark_none, way_none, steps_done, arrow_goes, index_goes}

pub record IsComplete (d : ℕ) (s : Stage) : Type 0 where
  pub line : (k : ℕ) (ts : List Token) (p : Part Expr) → Line k ts p → p.depth ≤ d → 1 < rank p.rest → suc k < rank p.rest → s.line k ts ≡ Some p
  pub args : (ts us vs : List Token) (opening closing : Token) (a : Row Exprs) → Next (kind.Mark (codes "(")) ts opening us → Args us a
      → Next (kind.Mark (codes ")")) a.rest closing vs → suc a.depth ≤ d → s.args ts ≡ Some (record { row = a; closing = closing; rest = vs })
  pub size : (ts us : List Token) (r : Row Request) (closing : Token) → Size ts r → r.depth ≤ d → Next (kind.Mark (codes ")")) r.rest closing us → s.size ts ≡ Some r
  pub allocation : (ts : List Token) (a : Part Request) → Allocation ts a → a.depth ≤ d → s.allocation ts ≡ Some a

-- arguments up to their closing parenthesis
abbrev pub IsCompleteAt : ℕ → ℕ → Reader → Type 0
IsCompleteAt k d read = (ts : List Token) (p : Part Expr) → Line k ts p → p.depth ≤ d → 1 < rank p.rest → suc k < rank p.rest → read ts ≡ Some p

pub some_args_complete : (n d : ℕ) (read : Reader) → IsCompleteAt expr_line d read → (ts us : List Token) (a : Row Exprs) (closing : Token) → SomeArgs ts a
    → a.depth ≤ d → Next (kind.Mark (codes ")")) a.rest closing us → length ts ≤ n → some_args n read ts ≡ Some a
some_args_complete zero d read complete ts us a c (grammar.SomeArgs.last vs p from) low end fuel = let s = line_shorter _ vs p from in absurd (omega arith)
some_args_complete zero d read complete ts us a c (grammar.SomeArgs.more vs ws m p b from x rest) low end fuel = let s = line_shorter _ vs p from in absurd (omega arith)
some_args_complete (suc n) d read complete ts us a c (grammar.SomeArgs.last vs p from) low end fuel =
    let r = next_rank _ p.rest us c end in
    let one = complete vs p from low (omega arith) (omega arith) in
    let none = mark_none_at p.rest end in
    rw (one, none) refl
  where
    mark_none_at : (ws : List Token) → Next (kind.Mark (codes ")")) ws c us → after_mark (codes ",") ws ≡ None
    mark_none_at ws e = rw (e.0, e.1) refl
some_args_complete (suc n) d read complete ts us a c (grammar.SomeArgs.more vs ws m p b from x rest) low end fuel =
    let r = next_rank _ p.rest ws m x in
    let one = complete vs p from (omega arith) (omega arith) (omega arith) in
    let s = line_shorter _ vs p from in
    let s' = next_shorter _ p.rest ws m x in
    let others = some_args_complete n d read complete ws us b c rest (omega arith) end (omega arith) in
    rw (one, next_mark _ p.rest ws m x, others) refl

pub args_complete : (d : ℕ) (read : Reader) → IsCompleteAt expr_line d read → (ts us vs : List Token) (opening closing : Token) (a : Row Exprs)
    → Next (kind.Mark (codes "(")) ts opening us → Args us a → Next (kind.Mark (codes ")")) a.rest closing vs → a.depth ≤ d
    → read_args read ts ≡ Some (record { row = a; closing = closing; rest = vs })
args_complete d read complete ts us vs o c a first (grammar.Args.none ws) end low = rw (next_mark _ ts us o first, next_mark _ ws vs c end) refl
args_complete d read complete ts us vs o c a first (grammar.Args.some ws b from) end low =
    let none = no_mark_after starts_expr (codes ")") ws refl (begins_of ws b from) in
    let some = some_args_complete (length ws) d read complete ws vs b c from low end (omega arith) in
    rw (next_mark _ ts us o first, none, some, next_mark _ b.rest vs c end) refl
  where
    begins_of : (xs : List Token) (e : Row Exprs) → SomeArgs xs e → begins starts_expr xs ≡ true
    begins_of xs e (grammar.SomeArgs.last ys p f) = line_begins _ ys p f
    begins_of xs e (grammar.SomeArgs.more ys zs m p g f x r) = line_begins _ ys p f

-- an expression begins with no base
no_base_kind : (k : TokenKind) → starts_expr k ≡ true → is_base_kind k ≡ false
no_base_kind (kind.Word w) is =
    let a = no_word starts_expr (codes "const") (kind.Word w) refl is in
    let b = no_word starts_expr (codes "int") (kind.Word w) refl is in
    let c = no_word starts_expr (codes "char") (kind.Word w) refl is in
    let e = no_word starts_expr (codes "struct") (kind.Word w) refl is in
    rw (a, b, c, e) refl
no_base_kind _ is = refl

pub no_base : (ts : List Token) → begins starts_expr ts ≡ true → begins_base ts ≡ false
no_base [] is = refl
no_base (t ∷ ts) is = no_base_kind t.kind is

allocation_read : (s : Stage) (ts : List Token) (a : Part Request) → Allocation ts a → read_primary s ts ≡ option_and_then plain_new (s.allocation ts)
allocation_read s ts a (grammar.malloc t o c us vs ws r is x y z) = rw is refl
allocation_read s ts a (grammar.calloc t o m c us vs ws xs p u is x y z v w) = rw is refl
allocation_read s ts a (grammar.calloc_bytes t o m n c us vs ws xs ys p is x y z v w) = rw is refl

-- a primary with no step that begins with a mark that is no operator before its operand
unary_is_postfix : (s : Stage) (d : ℕ) (ts : List Token) → begins starts_primary ts ≡ true → read_unary s d ts ≡ read_postfix s d ts
unary_is_postfix s d [] is = cc
unary_is_postfix s d (t ∷ ts) is =
    let a = no_mark starts_primary (codes "!") t.kind refl is in
    let b = no_mark starts_primary (codes "-") t.kind refl is in
    rw (a, b) refl

module _ (d : ℕ) (s : Stage) (complete : IsComplete d s) where
  call_complete : (ts : List Token) (p : Part Expr) → Call ts p → p.depth ≤ suc d → read_primary s ts ≡ Some p
  call_complete ts p (grammar.call_of t o c f us vs ws a is x y z) low =
      let args = complete.args us vs ws o c a x y z (omega arith) in
      rw (is, next_mark _ us vs o x, args) refl

  new_complete : (ts : List Token) (p : Part Expr) → New ts p → p.depth ≤ suc d → read_primary s ts ≡ Some p
  new_complete ts p (grammar.New.plain us a from) low =
      let read = complete.allocation us a from (omega arith) in
      allocation_read s us a from ∙ rw read refl
  new_complete ts p (grammar.New.cast o c us vs ws b r k a is x y z v w) low =
      let read = complete.allocation ws a w (omega arith) in
      let base = base_complete us b x (star_ends_consts b.rest vs r y) in
      let star = star_complete b.rest vs r y (next_ends_consts _ vs ws c v) in
      rw (is, base_begins us b x, base, star, z, next_mark _ vs ws c v, read) refl

  pub primary_complete : (ts : List Token) (p : Part Expr) → Primary ts p → p.depth ≤ suc d → 0 < rank p.rest → read_primary s ts ≡ Some p
  primary_complete ts p (grammar.Primary.number t us z is) low free = rw is refl
  primary_complete ts p (grammar.Primary.char t us z is) low free = rw is refl
  primary_complete ts p (grammar.Primary.string t us z is) low free = rw is refl
  primary_complete ts p (grammar.Primary.null t us is) low free = rw is refl
  primary_complete ts p (grammar.Primary.name t us x is) low free =
      let none = mark_none (codes "(") 0 us (omega arith) free in rw (is, none) refl
  primary_complete ts p (grammar.Primary.call us q from) low free = call_complete us q from low
  primary_complete ts p (grammar.Primary.new us q from) low free = new_complete us q from low
  primary_complete ts p (grammar.Primary.enclosed o c us vs q is x y) low free =
      let r = next_rank _ q.rest vs c y in
      let read = complete.line expr_line us q x (omega arith) (omega arith) (omega arith) in
      let base = no_base us (line_begins _ us q x) in
      rw (is, base, read, next_mark _ q.rest vs c y) refl

  -- the further steps of a postfix are read from here
  pub postfix_goes : (ts : List Token) (p : Part Expr) → Postfix ts p → p.depth ≤ suc d → 0 < rank p.rest
      → (n : ℕ) × (suc d ≤ n + p.depth) × (read_postfix s d ts ≡ steps n (s.line expr_line) d p)
  postfix_goes ts p (grammar.Postfix.primary us q from) low free =
      let read = primary_complete us q from low free in
      (suc d, omega arith, rw read refl)
  postfix_goes ts p (grammar.Postfix.arrow us vs ws t n f q from x y) low free =
      let r = next_rank _ q.rest vs t x in
      let g = postfix_goes us q from (omega arith) (omega arith) in
      let h = arrow_goes g.0 (s.line expr_line) d q t n vs ws f g.1 (omega arith) x y in
      (h.0, h.1, g.2 ∙ h.2)
  postfix_goes ts p (grammar.Postfix.index us vs ws o c q i from x y z) low free =
      let r = next_rank _ q.rest vs o x in
      let r' = next_rank _ i.rest ws c z in
      let g = postfix_goes us q from (omega arith) (omega arith) in
      let read = complete.line expr_line vs i y (omega arith) (omega arith) (omega arith) in
      let h = index_goes g.0 (s.line expr_line) d q i o c vs ws g.1 (omega arith) (omega arith) x read z in
      (h.0, h.1, g.2 ∙ h.2)

  pub postfix_complete : (ts : List Token) (p : Part Expr) → Postfix ts p → p.depth ≤ suc d → 1 < rank p.rest → read_postfix s d ts ≡ Some p
  postfix_complete ts p from low free =
      let g = postfix_goes ts p from low (omega arith) in
      g.2 ∙ steps_done g.0 (s.line expr_line) d p (way_none p.rest free)

  pub unary_complete : (ts : List Token) (p : Part Expr) → Unary ts p → p.depth ≤ suc d → 1 < rank p.rest → read_unary s d ts ≡ Some p
  unary_complete ts p (grammar.Unary.not_of t us q is from) low free =
      let read = complete.line 0 us q (grammar.unary us q from) (omega arith) free free in rw (is, read) refl
  unary_complete ts p (grammar.Unary.neg t us q is from) low free =
      let read = complete.line 0 us q (grammar.unary us q from) (omega arith) free free in rw (is, read) refl
  unary_complete ts p (grammar.Unary.postfix us q from) low free =
      unary_is_postfix s d us (postfix_begins us q from) ∙ postfix_complete us q from low free
