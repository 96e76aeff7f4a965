-- What is spelled as a size or an allocation is read, where what is less deep is.
use Rattle.std.proofs.Common.{◌≡◌, ◌≤◌, ℕ, zero, suc, true, false, List, [], ◌∷◌, refl, sym, ap, subst, ◌∙◌, Option, Some, None, arith}
use Rattle.std.specs.Prelude.{option_and_then, codes, nat_le, pos}
use Rattle.c_tree.specs.declared.tree.BinaryOp.TheVariants as op
use Rattle.c_tree.specs.declared.tree.Unit.{Unit as Measured}
use Rattle.c_tree.specs.Plain.{Expr}
use Rattle.c_token.specs.declared.token.Token.{Token}
use Rattle.c_token.specs.declared.token.TokenKind.TheVariants as kind
use Rattle.c_grammar.specs.Parts.{Part, Row, Next}
use Rattle.c_grammar.specs.Exprs.{IsUnit, Line, Allocation, Size, Request, operation, expr_line, product_line}
use Rattle.c_grammar.specs.Exprs as grammar
use Rattle.c_grammar.specs.Reading.{is_mark, after_mark}
use Rattle.c_grammar.specs.ReadExprs.{Reader, Stage, Found, find, find_counted, operand_after, operations, read_unary, read_line, rise, read_counted, size_by, after_one, read_allocation}
use Rattle.c_grammar.proofs.Fronts.{binding, by_bool, by_option, is_mark_true, next_mark}
use Rattle.c_grammar.proofs.Begins.{begins, starts_expr, line_begins}
use Rattle.c_grammar.proofs.TypeComplete.{unit_begins, unit_complete}
use Rattle.c_grammar.proofs.LineComplete.{next_rank, find_some, operations_done}
use Rattle.c_grammar.proofs.UnitSound.{IsSoundAt}
use Rattle.c_grammar.proofs.PrimarySound.{IsSound}
use Rattle.c_grammar.proofs.PrimaryComplete.{IsComplete}
use Rattle.c_grammar.proofs.LinesComplete.{counted_some, no_sizeof, line_complete, counted_goes}

only_one : {A : Type 0} (o : Option A) → o ≡ option_and_then (λ x. Some x) o
only_one None = refl
only_one (Some x) = refl

in_turn : {A B C : Type 0} (o : Option A) (f : A → Option B) (g : B → Option C)
    → option_and_then g (option_and_then f o) ≡ option_and_then (λ x. option_and_then g (f x)) o
in_turn None f g = refl
in_turn (Some x) f g = refl

-- the lines above a product are what follows it
pub rise_splits : (d : ℕ) (s : Stage) (j : ℕ) (ts : List Token) → read_line s d (suc j) ts ≡ option_and_then (rise s d j) (read_line s d 1 ts)
rise_splits d s zero ts = only_one (read_line s d 1 ts)
rise_splits d s (suc j) ts =
    ap (option_and_then (operations (suc d) (find (suc (suc j))) (s.line (suc j)) d)) (rise_splits d s j ts)
    ∙ in_turn (read_line s d 1 ts) (rise s d j) (operations (suc d) (find (suc (suc j))) (s.line (suc j)) d)

counted_none : (ts : List Token) → find product_line ts ≡ None → find_counted ts ≡ None
counted_none ts none = rw none refl

star_none : (ts : List Token) → find product_line ts ≡ None → after_mark (codes "*") ts ≡ None
star_none [] none = refl
star_none (t ∷ ts) none = by_bool (is_mark (codes "*") t.kind)
    (λ yes'. let same = is_mark_true (codes "*") t.kind yes' in
    let found = find_some product_line t op.Mul (t ∷ ts) ts refl (rw same refl) in
    let wrong : None ≡ Some (record { op = op.Mul; rest = ts }) = sym none ∙ found in cc)
    (λ no'. rw no' refl)

-- where a product is read with an operand after each operator, no unit comes, and none is left
pub record Agrees (n : ℕ) (read : Reader) (d : ℕ) (l q : Part Expr) : Type 0 where
  pub counted : operations n find_counted read d l ≡ Some q
  pub ended : find product_line q.rest ≡ None

module _ (d : ℕ) (read : Reader) (sound : IsSoundAt 0 d read) where
  operand_begins : (l q : Part Expr) (f : Found) → operand_after read d l f ≡ Some q → begins starts_expr f.rest ≡ true
  operand_begins l q f e = by_bool (nat_le l.depth d)
      (λ yes'. binding (read f.rest) (λ r. Some (operation f.op l r)) q (rw yes' at e) (λ r one made. line_begins 0 f.rest r (sound f.rest r one).0))
      (λ no'. let wrong : None ≡ Some q = rw no' at e in cc)

  pub counted_agrees : (n : ℕ) (l q : Part Expr) → operations n (find product_line) read d l ≡ Some q → Agrees n read d l q
  counted_agrees zero l q e = by_option (find product_line l.rest)
      (λ f is. binding (operand_after read d l f) (λ p. None) q (rw is at e) (λ p one wrong. let never : None ≡ Some q = wrong in cc))
      (λ none. let same : l ≡ q = let s : Some l ≡ Some q = rw none at e in cc in
      subst (Agrees 0 read d l) same (record { counted = rw none refl; ended = none }))
  counted_agrees (suc n) l q e = by_option (find product_line l.rest)
      (λ f is. binding (operand_after read d l f) (operations n (find product_line) read d) q (rw is at e) (λ p one more.
      let again = counted_agrees n p q more in
      let found = counted_some l.rest f.rest f is (operand_begins l p f one) in
      record { counted = rw (found, one) again.counted; ended = again.ended }))
      (λ none. let same : l ≡ q = let s : Some l ≡ Some q = rw none at e in cc in
      subst (Agrees (suc n) read d l) same (record { counted = rw none refl; ended = none }))

-- a product before `* sizeof`
before_sizeof : (ts us : List Token) (t : Token) (u : Row Measured) → Next (kind.Mark (codes "*")) ts t us → IsUnit us u → find_counted ts ≡ None
before_sizeof ts us t u n unit = let yes' = unit_begins us u unit in rw (n.0, n.1, yes') refl

unit_no_one : (ts : List Token) (u : Row Measured) → IsUnit ts u → after_one ts ≡ None
unit_no_one ts u (grammar.type t o c us vs ws b is x from y) = rw is refl
unit_no_one ts u (grammar.behind t s n us vs ws x is a b) = rw is refl
unit_no_one ts u (grammar.behind_enclosed t o s n c us vs ws xs ys x is a b e f) = rw is refl

pub closing_no_star : (ts us : List Token) (t : Token) → Next (kind.Mark (codes ")")) ts t us → after_mark (codes "*") ts ≡ None
closing_no_star ts us t n = rw (n.0, n.1) refl

module _ (d : ℕ) (s : Stage) (complete : IsComplete d s) (sound : IsSound d s) where
  bytes_complete : (ts us : List Token) (p : Part Expr) (c : Token) → Line expr_line ts p → p.depth ≤ suc d → Next (kind.Mark (codes ")")) p.rest c us
      → size_by (read_line s d product_line) (read_counted s d) (rise s d 5) (suc d) ts ≡ Some (record { tree = grammar.request false None (Some p.tree); depth = p.depth; rest = p.rest })
  bytes_complete ts us p c from low end =
      let r = next_rank _ p.rest us c end in
      let whole = line_complete d s complete expr_line ts p from low (omega arith) (omega arith) in
      let split : option_and_then (rise s d 5) (read_line s d 1 ts) ≡ Some p = sym (rise_splits d s 5 ts) ∙ whole in
      binding (read_line s d 1 ts) (rise s d 5) p split (λ q product risen.
      binding (read_unary s d ts) (operations (suc d) (find 1) (s.line 0) d) q product (λ l unary more.
      let a = counted_agrees d (s.line 0) (sound.line 0) (suc d) l q more in
      let first = no_sizeof ts (line_begins _ ts p from) in
      let star = star_none q.rest a.ended in
      rw (first, unary, a.counted, star, risen) refl))

  pub size_complete : (ts us : List Token) (r : Row Request) (c : Token) → Size ts r → r.depth ≤ suc d → Next (kind.Mark (codes ")")) r.rest c us
      → size_by (read_line s d product_line) (read_counted s d) (rise s d 5) (suc d) ts ≡ Some r
  size_complete ts us r c (grammar.Size.unit vs u from) low end =
      let first = unit_begins vs u from in
      let read = unit_complete (suc d) vs u from low in
      let star = closing_no_star u.rest us c end in
      rw (first, read, star) refl
  size_complete ts us r c (grammar.Size.count_unit vs ws t p u x y z) low end =
      let rk = next_rank _ p.rest ws t y in
      let first = no_sizeof vs (line_begins _ vs p x) in
      let g = counted_goes d s complete vs p x (omega arith) (omega arith) in
      let product = g.2 ∙ operations_done g.0 find_counted (s.line 0) d p (before_sizeof p.rest ws t u y z) in
      let read = unit_complete (suc d) ws u z (omega arith) in
      rw (first, product, next_mark _ p.rest ws t y, read) refl
  size_complete ts us r c (grammar.Size.unit_count vs ws t u p x y z) low end =
      let rk = next_rank _ p.rest us c end in
      let first = unit_begins vs u x in
      let read = unit_complete (suc d) vs u x (omega arith) in
      let product = line_complete d s complete product_line ws p z (omega arith) (omega arith) (omega arith) in
      rw (first, read, next_mark _ u.rest ws t y, product) refl
  size_complete ts us r c (grammar.Size.bytes vs p from) low end = bytes_complete vs us p c from low end

  pub allocation_complete : (ts : List Token) (a : Part Request) → Allocation ts a → a.depth ≤ suc d → read_allocation s d ts ≡ Some a
  allocation_complete ts a (grammar.malloc t o c us vs ws r is x y z) low =
      let read = complete.size vs ws r c y (omega arith) z in
      rw (is, next_mark _ us vs o x, read, next_mark _ r.rest ws c z) refl
  allocation_complete ts a (grammar.calloc t o m c us vs ws xs p u is x y z v w) low =
      let rk = next_rank _ p.rest ws m z in
      let read = complete.line expr_line vs p y (omega arith) (omega arith) (omega arith) in
      let none = unit_no_one ws u v in
      let unit = unit_complete d ws u v (omega arith) in
      rw (is, next_mark _ us vs o x, read, next_mark _ p.rest ws m z, none, unit, next_mark _ u.rest xs c w) refl
  allocation_complete ts a (grammar.calloc_bytes t o m n c us vs ws xs ys p is x y z v w) low =
      let rk = next_rank _ p.rest ws m z in
      let read = complete.line expr_line vs p y (omega arith) (omega arith) (omega arith) in
      rw (is, next_mark _ us vs o x, read, next_mark _ p.rest ws m z, one ws xs n v, next_mark _ xs ys c w) refl
    where
      one : (es fs : List Token) (e : Token) → Next (kind.Num (pos 1)) es e fs → after_one es ≡ Some (record { token = e; rest = fs })
      one es fs e n = rw (n.0, n.1) refl
