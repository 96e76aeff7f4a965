-- What is spelled as a line is read, where what is less deep is.
use Rattle.std.proofs.Common.{◌≡◌, ◌≤◌, ◌<◌, ◌+◌, ℕ, zero, suc, true, false, List, [], ◌∷◌, refl, ◌∙◌, Some, arith}
use Rattle.std.specs.Prelude.{codes}
use Rattle.c_tree.specs.Plain.{Expr}
use Rattle.c_token.specs.declared.token.Token.{Token}
use Rattle.c_grammar.specs.Parts.{Part}
use Rattle.c_grammar.specs.Exprs.{Line, Unary, expr_line, product_line}
use Rattle.c_grammar.specs.Exprs as grammar
use Rattle.c_grammar.specs.ReadExprs.{Stage, find, Found, find_counted, begins_sizeof, operations, read_unary, read_line, read_counted}
use Rattle.c_grammar.proofs.Begins.{begins, starts_expr, no_word, line_begins}
use Rattle.c_grammar.proofs.LineComplete.{rank, operator_rank, find_none, find_some, operations_done, operations_go}
use Rattle.c_grammar.proofs.PrimaryComplete.{IsComplete, unary_complete}

-- a line whose further operands are read from here
pub record LineGoes (d : ℕ) (s : Stage) (k : ℕ) (ts : List Token) (p : Part Expr) : Type 0 where
  pub fuel : ℕ
  pub enough : suc d ≤ fuel + p.depth
  pub reads : read_line s d (suc k) ts ≡ operations fuel (find (suc k)) (s.line k) d p

-- a unary is read whole
abbrev pub Goes : ℕ → Stage → ℕ → List Token → Part Expr → Type 0
Goes d s zero ts p = read_unary s d ts ≡ Some p
Goes d s (suc k) ts p = LineGoes d s k ts p

pub goes_whole : (d : ℕ) (s : Stage) (k : ℕ) (ts : List Token) (p : Part Expr) → Goes d s k ts p → suc k < rank p.rest → read_line s d k ts ≡ Some p
goes_whole d s zero ts p goes free = goes
goes_whole d s (suc k) ts p goes free = goes.reads ∙ operations_done goes.fuel (find (suc k)) (s.line k) d p (find_none (suc k) p.rest free)

pub no_sizeof : (ts : List Token) → begins starts_expr ts ≡ true → begins_sizeof ts ≡ false
no_sizeof [] is = refl
no_sizeof (t ∷ ts) is = no_word starts_expr (codes "sizeof") t.kind refl is

-- an operand follows, and no unit
pub counted_some : (ts us : List Token) (f : Found) → find product_line ts ≡ Some f → begins starts_expr f.rest ≡ true → find_counted ts ≡ Some f
counted_some ts us f is first = let no' = no_sizeof f.rest first in rw (is, no') refl

module _ (d : ℕ) (s : Stage) (complete : IsComplete d s) where
  pub line_goes : (k : ℕ) (ts : List Token) (p : Part Expr) → Line k ts p → p.depth ≤ suc d → 1 < rank p.rest → k < rank p.rest → Goes d s k ts p
  line_goes k ts p (grammar.operand j us q from) low free less =
      let g = line_goes j us q from low free (omega arith) in
      let read = goes_whole d s j us q g less in
      record { fuel = suc d; enough = omega arith; reads = rw read refl }
  line_goes k ts p (grammar.operation_of j us vs t o l r left split is right) low free less =
      let rk : rank l.rest ≡ suc (suc j) = rw split (operator_rank t.kind (record { line = suc j; op = o }) is) in
      let g = line_goes (suc j) us l left (omega arith) (omega arith) (omega arith) in
      let read = complete.line j vs r right (omega arith) free less in
      let h = operations_go g.fuel (find (suc j)) (s.line j) d l r (record { op = o; rest = vs }) g.enough (omega arith) (omega arith) (find_some (suc j) t o l.rest vs split is) read in
      record { fuel = h.0; enough = h.1; reads = g.reads ∙ h.2 }
  line_goes k ts p (grammar.unary us q from) low free less = unary_complete d s complete us q from low free

  pub line_complete : (k : ℕ) (ts : List Token) (p : Part Expr) → Line k ts p → p.depth ≤ suc d → 1 < rank p.rest → suc k < rank p.rest → read_line s d k ts ≡ Some p
  line_complete k ts p from low free less = goes_whole d s k ts p (line_goes k ts p from low free (omega arith)) less

  -- a product goes on up to a unit
  pub counted_goes : (ts : List Token) (p : Part Expr) → Line 1 ts p → p.depth ≤ suc d → 1 < rank p.rest
      → (n : ℕ) × (suc d ≤ n + p.depth) × (read_counted s d ts ≡ operations n find_counted (s.line 0) d p)
  counted_goes ts p (grammar.operand zero us q (grammar.unary vs r from)) low free =
      let read = unary_complete d s complete vs r from low free in
      (suc d, omega arith, rw read refl)
  counted_goes ts p (grammar.operation_of zero us vs t o l r left split is right) low free =
      let rk : rank l.rest ≡ 2 = rw split (operator_rank t.kind (record { line = 1; op = o }) is) in
      let g = counted_goes us l left (omega arith) (omega arith) in
      let read = complete.line 0 vs r right (omega arith) free free in
      let found = counted_some l.rest vs (record { op = o; rest = vs }) (find_some 1 t o l.rest vs split is) (line_begins 0 vs r right) in
      let h = operations_go g.0 find_counted (s.line 0) d l r (record { op = o; rest = vs }) g.1 (omega arith) (omega arith) found read in
      (h.0, h.1, g.2 ∙ h.2)
