-- What is read of operands and of the steps of a postfix is spelled so.
use Rattle.std.proofs.Common.{◌≡◌, ◌≤◌, ℕ, zero, suc, List, [], ◌∷◌, refl, ap, subst, Option, Some, None, arith}
use Rattle.std.specs.Prelude.{codes, nat_le, ◌==◌}
use Rattle.std.proofs.lemmas.Bool.{leb-true, eqb-true}
use Rattle.c_tree.specs.Plain.{Expr}
use Rattle.c_token.specs.declared.token.Token.{Token}
use Rattle.c_token.specs.declared.token.TokenKind.TheVariants as kind
use Rattle.c_grammar.specs.Parts.{Part, Next}
use Rattle.c_grammar.specs.Exprs.{Line, Postfix, Operator, operator, operation, arrowed, indexed, expr_line, product_line}
use Rattle.c_grammar.specs.Exprs as grammar
use Rattle.c_grammar.specs.Reading.{Front, after_mark, after_name}
use Rattle.c_grammar.specs.ReadExprs.{Reader, Found, find, Finder, find_counted, begins_sizeof, operand_after, operations_at, operations, step_closed, Way, by_arrow, by_index, no_way, way, step_by, steps_at, steps}
use Rattle.c_grammar.proofs.Fronts.{binding, by_bool, by_option, given, mark_next, name_next}
use Rattle.c_grammar.proofs.UnitSound.{IsSoundAt}

-- the operator of this line at the front
pub record IsFound (k : ℕ) (ts : List Token) (f : Found) : Type 0 where
  pub token : Token
  pub split : ts ≡ token ∷ f.rest
  pub is_operator : operator token.kind ≡ Some (record { line = k; op = f.op })

abbrev pub IsFinder : ℕ → Finder → Type 0
IsFinder k found = (ts : List Token) (f : Found) → found ts ≡ Some f → IsFound k ts f

pub find_sound : (k : ℕ) → IsFinder k (find k)
find_sound k [] f e = cc
find_sound k (t ∷ ts) f e = by_option (operator t.kind)
    (λ o is. let r = rw is at e in by_bool (o.line == k)
    (λ same. let line : o.line ≡ k = eqb-true o.line k same in given (IsFound k (t ∷ ts)) (record { op = o.op; rest = ts }) f (rw same at r) (record {
      token = t;
      split = refl;
      is_operator = rw is (ap (λ (j : ℕ). Some (record { line = j; op = o.op })) line);
    }))
    (λ other. let never : None ≡ Some f = rw other at r in cc))
    (λ none. let never : None ≡ Some f = rw none at e in cc)

pub find_counted_sound : IsFinder product_line find_counted
find_counted_sound ts f e = by_option (find product_line ts)
    (λ g is. let r = rw is at e in by_bool (begins_sizeof g.rest)
    (λ yes'. let never : None ≡ Some f = rw yes' at r in cc)
    (λ no'. given (IsFound product_line ts) g f (rw no' at r) (find_sound product_line ts g is)))
    (λ none. let never : None ≡ Some f = rw none at e in cc)

abbrev Fits : ℕ → ℕ → List Token → Part Expr → Type 0
Fits k d ts p = Line k ts p × (p.depth ≤ d)

module _ (k d : ℕ) (found : Finder) (is_finder : IsFinder (suc k) found) (read : Reader) (sound : IsSoundAt k d read) where
  operand_sound : (ts : List Token) (l p : Part Expr) (f : Found) → Line (suc k) ts l → IsFound (suc k) l.rest f
      → operand_after read d l f ≡ Some p → Fits (suc k) (suc d) ts p
  operand_sound ts l p f line is e = by_bool (nat_le l.depth d)
      (λ test. let low : l.depth ≤ d = leb-true l.depth d test in
      binding (read f.rest) (λ r. Some (operation f.op l r)) p (rw test at e) (λ r one made.
      let s = sound f.rest r one in
      let low_r = s.1 in
      given (Fits (suc k) (suc d) ts) (operation f.op l r) p made
      (grammar.operation_of k ts f.rest is.token f.op l r line is.split is.is_operator s.0, omega arith)))
      (λ test. let never : None ≡ Some p = rw test at e in cc)

  operations_at_sound : (next : Part Expr → Option (Part Expr)) (ts : List Token) (l q : Part Expr)
      → ((p : Part Expr) → Fits (suc k) (suc d) ts p → next p ≡ Some q → Fits (suc k) (suc d) ts q)
      → Fits (suc k) (suc d) ts l → operations_at next read d l (found l.rest) ≡ Some q → Fits (suc k) (suc d) ts q
  operations_at_sound next ts l q again left e = by_option (found l.rest)
      (λ f is. binding (operand_after read d l f) next q (rw is at e) (λ p one rest.
      again p (operand_sound ts l p f left.0 (is_finder l.rest f is) one) rest))
      (λ none. given (Fits (suc k) (suc d) ts) l q (rw none at e) left)

  pub operations_sound : (n : ℕ) (ts : List Token) (l q : Part Expr) → Fits (suc k) (suc d) ts l → operations n found read d l ≡ Some q → Fits (suc k) (suc d) ts q
  operations_sound zero ts l q left e = operations_at_sound (λ p. None) ts l q (λ p fits never. cc) left e
  operations_sound (suc n) ts l q left e = operations_at_sound (operations n found read d) ts l q (λ p fits more. operations_sound n ts p q fits more) left e

-- what the steps keep of the part that they go on
module _ (d : ℕ) (read : Reader) (P : Part Expr → Type 0)
    (arrow_keeps : (p : Part Expr) (t n : Token) (us vs : List Token) (f : List ℕ) → P p → p.depth ≤ d → Next (kind.Mark (codes "->")) p.rest t us
    → Next (kind.Name f) us n vs → P (arrowed p n f vs))
    (index_keeps : (p i : Part Expr) (t c : Token) (us vs : List Token) → P p → p.depth ≤ d → Next (kind.Mark (codes "[")) p.rest t us
    → read us ≡ Some i → Next (kind.Mark (codes "]")) i.rest c vs → P (indexed p i c vs)) where
  step_keeps : (p q : Part Expr) → P p → (w : Way) → way p.rest ≡ w → step_by read d p w ≡ Some q → P q
  step_keeps p q holds no_way is e = cc
  step_keeps p q holds (by_arrow f) is e = by_bool (nat_le p.depth d)
      (λ test. let low : p.depth ≤ d = leb-true p.depth d test in
      binding (after_name f.rest) (λ n. Some (arrowed p n.token n.name n.rest)) q (rw test at e) (λ n named made.
      given P (arrowed p n.token n.name n.rest) q made (arrow_keeps p f.token n.token f.rest n.rest n.name holds low (ways is) (name_next f.rest n named))))
      (λ test. let never : None ≡ Some q = rw test at e in cc)
    where
      ways : way p.rest ≡ by_arrow f → Next (kind.Mark (codes "->")) p.rest f.token f.rest
      ways same = by_option (after_mark (codes "->") p.rest)
          (λ g arrow. let this : by_arrow g ≡ by_arrow f = rw arrow at same in let s : g ≡ f = cc in subst (λ (h : Front). Next (kind.Mark (codes "->")) p.rest h.token h.rest) s (mark_next (codes "->") p.rest g arrow))
          (λ none. let this = rw none at same in by_option (after_mark (codes "[") p.rest)
          (λ g bracket. let never : by_index g ≡ by_arrow f = rw bracket at this in cc)
          (λ none'. let never : no_way ≡ by_arrow f = rw none' at this in cc))
  step_keeps p q holds (by_index f) is e = by_bool (nat_le p.depth d)
      (λ test. let low : p.depth ≤ d = leb-true p.depth d test in
      binding (read f.rest) (step_closed p) q (rw test at e) (λ i one closed.
      binding (after_mark (codes "]") i.rest) (λ c. Some (indexed p i c.token c.rest)) q closed (λ c end made.
      given P (indexed p i c.token c.rest) q made (index_keeps p i f.token c.token f.rest c.rest holds low (ways is) one (mark_next (codes "]") i.rest c end)))))
      (λ test. let never : None ≡ Some q = rw test at e in cc)
    where
      ways : way p.rest ≡ by_index f → Next (kind.Mark (codes "[")) p.rest f.token f.rest
      ways same = by_option (after_mark (codes "->") p.rest)
          (λ g arrow. let never : by_arrow g ≡ by_index f = rw arrow at same in cc)
          (λ none. let this = rw none at same in by_option (after_mark (codes "[") p.rest)
          (λ g bracket. let that : by_index g ≡ by_index f = rw bracket at this in let s : g ≡ f = cc in subst (λ (h : Front). Next (kind.Mark (codes "[")) p.rest h.token h.rest) s (mark_next (codes "[") p.rest g bracket))
          (λ none'. let never : no_way ≡ by_index f = rw none' at this in cc))

  steps_at_keep : (next : Part Expr → Option (Part Expr)) (p q : Part Expr) → ((r : Part Expr) → P r → next r ≡ Some q → P q)
      → P p → (w : Way) → way p.rest ≡ w → steps_at next read d p w ≡ Some q → P q
  steps_at_keep next p q again holds no_way is e = given P p q e holds
  steps_at_keep next p q again holds (by_arrow f) is e = binding (step_by read d p (by_arrow f)) next q e (λ r one rest.
      again r (step_keeps p r holds (by_arrow f) is one) rest)
  steps_at_keep next p q again holds (by_index f) is e = binding (step_by read d p (by_index f)) next q e (λ r one rest.
      again r (step_keeps p r holds (by_index f) is one) rest)

  pub steps_keep : (n : ℕ) (p q : Part Expr) → P p → steps n read d p ≡ Some q → P q
  steps_keep zero p q holds e = steps_at_keep (λ r. None) p q (λ r more never. cc) holds (way p.rest) refl e
  steps_keep (suc n) p q holds e = steps_at_keep (steps n read d) p q (λ r more rest. steps_keep n r q more rest) holds (way p.rest) refl e

abbrev pub FitsPostfix : ℕ → List Token → Part Expr → Type 0
FitsPostfix d ts p = Postfix ts p × (p.depth ≤ d)

module _ (d : ℕ) (read : Reader) (sound : IsSoundAt expr_line d read) (ts : List Token) where
  pub arrow_fits : (p : Part Expr) (t n : Token) (us vs : List Token) (f : List ℕ) → FitsPostfix (suc d) ts p → p.depth ≤ d → Next (kind.Mark (codes "->")) p.rest t us
      → Next (kind.Name f) us n vs → FitsPostfix (suc d) ts (arrowed p n f vs)
  arrow_fits p t n us vs f fits low x y = (grammar.Postfix.arrow ts us vs t n f p fits.0 x y, omega arith)

  pub index_fits : (p i : Part Expr) (t c : Token) (us vs : List Token) → FitsPostfix (suc d) ts p → p.depth ≤ d → Next (kind.Mark (codes "[")) p.rest t us
      → read us ≡ Some i → Next (kind.Mark (codes "]")) i.rest c vs → FitsPostfix (suc d) ts (indexed p i c vs)
  index_fits p i t c us vs fits low x one y = let s = sound us i one in let low_i = s.1 in
      (grammar.Postfix.index ts us vs t c p i fits.0 x s.0 y, omega arith)

  pub steps_sound : (n : ℕ) (p q : Part Expr) → FitsPostfix (suc d) ts p → steps n read d p ≡ Some q → FitsPostfix (suc d) ts q
  steps_sound n p q fits e = steps_keep d read (FitsPostfix (suc d) ts) arrow_fits index_fits n p q fits e
