-- What is read of a line, of a size and of an allocation is spelled so.
use Rattle.std.proofs.Common.{◌≡◌, ◌≤◌, ℕ, pos, zero, suc, true, List, [], ◌∷◌, refl, ap, Option, Some, None, arith}
use Rattle.std.specs.Prelude.{option_and_then, codes}
use Rattle.std.proofs.lemmas.Bool.{eqb-true}
use Rattle.c_tree.specs.Plain.{Expr}
use Rattle.c_token.specs.declared.token.Token.{Token}
use Rattle.c_token.specs.declared.token.TokenKind.{TokenKind}
use Rattle.c_token.specs.declared.token.TokenKind.TheVariants as kind
use Rattle.c_grammar.specs.Parts.{Part, Row, Next}
use Rattle.c_grammar.specs.Exprs.{Line, Allocation, Size, Request, request, expr_line, product_line}
use Rattle.c_grammar.specs.Exprs as grammar
use Rattle.c_grammar.specs.Reading.{is_word, Front, after_mark}
use Rattle.c_grammar.specs.ReadExprs.{Reader, Stage, find, find_counted, begins_sizeof, operations, read_unary, read_line, rise, size_bytes, size_counted, size_times, size_unit, size_product, size_by, read_counted, read_unit, malloc_closed, calloc_closed, bytes_closed, is_one, after_one, calloc_unit, calloc_comma, read_allocation}
use Rattle.c_grammar.proofs.Fronts.{binding, by_bool, by_option, given, is_word_true, mark_next}
use Rattle.c_grammar.proofs.UnitSound.{IsSoundAt, unit_sound}
use Rattle.c_grammar.proofs.LineSound.{find_sound, find_counted_sound, operations_sound}
use Rattle.c_grammar.proofs.PrimarySound.{IsSound, unary_sound}

abbrev pub FitsSize : ℕ → List Token → Row Request → Type 0
FitsSize d ts r = Size ts r × (r.depth ≤ d)

-- a size is read by readings that are sound
module _ (d : ℕ) (product counted : Reader) (rise : Part Expr → Option (Part Expr)) (sound : IsSoundAt product_line d product)
    (sound_counted : IsSoundAt product_line d counted)
    (sound_rise : (ts : List Token) (p q : Part Expr) → Line product_line ts p → p.depth ≤ d → rise p ≡ Some q → Line expr_line ts q × (q.depth ≤ d)) where
  size_unit_sound : (ts : List Token) (r : Row Request) → option_and_then (λ u. size_unit product u (after_mark (codes "*") u.rest)) (read_unit d ts) ≡ Some r → FitsSize d ts r
  size_unit_sound ts r e = binding (read_unit d ts) (λ u. size_unit product u (after_mark (codes "*") u.rest)) r e (λ u read rest.
      let f = unit_sound d ts u read in
      let low = f.1 in
      by_option (after_mark (codes "*") u.rest)
      (λ q star. binding (product q.rest) (size_times u) r (rw star at rest) (λ p one made.
      let g = sound q.rest p one in
      let low_p = g.1 in
      given (FitsSize d ts) _ r made (grammar.Size.unit_count ts q.rest q.token u p f.0 (mark_next (codes "*") u.rest q star) g.0, omega arith)))
      (λ none. given (FitsSize d ts) _ r (rw none at rest) (grammar.Size.unit ts u f.0, low)))

  size_product_sound : (ts : List Token) (r : Row Request) → option_and_then (λ p. size_product rise d p (after_mark (codes "*") p.rest)) (counted ts) ≡ Some r → FitsSize d ts r
  size_product_sound ts r e = binding (counted ts) (λ p. size_product rise d p (after_mark (codes "*") p.rest)) r e (λ p read rest.
      let f = sound_counted ts p read in
      let low = f.1 in
      by_option (after_mark (codes "*") p.rest)
      (λ q star. binding (read_unit d q.rest) (size_counted p) r (rw star at rest) (λ u one made.
      let g = unit_sound d q.rest u one in
      let low_u = g.1 in
      given (FitsSize d ts) _ r made (grammar.Size.count_unit ts q.rest q.token p u f.0 (mark_next (codes "*") p.rest q star) g.0, omega arith)))
      (λ none. binding (rise p) size_bytes r (rw none at rest) (λ q risen made.
      let g = sound_rise ts p q f.0 low risen in
      given (FitsSize d ts) _ r made (grammar.Size.bytes ts q g.0, g.1))))

  pub size_sound : (ts : List Token) (r : Row Request) → size_by product counted rise d ts ≡ Some r → FitsSize d ts r
  size_sound ts r e = by_bool (begins_sizeof ts)
      (λ yes'. size_unit_sound ts r (rw yes' at e))
      (λ no'. size_product_sound ts r (rw no' at e))

is_one_true : (k : TokenKind) → is_one k ≡ true → k ≡ kind.Num (pos 1)
is_one_true (kind.Num (pos n)) e = let one : n ≡ 1 = eqb-true n 1 e in ap (λ (m : ℕ). kind.Num (pos m)) one
is_one_true (kind.Num _) e = cc
is_one_true _ e = cc

one_next : (ts : List Token) (q : Front) → after_one ts ≡ Some q → Next (kind.Num (pos 1)) ts q.token q.rest
one_next [] q e = cc
one_next (t ∷ ts) q e = by_bool (is_one t.kind)
    (λ yes'. given (λ (f : Front). Next (kind.Num (pos 1)) (t ∷ ts) f.token f.rest) (record { token = t; rest = ts }) q (rw yes' at e) (refl, is_one_true t.kind yes'))
    (λ no'. let never : None ≡ Some q = rw no' at e in cc)

abbrev FitsAllocation : ℕ → List Token → Part Request → Type 0
FitsAllocation d ts a = Allocation ts a × (a.depth ≤ d)

module _ (d : ℕ) (s : Stage) (sound : IsSound d s) where
  pub line_sound : (k : ℕ) → IsSoundAt k (suc d) (read_line s d k)
  line_sound zero ts p e = unary_sound d s sound ts p e
  line_sound (suc k) ts p e = binding (read_line s d k ts) (operations (suc d) (find (suc k)) (s.line k) d) p e (λ l read more.
      let f = line_sound k ts l read in
      operations_sound k d (find (suc k)) (find_sound (suc k)) (s.line k) (sound.line k) (suc d) ts l p (grammar.operand k ts l f.0, f.1) more)

  pub counted_sound : IsSoundAt product_line (suc d) (read_counted s d)
  counted_sound ts p e = binding (read_unary s d ts) (operations (suc d) find_counted (s.line 0) d) p e (λ l read more.
      let f = unary_sound d s sound ts l read in
      operations_sound 0 d find_counted find_counted_sound (s.line 0) (sound.line 0) (suc d) ts l p (grammar.operand 0 ts l f.0, f.1) more)

  pub rise_sound : (j : ℕ) (ts : List Token) (p q : Part Expr) → Line product_line ts p → p.depth ≤ suc d → rise s d j p ≡ Some q
      → Line (suc j) ts q × (q.depth ≤ suc d)
  rise_sound zero ts p q line low e = given (λ (r : Part Expr). Line 1 ts r × (r.depth ≤ suc d)) p q e (line, low)
  rise_sound (suc j) ts p q line low e = binding (rise s d j p) (operations (suc d) (find (suc (suc j))) (s.line (suc j)) d) q e (λ l read more.
      let f = rise_sound j ts p l line low read in
      operations_sound (suc j) d (find (suc (suc j))) (find_sound (suc (suc j))) (s.line (suc j)) (sound.line (suc j)) (suc d) ts l q (grammar.operand (suc j) ts l f.0, f.1) more)

  malloc_sound : (t : Token) (ts : List Token) (a : Part Request) → t.kind ≡ kind.Word (codes "malloc")
      → option_and_then (λ q. option_and_then (malloc_closed t) (s.size q.rest)) (after_mark (codes "(") ts) ≡ Some a → FitsAllocation (suc d) (t ∷ ts) a
  malloc_sound t ts a is e = binding (after_mark (codes "(") ts) (λ q. option_and_then (malloc_closed t) (s.size q.rest)) a e (λ q opening rest.
      binding (s.size q.rest) (malloc_closed t) a rest (λ r read closed.
      binding (after_mark (codes ")") r.rest) _ a closed (λ c end made.
      let f = sound.size q.rest r read in
      let low = f.1 in
      given (FitsAllocation (suc d) (t ∷ ts)) _ a made
      (grammar.malloc t q.token c.token ts q.rest c.rest r is (mark_next (codes "(") ts q opening) f.0 (mark_next (codes ")") r.rest c end), omega arith))))

  bytes_sound : (t opening comma : Token) (ts us vs : List Token) (p : Part Expr) (one : Front) (a : Part Request) → t.kind ≡ kind.Word (codes "calloc")
      → Next (kind.Mark (codes "(")) ts opening us → Line expr_line us p → p.depth ≤ d → Next (kind.Mark (codes ",")) p.rest comma vs
      → after_one vs ≡ Some one → bytes_closed t p one ≡ Some a → FitsAllocation (suc d) (t ∷ ts) a
  bytes_sound t opening comma ts us vs p one a is first line low second is_one closed = binding (after_mark (codes ")") one.rest) _ a closed (λ c end made.
      given (FitsAllocation (suc d) (t ∷ ts)) _ a made
      (grammar.calloc_bytes t opening comma one.token c.token ts us vs one.rest c.rest p is first line second (one_next vs one is_one) (mark_next (codes ")") one.rest c end), omega arith))

  units_sound : (t opening comma : Token) (ts us vs : List Token) (p : Part Expr) (a : Part Request) → t.kind ≡ kind.Word (codes "calloc")
      → Next (kind.Mark (codes "(")) ts opening us → Line expr_line us p → p.depth ≤ d → Next (kind.Mark (codes ",")) p.rest comma vs
      → option_and_then (calloc_closed t p) (read_unit d vs) ≡ Some a → FitsAllocation (suc d) (t ∷ ts) a
  units_sound t opening comma ts us vs p a is first line low second e = binding (read_unit d vs) (calloc_closed t p) a e (λ u read closed.
      binding (after_mark (codes ")") u.rest) _ a closed (λ c end made.
      let f = unit_sound d vs u read in
      let low_u = f.1 in
      given (FitsAllocation (suc d) (t ∷ ts)) _ a made
      (grammar.calloc t opening comma c.token ts us vs c.rest p u is first line second f.0 (mark_next (codes ")") u.rest c end), omega arith)))

  calloc_sound : (t : Token) (ts : List Token) (a : Part Request) → t.kind ≡ kind.Word (codes "calloc")
      → option_and_then (λ q. option_and_then (calloc_comma d t) (s.line expr_line q.rest)) (after_mark (codes "(") ts) ≡ Some a → FitsAllocation (suc d) (t ∷ ts) a
  calloc_sound t ts a is e = binding (after_mark (codes "(") ts) (λ q. option_and_then (calloc_comma d t) (s.line expr_line q.rest)) a e (λ q opening rest.
      binding (s.line expr_line q.rest) (calloc_comma d t) a rest (λ p read more.
      binding (after_mark (codes ",") p.rest) (λ r. calloc_unit d t p r.rest (after_one r.rest)) a more (λ r comma last.
      let f = sound.line expr_line q.rest p read in
      by_option (after_one r.rest)
      (λ one is_one. bytes_sound t q.token r.token ts q.rest r.rest p one a is (mark_next (codes "(") ts q opening) f.0 f.1 (mark_next (codes ",") p.rest r comma) is_one (rw is_one at last))
      (λ none. units_sound t q.token r.token ts q.rest r.rest p a is (mark_next (codes "(") ts q opening) f.0 f.1 (mark_next (codes ",") p.rest r comma) (rw none at last)))))

  pub allocation_sound : (ts : List Token) (a : Part Request) → read_allocation s d ts ≡ Some a → FitsAllocation (suc d) ts a
  allocation_sound [] a e = cc
  allocation_sound (t ∷ ts) a e = by_bool (is_word (codes "malloc") t.kind)
      (λ yes'. malloc_sound t ts a (is_word_true (codes "malloc") t.kind yes') (rw yes' at e))
      (λ no'. let g = rw no' at e in by_bool (is_word (codes "calloc") t.kind)
      (λ yes'. calloc_sound t ts a (is_word_true (codes "calloc") t.kind yes') (rw yes' at g))
      (λ none. let never : None ≡ Some a = rw none at g in cc))
