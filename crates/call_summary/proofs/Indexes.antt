-- Numbers of lines by their keys.
use Rattle.std.proofs.Common.{◌≡◌, ℕ, zero, suc, ◌+◌, ◌*◌, inl, inr, ⊎_elim, Bool, true, false, cond, ltb, eqb, List, [], ◌∷◌, ◌++◌, Option, Some, None, MatchOption, refl, sym, ap, ◌∙◌, subst, arith, length, map, take, slice_get}
use Rattle.std.specs.Global.{Vec}
use Rattle.std.specs.BTreeMap.{BTreeMap, get, is_at}
use Rattle.std.specs.Ordering.{is_eq, nat_cmp, ordering_then}
use Rattle.std.specs.Cmp.Lexicographic.{slice_cmp}
use Rattle.std.specs.declared.cmp.Ordering.{Ordering}
use Rattle.std.specs.declared.cmp.Ordering.TheVariants.{Less, Equal, Greater}
use Rattle.std.proofs.lemmas.Map.Lookups.{exact_bytes}
use Rattle.std.proofs.lemmas.Bool.{ltb-true, eq-eqb}
use Rattle.zo_core.specs.Literals.{Literal}
use Rattle.conflict_proof.specs.declared.derivation.Line.{Line}
use Rattle.verdict_meaning.specs.Derivations.{line_at}
use Rattle.call_search.specs.Ledgers.{IsNew}
use Rattle.call_search.proofs.Grow.{line-append, get-push_cases, get-push_same}
use Rattle.call_summary.specs.Trims.{by_new}
use Rattle.call_summary.specs.Joins.{code_of, key_of, key_order, NoneHas, HasKey, IsIndexOf, HasClause, IsAdded}

-- The order of keys

is_equal : (o : Ordering) → is_eq o ≡ true → o ≡ Equal
is_equal Less e = cc
is_equal Equal e = refl
is_equal Greater e = cc

same_number : (x : ℕ) → nat_cmp x x ≡ Equal
same_number x = by_test (ltb x x) refl (eq-eqb x x refl)
  where
    by_test : (b : Bool) → ltb x x ≡ b → eqb x x ≡ true → cond b Less (cond (eqb x x) Equal Greater) ≡ Equal
    by_test true e f = absurd (let l = ltb-true x x e in omega arith)
    by_test false e f = ap (λ (t : Bool). cond t Equal Greater) f

itself : (xs : List ℕ) → slice_cmp nat_cmp xs xs ≡ Equal
itself [] = refl
itself (x ∷ xs) = ap (λ (o : Ordering). ordering_then o (slice_cmp nat_cmp xs xs)) (same_number x) ∙ itself xs

exact_keys : (x y : Vec ℕ) → is_at (key_order x) y ≡ true → x.items ≡ y.items
exact_keys x y e = exact_bytes x.items y.items (is_equal (key_order x y) e)

other_keys : (x y : Vec ℕ) → is_at (key_order x) y ≡ false → x.items ≡ y.items → ⊥
other_keys x y e same =
    let equal : key_order x y ≡ Equal = ap (λ (zs : List ℕ). slice_cmp nat_cmp x.items zs) (sym same) ∙ itself x.items in
    let yes : is_at (key_order x) y ≡ true = ap is_eq equal in
    cc

-- Keys tell clauses apart

abbrev literal_at : ℕ → Bool → Literal
literal_at v s = record { var = v; sign = s }

same_literal : (l m : Literal) → code_of l ≡ code_of m → l ≡ m
same_literal l m = by_signs l.sign m.sign
  where
    by_signs : (a b : Bool) → 2 * l.var + cond a 1 0 ≡ 2 * m.var + cond b 1 0 → literal_at l.var a ≡ literal_at m.var b
    by_signs true true e = let v : l.var ≡ m.var = omega arith in ap (λ n. literal_at n true) v
    by_signs true false e = absurd (omega arith)
    by_signs false true e = absurd (omega arith)
    by_signs false false e = let v : l.var ≡ m.var = omega arith in ap (λ n. literal_at n false) v

same_literals : (c d : List Literal) → map code_of c ≡ map code_of d → c ≡ d
same_literals [] [] e = refl
same_literals [] (m ∷ d) e = cc
same_literals (l ∷ c) [] e = cc
same_literals (l ∷ c) (m ∷ d) e =
    let head : code_of l ≡ code_of m = cc in
    let tail : map code_of c ≡ map code_of d = cc in
    ap (λ (x : Literal). x ∷ c) (same_literal l m head) ∙ ap (λ (xs : List Literal). m ∷ xs) (same_literals c d tail)

same_group : (x y : Line) → key_of x ≡ key_of y → x.group ≡ y.group
same_group x y e = cc

same_clause : (x y : Line) → key_of x ≡ key_of y → x.lits ≡ y.lits
same_clause x y e = same_literals x.lits y.lits (let tail : map code_of x.lits ≡ map code_of y.lits = cc in tail)

key_has_clause : (lines : List Line) (n : ℕ) (x : Line) (key : List ℕ) → HasKey lines key n → key ≡ key_of x → HasClause lines n x
key_has_clause lines n x key h is =
    record { line = h.line; there = h.there; group = same_group h.line x (h.is ∙ is); lits = same_clause h.line x (h.is ∙ is) }

none_is_new : (lines : List Line) (x : Line) (key : List ℕ) → NoneHas lines key → key ≡ key_of x → IsNew lines x.group x.lits
none_is_new lines x key none is n y at g c =
    none n y at (ap (λ k. k ∷ map code_of y.lits) g ∙ ap (λ (l : List Literal). x.group ∷ map code_of l) c ∙ sym is)

-- The index

pub none_indexed : (index : BTreeMap (Vec ℕ) ℕ) → index.entries ≡ [] → IsIndexOf [] index
none_indexed index e key = rw e (λ n x at is. none n x at)
  where
    none : (n : ℕ) (x : Line) → line_at [] n ≡ Some x → ⊥
    none zero x at = cc
    none (suc n) x at = cc

last_at : (lines : List Line) (line : Line) (at : ℕ) → at ≡ suc (length lines) → line_at (lines ++ line ∷ []) at ≡ Some line
last_at lines line at is = subst (λ n. line_at (lines ++ line ∷ []) n ≡ Some line) (sym is) (get-push_same lines line)

still_none : (lines : List Line) (line : Line) (key : List ℕ) → NoneHas lines key → (key_of line ≡ key → ⊥) → NoneHas (lines ++ line ∷ []) key
still_none lines line key none other zero x at is = cc
still_none lines line key none other (suc n) x at is =
    ⊎_elim (λ (old : slice_get lines n ≡ Some x). none (suc n) x old is)
    (λ (new : (n ≡ length lines) × (line ≡ x)). other (ap key_of new.1 ∙ is))
    (get-push_cases lines line x n at)

still : (lines : List Line) (line : Line) (key : List ℕ) (o : Option ℕ) → (key_of line ≡ key → ⊥) → MatchOption o (NoneHas lines key) (HasKey lines key)
    → MatchOption o (NoneHas (lines ++ line ∷ []) key) (HasKey (lines ++ line ∷ []) key)
still lines line key None other m = still_none lines line key m other
still lines line key (Some n) other m = record { line = m.line; there = line-append lines (line ∷ []) m.line n m.there; is = m.is }

pub entered : (lines : List Line) (line : Line) (old new : BTreeMap (Vec ℕ) ℕ) (key : Vec ℕ) (at : ℕ) → IsIndexOf lines old
    → ((q : Vec ℕ) → get key_order new q ≡ cond (is_at (key_order key) q) (Some at) (get key_order old q)) → key.items ≡ key_of line → at ≡ suc (length lines)
    → IsIndexOf (lines ++ line ∷ []) new
entered lines line old new key at index updates key_is number q =
    subst (λ (o : Option ℕ). MatchOption o (NoneHas (lines ++ line ∷ []) q.items) (HasKey (lines ++ line ∷ []) q.items)) (sym (updates q)) (by_test (is_at (key_order key) q) refl)
  where
    by_test : (b : Bool) → is_at (key_order key) q ≡ b
        → MatchOption (cond b (Some at) (get key_order old q)) (NoneHas (lines ++ line ∷ []) q.items) (HasKey (lines ++ line ∷ []) q.items)
    by_test true t = record { line = line; there = last_at lines line at number; is = sym key_is ∙ exact_keys key q t }
    by_test false t = still lines line q.items (get key_order old q) (λ e. other_keys key q t (key_is ∙ e)) (index q)

-- What is added

pub added_there : (lines : List Line) (numbers : List ℕ) (line : Line) (index : BTreeMap (Vec ℕ) ℕ) (key : Vec ℕ) (at : ℕ) → IsIndexOf lines index → key.items ≡ key_of line
    → get key_order index key ≡ Some at → IsAdded lines numbers line lines (numbers ++ at ∷ [])
added_there lines numbers line index key at is key_is found =
    let h : HasKey lines key.items at = subst (λ (o : Option ℕ). MatchOption o (NoneHas lines key.items) (HasKey lines key.items)) found (is key) in
    record { at = at; numbers_are = refl; has = key_has_clause lines at line key.items h key_is; cases = inl refl }

pub added_new : (lines : List Line) (numbers : List ℕ) (line : Line) (index : BTreeMap (Vec ℕ) ℕ) (key : Vec ℕ) (at : ℕ) (new : List Line) → IsIndexOf lines index → key.items ≡ key_of line
    → get key_order index key ≡ None → at ≡ suc (length lines) → new ≡ lines ++ by_new numbers line ∷ [] → IsAdded lines numbers line new (numbers ++ at ∷ [])
added_new lines numbers line index key at new is key_is found number new_is =
    let none : NoneHas lines key.items = subst (λ (o : Option ℕ). MatchOption o (NoneHas lines key.items) (HasKey lines key.items)) found (is key) in
    record {
      at = at;
      numbers_are = refl;
      has = subst (λ (ls : List Line). HasClause ls at line) (sym new_is) (record { line = by_new numbers line; there = last_at lines (by_new numbers line) at number; group = refl; lits = refl });
      cases = inr (new_is, none_is_new lines line key.items none key_is);
    }

-- the first lines and one more
taken_suc : (xs : List Line) (k : ℕ) (x : Line) → slice_get xs k ≡ Some x → take (suc k) xs ≡ take k xs ++ x ∷ []
taken_suc [] k x at = cc
taken_suc (y ∷ xs) zero x at = ap (λ (z : Line). z ∷ []) (one y x at)
  where
    one : (a b : Line) → Some a ≡ Some b → a ≡ b
    one a b e = cc
taken_suc (y ∷ xs) (suc k) x at = ap (λ (zs : List Line). y ∷ zs) (taken_suc xs k x at)

pub taken_more : (xs : List Line) (k : ℕ) (x : Line) → slice_get xs k ≡ Some x → take (k + 1) xs ≡ take k xs ++ x ∷ []
taken_more xs k x at = let next : k + 1 ≡ suc k = omega arith in ap (λ n. take n xs) next ∙ taken_suc xs k x at
