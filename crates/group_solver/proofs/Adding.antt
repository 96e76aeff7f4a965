-- The lines of a group become lemmas, one after another.
use Rattle.std.proofs.Common.{◌≡◌, ℕ, zero, suc, ◌+◌, ◌<◌, ◌≤◌, ◌⊎◌, inl, inr, Bool, true, false, cond, List, [], ◌∷◌, ◌++◌, length, take, Option, Some, slice_get, refl, sym, ap, subst, ◌∙◌, arith, add-one}
use Rattle.std.specs.Prelude.{nat_eq}
use Rattle.std.proofs.lemmas.Bool.{cases_eq, eq-eqb, ne_eqb}
use Rattle.std.proofs.lemmas.List.{length_push, take_all}
use Rattle.std.proofs.lemmas.List.Sums.{sum_by-cons}
use Rattle.zo_core.specs.Literals.{Literal}
use Rattle.conflict_proof.specs.declared.derivation.Line.{Line}
use Rattle.transfer_rules.specs.Names.{NamedClause, lits_of}
use Rattle.verdict_meaning.specs.Derivations.{line_at, line_cost, cost_of, NoClauseTwice}
use Rattle.zo_solver.specs.Clauses.{numbered, EachClause}
use Rattle.zo_solver.specs.Trail.{IsClauseOver}
use Rattle.zo_solver.specs.Accounts.{Account, IsAdded, AddMeans, IsFresh}
use Rattle.zo_solver.specs.declared.answers.Origin.{Origin}
use Rattle.zo_solver.specs.declared.answers.Origin.TheVariants.{Lemma}
use Rattle.call_search.specs.Indexes.{Ledger}
use Rattle.group_solver.specs.Lemmas.{words_of, AreLemmas, HasLemmas, IsBegun}
use Rattle.group_solver.proofs.Lists.{same_some, get_kept, get_next, get_push_cases, get_below, take_step}

-- Words

words_push : (g : ℕ) (xs : List Line) (x : Line) → words_of g (xs ++ x ∷ []) ≡ words_of g xs + cond (nat_eq x.group g) (line_cost x) 0
words_push g [] x = omega arith
words_push g (y ∷ xs) x = let rest = words_push g xs x in omega arith

words_on : (g : ℕ) (x : Line) → x.group ≡ g → cond (nat_eq x.group g) (line_cost x) 0 ≡ length x.lits + 1
words_on g x e = ap (λ (b : Bool). cond b (line_cost x) 0) (eq-eqb x.group g e)

words_off : (g : ℕ) (x : Line) → (x.group ≡ g → ⊥) → cond (nat_eq x.group g) (line_cost x) 0 ≡ 0
words_off g x ne = ap (λ (b : Bool). cond b (line_cost x) 0) (ne_eqb x.group g ne)

one_le : (b : Bool) (n : ℕ) → cond b n 0 ≤ n
one_le true n = omega arith
one_le false n = omega arith

pub words_le : (g : ℕ) (xs : List Line) → words_of g xs ≤ cost_of xs
words_le g [] = omega arith
words_le g (x ∷ xs) = let rest = words_le g xs in let one = one_le (nat_eq x.group g) (line_cost x) in let all = sum_by-cons line_cost x xs in omega arith

take_words : (g : ℕ) (xs : List Line) (k : ℕ) (x : Line) → slice_get xs k ≡ Some x → words_of g (take (k + 1) xs) ≡ words_of g (take k xs) + cond (nat_eq x.group g) (line_cost x) 0
take_words g xs k x at = ap (words_of g) (take_step xs k x at) ∙ words_push g (take k xs) x

pub take_on : (g : ℕ) (xs : List Line) (k : ℕ) (x : Line) → slice_get xs k ≡ Some x → x.group ≡ g → words_of g (take (k + 1) xs) ≡ words_of g (take k xs) + (length x.lits + 1)
take_on g xs k x at e = take_words g xs k x at ∙ ap (λ n. words_of g (take k xs) + n) (words_on g x e)

pub take_off : (g : ℕ) (xs : List Line) (k : ℕ) (x : Line) → slice_get xs k ≡ Some x → (x.group ≡ g → ⊥) → words_of g (take (k + 1) xs) ≡ words_of g (take k xs)
take_off g xs k x at ne = let one = take_words g xs k x at in let none = words_off g x ne in omega arith

-- the words of some of the lines are no more than those of all
take_le : (g : ℕ) (xs : List Line) (k : ℕ) → words_of g (take k xs) ≤ words_of g xs
take_le g [] zero = omega arith
take_le g [] (suc k) = omega arith
take_le g (x ∷ xs) zero = omega arith
take_le g (x ∷ xs) (suc k) = let rest = take_le g xs k in omega arith

pub take_cost : (g : ℕ) (xs : List Line) (k : ℕ) → words_of g (take k xs) ≤ cost_of xs
take_cost g xs k = let a = take_le g xs k in let b = words_le g xs in omega arith

-- Lemmas

-- a line up to a number is one up to the number before, or that one
upto_cases : (lines : List Line) (k n : ℕ) (x y : Line) → n ≤ k + 1 → line_at lines n ≡ Some y → slice_get lines k ≡ Some x → (n ≤ k) ⊎ ((n ≡ suc k) × (x ≡ y))
upto_cases lines k zero x y le at here = cc
upto_cases lines k (suc j) x y le at here = elim (cases_eq j k) [
  | inl e ↦ inr (ap suc e, same_some x y (sym here ∙ ap (λ (i : ℕ). slice_get lines i) (sym e) ∙ at))
  | inr ne ↦ inl (omega arith)
]

pub none_yet : (lines : List Line) (g : ℕ) (a : Account) → a.lines ≡ [] → a.origins ≡ [] → HasLemmas lines g 0 [] a a
none_yet lines g a none no_origins = record {
  vars = refl;
  given = refl;
  are = record {
    size = sym (ap (λ (cs : List (List Literal)). length cs) none);
    sources = ap (λ (os : List Origin). length os) no_origins ∙ sym (ap (λ (cs : List (List Literal)). length cs) none);
    lemmas = λ k o at. let empty : slice_get [] k ≡ Some o = ap (λ (os : List Origin). slice_get os k) (sym no_origins) ∙ at in cc;
    each = λ k n at. cc;
    all = none_before;
  };
  words = omega arith;
}
  where
    none_before : (n : ℕ) (x : Line) → n ≤ 0 → line_at lines n ≡ Some x → x.group ≡ g → (k : ℕ) × (slice_get a.lines k ≡ Some x.lits)
    none_before zero x le at e = cc
    none_before (suc n) x le at e = absurd (omega arith)

-- a line of another group
pub lemma_skip : (lines : List Line) (g k : ℕ) (ns : List ℕ) (first a : Account) (x : Line) → slice_get lines k ≡ Some x → (x.group ≡ g → ⊥) → HasLemmas lines g k ns first a → HasLemmas lines g (k + 1) ns first a
lemma_skip lines g k ns first a x here ne h = record {
  vars = h.vars;
  given = h.given;
  are = record {
    size = h.are.size;
    sources = h.are.sources;
    lemmas = h.are.lemmas;
    each = λ i n at. let e = h.are.each i n at in record { line = e.line; there = e.there; within = let le = e.within in omega arith; group = e.group; clause = e.clause };
    all = λ n y le at gr. elim (upto_cases lines k n x y le at here) [
      | inl less ↦ h.are.all n y less at gr
      | inr e ↦ absurd (ne (ap (λ (z : Line). z.group) e.1 ∙ gr))
    ];
  };
  words = let w = h.words in let t = take_off g lines k x here ne in omega arith;
}

-- a line of the group that was added
added : (lines : List Line) (g k : ℕ) (ns : List ℕ) (first a b : Account) (x : Line) → slice_get lines k ≡ Some x → x.group ≡ g → IsAdded x.lits a b → HasLemmas lines g k ns first a
    → HasLemmas lines g (k + 1) (ns ++ (k + 1) ∷ []) first b
added lines g k ns first a b x here gr put h = record {
  vars = put.vars ∙ h.vars;
  given = put.given ∙ h.given;
  are = record {
    size = (let l = length_push ns (k + 1) in let m = length_push a.lines x.lits in let e = ap (λ (cs : List (List Literal)). length cs) put.lines in let s = h.are.size in omega arith);
    sources = (let l = length_push a.origins Lemma in let m = length_push a.lines x.lits in let e = ap (λ (cs : List (List Literal)). length cs) put.lines in let f = ap (λ (os : List Origin). length os) put.origins in let s = h.are.sources in omega arith);
    lemmas = λ i o at. elim (get_push_cases a.origins Lemma i o (ap (λ (os : List Origin). slice_get os i) (sym put.origins) ∙ at)) [
      | inl was ↦ h.are.lemmas i o was
      | inr e ↦ sym e.1
    ];
    each = λ i n at. elim (get_push_cases ns (k + 1) i n at) [
      | inl was ↦ (let e = h.are.each i n was in record { line = e.line; there = e.there; within = let le = e.within in omega arith; group = e.group; clause = kept i e.line.lits e.clause })
      | inr e ↦ record {
        line = x;
        there = subst (λ (m : ℕ). line_at lines m ≡ Some x) (sym (add-one k) ∙ e.1) here;
        within = (let is = e.1 in omega arith);
        group = gr;
        clause = subst (λ (j : ℕ). slice_get b.lines j ≡ Some x.lits) (sym (e.0 ∙ h.are.size)) last;
      }
    ];
    all = λ n y le at own. elim (upto_cases lines k n x y le at here) [
      | inl less ↦ (let e = h.are.all n y less at own in (e.0, kept e.0 y.lits e.1))
      | inr e ↦ (length a.lines, last ∙ ap (λ (z : Line). Some z.lits) e.1)
    ];
  };
  words = let w = h.words in let t = take_on g lines k x here gr in let p = put.words in omega arith;
}
  where
    kept : (i : ℕ) (c : List Literal) → slice_get a.lines i ≡ Some c → slice_get b.lines i ≡ Some c
    kept i c e = ap (λ (cs : List (List Literal)). slice_get cs i) put.lines ∙ get_kept a.lines (x.lits ∷ []) i c e

    last : slice_get b.lines (length a.lines) ≡ Some x.lits
    last = ap (λ (cs : List (List Literal)). slice_get cs (length a.lines)) put.lines ∙ get_next a.lines x.lits

-- it was no line of the solver before
not_twice : (lines : List Line) (g k : ℕ) (ns : List ℕ) (a : Account) (x : Line) → slice_get lines k ≡ Some x → x.group ≡ g → NoClauseTwice lines → AreLemmas lines g k ns a
    → (n : ℕ) → numbered a.lines n ≡ Some x.lits → ⊥
not_twice lines g k ns a x here gr once are zero at = cc
not_twice lines g k ns a x here gr once are (suc j) at =
    let lt : j < length a.lines = within a.lines j x.lits at in
    let n = get_below ns j (let s = are.size in omega arith) in
    let e = are.each j n.0 n.1 in
    clash n.0 e.line e.there e.within e.group (same_some e.line.lits x.lits (sym e.clause ∙ at))
  where
    within : (cs : List (List Literal)) (i : ℕ) (c : List Literal) → slice_get cs i ≡ Some c → i < length cs
    within [] i c e = cc
    within (d ∷ cs) zero c e = omega arith
    within (d ∷ cs) (suc i) c e = let h = within cs i c e in omega arith

    clash : (m : ℕ) (y : Line) → line_at lines m ≡ Some y → m ≤ k → y.group ≡ g → y.lits ≡ x.lits → ⊥
    clash zero y e le own same = cc
    clash (suc i) y e le own same = let is : i ≡ k = once i k y x e here (own ∙ sym gr) same in omega arith

pub lemma_put : (lines : List Line) (g k : ℕ) (ns : List ℕ) (first a b : Account) (x : Line) (n : ℕ) → slice_get lines k ≡ Some x → x.group ≡ g → NoClauseTwice lines → AddMeans x.lits a b (Some n)
    → HasLemmas lines g k ns first a → HasLemmas lines g (k + 1) (ns ++ (k + 1) ∷ []) first b
lemma_put lines g k ns first a b x n here gr once means h = elim means.1 [
  | inl same ↦ absurd (not_twice lines g k ns a x here gr once h.are n (ap (λ (c : Account). numbered c.lines n) (sym same) ∙ means.0))
  | inr put ↦ added lines g k ns first a b x here gr put h
]

pub lemma_done : (lines : List Line) (g k : ℕ) (ns new : List ℕ) (first a b : Account) (x : Line) (lits : List Literal) (o : Option ℕ) (n : ℕ) → slice_get lines k ≡ Some x → x.group ≡ g → NoClauseTwice lines → lits ≡ x.lits
    → AddMeans lits a b o → o ≡ Some n → new ≡ ns ++ (k + 1) ∷ [] → HasLemmas lines g k ns first a → HasLemmas lines g (k + 1) new first b
lemma_done lines g k ns new first a b x lits o n here gr once same means is put h =
    subst (λ (ms : List ℕ). HasLemmas lines g (k + 1) ms first b) (sym put)
    (lemma_put lines g k ns first a b x n here gr once (subst (λ (p : Option ℕ). AddMeans x.lits a b p) is (subst (λ (c : List Literal). AddMeans c a b o) same means)) h)

pub length_cost : (lines : List Line) → length lines ≤ cost_of lines
length_cost [] = omega arith
length_cost (x ∷ lines) = let rest = length_cost lines in let all = sum_by-cons line_cost x lines in omega arith

-- a new solver with all lemmas has the words that are left
pub begun : (rows : List NamedClause) (g vars words : ℕ) (l : Ledger) (ns : List ℕ) (first a : Account) → IsFresh vars (lits_of rows) words first → words ≡ l.words + words_of g l.lines
    → EachClause (IsClauseOver vars) (lits_of rows) → HasLemmas l.lines g (length l.lines) ns first a → IsBegun rows g vars l ns a
begun rows g vars words l ns first a fresh is over h = record {
  vars = h.vars ∙ fresh.vars_are;
  given = h.given ∙ fresh.given;
  over = over;
  are = h.are;
  words =
      let all : words_of g (take (length l.lines) l.lines) ≡ words_of g l.lines = ap (words_of g) (take_all (length l.lines) l.lines (omega arith)) in
      let w = h.words in
      let f = fresh.words_are in
      omega arith;
}
