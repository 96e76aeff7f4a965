-- Lines that are added to known ones, one after another.
use Rattle.std.proofs.Common.{◌≡◌, ◌≢◌, ℕ, zero, suc, ◌<◌, ◌≤◌, ◌⊎◌, inl, inr, ⊎_elim, Bool, List, [], ◌∷◌, ◌++◌, Some, refl, sym, ap, ◌∙◌, subst, arith, length, get_or, slice_get, append_assoc, length-append}
use Rattle.std.proofs.lemmas.Bool.{cases_lt}
use Rattle.std.proofs.lemmas.List.{get_or_append_left, get_or_at}
use Rattle.zo_core.specs.Literals.{Literal}
use Rattle.zo_core.specs.Resolvents.{IsResolvent}
use Rattle.conflict_proof.specs.declared.names.ConstraintName.{ConstraintName}
use Rattle.conflict_proof.specs.declared.derivation.How.{How}
use Rattle.conflict_proof.specs.declared.derivation.How.TheVariants.{Axiom, Resolve, Inst}
use Rattle.conflict_proof.specs.declared.derivation.Line.{Line}
use Rattle.verdict_meaning.specs.Systems.{System, root, callee}
use Rattle.verdict_meaning.specs.Derivations.{line_at, at_site, carried, IsRight, IsRightLine, IsValidIn, NoClauseTwice}
use Rattle.call_search.specs.Ledgers.{IsNew}
use Rattle.call_search.specs.Verdicts.{BeginsWith}
use Rattle.call_search.proofs.Grow.{line-append, valid-push, once-push, get-push_cases, get-within}
use Rattle.call_summary.specs.Trims.{by_numbers, by_new}
use Rattle.call_summary.specs.Joins.{HasClause, IsAdded, IsJoined, CallsLower}

clause-append : (xs ys : List Line) (n : ℕ) (x : Line) → HasClause xs n x → HasClause (xs ++ ys) n x
clause-append xs ys n x h = record { line = h.line; there = line-append xs ys h.line n h.there; group = h.group; lits = h.lits }

number_within : (lines : List Line) (n : ℕ) (x : Line) → line_at lines n ≡ Some x → n < suc (length lines)
number_within lines zero x e = cc
number_within lines (suc n) x e = let h = get-within lines x n e in omega arith

-- the first k lines of a derivation were added
pub record IsJoint (top : ℕ) (known more lines : List Line) (numbers : List ℕ) (k : ℕ) : Type 0 where
  pub begins : BeginsWith known lines
  pub once : NoClauseTwice lines
  pub groups : (n : ℕ) (x : Line) → slice_get lines n ≡ Some x → x.group ≢ top
  pub count : length numbers ≡ suc k
  pub each : (n : ℕ) (x : Line) → n ≤ k → line_at more n ≡ Some x → x.group ≢ top → HasClause lines (get_or numbers n 0) x
  pub valid : (s : System) → (U : ConstraintName → Bool) → top ≡ root s → CallsLower s → IsValidIn s U known → IsValidIn s U more → IsValidIn s U lines

append_none : (xs : List Line) → xs ≡ xs ++ []
append_none [] = refl
append_none (x ∷ xs) = ap (λ (ys : List Line). x ∷ ys) (append_none xs)

pub joint_begin : (top : ℕ) (known more : List Line) → NoClauseTwice known → ((n : ℕ) (x : Line) → slice_get known n ≡ Some x → x.group ≢ top) → IsJoint top known more known (0 ∷ []) 0
joint_begin top known more once groups = record {
  begins = record { more = []; is = append_none known };
  once = once;
  groups = groups;
  count = omega arith;
  each = λ n x le at ne. none n x le at;
  valid = λ s U is lower valid _. valid;
}
  where
    none : (n : ℕ) (x : Line) → n ≤ 0 → line_at more n ≡ Some x → HasClause known (get_or (0 ∷ []) n 0) x
    none zero x le at = cc
    none (suc n) x le at = absurd (omega arith)

-- a number more at the end
old_number : (numbers : List ℕ) (at n : ℕ) → n < length numbers → get_or (numbers ++ at ∷ []) n 0 ≡ get_or numbers n 0
old_number numbers at n lt = get_or_append_left numbers (at ∷ []) 0 n lt

new_number : (numbers : List ℕ) (at k : ℕ) → length numbers ≡ suc k → get_or (numbers ++ at ∷ []) (suc k) 0 ≡ at
new_number numbers at k e = get_or_at numbers at [] 0 (suc k) e

-- The line of a derivation by its new numbers is right where those on which it stands have theirs
module _ (s : System) (U : ConstraintName → Bool) (top : ℕ) (is : top ≡ root s) (lower : CallsLower s) (more lines : List Line) (numbers : List ℕ) (k : ℕ)
    (each : (n : ℕ) (x : Line) → n ≤ k → line_at more n ≡ Some x → x.group ≢ top → HasClause lines (get_or numbers n 0) x) where
  right_by_numbers : (g : ℕ) (how : How) (c : List Literal) → g ≤ root s → g ≢ top → IsRight s U more (suc k) g how c → IsRight s U lines (suc (length lines)) g (by_numbers numbers how) c
  right_by_numbers g (Axiom name) c within ne r = r
  right_by_numbers g (Resolve i j) c within ne r =
      let a : HasClause lines (get_or numbers i 0) r.first = each i r.first (let h = r.first_earlier in omega arith) r.first_at (λ e. ne (sym r.first_group ∙ e)) in
      let b : HasClause lines (get_or numbers j 0) r.second = each j r.second (let h = r.second_earlier in omega arith) r.second_at (λ e. ne (sym r.second_group ∙ e)) in
      record {
        first = a.line;
        second = b.line;
        first_at = a.there;
        second_at = b.there;
        first_earlier = number_within lines (get_or numbers i 0) a.line a.there;
        second_earlier = number_within lines (get_or numbers j 0) b.line b.there;
        first_group = a.group ∙ r.first_group;
        second_group = b.group ∙ r.second_group;
        resolvent = subst (λ (l : List Literal). IsResolvent l b.line.lits c) (sym a.lits) (subst (λ (l : List Literal). IsResolvent r.first.lits l c) (sym b.lits) r.resolvent);
      }
  right_by_numbers g (Inst i site) c within ne r =
      let a : HasClause lines (get_or numbers i 0) r.line =
      each i r.line (let h = r.earlier in omega arith) r.there
      (λ e. let low = lower g site r.site_there in let same : (callee s g site).group ≡ root s = sym r.group ∙ e ∙ is in absurd (omega (arith, low, same, within))) in
      record {
        site_there = r.site_there;
        line = a.line;
        there = a.there;
        earlier = number_within lines (get_or numbers i 0) a.line a.there;
        group = a.group ∙ r.group;
        lits = r.lits;
        is_carried = ap (carried (at_site s g site)) a.lits ∙ r.is_carried;
        in_order = r.in_order;
      }

-- it stands there already, or it was added
abbrev Cases : List ℕ → Line → List Line → List Line → Type 0
Cases numbers x lines new = (new ≡ lines) ⊎ ((new ≡ lines ++ by_new numbers x ∷ []) × IsNew lines x.group x.lits)

one_line : (a b : Line) → Some a ≡ Some b → a ≡ b
one_line a b e = cc

module _ (top : ℕ) (known more lines : List Line) (numbers : List ℕ) (k : ℕ) (joint : IsJoint top known more lines numbers k) (x : Line) (there : slice_get more k ≡ Some x) where
  -- a line of the root is left out
  pub joint_skip : x.group ≡ top → IsJoint top known more lines (numbers ++ 0 ∷ []) (suc k)
  joint_skip is_top = record {
    begins = joint.begins;
    once = joint.once;
    groups = joint.groups;
    count = length-append numbers (0 ∷ []) ∙ (let c = joint.count in omega arith);
    each = λ n y le at ne. split n y le at ne (cases_lt k n);
    valid = joint.valid;
  }
    where
      split : (n : ℕ) (y : Line) → n ≤ suc k → line_at more n ≡ Some y → y.group ≢ top → (k < n) ⊎ (n ≤ k) → HasClause lines (get_or (numbers ++ 0 ∷ []) n 0) y
      split n y le at ne (inr old) = subst (λ m. HasClause lines m y) (sym (old_number numbers 0 n (let c = joint.count in omega arith))) (joint.each n y old at ne)
      split n y le at ne (inl new) =
          let e : n ≡ suc k = omega arith in
          let same : x ≡ y = one_line x y (sym there ∙ subst (λ m. line_at more m ≡ Some y) e at) in
          absurd (ne (ap (λ (z : Line). z.group) (sym same) ∙ is_top))

  -- any other has a number
  pub joint_add : x.group ≢ top → (new : List Line) (more_numbers : List ℕ) → IsAdded lines numbers x new more_numbers → IsJoint top known more new more_numbers (suc k)
  joint_add ne new more_numbers added = record {
    begins = begins added.cases;
    once = once added.cases;
    groups = groups added.cases;
    count = ap length added.numbers_are ∙ length-append numbers (added.at ∷ []) ∙ (let c = joint.count in omega arith);
    each = λ n y le at other. subst (λ ms. HasClause new (get_or ms n 0) y) (sym added.numbers_are) (split n y le at other (cases_lt k n));
    valid = valid added.cases;
  }
    where
      begins : Cases numbers x lines new → BeginsWith known new
      begins (inl same) = subst (λ (ls : List Line). BeginsWith known ls) (sym same) joint.begins
      begins (inr more_is) = record {
        more = joint.begins.more ++ by_new numbers x ∷ [];
        is = more_is.0 ∙ ap (λ (ls : List Line). ls ++ by_new numbers x ∷ []) joint.begins.is ∙ append_assoc known joint.begins.more _;
      }

      once : Cases numbers x lines new → NoClauseTwice new
      once (inl same) = subst (λ (ls : List Line). NoClauseTwice ls) (sym same) joint.once
      once (inr more_is) = subst (λ (ls : List Line). NoClauseTwice ls) (sym more_is.0) (once-push lines (by_new numbers x) joint.once more_is.1)

      groups : Cases numbers x lines new → (n : ℕ) (y : Line) → slice_get new n ≡ Some y → y.group ≢ top
      groups (inl same) n y at e = joint.groups n y (ap (λ (ls : List Line). slice_get ls n) (sym same) ∙ at) e
      groups (inr more_is) n y at e =
          ⊎_elim (λ (old : slice_get lines n ≡ Some y). joint.groups n y old e)
          (λ (here : (n ≡ length lines) × (by_new numbers x ≡ y)). ne (ap (λ (z : Line). z.group) here.1 ∙ e))
          (get-push_cases lines (by_new numbers x) y n (ap (λ (ls : List Line). slice_get ls n) (sym more_is.0) ∙ at))

      more_clauses : Cases numbers x lines new → (n : ℕ) (y : Line) → HasClause lines n y → HasClause new n y
      more_clauses (inl same) n y h = subst (λ (ls : List Line). HasClause ls n y) (sym same) h
      more_clauses (inr more_is) n y h = subst (λ (ls : List Line). HasClause ls n y) (sym more_is.0) (clause-append lines _ n y h)

      split : (n : ℕ) (y : Line) → n ≤ suc k → line_at more n ≡ Some y → y.group ≢ top → (k < n) ⊎ (n ≤ k) → HasClause new (get_or (numbers ++ added.at ∷ []) n 0) y
      split n y le at other (inr old) =
          subst (λ m. HasClause new m y) (sym (old_number numbers added.at n (let c = joint.count in omega arith))) (more_clauses added.cases (get_or numbers n 0) y (joint.each n y old at other))
      split n y le at other (inl last) =
          let e : n ≡ suc k = omega arith in
          let same : x ≡ y = one_line x y (sym there ∙ subst (λ m. line_at more m ≡ Some y) e at) in
          let number : get_or (numbers ++ added.at ∷ []) n 0 ≡ added.at = ap (λ m. get_or (numbers ++ added.at ∷ []) m 0) e ∙ new_number numbers added.at k joint.count in
          subst (λ (z : Line). HasClause new (get_or (numbers ++ added.at ∷ []) n 0) z) same (subst (λ m. HasClause new m x) (sym number) added.has)

      valid : Cases numbers x lines new
          → (s : System) → (U : ConstraintName → Bool) → top ≡ root s → CallsLower s → IsValidIn s U known → IsValidIn s U more → IsValidIn s U new
      valid (inl same) s U is lower first rest = subst (λ (ls : List Line). IsValidIn s U ls) (sym same) (joint.valid s U is lower first rest)
      valid (inr more_is) s U is lower first rest =
          let old : IsValidIn s U lines = joint.valid s U is lower first rest in
          let r : IsRightLine s U more (suc k) x = rest (suc k) x there in
          subst (λ (ls : List Line). IsValidIn s U ls) (sym more_is.0)
          (valid-push s U lines (by_new numbers x) old
          (record { group = r.group; clause = r.clause; right = right_by_numbers s U top is lower more lines numbers k joint.each x.group x.how x.lits r.group ne r.right }))

-- all were added
pub joint_end : (top : ℕ) (known more lines : List Line) (numbers : List ℕ) → IsJoint top known more lines numbers (length more) → IsJoined top known more lines
joint_end top known more lines numbers joint = record {
  begins = joint.begins;
  once = joint.once;
  groups = joint.groups;
  have = λ n x at ne. record { number = get_or numbers (suc n) 0; has = joint.each (suc n) x (let h = get-within more x n at in omega arith) at ne };
  valid = joint.valid;
}
