-- Names that are kept in order.
use Rattle.std.proofs.Common.{◌≡◌, ◌≢◌, ℕ, zero, suc, ◌+◌, ◌<◌, ◌≤◌, ◌⊎◌, inl, inr, Bool, true, false, cond, List, [], ◌∷◌, length, get_or, Some, refl, sym, ap, ◌∙◌, subst, arith, eqb-true}
use Rattle.std.proofs.lemmas.Bool.{true≢false, cases_lt}
use Rattle.std.proofs.lemmas.Option.{slice_get_within}
use Rattle.std.proofs.lemmas.Map.Lookups.{CmpEqualImpliesEq, exact_unsigned}
use Rattle.std.proofs.lemmas.Map.Views.{All-after_first}
use Rattle.std.proofs.lemmas.List.Elements.{All-head}
use Rattle.std.specs.Prelude.{slice_get, nat_eq}
use Rattle.std.specs.List.{Contains}
use Rattle.std.specs.Ordering.{match_ordering, ordering_then, nat_cmp}
use Rattle.std.specs.declared.cmp.Ordering.{Ordering}
use Rattle.std.specs.declared.cmp.Ordering.TheVariants.{Less, Equal, Greater}
use Rattle.std.specs.List.Sorted.{IsStrictlySortedBy}
use Rattle.std.specs.BTreeSet.{insert_key}
use Rattle.conflict_proof.specs.declared.names.ConstraintName.{ConstraintName}
use Rattle.conflict_proof.specs.declared.derivation.How.{How}
use Rattle.conflict_proof.specs.declared.derivation.How.TheVariants.{Axiom, Resolve, Inst}
use Rattle.conflict_proof.specs.declared.derivation.Line.{Line}
use Rattle.conflict_proof.specs.Names.{name_order}
use Rattle.verdict_meaning.specs.Solutions.{same_rule}
use Rattle.verdict_meaning.specs.Derivations.{line_at}
use Rattle.verdict_meaning.specs.UsedNames.{AreAscending, AreUsedNames, IsAxiomOf}
use Rattle.used_names.specs.Marks.{is_marked, with_name, AreNeeded}
use Rattle.used_names.specs.Picked.{IsPicked, ArePicked}

both_Equal : (r o : Ordering) → ordering_then r o ≡ Equal → (r ≡ Equal) × (o ≡ Equal)
both_Equal Less o e = cc
both_Equal Equal o e = (refl, e)
both_Equal Greater o e = cc

same_name : (a b : ConstraintName) → a.proc ≡ b.proc → a.place ≡ b.place → a.edge ≡ b.edge → a.rule ≡ b.rule → a.slot ≡ b.slot → a.field ≡ b.field → a.other ≡ b.other → a ≡ b
same_name a b proc place edge rule slot field other = λ i. record { proc = proc i; place = place i; edge = edge i; rule = rule i; slot = slot i; field = field i; other = other i }

-- names that compare equal are one
names_exact : CmpEqualImpliesEq name_order
names_exact a b e =
    let after_field = nat_cmp a.other b.other in
    let after_slot = ordering_then (nat_cmp a.field b.field) after_field in
    let after_rule = ordering_then (nat_cmp a.slot b.slot) after_slot in
    let after_edge = ordering_then (nat_cmp a.rule b.rule) after_rule in
    let after_place = ordering_then (nat_cmp a.edge b.edge) after_edge in
    let after_proc = ordering_then (nat_cmp a.place b.place) after_place in
    let one = both_Equal (nat_cmp a.proc b.proc) after_proc e in
    let two = both_Equal (nat_cmp a.place b.place) after_place one.1 in
    let three = both_Equal (nat_cmp a.edge b.edge) after_edge two.1 in
    let four = both_Equal (nat_cmp a.rule b.rule) after_rule three.1 in
    let five = both_Equal (nat_cmp a.slot b.slot) after_slot four.1 in
    let six = both_Equal (nat_cmp a.field b.field) after_field five.1 in
    same_name a b (exact_unsigned a.proc b.proc one.0) (exact_unsigned a.place b.place two.0) (exact_unsigned a.edge b.edge three.0) (exact_unsigned a.rule b.rule four.0)
    (exact_unsigned a.slot b.slot five.0) (exact_unsigned a.field b.field six.0) (exact_unsigned a.other b.other six.1)

contains_first : (x : ConstraintName) (xs : List ConstraintName) → Contains (x ∷ xs) x
contains_first x xs = (0, omega arith, refl)

contains_later : (x y : ConstraintName) (xs : List ConstraintName) → Contains xs y → Contains (x ∷ xs) y
contains_later x y xs h = (suc h.0, omega (arith, h.1), h.2)

contains_cases : (x y : ConstraintName) (xs : List ConstraintName) → Contains (x ∷ xs) y → (x ≡ y) ⊎ Contains xs y
contains_cases x y xs (zero, lt, e) = inl e
contains_cases x y xs (suc k, lt, e) = inr (k, omega arith, e)

module _ (k : ConstraintName) where
  -- a name with others is there
  pub inserted : (names : List ConstraintName) → Contains (insert_key name_order names k) k
  inserted [] = contains_first k []
  inserted (x ∷ xs) = by (name_order k x) refl (inserted xs)
    where
      by : (r : Ordering) → name_order k x ≡ r → Contains (insert_key name_order xs k) k → Contains (match_ordering r (k ∷ x ∷ xs) (x ∷ xs) (x ∷ insert_key name_order xs k)) k
      by Less e h = contains_first k (x ∷ xs)
      by Equal e h = subst (λ y. Contains (x ∷ xs) y) (sym (names_exact k x e)) (contains_first x xs)
      by Greater e h = contains_later x k _ h

  -- and so are the others
  pub still : (names : List ConstraintName) (y : ConstraintName) → Contains names y → Contains (insert_key name_order names k) y
  still [] y h = contains_later k y [] h
  still (x ∷ xs) y h = by (name_order k x) (still xs y)
    where
      by : (r : Ordering) → (Contains xs y → Contains (insert_key name_order xs k) y) → Contains (match_ordering r (k ∷ x ∷ xs) (x ∷ xs) (x ∷ insert_key name_order xs k)) y
      by Less more = contains_later k y (x ∷ xs) h
      by Equal more = h
      by Greater more = elim (contains_cases x y xs h) [
        | inl same ↦ subst (λ z. Contains (x ∷ insert_key name_order xs k) z) same (contains_first x _)
        | inr later ↦ contains_later x y _ (more later)
      ]

  -- and no more
  pub before : (names : List ConstraintName) (y : ConstraintName) → Contains (insert_key name_order names k) y → (k ≡ y) ⊎ Contains names y
  before [] y h = contains_cases k y [] h
  before (x ∷ xs) y h = by (name_order k x) (before xs y) h
    where
      by : (r : Ordering) → (Contains (insert_key name_order xs k) y → (k ≡ y) ⊎ Contains xs y) → Contains (match_ordering r (k ∷ x ∷ xs) (x ∷ xs) (x ∷ insert_key name_order xs k)) y → (k ≡ y) ⊎ Contains (x ∷ xs) y
      by Less less at = contains_cases k y (x ∷ xs) at
      by Equal less at = inr at
      by Greater less at = elim (contains_cases x y (insert_key name_order xs k) at) [
        | inl same ↦ inr (subst (λ z. Contains (x ∷ xs) z) same (contains_first x xs))
        | inr later ↦ elim (less later) [
          | inl new ↦ inl new
          | inr old ↦ inr (contains_later x y xs old)
        ]
      ]

-- keys in order ascend
sorted_rest : (x : ConstraintName) (xs : List ConstraintName) → IsStrictlySortedBy name_order (x ∷ xs) → IsStrictlySortedBy name_order xs
unfolding IsStrictlySortedBy
sorted_rest x xs h = h.1

pub ascending : (names : List ConstraintName) → IsStrictlySortedBy name_order names → AreAscending names
ascending [] s = tt
ascending (n ∷ []) s = tt
ascending (n ∷ m ∷ ns) s = (All-head (λ q. name_order n q ≡ Less) m ns (All-after_first name_order n (m ∷ ns) s), ascending (m ∷ ns) (sorted_rest n (m ∷ ns) s))

-- Picking

module _ (lines : List Line) (marks : List Bool) where
  pub picked_none : ArePicked lines marks 0 []
  picked_none = record {
    only = λ name h. absurd (omega (arith, h.1));
    all = λ name p. absurd (omega (arith, p.before));
  }

  module _ (k : ℕ) (names : List ConstraintName) (line : Line) (at : slice_get lines k ≡ Some line) (p : ArePicked lines marks k names) where
    later : (name : ConstraintName) → IsPicked lines marks k name → IsPicked lines marks (k + 1) name
    later name q = record {
      index = q.index;
      before = omega (arith, q.before);
      line = q.line;
      there = q.there;
      how = q.how;
      counts = q.counts;
      marked = q.marked;
    }

    earlier : (name : ConstraintName) → (q : IsPicked lines marks (k + 1) name) → ((q.index ≡ k) → ⊥) → IsPicked lines marks k name
    earlier name q apart = record {
      index = q.index;
      before = elim (cases_lt q.index k) [ inl lt ↦ lt | inr le ↦ absurd (apart (omega (arith, le, q.before))) ];
      line = q.line;
      there = q.there;
      how = q.how;
      counts = q.counts;
      marked = q.marked;
    }

    same_line : (name : ConstraintName) → (q : IsPicked lines marks (k + 1) name) → q.index ≡ k → line.how ≡ Axiom name
    same_line name q e =
        let there : slice_get lines k ≡ Some q.line = subst (λ i. slice_get lines i ≡ Some q.line) e q.there in
        let one : q.line ≡ line = cc in
        subst (λ (l : Line). l.how ≡ Axiom name) one q.how

    -- the line adds nothing
    pub picked_past : ((name : ConstraintName) → (q : IsPicked lines marks (k + 1) name) → (q.index ≡ k) → ⊥) → ArePicked lines marks (k + 1) names
    picked_past none = record {
      only = λ name h. later name (p.only name h);
      all = λ name q. p.all name (earlier name q (none name q));
    }

    pub picked_off : get_or marks k false ≡ false → ArePicked lines marks (k + 1) names
    picked_off off = picked_past (λ name q e. true≢false (sym (subst (λ i. get_or marks i false ≡ true) e q.marked) ∙ off))

    cases_index : (i : ℕ) → (i ≡ k) ⊎ ((i ≡ k) → ⊥)
    cases_index i = elim (cases_lt i k) [
      | inl lt ↦ inr (λ e. absurd (omega (arith, lt, e)))
      | inr le ↦ elim (cases_lt k i) [
        | inl lt ↦ inr (λ e. absurd (omega (arith, lt, e)))
        | inr ge ↦ inl (omega (arith, le, ge))
      ]
    ]

    by_name : get_or marks k false ≡ true → (name : ConstraintName) → line.how ≡ Axiom name → (b : Bool) → nat_eq name.rule same_rule ≡ b → ArePicked lines marks (k + 1) (cond b names (insert_key name_order names name))
    by_name on name how true same = picked_past (λ other q e.
        let one : other ≡ name = axiom_is other name (sym (same_line other q e) ∙ how) in
        q.counts (ap (λ (n : ConstraintName). n.rule) one ∙ rule_is name same))
      where
        axiom_is : (a b : ConstraintName) → Axiom a ≡ Axiom b → a ≡ b
        axiom_is a b e = cc

        rule_is : (n : ConstraintName) → nat_eq n.rule same_rule ≡ true → n.rule ≡ same_rule
        rule_is n e = eqb-true n.rule same_rule e
    by_name on name how false other_rule = record {
      only = λ other h. elim (before name names other h) [
        | inl same ↦ subst (λ n. IsPicked lines marks (k + 1) n) same here
        | inr old ↦ later other (p.only other old)
      ];
      all = λ other q. elim (cases_index q.index) [
        | inl e ↦ subst (λ n. Contains (insert_key name_order names name) n) (axiom_is name other (sym how ∙ same_line other q e)) (inserted name names)
        | inr apart ↦ still name names other (p.all other (earlier other q apart))
      ];
    }
      where
        axiom_is : (a b : ConstraintName) → Axiom a ≡ Axiom b → a ≡ b
        axiom_is a b e = cc

        here : IsPicked lines marks (k + 1) name
        here = record {
          index = k;
          before = omega arith;
          line = line;
          there = at;
          how = how;
          counts = λ e. absurd (true≢false (sym (rule_eq e) ∙ other_rule));
          marked = on;
        }
          where
            rule_eq : name.rule ≡ same_rule → nat_eq name.rule same_rule ≡ true
            rule_eq e = rw e refl

    by_how : get_or marks k false ≡ true → (how : How) → line.how ≡ how → ArePicked lines marks (k + 1) (with_name names how)
    by_how on (Axiom name) is = by_name on name is (nat_eq name.rule same_rule) refl
    by_how on (Resolve i j) is = picked_past (λ name q e. let there = same_line name q e in cc)
    by_how on (Inst i site) is = picked_past (λ name q e. let there = same_line name q e in cc)

    pub picked_on : get_or marks k false ≡ true → ArePicked lines marks (k + 1) (with_name names line.how)
    picked_on on = by_how on line.how refl

  pub picked_all : (names : List ConstraintName) → AreNeeded lines marks → AreAscending names → ArePicked lines marks (length lines) names → AreUsedNames lines names
  picked_all names needed order p = record {
    order = order;
    only = λ name h.
        let q = p.only name h in (
          record {
            number = suc q.index;
            line = q.line;
            stands = needed.only (suc q.index) q.marked;
            there = q.there;
            how = q.how;
          },
          q.counts,
        );
    all = λ name a counts. p.all name (from name counts a.number a);
  }
    where
      from : (name : ConstraintName) → name.rule ≢ same_rule → (n : ℕ) → (a : IsAxiomOf lines (length lines) name) → IsPicked lines marks (length lines) name
      from name counts n a = at_number a.number a.line a.there a.how (λ above within. needed.all a.number above within a.stands)
        where
          at_number : (n : ℕ) (line : Line) → line_at lines n ≡ Some line → line.how ≡ Axiom name → (0 < n → n ≤ length lines → is_marked marks n ≡ true) → IsPicked lines marks (length lines) name
          at_number zero line there how marked = cc
          at_number (suc i) line there how marked =
              let lt = slice_get_within lines i line there in
              record {
                index = i;
                before = omega (arith, lt);
                line = line;
                there = there;
                how = how;
                counts = counts;
                marked = marked (omega arith) (omega (arith, lt));
              }
