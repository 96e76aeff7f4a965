-- Marks that are set, and what lines stand on.
use Rattle.std.proofs.Common.{◌≡◌, ℕ, zero, suc, ◌<◌, ◌≤◌, ◌⊎◌, inl, inr, [], ◌∷◌, Bool, true, false, List, length, get_or, set, replicate, Some, refl, sym, ap, ◌∙◌, subst, arith, get_or-set_same, get_or-set_other, length-set}
use Rattle.std.proofs.lemmas.Bool.{true≢false, cases_lt}
use Rattle.std.proofs.lemmas.Option.{slice_get_within}
use Rattle.conflict_proof.specs.declared.derivation.How.{How}
use Rattle.conflict_proof.specs.declared.derivation.How.TheVariants.{Axiom, Resolve, Inst}
use Rattle.conflict_proof.specs.declared.derivation.Line.{Line}
use Rattle.verdict_meaning.specs.Derivations.{line_at}
use Rattle.verdict_meaning.specs.UsedNames.{StandsOn, itself, by_first, by_second, by_site}
use Rattle.used_names.specs.Marks.{is_marked, with_mark, with_premises, IsBefore, LeadBack, AreNeeded}
use Rattle.used_names.specs.Gone.{Has, HasPremises, IsGoneBack}

-- Marks

pub length-with_mark : (marks : List Bool) (i : ℕ) → length (with_mark marks i) ≡ length marks
length-with_mark marks zero = refl
length-with_mark marks (suc i) = length-set marks i true

pub length-with_premises : (marks : List Bool) (how : How) → length (with_premises marks how) ≡ length marks
length-with_premises marks (Axiom name) = refl
length-with_premises marks (Resolve i j) = length-with_mark (with_mark marks i) j ∙ length-with_mark marks i
length-with_premises marks (Inst i site) = length-with_mark marks i

same_or_not : (i m : ℕ) → (i ≡ m) ⊎ ((m ≡ i) → ⊥)
same_or_not i m = elim (cases_lt i m) [
  | inl lt ↦ inr (λ e. absurd (omega (arith, lt, e)))
  | inr le ↦ elim (cases_lt m i) [
    | inl lt ↦ inr (λ e. absurd (omega (arith, lt, e)))
    | inr ge ↦ inl (omega (arith, le, ge))
  ]
]

-- what is marked was, or is the new one
pub marked_before : (marks : List Bool) (i m : ℕ) → is_marked (with_mark marks i) m ≡ true → (is_marked marks m ≡ true) ⊎ (i ≡ m)
marked_before marks zero m h = inl h
marked_before marks (suc i) zero h = inl h
marked_before marks (suc i) (suc m) h = elim (same_or_not i m) [
  | inl same ↦ inr (ap suc same)
  | inr apart ↦ inl (sym (get_or-set_other marks i m true false apart) ∙ h)
]

-- the new one is marked
pub marked_now : (marks : List Bool) (i : ℕ) → 0 < i → i ≤ length marks → is_marked (with_mark marks i) i ≡ true
marked_now marks zero above within = absurd (omega (arith, above))
marked_now marks (suc i) above within = get_or-set_same marks i true false (omega (arith, within))

within_marks : (marks : List Bool) (m : ℕ) → get_or marks m false ≡ true → m < length marks
within_marks [] m h = absurd (true≢false (sym h))
within_marks (b ∷ bs) zero h = omega arith
within_marks (b ∷ bs) (suc m) h = let lt = within_marks bs m h in omega (arith, lt)

-- and what was marked is
pub marked_still : (marks : List Bool) (i m : ℕ) → is_marked marks m ≡ true → is_marked (with_mark marks i) m ≡ true
marked_still marks zero m h = h
marked_still marks (suc i) zero h = h
marked_still marks (suc i) (suc m) h = elim (same_or_not i m) [
  | inl same ↦ subst (λ k. get_or (set marks i true) k false ≡ true) same (get_or-set_same marks i true false (subst (λ k. k < length marks) (sym same) (within_marks marks m h)))
  | inr apart ↦ get_or-set_other marks i m true false apart ∙ h
]

pub premises_still : (marks : List Bool) (how : How) (m : ℕ) → is_marked marks m ≡ true → is_marked (with_premises marks how) m ≡ true
premises_still marks (Axiom name) m h = h
premises_still marks (Resolve i j) m h = marked_still (with_mark marks i) j m (marked_still marks i m h)
premises_still marks (Inst i site) m h = marked_still marks i m h

-- line m is one that a line of this origin names
abbrev pub IsPremise : How → ℕ → Type 0
IsPremise (Axiom name) m = ⊥
IsPremise (Resolve i j) m = (i ≡ m) ⊎ (j ≡ m)
IsPremise (Inst i site) m = i ≡ m

pub premises_before : (marks : List Bool) (how : How) (m : ℕ) → is_marked (with_premises marks how) m ≡ true → (is_marked marks m ≡ true) ⊎ IsPremise how m
premises_before marks (Axiom name) m h = inl h
premises_before marks (Resolve i j) m h = elim (marked_before (with_mark marks i) j m h) [
  | inr same ↦ inr (inr same)
  | inl old ↦ elim (marked_before marks i m old) [
    | inl older ↦ inl older
    | inr same ↦ inr (inl same)
  ]
]
premises_before marks (Inst i site) m h = marked_before marks i m h

has_now : (marks : List Bool) (i : ℕ) → Has (with_mark marks i) i
has_now marks i above within = marked_now marks i above (subst (λ n. i ≤ n) (length-with_mark marks i) within)

has_still : (marks : List Bool) (i m : ℕ) → Has marks m → Has (with_mark marks i) m
has_still marks i m h above within = marked_still marks i m (h above (subst (λ n. m ≤ n) (length-with_mark marks i) within))

pub premises_now : (marks : List Bool) (how : How) → HasPremises (with_premises marks how) how
premises_now marks (Axiom name) = tt
premises_now marks (Resolve i j) = (has_still (with_mark marks i) j i (has_now marks i), has_now (with_mark marks i) j)
premises_now marks (Inst i site) = has_now marks i

has_more : (marks : List Bool) (how : How) (m : ℕ) → Has marks m → Has (with_premises marks how) m
has_more marks how m h above within = premises_still marks how m (h above (subst (λ n. m ≤ n) (length-with_premises marks how) within))

pub premises_more : (marks : List Bool) (how other : How) → HasPremises marks other → HasPremises (with_premises marks how) other
premises_more marks how (Axiom name) h = tt
premises_more marks how (Resolve i j) h = (has_more marks how i h.0, has_more marks how j h.1)
premises_more marks how (Inst i site) h = has_more marks how i h

-- What lines stand on

stands_trans : {lines : List Line} {a b c : ℕ} → StandsOn lines a b → StandsOn lines b c → StandsOn lines a c
stands_trans itself h = h
stands_trans (by_first line at how s) h = by_first line at how (stands_trans s h)
stands_trans (by_second line at how s) h = by_second line at how (stands_trans s h)
stands_trans (by_site line at how s) h = by_site line at how (stands_trans s h)

premise_stands : (lines : List Line) (n m : ℕ) (line : Line) → line_at lines n ≡ Some line → (how : How) → line.how ≡ how → IsPremise how m → StandsOn lines n m
premise_stands lines n m line at (Axiom name) is p = absurd p
premise_stands lines n m line at (Resolve i j) is (inl e) = by_first line at is (subst (λ k. StandsOn lines i k) e itself)
premise_stands lines n m line at (Resolve i j) is (inr e) = by_second line at is (subst (λ k. StandsOn lines j k) e itself)
premise_stands lines n m line at (Inst i site) is e = by_site line at is (subst (λ k. StandsOn lines i k) e itself)

-- a line that is there has a number up to the count
line_within : (lines : List Line) (n : ℕ) (line : Line) → line_at lines n ≡ Some line → (0 < n) × (n ≤ length lines)
line_within lines zero line at = cc
line_within lines (suc n) line at = let lt = slice_get_within lines n line at in (omega arith, omega (arith, lt))

stands_within : (lines : List Line) (n m : ℕ) → StandsOn lines n m → 0 < m → m ≤ length lines → (0 < n) × (n ≤ length lines)
stands_within lines n m itself above within = (above, within)
stands_within lines n m (by_first line at how s) above within = line_within lines n line at
stands_within lines n m (by_second line at how s) above within = line_within lines n line at
stands_within lines n m (by_site line at how s) above within = line_within lines n line at

-- Going back

begins : (lines : List Line) (k m : ℕ) → is_marked (replicate k false) m ≡ true → ⊥
begins lines k zero h = true≢false (sym h)
begins lines zero (suc m) h = true≢false (sym h)
begins lines (suc k) (suc zero) h = true≢false (sym h)
begins lines (suc k) (suc (suc m)) h = begins lines k (suc m) h

length-none : (n : ℕ) → length (replicate n false) ≡ n
length-none zero = refl
length-none (suc n) = ap suc (length-none n)

pub gone_begin : (lines : List Line) (marks : List Bool) → marks ≡ with_mark (replicate (length lines) false) (length lines) → IsGoneBack lines marks (length lines)
gone_begin lines marks is = subst (λ bs. IsGoneBack lines bs (length lines)) (sym is) (record {
  count = long;
  only = λ m h. elim (marked_before none (length lines) m h) [
    | inl old ↦ absurd (begins lines (length lines) m old)
    | inr same ↦ subst (λ k. StandsOn lines (length lines) k) same itself
  ];
  last = has_now none (length lines);
  closed = λ n line above at h. let w = line_within lines n line at in absurd (omega (arith, above, w.1));
})
  where
    none : List Bool
    none = replicate (length lines) false

    long : length (with_mark none (length lines)) ≡ length lines
    long = length-with_mark none (length lines) ∙ length-none (length lines)

module _ (lines : List Line) (marks : List Bool) (k n : ℕ) (next : suc k ≡ n) (g : IsGoneBack lines marks n) where
  later : (m : ℕ) → k < m → ((m ≡ n) → ⊥) → n < m
  later m above apart = elim (cases_lt n m) [ inl lt ↦ lt | inr le ↦ absurd (apart (omega (arith, above, le, next))) ]

  -- line n is not marked
  pub gone_past : is_marked marks n ≡ false → IsGoneBack lines marks k
  gone_past off = record {
    count = g.count;
    only = g.only;
    last = g.last;
    closed = λ m other above there h. elim (same_or_not n m) [
      | inl same ↦ absurd (true≢false (sym (subst (λ i. is_marked marks i ≡ true) (sym same) h) ∙ off))
      | inr apart ↦ g.closed m other (later m above apart) there h
    ];
  }

  -- line n is marked, and what it names is now
  pub gone_on : (line : Line) → line_at lines n ≡ Some line → LeadBack lines → is_marked marks n ≡ true → IsGoneBack lines (with_premises marks line.how) k
  gone_on line at back on = record {
    count = length-with_premises marks line.how ∙ g.count;
    only = λ m h. elim (premises_before marks line.how m h) [
      | inl old ↦ g.only m old
      | inr p ↦ stands_trans (g.only n on) (premise_stands lines n m line at line.how refl p)
    ];
    last = has_more marks line.how (length lines) g.last;
    closed = closed;
  }
    where
      -- a line after line n is no premise of it
      no_premise : (m : ℕ) (how : How) → IsBefore how n → n < m → IsPremise how m → ⊥
      no_premise m (Axiom name) b above p = p
      no_premise m (Resolve i j) b above (inl e) = absurd (omega (arith, b.0, above, e))
      no_premise m (Resolve i j) b above (inr e) = absurd (omega (arith, b.1, above, e))
      no_premise m (Inst i site) b above e = absurd (omega (arith, b, above, e))

      one_line : (other : Line) → line_at lines n ≡ Some other → other ≡ line
      one_line other there = cc

      closed : (m : ℕ) (other : Line) → k < m → line_at lines m ≡ Some other → is_marked (with_premises marks line.how) m ≡ true → HasPremises (with_premises marks line.how) other.how
      closed m other above there h = elim (same_or_not n m) [
        | inl same ↦ subst (λ (o : Line). HasPremises (with_premises marks line.how) o.how) (sym (one_line other (subst (λ i. line_at lines i ≡ Some other) (sym same) there))) (premises_now marks line.how)
        | inr apart ↦ elim (premises_before marks line.how m h) [
          | inl old ↦ premises_more marks line.how other.how (g.closed m other (later m above apart) there old)
          | inr p ↦ absurd (no_premise m line.how (back n line at) (later m above apart) p)
        ]
      ]

module _ (lines : List Line) (marks : List Bool) (g : IsGoneBack lines marks 0) where
  marked_from : (n m : ℕ) → StandsOn lines n m → 0 < m → m ≤ length lines → is_marked marks n ≡ true → is_marked marks m ≡ true
  marked_from n m itself above within on = on
  marked_from n m (by_first {i = i} line at how s) above within on =
      let p = subst (HasPremises marks) how (g.closed n line (line_within lines n line at).0 at on) in
      let w = stands_within lines i m s above within in
      marked_from i m s above within (p.0 w.0 (subst (λ l. i ≤ l) (sym g.count) w.1))
  marked_from n m (by_second {j = j} line at how s) above within on =
      let p = subst (HasPremises marks) how (g.closed n line (line_within lines n line at).0 at on) in
      let w = stands_within lines j m s above within in
      marked_from j m s above within (p.1 w.0 (subst (λ l. j ≤ l) (sym g.count) w.1))
  marked_from n m (by_site {i = i} line at how s) above within on =
      let p = subst (HasPremises marks) how (g.closed n line (line_within lines n line at).0 at on) in
      let w = stands_within lines i m s above within in
      marked_from i m s above within (p w.0 (subst (λ l. i ≤ l) (sym g.count) w.1))

  pub gone_all : AreNeeded lines marks
  gone_all = record {
    count = g.count;
    only = g.only;
    all = λ m above within s.
        let w = stands_within lines (length lines) m s above within in
        marked_from (length lines) m s above within (g.last w.0 (subst (λ l. length lines ≤ l) (sym g.count) w.1));
  }
