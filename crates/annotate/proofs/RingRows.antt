-- Rings: what spreads backwards in the order of a walk.
use Rattle.std.proofs.Common.{◌≡◌, ℕ, zero, suc, ◌+◌, ◌<◌, ◌≤◌, ◌⊎◌, inl, inr, ◌↔◌, List, [], ◌∷◌, ◌++◌, length, reverse, get_or, replicate, refl, sym, ap, subst, ◌∙◌, arith}
use Rattle.std.proofs.lemmas.Bool.{cases_lt, cases_eq}
use Rattle.std.proofs.lemmas.List.{get_or_past, get_or-replicate, length-replicate, reverse-append}
use Rattle.std.specs.List.{Contains}
use Rattle.recursion_groups.proofs.FoundLemmas.{contains_head, contains_tail, contains_cases, contains_none}
use Rattle.annotate.specs.Reach.{Steps, StepsAlong, Reaches, AreMutual}
use Rattle.annotate.specs.Rings.{mark_at, AreRings, AreBackwards}
use Rattle.annotate.specs.Walks.{IsBound, IsOrder, IsWholeOrder}
use Rattle.annotate.specs.Paint.{IsMarked, AreClosed, Paints}
use Rattle.annotate.proofs.ReachRows.{reaches_itself, reaches_on, reaches_more, step_reaches, against, mutual_itself, mutual_back, mutual_on}
use Rattle.annotate.proofs.PaintRows.{marked_within, marked_kept}

-- marked numbers have the mark of a root that is in a ring with them, and their rings are marked
pub record ArePainted (lists : List (List ℕ)) (ms : List ℕ) : Type 0 where
  pub count : length ms ≡ length lists
  pub closed : (p q : ℕ) → IsMarked ms q → Steps lists p q → IsMarked ms p
  pub same : (q r : ℕ) → mark_at ms q ≡ suc r → AreMutual lists q r
  pub all : (p q : ℕ) → IsMarked ms q → AreMutual lists p q → mark_at ms p ≡ mark_at ms q

-- as far as these numbers are left
pub record ArePaintedTo (lists : List (List ℕ)) (ms left : List ℕ) : Type 0 where
  pub painted : ArePainted lists ms
  pub later : List ℕ
  pub order : IsOrder lists (λ u. u < length lists) later left
  pub before : (q : ℕ) → Contains later q → IsMarked ms q
  pub all : (q : ℕ) → q < length lists → IsMarked ms q ⊎ Contains left q
  pub within : (q : ℕ) → Contains left q → q < length lists

no_marks : (n q : ℕ) → mark_at (replicate n 0) q ≡ 0
no_marks n q = elim (cases_lt q n) [
  | inl lt ↦ get_or-replicate n q 0 0 lt
  | inr past ↦ get_or_past (replicate n 0) q 0 (omega (arith, past, length-replicate {A = ℕ} n 0))
]

pub none_painted : (lists : List (List ℕ)) (order ms : List ℕ) → IsWholeOrder lists order → ms ≡ replicate (length lists) 0 → ArePaintedTo lists ms order
none_painted lists order ms h made = record {
  painted = record {
    count = ap length made ∙ length-replicate {A = ℕ} (length lists) 0;
    closed = λ p q k c. absurd (k (none q));
    same = λ q r e. absurd (let z : 0 ≡ suc r = sym (none q) ∙ e in omega (arith, z));
    all = λ p q k m. absurd (k (none q));
  };
  later = [];
  order = h.ordered;
  before = λ q c. absurd (contains_none q c);
  all = λ q lt. inr (h.all q lt);
  within = h.within;
}
  where
    none : (q : ℕ) → mark_at ms q ≡ 0
    none q = ap (λ (k : List ℕ). mark_at k q) made ∙ no_marks (length lists) q

-- Backwards and forwards

module _ (lists back : List (List ℕ)) (are : AreBackwards lists back) where
  turned : (p : ℕ) (rs : List ℕ) (q : ℕ) → StepsAlong back p rs q → Reaches lists q p
  turned p [] q h = subst (λ k. Reaches lists k p) h (reaches_itself lists p)
  turned p (r ∷ rs) q h = reaches_more lists q r p (turned r rs q h.1) ((are.each r p).0 h.0)

  pub closed_back : (ms : List ℕ) → ((p q : ℕ) → IsMarked ms q → Steps lists p q → IsMarked ms p) → AreClosed back ms
  closed_back ms h q p k c = h p q k ((are.each p q).0 c)

  module _ (ms : List ℕ) (root : ℕ) (rest : List ℕ) (w : ArePaintedTo lists ms (root ∷ rest)) (new : List ℕ) (h : Paints back ms root new) where
    marked_back : (p q : ℕ) → IsMarked ms q → Reaches lists p q → IsMarked ms p
    marked_back p q k r = against lists (IsMarked ms) (λ s t m c. w.painted.closed s t m c) p r.0 q r.1 k

    closed : (p q : ℕ) → IsMarked new q → Steps lists p q → IsMarked new p
    closed p q k c = h.closed q p k ((are.each p q).1 c)

    marked_new : (p q : ℕ) → IsMarked new q → Reaches lists p q → IsMarked new p
    marked_new p q k r = against lists (IsMarked new) (λ s t m c. closed s t m c) p r.0 q r.1 k

    ring : (q : ℕ) → mark_at ms q ≡ 0 → IsMarked new q → AreMutual lists q root
    ring q z k =
        let r = (h.fresh q z k).1 in
        let to : Reaches lists q root = turned root r.0 q r.1 in
        let small : q < length lists = (let lt = marked_within new q k in omega (arith, lt, h.count, w.painted.count)) in
        elim (w.order.0 q small to) [
          | inl from ↦ (to, from)
          | inr b ↦ absurd (marked_back q b.0 (w.before b.0 b.1) b.2.1 z)
        ]

    same : (q r : ℕ) → mark_at new q ≡ suc r → AreMutual lists q r
    same q r e = elim (cases_eq (mark_at ms q) 0) [
      | inl z ↦
          let there : IsMarked new q = (λ d. let n : 0 ≡ suc r = sym d ∙ e in omega (arith, n)) in
          let n : suc root ≡ suc r = sym (h.fresh q z there).0 ∙ e in
          let at : root ≡ r = omega (arith, n) in
          subst (λ k. AreMutual lists q k) at (ring q z there)
      | inr d ↦ w.painted.same q r (sym (h.kept q d) ∙ e)
    ]

    all : (p q : ℕ) → IsMarked new q → AreMutual lists p q → mark_at new p ≡ mark_at new q
    all p q k m = elim (cases_eq (mark_at ms q) 0) [
      | inl z ↦ elim (cases_eq (mark_at ms p) 0) [
        | inl y ↦ (h.fresh p y (marked_new p q k m.0)).0 ∙ sym (h.fresh q z k).0
        | inr d ↦ absurd (marked_back q p d m.1 z)
      ]
      | inr d ↦
          let e = w.painted.all p q d m in
          let there : IsMarked ms p = (λ y. d (sym e ∙ y)) in
          h.kept p there ∙ e ∙ sym (h.kept q d)
    ]

    pub painted_on : ArePaintedTo lists new rest
    painted_on = record {
      painted = record { count = h.count ∙ w.painted.count; closed = closed; same = same; all = all };
      later = root ∷ w.later;
      order = w.order.1;
      before = λ q c. elim (contains_cases root q w.later c) [
        | inl e ↦ subst (IsMarked new) e h.start
        | inr k ↦ marked_kept ms new q (w.before q k) (h.kept q (w.before q k))
      ];
      all = λ q lt. elim (w.all q lt) [
        | inl k ↦ inl (marked_kept ms new q k (h.kept q k))
        | inr c ↦ elim (contains_cases root q rest c) [ inl e ↦ inl (subst (IsMarked new) e h.start) | inr k ↦ inr k ]
      ];
      within = λ q c. w.within q (contains_tail root q rest c);
    }

pub all_painted : (lists : List (List ℕ)) (ms : List ℕ) → ArePaintedTo lists ms [] → AreRings lists ms
all_painted lists ms w = record { count = w.painted.count; each = λ p q small low. (rings p q small, (λ m. w.painted.all p q (marked q low) m)) }
  where
    marked : (q : ℕ) → q < length lists → IsMarked ms q
    marked q lt = elim (w.all q lt) [ inl k ↦ k | inr c ↦ absurd (contains_none q c) ]

    named : (m : ℕ) → (m ≡ 0 → ⊥) → (r : ℕ) × (m ≡ suc r)
    named zero n = absurd (n refl)
    named (suc r) n = (r, refl)

    rings : (p q : ℕ) → p < length lists → mark_at ms p ≡ mark_at ms q → AreMutual lists p q
    rings p q small e =
        let r = named (mark_at ms p) (marked p small) in
        mutual_on lists p r.0 q (w.painted.same p r.0 r.1) (mutual_back lists q r.0 (w.painted.same q r.0 (sym e ∙ r.1)))

pub painted_as : (lists : List (List ℕ)) (ms also left : List ℕ) → also ≡ ms → ArePaintedTo lists ms left → ArePaintedTo lists also left
painted_as lists ms also left e w = subst (λ k. ArePaintedTo lists k left) (sym e) w

pub none_left : (xs : List ℕ) → length xs ≡ 0 → xs ≡ []
none_left [] e = refl
none_left (x ∷ xs) e = absurd (omega (arith, e))

-- the last of the list is the first of what is left
pub popped : (xs ys : List ℕ) (x : ℕ) → xs ≡ ys ++ x ∷ [] → reverse xs ≡ x ∷ reverse ys
popped xs ys x e = ap reverse e ∙ reverse-append ys (x ∷ [])
