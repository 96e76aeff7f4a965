-- The lines for the literals of a trail.
use Rattle.std.proofs.Common.{◌≡◌, ℕ, zero, suc, ◌+◌, ◌<◌, ◌≤◌, inl, inr, Bool, true, false, cond, List, [], ◌∷◌, ◌++◌, length, take, drop, Option, Some, None, slice_get, refl, sym, ap, subst, ◌∙◌, arith}
use Rattle.std.proofs.lemmas.Bool.{cases_Bool, false≢true}
use Rattle.std.proofs.lemmas.Option.{slice_get_within}
use Rattle.std.specs.List.{Contains}
use Rattle.std.proofs.lemmas.List.Elements.{All-weaker, All-contains_itself}
use Rattle.zo_core.specs.Literals.{Literal, opposite, literal_eq}
use Rattle.zo_core.specs.Equality.{literal_eq-true, literal_eq-of}
use Rattle.zo_core.specs.Order.{Ascends}
use Rattle.zo_core.specs.Resolvents.{without, IsResolvent}
use Rattle.conflict_proof.specs.declared.names.ConstraintName.{ConstraintName}
use Rattle.conflict_proof.specs.declared.derivation.How.{How}
use Rattle.conflict_proof.specs.declared.derivation.How.TheVariants.{Axiom, Resolve, Inst}
use Rattle.conflict_proof.specs.declared.derivation.Line.{Line}
use Rattle.verdict_meaning.specs.Systems.{System, root, count}
use Rattle.verdict_meaning.specs.Derivations.{line_at, IsClauseOf, IsAxiomLine, IsRightLine, IsValidIn, NoClauseTwice, at_site, Carried, carried, carried_number, with_number}
use Rattle.unit_refutation.specs.declared.steps.Step.{Step}
use Rattle.unit_refutation.specs.declared.writing.Writer.{Writer}
use Rattle.unit_refutation.specs.Trails.{IsForced, IsCarried, IsStep, IsOnce, IsConsistent}
use Rattle.unit_refutation.specs.Lines.{line_of, IsLineOf, IsWithin, Puts, rest_of, only, IsClauseFor, IsSpelled, IsSpelling, IsOver}
use Rattle.unit_refutation.proofs.ListLemmas.{get_push_cases}
use Rattle.unit_refutation.proofs.ClauseLemmas.{resolvent_without}
use Rattle.unit_refutation.proofs.LineLemmas.{valid_push, once_push, puts_cost}

-- What is left of a clause

tail_contains : (m l : Literal) (c : List Literal) → (m ≡ l → ⊥) → Contains (m ∷ c) l → Contains c l
tail_contains m l c n (zero, lt, e) = absurd (n e)
tail_contains m l c n (suc k, lt, e) = (k, omega arith, e)

in_tail : (m l : Literal) (c : List Literal) → Contains c l → Contains (m ∷ c) l
in_tail m l c (k, lt, e) = (suc k, omega arith, e)

rest-cond : (l m : Literal) (i : ℕ) (c : List Literal) (b : Bool) → literal_eq m l ≡ b → rest_of l (suc i) (m ∷ c) ≡ cond b (m ∷ rest_of l i c) (rest_of l i c)
rest-cond l m i c b e = rw e (by_test b)
  where
    by_test : (b : Bool) → cond b (m ∷ only l (take i c)) (only l (take i c)) ++ drop i c ≡ cond b (m ∷ (only l (take i c) ++ drop i c)) (only l (take i c) ++ drop i c)
    by_test true = refl
    by_test false = refl

-- what is left is of the clause
rest_in : (l m : Literal) (i : ℕ) (c : List Literal) → Contains (rest_of l i c) m → Contains c m
rest_in l m zero c h = h
rest_in l m (suc i) [] h = h
rest_in l m (suc i) (x ∷ c) h = elim (cases_Bool (literal_eq x l)) [
  | inl e ↦
      let there : Contains (x ∷ rest_of l i c) m = subst (λ (ls : List Literal). Contains ls m) (rest-cond l x i c true e) h in
      elim (cases_Bool (literal_eq x m)) [
        | inl same ↦ (0, omega arith, literal_eq-true x m same)
        | inr other ↦ in_tail x m c (rest_in l m i c (tail_contains x m (rest_of l i c) (λ q. false≢true (sym other ∙ literal_eq-of x m q)) there))
      ]
  | inr e ↦ in_tail x m c (rest_in l m i c (subst (λ (ls : List Literal). Contains ls m) (rest-cond l x i c false e) h))
]

-- the literal itself is left
rest_has : (l : Literal) (i : ℕ) (c : List Literal) → Contains c l → Contains (rest_of l i c) l
rest_has l zero c h = h
rest_has l (suc i) [] h = h
rest_has l (suc i) (x ∷ c) h = elim (cases_Bool (literal_eq x l)) [
  | inl e ↦ subst (λ (ls : List Literal). Contains ls l) (sym (rest-cond l x i c true e)) (0, omega arith, literal_eq-true x l e)
  | inr e ↦
      subst (λ (ls : List Literal). Contains ls l) (sym (rest-cond l x i c false e))
      (rest_has l i c (tail_contains x l c (λ q. false≢true (sym e ∙ literal_eq-of x l q)) h))
]

without-cond : (x m : Literal) (c : List Literal) (b : Bool) → literal_eq m x ≡ b → without x (m ∷ c) ≡ cond b (without x c) (m ∷ without x c)
without-cond x m c b e = rw e refl

pub without-no_longer : (m : Literal) (c : List Literal) → length (without m c) ≤ length c
without-no_longer m [] = omega arith
without-no_longer m (x ∷ c) = by_test (literal_eq x m) (without-no_longer m c)
  where
    by_test : (b : Bool) → length (without m c) ≤ length c → length (cond b (without m c) (x ∷ without m c)) ≤ suc (length c)
    by_test true h = omega (arith, h)
    by_test false h = omega (arith, h)

-- a clause without one of its literals is shorter
pub without-shorter : (m : Literal) (c : List Literal) → Contains c m → length (without m c) < length c
without-shorter m [] h = absurd (let lt = h.1 in omega arith)
without-shorter m (x ∷ c) h = elim (cases_Bool (literal_eq x m)) [
  | inl e ↦ let shorter = ap length (without-cond m x c true e) in omega (arith, shorter, without-no_longer m c)
  | inr e ↦
      let shorter = ap length (without-cond m x c false e) in
      let rest = without-shorter m c (tail_contains x m c (λ q. false≢true (sym e ∙ literal_eq-of x m q)) h) in
      omega (arith, shorter, rest)
]

-- Each clause is for one place

not_both : (trail : List Step) (j k group : ℕ) (c : List Literal) → IsOnce trail → IsConsistent trail → j < k → IsClauseFor trail j group c → IsClauseFor trail k group c → ⊥
not_both trail j k group c once consistent lt a b =
    let within : k < length trail = slice_get_within trail k b.step b.there in
    elim (cases_Bool (literal_eq a.step.lit b.step.lit)) [
      | inl e ↦
          let same : j ≡ k = once j k a.step b.step a.there b.there (a.is_group ∙ sym b.is_group) (literal_eq-true a.step.lit b.step.lit e) in
          omega (arith, lt, same)
      | inr e ↦
          let h = b.others a.step.lit a.holds (λ q. false≢true (sym e ∙ literal_eq-of a.step.lit b.step.lit q)) in
          let earlier = h.earlier in
          consistent h.place j h.stands.step a.step (omega (arith, earlier, within)) (omega (arith, lt, within)) h.stands.there a.there
          (h.stands.is_group ∙ sym a.is_group) h.stands.is_lit
    ]

-- the clause in which a literal is left with others of the clause that forces it
pub forced_for : (s : System) (U : ConstraintName → Bool) (trail : List Step) (place : ℕ) (step : Step) (name : ConstraintName) (c : List Literal) (i : ℕ)
    → slice_get trail place ≡ Some step → IsForced s U trail place step.group name c step.lit → IsClauseFor trail place step.group (rest_of step.lit i c)
forced_for s U trail place step name c i at f = record {
  step = step;
  there = at;
  is_group = refl;
  holds = rest_has step.lit i c f.holds;
  others = λ m has ne. f.denied m (rest_in step.lit m i c has) ne;
}

-- the clause of the literal alone
pub alone_for : (trail : List Step) (place : ℕ) (step : Step) → slice_get trail place ≡ Some step → IsClauseFor trail place step.group (step.lit ∷ [])
alone_for trail place step at = record {
  step = step;
  there = at;
  is_group = refl;
  holds = (0, omega arith, refl);
  others = λ m has ne. absurd (ne (alone m step.lit has));
}
  where
    alone : (m l : Literal) → Contains (l ∷ []) m → m ≡ l
    alone m l (zero, lt, e) = sym e
    alone m l (suc k, lt, e) = absurd (omega arith)

-- a clause for a place is one of the group's unknowns
pub clause_within : (s : System) (U : ConstraintName → Bool) (trail : List Step) (place group : ℕ) (c : List Literal)
    → ((p : ℕ) (f : Step) → slice_get trail p ≡ Some f → IsStep s U trail p f) → Ascends 0 c → IsClauseFor trail place group c → IsClauseOf s group c
clause_within s U trail place group c each order h = (order, All-weaker (Contains c) (λ (m : Literal). m.var ≤ count s group) each_within c (All-contains_itself c))
  where
    of_group : (n : ℕ) (f : Step) → slice_get trail n ≡ Some f → f.group ≡ group → f.lit.var ≤ count s group
    of_group n f at g = subst (λ (e : ℕ). f.lit.var ≤ count s e) g (each n f at).within

    each_within : (m : Literal) → Contains c m → m.var ≤ count s group
    each_within m has = elim (cases_Bool (literal_eq m h.step.lit)) [
      | inl e ↦
          let same = ap (λ (x : Literal). x.var) (literal_eq-true m h.step.lit e) in
          let le = of_group place h.step h.there h.is_group in
          omega (arith, same, le)
      | inr e ↦
          let b = h.others m has (λ q. false≢true (sym e ∙ literal_eq-of m h.step.lit q)) in
          let same = ap (λ (x : Literal). x.var) b.stands.is_lit in
          let le = of_group b.place b.stands.step b.stands.there b.stands.is_group in
          omega (arith, same, le)
    ]

-- One line more

number_earlier : (lines : List Line) (n : ℕ) (line : Line) → line_at lines n ≡ Some line → n < length lines + 1
number_earlier lines zero line e = omega arith
number_earlier lines (suc n) line e = let lt : n < length lines = slice_get_within lines n line e in omega (arith, lt)

-- the clause that forces a literal is a right line
pub axiom_right : (s : System) (U : ConstraintName → Bool) (lines : List Line) (group : ℕ) (name : ConstraintName) (c : List Literal)
    → group ≤ root s → IsClauseOf s group c → IsAxiomLine s U group name c → IsRightLine s U lines (length lines + 1) (line_of group (Axiom name) c)
axiom_right s U lines group name c le is own = record { group = le; clause = is; right = own }

-- so is a clause without one of its literals, whose opposite has a line
pub resolvent_right : (s : System) (U : ConstraintName → Bool) (lines : List Line) (group i j : ℕ) (c : List Literal) (m : Literal)
    → group ≤ root s → IsClauseOf s group (without m c) → Ascends 0 c → Contains c m → IsLineOf lines i group c → IsLineOf lines j group (opposite m ∷ [])
    → IsRightLine s U lines (length lines + 1) (line_of group (Resolve i j) (without m c))
resolvent_right s U lines group i j c m le is order has a b = record {
  group = le;
  clause = is;
  right = record {
    first = a.line;
    second = b.line;
    first_at = a.there;
    second_at = b.there;
    first_earlier = number_earlier lines i a.line a.there;
    second_earlier = number_earlier lines j b.line b.there;
    first_group = a.is_group;
    second_group = b.is_group;
    resolvent =
        subst (λ (x : List Literal). IsResolvent x b.line.lits (without m c)) (sym a.is_lits)
        (subst (λ (x : List Literal). IsResolvent c x (without m c)) (sym b.is_lits) (resolvent_without c m order has));
  };
}

carried_alone : (ps : List Carried) (l m : Literal) → carried_number ps m.var ≡ Some l.var → l.sign ≡ m.sign → carried ps (m ∷ []) ≡ Some (l ∷ [])
carried_alone ps l m number sign =
    ap (with_number m.sign []) number
    ∙ ap (λ (b : Bool). let x : Literal = record { var = l.var; sign = b } in Some (x ∷ [])) (sym sign)

-- so is the line of a literal that stands at a site for one of the called group
pub instance_right : (s : System) (U : ConstraintName → Bool) (lines : List Line) (trail : List Step) (place group i site lower : ℕ) (m lit : Literal)
    → group ≤ root s → IsClauseOf s group (lit ∷ []) → (h : IsCarried s trail place group site lower m lit) → IsLineOf lines i lower (m ∷ [])
    → IsRightLine s U lines (length lines + 1) (line_of group (Inst i site) (lit ∷ []))
instance_right s U lines trail place group i site lower m lit le is h a = record {
  group = le;
  clause = is;
  right = record {
    site_there = h.site_there;
    line = a.line;
    there = a.there;
    earlier = number_earlier lines i a.line a.there;
    group = a.is_group ∙ sym h.called;
    lits = lit ∷ [];
    is_carried = ap (carried (at_site s group site)) a.is_lits ∙ carried_alone (at_site s group site) lit m h.stands.unknown h.stands.sign;
    in_order = refl;
  };
}

-- The lines of one place

pub spelling_begins : (s : System) (U : ConstraintName → Bool) (trail : List Step) (place least : ℕ) (lines : List Line) → IsSpelled s U trail place lines → IsSpelling s U trail place least lines
spelling_begins s U trail place least lines h = record { valid = h.valid; once = h.once; each = λ k line at. inl (h.each k line at) }

pub spelling_ends : (s : System) (U : ConstraintName → Bool) (trail : List Step) (place least : ℕ) (lines : List Line) → IsSpelling s U trail place least lines → IsSpelled s U trail (place + 1) lines
spelling_ends s U trail place least lines h = record {
  valid = h.valid;
  once = h.once;
  each = λ k line at. elim (h.each k line at) [
    | inl b ↦ record { place = b.place; earlier = let lt = b.earlier in omega (arith, lt); is = b.is }
    | inr b ↦ record { place = place; earlier = omega arith; is = b.0 }
  ];
}

-- a place without lines
pub spelled_on : (s : System) (U : ConstraintName → Bool) (trail : List Step) (place : ℕ) (lines : List Line) → IsSpelled s U trail place lines → IsSpelled s U trail (place + 1) lines
spelled_on s U trail place lines h = spelling_ends s U trail place 0 lines (spelling_begins s U trail place 0 lines h)

-- the clause is for the same place
same_clause : (trail : List Step) (place g h : ℕ) (c d : List Literal) → g ≡ h → c ≡ d → IsClauseFor trail place g c → IsClauseFor trail place h d
same_clause trail place g h c d e f own = subst (λ (x : List Literal). IsClauseFor trail place h x) f (subst (λ (x : ℕ). IsClauseFor trail place x c) e own)

pub spelling_push : (s : System) (U : ConstraintName → Bool) (trail : List Step) (place least : ℕ) (lines : List Line) (group : ℕ) (how : How) (c : List Literal)
    → IsOnce trail → IsConsistent trail → IsSpelling s U trail place least lines → length c < least → IsClauseFor trail place group c
    → IsRightLine s U lines (length lines + 1) (line_of group how c) → IsSpelling s U trail place (length c) (lines ++ line_of group how c ∷ [])
spelling_push s U trail place least lines group how c once consistent h shorter own right = record {
  valid = valid_push s U lines (line_of group how c) h.valid right;
  once = once_push lines (line_of group how c) h.once
      (λ k m at g e. elim (h.each k m at) [
        | inl b ↦ not_both trail b.place place group c once consistent b.earlier (same_clause trail b.place m.group group m.lits c g e b.is) own
        | inr b ↦ let longer = b.1 in let size = ap length e in omega (arith, shorter, longer, size)
      ]);
  each = λ k m at. elim (get_push_cases lines (line_of group how c) k m at) [
    | inl old ↦ elim (h.each k m old) [
      | inl b ↦ inl b
      | inr b ↦ inr (b.0, (let longer = b.1 in omega (arith, shorter, longer)))
    ]
    | inr new ↦ inr (
      same_clause trail place group m.group c m.lits (ap (λ (x : Line). x.group) new.1) (ap (λ (x : Line). x.lits) new.1) own,
      (let size = ap (λ (x : Line). length x.lits) new.1 in omega (arith, size)),
    )
  ];
}

-- the same of what a writer put
pub spelling_put : (s : System) (U : ConstraintName → Bool) (trail : List Step) (place least : ℕ) (old new : Writer) (group : ℕ) (how : How) (c : List Literal) (n : Option ℕ)
    → IsOnce trail → IsConsistent trail → IsSpelling s U trail place least old.lines.items → length c < least → IsClauseFor trail place group c
    → IsRightLine s U old.lines.items (length old.lines.items + 1) (line_of group how c) → Puts group how c old new n → IsSpelling s U trail place (length c) new.lines.items
spelling_put s U trail place least old new group how c n once consistent h shorter own right p =
    subst (λ (ls : List Line). IsSpelling s U trail place (length c) ls) (sym p.lines) (spelling_push s U trail place least old.lines.items group how c once consistent h shorter own right)

-- a line that went over the budget
pub put_over : (s : System) (U : ConstraintName → Bool) (group : ℕ) (how : How) (c : List Literal) (old new : Writer)
    → IsWithin old → Puts group how c old new None → IsValidIn s U new.lines.items → NoClauseTwice new.lines.items → IsOver s U new
put_over s U group how c old new w p valid once = record {
  valid = valid;
  once = once;
  cost = puts_cost group how c old new None w.cost p;
  over = p.answer;
  before = old.lines.items;
  last = line_of group how c;
  is = p.lines;
  within = let e = w.cost in let f = p.budget in let le = w.within in omega (arith, e, f, le);
}

pub spelling_over : (s : System) (U : ConstraintName → Bool) (trail : List Step) (place least group : ℕ) (how : How) (c : List Literal) (old new : Writer)
    → IsWithin old → Puts group how c old new None → IsSpelling s U trail place least new.lines.items → IsOver s U new
spelling_over s U trail place least group how c old new w p h = put_over s U group how c old new w p h.valid h.once
