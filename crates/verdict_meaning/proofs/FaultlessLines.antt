-- A derivation without a fault is valid, and refutes.
use Rattle.std.proofs.Common.{◌≡◌, ℕ, zero, suc, ◌<◌, ◌≤◌, ◌⊎◌, inl, inr, ⊎_elim, Bool, true, false, List, [], ◌∷◌, ◌++◌, Option, Some, None, refl, sym, ap, ◌∙◌, subst, arith, length, ltb, get_or}
use Rattle.std.specs.List.{All, Contains}
use Rattle.std.proofs.lemmas.Bool.{cases_eq, ltb-true, ltb-false}
use Rattle.std.proofs.lemmas.List.{get_or_default}
use Rattle.zo_core.specs.Literals.{Literal, opposite, literal_eq}
use Rattle.zo_core.specs.Equality.{literal_eq-true, literal_eq-of}
use Rattle.zo_core.specs.Order.{Ascends, gathered}
use Rattle.zo_core.specs.Resolvents.{joined_on, IsResolvent}
use Rattle.conflict_proof.specs.declared.names.ConstraintName.{ConstraintName}
use Rattle.conflict_proof.specs.declared.derivation.How.{How}
use Rattle.conflict_proof.specs.declared.derivation.How.TheVariants.{Axiom, Resolve, Inst}
use Rattle.conflict_proof.specs.declared.derivation.Line.{Line}
use Rattle.conflict_proof.specs.declared.faults.Reason.{Reason}
use Rattle.transfer_rules.specs.Names.{is_name}
use Rattle.verdict_meaning.specs.Systems.{System, root, count, callee, callees, names_of}
use Rattle.verdict_meaning.specs.Solutions.{counts}
use Rattle.verdict_meaning.specs.Derivations.{line_at, at_site, carried, IsAxiomLine, IsResolventLine, IsInstLine, IsRight, IsRightLine, Refutes}
use Rattle.verdict_meaning.specs.DerivationFaults.{HasFault}
use Rattle.verdict_meaning.specs.DerivationFaults as fault
use Rattle.verdict_meaning.specs.Laws.{FaultlessIsValid}
use Rattle.verdict_meaning.proofs.Conditions.{same_name, itself}

-- it is so, or it is not
abbrev Decided : Type 0 → Type 0
Decided P = P ⊎ (P → ⊥)

both : (P Q : Type 0) → Decided P → Decided Q → Decided (P × Q)
both P Q p q =
    ⊎_elim (λ (h : P). ⊎_elim (λ (k : Q). inl (h, k)) (λ (never : Q → ⊥). inr (λ (x : P × Q). never x.1)) q)
    (λ (never : P → ⊥). inr (λ (x : P × Q). never x.0)) p

differ : true ≡ false → ⊥
differ e = cc

less : (n m : ℕ) → Decided (n < m)
less n m = by_test (ltb n m) refl
  where
    by_test : (b : Bool) → ltb n m ≡ b → Decided (n < m)
    by_test true e = inl (ltb-true n m e)
    by_test false e = let le = ltb-false n m e in inr (λ (lt : n < m). omega arith)

is_on : (b : Bool) → Decided (b ≡ true)
is_on true = inl refl
is_on false = inr (λ (e : false ≡ true). differ (sym e))

-- Equality

name : (m n : ConstraintName) → Decided (m ≡ n)
name m n = by_test (is_name m n) refl
  where
    by_test : (b : Bool) → is_name m n ≡ b → Decided (m ≡ n)
    by_test true e = inl (same_name m n e)
    by_test false e = inr (λ (is : m ≡ n). differ (sym (itself n) ∙ ap (λ (x : ConstraintName). is_name x n) (sym is) ∙ e))

literal : (l m : Literal) → Decided (l ≡ m)
literal l m = by_test (literal_eq l m) refl
  where
    by_test : (b : Bool) → literal_eq l m ≡ b → Decided (l ≡ m)
    by_test true e = inl (literal_eq-true l m e)
    by_test false e = inr (λ (is : l ≡ m). differ (sym (literal_eq-of l m is) ∙ e))

clause : (c d : List Literal) → Decided (c ≡ d)
clause [] [] = inl refl
clause [] (m ∷ d) = inr (never m d)
  where
    never : (m : Literal) (d : List Literal) → [] ≡ m ∷ d → ⊥
    never m d e = cc
clause (l ∷ c) [] = inr (never l c)
  where
    never : (l : Literal) (c : List Literal) → l ∷ c ≡ [] → ⊥
    never l c e = cc
clause (l ∷ c) (m ∷ d) =
    ⊎_elim (λ (h : (l ≡ m) × (c ≡ d)). inl (ap (λ (x : Literal). x ∷ c) h.0 ∙ ap (λ (xs : List Literal). m ∷ xs) h.1))
    (λ (never : (l ≡ m) × (c ≡ d) → ⊥). inr (λ (e : l ∷ c ≡ m ∷ d). never (firsts e, others e)))
    (both (l ≡ m) (c ≡ d) (literal l m) (clause c d))
  where
    firsts : l ∷ c ≡ m ∷ d → l ≡ m
    firsts e = cc

    others : l ∷ c ≡ m ∷ d → c ≡ d
    others e = cc

some_clause : (o : Option (List Literal)) (c : List Literal) → Decided (o ≡ Some c)
some_clause None c = inr never
  where
    never : None ≡ Some c → ⊥
    never e = cc
some_clause (Some d) c = ⊎_elim (λ (e : d ≡ c). inl (ap Some e)) (λ (never : d ≡ c → ⊥). inr (λ (e : Some d ≡ Some c). never (inside e))) (clause d c)
  where
    inside : Some d ≡ Some c → d ≡ c
    inside e = cc

-- Elements

module _ {X : Type 0} (P : X → Type 0) (decide : (x : X) → Decided (P x)) where
  abbrev Found : List X → Type 0
  Found xs = (x : X) × Contains xs x × P x

  found : (xs : List X) → Decided (Found xs)
  found [] = inr (λ (h : Found []). let lt = h.1.1 in omega arith)
  found (x ∷ xs) =
      ⊎_elim (λ (p : P x). inl (x, (0, omega arith, refl), p))
      (λ (not_here : P x → ⊥).
      ⊎_elim (λ (h : Found xs). inl (h.0, (suc h.1.0, (let lt = h.1.1 in omega arith), h.1.2), h.2)) (λ (not_later : Found xs → ⊥). inr (λ (h : Found (x ∷ xs)). neither not_here not_later h.0 h.1 h.2))
      (found xs))
      (decide x)
    where
      neither : (P x → ⊥) → (Found xs → ⊥) → (y : X) → Contains (x ∷ xs) y → P y → ⊥
      neither not_here not_later y (zero, lt, e) p = not_here (subst P (sym e) p)
      neither not_here not_later y (suc k, lt, e) p = not_later (y, (k, omega arith, e), p)

among : {X : Type 0} → ((x y : X) → Decided (x ≡ y)) → (xs : List X) (x : X) → Decided (Contains xs x)
among {X} same xs x =
    ⊎_elim (λ (h : Found (λ y. y ≡ x) (λ y. same y x) xs). inl (subst (Contains xs) h.2 h.1))
    (λ (never : Found (λ y. y ≡ x) (λ y. same y x) xs → ⊥). inr (λ (there : Contains xs x). never (x, there, refl)))
    (found (λ y. y ≡ x) (λ y. same y x) xs)

-- Lines

axiom_is : (s : System) (U : ConstraintName → Bool) (g : ℕ) (n : ConstraintName) (c : List Literal) → Decided (IsAxiomLine s U g n c)
axiom_is s U g n c =
    ⊎_elim (λ (h : Contains (names_of s g) n × ((counts U n ≡ true) × Contains (s.clauses g n) c)). inl (record { there = h.0; counting = h.1.0; clause = h.1.1 }))
    (λ (never : Contains (names_of s g) n × ((counts U n ≡ true) × Contains (s.clauses g n) c) → ⊥). inr (λ (h : IsAxiomLine s U g n c). never (h.there, (h.counting, h.clause))))
    (both _ _ (among name (names_of s g) n) (both _ _ (is_on (counts U n)) (among clause (s.clauses g n) c)))

resolvent : (a b c : List Literal) → Decided (IsResolvent a b c)
resolvent a b c =
    ⊎_elim (λ (h : Found P decide a). inl (h.0, (h.1, h.2.0, h.2.1))) (λ (never : Found P decide a → ⊥). inr (λ (h : IsResolvent a b c). never (h.0, h.1.0, (h.1.1, h.1.2))))
    (found P decide a)
  where
    P : Literal → Type 0
    P x = Contains b (opposite x) × (joined_on x a b ≡ Some c)

    decide : (x : Literal) → Decided (P x)
    decide x = both _ _ (among literal b (opposite x)) (some_clause (joined_on x a b) c)

one_line : (lines : List Line) (n : ℕ) (x y : Line) → line_at lines n ≡ Some x → line_at lines n ≡ Some y → x ≡ y
one_line lines n x y e f = cc

-- the line of a number is there, or none is
line_there : (lines : List Line) (n : ℕ) → ((line : Line) × (line_at lines n ≡ Some line)) ⊎ (line_at lines n ≡ None)
line_there lines n = by_answer (line_at lines n) refl
  where
    by_answer : (o : Option Line) → line_at lines n ≡ o → ((line : Line) × (line_at lines n ≡ Some line)) ⊎ (line_at lines n ≡ None)
    by_answer None e = inr e
    by_answer (Some x) e = inl (x, e)

missing : (lines : List Line) (n : ℕ) (x : Line) → line_at lines n ≡ None → line_at lines n ≡ Some x → ⊥
missing lines n x none there = cc

-- the line of a number is there and P holds of it, or not
at_line : (lines : List Line) (n : ℕ) (P : Line → Type 0) → ((x : Line) → Decided (P x)) → Decided ((x : Line) × (line_at lines n ≡ Some x) × P x)
at_line lines n P decide =
    ⊎_elim
    (λ (x : (line : Line) × (line_at lines n ≡ Some line)).
    ⊎_elim (λ (p : P x.0). inl (x.0, x.1, p))
    (λ (never : P x.0 → ⊥). inr (λ (h : (y : Line) × (line_at lines n ≡ Some y) × P y). never (subst P (one_line lines n h.0 x.0 h.1 x.1) h.2)))
    (decide x.0))
    (λ (none : line_at lines n ≡ None). inr (λ (h : (y : Line) × (line_at lines n ≡ Some y) × P y). missing lines n h.0 none h.1))
    (line_there lines n)

resolvent_is : (lines : List Line) (n g i j : ℕ) (c : List Literal) → Decided (IsResolventLine lines n g i j c)
resolvent_is lines n g i j c =
    ⊎_elim
    (λ (h : Whole). inl (record {
      first = h.0;
      second = h.2.1.0;
      first_at = h.1;
      second_at = h.2.1.1;
      first_earlier = h.2.0.0;
      second_earlier = h.2.1.2.0.0;
      first_group = h.2.0.1;
      second_group = h.2.1.2.0.1;
      resolvent = h.2.1.2.1;
    }))
    (λ (never : Whole → ⊥). inr (λ (r : IsResolventLine lines n g i j c). never (r.first, r.first_at, ((r.first_earlier, r.first_group), (r.second, r.second_at, ((r.second_earlier, r.second_group), r.resolvent))))))
    (at_line lines i First (λ x. both _ _ (both _ _ (less i n) (cases_eq x.group g))
    (at_line lines j (Second x) (λ y. both _ _ (both _ _ (less j n) (cases_eq y.group g)) (resolvent x.lits y.lits c)))))
  where
    Second : Line → Line → Type 0
    Second x y = ((j < n) × (y.group ≡ g)) × IsResolvent x.lits y.lits c

    First : Line → Type 0
    First x = ((i < n) × (x.group ≡ g)) × ((y : Line) × (line_at lines j ≡ Some y) × Second x y)

    Whole : Type 0
    Whole = (x : Line) × (line_at lines i ≡ Some x) × First x

inst_is : (s : System) (lines : List Line) (n g i site : ℕ) (c : List Literal) → Decided (IsInstLine s lines n g i site c)
inst_is s lines n g i site c =
    ⊎_elim
    (λ (h : Whole). inl (record { site_there = h.0; line = h.1.0; there = h.1.1; earlier = h.1.2.0.0; group = h.1.2.0.1; lits = h.1.2.1.0; is_carried = h.1.2.1.1; in_order = h.1.2.1.2 }))
    (λ (never : Whole → ⊥). inr (λ (r : IsInstLine s lines n g i site c). never (r.site_there, (r.line, r.there, ((r.earlier, r.group), (r.lits, r.is_carried, r.in_order))))))
    (both _ _ (less site (length (callees s g))) (at_line lines i P (λ x. both _ _ (both _ _ (less i n) (cases_eq x.group (callee s g site).group)) (carried_is x.lits (carried (at_site s g site) x.lits) refl))))
  where
    IsCarriedTo : List Literal → Type 0
    IsCarriedTo d = (ls : List Literal) × (carried (at_site s g site) d ≡ Some ls) × (gathered ls ≡ Some c)

    P : Line → Type 0
    P x = ((i < n) × (x.group ≡ (callee s g site).group)) × IsCarriedTo x.lits

    Whole : Type 0
    Whole = (site < length (callees s g)) × ((x : Line) × (line_at lines i ≡ Some x) × P x)

    carried_is : (c' : List Literal) (o : Option (List Literal)) → carried (at_site s g site) c' ≡ o → Decided (IsCarriedTo c')
    carried_is c' None e = inr (λ (h : IsCarriedTo c'). never h.0 h.1)
      where
        never : (ls : List Literal) → carried (at_site s g site) c' ≡ Some ls → ⊥
        never ls f = cc
    carried_is c' (Some d) e =
        ⊎_elim (λ (f : gathered d ≡ Some c). inl (d, e, f)) (λ (never : gathered d ≡ Some c → ⊥). inr (λ (h : IsCarriedTo c'). never (moved h.0 h.1 h.2))) (some_clause (gathered d) c)
      where
        moved : (ls : List Literal) → carried (at_site s g site) c' ≡ Some ls → gathered ls ≡ Some c → gathered d ≡ Some c
        moved ls f h = let same : d ≡ ls = cc in ap gathered same ∙ h

-- The last line

-- there is no line, or a last one
last_of : (lines : List Line) → (lines ≡ []) ⊎ ((before : List Line) × (last : Line) × (lines ≡ before ++ last ∷ []))
last_of [] = inl refl
last_of (x ∷ xs) =
    ⊎_elim (λ (e : xs ≡ []). inr ([], x, ap (λ (ys : List Line). x ∷ ys) e))
    (λ (h : (before : List Line) × (last : Line) × (xs ≡ before ++ last ∷ [])). inr (x ∷ h.0, h.1, ap (λ (ys : List Line). x ∷ ys) h.2)) (last_of xs)

no_end : (before : List Line) (last : Line) → [] ≡ before ++ last ∷ [] → ⊥
no_end [] last e = cc
no_end (x ∷ before) last e = cc

one_end : (before other : List Line) (x y : Line) → before ++ x ∷ [] ≡ other ++ y ∷ [] → x ≡ y
one_end [] [] x y e = cc
one_end [] (z ∷ other) x y e = absurd (no_end other y (rest e))
  where
    rest : x ∷ [] ≡ z ∷ (other ++ y ∷ []) → [] ≡ other ++ y ∷ []
    rest f = cc
one_end (z ∷ before) [] x y e = absurd (no_end before x (sym (rest e)))
  where
    rest : z ∷ (before ++ x ∷ []) ≡ y ∷ [] → before ++ x ∷ [] ≡ []
    rest f = cc
one_end (z ∷ before) (w ∷ other) x y e = one_end before other x y (rest e)
  where
    rest : z ∷ (before ++ x ∷ []) ≡ w ∷ (other ++ y ∷ []) → before ++ x ∷ [] ≡ other ++ y ∷ []
    rest f = cc

refuting : (s : System) (lines : List Line) → Decided (Refutes s lines)
refuting s lines =
    ⊎_elim (λ (e : lines ≡ []). inr (λ (r : Refutes s lines). no_end r.before r.last (sym e ∙ r.is)))
    (λ (h : (before : List Line) × (last : Line) × (lines ≡ before ++ last ∷ [])).
    ⊎_elim (λ (p : (h.1.group ≡ root s) × (h.1.lits ≡ [])). inl (record { before = h.0; last = h.1; is = h.2; group = p.0; empty = p.1 }))
    (λ (never : (h.1.group ≡ root s) × (h.1.lits ≡ []) → ⊥).
    inr (λ (r : Refutes s lines).
    let one : r.last ≡ h.1 = one_end r.before h.0 r.last h.1 (sym r.is ∙ h.2) in
    never (subst (λ (x : Line). (x.group ≡ root s) × (x.lits ≡ [])) one (r.group, r.empty))))
    (both _ _ (cases_eq h.1.group (root s)) (clause h.1.lits [])))
    (last_of lines)

-- All

all_of : (P : Literal → Type 0) (c : List Literal) → ((l : Literal) → Contains c l → P l) → All P c
all_of P c each = λ k d lt. each (get_or c k d) (k, lt, get_or_default c k (get_or c k d) d lt)

must : (P : Type 0) → Decided P → ((P → ⊥) → ⊥) → P
must P d never = ⊎_elim (λ (p : P). p) (λ (none : P → ⊥). absurd (never none)) d

at_most : (n m : ℕ) → (m < n → ⊥) → n ≤ m
at_most n m never = ⊎_elim (λ (lt : m < n). absurd (never lt)) (λ (none : m < n → ⊥). omega arith) (less m n)

module _ (s : System) (U : ConstraintName → Bool) (lines : List Line) (none : (why : Reason) (line : ℕ) → HasFault s U lines why line → ⊥) where
  right : (n : ℕ) (line : Line) (how : How) → line_at lines n ≡ Some line → line.how ≡ how → IsRight s U lines n line.group how line.lits
  right n line (Axiom name) at e = must _ (axiom_is s U line.group name line.lits) (λ never. none _ _ (fault.axiom_line n line name at e never))
  right n line (Resolve i j) at e = must _ (resolvent_is lines n line.group i j line.lits) (λ never. none _ _ (fault.resolvent_line n i j line at e never))
  right n line (Inst i site) at e = must _ (inst_is s lines n line.group i site line.lits) (λ never. none _ _ (fault.inst_line n i site line at e never))

  right_line : (n : ℕ) (line : Line) → line_at lines n ≡ Some line → Ascends 0 line.lits → IsRightLine s U lines n line
  right_line n line at up = record {
    group = at_most line.group (root s) (λ gt. none _ _ (fault.group n line at gt));
    clause = (up, all_of (λ (l : Literal). l.var ≤ count s line.group) line.lits (λ l there. at_most l.var (count s line.group) (λ gt. none _ _ (fault.unknown n line l at there (λ _ le. omega arith)))));
    right = right n line line.how at refl;
  }

pub faultless_is_valid : FaultlessIsValid
faultless_is_valid s U lines up none =
    (λ n line at. right_line s U lines none n line at (up n line at), must _ (refuting s lines) (λ never. none _ _ (fault.refutation never)))
