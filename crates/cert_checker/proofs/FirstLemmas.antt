-- First lines.
use Rattle.std.proofs.Common.{◌≡◌, ℕ, zero, suc, ◌+◌, ◌<◌, ◌≤◌, ◌⊎◌, inl, inr, ⊎_elim, Bool, true, false, List, Option, Some, None, refl, sym, ap, ◌∙◌, subst, arith, length}
use Rattle.std.specs.Prelude.{nat_le, if◌then◌else◌}
use Rattle.std.proofs.lemmas.Bool.{cases_eq, leb-true, leb-false}
use Rattle.conflict_proof.specs.declared.names.ConstraintName.{ConstraintName}
use Rattle.conflict_proof.specs.declared.faults.Reason.{Reason}
use Rattle.conflict_proof.specs.declared.faults.Reason.TheVariants as reason
use Rattle.conflict_proof.specs.declared.faults.BadLine.{BadLine}
use Rattle.own_cert.specs.declared.certificate.Instance.{Instance}
use Rattle.own_cert.specs.declared.certificate.Certificate.{Certificate}
use Rattle.verdict_meaning.specs.Systems.{System}
use Rattle.verdict_meaning.specs.Certificates.{IsGoodIn}
use Rattle.verdict_meaning.specs.CertificateFaults.{HasFault, IsFirstFault, rank, instance_line}
use Rattle.verdict_meaning.specs.CertificateFaults as fault
use Rattle.verdict_meaning.specs.Laws.{FaultlessIsGood, FaultyIsNotGood}
use Rattle.cert_checker.specs.Finding.{IsBelow, IsFirstAt, IsFirstBelow, IsCleanBelow, IsEarlier, earliest}
use Rattle.cert_checker.specs.Checking.{IsFirstOf, IsFirstAmong, IsVerdict, IsRejected, bound_of, nearer}
use Rattle.cert_checker.proofs.LineLemmas.{lt_or_le, line_mono}

pub below_mono : (b : Option ℕ) (k n : ℕ) → k ≤ n → IsBelow b n → IsBelow b k
below_mono None k n le h = tt
below_mono (Some b) k n le h = omega arith

-- what is below the bound stands before what is not
pub below_first : (b : Option ℕ) (k n : ℕ) → IsBelow b k → (IsBelow b n → ⊥) → k ≤ n
below_first b k n h never = ⊎_elim (λ (lt : n < k). absurd (never (below_mono b n k (omega arith) h))) (λ (le : k ≤ n). le) (lt_or_le n k)

pub below_cases : (b : Option ℕ) (n : ℕ) → IsBelow b n ⊎ (IsBelow b n → ⊥)
below_cases None n = inl tt
below_cases (Some b) n = ⊎_elim (λ (lt : n < b). inl lt) (λ (le : b ≤ n). inr (λ h. omega arith)) (lt_or_le n b)

-- Faults of two kinds together

module _ (b : Option ℕ) (P Q R : ℕ → Type 0) (split : (line : ℕ) → R line → P line ⊎ Q line) (left : (line : ℕ) → P line → R line) where
  pub or_none : (found : Option ℕ) → IsFirstBelow b P found → ((line : ℕ) → Q line → IsBelow b line → ⊥) → IsFirstBelow b R found
  or_none None p q = λ line r h. ⊎_elim (λ (x : P line). p line x h) (λ (x : Q line). q line x h) (split line r)
  or_none (Some l) p q = record {
    is = left l p.is;
    below = p.below;
    first = λ other r. ⊎_elim (λ (x : P other). p.first other x) (λ (x : Q other). below_first b l other p.below (q other x)) (split other r);
  }

  -- what the second kind has before the bound is of the first
  pub or_same : (found : Option ℕ) → IsFirstBelow b P found → ((line : ℕ) → Q line → IsBelow b line → P line) → IsFirstBelow b R found
  or_same None p q = λ line r h. ⊎_elim (λ (x : P line). p line x h) (λ (x : Q line). p line (q line x h) h) (split line r)
  or_same (Some l) p q = record {
    is = left l p.is;
    below = p.below;
    first = λ other r.
        ⊎_elim (λ (x : P other). p.first other x)
        (λ (x : Q other). ⊎_elim (λ (h : IsBelow b other). p.first other (q other x h)) (λ (never : IsBelow b other → ⊥). below_first b l other p.below never) (below_cases b other))
        (split other r);
  }

  module _ (right : (line : ℕ) → Q line → R line) where
    none_some : (line : ℕ) → ((l : ℕ) → P l → IsBelow b l → ⊥) → IsFirstAt b Q line → IsFirstAt b R line
    none_some line p q = record {
      is = right line q.is;
      below = q.below;
      first = λ other r. ⊎_elim (λ (x : P other). below_first b line other q.below (p other x)) (λ (x : Q other). q.first other x) (split other r);
    }

    -- the earlier of the first of each
    pub or_first : (one other : Option ℕ) → IsFirstBelow b P one → IsFirstBelow b Q other → IsFirstBelow b R (earliest one other)
    or_first None None p q = or_none None p q
    or_first None (Some line) p q = none_some line p q
    or_first (Some l) None p q = or_none (Some l) p q
    or_first (Some l) (Some line) p q = by_test (nat_le l line) refl
      where
        by_test : (t : Bool) → nat_le l line ≡ t → IsFirstBelow b R (if t then Some l else Some line)
        by_test true e =
            let le = leb-true l line e in
            record {
              is = left l p.is;
              below = p.below;
              first = λ k r. ⊎_elim (λ (x : P k). p.first k x) (λ (x : Q k). let ge = q.first k x in omega (arith, le, ge)) (split k r);
            }
        by_test false e =
            let lt = leb-false l line e in
            record {
              is = right line q.is;
              below = q.below;
              first = λ k r. ⊎_elim (λ (x : P k). let ge = p.first k x in omega (arith, lt, ge)) (λ (x : Q k). q.first k x) (split k r);
            }

    pub or_some : (found : Option ℕ) (line : ℕ) (answer : Option ℕ) → IsFirstBelow b P found → IsFirstAt b Q line → IsEarlier found b line answer → IsFirstBelow b R answer
    or_some None line answer p q e =
        ⊎_elim
        (λ (h : IsBelow b line × (IsBelow None line × (answer ≡ Some line))). subst (IsFirstBelow b R) (sym h.1.1) (none_some line p q))
        (λ (h : (IsBelow b line → IsBelow None line → ⊥) × (answer ≡ None)). absurd (h.0 q.below tt)) e
    or_some (Some l) line answer p q e =
        ⊎_elim
        (λ (h : IsBelow b line × (IsBelow (Some l) line × (answer ≡ Some line))). subst (IsFirstBelow b R) (sym h.1.1) (nearer_one h.1.0))
        (λ (h : (IsBelow b line → IsBelow (Some l) line → ⊥) × (answer ≡ Some l)). subst (IsFirstBelow b R) (sym h.1) (older_one (λ lt. h.0 q.below lt))) e
      where
        nearer_one : line < l → IsFirstAt b R line
        nearer_one lt = record {
          is = right line q.is;
          below = q.below;
          first = λ other r. ⊎_elim (λ (x : P other). let le = p.first other x in omega arith) (λ (x : Q other). q.first other x) (split other r);
        }

        older_one : (line < l → ⊥) → IsFirstAt b R l
        older_one never =
            let le : l ≤ line = ⊎_elim (λ (lt : line < l). absurd (never lt)) (λ (ge : l ≤ line). ge) (lt_or_le line l) in
            record {
              is = left l p.is;
              below = p.below;
              first = λ other r. ⊎_elim (λ (x : P other). p.first other x) (λ (x : Q other). let ge = q.first other x in omega arith) (split other r);
            }

    pub or_either : (found : Option ℕ) (line : ℕ) (answer : Option ℕ) → IsFirstBelow b P found → (IsBelow b line → IsFirstAt b Q line)
        → ((IsBelow b line → ⊥) → (l : ℕ) → Q l → IsBelow b l → ⊥) → IsEarlier found b line answer → IsFirstBelow b R answer
    or_either found line answer p near far e =
        ⊎_elim (λ (h : IsBelow b line). or_some found line answer p (near h) e)
        (λ (never : IsBelow b line → ⊥).
        ⊎_elim (λ (h : IsBelow b line × (IsBelow found line × (answer ≡ Some line))). absurd (never h.0))
        (λ (h : (IsBelow b line → IsBelow found line → ⊥) × (answer ≡ found)). subst (IsFirstBelow b R) (sym h.1) (or_none found p (far never))) e)
        (below_cases b line)

-- Faults of instances, each on the same line of its instance

-- instance n has it
pub record IsAt (is : List Instance) (d : ℕ) (Q : ℕ → Type 0) (line : ℕ) : Type 0 where
  pub number : ℕ
  pub has : Q number
  pub within : number < length is
  pub on : line ≡ instance_line is number + d

module _ (is : List Instance) (d : ℕ) (Q P : ℕ → Type 0) (b : Option ℕ) (to : (n : ℕ) → Q n → P (instance_line is n + d)) (from : (line : ℕ) → P line → IsAt is d Q line) where
  pub first_here : (n line : ℕ) → line ≡ instance_line is n + d → IsBelow b line → Q n → ((m : ℕ) → m < n → Q m → ⊥) → IsFirstAt b P line
  first_here n line e below q none = record {
    is = subst P (sym e) (to n q);
    below = below;
    first = λ other p. later other (from other p);
  }
    where
      later : (other : ℕ) → IsAt is d Q other → line ≤ other
      later other a =
          ⊎_elim (λ (lt : a.number < n). absurd (none a.number lt a.has))
          (λ (le : n ≤ a.number). let m = line_mono is n a.number le in let h = a.on in omega (arith, m, h, e)) (lt_or_le a.number n)

  pub none_beyond : (n line : ℕ) → line ≡ instance_line is n + d → (IsBelow b line → ⊥) → ((m : ℕ) → m < n → Q m → ⊥) → IsFirstBelow b P None
  none_beyond n line e beyond none other p below = by_place (from other p)
    where
      by_place : IsAt is d Q other → ⊥
      by_place a =
          ⊎_elim (λ (lt : a.number < n). none a.number lt a.has)
          (λ (le : n ≤ a.number).
          let m = line_mono is n a.number le in
          let h = a.on in
          beyond (below_mono b line other (omega (arith, m, h, e)) below)) (lt_or_le a.number n)

  pub none_at_all : (n : ℕ) → length is ≤ n → ((m : ℕ) → m < n → Q m → ⊥) → IsFirstBelow b P None
  none_at_all n le none other p below = let a = from other p in let w = a.within in none a.number (omega arith) a.has

-- The answer, reason by reason

pub clean : (s : System) (U : ConstraintName → Bool) (c : Certificate) (r : ℕ) (o : Option BadLine) (why : Reason) → rank why < r → IsFirstAmong r s U c o → IsCleanBelow (bound_of o) (HasFault s U c why)
clean s U c r None why lt f line h below = f why line h lt
clean s U c r (Some bad) why lt f line h below =
    ⊎_elim (λ (l : bad.line < line). let b : line < bad.line = below in absurd (omega (arith, b)))
    (λ (e : (bad.line ≡ line) × (rank bad.reason ≤ rank why)). let b : line < bad.line = below in let same = e.0 in absurd (omega (arith, b, same))) (f.first why line h lt)

module _ (s : System) (U : ConstraintName → Bool) (c : Certificate) where
  pub no_reason : IsFirstAmong 0 s U c None
  no_reason why line h lt = absurd (omega arith)

  -- one reason more
  pub more_reasons : (r : ℕ) (why : Reason) (line : Option ℕ) (o : Option BadLine) → rank why ≡ r
      → ((other : Reason) (at : ℕ) → HasFault s U c other at → rank other < r + 1 → (rank other < r) ⊎ (other ≡ why))
      → IsFirstAmong r s U c o → IsFirstBelow (bound_of o) (HasFault s U c why) line → IsFirstAmong (r + 1) s U c (nearer why line o)
  more_reasons r why None None e cases f g =
      λ other at h lt. ⊎_elim (λ (l : rank other < r). f other at h l) (λ (same : other ≡ why). g at (subst (λ (w : Reason). HasFault s U c w at) same h) tt) (cases other at h lt)
  more_reasons r why None (Some bad) e cases f g = record {
    fault = f.fault;
    among = let l = f.among in omega (arith, l);
    first = λ other at h lt.
        ⊎_elim (λ (l : rank other < r). f.first other at h l)
        (λ (same : other ≡ why).
        let le : bad.line ≤ at = ⊎_elim (λ (b : at < bad.line). absurd (g at (subst (λ (w : Reason). HasFault s U c w at) same h) b)) (λ (x : bad.line ≤ at). x) (lt_or_le at bad.line) in
        let small = f.among in
        let eq : rank other ≡ rank why = ap rank same in
        ⊎_elim (λ (eq' : bad.line ≡ at). inr (eq', omega (arith, small, eq, e)))
        (λ (ne : bad.line ≡ at → ⊥). inl (omega (arith, le, ne))) (cases_eq bad.line at))
        (cases other at h lt);
  }
  more_reasons r why (Some line) o e cases f g = record {
    fault = g.is;
    among = omega (arith, e);
    first = λ other at h lt.
        ⊎_elim (λ (l : rank other < r). inl (older o f g.below other at h l))
        (λ (same : other ≡ why).
        let le : line ≤ at = g.first at (subst (λ (w : Reason). HasFault s U c w at) same h) in
        let eq : rank other ≡ rank why = ap rank same in
        ⊎_elim (λ (eq' : line ≡ at). inr (eq', omega (arith, eq)))
        (λ (ne : line ≡ at → ⊥). inl (omega (arith, le, ne))) (cases_eq line at))
        (cases other at h lt);
  }
    where
      older : (o : Option BadLine) → IsFirstAmong r s U c o → IsBelow (bound_of o) line → (other : Reason) (at : ℕ) → HasFault s U c other at → rank other < r → line < at
      older None f b other at h l = absurd (f other at h l)
      older (Some bad) f b other at h l =
          let lt : line < bad.line = b in
          ⊎_elim (λ (x : bad.line < at). let y : line < at = omega (arith, x, lt) in y)
          (λ (x : (bad.line ≡ at) × (rank bad.reason ≤ rank other)). let same = x.0 in let y : line < at = omega (arith, same, lt) in y) (f.first other at h l)

  -- the reasons of certificates, by rank
  abbrev IsOf : ℕ → Reason → ℕ → Type 0
  IsOf r why at = HasFault s U c why at

  pub only_range : (other : Reason) (at : ℕ) → HasFault s U c other at → rank other < 0 + 1 → (rank other < 0) ⊎ (other ≡ reason.Range)
  only_range reason.Range at h lt = inr refl
  only_range reason.Twice at h lt = absurd (omega arith)
  only_range reason.Site at h lt = absurd (omega arith)
  only_range reason.Broken at h lt = absurd (omega arith)
  only_range _ at h lt = absurd (omega arith)

  pub only_twice : (other : Reason) (at : ℕ) → HasFault s U c other at → rank other < 1 + 1 → (rank other < 1) ⊎ (other ≡ reason.Twice)
  only_twice reason.Range at h lt = inl (omega arith)
  only_twice reason.Twice at h lt = inr refl
  only_twice reason.Site at h lt = absurd (omega arith)
  only_twice reason.Broken at h lt = absurd (omega arith)
  only_twice _ at h lt = absurd (omega arith)

  pub only_site : (other : Reason) (at : ℕ) → HasFault s U c other at → rank other < 2 + 1 → (rank other < 2) ⊎ (other ≡ reason.Site)
  only_site reason.Range at h lt = inl (omega arith)
  only_site reason.Twice at h lt = inl (omega arith)
  only_site reason.Site at h lt = inr refl
  only_site reason.Broken at h lt = absurd (omega arith)
  only_site _ at h lt = absurd (omega arith)

  pub only_broken : (other : Reason) (at : ℕ) → HasFault s U c other at → rank other < 3 + 1 → (rank other < 3) ⊎ (other ≡ reason.Broken)
  only_broken reason.Range at h lt = inl (omega arith)
  only_broken reason.Twice at h lt = inl (omega arith)
  only_broken reason.Site at h lt = inl (omega arith)
  only_broken reason.Broken at h lt = inr refl
  only_broken _ at h lt = absurd (omega arith)

  pub only_missing : (other : Reason) (at : ℕ) → HasFault s U c other at → rank other < 4 + 1 → (rank other < 4) ⊎ (other ≡ reason.Missing)
  only_missing reason.Range at h lt = inl (omega arith)
  only_missing reason.Twice at h lt = inl (omega arith)
  only_missing reason.Site at h lt = inl (omega arith)
  only_missing reason.Broken at h lt = inl (omega arith)
  only_missing reason.Missing at h lt = inr refl
  only_missing reason.Form at h lt = elim h [ ]
  only_missing reason.Axiom at h lt = elim h [ ]
  only_missing reason.Resolvent at h lt = elim h [ ]
  only_missing reason.Inst at h lt = elim h [ ]
  only_missing reason.NoRefutation at h lt = elim h [ ]

  -- the first fault, reason by reason, as it was written down
  pub next_range : (line : Option ℕ) (o p : Option BadLine) → o ≡ None → p ≡ nearer reason.Range line o → IsFirstBelow None (HasFault s U c reason.Range) line → IsFirstAmong 1 s U c p
  next_range line o p e f g =
      subst (IsFirstAmong 1 s U c) (sym (f ∙ ap (nearer reason.Range line) e)) (more_reasons 0 reason.Range line None refl only_range no_reason g)

  pub next_twice : (line bound : Option ℕ) (o p : Option BadLine) → bound ≡ bound_of o → p ≡ nearer reason.Twice line o → IsFirstAmong 1 s U c o → IsFirstBelow bound (HasFault s U c reason.Twice) line
      → IsFirstAmong 2 s U c p
  next_twice line bound o p e f g h =
      subst (IsFirstAmong 2 s U c) (sym f) (more_reasons 1 reason.Twice line o refl only_twice g (subst (λ (b : Option ℕ). IsFirstBelow b (HasFault s U c reason.Twice) line) e h))

  pub next_site : (line bound : Option ℕ) (o p : Option BadLine) → bound ≡ bound_of o → p ≡ nearer reason.Site line o → IsFirstAmong 2 s U c o → IsFirstBelow bound (HasFault s U c reason.Site) line
      → IsFirstAmong 3 s U c p
  next_site line bound o p e f g h =
      subst (IsFirstAmong 3 s U c) (sym f) (more_reasons 2 reason.Site line o refl only_site g (subst (λ (b : Option ℕ). IsFirstBelow b (HasFault s U c reason.Site) line) e h))

  pub next_broken : (line bound : Option ℕ) (o p : Option BadLine) → bound ≡ bound_of o → p ≡ nearer reason.Broken line o → IsFirstAmong 3 s U c o → IsFirstBelow bound (HasFault s U c reason.Broken) line
      → IsFirstAmong 4 s U c p
  next_broken line bound o p e f g h =
      subst (IsFirstAmong 4 s U c) (sym f) (more_reasons 3 reason.Broken line o refl only_broken g (subst (λ (b : Option ℕ). IsFirstBelow b (HasFault s U c reason.Broken) line) e h))

  pub next_missing : (line bound : Option ℕ) (o p : Option BadLine) → bound ≡ bound_of o → p ≡ nearer reason.Missing line o → IsFirstAmong 4 s U c o → IsFirstBelow bound (HasFault s U c reason.Missing) line
      → IsFirstAmong 5 s U c p
  next_missing line bound o p e f g h =
      subst (IsFirstAmong 5 s U c) (sym f) (more_reasons 4 reason.Missing line o refl only_missing g (subst (λ (b : Option ℕ). IsFirstBelow b (HasFault s U c reason.Missing) line) e h))

  -- nothing of these reasons stands before it
  pub clean_at : (r : ℕ) (o : Option BadLine) (bound : Option ℕ) (why : Reason) → bound ≡ bound_of o → rank why < r → IsFirstAmong r s U c o → IsCleanBelow bound (HasFault s U c why)
  clean_at r o bound why e lt f = subst (λ (b : Option ℕ). IsCleanBelow b (HasFault s U c why)) (sym e) (clean s U c r o why lt f)

  small_rank : (why : Reason) → rank why < 5
  small_rank reason.Range = omega arith
  small_rank reason.Twice = omega arith
  small_rank reason.Site = omega arith
  small_rank reason.Broken = omega arith
  small_rank _ = omega arith

  pub verdict : FaultlessIsGood → (o : Option BadLine) → IsFirstAmong 5 s U c o → IsVerdict s U c o
  verdict law None f = law s U c (λ why line h. f why line h (small_rank why))
  verdict law (Some bad) f = record { fault = f.fault; first = λ why line h. f.first why line h (small_rank why) }

  pub rejected : FaultyIsNotGood → (bad : BadLine) → IsFirstFault s U c bad → IsRejected s U c bad
  rejected law bad f = record { fault = f; never = law s U c bad.reason bad.line f.fault }
