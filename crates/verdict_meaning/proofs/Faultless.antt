-- A certificate without a fault is good.
use Rattle.std.proofs.Common.{◌≡◌, ◌≢◌, ℕ, zero, suc, ◌+◌, ◌<◌, ◌≤◌, ◌⊎◌, inl, inr, ⊎_elim, Bool, true, false, List, [], ◌∷◌, Option, Some, None, refl, sym, ap, ◌∙◌, subst, arith, length, map, ltb, slice_get}
use Rattle.std.specs.List.{Contains}
use Rattle.std.proofs.lemmas.Bool.{cases_eq, ltb-true, ltb-false}
use Rattle.std.proofs.lemmas.Option.{get_or_from_slice_get}
use Rattle.zo_core.specs.Truth.{all_true}
use Rattle.conflict_proof.specs.declared.names.ConstraintName.{ConstraintName}
use Rattle.conflict_proof.specs.declared.faults.Reason.{Reason}
use Rattle.own_cert.specs.declared.certificate.PlaceBits.{PlaceBits}
use Rattle.own_cert.specs.declared.certificate.Instance.{Instance}
use Rattle.own_cert.specs.declared.certificate.Certificate.{Certificate}
use Rattle.verdict_meaning.specs.declared.callee.Callee.{Callee}
use Rattle.verdict_meaning.specs.Systems.{System, root, members, callee}
use Rattle.verdict_meaning.specs.Certificates.{Spot, spots, spot_of, assignment_of, AreRows, IsSite, Agree, IsInstanceOf, IsGoodInstance, IsGoodIn}
use Rattle.verdict_meaning.specs.CertificateFaults.{HasFault}
use Rattle.verdict_meaning.specs.CertificateFaults as fault
use Rattle.verdict_meaning.specs.Laws.{FaultlessIsGood}
use Rattle.verdict_meaning.proofs.Bits.{get_at}

-- numbers that cannot differ are one
one_number : (n m : ℕ) → (n ≢ m → ⊥) → n ≡ m
one_number n m never = ⊎_elim (λ (e : n ≡ m). e) (λ (ne : n ≡ m → ⊥). absurd (never ne)) (cases_eq n m)

less_than : (n m : ℕ) → (m ≤ n → ⊥) → n < m
less_than n m never = by_test (ltb n m) refl
  where
    by_test : (b : Bool) → ltb n m ≡ b → n < m
    by_test true e = ltb-true n m e
    by_test false e = absurd (never (ltb-false n m e))

-- Each number is among others, or is not

has_number : (xs : List ℕ) (x : ℕ) → Contains xs x ⊎ (Contains xs x → ⊥)
has_number [] x = inr (λ (h : Contains [] x). let lt = h.1 in omega arith)
has_number (y ∷ ys) x =
    ⊎_elim (λ (e : y ≡ x). inl (0, omega arith, e))
    (λ (ne : y ≡ x → ⊥).
    ⊎_elim (λ (h : Contains ys x). inl (suc h.0, (let lt = h.1 in omega arith), h.2)) (λ (never : Contains ys x → ⊥). inr (neither ne never)) (has_number ys x))
    (cases_eq y x)
  where
    neither : (y ≡ x → ⊥) → (Contains ys x → ⊥) → Contains (y ∷ ys) x → ⊥
    neither ne never (zero, lt, e) = ne e
    neither ne never (suc k, lt, e) = never (k, omega arith, e)

-- some instance is of a group, or none is
has_group : (is : List Instance) (g : ℕ) → IsInstanceOf is g ⊎ (IsInstanceOf is g → ⊥)
has_group [] g = inr (λ (h : IsInstanceOf [] g). let none = h.there in cc)
has_group (i ∷ is) g =
    ⊎_elim (λ (e : i.group ≡ g). inl (record { number = 0; instance = i; there = refl; group = e }))
    (λ (ne : i.group ≡ g → ⊥).
    ⊎_elim (λ (h : IsInstanceOf is g). inl (record { number = suc h.number; instance = h.instance; there = h.there; group = h.group }))
    (λ (never : IsInstanceOf is g → ⊥). inr (λ (h : IsInstanceOf (i ∷ is) g). neither ne never h.number h.instance h.there h.group)) (has_group is g))
    (cases_eq i.group g)
  where
    neither : (i.group ≡ g → ⊥) → (IsInstanceOf is g → ⊥) → (n : ℕ) (j : Instance) → slice_get (i ∷ is) n ≡ Some j → j.group ≡ g → ⊥
    neither ne never zero j at e = let same : i ≡ j = cc in ne (ap (λ (x : Instance). x.group) same ∙ e)
    neither ne never (suc n) j at e = never (record { number = n; instance = j; there = at; group = e })

-- a site names what it may, or does not
is_site : (s : System) (is : List Instance) (n : ℕ) (c : Callee) (m : ℕ) → IsSite s is n c m ⊎ (IsSite s is n c m → ⊥)
is_site s is n c m = by_place (ltb m n) refl (slice_get is m) refl
  where
    by_place : (b : Bool) → ltb m n ≡ b → (o : Option Instance) → slice_get is m ≡ o → IsSite s is n c m ⊎ (IsSite s is n c m → ⊥)
    by_place false e o at = inr (λ (h : IsSite s is n c m). let lt = h.earlier in let ge = ltb-false m n e in omega arith)
    by_place true e None at = inr (λ (h : IsSite s is n c m). let there = h.there in cc)
    by_place true e (Some i) at =
        ⊎_elim
        (λ (group : i.group ≡ c.group). ⊎_elim (λ (entry : i.entry ≡ c.proc). inl (record { earlier = ltb-true m n e; instance = i; there = at; group = group; entry = entry }))
        (λ (ne : i.entry ≡ c.proc → ⊥). inr (λ (h : IsSite s is n c m). ne (ap (λ (x : Instance). x.entry) (same h) ∙ h.entry))) (cases_eq i.entry c.proc))
        (λ (ne : i.group ≡ c.group → ⊥). inr (λ (h : IsSite s is n c m). ne (ap (λ (x : Instance). x.group) (same h) ∙ h.group))) (cases_eq i.group c.group)
      where
        same : (h : IsSite s is n c m) → i ≡ h.instance
        same h = let there = h.there in cc

-- Rows

-- the place is the one due, where it cannot be another
due : (o : Option Spot) (p : Spot) → (o ≢ Some p → ⊥) → o ≡ Some p
due None p never = absurd (never (λ e. differ e))
  where
    differ : None ≡ Some p → ⊥
    differ e = cc
due (Some q) p never =
    ⊎_elim
    (λ (proc : q.proc ≡ p.proc). ⊎_elim
    (λ (place : q.place ≡ p.place).
    ap (λ (k : ℕ). let at : Spot = record { proc = k; place = q.place } in Some at) proc ∙ ap (λ (k : ℕ). let at : Spot = record { proc = p.proc; place = k } in Some at) place)
    (λ (ne : q.place ≡ p.place → ⊥). absurd (never (λ e. ne (ap (λ (x : Spot). x.place) (same e))))) (cases_eq q.place p.place))
    (λ (ne : q.proc ≡ p.proc → ⊥). absurd (never (λ e. ne (ap (λ (x : Spot). x.proc) (same e))))) (cases_eq q.proc p.proc)
  where
    same : Some q ≡ Some p → q ≡ p
    same e = cc

-- rows each of which is the one due, and of which none is missing
all_due : (rows : List PlaceBits) (ps : List Spot) → ((k : ℕ) (row : PlaceBits) → slice_get rows k ≡ Some row → slice_get ps k ≡ Some (spot_of row)) → length ps ≤ length rows → map spot_of rows ≡ ps
all_due [] [] each le = refl
all_due [] (p ∷ ps) each le = absurd (omega arith)
all_due (row ∷ rows) [] each le = let none = each 0 row refl in cc
all_due (row ∷ rows) (p ∷ ps) each le =
    let first : p ≡ spot_of row = (let at = each 0 row refl in cc) in
    let rest : map spot_of rows ≡ ps = all_due rows ps (λ k. each (suc k)) (omega arith) in
    ap (λ (x : Spot). x ∷ map spot_of rows) (sym first) ∙ ap (λ (xs : List Spot). p ∷ xs) rest

module _ (s : System) (U : ConstraintName → Bool) (c : Certificate) (none : (why : Reason) (line : ℕ) → HasFault s U c why line → ⊥) where
  good_rows : (n : ℕ) (i : Instance) → slice_get c.instances n ≡ Some i → AreRows s i.group i.places
  good_rows n i at = record {
    places = all_due i.places (spots s i.group)
        (λ k row there. due (slice_get (spots s i.group) k) (spot_of row) (λ ne. none _ _ (fault.place n k i row at there ne)))
        (let lt = less_than (length (spots s i.group)) (length i.places + 1) (λ le. none _ _ (fault.missing_place n i at (omega arith))) in omega arith);
    widths = λ k d lt.
        let row = get_at i.places k lt in
        subst (λ (r : PlaceBits). length r.bits ≡ s.width r.proc) (sym (get_or_from_slice_get i.places k row.0 d row.1))
        (one_number (length row.0.bits) (s.width row.0.proc) (λ ne. none _ _ (fault.width n k i row.0 at row.1 ne)));
  }

  good_instance : (n : ℕ) (i : Instance) → slice_get c.instances n ≡ Some i → IsGoodInstance s U c n i
  good_instance n i at =
      let group : i.group < root s = less_than i.group (root s) (λ ge. none _ _ (fault.group n i at ge)) in
      record {
        group = group;
        entry = ⊎_elim (λ (h : Contains (members s i.group) i.entry). h) (λ (never : Contains (members s i.group) i.entry → ⊥). absurd (none _ _ (fault.entry n i at never))) (has_number (members s i.group) i.entry);
        iface = one_number _ _ (λ ne. none _ _ (fault.iface n i at ne));
        count = one_number _ _ (λ ne. none _ _ (fault.count n i at ne));
        rows = good_rows n i at;
        sites = λ k m there.
            ⊎_elim (λ (h : IsSite s c.instances n (callee s i.group k) m). h) (λ (never : IsSite s c.instances n (callee s i.group k) m → ⊥). absurd (none _ _ (fault.site n k m i at there never)))
            (is_site s c.instances n (callee s i.group k) m);
        local = λ name there counting. by_truth name (all_true (assignment_of s c i) (s.clauses i.group name)) refl (λ off. none _ _ (fault.broken n i name at group there counting off));
      }
    where
      by_truth : (name : ConstraintName) (b : Bool) → all_true (assignment_of s c i) (s.clauses i.group name) ≡ b → (all_true (assignment_of s c i) (s.clauses i.group name) ≡ false → ⊥) → all_true (assignment_of s c i) (s.clauses i.group name) ≡ true
      by_truth name true e never = e
      by_truth name false e never = absurd (never e)

  apart : (n m : ℕ) (i j : Instance) → slice_get c.instances n ≡ Some i → slice_get c.instances m ≡ Some j → Agree s i j → n ≡ m
  apart n m i j at at' agree =
      one_number n m (λ ne. ordered ne (less_than m n (λ le. none _ _ (fault.twice n m i j (omega arith) at at' agree))))
    where
      ordered : n ≢ m → m < n → ⊥
      ordered ne lt = none _ _ (fault.twice m n j i lt at' at (record { group = sym agree.group; entry = sym agree.entry; face = sym agree.face }))

  is_good : IsGoodIn s U c
  is_good = record {
    phi = one_number _ _ (λ ne. none _ _ (fault.phi ne));
    each = good_instance;
    apart = apart;
    all = λ g lt. ⊎_elim (λ (h : IsInstanceOf c.instances g). h) (λ (never : IsInstanceOf c.instances g → ⊥). absurd (none _ _ (fault.missing_group g lt never))) (has_group c.instances g);
  }

pub faultless_is_good : FaultlessIsGood
faultless_is_good s U c none = is_good s U c none
