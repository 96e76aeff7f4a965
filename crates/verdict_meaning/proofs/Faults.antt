-- What has a fault is not good, or not valid.
use Rattle.std.proofs.Common.{◌≡◌, ℕ, zero, suc, ◌<◌, ◌≤◌, ◌⊎◌, inl, inr, ⊎_elim, Bool, List, [], ◌∷◌, Option, Some, None, refl, sym, ap, ◌∙◌, subst, arith, length, slice_get}
use Rattle.std.specs.List.{Contains}
use Rattle.std.proofs.lemmas.Option.{slice_get-map, slice_get_within, get_or_from_slice_get}
use Rattle.std.proofs.lemmas.List.{length-map}
use Rattle.std.proofs.lemmas.List.Elements.{All-contains}
use Rattle.zo_core.specs.Literals.{Literal}
use Rattle.zo_core.specs.Order.{Ascends}
use Rattle.conflict_proof.specs.declared.names.ConstraintName.{ConstraintName}
use Rattle.conflict_proof.specs.declared.derivation.How.{How}
use Rattle.conflict_proof.specs.declared.derivation.How.TheVariants.{Axiom, Resolve, Inst}
use Rattle.conflict_proof.specs.declared.derivation.Line.{Line}
use Rattle.conflict_proof.specs.declared.faults.Reason.{Reason}
use Rattle.conflict_proof.specs.declared.faults.Reason.TheVariants as reason
use Rattle.own_cert.specs.declared.certificate.PlaceBits.{PlaceBits}
use Rattle.verdict_meaning.specs.Systems.{System, count}
use Rattle.verdict_meaning.specs.Certificates.{Spot, spots, spot_of}
use Rattle.verdict_meaning.specs.CertificateFaults as certificate
use Rattle.verdict_meaning.specs.Derivations.{line_at, IsRight, IsRightLine, Refutes}
use Rattle.verdict_meaning.specs.DerivationFaults as derivation
use Rattle.verdict_meaning.specs.DerivationFaults.{premises, text_line, end_line}
use Rattle.verdict_meaning.specs.Laws.{FaultyIsNotGood, FaultyIsNotValid}

at_contains : {X : Type 0} (xs : List X) (k : ℕ) (x : X) → slice_get xs k ≡ Some x → Contains xs x
at_contains xs k x at = (k, slice_get_within xs k x at, get_or_from_slice_get xs k x x at)

pub faulty_is_not_good : FaultyIsNotGood
faulty_is_not_good s U c why line (certificate.phi ne) good = ne good.phi
faulty_is_not_good s U c why line (certificate.group n i at ge) good = let lt = (good.each n i at).group in omega arith
faulty_is_not_good s U c why line (certificate.entry n i at none) good = none (good.each n i at).entry
faulty_is_not_good s U c why line (certificate.iface n i at ne) good = ne (good.each n i at).iface
faulty_is_not_good s U c why line (certificate.count n i at ne) good = ne (good.each n i at).count
faulty_is_not_good s U c why line (certificate.place n k i row at there ne) good =
    let rows = (good.each n i at).rows in
    ne (ap (λ (ps : List Spot). slice_get ps k) (sym rows.places) ∙ slice_get-map spot_of i.places k ∙ some_spot (slice_get i.places k) there)
  where
    some_spot : (o : Option PlaceBits) → o ≡ Some row → elim o [ None ↦ None | Some r ↦ Some (spot_of r) ] ≡ Some (spot_of row)
    some_spot None e = cc
    some_spot (Some r) e = let same : r ≡ row = cc in ap (λ (x : PlaceBits). Some (spot_of x)) same
faulty_is_not_good s U c why line (certificate.width n k i row at there ne) good =
    ne (All-contains (λ (r : PlaceBits). length r.bits ≡ s.width r.proc) i.places row (good.each n i at).rows.widths (at_contains i.places k row there))
faulty_is_not_good s U c why line (certificate.missing_place n i at lt) good =
    let rows : length i.places ≡ length (spots s i.group) = sym (length-map i.places spot_of) ∙ ap length (good.each n i at).rows.places in omega arith
faulty_is_not_good s U c why line (certificate.twice n m i j lt at at' agree) good = let same = good.apart n m i j at at' agree in omega arith
faulty_is_not_good s U c why line (certificate.site n k m i at there none) good = none ((good.each n i at).sites k m there)
faulty_is_not_good s U c why line (certificate.broken n i name at lt there counting off) good = let on = (good.each n i at).local name there counting in cc
faulty_is_not_good s U c why line (certificate.missing_group g lt none) good = none (good.all g lt)

-- Lines of derivations

-- lines are numbered from 1
some_line : (lines : List Line) (i : ℕ) (line : Line) → line_at lines i ≡ Some line → 0 < i
some_line lines zero line at = cc
some_line lines (suc i) line at = omega arith

two_cases : (i j k : ℕ) (P : ℕ → Type 0) → P i → P j → Contains (i ∷ j ∷ []) k → P k
two_cases i j k P p q (zero, lt, e) = subst P e p
two_cases i j k P p q (suc zero, lt, e) = subst P e q
two_cases i j k P p q (suc (suc m), lt, e) = absurd (omega arith)

-- the lines that a right line names are there, and earlier
premises_earlier : (s : System) (U : ConstraintName → Bool) (lines : List Line) (n g : ℕ) (how : How) (c : List Literal) → IsRight s U lines n g how c → (i : ℕ) → Contains (premises how) i → (0 < i) × (i < n)
premises_earlier s U lines n g (Axiom name) c right i there = absurd (let lt = there.1 in omega arith)
premises_earlier s U lines n g (Resolve i j) c right k there =
    two_cases i j k (λ (p : ℕ). (0 < p) × (p < n)) (some_line lines i right.first right.first_at, right.first_earlier) (some_line lines j right.second right.second_at, right.second_earlier) there
premises_earlier s U lines n g (Inst i site) c right k there = one there
  where
    one : Contains (i ∷ []) k → (0 < k) × (k < n)
    one (zero, lt, e) = subst (λ (p : ℕ). (0 < p) × (p < n)) e (some_line lines i right.line right.there, right.earlier)
    one (suc m, lt, e) = absurd (omega arith)

ascends_above : (n : ℕ) (c : List Literal) (l : Literal) → Ascends n c → Contains c l → n < l.var
ascends_above n [] l up there = absurd (let lt = there.1 in omega arith)
ascends_above n (m ∷ c) l up (zero, lt, e) = subst (λ (x : Literal). n < x.var) e up.0
ascends_above n (m ∷ c) l up (suc k, lt, e) = let above = ascends_above m.var c l up.1 (k, omega arith, e) in let first = up.0 in omega arith

-- line n is there, and is not right
pub record IsWrongLine (s : System) (U : ConstraintName → Bool) (lines : List Line) (n : ℕ) : Type 0 where
  pub line : Line
  pub there : line_at lines n ≡ Some line
  pub wrong : IsRightLine s U lines n line → ⊥

-- the last line of the text has the fault that the derivation does not refute
pub record IsEndFault (s : System) (lines : List Line) (why : Reason) (at : ℕ) : Type 0 where
  pub why_is : why ≡ reason.NoRefutation
  pub at_is : at ≡ end_line lines
  pub never : Refutes s lines → ⊥

-- where a fault is
pub fault_places : (s : System) (U : ConstraintName → Bool) (lines : List Line) (why : Reason) (at : ℕ) → derivation.HasFault s U lines why at
    → ((n : ℕ) × (at ≡ text_line n) × IsWrongLine s U lines n) ⊎ IsEndFault s lines why at
fault_places s U lines why at (derivation.group n line is gt) = inl (n, refl, record { line = line; there = is; wrong = λ right. let le = right.group in omega arith })
fault_places s U lines why at (derivation.premise n i line is there none) =
    inl (
      n,
      refl,
      record {
        line = line;
        there = is;
        wrong = λ right. let p = premises_earlier s U lines n line.group line.how line.lits right.right i there in none p.0 p.1;
      },
    )
fault_places s U lines why at (derivation.unknown n line l is there none) =
    inl (
      n,
      refl,
      record {
        line = line;
        there = is;
        wrong = λ right.
            none (ascends_above 0 line.lits l right.clause.0 there) (All-contains (λ (m : Literal). m.var ≤ count s line.group) line.lits l right.clause.1 there);
      },
    )
fault_places s U lines why at (derivation.axiom_line n line name is how none) =
    inl (n, refl, record { line = line; there = is; wrong = λ right. none (subst (λ (h : How). IsRight s U lines n line.group h line.lits) how right.right) })
fault_places s U lines why at (derivation.resolvent_line n i j line is how none) =
    inl (n, refl, record { line = line; there = is; wrong = λ right. none (subst (λ (h : How). IsRight s U lines n line.group h line.lits) how right.right) })
fault_places s U lines why at (derivation.inst_line n i site line is how none) =
    inl (n, refl, record { line = line; there = is; wrong = λ right. none (subst (λ (h : How). IsRight s U lines n line.group h line.lits) how right.right) })
fault_places s U lines why at (derivation.refutation none) = inr (record { why_is = refl; at_is = refl; never = none })

pub faulty_is_not_valid : FaultyIsNotValid
faulty_is_not_valid s U lines why at fault valid refutes =
    ⊎_elim (λ (p : (n : ℕ) × (at ≡ text_line n) × IsWrongLine s U lines n). p.2.wrong (valid p.0 p.2.line p.2.there))
    (λ (e : IsEndFault s lines why at). e.never refutes) (fault_places s U lines why at fault)
