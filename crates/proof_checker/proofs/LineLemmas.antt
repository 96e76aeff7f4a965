-- Lines of a derivation: what is there by number, what a line is that is right, and what its fault is.
use Rattle.std.proofs.Common.{◌≡◌, ℕ, zero, suc, ◌+◌, ◌-◌, ◌<◌, ◌≤◌, ◌⊎◌, inl, inr, ⊎_elim, Bool, true, false, List, [], ◌∷◌, Some, None, refl, sym, ap, ◌∙◌, subst, arith, length, ltb, get_or, slice_get, add-one}
use Rattle.std.specs.Prelude.{MatchBool}
use Rattle.std.specs.List.{Contains, All}
use Rattle.std.proofs.lemmas.Bool.{cases_eq, ltb-true, ltb-false}
use Rattle.std.proofs.lemmas.List.Elements.{All-contains}
use Rattle.std.proofs.lemmas.Option.{slice_get_within, slice_get_read, get_or_from_slice_get}
use Rattle.zo_core.specs.Literals.{Literal}
use Rattle.zo_core.specs.Order.{Ascends, gathered}
use Rattle.zo_core.specs.Resolvents.{IsResolvent}
use Rattle.conflict_proof.specs.declared.names.ConstraintName.{ConstraintName}
use Rattle.conflict_proof.specs.declared.derivation.How.{How}
use Rattle.conflict_proof.specs.declared.derivation.How.TheVariants.{Axiom, Resolve, Inst}
use Rattle.conflict_proof.specs.declared.derivation.Line.{Line}
use Rattle.conflict_proof.specs.declared.faults.Reason.{Reason}
use Rattle.conflict_proof.specs.declared.faults.Reason.TheVariants as reason
use Rattle.conflict_proof.specs.declared.faults.BadLine.{BadLine}
use Rattle.verdict_meaning.specs.declared.callee.Callee.{Callee}
use Rattle.verdict_meaning.specs.Systems.{System, root, count, callee, callees, nobody}
use Rattle.verdict_meaning.specs.Derivations.{line_at, at_site, carried, IsRight, IsRightLine, IsResolventLine, IsInstLine, IsValidIn, Refutes}
use Rattle.verdict_meaning.specs.DerivationFaults.{HasFault, IsFirstFault, premises, text_line, end_line, rank}
use Rattle.verdict_meaning.specs.DerivationFaults as fault
use Rattle.verdict_meaning.specs.Laws.{UsedAreUnsatisfiable, FaultyIsNotValid}
use Rattle.verdict_meaning.proofs.Faults.{IsWrongLine, IsEndFault, fault_places}
use Rattle.proof_checker.specs.Checking.{AreEarlier, IsLaterNamed, IsInRange, IsFirstReason, IsLineVerdict, IsVerdict, IsAccepted, IsRejected, reason_of}
use Rattle.proof_checker.proofs.PivotLemmas.{above, gathered-itself}
use Rattle.proof_checker.proofs.CarryLemmas.{carried-ascends}

-- Answers

pub match_iff : (b : Bool) (P Q : Type 0) → MatchBool b P (P → ⊥) → (P → Q) → (Q → P) → MatchBool b Q (Q → ⊥)
match_iff true P Q m f g = f m
match_iff false P Q m f g = λ q. m (g q)

pub match_true : (b : Bool) (P Q : Type 0) → b ≡ true → MatchBool b P Q → P
match_true true P Q e m = m
match_true false P Q e m = cc

pub match_false : (b : Bool) (P Q : Type 0) → b ≡ false → MatchBool b P Q → Q
match_false true P Q e m = cc
match_false false P Q e m = m

lt_or_le : (n m : ℕ) → (n < m) ⊎ (m ≤ n)
lt_or_le n m = by_test (ltb n m) refl
  where
    by_test : (b : Bool) → ltb n m ≡ b → (n < m) ⊎ (m ≤ n)
    by_test true e = inl (ltb-true n m e)
    by_test false e = inr (ltb-false n m e)

-- Lines by number

pub next_line : (lines : List Line) (k : ℕ) (x : Line) → slice_get lines k ≡ Some x → line_at lines (k + 1) ≡ Some x
next_line lines k x e = rw add-one e

pub read_next : (lines : List Line) (k : ℕ) (x : Line) → k < length lines → x ≡ get_or lines k x → slice_get lines k ≡ Some x
read_next lines k x lt e = slice_get_read lines (length lines) k x refl lt e

pub read_number : (lines : List Line) (i : ℕ) (x : Line) → 0 < i → i - 1 < length lines → x ≡ get_or lines (i - 1) x → line_at lines i ≡ Some x
read_number lines zero x pos lt e = absurd (omega arith)
read_number lines (suc i) x pos lt e =
    let is : suc i - 1 ≡ i = omega arith in
    rw is at (slice_get_read lines (length lines) (suc i - 1) x refl lt e)

one_line : (lines : List Line) (n : ℕ) (x y : Line) → line_at lines n ≡ Some x → line_at lines n ≡ Some y → x ≡ y
one_line lines n x y e f = cc

pub within : (lines : List Line) (n : ℕ) (x : Line) → line_at lines n ≡ Some x → n ≤ length lines
within lines zero x e = cc
within lines (suc n) x e = let lt = slice_get_within lines n x e in omega arith

-- Resolvents and instances

pub resolvent_line : (lines : List Line) (n g i j : ℕ) (c : List Literal) (first second : Line) (b : Bool)
    → line_at lines i ≡ Some first → line_at lines j ≡ Some second → i < n → j < n → first.group ≡ g → second.group ≡ g
    → MatchBool b (IsResolvent first.lits second.lits c) (IsResolvent first.lits second.lits c → ⊥)
    → MatchBool b (IsResolventLine lines n g i j c) (IsResolventLine lines n g i j c → ⊥)
resolvent_line lines n g i j c first second b at at' lt lt' e e' m =
    match_iff b _ _ m
    (λ r. record { first = first; second = second; first_at = at; second_at = at'; first_earlier = lt; second_earlier = lt'; first_group = e; second_group = e'; resolvent = r })
    (λ q.
    let one : q.first ≡ first = one_line lines i q.first first q.first_at at in
    let other : q.second ≡ second = one_line lines j q.second second q.second_at at' in
    let P : Line → Type 0 = λ x. IsResolvent x.lits q.second.lits c in
    let Q : Line → Type 0 = λ x. IsResolvent first.lits x.lits c in
    subst Q other (subst P one q.resolvent))

pub resolvent_first_group : (lines : List Line) (n g i j : ℕ) (c : List Literal) (first : Line) → line_at lines i ≡ Some first → (first.group ≡ g → ⊥) → IsResolventLine lines n g i j c → ⊥
resolvent_first_group lines n g i j c first at ne q = ne (ap (λ (x : Line). x.group) (one_line lines i first q.first at q.first_at) ∙ q.first_group)

pub resolvent_second_group : (lines : List Line) (n g i j : ℕ) (c : List Literal) (second : Line) → line_at lines j ≡ Some second → (second.group ≡ g → ⊥) → IsResolventLine lines n g i j c → ⊥
resolvent_second_group lines n g i j c second at ne q = ne (ap (λ (x : Line). x.group) (one_line lines j second q.second at q.second_at) ∙ q.second_group)

no_callee : (xs : List Callee) (k : ℕ) → slice_get xs k ≡ None → k < length xs → ⊥
no_callee [] k e lt = omega arith
no_callee (x ∷ xs) zero e lt = cc
no_callee (x ∷ xs) (suc k) e lt = no_callee xs k e (omega arith)

pub inst_no_site : (s : System) (lines : List Line) (n g i site : ℕ) (c : List Literal) → slice_get (callees s g) site ≡ None → IsInstLine s lines n g i site c → ⊥
inst_no_site s lines n g i site c none q = no_callee (callees s g) site none q.site_there

callee_is : (s : System) (g site : ℕ) (to : Callee) → slice_get (callees s g) site ≡ Some to → callee s g site ≡ to
callee_is s g site to e = get_or_from_slice_get (callees s g) site to nobody e

pub inst_group : (s : System) (lines : List Line) (n g i site : ℕ) (c : List Literal) (from : Line) (to : Callee) → slice_get (callees s g) site ≡ Some to → line_at lines i ≡ Some from
    → (from.group ≡ to.group → ⊥) → IsInstLine s lines n g i site c → ⊥
inst_group s lines n g i site c from to there at ne q =
    ne (ap (λ (x : Line). x.group) (one_line lines i from q.line at q.there) ∙ q.group ∙ ap (λ (x : Callee). x.group) (callee_is s g site to there))

pub inst_line : (s : System) (lines : List Line) (n g i site : ℕ) (c : List Literal) (from : Line) (to : Callee) (b : Bool)
    → slice_get (callees s g) site ≡ Some to → line_at lines i ≡ Some from → i < n → from.group ≡ to.group → Ascends 0 from.lits → Ascends 0 c
    → MatchBool b (carried (at_site s g site) from.lits ≡ Some c) (carried (at_site s g site) from.lits ≡ Some c → ⊥)
    → MatchBool b (IsInstLine s lines n g i site c) (IsInstLine s lines n g i site c → ⊥)
inst_line s lines n g i site c from to b there at lt e up up' m =
    match_iff b _ _ m
    (λ r. record {
      site_there = slice_get_within (callees s g) site to there;
      line = from;
      there = at;
      earlier = lt;
      group = e ∙ ap (λ (x : Callee). x.group) (sym (callee_is s g site to there));
      lits = c;
      is_carried = r;
      in_order = gathered-itself c up';
    })
    (λ q.
    let one : q.line ≡ from = one_line lines i q.line from q.there at in
    let is : carried (at_site s g site) from.lits ≡ Some q.lits = ap (λ (x : Line). carried (at_site s g site) x.lits) (sym one) ∙ q.is_carried in
    let ordered : gathered q.lits ≡ Some q.lits = gathered-itself q.lits (carried-ascends s g site from.lits q.lits up is) in
    is ∙ sym ordered ∙ q.in_order)

-- What is wrong with a line

pub from_later : (s : System) (U : ConstraintName → Bool) (lines : List Line) (n : ℕ) (line : Line) → line_at lines n ≡ Some line → IsLaterNamed line.how n → HasFault s U lines reason.Range (text_line n)
from_later s U lines n line at (i, there, none) = fault.premise n i line at there none

pub from_unknown : (s : System) (U : ConstraintName → Bool) (lines : List Line) (n : ℕ) (line : Line) → line_at lines n ≡ Some line → (l : Literal) × Contains line.lits l × (l.var ≤ count s line.group → ⊥)
    → HasFault s U lines reason.Range (text_line n)
from_unknown s U lines n line at (l, there, none) = fault.unknown n line l at there (λ _ le. none le)

pub from_group : (s : System) (U : ConstraintName → Bool) (lines : List Line) (n : ℕ) (line : Line) → line_at lines n ≡ Some line → root s < line.group → HasFault s U lines reason.Range (text_line n)
from_group s U lines n line at gt = fault.group n line at gt

wrong : (s : System) (U : ConstraintName → Bool) (lines : List Line) (n : ℕ) (line : Line) (how : How) → line_at lines n ≡ Some line → line.how ≡ how
    → (IsRight s U lines n line.group how line.lits → ⊥) → HasFault s U lines (reason_of how) (text_line n)
wrong s U lines n line (Axiom name) at e none = fault.axiom_line n line name at e none
wrong s U lines n line (Resolve i j) at e none = fault.resolvent_line n i j line at e none
wrong s U lines n line (Inst i site) at e none = fault.inst_line n i site line at e none

same_text_line : (n m : ℕ) → text_line n ≡ text_line m → n ≡ m
same_text_line n m e = omega arith

-- whether a line is in range, where its group exists and the lines that it names are earlier ones
range_of : (s : System) (U : ConstraintName → Bool) (lines : List Line) (n : ℕ) (line : Line) (b : Bool) → line_at lines n ≡ Some line → line.group ≤ root s → AreEarlier line.how n → Ascends 0 line.lits
    → MatchBool b (All (λ (l : Literal). l.var ≤ count s line.group) line.lits) ((l : Literal) × Contains line.lits l × (l.var ≤ count s line.group → ⊥))
    → MatchBool b (IsInRange s n line) (HasFault s U lines reason.Range (text_line n))
range_of s U lines n line true at le early up m = record { group = le; earlier = early; unknowns = (up, m) }
range_of s U lines n line false at le early up m = from_unknown s U lines n line at m

pub range_by : (s : System) (U : ConstraintName → Bool) (lines : List Line) (n : ℕ) (line : Line) (b : Bool) (lits : List Literal) (most : ℕ) → line_at lines n ≡ Some line → line.group ≤ root s
    → AreEarlier line.how n → Ascends 0 line.lits → lits ≡ line.lits → most ≡ count s line.group
    → MatchBool b (All (λ (l : Literal). l.var ≤ most) lits) ((l : Literal) × Contains lits l × (l.var ≤ most → ⊥))
    → MatchBool b (IsInRange s n line) (HasFault s U lines reason.Range (text_line n))
range_by s U lines n line b lits most at le early up e f m =
    let P : List Literal → Type 0 = λ c. MatchBool b (All (λ (l : Literal). l.var ≤ most) c) ((l : Literal) × Contains c l × (l.var ≤ most → ⊥)) in
    let Q : ℕ → Type 0 = λ k. MatchBool b (All (λ (l : Literal). l.var ≤ k) line.lits) ((l : Literal) × Contains line.lits l × (l.var ≤ k → ⊥)) in
    range_of s U lines n line b at le early up (subst Q f (subst P e m))

pub earlier_first : (how : How) (n i j : ℕ) → how ≡ Resolve i j → AreEarlier how n → (0 < i) × (i < n)
earlier_first how n i j e h = let P : How → Type 0 = λ x. Contains (premises x) i in h i (subst P (sym e) (0, omega arith, refl))

pub earlier_second : (how : How) (n i j : ℕ) → how ≡ Resolve i j → AreEarlier how n → (0 < j) × (j < n)
earlier_second how n i j e h = let P : How → Type 0 = λ x. Contains (premises x) j in h j (subst P (sym e) (1, omega arith, refl))

pub earlier_inst : (how : How) (n i site : ℕ) → how ≡ Inst i site → AreEarlier how n → (0 < i) × (i < n)
earlier_inst how n i site e h = let P : How → Type 0 = λ x. Contains (premises x) i in h i (subst P (sym e) (0, omega arith, refl))

the_line : (lines : List Line) (n m : ℕ) (line other : Line) → line_at lines n ≡ Some line → line_at lines m ≡ Some other → text_line m ≡ text_line n → other ≡ line
the_line lines n m line other there is f =
    let is' : line_at lines n ≡ Some other = ap (line_at lines) (sym (same_text_line m n f)) ∙ is in one_line lines n other line is' there

-- a line in range has no fault of its range
no_range : (s : System) (U : ConstraintName → Bool) (lines : List Line) (n : ℕ) (line : Line) (why : Reason) (at : ℕ) → line_at lines n ≡ Some line → IsInRange s n line
    → HasFault s U lines why at → why ≡ reason.Range → at ≡ text_line n → ⊥
no_range s U lines n line why at there fits (fault.group m other is gt) e f =
    let P : Line → Type 0 = λ x. root s < x.group in
    let gt' : root s < line.group = subst P (the_line lines n m line other there is f) gt in
    let le = fits.group in omega arith
no_range s U lines n line why at there fits (fault.premise m i other is named none) e f =
    let P : Line → Type 0 = λ x. Contains (premises x.how) i in
    let p = fits.earlier i (subst P (the_line lines n m line other there is f) named) in
    let pos = p.0 in let lt = p.1 in
    none (omega arith) (omega arith)
no_range s U lines n line why at there fits (fault.unknown m other l is has none) e f =
    let same : other ≡ line = the_line lines n m line other there is f in
    let P : Line → Type 0 = λ x. Contains x.lits l in
    let Q : Line → Type 0 = λ x. l.var ≤ count s x.group in
    let has' : Contains line.lits l = subst P same has in
    let le : l.var ≤ count s line.group = All-contains (λ (m : Literal). m.var ≤ count s line.group) line.lits l fits.unknowns.1 has' in
    none (above 0 line.lits l fits.unknowns.0 has') (subst Q (sym same) le)
no_range s U lines n line why at there fits (fault.axiom_line m other name is how none) e f = cc
no_range s U lines n line why at there fits (fault.resolvent_line m i j other is how none) e f = cc
no_range s U lines n line why at there fits (fault.inst_line m i site other is how none) e f = cc
no_range s U lines n line why at there fits (fault.refutation none) e f = cc

rank_one : (r : Reason) → (r ≡ reason.Range → ⊥) → rank r ≡ 1
rank_one reason.Range ne = absurd (ne refl)
rank_one reason.Form ne = refl
rank_one reason.Site ne = refl
rank_one reason.Twice ne = refl
rank_one reason.Missing ne = refl
rank_one reason.Broken ne = refl
rank_one reason.Axiom ne = refl
rank_one reason.Resolvent ne = refl
rank_one reason.Inst ne = refl
rank_one reason.NoRefutation ne = refl

rank_most : (r : Reason) → rank r ≤ 1
rank_most reason.Range = omega arith
rank_most reason.Form = omega arith
rank_most reason.Site = omega arith
rank_most reason.Twice = omega arith
rank_most reason.Missing = omega arith
rank_most reason.Broken = omega arith
rank_most reason.Axiom = omega arith
rank_most reason.Resolvent = omega arith
rank_most reason.Inst = omega arith
rank_most reason.NoRefutation = omega arith

pub first_range : (s : System) (U : ConstraintName → Bool) (lines : List Line) (n : ℕ) → HasFault s U lines reason.Range (text_line n) → IsFirstReason s U lines n reason.Range
first_range s U lines n f = record { fault = f; first = λ other g. omega arith }

pub first_wrong : (s : System) (U : ConstraintName → Bool) (lines : List Line) (n : ℕ) (line : Line) → line_at lines n ≡ Some line → IsInRange s n line
    → (IsRight s U lines n line.group line.how line.lits → ⊥) → IsFirstReason s U lines n (reason_of line.how)
first_wrong s U lines n line at fits none = record {
  fault = wrong s U lines n line line.how at refl none;
  first = λ other g.
      let most = rank_most (reason_of line.how) in
      let one : rank other ≡ 1 = rank_one other (λ e. no_range s U lines n line other (text_line n) at fits g e refl) in
      omega arith;
}

pub right_line : (s : System) (U : ConstraintName → Bool) (lines : List Line) (n : ℕ) (line : Line) → line_at lines n ≡ Some line → IsInRange s n line
    → IsRight s U lines n line.group line.how line.lits → IsLineVerdict s U lines n None
right_line s U lines n line at fits right = (line, at, record { group = fits.group; clause = fits.unknowns; right = right })

-- The walk over the lines

-- the first k lines are right
abbrev pub AreRight : System → (ConstraintName → Bool) → List Line → ℕ → Type 0
AreRight s U lines k = (n : ℕ) (line : Line) → n < k + 1 → line_at lines n ≡ Some line → IsRightLine s U lines n line

pub none_yet : (s : System) (U : ConstraintName → Bool) (lines : List Line) → AreRight s U lines 0
none_yet s U lines zero line lt at = cc
none_yet s U lines (suc n) line lt at = absurd (omega arith)

pub one_more : (s : System) (U : ConstraintName → Bool) (lines : List Line) (k : ℕ) → AreRight s U lines k → IsLineVerdict s U lines (k + 1) None → AreRight s U lines (k + 1)
one_more s U lines k right (line, there, here) n other lt at =
    ⊎_elim
    (λ (e : n ≡ k + 1).
    let same : line ≡ other = one_line lines (k + 1) line other there (ap (line_at lines) (sym e) ∙ at) in
    let P : ℕ → Type 0 = λ m. IsRightLine s U lines m other in
    let Q : Line → Type 0 = λ x. IsRightLine s U lines (k + 1) x in
    subst P (sym e) (subst Q same here))
    (λ (ne : n ≡ k + 1 → ⊥). right n other (omega arith) at) (cases_eq n (k + 1))

pub all_valid : (s : System) (U : ConstraintName → Bool) (lines : List Line) (k : ℕ) → length lines ≤ k → AreRight s U lines k → IsValidIn s U lines
all_valid s U lines k le right n line at = let lt = within lines n line at in right n line (omega arith) at

-- the first fault is that of the line after the first k, which are right
pub first_at : (s : System) (U : ConstraintName → Bool) (lines : List Line) (k : ℕ) (bad : BadLine) → k < length lines → AreRight s U lines k → IsFirstReason s U lines (k + 1) bad.reason → bad.line ≡ k + 2
    → IsFirstFault s U lines bad
first_at s U lines k bad lt right here e =
    let to : bad.line ≡ text_line (k + 1) = omega arith in
    record {
      fault = (let P : ℕ → Type 0 = λ n. HasFault s U lines bad.reason n in subst P (sym to) here.fault);
      first = λ why at f. ⊎_elim (λ (p : (n : ℕ) × (at ≡ text_line n) × IsWrongLine s U lines n). at_line why at f p.0 p.1 p.2)
          (λ (p : IsEndFault s lines why at). inl (let is = p.at_is in omega arith)) (fault_places s U lines why at f);
    }
  where
    at_line : (why : Reason) (at : ℕ) → HasFault s U lines why at → (n : ℕ) → at ≡ text_line n → IsWrongLine s U lines n → (bad.line < at) ⊎ ((bad.line ≡ at) × (rank bad.reason ≤ rank why))
    at_line why at f n is w =
        ⊎_elim
        (λ (same : n ≡ k + 1). let is' : at ≡ text_line (k + 1) = omega arith in
        let P : ℕ → Type 0 = λ m. HasFault s U lines why m in
        inr (e ∙ omega arith, here.first why (subst P is' f)))
        (λ (ne : n ≡ k + 1 → ⊥). ⊎_elim (λ (before : n < k + 1). absurd (w.wrong (right n w.line before w.there))) (λ (after : k + 1 ≤ n). inl (omega arith)) (lt_or_le n (k + 1)))
        (cases_eq n (k + 1))

-- or that the derivation does not refute, where all lines are right
pub first_at_end : (s : System) (U : ConstraintName → Bool) (lines : List Line) (bad : BadLine) → IsValidIn s U lines → (Refutes s lines → ⊥) → bad.reason ≡ reason.NoRefutation → bad.line ≡ length lines + 2
    → IsFirstFault s U lines bad
first_at_end s U lines bad valid never r e =
    record {
      fault = (let P : ℕ → Type 0 = λ n. HasFault s U lines bad.reason n in let Q : Reason → Type 0 = λ why. HasFault s U lines why (end_line lines) in subst P (sym e) (subst Q (sym r) (fault.refutation never)));
      first = λ why at f. ⊎_elim (λ (p : (n : ℕ) × (at ≡ text_line n) × IsWrongLine s U lines n). absurd (p.2.wrong (valid p.0 p.2.line p.2.there)))
          (λ (p : IsEndFault s lines why at). inr (e ∙ sym p.at_is, (let same : rank bad.reason ≡ rank why = ap rank (r ∙ sym p.why_is) in omega arith))) (fault_places s U lines why at f);
    }

-- The answers

pub accepted : (s : System) (U : ConstraintName → Bool) (lines : List Line) → UsedAreUnsatisfiable → IsVerdict s U lines None → IsAccepted s U lines
accepted s U lines law v = record { valid = v.0; refutes = v.1; unsatisfiable = λ names used V each sat. law s U V lines names v.0 v.1 used each sat }

pub rejected : (s : System) (U : ConstraintName → Bool) (lines : List Line) (bad : BadLine) → FaultyIsNotValid → IsVerdict s U lines (Some bad) → IsRejected s U lines bad
rejected s U lines bad law first = record { fault = first; neither = law s U lines bad.reason bad.line first.fault }
