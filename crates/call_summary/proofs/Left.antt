-- What is left of a refutation, and what it shows.
use Rattle.std.proofs.Common.{◌≡◌, ℕ, zero, suc, ◌<◌, ◌≤◌, ◌⊎◌, inl, inr, Bool, true, false, List, [], ◌∷◌, ◌++◌, Some, refl, sym, ap, ◌∙◌, subst, arith, length, get_or, set, get_or-set_same, get_or-set_other, length-set, length-append}
use Rattle.std.proofs.lemmas.Bool.{cases_lt}
use Rattle.std.proofs.lemmas.Option.{slice_get_within}
use Rattle.conflict_proof.specs.declared.names.ConstraintName.{ConstraintName}
use Rattle.conflict_proof.specs.declared.derivation.How.{How}
use Rattle.conflict_proof.specs.declared.derivation.How.TheVariants.{Axiom, Resolve, Inst}
use Rattle.conflict_proof.specs.declared.derivation.Line.{Line}
use Rattle.zo_core.specs.Literals.{Literal}
use Rattle.verdict_meaning.specs.Systems.{System}
use Rattle.verdict_meaning.specs.Derivations.{line_at, cost_of, IsRight, IsValidIn, Refutes}
use Rattle.verdict_meaning.specs.Selected.{selected, with_numbers, is_marked, PremisesAreMarked, SelectedAreValid}
use Rattle.verdict_meaning.specs.UsedNames.{StandsOn, itself, by_first, by_second, by_site, AreUsedNames}
use Rattle.used_names.specs.Marks.{IsBefore, LeadBack, AreNeeded}
use Rattle.call_summary.specs.Inferences.{IsRefuted}
use Rattle.call_summary.specs.Trims.{AreSet, IsBehind, StandBack, AreLeft, IsTrim, IsRefutationFor}
use Rattle.call_summary.proofs.Selecting.{EndsWith, last_selected, selected_cost, selected_stand_back}

-- Lines of a valid derivation stand on earlier ones

some_line : (lines : List Line) (i : ℕ) (x : Line) → line_at lines i ≡ Some x → 0 < i
some_line lines zero x at = cc
some_line lines (suc i) x at = omega arith

right_behind : (s : System) (U : ConstraintName → Bool) (lines : List Line) (n g : ℕ) (how : How) (c : List Literal) → IsRight s U lines n g how c → IsBehind how n
right_behind s U lines n g (Axiom name) c r = tt
right_behind s U lines n g (Resolve i j) c r = (some_line lines i r.first r.first_at, r.first_earlier, some_line lines j r.second r.second_at, r.second_earlier)
right_behind s U lines n g (Inst i site) c r = (some_line lines i r.line r.there, r.earlier)

pub valid_stand_back : (s : System) (U : ConstraintName → Bool) (lines : List Line) → IsValidIn s U lines → StandBack lines
valid_stand_back s U lines v n line at = right_behind s U lines n line.group line.how line.lits (v n line at).right

before_of : (how : How) (n : ℕ) → IsBehind how n → IsBefore how n
before_of (Axiom name) n b = tt
before_of (Resolve i j) n b = (b.1, b.3)
before_of (Inst i site) n b = b.1

pub lead_back : (lines : List Line) → StandBack lines → LeadBack lines
lead_back lines back n line at = before_of line.how n (back n line at)

-- Which lines are left

stands_trans : {lines : List Line} {a b c : ℕ} → StandsOn lines a b → StandsOn lines b c → StandsOn lines a c
stands_trans itself h = h
stands_trans (by_first line at how s) h = by_first line at how (stands_trans s h)
stands_trans (by_second line at how s) h = by_second line at how (stands_trans s h)
stands_trans (by_site line at how s) h = by_site line at how (stands_trans s h)

pub set_none : (old : List Bool) → AreSet old old 0
set_none old = record { count = refl; front = λ m lt. absurd (omega arith); rest = λ m le. refl }

pub set_one : (old new : List Bool) (k : ℕ) → k < length old → AreSet old new k → AreSet old (set new k true) (suc k)
set_one old new k within are = record {
  count = length-set new k true ∙ are.count;
  front = λ m lt. split m lt (cases_lt m k);
  rest = λ m le. get_or-set_other new k m true false (λ e. absurd (omega (arith, e, le))) ∙ are.rest m (omega arith);
}
  where
    split : (m : ℕ) → m < suc k → (m < k) ⊎ (k ≤ m) → get_or (set new k true) m false ≡ true
    split m lt (inl less) = get_or-set_other new k m true false (λ e. absurd (omega (arith, e, less))) ∙ are.front m less
    split m lt (inr le) =
        let same : k ≡ m = omega arith in
        let c = are.count in
        subst (λ n. get_or (set new k true) n false ≡ true) same (get_or-set_same new k true false (omega arith))

module _ (lines : List Line) (first : ℕ) (old new : List Bool) (within : first ≤ length lines) (back : StandBack lines) (needed : AreNeeded lines old) (are : AreSet old new first) where
  still : (m : ℕ) → is_marked old m ≡ true → is_marked new m ≡ true
  still zero h = h
  still (suc m) h = elim (cases_lt m first) [ inl lt ↦ are.front m lt | inr le ↦ are.rest m le ∙ h ]

  -- a line before a marked one is marked where it is among the first or the last one stands on it
  premise : (n i : ℕ) → 0 < i → i < n → n ≤ length lines → is_marked new n ≡ true → (StandsOn lines (length lines) n → StandsOn lines (length lines) i) → is_marked new i ≡ true
  premise zero i some lt le m on = absurd (omega arith)
  premise n zero some lt le m on = absurd (omega arith)
  premise (suc n) (suc i) some lt le m on = elim (cases_lt n first) [
    | inl less ↦ are.front i (omega arith)
    | inr more ↦ still (suc i) (needed.all (suc i) (omega arith) (omega arith) (on (needed.only (suc n) (sym (are.rest n more) ∙ m))))
  ]

  line_within : (n : ℕ) (line : Line) → line_at lines n ≡ Some line → n ≤ length lines
  line_within zero line at = cc
  line_within (suc n) line at = let lt = slice_get_within lines n line at in omega arith

  premises : (n : ℕ) (line : Line) → line_at lines n ≡ Some line → is_marked new n ≡ true → (how : How) → line.how ≡ how → IsBehind how n → PremisesAreMarked new how
  premises n line at m (Axiom name) is b = tt
  premises n line at m (Resolve i j) is b = (
    premise n i b.0 b.1 (line_within n line at) m (λ on. stands_trans on (by_first line at is itself)),
    premise n j b.2 b.3 (line_within n line at) m (λ on. stands_trans on (by_second line at is itself)),
  )
  premises n line at m (Inst i site) is b = premise n i b.0 b.1 (line_within n line at) m (λ on. stands_trans on (by_site line at is itself))

  pub are_left : AreLeft lines first new
  are_left = record {
    count = are.count ∙ needed.count;
    front = are.front;
    last = λ some. still (length lines) (needed.all (length lines) some (omega arith) itself);
    closed = λ n line at m. premises n line at m line.how refl (back n line at);
  }

-- What they show

module _ (lines : List Line) (first : ℕ) (new : List Line) (trim : IsTrim lines first new) where
  pub trim_stands_back : StandBack lines → StandBack new
  trim_stands_back back = subst (λ (ls : List Line). StandBack ls) (sym trim.is) (selected_stand_back lines trim.marks back trim.left.closed)

  module _ (law : SelectedAreValid) (s : System) (U : ConstraintName → Bool) (words : ℕ) (are : IsRefutationFor s U words lines) where
    refutes : Refutes s new
    refutes =
        let old = are.refutes in
        let many : length lines ≡ suc (length old.before) = ap length old.is ∙ length-append old.before (old.last ∷ []) ∙ omega arith in
        let marked : is_marked trim.marks (suc (length old.before)) ≡ true = subst (λ n. is_marked trim.marks n ≡ true) many (trim.left.last (omega arith)) in
        let h : EndsWith (selected trim.marks (old.before ++ old.last ∷ [])) (with_numbers trim.marks old.last) = last_selected trim.marks trim.marks old.before old.last marked in
        record { before = h.before; last = with_numbers trim.marks old.last; is = trim.is ∙ ap (selected trim.marks) old.is ∙ h.is; group = old.group; empty = old.empty }

    valid : IsValidIn s U new
    valid = subst (λ (ls : List Line). IsValidIn s U ls) (sym trim.is) (law s U trim.marks lines are.valid trim.left.closed)

    cost : cost_of new ≤ words
    cost = let e : cost_of new ≡ cost_of (selected trim.marks lines) = ap cost_of trim.is in let h = selected_cost trim.marks trim.marks lines in let le = are.cost in omega arith

    pub trim_refutes : (names : List ConstraintName) → AreUsedNames new names → IsRefuted s U words new names
    trim_refutes names used = record { valid = valid; refutes = refutes; used = used; cost = cost }
