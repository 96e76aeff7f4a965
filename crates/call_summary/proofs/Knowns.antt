-- What an answer is where lines are known.
use Rattle.std.proofs.Common.{◌≡◌, ℕ, zero, suc, ◌+◌, ◌<◌, ◌≤◌, ◌⊎◌, inl, inr, ⊎_elim, Bool, true, false, Option, List, [], ◌∷◌, ◌++◌, Some, refl, sym, ap, ◌∙◌, subst, arith, length, length-append, map, take, slice_get, append_assoc}
use Rattle.std.specs.Prelude.{nat_eq}
use Rattle.std.proofs.lemmas.Bool.{cases_lt, eqb-true, eq-eqb, true≢false}
use Rattle.std.proofs.lemmas.Option.{slice_get_within}
use Rattle.zo_core.specs.Literals.{Literal}
use Rattle.conflict_proof.specs.declared.names.ConstraintName.{ConstraintName}
use Rattle.conflict_proof.specs.declared.derivation.Line.{Line}
use Rattle.conflict_proof.specs.declared.derivation.Derivation.{Derivation}
use Rattle.own_cert.specs.declared.certificate.Certificate.{Certificate}
use Rattle.verdict_meaning.specs.Systems.{System, root}
use Rattle.verdict_meaning.specs.Derivations.{cost_of, line_at, IsValidIn, HasAtMost}
use Rattle.verdict_meaning.specs.Closures.{IsUnitRefuted}
use Rattle.verdict_meaning.specs.Plain.{IsPlainSat}
use Rattle.verdict_meaning.specs.Laws.{BudgetSuffices}
use Rattle.unit_refutation.specs.Refutations.{most_unit_cost}
use Rattle.plain_answers.specs.Answers.{IsPlainAnswer, IsPlainCertificate}
use Rattle.call_search.specs.Verdicts.{AreKnown, BeginsWith, IsAcceptance, IsRefutation, IsUndecided, JudgedIs}
use Rattle.call_search.specs.declared.judging.Judged.{Judged}
use Rattle.call_search.specs.declared.judging.Judged.TheVariants as judged
use Rattle.call_search.proofs.Grow.{get-push_cases}
use Rattle.call_summary.specs.declared.inferred.Inferred.{Inferred}
use Rattle.call_summary.specs.declared.inferred.Inferred.TheVariants.{Accepted, Refuted, Undecided}
use Rattle.call_summary.specs.declared.inferred.Known.{Known}
use Rattle.call_summary.specs.Inferences.{AnswerIs, IsAccepted}
use Rattle.call_summary.specs.Trims.{IsTrimmed, IsRefutationFor}
use Rattle.call_summary.specs.Joins.{HaveClauses, IsJoined, CallsLower}
use Rattle.call_summary.specs.Knowing.{IsEmptyAt, NoneIsEmpty, KnownIs, shifted}
use Rattle.call_summary.proofs.Alike.{AreAlike, same_answer, valid}
use Rattle.call_summary.proofs.Bounds.{spent_beyond}
use Rattle.call_summary.proofs.Fronts.{trim_begins, trim_have}
use Rattle.call_summary.proofs.Indexes.{taken_more}
use Rattle.call_summary.proofs.Left.{valid_stand_back}

-- Lines without literals

pub none_of_length : (c : List Literal) (b : Bool) → b ≡ nat_eq (length c) 0 → b ≡ true → c ≡ []
none_of_length [] b is t = refl
none_of_length (l ∷ c) b is t = let e : length (l ∷ c) ≡ 0 = eqb-true (length (l ∷ c)) 0 (sym is ∙ t) in absurd (omega (arith, e))

pub some_of_length : (c : List Literal) (b : Bool) → b ≡ nat_eq (length c) 0 → b ≡ false → c ≡ [] → ⊥
some_of_length c b is f e = let t : nat_eq (length c) 0 ≡ true = eq-eqb (length c) 0 (ap length e) in true≢false (sym t ∙ sym is ∙ f)

pub none_at_first : (lines : List Line) (n : ℕ) → n ≤ 0 → IsEmptyAt lines n → ⊥
none_at_first lines zero le e = let at = e.there in cc
none_at_first lines (suc n) le e = absurd (omega (arith, le))

one_line : (a b : Line) → Some a ≡ Some b → a ≡ b
one_line a b e = cc

pub none_so_far : (lines : List Line) (k : ℕ) (line : Line) → slice_get lines k ≡ Some line → (line.lits ≡ [] → ⊥) → ((n : ℕ) → n ≤ k → IsEmptyAt lines n → ⊥)
    → (n : ℕ) → n ≤ k + 1 → IsEmptyAt lines n → ⊥
none_so_far lines k line there some before n le e = split (cases_lt k n)
  where
    split : (k < n) ⊎ (n ≤ k) → ⊥
    split (inr old) = before n old e
    split (inl new) =
        let is : n ≡ suc k = omega arith in
        let same : line ≡ e.line = one_line line e.line (sym there ∙ subst (λ m. line_at lines m ≡ Some e.line) is e.there) in
        some (ap (λ (x : Line). x.lits) same ∙ e.empty)

pub none_at_all : (lines : List Line) (k : ℕ) → length lines ≤ k → ((n : ℕ) → n ≤ k → IsEmptyAt lines n → ⊥) → NoneIsEmpty lines
none_at_all lines k le before n e = before n (let w = within n e.there in omega (arith, w, le)) e
  where
    within : (n : ℕ) → line_at lines n ≡ Some e.line → n ≤ length lines
    within zero at = cc
    within (suc n) at = let w = slice_get_within lines n e.line at in omega arith

pub empty_here : (lines : List Line) (k at : ℕ) (line : Line) → slice_get lines k ≡ Some line → line.lits ≡ [] → at ≡ k + 1 → IsEmptyAt lines at
empty_here lines k at line there empty is =
    let number : suc k ≡ at = omega (arith, is) in
    subst (IsEmptyAt lines) number (record { line = line; there = there; empty = empty })

-- Answers

pub refuted_known : (s : System) (U : ConstraintName → Bool) (known lines : List Line) (budget : ℕ) (i : Inferred) (out : Derivation) → IsRefutation s U known budget lines → IsTrimmed lines (length known) i
    → ((t : System) → (V : ConstraintName → Bool) → (words : ℕ) → (more : ℕ) → IsRefutationFor t V words lines → AnswerIs t V words more i)
    → AreKnown s U out.lines → BeginsWith known out.lines → HaveClauses (root s) out.lines lines → KnownIs s U known budget (record { inferred = i; lines = out })
refuted_known s U known lines budget (Accepted c) out r trim answer outs first have = absurd trim
refuted_known s U known lines budget (Undecided d) out r trim answer outs first have = absurd trim
refuted_known s U known lines budget (Refuted d names) out r trim answer outs first have = record {
  answer = answer s U (cost_of known + budget) budget (record { valid = r.valid; refutes = r.refutes; cost = r.cost });
  begins = trim_begins known lines d.lines r.begins (valid_stand_back s U lines r.valid) trim;
  lines = outs;
  first = first;
  have = trim_have (root s) (length known) out.lines lines d.lines trim have;
  at_once = λ n e. tt;
}

pub accepted_known : (s : System) (U : ConstraintName → Bool) (known : List Line) (budget : ℕ) (c : Certificate) (out : Derivation) → IsAccepted s U c → NoneIsEmpty known → AreKnown s U out.lines → BeginsWith known out.lines
    → KnownIs s U known budget (record { inferred = Accepted c; lines = out })
accepted_known s U known budget c out is none outs first = record { answer = is; begins = tt; lines = outs; first = first; have = tt; at_once = λ n e. absurd (none n e) }

pub undecided_known : BudgetSuffices → (s : System) (U : ConstraintName → Bool) (known : List Line) (budget : ℕ) (d out : Derivation) → IsUndecided s U known budget d.lines → NoneIsEmpty known
    → (IsUnitRefuted s U → (most : ℕ) → HasAtMost s most → budget < most_unit_cost (root s) most) → (IsPlainSat s U → ⊥)
    → AreKnown s U out.lines → BeginsWith known out.lines → HaveClauses (root s) out.lines d.lines → KnownIs s U known budget (record { inferred = Undecided d; lines = out })
undecided_known law s U known budget d out is none units plain outs first have = record {
  answer = spent_beyond law s U d.lines (cost_of known + budget) budget (omega arith) units plain is.spent;
  begins = is.begins;
  lines = outs;
  first = first;
  have = have;
  at_once = λ n e. absurd (none n e);
}

append_none : (xs : List Line) → xs ≡ xs ++ []
append_none [] = refl
append_none (x ∷ xs) = ap (λ (ys : List Line). x ∷ ys) (append_none xs)

-- lines begin with themselves
pub begin_same : (known out : List Line) → out ≡ known → BeginsWith known out
begin_same known out is = record { more = []; is = is ∙ append_none known }

pub known_same : (s : System) (U : ConstraintName → Bool) (known out : List Line) → out ≡ known → AreKnown s U known → AreKnown s U out
known_same s U known out is are = subst (λ (ls : List Line). AreKnown s U ls) (sym is) are

-- a root line that is carried up has no clause outside the root that is not known
pub have_known : (top : ℕ) (known out lines : List Line) (line : Line) → lines ≡ known ++ line ∷ [] → line.group ≡ top → out ≡ known → HaveClauses top out lines
have_known top known out lines line is group same n x at ne =
    ⊎_elim (λ (old : slice_get known n ≡ Some x). record { number = suc n; has = record { line = x; there = ap (λ (ls : List Line). slice_get ls n) same ∙ old; group = refl; lits = refl } })
    (λ (new : (n ≡ length known) × (line ≡ x)). absurd (ne (ap (λ (y : Line). y.group) (sym new.1) ∙ group)))
    (get-push_cases known line x n (ap (λ (ls : List Line). slice_get ls n) (sym is) ∙ at))

pub begins_long : (known lines : List Line) → BeginsWith known lines → length known ≤ length lines
begins_long known lines begins = let e = ap length begins.is ∙ length-append known begins.more in omega (arith, e)

-- What the search says, with the known lines by their other name

pub known_accepted : (s : System) (U : ConstraintName → Bool) (known first : List Line) (budget : ℕ) (j : Judged) (c : Certificate) (ls : List Line) → first ≡ known → j ≡ judged.Accepted c ls → JudgedIs s U first budget j → IsAcceptance s U known c ls
known_accepted s U known first budget j c ls same is says = subst (λ (xs : List Line). IsAcceptance s U xs c ls) same (subst (JudgedIs s U first budget) is says)

pub known_refuted : (s : System) (U : ConstraintName → Bool) (known first : List Line) (budget : ℕ) (j : Judged) (d : Derivation) → first ≡ known → j ≡ judged.Refuted d → JudgedIs s U first budget j → IsRefutation s U known budget d.lines
known_refuted s U known first budget j d same is says = subst (λ (xs : List Line). IsRefutation s U xs budget d.lines) same (subst (JudgedIs s U first budget) is says)

pub known_undecided : (s : System) (U : ConstraintName → Bool) (known first : List Line) (budget : ℕ) (j : Judged) (d : Derivation) → first ≡ known → j ≡ judged.Undecided d → JudgedIs s U first budget j → IsUndecided s U known budget d.lines
known_undecided s U known first budget j d same is says = subst (λ (xs : List Line). IsUndecided s U xs budget d.lines) same (subst (JudgedIs s U first budget) is says)

pub accepted_as : (s : System) (U : ConstraintName → Bool) (known ls : List Line) (c : Certificate) → IsAcceptance s U known c ls → IsAccepted s U c
accepted_as s U known ls c is = record { good = is.good; needed = is.needed }

pub plainly_accepted : (s : System) (U : ConstraintName → Bool) (o : Option Certificate) (c : Certificate) → o ≡ Some c → IsPlainAnswer s U o → IsAccepted s U c
plainly_accepted s U o c is says =
    let here : IsPlainCertificate s U c = subst (IsPlainAnswer s U) is says in
    record { good = here.good; needed = here.needed }

-- The same by other names

pub known_moved : (s t : System) (U V : ConstraintName → Bool) (xs ys : List Line) → s ≡ t → U ≡ V → xs ≡ ys → AreKnown s U xs → AreKnown t V ys
known_moved s t U V xs ys systems scopes lines is =
    subst (λ (x : System). AreKnown x V ys) systems (subst (λ (x : ConstraintName → Bool). AreKnown s x ys) scopes (subst (λ (x : List Line). AreKnown s U x) lines is))

pub answer_moved : (s t : System) (U V : ConstraintName → Bool) (xs ys : List Line) (budget : ℕ) (k : Known) → s ≡ t → U ≡ V → xs ≡ ys → KnownIs s U xs budget k → KnownIs t V ys budget k
answer_moved s t U V xs ys budget k systems scopes lines is =
    subst (λ (x : System). KnownIs x V ys budget k) systems (subst (λ (x : ConstraintName → Bool). KnownIs s x ys budget k) scopes (subst (λ (x : List Line). KnownIs s U x budget k) lines is))

-- Known lines of joined ones

pub joined_known : (s : System) (U : ConstraintName → Bool) (top : ℕ) (known more out : List Line) → top ≡ root s → CallsLower s → AreKnown s U known → IsValidIn s U more → IsJoined top known more out → AreKnown s U out
joined_known s U top known more out is lower are right joined = record {
  valid = joined.valid s U is lower are.valid right;
  once = joined.once;
  groups = λ n x at e. joined.groups n x at (e ∙ sym is);
}

pub joined_have : (top other : ℕ) (known more out : List Line) → top ≡ other → IsJoined top known more out → HaveClauses other out more
joined_have top other known more out is joined n x at ne = joined.have n x at (λ e. ne (e ∙ is))

-- The same with other tests by which the same constraints count

pub same_known : (s : System) (U V : ConstraintName → Bool) → AreAlike s U V → (lines : List Line) → AreKnown s U lines → AreKnown s V lines
same_known s U V alike lines are = record { valid = valid s U V alike lines are.valid; once = are.once; groups = are.groups }

pub same_known_answer : (s : System) (U V : ConstraintName → Bool) → AreAlike s U V → (known : List Line) (budget : ℕ) (k : Known) → KnownIs s U known budget k → KnownIs s V known budget k
same_known_answer s U V alike known budget k is = record {
  answer = same_answer s U V alike (cost_of known + budget) budget k.inferred is.answer;
  begins = is.begins;
  lines = same_known s U V alike k.lines.lines is.lines;
  first = is.first;
  have = is.have;
  at_once = is.at_once;
}

-- A derivation copied behind known lines, one line more

shifted_one : (k : ℕ) (xs : List Line) (x : Line) → map (shifted k) (xs ++ x ∷ []) ≡ map (shifted k) xs ++ shifted k x ∷ []
shifted_one k [] x = refl
shifted_one k (y ∷ xs) x = ap (λ (ls : List Line). shifted k y ∷ ls) (shifted_one k xs x)

pub behind_more : (known more items new : List Line) (k : ℕ) (x : Line) → items ≡ known ++ map (shifted (length known)) (take k more) → slice_get more k ≡ Some x → new ≡ items ++ shifted (length known) x ∷ []
    → new ≡ known ++ map (shifted (length known)) (take (k + 1) more)
behind_more known more items new k x is at new_is =
    new_is ∙ ap (λ (ls : List Line). ls ++ shifted (length known) x ∷ []) is ∙ append_assoc known (map (shifted (length known)) (take k more)) (shifted (length known) x ∷ [])
    ∙ ap (λ (ls : List Line). known ++ ls) (sym (shifted_one (length known) (take k more) x))
    ∙ ap (λ (ls : List Line). known ++ map (shifted (length known)) ls) (sym (taken_more more k x at))
