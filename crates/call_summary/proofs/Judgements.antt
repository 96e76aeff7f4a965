-- What the search says, where no lines are known.
use Rattle.std.proofs.Common.{◌≡◌, ℕ, ◌+◌, ◌≤◌, Bool, List, [], Result, Ok, Err, IfOk, refl, subst, arith}
use Rattle.conflict_proof.specs.declared.names.ConstraintName.{ConstraintName}
use Rattle.conflict_proof.specs.declared.derivation.Line.{Line}
use Rattle.conflict_proof.specs.declared.derivation.Derivation.{Derivation}
use Rattle.verdict_meaning.specs.Systems.{System}
use Rattle.verdict_meaning.specs.Derivations.{cost_of, IsSpent}
use Rattle.call_search.specs.declared.judging.Judged.{Judged}
use Rattle.call_search.specs.declared.judging.Judged.TheVariants as judged
use Rattle.call_search.specs.Verdicts.{IsRefutation, IsUndecided, JudgedIs}
use Rattle.call_summary.specs.Trims.{IsRefutationFor}

-- the words of no lines
no_words : (budget : ℕ) → cost_of [] + budget ≡ budget
no_words budget = let none : cost_of [] ≡ 0 = refl in omega (arith, none)

-- the system, the constraints and the known lines by their other names
same_judged : (s t : System) (U V : ConstraintName → Bool) (known : List Line) (budget : ℕ) (j k : Judged) → s ≡ t → U ≡ V → known ≡ [] → j ≡ k → JudgedIs s U known budget j → JudgedIs t V [] budget k
same_judged s t U V known budget j k systems scopes none same is =
    subst (λ (x : System). JudgedIs x V [] budget k) systems
    (subst (λ (x : ConstraintName → Bool). JudgedIs s x [] budget k) scopes
    (subst (λ (x : List Line). JudgedIs s U x budget k) none (subst (λ (x : Judged). JudgedIs s U known budget x) same is)))

pub judged_refuted : (s t : System) (U V : ConstraintName → Bool) (known : List Line) (budget : ℕ) (j : Judged) (d : Derivation) → s ≡ t → U ≡ V → known ≡ [] → j ≡ judged.Refuted d → JudgedIs s U known budget j
    → IsRefutationFor t V budget d.lines
judged_refuted s t U V known budget j d systems scopes none same is =
    let r : IsRefutation t V [] budget d.lines = same_judged s t U V known budget j (judged.Refuted d) systems scopes none same is in
    record { valid = r.valid; refutes = r.refutes; cost = subst (λ w. cost_of d.lines ≤ w) (no_words budget) r.cost }

pub judged_spent : (s t : System) (U V : ConstraintName → Bool) (known : List Line) (budget : ℕ) (j : Judged) (d : Derivation) → s ≡ t → U ≡ V → known ≡ [] → j ≡ judged.Undecided d → JudgedIs s U known budget j
    → IsSpent t V d.lines budget
judged_spent s t U V known budget j d systems scopes none same is =
    let r : IsUndecided t V [] budget d.lines = same_judged s t U V known budget j (judged.Undecided d) systems scopes none same is in
    subst (λ w. IsSpent t V d.lines w) (no_words budget) r.spent

-- what holds of an answer
pub if_ok : {X E : Type 0} (r : Result X E) (P Q : X → Type 0) → ((x : X) → P x → Q x) → IfOk r P → IfOk r Q
if_ok (Ok x) P Q f h = f x h
if_ok (Err e) P Q f h = tt
