-- From what was inferred and tested to a verdict.
use Rattle.std.proofs.Common.{◌≡◌, ℕ, Bool, true, false, List, refl, subst}
use Rattle.std.specs.Prelude.{◌&&◌}
use Rattle.std.proofs.lemmas.List.Elements.{All-weaker}
use Rattle.heap_meaning.specs.declared.states.State.{State}
use Rattle.heap_meaning.specs.declared.states.Object.{Object}
use Rattle.heap_meaning.specs.Reads.{live_at, kind_at, is_allocated}
use Rattle.heap_meaning.specs.Run.{states_of}
use Rattle.heap_law.specs.Kept.{IsLeft}
use Rattle.heap_law.specs.Law.{IsOwned}
use Rattle.conflict_proof.specs.declared.names.ConstraintName.{ConstraintName}
use Rattle.conflict_proof.specs.declared.derivation.Derivation.{Derivation}
use Rattle.own_cert.specs.declared.certificate.Certificate.{Certificate}
use Rattle.transfer_rules.specs.Programs.{Parts}
use Rattle.verdict_meaning.specs.Laws.{GoodIsSatisfiable}
use Rattle.verdict_meaning.specs.Programs.{system_in}
use Rattle.verdict_meaning.specs.Solutions.{all_names}
use Rattle.verdict_meaning.specs.Derivations.{IsValidIn}
use Rattle.cert_checker.specs.Owned.{marks_of, RunsHaveOwners}
use Rattle.call_summary.specs.Inferences.{InferredIs}
use Rattle.call_summary.specs.declared.inferred.Inferred.{Inferred}
use Rattle.call_summary.specs.declared.inferred.Inferred.TheVariants as inferred
use Rattle.clouseau_core.specs.declared.way.Way.{Way}
use Rattle.clouseau_core.specs.Judged.{LiveHasOneOwner, OthersHaveNoOwner, NothingIsFreedTwice, OnlyKeptIsLeft, NothingIsLeft, OwnsInEveryRun, IsToTest, IsTested, IsChecked, verdict_of, IsTextBy, IsJudged, accepted, conflict, undecided}

not_left : (h : List Object) (o : ℕ) → (IsLeft h o → ⊥) → (live_at h o && is_allocated (kind_at h o)) ≡ false
not_left h o none = go (live_at h o) (is_allocated (kind_at h o)) refl refl
  where
    go : (a b : Bool) → live_at h o ≡ a → is_allocated (kind_at h o) ≡ b → (live_at h o && is_allocated (kind_at h o)) ≡ false
    go true true x y = absurd (none (record { live = x; allocated = y }))
    go true false x y = rw (x, y) refl
    go false b x y = rw x refl

pub runs_of : (p : Parts) (c : Certificate) → RunsHaveOwners p c → OwnsInEveryRun p c
runs_of p c owned =
    let Is : State → Type 0 = IsOwned p.graph (marks_of p c) in
    record {
      one_owner = λ choices. All-weaker Is (LiveHasOneOwner p c) (λ s is o left. is.owners.one o left.live left.allocated) (states_of p.graph choices) (owned choices);
      no_other = λ choices. All-weaker Is (OthersHaveNoOwner p c) (λ s is o none. is.owners.none o (not_left s.heap o none)) (states_of p.graph choices) (owned choices);
      freed_once = λ choices. All-weaker Is (NothingIsFreedTwice p) (λ s is. is.no_double) (states_of p.graph choices) (owned choices);
      kept = λ choices. All-weaker Is (OnlyKeptIsLeft p c) (λ s is. is.kept) (states_of p.graph choices) (owned choices);
      nothing_left = λ choices. All-weaker Is (NothingIsLeft p c) (λ s is. is.nothing) (states_of p.graph choices) (owned choices);
    }

pub to_test_of : (p : Parts) (budget : ℕ) (i : Inferred) → InferredIs (system_in p) all_names budget i → IsToTest p i
to_test_of p budget (inferred.Accepted c) is = is.good
to_test_of p budget (inferred.Refuted d names) is = (is.valid, is.refutes)
to_test_of p budget (inferred.Undecided d) is = tt

pub valid_of : (p : Parts) (i : Inferred) (d : Derivation) (names : List ConstraintName) → i ≡ inferred.Refuted d names → IsToTest p i
    → IsValidIn (system_in p) all_names d.lines
valid_of p i d names is claimed =
    let both : IsToTest p (inferred.Refuted d names) = subst (λ (x : Inferred). IsToTest p x) is claimed in
    both.0

pub tested_of : GoodIsSatisfiable → (p : Parts) (budget : ℕ) (i : Inferred) → InferredIs (system_in p) all_names budget i → IsChecked p i → IsTested p budget i
tested_of law p budget (inferred.Accepted c) is checked = record {
  good = is.good;
  needed = is.needed;
  satisfiable = law (system_in p) all_names c is.good;
  runs = runs_of p c checked;
}
tested_of law p budget (inferred.Refuted d names) is checked = record {
  valid = is.valid;
  refutes = is.refutes;
  used = is.used;
  none_meets = λ U all. checked.unsatisfiable names is.used U all;
  unsatisfiable = checked.unsatisfiable names is.used all_names (λ name there. refl);
  cost = is.cost;
}
tested_of law p budget (inferred.Undecided d) is checked = record { spent = is.0; may = is.1 }

pub judged_of : (w : Way) (budget : ℕ) (p : Parts) (i : Inferred) (text : List ℕ) → IsTested p budget i → IsTextBy w p budget i text
    → IsJudged w budget p (verdict_of i) text
judged_of w budget p (inferred.Accepted c) text is told = accepted c text is told
judged_of w budget p (inferred.Refuted d names) text is told = conflict d names text is told
judged_of w budget p (inferred.Undecided d) text is told = undecided d text is told
