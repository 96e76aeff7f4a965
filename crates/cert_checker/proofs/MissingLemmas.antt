-- Groups without an instance.
use Rattle.std.proofs.Common.{◌≡◌, ℕ, ◌≤◌, Option, None, refl, sym, subst, arith}
use Rattle.conflict_proof.specs.declared.names.ConstraintName.{ConstraintName}
use Rattle.conflict_proof.specs.declared.faults.Reason.TheVariants.{Missing}
use Rattle.own_cert.specs.declared.certificate.Certificate.{Certificate}
use Rattle.std.proofs.Common.{Bool}
use Rattle.verdict_meaning.specs.Systems.{System}
use Rattle.verdict_meaning.specs.CertificateFaults.{HasFault, end_line}
use Rattle.verdict_meaning.specs.CertificateFaults as fault
use Rattle.cert_checker.specs.Finding.{IsBelow, IsFirstAt, IsFirstBelow, IsGroupMissing}

module _ (s : System) (U : ConstraintName → Bool) (c : Certificate) where
  on_end : (line : ℕ) → HasFault s U c Missing line → IsGroupMissing s c.instances
  on_end line (fault.missing_group g lt none) = record { group = g; exists = lt; never = none }

  at_end : (line : ℕ) → HasFault s U c Missing line → line ≡ end_line c.instances
  at_end line (fault.missing_group g lt none) = refl

  pub missing_first : (b : Option ℕ) (line : ℕ) → line ≡ end_line c.instances → IsBelow b line → IsGroupMissing s c.instances → IsFirstAt b (HasFault s U c Missing) line
  missing_first b line e below m = record {
    is = subst (HasFault s U c Missing) (sym e) (fault.missing_group m.group m.exists m.never);
    below = below;
    first = λ other h. (let f = at_end other h in omega (arith, e, f));
  }

  pub missing_none : (b : Option ℕ) → (IsGroupMissing s c.instances → ⊥) → IsFirstBelow b (HasFault s U c Missing) None
  missing_none b never line h below = never (on_end line h)

  pub missing_beyond : (b : Option ℕ) (line : ℕ) → line ≡ end_line c.instances → (IsBelow b line → ⊥) → IsFirstBelow b (HasFault s U c Missing) None
  missing_beyond b line e never other h below = let f : other ≡ line = omega (arith, e, at_end other h) in never (subst (IsBelow b) f below)
