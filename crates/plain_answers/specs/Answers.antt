-- What the plain answer is.
use Rattle.std.specs.Prelude.{◌≡◌, ℕ, ◌<◌, Bool, [], ◌++◌, Option, Some, None, slice_get}
use Rattle.std.specs.declared.cmp.Ordering.TheVariants.{Less}
use Rattle.conflict_proof.specs.declared.names.ConstraintName.{ConstraintName}
use Rattle.own_cert.specs.declared.certificate.Instance.{Instance}
use Rattle.own_cert.specs.declared.certificate.Certificate.{Certificate}
use Rattle.verdict_meaning.specs.Systems.{System, root, phi_numbers, pi_numbers}
use Rattle.verdict_meaning.specs.Solutions.{phi_by}
use Rattle.verdict_meaning.specs.Certificates.{IsGoodIn, HasNoNeedless, face_of, assignment_of}
use Rattle.verdict_meaning.specs.Plain.{said, IsLeast, IsPlainSat}
use Rattle.plain_answers.specs.Orders.{instance_order}

-- Propagation alone solves the constraints that count, and the certificate is the one that it makes: fields own as the root's
-- least assignment says, each instance is the least assignment of its group with these fields and its entry's interface, the
-- instances stand in order, and besides those that the root asks for there are only those that sites name.
pub record IsPlainCertificate (s : System) (U : ConstraintName → Bool) (c : Certificate) : Type 0 where
  pub plain : IsPlainSat s U
  pub good : IsGoodIn s U c
  pub needed : HasNoNeedless s c
  pub fields : (a : ℕ → Bool) → IsLeast s U (root s) [] a → c.phi ≡ phi_by s a
  pub least : (n : ℕ) (i : Instance) → slice_get c.instances n ≡ Some i
      → IsLeast s U i.group (said (phi_numbers s) c.phi ++ said (pi_numbers s i.group i.entry) (face_of s i i.entry)) (assignment_of s c i)
  pub ordered : (m n : ℕ) (i j : Instance) → m < n → slice_get c.instances m ≡ Some i → slice_get c.instances n ≡ Some j → instance_order s i j ≡ Less

-- the certificate that propagation alone makes, and none where the assignments that it makes are no solution
abbrev pub IsPlainAnswer : System → (ConstraintName → Bool) → Option Certificate → Type 0
IsPlainAnswer s U None = IsPlainSat s U → ⊥
IsPlainAnswer s U (Some c) = IsPlainCertificate s U c
