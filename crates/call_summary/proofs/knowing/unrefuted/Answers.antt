use Rattle.std.proofs.Common.{ℕ, Bool}
use Rattle.conflict_proof.specs.declared.names.ConstraintName.{ConstraintName}
use Rattle.transfer_rules.specs.Names.{in_scope}
use Rattle.verdict_meaning.specs.Programs.{system_in}
use Rattle.verdict_meaning.specs.Systems.{System}
use Rattle.call_search.specs.Verdicts.{AreKnown}
use Rattle.call_summary.specs.Inferences.{IsAccepted}
use Rattle.call_summary.specs.Knowing.{KnownIs, NoneIsEmpty}
use Rattle.call_summary.proofs.Judgements.{if_ok}
use Rattle.call_summary.proofs.Knowns.{plainly_accepted}
use Rattle.call_summary.proofs.knowing.unrefuted.Goals as goal

pub returns-in-Some : goal.returns-in-Some
returns-in-Some c =
    let s = system_in c.args.groups.now.shapes.program.now in
    let U = in_scope c.args.groups.now.scope.now in
    let is : IsAccepted s U c.in-Some.certificate = plainly_accepted s U c.in_ok-certificate.field-0 c.in-Some.certificate c.in-Some.is c.in_ok-certificate.ensures in
    if_ok c.accepted_plainly.result
    (λ k. (t : System) → (V : ConstraintName → Bool) → (budget : ℕ) → AreKnown t V c.args.known.now → NoneIsEmpty c.args.known.now → IsAccepted t V c.in-Some.certificate → KnownIs t V c.args.known.now budget k)
    (KnownIs s U c.args.known.now c.args.budget) (λ k f. f s U c.args.budget c.requires.known c.requires.none is) c.accepted_plainly.ensures
