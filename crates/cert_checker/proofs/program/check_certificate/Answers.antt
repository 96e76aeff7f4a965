use Rattle.std.proofs.Common.{◌≡◌, ℕ, ap, ◌∙◌}
use Rattle.transfer_rules.specs.Names.{in_scope}
use Rattle.verdict_meaning.specs.Systems.{System}
use Rattle.verdict_meaning.specs.Solutions.{all_names}
use Rattle.verdict_meaning.specs.Certificates.{IsGoodIn}
use Rattle.verdict_meaning.specs.Programs.{system_of}
use Rattle.cert_checker.specs.Checking.{IsRefused}
use Rattle.cert_checker.specs.Owned.{RunsHaveOwners}
use Rattle.cert_checker.proofs.WholeLemmas.{good_by, refused_by, whole_agrees, ok_then, err_then}
use Rattle.cert_checker.proofs.program.check_certificate.Goals as goal

pub returns-clause-ok : goal.returns-clause-ok
returns-clause-ok c =
    let p = c.args.program.now in
    let s : System = system_of p.graph p.facts p.groups in
    ok_then c.check_certificate_in.result (IsGoodIn s (in_scope c.whole-scope.result) c.args.certificate.now) (IsGoodIn s all_names c.args.certificate.now) c.check_certificate_in.ensures.ok
    (good_by s (in_scope c.whole-scope.result) all_names (whole_agrees p.graph p.facts p.groups c.whole-scope.result c.whole-scope.ensures) c.args.certificate.now)

pub returns-clause-owned : goal.returns-clause-owned
returns-clause-owned c =
    let p = c.args.program.now in
    let s : System = system_of p.graph p.facts p.groups in
    ok_then c.check_certificate_in.result (IsGoodIn s (in_scope c.whole-scope.result) c.args.certificate.now) (RunsHaveOwners p c.args.certificate.now) c.check_certificate_in.ensures.ok
    (λ good. c.good_runs_are_owned.ensures p.graph p.facts p.groups c.args.certificate.now
    (record { graph = c.law.ensures.fits; facts_are = c.law.ensures.facts; grouping = c.law.ensures.groups })
    (good_by s (in_scope c.whole-scope.result) all_names (whole_agrees p.graph p.facts p.groups c.whole-scope.result c.whole-scope.ensures) c.args.certificate.now good))

pub returns-clause-err : goal.returns-clause-err
returns-clause-err c =
    let p = c.args.program.now in
    let s : System = system_of p.graph p.facts p.groups in
    err_then c.check_certificate_in.result (IsRefused s (in_scope c.whole-scope.result) c.args.certificate.now) (IsRefused s all_names c.args.certificate.now) c.check_certificate_in.ensures.err
    (refused_by s (in_scope c.whole-scope.result) all_names (whole_agrees p.graph p.facts p.groups c.whole-scope.result c.whole-scope.ensures) c.args.certificate.now)
