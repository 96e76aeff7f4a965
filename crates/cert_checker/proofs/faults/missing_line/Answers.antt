use Rattle.std.proofs.Common.{◌≡◌, ℕ, ◌+◌, ◌≤◌, List, Option, Some, None, length, get_or, sym, ap, ◌∙◌, subst, arith, rules}
use Rattle.own_cert.specs.declared.certificate.Instance.{Instance}
use Rattle.verdict_meaning.specs.Systems.{System}
use Rattle.verdict_meaning.specs.CertificateFaults.{end_line}
use Rattle.cert_checker.specs.Finding.{IsBelow, IsGroupMissing}
use Rattle.cert_checker.proofs.LineLemmas.{match_true, match_false}
use Rattle.cert_checker.proofs.MissingLemmas.{missing_first, missing_none, missing_beyond}
use Rattle.cert_checker.proofs.faults.missing_line.Goals as goal

pub returns-then-branch : goal.returns-then-branch
returns-then-branch g c =
    let s : System = g.G.Groups.system c.args.groups.now in
    let is : c.as_slice-instances.result.now ≡ c.args.certificate.now.instances = search rules in
    let line : get_or c.args.starts.now (length c.as_slice-instances.result.now) 0 ≡ end_line c.args.certificate.now.instances =
    ap (λ (xs : List Instance). get_or c.args.starts.now (length xs) 0) is ∙ c.requires.each (length c.args.certificate.now.instances) (omega arith) in
    missing_first s (g.G.Groups.scope c.args.groups.now) c.args.certificate.now c.args.bound (get_or c.args.starts.now (length c.as_slice-instances.result.now) 0) line c.if-not-is_below.ensures
    (subst (IsGroupMissing s) is (match_true c.in_ok-is_missing.field-0 _ _ c.if-branch.true c.in_ok-is_missing.ensures))

pub returns : goal.returns
returns g c =
    let s : System = g.G.Groups.system c.args.groups.now in
    let is : c.as_slice-instances.result.now ≡ c.args.certificate.now.instances = search rules in
    missing_none s (g.G.Groups.scope c.args.groups.now) c.args.certificate.now c.args.bound
    (λ m. match_false c.in_ok-is_missing.field-0 _ _ c.if-branch.false c.in_ok-is_missing.ensures (subst (IsGroupMissing s) (sym is) m))

pub returns-then-not-is_below : goal.returns-then-not-is_below
returns-then-not-is_below g c =
    let s : System = g.G.Groups.system c.args.groups.now in
    let is : c.as_slice-instances.result.now ≡ c.args.certificate.now.instances = search rules in
    let line : get_or c.args.starts.now (length c.as_slice-instances.result.now) 0 ≡ end_line c.args.certificate.now.instances =
    ap (λ (xs : List Instance). get_or c.args.starts.now (length xs) 0) is ∙ c.requires.each (length c.args.certificate.now.instances) (omega arith) in
    missing_beyond s (g.G.Groups.scope c.args.groups.now) c.args.certificate.now c.args.bound (get_or c.args.starts.now (length c.as_slice-instances.result.now) 0) line c.if-not-is_below.ensures
