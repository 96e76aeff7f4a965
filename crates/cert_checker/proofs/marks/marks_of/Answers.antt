use Rattle.std.proofs.Common.{◌≡◌, ℕ, ◌+◌, ◌++◌, Bool, true, false, List, Some, length, map, refl, sym, ap, ◌∙◌, subst, arith, rules}
use Rattle.std.specs.Prelude.{IsTrue, MatchBool}
use Rattle.std.proofs.lemmas.List.{length-map}
use Rattle.own_cert.specs.declared.certificate.Instance.{Instance}
use Rattle.verdict_meaning.specs.Systems.{System}
use Rattle.verdict_meaning.specs.Certificates.{Spot, spots}
use Rattle.verdict_meaning.specs.CertificateFaults.{instance_line}
use Rattle.cert_checker.specs.Places.{spot_at}
use Rattle.cert_checker.specs.Tables.{AllEnter, bits_up_to, unknown_lines}
use Rattle.cert_checker.specs.Finding.{IsBelow}
use Rattle.cert_checker.proofs.SiteLemmas.{all_enter_if}
use Rattle.cert_checker.proofs.MarkLemmas.{marks_are}
use Rattle.cert_checker.proofs.marks.marks_of.Goals as goal

pub bits_up_to-requires-clause-enter : goal.bits_up_to-requires-clause-enter
bits_up_to-requires-clause-enter g c =
    let s : System = g.G.Groups.system c.args.groups.now in
    let same : c.deref-2.result.now ≡ c.args.certificate.now.instances = search rules in
    let line : c.in_ok-sum-2.field-0 ≡ instance_line c.args.certificate.now.instances c.args.n + 2 = c.in_ok-sum-2.ensures ∙ ap (λ (k : ℕ). k + 2) c.requires.first in
    λ yes. subst (λ (is : List Instance). AllEnter s is c.args.instance.now) (sym same)
    (all_enter_if s (g.G.Groups.scope c.args.groups.now) c.args.certificate.now c.args.bound c.args.n c.args.instance.now c.requires.there c.requires.shapes c.requires.sites
    c.is_below-whole.result c.in_ok-sum-2.field-0 line c.is_below-whole.ensures yes)

pub returns : goal.returns
returns g c =
    let s : System = g.G.Groups.system c.args.groups.now in
    let same : c.deref-2.result.now ≡ c.args.certificate.now.instances = search rules in
    let places : map spot_at c.deref.result.now ≡ spots s c.args.instance.now.group = search rules in
    let count : c.len.result ≡ length (spots s c.args.instance.now.group) =
    c.len.ensures ∙ sym c.deref.ensures.len ∙ sym (length-map c.deref.result.now spot_at) ∙ ap length places in
    let line : c.in_ok-sum-2.field-0 ≡ c.args.first + 2 = c.in_ok-sum-2.ensures in
    let group : c.in_ok-lines.lines.items ≡ unknown_lines s c.args.instance.now.group c.args.first (spots s c.args.instance.now.group) = search rules in
    let bits : c.in_ok-bits.bits.items ≡ bits_up_to c.is_below-whole.result s c.args.certificate.now.instances c.args.instance.now = rw same at c.in_ok-bits.ensures in
    marks_are s (g.G.Groups.scope c.args.groups.now) c.args.certificate.now c.args.bound c.args.n c.args.instance.now c.requires.there c.requires.shapes
    c.is_below-whole.result c.in_ok-bits.bits.items c.fields-fields.result c.in_ok-lines.lines.items c.in_ok-after.after c.args.first
    (subst (λ (k : ℕ). MatchBool c.is_below-whole.result (IsBelow c.args.bound k) (IsBelow c.args.bound k → ⊥)) line c.is_below-whole.ensures)
    c.requires.first bits c.fields-fields.ensures group
    (c.in_ok-after.ensures ∙ ap (λ (k : ℕ). k + c.len.result) c.in_ok-sum.ensures ∙ ap (λ (k : ℕ). c.args.first + 3 + k) count)
