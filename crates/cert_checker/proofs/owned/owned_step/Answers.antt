use Rattle.std.proofs.Common.{◌≡◌, subst, sym, rules}
use Rattle.heap_meaning.specs.Run.{Steps}
use Rattle.heap_law.specs.Law.{IsCertified}
use Rattle.cert_checker.specs.Owned.{IsSoundBy, marks_of}
use Rattle.cert_checker.proofs.owned.owned_step.Goals as goal

pub returns-in_err-step-clause-sound : goal.returns-in_err-step-clause-sound
returns-in_err-step-clause-sound c =
    let same : c.step.new.state ≡ c.args.state.now = search rules in
    subst (IsSoundBy c.args.program.now c.args.certificate.now) (sym same) c.requires.sound

pub returns-in-Moved-clause-sound : goal.returns-in-Moved-clause-sound
returns-in-Moved-clause-sound c =
    let p = c.args.program.now in
    let certified : IsCertified p.graph p.facts (marks_of p c.args.certificate.now) =
    c.good_is_certified.ensures p.graph p.facts p.groups c.args.certificate.now (record { graph = c.law.ensures.fits; facts_are = c.law.ensures.facts; grouping = c.law.ensures.groups }) c.requires.good in
    let steps : Steps p.graph c.args.state.now c.args.choice.now c.in_ok-step.field-0 c.step.new.state = search rules in
    (c.steps_lead_to_sound.ensures p.graph p.facts (marks_of p c.args.certificate.now) certified c.args.state.now c.args.choice.now c.in_ok-step.field-0 c.step.new.state c.requires.sound steps).1

pub returns-in-Ended-clause-sound : goal.returns-in-Ended-clause-sound
returns-in-Ended-clause-sound c =
    let p = c.args.program.now in
    let certified : IsCertified p.graph p.facts (marks_of p c.args.certificate.now) =
    c.good_is_certified.ensures p.graph p.facts p.groups c.args.certificate.now (record { graph = c.law.ensures.fits; facts_are = c.law.ensures.facts; grouping = c.law.ensures.groups }) c.requires.good in
    let steps : Steps p.graph c.args.state.now c.args.choice.now c.in_ok-step.field-0 c.step.new.state = search rules in
    (c.steps_lead_to_sound.ensures p.graph p.facts (marks_of p c.args.certificate.now) certified c.args.state.now c.args.choice.now c.in_ok-step.field-0 c.step.new.state c.requires.sound steps).1

pub returns-in-Stopped-clause-sound : goal.returns-in-Stopped-clause-sound
returns-in-Stopped-clause-sound c =
    let p = c.args.program.now in
    let certified : IsCertified p.graph p.facts (marks_of p c.args.certificate.now) =
    c.good_is_certified.ensures p.graph p.facts p.groups c.args.certificate.now (record { graph = c.law.ensures.fits; facts_are = c.law.ensures.facts; grouping = c.law.ensures.groups }) c.requires.good in
    let steps : Steps p.graph c.args.state.now c.args.choice.now c.in_ok-step.field-0 c.step.new.state = search rules in
    (c.steps_lead_to_sound.ensures p.graph p.facts (marks_of p c.args.certificate.now) certified c.args.state.now c.args.choice.now c.in_ok-step.field-0 c.step.new.state c.requires.sound steps).1
