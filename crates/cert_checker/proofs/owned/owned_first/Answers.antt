use Rattle.std.proofs.Common.{◌≡◌, Result, subst, sym, rules}
use Rattle.std.specs.Prelude.{IfOk}
use Rattle.heap_meaning.specs.declared.states.State.{State}
use Rattle.heap_meaning.specs.Run.{first_state_of}
use Rattle.heap_law.specs.Law.{IsCertified}
use Rattle.cert_checker.specs.Owned.{IsSoundBy, marks_of}
use Rattle.cert_checker.proofs.WholeLemmas.{state_then}
use Rattle.cert_checker.proofs.owned.owned_first.Goals as goal

pub returns-clause-sound : goal.returns-clause-sound
returns-clause-sound c =
    let p = c.args.program.now in
    let first : IfOk c.first_state.result (λ (s : State). s ≡ first_state_of p.graph) = search rules in
    let certified : IsCertified p.graph p.facts (marks_of p c.args.certificate.now) =
    c.good_is_certified.ensures p.graph p.facts p.groups c.args.certificate.now (record { graph = c.law.ensures.fits; facts_are = c.law.ensures.facts; grouping = c.law.ensures.groups }) c.requires in
    state_then c.first_state.result (λ (s : State). s ≡ first_state_of p.graph) (IsSoundBy p c.args.certificate.now) first
    (λ s e. subst (IsSoundBy p c.args.certificate.now) (sym e) (c.runs_begin_sound.ensures p.graph p.facts (marks_of p c.args.certificate.now) certified))
