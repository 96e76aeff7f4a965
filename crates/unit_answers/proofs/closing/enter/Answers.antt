use Rattle.std.proofs.Common.{◌≡◌, ℕ, List, length, refl, ap, subst, ◌∙◌, arith}
use Rattle.verdict_meaning.specs.Systems.{callees}
use Rattle.unit_answers.specs.declared.layouts.Call.{Call}
use Rattle.unit_answers.specs.Settled.{IsEntered}
use Rattle.unit_answers.proofs.Entering.{entered_none}
use Rattle.unit_answers.proofs.closing.enter.Goals as goal

pub loop-site-init : goal.loop-site-init
loop-site-init c = record {
  unknowns = refl;
  entered = λ s rows is. entered_none s c.args.layout.now is c.args.group c.requires.group rows c.args.lower.now c.requires.lower c.args.trail.now c.requires.empty;
}

pub loop-site-preserved : goal.loop-site-preserved
loop-site-preserved c = record {
  unknowns = c.in_ok-enter_site.ensures.unknowns ∙ c.loop-site.invariant.unknowns;
  entered = λ s rows is. c.in_ok-enter_site.ensures.entered s rows is (c.loop-site.invariant.entered s rows is);
}

pub returns-clause-entered : goal.returns-clause-entered
returns-clause-entered c = λ s rows is.
    let own = is.each c.args.group (let many = is.groups in let lt = c.requires.group in omega arith) in
    let len : length c.calls_of-site-end.result.now ≡ length (callees s c.args.group) = ap (λ (cs : List Call). length cs) c.calls_of-site-end.ensures ∙ own.sites in
    let end : c.loop-site.site ≡ length (callees s c.args.group) = (let low = c.loop-site-test.false in let high = c.loop-site.auto.site-end in omega arith) in
    subst (λ (n : ℕ). IsEntered s c.args.group rows c.args.lower.now n c.loop-site.trail) end (c.loop-site.invariant.entered s rows is)
