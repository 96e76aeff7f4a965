use Rattle.std.proofs.Common.{◌∷◌, [], Option}
use Rattle.std.proofs.lemmas.Result.{IfOk-weaker}
use Rattle.conflict_proof.specs.declared.derivation.How.TheVariants.{Inst}
use Rattle.unit_refutation.specs.Lines.{Puts}
use Rattle.unit_refutation.proofs.LineLemmas.{put_within}
use Rattle.unit_refutation.proofs.StepLemmas.{roomy_site, carried_spells}
use Rattle.unit_refutation.proofs.spelling.spell.Goals as goal

pub get-from-requires : goal.get-from-requires
get-from-requires c = roomy_site c.args.numbers.now c.args.step.now c.in-Site.site c.in-Site.lower c.in-Site.lit c.requires.room c.in-Site.is

pub returns-in-Site-clause-spells : goal.returns-in-Site-clause-spells
returns-in-Site-clause-spells c =
    let step = c.args.step.now in
    IfOk-weaker c.put.result (λ (n : Option _). Puts step.group (Inst c.get-from.result c.in-Site.site) (step.lit ∷ []) c.args.writer.now c.put.new.self n) _
    (λ n p. carried_spells c.args.numbers.now step c.in-Site.site c.in-Site.lower c.get-from.result c.in-Site.lit c.args.writer.now c.put.new.self n c.in-Site.is c.get-from.ensures.number c.requires.within p)
    c.put.ensures

pub returns-in-Site-clause-within : goal.returns-in-Site-clause-within
returns-in-Site-clause-within c =
    let step = c.args.step.now in
    IfOk-weaker c.put.result (λ (n : Option _). Puts step.group (Inst c.get-from.result c.in-Site.site) (step.lit ∷ []) c.args.writer.now c.put.new.self n) _
    (λ n p. put_within step.group (Inst c.get-from.result c.in-Site.site) (step.lit ∷ []) c.args.writer.now c.put.new.self n c.requires.within p)
    c.put.ensures
