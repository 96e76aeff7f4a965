use Rattle.std.proofs.Common.{List, length, ap, ◌∙◌}
use Rattle.owner_vars.specs.Unknowns.{Unknown}
use Rattle.verdict_meaning.specs.Programs.{IsSystemOf, system_of}
use Rattle.unit_answers.proofs.laying.count_in.Goals as goal

pub returns-clause-count : goal.returns-clause-count
returns-clause-count c =
    let p = c.args.program.now in
    let of : IsSystemOf p.graph p.facts (system_of p.graph p.facts p.groups) = c.system_is_of_graph.ensures p.graph p.facts p.groups c.law.ensures.fits c.law.ensures.groups in
    c.count-count.ensures.count ∙ ap (λ (us : List Unknown). length us) c.numbering.ensures ∙ (of.numbers c.args.group c.requires).count
