use Rattle.std.proofs.Common.{List, length, ap, sym, ◌∙◌}
use Rattle.owner_vars.specs.Unknowns.{Unknown, root_unknowns}
use Rattle.verdict_meaning.specs.Programs.{IsSystemOf, system_of}
use Rattle.unit_answers.proofs.FaceNumbers.{root_procs}
use Rattle.unit_answers.proofs.laying.root_count.Goals as goal

pub returns-clause-count : goal.returns-clause-count
returns-clause-count c =
    let p = c.args.program.now in
    let of : IsSystemOf p.graph p.facts (system_of p.graph p.facts p.groups) = c.system_is_of_graph.ensures p.graph p.facts p.groups c.law.ensures.fits c.law.ensures.groups in
    let procs = root_procs p.graph p.facts p.groups c.law.ensures.groups of in
    c.count-count.ensures.count ∙ ap (λ (us : List Unknown). length us) (c.root_numbering.ensures ∙ ap (root_unknowns p.graph) (sym procs)) ∙ of.root_numbers.count
