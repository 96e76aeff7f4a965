use Rattle.std.proofs.Common.{ap, ◌∙◌}
use Rattle.unit_answers.specs.Layouts.{Numbers}
use Rattle.verdict_meaning.specs.Programs.{IsSystemOf, system_in, system_of}
use Rattle.program_shapes.proofs.Shaped.{keeps}
use Rattle.program_shapes.proofs.shapes.program_shapes.Goals as goal

pub invariant_of-result : goal.invariant_of-result
invariant_of-result c =
    let p = c.args.program.now in
    let is = c.in_ok-layout.ensures in
    let of : IsSystemOf p.graph p.facts (system_of p.graph p.facts p.groups) = c.system_is_of_graph.ensures p.graph p.facts p.groups c.law.ensures.fits c.law.ensures.groups in
    record {
      tables = record {
        fields = ap (λ (l : Numbers). l.fields) c.layout-2.view_is ∙ is.fields;
        procs = c.in_ok-procs.ensures;
        groups = c.in_ok-groups.ensures (system_in p) is;
      };
      keeps = keeps p.graph p.facts p.groups c.law.ensures.groups of c.in_ok-layout.layout is;
    }
