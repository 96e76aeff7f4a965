use Rattle.std.proofs.Common.{refl}
use Rattle.verdict_meaning.specs.Programs.{IsSystemOf, system_of}
use Rattle.unit_answers.proofs.Calls.{root_call_is}
use Rattle.unit_answers.proofs.laying.root_call.Goals as goal

pub returns : goal.returns
returns c =
    let p = c.args.program.now in
    let of : IsSystemOf p.graph p.facts (system_of p.graph p.facts p.groups) = c.system_is_of_graph.ensures p.graph p.facts p.groups c.law.ensures.fits c.law.ensures.groups in
    root_call_is p.graph p.facts p.groups c.law.ensures.groups of c.args.group c.first-proc.result c.requires.group c.first-proc.ensures.first
    (record { callee = record { proc = c.first-proc.result; group = c.args.group }; there = c.face-there.result; here = c.root_site_face-here.result })
    refl c.face-there.ensures c.root_site_face-here.ensures
