use Rattle.std.proofs.Common.{◌≡◌, ◌-◌, ℕ, length, ap, subst, arith}
use Rattle.unit_refutation.specs.Collecting.{AreCollected, lit_found}
use Rattle.unit_refutation.proofs.CollectLemmas.{asked_none, asked_group}
use Rattle.unit_refutation.proofs.collecting.collect.Goals as goal

pub collect_group-requires-clause-collected : goal.collect_group-requires-clause-collected
collect_group-requires-clause-collected g c =
    asked_none (g.T.Tables.system c.args.tables.now) (g.T.Tables.scope c.args.tables.now) (g.T.Tables.rows c.args.tables.now) c.args.closures.now c.args.clash c.requires.asked
    c.args.marks.now c.new-steps.result.items c.new-steps.ensures.items c.requires.room c.requires.first c.requires.second

pub collect_group-requires-in-loop-group-clause-collected : goal.collect_group-requires-in-loop-group-clause-collected
collect_group-requires-in-loop-group-clause-collected g c =
    asked_group (g.T.Tables.system c.args.tables.now) (g.T.Tables.scope c.args.tables.now) (g.T.Tables.rows c.args.tables.now) c.args.closures.now c.args.clash c.requires.asked
    c.loop-group.marks (c.loop-group.group - 1) c.loop-group.group (length c.findings-end.result.now) c.loop-group.steps.items (omega arith) (ap length c.findings-end.ensures) c.loop-group.invariant

pub returns : goal.returns
returns g c =
    let e : c.loop-group.group ≡ 0 = omega arith in
    subst (λ (n : ℕ). AreCollected (g.T.Tables.system c.args.tables.now) (g.T.Tables.scope c.args.tables.now) c.args.closures.now c.args.clash.group c.args.clash.place
    (lit_found c.args.closures.now c.args.clash.group c.args.clash.place) c.loop-group.marks n 0 c.loop-group.steps.items) e c.loop-group.invariant
