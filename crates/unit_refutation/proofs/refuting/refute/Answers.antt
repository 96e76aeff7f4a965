use Rattle.std.proofs.Common.{List, sym, subst}
use Rattle.unit_refutation.specs.declared.steps.Step.{Step}
use Rattle.unit_refutation.specs.Lines.{AreRoomy}
use Rattle.unit_refutation.proofs.BoundLemmas.{refuted, spent}
use Rattle.unit_refutation.proofs.refuting.refute.Goals as goal

pub write-requires-clause-room : goal.write-requires-clause-room
write-requires-clause-room g c = subst (λ (xs : List Step). AreRoomy c.trail.new.numbers xs) (sym c.deref.ensures.value) c.in_ok-steps.ensures.room

pub returns-then-whole : goal.returns-then-whole
returns-then-whole g c =
    refuted (g.T.Tables.system c.args.tables.now) (g.T.Tables.scope c.args.tables.now) c.in_ok-steps.steps.items c.deref.result.now c.args.clash.group c.lit_at-lit.result c.root-root.result c.args.budget
    c.new-writer.result c.write.new.writer c.in_ok-whole.whole c.in_ok-whole.ensures c.deref.ensures.value c.in_ok-steps.ensures.ends c.root-root.ensures c.new-writer.ensures.words c.new-writer.ensures.budget c.if-whole.true

pub returns : goal.returns
returns g c =
    spent (g.T.Tables.system c.args.tables.now) (g.T.Tables.scope c.args.tables.now) c.in_ok-steps.steps.items c.deref.result.now c.args.clash.group c.lit_at-lit.result c.root-root.result c.args.budget
    c.new-writer.result c.write.new.writer c.in_ok-whole.whole c.in_ok-whole.ensures c.deref.ensures.value c.in_ok-steps.ensures.ends c.root-root.ensures c.new-writer.ensures.words c.new-writer.ensures.budget c.if-whole.false
