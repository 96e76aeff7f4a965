use Rattle.call_summary.proofs.Knowns.{refuted_known, begins_long}
use Rattle.call_summary.proofs.Left.{valid_stand_back}
use Rattle.call_summary.proofs.knowing.refuted_by.Goals as goal

pub refuted-requires-clause-back : goal.refuted-requires-clause-back
refuted-requires-clause-back g c = valid_stand_back (g.G.Shapes.system c.args.groups.now) (g.G.Groups.counting c.args.groups.now) c.args.derivation.now.lines c.requires.refutation.valid

pub refuted-requires-clause-first : goal.refuted-requires-clause-first
refuted-requires-clause-first g c = begins_long c.args.known.now c.args.derivation.now.lines c.requires.refutation.begins

pub returns : goal.returns
returns g c =
    refuted_known (g.G.Shapes.system c.args.groups.now) (g.G.Groups.counting c.args.groups.now) c.args.known.now c.args.derivation.now.lines c.args.budget c.in_ok-inferred.inferred c.in_ok-lines.lines c.requires.refutation
    c.in_ok-inferred.ensures.trim c.in_ok-inferred.ensures.answer c.in_ok-lines.ensures.known c.in_ok-lines.ensures.first c.in_ok-lines.ensures.have
