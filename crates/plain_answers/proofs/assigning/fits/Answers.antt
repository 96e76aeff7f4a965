use Rattle.std.proofs.Common.{length, take}
use Rattle.plain_answers.proofs.Assigned.{unfit_by, fits_by, front_values}
use Rattle.plain_answers.proofs.assigning.fits.Goals as goal

pub returns-then-ne : goal.returns-then-ne
returns-then-ne g c =
    unfit_by (g.G.Shapes.system c.args.groups.now) c.args.phi.now c.args.callee c.args.face.now c.args.bits.now (take (length c.args.phi.now) c.args.bits.now)
    (front_values (g.G.Shapes.system c.args.groups.now) c.args.callee.group c.args.bits.now (length c.args.phi.now) c.requires.phi c.requires.size) c.ne.result c.ne.ensures c.if-ne.true

pub returns : goal.returns
returns g c =
    fits_by (g.G.Shapes.system c.args.groups.now) c.args.phi.now c.args.callee c.args.face.now c.args.bits.now (take (length c.args.phi.now) c.args.bits.now)
    (front_values (g.G.Shapes.system c.args.groups.now) c.args.callee.group c.args.bits.now (length c.args.phi.now) c.requires.phi c.requires.size)
    c.ne.result c.eq.result c.own_face.result.now c.ne.ensures c.if-ne.false c.own_face.ensures c.eq.ensures
