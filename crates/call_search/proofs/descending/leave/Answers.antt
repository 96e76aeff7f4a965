use Rattle.call_search.proofs.Steps.{left_refuted, left_finished}
use Rattle.call_search.proofs.descending.leave.Goals as goal

pub returns-then-frame : goal.returns-then-frame
returns-then-frame g c = left_refuted (g.G.Shapes.system c.args.groups.now) (g.G.Groups.counting c.args.groups.now) c.args.phi.now c.args.ledger.now c.args.kept.now.items c.args.stack.now.items c.args.frame c.ended.result c.requires.ledger c.requires.frames c.requires.kept c.if-frame.true c.ended.ensures

pub returns : goal.returns
returns g c = left_finished (g.G.Shapes.system c.args.groups.now) (g.G.Groups.counting c.args.groups.now) c.args.phi.now (g.met.G.Shapes.shaped c.args.groups.now) c.args.ledger.now c.args.kept.now.items c.finish.new.kept.items c.args.stack.now.items c.finish.new.stack.items c.args.frame c.requires.ledger c.requires.frames c.requires.kept c.if-frame.false c.in_ok-finish.ensures c.ended-2.result c.ended-2.ensures
