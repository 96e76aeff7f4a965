use Rattle.std.proofs.Common.{arith, sym}
use Rattle.call_search.proofs.Asking.{first_filled, next_filled, last_filled, left_to}
use Rattle.call_search.proofs.fill.fill.Goals as goal

pub loop-group-init : goal.loop-group-init
loop-group-init g c = record {
  filling = first_filled (g.G.Shapes.system c.args.groups.now) (g.G.Groups.counting c.args.groups.now) c.args.phi.now c.args.top.now c.args.ledger.now c.ask_all.new.ledger c.args.table.now.items c.ask_all.new.table.items c.root.result c.root-group.result c.in_ok-other.other c.root.ensures c.root-group.ensures c.in-Kept.is c.in_ok-other.ensures.answer c.requires.empty;
  within = omega arith;
  left = c.in_ok-other.ensures.left;
}

pub ask_group-requires-clause-left : goal.ask_group-requires-clause-left
ask_group-requires-clause-left g c = left_to (g.G.Shapes.system c.args.groups.now) (g.G.Groups.counting c.args.groups.now) c.args.phi.now c.args.ledger.now c.loop-group.ledger c.loop-group.table.items c.loop-group.kept.items (sym c.loop-group.invariant.filling.ledger) c.loop-group.invariant.left

pub loop-group-preserved : goal.loop-group-preserved
loop-group-preserved g c = record {
  filling = next_filled (g.G.Shapes.system c.args.groups.now) (g.G.Groups.counting c.args.groups.now) c.args.phi.now c.args.top.now c.args.ledger.now c.loop-group.ledger c.ask_group.new.ledger c.loop-group.table.items c.ask_group.new.table.items c.loop-group.group c.in_ok-other-2.other c.loop-group-test.true c.loop-group.invariant.filling c.in-Kept-2.is c.in_ok-other-2.ensures.answer;
  within = omega arith;
  left = left_to (g.G.Shapes.system c.args.groups.now) (g.G.Groups.counting c.args.groups.now) c.args.phi.now c.loop-group.ledger c.args.ledger.now c.ask_group.new.table.items c.ask_group.new.kept.items c.loop-group.invariant.filling.ledger c.in_ok-other-2.ensures.left;
}

pub returns-clause-answer : goal.returns-clause-answer
returns-clause-answer g c = last_filled (g.G.Shapes.system c.args.groups.now) (g.G.Groups.counting c.args.groups.now) c.args.phi.now c.args.top.now c.args.ledger.now c.loop-group.ledger c.loop-group.table.items c.loop-group.group c.loop-group-test.false c.loop-group.invariant.filling
