use Rattle.std.proofs.Common.{◌+◌, sym}
use Rattle.call_search.proofs.Asking.{provided-none, provided-next, kept_provided, left_to}
use Rattle.call_search.proofs.fill.ask_all.Goals as goal

pub loop-site-init : goal.loop-site-init
loop-site-init g c = record {
  provided = provided-none (g.G.Shapes.system c.args.groups.now) (g.G.Groups.counting c.args.groups.now) c.args.phi.now c.args.group c.args.bits.now c.args.ledger.now c.args.table.now.items c.requires.left.table;
  left = c.requires.left;
}

pub ask-requires-clause-left : goal.ask-requires-clause-left
ask-requires-clause-left g c = left_to (g.G.Shapes.system c.args.groups.now) (g.G.Groups.counting c.args.groups.now) c.args.phi.now c.args.ledger.now c.loop-site.ledger c.loop-site.table.items c.loop-site.kept.items (sym c.loop-site.invariant.provided.ledger) c.loop-site.invariant.left

pub loop-site-preserved : goal.loop-site-preserved
loop-site-preserved g c = record {
  provided =
      provided-next (g.G.Shapes.system c.args.groups.now) (g.G.Groups.counting c.args.groups.now) c.args.phi.now c.args.group c.args.bits.now c.args.ledger.now c.loop-site.ledger c.ask.new.ledger c.args.table.now.items c.loop-site.table.items c.ask.new.table.items 0 c.loop-site.site (c.loop-site.site + 1) c.loop-site.invariant.provided
      (kept_provided (g.G.Shapes.system c.args.groups.now) (g.G.Groups.counting c.args.groups.now) c.args.phi.now c.args.group c.args.bits.now c.loop-site.ledger c.ask.new.ledger c.loop-site.table.items c.ask.new.table.items c.loop-site.site (c.loop-site.site + 1) c.in_ok-other.other c.in-Kept.is c.in_ok-other.ensures.answer);
  left = left_to (g.G.Shapes.system c.args.groups.now) (g.G.Groups.counting c.args.groups.now) c.args.phi.now c.loop-site.ledger c.args.ledger.now c.ask.new.table.items c.ask.new.kept.items c.loop-site.invariant.provided.ledger c.in_ok-other.ensures.left;
}
