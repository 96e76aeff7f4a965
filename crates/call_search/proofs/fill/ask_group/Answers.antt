use Rattle.std.proofs.Common.{◌<◌, length, refl, sym, arith}
use Rattle.verdict_meaning.specs.Systems.{callees}
use Rattle.call_search.specs.Entries.{in_group}
use Rattle.call_search.proofs.Asking.{deepened-none, bits_asker, deepened_step, deepened_all, still_within, kept_provided, left_to}
use Rattle.call_search.proofs.fill.ask_group.Goals as goal

pub loop-at-init : goal.loop-at-init
loop-at-init g c = record {
  deepened = deepened-none (g.G.Shapes.system c.args.groups.now) (g.G.Groups.counting c.args.groups.now) c.args.phi.now c.args.group c.args.ledger.now c.args.table.now.items c.requires.left.table;
  left = c.requires.left;
}

pub ask_all-requires-clause-left : goal.ask_all-requires-clause-left
ask_all-requires-clause-left g c = left_to (g.G.Shapes.system c.args.groups.now) (g.G.Groups.counting c.args.groups.now) c.args.phi.now c.args.ledger.now c.loop-at.ledger c.loop-at.table.items c.loop-at.kept.items (sym c.loop-at.invariant.deepened.ledger) c.loop-at.invariant.left

pub ask_all-requires-clause-asker : goal.ask_all-requires-clause-asker
ask_all-requires-clause-asker g c =
    let lt : c.loop-at.at < length (in_group c.loop-at.table.items c.args.group) =
    still_within c.args.table.now.items c.loop-at.table.items c.listed-count.result.now c.args.group c.loop-at.at (length c.listed-count.result.now) c.loop-at-test.true refl c.listed-count.ensures (c.loop-at.invariant.deepened.same c.args.group (omega arith)) in
    bits_asker (g.G.Shapes.system c.args.groups.now) (g.G.Groups.counting c.args.groups.now) c.loop-at.ledger.lines c.args.phi.now c.loop-at.table.items c.args.group c.loop-at.at c.in_ok-bits.bits.items c.deref.result.now c.loop-at.invariant.deepened.table lt c.in_ok-bits.ensures c.deref.ensures.value

pub loop-at-preserved : goal.loop-at-preserved
loop-at-preserved g c =
    let lt : c.loop-at.at < length (in_group c.loop-at.table.items c.args.group) =
    still_within c.args.table.now.items c.loop-at.table.items c.listed-count.result.now c.args.group c.loop-at.at (length c.listed-count.result.now) c.loop-at-test.true refl c.listed-count.ensures (c.loop-at.invariant.deepened.same c.args.group (omega arith)) in
    record {
      deepened =
          deepened_step (g.G.Shapes.system c.args.groups.now) (g.G.Groups.counting c.args.groups.now) c.args.phi.now c.args.group c.args.ledger.now c.loop-at.ledger c.ask_all.new.ledger c.args.table.now.items c.loop-at.table.items c.ask_all.new.table.items c.loop-at.at c.in_ok-bits.bits.items c.deref.result.now c.loop-at.invariant.deepened lt c.in_ok-bits.ensures c.deref.ensures.value
          (kept_provided (g.G.Shapes.system c.args.groups.now) (g.G.Groups.counting c.args.groups.now) c.args.phi.now c.args.group c.deref.result.now c.loop-at.ledger c.ask_all.new.ledger c.loop-at.table.items c.ask_all.new.table.items 0 (length (callees (g.G.Shapes.system c.args.groups.now) c.args.group)) c.in_ok-other.other c.in-Kept.is c.in_ok-other.ensures.answer);
      left = left_to (g.G.Shapes.system c.args.groups.now) (g.G.Groups.counting c.args.groups.now) c.args.phi.now c.loop-at.ledger c.args.ledger.now c.ask_all.new.table.items c.ask_all.new.kept.items c.loop-at.invariant.deepened.ledger c.in_ok-other.ensures.left;
    }

pub returns-clause-answer : goal.returns-clause-answer
returns-clause-answer g c = deepened_all (g.G.Shapes.system c.args.groups.now) (g.G.Groups.counting c.args.groups.now) c.args.phi.now c.args.group c.args.ledger.now c.loop-at.ledger c.args.table.now.items c.loop-at.table.items c.listed-count.result.now c.loop-at.at (length c.listed-count.result.now) c.loop-at.invariant.deepened c.loop-at-test.false refl c.listed-count.ensures
