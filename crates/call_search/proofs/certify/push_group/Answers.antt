use Rattle.std.proofs.Common.{sym, subst, take, arith, List}
use Rattle.call_search.specs.declared.entries.Entry.{Entry}
use Rattle.call_search.specs.Entries.{AllAnswered}
use Rattle.call_search.specs.Made.{all_of, AreMadeOf}
use Rattle.call_search.proofs.Lists.{append_none}
use Rattle.call_search.proofs.Certifying.{entry_there, entries_next, entries_all}
use Rattle.call_search.proofs.certify.push_group.Goals as goal

pub instance_of-requires-clause-entry : goal.instance_of-requires-clause-entry
instance_of-requires-clause-entry g c = c.requires.complete.sized c.args.group c.loop-entry.entry-index c.entry-item.result (entry_there c.args.table.now.items c.args.group c.loop-entry.entry-index c.listed-entry-items.result.now c.entry-item.result c.listed-entry-items.ensures c.loop-entry-test.true c.entry-item.is)

pub instance_of-requires-clause-answered : goal.instance_of-requires-clause-answered
instance_of-requires-clause-answered g c =
    subst (λ n. AllAnswered (g.G.Shapes.system c.args.groups.now) c.args.table.now.items n c.entry-item.result.bits) (sym (c.requires.complete.group c.args.group c.loop-entry.entry-index c.entry-item.result (entry_there c.args.table.now.items c.args.group c.loop-entry.entry-index c.listed-entry-items.result.now c.entry-item.result c.listed-entry-items.ensures c.loop-entry-test.true c.entry-item.is)))
    (c.requires.complete.answered c.args.group c.loop-entry.entry-index c.entry-item.result (omega arith) (entry_there c.args.table.now.items c.args.group c.loop-entry.entry-index c.listed-entry-items.result.now c.entry-item.result c.listed-entry-items.ensures c.loop-entry-test.true c.entry-item.is))

pub loop-entry-preserved : goal.loop-entry-preserved
loop-entry-preserved g c =
    entries_next (g.G.Shapes.system c.args.groups.now) c.args.table.now.items c.args.group c.loop-entry.entry-index c.listed-entry-items.result.now c.loop-entry.out.items c.push.new.self.items c.entry-item.result _ c.listed-entry-items.ensures c.loop-entry-test.true c.entry-item.is c.loop-entry.invariant c.in_ok-instance_of.ensures c.in_ok-push.ensures.items

pub loop-entry-init : goal.loop-entry-init
loop-entry-init g c = subst (λ (es : List Entry). AreMadeOf (g.G.Shapes.system c.args.groups.now) c.args.table.now.items es c.args.out.now.items) (sym (append_none (all_of (take c.args.group c.args.table.now.items)))) c.requires.made

pub returns : goal.returns
returns g c = entries_all (g.G.Shapes.system c.args.groups.now) c.args.table.now.items c.args.group c.loop-entry.entry-index c.listed-entry-items.result.now c.loop-entry.out.items c.requires.group c.listed-entry-items.ensures c.loop-entry-test.false c.loop-entry.invariant
