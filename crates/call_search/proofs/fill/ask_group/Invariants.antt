use Rattle.call_search.specs.Entries.{AreLeft}
use Rattle.call_search.specs.Answers.{IsDeepened}
use Rattle.call_search.proofs.fill.ask_group.Given as goal

abbrev pub invariant-loop-at : goal.invariant-loop-at
invariant-loop-at g l = record {
  deepened : IsDeepened (g.G.Shapes.system l.groups) (g.G.Groups.counting l.groups) l.phi l.group l.initial.ledger l.ledger l.initial.table.items l.table.items l.at;
  left : AreLeft (g.G.Shapes.system l.groups) (g.G.Groups.counting l.groups) l.fn.ledger.lines l.phi l.table.items l.kept.items;
}
