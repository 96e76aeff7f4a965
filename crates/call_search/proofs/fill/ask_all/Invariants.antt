use Rattle.call_search.specs.Entries.{AreLeft}
use Rattle.call_search.specs.Answers.{IsProvided}
use Rattle.call_search.proofs.fill.ask_all.Given as goal

abbrev pub invariant-loop-site : goal.invariant-loop-site
invariant-loop-site g l = record {
  provided : IsProvided (g.G.Shapes.system l.groups) (g.G.Groups.counting l.groups) l.phi l.group l.bits l.initial.ledger l.ledger l.initial.table.items l.table.items 0 l.site;
  left : AreLeft (g.G.Shapes.system l.groups) (g.G.Groups.counting l.groups) l.fn.ledger.lines l.phi l.table.items l.kept.items;
}
