use Rattle.call_search.specs.Entries.{AreLeft}
use Rattle.std.proofs.Common.{◌≤◌}
use Rattle.verdict_meaning.specs.Systems.{root}
use Rattle.call_search.specs.Answers.{IsFilling}
use Rattle.call_search.proofs.fill.fill.Given as goal

abbrev pub invariant-loop-group : goal.invariant-loop-group
invariant-loop-group g l = record {
  filling : IsFilling (g.G.Shapes.system l.groups) (g.G.Groups.counting l.groups) l.phi l.top l.fn.ledger l.ledger l.table.items l.group;
  within : l.group ≤ root (g.G.Shapes.system l.groups);
  left : AreLeft (g.G.Shapes.system l.groups) (g.G.Groups.counting l.groups) l.fn.ledger.lines l.phi l.table.items l.kept.items;
}

abbrev pub decreases-loop-group : goal.decreases-loop-group
decreases-loop-group g l = l.group
