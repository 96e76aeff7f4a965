use Rattle.call_search.specs.Ledgers.{Extends}
use Rattle.call_search.specs.Entries.{AreKept}
use Rattle.call_search.proofs.search.search.Given as goal

abbrev pub invariant-again : goal.invariant-again
invariant-again g l = record {
  extends : Extends (g.G.Shapes.system l.groups) (g.G.Groups.counting l.groups) l.fn.ledger l.ledger;
  kept : AreKept (g.G.Shapes.system l.groups) (g.G.Groups.counting l.groups) l.ledger.lines l.phi.items l.kept.items;
}

abbrev pub decreases-again : goal.decreases-again
decreases-again g l = l.ledger.words
