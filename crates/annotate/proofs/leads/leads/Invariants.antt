use Rattle.annotate.proofs.LeadRows.{UpTo}
use Rattle.annotate.proofs.leads.leads.Given as goal

abbrev pub invariant-loop-before : goal.invariant-loop-before
invariant-loop-before l = UpTo l.source.graph.now l.phi l.before l.lists.items
