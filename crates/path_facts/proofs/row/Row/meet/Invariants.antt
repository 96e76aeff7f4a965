use Rattle.path_facts.proofs.BitLemmas.{IsMetBelow}
use Rattle.path_facts.proofs.row.Row.meet.Given as goal

abbrev pub invariant-words : goal.invariant-words
invariant-words l = IsMetBelow l.initial.self-inside.words.items l.other l.i l.self-inside.words.items l.changed
