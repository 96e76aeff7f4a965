use Rattle.path_facts.proofs.TrackLemmas.{AreNumbered}
use Rattle.path_facts.proofs.tracks.numbered.Given as goal

abbrev pub invariant-loop-mark : goal.invariant-loop-mark
invariant-loop-mark l = AreNumbered l.marks l.mark-index l.tracks.items l.count
