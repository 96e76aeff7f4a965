use Rattle.path_facts.proofs.TrackLemmas.{AreMarkedBelow}
use Rattle.path_facts.proofs.tracks.marked.Given as goal

abbrev pub invariant-places : goal.invariant-places
invariant-places l = AreMarkedBelow l.graph l.proc l.marks.items l.place
