use Rattle.std.proofs.Common.{◌≡◌, drop}
use Rattle.heap_meaning.specs.Run.{without}
use Rattle.heap_meaning.proofs.values.Values.clear.Given as goal

-- what is left to clear gives the whole result
abbrev pub invariant-loop-place : goal.invariant-loop-place
invariant-loop-place l = without l.self (drop l.place-index l.places) ≡ without l.initial.self l.places
