-- What a good certificate says of the runs of a program.
use Rattle.std.specs.Prelude.{◌≡◌, List, Option, None, Some}
use Rattle.std.specs.List.{All}
use Rattle.heap_meaning.specs.declared.states.State.{State}
use Rattle.heap_meaning.specs.declared.choices.Choice.{Choice}
use Rattle.heap_meaning.specs.declared.choices.Stepped.{Stepped}
use Rattle.heap_meaning.specs.declared.choices.Stepped.TheVariants as stepped
use Rattle.heap_meaning.specs.Run.{states_of}
use Rattle.own_cert.specs.declared.certificate.Certificate.{Certificate}
use Rattle.transfer_rules.specs.Programs.{Parts}
use Rattle.verdict_meaning.specs.Programs.{system_of}
use Rattle.heap_law.specs.Markings.{Marking}
use Rattle.heap_law.specs.Certified.{marking_of}
use Rattle.heap_law.specs.Law.{IsOwned}
use Rattle.heap_law.specs.Sound.{IsSound}
use Rattle.cert_checker.specs.declared.owned.Owned.{Owned}
use Rattle.cert_checker.specs.declared.owned.Owned.TheVariants as owned

-- a certificate of a program as marks
abbrev pub marks_of : Parts → Certificate → Marking
marks_of p c = marking_of p.graph p.facts (system_of p.graph p.facts p.groups) c

-- in each state of each run each object has the owners that it should, and no step is a double free
abbrev pub RunsHaveOwners : Parts → Certificate → Type 0
RunsHaveOwners p c = (choices : List Choice) → All (IsOwned p.graph (marks_of p c)) (states_of p.graph choices)

-- a state is sound by the certificate
abbrev pub IsSoundBy : Parts → Certificate → State → Type 0
IsSoundBy p c s = IsSound p.graph p.facts (marks_of p c) s

-- what came of a step that is no double free
abbrev pub stepped_of : Owned → Stepped
stepped_of owned.Moved = stepped.Moved
stepped_of owned.Ended = stepped.Ended
stepped_of (owned.Stopped stop) = stepped.Stopped stop
