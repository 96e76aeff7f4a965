use Rattle.std.proofs.Common.{◌≡◌, ◌+◌, take}
use Rattle.std.specs.Prelude.{sum_by}
use Rattle.verdict_meaning.specs.Programs.{system_in}
use Rattle.unit_answers.proofs.laying.outer_in.Given as goal

abbrev pub invariant-loop-member : goal.invariant-loop-member
invariant-loop-member l = l.outer ≡ l.fields + sum_by (system_in l.program).parts (take l.member-index l.members)
