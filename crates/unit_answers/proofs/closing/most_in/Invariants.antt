use Rattle.std.proofs.Common.{◌<◌, ◌≤◌, ◌^◌, take}
use Rattle.std.specs.List.{All}
use Rattle.unit_answers.specs.Propagation.{IsWithin}
use Rattle.unit_answers.proofs.closing.most_in.Given as goal

abbrev pub invariant-loop-number : goal.invariant-loop-number
invariant-loop-number l = record { least : l.least ≤ l.most; small : l.most < 2 ^ 31; most : All (IsWithin l.most) (take l.number l.table) }
