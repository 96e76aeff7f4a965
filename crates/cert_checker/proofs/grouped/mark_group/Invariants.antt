use Rattle.std.proofs.Common.{take}
use Rattle.cert_checker.specs.Grouped.{MarksGroup}
use Rattle.cert_checker.proofs.grouped.mark_group.Given as goal

abbrev pub invariant-loop-member : goal.invariant-loop-member
invariant-loop-member l = MarksGroup l.fn.numbers.items l.numbers.items (take l.member-index l.members) l.group
