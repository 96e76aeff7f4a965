use Rattle.std.proofs.Common.{◌-◌, length}
use Rattle.used_names.specs.Gone.{IsGoneBack}
use Rattle.used_names.proofs.needed.needed_lines.Given as goal

abbrev pub invariant-loop-done : goal.invariant-loop-done
invariant-loop-done l = IsGoneBack l.lines l.marks.items (length l.lines - l.done)
