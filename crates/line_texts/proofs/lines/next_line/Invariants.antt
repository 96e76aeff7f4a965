use Rattle.std.proofs.Common.{◌≡◌, take}
use Rattle.line_texts.specs.Lines.{line_feeds}
use Rattle.line_texts.proofs.lines.next_line.Given as goal

abbrev pub invariant-loop-end : goal.invariant-loop-end
invariant-loop-end l = line_feeds (take l.end l.text) ≡ 0
