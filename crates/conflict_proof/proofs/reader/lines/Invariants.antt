use Rattle.std.proofs.Common.{◌≡◌, ◌++◌, map, length}
use Rattle.std.specs.List.{All}
use Rattle.line_texts.specs.Lines.{with_line_feeds}
use Rattle.conflict_proof.specs.Text.{line_text}
use Rattle.conflict_proof.specs.Values.{IsLine}
use Rattle.conflict_proof.proofs.reader.lines.Given as goal

abbrev pub invariant-loop-items : goal.invariant-loop-items
invariant-loop-items l = record {
  text : l.fn.text ≡ with_line_feeds (map line_text l.items.items) ++ l.rest;
  each : All IsLine l.items.items;
}

abbrev pub decreases-loop-items : goal.decreases-loop-items
decreases-loop-items l = length l.rest
