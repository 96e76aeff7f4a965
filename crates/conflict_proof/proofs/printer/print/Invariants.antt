use Rattle.std.proofs.Common.{◌≡◌, ◌∷◌, map, take, codes}
use Rattle.std.specs.List.{All}
use Rattle.line_texts.specs.Lines.{with_line_feeds}
use Rattle.conflict_proof.specs.Text.{line_text}
use Rattle.conflict_proof.specs.Values.{IsLine}
use Rattle.conflict_proof.proofs.printer.print.Given as goal

abbrev pub invariant-loop-line : goal.invariant-loop-line
invariant-loop-line l = record {
  text : l.out.items ≡ with_line_feeds (codes "clouseau derivation 1" ∷ map line_text (take l.line-index l.line-items));
  each : All IsLine (take l.line-index l.line-items);
}
