use Rattle.std.proofs.Common.{◌≡◌, ◌++◌, map, take}
use Rattle.std.specs.List.{All}
use Rattle.line_texts.specs.Lines.{with_line_feeds}
use Rattle.own_cert.specs.declared.lines.Version.TheVariants.{First}
use Rattle.own_cert.specs.Text.{place_lines, line_text}
use Rattle.own_cert.specs.Values.{IsRow}
use Rattle.own_cert.proofs.printer.put_places.Given as goal

abbrev pub invariant-loop-row : goal.invariant-loop-row
invariant-loop-row l = record {
  text : l.out.items ≡ l.initial.out.items ++ with_line_feeds (map line_text (place_lines First (take l.row-index l.rows)));
  is : All IsRow (take l.row-index l.rows);
}
