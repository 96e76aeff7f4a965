use Rattle.std.proofs.Common.{◌≡◌, drop}
use Rattle.c_tree.specs.View.{stmts_view}
use Rattle.annotate.specs.Spans.{with_stmts}
use Rattle.annotate.proofs.spans.+note_stmts.Given as goal

abbrev pub invariant-note_stmts-loop-s : goal.invariant-note_stmts-loop-s
invariant-note_stmts-loop-s l = with_stmts (stmts_view (drop l.s-index l.ss)) l.spans.items ≡ with_stmts (stmts_view l.ss) l.fn.spans.items
