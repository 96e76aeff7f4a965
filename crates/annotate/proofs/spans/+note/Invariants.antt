use Rattle.std.proofs.Common.{◌≡◌, drop}
use Rattle.c_tree.specs.View.{exprs_view}
use Rattle.annotate.specs.Spans.{with_exprs}
use Rattle.annotate.proofs.spans.+note.Given as goal

abbrev pub invariant-note_all-loop-e : goal.invariant-note_all-loop-e
invariant-note_all-loop-e l = with_exprs (exprs_view (drop l.e-index l.es)) l.spans.items ≡ with_exprs (exprs_view l.es) l.fn.spans.items
