use Rattle.std.proofs.Common.{◌≡◌, drop}
use Rattle.c_tree.specs.View.{stmts_view}
use Rattle.c_types.specs.Declarations.{with_stmts}
use Rattle.c_types.proofs.mentions.+stmts.Given as goal

abbrev pub invariant-add_stmts-loop-s : goal.invariant-add_stmts-loop-s
invariant-add_stmts-loop-s l = with_stmts l.tags (stmts_view (drop l.s-index l.ss)) ≡ with_stmts l.fn.tags (stmts_view l.ss)
