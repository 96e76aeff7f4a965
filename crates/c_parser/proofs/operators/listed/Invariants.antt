use Rattle.std.proofs.Common.{◌≡◌, drop, map}
use Rattle.c_parser.specs.Views.{row_view, listed}
use Rattle.c_parser.proofs.operators.listed.Given as goal

-- the operator among the rows that are left is the one among all
abbrev pub invariant-loop-spelling : goal.invariant-loop-spelling
invariant-loop-spelling l = listed l.mark (map row_view (drop l.spelling-index l.table)) ≡ listed l.mark (map row_view l.table)
