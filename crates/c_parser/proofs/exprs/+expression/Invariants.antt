use Rattle.std.proofs.Common.{◌≡◌, ◌≤◌, ◌+◌, ◌-◌, ◌*◌, ℕ, suc, length, Some}
use Rattle.std.specs.Prelude.{option_and_then}
use Rattle.c_tree.specs.View.{exprs_view}
use Rattle.c_grammar.specs.Exprs.{expr_line}
use Rattle.c_grammar.specs.ReadExprs.{stage, operations, steps, some_args, read_line, rise}
use Rattle.c_parser.specs.Views.{expr_part, finder}
use Rattle.c_parser.specs.Below.{args_before}
use Rattle.c_parser.proofs.Loops.{prepended}
use Rattle.c_parser.proofs.exprs.+expression.Given as goal

abbrev pub decreases-allocation : goal.decreases-allocation
decreases-allocation l = 8 * l.limit + 3

abbrev pub decreases-malloc : goal.decreases-malloc
decreases-malloc l = 8 * l.limit + 10

abbrev pub decreases-args : goal.decreases-args
decreases-args l = 8 * l.limit + 1

abbrev pub decreases-enclosed : goal.decreases-enclosed
decreases-enclosed l = 8 * l.limit + 4

abbrev pub decreases-line : goal.decreases-line
decreases-line l = 8 * l.limit

abbrev pub decreases-operations : goal.decreases-operations
decreases-operations l = 8 * l.limit + 1

abbrev pub decreases-primary : goal.decreases-primary
decreases-primary l = 8 * l.limit + 5

abbrev pub decreases-size : goal.decreases-size
decreases-size l = 8 * l.limit + 9

abbrev pub decreases-step : goal.decreases-step
decreases-step l = 8 * l.limit + 2

abbrev pub decreases-element : goal.decreases-element
decreases-element l = 8 * l.limit + 1

abbrev pub decreases-steps : goal.decreases-steps
decreases-steps l = 8 * l.limit + 3

abbrev pub decreases-sum_of : goal.decreases-sum_of
decreases-sum_of l = 8 * l.limit + 2

abbrev pub decreases-unary : goal.decreases-unary
decreases-unary l = 8 * l.limit + 7

abbrev pub decreases-units : goal.decreases-units
decreases-units l = 8 * l.limit + 8

abbrev pub invariant-args-loop-items : goal.invariant-args-loop-items
invariant-args-loop-items l = record {
  within : l.depth ≤ l.limit;
  read : (fuel : ℕ) × (length l.rest ≤ fuel)
      × (args_before ((stage l.limit).line expr_line) l.tokens ≡ option_and_then (prepended (exprs_view l.items) l.depth) (some_args fuel ((stage l.limit).line expr_line) l.rest));
}

abbrev pub decreases-args-loop-items : goal.decreases-args-loop-items
decreases-args-loop-items l = length l.rest

abbrev pub invariant-line-loop-below : goal.invariant-line-loop-below
invariant-line-loop-below l = record {
  within : l.left.depth ≤ l.limit;
  read : read_line (stage (l.limit - 1)) (l.limit - 1) l.below l.tokens ≡ Some (expr_part l.left);
}

abbrev pub invariant-operations-loop-found : goal.invariant-operations-loop-found
invariant-operations-loop-found l = record {
  within : l.left.depth ≤ l.limit + 1;
  read : (fuel : ℕ) × (l.limit + 1 ≤ fuel + l.left.depth)
      × (operations fuel (finder l.before_unit (suc l.below)) ((stage l.limit).line l.below) l.limit (expr_part l.left)
      ≡ operations (suc l.limit) (finder l.before_unit (suc l.below)) ((stage l.limit).line l.below) l.limit (expr_part l.fn.first));
}

abbrev pub decreases-operations-loop-found : goal.decreases-operations-loop-found
decreases-operations-loop-found l = l.limit + 1 - l.left.depth

abbrev pub invariant-steps-loop-parser : goal.invariant-steps-loop-parser
invariant-steps-loop-parser l = record {
  within : l.part.depth ≤ l.limit + 1;
  read : (fuel : ℕ) × (l.limit + 1 ≤ fuel + l.part.depth)
      × (steps fuel ((stage l.limit).line expr_line) l.limit (expr_part l.part) ≡ steps (suc l.limit) ((stage l.limit).line expr_line) l.limit (expr_part l.fn.first));
}

abbrev pub decreases-steps-loop-parser : goal.decreases-steps-loop-parser
decreases-steps-loop-parser l = l.limit + 1 - l.part.depth

abbrev pub invariant-sum_of-loop-line : goal.invariant-sum_of-loop-line
invariant-sum_of-loop-line l = record {
  within : l.left.depth ≤ l.limit + 1;
  read : rise (stage l.limit) l.limit l.line (expr_part l.fn.product) ≡ Some (expr_part l.left);
}
