-- Parts of what is read of an expression, cut where the parser's functions are.
use Rattle.std.specs.Prelude.{Bool, true, false, List, length, Option, Some, None, option_and_then, codes}
use Rattle.c_tree.specs.Plain.{Expr, Exprs, no_exprs}
use Rattle.c_token.specs.declared.token.Token.{Token}
use Rattle.c_grammar.specs.Parts.{Part, Row}
use Rattle.c_grammar.specs.Reading.{Front, after_mark}
use Rattle.c_grammar.specs.ReadExprs.{Reader, Way, no_way, by_arrow, by_index, way, step_arrow, step_index, some_args, Stage, malloc_closed}
use Rattle.c_grammar.specs.Exprs.{Request}

abbrev pub is_step : Way → Bool
is_step no_way = false
is_step _ = true

abbrev pub begins_step : List Token → Bool
begins_step ts = is_step (way ts)

abbrev pub step_way : Reader → Part Expr → Way → Option (Part Expr)
step_way read p no_way = None
step_way read p (by_arrow q) = step_arrow p q
step_way read p (by_index q) = step_index read p q

abbrev pub one_step : Reader → Part Expr → Option (Part Expr)
one_step read p = step_way read p (way p.rest)

abbrev pub args_at : Reader → List Token → Option Front → Option (Row Exprs)
args_at read ts (Some q) = Some (record { tree = no_exprs; depth = 0; rest = ts })
args_at read ts None = some_args (length ts) read ts

-- the arguments up to the closing parenthesis
abbrev pub args_before : Reader → List Token → Option (Row Exprs)
args_before read ts = args_at read ts (after_mark (codes ")") ts)

abbrev pub malloc_after : Stage → Token → List Token → Option (Part Request)
malloc_after s t ts = option_and_then (λ q. option_and_then (malloc_closed t) (s.size q.rest)) (after_mark (codes "(") ts)
