use Rattle.std.proofs.Common.{◌≤◌, ◌*◌, length, arith}
use Rattle.std.proofs.lemmas.Result.{err_from_is_err_and}
use Rattle.c_tree.specs.View.{tree_view}
use Rattle.c_tree.specs.Nodes.{tree_size}
use Rattle.c_parser.proofs.HeldNames.{names_held}
use Rattle.source_program.proofs.Tokens.{few_tokens}
use Rattle.source_program.proofs.Causes.{lex_failure, parse_failure, type_failure}
use Rattle.source_program.proofs.source.typed_source.Goals as goal

pub returns-in_err-tokens-clause-cause : goal.returns-in_err-tokens-clause-cause
returns-in_err-tokens-clause-cause c =
    let p = err_from_is_err_and c.from_residual.result c.from_residual.ensures.1 in
    rw (p.1, p.2) (lex_failure c.args.source.now c.in_err-tokens.field-0.0 c.in_err-tokens.ensures.cause)

pub parse-requires : goal.parse-requires
parse-requires c = rw c.as_slice.ensures.value (names_held c.in_ok-tokens.tokens.items c.in_ok-tokens.ensures.formed)

pub returns-in_err-tree-clause-cause : goal.returns-in_err-tree-clause-cause
returns-in_err-tree-clause-cause c =
    let p = err_from_is_err_and c.from_residual-in_err-tree.result c.from_residual-in_err-tree.ensures.1 in
    rw (p.1, p.2)
    (parse_failure c.args.source.now c.in_ok-tokens.tokens.items c.parse.result c.in_err-tree.field-0.0 c.in_ok-tokens.ensures.reading
    c.in_err-tree.was (rw (← c.as_slice.ensures.value) c.parse.ensures.none))

pub check_types-requires-clause-small : goal.check_types-requires-clause-small
check_types-requires-clause-small c =
    let few = few_tokens c.args.source.now c.in_ok-tokens.tokens.items c.in_ok-tokens.ensures.reading in
    let small : tree_size (tree_view c.in_ok-tree.tree) ≤ 4 * length c.in_ok-tokens.tokens.items =
    rw (← c.as_slice.ensures.value) c.in_ok-tree.ensures.small in
    omega (arith, few, small, c.requires)

pub returns-in_err-typed-clause-cause : goal.returns-in_err-typed-clause-cause
returns-in_err-typed-clause-cause c =
    let p = err_from_is_err_and c.from_residual-in_err-typed.result c.from_residual-in_err-typed.ensures.1 in
    rw (p.1, p.2)
    (type_failure c.args.source.now (tree_view c.in_ok-tree.tree) c.in_err-typed.field-0.0
    (record {
      tokens = c.in_ok-tokens.tokens.items;
      read = c.in_ok-tokens.ensures.reading;
      spelled = rw (← c.as_slice.ensures.value) c.in_ok-tree.ensures.found;
    }) c.in_err-typed.ensures.refused)
