use Rattle.std.proofs.Common.{◌<◌, refl, ◌∙◌, arith}
use Rattle.c_parser.specs.StmtViews.{stmt_part}
use Rattle.c_parser.proofs.Stages.{refused}
use Rattle.c_parser.proofs.Operands.{operand_first, operand_below}
use Rattle.c_parser.proofs.simple.from_operand.Goals as goal

pub returns-then-limit-eq0 : goal.returns-then-limit-eq0
returns-then-limit-eq0 c = record { read = rw c.if-limit-eq0.true (operand_first c.args.tokens.now) }

pub returns-in_err-first : goal.returns-in_err-first
returns-in_err-first c =
    let some : 0 < c.args.limit = omega (arith, c.if-limit-eq0.false) in
    record {
      read = refused stmt_part _ _ _ _ c.from_residual.ensures.1 c.in_err-first.ensures.read
          (λ none. operand_below c.args.limit c.args.tokens.now some ∙ rw none refl);
    }

pub returns : goal.returns
returns c =
    let some : 0 < c.args.limit = omega (arith, c.if-limit-eq0.false) in
    record { read = rw (operand_below c.args.limit c.args.tokens.now some, c.in_ok-first.ensures.read) c.after_primary.ensures.read }
