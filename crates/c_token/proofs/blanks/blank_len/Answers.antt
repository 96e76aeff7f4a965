use Rattle.std.proofs.Common.{sym, ◌∙◌, arith}
use Rattle.c_token.specs.Blanks.{space, include}
use Rattle.c_token.proofs.BlankLaws.{line_len-le}
use Rattle.c_token.proofs.blanks.blank_len.Goals as goal

pub returns-then-is_space : goal.returns-then-is_space
returns-then-is_space c =
    rw c.in_ok-b.ensures.cases.0 (space c.in_ok-b.b.now c.in_ok-b.rest.now (sym c.is_space.ensures ∙ c.if-is_space.true), omega arith, omega arith)

pub returns-then-is_include : goal.returns-then-is_include
returns-then-is_include c =
    rw (c.in_ok-b.ensures.cases.0, c.if-b-eq35.true, c.line_len.ensures.len)
    (include c.in_ok-b.rest.now c.if-first.true (sym c.is_include.ensures ∙ c.if-is_include.true), omega arith, omega (arith, line_len-le c.in_ok-b.rest.now))
