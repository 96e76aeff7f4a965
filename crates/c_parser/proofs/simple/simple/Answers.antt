use Rattle.std.proofs.Common.{◌≡◌, ◌≤◌, true, false, refl, ◌∙◌, arith}
use Rattle.std.specs.Prelude.{codes}
use Rattle.c_grammar.specs.Reading.{is_word}
use Rattle.c_grammar.specs.ReadStmts.{is_name}
use Rattle.c_parser.specs.StmtViews.{stmt_part}
use Rattle.c_parser.proofs.Stages.{refused}
use Rattle.c_parser.proofs.Paths.{simple_free, simple_other, simple_within}
use Rattle.c_parser.proofs.simple.simple.Goals as goal

pub returns-then-is_word-clause-read : goal.returns-then-is_word-clause-read
returns-then-is_word-clause-read c =
    let low : 2 ≤ c.args.limit = omega (arith, c.if-limit-lt2.false) in
    let front = c.in-Some.front in
    let is : is_word (codes "free") front.token.now.kind ≡ true = cc in
    rw (c.in-Some.ensures, simple_free c.args.limit front.token.now front.rest.now low is) c.release.ensures.read

pub returns-then-is_word-clause-within : goal.returns-then-is_word-clause-within
returns-then-is_word-clause-within c =
    let low : 2 ≤ c.args.limit = omega (arith, c.if-limit-lt2.false) in
    let front = c.in-Some.front in
    let is : is_word (codes "free") front.token.now.kind ≡ true = cc in
    simple_within c.release.result c.args.limit c.args.tokens.now
    (rw (c.in-Some.ensures, simple_free c.args.limit front.token.now front.rest.now low is) c.release.ensures.read)

pub returns-then-not-is_name-clause-read : goal.returns-then-not-is_name-clause-read
returns-then-not-is_name-clause-read c =
    let low : 2 ≤ c.args.limit = omega (arith, c.if-limit-lt2.false) in
    let front = c.in-Some.front in
    let other : is_word (codes "free") front.token.now.kind ≡ false = cc in
    let unnamed : is_name front.token.now.kind ≡ false = cc in
    let read = rw c.in-Some.ensures at c.from_operand.ensures.read in
    rw (c.in-Some.ensures, simple_other c.args.limit front.token.now front.rest.now low other, unnamed) read

pub returns-then-not-is_name-clause-within : goal.returns-then-not-is_name-clause-within
returns-then-not-is_name-clause-within c =
    let low : 2 ≤ c.args.limit = omega (arith, c.if-limit-lt2.false) in
    let front = c.in-Some.front in
    let other : is_word (codes "free") front.token.now.kind ≡ false = cc in
    let unnamed : is_name front.token.now.kind ≡ false = cc in
    let read = rw c.in-Some.ensures at c.from_operand.ensures.read in
    simple_within c.from_operand.result c.args.limit c.args.tokens.now
    (rw (c.in-Some.ensures, simple_other c.args.limit front.token.now front.rest.now low other, unnamed) read)

pub returns-in_err-first-clause-read : goal.returns-in_err-first-clause-read
returns-in_err-first-clause-read c =
    let low : 2 ≤ c.args.limit = omega (arith, c.if-limit-lt2.false) in
    let front = c.in-Some.front in
    let other : is_word (codes "free") front.token.now.kind ≡ false = cc in
    refused stmt_part _ _ _ _ c.from_residual.ensures.1 c.in_err-first.ensures.read
    (λ none. let none' = rw c.in-Some.ensures at none in
    rw c.in-Some.ensures (simple_other c.args.limit front.token.now front.rest.now low other ∙ rw none' refl))

pub returns-clause-read : goal.returns-clause-read
returns-clause-read c =
    let low : 2 ≤ c.args.limit = omega (arith, c.if-limit-lt2.false) in
    let front = c.in-Some.front in
    let other : is_word (codes "free") front.token.now.kind ≡ false = cc in
    let named : is_name front.token.now.kind ≡ true = cc in
    let first = rw c.in-Some.ensures at c.in_ok-first.ensures.read in
    rw (c.in-Some.ensures, simple_other c.args.limit front.token.now front.rest.now low other, first, named) c.after_primary.ensures.read

pub returns-clause-within : goal.returns-clause-within
returns-clause-within c =
    let low : 2 ≤ c.args.limit = omega (arith, c.if-limit-lt2.false) in
    let front = c.in-Some.front in
    let other : is_word (codes "free") front.token.now.kind ≡ false = cc in
    let named : is_name front.token.now.kind ≡ true = cc in
    let first = rw c.in-Some.ensures at c.in_ok-first.ensures.read in
    simple_within c.after_primary.result c.args.limit c.args.tokens.now
    (rw (c.in-Some.ensures, simple_other c.args.limit front.token.now front.rest.now low other, first, named) c.after_primary.ensures.read)
