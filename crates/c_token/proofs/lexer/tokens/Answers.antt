use Rattle.std.proofs.Common.{◌≡◌, ◌<◌, ◌-◌, length, refl, ap, ◌∙◌, arith, rules}
use Rattle.std.proofs.lemmas.List.{length-drop}
use Rattle.c_token.specs.Reading.{start}
use Rattle.c_token.proofs.FormLaws.{token_is, token_none}
use Rattle.c_token.proofs.FormedLaws.{all_formed}
use Rattle.c_token.proofs.StandLaws.{after_blank, after_token, stuck}
use Rattle.c_token.proofs.lexer.tokens.Goals as goal

pub loop-rest-init : goal.loop-rest-init
loop-rest-init c = record {
  left = refl;
  place = omega arith;
  line = refl;
  line_small = omega arith;
  col = refl;
  col_small = omega arith;
  reaches = rw c.new-tokens.ensures.items start;
}

pub loop-rest-preserved-in-Some : goal.loop-rest-preserved-in-Some
loop-rest-preserved-in-Some c =
    after_blank c.args.bytes.now c.loop-rest.rest.now c.pass-rest.result.now c.loop-rest.position c.pass-rest.new.self c.loop-rest.tokens.items
    c.in-Some.n c.loop-rest.invariant c.in-Some.ensures c.pass-rest.ensures.passed c.pass-rest.ensures.left

pub returns-in_default-2-clause-cause : goal.returns-in_default-2-clause-cause
returns-in_default-2-clause-cause c =
    stuck c.args.bytes.now c.loop-rest.rest.now c.loop-rest.position c.loop-rest.tokens.items c.loop-rest.invariant (search rules)
    c.in_default.ensures (token_none c.loop-rest.rest.now c.in_ok-kind.field-0 c.in_ok-kind.ensures c.in_default-2.is)

pub overflow_cast-at : goal.overflow_cast-at
overflow_cast-at c =
    let t = token_is c.loop-rest.rest.now c.in_ok-kind.field-0 c.in-Some-2.kind c.in-Some-2.n c.in_ok-kind.ensures c.in-Some-2.is in
    omega (arith, t.0.fits, t.1)

pub overflow_add-at : goal.overflow_add-at
overflow_add-at c =
    let t = token_is c.loop-rest.rest.now c.in_ok-kind.field-0 c.in-Some-2.kind c.in-Some-2.n c.in_ok-kind.ensures c.in-Some-2.is in
    omega (arith, t.0.fits, t.1)

pub pass-rest-requires-in-loop-rest-clause-fits : goal.pass-rest-requires-in-loop-rest-clause-fits
pass-rest-requires-in-loop-rest-clause-fits c =
    let t = token_is c.loop-rest.rest.now c.in_ok-kind.field-0 c.in-Some-2.kind c.in-Some-2.n c.in_ok-kind.ensures c.in-Some-2.is in
    omega (arith, t.0.fits, t.1)

pub pass-rest-requires-in-loop-rest-clause-at : goal.pass-rest-requires-in-loop-rest-clause-at
pass-rest-requires-in-loop-rest-clause-at c =
    let t = token_is c.loop-rest.rest.now c.in_ok-kind.field-0 c.in-Some-2.kind c.in-Some-2.n c.in_ok-kind.ensures c.in-Some-2.is in
    omega (arith, t.0.fits, t.1)

pub pass-rest-requires-in-loop-rest-clause-line : goal.pass-rest-requires-in-loop-rest-clause-line
pass-rest-requires-in-loop-rest-clause-line c =
    let t = token_is c.loop-rest.rest.now c.in_ok-kind.field-0 c.in-Some-2.kind c.in-Some-2.n c.in_ok-kind.ensures c.in-Some-2.is in
    omega (arith, t.0.fits, t.1)

pub pass-rest-requires-in-loop-rest-clause-col : goal.pass-rest-requires-in-loop-rest-clause-col
pass-rest-requires-in-loop-rest-clause-col c =
    let t = token_is c.loop-rest.rest.now c.in_ok-kind.field-0 c.in-Some-2.kind c.in-Some-2.n c.in_ok-kind.ensures c.in-Some-2.is in
    omega (arith, t.0.fits, t.1)

pub loop-rest-smaller : goal.loop-rest-smaller
loop-rest-smaller c =
    let t = token_is c.loop-rest.rest.now c.in_ok-kind.field-0 c.in-Some-2.kind c.in-Some-2.n c.in_ok-kind.ensures c.in-Some-2.is in
    let len : length c.pass-rest-in-loop-rest.result.now ≡ length c.loop-rest.rest.now - c.in-Some-2.n =
    ap length c.pass-rest-in-loop-rest.ensures.left ∙ length-drop c.in-Some-2.n c.loop-rest.rest.now in
    let fewer : length c.pass-rest-in-loop-rest.result.now < length c.loop-rest.rest.now = omega (arith, t.0.fits, t.1) in
    fewer

pub loop-rest-preserved : goal.loop-rest-preserved
loop-rest-preserved c =
    let t = token_is c.loop-rest.rest.now c.in_ok-kind.field-0 c.in-Some-2.kind c.in-Some-2.n c.in_ok-kind.ensures c.in-Some-2.is in
    after_token c.args.bytes.now c.loop-rest.rest.now c.pass-rest-in-loop-rest.result.now c.loop-rest.position c.pass-rest-in-loop-rest.new.self
    c.loop-rest.tokens.items c.push.new.self.items c.in-Some-2.kind c.in-Some-2.n c.loop-rest.invariant c.in_default.ensures t.0
    c.pass-rest-in-loop-rest.ensures.passed c.pass-rest-in-loop-rest.ensures.left c.in_ok-push.ensures.items

pub returns-clause-formed : goal.returns-clause-formed
returns-clause-formed c = all_formed c.args.bytes.now c.loop-rest.tokens.items c.loop-rest.position.at c.loop-rest.position.first c.loop-rest.invariant.reaches
