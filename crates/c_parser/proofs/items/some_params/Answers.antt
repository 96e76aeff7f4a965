use Rattle.std.proofs.Common.{◌≡◌, ◌<◌, length, sym, ◌∙◌, None, arith}
use Rattle.std.specs.Prelude.{codes}
use Rattle.c_grammar.specs.Reading.{after_mark}
use Rattle.c_parser.specs.Views.{front_of}
use Rattle.c_parser.specs.StmtViews.{declared_of}
use Rattle.c_parser.proofs.Lookups.{mark_shorter}
use Rattle.c_parser.proofs.ItemLoops.{param_shorter, params_more, params_last}
use Rattle.c_parser.proofs.items.some_params.Goals as goal

pub loop-items-smaller : goal.loop-items-smaller
loop-items-smaller c =
    let q = declared_of c.in_ok-param.param in
    let less : length q.rest < length c.loop-items.rest.now = param_shorter c.loop-items.rest.now q c.in_ok-param.ensures in
    let comma : length c.in-Some.comma.rest.now < length q.rest = mark_shorter (codes ",") q.rest (front_of c.in-Some.comma) (sym c.in-Some.ensures) in
    omega (arith, less, comma)

pub loop-items-preserved : goal.loop-items-preserved
loop-items-preserved c =
    let inv = c.loop-items.invariant in
    let q = declared_of c.in_ok-param.param in
    let less : length q.rest < length c.loop-items.rest.now = param_shorter c.loop-items.rest.now q c.in_ok-param.ensures in
    let comma : length c.in-Some.comma.rest.now < length q.rest = mark_shorter (codes ",") q.rest (front_of c.in-Some.comma) (sym c.in-Some.ensures) in
    let next = params_more inv.0 c.loop-items.items c.loop-items.rest.now q (front_of c.in-Some.comma) inv.1 (omega (arith, less, comma)) c.in_ok-param.ensures (sym c.in-Some.ensures) in
    (next.0, next.1, rw c.in_ok-push.ensures.ok (inv.2 ∙ next.2))

pub returns-in_default : goal.returns-in_default
returns-in_default c =
    let inv = c.loop-items.invariant in
    let q = declared_of c.in_ok-param.param in
    let less : length q.rest < length c.loop-items.rest.now = param_shorter c.loop-items.rest.now q c.in_ok-param.ensures in
    let none : after_mark (codes ",") q.rest ≡ None = sym (rw c.in_default.is at c.after_mark.ensures) in
    rw c.in_ok-push.ensures.ok
    (inv.2 ∙ params_last inv.0 c.loop-items.items c.loop-items.rest.now q (omega (arith, less, inv.1)) c.in_ok-param.ensures none)
