use Rattle.std.proofs.Common.{◌≡◌, ◌<◌, length, sym, ap, ◌∙◌, None, arith}
use Rattle.std.specs.Prelude.{codes}
use Rattle.c_tree.specs.Plain.{no_stmts}
use Rattle.c_tree.specs.Plain as tree
use Rattle.c_tree.specs.View.{stmts_view}
use Rattle.c_grammar.specs.Stmts.{joined}
use Rattle.c_grammar.specs.Reading.{after_mark}
use Rattle.c_parser.specs.Views.{front_of}
use Rattle.c_parser.specs.StmtViews.{stmt_part}
use Rattle.c_parser.proofs.Lookups.{mark_shorter}
use Rattle.c_parser.proofs.StatementLoops.{local_shorter, locals_more, locals_last, locals_none, view_one}
use Rattle.c_parser.proofs.locals.locals.Goals as goal

pub loop-items-smaller : goal.loop-items-smaller
loop-items-smaller c =
    let p = stmt_part c.in_ok-local.local in
    let less : length p.rest < length c.loop-items.rest.now = local_shorter c.args.limit c.in_ok-base.base.tree c.loop-items.rest.now p c.in_ok-local.ensures.read in
    let comma : length c.in-Some.comma.rest.now < length p.rest = mark_shorter (codes ",") p.rest (front_of c.in-Some.comma) (sym c.in-Some.ensures) in
    omega (arith, less, comma)

pub loop-items-preserved : goal.loop-items-preserved
loop-items-preserved c =
    let inv = c.loop-items.invariant.read in
    let p = stmt_part c.in_ok-local.local in
    let b = c.in_ok-base.base.tree in
    let less : length p.rest < length c.loop-items.rest.now = local_shorter c.args.limit b c.loop-items.rest.now p c.in_ok-local.ensures.read in
    let comma : length c.in-Some.comma.rest.now < length p.rest = mark_shorter (codes ",") p.rest (front_of c.in-Some.comma) (sym c.in-Some.ensures) in
    let shown : stmts_view c.push.new.self ≡ joined (stmts_view c.loop-items.items) (tree.stmt p.tree no_stmts) =
    ap stmts_view c.in_ok-push.ensures.ok ∙ view_one c.loop-items.items c.in_ok-local.local.tree in
    let next = locals_more inv.0 c.args.limit b (stmts_view c.loop-items.items) c.loop-items.depth c.loop-items.rest.now p (front_of c.in-Some.comma)
    inv.1 (omega (arith, less, comma)) c.in_ok-local.ensures.read (sym c.in-Some.ensures) in
    record {
      within = rw c.max-depth.ensures (omega (arith, c.in_ok-local.ensures.within));
      read = (next.0, next.1, rw (shown, c.max-depth.ensures) (inv.2 ∙ next.2));
    }

pub returns-in_default-clause-read : goal.returns-in_default-clause-read
returns-in_default-clause-read c =
    let inv = c.loop-items.invariant.read in
    let p = stmt_part c.in_ok-local.local in
    let b = c.in_ok-base.base.tree in
    let less : length p.rest < length c.loop-items.rest.now = local_shorter c.args.limit b c.loop-items.rest.now p c.in_ok-local.ensures.read in
    let shown : stmts_view c.push.new.self ≡ joined (stmts_view c.loop-items.items) (tree.stmt p.tree no_stmts) =
    ap stmts_view c.in_ok-push.ensures.ok ∙ view_one c.loop-items.items c.in_ok-local.local.tree in
    let none : after_mark (codes ",") p.rest ≡ None = sym (rw c.in_default.is at c.after_mark.ensures) in
    rw (shown, c.max-depth.ensures)
    (inv.2 ∙ locals_last inv.0 c.args.limit b (stmts_view c.loop-items.items) c.loop-items.depth c.loop-items.rest.now p (omega arith) c.in_ok-local.ensures.read none)

pub returns-then-limit-eq0-clause-read : goal.returns-then-limit-eq0-clause-read
returns-then-limit-eq0-clause-read c = rw c.if-limit-eq0.true (locals_none c.args.tokens.now)
