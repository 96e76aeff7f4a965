use Rattle.std.proofs.Common.{◌≡◌, ◌<◌, length, sym, ◌∙◌, None, arith}
use Rattle.std.specs.Prelude.{codes}
use Rattle.c_grammar.specs.Reading.{after_mark}
use Rattle.c_parser.proofs.StatementLoops.{some_of, none_of}
use Rattle.c_parser.specs.ItemViews.{members_row}
use Rattle.c_parser.proofs.ItemLoops.{member_shorter, members_more, members_last}
use Rattle.c_parser.proofs.items.members.Goals as goal

pub loop-items-smaller : goal.loop-items-smaller
loop-items-smaller c = member_shorter c.loop-items.rest.now (members_row c.in_ok-member.member) c.in_ok-member.ensures

pub loop-items-preserved : goal.loop-items-preserved
loop-items-preserved c =
    let inv = c.loop-items.invariant in
    let r = members_row c.in_ok-member.member in
    let less : length r.rest < length c.loop-items.rest.now = member_shorter c.loop-items.rest.now r c.in_ok-member.ensures in
    let going : after_mark (codes "}") r.rest ≡ None = none_of (after_mark (codes "}") r.rest) (sym c.ends_block.ensures ∙ c.if-ends_block.false) in
    let next = members_more inv.0 c.loop-items.items c.loop-items.rest.now r inv.1 less c.in_ok-member.ensures going in
    (next.0, next.1, rw c.in_ok-append.ensures (inv.2 ∙ next.2))

pub returns-then-ends_block : goal.returns-then-ends_block
returns-then-ends_block c =
    let inv = c.loop-items.invariant in
    let r = members_row c.in_ok-member.member in
    let less : length r.rest < length c.loop-items.rest.now = member_shorter c.loop-items.rest.now r c.in_ok-member.ensures in
    let end = some_of (after_mark (codes "}") r.rest) (sym c.ends_block.ensures ∙ c.if-ends_block.true) in
    rw c.in_ok-append.ensures
    (inv.2 ∙ members_last inv.0 c.loop-items.items c.loop-items.rest.now r end.0 (omega (arith, less, inv.1)) c.in_ok-member.ensures end.1)
