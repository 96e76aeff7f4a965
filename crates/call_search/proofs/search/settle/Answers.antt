use Rattle.std.proofs.Common.{◌≡◌, ◌∙◌, ap, sym, arith}
use Rattle.conflict_proof.specs.declared.derivation.Line.{Line}
use Rattle.call_search.specs.Answers.{IsPaid}
use Rattle.call_search.specs.Frames.{IsDescended}
use Rattle.call_search.proofs.Settling.{fresh_left, settled, turned, kept_after, asker_after, extends_none, filled_paid, filled_kept, last_is}
use Rattle.call_search.proofs.Grow.{extends-trans}
use Rattle.call_search.proofs.Asking.{fewer-words}
use Rattle.call_search.proofs.Steps.{descended_kept, descended_turned, descended_over}
use Rattle.call_search.proofs.search.settle.Goals as goal

pub again-init : goal.again-init
again-init g c = record { extends = extends_none (g.G.Shapes.system c.args.groups.now) (g.G.Groups.counting c.args.groups.now) c.args.ledger.now c.requires.ledger; kept = c.requires.kept; asker = c.requires.asker }

pub descend-requires-clause-ledger : goal.descend-requires-clause-ledger
descend-requires-clause-ledger g c = c.again.invariant.extends.ledger

pub returns-in-Carried : goal.returns-in-Carried
returns-in-Carried g c = descended_turned (g.G.Shapes.system c.args.groups.now) (g.G.Groups.counting c.args.groups.now) c.args.phi.now c.args.top.now c.args.ledger.now c.again.ledger c.descend.new.ledger c.descend.new.kept.items c.in_ok-descend.field-0 c.in-Carried.is c.in_ok-descend.ensures c.again.invariant.extends

pub returns-in-Spent : goal.returns-in-Spent
returns-in-Spent g c = descended_over (g.G.Shapes.system c.args.groups.now) (g.G.Groups.counting c.args.groups.now) c.args.phi.now c.args.top.now c.args.ledger.now c.again.ledger c.descend.new.ledger c.descend.new.kept.items c.in_ok-descend.field-0 c.in-Spent.line c.in-Spent.is c.in_ok-descend.ensures c.again.invariant.extends

pub fill-requires-clause-ledger : goal.fill-requires-clause-ledger
fill-requires-clause-ledger g c =
    let down : IsDescended (g.G.Shapes.system c.args.groups.now) (g.G.Groups.counting c.args.groups.now) c.args.phi.now c.args.top.now c.again.ledger c.descend.new.ledger c.descend.new.kept.items = descended_kept (g.G.Shapes.system c.args.groups.now) (g.G.Groups.counting c.args.groups.now) c.args.phi.now c.args.top.now c.again.ledger c.descend.new.ledger c.descend.new.kept.items c.in_ok-descend.field-0 c.in-Kept.is c.in_ok-descend.ensures in
    down.extends.ledger

pub fill-requires-clause-left : goal.fill-requires-clause-left
fill-requires-clause-left g c =
    let down : IsDescended (g.G.Shapes.system c.args.groups.now) (g.G.Groups.counting c.args.groups.now) c.args.phi.now c.args.top.now c.again.ledger c.descend.new.ledger c.descend.new.kept.items = descended_kept (g.G.Shapes.system c.args.groups.now) (g.G.Groups.counting c.args.groups.now) c.args.phi.now c.args.top.now c.again.ledger c.descend.new.ledger c.descend.new.kept.items c.in_ok-descend.field-0 c.in-Kept.is c.in_ok-descend.ensures in
    fresh_left (g.G.Shapes.system c.args.groups.now) (g.G.Groups.counting c.args.groups.now) c.descend.new.ledger.lines c.args.phi.now c.root-root.result c.emptied.new.table.items c.descend.new.kept.items c.root-root.ensures c.in_ok-emptied.ensures down.kept

pub fill-requires-clause-asker : goal.fill-requires-clause-asker
fill-requires-clause-asker g c =
    let down : IsDescended (g.G.Shapes.system c.args.groups.now) (g.G.Groups.counting c.args.groups.now) c.args.phi.now c.args.top.now c.again.ledger c.descend.new.ledger c.descend.new.kept.items = descended_kept (g.G.Shapes.system c.args.groups.now) (g.G.Groups.counting c.args.groups.now) c.args.phi.now c.args.top.now c.again.ledger c.descend.new.ledger c.descend.new.kept.items c.in_ok-descend.field-0 c.in-Kept.is c.in_ok-descend.ensures in
    down.asker

pub returns-in-Kept-2 : goal.returns-in-Kept-2
returns-in-Kept-2 g c =
    let down : IsDescended (g.G.Shapes.system c.args.groups.now) (g.G.Groups.counting c.args.groups.now) c.args.phi.now c.args.top.now c.again.ledger c.descend.new.ledger c.descend.new.kept.items = descended_kept (g.G.Shapes.system c.args.groups.now) (g.G.Groups.counting c.args.groups.now) c.args.phi.now c.args.top.now c.again.ledger c.descend.new.ledger c.descend.new.kept.items c.in_ok-descend.field-0 c.in-Kept.is c.in_ok-descend.ensures in
    settled (g.G.Shapes.system c.args.groups.now) (g.G.Groups.counting c.args.groups.now) c.args.phi.now c.args.top.now c.args.ledger.now c.descend.new.ledger c.fill.new.ledger c.fill.new.table.items (extends-trans (g.G.Shapes.system c.args.groups.now) (g.G.Groups.counting c.args.groups.now) c.args.ledger.now c.again.ledger c.descend.new.ledger c.again.invariant.extends down.extends) down.asker
    (filled_kept (g.G.Shapes.system c.args.groups.now) (g.G.Groups.counting c.args.groups.now) c.args.phi.now c.args.top.now c.descend.new.ledger c.fill.new.ledger c.fill.new.table.items c.in_ok-fill.field-0 c.in-Kept-2.is c.in_ok-fill.ensures.answer)

pub returns-then-line-root : goal.returns-then-line-root
returns-then-line-root g c =
    let down : IsDescended (g.G.Shapes.system c.args.groups.now) (g.G.Groups.counting c.args.groups.now) c.args.phi.now c.args.top.now c.again.ledger c.descend.new.ledger c.descend.new.kept.items = descended_kept (g.G.Shapes.system c.args.groups.now) (g.G.Groups.counting c.args.groups.now) c.args.phi.now c.args.top.now c.again.ledger c.descend.new.ledger c.descend.new.kept.items c.in_ok-descend.field-0 c.in-Kept.is c.in_ok-descend.ensures in
    let paid : IsPaid (g.G.Shapes.system c.args.groups.now) (g.G.Groups.counting c.args.groups.now) c.descend.new.ledger c.fill.new.ledger = filled_paid (g.G.Shapes.system c.args.groups.now) (g.G.Groups.counting c.args.groups.now) c.args.phi.now c.args.top.now c.descend.new.ledger c.fill.new.ledger c.fill.new.table.items c.in_ok-fill.field-0 c.in-Carried-2.is c.in_ok-fill.ensures.answer in
    let last : c.last_line-line.result.now ≡ paid.last = last_is (g.G.Shapes.system c.args.groups.now) (g.G.Groups.counting c.args.groups.now) c.descend.new.ledger c.fill.new.ledger c.last_line-line.result.now paid c.last_line-line.ensures in
    turned (g.G.Shapes.system c.args.groups.now) (g.G.Groups.counting c.args.groups.now) c.args.ledger.now c.descend.new.ledger c.fill.new.ledger c.args.phi.now c.keep.new.kept.items (extends-trans (g.G.Shapes.system c.args.groups.now) (g.G.Groups.counting c.args.groups.now) c.args.ledger.now c.again.ledger c.descend.new.ledger c.again.invariant.extends down.extends) paid
    (kept_after (g.G.Shapes.system c.args.groups.now) (g.G.Groups.counting c.args.groups.now) c.descend.new.ledger c.fill.new.ledger c.args.phi.now c.fill.new.table.items c.fill.new.kept.items c.keep.new.kept.items c.last_line-line.result.now paid c.in_ok-fill.ensures.left last c.in_ok-keep.ensures)

pub again-smaller : goal.again-smaller
again-smaller g c =
    let down : IsDescended (g.G.Shapes.system c.args.groups.now) (g.G.Groups.counting c.args.groups.now) c.args.phi.now c.args.top.now c.again.ledger c.descend.new.ledger c.descend.new.kept.items = descended_kept (g.G.Shapes.system c.args.groups.now) (g.G.Groups.counting c.args.groups.now) c.args.phi.now c.args.top.now c.again.ledger c.descend.new.ledger c.descend.new.kept.items c.in_ok-descend.field-0 c.in-Kept.is c.in_ok-descend.ensures in
    let paid : IsPaid (g.G.Shapes.system c.args.groups.now) (g.G.Groups.counting c.args.groups.now) c.descend.new.ledger c.fill.new.ledger = filled_paid (g.G.Shapes.system c.args.groups.now) (g.G.Groups.counting c.args.groups.now) c.args.phi.now c.args.top.now c.descend.new.ledger c.fill.new.ledger c.fill.new.table.items c.in_ok-fill.field-0 c.in-Carried-2.is c.in_ok-fill.ensures.answer in
    let last : c.last_line-line.result.now ≡ paid.last = last_is (g.G.Shapes.system c.args.groups.now) (g.G.Groups.counting c.args.groups.now) c.descend.new.ledger c.fill.new.ledger c.last_line-line.result.now paid c.last_line-line.ensures in
    let few = fewer-words (g.G.Shapes.system c.args.groups.now) (g.G.Groups.counting c.args.groups.now) c.again.ledger c.descend.new.ledger down.extends in
    let fewer = paid.fewer in
    omega arith

pub again-preserved : goal.again-preserved
again-preserved g c =
    let down : IsDescended (g.G.Shapes.system c.args.groups.now) (g.G.Groups.counting c.args.groups.now) c.args.phi.now c.args.top.now c.again.ledger c.descend.new.ledger c.descend.new.kept.items = descended_kept (g.G.Shapes.system c.args.groups.now) (g.G.Groups.counting c.args.groups.now) c.args.phi.now c.args.top.now c.again.ledger c.descend.new.ledger c.descend.new.kept.items c.in_ok-descend.field-0 c.in-Kept.is c.in_ok-descend.ensures in
    let paid : IsPaid (g.G.Shapes.system c.args.groups.now) (g.G.Groups.counting c.args.groups.now) c.descend.new.ledger c.fill.new.ledger = filled_paid (g.G.Shapes.system c.args.groups.now) (g.G.Groups.counting c.args.groups.now) c.args.phi.now c.args.top.now c.descend.new.ledger c.fill.new.ledger c.fill.new.table.items c.in_ok-fill.field-0 c.in-Carried-2.is c.in_ok-fill.ensures.answer in
    let last : c.last_line-line.result.now ≡ paid.last = last_is (g.G.Shapes.system c.args.groups.now) (g.G.Groups.counting c.args.groups.now) c.descend.new.ledger c.fill.new.ledger c.last_line-line.result.now paid c.last_line-line.ensures in
    record {
      extends = extends-trans (g.G.Shapes.system c.args.groups.now) (g.G.Groups.counting c.args.groups.now) c.args.ledger.now c.descend.new.ledger c.fill.new.ledger (extends-trans (g.G.Shapes.system c.args.groups.now) (g.G.Groups.counting c.args.groups.now) c.args.ledger.now c.again.ledger c.descend.new.ledger c.again.invariant.extends down.extends) paid.extends;
      kept = kept_after (g.G.Shapes.system c.args.groups.now) (g.G.Groups.counting c.args.groups.now) c.descend.new.ledger c.fill.new.ledger c.args.phi.now c.fill.new.table.items c.fill.new.kept.items c.keep.new.kept.items c.last_line-line.result.now paid c.in_ok-fill.ensures.left last c.in_ok-keep.ensures;
      asker = asker_after (g.G.Shapes.system c.args.groups.now) (g.G.Groups.counting c.args.groups.now) c.descend.new.ledger c.fill.new.ledger c.args.phi.now c.args.top.now paid (λ e. c.if-line-root.false (ap (λ (x : Line). x.group) last ∙ e ∙ sym c.root-root.ensures)) down.asker;
    }
