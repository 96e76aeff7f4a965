use Rattle.std.proofs.Common.{◌∙◌, ap, sym, subst, Bool, List}
use Rattle.verdict_meaning.specs.Solutions.{phi_by}
use Rattle.verdict_meaning.specs.Certificates.{bit_at}
use Rattle.call_search.specs.Indexes.{Ledger}
use Rattle.call_search.specs.Ledgers.{Extends}
use Rattle.call_search.specs.Entries.{AreKept}
use Rattle.call_search.proofs.Asking.{root_refuted, top_same}
use Rattle.call_search.proofs.Settling.{extends_none, empty_kept, renewed, found_solution, settled_kept}
use Rattle.call_search.proofs.search.search.Goals as goal

pub again-init : goal.again-init
again-init g c = record { extends = extends_none (g.G.Shapes.system c.args.groups.now) (g.G.Groups.counting c.args.groups.now) c.args.ledger.now c.requires; kept = empty_kept (g.G.Shapes.system c.args.groups.now) (g.G.Groups.counting c.args.groups.now) c.args.ledger.now.lines c.new-phi.result.items c.root-root.result c.emptied.new.table.items c.root-root.ensures c.in_ok-emptied.ensures }

pub returns-in-Conflict : goal.returns-in-Conflict
returns-in-Conflict g c =
    root_refuted (g.G.Shapes.system c.args.groups.now) (g.G.Groups.counting c.args.groups.now) c.root-root.result c.as_slice.result.now c.args.ledger.now c.again.ledger c.solve.new.ledger c.in_ok-bits.field-0 c.in-Conflict.n c.root-root.ensures (c.as_slice.ensures.value ∙ c.new-given.ensures.items) c.in-Conflict.is c.in_ok-bits.ensures c.again.invariant.extends

pub settle-requires-clause-kept : goal.settle-requires-clause-kept
settle-requires-clause-kept g c =
    let before : AreKept (g.G.Shapes.system c.args.groups.now) (g.G.Groups.counting c.args.groups.now) c.again.ledger.lines c.as_slice-in-again-2.result.now c.again.kept.items =
    subst (λ (p : List Bool). AreKept (g.G.Shapes.system c.args.groups.now) (g.G.Groups.counting c.args.groups.now) c.again.ledger.lines p c.again.kept.items) (sym c.as_slice-in-again-2.ensures.value) c.again.invariant.kept in
    let now : AreKept (g.G.Shapes.system c.args.groups.now) (g.G.Groups.counting c.args.groups.now) c.again.ledger.lines c.as_slice-in-again-3.result.now c.renew.new.kept.items =
    renewed (g.G.Shapes.system c.args.groups.now) (g.G.Groups.counting c.args.groups.now) c.again.ledger.lines c.as_slice-in-again-2.result.now c.as_slice-in-again-3.result.now c.root-root.result c.again.kept.items c.renew.new.kept.items c.root-root.ensures before c.in_ok-renew.ensures in
    subst (λ (l : Ledger). AreKept (g.G.Shapes.system c.args.groups.now) (g.G.Groups.counting c.args.groups.now) l.lines c.as_slice-in-again-4.result.now c.renew.new.kept.items) (sym (top_same (g.G.Shapes.system c.args.groups.now) (g.G.Groups.counting c.args.groups.now) c.root-root.result c.as_slice.result.now c.again.ledger c.solve.new.ledger c.in_ok-bits.field-0 c.in-Sat.bits c.in-Sat.is c.in_ok-bits.ensures))
    (subst (λ (p : List Bool). AreKept (g.G.Shapes.system c.args.groups.now) (g.G.Groups.counting c.args.groups.now) c.again.ledger.lines p c.renew.new.kept.items) (c.as_slice-in-again-3.ensures.value ∙ sym c.as_slice-in-again-4.ensures.value) now)

pub returns-in-Kept : goal.returns-in-Kept
returns-in-Kept g c =
    found_solution (g.G.Shapes.system c.args.groups.now) (g.G.Groups.counting c.args.groups.now) c.as_slice-in-again-4.result.now c.in-Sat.bits c.as_slice-in-again-5.result.now c.args.ledger.now c.solve.new.ledger c.settle.new.ledger c.settle.new.table.items
    (subst (λ (l : Ledger). Extends (g.G.Shapes.system c.args.groups.now) (g.G.Groups.counting c.args.groups.now) c.args.ledger.now l) (sym (top_same (g.G.Shapes.system c.args.groups.now) (g.G.Groups.counting c.args.groups.now) c.root-root.result c.as_slice.result.now c.again.ledger c.solve.new.ledger c.in_ok-bits.field-0 c.in-Sat.bits c.in-Sat.is c.in_ok-bits.ensures)) c.again.invariant.extends)
    (settled_kept (g.G.Shapes.system c.args.groups.now) (g.G.Groups.counting c.args.groups.now) c.as_slice-in-again-4.result.now c.as_slice-in-again-5.result.now c.solve.new.ledger c.settle.new.ledger c.settle.new.kept.items c.settle.new.table.items c.in_ok-settle.field-0 c.in-Kept.is c.in_ok-settle.ensures)
    (c.as_slice-in-again-4.ensures.value ∙ c.in_ok-owning.ensures ∙ ap (λ (xs : List Bool). phi_by (g.G.Shapes.system c.args.groups.now) (bit_at xs)) (c.as_slice-in-again.ensures.value ∙ sym c.as_slice-in-again-5.ensures.value))
    (c.as_slice-in-again-5.ensures.value ∙ c.top.view_is)
