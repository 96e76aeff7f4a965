use Rattle.std.proofs.Common.{ℕ, ◌+◌, List, length, sym, ap, subst, ◌∙◌, arith}
use Rattle.zo_solver.specs.declared.answers.Origin.{Origin}
use Rattle.group_solver.specs.Copies.{HasRow, HowIs}
use Rattle.group_solver.specs.Marks.{AreAll, PremisesAreBelow, PremisesAreMarked}
use Rattle.group_solver.specs.Rows.{rows_in}
use Rattle.group_solver.proofs.Marked.{below_is, below_more, closed_all, premises_all}
use Rattle.group_solver.proofs.Copied.{next_is, next_parts, row_there}
use Rattle.group_solver.proofs.solving.spend.Goals as goal

pub copy-requires-clause-begun : goal.copy-requires-clause-begun
copy-requires-clause-begun c = c.requires.ready _

pub copy-requires-clause-closed : goal.copy-requires-clause-closed
copy-requires-clause-closed c =
    closed_all (length c.args.places.now.items) c.args.solver.now.origins c.deref.result.now (subst AreAll (sym c.deref.ensures.value) c.in_ok-wanted.ensures.all)

pub how_of-requires-clause-row : goal.how_of-requires-clause-row
how_of-requires-clause-row c =
    let a = c.args.solver.now in
    let over = c.requires.over in
    let next = c.next_origin.ensures in
    let parts = next_parts a over next.0 c.next_origin.result next.1 in
    subst (λ (o : Origin). HasRow (rows_in c.args.table.now) o) parts.1
    (row_there (rows_in c.args.table.now) a (length a.lines + 1) over.clause over.origin c.in_ok-copy.ensures.copied.given over.origin_true)

pub how_of-requires-clause-premises : goal.how_of-requires-clause-premises
how_of-requires-clause-premises c =
    let a = c.args.solver.now in
    let over = c.requires.over in
    let next = c.next_origin.ensures in
    let parts = next_parts a over next.0 c.next_origin.result next.1 in
    let below = below_is a.given a.lines (length a.lines + 1) over.clause over.origin over.origin_true in
    let places = ap length c.deref-2.ensures.value in
    let wanted = ap length c.deref.ensures.value in
    let size = c.in_ok-wanted.ensures.size in
    let count = c.lines.ensures.count in
    let all = c.in_ok-copy.ensures.all in
    subst (λ (o : Origin). PremisesAreBelow (length c.deref-2.result.now + 1) o) parts.1 (below_more (length a.lines + 1) (length c.deref-2.result.now + 1) over.origin (omega arith) below)

pub returns-clause-next : goal.returns-clause-next
returns-clause-next c =
    let a = c.args.solver.now in
    let over = c.requires.over in
    let origin = c.next_origin.ensures in
    let line = c.next_line.ensures in
    let first = next_parts a over origin.0 c.next_origin.result origin.1 in
    let second = next_parts a over c.next_line.result.now line.0 line.1 in
    let every : AreAll c.deref.result.now = subst AreAll (sym c.deref.ensures.value) c.in_ok-wanted.ensures.all in
    let below = below_is a.given a.lines (length a.lines + 1) over.clause over.origin over.origin_true in
    let wanted = ap length c.deref.ensures.value in
    let size = c.in_ok-wanted.ensures.size in
    let count = c.lines.ensures.count in
    let all = c.in_ok-copy.ensures.all in
    let marked = premises_all c.deref.result.now (length a.lines + 1) over.origin every (omega arith) below in
    next_is (rows_in c.args.table.now) c.args.group c.args.vars a c.deref.result.now c.args.ledger.now c.copy.new.ledger c.copy.new.places.items c.in_ok-copy.ensures.copied every (omega arith) over
    c.in_ok-lits.lits c.next_origin.result c.in_ok-how.how (second.0 ∙ sym c.in_ok-lits.ensures.literals) first.1
    (subst (λ (ns : List ℕ). HowIs (rows_in c.args.table.now) ns c.next_origin.result c.in_ok-how.how) c.deref-2.ensures.value c.in_ok-how.ensures)
    (subst (λ (o : Origin). PremisesAreMarked c.deref.result.now o) first.1 marked) c.in_ok-lits.ensures.clause
