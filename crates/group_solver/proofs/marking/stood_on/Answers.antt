use Rattle.std.proofs.Common.{◌≡◌, ℕ, suc, ◌+◌, ◌-◌, Bool, true, false, List, length, set, Some, slice_get, sym, ap, subst, ◌∙◌, arith}
use Rattle.std.proofs.lemmas.List.{length-set}
use Rattle.group_solver.specs.Marks.{IsMarked, IsClosedFrom, Marks, PremisesAreBelow}
use Rattle.group_solver.proofs.Lists.{numbered_below}
use Rattle.group_solver.proofs.Reading.{read_at}
use Rattle.group_solver.proofs.Marked.{get_set_same, marked_at, marked_number, numbered_at, below_is, below_more, closed_past, closed_later, closed_off, closed_on}
use Rattle.group_solver.proofs.marking.stood_on.Goals.{then-index, else-index}
use Rattle.group_solver.proofs.marking.stood_on.Goals as goal

pub loop-number-init : goal.loop-number-init
loop-number-init c =
    let marks = c.in_ok-marks.marks.items in
    let some = c.requires.some in
    let len = c.in_ok-marks.ensures.len in
    let count : length marks ≡ c.args.last = omega (arith, c.in_ok-marks.marks.ok.0) in
    let size = length-set marks (c.args.last - 1) true in
    record {
      size = omega arith;
      itself = marked_at (set marks (c.args.last - 1) true) c.args.last some (get_set_same marks (c.args.last - 1) true (omega arith));
      closed = closed_past c.args.last c.args.solver.now.origins (set marks (c.args.last - 1) true) (omega arith);
      within = omega arith;
    }

pub loop-number-preserved : goal.loop-number-preserved
loop-number-preserved c =
    let i = c.loop-number.invariant in
    let first = c.loop-number-test.true in
    let size = i.size in
    let within = i.within in
    let n = c.loop-number.number in
    let same : suc (n - 1) ≡ n = omega arith in
    let closed : IsClosedFrom (suc (n - 1)) c.args.solver.now.origins c.loop-number.marks.items = subst (λ (m : ℕ). IsClosedFrom m c.args.solver.now.origins c.loop-number.marks.items) (sym same) i.closed in
    let read = read_at c.loop-number.marks.items (n - 1) c.index.result.now (omega arith) c.index.ensures in
    elim c.if-index.branch [
      | then-index w ↦
          let here = numbered_below c.args.solver.now.lines n (omega arith) (let le = c.requires.there in omega arith) in
          let below : PremisesAreBelow n w.origin.result = below_is c.args.solver.now.given c.args.solver.now.lines n here.0 w.origin.result (w.origin.ensures.is_true here.0 here.1) in
          let made : Marks w.origin.result c.loop-number.marks.items c.if-index.marks.items = subst (λ (ms : List Bool). Marks w.origin.result c.loop-number.marks.items ms) (sym (ap (λ v. v.items) w.marks-is)) w.mark.ensures in
          let at : slice_get c.args.solver.now.origins (n - 1) ≡ Some w.origin.result = numbered_at c.args.solver.now.origins n w.origin.result w.origin.ensures.origin in
          record {
            size = made.size ∙ size;
            itself = marked_number c.loop-number.marks.items c.if-index.marks.items c.args.last made.kept i.itself;
            closed = closed_on (n - 1) c.args.solver.now.origins c.loop-number.marks.items c.if-index.marks.items w.origin.result at (subst (λ (m : ℕ). PremisesAreBelow m w.origin.result) (sym same) below) made closed;
            within = omega arith;
          }
      | else-index w ↦
          let unmarked : slice_get c.loop-number.marks.items (n - 1) ≡ Some false = read ∙ ap Some w.if-index.false in
          let is = ap (λ v. v.items) w.marks-is in
          record {
            size = ap length is ∙ size;
            itself = subst (λ (ms : List Bool). IsMarked ms c.args.last) (sym is) i.itself;
            closed = subst (λ (ms : List Bool). IsClosedFrom (n - 1) c.args.solver.now.origins ms) (sym is) (closed_off (n - 1) c.args.solver.now.origins c.loop-number.marks.items unmarked closed);
            within = omega arith;
          }
    ]

pub mark-requires : goal.mark-requires
mark-requires c =
    let i = c.loop-number.invariant in
    let first = c.loop-number-test.true in
    let size = i.size in
    let within = i.within in
    let n = c.loop-number.number in
    let here = numbered_below c.args.solver.now.lines n (omega arith) (let le = c.requires.there in omega arith) in
    let below : PremisesAreBelow n c.origin.result = below_is c.args.solver.now.given c.args.solver.now.lines n here.0 c.origin.result (c.origin.ensures.is_true here.0 here.1) in
    below_more n (length c.loop-number.marks.items + 1) c.origin.result (omega arith) below

pub returns-clause-closed : goal.returns-clause-closed
returns-clause-closed c = closed_later c.loop-number.number c.args.first c.args.solver.now.origins c.loop-number.marks.items c.loop-number-test.false c.loop-number.invariant.closed

pub returns-clause-itself : goal.returns-clause-itself
returns-clause-itself c = c.loop-number.invariant.itself
