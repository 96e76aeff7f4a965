use Rattle.std.proofs.Common.{List, sym, subst, arith}
use Rattle.zo_core.specs.Literals.{opposite}
use Rattle.unit_refutation.specs.Numbers.{with_number}
use Rattle.unit_refutation.specs.declared.steps.Step.{Step}
use Rattle.unit_refutation.specs.Lines.{AreRoomy}
use Rattle.unit_refutation.proofs.NumberLemmas.{room_kept}
use Rattle.unit_refutation.proofs.CollectLemmas.{found_room, clash_inside, opposite_inside, clash_room, clash_marks, asked_end, roomy_reverse}
use Rattle.unit_refutation.proofs.refuting.trail.Goals as goal

pub set-requires-2 : goal.set-requires-2
set-requires-2 g c =
    let other = c.requires.room c.args.clash.group (opposite c.args.lit) (omega arith)
    (rw c.requires.lit (opposite_inside (g.T.Tables.system c.args.tables.now) (g.T.Tables.scope c.args.tables.now) (g.T.Tables.rows c.args.tables.now) c.args.closures.now c.args.clash c.requires.asked)) in
    rw (c.set.ensures, c.negated.ensures) (room_kept c.args.numbers.now c.args.clash.group c.args.clash.group c.args.lit (opposite c.args.lit) 1 other)

pub collect-requires-clause-room : goal.collect-requires-clause-room
collect-requires-clause-room g c =
    λ k l le has. rw (c.set-2.ensures, c.negated.ensures, c.set.ensures)
    (clash_room c.args.closures.now c.args.clash.group (with_number c.args.numbers.now c.args.clash.group c.args.lit 1) (opposite c.args.lit)
    (clash_room c.args.closures.now c.args.clash.group c.args.numbers.now c.args.lit c.requires.room) k l le has)

pub collect-requires-clause-first : goal.collect-requires-clause-first
collect-requires-clause-first g c =
    let other = c.requires.room c.args.clash.group (opposite c.args.lit) (omega arith)
    (rw c.requires.lit (opposite_inside (g.T.Tables.system c.args.tables.now) (g.T.Tables.scope c.args.tables.now) (g.T.Tables.rows c.args.tables.now) c.args.closures.now c.args.clash c.requires.asked)) in
    let own = found_room c.args.closures.now c.args.clash.group c.args.clash.group c.args.clash.place c.args.numbers.now c.args.lit c.requires.room (omega arith)
    (clash_inside (g.T.Tables.system c.args.tables.now) (g.T.Tables.scope c.args.tables.now) (g.T.Tables.rows c.args.tables.now) c.args.closures.now c.args.clash c.requires.asked) c.requires.lit in
    rw (c.set-2.ensures, c.negated.ensures, c.set.ensures) ((clash_marks c.args.numbers.now c.args.clash.group c.args.lit _ c.requires.lit own other).0)

pub collect-requires-clause-second : goal.collect-requires-clause-second
collect-requires-clause-second g c =
    let other = c.requires.room c.args.clash.group (opposite c.args.lit) (omega arith)
    (rw c.requires.lit (opposite_inside (g.T.Tables.system c.args.tables.now) (g.T.Tables.scope c.args.tables.now) (g.T.Tables.rows c.args.tables.now) c.args.closures.now c.args.clash c.requires.asked)) in
    let own = found_room c.args.closures.now c.args.clash.group c.args.clash.group c.args.clash.place c.args.numbers.now c.args.lit c.requires.room (omega arith)
    (clash_inside (g.T.Tables.system c.args.tables.now) (g.T.Tables.scope c.args.tables.now) (g.T.Tables.rows c.args.tables.now) c.args.closures.now c.args.clash c.requires.asked) c.requires.lit in
    rw (c.set-2.ensures, c.negated.ensures, c.set.ensures) ((clash_marks c.args.numbers.now c.args.clash.group c.args.lit _ c.requires.lit own other).1)

pub returns-clause-ends : goal.returns-clause-ends
returns-clause-ends g c =
    rw c.reverse.ensures.items
    (asked_end (g.T.Tables.system c.args.tables.now) (g.T.Tables.scope c.args.tables.now) (g.T.Tables.rows c.args.tables.now) c.args.closures.now c.args.clash c.requires.asked
    c.collect.new.marks c.in_ok-steps.steps.items c.args.lit c.requires.lit c.in_ok-steps.ensures)

pub returns-clause-room : goal.returns-clause-room
returns-clause-room g c =
    subst (λ (xs : List Step). AreRoomy c.collect.new.marks xs) (sym c.reverse.ensures.items) (roomy_reverse c.collect.new.marks c.in_ok-steps.steps.items c.in_ok-steps.ensures.roomy)

pub returns-clause-first : goal.returns-clause-first
returns-clause-first g c =
    found_room c.args.closures.now c.args.clash.group c.args.clash.group c.args.clash.place c.collect.new.marks c.args.lit c.in_ok-steps.ensures.room (omega arith)
    (clash_inside (g.T.Tables.system c.args.tables.now) (g.T.Tables.scope c.args.tables.now) (g.T.Tables.rows c.args.tables.now) c.args.closures.now c.args.clash c.requires.asked) c.requires.lit
