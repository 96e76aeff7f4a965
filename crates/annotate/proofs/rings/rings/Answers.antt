use Rattle.std.proofs.Common.{rules, ◌≡◌, ℕ, ◌∷◌, List, length, reverse, refl, sym, subst, arith}
use Rattle.std.proofs.lemmas.List.{take_at}
use Rattle.recursion_groups.proofs.FoundLemmas.{contains_head}
use Rattle.annotate.specs.Rings.{AreBackwards}
use Rattle.annotate.specs.Paint.{AreClosed, Paints}
use Rattle.annotate.proofs.BackRows.{back_within}
use Rattle.annotate.proofs.RingRows.{ArePaintedTo, none_painted, closed_back, painted_on, painted_as, all_painted, none_left, popped}
use Rattle.annotate.proofs.rings.rings.Goals as goal

pub loop-root-init : goal.loop-root-init
loop-root-init c = none_painted c.args.lists.now (reverse c.in_ok-left.left.items) c.in_ok-marks.marks.items c.in_ok-left.ensures (search rules)

pub paint-requires-clause-within : goal.paint-requires-clause-within
paint-requires-clause-within c = back_within c.args.lists.now c.deref.result.now (subst (AreBackwards c.args.lists.now) (sym c.deref.ensures.value) c.in_ok-back.ensures)

pub paint-requires-clause-root : goal.paint-requires-clause-root
paint-requires-clause-root c =
    let l = c.loop-root in
    let are : AreBackwards c.args.lists.now c.deref.result.now = subst (AreBackwards c.args.lists.now) (sym c.deref.ensures.value) c.in_ok-back.ensures in
    let w : ArePaintedTo c.args.lists.now l.marks.items (c.in-Some.root ∷ reverse c.pop.new.self.items) =
    subst (ArePaintedTo c.args.lists.now l.marks.items) (popped l.left.items c.pop.new.self.items c.in-Some.root c.in-Some.ensures.items) l.invariant in
    let small = w.within c.in-Some.root (contains_head c.in-Some.root c.in-Some.root (reverse c.pop.new.self.items) refl) in
    omega (arith, small, are.count)

pub paint-requires-clause-closed : goal.paint-requires-clause-closed
paint-requires-clause-closed c =
    let l = c.loop-root in
    let are : AreBackwards c.args.lists.now c.deref.result.now = subst (AreBackwards c.args.lists.now) (sym c.deref.ensures.value) c.in_ok-back.ensures in
    subst (AreClosed c.deref.result.now) (sym c.deref_mut.ensures.value) (closed_back c.args.lists.now c.deref.result.now are l.marks.items l.invariant.painted.closed)

pub loop-root-preserved : goal.loop-root-preserved
loop-root-preserved c =
    let l = c.loop-root in
    let rest = reverse c.pop.new.self.items in
    let are : AreBackwards c.args.lists.now c.deref.result.now = subst (AreBackwards c.args.lists.now) (sym c.deref.ensures.value) c.in_ok-back.ensures in
    let w : ArePaintedTo c.args.lists.now l.marks.items (c.in-Some.root ∷ rest) =
    subst (ArePaintedTo c.args.lists.now l.marks.items) (popped l.left.items c.pop.new.self.items c.in-Some.root c.in-Some.ensures.items) l.invariant in
    let paints : Paints c.deref.result.now l.marks.items c.in-Some.root c.paint.new.marks =
    subst (λ (ms : List ℕ). Paints c.deref.result.now ms c.in-Some.root c.paint.new.marks) c.deref_mut.ensures.value c.in_ok-paint.ensures in
    painted_as c.args.lists.now c.paint.new.marks _ rest (take_at c.paint.new.marks _ _ (omega (arith, c.paint.auto.marks, c.deref_mut.ensures.len, l.marks.ok.0)))
    (painted_on c.args.lists.now c.deref.result.now are l.marks.items c.in-Some.root rest w c.paint.new.marks paints)

pub returns : goal.returns
returns c =
    let l = c.loop-root in
    all_painted c.args.lists.now l.marks.items
    (subst (λ (xs : List ℕ). ArePaintedTo c.args.lists.now l.marks.items (reverse xs)) (none_left l.left.items (omega (arith, c.in_default.ensures.cases, l.left.ok.0))) l.invariant)
