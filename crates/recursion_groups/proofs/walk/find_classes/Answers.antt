use Rattle.std.proofs.Common.{◌≡◌, ap, refl, sym, subst, length, arith}
use Rattle.std.proofs.lemmas.Result.{IfOk-weaker}
use Rattle.recursion_groups.specs.Walks.{Walked, IsWalk, classed, AreClasses}
use Rattle.recursion_groups.proofs.WalkLemmas.{begins, are_classes}
use Rattle.recursion_groups.proofs.walk.find_classes.Goals as goal

pub loop-root-init : goal.loop-root-init
loop-root-init c = record {
  walk = subst (IsWalk c.args.calls.now) (sym c.in_ok-walk.ensures) (begins c.args.calls.now (length c.args.calls.now) refl);
  rest = ap (λ (w : Walked). w.bounds) c.in_ok-walk.ensures;
  met = λ p lt. absurd (omega (arith, lt));
}

pub returns : goal.returns
returns c =
    IfOk-weaker c.into_classes.result (λ classes. classes ≡ classed c.loop-root.walk) (AreClasses c.args.calls.now)
    (λ classes made. are_classes c.args.calls.now c.loop-root.walk c.loop-root.invariant.walk c.loop-root.invariant.rest (λ p lt. c.loop-root.invariant.met p (omega (arith, lt))) classes made)
    c.into_classes.ensures
