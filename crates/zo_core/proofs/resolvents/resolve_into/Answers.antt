use Rattle.std.proofs.Common.{◌≡◌, ◌+◌, ◌≤◌, ◌<◌, ◌⊎◌, inl, inr, false, length, drop, List, [], ◌∷◌, ◌++◌, Option, None, Some, refl, sym, ◌∙◌, arith, rules}
use Rattle.std.proofs.lemmas.Grind.{common_steps}
use Rattle.zo_core.specs.Literals.{Literal, opposite, literal_eq}
use Rattle.zo_core.specs.Resolvents.{joined_on, without}
use Rattle.zo_core.proofs.PlaceLemmas.{next}
use Rattle.zo_core.proofs.Merging.{before, Ascends-drop, merged-start, step-first, step-second, step-both, step-clash, step-end, one_ends, joined-ascends}
use Rattle.zo_core.proofs.resolvents.resolve_into.Goals as goal
use Rattle.zo_core.proofs.resolvents.resolve_into.Goals.{then-loop-i-test+else-j-b, else-loop-i-test}

nothing : (made : List Literal) (o : Option (List Literal)) → made ≡ [] → before made o ≡ o
nothing made None e = refl
nothing made (Some c) e = rw e refl

pub loop-i-init : goal.loop-i-init
loop-i-init c = record {
  first = omega arith;
  second = omega arith;
  len = omega arith;
  room = omega arith;
  same = merged-start c.args.on c.args.a.now c.args.b.now c.requires.first ∙ sym (nothing c.clear.new.self.items _ c.clear.ensures.items);
}

pub loop-i-preserved-then-number : goal.loop-i-preserved-then-number
loop-i-preserved-then-number c =
    let l : Literal = c.index-a-i.result in
    let m : Literal = c.index-b-j.result in
    let a' : drop c.loop-i.i c.args.a.now ≡ l ∷ drop (c.loop-i.i + 1) c.args.a.now = next c.args.a.now c.loop-i.i l (omega arith) c.index-a-i.is in
    let b' : drop c.loop-i.j c.args.b.now ≡ m ∷ drop (c.loop-i.j + 1) c.args.b.now = next c.args.b.now c.loop-i.j m (omega arith) c.index-b-j.is in
    let kept : literal_eq l c.args.on ≡ false = sym c.eq.ensures ∙ c.if-eq.false in
    let lt : l.var < m.var = omega arith in
    let made : c.push.new.self.items ≡ c.loop-i.made.items ++ l ∷ [] = search rules in
    record {
      first = omega arith;
      second = omega arith;
      len = omega arith;
      room = omega arith;
      same = step-first c.args.on l m _ _ _ _ c.loop-i.made.items c.push.new.self.items _ a' b' kept lt (Ascends-drop 0 c.loop-i.j c.args.b.now c.requires.second) made c.loop-i.invariant.same;
    }

pub loop-i-preserved-then-number-2 : goal.loop-i-preserved-then-number-2
loop-i-preserved-then-number-2 c =
    let l : Literal = c.index-a-i.result in
    let m : Literal = c.index-b-j.result in
    let a' : drop c.loop-i.i c.args.a.now ≡ l ∷ drop (c.loop-i.i + 1) c.args.a.now = next c.args.a.now c.loop-i.i l (omega arith) c.index-a-i.is in
    let b' : drop c.loop-i.j c.args.b.now ≡ m ∷ drop (c.loop-i.j + 1) c.args.b.now = next c.args.b.now c.loop-i.j m (omega arith) c.index-b-j.is in
    let kept : literal_eq m (opposite c.args.on) ≡ false = rw c.negated-opposite.ensures at (sym c.eq-in-loop-i.ensures ∙ c.if-eq-2.false) in
    let lt : m.var < l.var = omega arith in
    let made : c.push-then-number-2.new.self.items ≡ c.loop-i.made.items ++ m ∷ [] = search rules in
    record {
      first = omega arith;
      second = omega arith;
      len = omega arith;
      room = omega arith;
      same =
          step-second c.args.on l m _ _ _ _ c.loop-i.made.items c.push-then-number-2.new.self.items _ a' b' kept lt
          (Ascends-drop 0 c.loop-i.i c.args.a.now c.requires.first) (Ascends-drop 0 c.loop-i.j c.args.b.now c.requires.second) made c.loop-i.invariant.same;
    }

pub returns-then-sign-clause-items : goal.returns-then-sign-clause-items
returns-then-sign-clause-items c =
    let l : Literal = c.index-a-i.result in
    let m : Literal = c.index-b-j.result in
    let a' : drop c.loop-i.i c.args.a.now ≡ l ∷ drop (c.loop-i.i + 1) c.args.a.now = next c.args.a.now c.loop-i.i l (omega arith) c.index-a-i.is in
    let b' : drop c.loop-i.j c.args.b.now ≡ m ∷ drop (c.loop-i.j + 1) c.args.b.now = next c.args.b.now c.loop-i.j m (omega arith) c.index-b-j.is in
    let first : literal_eq l c.args.on ≡ false = sym c.eq.ensures ∙ c.if-eq.false in
    let second : literal_eq m (opposite c.args.on) ≡ false = rw c.negated-opposite.ensures at (sym c.eq-in-loop-i.ensures ∙ c.if-eq-2.false) in
    let same : l.var ≡ m.var = omega arith in
    let apart : (l.sign ≡ m.sign → ⊥) = λ e. search rules in
    step-clash c.args.on l m _ _ _ _ c.loop-i.made.items _ a' b' first second same apart c.loop-i.invariant.same

pub loop-i-preserved : goal.loop-i-preserved
loop-i-preserved c =
    let l : Literal = c.index-a-i.result in
    let m : Literal = c.index-b-j.result in
    let a' : drop c.loop-i.i c.args.a.now ≡ l ∷ drop (c.loop-i.i + 1) c.args.a.now = next c.args.a.now c.loop-i.i l (omega arith) c.index-a-i.is in
    let b' : drop c.loop-i.j c.args.b.now ≡ m ∷ drop (c.loop-i.j + 1) c.args.b.now = next c.args.b.now c.loop-i.j m (omega arith) c.index-b-j.is in
    let first : literal_eq l c.args.on ≡ false = sym c.eq.ensures ∙ c.if-eq.false in
    let second : literal_eq m (opposite c.args.on) ≡ false = rw c.negated-opposite.ensures at (sym c.eq-in-loop-i.ensures ∙ c.if-eq-2.false) in
    let same : l.var ≡ m.var = omega arith in
    let signed : l.sign ≡ m.sign = search rules in
    let made : c.push-in-loop-i.new.self.items ≡ c.loop-i.made.items ++ l ∷ [] = search rules in
    record {
      first = omega arith;
      second = omega arith;
      len = omega arith;
      room = omega arith;
      same =
          step-both c.args.on l m _ _ _ _ c.loop-i.made.items c.push-in-loop-i.new.self.items _ a' b' first second same signed
          (Ascends-drop 0 c.loop-i.j c.args.b.now c.requires.second) made c.loop-i.invariant.same;
    }

whole : (c : goal.After-push_others-2) → joined_on c.args.on c.args.a.now c.args.b.now ≡ Some c.push_others-2.new.made.items
whole c =
    let ends : (length c.args.a.now ≤ c.loop-i.i) ⊎ (length c.args.b.now ≤ c.loop-i.j) =
    elim c.loop-i-test.branch [ then-loop-i-test+else-j-b w ↦ inr (omega arith) | else-loop-i-test w ↦ inl (omega arith) ] in
    let first : c.push_others.new.made.items ≡ c.loop-i.made.items ++ without c.args.on (drop c.loop-i.i c.args.a.now) = grind (arith, common_steps, c.push_others.ensures.items) in
    let second : c.push_others-2.new.made.items ≡ c.push_others.new.made.items ++ without (opposite c.args.on) (drop c.loop-i.j c.args.b.now) = grind (arith, common_steps, c.push_others-2.ensures.items) in
    step-end c.args.on (drop c.loop-i.i c.args.a.now) (drop c.loop-i.j c.args.b.now) c.loop-i.made.items c.push_others.new.made.items c.push_others-2.new.made.items _
    (Ascends-drop 0 c.loop-i.j c.args.b.now c.requires.second) (one_ends c.loop-i.i c.loop-i.j c.args.a.now c.args.b.now ends) first second c.loop-i.invariant.same

pub returns-clause-items : goal.returns-clause-items
returns-clause-items c = whole c

pub returns-clause-order : goal.returns-clause-order
returns-clause-order c _ = joined-ascends c.args.on c.args.a.now c.args.b.now c.push_others-2.new.made.items c.requires.first c.requires.second (whole c)
