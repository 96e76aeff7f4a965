use Rattle.std.proofs.Common.{◌≡◌, Bool, true, false, not, List, [], ◌∷◌, ◌++◌, ◌<◌, length, take, refl, sym, ap, ◌∙◌, rules, arith}
use Rattle.std.proofs.lemmas.List.{take_more, append-nil}
use Rattle.zo_core.specs.Literals.{Literal}
use Rattle.zo_core.specs.Resolvents.{without}
use Rattle.unit_refutation.proofs.RestLemmas.{without-push}
use Rattle.unit_refutation.proofs.writing.without.Goals as goal
use Rattle.unit_refutation.proofs.writing.without.Goals.{then-ne+in_ok-push, else-ne}

not_true : (x : Bool) → not x ≡ true → x ≡ false
not_true true e = cc
not_true false e = refl

not_false : (x : Bool) → not x ≡ false → x ≡ true
not_false true e = refl
not_false false e = cc

pub loop-l-preserved : goal.loop-l-preserved
loop-l-preserved c =
    let xs = c.args.lits.now in
    let i = c.loop-l.l-index in
    let m = c.l-item.result in
    let x = c.args.lit in
    let lt : i < length xs = omega arith in
    let more = ap (without x) (take_more xs i m lt ∙ ap (λ (l : Literal). take i xs ++ l ∷ []) (sym c.l-item.is)) in
    elim c.if-ne.branch [
      | then-ne+in_ok-push w ↦
          let items : w.push.new.self.items ≡ c.loop-l.out.items ++ m ∷ [] = search rules in
          rw w.out-is
          (items ∙ ap (λ (ls : List Literal). ls ++ m ∷ []) c.loop-l.invariant
          ∙ sym (without-push x m (take i xs) false (not_true _ (sym c.ne.ensures ∙ w.if-ne.true))) ∙ sym more)
      | else-ne w ↦
          rw w.out-is
          (c.loop-l.invariant ∙ sym (append-nil (without x (take i xs)))
          ∙ sym (without-push x m (take i xs) true (not_false _ (sym c.ne.ensures ∙ w.if-ne.false))) ∙ sym more)
    ]
