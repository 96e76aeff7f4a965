use Rattle.std.proofs.Common.{◌≡◌, Bool, true, false, not, length, refl, sym, ◌∙◌, arith, ⊎_elim}
use Rattle.std.proofs.lemmas.List.{ext_get_or, get_or_default}
use Rattle.std.proofs.lemmas.Bool.{cases_eq}
use Rattle.zo_core.specs.Literals.{Literal}
use Rattle.zo_core.specs.Equality.{literal_eq-true}
use Rattle.proof_checker.proofs.literals.same.Goals as goal

turned : (b : Bool) → not b ≡ false → b ≡ true
turned true e = refl
turned false e = cc

pub loop-i-preserved : goal.loop-i-preserved
loop-i-preserved c = λ k d lt.
    ⊎_elim
    (λ (e : k ≡ c.loop-i.i).
    rw (e, get_or_default c.args.a.now c.loop-i.i d c.index-a-i.result (omega arith), get_or_default c.args.b.now c.loop-i.i d c.index-b-i.result (omega arith))
    (sym c.index-a-i.is ∙ literal_eq-true c.index-a-i.result c.index-b-i.result (turned _ (sym c.ne.ensures ∙ c.if-ne.false)) ∙ c.index-b-i.is))
    (λ (ne : k ≡ c.loop-i.i → ⊥). c.loop-i.invariant k d (omega arith)) (cases_eq k c.loop-i.i)

pub returns : goal.returns
returns c =
    let d : Literal = record { var = 0; sign = true } in
    let e : length c.args.a.now ≡ length c.args.b.now = omega arith in
    ext_get_or d c.args.a.now c.args.b.now e (λ k lt. c.loop-i.invariant k d (omega arith))
