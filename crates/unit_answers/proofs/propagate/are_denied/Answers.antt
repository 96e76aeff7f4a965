use Rattle.std.proofs.Common.{◌≡◌, Bool, true, false, not, refl, sym, subst, ◌∙◌, rules}
use Rattle.std.proofs.lemmas.Bool.{false≢true}
use Rattle.std.specs.List.{Contains}
use Rattle.zo_core.specs.Equality.{literal_eq-of}
use Rattle.unit_answers.specs.Trails.{known}
use Rattle.unit_answers.proofs.propagate.are_denied.Goals as goal

not_true : (x : Bool) → not x ≡ true → x ≡ false
not_true true e = cc
not_true false e = refl

pub returns-then-not-has : goal.returns-then-not-has
returns-then-not-has c = λ all.
    let holds : Contains c.args.clause.now c.other-item.result = search rules in
    let ne = not_true _ (sym c.ne.ensures ∙ c.if-ne.true) in
    let differs : c.other-item.result ≡ c.args.lit → ⊥ = λ e. false≢true (sym ne ∙ literal_eq-of c.other-item.result c.args.lit e) in
    c.if-not-has.ensures (subst (Contains (known c.args.trail.now)) (sym c.negated.ensures) (all c.other-item.result holds differs))
