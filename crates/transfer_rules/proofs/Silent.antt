-- Of a slot that is no pointer the rules say nothing.
use Rattle.std.proofs.Common.{◌≡◌, ℕ, Bool, true, false, not, ◌&&◌, List, [], ◌∷◌, ◌++◌, refl, sym, ap, ◌∙◌, eqb}
use Rattle.std.proofs.lemmas.Bool.{eqb-true}
use Rattle.std.proofs.lemmas.List.Elements.{All-head, All-tail}
use Rattle.std.specs.List.{All}
use Rattle.flow_graph.specs.declared.action.Action.{Action}
use Rattle.field_rules.specs.Lists.{when}
use Rattle.field_rules.specs.Sight.{Sight, HasPointer}
use Rattle.path_facts.specs.Columns.{empty_after}
use Rattle.transfer_rules.specs.declared.args.PassedArg.{PassedArg}
use Rattle.transfer_rules.specs.declared.constraint.Constraint.{Constraint}
use Rattle.transfer_rules.specs.Body.{Setting}
use Rattle.transfer_rules.specs.Rules.{arg_form, equation, is_live, is_ret, each_field, closed_at, call_arg_at, call_arg_of, same_rho, frees_slot, same_field, same_slot, exit_ret, exit_own, exit_closed}

differ : true ≡ false → ⊥
differ e = cc

off : {X : Type 0} (a : Bool) (xs : List X) → a ≡ false → when a xs ≡ []
off true xs e = absurd (differ e)
off false xs e = refl

off_and : (a b : Bool) → a ≡ false → (a && b) ≡ false
off_and true b e = absurd (differ e)
off_and false b e = refl

module _ (v : Sight) (s : Setting) where
  off_live : (p x : ℕ) → v.pointer x ≡ false → is_live v s p x ≡ false
  off_live p x e = off_and (v.pointer x) (not (v.empty p x)) e

  one_arg : (p n u : ℕ) (a : PassedArg) → HasPointer v p a.slot → v.pointer u ≡ false → call_arg_at v s p n u a ≡ []
  one_arg p n u a has e = off (eqb a.slot u && not (v.empty p u)) (equation v s p n 12 u 0 a.number (arg_form (v.rho p u) a.sigma)) (off_and (eqb a.slot u) (not (v.empty p u)) (by (eqb a.slot u) refl))
    where
      by : (b : Bool) → eqb a.slot u ≡ b → b ≡ false
      by true same = absurd (differ (sym has.pointer ∙ ap v.pointer (eqb-true a.slot u same) ∙ e))
      by false same = refl

  pub no_arg : (p n : ℕ) (us : List PassedArg) → All (λ (a : PassedArg). HasPointer v p a.slot) us → (u : ℕ) → v.pointer u ≡ false → call_arg_of v s p n us u ≡ []
  no_arg p n [] h u e = refl
  no_arg p n (a ∷ us) h u e =
      let P : PassedArg → Type 0 = λ b. HasPointer v p b.slot in
      ap (λ (zs : List Constraint). zs ++ call_arg_of v s p n us u) (one_arg p n u a (All-head P a us h) e) ∙ no_arg p n us (All-tail P a us h) u e

  pub no_same : (p n q : ℕ) (a : Action) (x : ℕ) → v.pointer x ≡ false → same_slot v s p n q a x ≡ []
  no_same p n q a x e =
      off (v.pointer x && not (empty_after a (v.empty p) x)) (same_rho v s p n q a x ++ when (not (frees_slot a x)) (each_field v s x (same_field v s p n q a x)))
      (off_and (v.pointer x) (not (empty_after a (v.empty p) x)) e)

  pub no_ret : (p x : ℕ) → v.pointer x ≡ false → exit_ret v s p x ≡ []
  no_ret p x e = off (is_live v s p x && is_ret v s x) _ (off_and (is_live v s p x) (is_ret v s x) (off_live p x e))

  pub no_own : (p x : ℕ) → v.pointer x ≡ false → exit_own v s p x ≡ []
  no_own p x e = off (is_live v s p x && not (is_ret v s x)) _ (off_and (is_live v s p x) (not (is_ret v s x)) (off_live p x e))

  pub no_exit_closed : (p x : ℕ) → v.pointer x ≡ false → exit_closed v s p x ≡ []
  no_exit_closed p x e = off (is_live v s p x) (each_field v s x (closed_at v s p 0 18 p x)) (off_live p x e)
