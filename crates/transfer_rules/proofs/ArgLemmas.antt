-- One argument more of a call.
use Rattle.std.proofs.Common.{◌≡◌, ℕ, suc, ◌+◌, ◌<◌, ◌≤◌, Bool, true, false, cond, List, [], ◌∷◌, ◌++◌, length, get_or, drop, Some, None, refl, sym, ap, ◌∙◌, arith, append_assoc, add-one}
use Rattle.std.proofs.Math.Seq.{drop-cons}
use Rattle.std.proofs.lemmas.List.Elements.{All-nil, All-cons, All-head, All-tail}
use Rattle.std.specs.List.{All}
use Rattle.field_rules.specs.declared.edges.CallArg.{CallArg}
use Rattle.field_rules.specs.Sight.{Sight, HasPointer}
use Rattle.transfer_rules.specs.declared.args.PassedArg.{PassedArg}
use Rattle.transfer_rules.specs.Body.{Setting}
use Rattle.transfer_rules.specs.Rules.{args_from, call_args}
use Rattle.transfer_rules.specs.Exist.{pointer_args}

bit_le : (b : Bool) (m n : ℕ) → m ≤ n → cond b 1 0 + m ≤ suc n
bit_le true m n h = omega arith
bit_le false m n h = omega arith

module _ (v : Sight) (s : Setting) where
  next : (us : List ℕ) (n u : ℕ) → n < length us → u ≡ get_or us n 0 → drop n us ≡ u ∷ drop (n + 1) us
  next us n u lt e = rw (add-one, drop-cons us n 0) (ap (λ (y : ℕ). y ∷ drop (suc n) us) (sym e))

  abbrev pub passed : ℕ → ℕ → ℕ → ℕ → ℕ → PassedArg
  passed p callee i n u = record { slot = u; number = n + 1; sigma = cond (s.has_body callee) (Some (s.part p callee i)) None }

  pub args_more : (p callee i n u : ℕ) (us : List ℕ) (out : List PassedArg) → n < length us → u ≡ get_or us n 0 → v.pointer u ≡ true
      → (out ++ passed p callee i n u ∷ []) ++ args_from v s p callee (i + 1) (suc (n + 1)) (drop (n + 1) us) ≡ out ++ args_from v s p callee i (suc n) (drop n us)
  args_more p callee i n u us out lt e is =
      append_assoc out (passed p callee i n u ∷ []) (args_from v s p callee (i + 1) (suc (n + 1)) (drop (n + 1) us))
      ∙ ap (λ zs. out ++ zs) (sym (ap (args_from v s p callee i (suc n)) (next us n u lt e) ∙ by (v.pointer u) is))
    where
      one : suc n ≡ n + 1
      one = omega arith

      two : suc i ≡ i + 1
      two = omega arith

      by : (b : Bool) → b ≡ true → cond b (record { slot = u; number = suc n; sigma = cond (s.has_body callee) (Some (s.part p callee i)) None } ∷ args_from v s p callee (suc i) (suc (suc n)) (drop (n + 1) us)) (args_from v s p callee i (suc (suc n)) (drop (n + 1) us)) ≡ passed p callee i n u ∷ args_from v s p callee (i + 1) (suc (n + 1)) (drop (n + 1) us)
      by true _ = rw (one, two) refl
      by false e' = absurd (no_true e')
        where
          no_true : false ≡ true → ⊥
          no_true q = cc

  pub args_skip : (p callee i n u : ℕ) (us : List ℕ) → n < length us → u ≡ get_or us n 0 → v.pointer u ≡ false
      → args_from v s p callee i (suc (n + 1)) (drop (n + 1) us) ≡ args_from v s p callee i (suc n) (drop n us)
  args_skip p callee i n u us lt e is = sym (ap (args_from v s p callee i (suc n)) (next us n u lt e) ∙ by (v.pointer u) is)
    where
      one : suc n ≡ n + 1
      one = omega arith

      by : (b : Bool) → b ≡ false → cond b (record { slot = u; number = suc n; sigma = cond (s.has_body callee) (Some (s.part p callee i)) None } ∷ args_from v s p callee (suc i) (suc (suc n)) (drop (n + 1) us)) (args_from v s p callee i (suc (suc n)) (drop (n + 1) us)) ≡ args_from v s p callee i (suc (n + 1)) (drop (n + 1) us)
      by true e' = absurd (no_true e')
        where
          no_true : true ≡ false → ⊥
          no_true q = cc
      by false _ = rw one refl

  pub count_le : (us : List ℕ) → pointer_args v s us ≤ length us
  count_le [] = omega arith
  count_le (u ∷ us) = bit_le (v.pointer u) (pointer_args v s us) (length us) (count_le us)

  pub count_taken : (us : List ℕ) (n u : ℕ) → n < length us → u ≡ get_or us n 0 → v.pointer u ≡ true → pointer_args v s (drop n us) ≡ 1 + pointer_args v s (drop (n + 1) us)
  count_taken us n u lt e is = ap (pointer_args v s) (next us n u lt e) ∙ ap (λ b. cond b 1 0 + pointer_args v s (drop (n + 1) us)) is

  pub count_skipped : (us : List ℕ) (n u : ℕ) → n < length us → u ≡ get_or us n 0 → v.pointer u ≡ false → pointer_args v s (drop n us) ≡ 0 + pointer_args v s (drop (n + 1) us)
  count_skipped us n u lt e is = ap (pointer_args v s) (next us n u lt e) ∙ ap (λ b. cond b 1 0 + pointer_args v s (drop (n + 1) us)) is

  abbrev HasArg : ℕ → PassedArg → Type 0
  HasArg p u = HasPointer v p u.slot

  abbrev HasCallArg : CallArg → Type 0
  HasCallArg a = a.slot < v.slots

  pub passed_slots : (p : ℕ) (us : List PassedArg) → All (λ (u : PassedArg). HasPointer v p u.slot) us → All (λ (a : CallArg). a.slot < v.slots) (call_args us)
  passed_slots p [] h = All-nil HasCallArg
  passed_slots p (u ∷ us) h = All-cons HasCallArg (record { slot = u.slot; sigma = u.sigma }) (call_args us) (All-head (HasArg p) u us h).slot (passed_slots p us (All-tail (HasArg p) u us h))

  pub count_more : (us : List ℕ) (n u : ℕ) → n < length us → u ≡ get_or us n 0 → pointer_args v s (drop n us) ≡ cond (v.pointer u) 1 0 + pointer_args v s (drop (n + 1) us)
  count_more us n u lt e = ap (pointer_args v s) (next us n u lt e)
