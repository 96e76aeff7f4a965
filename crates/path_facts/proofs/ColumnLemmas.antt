-- Rows over one action.
use Rattle.std.proofs.Common.{◌≡◌, ℕ, ◌+◌, ◌<◌, Option, Bool, true, false, cond, not, ◌&&◌, ◌||◌, List, [], ◌∷◌, ◌++◌, length, take, get_or, eqb, ◌∙◌, refl, sym, ap}
use Rattle.std.proofs.lemmas.List.{take_more}
use Rattle.flow_graph.specs.Fits.{is_in}
use Rattle.path_facts.specs.Columns.{but}
use Rattle.path_facts.specs.Bits.{empty_bit, fresh_bit}
use Rattle.path_facts.specs.Rows.{Becomes, TakesArgs}

is_in-push : (us : List ℕ) (u k : ℕ) → is_in (us ++ u ∷ []) k ≡ (is_in us k || eqb k u)
is_in-push [] u k = or_false (eqb k u)
  where
    or_false : (b : Bool) → (b || false) ≡ b
    or_false true = refl
    or_false false = refl
is_in-push (v ∷ us) u k = ap (λ b. eqb k v || b) (is_in-push us u k) ∙ or_again (eqb k v) (is_in us k) (eqb k u)
  where
    or_again : (a b c : Bool) → (a || (b || c)) ≡ ((a || b) || c)
    or_again true b c = refl
    or_again false b c = refl

takes_empty : (a b c : Bool) → cond b true (a || c) ≡ ((a || b) || c)
takes_empty true true c = refl
takes_empty true false c = refl
takes_empty false true c = refl
takes_empty false false c = refl

takes_fresh : (a b c : Bool) → cond b false (not a && c) ≡ (not (a || b) && c)
takes_fresh true true c = refl
takes_fresh true false c = refl
takes_fresh false true c = refl
takes_fresh false false c = refl

pub takes_more : (tracks : List (Option ℕ)) (us old mid new : List ℕ) (i : ℕ) → i < length us → TakesArgs tracks (take i us) old mid
    → Becomes tracks mid new (but (get_or us i 0) true (empty_bit tracks mid)) (but (get_or us i 0) false (fresh_bit tracks mid))
    → TakesArgs tracks (take (i + 1) us) old new
takes_more tracks us old mid new i within before step =
    let u = get_or us i 0 in
    let more : (k : ℕ) → is_in (take (i + 1) us) k ≡ (is_in (take i us) k || eqb k u) =
    λ k. ap (λ vs. is_in vs k) (take_more us i 0 within) ∙ is_in-push (take i us) u k in
    record {
      len = step.len ∙ before.len;
      unreached = step.unreached ∙ before.unreached;
      empty = λ k.
          step.empty k ∙ ap (λ b. cond (eqb k u) true b) (before.empty k) ∙ takes_empty (is_in (take i us) k) (eqb k u) (empty_bit tracks old k)
          ∙ ap (λ b. b || empty_bit tracks old k) (sym (more k));
      fresh = λ k.
          step.fresh k ∙ ap (λ b. cond (eqb k u) false b) (before.fresh k) ∙ takes_fresh (is_in (take i us) k) (eqb k u) (fresh_bit tracks old k)
          ∙ ap (λ b. not b && fresh_bit tracks old k) (sym (more k));
    }
