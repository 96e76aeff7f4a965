-- What a fact by cases says of one case.
use Rattle.std.proofs.lemmas.Bool.{eqb-true}
use Rattle.std.proofs.Common.{◌≡◌, ℕ, zero, suc, ◌<◌, ◌==◌, true, false, sym, subst, arith, Option, Some, None, MatchOption}

pub some_case : {A : Type 0} (N : Type 0) (P : A → Type 0) (o : Option A) (x : A) → MatchOption o N P → o ≡ Some x → P x
some_case N P o x h e = subst (λ w. MatchOption w N P) e h

pub none_case : {A : Type 0} (N : Type 0) (P : A → Type 0) (o : Option A) → MatchOption o N P → o ≡ None → N
none_case N P o h e = subst (λ w. MatchOption w N P) e h

pub some_from_test : (n : ℕ) → false ≡ (n == 0) → 0 < n
some_from_test zero e = cc
some_from_test (suc n) e = omega arith

pub none_from_test : (n : ℕ) → true ≡ (n == 0) → n ≡ 0
none_from_test n e = eqb-true n 0 (sym e)
