-- A line more from outside, and what follows from lines.
use Rattle.std.proofs.Common.{◌≡◌, ℕ, zero, suc, ◌+◌, ◌<◌, Bool, List, [], ◌∷◌, ◌++◌, length, Option, Some, ap, arith}
use Rattle.std.specs.Prelude.{Vec, IsTrue}
use Rattle.std.specs.Global.{Global}
use Rattle.std.specs.Vec.{vec_capacity}
use Rattle.std.proofs.lemmas.List.{length-append}
use Rattle.zo_core.specs.Literals.{Literal}
use Rattle.zo_core.specs.Truth.{clause_true}
use Rattle.zo_solver.specs.Clauses.{numbered}
use Rattle.zo_solver.specs.Derived.{AreDerived, AreMet, IsTrueOrigin}
use Rattle.zo_solver.specs.Trail.{IsClauseOver, IsWhole}
use Rattle.zo_solver.specs.declared.answers.Origin.{Origin}
use Rattle.zo_solver.specs.declared.answers.Origin.TheVariants.{Given, Lemma, Resolved}
use Rattle.zo_solver.specs.declared.search.Search.{Search}
use Rattle.zo_solver.proofs.Bucketing.{within-numbered}
use Rattle.zo_solver.proofs.Growing.{derived-push, each_clause-push}
use Rattle.zo_solver.proofs.Ahead.{numbered-some}
use Rattle.zo_core.proofs.ResolventLemmas.{joined_on-sound}

pub whole-push : (old new : Search) (c : List Literal) (o : Origin) → IsWhole old → new.vars ≡ old.vars → new.given ≡ old.given → new.values ≡ old.values → new.trail ≡ old.trail → new.made ≡ old.made
    → new.lines.clauses ≡ old.lines.clauses ++ c ∷ [] → new.lines.origins ≡ old.lines.origins ++ o ∷ [] → length new.lines.origins ≡ length new.lines.clauses → IsClauseOver old.vars c → IsTrueOrigin old.given.clauses old.lines.clauses (length old.lines.clauses + 1) c o → IsWhole new
whole-push old new c o w vars given values trail made clauses origins count over origin_true =
    let vars_old = w.vars in let values_old = w.values in let made_old = w.made_room in let trail_old = w.trail_room in
    let values_len : length new.values.items ≡ length old.values.items = ap (λ (v : Vec (Option Bool) Global). length v.items) values in
    let trail_cap : vec_capacity new.trail ≡ vec_capacity old.trail = ap vec_capacity trail in
    let made_cap : vec_capacity new.made ≡ vec_capacity old.made = ap vec_capacity made in
    let a = length-append old.lines.origins (o ∷ []) in
    let b = length-append old.lines.clauses (c ∷ []) in
    let d = ap length origins in
    let e = ap length clauses in
    record {
      given = rw (vars, given) w.given;
      lines = rw (vars, clauses) (each_clause-push (IsClauseOver old.vars) old.lines.clauses c w.lines over);
      derived = rw (given, clauses, origins) (derived-push old.given.clauses old.lines.clauses old.lines.origins c o (omega arith) w.derived origin_true);
      values = omega arith;
      vars = omega arith;
      trail_room = omega arith;
      made_room = omega arith;
    }

module _ (given lines : List (List Literal)) (origins : List Origin) (t : ℕ → Bool) where
  -- a line is true where the clauses and the lemmas are, if the lines before it are
  one_true : AreMet given lines origins t → (n : ℕ) (c : List Literal) (o : Origin) → numbered lines n ≡ Some c → numbered origins n ≡ Some o → IsTrueOrigin given lines n c o
      → ((m : ℕ) (d : List Literal) → m < n → numbered lines m ≡ Some d → IsTrue (clause_true t d)) → IsTrue (clause_true t c)
  one_true met n c (Given k) at o_at h before = met.0 k c h
  one_true met n c Lemma at o_at h before = met.1 n c at o_at
  one_true met n c (Resolved a b) at o_at h before =
      let x = h.resolvent.0 in
      joined_on-sound x h.first h.second c h.resolvent.1.2 t (before a h.first h.first_before h.first_at) (before b h.second h.second_before h.second_at)

  below_true : AreMet given lines origins t → AreDerived given lines origins → length origins ≡ length lines → (fuel n : ℕ) (c : List Literal) → n < fuel → numbered lines n ≡ Some c → IsTrue (clause_true t c)
  below_true met derived same zero n c lt at = absurd (omega arith)
  below_true met derived same (suc fuel) n c lt at =
      let w = within-numbered lines n c at in
      let o = numbered-some origins n w.0 (omega (arith, w.1)) in
      one_true met n c o.0 at o.1 (derived n c o.0 at o.1) (λ m d less d_at. below_true met derived same fuel m d (omega arith) d_at)

-- each line follows from the clauses and the lemmas
pub lines_true : (given lines : List (List Literal)) (origins : List Origin) (t : ℕ → Bool) → AreMet given lines origins t → AreDerived given lines origins → length origins ≡ length lines → (n : ℕ) (c : List Literal) → numbered lines n ≡ Some c → IsTrue (clause_true t c)
lines_true given lines origins t met derived same n c at = below_true given lines origins t met derived same (suc n) n c (omega arith) at
