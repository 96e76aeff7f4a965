-- The constraints that can have a name on the edge of its number.
use Rattle.std.proofs.Common.{◌≡◌, ℕ, zero, suc, ◌<◌, ◌≤◌, List, [], ◌∷◌, length, get_or, refl, arith}
use Rattle.conflict_proof.specs.declared.names.ConstraintName.{ConstraintName}
use Rattle.flow_graph.specs.declared.action.Edge.{Edge}
use Rattle.field_rules.specs.Sight.{Sight}
use Rattle.transfer_rules.specs.Body.{Setting}
use Rattle.transfer_rules.specs.Single.{named_edge, named_among}

module _ (v : Sight) (s : Setting) (n : ConstraintName) where
  pub among_at : (es : List Edge) (k : ℕ) (d : Edge) → k < length es → named_among v s n es k ≡ named_edge v s n (get_or es k d)
  among_at [] k d lt = absurd (omega arith)
  among_at (e ∷ es) zero d lt = refl
  among_at (e ∷ es) (suc k) d lt = among_at es k d (omega arith)

  pub among_past : (es : List Edge) (k : ℕ) → length es ≤ k → named_among v s n es k ≡ []
  among_past [] k le = refl
  among_past (e ∷ es) zero le = absurd (omega arith)
  among_past (e ∷ es) (suc k) le = among_past es k (omega arith)
