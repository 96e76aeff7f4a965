-- After a statement the variables that were visible before still are.
use Rattle.std.proofs.Common.{◌≡◌, List, [], ◌++◌, ℕ, length, take, refl, sym, ap, ◌∙◌, append_assoc, append-nil}
use Rattle.std.proofs.Math.Seq.{take-append_seam}
use Rattle.c_tree.specs.Plain.{Stmt, block, local, local_as, assign, do_call, free, when, when_else, while, for, break, continue, return, return_of, nothing, Stmts, no_stmts, stmt}
use Rattle.c_types.specs.declared.tables.Tables.{Tables}
use Rattle.c_types.specs.declared.scope.Scope.{Scope}
use Rattle.c_types.specs.Stmts.{after, after_all}

Adds : Scope → Scope → Type 0
Adds s t = (more : List ℕ) × (t.visible ≡ s.visible ++ more)

same : (s t : Scope) → t.visible ≡ s.visible → Adds s t
unfolding Adds
same s t e = ([], e ∙ sym (append-nil s.visible))

adds : (c : Tables) (s : Scope) (st : Stmt) → Adds s (after c s st)
unfolding Adds same
adds c s (local at x t) = (_, refl)
adds c s (local_as at x t e) = (_, refl)
adds c s (block at sts) = same s (after c s (block at sts)) refl
adds c s (assign at a e) = same s (after c s (assign at a e)) refl
adds c s (do_call at e) = same s (after c s (do_call at e)) refl
adds c s (free at e) = same s (after c s (free at e)) refl
adds c s (when at e st) = same s (after c s (when at e st)) refl
adds c s (when_else at e st su) = same s (after c s (when_else at e st su)) refl
adds c s (while at e st) = same s (after c s (while at e st)) refl
adds c s (for at init e step st) = same s (after c s (for at init e step st)) refl
adds c s (break at) = same s (after c s (break at)) refl
adds c s (continue at) = same s (after c s (continue at)) refl
adds c s (return at) = same s (after c s (return at)) refl
adds c s (return_of at e) = same s (after c s (return_of at e)) refl
adds c s (nothing at) = same s (after c s (nothing at)) refl

adds_all : (c : Tables) (s : Scope) (sts : Stmts) → Adds s (after_all c s sts)
unfolding Adds
adds_all c s no_stmts = same s s refl
adds_all c s (stmt st sts) =
    let a = adds c s st in
    let b = adds_all c (after c s st) sts in
    (a.0 ++ b.0, b.1 ∙ ap (λ xs. xs ++ b.0) a.1 ∙ append_assoc s.visible a.0 b.0)

pub keeps_visible : (c : Tables) (s : Scope) (st : Stmt) → take (length s.visible) (after c s st).visible ≡ s.visible
unfolding Adds
keeps_visible c s st = let a = adds c s st in ap (take (length s.visible)) a.1 ∙ take-append_seam s.visible a.0

pub keeps_visible_all : (c : Tables) (s : Scope) (sts : Stmts) → take (length s.visible) (after_all c s sts).visible ≡ s.visible
unfolding Adds
keeps_visible_all c s sts = let a = adds_all c s sts in ap (take (length s.visible)) a.1 ∙ take-append_seam s.visible a.0
