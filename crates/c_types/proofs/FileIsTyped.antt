-- A file that breaks no rule of types, has a main and passes no limit is a typed one.
use Rattle.std.proofs.Common.{◌≡◌, Option, Some, None, IfSome, IsTrue, refl, get_or}
use Rattle.std.proofs.lemmas.Option.{slice_get-get_or}
use Rattle.c_tree.specs.declared.tree.Tree as code_tree
use Rattle.c_tree.specs.View.{tree_view}
use Rattle.c_tree.specs.Formed.{IsFormed}
use Rattle.c_tree.specs.Plain.{Stmt, Procedure}
use Rattle.c_types.specs.Declarations.{struct_infos}
use Rattle.c_types.specs.Items.{proc_infos, body_count, main_number, has_main, limit_passed, IsWellTyped}
use Rattle.c_types.specs.Fits.{IsTypedFile}
use Rattle.c_types.proofs.NodesRows.{OneCondition, body_nodes}
use Rattle.c_types.proofs.NodesScopes.{body_locals}
use Rattle.c_types.proofs.NodesStmts.{body_fits}
use Rattle.c_types.proofs.NodesExist.{body_kinds_exist}
use Rattle.c_types.proofs.NodesViews.{tree_conditions}
use Rattle.c_types.proofs.FormedProps.{is_formed}
use Rattle.c_types.proofs.File.{BodyLaws, AreFine, typed_file}

fine_option : (o : Option Stmt) → ((st : Stmt) → o ≡ Some st → OneCondition st) → IfSome o OneCondition
fine_option None h = tt
fine_option (Some st) h = h st refl

fine_body : (p : Procedure) → ((st : Stmt) → p.body ≡ Some st → OneCondition st) → IfSome p.body OneCondition
fine_body p h = fine_option p.body h

body_laws : BodyLaws OneCondition
body_laws = record {
  fits = λ c ss ps s st p rest tables is one formed. body_fits c ss ps s st p rest tables is one;
  nodes = body_nodes;
  locals = λ c s st is one. body_locals c s st is;
  kinds_exist = λ c ss ps r s st tables is one. body_kinds_exist c ss ps r s st tables is;
}

-- at most one condition in each `for`, since the tree is one of a program
all_conditions : (t : code_tree.Tree) → AreFine OneCondition (tree_view t).procs
all_conditions t k d h = fine_body (get_or (tree_view t).procs k d) (λ st is. tree_conditions t k (get_or (tree_view t).procs k d) st (slice_get-get_or (tree_view t).procs k d h) is)

pub file_is_typed : (t : code_tree.Tree) → ∥ IsFormed (tree_view t) ∥₁ → IsWellTyped (tree_view t) → IsTrue (has_main (tree_view t))
    → limit_passed (struct_infos (tree_view t)) (proc_infos (tree_view t)) ≡ None
    → IsTypedFile (tree_view t) (struct_infos (tree_view t)) (proc_infos (tree_view t)) (body_count (tree_view t)) (main_number (tree_view t))
file_is_typed t formed typed main limits =
    typed_file OneCondition body_laws (tree_view t) (all_conditions t) (is_formed (tree_view t) formed) typed main limits
