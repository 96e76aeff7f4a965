use Rattle.std.proofs.Common.{◌≡◌, sym, ap, ◌∙◌, Some, None, true}
use Rattle.std.specs.Prelude.{option_map}
use Rattle.c_tree.specs.Plain.{Stmt}
use Rattle.c_tree.specs.View.{expr_view}
use Rattle.c_parser.specs.StmtViews.{path_of}
use Rattle.c_parser.proofs.Paths.{path_some, step_no_path, step_taken}
use Rattle.c_grammar.specs.Parts.{Part}
use Rattle.c_parser.specs.Views.{front_of, expr_part}
use Rattle.c_parser.proofs.simple.by_one.Goals as goal

pub stepped-requires-clause-copy : goal.stepped-requires-clause-copy
stepped-requires-clause-copy c =
    let made : option_map expr_view c.in_ok-copy.field-0 ≡ path_of (expr_view c.args.target.tree) = c.in_ok-copy.ensures in
    (path_some (expr_view c.args.target.tree) (expr_view c.in-Some.copy) (sym (rw c.in-Some.is at made))).1

pub returns-in_default : goal.returns-in_default
returns-in_default c =
    let made : option_map expr_view c.in_ok-copy.field-0 ≡ path_of (expr_view c.args.target.tree) = c.in_ok-copy.ensures in
    let none : path_of (expr_view c.args.target.tree) ≡ None = sym (rw c.in_default.is at made) in
    let named : c.args.named ≡ true = c.if-not-named.false in
    record { read = rw named (step_no_path c.args.limit (expr_part c.args.target) c.args.op (front_of c.args.sign) none) }

pub returns : goal.returns
returns c =
    let made : option_map expr_view c.in_ok-copy.field-0 ≡ path_of (expr_view c.args.target.tree) = c.in_ok-copy.ensures in
    let some : path_of (expr_view c.args.target.tree) ≡ Some (expr_view c.in-Some.copy) = sym (rw c.in-Some.is at made) in
    let named : c.args.named ≡ true = c.if-not-named.false in
    record {
      read = rw named (step_taken c.args.limit (expr_part c.args.target) (expr_view c.in-Some.copy) c.args.op (front_of c.args.sign) some c.if-target-limit.false
          ∙ ap (λ (p : Part Stmt). Some p) (sym c.in_ok-stepped.ensures));
    }
