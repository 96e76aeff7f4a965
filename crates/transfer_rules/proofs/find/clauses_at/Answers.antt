use Rattle.std.proofs.Common.{◌≡◌, List, Option, Some, None, sym, ap, ◌∙◌, subst, rules}
use Rattle.std.specs.Prelude.{IfOk, MatchOption, option_map}
use Rattle.zo_core.specs.Literals.{Literal}
use Rattle.transfer_rules.specs.declared.constraint.Constraint.{Constraint}
use Rattle.transfer_rules.specs.Names.{condition_clauses, condition_in}
use Rattle.transfer_rules.specs.Single.{named_at}
use Rattle.transfer_rules.proofs.Alone.{alone}
use Rattle.transfer_rules.proofs.find.clauses_at.Goals as goal

pub returns : goal.returns
returns g c =
    let v = g.S.View.sight c.args.scene.now in
    let s = g.S.Scene.setting c.args.scene.now in
    let n = c.args.name.now in
    let listed : c.deref.result.now ≡ named_at v s n = search rules in
    let same = ap (option_map condition_clauses) (ap (λ (cs : List Constraint). condition_in cs n) listed ∙ sym (alone n v s)) in
    let P : Option (List (List Literal)) → Type 0 = λ x. IfOk c.clauses_among.result (λ o. MatchOption o (x ≡ None) (λ cs. x ≡ Some cs.items)) in
    subst P same c.clauses_among.ensures
