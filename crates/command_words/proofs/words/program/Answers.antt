use Rattle.std.proofs.Common.{◌≡◌, ◌∙◌, ap, ap₂, refl, rules, codes, true, Some}
use Rattle.std.proofs.lemmas.Result.{IfOk-weaker}
use Rattle.clap.specs.Words.{Rule, app_of, rule_of, new_rule, new_app, with_rule, AddsArg}
use Rattle.clap.specs.Simple.{Shape, on_top}
use Rattle.clap.specs.declared.builder.action.ArgAction.TheVariants.{Append}
use Rattle.command_words.specs.Program.{program, budget_rule}
use Rattle.command_words.proofs.words.program.Goals as goal

pub returns : goal.returns
returns c =
    let mode_is : rule_of c.new-3.result ≡ new_rule (codes "mode") = search rules in
    let arg_is : rule_of c.new-4.result ≡ new_rule (codes "arg") = search rules in
    let arg2_is : rule_of c.new-5.result ≡ new_rule (codes "arg2") = search rules in
    let new_is : rule_of c.new.result ≡ new_rule (codes "budget") = search rules in
    let budget_is : rule_of c.action-budget.result ≡ budget_rule
    = rw (c.action-budget.ensures, c.long.ensures) (ap (λ (r : Rule). record r { long = Some (codes "budget"); action = Some Append }) new_is) in
    let set : Shape → Shape = λ s. record s { no_binary_name = true; disable_help_flag = true } in
    let settings : app_of c.disable_help_flag.result ≡ on_top set (app_of c.new-2.result)
    = rw (c.disable_help_flag.ensures, c.no_binary_name.ensures) refl in
    let start : app_of c.disable_help_flag.result ≡ on_top set (new_app (codes "clouseau")) = settings ∙ ap (on_top set) c.new-2.ensures.app in
    let one = c.in_ok-arg.ensures.shape (search rules) ∙ ap₂ with_rule start mode_is in
    let two = c.in_ok-arg-2.ensures.shape (search rules) ∙ ap₂ with_rule one arg_is in
    let three = c.in_ok-arg-3.ensures.shape (search rules) ∙ ap₂ with_rule two arg2_is in
    IfOk-weaker c.arg-4.result (AddsArg c.in_ok-arg-3.field-0 c.action-budget.result) (λ r. app_of r ≡ program)
    (λ r h. h.shape (search rules) ∙ ap₂ with_rule three budget_is) c.arg-4.ensures
