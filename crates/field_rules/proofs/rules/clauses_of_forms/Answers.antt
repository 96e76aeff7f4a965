use Rattle.std.proofs.Common.{◌≡◌, ◌++◌, sym, ap, ◌∙◌, rules}
use Rattle.zo_core.specs.Order.{kept_all}
use Rattle.zo_core.specs.Forms.{form_clauses}
use Rattle.field_rules.proofs.ClauseLemmas.{clauses_more}
use Rattle.field_rules.proofs.rules.clauses_of_forms.Goals as goal

pub loop-form-preserved : goal.loop-form-preserved
loop-form-preserved c =
    let l = c.loop-form in
    let more = clauses_more c.args.forms.now l.form-index c.form-item.result (search rules) c.form-item.is in
    let added : c.push_clauses.new.out.items ≡ l.out.items ++ kept_all (form_clauses c.form-item.result) = search rules in
    added ∙ ap (λ cs. cs ++ kept_all (form_clauses c.form-item.result)) l.invariant ∙ sym more
