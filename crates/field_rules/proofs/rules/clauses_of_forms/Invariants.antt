use Rattle.std.proofs.Common.{◌≡◌, take}
use Rattle.zo_core.specs.Order.{kept_all}
use Rattle.field_rules.specs.Meaning.{forms_clauses}
use Rattle.field_rules.proofs.rules.clauses_of_forms.Given as goal

abbrev pub invariant-loop-form : goal.invariant-loop-form
invariant-loop-form l = l.out.items ≡ kept_all (forms_clauses (take l.form-index l.forms))
