-- What the rules on fields say, and their clauses.
use Rattle.std.specs.Prelude.{ℕ, Bool, List, [], ◌∷◌, ◌++◌, map, Option, Some, None}
use Rattle.zo_core.specs.Literals.{Literal}
use Rattle.zo_core.specs.Forms.{form_clauses, FormHolds}
use Rattle.zo_core.specs.declared.forms.Form.{Form}
use Rattle.zo_core.specs.declared.forms.Form.TheVariants.{Zero, Equal, AtMost, NotBoth, Sum, EqualSums}
use Rattle.field_rules.specs.declared.rules.FieldRule.{FieldRule}
use Rattle.field_rules.specs.declared.rules.FieldRule.TheVariants as rule
use Rattle.field_rules.specs.declared.rules.CallClosed.{CallClosed}
use Rattle.field_rules.specs.declared.rules.CallClosed.TheVariants as closed

-- what an argument of the type of an open slot asks: that it owns; never where the called procedure is external
abbrev pub sealed_form : ℕ → Option ℕ → Form
sealed_form w None = Zero w
sealed_form w (Some s) = AtMost w s

abbrev pub closed_forms : CallClosed → List Form
closed_forms (closed.Argument w) = Zero w ∷ []
closed_forms (closed.Slot w r phis sigmas) = AtMost w r ∷ map (AtMost w) phis ++ map (sealed_form w) sigmas

-- the equations and inequalities of a rule, all of which hold where it does
abbrev pub rule_forms : FieldRule → List Form
rule_forms (rule.Load r) = Sum r.rho_q r.omega_p r.omega_q ∷ []
rule_forms (rule.StoreOpen r) = Equal r.omega_p r.phi ∷ []
rule_forms (rule.Store r) = EqualSums r.rho_q r.phi r.rho_p r.omega_q ∷ []
rule_forms (rule.FreeField r) = Equal r.omega_p r.phi ∷ []
rule_forms (rule.CallClosed r) = closed_forms r
rule_forms (rule.Bound r) = AtMost r.omega_p r.phi ∷ []
rule_forms (rule.OneBase r) = NotBoth r.first r.second ∷ []

-- all forms hold
abbrev pub FormsHold : List Form → (ℕ → Bool) → Type 0
FormsHold [] t = Unit {0}
FormsHold (f ∷ fs) t = FormHolds f t × FormsHold fs t

abbrev pub forms_clauses : List Form → List (List Literal)
forms_clauses [] = []
forms_clauses (f ∷ fs) = form_clauses f ++ forms_clauses fs

-- the number of a rule
abbrev pub rule_number : FieldRule → ℕ
rule_number (rule.FreeField r) = 7
rule_number (rule.Load r) = 9
rule_number (rule.StoreOpen r) = 10
rule_number (rule.Store r) = 11
rule_number (rule.CallClosed r) = 14
rule_number (rule.Bound r) = 19
rule_number (rule.OneBase r) = 20
