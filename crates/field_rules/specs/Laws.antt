-- An assignment makes the clauses of several forms true exactly where all of them hold.
use Rattle.std.proofs.Common.{◌≡◌, ℕ, Bool, true, false, ◌&&◌, List, [], ◌∷◌, ◌++◌, refl, sym, ◌∙◌, subst, ◌↔◌}
use Rattle.std.specs.Prelude.{IsTrue}
use Rattle.zo_core.specs.Truth.{all_true}
use Rattle.zo_core.specs.Order.{kept_all}
use Rattle.zo_core.specs.Forms.{form_clauses, FormHolds}
use Rattle.zo_core.specs.Tables.{form_law}
use Rattle.zo_core.specs.Values.{all_true-append, all_true-kept_all}
use Rattle.zo_core.specs.declared.forms.Form.{Form}
use Rattle.field_rules.specs.Meaning.{FormsHold, forms_clauses}

and_both : (x y : Bool) → (IsTrue (x && y) ↔ (IsTrue x × IsTrue y))
and_both true true = ((λ _. (refl, refl)), (λ _. refl))
and_both true false = ((λ h. (refl, h)), (λ h. h.1))
and_both false true = ((λ h. (h, refl)), (λ h. h.0))
and_both false false = ((λ h. (h, h)), (λ h. h.0))

-- with clauses as they are written
raw_law : (f : Form) (t : ℕ → Bool) → (IsTrue (all_true t (form_clauses f)) ↔ FormHolds f t)
raw_law f t = let P : Bool → Type 0 = λ b. IsTrue b ↔ FormHolds f t in subst P (all_true-kept_all t (form_clauses f)) (form_law f t)

raw_forms_law : (fs : List Form) (t : ℕ → Bool) → (IsTrue (all_true t (forms_clauses fs)) ↔ FormsHold fs t)
raw_forms_law [] t = ((λ _. tt), (λ _. refl))
raw_forms_law (f ∷ fs) t =
    let e : all_true t (form_clauses f ++ forms_clauses fs) ≡ (all_true t (form_clauses f) && all_true t (forms_clauses fs)) = all_true-append t (form_clauses f) (forms_clauses fs) in
    let a = and_both (all_true t (form_clauses f)) (all_true t (forms_clauses fs)) in
    let one = raw_law f t in
    let more = raw_forms_law fs t in
    ((λ h. let b = a.0 (sym e ∙ h) in (one.0 b.0, more.0 b.1)), (λ h. e ∙ a.1 (one.1 h.0, more.1 h.1)))

pub forms_law : (fs : List Form) (t : ℕ → Bool) → (IsTrue (all_true t (kept_all (forms_clauses fs))) ↔ FormsHold fs t)
forms_law fs t = let P : Bool → Type 0 = λ b. IsTrue b ↔ FormsHold fs t in subst P (sym (all_true-kept_all t (forms_clauses fs))) (raw_forms_law fs t)
