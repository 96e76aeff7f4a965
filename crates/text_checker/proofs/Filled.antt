-- The clauses of a constraint have literals, so that a false one has an unknown.
use Rattle.std.proofs.Common.{◌≡◌, ℕ, Bool, true, false, cond, List, [], ◌∷◌, ◌++◌, Option, Some, None, refl, map, nat_lt, nat_eq}
use Rattle.std.specs.List.{flat_map}
use Rattle.zo_core.specs.Literals.{Literal, same_sign}
use Rattle.zo_core.specs.Order.{behind, with_literal, with_more, gathered, kept_all}
use Rattle.zo_core.specs.Truth.{all_true}
use Rattle.zo_core.specs.declared.forms.Form.{Form}
use Rattle.zo_core.specs.declared.forms.Form.TheVariants.{Zero, One, Equal, AtMost, NotBoth, Sum, EqualSums}
use Rattle.zo_core.specs.Forms.{form_clauses}
use Rattle.field_rules.specs.Meaning.{forms_clauses}
use Rattle.transfer_rules.specs.declared.constraint.Condition.{Condition}
use Rattle.transfer_rules.specs.Names.{condition_forms, condition_clauses, condition_of_name}
use Rattle.conflict_proof.specs.declared.names.ConstraintName.{ConstraintName}
use Rattle.transfer_rules.specs.Programs.{Parts}
use Rattle.verdict_meaning.specs.Programs.{clauses_found, system_in}
use Rattle.verdict_meaning.specs.Systems.{members}

-- the first of these clauses, if there is one, has a literal
abbrev IsFilled : List (List Literal) → Type 0
IsFilled [] = Unit {0}
IsFilled ([] ∷ cs) = ⊥
IsFilled ((l ∷ c) ∷ cs) = IsFilled cs

abbrev HasLiteral : Option (List Literal) → Type 0
HasLiteral None = Unit {0}
HasLiteral (Some []) = ⊥
HasLiteral (Some (l ∷ c)) = Unit {0}

behind_has : (m : Literal) (o : Option (List Literal)) → HasLiteral (behind m o)
behind_has m None = tt
behind_has m (Some c) = tt

with_has : (l : Literal) (c : List Literal) → HasLiteral (with_literal l c)
with_has l [] = tt
with_has l (m ∷ c) = by_tests (nat_lt l.var m.var) (nat_eq l.var m.var) (same_sign l.sign m.sign)
  where
    by_tests : (x y z : Bool) → HasLiteral (cond x (Some (l ∷ m ∷ c)) (cond y (cond z (Some (m ∷ c)) None) (behind m (with_literal l c))))
    by_tests true y z = tt
    by_tests false true true = tt
    by_tests false true false = tt
    by_tests false false z = behind_has m (with_literal l c)

more_has : (ls : List Literal) (o : Option (List Literal)) → HasLiteral o → HasLiteral (with_more ls o)
more_has [] o has = has
more_has (l ∷ ls) None has = tt
more_has (l ∷ ls) (Some c) has = more_has ls (with_literal l c) (with_has l c)

kept_filled : (o : Option (List Literal)) (cs : List (List Literal)) → HasLiteral o → IsFilled cs → IsFilled (elim o [ None ↦ [] | Some c ↦ c ∷ [] ] ++ cs)
kept_filled None cs has more = more
kept_filled (Some []) cs has more = has
kept_filled (Some (l ∷ c)) cs has more = more

all_filled : (cs : List (List Literal)) → IsFilled cs → IsFilled (kept_all cs)
all_filled [] f = tt
all_filled ([] ∷ cs) f = absurd f
all_filled ((l ∷ c) ∷ cs) f = kept_filled (gathered (l ∷ c)) (kept_all cs) (more_has c (with_literal l []) (with_has l [])) (all_filled cs f)

both_filled : (cs ds : List (List Literal)) → IsFilled cs → IsFilled ds → IsFilled (cs ++ ds)
both_filled [] ds f g = g
both_filled ([] ∷ cs) ds f g = absurd f
both_filled ((l ∷ c) ∷ cs) ds f g = both_filled cs ds f g

form_filled : (f : Form) → IsFilled (form_clauses f)
form_filled (Zero u) = tt
form_filled (One u) = tt
form_filled (Equal u v) = tt
form_filled (AtMost u v) = tt
form_filled (NotBoth u v) = tt
form_filled (Sum u v w) = tt
form_filled (EqualSums a b c d) = tt

forms_filled : (fs : List Form) → IsFilled (forms_clauses fs)
forms_filled [] = tt
forms_filled (f ∷ fs) = both_filled (form_clauses f) (forms_clauses fs) (form_filled f) (forms_filled fs)

found_filled : (o : Option Condition) → IsFilled (clauses_found (elim o [ None ↦ None | Some c ↦ Some (condition_clauses c) ]))
found_filled None = tt
found_filled (Some c) = all_filled (forms_clauses (condition_forms c)) (forms_filled (condition_forms c))

-- an unknown stands in clauses that are not all true
pub some_unknown : (t : ℕ → Bool) (cs : List (List Literal)) → IsFilled cs → all_true t cs ≡ false
    → (u : ℕ) × (us : List ℕ) × (flat_map (map (λ (l : Literal). l.var)) cs ≡ u ∷ us)
some_unknown t [] f e = absurd (let h : ⊥ = cc in h)
some_unknown t ([] ∷ cs) f e = absurd f
some_unknown t ((l ∷ c) ∷ cs) f e = (l.var, map (λ (m : Literal). m.var) c ++ flat_map (map (λ (m : Literal). m.var)) cs, refl)

-- the clauses of a name have literals
pub clauses_filled : (p : Parts) (g : ℕ) (name : ConstraintName) → IsFilled ((system_in p).clauses g name)
clauses_filled p g name = found_filled (condition_of_name p.graph p.facts (members (system_in p) g) name)
