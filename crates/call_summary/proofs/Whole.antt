-- The scope of all names.
use Rattle.std.proofs.Common.{◌≡◌, ℕ, zero, suc, ◌<◌, Bool, true, false, cond, ◌||◌, ◌&&◌, List, [], ◌∷◌, refl, sym, ◌∙◌, subst, arith, map, slice_index_or}
use Rattle.std.specs.Prelude.{nat_eq, nat_lt}
use Rattle.std.specs.List.{Contains}
use Rattle.std.proofs.lemmas.Bool.{lt-ltb}
use Rattle.conflict_proof.specs.declared.names.ConstraintName.{ConstraintName}
use Rattle.transfer_rules.specs.declared.constraint.Constraint.{Constraint}
use Rattle.transfer_rules.specs.declared.scope.Scope.{Scope}
use Rattle.transfer_rules.specs.Programs.{Parts}
use Rattle.transfer_rules.specs.Rules.{constraints}
use Rattle.transfer_rules.specs.Names.{name_of, in_scope}
use Rattle.verdict_meaning.specs.Systems.{System, root, names_of}
use Rattle.verdict_meaning.specs.Solutions.{all_names, counts}
use Rattle.verdict_meaning.specs.Programs.{system_in, IsWhole}
use Rattle.verdict_meaning.proofs.Conditions.{rules_positive}
use Rattle.call_summary.proofs.Alike.{AreAlike}

less_or_zero : (n : ℕ) (rest : Bool) → (n ≡ 0 → rest ≡ true) → (nat_lt 0 n || (nat_eq 0 n && rest)) ≡ true
less_or_zero zero rest f = f refl
less_or_zero (suc n) rest f = rw (lt-ltb 0 (suc n) (omega arith)) refl

-- each name of a rule is in it
in_whole : (scope : Scope) → IsWhole scope → (n : ConstraintName) → 0 < n.rule → in_scope scope n ≡ true
in_whole scope whole n some =
    rw (whole.keep, whole.without, whole.after)
    (rw (less_or_zero n.proc _ (λ p. less_or_zero n.place _ (λ q. less_or_zero n.edge _ (λ e. less_or_zero n.rule _ (λ z. absurd (omega arith)))))) refl)

-- the constraint of a name
named : (cs : List Constraint) (n : ConstraintName) → Contains (map name_of cs) n → (c : Constraint) × Contains cs c × (c.name ≡ n)
named [] n there = absurd (let lt = there.1 in omega arith)
named (c ∷ cs) n (zero, lt, e) = (c, (0, omega arith, refl), e)
named (c ∷ cs) n (suc k, lt, e) =
    let rest = named cs n (k, omega arith, e) in
    let at = rest.1 in
    (rest.0, (suc at.0, (let small = at.1 in omega arith), at.2), rest.2)

module _ (p : Parts) where
  abbrev s : System
  s = system_in p

  rule_of : (e : ℕ) (n : ConstraintName) → Contains (names_of s e) n → 0 < n.rule
  rule_of e n there = by_root (nat_eq e (root s)) there
    where
      by_root : (b : Bool) → Contains (cond b [] (s.names e)) n → 0 < n.rule
      by_root true there = absurd (let lt = there.1 in omega arith)
      by_root false there =
          let c = named (constraints p.graph p.facts (slice_index_or p.groups e [])) n there in
          subst (λ (m : ConstraintName). 0 < m.rule) c.2 (rules_positive p.graph p.facts (slice_index_or p.groups e []) c.0 c.1)

or_on : (a b : Bool) → b ≡ true → (a || b) ≡ true
or_on true b e = refl
or_on false b e = e

-- all constraints count in the scope of all names
pub whole_alike : (p : Parts) (scope : Scope) → IsWhole scope → AreAlike (system_in p) (in_scope scope) all_names
whole_alike p scope whole e n there =
    or_on (nat_eq n.rule 21) (in_scope scope n) (in_whole scope whole n (rule_of p e n there)) ∙ sym (or_on (nat_eq n.rule 21) true refl)
