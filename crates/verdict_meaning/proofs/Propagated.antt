-- What propagation alone gives is true under every assignment that its group admits.
use Rattle.std.proofs.Common.{◌≡◌, ◌≢◌, ℕ, suc, ◌≤◌, Bool, true, false, not, cond, ◌||◌, List, [], ◌∷◌, Some, refl, sym, ◌∙◌, subst, arith, ⊎_elim}
use Rattle.std.specs.List.{Contains}
use Rattle.std.proofs.lemmas.Bool.{cases_eq, or_cases}
use Rattle.zo_core.specs.Literals.{Literal, yes, no, opposite}
use Rattle.zo_core.specs.Truth.{holds, clause_true}
use Rattle.conflict_proof.specs.declared.names.ConstraintName.{ConstraintName}
use Rattle.verdict_meaning.specs.Systems.{System, root, first, callee, phi_numbers, pi_numbers, sigma_numbers}
use Rattle.verdict_meaning.specs.Solutions.{phi_by, pi_by, sigma_by, IsSolvable, by_assignment, IsSatisfiableOnly, IsAdmitted}
use Rattle.verdict_meaning.specs.Derivations.{Carried, paired, at_site, carried_number}
use Rattle.verdict_meaning.specs.Closures.{Closed, given, forced, carried}
use Rattle.verdict_meaning.specs.Plain.{PlainIn, plain}
use Rattle.verdict_meaning.specs.Laws.{PlainIsSatisfiable, UnitRefutedIsUnsatisfiable}
use Rattle.verdict_meaning.proofs.Bits.{length-by, length-numbers}
use Rattle.verdict_meaning.proofs.Follow.{Agreeing, agreeing-paired, agreeing-append, number_agrees, contained_true, Solves, solved, or_false}
use Rattle.verdict_meaning.proofs.Refuting.{root_admits}

-- some literal of a true clause holds
record Found (a : ℕ → Bool) (c : List Literal) : Type 0 where
  literal : Literal
  there : Contains c literal
  holding : holds a literal ≡ true

found : (a : ℕ → Bool) (c : List Literal) → clause_true a c ≡ true → Found a c
found a [] e = cc
found a (l ∷ c) e =
    ⊎_elim (λ (h : holds a l ≡ true). record { literal = l; there = (0, omega arith, refl); holding = h })
    (λ (h : clause_true a c ≡ true). let rest = found a c h in let at = rest.there in record { literal = rest.literal; there = (suc at.0, (let lt = at.1 in omega arith), at.2); holding = rest.holding })
    (or_cases (holds a l) (clause_true a c) e)

-- a literal and its opposite do not both hold
not_both : (a : ℕ → Bool) (m : Literal) → holds a m ≡ true → holds a (opposite m) ≡ true → ⊥
not_both a m = by_value m.sign (a m.var)
  where
    by_value : (s v : Bool) → cond s v (not v) ≡ true → cond (not s) v (not v) ≡ true → ⊥
    by_value true true e f = cc
    by_value true false e f = cc
    by_value false true e f = cc
    by_value false false e f = cc

-- the literal of a true clause that is left where the opposites of the others hold
left_true : (a : ℕ → Bool) (c : List Literal) (l : Literal) → clause_true a c ≡ true → ((m : Literal) → Contains c m → m ≢ l → holds a (opposite m) ≡ true) → holds a l ≡ true
left_true a c l e others = by_test (holds a l) refl
  where
    by_test : (b : Bool) → holds a l ≡ b → holds a l ≡ true
    by_test true h = h
    by_test false h =
        let m = found a c e in
        absurd (not_both a m.literal m.holding (others m.literal m.there (λ is. let k : holds a l ≡ true = subst (λ (x : Literal). holds a x ≡ true) is m.holding in cc)))

-- what stands for a true literal is true
stands_true : (b a : ℕ → Bool) (ps : List Carried) (l m : Literal) → Agreeing b a ps → carried_number ps m.var ≡ Some l.var → l.sign ≡ m.sign → holds b m ≡ true → holds a l ≡ true
stands_true b a ps l m agree number sign h =
    let same : b m.var ≡ a l.var = number_agrees b a ps m.var l.var agree number in
    rw (sign, ← same) h

module _ (s : System) (U : ConstraintName → Bool) where
  site_agrees : (g site : ℕ) (b a : ℕ → Bool) → phi_by s b ≡ phi_by s a → pi_by s (callee s g site).group b (callee s g site).proc ≡ sigma_by s g a site → Agreeing b a (at_site s g site)
  site_agrees g site b a fields face =
      agreeing-append b a (paired (phi_numbers s) (phi_numbers s)) (paired (pi_numbers s (callee s g site).group (callee s g site).proc) (sigma_numbers s g site))
      (agreeing-paired b a (phi_numbers s) (phi_numbers s) fields)
      (agreeing-paired b a (pi_numbers s (callee s g site).group (callee s g site).proc) (sigma_numbers s g site) face)

  closed_true : (g : ℕ) (from : List Literal) (l : Literal) → Closed s U g from l → (a : ℕ → Bool) → IsAdmitted s U g a → ((m : Literal) → Contains from m → holds a m ≡ true) → holds a l ≡ true
  closed_true g from l (given there) a adm says = says l there
  closed_true g from l (forced name c there counting clause has others) a adm says =
      left_true a c l (contained_true a (s.clauses g name) c clause (adm.local name there counting))
      (λ m within ne. closed_true g from (opposite m) (others m within ne) a adm says)
  closed_true g from l (carried site m within stands lower) a adm says =
      let below : Solves s (phi_by s a) (callee s g site).group (callee s g site).proc (sigma_by s g a site) (m ∷ []) =
      solved s U (phi_by s a) (callee s g site).group (callee s g site).proc (sigma_by s g a site) (m ∷ []) (adm.sites site within)
      (λ b under. or_false (holds b m) (closed_true (callee s g site).group [] m lower b under (λ n none. absurd (let lt = none.1 in omega arith)))) in
      stands_true below.by a (at_site s g site) l m (site_agrees g site below.by a below.phi_is below.pi_is) stands.unknown stands.sign (alone below.by below.true_there)
    where
      alone : (b : ℕ → Bool) → (holds b m || false) ≡ true → holds b m ≡ true
      alone b e = ⊎_elim (λ (h : holds b m ≡ true). h) (λ (h : false ≡ true). cc) (or_cases (holds b m) false e)

  -- some assignment of a group is admitted
  record Admits (g : ℕ) : Type 0 where
    by : ℕ → Bool
    admitted : IsAdmitted s U g by

  admits : (phi : List Bool) (g h : ℕ) (v : List Bool) → IsSolvable s U phi g h v → Admits g
  admits phi g h v (by_assignment a fields face local sites) = record {
    by = a;
    admitted = record {
      local = local;
      sites = λ site lt. subst (λ f. IsSolvable s U f (callee s g site).group (callee s g site).proc (sigma_by s g a site)) (sym fields) (sites site lt);
    };
  }

  all_admit : IsSatisfiableOnly s U → (g : ℕ) → g ≤ root s → Admits g
  all_admit sat g le =
      ⊎_elim (λ (e : g ≡ root s). let r = root_admits s U sat in record { by = r.by; admitted = subst (λ k. IsAdmitted s U k r.by) (sym e) r.admitted })
      (λ (ne : g ≡ root s → ⊥). let one = sat.each g (omega arith) in admits sat.phi g (first s g) one.0 one.1)
      (cases_eq g (root s))

  plain_solves : (phi : List Bool) (g h : ℕ) (v : List Bool) → PlainIn s U phi g h v → IsSolvable s U phi g h v
  plain_solves phi g h v (plain a least fields face local sites) =
      by_assignment a fields face local (λ site lt. plain_solves phi (callee s g site).group (callee s g site).proc (sigma_by s g a site) (sites site lt))

pub unit_refuted_is_unsatisfiable : UnitRefutedIsUnsatisfiable
unit_refuted_is_unsatisfiable s U ref sat =
    let a = all_admit s U sat ref.group ref.there in
    not_both a.by (yes ref.unknown)
    (closed_true s U ref.group [] (yes ref.unknown) ref.positive a.by a.admitted (nothing a.by))
    (closed_true s U ref.group [] (no ref.unknown) ref.negative a.by a.admitted (nothing a.by))
  where
    nothing : (b : ℕ → Bool) (m : Literal) → Contains {X = Literal} [] m → holds b m ≡ true
    nothing b m none = absurd (let lt = none.1 in omega arith)

pub plain_is_satisfiable : PlainIsSatisfiable
plain_is_satisfiable s U is = record {
  phi = phi_by s is.values;
  shape = length-by is.values (phi_numbers s) ∙ length-numbers 1 s.fields;
  each = λ g lt. (sigma_by s (root s) is.values g, plain_solves s U (phi_by s is.values) g (first s g) (sigma_by s (root s) is.values g) (is.each g lt));
}
