-- The clauses of a program's groups are in order and have at most three literals.
use Rattle.std.proofs.Common.{◌≡◌, ◌≢◌, ℕ, zero, suc, ◌+◌, ◌<◌, ◌≤◌, ◌⊎◌, inl, inr, ⊎_elim, Bool, true, false, cond, List, [], ◌∷◌, ◌++◌, length, Option, Some, None, slice_get, option_map, refl, sym, ap, subst, ◌∙◌, arith}
use Rattle.std.specs.Prelude.{nat_eq, nat_lt}
use Rattle.std.proofs.lemmas.Bool.{cases_eq, cases_lt, cases_Bool, ltb-true, ltb-false, eqb-false, ne_eqb}
use Rattle.std.proofs.lemmas.List.Elements.{Contains-append_cases}
use Rattle.std.specs.List.{Contains}
use Rattle.zo_core.specs.Literals.{Literal, yes, no, same_sign}
use Rattle.zo_core.specs.Order.{Ascends, behind, with_literal, with_more, gathered, kept, kept_all}
use Rattle.zo_core.specs.declared.forms.Form.{Form}
use Rattle.zo_core.specs.declared.forms.Form.TheVariants.{Zero, One, Equal, AtMost, NotBoth, Sum, EqualSums}
use Rattle.zo_core.specs.Forms.{form_clauses}
use Rattle.field_rules.specs.Meaning.{forms_clauses}
use Rattle.flow_graph.specs.FlowGraph.{FlowGraph}
use Rattle.path_facts.specs.Tables.{FactTables}
use Rattle.conflict_proof.specs.declared.names.ConstraintName.{ConstraintName}
use Rattle.transfer_rules.specs.declared.constraint.Condition.{Condition}
use Rattle.transfer_rules.specs.declared.scope.Scope.{Scope}
use Rattle.transfer_rules.specs.Programs.{Parts, group_at}
use Rattle.transfer_rules.specs.Names.{NamedClause, condition_forms, condition_clauses, condition_of_name, clauses_of_name, in_scope, group_clauses}
use Rattle.verdict_meaning.specs.Systems.{System, root, count}
use Rattle.verdict_meaning.specs.Derivations.{IsAxiomLine}
use Rattle.verdict_meaning.specs.Programs.{system_of, clauses_found, NamesAreApart, system_in}
use Rattle.unit_answers.specs.Sets.{UnitSet, set_at, found, AreClosures, AreWithin}
use Rattle.unit_answers.specs.Reasons.{AreReasoned}
use Rattle.unit_answers.specs.Tables.{clauses_of_group, table_in, IsTableOf}
use Rattle.unit_answers.specs.declared.clash.Contradiction.{Contradiction}
use Rattle.unit_answers.specs.Contradictions.{IsFirstContradiction}
use Rattle.unit_answers.proofs.Rows.{tables_are}
use Rattle.unit_refutation.specs.Room.{found_in}
use Rattle.unit_refutation.specs.Collecting.{AreTables, AreOfUnknowns, IsAsked}

-- Clauses that are gathered

-- the clause ascends after its first literal
abbrev Rises : List Literal → Type 0
Rises [] = Unit {0}
Rises (l ∷ c) = Ascends l.var c

-- the clause, where there is one, rises and has so many literals at most
abbrev IsMade : ℕ → Option (List Literal) → Type 0
IsMade most None = Unit {0}
IsMade most (Some c) = Rises c × (length c ≤ most)

abbrev AscendsOf : ℕ → Option (List Literal) → Type 0
AscendsOf n None = Unit {0}
AscendsOf n (Some c) = Ascends n c

-- where a literal goes in a clause
by_place : (l m : Literal) (c : List Literal) (P : Option (List Literal) → Type 0) → (l.var < m.var → P (Some (l ∷ m ∷ c))) → P (Some (m ∷ c)) → P None
    → (m.var < l.var → P (behind m (with_literal l c))) → P (with_literal l (m ∷ c))
by_place l m c P first same none later = go (nat_lt l.var m.var) (nat_eq l.var m.var) (same_sign l.sign m.sign) refl refl
  where
    go : (a b s : Bool) → nat_lt l.var m.var ≡ a → nat_eq l.var m.var ≡ b → P (cond a (Some (l ∷ m ∷ c)) (cond b (cond s (Some (m ∷ c)) None) (behind m (with_literal l c))))
    go true b s p q = first (ltb-true l.var m.var p)
    go false true true p q = same
    go false true false p q = none
    go false false s p q = let ge = ltb-false l.var m.var p in let ne = eqb-false l.var m.var q in later (omega (arith, ge, ne))

ascends_behind : (n : ℕ) (m : Literal) (o : Option (List Literal)) → n < m.var → AscendsOf m.var o → AscendsOf n (behind m o)
ascends_behind n m None lt h = tt
ascends_behind n m (Some c) lt h = (lt, h)

with_ascends : (n : ℕ) (l : Literal) (c : List Literal) → n < l.var → Ascends n c → AscendsOf n (with_literal l c)
with_ascends n l [] lt h = (lt, tt)
with_ascends n l (m ∷ c) lt h =
    by_place l m c (AscendsOf n) (λ first. (lt, (first, h.1))) h tt (λ later. ascends_behind n m (with_literal l c) h.0 (with_ascends m.var l c later h.1))

-- how long it is
abbrev IsFew : ℕ → Option (List Literal) → Type 0
IsFew most None = Unit {0}
IsFew most (Some c) = length c ≤ most

few_behind : (most : ℕ) (m : Literal) (o : Option (List Literal)) → IsFew most o → IsFew (suc most) (behind m o)
few_behind most m None h = tt
few_behind most m (Some c) h = omega (arith, h)

with_few : (l : Literal) (c : List Literal) → IsFew (suc (length c)) (with_literal l c)
with_few l [] = omega arith
with_few l (m ∷ c) = by_place l m c (IsFew (suc (suc (length c)))) (λ first. omega arith) (omega arith) tt (λ later. few_behind (suc (length c)) m (with_literal l c) (with_few l c))

made_of : (most : ℕ) (m : Literal) (o : Option (List Literal)) → AscendsOf m.var o → IsFew most (behind m o) → IsMade most (behind m o)
made_of most m None h f = tt
made_of most m (Some c) h f = (h, f)

with_made : (l : Literal) (c : List Literal) (most : ℕ) → Rises c → length c ≤ most → IsMade (suc most) (with_literal l c)
with_made l [] most h few = (tt, omega (arith, few))
with_made l (m ∷ c) most h few =
    by_place l m c (IsMade (suc most)) (λ first. ((first, h), omega (arith, few))) (h, omega (arith, few)) tt
    (λ later. made_of (suc most) m (with_literal l c) (with_ascends m.var l c later h) (more (with_literal l c) (with_few l c)))
  where
    more : (o : Option (List Literal)) → IsFew (suc (length c)) o → IsFew (suc most) (behind m o)
    more None f = tt
    more (Some d) f = omega (arith, f, few)

more_made : (ls : List Literal) (o : Option (List Literal)) (most : ℕ) → IsMade most o → IsMade (length ls + most) (with_more ls o)
more_made [] None most h = tt
more_made [] (Some c) most h = (h.0, (let few = h.1 in omega (arith, few)))
more_made (l ∷ ls) None most h = tt
more_made (l ∷ ls) (Some c) most h =
    let sum : length ls + suc most ≡ suc (length ls) + most = omega arith in
    subst (λ (n : ℕ). IsMade n (with_more ls (with_literal l c))) sum (more_made ls (with_literal l c) (suc most) (with_made l c most h.0 h.1))

-- it ascends from below its literals, and has three literals at most
pub record IsOrderly (c : List Literal) : Type 0 where
  pub order : ((m : Literal) → Contains c m → 0 < m.var) → Ascends 0 c
  pub few : length c ≤ 3

orderly : (c : List Literal) → Rises c → length c ≤ 3 → IsOrderly c
orderly [] h few = record { order = λ some. tt; few = few }
orderly (l ∷ c) h few = record { order = λ some. (some l (0, omega arith, refl), h); few = few }

gathered_orderly : (raw c : List Literal) → length raw ≤ 3 → gathered raw ≡ Some c → IsOrderly c
gathered_orderly raw c few e =
    let made : IsMade (length raw + 0) (gathered raw) = more_made raw (Some []) 0 (tt, omega arith) in
    let is : IsMade (length raw + 0) (Some c) = subst (IsMade (length raw + 0)) e made in
    orderly c is.0 (let size = is.1 in omega (arith, size, few))

abbrev AreShort : List (List Literal) → Type 0
AreShort [] = Unit {0}
AreShort (c ∷ cs) = (length c ≤ 3) × AreShort cs

short_append : (cs ds : List (List Literal)) → AreShort cs → AreShort ds → AreShort (cs ++ ds)
short_append [] ds h k = k
short_append (c ∷ cs) ds h k = (h.0, short_append cs ds h.1 k)

form_short : (f : Form) → AreShort (form_clauses f)
form_short (Zero u) = (omega arith, tt)
form_short (One u) = (omega arith, tt)
form_short (Equal u v) = (omega arith, (omega arith, tt))
form_short (AtMost u v) = (omega arith, tt)
form_short (NotBoth u v) = (omega arith, tt)
form_short (Sum u v w) = (omega arith, (omega arith, (omega arith, (omega arith, tt))))
form_short (EqualSums a b c d) = (omega arith, (omega arith, (omega arith, (omega arith, (omega arith, (omega arith, (omega arith, (omega arith, tt))))))))

forms_short : (fs : List Form) → AreShort (forms_clauses fs)
forms_short [] = tt
forms_short (f ∷ fs) = short_append (form_clauses f) (forms_clauses fs) (form_short f) (forms_short fs)

kept_orderly : (raw c : List Literal) → length raw ≤ 3 → Contains (kept raw) c → IsOrderly c
kept_orderly raw c few has = go (gathered raw) refl has
  where
    go : (o : Option (List Literal)) → gathered raw ≡ o → Contains (elim o as (λ x. List (List Literal)) [ None ↦ [] | Some d ↦ d ∷ [] ]) c → IsOrderly c
    go None e h = absurd (let lt = h.1 in omega (arith, lt))
    go (Some d) e (zero, lt, is) = gathered_orderly raw c few (e ∙ ap Some is)
    go (Some d) e (suc k, lt, is) = absurd (omega arith)

all_orderly : (cs : List (List Literal)) (c : List Literal) → AreShort cs → Contains (kept_all cs) c → IsOrderly c
all_orderly [] c h has = absurd (let lt = has.1 in omega (arith, lt))
all_orderly (raw ∷ cs) c h has =
    ⊎_elim (λ (a : Contains (kept raw) c). kept_orderly raw c h.0 a) (λ (b : Contains (kept_all cs) c). all_orderly cs c h.1 b) (Contains-append_cases (kept raw) (kept_all cs) c has)

found_orderly : (o : Option Condition) (c : List Literal) → Contains (clauses_found (option_map condition_clauses o)) c → IsOrderly c
found_orderly None c h = absurd (let lt = h.1 in omega (arith, lt))
found_orderly (Some k) c h = all_orderly (forms_clauses (condition_forms k)) c (forms_short (condition_forms k)) h

-- The tables of a program

module _ (g : FlowGraph) (facts : FactTables) (groups : List (List ℕ)) (scope : Scope) (apart : (ms : List ℕ) → NamesAreApart g facts ms) where
  row_orderly : (e k : ℕ) (row : NamedClause) → e ≤ length groups → slice_get (clauses_of_group g facts groups scope e) k ≡ Some row → IsOrderly row.lits
  row_orderly e k row le at =
      found_orderly (condition_of_name g facts (group_at groups e) row.name) row.lits ((tables_are g facts groups scope apart e le).each k row at).clause

  pub are_tables : AreTables (system_of g facts groups) (in_scope scope) (clauses_of_group g facts groups scope)
  are_tables = record {
    clause = λ e k row le at. (tables_are g facts groups scope apart e le).each k row at;
    order = λ e k row le at some. (row_orderly e k row le at).order some;
    few = λ e k row le at. (row_orderly e k row le at).few;
  }

-- the clauses of a group that is not the root
pub group_rows : (g : FlowGraph) (facts : FactTables) (groups : List (List ℕ)) (scope : Scope) (e : ℕ) → e ≢ length groups
    → group_clauses g facts (group_at groups e) scope ≡ clauses_of_group g facts groups scope e
group_rows g facts groups scope e ne = sym (pick (nat_eq e (length groups)) (ne_eqb e (length groups) ne))
  where
    pick : (b : Bool) → b ≡ false → cond b [] (group_clauses g facts (group_at groups e) scope) ≡ group_clauses g facts (group_at groups e) scope
    pick true is = cc
    pick false is = refl

-- what is asked of sets with reasons and a contradiction
pub is_asked : (s : System) (U : ConstraintName → Bool) (rows : ℕ → List NamedClause) (sets : List UnitSet) (c : Contradiction) → AreTables s U rows → AreClosures s U sets → AreWithin s sets → AreReasoned s rows sets
    → IsFirstContradiction sets c → IsAsked s U rows sets c
is_asked s U rows sets c tables all within reasoned clash = record {
  count = let n = all.count in omega (arith, n);
  tables = tables;
  reasoned = reasoned;
  unknowns = λ g l le has. let own = (reasoned.same g le l).1 has in (within.some g l le own, within.most g l le own);
  contradiction = clash;
}
