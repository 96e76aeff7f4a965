-- Least assignments: there is one, and what it says.
use Rattle.std.proofs.Common.{◌≡◌, ℕ, zero, suc, ◌+◌, ◌<◌, ◌≤◌, Bool, true, false, not, ◌||◌, ◌&&◌, cond, List, [], ◌∷◌, refl, sym, ap, ◌∙◌, arith, length, get_or, map}
use Rattle.std.specs.Prelude.{◌↔◌}
use Rattle.std.specs.List.{range_with_len, Contains, All}
use Rattle.std.specs.Cmp.{both_ways}
use Rattle.std.proofs.lemmas.List.Elements.{All-head, All-tail, All-contains}
use Rattle.zo_core.specs.Literals.{Literal, yes}
use Rattle.zo_core.specs.Truth.{holds, clause_true, all_true}
use Rattle.conflict_proof.specs.declared.names.ConstraintName.{ConstraintName}
use Rattle.transfer_rules.specs.Names.{NamedClause, named_clause}
use Rattle.verdict_meaning.specs.Systems.{System, callee, callees, callee_parts, count}
use Rattle.verdict_meaning.specs.Solutions.{IsLocal, phi_by, pi_by, sigma_by}
use Rattle.verdict_meaning.specs.Certificates.{bit_at}
use Rattle.verdict_meaning.specs.Plain.{IsLeast}
use Rattle.unit_answers.specs.Sets.{IsSetOf}
use Rattle.unit_answers.specs.Tables.{IsTableOf}
use Rattle.call_search.specs.Shapes.{IsThere}
use Rattle.call_search.proofs.Faces.{own_within, site_within}
use Rattle.plain_answers.specs.Stages.{IsOfGroup, AreOfGroup, AreTrue}
use Rattle.plain_answers.proofs.Lists.{contains_at, at_contains}

-- two assignments are one on a group's unknowns
abbrev pub AreSame : System → ℕ → (ℕ → Bool) → (ℕ → Bool) → Type 0
AreSame s g a b = (v : ℕ) → 0 < v → v ≤ count s g → a v ≡ b v

same_range : (a b : ℕ → Bool) (n k : ℕ) → ((v : ℕ) → n ≤ v → v < n + k → a v ≡ b v) → map a (range_with_len n k) ≡ map b (range_with_len n k)
same_range a b n zero h = refl
same_range a b n (suc k) h =
    ap (λ x. x ∷ map a (range_with_len (n + 1) k)) (h n (omega arith) (omega arith))
    ∙ ap (λ l. b n ∷ l) (same_range a b (n + 1) k (λ v le lt. h v (omega arith) (omega arith)))

module _ (s : System) (g : ℕ) (a b : ℕ → Bool) (same : AreSame s g a b) where
  pub phi_same : phi_by s a ≡ phi_by s b
  phi_same = same_range a b 1 s.fields (λ v le lt. same v (omega arith) (within v lt))
    where
      within : (v : ℕ) → v < 1 + s.fields → v ≤ count s g
      within v lt = omega arith

  pub pi_same : (k : ℕ) → IsThere s (record { proc = k; group = g }) → pi_by s g a k ≡ pi_by s g b k
  pi_same k there =
      let w = own_within s (record { proc = k; group = g }) there in
      same_range a b _ (s.parts k) (λ v le lt. same v (omega arith) (omega arith))

  pub sigma_same : (site : ℕ) → site < length (callees s g) → sigma_by s g a site ≡ sigma_by s g b site
  sigma_same site lt =
      let w = site_within s g site lt in
      same_range a b _ (callee_parts s (callee s g site)) (λ v le less. same v (omega arith) (omega arith))

module _ (s : System) (U : ConstraintName → Bool) (g : ℕ) where
  pub one_least : (from : List Literal) (a b : ℕ → Bool) → IsLeast s U g from a → IsLeast s U g from b → AreSame s g a b
  one_least from a b p q v some most = both_ways (a v) (b v) (λ e. (q v some most).1 ((p v some most).0 e)) (λ e. (p v some most).1 ((q v some most).0 e))

  pub least_by : (from lits : List Literal) (bits : List Bool) (n : ℕ) → n ≡ count s g → IsSetOf s U g from lits
      → ((v : ℕ) → 0 < v → v ≤ n → (bit_at bits v ≡ true) ↔ Contains lits (yes v)) → IsLeast s U g from (bit_at bits)
  least_by from lits bits n ne set each v some most =
      let e = each v some (omega arith) in
      let x = set.exact (yes v) in
      ((λ h. x.0 (e.0 h)), (λ h. e.1 (x.1 h)))

-- clauses and assignments that are one on their unknowns

clause_same : (a b : ℕ → Bool) (n : ℕ) (c : List Literal) → AreOfGroup n c → ((v : ℕ) → 0 < v → v ≤ n → a v ≡ b v) → clause_true a c ≡ clause_true b c
clause_same a b n [] w h = refl
clause_same a b n (l ∷ c) w h =
    let P : Literal → Type 0 = λ m. (0 < m.var) × (m.var ≤ n) in
    let first : (0 < l.var) × (l.var ≤ n) = All-head P l c w in
    ap (λ x. cond l.sign x (not x) || clause_true a c) (h l.var first.0 first.1) ∙ ap (λ x. holds b l || x) (clause_same a b n c (All-tail P l c w) h)

and_first : (x y : Bool) → (x && y) ≡ true → x ≡ true
and_first true y e = refl
and_first false y e = cc

and_second : (x y : Bool) → (x && y) ≡ true → y ≡ true
and_second true y e = e
and_second false y e = cc

one_true : (a : ℕ → Bool) (cs : List (List Literal)) (c : List Literal) (k : ℕ) → k < length cs → get_or cs k c ≡ c → all_true a cs ≡ true → clause_true a c ≡ true
one_true a [] c k lt e h = absurd (omega arith)
one_true a (d ∷ cs) c zero lt e h = ap (clause_true a) (sym e) ∙ and_first (clause_true a d) (all_true a cs) h
one_true a (d ∷ cs) c (suc k) lt e h = one_true a cs c k (omega arith) e (and_second (clause_true a d) (all_true a cs) h)

contained_true : (a : ℕ → Bool) (cs : List (List Literal)) (c : List Literal) → Contains cs c → all_true a cs ≡ true → clause_true a c ≡ true
contained_true a cs c there h = one_true a cs c there.0 there.1 there.2 h

both : (x y : Bool) → x ≡ true → y ≡ true → (x && y) ≡ true
both true y p q = q
both false y p q = cc

all_by : (a : ℕ → Bool) (cs : List (List Literal)) → ((c : List Literal) → Contains cs c → clause_true a c ≡ true) → all_true a cs ≡ true
all_by a [] h = refl
all_by a (c ∷ cs) h = both (clause_true a c) (all_true a cs) (h c (0, (omega arith), refl)) (all_by a cs (λ d k. h d (suc k.0, (let lt = k.1 in omega arith), k.2)))

module _ (s : System) (U : ConstraintName → Bool) (g : ℕ) (rows : List NamedClause) (table : IsTableOf s U g rows) where
  pub local_rows : (a : ℕ → Bool) → IsLocal s U g a → AreTrue a rows
  local_rows a local k row at = let x = table.each k row at in contained_true a (s.clauses g row.name) row.lits x.clause (local row.name x.there x.counting)

  pub rows_local : (a : ℕ → Bool) → AreTrue a rows → IsLocal s U g a
  rows_local a true_all name there counting = all_by a (s.clauses g name) each
    where
      each : (c : List Literal) → Contains (s.clauses g name) c → clause_true a c ≡ true
      each c h =
          let at = at_contains rows (named_clause name c) (table.whole name c (record { there = there; counting = counting; clause = h })) in
          true_all at.0 (named_clause name c) at.1

pub rows_same : (s : System) (g : ℕ) (a b : ℕ → Bool) (rows : List NamedClause) → AreSame s g a b → All (IsOfGroup (count s g)) rows → AreTrue a rows → AreTrue b rows
rows_same s g a b rows same within h k row at =
    sym (clause_same a b (count s g) row.lits (All-contains (IsOfGroup (count s g)) rows row within (contains_at rows k row at)) same) ∙ h k row at
