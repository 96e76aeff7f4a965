-- Sets to which nothing is to be added are the least sets.
use Rattle.std.proofs.Common.{◌≡◌, ℕ, zero, suc, ◌<◌, Bool, List, [], ◌∷◌, ◌++◌, length, map, take, Some, slice_get, refl, subst, arith}
use Rattle.std.specs.Prelude.{◌↔◌}
use Rattle.std.proofs.lemmas.List.{get_or_push, get_or_append_left}
use Rattle.std.specs.List.{Contains}
use Rattle.zo_core.specs.Literals.{Literal, opposite}
use Rattle.conflict_proof.specs.declared.names.ConstraintName.{ConstraintName}
use Rattle.transfer_rules.specs.Names.{NamedClause, named_clause}
use Rattle.verdict_meaning.specs.Systems.{System, callee, callees}
use Rattle.verdict_meaning.specs.Closures.{Closed, given, forced, carried}
use Rattle.unit_answers.specs.declared.findings.Reason.{Reason}
use Rattle.unit_answers.specs.declared.findings.Reason.TheVariants as why
use Rattle.unit_answers.specs.declared.findings.Finding.{Finding}
use Rattle.unit_answers.specs.Sets.{UnitSet, set_at, no_set, found, lit_of}
use Rattle.unit_answers.specs.Tables.{IsTableOf}
use Rattle.unit_answers.specs.Reasons.{IsReason}
use Rattle.unit_answers.specs.Propagation.{HaveReasons, AreClosed}
use Rattle.unit_answers.specs.Settled.{AreSitesClosed, IsSettled}
use Rattle.unit_answers.proofs.Places.{same_some, at_contains, contains_take}

-- the place of a finding, by that of its literal
pub finding_at : (fs : List Finding) (p : ℕ) (l : Literal) → slice_get (map lit_of fs) p ≡ Some l → (f : Finding) × (slice_get fs p ≡ Some f) × (f.lit ≡ l)
finding_at [] p l e = cc
finding_at (f ∷ fs) zero l e = (f, refl, same_some f.lit l e)
finding_at (f ∷ fs) (suc p) l e = finding_at fs p l e

module _ (s : System) (U : ConstraintName → Bool) where
  -- the sets of lower groups hold no literal but those of the least sets, or all of them
  abbrev pub AreSound : ℕ → List UnitSet → Type 0
  AreSound g sets = (e : ℕ) (m : Literal) → e < g → Contains (found (set_at sets e)) m → Closed s U e [] m

  abbrev pub AreWhole : ℕ → List UnitSet → Type 0
  AreWhole g sets = (e : ℕ) (m : Literal) → e < g → Closed s U e [] m → Contains (set_at sets e).lits m

  module _ (g : ℕ) (rows : List NamedClause) (table : IsTableOf s U g rows) (sets : List UnitSet) (from : List Literal) where
    by_reason : AreSound g sets → (known : List Literal) (l : Literal) (r : Reason) → IsReason s g rows sets from known r l
        → ((m : Literal) → Contains known m → Closed s U g from m) → Closed s U g from l
    by_reason sound known l why.Given h all = given h
    by_reason sound known l (why.Clause k) h all =
        let axiom_ = table.each k h.row h.at in
        forced h.row.name h.row.lits axiom_.there axiom_.counting axiom_.clause h.holds (λ m c n. all (opposite m) (h.denied m c n))
    by_reason sound known l (why.Site site m) h all = carried site m h.there h.stands (sound (callee s g site).group m h.lower h.found)

    -- each literal found is one of the least set, by induction on its place
    upto : AreSound g sets → (fs : List Finding) → HaveReasons s g rows sets from fs → (fuel p : ℕ) (l : Literal) → p < fuel → slice_get (map lit_of fs) p ≡ Some l → Closed s U g from l
    upto sound fs all zero p l lt at = absurd (omega arith)
    upto sound fs all (suc fuel) p l lt at =
        let f = finding_at fs p l at in
        subst (λ (x : Literal). Closed s U g from x) f.2
        (by_reason sound (take p (map lit_of fs)) f.0.lit f.0.reason (all p f.0 f.1)
        (λ m c. let e = contains_take p (map lit_of fs) m c in let below : e.0 < p = e.1 in upto sound fs all fuel e.0 m (omega arith) e.2))

    pub found_closed : AreSound g sets → (fs : List Finding) → HaveReasons s g rows sets from fs → (l : Literal) → Contains (map lit_of fs) l → Closed s U g from l
    found_closed sound fs h l c =
        let at = at_contains (map lit_of fs) l c in
        upto sound fs h (suc at.0) at.0 l (omega arith) at.1

  -- each literal of the least set is known, where those given are and neither a clause nor a site asks for another
  closed_known : (g : ℕ) (from : List Literal) (l : Literal) → Closed s U g from l → (rows : List NamedClause) → IsTableOf s U g rows
      → (sets : List UnitSet) → ((site : ℕ) → site < length (callees s g) → (callee s g site).group < g) → AreWhole g sets
      → (known : List Literal) → ((m : Literal) → Contains from m → Contains known m) → AreClosed known rows
      → AreSitesClosed s g sets known (length (callees s g)) → Contains known l
  closed_known g from l (given h) rows table sets below whole known all clauses sites = all l h
  closed_known g from l (forced name c there counting clause holds denied) rows table sets below whole known all clauses sites =
      let row = at_contains rows (named_clause name c) (table.whole name c (record { there = there; counting = counting; clause = clause })) in
      clauses row.0 (named_clause name c) row.1 l holds
      (λ m h n. closed_known g from (opposite m) (denied m h n) rows table sets below whole known all clauses sites)
  closed_known g from l (carried site m there stands inner) rows table sets below whole known all clauses sites =
      sites site m l there stands (whole (callee s g site).group m (below site there) inner)

  -- what is settled is the least set, where the lower sets are
  pub settled_exact : (g : ℕ) (rows : List NamedClause) → IsTableOf s U g rows → (sets : List UnitSet)
      → ((site : ℕ) → site < length (callees s g) → (callee s g site).group < g) → AreSound g sets → AreWhole g sets
      → (from : List Literal) (set : UnitSet) → IsSettled s g rows sets from set → (l : Literal) → Contains (found set) l ↔ Closed s U g from l
  settled_exact g rows table sets below sound whole from set h l = (
    (λ c. found_closed g rows table sets from sound set.findings h.reasons l c),
    (λ c. closed_known g from l c rows table sets below whole (found set) h.givens h.clauses h.sites),
  )

  -- where literals are given, the set for which nothing is given may be given too
  pub closed_weaker : (g : ℕ) (from more : List Literal) → ((m : Literal) → Contains from m → Closed s U g more m) → (l : Literal) → Closed s U g from l → Closed s U g more l
  closed_weaker g from more all l (given h) = all l h
  closed_weaker g from more all l (forced name c there counting clause holds denied) =
      forced name c there counting clause holds (λ m h n. closed_weaker g from more all (opposite m) (denied m h n))
  closed_weaker g from more all l (carried site m there stands inner) = carried site m there stands inner

-- the sets of groups, one after another
pub set_old : (sets : List UnitSet) (set : UnitSet) (e : ℕ) → e < length sets → set_at (sets ++ set ∷ []) e ≡ set_at sets e
set_old sets set e lt = get_or_append_left sets (set ∷ []) no_set e lt

pub set_new : (sets : List UnitSet) (set : UnitSet) → set_at (sets ++ set ∷ []) (length sets) ≡ set
set_new sets set = get_or_push sets set no_set (length sets) refl
