-- The sets of all groups, one after another.
use Rattle.std.proofs.Common.{◌≡◌, ℕ, zero, suc, ◌+◌, ◌<◌, ◌≤◌, inl, inr, Bool, List, [], ◌∷◌, ◌++◌, length, take, refl, sym, ap, subst, ◌∙◌, arith}
use Rattle.std.specs.Prelude.{◌↔◌}
use Rattle.std.proofs.lemmas.Bool.{cases_eq}
use Rattle.std.proofs.lemmas.List.{length_push}
use Rattle.std.specs.List.{Contains}
use Rattle.zo_core.specs.Literals.{Literal}
use Rattle.conflict_proof.specs.declared.names.ConstraintName.{ConstraintName}
use Rattle.transfer_rules.specs.Names.{NamedClause}
use Rattle.verdict_meaning.specs.declared.callee.Callee.{Callee}
use Rattle.verdict_meaning.specs.Systems.{System, root, callee, callees, count as many}
use Rattle.verdict_meaning.specs.Closures.{Closed}
use Rattle.unit_answers.specs.declared.findings.Reason.{Reason}
use Rattle.unit_answers.specs.declared.findings.Reason.TheVariants as why
use Rattle.unit_answers.specs.Sets.{UnitSet, set_at, found, AreClosures, AreWithin}
use Rattle.unit_answers.specs.Tables.{IsTableOf}
use Rattle.unit_answers.specs.Reasons.{IsCarried, IsReason, AreReasoned}
use Rattle.unit_answers.specs.Layouts.{Numbers, IsLayoutOf, group_at}
use Rattle.unit_answers.specs.Settled.{IsOrdered, IsSettled, AreLower, AreSettled}
use Rattle.unit_answers.proofs.Places.{get_below}
use Rattle.unit_answers.proofs.Exact.{settled_exact, set_old, set_new}

-- sites call lower groups
abbrev pub CallsLower : System → Type 0
CallsLower s = (g site : ℕ) → g ≤ root s → site < length (callees s g) → (callee s g site).group < g

pub calls_lower : (s : System) (l : Numbers) → IsLayoutOf s l → CallsLower s
calls_lower s l is g site le lt =
    let own = is.each g le in
    let at = get_below (group_at l g).calls site (let many = own.sites in omega arith) in
    let call = own.each site at.0 at.1 in
    subst (λ (c : Callee). c.group < g) call.callee call.lower

module _ (s : System) (sets : List UnitSet) (set : UnitSet) where
  abbrev more : List UnitSet
  more = sets ++ set ∷ []

  carried_more : (g site : ℕ) (m l : Literal) → g ≤ length sets → IsCarried s g sets site m l → IsCarried s g more site m l
  carried_more g site m l le h = record {
    there = h.there;
    stands = h.stands;
    lower = h.lower;
    found = subst (λ (x : UnitSet). Contains (found x) m) (sym (set_old sets set (callee s g site).group (let lt = h.lower in omega arith))) h.found;
  }

  reason_more : (g : ℕ) (rows : List NamedClause) (from known : List Literal) (r : Reason) (l : Literal) → g ≤ length sets → IsReason s g rows sets from known r l → IsReason s g rows more from known r l
  reason_more g rows from known why.Given l le h = h
  reason_more g rows from known (why.Clause k) l le h = h
  reason_more g rows from known (why.Site site m) l le h = carried_more g site m l le h

  -- what is settled stays so with a set more above
  pub settled_more : (lower : CallsLower s) (g : ℕ) (rows : List NamedClause) (one : UnitSet) → g ≤ root s → g ≤ length sets → IsSettled s g rows sets [] one → IsSettled s g rows more [] one
  settled_more lower g rows one within le h = record {
    reasons = λ p f at. reason_more g rows [] (take p (found one)) f.reason f.lit le (h.reasons p f at);
    givens = h.givens;
    clauses = h.clauses;
    sites = λ site m l lt stands there.
        let less = lower g site within lt in
        h.sites site m l lt stands (subst (λ (x : UnitSet). Contains x.lits m) (set_old sets set (callee s g site).group (omega arith)) there);
  }

module _ (s : System) (table : ℕ → List NamedClause) (lower : CallsLower s) where
  pub settled_none : AreSettled s table 0 []
  settled_none = record { count = refl; ordered = λ g lt. absurd (omega arith); within = λ g l lt. absurd (omega arith); each = λ g lt. absurd (omega arith) }

  pub settled_lower : (n : ℕ) (sets : List UnitSet) → AreSettled s table n sets → AreLower n sets
  settled_lower n sets h = record { count = h.count; each = h.ordered }

  -- one set more
  pub settled_push : (n : ℕ) (sets : List UnitSet) (set : UnitSet) → n ≤ root s → AreSettled s table n sets → IsOrdered set → ((l : Literal) → Contains set.lits l → l.var ≤ many s n) → IsSettled s n (table n) sets [] set
      → AreSettled s table (n + 1) (sets ++ set ∷ [])
  settled_push n sets set le h ordered inside settled =
      let size = h.count in
      let new : set_at (sets ++ set ∷ []) n ≡ set = ap (set_at (sets ++ set ∷ [])) (sym size) ∙ set_new sets set in
      record {
        count = length_push sets set ∙ ap (λ k. k + 1) size;
        ordered = λ g lt. elim (cases_eq g n) [
          | inl e ↦ subst (λ (x : UnitSet). IsOrdered x) (sym (ap (set_at (sets ++ set ∷ [])) e ∙ new)) ordered
          | inr ne ↦ subst (λ (x : UnitSet). IsOrdered x) (sym (set_old sets set g (omega arith))) (h.ordered g (omega arith))
        ];
        within = λ g l lt there. elim (cases_eq g n) [
          | inl e ↦
              let own : Contains set.lits l = subst (λ (x : UnitSet). Contains x.lits l) (ap (set_at (sets ++ set ∷ [])) e ∙ new) there in
              subst (λ (k : ℕ). l.var ≤ many s k) (sym e) (inside l own)
          | inr ne ↦ h.within g l (omega arith) (subst (λ (x : UnitSet). Contains x.lits l) (set_old sets set g (omega arith)) there)
        ];
        each = λ g lt. elim (cases_eq g n) [
          | inl e ↦
              subst (λ (x : UnitSet). IsSettled s g (table g) (sets ++ set ∷ []) [] x) (sym (ap (set_at (sets ++ set ∷ [])) e ∙ new))
              (subst (λ (k : ℕ). IsSettled s k (table k) (sets ++ set ∷ []) [] set) (sym e) (settled_more s sets set lower n (table n) set le (omega arith) settled))
          | inr ne ↦
              subst (λ (x : UnitSet). IsSettled s g (table g) (sets ++ set ∷ []) [] x) (sym (set_old sets set g (omega arith)))
              (settled_more s sets set lower g (table g) (set_at sets g) (omega arith) (omega arith) (h.each g (omega arith)))
        ];
      }

  module _ (U : ConstraintName → Bool) (tables : (g : ℕ) → g ≤ root s → IsTableOf s U g (table g)) (sets : List UnitSet) (all : AreSettled s table (suc (root s)) sets) where
    exact_upto : (fuel g : ℕ) → g < fuel → g ≤ root s → (l : Literal) → Contains (found (set_at sets g)) l ↔ Closed s U g [] l
    exact_upto zero g lt le = absurd (omega arith)
    exact_upto (suc fuel) g lt le =
        settled_exact s U g (table g) (tables g le) sets (λ site less. lower g site le less)
        (λ e m less there. (exact_upto fuel e (omega arith) (omega arith) m).0 there)
        (λ e m less there. ((all.ordered e (omega arith)).same m).1 ((exact_upto fuel e (omega arith) (omega arith) m).1 there))
        [] (set_at sets g) (all.each g (omega arith))

    found_exact : (g : ℕ) → g ≤ root s → (l : Literal) → Contains (found (set_at sets g)) l ↔ Closed s U g [] l
    found_exact g le = exact_upto (suc g) g (omega arith) le

    pub are_closures : AreClosures s U sets
    are_closures = record {
      count = all.count;
      each = λ g le.
          let own = all.ordered g (omega arith) in
          record {
            ascend = own.ascend;
            exact = λ l.
                let is = found_exact g le l in
                let same = own.same l in
                ((λ h. is.0 (same.0 h)), (λ h. same.1 (is.1 h)));
          };
    }

    pub are_within : AreWithin s sets
    are_within = record {
      some = λ g l le there. (all.ordered g (omega arith)).some l there;
      most = λ g l le there. all.within g l (omega arith) there;
    }

    pub are_reasoned : AreReasoned s table sets
    are_reasoned = record {
      same = λ g le. (all.ordered g (omega arith)).same;
      once = λ g j k l le. (all.ordered g (omega arith)).once j k l;
      each = λ g p f le at. (all.each g (omega arith)).reasons p f at;
    }
