-- What follows from a set and literals that are given is the least set with these given.
use Rattle.std.proofs.Common.{◌≡◌, ℕ, inl, inr, Bool, List, [], ◌∷◌, ◌++◌, Some, slice_get, sym, ap, subst, ◌∙◌, arith}
use Rattle.std.specs.Prelude.{◌↔◌}
use Rattle.std.specs.List.{Contains}
use Rattle.std.proofs.lemmas.List.Elements.{Contains-append_cases, Contains-append_left, Contains-append_right, Contains-push, Contains-push_cases}
use Rattle.zo_core.specs.Literals.{Literal, opposite}
use Rattle.conflict_proof.specs.declared.names.ConstraintName.{ConstraintName}
use Rattle.transfer_rules.specs.Names.{NamedClause, named_clause}
use Rattle.verdict_meaning.specs.Systems.{System}
use Rattle.verdict_meaning.specs.Closures.{Closed, given, forced, carried}
use Rattle.unit_answers.specs.declared.findings.Reason.TheVariants as why
use Rattle.unit_answers.specs.Sets.{IsSetOf}
use Rattle.unit_answers.specs.Tables.{IsTableOf}
use Rattle.unit_answers.specs.Trails.{Trail, known, Adds}
use Rattle.unit_answers.specs.Propagation.{Forces, AreClosed}
use Rattle.unit_answers.specs.Reopened.{Gives, IsOpened, IsReopened}
use Rattle.unit_answers.proofs.Places.{at_contains}
use Rattle.unit_answers.proofs.Forcing.{grows_none, grows_then, grows_kept, adds_grows, added_there, reasons_adds}
use Rattle.unit_answers.proofs.Exact.{found_closed, closed_weaker}

-- giving literals one after another

pub gives_none : (t : Trail) → Gives [] t t
gives_none t = record { grows = grows_none t; keeps = λ s g rows sets from all h. h; holds = λ l h. absurd (let lt = h.1 in omega arith) }

pub gives_more : (ls : List Literal) (l : Literal) (old a b : Trail) (added : Bool) → Gives ls old a → Adds l why.Given a b added → Gives (ls ++ l ∷ []) old b
gives_more ls l old a b added h adds =
    let up = adds_grows l why.Given a b added adds in
    record {
      grows = grows_then old a b h.grows up;
      keeps = λ s g rows sets from all k.
          reasons_adds s g rows sets from l why.Given a b added adds (all l (Contains-push ls l))
          (h.keeps s g rows sets from (λ m there. all m (Contains-append_left ls (l ∷ []) m there)) k);
      holds = λ m there. elim (Contains-push_cases ls l m there) [
        | inl before ↦ grows_kept a b up m (h.holds m before)
        | inr e ↦ subst (λ (x : Literal). Contains (known b) x) e (added_there l why.Given a b added adds)
      ];
    }

pub opened_by : (own more : List Literal) (a b c : Trail) → a.findings ≡ [] → Gives own a b → Gives more b c → IsOpened own more c
opened_by own more a b c empty f h = record {
  reasons = λ s g rows sets from first second.
      h.keeps s g rows sets from second (f.keeps s g rows sets from first (λ p x at. let no : slice_get [] p ≡ Some x = ap (λ fs. slice_get fs p) (sym empty) ∙ at in cc));
  kept = λ l there. grows_kept b c h.grows l (f.holds l there);
  said = h.holds;
}

pub reopened_by : (own more : List Literal) (rows : List NamedClause) (a b : Trail) → IsOpened own more a → Forces rows a b → AreClosed (known b) rows → IsReopened own more rows b
reopened_by own more rows a b h up closed = record {
  reasons = λ s g sets from first second. up.keeps s g sets from (h.reasons s g rows sets from first second);
  kept = λ l there. grows_kept a b up.grows l (h.kept l there);
  said = λ l there. grows_kept a b up.grows l (h.said l there);
  closed = closed;
}

module _ (s : System) (U : ConstraintName → Bool) (g : ℕ) (rows : List NamedClause) (table : IsTableOf s U g rows) (own : List Literal) (set : IsSetOf s U g [] own) where
  -- each literal of the least set is known
  closed_in : (ls : List Literal) (known_now : List Literal) → ((l : Literal) → Contains own l → Contains known_now l) → ((l : Literal) → Contains ls l → Contains known_now l)
      → AreClosed known_now rows → (l : Literal) → Closed s U g ls l → Contains known_now l
  closed_in ls now first second closed l (given h) = second l h
  closed_in ls now first second closed l (forced name c there counting clause holds denied) =
      let row = at_contains rows (named_clause name c) (table.whole name c (record { there = there; counting = counting; clause = clause })) in
      closed row.0 (named_clause name c) row.1 l holds (λ m h n. closed_in ls now first second closed (opposite m) (denied m h n))
  closed_in ls now first second closed l (carried site m there stands inner) = first l ((set.exact l).1 (carried site m there stands inner))

  pub reopened_exact : (ls : List Literal) (t : Trail) → IsReopened own ls rows t → (l : Literal) → Contains (known t) l ↔ Closed s U g ls l
  reopened_exact ls t h l = (sound, (λ k. closed_in ls (known t) h.kept h.said h.closed l k))
    where
      from_either : (m : Literal) → Contains (own ++ ls) m → Closed s U g ls m
      from_either m c = elim (Contains-append_cases own ls m c) [
        | inl a ↦ closed_weaker s U g [] ls (λ x none. absurd (let lt = none.1 in omega arith)) m ((set.exact m).0 a)
        | inr b ↦ given b
      ]

      sound : Contains (known t) l → Closed s U g ls l
      sound c =
          closed_weaker s U g (own ++ ls) ls from_either l
          (found_closed s U g rows table [] (own ++ ls) (λ e m lt none. absurd (let less = none.1 in omega arith)) t.findings
          (h.reasons s g [] (own ++ ls) (λ x a. Contains-append_left own ls x a) (λ x b. Contains-append_right own ls x b)) l c)

-- where there are no clauses, nothing is to be forced
pub opened_whole : (own more : List Literal) (a : Trail) → IsOpened own more a → IsReopened own more [] a
opened_whole own more a h = record {
  reasons = λ s g sets from first second. h.reasons s g [] sets from first second;
  kept = h.kept;
  said = h.said;
  closed = λ k row at. cc;
}

-- the literals in order are those that are known
pub in_order : (s : System) (U : ConstraintName → Bool) (g : ℕ) (rows : List NamedClause) (table : IsTableOf s U g rows) (own : List Literal) (set : IsSetOf s U g [] own) (ls : List Literal) (t : Trail)
    → IsReopened own ls rows t → (lits : List Literal) → ((l : Literal) → Contains lits l ↔ Contains (known t) l) → (l : Literal) → Contains lits l ↔ Closed s U g ls l
in_order s U g rows table own set ls t h lits same l =
    let is = reopened_exact s U g rows table own set ls t h l in
    ((λ a. is.0 ((same l).0 a)), (λ b. (same l).1 (is.1 b)))
