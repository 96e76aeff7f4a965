-- How the literals found grow, each with its reason.
use Rattle.std.proofs.Common.{◌≡◌, ℕ, ◌+◌, ◌<◌, ◌≤◌, inl, inr, Bool, true, false, ◌||◌, List, [], ◌∷◌, ◌++◌, length, map, take, Some, slice_get, refl, sym, ap, subst, ◌∙◌, arith}
use Rattle.std.proofs.lemmas.Bool.{cases_eq}
use Rattle.std.proofs.lemmas.List.{length-append, length-map, append-nil, append_assoc, map-append, take_at, take-append-le, length_push}
use Rattle.std.proofs.lemmas.List.Elements.{Contains-append_left, Contains-push}
use Rattle.std.proofs.lemmas.Option.{slice_get_within}
use Rattle.std.specs.List.{Contains}
use Rattle.zo_core.specs.Literals.{Literal}
use Rattle.transfer_rules.specs.Names.{NamedClause}
use Rattle.verdict_meaning.specs.Systems.{System}
use Rattle.unit_answers.specs.declared.findings.Reason.{Reason}
use Rattle.unit_answers.specs.declared.findings.Reason.TheVariants as why
use Rattle.unit_answers.specs.declared.findings.Finding.{Finding}
use Rattle.unit_answers.specs.Sets.{UnitSet, lit_of}
use Rattle.unit_answers.specs.Reasons.{AreDenied, IsForced, IsReason}
use Rattle.unit_answers.specs.Trails.{Trail, known, Adds, Rises}
use Rattle.unit_answers.specs.Propagation.{HaveReasons, Grows, Forces, IsForceStep, IsClosedAt, AreClosed, IsVisited, IsSwept}
use Rattle.unit_answers.proofs.Places.{get_push_cases, contains_at, at_contains, same_some}

abbrev pub finding : Literal → Reason → Finding
finding l why = record { lit = l; reason = why }

pub grows_none : (t : Trail) → Grows t t
grows_none t = record { unknowns = refl; more = []; grows = sym (append-nil t.findings) }

pub grows_then : (a b c : Trail) → Grows a b → Grows b c → Grows a c
grows_then a b c g h = record {
  unknowns = h.unknowns ∙ g.unknowns;
  more = g.more ++ h.more;
  grows = h.grows ∙ ap (λ (fs : List Finding). fs ++ h.more) g.grows ∙ append_assoc a.findings g.more h.more;
}

-- what is known stays known
pub grows_known : (a b : Trail) (g : Grows a b) → known b ≡ known a ++ map lit_of g.more
grows_known a b g = ap (map lit_of) g.grows ∙ map-append lit_of a.findings g.more

pub grows_kept : (a b : Trail) → Grows a b → (l : Literal) → Contains (known a) l → Contains (known b) l
grows_kept a b g l h = subst (λ (ls : List Literal). Contains ls l) (sym (grows_known a b g)) (Contains-append_left (known a) (map lit_of g.more) l h)

pub grows_longer : (a b : Trail) → Grows a b → length a.findings ≤ length b.findings
grows_longer a b g = omega (arith, ap length g.grows, length-append a.findings g.more)

-- a literal was added

pub added_grows : (l : Literal) (r : Reason) (a b : Trail) → Adds l r a b true → Grows a b
added_grows l r a b h = record { unknowns = h.1; more = finding l r ∷ []; grows = h.2 }

pub added_known : (l : Literal) (r : Reason) (a b : Trail) → Adds l r a b true → known b ≡ known a ++ l ∷ []
added_known l r a b h = ap (map lit_of) h.2 ∙ map-append lit_of a.findings (finding l r ∷ [])

pub added_there : (l : Literal) (r : Reason) (a b : Trail) (added : Bool) → Adds l r a b added → Contains (known b) l
added_there l r a b true h = subst (λ (ls : List Literal). Contains ls l) (sym (added_known l r a b h)) (Contains-push (known a) l)
added_there l r a b false h = subst (λ (t : Trail). Contains (known t) l) (sym h.1) h.0

pub adds_grows : (l : Literal) (r : Reason) (a b : Trail) (added : Bool) → Adds l r a b added → Grows a b
adds_grows l r a b true h = added_grows l r a b h
adds_grows l r a b false h = subst (λ (t : Trail). Grows a t) (sym h.1) (grows_none a)

module _ (s : System) (g : ℕ) (rows : List NamedClause) (sets : List UnitSet) (from : List Literal) where
  -- one finding more, with its reason
  reasons_push : (fs : List Finding) (l : Literal) (r : Reason) → HaveReasons s g rows sets from fs → IsReason s g rows sets from (map lit_of fs) r l
      → HaveReasons s g rows sets from (fs ++ finding l r ∷ [])
  reasons_push fs l r all here p f at =
      elim (get_push_cases fs (finding l r) p f at) [
        | inl e ↦
            let inside : p < length fs = slice_get_within fs p f e in
            let many : length (map lit_of fs) ≡ length fs = length-map fs lit_of in
            let front : take p (map lit_of (fs ++ finding l r ∷ [])) ≡ take p (map lit_of fs) =
            ap (take p) (map-append lit_of fs (finding l r ∷ [])) ∙ take-append-le p (map lit_of fs) (l ∷ []) (omega arith) in
            subst (λ (ls : List Literal). IsReason s g rows sets from ls f.reason f.lit) (sym front) (all p f e)
        | inr e ↦
            let many : length (map lit_of fs) ≡ length fs = length-map fs lit_of in
            let place : length (map lit_of fs) ≡ p = many ∙ sym e.0 in
            let front : take p (map lit_of (fs ++ finding l r ∷ [])) ≡ map lit_of fs =
            ap (take p) (map-append lit_of fs (finding l r ∷ [])) ∙ take_at (map lit_of fs) (l ∷ []) p place in
            subst (λ (ls : List Literal). IsReason s g rows sets from ls f.reason f.lit) (sym front)
            (subst (λ (x : Finding). IsReason s g rows sets from (map lit_of fs) x.reason x.lit) e.1 here)
      ]

  pub reasons_added : (l : Literal) (r : Reason) (a b : Trail) → Adds l r a b true → IsReason s g rows sets from (known a) r l
      → HaveReasons s g rows sets from a.findings → HaveReasons s g rows sets from b.findings
  reasons_added l r a b h here all =
      subst (λ (fs : List Finding). HaveReasons s g rows sets from fs) (sym h.2) (reasons_push a.findings l r all here)

  pub reasons_adds : (l : Literal) (r : Reason) (a b : Trail) (added : Bool) → Adds l r a b added → IsReason s g rows sets from (known a) r l
      → HaveReasons s g rows sets from a.findings → HaveReasons s g rows sets from b.findings
  reasons_adds l r a b true h here all = reasons_added l r a b h here all
  reasons_adds l r a b false h here all = subst (λ (t : Trail). HaveReasons s g rows sets from t.findings) (sym h.1) all

pub forces_none : (rows : List NamedClause) (t : Trail) → Forces rows t t
forces_none rows t = record { grows = grows_none t; keeps = λ s g sets from h. h }

pub forces_then : (rows : List NamedClause) (a b c : Trail) → Forces rows a b → Forces rows b c → Forces rows a c
forces_then rows a b c f h = record {
  grows = grows_then a b c f.grows h.grows;
  keeps = λ s g sets from k. h.keeps s g sets from (f.keeps s g sets from k);
}

module _ (rows : List NamedClause) where
  -- a step that adds a literal for clause k of the table
  forces_one : (k : ℕ) (row : NamedClause) (l : Literal) (old new : Trail) → slice_get rows k ≡ Some row → Contains row.lits l
      → IsForceStep row.lits k l old new true → Forces rows old new
  forces_one k row l old new at holds step = record {
    grows = added_grows l (why.Clause k) old new step.1;
    keeps = λ s g sets from h.
        let forced : IsForced rows (known old) k l = record { row = row; at = at; holds = holds; denied = step.0 } in
        reasons_added s g rows sets from l (why.Clause k) old new step.1 forced h;
  }

  -- visiting the literals of a clause

  pub visited_none : (c : List Literal) (t : Trail) → IsVisited rows c 0 t t false
  visited_none c t = record { forces = forces_none rows t; rises = λ e. cc; same = λ e. refl; closed = λ e k l lt. absurd (omega arith) }

  step_rises : (c : List Literal) (k : ℕ) (l : Literal) (old new : Trail) → IsForceStep c k l old new true → Rises old new
  step_rises c k l old new step = record {
    more = omega (arith, ap length step.1.2, length_push old.findings (finding l (why.Clause k)));
    few = step.1.3;
  }

  longer_rises : (a b c : Trail) → Grows a b → Rises b c → Rises a c
  longer_rises a b c g up = record { more = (let m = up.more in omega (arith, m, grows_longer a b g)); few = up.few }

  module _ (k : ℕ) (row : NamedClause) (at : slice_get rows k ≡ Some row) (n : ℕ) (l : Literal) (here : slice_get row.lits n ≡ Some l) (old f g : Trail) where
    abbrev More : Bool → Bool → Type 0
    More changed r = IsVisited rows row.lits n old f changed → IsForceStep row.lits k l f g r → IsVisited rows row.lits (n + 1) old g (changed || r)

    more_true : (changed : Bool) → IsVisited rows row.lits n old f changed → IsForceStep row.lits k l f g true → Forces rows old g × Rises old g
    more_true changed v step =
        let one = forces_one k row l f g at (contains_at row.lits n l here) step in
        (forces_then rows old f g v.forces one, longer_rises old f g v.forces.grows (step_rises row.lits k l f g step))

    pub visited_more : (changed r : Bool) → More changed r
    visited_more true true v step = let m = more_true true v step in record { forces = m.0; rises = λ e. m.1; same = λ e. cc; closed = λ e. cc }
    visited_more false true v step = let m = more_true false v step in record { forces = m.0; rises = λ e. m.1; same = λ e. cc; closed = λ e. cc }
    visited_more true false v step = subst (λ (x : Trail). IsVisited rows row.lits (n + 1) old x true) (sym step.1)
        (record { forces = v.forces; rises = v.rises; same = λ e. cc; closed = λ e. cc })
    visited_more false false v step = subst (λ (x : Trail). IsVisited rows row.lits (n + 1) old x false) (sym step.1) (record {
      forces = v.forces;
      rises = λ e. cc;
      same = v.same;
      closed = λ e j m lt at_m denied. elim (cases_eq j n) [
        | inl same ↦
            let is : m ≡ l = same_some m l (sym at_m ∙ ap (slice_get row.lits) same ∙ here) in
            let was : f ≡ old = v.same refl in
            subst (λ (x : Literal). Contains (known old) x) (sym is)
            (subst (λ (x : Trail). Contains (known x) l) was
            (step.0 (subst (λ (x : Trail). AreDenied (known x) row.lits l) (sym was) (subst (λ (x : Literal). AreDenied (known old) row.lits x) is denied))))
        | inr ne ↦ v.closed refl j m (omega arith) at_m denied
      ];
    })

  -- sweeping the clauses of a table

  pub swept_none : (t : Trail) → IsSwept rows 0 t t false
  swept_none t = record { forces = forces_none rows t; rises = λ e. cc; same = λ e. refl; closed = λ e k row lt. absurd (omega arith) }

  closed_clause : (ls c : List Literal) → ((k : ℕ) (l : Literal) → k < length c → slice_get c k ≡ Some l → AreDenied ls c l → Contains ls l) → IsClosedAt ls c
  closed_clause ls c all l holds denied = let e = at_contains c l holds in all e.0 l (slice_get_within c e.0 l e.1) e.1 denied

  module _ (n : ℕ) (row : NamedClause) (at : slice_get rows n ≡ Some row) (old f g : Trail) where
    swept_up : (changed : Bool) → IsSwept rows n old f changed → IsVisited rows row.lits (length row.lits) f g true → Rises old g
    swept_up changed s v = longer_rises old f g s.forces.grows (v.rises refl)

    pub swept_more : (changed r : Bool) → IsSwept rows n old f changed → IsVisited rows row.lits (length row.lits) f g r → IsSwept rows (n + 1) old g (changed || r)
    swept_more true true s v = record { forces = forces_then rows old f g s.forces v.forces; rises = λ e. swept_up true s v; same = λ e. cc; closed = λ e. cc }
    swept_more false true s v = record { forces = forces_then rows old f g s.forces v.forces; rises = λ e. swept_up false s v; same = λ e. cc; closed = λ e. cc }
    swept_more true false s v = subst (λ (x : Trail). IsSwept rows (n + 1) old x true) (sym (v.same refl))
        (record { forces = s.forces; rises = s.rises; same = λ e. cc; closed = λ e. cc })
    swept_more false false s v = subst (λ (x : Trail). IsSwept rows (n + 1) old x false) (sym (v.same refl)) (record {
      forces = s.forces;
      rises = λ e. cc;
      same = s.same;
      closed = λ e j other lt at_j. elim (cases_eq j n) [
        | inl same ↦
            let is : other ≡ row = same_some other row (sym at_j ∙ ap (slice_get rows) same ∙ at) in
            let was : f ≡ old = s.same refl in
            subst (λ (x : NamedClause). IsClosedAt (known old) x.lits) (sym is)
            (subst (λ (x : Trail). IsClosedAt (known x) row.lits) was (closed_clause (known f) row.lits (v.closed refl)))
        | inr ne ↦ s.closed refl j other (omega arith) at_j
      ];
    })

  -- a sweep that adds nothing has met every clause
  pub swept_closed : (old new : Trail) → IsSwept rows (length rows) old new false → AreClosed (known new) rows
  swept_closed old new s =
      subst (λ (x : Trail). AreClosed (known x) rows) (sym (s.same refl)) (λ k row at. s.closed refl k row (slice_get_within rows k row at) at)
