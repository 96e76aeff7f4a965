-- How steps are collected.
use Rattle.std.proofs.Common.{◌≡◌, ◌≢◌, ℕ, zero, suc, ◌+◌, ◌-◌, ◌<◌, ◌≤◌, ◌⊎◌, inl, inr, ⊎_elim, Bool, true, false, not, List, [], ◌∷◌, ◌++◌, length, get_or, take, reverse, Some, slice_get, option_map, refl, sym, ap, subst, ◌∙◌, arith, eq-eqb}
use Rattle.std.specs.Prelude.{slice_index_or}
use Rattle.std.proofs.lemmas.Bool.{cases_eq, ne_eqb}
use Rattle.std.proofs.lemmas.Option.{slice_get_within, get_or_from_slice_get, slice_get-get_or, slice_get-map}
use Rattle.std.proofs.lemmas.List.{length_push, length-map, take_more, take_all, get_or-reverse, length-reverse}
use Rattle.std.proofs.lemmas.List.Elements.{Contains-push_cases, Contains-append_left}
use Rattle.std.specs.List.{Contains}
use Rattle.std.proofs.lemmas.Bool.{cases_Bool, false≢true}
use Rattle.zo_core.specs.Literals.{Literal, yes, opposite, literal_eq}
use Rattle.zo_core.specs.Equality.{literal_eq-true, literal_eq-of}
use Rattle.zo_core.specs.Order.{Ascends}
use Rattle.conflict_proof.specs.declared.names.ConstraintName.{ConstraintName}
use Rattle.transfer_rules.specs.Names.{NamedClause}
use Rattle.transfer_rules.specs.Table.{no_clause}
use Rattle.verdict_meaning.specs.Systems.{System, root, count, callee, callees}
use Rattle.unit_answers.specs.declared.clash.Contradiction.{Contradiction}
use Rattle.unit_answers.specs.declared.findings.Finding.{Finding}
use Rattle.unit_answers.specs.declared.findings.Reason.{Reason}
use Rattle.unit_answers.specs.declared.findings.Reason.TheVariants as why
use Rattle.unit_answers.specs.Sets.{UnitSet, set_at, found, lit_of}
use Rattle.unit_answers.specs.Reasons.{IsForced as IsForcedBy, IsCarried as IsCarriedBy, IsReason, AreReasoned}
use Rattle.unit_answers.specs.Contradictions.{AreConsistent}
use Rattle.unit_refutation.specs.declared.steps.Cause.{Cause}
use Rattle.unit_refutation.specs.declared.steps.Cause.TheVariants.{Clause, Site}
use Rattle.unit_refutation.specs.declared.steps.Step.{Step}
use Rattle.std.proofs.lemmas.List.{get_or_append_left}
use Rattle.std.proofs.Math.Seq.{get_or-append_seam}
use Rattle.unit_refutation.specs.Numbers.{code_of, HasRoom, number_of, with_number}
use Rattle.unit_refutation.proofs.NumberLemmas.{number_same, number_other, room_kept}
use Rattle.unit_refutation.proofs.RestLemmas.{take_at_more}
use Rattle.unit_refutation.specs.Trails.{StandsBefore, IsCause, IsStep, IsOnce, IsConsistent, EndsIn}
use Rattle.unit_refutation.specs.Lines.{IsRoomyCause, IsRoomy, AreRoomy}
use Rattle.unit_refutation.specs.Room.{found_in, HasRoomFor}
use Rattle.unit_refutation.specs.Collecting.{AreOfUnknowns, AreTables, IsMarked, AddsMarks, IsRightCause, EachPremise, IsFoundBefore, IsFoundFrom, StandsAfter, IsDue, front, IsRightStep, AreCollected, lit_found, IsCauseFound, IsAsked}
use Rattle.unit_refutation.proofs.ListLemmas.{same_some, get_kept, get_next, get_push_cases, contains_at, at_contains, get_below}

-- Premises

each_map : (P Q : ℕ → Literal → Type 0) (group : ℕ) (lit : Literal) (why : Cause) → ((g : ℕ) (m : Literal) → P g m → Q g m) → EachPremise P group lit why → EachPremise Q group lit why
each_map P Q group lit (Clause name c) f h = λ m has ne. f group (opposite m) (h m has ne)
each_map P Q group lit (Site site lower m) f h = f lower m h

-- Room

roomy_cause_more : (old new : List (List ℕ)) (group : ℕ) (lit : Literal) (why : Cause) → AddsMarks old new → IsRoomyCause old group lit why → IsRoomyCause new group lit why
roomy_cause_more old new group lit (Clause name c) f h = (h.0, h.1, λ m has ne. f.room group (opposite m) (h.2 m has ne))
roomy_cause_more old new group lit (Site site lower m) f h = f.room lower m h

pub roomy_more : (old new : List (List ℕ)) (step : Step) → AddsMarks old new → IsRoomy old step → IsRoomy new step
roomy_more old new step f h = record { some = h.some; own = f.room step.group step.lit h.own; cause = roomy_cause_more old new step.group step.lit step.cause f h.cause }

pub adds_none : (marks : List (List ℕ)) → AddsMarks marks marks
adds_none marks = record { kept = λ g l h. h; room = λ g l h. h }

pub adds_more : (a b c : List (List ℕ)) → AddsMarks a b → AddsMarks b c → AddsMarks a c
adds_more a b c f h = record { kept = λ g l k. h.kept g l (f.kept g l k); room = λ g l k. h.room g l (f.room g l k) }

-- What is due

after_more : (steps more : List Step) (k group : ℕ) (lit : Literal) → StandsAfter steps k group lit → StandsAfter (steps ++ more) k group lit
after_more steps more k group lit h = record {
  place = h.place;
  later = h.later;
  stands = record { step = h.stands.step; there = get_kept steps more h.place h.stands.step h.stands.there; is_group = h.stands.is_group; is_lit = h.stands.is_lit };
}

-- the places before p + 1 are those before p and p itself
before_cases : (sets : List UnitSet) (at p group : ℕ) (lit l : Literal) → slice_get (found_in sets at) p ≡ Some l → IsFoundBefore sets at (p + 1) group lit
    → IsFoundBefore sets at p group lit ⊎ ((group ≡ at) × (l ≡ lit))
before_cases sets at p group lit l here (inl h) = inl (inl h)
before_cases sets at p group lit l here (inr h) =
    let lt = slice_get_within (found_in sets at) p l here in
    let more : take (p + 1) (found_in sets at) ≡ take p (found_in sets at) ++ l ∷ [] =
    take_more (found_in sets at) p l lt ∙ ap (λ (x : Literal). take p (found_in sets at) ++ x ∷ []) (get_or_from_slice_get (found_in sets at) p l l here) in
    ⊎_elim (λ (old : Contains (take p (found_in sets at)) lit). inl (inr (h.0, old)))
    (λ (e : l ≡ lit). inr (h.0, e))
    (Contains-push_cases (take p (found_in sets at)) l lit (subst (λ (ls : List Literal). Contains ls lit) more h.1))

due_skip : (sets : List UnitSet) (marks : List (List ℕ)) (at p : ℕ) (steps : List Step) (k group : ℕ) (lit l : Literal) → slice_get (found_in sets at) p ≡ Some l → (IsMarked marks at l → ⊥)
    → IsDue sets marks at (p + 1) steps k group lit → IsDue sets marks at p steps k group lit
due_skip sets marks at p steps k group lit l here none (inl h) = inl h
due_skip sets marks at p steps k group lit l here none (inr h) =
    ⊎_elim (λ (old : IsFoundBefore sets at p group lit). inr (h.0, old))
    (λ (e : (group ≡ at) × (l ≡ lit)).
    absurd (none (subst (λ (x : Literal). IsMarked marks at x) (sym e.1) (subst (λ (g : ℕ). IsMarked marks g lit) e.0 h.0))))
    (before_cases sets at p group lit l here h.1)

due_push : (sets : List UnitSet) (old new : List (List ℕ)) (at p : ℕ) (steps : List Step) (step : Step) (k group : ℕ) (lit l : Literal) → slice_get (found_in sets at) p ≡ Some l → step.group ≡ at → step.lit ≡ l
    → AddsMarks old new → (l ≡ lit → k < length steps) → IsDue sets old at (p + 1) steps k group lit → IsDue sets new at p (steps ++ step ∷ []) k group lit
due_push sets old new at p steps step k group lit l here g e f inside (inl h) = inl (after_more steps (step ∷ []) k group lit h)
due_push sets old new at p steps step k group lit l here g e f inside (inr h) =
    ⊎_elim (λ (o : IsFoundBefore sets at p group lit). inr (f.kept group lit h.0, o))
    (λ (q : (group ≡ at) × (l ≡ lit)). inl (record {
      place = length steps;
      later = inside q.1;
      stands = record { step = step; there = get_next steps step; is_group = g ∙ sym q.0; is_lit = e ∙ q.1 };
    }))
    (before_cases sets at p group lit l here h.1)

-- what was found in a group before the contradiction

front_last : (sets : List UnitSet) (last clash group : ℕ) → group ≡ last → front sets last clash group ≡ take clash (found_in sets last)
front_last sets last clash group e = rw (eq-eqb group last e) refl

front_other : (sets : List UnitSet) (last clash group : ℕ) → group ≢ last → front sets last clash group ≡ found_in sets group
front_other sets last clash group ne = rw (ne_eqb group last ne) refl

in_take : (xs : List Literal) (n k : ℕ) (x : Literal) → k < n → slice_get xs k ≡ Some x → Contains (take n xs) x
in_take xs n k x lt at = contains_at (take n xs) k x (get_take n xs k x lt at)
  where
    get_take : (n : ℕ) (xs : List Literal) (k : ℕ) (x : Literal) → k < n → slice_get xs k ≡ Some x → slice_get (take n xs) k ≡ Some x
    get_take zero xs k x lt e = absurd (omega arith)
    get_take (suc n) [] k x lt e = e
    get_take (suc n) (y ∷ xs) zero x lt e = e
    get_take (suc n) (y ∷ xs) (suc k) x lt e = get_take n xs k x (omega arith) e

-- One place less

pub collected_skip : (s : System) (U : ConstraintName → Bool) (sets : List UnitSet) (last clash : ℕ) (lit : Literal) (marks : List (List ℕ)) (at p : ℕ) (steps : List Step) (l : Literal)
    → slice_get (found_in sets last) clash ≡ Some lit → slice_get (found_in sets at) p ≡ Some l → (IsMarked marks at l → ⊥)
    → AreCollected s U sets last clash lit marks at (p + 1) steps → AreCollected s U sets last clash lit marks at p steps
collected_skip s U sets last clash lit marks at p steps l clash_at here none h = record {
  room = h.room;
  roomy = h.roomy;
  each = λ k step there. let r = h.each k step there in record { group = r.group; within = r.within; cause = r.cause; found = later step r.found };
  due = λ k step there.
      each_map (IsDue sets marks at (p + 1) steps k) (IsDue sets marks at p steps k) step.group step.lit step.cause (λ g m d. due_skip sets marks at p steps k g m l here none d) (h.due k step there);
  once = h.once;
  none = λ e. absurd (
      let q = h.none e in
      let place : p ≡ clash = let n = q.1 in omega (arith, n) in
      let same : l ≡ lit = same_some l lit (sym here ∙ ap (λ (g : ℕ). slice_get (found_in sets g) p) q.0 ∙ ap (slice_get (found_in sets last)) place ∙ clash_at) in
      none (subst (λ (x : Literal). IsMarked marks at x) (sym same) (subst (λ (g : ℕ). IsMarked marks g lit) (sym q.0) q.2)));
  first = h.first;
  others = h.others;
  opposite_due = due_skip sets marks at p steps 0 last (opposite lit) l here none h.opposite_due;
}
  where
    later : (step : Step) → IsFoundFrom sets at (p + 1) step.group step.lit → IsFoundFrom sets at p step.group step.lit
    later step (inl lt) = inl lt
    later step (inr f) = inr (f.0, f.1, (let le = f.2 in omega (arith, le)), f.3)

not_opposite : (l : Literal) → l ≡ opposite l → ⊥
not_opposite l e = by_sign l.sign (ap (λ (x : Literal). x.sign) e)
  where
    by_sign : (b : Bool) → b ≡ not b → ⊥
    by_sign true q = cc
    by_sign false q = cc

pub collected_push : (s : System) (U : ConstraintName → Bool) (sets : List UnitSet) (last clash : ℕ) (lit : Literal) (old new : List (List ℕ)) (at p : ℕ) (steps : List Step) (step : Step) (l : Literal)
    → slice_get (found_in sets last) clash ≡ Some lit
    → ((g j k : ℕ) (x : Literal) → g ≤ last → slice_get (found_in sets g) j ≡ Some x → slice_get (found_in sets g) k ≡ Some x → j ≡ k)
    → at ≤ last → slice_get (found_in sets at) p ≡ Some l → step.group ≡ at → step.lit ≡ l → l.var ≤ count s at → IsRightCause s U step.group step.lit step.cause → AddsMarks old new → IsRoomy new step
    → EachPremise (λ g m. IsMarked new g m × IsFoundBefore sets at p g m) step.group step.lit step.cause
    → AreCollected s U sets last clash lit old at (p + 1) steps → AreCollected s U sets last clash lit new at p (steps ++ step ∷ [])
collected_push s U sets last clash lit old new at p steps step l clash_at apart le here g e bound right adds roomy premises h = record {
  room = λ q m k has. adds.room q m (h.room q m k has);
  roomy = λ k x there. elim (get_push_cases steps step k x there) [
    | inl o ↦ roomy_more old new x adds (h.roomy k x o)
    | inr o ↦ subst (λ (y : Step). IsRoomy new y) o.1 roomy
  ];
  each = λ k x there. elim (get_push_cases steps step k x there) [
    | inl o ↦ let r = h.each k x o in record { group = r.group; within = r.within; cause = r.cause; found = later x r.found }
    | inr o ↦ subst (λ (y : Step). IsRightStep s U sets last at p y) o.1 (record {
      group = omega (arith, le, g);
      within = subst (λ (q : ℕ). step.lit.var ≤ count s q) (sym g) (subst (λ (m : Literal). m.var ≤ count s at) (sym e) bound);
      cause = right;
      found = inr (g, p, omega arith, here ∙ ap Some (sym e));
    })
  ];
  due = λ k x there. elim (get_push_cases steps step k x there) [
    | inl o ↦
        let inside = slice_get_within steps k x o in
        each_map (IsDue sets old at (p + 1) steps k) (IsDue sets new at p (steps ++ step ∷ []) k) x.group x.lit x.cause
        (λ q m d. due_push sets old new at p steps step k q m l here g e adds (λ z. inside) d) (h.due k x o)
    | inr o ↦ subst (λ (y : Step). EachPremise (IsDue sets new at p (steps ++ step ∷ []) k) y.group y.lit y.cause) o.1
        (each_map (λ q m. IsMarked new q m × IsFoundBefore sets at p q m) (IsDue sets new at p (steps ++ step ∷ []) k) step.group step.lit step.cause (λ q m d. inr d) premises)
  ];
  once = λ j k x y at_j at_k q m. elim (get_push_cases steps step j x at_j) [
    | inl a ↦ elim (get_push_cases steps step k y at_k) [
      | inl b ↦ h.once j k x y a b q m
      | inr b ↦ absurd (fresh j x a (q ∙ ap (λ (z : Step). z.group) (sym b.1)) (m ∙ ap (λ (z : Step). z.lit) (sym b.1)))
    ]
    | inr a ↦ elim (get_push_cases steps step k y at_k) [
      | inl b ↦ absurd (fresh k y b (sym q ∙ ap (λ (z : Step). z.group) (sym a.1)) (sym m ∙ ap (λ (z : Step). z.lit) (sym a.1)))
      | inr b ↦ a.0 ∙ sym b.0
    ]
  ];
  none = λ z. absurd (let size = length_push steps step in omega (arith, z, size));
  first = λ x there. elim (get_push_cases steps step 0 x there) [
    | inl o ↦ h.first x o
    | inr o ↦ let n = start (sym o.0) in (ap (λ (y : Step). y.group) (sym o.1) ∙ g ∙ n.0, ap (λ (y : Step). y.lit) (sym o.1) ∙ e ∙ n.1)
  ];
  others = λ k x there. elim (get_push_cases steps step (k + 1) x there) [
    | inl o ↦ h.others k x o
    | inr o ↦ subst (λ (y : Step). Contains (front sets last clash y.group) y.lit) o.1
        (subst (λ (q : ℕ). Contains (front sets last clash q) step.lit) (sym g) (subst (λ (m : Literal). Contains (front sets last clash at) m) (sym e) (in_front (let z = o.0 in omega (arith, z)))))
  ];
  opposite_due = opposite_push (length steps) refl;
}
  where
    later : (x : Step) → IsFoundFrom sets at (p + 1) x.group x.lit → IsFoundFrom sets at p x.group x.lit
    later x (inl lt) = inl lt
    later x (inr f) = inr (f.0, f.1, (let k = f.2 in omega (arith, k)), f.3)

    -- no step has the literal yet
    fresh : (j : ℕ) (x : Step) → slice_get steps j ≡ Some x → x.group ≡ step.group → x.lit ≡ step.lit → ⊥
    fresh j x there q m = by_place (h.each j x there).found
      where
        by_place : IsFoundFrom sets at (p + 1) x.group x.lit → ⊥
        by_place (inl lt) = omega (arith, lt, q, g)
        by_place (inr f) =
            let same : f.1 ≡ p = apart at f.1 p l le (f.3 ∙ ap Some (m ∙ e)) here in
            let k = f.2 in
            omega (arith, k, same)

    -- the first step is the contradiction's
    start : length steps ≡ 0 → (at ≡ last) × (l ≡ lit)
    start z =
        let n = h.none z in
        let place : p ≡ clash = let k = n.1 in omega (arith, k) in
        (n.0, same_some l lit (sym here ∙ ap (λ (q : ℕ). slice_get (found_in sets q) p) n.0 ∙ ap (slice_get (found_in sets last)) place ∙ clash_at))

    -- the others were found before it
    in_front : 0 < length steps → Contains (front sets last clash at) l
    in_front some = ⊎_elim (λ (same : at ≡ last). in_last same) (λ (ne : at ≢ last). subst (λ (ls : List Literal). Contains ls l) (sym (front_other sets last clash at ne)) (contains_at (found_in sets at) p l here)) (cases_eq at last)
      where
        in_last : at ≡ last → Contains (front sets last clash at) l
        in_last same =
            let one = get_below steps 0 some in
            let top = h.first one.0 one.1 in
            let before : p < clash = by_place one.0 top.0 top.1 (h.each 0 one.0 one.1).found same in
            subst (λ (ls : List Literal). Contains ls l) (sym (front_last sets last clash at same))
            (in_take (found_in sets last) clash p l before (ap (λ (q : ℕ). slice_get (found_in sets q) p) (sym same) ∙ here))
          where
            by_place : (x : Step) → x.group ≡ last → x.lit ≡ lit → IsFoundFrom sets at (p + 1) x.group x.lit → at ≡ last → p < clash
            by_place x q m (inl lt) z = absurd (omega (arith, lt, q, z))
            by_place x q m (inr f) z =
                let one : f.1 ≡ clash = apart last f.1 clash lit (omega arith) (ap (λ (y : ℕ). slice_get (found_in sets y) f.1) (sym z) ∙ f.3 ∙ ap Some m) clash_at in
                let k = f.2 in
                omega (arith, k, one)

    opposite_push : (n : ℕ) → length steps ≡ n → IsDue sets new at p (steps ++ step ∷ []) 0 last (opposite lit)
    opposite_push zero z =
        let n = start z in
        due_push sets old new at p steps step 0 last (opposite lit) l here g e adds (λ q. absurd (not_opposite lit (sym n.1 ∙ q))) h.opposite_due
    opposite_push (suc n) z = due_push sets old new at p steps step 0 last (opposite lit) l here g e adds (λ q. omega (arith, z)) h.opposite_due

-- One group less

before_group : (sets : List UnitSet) (at group : ℕ) (lit : Literal) → IsFoundBefore sets (at + 1) 0 group lit → IsFoundBefore sets at (length (found_in sets at)) group lit
before_group sets at group lit (inl h) =
    ⊎_elim (λ (e : group ≡ at).
    inr (e, subst (λ (ls : List Literal). Contains ls lit) (sym (take_all (length (found_in sets at)) (found_in sets at) (omega arith))) (subst (λ (q : ℕ). Contains (found_in sets q) lit) e h.1)))
    (λ (ne : group ≢ at). inl ((let lt = h.0 in omega (arith, lt, ne)), h.1))
    (cases_eq group at)
before_group sets at group lit (inr h) = absurd (let lt = h.1.1 in omega (arith, lt))

due_group : (sets : List UnitSet) (marks : List (List ℕ)) (at : ℕ) (steps : List Step) (k group : ℕ) (lit : Literal) → IsDue sets marks (at + 1) 0 steps k group lit
    → IsDue sets marks at (length (found_in sets at)) steps k group lit
due_group sets marks at steps k group lit (inl h) = inl h
due_group sets marks at steps k group lit (inr h) = inr (h.0, before_group sets at group lit h.1)

pub collected_group : (s : System) (U : ConstraintName → Bool) (sets : List UnitSet) (last clash : ℕ) (lit : Literal) (marks : List (List ℕ)) (at next : ℕ) (steps : List Step) → next ≡ at + 1
    → AreCollected s U sets last clash lit marks next 0 steps → AreCollected s U sets last clash lit marks at (length (found_in sets at)) steps
collected_group s U sets last clash lit marks at next steps e all =
    let h : AreCollected s U sets last clash lit marks (at + 1) 0 steps = subst (λ (n : ℕ). AreCollected s U sets last clash lit marks n 0 steps) e all in
    record {
      room = h.room;
      roomy = h.roomy;
      each = λ k step there. let r = h.each k step there in record { group = r.group; within = r.within; cause = r.cause; found = higher step r.found };
      due = λ k step there.
          each_map (IsDue sets marks (at + 1) 0 steps k) (IsDue sets marks at (length (found_in sets at)) steps k) step.group step.lit step.cause (λ g m d. due_group sets marks at steps k g m d) (h.due k step there);
      once = h.once;
      none = λ z. absurd (let n = (h.none z).1 in omega (arith, n));
      first = h.first;
      others = h.others;
      opposite_due = due_group sets marks at steps 0 last (opposite lit) h.opposite_due;
    }
  where
    higher : (step : Step) → IsFoundFrom sets (at + 1) 0 step.group step.lit → IsFoundFrom sets at (length (found_in sets at)) step.group step.lit
    higher step (inl lt) = inl (omega (arith, lt))
    higher step (inr f) = inl (let q = f.0 in omega (arith, q))

-- All

no_more : (sets : List UnitSet) (marks : List (List ℕ)) (steps : List Step) (k group : ℕ) (lit : Literal) → IsDue sets marks 0 0 steps k group lit → StandsAfter steps k group lit
no_more sets marks steps k group lit (inl h) = h
no_more sets marks steps k group lit (inr (m, inl h)) = absurd (let lt = h.0 in omega (arith, lt))
no_more sets marks steps k group lit (inr (m, inr h)) = absurd (let lt = h.1.1 in omega (arith, lt))

get_reverse : (steps : List Step) (k j : ℕ) (step : Step) → k + j + 1 ≡ length steps → slice_get steps j ≡ Some step → slice_get (reverse steps) k ≡ Some step
get_reverse steps k j step e at =
    let size = length-reverse steps in
    slice_get-get_or (reverse steps) k step (omega (arith, e, size)) ∙ ap Some
    (get_or-reverse steps k step (omega (arith, e)) ∙ ap (λ (n : ℕ). get_or steps n step) (let same : length steps - 1 - k ≡ j = omega (arith, e) in same) ∙ get_or_from_slice_get steps j step step at)

reverse_get : (steps : List Step) (k : ℕ) (step : Step) → slice_get (reverse steps) k ≡ Some step → (j : ℕ) × (k + j + 1 ≡ length steps) × (slice_get steps j ≡ Some step)
reverse_get steps k step at =
    let size = length-reverse steps in
    let lt = slice_get_within (reverse steps) k step at in
    let j = length steps - 1 - k in
    let one = get_below steps j (omega (arith, lt, size)) in
    let sum : k + j + 1 ≡ length steps = omega (arith, lt, size) in
    let same = same_some one.0 step (sym (get_reverse steps k j one.0 sum one.1) ∙ at) in
    (j, sum, one.1 ∙ ap Some same)

before_of : (steps : List Step) (k j group : ℕ) (lit : Literal) → k + j + 1 ≡ length steps → StandsAfter steps j group lit → StandsBefore (reverse steps) k group lit
before_of steps k j group lit e h =
    let lt = h.later in
    let inside = slice_get_within steps h.place h.stands.step h.stands.there in
    let place = length steps - 1 - h.place in
    record {
      place = place;
      earlier = omega (arith, e, lt, inside);
      stands = record {
        step = h.stands.step;
        there = get_reverse steps place h.place h.stands.step (omega (arith, inside)) h.stands.there;
        is_group = h.stands.is_group;
        is_lit = h.stands.is_lit;
      };
    }

cause_of_step : (s : System) (U : ConstraintName → Bool) (sets : List UnitSet) (marks : List (List ℕ)) (steps : List Step) (k j group : ℕ) (lit : Literal) (why : Cause) → k + j + 1 ≡ length steps
    → IsRightCause s U group lit why → EachPremise (IsDue sets marks 0 0 steps j) group lit why → IsCause s U (reverse steps) k group lit why
cause_of_step s U sets marks steps k j group lit (Clause name c) e right due = record {
  clause = right.0;
  order = right.1;
  few = right.2;
  holds = right.3;
  denied = λ m has ne. before_of steps k j group (opposite m) e (no_more sets marks steps j group (opposite m) (due m has ne));
}
cause_of_step s U sets marks steps k j group lit (Site site lower m) e right due = record {
  site_there = right.0;
  called = right.1;
  stands = right.2;
  before = before_of steps k j lower m e (no_more sets marks steps j lower m due);
}

split_last : (x : Step) (xs : List Step) → (before : List Step) × (last : Step) × (x ∷ xs ≡ before ++ last ∷ [])
split_last x [] = ([], x, refl)
split_last x (y ∷ xs) = let r = split_last y xs in (x ∷ r.0, r.1, ap (λ (ls : List Step). x ∷ ls) r.2)

split_some : (xs : List Step) → 0 < length xs → (before : List Step) × (last : Step) × (xs ≡ before ++ last ∷ [])
split_some [] lt = absurd (omega arith)
split_some (x ∷ xs) lt = split_last x xs

pub collected_all : (s : System) (U : ConstraintName → Bool) (sets : List UnitSet) (last clash : ℕ) (lit : Literal) (marks : List (List ℕ)) (steps : List Step) → last ≤ root s
    → AreConsistent (take clash (found_in sets last)) → ((g : ℕ) → g < last → AreConsistent (found_in sets g))
    → AreCollected s U sets last clash lit marks 0 0 steps → EndsIn s U last lit (reverse steps)
collected_all s U sets last clash lit marks steps le own lower h = record {
  is = record { each = each; once = once; consistent = consistent; clash = record { before = parts.0; last = parts.1; is = parts.2; clash = clash_before } };
  is_group = top.0;
  is_lit = top.1;
}
  where
    some : 0 < length steps
    some = ⊎_elim (λ (e : length steps ≡ 0). absurd (let n = (h.none e).1 in omega (arith, n))) (λ (ne : length steps ≢ 0). omega (arith, ne)) (cases_eq (length steps) 0)

    size : length (reverse steps) ≡ length steps
    size = length-reverse steps

    parts : (before : List Step) × (last : Step) × (reverse steps ≡ before ++ last ∷ [])
    parts = split_some (reverse steps) (omega (arith, some, size))

    many : length steps ≡ length parts.0 + 1
    many = sym size ∙ ap length parts.2 ∙ length_push parts.0 parts.1

    -- the last step is the one that was collected first
    there : slice_get steps 0 ≡ Some parts.1
    there =
        let at_end : slice_get (reverse steps) (length parts.0) ≡ Some parts.1 = ap (λ (ls : List Step). slice_get ls (length parts.0)) parts.2 ∙ get_next parts.0 parts.1 in
        let r = reverse_get steps (length parts.0) parts.1 at_end in
        let sum = r.1 in
        let zero_is : r.0 ≡ 0 = omega (arith, sum, many) in
        ap (slice_get steps) (sym zero_is) ∙ r.2

    top : (parts.1.group ≡ last) × (parts.1.lit ≡ lit)
    top = h.first parts.1 there

    clash_before : StandsBefore (reverse steps) (length parts.0) parts.1.group (opposite parts.1.lit)
    clash_before =
        subst (λ (g : ℕ). StandsBefore (reverse steps) (length parts.0) g (opposite parts.1.lit)) (sym top.0)
        (subst (λ (x : Literal). StandsBefore (reverse steps) (length parts.0) last (opposite x)) (sym top.1)
        (before_of steps (length parts.0) 0 last (opposite lit) (omega (arith, many)) (no_more sets marks steps 0 last (opposite lit) h.opposite_due)))

    each : (k : ℕ) (step : Step) → slice_get (reverse steps) k ≡ Some step → IsStep s U (reverse steps) k step
    each k step at =
        let r = reverse_get steps k step at in
        let right = h.each r.0 step r.2 in
        record {
          group = let below = right.group in omega (arith, below, le);
          some = (h.roomy r.0 step r.2).some;
          within = right.within;
          cause = cause_of_step s U sets marks steps k r.0 step.group step.lit step.cause r.1 right.cause (h.due r.0 step r.2);
        }

    once : IsOnce (reverse steps)
    once j k e f at_j at_k g m =
        let a = reverse_get steps j e at_j in
        let b = reverse_get steps k f at_k in
        let same = h.once a.0 b.0 e f a.2 b.2 g m in
        let p = a.1 in
        let q = b.1 in
        omega (arith, same, p, q)

    in_front : (k : ℕ) (e : Step) → k + 1 < length (reverse steps) → slice_get (reverse steps) k ≡ Some e → Contains (front sets last clash e.group) e.lit
    in_front k e lt at =
        let a = reverse_get steps k e at in
        let p = a.1 in
        let before : a.0 ≡ (a.0 - 1) + 1 = omega (arith, p, lt, size) in
        h.others (a.0 - 1) e (ap (slice_get steps) (sym before) ∙ a.2)

    front_consistent : (g : ℕ) → g ≤ last → AreConsistent (front sets last clash g)
    front_consistent g below = ⊎_elim (λ (e : g ≡ last). subst AreConsistent (sym (front_last sets last clash g e)) own)
        (λ (ne : g ≢ last). subst AreConsistent (sym (front_other sets last clash g ne)) (lower g (omega (arith, below, ne)))) (cases_eq g last)

    consistent : IsConsistent (reverse steps)
    consistent j k e f lt_j lt_k at_j at_k g m =
        let b = reverse_get steps k f at_k in
        front_consistent f.group (h.each b.0 f b.2).group f.lit (in_front k f lt_k at_k)
        (subst (λ (x : Literal). Contains (front sets last clash f.group) x) m (subst (λ (q : ℕ). Contains (front sets last clash q) e.lit) g (in_front j e lt_j at_j)))

-- Marks

pub mark_adds : (marks : List (List ℕ)) (group : ℕ) (lit : Literal) → HasRoom marks group lit → AddsMarks marks (with_number marks group lit 1)
mark_adds marks group lit room = record { kept = λ g l h. kept g l h (cases_eq g group) (cases_Bool (literal_eq l lit)); room = λ g l r. room_kept marks group g lit l 1 r }
  where
    kept : (g : ℕ) (l : Literal) → IsMarked marks g l → (g ≡ group) ⊎ (g ≢ group) → (literal_eq l lit ≡ true) ⊎ (literal_eq l lit ≡ false) → IsMarked (with_number marks group lit 1) g l
    kept g l h (inl e) (inl q) =
        subst (λ (x : ℕ). IsMarked (with_number marks group lit 1) x l) (sym e)
        (subst (λ (x : Literal). IsMarked (with_number marks group lit 1) group x) (sym (literal_eq-true l lit q)) (number_same marks group lit 1 room))
    kept g l h (inl e) (inr q) = number_other marks group g lit l 1 (λ z y. false≢true (sym q ∙ literal_eq-of l lit y)) ∙ h
    kept g l h (inr ne) q = number_other marks group g lit l 1 (λ z y. ne z) ∙ h

pub mark_is : (marks : List (List ℕ)) (group : ℕ) (lit : Literal) → HasRoom marks group lit → IsMarked (with_number marks group lit 1) group lit
mark_is marks group lit room = number_same marks group lit 1 room

-- one literal of a clause more
pub marked_step : (old new : List (List ℕ)) (c : List Literal) (i group : ℕ) (lit m : Literal) → slice_get c i ≡ Some m → AddsMarks old new
    → ((n : Literal) → Contains (take i c) n → n ≢ lit → IsMarked old group (opposite n)) → (m ≢ lit → IsMarked new group (opposite m))
    → (n : Literal) → Contains (take (i + 1) c) n → n ≢ lit → IsMarked new group (opposite n)
marked_step old new c i group lit m at adds h here n has ne =
    ⊎_elim (λ (o : Contains (take i c) n). adds.kept group (opposite n) (h n o ne))
    (λ (e : m ≡ n). subst (λ (x : Literal). IsMarked new group (opposite x)) e (here (λ q. ne (sym e ∙ q))))
    (Contains-push_cases (take i c) m n (subst (λ (ls : List Literal). Contains ls n) (take_at_more c i m at) has))

-- What was found

pub found_at : (sets : List UnitSet) (group p : ℕ) (f : Finding) → slice_get (set_at sets group).findings p ≡ Some f → slice_get (found_in sets group) p ≡ Some f.lit
found_at sets group p f at = slice_get-map lit_of (set_at sets group).findings p ∙ ap (option_map lit_of) at

pub lit_found_is : (sets : List UnitSet) (group p : ℕ) (l : Literal) → slice_get (found_in sets group) p ≡ Some l → lit_found sets group p ≡ l
lit_found_is sets group p l at = get_or_from_slice_get (found_in sets group) p l (yes 0) at

pub found_there : (sets : List UnitSet) (group p : ℕ) → p < length (found_in sets group) → slice_get (found_in sets group) p ≡ Some (lit_found sets group p)
found_there sets group p lt = slice_get-get_or (found_in sets group) p (yes 0) lt

from_take : (xs : List Literal) (n : ℕ) (x : Literal) → Contains (take n xs) x → Contains xs x
from_take xs zero x h = absurd (let lt = h.1 in omega (arith, lt))
from_take [] (suc n) x h = h
from_take (y ∷ xs) (suc n) x (zero, lt, e) = (0, omega arith, e)
from_take (y ∷ xs) (suc n) x (suc k, lt, e) = let r = from_take xs n x (k, (let l : k < length (take n xs) = omega (arith, lt) in l), e) in (suc r.0, (let l = r.1 in omega (arith, l)), r.2)

-- The cause of what was found

module _ (s : System) (U : ConstraintName → Bool) (rows : ℕ → List NamedClause) (sets : List UnitSet) (group p : ℕ) (f : Finding)
    (reasoned : AreReasoned s rows sets) (unknowns : AreOfUnknowns s sets) (le : group ≤ root s) (at : slice_get (set_at sets group).findings p ≡ Some f) where
  lit_is : lit_found sets group p ≡ f.lit
  lit_is = lit_found_is sets group p f.lit (found_at sets group p f at)

  reason : IsReason s group (rows group) sets [] (take p (found_in sets group)) f.reason f.lit
  reason = reasoned.each group p f le at

  pub not_given : f.reason ≡ why.Given → ⊥
  not_given e = let none = subst (λ (r : Reason). IsReason s group (rows group) sets [] (take p (found_in sets group)) r f.lit) e reason in let lt = none.1 in omega (arith, lt)

  forced_by : (k : ℕ) → f.reason ≡ why.Clause k → IsForcedBy (rows group) (take p (found_in sets group)) k f.lit
  forced_by k e = subst (λ (r : Reason). IsReason s group (rows group) sets [] (take p (found_in sets group)) r f.lit) e reason

  carried_by : (site : ℕ) (m : Literal) → f.reason ≡ why.Site site m → IsCarriedBy s group sets site m f.lit
  carried_by site m e = subst (λ (r : Reason). IsReason s group (rows group) sets [] (take p (found_in sets group)) r f.lit) e reason

  pub no_table : (k : ℕ) → f.reason ≡ why.Clause k → rows group ≡ [] → ⊥
  no_table k e none =
      let h = forced_by k e in
      let lt : k < 0 = subst (λ (rs : List NamedClause). k < length rs) none (slice_get_within (rows group) k h.row h.at) in
      omega (arith, lt)

  pub row_there : (k : ℕ) (table : List NamedClause) → f.reason ≡ why.Clause k → table ≡ rows group → k < length table
  row_there k table e is = let h = forced_by k e in subst (λ (rs : List NamedClause). k < length rs) (sym is) (slice_get_within (rows group) k h.row h.at)

  row_is : (k : ℕ) (table : List NamedClause) (e : f.reason ≡ why.Clause k) → table ≡ rows group → slice_index_or table k no_clause ≡ (forced_by k e).row
  row_is k table e is = ap (λ (rs : List NamedClause). slice_index_or rs k no_clause) is ∙ get_or_from_slice_get (rows group) k (forced_by k e).row no_clause (forced_by k e).at

  -- the unknowns of a clause that forces are from 1 on
  row_some : (k : ℕ) (e : f.reason ≡ why.Clause k) (m : Literal) → Contains (forced_by k e).row.lits m → 0 < m.var
  row_some k e m has = elim (cases_Bool (literal_eq m f.lit)) [
    | inl q ↦
        let own = (unknowns group f.lit le (contains_at (found_in sets group) p f.lit (found_at sets group p f at))).0 in
        let same = ap (λ (l : Literal). l.var) (literal_eq-true m f.lit q) in
        omega (arith, own, same)
    | inr q ↦ (unknowns group (opposite m) le (from_take (found_in sets group) p (opposite m) ((forced_by k e).denied m has (λ y. false≢true (sym q ∙ literal_eq-of m f.lit y))))).0
  ]

  pub row_ascends : (k : ℕ) (table : List NamedClause) (c : List Literal) → AreTables s U rows → f.reason ≡ why.Clause k → table ≡ rows group → c ≡ (slice_index_or table k no_clause).lits → Ascends 0 c
  row_ascends k table c tables e is own =
      subst (λ (ls : List Literal). Ascends 0 ls) (sym (own ∙ ap (λ (r : NamedClause). r.lits) (row_is k table e is))) (tables.order group k (forced_by k e).row le (forced_by k e).at (row_some k e))

  pub cause_forced : (k : ℕ) (table : List NamedClause) (name : ConstraintName) (c : List Literal) → AreTables s U rows → f.reason ≡ why.Clause k → table ≡ rows group
      → c ≡ (slice_index_or table k no_clause).lits → name ≡ (slice_index_or table k no_clause).name → IsCauseFound s U sets group p (Clause name c)
  cause_forced k table name c tables e is own named =
      let h = forced_by k e in
      let lits : c ≡ h.row.lits = own ∙ ap (λ (r : NamedClause). r.lits) (row_is k table e is) in
      let name_is : name ≡ h.row.name = named ∙ ap (λ (r : NamedClause). r.name) (row_is k table e is) in
      subst (λ (ls : List Literal). IsCauseFound s U sets group p (Clause name ls)) (sym lits)
      (subst (λ (n : ConstraintName). IsCauseFound s U sets group p (Clause n h.row.lits)) (sym name_is)
      (subst (λ (l : Literal). IsRightCause s U group l (Clause h.row.name h.row.lits) × EachPremise (IsFoundBefore sets group p) group l (Clause h.row.name h.row.lits)) (sym lit_is)
      ((tables.clause group k h.row le h.at, tables.order group k h.row le h.at (row_some k e), tables.few group k h.row le h.at, h.holds), λ m has ne. inr (refl, h.denied m has ne))))

  pub site_there : (site : ℕ) (m : Literal) → f.reason ≡ why.Site site m → site < length (callees s group)
  site_there site m e = (carried_by site m e).there

  pub cause_carried : (site lower : ℕ) (m : Literal) → f.reason ≡ why.Site site m → lower ≡ (callee s group site).group → IsCauseFound s U sets group p (Site site lower m)
  cause_carried site lower m e is =
      let h = carried_by site m e in
      subst (λ (g : ℕ). IsCauseFound s U sets group p (Site site g m)) (sym is)
      (subst (λ (l : Literal). IsRightCause s U group l (Site site (callee s group site).group m) × EachPremise (IsFoundBefore sets group p) group l (Site site (callee s group site).group m)) (sym lit_is)
      ((h.there, refl, h.stands), inl (h.lower, h.found)))

-- The contradiction that is asked for

room_before : (sets : List UnitSet) (last at p : ℕ) (marks : List (List ℕ)) (group : ℕ) (lit : Literal) → HasRoomFor sets last marks → at ≤ last → IsFoundBefore sets at p group lit → HasRoom marks group lit
room_before sets last at p marks group lit room le (inl h) = room group lit (let lt = h.0 in omega (arith, lt, le)) h.1
room_before sets last at p marks group lit room le (inr h) =
    subst (λ (g : ℕ). HasRoom marks g lit) (sym h.0) (room at lit le (from_take (found_in sets at) p lit h.1))

module _ (s : System) (U : ConstraintName → Bool) (rows : ℕ → List NamedClause) (sets : List UnitSet) (c : Contradiction) (asked : IsAsked s U rows sets c) where
  pub last_below : c.group ≤ root s
  last_below = let lt = asked.contradiction.within in let n = asked.count in omega (arith, lt, n)

  pub clash_there : slice_get (found_in sets c.group) c.place ≡ Some (lit_found sets c.group c.place)
  clash_there = found_there sets c.group c.place (slice_get_within (found_in sets c.group) c.place asked.contradiction.clash.lit asked.contradiction.clash.at)

  clash_is : lit_found sets c.group c.place ≡ asked.contradiction.clash.lit
  clash_is = lit_found_is sets c.group c.place asked.contradiction.clash.lit asked.contradiction.clash.at

  pub clash_inside : c.place < length (found_in sets c.group)
  clash_inside = slice_get_within (found_in sets c.group) c.place asked.contradiction.clash.lit asked.contradiction.clash.at

  pub opposite_inside : Contains (found_in sets c.group) (opposite (lit_found sets c.group c.place))
  opposite_inside = subst (λ (l : Literal). Contains (found_in sets c.group) (opposite l)) (sym clash_is) (from_take (found_in sets c.group) c.place (opposite asked.contradiction.clash.lit) asked.contradiction.clash.before)

  apart : (g j k : ℕ) (x : Literal) → g ≤ c.group → slice_get (found_in sets g) j ≡ Some x → slice_get (found_in sets g) k ≡ Some x → j ≡ k
  apart g j k x le at_j at_k = asked.reasoned.once g j k x (omega (arith, le, last_below)) at_j at_k

  pub asked_none : (marks : List (List ℕ)) (steps : List Step) → steps ≡ [] → HasRoomFor sets c.group marks → IsMarked marks c.group (lit_found sets c.group c.place)
      → IsMarked marks c.group (opposite (lit_found sets c.group c.place)) → AreCollected s U sets c.group c.place (lit_found sets c.group c.place) marks c.group (c.place + 1) steps
  asked_none marks steps empty room first second = subst (λ (xs : List Step). AreCollected s U sets c.group c.place (lit_found sets c.group c.place) marks c.group (c.place + 1) xs) (sym empty) (record {
    room = room;
    roomy = λ k x at. cc;
    each = λ k x at. cc;
    due = λ k x at. absurd (let lt = slice_get_within [] k x at in omega (arith, lt));
    once = λ j k x y at_j at_k g l. absurd (let lt = slice_get_within [] j x at_j in omega (arith, lt));
    none = λ z. (refl, refl, first);
    first = λ x at. absurd (let lt = slice_get_within [] 0 x at in omega (arith, lt));
    others = λ k x at. absurd (let lt = slice_get_within [] (k + 1) x at in omega (arith, lt));
    opposite_due = inr (
      second,
      inr (
        refl,
        subst (λ (ls : List Literal). Contains ls (opposite (lit_found sets c.group c.place)))
            (sym (take_at_more (found_in sets c.group) c.place (lit_found sets c.group c.place) clash_there))
            (Contains-append_left (take c.place (found_in sets c.group)) (lit_found sets c.group c.place ∷ []) (opposite (lit_found sets c.group c.place))
            (subst (λ (l : Literal). Contains (take c.place (found_in sets c.group)) (opposite l)) (sym clash_is) asked.contradiction.clash.before)),
      ),
    );
  })

  pub asked_skip : (marks : List (List ℕ)) (at p next number : ℕ) (steps : List Step) (l : Literal) → next ≡ p + 1 → at ≤ c.group → p < length (found_in sets at) → l ≡ lit_found sets at p
      → number ≡ number_of marks at l → number ≢ 1
      → AreCollected s U sets c.group c.place (lit_found sets c.group c.place) marks at next steps → AreCollected s U sets c.group c.place (lit_found sets c.group c.place) marks at p steps
  asked_skip marks at p next number steps l e le lt is read ne h =
      collected_skip s U sets c.group c.place (lit_found sets c.group c.place) marks at p steps (lit_found sets at p) clash_there (found_there sets at p lt)
      (λ marked. ne (read ∙ ap (number_of marks at) is ∙ marked))
      (subst (λ (n : ℕ). AreCollected s U sets c.group c.place (lit_found sets c.group c.place) marks at n steps) e h)

  pub premises_room : (marks : List (List ℕ)) (at p next : ℕ) (steps : List Step) (l : Literal) (why : Cause) → at ≤ c.group → l ≡ lit_found sets at p → IsCauseFound s U sets at p why
      → AreCollected s U sets c.group c.place (lit_found sets c.group c.place) marks at next steps → EachPremise (HasRoom marks) at l why
  premises_room marks at p next steps l why le is found h =
      subst (λ (x : Literal). EachPremise (HasRoom marks) at x why) (sym is)
      (each_map (IsFoundBefore sets at p) (HasRoom marks) at (lit_found sets at p) why (λ g m b. room_before sets c.group at p marks g m h.room le b) found.1)

  pub asked_push : (old new : List (List ℕ)) (at p next : ℕ) (steps others : List Step) (l : Literal) (why : Cause) → next ≡ p + 1 → at ≤ c.group → p < length (found_in sets at) → l ≡ lit_found sets at p → 0 < l.var
      → IsCauseFound s U sets at p why → AddsMarks old new → EachPremise (IsMarked new) at l why → others ≡ steps ++ record { group = at; lit = l; cause = why } ∷ []
      → AreCollected s U sets c.group c.place (lit_found sets c.group c.place) old at next steps → AreCollected s U sets c.group c.place (lit_found sets c.group c.place) new at p others
  asked_push old new at p next steps others l why e le lt is some found adds marked grown h =
      subst (λ (xs : List Step). AreCollected s U sets c.group c.place (lit_found sets c.group c.place) new at p xs) (sym grown)
      (collected_push s U sets c.group c.place (lit_found sets c.group c.place) old new at p steps step l clash_there apart le here refl refl bound right adds roomy premises
      (subst (λ (n : ℕ). AreCollected s U sets c.group c.place (lit_found sets c.group c.place) old at n steps) e h))
    where
      step : Step
      step = record { group = at; lit = l; cause = why }

      here : slice_get (found_in sets at) p ≡ Some l
      here = found_there sets at p lt ∙ ap Some (sym is)

      has : Contains (found_in sets at) l
      has = contains_at (found_in sets at) p l here

      bound : l.var ≤ count s at
      bound = (asked.unknowns at l (omega (arith, le, last_below)) has).1

      right : IsRightCause s U at l why
      right = subst (λ (x : Literal). IsRightCause s U at x why) (sym is) found.0

      before : EachPremise (IsFoundBefore sets at p) at l why
      before = subst (λ (x : Literal). EachPremise (IsFoundBefore sets at p) at x why) (sym is) found.1

      both : (w : Cause) → EachPremise (IsMarked new) at l w → EachPremise (IsFoundBefore sets at p) at l w → EachPremise (λ g m. IsMarked new g m × IsFoundBefore sets at p g m) at l w
      both (Clause name k) a b = λ m q ne. (a m q ne, b m q ne)
      both (Site site lower m) a b = (a, b)

      premises : EachPremise (λ g m. IsMarked new g m × IsFoundBefore sets at p g m) at l why
      premises = both why marked before

      roomy_cause : (w : Cause) → IsRightCause s U at l w → EachPremise (HasRoom new) at l w → IsRoomyCause new at l w
      roomy_cause (Clause name k) r q = (r.1, r.2, q)
      roomy_cause (Site site lower m) r q = q

      roomy : IsRoomy new step
      roomy = record {
        some = some;
        own = adds.room at l (h.room at l le has);
        cause = roomy_cause why right (each_map (IsFoundBefore sets at p) (HasRoom new) at l why (λ g m b. adds.room g m (room_before sets c.group at p old g m h.room le b)) before);
      }

  pub asked_group : (marks : List (List ℕ)) (at next end : ℕ) (steps : List Step) → next ≡ at + 1 → end ≡ length (set_at sets at).findings
      → AreCollected s U sets c.group c.place (lit_found sets c.group c.place) marks next 0 steps → AreCollected s U sets c.group c.place (lit_found sets c.group c.place) marks at end steps
  asked_group marks at next end steps e size h =
      subst (λ (n : ℕ). AreCollected s U sets c.group c.place (lit_found sets c.group c.place) marks at n steps) (length-map (set_at sets at).findings lit_of ∙ sym size)
      (collected_group s U sets c.group c.place (lit_found sets c.group c.place) marks at next steps e h)

  pub asked_end : (marks : List (List ℕ)) (steps : List Step) (lit : Literal) → lit ≡ lit_found sets c.group c.place
      → AreCollected s U sets c.group c.place (lit_found sets c.group c.place) marks 0 0 steps → EndsIn s U c.group lit (reverse steps)
  asked_end marks steps lit is h =
      subst (λ (l : Literal). EndsIn s U c.group l (reverse steps)) (sym is)
      (collected_all s U sets c.group c.place (lit_found sets c.group c.place) marks steps last_below asked.contradiction.clash.consistent asked.contradiction.lower h)

pub roomy_reverse : (marks : List (List ℕ)) (steps : List Step) → AreRoomy marks steps → AreRoomy marks (reverse steps)
roomy_reverse marks steps h k step at = let r = reverse_get steps k step at in h r.0 step r.2

pub found_room : (sets : List UnitSet) (last at p : ℕ) (marks : List (List ℕ)) (l : Literal) → HasRoomFor sets last marks → at ≤ last → p < length (found_in sets at) → l ≡ lit_found sets at p → HasRoom marks at l
found_room sets last at p marks l room le lt is = room at l le (contains_at (found_in sets at) p l (found_there sets at p lt ∙ ap Some (sym is)))

-- a row more
pub rows_push : (sets : List UnitSet) (i : ℕ) (rows others : List (List ℕ)) (r : List ℕ) (findings : List Finding) → others ≡ rows ++ r ∷ [] → length rows ≡ i → findings ≡ (set_at sets i).findings
    → ((k : ℕ) (f : Finding) → slice_get findings k ≡ Some f → code_of f.lit < length r)
    → ((group : ℕ) (lit : Literal) → group < i → Contains (found_in sets group) lit → HasRoom rows group lit)
    → (group : ℕ) (lit : Literal) → group < i + 1 → Contains (found_in sets group) lit → HasRoom others group lit
rows_push sets i rows others r findings e size own wide room group lit lt has =
    subst (λ (rs : List (List ℕ)). HasRoom rs group lit) (sym e)
    (⊎_elim (λ (q : group ≡ i). last q) (λ (ne : group ≢ i). old (omega (arith, lt, ne))) (cases_eq group i))
  where
    old : group < i → HasRoom (rows ++ r ∷ []) group lit
    old less =
        let same = ap length (get_or_append_left rows (r ∷ []) [] group (omega (arith, less, size))) in
        let h = room group lit less has in
        omega (arith, same, h)

    last : group ≡ i → HasRoom (rows ++ r ∷ []) group lit
    last q =
        let same = ap (λ (k : ℕ). length (get_or (rows ++ r ∷ []) k [])) (q ∙ sym size) ∙ ap length (get_or-append_seam rows r [] []) in
        let at = at_contains (found_in sets i) lit (subst (λ (k : ℕ). Contains (found_in sets k) lit) q has) in
        let inside = slice_get_within (found_in sets i) at.0 lit at.1 in
        let count = length-map (set_at sets i).findings lit_of in
        let f = get_below (set_at sets i).findings at.0 (omega (arith, inside, count)) in
        let lit_same : f.0.lit ≡ lit = same_some f.0.lit lit (sym (found_at sets i at.0 f.0 f.1) ∙ at.1) in
        let bound = wide at.0 f.0 (ap (λ (fs : List Finding). slice_get fs at.0) own ∙ f.1) in
        let code_same = ap code_of lit_same in
        omega (arith, same, bound, code_same)

-- marks on the two literals of the contradiction
pub clash_room : (sets : List UnitSet) (last : ℕ) (marks : List (List ℕ)) (lit : Literal) → HasRoomFor sets last marks → HasRoomFor sets last (with_number marks last lit 1)
clash_room sets last marks lit room g l le has = room_kept marks last g lit l 1 (room g l le has)

pub clash_marks : (marks : List (List ℕ)) (group : ℕ) (lit l : Literal) → lit ≡ l → HasRoom marks group lit → HasRoom marks group (opposite lit)
    → IsMarked (with_number (with_number marks group lit 1) group (opposite lit) 1) group l × IsMarked (with_number (with_number marks group lit 1) group (opposite lit) 1) group (opposite l)
clash_marks marks group lit l e first second =
    let one = with_number marks group lit 1 in
    let room = room_kept marks group group lit (opposite lit) 1 second in
    subst (λ (x : Literal). IsMarked (with_number one group (opposite lit) 1) group x × IsMarked (with_number one group (opposite lit) 1) group (opposite x)) e
    ((mark_adds one group (opposite lit) room).kept group lit (mark_is marks group lit first), mark_is one group (opposite lit) room)
