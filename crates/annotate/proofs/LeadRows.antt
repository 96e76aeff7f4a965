-- Owning fields from struct to struct.
use Rattle.std.proofs.Common.{◌≡◌, ℕ, zero, suc, ◌+◌, ◌<◌, ◌≤◌, ◌⊎◌, inl, inr, ◌↔◌, Bool, true, false, cond, List, [], ◌∷◌, ◌++◌, length, get_or, set, eqb, Option, Some, None, refl, sym, ap, subst, ◌∙◌, arith}
use Rattle.std.proofs.lemmas.Bool.{cases_lt, cases_eq, eqb-true, eq-eqb, false≢true}
use Rattle.std.proofs.lemmas.List.{get_or_past, length-set, get_or-set_same, get_or-set_other}
use Rattle.std.proofs.lemmas.List.Elements.{Contains-push, Contains-push_cases, Contains-append_left, All-get_or}
use Rattle.std.specs.List.{Contains, All}
use Rattle.std.specs.Option.{option_map_or}
use Rattle.std.specs.Prelude.{slice_get}
use Rattle.c_types.specs.declared.kinds.SlotType.{SlotType}
use Rattle.c_types.specs.declared.kinds.SlotType.TheVariants as type
use Rattle.flow_graph.specs.FlowGraph.{FlowGraph, members_of, member_type}
use Rattle.flow_graph.specs.Fits.{IsFlowGraph, HasPointer, TypeExists}
use Rattle.owner_vars.specs.Fields.{points_to, field_owner, field_member, field_target, field_number}
use Rattle.owner_vars.specs.Laws.{FieldsAreNumbered}
use Rattle.owner_vars.specs.Tables.{listed}
use Rattle.owner_vars.specs.Unknowns.{field_count}
use Rattle.owner_vars.proofs.Lists.{length-listed, get_or-listed}
use Rattle.annotate.specs.Keeps.{field_owns, lead_of, leads_back, Leads, LeadsAlong, LeadsOn, LeadsBack, TellsBack, AreLeads, with_lead}
use Rattle.annotate.specs.Reach.{Steps, StepsAlong, Reaches, AreMutual, AreWithin}
use Rattle.annotate.specs.Rings.{mark_at, AreRings}

-- What leads where exists

module _ (g : FlowGraph) (graph : IsFlowGraph g) (numbered : FieldsAreNumbered g) (f : ℕ) (some : 0 < f) (within : f ≤ field_count g) where
  has : HasPointer (members_of g (field_owner g f)) (field_member g f)
  has = numbered.each f some within

  pub owner_exists : field_owner g f < length g.structs
  owner_exists = elim (cases_lt (field_owner g f) (length g.structs)) [
    | inl lt ↦ lt
    | inr past ↦ absurd (none (subst (λ ts. HasPointer ts (field_member g f)) (get_or_past g.structs (field_owner g f) [] past) has))
  ]
    where
      none : HasPointer [] (field_member g f) → ⊥
      none h = let e : None ≡ Some h.type = h.is in cc

  pub target_exists : (z : ℕ) → field_target g f ≡ Some z → z < length g.structs
  target_exists z to = from (member_type g (field_owner g f) (field_member g f)) exists (sym pointed ∙ to)
    where
      pointed : field_target g f ≡ points_to (member_type g (field_owner g f) (field_member g f))
      pointed = sym (ap (field_target g) (numbered.back f some within)) ∙ numbered.target (field_owner g f) (field_member g f) has

      read : (ts : List SlotType) (m : ℕ) (t : SlotType) → slice_get ts m ≡ Some t → m < length ts
      read [] m t e = let d : None ≡ Some t = e in cc
      read (s ∷ ts) zero t e = omega arith
      read (s ∷ ts) (suc m) t e = let lt = read ts m t e in omega arith

      exists : TypeExists g (member_type g (field_owner g f) (field_member g f))
      exists =
          All-get_or (TypeExists g) (members_of g (field_owner g f)) (field_member g f) type.Int (read (members_of g (field_owner g f)) (field_member g f) has.type has.is)
          (All-get_or (All (TypeExists g)) g.structs (field_owner g f) [] owner_exists graph.members)

      from : (t : SlotType) → TypeExists g t → points_to t ≡ Some z → z < length g.structs
      from type.Int h e = let d : None ≡ Some z = e in cc
      from type.Char h e = let d : None ≡ Some z = e in cc
      from type.IntPtr h e = let d : None ≡ Some z = e in cc
      from type.CharPtr h e = let d : None ≡ Some z = e in cc
      from (type.StructPtr s) h e = let same : Some s ≡ Some z = e in let at : s ≡ z = cc in subst (λ n. n < length g.structs) at h

-- Leads of the first fields

module _ (g : FlowGraph) (phi : List Bool) where
  lead_parts : (f z : ℕ) → lead_of g phi f ≡ Some z → (field_owns phi f ≡ true) × (field_target g f ≡ Some z)
  lead_parts f z e = split (field_owns phi f) refl e
    where
      split : (b : Bool) → field_owns phi f ≡ b → cond b (field_target g f) None ≡ Some z → (field_owns phi f ≡ true) × (field_target g f ≡ Some z)
      split true is h = (is, h)
      split false is h = let d : None ≡ Some z = h in cc

  lead_is : (f z : ℕ) → field_owns phi f ≡ true → field_target g f ≡ Some z → lead_of g phi f ≡ Some z
  lead_is f z owns to = ap (λ b. cond b (field_target g f) None) owns ∙ to

  pub record Below (i s z : ℕ) : Type 0 where
    pub lead : Leads g phi s z
    pub below : lead.field ≤ i

  below_more : (i s z : ℕ) → Below i s z → Below (i + 1) s z
  below_more i s z h = record { lead = h.lead; below = omega (arith, h.below) }

  below_new : (i s z : ℕ) → i + 1 ≤ field_count g → field_owner g (i + 1) ≡ s → lead_of g phi (i + 1) ≡ Some z → Below (i + 1) s z
  below_new i s z within from is =
      let parts = lead_parts (i + 1) z is in
      record { lead = record { field = i + 1; some = omega arith; within = within; owns = parts.0; from = from; to = parts.1 }; below = omega arith }

  below_cases : (i s z : ℕ) → Below (i + 1) s z → Below i s z ⊎ ((field_owner g (i + 1) ≡ s) × (lead_of g phi (i + 1) ≡ Some z))
  below_cases i s z h = elim (cases_lt h.lead.field (i + 1)) [
    | inl lt ↦ inl (record { lead = h.lead; below = omega (arith, lt) })
    | inr le ↦
        let at : h.lead.field ≡ i + 1 = omega (arith, le, h.below) in
        inr (subst (λ f. (field_owner g f ≡ s) × (lead_of g phi f ≡ Some z)) at (h.lead.from, lead_is h.lead.field z h.lead.owns h.lead.to))
  ]

  -- the lists have the leads of the first i fields
  pub record UpTo (i : ℕ) (lists : List (List ℕ)) : Type 0 where
    pub count : length lists ≡ length g.structs
    pub each : (s z : ℕ) → Contains (get_or lists s []) z ↔ Below i s z

  pub none_yet : (lists : List (List ℕ)) → lists ≡ listed (length g.structs) (λ n. []) → UpTo 0 lists
  none_yet lists made = record {
    count = ap length made ∙ length-listed {X = List ℕ} (length g.structs) (λ n. []);
    each = λ s z. ((λ h. absurd (empty s z (subst (λ xs. Contains (get_or xs s []) z) made h))), (λ h. absurd (omega (arith, h.below, h.lead.some))));
  }
    where
      empty : (s z : ℕ) → Contains (get_or (listed (length g.structs) (λ (n : ℕ). [])) s []) z → ⊥
      empty s z h = elim (cases_lt s (length g.structs)) [
        | inl lt ↦ nothing z (subst (λ (xs : List ℕ). Contains xs z) (get_or-listed (length g.structs) s (λ (n : ℕ). []) [] lt) h)
        | inr le ↦ nothing z (subst (λ (xs : List ℕ). Contains xs z) (get_or_past (listed (length g.structs) (λ (n : ℕ). [])) s [] (let e = length-listed {X = List ℕ} (length g.structs) (λ (n : ℕ). []) in omega (arith, e, le))) h)
      ]
        where
          nothing : (z : ℕ) → Contains {X = ℕ} [] z → ⊥
          nothing z c = omega (arith, c.1)

  pub skipped : (i : ℕ) (lists : List (List ℕ)) → UpTo i lists → lead_of g phi (i + 1) ≡ None → UpTo (i + 1) lists
  skipped i lists so_far is = record {
    count = so_far.count;
    each = λ s z. (
      (λ h. below_more i s z ((so_far.each s z).0 h)),
      (λ h. elim (below_cases i s z h) [ inl k ↦ (so_far.each s z).1 k | inr k ↦ absurd (let d : None ≡ Some z = sym is ∙ k.1 in cc) ]),
    );
  }

  module _ (i : ℕ) (lists new : List (List ℕ)) (from to : ℕ) (so_far : UpTo i lists) (within : i + 1 ≤ field_count g)
      (from_is : from ≡ field_owner g (i + 1)) (is : lead_of g phi (i + 1) ≡ Some to) (lt : from < length lists) (made : new ≡ set lists from (get_or lists from [] ++ to ∷ [])) where
    same : (s : ℕ) → s ≡ from → get_or new s [] ≡ get_or lists s [] ++ to ∷ []
    same s e =
        ap (λ xs. get_or xs s []) made ∙ ap (λ k. get_or (set lists from (get_or lists from [] ++ to ∷ [])) k []) e
        ∙ get_or-set_same lists from (get_or lists from [] ++ to ∷ []) [] lt ∙ ap (λ k. get_or lists k [] ++ to ∷ []) (sym e)

    other : (s : ℕ) → (s ≡ from → ⊥) → get_or new s [] ≡ get_or lists s []
    other s n = ap (λ xs. get_or xs s []) made ∙ get_or-set_other lists from s (get_or lists from [] ++ to ∷ []) [] n

    at : (s z : ℕ) → s ≡ from → Contains (get_or new s []) z ↔ Below (i + 1) s z
    at s z e = (
      (λ h. elim (Contains-push_cases (get_or lists s []) to z (subst (λ xs. Contains xs z) (same s e) h)) [
        | inl k ↦ below_more i s z ((so_far.each s z).0 k)
        | inr k ↦ below_new i s z within (sym from_is ∙ sym e) (is ∙ ap Some k)
      ]),
      (λ h. subst (λ xs. Contains xs z) (sym (same s e)) (elim (below_cases i s z h) [
        | inl k ↦ Contains-append_left (get_or lists s []) (to ∷ []) z ((so_far.each s z).1 k)
        | inr k ↦
            let one : Some to ≡ Some z = sym is ∙ k.1 in
            let it : to ≡ z = cc in
            subst (λ y. Contains (get_or lists s [] ++ to ∷ []) y) it (Contains-push (get_or lists s []) to)
      ])),
    )

    off : (s z : ℕ) → (s ≡ from → ⊥) → Contains (get_or new s []) z ↔ Below (i + 1) s z
    off s z n = (
      (λ h. below_more i s z ((so_far.each s z).0 (subst (λ xs. Contains xs z) (other s n) h))),
      (λ h. subst (λ xs. Contains xs z) (sym (other s n)) (elim (below_cases i s z h) [ inl k ↦ (so_far.each s z).1 k | inr k ↦ absurd (n (sym k.0 ∙ sym from_is)) ])),
    )

    pub placed : UpTo (i + 1) new
    placed = record {
      count = ap length made ∙ length-set lists from (get_or lists from [] ++ to ∷ []) ∙ so_far.count;
      each = λ s z. elim (cases_eq s from) [ inl e ↦ at s z e | inr n ↦ off s z n ];
    }

  pub stepped : (i : ℕ) (lists new : List (List ℕ)) → UpTo i lists → i + 1 ≤ field_count g → field_owner g (i + 1) < length lists → new ≡ with_lead g phi (i + 1) lists → UpTo (i + 1) new
  stepped i lists new so_far within lt made = split (lead_of g phi (i + 1)) refl
    where
      split : (o : Option ℕ) → lead_of g phi (i + 1) ≡ o → UpTo (i + 1) new
      split None is =
          subst (UpTo (i + 1)) (sym (made ∙ ap (λ o. option_map_or (λ z. set lists (field_owner g (i + 1)) (get_or lists (field_owner g (i + 1)) [] ++ z ∷ [])) o lists) is))
          (skipped i lists so_far is)
      split (Some z) is =
          placed i lists new (field_owner g (i + 1)) z so_far within refl is lt
          (made ∙ ap (λ o. option_map_or (λ z. set lists (field_owner g (i + 1)) (get_or lists (field_owner g (i + 1)) [] ++ z ∷ [])) o lists) is)

  module _ (graph : IsFlowGraph g) (numbered : FieldsAreNumbered g) where
    pub all_leads : (i : ℕ) (lists : List (List ℕ)) → field_count g ≤ i → UpTo i lists → AreLeads g phi lists
    all_leads i lists le so_far = record {
      count = so_far.count;
      each = λ s z. ((λ h. ((so_far.each s z).0 h).lead), (λ h. (so_far.each s z).1 (record { lead = h; below = omega (arith, h.within, le) })));
      within = λ s z h. (
        subst (λ n. n < length g.structs) h.from (owner_exists g graph numbered h.field h.some h.within),
        target_exists g graph numbered h.field h.some h.within z h.to,
      );
    }

-- What leads back

module _ (g : FlowGraph) (phi : List Bool) (lists : List (List ℕ)) (leads : AreLeads g phi lists) where
  pub lists_within : AreWithin lists
  lists_within p q h = let w = leads.within p q ((leads.each p q).0 h) in omega (arith, w.1, leads.count)

  to_leads : (p : ℕ) (rs : List ℕ) (q : ℕ) → StepsAlong lists p rs q → LeadsAlong g phi p rs q
  to_leads p [] q h = h
  to_leads p (r ∷ rs) q h = ((leads.each p r).0 h.0, to_leads r rs q h.1)

  to_steps : (p : ℕ) (rs : List ℕ) (q : ℕ) → LeadsAlong g phi p rs q → StepsAlong lists p rs q
  to_steps p [] q h = h
  to_steps p (r ∷ rs) q h = ((leads.each p r).1 h.0, to_steps r rs q h.1)

  module _ (graph : IsFlowGraph g) (numbered : FieldsAreNumbered g) (marks : List ℕ) (are : AreRings lists marks) where
    told : (p q : ℕ) → p < length g.structs → q < length g.structs → (mark_at marks p ≡ mark_at marks q) ↔ AreMutual lists p q
    told p q small low = are.each p q (omega (arith, small, leads.count)) (omega (arith, low, leads.count))

    pub tells : TellsBack g phi (leads_back g phi marks)
    tells f some within = (there (lead_of g phi f) refl, back)
      where
        there : (o : Option ℕ) → lead_of g phi f ≡ o → leads_back g phi marks f ≡ true → LeadsBack g phi f
        there None is e = absurd (false≢true (ap (λ o. option_map_or (λ z. eqb (mark_at marks z) (mark_at marks (field_owner g f))) o false) (sym is) ∙ e))
        there (Some z) is e =
            let parts = lead_parts g phi f z is in
            let low = target_exists g graph numbered f some within z parts.1 in
            let yes : eqb (mark_at marks z) (mark_at marks (field_owner g f)) ≡ true =
            ap (λ o. option_map_or (λ y. eqb (mark_at marks y) (mark_at marks (field_owner g f))) o false) (sym is) ∙ e in
            let both = (told z (field_owner g f) low (owner_exists g graph numbered f some within)).0 (eqb-true (mark_at marks z) (mark_at marks (field_owner g f)) yes) in
            record { owns = parts.0; target = z; to = parts.1; back = (both.0.0, to_leads z both.0.0 (field_owner g f) both.0.1) }

        back : LeadsBack g phi f → leads_back g phi marks f ≡ true
        back h =
            let low = target_exists g graph numbered f some within h.target h.to in
            let lead : Leads g phi (field_owner g f) h.target = record { field = f; some = some; within = within; owns = h.owns; from = refl; to = h.to } in
            let both : AreMutual lists h.target (field_owner g f) = (
              (h.back.0, to_steps h.target h.back.0 (field_owner g f) h.back.1),
              (h.target ∷ [], ((leads.each (field_owner g f) h.target).1 lead, refl)),
            ) in
            ap (λ o. option_map_or (λ y. eqb (mark_at marks y) (mark_at marks (field_owner g f))) o false) (lead_is g phi f h.target h.owns h.to)
            ∙ eq-eqb (mark_at marks h.target) (mark_at marks (field_owner g f)) ((told h.target (field_owner g f) low (owner_exists g graph numbered f some within)).1 both)
