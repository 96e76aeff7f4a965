-- What is asked for, site by site and instance by instance.
use Rattle.std.proofs.Common.{◌≡◌, ℕ, zero, suc, ◌+◌, ◌<◌, ◌≤◌, ◌⊎◌, inl, inr, Bool, List, [], ◌∷◌, ◌++◌, Some, refl, sym, ap, ◌∙◌, subst, arith, length, get_or, set, slice_get}
use Rattle.std.specs.List.{Contains}
use Rattle.std.proofs.lemmas.Bool.{cases_eq, cases_lt}
use Rattle.std.proofs.lemmas.List.{length-set, get_or-set_same, get_or-set_other}
use Rattle.std.proofs.lemmas.List.Elements.{Contains-push, Contains-push_cases, Contains-append_left}
use Rattle.verdict_meaning.specs.Systems.{System, callee, callees}
use Rattle.call_search.specs.declared.entries.Entry.{Entry}
use Rattle.call_search.proofs.Lists.{push_cases, push_same, get_append}
use Rattle.plain_answers.specs.declared.wants.Want.{Want}
use Rattle.plain_answers.specs.Wants.{wants_in, asked, Asks, IsAdded, AreAsked}
use Rattle.plain_answers.specs.Stages.{AreAllAsked}

-- adding one

default_free : {X : Type 0} (t : List (List X)) (g : ℕ) (d f : List X) → g < length t → get_or t g d ≡ get_or t g f
default_free [] g d f lt = absurd (omega arith)
default_free (x ∷ t) zero d f lt = refl
default_free (x ∷ t) (suc g) d f lt = default_free t g d f (omega arith)

pub put_is : (w : List (List Want)) (g : ℕ) (q : Want) (qs r : List Want) → g < length w → qs ≡ r ++ q ∷ [] → r ≡ get_or w g r → IsAdded g q w (set w g qs)
put_is w g q qs r lt is at = record {
  size = length-set w g qs;
  here = get_or-set_same w g qs [] lt ∙ is ∙ ap (λ xs. xs ++ q ∷ []) (at ∙ default_free w g r [] lt);
  others = λ h ne. get_or-set_other w g h qs [] ne;
}

module _ (g : ℕ) (q : Want) (old new : List (List Want)) (added : IsAdded g q old new) where
  added_here : Contains (wants_in new g) q
  added_here = subst (λ (l : List Want). Contains l q) (sym added.here) (Contains-push (wants_in old g) q)

  added_kept : (h : ℕ) (p : Want) → Contains (wants_in old h) p → Contains (wants_in new h) p
  added_kept h p there = elim (cases_eq h g) [
    | inl same ↦
        subst (λ k. Contains (wants_in new k) p) (sym same)
        (subst (λ (l : List Want). Contains l p) (sym added.here) (Contains-append_left (wants_in old g) (q ∷ []) p (subst (λ k. Contains (wants_in old k) p) same there)))
    | inr other ↦ subst (λ (l : List Want). Contains l p) (sym (added.others h other)) there
  ]

  added_from : (h : ℕ) (p : Want) → Contains (wants_in new h) p → Contains (wants_in old h) p ⊎ ((g ≡ h) × (q ≡ p))
  added_from h p there = elim (cases_eq h g) [
    | inl same ↦ here same (Contains-push_cases (wants_in old g) q p (subst (λ (l : List Want). Contains l p) added.here (subst (λ k. Contains (wants_in new k) p) same there)))
    | inr other ↦ inl (subst (λ (l : List Want). Contains l p) (added.others h other) there)
  ]
    where
      here : h ≡ g → Contains (wants_in old g) p ⊎ (q ≡ p) → Contains (wants_in old h) p ⊎ ((g ≡ h) × (q ≡ p))
      here same (inl before) = inl (subst (λ k. Contains (wants_in old k) p) (sym same) before)
      here same (inr is) = inr (sym same, is)

-- the sites of one group

pub asked_none : (s : System) (g : ℕ) (bits : List Bool) (w : List (List Want)) → AreAsked s g bits w w 0
asked_none s g bits w = record { size = refl; kept = λ h q there. there; there = λ site lt. absurd (omega arith); from = λ h q there. inl there }

asks_more : (s : System) (g : ℕ) (bits : List Bool) (m n h : ℕ) (q : Want) → m ≤ n → Asks s g bits m h q → Asks s g bits n h q
asks_more s g bits m n h q le a = record { site = a.site; within = (let lt = a.within in omega arith); group = a.group; is = a.is }

pub asked_next : (s : System) (g : ℕ) (bits : List Bool) (old mid new : List (List Want)) (i : ℕ) → AreAsked s g bits old mid i → IsAdded (callee s g i).group (asked s g bits i) mid new → AreAsked s g bits old new (i + 1)
asked_next s g bits old mid new i h one = record {
  size = one.size ∙ h.size;
  kept = λ k q there. added_kept (callee s g i).group (asked s g bits i) mid new one k q (h.kept k q there);
  there = there;
  from = λ k q c. from k q (added_from (callee s g i).group (asked s g bits i) mid new one k q c);
}
  where
    there : (site : ℕ) → site < i + 1 → Contains (wants_in new (callee s g site).group) (asked s g bits site)
    there site lt = elim (cases_lt site i) [
      | inl less ↦ added_kept (callee s g i).group (asked s g bits i) mid new one (callee s g site).group (asked s g bits site) (h.there site less)
      | inr le ↦
          let same : i ≡ site = omega arith in
          subst (λ k. Contains (wants_in new (callee s g k).group) (asked s g bits k)) same (added_here (callee s g i).group (asked s g bits i) mid new one)
    ]

    from : (k : ℕ) (q : Want) → Contains (wants_in mid k) q ⊎ (((callee s g i).group ≡ k) × (asked s g bits i ≡ q)) → Contains (wants_in old k) q ⊎ Asks s g bits (i + 1) k q
    from k q (inl before) = elim (h.from k q before) [
      | inl first ↦ inl first
      | inr a ↦ inr (asks_more s g bits i (i + 1) k q (omega arith) a)
    ]
    from k q (inr is) = inr (record { site = i; within = omega arith; group = is.0; is = is.1 })

-- those of several instances

pub all_asked_none : (s : System) (g : ℕ) (w : List (List Want)) → AreAllAsked s g [] w w
all_asked_none s g w = record { size = refl; kept = λ h q there. there; there = λ n e site at lt. cc; from = λ h q there. inl there }

pub all_asked_next : (s : System) (g : ℕ) (es : List Entry) (e : Entry) (old mid new : List (List Want)) → AreAllAsked s g es old mid → AreAsked s g e.bits mid new (length (callees s g)) → AreAllAsked s g (es ++ e ∷ []) old new
all_asked_next s g es e old mid new h one = record {
  size = one.size ∙ h.size;
  kept = λ k q there. one.kept k q (h.kept k q there);
  there = λ n d site at lt. there n d site lt (push_cases es e d n at);
  from = λ k q c. from k q (one.from k q c);
}
  where
    there : (n : ℕ) (d : Entry) (site : ℕ) → site < length (callees s g) → (slice_get es n ≡ Some d) ⊎ ((n ≡ length es) × (e ≡ d)) → Contains (wants_in new (callee s g site).group) (asked s g d.bits site)
    there n d site lt (inl at) = one.kept (callee s g site).group (asked s g d.bits site) (h.there n d site at lt)
    there n d site lt (inr is) = subst (λ (x : Entry). Contains (wants_in new (callee s g site).group) (asked s g x.bits site)) is.1 (one.there site lt)

    from : (k : ℕ) (q : Want) → Contains (wants_in mid k) q ⊎ Asks s g e.bits (length (callees s g)) k q → Contains (wants_in old k) q ⊎ ((n : ℕ) × (d : Entry) × (slice_get (es ++ e ∷ []) n ≡ Some d) × Asks s g d.bits (length (callees s g)) k q)
    from k q (inl before) = elim (h.from k q before) [
      | inl first ↦ inl first
      | inr a ↦ inr (a.0, a.1, get_append es (e ∷ []) a.1 a.0 a.2, a.3)
    ]
    from k q (inr a) = inr (length es, e, push_same es e, a)
