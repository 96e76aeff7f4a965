-- A group more is worked off.
use Rattle.std.proofs.Common.{◌≡◌, ◌≢◌, ℕ, zero, suc, ◌+◌, ◌<◌, ◌≤◌, ◌⊎◌, inl, inr, Bool, List, [], ◌∷◌, ◌++◌, Some, refl, sym, ap, ◌∙◌, subst, arith, length, get_or, map, set, slice_get, length-append}
use Rattle.std.specs.List.{Contains, All}
use Rattle.std.specs.List.Sorted.{IsStrictlySortedBy}
use Rattle.std.proofs.lemmas.Bool.{cases_eq, cases_lt}
use Rattle.std.proofs.lemmas.List.{length-set, get_or-set_same, get_or-set_other, get_or_append_left, get_or_push}
use Rattle.std.proofs.lemmas.List.Elements.{Contains-get_or}
use Rattle.conflict_proof.specs.declared.names.ConstraintName.{ConstraintName}
use Rattle.verdict_meaning.specs.declared.callee.Callee.{Callee}
use Rattle.verdict_meaning.specs.Systems.{System, root, first, callee, callees, callee_parts, count, phi_numbers, pi_numbers}
use Rattle.verdict_meaning.specs.Solutions.{phi_by, pi_by, sigma_by}
use Rattle.verdict_meaning.specs.Certificates.{bit_at}
use Rattle.verdict_meaning.specs.Plain.{said, PlainIn, IsPlainSat}
use Rattle.verdict_meaning.proofs.Bits.{length-by, length-numbers, root_many, root_callee}
use Rattle.call_search.specs.declared.entries.Entry.{Entry}
use Rattle.call_search.specs.Shapes.{IsShaped, IsThere}
use Rattle.call_search.specs.Entries.{in_group, at_entry, own_face, IsAnswered, AreEmpty}
use Rattle.plain_answers.specs.declared.wants.Want.{Want}
use Rattle.plain_answers.specs.Orders.{want_order}
use Rattle.plain_answers.specs.Wants.{wants_in, asked, Asks, AreAsked}
use Rattle.plain_answers.specs.Stages.{IsRight, IsAskable, IsEntryOf, HasUnplain, AreEntries, AreAllAsked, IsTop, IsAsked, IsNeeded, want_of, IsHeld, IsProvided, IsStage}
use Rattle.plain_answers.proofs.Lists.{none_contained, none_at, contains_at, at_contains, other_at, map_is, sorted_none}
use Rattle.plain_answers.proofs.OrderLemmas.{want_with}
use Rattle.plain_answers.proofs.Least.{AreSame, phi_same, sigma_same, one_least}
use Rattle.plain_answers.proofs.Assigned.{IsMadePlain, made_plain}

-- what a site asks for can be asked
pub asks_askable : (s : System) (g h n : ℕ) (bits : List Bool) (q : Want) → IsShaped s → n ≤ length (callees s g) → Asks s g bits n h q → IsAskable s h q
asks_askable s g h n bits q shaped le a =
    let c : Callee = callee s g a.site in
    let there : IsThere s c = shaped.there g a.site (let lt = a.within in omega arith) in
    let base : IsAskable s c.group (asked s g bits a.site) = record {
      there = there;
      size = length-by (bit_at bits) _ ∙ length-numbers _ (callee_parts s c);
    } in
    subst (λ k. IsAskable s k q) a.group (subst (λ (x : Want). IsAskable s c.group x) a.is base)

module _ (s : System) (U : ConstraintName → Bool) where
  -- what a site of a plain group asks for is plain
  pub asked_plain : (phi : List Bool) (g h n : ℕ) (bits : List Bool) (q : Want) (a : ℕ → Bool) → AreSame s g a (bit_at bits) → n ≤ length (callees s g)
      → ((site : ℕ) → site < length (callees s g) → PlainIn s U phi (callee s g site).group (callee s g site).proc (sigma_by s g a site))
      → Asks s g bits n h q → PlainIn s U phi h q.proc q.face
  asked_plain phi g h n bits q a same le sites x =
      let lt : x.site < length (callees s g) = (let w = x.within in omega arith) in
      let base : PlainIn s U phi (callee s g x.site).group (callee s g x.site).proc (sigma_by s g (bit_at bits) x.site) =
      subst (λ (f : List Bool). PlainIn s U phi (callee s g x.site).group (callee s g x.site).proc f) (sigma_same s g a (bit_at bits) same x.site lt) (sites x.site lt) in
      subst (λ (z : Want). PlainIn s U phi h z.proc z.face) x.is (subst (λ k. PlainIn s U phi k (callee s g x.site).proc (sigma_by s g (bit_at bits) x.site)) x.group base)

  module _ (top : List Bool) (is_top : IsTop s U top) where
    root_same : (sat : IsPlainSat s U) → AreSame s (root s) sat.values (bit_at top)
    root_same sat = one_least s U (root s) [] sat.values (bit_at top) sat.least is_top.least

    root_sites : (sat : IsPlainSat s U) (site : ℕ) → site < length (callees s (root s)) → PlainIn s U (phi_by s (bit_at top)) (callee s (root s) site).group (callee s (root s) site).proc (sigma_by s (root s) sat.values site)
    root_sites sat site lt =
        let low : site < root s = (let many = root_many s in omega arith) in
        let is : callee s (root s) site ≡ record { proc = first s site; group = site } = root_callee s site low in
        subst (λ (c : Callee). PlainIn s U (phi_by s (bit_at top)) c.group c.proc (sigma_by s (root s) sat.values site)) (sym is)
        (subst (λ (phi : List Bool). PlainIn s U phi site (first s site) (sigma_by s (root s) sat.values site)) (phi_same s (root s) sat.values (bit_at top) (root_same sat)) (sat.each site low))

    -- before any group is worked off
    pub first_stage : IsShaped s → (w0 w : List (List Want)) (t : List (List Entry)) → AreEmpty (root s) t → length w0 ≡ root s → ((h : ℕ) → wants_in w0 h ≡ [])
        → AreAsked s (root s) top w0 w (length (callees s (root s))) → IsStage s U top w t
    first_stage shaped w0 w t empty count none h = record {
      left = (let e = h.size in omega arith);
      size = empty.size;
      wants = λ k q there. elim (h.from k q there) [
        | inl before ↦ absurd (none_contained (wants_in w0 k) q (none k) before)
        | inr a ↦ record {
          askable = asks_askable s (root s) k (length (callees s (root s))) top q shaped (omega arith) a;
          asked = inl a;
          plain = λ sat. asked_plain (phi_by s (bit_at top)) (root s) k (length (callees s (root s))) top q sat.values (root_same sat) (omega arith) (root_sites sat) a;
        }
      ];
      done = λ k n e at. absurd (none_at (in_group t k) n e (empty.each k) at);
      held = λ k n e at. absurd (none_at (in_group t k) n e (empty.each k) at);
      ordered = λ k. subst (λ (es : List Entry). IsStrictlySortedBy want_order (map (want_of s) es)) (sym (empty.each k)) (sorted_none want_order);
      first_asks = λ site lt. inl (h.there site lt);
      asks = λ k n e site at lt. absurd (none_at (in_group t k) n e (empty.each k) at);
    }

    module _ (shaped : IsShaped s) (w front : List (List Want)) (ws vs : List Want) (t : List (List Entry)) (stage : IsStage s U top w t) (popped : w ≡ front ++ ws ∷ [])
        (sorted : IsStrictlySortedBy want_order vs) (kept : (q : Want) → Contains ws q → Contains vs q) (from : (q : Want) → Contains vs q → Contains ws q) where
      long : length w ≡ length front + 1
      long = ap length popped ∙ length-append front (ws ∷ [])

      last_is : wants_in w (length front) ≡ ws
      last_is = ap (λ l. get_or l (length front) []) popped ∙ get_or_push front ws [] (length front) refl

      front_is : (h : ℕ) → h < length front → wants_in w h ≡ wants_in front h
      front_is h lt = ap (λ l. get_or l h []) popped ∙ get_or_append_left front (ws ∷ []) [] h lt

      past : (l : List (List Want)) (h : ℕ) → length l ≤ h → wants_in l h ≡ []
      past [] h le = refl
      past (x ∷ l) zero le = absurd (omega arith)
      past (x ∷ l) (suc h) le = past l h (omega arith)

      front_wanted : (h : ℕ) (q : Want) → Contains (wants_in front h) q → Contains (wants_in w h) q
      front_wanted h q there = elim (cases_lt h (length front)) [
        | inl lt ↦ subst (λ (l : List Want). Contains l q) (sym (front_is h lt)) there
        | inr le ↦ absurd (none_contained (wants_in front h) q (past front h le) there)
      ]

      -- what is asked of the last group
      pub last_needed : (q : Want) → Contains vs q → IsNeeded s U top t (length front) q
      last_needed q there = stage.wants (length front) q (subst (λ (l : List Want). Contains l q) (sym last_is) (from q there))

      pub last_askable : All (IsAskable s (length front)) vs
      last_askable k d lt = (last_needed (get_or vs k d) (Contains-get_or vs k d lt)).askable

      pub last_group : length front < root s
      last_group = let l = long in let le = stage.left in omega arith

      pub unplain_stage : HasUnplain s U (phi_by s (bit_at top)) (length front) vs → IsPlainSat s U → ⊥
      unplain_stage u sat = u.not_plain ((last_needed u.want u.there).plain sat)

      module _ (es : List Entry) (made : AreEntries s U (phi_by s (bit_at top)) (length front) vs es) (w2 : List (List Want)) (added : AreAllAsked s (length front) es front w2) (t2 : List (List Entry)) (placed : t2 ≡ set t (length front) es) where
        here_is : in_group t2 (length front) ≡ es
        here_is = ap (λ l. get_or l (length front) []) placed ∙ get_or-set_same t (length front) es [] (let a = last_group in let b = stage.size in omega arith)

        other_is : (h : ℕ) → h ≢ length front → in_group t2 h ≡ in_group t h
        other_is h ne = ap (λ l. get_or l h []) placed ∙ get_or-set_other t (length front) h es [] ne

        old_apart : (h n : ℕ) (e : Entry) → slice_get (in_group t h) n ≡ Some e → h ≢ length front
        old_apart h n e at same = let low = stage.done h n e at in let l = long in absurd (omega arith)

        old_at : (h n : ℕ) (e : Entry) → slice_get (in_group t h) n ≡ Some e → slice_get (in_group t2 h) n ≡ Some e
        old_at h n e at = ap (λ (l : List Entry). slice_get l n) (other_is h (old_apart h n e at)) ∙ at

        keep_asked : (h : ℕ) (q : Want) → IsAsked s top t h q → IsAsked s top t2 h q
        keep_asked h q (inl a) = inl a
        keep_asked h q (inr a) = inr (record { group = a.group; number = a.number; caller = a.caller; there = old_at a.group a.number a.caller a.there; asks = a.asks })

        keep_needed : (h : ℕ) (q : Want) → IsNeeded s U top t h q → IsNeeded s U top t2 h q
        keep_needed h q x = record { askable = x.askable; asked = keep_asked h q x.asked; plain = x.plain }

        keep_answered : (h : ℕ) (c : Callee) (face : List Bool) → IsAnswered s (in_group t h) c face → IsAnswered s (in_group t2 h) c face
        keep_answered h c face x = record { number = x.number; entry = x.entry; there = old_at h x.number x.entry x.there; answers = x.answers }

        -- the want that an instance answers
        record IsNew (e : Entry) : Type 0 where
          pub want : Want
          pub there : Contains vs want
          pub entry : IsEntryOf s U (phi_by s (bit_at top)) (length front) want e

        new_at : (n : ℕ) (e : Entry) → slice_get es n ≡ Some e → IsNew e
        new_at n e at =
            let q = other_at es vs n e (sym made.count_is) at in
            record { want = q.0; there = contains_at vs n q.0 q.1; entry = made.each n q.0 e q.1 at }

        face_is : (q : Want) (e : Entry) → IsEntryOf s U (phi_by s (bit_at top)) (length front) q e → own_face s e ≡ q.face
        face_is q e x = ap (λ k. pi_by s k (bit_at e.bits) e.proc) x.group ∙ ap (λ k. pi_by s (length front) (bit_at e.bits) k) x.proc ∙ x.right.fits.face_is

        want_is : (q : Want) (e : Entry) → IsEntryOf s U (phi_by s (bit_at top)) (length front) q e → want_of s e ≡ q
        want_is q e x = ap (λ k. want_with k (own_face s e)) x.proc ∙ ap (λ f. want_with q.proc f) (face_is q e x)

        at_is : (q : Want) (e : Entry) → IsEntryOf s U (phi_by s (bit_at top)) (length front) q e → record { proc = q.proc; group = length front } ≡ at_entry e
        at_is q e x =
            ap (λ k. let c : Callee = record { proc = k; group = length front } in c) (sym x.proc) ∙ ap (λ k. let c : Callee = record { proc = e.proc; group = k } in c) (sym x.group)

        new_held : (n : ℕ) (e : Entry) → slice_get es n ≡ Some e → IsHeld s U top t2 (length front) e
        new_held n e at =
            let x : IsNew e = new_at n e at in
            record {
              group = x.entry.group;
              right = subst (λ (f : List Bool). IsRight s U (phi_by s (bit_at top)) (at_entry e) f e.bits) (sym (face_is x.want e x.entry))
                  (subst (λ (c : Callee). IsRight s U (phi_by s (bit_at top)) c x.want.face e.bits) (at_is x.want e x.entry) x.entry.right);
              needed = subst (λ (q : Want). IsNeeded s U top t2 (length front) q) (sym (want_is x.want e x.entry)) (keep_needed (length front) x.want (last_needed x.want x.there));
            }

        -- what a new instance asks for
        new_needed : (h n : ℕ) (e : Entry) (q : Want) → slice_get es n ≡ Some e → Asks s (length front) e.bits (length (callees s (length front))) h q → IsNeeded s U top t2 h q
        new_needed h n e q at a =
            let x : IsNew e = new_at n e at in
            record {
              askable = asks_askable s (length front) h (length (callees s (length front))) e.bits q shaped (omega arith) a;
              asked = inr (record { group = length front; number = n; caller = e; there = ap (λ (l : List Entry). slice_get l n) here_is ∙ at; asks = a });
              plain = λ sat.
                  let m : IsMadePlain s U (phi_by s (bit_at top)) (length front) x.want.proc x.want.face =
                  made_plain s U (phi_by s (bit_at top)) (length front) x.want.proc x.want.face ((last_needed x.want x.there).plain sat) in
                  asked_plain (phi_by s (bit_at top)) (length front) h (length (callees s (length front))) e.bits q m.values
                  (one_least s U (length front) (said (phi_numbers s) (phi_by s (bit_at top)) ++ said (pi_numbers s (length front) x.want.proc) x.want.face) m.values (bit_at e.bits) m.least x.entry.right.least)
                  (omega arith) m.sites a;
            }

        -- what was asked of the group has its instance
        now_answered : (c : Callee) (face : List Bool) (q : Want) → c.group ≡ length front → want_with c.proc face ≡ q → Contains ws q → IsAnswered s (in_group t2 c.group) c face
        now_answered c face q group is there =
            let v = at_contains vs q (kept q there) in
            let e = other_at vs es v.0 q made.count_is v.1 in
            let x : IsEntryOf s U (phi_by s (bit_at top)) (length front) q e.0 = made.each v.0 q e.0 v.1 e.1 in
            let at : slice_get (in_group t2 (length front)) v.0 ≡ Some e.0 = ap (λ (l : List Entry). slice_get l v.0) here_is ∙ e.1 in
            record {
              number = v.0;
              entry = e.0;
              there = ap (λ k. slice_get (in_group t2 k) v.0) group ∙ at;
              answers = record {
                proc = x.proc ∙ sym (ap (λ (p : Want). p.proc) is);
                group = x.group ∙ sym group;
                face_is = face_is q e.0 x ∙ sym (ap (λ (p : Want). p.face) is);
              };
            }

        provided : (k : ℕ) (bits : List Bool) (site : ℕ) → IsProvided s w t k bits site → IsProvided s w2 t2 k bits site
        provided k bits site (inr a) = inr (keep_answered (callee s k site).group (callee s k site) (sigma_by s k (bit_at bits) site) a)
        provided k bits site (inl there) = elim (cases_lt (callee s k site).group (length front)) [
          | inl lt ↦ inl (added.kept (callee s k site).group (asked s k bits site) (subst (λ (l : List Want). Contains l (asked s k bits site)) (front_is (callee s k site).group lt) there))
          | inr le ↦ elim (cases_eq (callee s k site).group (length front)) [
            | inl same ↦
                inr (now_answered (callee s k site) (sigma_by s k (bit_at bits) site) (asked s k bits site) same refl
                (subst (λ (l : List Want). Contains l (asked s k bits site)) (ap (wants_in w) same ∙ last_is) there))
            | inr other ↦ absurd (none_contained (wants_in w (callee s k site).group) (asked s k bits site) (past w (callee s k site).group (let l = long in omega arith)) there)
          ]
        ]

        entry_cases : (h n : ℕ) (e : Entry) → slice_get (in_group t2 h) n ≡ Some e → ((h ≡ length front) × (slice_get es n ≡ Some e)) ⊎ (slice_get (in_group t h) n ≡ Some e)
        entry_cases h n e at = elim (cases_eq h (length front)) [
          | inl same ↦ inl (same, ap (λ (l : List Entry). slice_get l n) (sym (ap (in_group t2) same ∙ here_is)) ∙ at)
          | inr other ↦ inr (ap (λ (l : List Entry). slice_get l n) (sym (other_is h other)) ∙ at)
        ]

        keep_held : (h n : ℕ) (e : Entry) → slice_get (in_group t h) n ≡ Some e → IsHeld s U top t2 h e
        keep_held h n e at = let x = stage.held h n e at in record { group = x.group; right = x.right; needed = keep_needed h (want_of s e) x.needed }

        wanted_now : (h : ℕ) (q : Want) → Contains (wants_in w2 h) q → IsNeeded s U top t2 h q
        wanted_now h q there = elim (added.from h q there) [
          | inl before ↦ keep_needed h q (stage.wants h q (front_wanted h q before))
          | inr a ↦ new_needed h a.0 a.1 q a.2 a.3
        ]

        held_now : (h n : ℕ) (e : Entry) → slice_get (in_group t2 h) n ≡ Some e → IsHeld s U top t2 h e
        held_now h n e at = elim (entry_cases h n e at) [
          | inl x ↦ subst (λ k. IsHeld s U top t2 k e) (sym x.0) (new_held n e x.1)
          | inr x ↦ keep_held h n e x
        ]

        done_now : (h n : ℕ) (e : Entry) → slice_get (in_group t2 h) n ≡ Some e → length w2 ≤ h
        done_now h n e at = elim (entry_cases h n e at) [
          | inl x ↦ (let same = x.0 in let size = added.size in omega arith)
          | inr x ↦ (let low = stage.done h n e x in let l = long in let size = added.size in omega arith)
        ]

        ordered_now : (h : ℕ) → IsStrictlySortedBy want_order (map (want_of s) (in_group t2 h))
        ordered_now h = elim (cases_eq h (length front)) [
          | inl same ↦
              subst (λ (l : List Want). IsStrictlySortedBy want_order l)
              (sym (ap (λ k. map (want_of s) (in_group t2 k)) same ∙ ap (map (want_of s)) here_is ∙ map_is (want_of s) es vs made.count_is (λ n e q a b. want_is q e (made.each n q e b a)))) sorted
          | inr other ↦ subst (λ (l : List Entry). IsStrictlySortedBy want_order (map (want_of s) l)) (sym (other_is h other)) (stage.ordered h)
        ]

        asks_now : (h n : ℕ) (e : Entry) (site : ℕ) → slice_get (in_group t2 h) n ≡ Some e → site < length (callees s h) → IsProvided s w2 t2 h e.bits site
        asks_now h n e site at lt = elim (entry_cases h n e at) [
          | inl x ↦
              subst (λ k. IsProvided s w2 t2 k e.bits site) (sym x.0)
              (let less : site < length (callees s (length front)) = subst (λ k. site < length (callees s k)) x.0 lt in inl (added.there n e site x.1 less))
          | inr x ↦ provided h e.bits site (stage.asks h n e site x lt)
        ]

        pub next_stage : IsStage s U top w2 t2
        next_stage = record {
          left = (let size = added.size in let l = long in let le = stage.left in omega arith);
          size = ap length placed ∙ length-set t (length front) es ∙ stage.size;
          wants = wanted_now;
          done = done_now;
          held = held_now;
          ordered = ordered_now;
          first_asks = λ site lt. provided (root s) top site (stage.first_asks site lt);
          asks = asks_now;
        }
