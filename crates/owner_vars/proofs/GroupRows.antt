-- The unknowns of a group and of the root: which stand one after another, and their numbers.
use Rattle.std.proofs.Common.{◌≡◌, ◌+◌, ◌-◌, ◌*◌, ◌<◌, ◌≤◌, ◌∷◌, ◌++◌, ◌∙◌, inl, inr, [], ℕ, zero, suc, Bool, true, false, cond, ◌&&◌, eqb, List, length, get_or, take, drop, refl, sym, ap, subst, arith}
use Rattle.std.proofs.lemmas.Bool.{false≢true, and_parts, and_from, eq-eqb, eqb-true}
use Rattle.std.proofs.lemmas.List.{length-append, append_assoc, append-nil, length-map, take_all, get_or-map}
use Rattle.std.proofs.lemmas.List.FromFn.{get_or-range_with_len}
use Rattle.std.proofs.lemmas.List.Concat.{length-flat_map}
use Rattle.std.proofs.lemmas.List.Sums.{sum_by-cons, sum_by_more}
use Rattle.std.proofs.lemmas.List.Elements.{Contains-append_cases}
use Rattle.std.specs.Prelude.{map, sum_by}
use Rattle.std.specs.List.{Contains, filter, range_with_len, flat_map}
use Rattle.std.specs.List.Sorted.{IsStrictlyIncreasing}
use Rattle.c_types.specs.Types.{is_pointer}
use Rattle.flow_graph.specs.FlowGraph.{FlowGraph, flow_of, slot_type}
use Rattle.owner_vars.specs.Unknowns.{Unknown, Phi, Pi, Sigma, Rho, Omega, count_from, gather, field_count, field_unknowns, fields_behind, parts_of, interface, site_interfaces, site_callees, slot_unknowns, place_unknowns, proc_unknowns, unknowns, root_unknowns, number_of}
use Rattle.owner_vars.specs.Tables.{place_in}
use Rattle.owner_vars.specs.Rows.{is_pi_of, is_sigma_of, is_at}
use Rattle.owner_vars.specs.Laws.{RowsAreTogether, NumbersFollow, RootNumbersFollow, part_count, place_width, place_total}
use Rattle.owner_vars.proofs.Lists.{contains_none, contains_cases, from_map, from_gather, length-count_from}
use Rattle.owner_vars.proofs.SiteLemmas.{gather_split, from_flat, flat_split, stands}
use Rattle.owner_vars.proofs.RowLemmas.{count_is_range, part_numbers, part_filtered}
use Rattle.owner_vars.proofs.Whole.{group_ranked, root_ranked}

sum_agree : (f h : ℕ → ℕ) → ((x : ℕ) → f x ≡ h x) → (xs : List ℕ) → sum_by f xs ≡ sum_by h xs
sum_agree f h e [] = refl
sum_agree f h e (x ∷ xs) = sum_by-cons f x xs ∙ ap (λ n. n + sum_by f xs) (e x) ∙ ap (λ n. h x + n) (sum_agree f h e xs) ∙ sym (sum_by-cons h x xs)

gather_same : {X : Type 0} (w n : ℕ) (F : ℕ → List X) → ((i : ℕ) → length (F i) ≡ w) → length (gather n F) ≡ n * w
gather_same w zero F e = omega arith
gather_same w (suc n) F e =
    let a = length-append (gather n F) (F n) in
    let b = gather_same w n F e in
    let c = e n in
    let d : suc n * w ≡ n * w + w = omega arith in
    omega (arith, a, b, c, d)

gather_lengths : {X : Type 0} (n : ℕ) (F H : ℕ → List X) → ((i : ℕ) → length (F i) ≡ length (H i)) → length (gather n F) ≡ length (gather n H)
gather_lengths zero F H e = refl
gather_lengths (suc n) F H e =
    let a = length-append (gather n F) (F n) in
    let b = length-append (gather n H) (H n) in
    let c = gather_lengths n F H e in
    let d = e n in
    omega (arith, a, b, c, d)

module _ (g : FlowGraph) where
  interface_length : (k : ℕ) → length (interface g k) ≡ part_count g k
  interface_length k = length-map (parts_of (flow_of g k)) (Pi k)

  interfaces_length : (ks : List ℕ) → length (flat_map (interface g) ks) ≡ sum_by (part_count g) ks
  interfaces_length ks = length-flat_map (interface g) ks ∙ sum_agree (λ k. length (interface g k)) (part_count g) interface_length ks

  abbrev face_at_site : List ℕ → ℕ → List Unknown
  face_at_site callees s = map (Sigma s) (parts_of (flow_of g (get_or callees s 0)))

  sites_length : (callees : List ℕ) (n : ℕ) → n ≤ length callees → length (gather n (face_at_site callees)) ≡ sum_by (part_count g) (take n callees)
  sites_length callees zero le = refl
  sites_length callees (suc n) le =
      let a = length-append (gather n (face_at_site callees)) (face_at_site callees n) in
      let b = sites_length callees n (omega arith) in
      let c = length-map (parts_of (flow_of g (get_or callees n 0))) (Sigma n) in
      let d = sum_by_more (part_count g) callees n 0 (omega arith) in
      let next : n + 1 ≡ suc n = omega arith in
      let d' = rw next at d in
      omega (arith, a, b, c, d')

  fields_length : length (field_unknowns g) ≡ field_count g
  fields_length = length-map (count_from 1 (field_count g)) Phi ∙ length-count_from 1 (field_count g)

  slot_length : (k p x : ℕ) → length (slot_unknowns g k p x) ≡ length (slot_unknowns g k 0 x)
  slot_length k p x = by (is_pointer (slot_type g k x))
    where
      by : (b : Bool) → length (cond b (Rho k p x ∷ map (Omega k p x) (fields_behind g (slot_type g k x))) []) ≡ length (cond b (Rho k 0 x ∷ map (Omega k 0 x) (fields_behind g (slot_type g k x))) [])
      by true = ap suc (length-map (fields_behind g (slot_type g k x)) (Omega k p x) ∙ sym (length-map (fields_behind g (slot_type g k x)) (Omega k 0 x)))
      by false = refl

  pub width_law : (k p : ℕ) → length (place_unknowns g k p) ≡ place_width g k
  width_law k p = gather_lengths (length (flow_of g k).slots) (slot_unknowns g k p) (slot_unknowns g k 0) (slot_length k p)

  proc_length : (k : ℕ) → length (proc_unknowns g k) ≡ place_total g k
  proc_length k = gather_same (place_width g k) (length (flow_of g k).places) (place_unknowns g k) (width_law k)

  procs_length : (ks : List ℕ) → length (flat_map (proc_unknowns g) ks) ≡ sum_by (place_total g) ks
  procs_length ks = length-flat_map (proc_unknowns g) ks ∙ sum_agree (λ k. length (proc_unknowns g k)) (place_total g) proc_length ks

  -- which tests they pass

  slot_at : (k p x : ℕ) (u : Unknown) → Contains (slot_unknowns g k p x) u → is_at k p u ≡ true
  slot_at k p x u h = by (is_pointer (slot_type g k x)) h
    where
      own : (eqb k k && eqb p p) ≡ true
      own = and_from (eqb k k) (eqb p p) (eq-eqb k k refl) (eq-eqb p p refl)

      by : (b : Bool) → Contains (cond b (Rho k p x ∷ map (Omega k p x) (fields_behind g (slot_type g k x))) []) u → is_at k p u ≡ true
      by false l = absurd (contains_none u l)
      by true l = elim (contains_cases (Rho k p x) u (map (Omega k p x) (fields_behind g (slot_type g k x))) l) [
        | inl e ↦ ap (is_at k p) (sym e) ∙ own
        | inr m ↦ let r = from_map (Omega k p x) (fields_behind g (slot_type g k x)) u m in ap (is_at k p) (sym r.2) ∙ own
      ]

  pub place_passes : (k p : ℕ) (u : Unknown) → Contains (place_unknowns g k p) u → is_at k p u ≡ true
  place_passes k p u h = let r = from_gather (length (flow_of g k).slots) (slot_unknowns g k p) u h in slot_at k p r.0 u r.2

  one_place : (k p l q : ℕ) (u : Unknown) → is_at k p u ≡ true → is_at l q u ≡ true → (k ≡ l) × (p ≡ q)
  one_place k p l q (Rho m n x) a b =
      let c = and_parts (eqb m k) (eqb n p) a in
      let d = and_parts (eqb m l) (eqb n q) b in
      (sym (eqb-true m k c.0) ∙ eqb-true m l d.0, sym (eqb-true n p c.1) ∙ eqb-true n q d.1)
  one_place k p l q (Omega m n x f) a b =
      let c = and_parts (eqb m k) (eqb n p) a in
      let d = and_parts (eqb m l) (eqb n q) b in
      (sym (eqb-true m k c.0) ∙ eqb-true m l d.0, sym (eqb-true n p c.1) ∙ eqb-true n q d.1)
  one_place k p l q u a b = absurd (false≢true a)

  pub interface_passes : (k : ℕ) (u : Unknown) → Contains (interface g k) u → is_pi_of k u ≡ true
  interface_passes k u h = let r = from_map (Pi k) (parts_of (flow_of g k)) u h in ap (is_pi_of k) (sym r.2) ∙ eq-eqb k k refl

  pub site_passes : (s : ℕ) (is : List ℕ) (u : Unknown) → Contains (map (Sigma s) is) u → is_sigma_of s u ≡ true
  site_passes s is u h = let r = from_map (Sigma s) is u h in ap (is_sigma_of s) (sym r.2) ∙ eq-eqb s s refl

  -- an unknown of a kind is in the list of that kind

  not_phi : (u : Unknown) → Contains (field_unknowns g) u → ((f : ℕ) → Phi f ≡ u → ⊥) → ⊥
  not_phi u h differs = let r = from_map Phi (count_from 1 (field_count g)) u h in differs r.0 r.2

  module _ (ms callees : List ℕ) where
    abbrev all : List Unknown
    all = field_unknowns g ++ flat_map (interface g) ms ++ site_interfaces g callees ++ flat_map (proc_unknowns g) ms

    pi_of : (u : Unknown) → Contains (flat_map (interface g) ms) u → (k : ℕ) × Contains (interface g k) u × (is_pi_of k u ≡ true)
    pi_of u h = let r = from_flat (interface g) ms u h in (r.0, r.2, interface_passes r.0 u r.2)

    sigma_of : (u : Unknown) → Contains (site_interfaces g callees) u → (s : ℕ) × Contains (face_at_site callees s) u × (is_sigma_of s u ≡ true)
    sigma_of u h = let r = from_gather (length callees) (face_at_site callees) u h in (r.0, r.2, site_passes r.0 (parts_of (flow_of g (get_or callees r.0 0))) u r.2)

    place_of : (u : Unknown) → Contains (flat_map (proc_unknowns g) ms) u → (k : ℕ) × (p : ℕ) × Contains (place_unknowns g k p) u × (is_at k p u ≡ true)
    place_of u h =
        let r = from_flat (proc_unknowns g) ms u h in
        let q = from_gather (length (flow_of g r.0).places) (place_unknowns g r.0) u r.2 in
        (r.0, q.0, q.2, place_passes r.0 q.0 u q.2)

    only_pi : (k : ℕ) (u : Unknown) → Contains all u → is_pi_of k u ≡ true → Contains (interface g k) u
    only_pi k (Pi l i) h t = elim (Contains-append_cases (field_unknowns g ++ flat_map (interface g) ms ++ site_interfaces g callees) (flat_map (proc_unknowns g) ms) (Pi l i) h) [
      | inr a ↦ absurd (false≢true (place_of (Pi l i) a).3)
      | inl a ↦ elim (Contains-append_cases (field_unknowns g ++ flat_map (interface g) ms) (site_interfaces g callees) (Pi l i) a) [
        | inr b ↦ absurd (false≢true (sigma_of (Pi l i) b).2)
        | inl b ↦ elim (Contains-append_cases (field_unknowns g) (flat_map (interface g) ms) (Pi l i) b) [
          | inl d ↦ absurd (not_phi (Pi l i) d (λ f e. cc))
          | inr d ↦ let r = pi_of (Pi l i) d in let same : r.0 ≡ k = sym (eqb-true l r.0 r.2) ∙ eqb-true l k t in subst (λ m. Contains (interface g m) (Pi l i)) same r.1
        ]
      ]
    ]
    only_pi k u h t = absurd (false≢true t)

    only_sigma : (s : ℕ) (u : Unknown) → Contains all u → is_sigma_of s u ≡ true → Contains (face_at_site callees s) u
    only_sigma s (Sigma l i) h t = elim (Contains-append_cases (field_unknowns g ++ flat_map (interface g) ms ++ site_interfaces g callees) (flat_map (proc_unknowns g) ms) (Sigma l i) h) [
      | inr a ↦ absurd (false≢true (place_of (Sigma l i) a).3)
      | inl a ↦ elim (Contains-append_cases (field_unknowns g ++ flat_map (interface g) ms) (site_interfaces g callees) (Sigma l i) a) [
        | inr b ↦ let r = sigma_of (Sigma l i) b in let same : r.0 ≡ s = sym (eqb-true l r.0 r.2) ∙ eqb-true l s t in subst (λ m. Contains (face_at_site callees m) (Sigma l i)) same r.1
        | inl b ↦ elim (Contains-append_cases (field_unknowns g) (flat_map (interface g) ms) (Sigma l i) b) [
          | inl d ↦ absurd (not_phi (Sigma l i) d (λ f e. cc))
          | inr d ↦ absurd (false≢true (pi_of (Sigma l i) d).2)
        ]
      ]
    ]
    only_sigma s u h t = absurd (false≢true t)

    not_at : (k p : ℕ) (u : Unknown) → is_at k p u ≡ true → Contains all u → Contains (flat_map (proc_unknowns g) ms) u
    not_at k p u t h = elim (Contains-append_cases (field_unknowns g ++ flat_map (interface g) ms ++ site_interfaces g callees) (flat_map (proc_unknowns g) ms) u h) [
      | inr a ↦ a
      | inl a ↦ elim (Contains-append_cases (field_unknowns g ++ flat_map (interface g) ms) (site_interfaces g callees) u a) [
        | inr b ↦ let r = sigma_of u b in absurd (sigma_off u k p r.0 r.2 t)
        | inl b ↦ elim (Contains-append_cases (field_unknowns g) (flat_map (interface g) ms) u b) [
          | inl d ↦ absurd (not_phi u d (λ f e. false≢true (ap (is_at k p) e ∙ t)))
          | inr d ↦ let r = pi_of u d in absurd (pi_off u k p r.0 r.2 t)
        ]
      ]
    ]
      where
        sigma_off : (v : Unknown) (l q s : ℕ) → is_sigma_of s v ≡ true → is_at l q v ≡ true → ⊥
        sigma_off (Sigma a b) l q s x y = false≢true y
        sigma_off v l q s x y = false≢true x

        pi_off : (v : Unknown) (l q s : ℕ) → is_pi_of s v ≡ true → is_at l q v ≡ true → ⊥
        pi_off (Pi a b) l q s x y = false≢true y
        pi_off v l q s x y = false≢true x

    only_at : (k p : ℕ) (u : Unknown) → Contains all u → is_at k p u ≡ true → Contains (place_unknowns g k p) u
    only_at k p u h t =
        let r = place_of u (not_at k p u t h) in
        let same = one_place r.0 r.1 k p u r.3 t in
        subst (λ q. Contains (place_unknowns g k q) u) same.1 (subst (λ m. Contains (place_unknowns g m r.1) u) same.0 r.2)

    abbrev ones : List Unknown
    ones = field_unknowns g

    abbrev twos : List Unknown
    twos = flat_map (interface g) ms

    abbrev threes : List Unknown
    threes = site_interfaces g callees

    abbrev fours : List Unknown
    fours = flat_map (proc_unknowns g) ms

    module _ (r : Unknown → ℕ) (n : ℕ) (climb : map r all ≡ count_from 1 n) where
      module _ (i : ℕ) (lt : i < length ms) where
        abbrev member : ℕ
        member = get_or ms i 0

        abbrev early : List Unknown
        early = flat_map (interface g) (take i ms)

        abbrev late : List Unknown
        late = flat_map (interface g) (drop (i + 1) ms)

        pi_whole : all ≡ ((ones ++ early) ++ interface g member) ++ (late ++ threes ++ fours)
        pi_whole = ap (λ us. ones ++ us ++ threes ++ fours) (flat_split (interface g) ms i lt) ∙ simp append_assoc

        pub pi_together : filter (is_pi_of member) all ≡ interface g member
        pi_together = part_filtered r all (ones ++ early) (interface g member) (late ++ threes ++ fours) n pi_whole climb (is_pi_of member) (interface_passes member) (only_pi member)

        pub pi_numbers : map (number_of all) (interface g member) ≡ range_with_len (1 + field_count g + sum_by (part_count g) (take i ms)) (part_count g member)
        pi_numbers =
            part_numbers r all (ones ++ early) (interface g member) (late ++ threes ++ fours) n pi_whole climb
            ∙ ap (λ b. range_with_len b (length (interface g member))) (let a = length-append ones early in let b = fields_length in let c = interfaces_length (take i ms) in omega (arith, a, b, c))
            ∙ ap (range_with_len (1 + field_count g + sum_by (part_count g) (take i ms))) (interface_length member)

        module _ (p : ℕ) (inside : p < length (flow_of g member).places) where
          row_split : (rest : List Unknown) × (proc_unknowns g member ≡ (gather p (place_unknowns g member) ++ place_unknowns g member p) ++ rest) × ((u : Unknown) → Contains rest u → (j : ℕ) × (p < j) × (j < length (flow_of g member).places) × Contains (place_unknowns g member j) u)
          row_split = gather_split (length (flow_of g member).places) p (place_unknowns g member) inside

          abbrev before : List Unknown
          before = flat_map (proc_unknowns g) (take i ms) ++ gather p (place_unknowns g member)

          abbrev after : List Unknown
          after = row_split.0 ++ flat_map (proc_unknowns g) (drop (i + 1) ms)

          place_whole : all ≡ ((ones ++ twos ++ threes ++ before) ++ place_unknowns g member p) ++ after
          place_whole =
              ap (λ us. ones ++ twos ++ threes ++ us) (flat_split (proc_unknowns g) ms i lt ∙ ap (λ us. (flat_map (proc_unknowns g) (take i ms) ++ us) ++ flat_map (proc_unknowns g) (drop (i + 1) ms)) row_split.1)
              ∙ simp append_assoc

          pub place_together : filter (is_at member p) all ≡ place_unknowns g member p
          place_together = part_filtered r all (ones ++ twos ++ threes ++ before) (place_unknowns g member p) after n place_whole climb (is_at member p) (place_passes member p) (only_at member p)

          front_length : length (ones ++ twos ++ threes ++ before) ≡ field_count g + sum_by (part_count g) ms + sum_by (part_count g) callees + sum_by (place_total g) (take i ms) + p * place_width g member
          front_length =
              let a = length-append (ones ++ twos ++ threes) before in
              let b = length-append (ones ++ twos) threes in
              let c = length-append ones twos in
              let d = fields_length in
              let e = interfaces_length ms in
              let f = sites_length callees (length callees) (omega arith) in
              let h = ap (sum_by (part_count g)) (take_all (length callees) callees (omega arith)) in
              let j = length-append (flat_map (proc_unknowns g) (take i ms)) (gather p (place_unknowns g member)) in
              let k = procs_length (take i ms) in
              let l = gather_same (place_width g member) p (place_unknowns g member) (width_law member) in
              omega (arith, a, b, c, d, e, f, h, j, k, l)

          pub place_numbers : map (number_of all) (place_unknowns g member p)
              ≡ range_with_len (1 + field_count g + sum_by (part_count g) ms + sum_by (part_count g) callees + sum_by (place_total g) (take i ms) + p * place_width g member) (place_width g member)
          place_numbers =
              part_numbers r all (ones ++ twos ++ threes ++ before) (place_unknowns g member p) after n place_whole climb
              ∙ ap (λ b. range_with_len b (length (place_unknowns g member p))) (omega (arith, front_length))
              ∙ ap (range_with_len (1 + field_count g + sum_by (part_count g) ms + sum_by (part_count g) callees + sum_by (place_total g) (take i ms) + p * place_width g member)) (width_law member p)

      module _ (s : ℕ) (lt : s < length callees) where
        site_split : (rest : List Unknown) × (site_interfaces g callees ≡ (gather s (face_at_site callees) ++ face_at_site callees s) ++ rest) × ((u : Unknown) → Contains rest u → (j : ℕ) × (s < j) × (j < length callees) × Contains (face_at_site callees j) u)
        site_split = gather_split (length callees) s (face_at_site callees) lt

        abbrev earlier : List Unknown
        earlier = gather s (face_at_site callees)

        sigma_whole : all ≡ ((ones ++ twos ++ earlier) ++ face_at_site callees s) ++ (site_split.0 ++ fours)
        sigma_whole = ap (λ us. ones ++ twos ++ us ++ fours) site_split.1 ∙ simp append_assoc

        pub sigma_together : filter (is_sigma_of s) all ≡ face_at_site callees s
        sigma_together = part_filtered r all (ones ++ twos ++ earlier) (face_at_site callees s) (site_split.0 ++ fours) n sigma_whole climb (is_sigma_of s) (site_passes s (parts_of (flow_of g (get_or callees s 0)))) (only_sigma s)

        pub sigma_numbers : map (number_of all) (face_at_site callees s) ≡ range_with_len (1 + field_count g + sum_by (part_count g) ms + sum_by (part_count g) (take s callees)) (part_count g (get_or callees s 0))
        sigma_numbers =
            part_numbers r all (ones ++ twos ++ earlier) (face_at_site callees s) (site_split.0 ++ fours) n sigma_whole climb
            ∙ ap (λ b. range_with_len b (length (face_at_site callees s))) (let a = length-append (ones ++ twos) earlier in let b = length-append ones twos in let c = fields_length in let d = interfaces_length ms in let e = sites_length callees s (omega (arith, lt)) in omega (arith, a, b, c, d, e))
            ∙ ap (range_with_len (1 + field_count g + sum_by (part_count g) ms + sum_by (part_count g) (take s callees))) (length-map (parts_of (flow_of g (get_or callees s 0))) (Sigma s))

      pub phi_number : (f : ℕ) → 0 < f → f ≤ field_count g → number_of all (Phi f) ≡ f
      phi_number f some le =
          let whole : all ≡ ([] ++ ones) ++ (twos ++ threes ++ fours) = simp append_assoc in
          let e = part_numbers r all [] ones (twos ++ threes ++ fours) n whole climb in
          let at : (f - 1) < length (count_from 1 (field_count g)) = omega (arith, some, le, length-count_from 1 (field_count g)) in
          let long : (f - 1) < length ones = omega (arith, some, le, fields_length) in
          let one : get_or (count_from 1 (field_count g)) (f - 1) 0 ≡ f = ap (λ (ks : List ℕ). get_or ks (f - 1) 0) (count_is_range 1 (field_count g)) ∙ get_or-range_with_len 1 (field_count g) (f - 1) 0 (omega (arith, some, le)) ∙ omega (arith, some) in
          let here : get_or ones (f - 1) (Phi 0) ≡ Phi f = get_or-map Phi (count_from 1 (field_count g)) (f - 1) 0 (Phi 0) at ∙ ap Phi one in
          sym (ap (number_of all) here)
          ∙ sym (get_or-map (number_of all) ones (f - 1) (Phi 0) 0 long)
          ∙ ap (λ (ks : List ℕ). get_or ks (f - 1) 0) e
          ∙ get_or-range_with_len 1 (length ones) (f - 1) 0 long
          ∙ omega (arith, some)

    pub total_count : length all ≡ field_count g + sum_by (part_count g) ms + sum_by (part_count g) callees + sum_by (place_total g) ms
    total_count =
        let a = length-append (ones ++ twos ++ threes) fours in
        let b = length-append (ones ++ twos) threes in
        let c = length-append ones twos in
        let d = fields_length in
        let e = interfaces_length ms in
        let f = sites_length callees (length callees) (omega arith) in
        let h = ap (sum_by (part_count g)) (take_all (length callees) callees (omega arith)) in
        let k = procs_length ms in
        omega (arith, a, b, c, d, e, f, h, k)

pub together_law : (g : FlowGraph) (ms : List ℕ) → IsStrictlyIncreasing ms → RowsAreTogether g ms
together_law g ms ascend =
    let c = group_ranked g ms ascend in
    let cs = site_callees g ms in
    record {
      pi = λ k h. let s = stands g ms ascend k h in subst (λ m. filter (is_pi_of m) (unknowns g ms) ≡ interface g m) s.1 (pi_together g ms cs c.0 c.1 c.2 (place_in ms k) s.0);
      sigma = λ s lt. sigma_together g ms cs c.0 c.1 c.2 s lt;
      place = λ k p h inside.
          let s = stands g ms ascend k h in
          subst (λ m. p < length (flow_of g m).places → filter (is_at m p) (unknowns g ms) ≡ place_unknowns g m p) s.1 (λ l. place_together g ms cs c.0 c.1 c.2 (place_in ms k) s.0 p l) inside;
    }

pub numbers_law : (g : FlowGraph) (ms : List ℕ) → IsStrictlyIncreasing ms → NumbersFollow g ms
numbers_law g ms ascend =
    let c = group_ranked g ms ascend in
    let cs = site_callees g ms in
    record {
      phi = phi_number g ms cs c.0 c.1 c.2;
      pi = λ i lt. pi_numbers g ms cs c.0 c.1 c.2 i lt;
      sigma = λ s lt. sigma_numbers g ms cs c.0 c.1 c.2 s lt;
      place = λ i p lt inside. place_numbers g ms cs c.0 c.1 c.2 i lt p inside;
      width = width_law g;
      count = total_count g ms cs;
    }

pub root_law : (g : FlowGraph) (firsts : List ℕ) → RootNumbersFollow g firsts
root_law g firsts =
    let c = root_ranked g firsts in
    let whole : root_unknowns g firsts ≡ field_unknowns g ++ [] ++ site_interfaces g firsts ++ [] =
    sym (append-nil (field_unknowns g ++ [] ++ site_interfaces g firsts) ∙ ap (λ us. us ++ site_interfaces g firsts) (append-nil (field_unknowns g))) in
    let climb : map c.0 (field_unknowns g ++ [] ++ site_interfaces g firsts ++ []) ≡ count_from 1 c.1 = ap (map c.0) (sym whole) ∙ c.2 in
    record {
      phi = λ f some le. ap (λ (us : List Unknown). number_of us (Phi f)) whole ∙ phi_number g [] firsts c.0 c.1 climb f some le;
      sigma = λ s lt.
          ap (λ (us : List Unknown). map (number_of us) (map (Sigma s) (parts_of (flow_of g (get_or firsts s 0))))) whole
          ∙ sigma_numbers g [] firsts c.0 c.1 climb s lt
          ∙ ap (λ n. range_with_len n (part_count g (get_or firsts s 0))) (omega arith);
      together = λ s lt. ap (filter (is_sigma_of s)) whole ∙ sigma_together g [] firsts c.0 c.1 climb s lt;
      count = ap (λ (us : List Unknown). length us) whole ∙ total_count g [] firsts ∙ omega arith;
    }
