-- The ranges of numbers that the tables give.
use Rattle.std.proofs.Common.{◌≡◌, ◌+◌, ◌*◌, ◌<◌, ◌≤◌, ◌∷◌, ◌++◌, ◌∙◌, inl, inr, [], ℕ, suc, Bool, true, false, cond, ◌&&◌, eqb, List, length, get_or, refl, sym, ap, subst, arith}
use Rattle.std.proofs.lemmas.Bool.{true≢false, false≢true, cases_lt, cases_Bool, and_parts, and_from, eq-eqb, eqb-true, ne_eqb}
use Rattle.std.proofs.lemmas.List.{append_assoc, get_or_read, get_or_default}
use Rattle.std.proofs.lemmas.List.Elements.{Contains-get_or}
use Rattle.std.specs.Prelude.{map}
use Rattle.std.specs.List.{Contains}
use Rattle.flow_graph.specs.Fits.{is_in}
use Rattle.owner_vars.specs.declared.tables.Face.{Face}
use Rattle.owner_vars.specs.declared.tables.SlotRow.{SlotRow}
use Rattle.owner_vars.specs.Unknowns.{Unknown, Pi, Sigma, Rho, Omega, count_from, gather}
use Rattle.owner_vars.specs.Rows.{is_pi_of, is_sigma_of, is_at}
use Rattle.owner_vars.specs.Tables.{Rows, no_face, no_rows, place_in, face_parts, face_size, part_place, face_at, rows_at, no_numbers, face_numbers, slot_at, slot_list, place_list, rows_list, table_list, rank, IsTable}
use Rattle.owner_vars.proofs.Lists.{contains_none, contains_cases, from_map, from_gather, total_same}
use Rattle.owner_vars.proofs.Numbers.{count_is}
use Rattle.owner_vars.proofs.IndexLemmas.{is_in_true, from_is_in}
use Rattle.zo_core.specs.declared.number_range.NumberRange.{NumberRange}
use Rattle.owner_vars.proofs.Climb.{face_climb, at_place}
use Rattle.owner_vars.proofs.Ranks.{phis, pis, sigmas, places, in_pis, in_sigmas, in_places, kind, pi_member, sigma_site}
use Rattle.owner_vars.proofs.SiteLemmas.{gather_split}
use Rattle.owner_vars.proofs.RowLemmas.{IsRange, none_pass, part_range, part_within, part_empty}

by_size : (test : Unknown → Bool) (us : List Unknown) (f : Face) (n : ℕ)
    → (0 < face_size f → IsRange test us (record { first = f.before + 1; count = face_size f })) → (face_size f ≡ 0 → IsRange test us (record { first = n + 1; count = 0 })) → IsRange test us (face_numbers f n)
by_size test us f n some none = elim (cases_lt 0 (face_size f)) [
  | inl lt ↦ rw (ne_eqb (face_size f) 0 (λ e. omega (arith, e, lt))) (some lt)
  | inr le ↦ let e : face_size f ≡ 0 = omega (arith, le) in rw (eq-eqb (face_size f) 0 e) (none e)
]

module _ (fields : ℕ) (members : List ℕ) (faces sites : List Face) (rows : List Rows) (count : ℕ) (t : IsTable fields members faces sites rows count) where
  abbrev all : List Unknown
  all = table_list fields members faces sites rows

  abbrev r : Unknown → ℕ
  r = rank members faces sites rows

  pub all_length : length all ≡ count
  all_length = sym (count_is r all count t.numbers)

  abbrev one : List Unknown
  one = phis fields members faces sites rows

  abbrev two : List Unknown
  two = pis fields members faces sites rows

  abbrev three : List Unknown
  three = sigmas fields members faces sites rows

  abbrev four : List Unknown
  four = places fields members faces sites rows

  -- an interface

  abbrev face_list : ℕ → List Unknown
  face_list i = map (Pi (get_or members i 0)) (face_parts (face_at faces i))

  face_passes : (i : ℕ) (u : Unknown) → Contains (face_list i) u → is_pi_of (get_or members i 0) u ≡ true
  face_passes i u h = let q = from_map (Pi (get_or members i 0)) (face_parts (face_at faces i)) u h in ap (is_pi_of (get_or members i 0)) (sym q.2) ∙ eq-eqb (get_or members i 0) (get_or members i 0) refl

  face_only : (i : ℕ) → i < length members → (u : Unknown) → Contains all u → is_pi_of (get_or members i 0) u ≡ true → Contains (face_list i) u
  face_only i lt (Pi k j) h e =
      let a = from_gather (length faces) face_list (Pi k j) (in_pis fields members faces sites rows (Pi k j) refl h) in
      let b = eqb-true (get_or members a.0 0) k (sym_pass k j a.0 (face_passes a.0 (Pi k j) a.2)) in
      let same : a.0 ≡ i = sym (t.apart a.0 (omega (arith, a.1, t.faces_count))) ∙ ap (place_in members) (b ∙ eqb-true k (get_or members i 0) e) ∙ t.apart i lt in
      subst (λ n. Contains (face_list n) (Pi k j)) same a.2
    where
      sym_pass : (k j n : ℕ) → is_pi_of (get_or members n 0) (Pi k j) ≡ true → eqb (get_or members n 0) k ≡ true
      sym_pass k j n e = eq-eqb (get_or members n 0) k (sym (eqb-true k (get_or members n 0) e))
  face_only i lt u h e = absurd (false≢true e)

  pub face_range : (i : ℕ) → i < length members → IsRange (is_pi_of (get_or members i 0)) all (face_numbers (face_at faces i) count)
  face_range i lt =
      let s = gather_split (length faces) i face_list (omega (arith, lt, t.faces_count)) in
      let f = face_at faces i in
      let whole : all ≡ ((one ++ gather i face_list) ++ face_list i) ++ (s.0 ++ three ++ four) = ap (λ (us : List Unknown). one ++ us ++ three ++ four) s.1 ∙ simp append_assoc in
      let here = face_climb r (Pi (get_or members i 0)) f f.before (λ j. ap (λ n. (face_at faces n).before + part_place (face_at faces n) j) (t.apart i lt)) in
      by_size (is_pi_of (get_or members i 0)) all f count
      (part_range r all (one ++ gather i face_list) (face_list i) (s.0 ++ three ++ four) count f.before (face_size f) whole t.numbers here (is_pi_of (get_or members i 0)) (face_passes i) (face_only i lt))
      (part_empty r all (one ++ gather i face_list) (face_list i) (s.0 ++ three ++ four) count f.before (face_size f) whole t.numbers here (is_pi_of (get_or members i 0)) (face_passes i) (face_only i lt))

  pub face_room : (i : ℕ) → i < length members → 0 < face_size (face_at faces i) → (face_at faces i).before + face_size (face_at faces i) ≤ 8388608
  face_room i lt some =
      let s = gather_split (length faces) i face_list (omega (arith, lt, t.faces_count)) in
      let f = face_at faces i in
      let whole : all ≡ ((one ++ gather i face_list) ++ face_list i) ++ (s.0 ++ three ++ four) = ap (λ (us : List Unknown). one ++ us ++ three ++ four) s.1 ∙ simp append_assoc in
      let here = face_climb r (Pi (get_or members i 0)) f f.before (λ j. ap (λ n. (face_at faces n).before + part_place (face_at faces n) j) (t.apart i lt)) in
      let w = part_within r all (one ++ gather i face_list) (face_list i) (s.0 ++ three ++ four) count f.before (face_size f) whole t.numbers here (is_pi_of (get_or members i 0)) (face_passes i) (face_only i lt) some in
      omega (arith, w, t.small)

  pub no_face_range : (k : ℕ) → is_in members k ≡ false → IsRange (is_pi_of k) all (record { first = count + 1; count = 0 })
  no_face_range k out = none_pass (is_pi_of k) all count all_length fails
    where
      fails : (u : Unknown) → Contains all u → is_pi_of k u ≡ false
      fails (Pi l i) h = elim (cases_Bool (eqb l k)) [
        | inr e ↦ e
        | inl e ↦
            let member = subst (λ n. Contains members n) (eqb-true l k e) (pi_member fields members faces sites rows count t l i h) in
            absurd (true≢false (sym (is_in_true members k member) ∙ out))
      ]
      fails u h = refl

  -- the interface of a site

  abbrev site_list : ℕ → List Unknown
  site_list s = map (Sigma s) (face_parts (face_at sites s))

  site_passes : (s : ℕ) (u : Unknown) → Contains (site_list s) u → is_sigma_of s u ≡ true
  site_passes s u h = let q = from_map (Sigma s) (face_parts (face_at sites s)) u h in ap (is_sigma_of s) (sym q.2) ∙ eq-eqb s s refl

  site_only : (s : ℕ) (u : Unknown) → Contains all u → is_sigma_of s u ≡ true → Contains (site_list s) u
  site_only s (Sigma k j) h e =
      let a = from_gather (length sites) site_list (Sigma k j) (in_sigmas fields members faces sites rows (Sigma k j) refl h) in
      let same : a.0 ≡ s = sym (eqb-true k a.0 (site_passes a.0 (Sigma k j) a.2)) ∙ eqb-true k s e in
      subst (λ n. Contains (site_list n) (Sigma k j)) same a.2
  site_only s u h e = absurd (false≢true e)

  pub site_range : (s : ℕ) → s < length sites → IsRange (is_sigma_of s) all (face_numbers (face_at sites s) count)
  site_range s lt =
      let q = gather_split (length sites) s site_list lt in
      let f = face_at sites s in
      let whole : all ≡ ((one ++ two ++ gather s site_list) ++ site_list s) ++ (q.0 ++ four) = ap (λ (us : List Unknown). one ++ two ++ us ++ four) q.1 ∙ simp append_assoc in
      let here = face_climb r (Sigma s) f f.before (λ j. refl) in
      by_size (is_sigma_of s) all f count
      (part_range r all (one ++ two ++ gather s site_list) (site_list s) (q.0 ++ four) count f.before (face_size f) whole t.numbers here (is_sigma_of s) (site_passes s) (site_only s))
      (part_empty r all (one ++ two ++ gather s site_list) (site_list s) (q.0 ++ four) count f.before (face_size f) whole t.numbers here (is_sigma_of s) (site_passes s) (site_only s))

  pub site_room : (s : ℕ) → s < length sites → 0 < face_size (face_at sites s) → (face_at sites s).before + face_size (face_at sites s) ≤ 8388608
  site_room s lt some =
      let q = gather_split (length sites) s site_list lt in
      let f = face_at sites s in
      let whole : all ≡ ((one ++ two ++ gather s site_list) ++ site_list s) ++ (q.0 ++ four) = ap (λ (us : List Unknown). one ++ two ++ us ++ four) q.1 ∙ simp append_assoc in
      let here = face_climb r (Sigma s) f f.before (λ j. refl) in
      let w = part_within r all (one ++ two ++ gather s site_list) (site_list s) (q.0 ++ four) count f.before (face_size f) whole t.numbers here (is_sigma_of s) (site_passes s) (site_only s) some in
      omega (arith, w, t.small)

  pub no_site_range : (s : ℕ) → length sites ≤ s → IsRange (is_sigma_of s) all (record { first = count + 1; count = 0 })
  no_site_range s past = none_pass (is_sigma_of s) all count all_length fails
    where
      fails : (u : Unknown) → Contains all u → is_sigma_of s u ≡ false
      fails (Sigma k i) h = elim (cases_Bool (eqb k s)) [
        | inr e ↦ e
        | inl e ↦ absurd (omega (arith, sigma_site fields members faces sites rows count t k i h, eqb-true k s e, past))
      ]
      fails u h = refl

  -- what there is at a place

  slot_at_place : (k p x : ℕ) (s : SlotRow) (u : Unknown) → Contains (slot_list k p x s) u → is_at k p u ≡ true
  slot_at_place k p x s u h = by s.pointer h
    where
      own : (eqb k k && eqb p p) ≡ true
      own = and_from (eqb k k) (eqb p p) (eq-eqb k k refl) (eq-eqb p p refl)

      by : (b : Bool) → Contains (cond b (Rho k p x ∷ map (Omega k p x) (count_from s.first s.fields)) []) u → is_at k p u ≡ true
      by false l = absurd (contains_none u l)
      by true l = elim (contains_cases (Rho k p x) u (map (Omega k p x) (count_from s.first s.fields)) l) [
        | inl e ↦ ap (is_at k p) (sym e) ∙ own
        | inr m ↦ let q = from_map (Omega k p x) (count_from s.first s.fields) u m in ap (is_at k p) (sym q.2) ∙ own
      ]

  row_passes : (k p : ℕ) (q : Rows) (u : Unknown) → Contains (place_list k q p) u → is_at k p u ≡ true
  row_passes k p q u h = let s = from_gather (length q.slots) (λ x. slot_list k p x (slot_at q x)) u h in slot_at_place k p s.0 (slot_at q s.0) u s.2

  of_kind : (k p : ℕ) (u : Unknown) → is_at k p u ≡ true → kind u ≡ 3
  of_kind k p (Rho l q x) e = refl
  of_kind k p (Omega l q x f) e = refl
  of_kind k p u e = absurd (false≢true e)

  one_place : (k p l q : ℕ) (u : Unknown) → is_at k p u ≡ true → is_at l q u ≡ true → (k ≡ l) × (p ≡ q)
  one_place k p l q (Rho m n x) a b =
      let c = and_parts (eqb m k) (eqb n p) a in
      let d = and_parts (eqb m l) (eqb n q) b in
      (sym (eqb-true m k c.0) ∙ eqb-true m l d.0, sym (eqb-true n p c.1) ∙ eqb-true n q d.1)
  one_place k p l q (Omega m n x f) a b =
      let c = and_parts (eqb m k) (eqb n p) a in
      let d = and_parts (eqb m l) (eqb n q) b in
      (sym (eqb-true m k c.0) ∙ eqb-true m l d.0, sym (eqb-true n p c.1) ∙ eqb-true n q d.1)
  one_place k p l q u a b = absurd (false≢true a)

  -- where an unknown of a place stands
  row_of : (k p : ℕ) (u : Unknown) → Contains all u → is_at k p u ≡ true
      → (i : ℕ) × (i < length members) × (get_or members i 0 ≡ k) × (p < (rows_at rows i).places) × Contains (place_list (get_or members i 0) (rows_at rows i) p) u
  row_of k p u h e =
      let a = from_gather (length rows) (λ i. rows_list (get_or members i 0) (rows_at rows i)) u (in_places fields members faces sites rows u (of_kind k p u e) h) in
      let q = rows_at rows a.0 in
      let b = from_gather q.places (place_list (get_or members a.0 0) q) u a.2 in
      let same = one_place (get_or members a.0 0) b.0 k p u (row_passes (get_or members a.0 0) b.0 q u b.2) e in (
        a.0,
        omega (arith, a.1, t.rows_count),
        same.0,
        subst (λ n. n < q.places) same.1 b.1,
        subst (λ n. Contains (place_list (get_or members a.0 0) q n) u) same.1 b.2,
      )

  pub no_row_range : (k p : ℕ) → ((i : ℕ) → i < length members → get_or members i 0 ≡ k → p < (rows_at rows i).places → ⊥) → IsRange (is_at k p) all (record { first = count + 1; count = 0 })
  no_row_range k p nowhere = none_pass (is_at k p) all count all_length (λ u h. elim (cases_Bool (is_at k p u)) [
    | inr e ↦ e
    | inl e ↦ let w = row_of k p u h e in absurd (nowhere w.0 w.1 w.2 w.3)
  ])

  module _ (i p : ℕ) (lt : i < length members) (inside : p < (rows_at rows i).places) where
    abbrev k : ℕ
    k = get_or members i 0

    abbrev here_rows : Rows
    here_rows = rows_at rows i

    abbrev row_list : List Unknown
    row_list = place_list k here_rows p

    row_only : (u : Unknown) → Contains all u → is_at k p u ≡ true → Contains row_list u
    row_only u h e =
        let w = row_of k p u h e in
        let same : w.0 ≡ i = sym (t.apart w.0 w.1) ∙ ap (place_in members) w.2 ∙ t.apart i lt in
        subst (λ n. Contains (place_list (get_or members n 0) (rows_at rows n) p) u) same w.4

    abbrev begin : ℕ
    begin = here_rows.before + p * here_rows.width

    row_climb : map r row_list ≡ count_from (suc begin) here_rows.width
    row_climb =
        at_place fields members faces sites rows t.apart t.faces_count t.rows_count t.slots i (omega (arith, lt, t.rows_count)) p inside
        ∙ ap (λ n. count_from n here_rows.width) (let e = total_same p here_rows.width in omega (arith, e))

    rows_whole : (front : List Unknown) × (back : List Unknown) × (all ≡ (front ++ row_list) ++ back)
    rows_whole =
        let a = gather_split (length rows) i (λ j. rows_list (get_or members j 0) (rows_at rows j)) (omega (arith, lt, t.rows_count)) in
        let b = gather_split here_rows.places p (place_list k here_rows) inside in
        let early : List Unknown = gather i (λ j. rows_list (get_or members j 0) (rows_at rows j)) in
        let before : List Unknown = gather p (place_list k here_rows) in (
          one ++ two ++ three ++ early ++ before,
          b.0 ++ a.0,
          ap (λ (us : List Unknown). one ++ two ++ three ++ us) (a.1 ∙ ap (λ (us : List Unknown). (early ++ us) ++ a.0) b.1) ∙ simp append_assoc,
        )

    pub row_range : 0 < here_rows.width → IsRange (is_at k p) all (record { first = begin + 1; count = here_rows.width })
    row_range some = part_range r all rows_whole.0 row_list rows_whole.1 count begin here_rows.width rows_whole.2 t.numbers row_climb (is_at k p) (row_passes k p here_rows) row_only some

    pub row_empty : here_rows.width ≡ 0 → IsRange (is_at k p) all (record { first = count + 1; count = 0 })
    row_empty none = part_empty r all rows_whole.0 row_list rows_whole.1 count begin here_rows.width rows_whole.2 t.numbers row_climb (is_at k p) (row_passes k p here_rows) row_only none

    pub row_room : 0 < here_rows.width → begin + here_rows.width ≤ 8388608
    row_room some =
        let w = part_within r all rows_whole.0 row_list rows_whole.1 count begin here_rows.width rows_whole.2 t.numbers row_climb (is_at k p) (row_passes k p here_rows) row_only some in
        omega (arith, w, t.small)

-- the same for what the getters read

module _ (fields : ℕ) (members : List ℕ) (faces sites : List Face) (rows : List Rows) (count : ℕ) (t : IsTable fields members faces sites rows count)
    (us : List Unknown) (view : table_list fields members faces sites rows ≡ us) where
  seen : (test : Unknown → Bool) (x y : NumberRange) → x ≡ y → IsRange test (table_list fields members faces sites rows) y → IsRange test us x
  seen test x y e h = subst (λ (vs : List Unknown). IsRange test vs x) view (subst (λ (z : NumberRange). IsRange test (table_list fields members faces sites rows) z) (sym e) h)

  stands_at : (k : ℕ) → is_in members k ≡ true → (place_in members k < length members) × (get_or members (place_in members k) 0 ≡ k)
  stands_at k is =
      let h = from_is_in members k is in
      let e : get_or members h.0 0 ≡ k = get_or_default members h.0 0 k h.1 ∙ h.2 in
      let p : place_in members k ≡ h.0 = ap (place_in members) (sym e) ∙ t.apart h.0 h.1 in
      (omega (arith, p, h.1), ap (λ i. get_or members i 0) p ∙ e)

  pub no_member_face : (k : ℕ) (x : NumberRange) → x ≡ no_numbers count → is_in members k ≡ false → IsRange (is_pi_of k) us x
  no_member_face k x e out = seen (is_pi_of k) x (no_numbers count) e (no_face_range fields members faces sites rows count t k out)

  pub no_member_row : (k p : ℕ) (x : NumberRange) → x ≡ no_numbers count → is_in members k ≡ false → IsRange (is_at k p) us x
  no_member_row k p x e out = seen (is_at k p) x (no_numbers count) e (no_row_range fields members faces sites rows count t k p
      (λ i lt same inside. true≢false (sym (is_in_true members k (subst (λ n. Contains members n) same (Contains-get_or members i 0 lt))) ∙ out)))

  pub no_site_face : (s : ℕ) (x : NumberRange) → x ≡ no_numbers count → length sites ≤ s → IsRange (is_sigma_of s) us x
  no_site_face s x e past = seen (is_sigma_of s) x (no_numbers count) e (no_site_range fields members faces sites rows count t s past)

  module _ (s : ℕ) (lt : s < length sites) (f : Face) (read : f ≡ get_or sites s f) where
    site_is : f ≡ face_at sites s
    site_is = get_or_read sites s f lt read no_face

    pub site_known_room : 0 < face_size f → f.before + face_size f ≤ 8388608
    site_known_room = subst (λ (g : Face). 0 < face_size g → g.before + face_size g ≤ 8388608) (sym site_is) (site_room fields members faces sites rows count t s lt)

    pub site_known : (x : NumberRange) → x ≡ face_numbers f count → IsRange (is_sigma_of s) us x
    site_known x e = seen (is_sigma_of s) x (face_numbers (face_at sites s) count) (e ∙ ap (λ (g : Face). face_numbers g count) site_is) (site_range fields members faces sites rows count t s lt)

  module _ (k at : ℕ) (is : is_in members k ≡ true) (place : at ≡ place_in members k) where
    pub at_within : at < length members
    at_within = let s = stands_at k is in omega (arith, s.0, place)

    at_is : get_or members at 0 ≡ k
    at_is = ap (λ i. get_or members i 0) place ∙ (stands_at k is).1

    module _ (f : Face) (read : f ≡ get_or faces at f) where
      face_is : f ≡ face_at faces at
      face_is = get_or_read faces at f (omega (arith, at_within, t.faces_count)) read no_face

      pub face_known_room : 0 < face_size f → f.before + face_size f ≤ 8388608
      face_known_room = subst (λ (g : Face). 0 < face_size g → g.before + face_size g ≤ 8388608) (sym face_is) (face_room fields members faces sites rows count t at at_within)

      pub face_known : (x : NumberRange) → x ≡ face_numbers f count → IsRange (is_pi_of k) us x
      face_known x e = seen (is_pi_of k) x (face_numbers (face_at faces at) count) (e ∙ ap (λ (g : Face). face_numbers g count) face_is)
          (subst (λ m. IsRange (is_pi_of m) (table_list fields members faces sites rows) (face_numbers (face_at faces at) count)) at_is (face_range fields members faces sites rows count t at at_within))

    module _ (q : Rows) (read : q ≡ get_or rows at q) where
      row_is : q ≡ rows_at rows at
      row_is = get_or_read rows at q (omega (arith, at_within, t.rows_count)) read no_rows

      pub row_past : (p : ℕ) → q.places ≤ p → (x : NumberRange) → x ≡ no_numbers count → IsRange (is_at k p) us x
      row_past p past x e = seen (is_at k p) x (no_numbers count) e (no_row_range fields members faces sites rows count t k p
          (λ i lt same inside.
          let here : i ≡ at = sym (t.apart i lt) ∙ ap (place_in members) same ∙ sym place in
          let n : (rows_at rows i).places ≡ q.places = ap (λ j. (rows_at rows j).places) here ∙ ap (λ (w : Rows). w.places) (sym row_is) in
          omega (arith, n, inside, past)))

      pub row_zero : (p : ℕ) → p < q.places → q.width ≡ 0 → (x : NumberRange) → x ≡ no_numbers count → IsRange (is_at k p) us x
      row_zero p inside none x e = seen (is_at k p) x (no_numbers count) e
          (subst (λ m. IsRange (is_at m p) (table_list fields members faces sites rows) (no_numbers count)) at_is
          (row_empty fields members faces sites rows count t at p at_within (subst (λ (w : Rows). p < w.places) row_is inside) (ap (λ (w : Rows). w.width) (sym row_is) ∙ none)))

      more : (q.width ≡ 0 → ⊥) → 0 < q.width
      more some = omega (arith, some)

      pub row_some : (p : ℕ) → p < q.places → (q.width ≡ 0 → ⊥) → IsRange (is_at k p) us (record { first = q.before + p * q.width + 1; count = q.width })
      row_some p inside some = subst (λ (w : Rows). IsRange (is_at k p) us (record { first = w.before + p * w.width + 1; count = w.width })) (sym row_is)
          (seen (is_at k p) _ _ refl
          (subst (λ m. IsRange (is_at m p) (table_list fields members faces sites rows) (record { first = (rows_at rows at).before + p * (rows_at rows at).width + 1; count = (rows_at rows at).width })) at_is
          (row_range fields members faces sites rows count t at p at_within (subst (λ (w : Rows). p < w.places) row_is inside) (subst (λ (w : Rows). 0 < w.width) row_is (more some)))))

      pub row_fits : (p : ℕ) → p < q.places → (q.width ≡ 0 → ⊥) → q.before + p * q.width + q.width ≤ 8388608
      row_fits p inside some = subst (λ (w : Rows). w.before + p * w.width + w.width ≤ 8388608) (sym row_is)
          (row_room fields members faces sites rows count t at p at_within (subst (λ (w : Rows). p < w.places) row_is inside) (subst (λ (w : Rows). 0 < w.width) row_is (more some)))
