-- Faults in shape: those of one instance, and those of the certificate.
use Rattle.std.proofs.Common.{◌≡◌, ◌≢◌, ℕ, zero, suc, ◌+◌, ◌<◌, ◌≤◌, ◌⊎◌, inl, inr, ⊎_elim, Bool, true, false, List, [], ◌∷◌, ◌++◌, Option, Some, None, refl, sym, ap, ◌∙◌, subst, arith, length, map, get_or, slice_get}
use Rattle.std.specs.Prelude.{sum_by, nat_eq, MatchBool}
use Rattle.std.specs.List.{Contains, range_with_len}
use Rattle.std.proofs.lemmas.Bool.{cases_eq, eqb-true, eq-eqb}
use Rattle.std.proofs.lemmas.List.{length-map, map-append, append_assoc}
use Rattle.std.proofs.lemmas.List.FromFn.{length-range_with_len, get_or-range_with_len}
use Rattle.std.proofs.lemmas.Option.{slice_get_within, slice_get_read, slice_get-map, slice_get_past, slice_get-get_or}
use Rattle.conflict_proof.specs.declared.names.ConstraintName.{ConstraintName}
use Rattle.conflict_proof.specs.declared.faults.Reason.TheVariants.{Range}
use Rattle.own_cert.specs.declared.certificate.PlaceBits.{PlaceBits}
use Rattle.own_cert.specs.declared.certificate.Instance.{Instance}
use Rattle.own_cert.specs.declared.certificate.Certificate.{Certificate}
use Rattle.verdict_meaning.specs.Systems.{System, root, members, callees}
use Rattle.verdict_meaning.specs.Certificates.{Spot, spots, spots_of, spot_of}
use Rattle.verdict_meaning.specs.CertificateFaults.{HasFault, instance_line}
use Rattle.verdict_meaning.specs.CertificateFaults as fault
use Rattle.cert_checker.specs.declared.places.Place.{Place}
use Rattle.cert_checker.specs.Places.{spot_at, spots_from}
use Rattle.cert_checker.specs.Finding.{IsBelow, IsFirstAt, IsFirstBelow, IsCleanBelow, IsWrongRow, RowsFault, ShapeFault}
use Rattle.cert_checker.specs.Finding as shape
use Rattle.cert_checker.proofs.LineLemmas.{lt_or_le, line_next, line_later, line_mono, line_above}
use Rattle.cert_checker.proofs.FirstLemmas.{below_mono}
use Rattle.cert_checker.proofs.Among.{in_map, of_map, of_all, at_place}

-- a number is among others, or is not
pub has_number : (xs : List ℕ) (x : ℕ) → Contains xs x ⊎ (Contains xs x → ⊥)
has_number [] x = inr (λ (h : Contains [] x). let lt = h.1 in omega arith)
has_number (y ∷ ys) x =
    ⊎_elim (λ (e : y ≡ x). inl (0, omega arith, e))
    (λ (ne : y ≡ x → ⊥).
    ⊎_elim (λ (h : Contains ys x). inl (suc h.0, (let lt = h.1 in omega arith), h.2)) (λ (never : Contains ys x → ⊥). inr (neither ne never)) (has_number ys x))
    (cases_eq y x)
  where
    neither : (y ≡ x → ⊥) → (Contains ys x → ⊥) → Contains (y ∷ ys) x → ⊥
    neither ne never (zero, lt, e) = ne e
    neither ne never (suc k, lt, e) = never (k, omega arith, e)

-- Places

spots_push : (proc n : ℕ) → spots_from proc (n + 1) ≡ spots_from proc n ++ (let x : Spot = record { proc = proc; place = n } in x) ∷ []
spots_push proc n = (let one : n + 1 ≡ suc n = omega arith in ap (spots_from proc) one) ∙ at_end 0 n ∙ (let e : 0 + n ≡ n = omega arith in ap (λ (k : ℕ). spots_from proc n ++ (let x : Spot = record { proc = proc; place = k } in x) ∷ []) e)
  where
    at_end : (from n : ℕ) → map (λ (q : ℕ). let x : Spot = record { proc = proc; place = q } in x) (range_with_len from (suc n))
        ≡ map (λ (q : ℕ). let x : Spot = record { proc = proc; place = q } in x) (range_with_len from n) ++ (let x : Spot = record { proc = proc; place = from + n } in x) ∷ []
    at_end from zero = let e : from ≡ from + 0 = omega arith in ap (λ (k : ℕ). let x : Spot = record { proc = proc; place = k } in x ∷ []) e
    at_end from (suc n) =
        let e : from + 1 + n ≡ from + suc n = omega arith in
        let first : Spot = record { proc = proc; place = from } in
        ap (λ (xs : List Spot). first ∷ xs) (at_end (from + 1) n)
        ∙ ap (λ (k : ℕ). first ∷ (map (λ (q : ℕ). let x : Spot = record { proc = proc; place = q } in x) (range_with_len (from + 1) n) ++ (let x : Spot = record { proc = proc; place = k } in x) ∷ [])) e

pub one_more_spot : (xs ys zs : List Place) (proc n : ℕ) → map spot_at ys ≡ map spot_at xs ++ spots_from proc n → zs ≡ ys ++ (let p : Place = record { proc = proc; place = n } in p) ∷ []
    → map spot_at zs ≡ map spot_at xs ++ spots_from proc (n + 1)
one_more_spot xs ys zs proc n e f =
    let p : Place = record { proc = proc; place = n } in
    ap (map spot_at) f ∙ map-append spot_at ys (p ∷ []) ∙ ap (λ (ps : List Spot). ps ++ spot_at p ∷ []) e
    ∙ append_assoc (map spot_at xs) (spots_from proc n) (spot_at p ∷ []) ∙ ap (λ (ps : List Spot). map spot_at xs ++ ps) (sym (spots_push proc n))

-- Rows

pub due_at : (s : System) (g : ℕ) (due : List Place) → map spot_at due ≡ spots s g → (k : ℕ) (p : Place) → slice_get due k ≡ Some p → slice_get (spots s g) k ≡ Some (spot_at p)
due_at s g due are k p at = ap (λ (ps : List Spot). slice_get ps k) (sym are) ∙ slice_get-map spot_at due k ∙ some_spot (slice_get due k) at
  where
    some_spot : (o : Option Place) → o ≡ Some p → elim o [ None ↦ None | Some q ↦ Some (spot_at q) ] ≡ Some (spot_at p)
    some_spot None e = cc
    some_spot (Some q) e = let same : q ≡ p = cc in ap (λ (x : Place). Some (spot_at x)) same

module _ (s : System) (g : ℕ) (due : List Place) (rows : List PlaceBits) (are : map spot_at due ≡ spots s g) where
  due_length : length due ≡ length (spots s g)
  due_length = sym (length-map due spot_at) ∙ ap length are

  pub past_wrong : (k : ℕ) (row : PlaceBits) → slice_get rows k ≡ Some row → length due ≤ k → IsWrongRow s g rows k
  past_wrong k row at le =
      let e = due_length in
      let none : slice_get (spots s g) k ≡ None = slice_get_past (spots s g) k (omega (arith, e)) in
      shape.place row at (λ some. cc)

  pub other_wrong : (k : ℕ) (row : PlaceBits) (p : Place) → slice_get rows k ≡ Some row → slice_get due k ≡ Some p → (p.proc ≡ row.proc → p.place ≡ row.place → ⊥) → IsWrongRow s g rows k
  other_wrong k row p at at' ne =
      let there = due_at s g due are k p at' in
      shape.place row at
      (λ some. let same : spot_at p ≡ spot_of row = cc in ne (ap (λ (x : Spot). x.proc) same) (ap (λ (x : Spot). x.place) same))

  pub width_wrong : (k : ℕ) (row : PlaceBits) → slice_get rows k ≡ Some row → length row.bits ≢ s.width row.proc → IsWrongRow s g rows k
  width_wrong k row at ne = shape.width row at ne

  pub row_right : (k : ℕ) (row : PlaceBits) (p : Place) → slice_get rows k ≡ Some row → slice_get due k ≡ Some p → p.proc ≡ row.proc → p.place ≡ row.place
      → length row.bits ≡ s.width row.proc → IsWrongRow s g rows k → ⊥
  row_right k row p at at' proc place width (shape.place row' there ne) =
      let same : row ≡ row' = cc in
      let is = due_at s g due are k p at' in
      let equal : spot_at p ≡ spot_of row =
      ap (λ (n : ℕ). let x : Spot = record { proc = n; place = p.place } in x) proc ∙ ap (λ (n : ℕ). let x : Spot = record { proc = row.proc; place = n } in x) place in
      ne (is ∙ ap Some equal ∙ ap (λ (r : PlaceBits). Some (spot_of r)) same)
  row_right k row p at at' proc place width (shape.width row' there ne) =
      let same : row ≡ row' = cc in
      ne (ap (λ (r : PlaceBits). length r.bits) (sym same) ∙ width ∙ ap (λ (r : PlaceBits). s.width r.proc) same)

  -- the last test of a row
  pub width_test : (k : ℕ) (row : PlaceBits) (p : Place) → slice_get rows k ≡ Some row → slice_get due k ≡ Some p → p.proc ≡ row.proc → p.place ≡ row.place
      → (len width : ℕ) → len ≡ length row.bits → width ≡ s.width p.proc → MatchBool (nat_eq len width) (IsWrongRow s g rows k → ⊥) (IsWrongRow s g rows k)
  width_test k row p at at' proc place len width e f = by_test (nat_eq len width) refl
    where
      by_test : (b : Bool) → nat_eq len width ≡ b → MatchBool b (IsWrongRow s g rows k → ⊥) (IsWrongRow s g rows k)
      by_test true t = row_right k row p at at' proc place (sym e ∙ eqb-true len width t ∙ f ∙ ap s.width proc)
      by_test false t = width_wrong k row at (λ h. no_both t (eq-eqb len width (e ∙ h ∙ sym (f ∙ ap s.width proc))))
        where
          no_both : nat_eq len width ≡ false → nat_eq len width ≡ true → ⊥
          no_both x y = cc

  pub rows_first : (k : ℕ) → ((m : ℕ) → m < k → IsWrongRow s g rows m → ⊥) → IsWrongRow s g rows k → IsFirstAt None (RowsFault s g rows) k
  rows_first k none wrong = record { is = shape.wrong k wrong; below = tt; first = later }
    where
      within : IsWrongRow s g rows k → k < length rows
      within (shape.place row at ne) = slice_get_within rows k row at
      within (shape.width row at ne) = slice_get_within rows k row at

      later : (m : ℕ) → RowsFault s g rows m → k ≤ m
      later m (shape.wrong n w) = ⊎_elim (λ (lt : n < k). absurd (none n lt w)) (λ (le : k ≤ n). le) (lt_or_le n k)
      later m (shape.missing lt) = let w = within wrong in omega (arith, w)

  pub rows_short : (n : ℕ) → length rows ≤ n → ((m : ℕ) → m < n → IsWrongRow s g rows m → ⊥) → length rows < length due → IsFirstAt None (RowsFault s g rows) (length rows)
  rows_short n le none lt = record { is = shape.missing (let e = due_length in omega (arith, e)); below = tt; first = later }
    where
      later : (m : ℕ) → RowsFault s g rows m → length rows ≤ m
      later m (shape.wrong k w) = ⊎_elim (λ (small : k < n). absurd (none k small w)) (λ (ge : n ≤ k). omega arith) (lt_or_le k n)
      later m (shape.missing lt') = omega arith

  pub rows_none : (n : ℕ) → length rows ≤ n → ((m : ℕ) → m < n → IsWrongRow s g rows m → ⊥) → length due ≤ length rows → IsFirstBelow None (RowsFault s g rows) None
  rows_none n le none ge line (shape.wrong k w) below = ⊎_elim (λ (small : k < n). none k small w) (λ (big : n ≤ k). outside w (omega arith)) (lt_or_le k n)
    where
      outside : IsWrongRow s g rows k → length rows ≤ k → ⊥
      outside (shape.place row at ne) past = let lt = slice_get_within rows k row at in omega (arith, lt)
      outside (shape.width row at ne) past = let lt = slice_get_within rows k row at in omega (arith, lt)
  rows_none n le none ge line (shape.missing lt) below = let e = due_length in omega (arith, e)

-- a place that is due is of a member
pub due_member : (s : System) (g : ℕ) (due : List Place) → map spot_at due ≡ spots s g → (k : ℕ) (p : Place) → slice_get due k ≡ Some p → Contains (members s g) p.proc
due_member s g due are k p at =
    let h : Contains (map spot_at due) (spot_at p) = in_map spot_at due p (at_place due k p at) in
    let o = of_all (spots_of s) (members s g) (spot_at p) (subst (λ (ps : List Spot). Contains ps (spot_at p)) are h) in
    let q = of_map (λ (n : ℕ). let x : Spot = record { proc = o.0; place = n } in x) (range_with_len 0 (s.places o.0)) (spot_at p) o.2 in
    subst (Contains (members s g)) (ap (λ (x : Spot). x.proc) q.2) o.1

-- and there is such a place
pub due_place : (s : System) (g : ℕ) (due : List Place) → map spot_at due ≡ spots s g → (k : ℕ) (p : Place) → slice_get due k ≡ Some p → p.place < s.places p.proc
due_place s g due are k p at =
    let h : Contains (map spot_at due) (spot_at p) = in_map spot_at due p (at_place due k p at) in
    let o = of_all (spots_of s) (members s g) (spot_at p) (subst (λ (ps : List Spot). Contains ps (spot_at p)) are h) in
    let q = of_map (λ (n : ℕ). let x : Spot = record { proc = o.0; place = n } in x) (range_with_len 0 (s.places o.0)) (spot_at p) o.2 in
    let proc : s.places o.0 ≡ s.places p.proc = ap (λ (x : Spot). s.places x.proc) q.2 in
    let place : q.0 ≡ p.place = ap (λ (x : Spot). x.place) q.2 in
    let i : ℕ = q.1.0 in
    let lt = q.1.1 in
    let long = length-range_with_len 0 (s.places o.0) in
    let small : i < s.places o.0 = omega (arith, lt, long) in
    let is : get_or (range_with_len 0 (s.places o.0)) i q.0 ≡ q.0 = q.1.2 in
    let value = get_or-range_with_len 0 (s.places o.0) i q.0 small in
    omega (arith, is, value, small, proc, place)

-- One instance

module _ (s : System) (i : Instance) where
  -- a line above none has no fault before it
  pub at_first : ShapeFault s i 0 → IsFirstAt None (ShapeFault s i) 0
  at_first f = record { is = f; below = tt; first = λ other g. omega arith }

  pub at_iface : i.group < root s → Contains (members s i.group) i.entry → length i.iface ≢ sum_by s.parts (members s i.group) → IsFirstAt None (ShapeFault s i) 1
  at_iface lt entry ne = record { is = shape.iface ne; below = tt; first = later }
    where
      later : (m : ℕ) → ShapeFault s i m → 1 ≤ m
      later m (shape.group ge) = absurd (omega arith)
      later m (shape.entry never) = absurd (never entry)
      later m (shape.iface ne') = omega arith
      later m (shape.count ne') = omega arith
      later m (shape.rows k f) = omega arith

  pub at_count : i.group < root s → Contains (members s i.group) i.entry → length i.iface ≡ sum_by s.parts (members s i.group)
      → length i.sites ≢ length (callees s i.group) → IsFirstAt None (ShapeFault s i) 2
  at_count lt entry e ne = record { is = shape.count ne; below = tt; first = later }
    where
      later : (m : ℕ) → ShapeFault s i m → 2 ≤ m
      later m (shape.group ge) = absurd (omega arith)
      later m (shape.entry never) = absurd (never entry)
      later m (shape.iface ne') = absurd (ne' e)
      later m (shape.count ne') = omega arith
      later m (shape.rows k f) = omega arith

  pub at_rows : (n : ℕ) → i.group < root s → Contains (members s i.group) i.entry → length i.iface ≡ sum_by s.parts (members s i.group)
      → length i.sites ≡ length (callees s i.group) → IsFirstAt None (RowsFault s i.group i.places) n → IsFirstAt None (ShapeFault s i) (n + 3)
  at_rows n lt entry e e' f = record { is = shape.rows n f.is; below = tt; first = later }
    where
      later : (m : ℕ) → ShapeFault s i m → n + 3 ≤ m
      later m (shape.group ge) = absurd (omega arith)
      later m (shape.entry never) = absurd (never entry)
      later m (shape.iface ne') = absurd (ne' e)
      later m (shape.count ne') = absurd (ne' e')
      later m (shape.rows k g) = let le = f.first k g in omega (arith, le)

  pub at_none : i.group < root s → Contains (members s i.group) i.entry → length i.iface ≡ sum_by s.parts (members s i.group)
      → length i.sites ≡ length (callees s i.group) → IsFirstBelow None (RowsFault s i.group i.places) None → IsFirstBelow None (ShapeFault s i) None
  at_none lt entry e e' f line (shape.group ge) below = omega arith
  at_none lt entry e e' f line (shape.entry never) below = never entry
  at_none lt entry e e' f line (shape.iface ne) below = ne e
  at_none lt entry e e' f line (shape.count ne) below = ne e'
  at_none lt entry e e' f line (shape.rows k g) below = f k g tt

  rows_within : (k : ℕ) → RowsFault s i.group i.places k → k ≤ length i.places
  rows_within k (shape.wrong n w) = by_row w
    where
      by_row : IsWrongRow s i.group i.places n → n ≤ length i.places
      by_row (shape.place row at ne) = let lt = slice_get_within i.places n row at in omega (arith, lt)
      by_row (shape.width row at ne) = let lt = slice_get_within i.places n row at in omega (arith, lt)
  rows_within k (shape.missing lt) = omega arith

  pub within_lines : (o : ℕ) → ShapeFault s i o → o ≤ length i.places + 3
  within_lines o (shape.group ge) = omega arith
  within_lines o (shape.entry never) = omega arith
  within_lines o (shape.iface ne) = omega arith
  within_lines o (shape.count ne) = omega arith
  within_lines o (shape.rows k f) = let le = rows_within k f in omega (arith, le)

-- The certificate

-- some instance has a wrong shape, on this line
pub record IsShapeAt (s : System) (c : Certificate) (line : ℕ) : Type 0 where
  pub number : ℕ
  pub instance : Instance
  pub there : slice_get c.instances number ≡ Some instance
  pub offset : ℕ
  pub fault : ShapeFault s instance offset
  pub is : line ≡ instance_line c.instances number + offset

-- the instances before this one have none
abbrev pub AreShaped : System → Certificate → ℕ → Type 0
AreShaped s c n = (m : ℕ) (i : Instance) → m < n → slice_get c.instances m ≡ Some i → (o : ℕ) → ShapeFault s i o → ⊥

pub one_more_shaped : (s : System) (c : Certificate) (n : ℕ) (i : Instance) → slice_get c.instances n ≡ Some i → AreShaped s c n → IsFirstBelow None (ShapeFault s i) None → AreShaped s c (n + 1)
one_more_shaped s c n i at before f m j lt at' o fault =
    ⊎_elim (λ (less : m < n). before m j less at' o fault)
    (λ (ge : n ≤ m).
    let e : m ≡ n = omega arith in
    let same : j ≡ i = (let x = ap (λ (k : ℕ). slice_get c.instances k) e in cc) in
    f o (subst (λ (k : Instance). ShapeFault s k o) same fault) tt) (lt_or_le m n)

module _ (s : System) (U : ConstraintName → Bool) (c : Certificate) where
  pub to_fault : (n : ℕ) (i : Instance) → slice_get c.instances n ≡ Some i → (o : ℕ) → ShapeFault s i o → HasFault s U c Range (instance_line c.instances n + o)
  to_fault n i at o (shape.group ge) = let e : instance_line c.instances n ≡ instance_line c.instances n + 0 = omega arith in subst (HasFault s U c Range) e (fault.group n i at ge)
  to_fault n i at o (shape.entry never) = let e : instance_line c.instances n ≡ instance_line c.instances n + 0 = omega arith in subst (HasFault s U c Range) e (fault.entry n i at never)
  to_fault n i at o (shape.iface ne) = fault.iface n i at ne
  to_fault n i at o (shape.count ne) = fault.count n i at ne
  to_fault n i at o (shape.rows k f) = by_rows k f
    where
      far : (j : ℕ) → instance_line c.instances n + 3 + j ≡ instance_line c.instances n + (j + 3)
      far j = omega arith

      by_row : (j : ℕ) → IsWrongRow s i.group i.places j → HasFault s U c Range (instance_line c.instances n + (j + 3))
      by_row j (shape.place row there ne) = subst (HasFault s U c Range) (far j) (fault.place n j i row at there ne)
      by_row j (shape.width row there ne) = subst (HasFault s U c Range) (far j) (fault.width n j i row at there ne)

      by_rows : (j : ℕ) → RowsFault s i.group i.places j → HasFault s U c Range (instance_line c.instances n + (j + 3))
      by_rows j (shape.wrong k w) = by_row k w
      by_rows j (shape.missing lt) = subst (HasFault s U c Range) (line_next c.instances n i at) (fault.missing_place n i at lt)

  pub from_fault : (line : ℕ) → HasFault s U c Range line → ((line ≡ 2) × (length c.phi ≢ s.fields)) ⊎ IsShapeAt s c line
  from_fault line (fault.phi ne) = inl (refl, ne)
  from_fault line (fault.group n i at ge) = inr (record { number = n; instance = i; there = at; offset = 0; fault = shape.group ge; is = omega arith })
  from_fault line (fault.entry n i at never) = inr (record { number = n; instance = i; there = at; offset = 0; fault = shape.entry never; is = omega arith })
  from_fault line (fault.iface n i at ne) = inr (record { number = n; instance = i; there = at; offset = 1; fault = shape.iface ne; is = refl })
  from_fault line (fault.count n i at ne) = inr (record { number = n; instance = i; there = at; offset = 2; fault = shape.count ne; is = refl })
  from_fault line (fault.place n k i row at there ne) =
      inr (record { number = n; instance = i; there = at; offset = k + 3; fault = shape.rows k (shape.wrong k (shape.place row there ne)); is = omega arith })
  from_fault line (fault.width n k i row at there ne) =
      inr (record { number = n; instance = i; there = at; offset = k + 3; fault = shape.rows k (shape.wrong k (shape.width row there ne)); is = omega arith })
  from_fault line (fault.missing_place n i at lt) =
      inr (record { number = n; instance = i; there = at; offset = length i.places + 3; fault = shape.rows (length i.places) (shape.missing lt); is = line_next c.instances n i at })

  at_two : (line : ℕ) → HasFault s U c Range line → 2 ≤ line
  at_two line h =
      ⊎_elim (λ (p : (line ≡ 2) × (length c.phi ≢ s.fields)). let e = p.0 in omega (arith, e))
      (λ (a : IsShapeAt s c line). let e = a.is in let l = line_above c.instances a.number in omega (arith, e, l)) (from_fault line h)

  pub phi_first : length c.phi ≢ s.fields → IsFirstAt None (HasFault s U c Range) 2
  phi_first ne = record { is = fault.phi ne; below = tt; first = at_two }

  pub shape_first : (n : ℕ) (i : Instance) (o line : ℕ) → length c.phi ≡ s.fields → slice_get c.instances n ≡ Some i → AreShaped s c n → line ≡ instance_line c.instances n + o
      → IsFirstAt None (ShapeFault s i) o → IsFirstAt None (HasFault s U c Range) line
  shape_first n i o line phi at none e f = record {
    is = subst (HasFault s U c Range) (sym e) (to_fault n i at o f.is);
    below = tt;
    first = λ other h.
        ⊎_elim (λ (p : (other ≡ 2) × (length c.phi ≢ s.fields)). absurd (p.1 phi)) (λ (a : IsShapeAt s c other). later other a (lt_or_le a.number n)) (from_fault other h);
  }
    where
      not_before : (other : ℕ) (a : IsShapeAt s c other) → n ≤ a.number → (a.number ≡ n) ⊎ (a.number ≡ n → ⊥) → line ≤ other
      not_before other a le (inl same) =
          let here : i ≡ a.instance = (let there = ap (λ (k : ℕ). slice_get c.instances k) (sym same) ∙ a.there in cc) in
          let first : o ≤ a.offset = f.first a.offset (subst (λ (j : Instance). ShapeFault s j a.offset) (sym here) a.fault) in
          let is = a.is in
          let l : instance_line c.instances a.number ≡ instance_line c.instances n = ap (instance_line c.instances) same in
          omega (arith, e, first, is, l)
      not_before other a le (inr ne) =
          let l = line_later c.instances n a.number i at (omega (arith, ne)) in
          let is = a.is in
          let w = within_lines s i o f.is in
          omega (arith, e, l, is, w)

      later : (other : ℕ) (a : IsShapeAt s c other) → (a.number < n) ⊎ (n ≤ a.number) → line ≤ other
      later other a (inl lt) = absurd (none a.number a.instance lt a.there a.offset a.fault)
      later other a (inr le) = not_before other a le (cases_eq a.number n)

  pub shape_none : (n : ℕ) → length c.instances ≤ n → length c.phi ≡ s.fields → AreShaped s c n → IsFirstBelow None (HasFault s U c Range) None
  shape_none n le phi none line h below =
      ⊎_elim (λ (p : (line ≡ 2) × (length c.phi ≢ s.fields)). p.1 phi)
      (λ (a : IsShapeAt s c line). let lt = slice_get_within c.instances a.number a.instance a.there in none a.number a.instance (omega (arith, lt)) a.there a.offset a.fault)
      (from_fault line h)

  -- Below a bound up to which shapes are right

  module _ (b : Option ℕ) (shapes : IsCleanBelow b (HasFault s U c Range)) (n : ℕ) (i : Instance) (at : slice_get c.instances n ≡ Some i) where
    pub no_shape_fault : (o line : ℕ) → instance_line c.instances n + o ≤ line → IsBelow b line → ShapeFault s i o → ⊥
    no_shape_fault o line le below f = shapes (instance_line c.instances n + o) (to_fault n i at o f) (below_mono b (instance_line c.instances n + o) line le below)

    pub group_there : (line : ℕ) → instance_line c.instances n ≤ line → IsBelow b line → i.group < root s
    group_there line le below =
        ⊎_elim (λ (lt : i.group < root s). lt) (λ (ge : root s ≤ i.group). absurd (no_shape_fault 0 line (omega (arith, le)) below (shape.group ge))) (lt_or_le i.group (root s))

    pub entry_there : (line : ℕ) → instance_line c.instances n ≤ line → IsBelow b line → Contains (members s i.group) i.entry
    entry_there line le below =
        ⊎_elim (λ (h : Contains (members s i.group) i.entry). h)
        (λ (never : Contains (members s i.group) i.entry → ⊥). absurd (no_shape_fault 0 line (omega (arith, le)) below (shape.entry never))) (has_number (members s i.group) i.entry)

    pub iface_right : (line : ℕ) → instance_line c.instances n + 1 ≤ line → IsBelow b line → length i.iface ≡ sum_by s.parts (members s i.group)
    iface_right line le below =
        ⊎_elim (λ (e : length i.iface ≡ sum_by s.parts (members s i.group)). e)
        (λ (ne : length i.iface ≡ sum_by s.parts (members s i.group) → ⊥). absurd (no_shape_fault 1 line le below (shape.iface ne)))
        (cases_eq (length i.iface) (sum_by s.parts (members s i.group)))

    pub count_right : (line : ℕ) → instance_line c.instances n + 2 ≤ line → IsBelow b line → length i.sites ≡ length (callees s i.group)
    count_right line le below =
        ⊎_elim (λ (e : length i.sites ≡ length (callees s i.group)). e)
        (λ (ne : length i.sites ≡ length (callees s i.group) → ⊥). absurd (no_shape_fault 2 line le below (shape.count ne)))
        (cases_eq (length i.sites) (length (callees s i.group)))

  pub phi_right : (b : Option ℕ) → IsCleanBelow b (HasFault s U c Range) → (line : ℕ) → 2 ≤ line → IsBelow b line → length c.phi ≡ s.fields
  phi_right b shapes line le below =
      ⊎_elim (λ (e : length c.phi ≡ s.fields). e) (λ (ne : length c.phi ≡ s.fields → ⊥). absurd (shapes 2 (fault.phi ne) (below_mono b 2 line le below))) (cases_eq (length c.phi) s.fields)
