-- The first fault of a certificate is at a line of its first text.
use Rattle.std.proofs.Common.{◌≡◌, ℕ, suc, ◌+◌, ◌-◌, ◌<◌, ◌≤◌, ◌⊎◌, inl, inr, Bool, true, false, if◌then◌else◌, List, [], ◌∷◌, ◌++◌, Some, refl, sym, ap, ◌∙◌, subst, arith, length, take, map, nat_le, slice_get, zero-le, length-append}
use Rattle.std.specs.Prelude.{sum_by}
use Rattle.std.specs.List.{flat_map}
use Rattle.std.proofs.lemmas.List.{length-map, take_all}
use Rattle.std.proofs.lemmas.List.Sums.{sum_by-cons}
use Rattle.std.proofs.lemmas.Option.{slice_get_within}
use Rattle.conflict_proof.specs.declared.names.ConstraintName.{ConstraintName}
use Rattle.conflict_proof.specs.declared.faults.Reason.{Reason}
use Rattle.conflict_proof.specs.declared.faults.Reason.TheVariants as reason
use Rattle.conflict_proof.specs.declared.faults.BadLine.{BadLine}
use Rattle.own_cert.specs.declared.certificate.PlaceBits.{PlaceBits}
use Rattle.own_cert.specs.declared.certificate.Instance.{Instance}
use Rattle.own_cert.specs.declared.certificate.Certificate.{Certificate}
use Rattle.transfer_rules.specs.Programs.{Parts}
use Rattle.zo_core.specs.Truth.{all_true}
use Rattle.verdict_meaning.specs.Systems.{System, members, callees, callee_parts}
use Rattle.verdict_meaning.specs.Solutions.{all_names}
use Rattle.verdict_meaning.specs.Programs.{system_in}
use Rattle.verdict_meaning.specs.Certificates.{Spot, spots, assignment_of}
use Rattle.verdict_meaning.specs.CertificateFaults.{HasFault, IsFirstFault, lines_of, phi_line, instance_line, iface_line, sites_line, place_line, end_line, place_of, line_of, unknowns_of, greatest, last_line, rank}
use Rattle.verdict_meaning.specs.CertificateFaults as fault
use Rattle.cert_checker.proofs.LineLemmas.{line_next, line_mono, line_above, lt_or_le}
use Rattle.text_checker.specs.Verified.{IsFirstLine}
use Rattle.text_checker.proofs.Filled.{some_unknown, clauses_filled}

-- How many lines a text has that has three for an instance and one for each of its places

pub placed : {X : Type 0} (P : PlaceBits → X) (i : Instance) → suc (suc (suc (length (map P i.places)))) ≡ lines_of i
placed P i =
    let e : length (map P i.places) ≡ length i.places = length-map i.places P in
    let h : suc (suc (suc (length (map P i.places)))) ≡ 3 + length i.places = omega (arith, e) in h

all_lines : {X : Type 0} (H : Instance → List X) (is : List Instance) → ((i : Instance) → length (H i) ≡ lines_of i) → length (flat_map H is) ≡ sum_by lines_of is
all_lines H [] each = refl
all_lines H (i ∷ is) each =
    let e : length (H i) ≡ lines_of i = each i in
    let f : length (flat_map H is) ≡ sum_by lines_of is = all_lines H is each in
    length-append (H i) (flat_map H is) ∙ (let h : length (H i) + length (flat_map H is) ≡ lines_of i + sum_by lines_of is = omega (arith, e, f) in h)
    ∙ sym (sum_by-cons lines_of i is)

pub within_text : {X : Type 0} (H : Instance → List X) (e : X) (is : List Instance) (line : ℕ) → ((i : Instance) → length (H i) ≡ lines_of i)
    → line ≤ end_line is → line ≤ suc (suc (length (flat_map H is ++ e ∷ [])))
within_text H e is line each le =
    let k : length (flat_map H is) ≡ sum_by lines_of is = all_lines H is each in
    let f : length (flat_map H is ++ e ∷ []) ≡ length (flat_map H is) + 1 = length-append (flat_map H is) (e ∷ []) in
    let g : sum_by lines_of (take (length is) is) ≡ sum_by lines_of is =
    (let whole : take (length is) is ≡ is = take_all (length is) is (omega arith) in ap (sum_by lines_of) whole) in
    omega (arith, k, f, g, le)

-- a line between phi's and the last one
record IsBetween (c : Certificate) (line : ℕ) : Type 0 where
  above : 2 ≤ line
  below : line ≤ end_line c.instances

-- The lines of an instance

module _ (c : Certificate) (n : ℕ) (i : Instance) (at : slice_get c.instances n ≡ Some i) where
  next_below : instance_line c.instances n + (length i.places + 3) ≤ end_line c.instances
  next_below =
      let lt : n < length c.instances = slice_get_within c.instances n i at in
      let e : instance_line c.instances (n + 1) ≡ instance_line c.instances n + (length i.places + 3) = line_next c.instances n i at in
      let h : instance_line c.instances (n + 1) ≤ end_line c.instances = line_mono c.instances (n + 1) (length c.instances) (omega (arith, lt)) in
      omega (arith, e, h)

  of_instance : (k at_line : ℕ) → at_line ≡ instance_line c.instances n + k → k ≤ length i.places + 3 → IsBetween c at_line
  of_instance k at_line e le =
      let h = next_below in
      let low = line_above c.instances n in
      record { above = omega (arith, e, low); below = omega (arith, e, h, le) }

  of_next : IsBetween c (instance_line c.instances (n + 1))
  of_next = of_instance (length i.places + 3) (instance_line c.instances (n + 1)) (line_next c.instances n i at) (omega arith)

-- The line of an unknown

place_within : (width : Spot → ℕ) (ps : List Spot) (u : ℕ) → place_of width ps u ≤ length ps
place_within width [] u = zero-le
place_within width (p ∷ ps) u = by_test (nat_le u (width p)) (place_within width ps (u - width p))
  where
    by_test : (b : Bool) → place_of width ps (u - width p) ≤ length ps → (if b then 0 else place_of width ps (u - width p) + 1) ≤ suc (length ps)
    by_test true le = zero-le
    by_test false le = omega (arith, le)

by_tests : (P : ℕ → Type 0) (x y z : Bool) (j k l m : ℕ) → P j → P k → P l → P m → P (if x then j else if y then k else if z then l else m)
by_tests P true y z j k l m a b d e = a
by_tests P false true z j k l m a b d e = b
by_tests P false false true j k l m a b d e = d
by_tests P false false false j k l m a b d e = e

module _ (s : System) (c : Certificate) (n g : ℕ) where
  abbrev faces : ℕ
  faces = s.fields + sum_by s.parts (members s g)

  abbrev called : ℕ
  called = faces + sum_by (callee_parts s) (callees s g)

  abbrev the_place : ℕ → ℕ
  the_place u = place_of (λ (q : Spot). s.width q.proc) (spots s g) (u - called)

  unknown_above : (u : ℕ) → 2 ≤ line_of s c n g u
  unknown_above u =
      let low = line_above c.instances n in
      by_tests (λ (k : ℕ). 2 ≤ k) (nat_le u s.fields) (nat_le u faces) (nat_le u called)
      phi_line (iface_line c.instances n) (sites_line c.instances n) (place_line c.instances n (the_place u))
      (omega arith) (omega (arith, low)) (omega (arith, low)) (omega (arith, low))

  unknown_below : (i : Instance) → slice_get c.instances n ≡ Some i → length (spots s g) ≤ length i.places → (u : ℕ) → line_of s c n g u ≤ end_line c.instances
  unknown_below i at enough u =
      let k : the_place u ≤ length (spots s g) = place_within (λ (q : Spot). s.width q.proc) (spots s g) (u - called) in
      let h : instance_line c.instances n + (length i.places + 3) ≤ end_line c.instances = next_below c n i at in
      by_tests (λ (m : ℕ). m ≤ end_line c.instances) (nat_le u s.fields) (nat_le u faces) (nat_le u called)
      phi_line (iface_line c.instances n) (sites_line c.instances n) (place_line c.instances n (the_place u))
      (omega arith) (omega (arith, h)) (omega (arith, h)) (omega (arith, h, k, enough))

  greatest_below : (us : List ℕ) (most : ℕ) → ((u : ℕ) → line_of s c n g u ≤ most) → greatest (map (line_of s c n g) us) ≤ most
  greatest_below [] most each = zero-le
  greatest_below (u ∷ us) most each =
      let a : line_of s c n g u ≤ most = each u in
      let b : greatest (map (line_of s c n g) us) ≤ most = greatest_below us most each in
      omega (arith, a, b)

  -- a constraint that has an unknown is not false on the header
  last_above : (name : ConstraintName) (u : ℕ) (us : List ℕ) → unknowns_of s g name ≡ u ∷ us → 2 ≤ last_line s c n g name
  last_above name u us e =
      let a : 2 ≤ line_of s c n g u = unknown_above u in
      let b : 2 ≤ greatest (map (line_of s c n g) (u ∷ us)) = omega (arith, a) in
      subst (λ (vs : List ℕ). 2 ≤ greatest (map (line_of s c n g) vs)) (sym e) b

-- The first fault

module _ (p : Parts) (c : Certificate) where
  abbrev s : System
  s = system_in p

  false_between : (n : ℕ) (i : Instance) (name : ConstraintName) → slice_get c.instances n ≡ Some i
      → all_true (assignment_of s c i) (s.clauses i.group name) ≡ false
      → ((why : Reason) (line : ℕ) → HasFault s all_names c why line → last_line s c n i.group name ≤ line) → IsBetween c (last_line s c n i.group name)
  false_between n i name at off least =
      let found = some_unknown (assignment_of s c i) (s.clauses i.group name) (clauses_filled p i.group name) off in
      record {
        above = last_above s c n i.group name found.0 found.1 found.2;
        below = by_count (lt_or_le (length i.places) (length (spots s i.group)));
      }
    where
      by_count : (length i.places < length (spots s i.group)) ⊎ (length (spots s i.group) ≤ length i.places) → last_line s c n i.group name ≤ end_line c.instances
      by_count (inl short) =
          let a : last_line s c n i.group name ≤ instance_line c.instances (n + 1) = least reason.Range _ (fault.missing_place n i at short) in
          let b = (of_next c n i at).below in
          omega (arith, a, b)
      by_count (inr enough) = greatest_below s c n i.group (unknowns_of s i.group name) (end_line c.instances) (unknown_below s c n i.group i at enough)

  between : (why : Reason) (line : ℕ) → HasFault s all_names c why line → ((other : Reason) (at : ℕ) → HasFault s all_names c other at → line ≤ at) → IsBetween c line
  between why line (fault.phi ne) least = record { above = omega arith; below = omega arith }
  between why line (fault.group n i at ge) least = of_instance c n i at 0 line (omega arith) (omega arith)
  between why line (fault.entry n i at none) least = of_instance c n i at 0 line (omega arith) (omega arith)
  between why line (fault.iface n i at ne) least = of_instance c n i at 1 line refl (omega arith)
  between why line (fault.count n i at ne) least = of_instance c n i at 2 line refl (omega arith)
  between why line (fault.place n k i row at there ne) least =
      let lt : k < length i.places = slice_get_within i.places k row there in
      of_instance c n i at (3 + k) line (omega arith) (omega (arith, lt))
  between why line (fault.width n k i row at there ne) least =
      let lt : k < length i.places = slice_get_within i.places k row there in
      of_instance c n i at (3 + k) line (omega arith) (omega (arith, lt))
  between why line (fault.missing_place n i at lt) least = of_next c n i at
  between why line (fault.twice n m i j lt at at2 agree) least = of_instance c m j at2 1 line refl (omega arith)
  between why line (fault.site n k m i at there none) least = of_instance c n i at 2 line refl (omega arith)
  between why line (fault.broken n i name at lt among counting off) least = false_between n i name at off least
  between why line (fault.missing_group g lt none) least = record { above = (let low = line_above c.instances (length c.instances) in omega (arith, low)); below = omega arith }

  -- the first fault is on a line of the first text
  pub first_line : (bad : BadLine) → IsFirstFault s all_names c bad → IsFirstLine c bad.line
  first_line bad first =
      let b : IsBetween c bad.line = between bad.reason bad.line first.fault (λ other at h. not_later at (rank bad.reason) (rank other) (first.first other at h)) in
      record { some = (let low = b.above in omega (arith, low)); within = b.below }
    where
      not_later : (at j k : ℕ) → (bad.line < at) ⊎ ((bad.line ≡ at) × (j ≤ k)) → bad.line ≤ at
      not_later at j k (inl lt) = omega (arith, lt)
      not_later at j k (inr same) = let e = same.0 in omega (arith, e)
