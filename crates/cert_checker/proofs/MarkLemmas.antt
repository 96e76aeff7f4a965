-- What is read of an instance: the lines and the bits of its unknowns.
use Rattle.std.proofs.Common.{◌≡◌, ℕ, zero, suc, ◌+◌, ◌-◌, ◌<◌, ◌≤◌, ◌⊎◌, inl, inr, ⊎_elim, Bool, true, false, cond, List, [], ◌∷◌, ◌++◌, Option, Some, None, refl, sym, ap, ◌∙◌, subst, arith, length, get_or, take, replicate, slice_get, append_assoc, length-append}
use Rattle.std.specs.Prelude.{sum_by, nat_le, MatchBool}
use Rattle.std.proofs.lemmas.Bool.{leb-true, leb-false, le-leb}
use Rattle.std.proofs.lemmas.List.{get_or_append_left, get_or-append_right, get_or-replicate, length-replicate, get_or_past, replicate-append-replicate, append-nil, take_more, length-take-le}
use Rattle.std.proofs.lemmas.List.Sums.{sum_by_more}
use Rattle.std.proofs.lemmas.Option.{slice_get_within, get_or_from_slice_get}
use Rattle.conflict_proof.specs.declared.names.ConstraintName.{ConstraintName}
use Rattle.conflict_proof.specs.declared.faults.Reason.TheVariants.{Range, Site}
use Rattle.own_cert.specs.declared.certificate.Instance.{Instance}
use Rattle.own_cert.specs.declared.certificate.Certificate.{Certificate}
use Rattle.verdict_meaning.specs.Systems.{System, root, members, callees, callee_parts}
use Rattle.verdict_meaning.specs.Certificates.{Spot, spots, bit_at, site_bits, bits_at_places, bits_of, assignment_of}
use Rattle.verdict_meaning.specs.CertificateFaults.{HasFault, instance_line, place_of, line_of}
use Rattle.cert_checker.specs.Tables.{line_in, place_lines, unknown_lines, bits_up_to}
use Rattle.cert_checker.specs.Finding.{IsBelow, IsCleanBelow, AreMarksOf}
use Rattle.cert_checker.proofs.LineLemmas.{lt_or_le, line_above}
use Rattle.cert_checker.proofs.FirstLemmas.{below_mono, below_first}
use Rattle.cert_checker.proofs.ShapeLemmas.{phi_right, iface_right}

-- Lines

over : (a b : ℕ) → nat_le a b ≡ false → b < a
over a b e = leb-false a b e

place_line_is : (w : Spot → ℕ) (first : ℕ) (ps : List Spot) (v : ℕ) → 0 < v → get_or (place_lines w first ps) (v - 1) (first + length ps) ≡ first + place_of w ps v
place_line_is w first [] v pos = get_or_past [] (v - 1) (first + 0) (omega arith)
place_line_is w first (p ∷ ps) v pos = by_test (nat_le v (w p)) refl (λ lt. place_line_is w (suc first) ps (v - w p) lt)
  where
    by_test : (b : Bool) → nat_le v (w p) ≡ b
        → (0 < v - w p → get_or (place_lines w (suc first) ps) (v - w p - 1) (suc first + length ps) ≡ suc first + place_of w ps (v - w p))
        → get_or (replicate (w p) first ++ place_lines w (suc first) ps) (v - 1) (first + suc (length ps)) ≡ first + cond b 0 (place_of w ps (v - w p) + 1)
    by_test true e rest =
        let le = leb-true v (w p) e in
        let long : length (replicate (w p) first) ≡ w p = length-replicate (w p) first in
        get_or_append_left (replicate (w p) first) (place_lines w (suc first) ps) (first + suc (length ps)) (v - 1) (omega (arith, le, long))
        ∙ get_or-replicate (w p) (v - 1) first (first + suc (length ps)) (omega (arith, le)) ∙ (let z : first ≡ first + 0 = omega arith in z)
    by_test false e rest =
        let lt = over v (w p) e in
        let long : length (replicate (w p) first) ≡ w p = length-replicate (w p) first in
        let i : v - 1 - w p ≡ v - w p - 1 = omega arith in
        let d : first + suc (length ps) ≡ suc first + length ps = omega arith in
        get_or-append_right (replicate (w p) first) (place_lines w (suc first) ps) (w p) (v - 1) (first + suc (length ps)) long (omega (arith, lt))
        ∙ ap (λ (k : ℕ). get_or (place_lines w (suc first) ps) k (first + suc (length ps))) i
        ∙ ap (λ (k : ℕ). get_or (place_lines w (suc first) ps) (v - w p - 1) k) d
        ∙ rest (omega (arith, lt))
        ∙ (let z : suc first + place_of w ps (v - w p) ≡ first + (place_of w ps (v - w p) + 1) = omega arith in z)

-- the line of an unknown by the sizes of the parts
abbrev line_by : (F A B first u at : ℕ) → ℕ
line_by F A B first u at = cond (nat_le u F) 2 (cond (nat_le u (F + A)) (first + 1) (cond (nat_le u (F + A + B)) (first + 2) (first + 3 + at)))

line_is : (F A B first u : ℕ) (w : Spot → ℕ) (ps : List Spot)
    → line_in F (replicate A (first + 1) ++ (replicate B (first + 2) ++ place_lines w (first + 3) ps)) (first + 3 + length ps) u
    ≡ line_by F A B first u (place_of w ps (u - (F + A + B)))
line_is F A B first u w ps = by_fields (nat_le u F) refl
  where
    in_rows : F + A + B < u → get_or (place_lines w (first + 3) ps) (u - F - 1 - A - B) (first + 3 + length ps) ≡ first + 3 + place_of w ps (u - (F + A + B))
    in_rows lt =
        let e : u - F - 1 - A - B ≡ u - (F + A + B) - 1 = omega arith in
        ap (λ (k : ℕ). get_or (place_lines w (first + 3) ps) k (first + 3 + length ps)) e ∙ place_line_is w (first + 3) ps (u - (F + A + B)) (omega arith)

    by_sites : (b : Bool) → nat_le u (F + A + B) ≡ b → F + A < u → get_or (replicate B (first + 2) ++ place_lines w (first + 3) ps) (u - F - 1 - A) (first + 3 + length ps) ≡ cond b (first + 2) (first + 3 + place_of w ps (u - (F + A + B)))
    by_sites true e lt =
        let le = leb-true u (F + A + B) e in
        let long : length (replicate B (first + 2)) ≡ B = length-replicate B (first + 2) in
        get_or_append_left (replicate B (first + 2)) (place_lines w (first + 3) ps) (first + 3 + length ps) (u - F - 1 - A) (omega (arith, le, long))
        ∙ get_or-replicate B (u - F - 1 - A) (first + 2) (first + 3 + length ps) (omega (arith, le))
    by_sites false e lt =
        let gt = over u (F + A + B) e in
        let long : length (replicate B (first + 2)) ≡ B = length-replicate B (first + 2) in
        get_or-append_right (replicate B (first + 2)) (place_lines w (first + 3) ps) B (u - F - 1 - A) (first + 3 + length ps) long (omega (arith, gt)) ∙ in_rows gt

    by_faces : (b : Bool) → nat_le u (F + A) ≡ b → F < u
        → get_or (replicate A (first + 1) ++ (replicate B (first + 2) ++ place_lines w (first + 3) ps)) (u - F - 1) (first + 3 + length ps) ≡ cond b (first + 1) (cond (nat_le u (F + A + B)) (first + 2) (first + 3 + place_of w ps (u - (F + A + B))))
    by_faces true e lt =
        let le = leb-true u (F + A) e in
        let long : length (replicate A (first + 1)) ≡ A = length-replicate A (first + 1) in
        get_or_append_left (replicate A (first + 1)) (replicate B (first + 2) ++ place_lines w (first + 3) ps) (first + 3 + length ps) (u - F - 1) (omega (arith, le, long))
        ∙ get_or-replicate A (u - F - 1) (first + 1) (first + 3 + length ps) (omega (arith, le))
    by_faces false e lt =
        let gt = over u (F + A) e in
        let long : length (replicate A (first + 1)) ≡ A = length-replicate A (first + 1) in
        get_or-append_right (replicate A (first + 1)) (replicate B (first + 2) ++ place_lines w (first + 3) ps) A (u - F - 1) (first + 3 + length ps) long (omega (arith, gt))
        ∙ by_sites (nat_le u (F + A + B)) refl gt

    by_fields : (b : Bool) → nat_le u F ≡ b
        → cond b 2 (get_or (replicate A (first + 1) ++ (replicate B (first + 2) ++ place_lines w (first + 3) ps)) (u - F - 1) (first + 3 + length ps))
        ≡ cond b 2 (cond (nat_le u (F + A)) (first + 1) (cond (nat_le u (F + A + B)) (first + 2) (first + 3 + place_of w ps (u - (F + A + B)))))
    by_fields true e = refl
    by_fields false e = by_faces (nat_le u (F + A)) refl (over u F e)

module _ (s : System) (c : Certificate) (n : ℕ) (i : Instance) where
  abbrev first : ℕ
  first = instance_line c.instances n

  abbrev F : ℕ
  F = s.fields

  abbrev A : ℕ
  A = sum_by s.parts (members s i.group)

  abbrev B : ℕ
  B = sum_by (callee_parts s) (callees s i.group)

  -- Where unknowns stand that are on a line before the sites

  data Early (u : ℕ) : Type 0 where
    field : u ≤ F → line_of s c n i.group u ≡ 2 → Early u
    part : F < u → u ≤ F + A → line_of s c n i.group u ≡ first + 1 → Early u
    late : first + 2 ≤ line_of s c n i.group u → Early u

  -- the line by the three tests
  abbrev of : ℕ → Bool → Bool → Bool → ℕ
  of u x y z = cond x 2 (cond y (first + 1) (cond z (first + 2) (first + 3 + place_of (λ (p : Spot). s.width p.proc) (spots s i.group) (u - (F + A + B)))))

  early : (u : ℕ) → Early u
  early u = by_fields (nat_le u F) refl
    where
      is : line_of s c n i.group u ≡ of u (nat_le u F) (nat_le u (F + A)) (nat_le u (F + A + B))
      is = refl

      far : (z : Bool) → first + 2 ≤ cond z (first + 2) (first + 3 + place_of (λ (p : Spot). s.width p.proc) (spots s i.group) (u - (F + A + B)))
      far true = omega arith
      far false = omega arith

      by_parts : (b : Bool) → nat_le u (F + A) ≡ b → nat_le u F ≡ false → Early u
      by_parts true e f = part (over u F f) (leb-true u (F + A) e) (is ∙ ap (λ (x : Bool). of u x (nat_le u (F + A)) (nat_le u (F + A + B))) f ∙ ap (λ (y : Bool). of u false y (nat_le u (F + A + B))) e)
      by_parts false e f =
          late (subst (λ (k : ℕ). first + 2 ≤ k) (sym (is ∙ ap (λ (x : Bool). of u x (nat_le u (F + A)) (nat_le u (F + A + B))) f ∙ ap (λ (y : Bool). of u false y (nat_le u (F + A + B))) e)) (far (nat_le u (F + A + B))))

      by_fields : (b : Bool) → nat_le u F ≡ b → Early u
      by_fields true e = field (leb-true u F e) (is ∙ ap (λ (x : Bool). of u x (nat_le u (F + A)) (nat_le u (F + A + B))) e)
      by_fields false e = by_parts (nat_le u (F + A)) refl e

-- bits that stand before others
pub same_front : (xs ys : List Bool) (u : ℕ) → u ≤ length xs → bit_at xs u ≡ bit_at (xs ++ ys) u
same_front xs ys zero le = refl
same_front xs ys (suc k) le = sym (get_or_append_left xs ys false k (omega arith))

pub below_apart : (b : Option ℕ) (k n : ℕ) → IsBelow b k → (IsBelow b n → ⊥) → k < n
below_apart b k n h never = ⊎_elim (λ (lt : k < n). lt) (λ (le : n ≤ k). absurd (never (below_mono b n k le h))) (lt_or_le k n)

module _ (s : System) (U : ConstraintName → Bool) (c : Certificate) (b : Option ℕ) (n : ℕ) (i : Instance) (at : slice_get c.instances n ≡ Some i) (shapes : IsCleanBelow b (HasFault s U c Range)) where
  early_value : (whole : Bool) → MatchBool whole (IsBelow b (instance_line c.instances n + 2)) (IsBelow b (instance_line c.instances n + 2) → ⊥) → (u : ℕ) → IsBelow b (line_of s c n i.group u)
      → bit_at (c.phi ++ bits_up_to whole s c.instances i) u ≡ assignment_of s c i u
  early_value true m u below = refl
  early_value false never u below = by_place (early s c n i u)
    where
      front : u ≤ length (c.phi ++ i.iface) → bit_at (c.phi ++ i.iface) u ≡ assignment_of s c i u
      front le =
          same_front (c.phi ++ i.iface) (site_bits s c.instances (callees s i.group) i.sites ++ bits_at_places i.places) u le
          ∙ ap (λ (bs : List Bool). bit_at bs u) (append_assoc c.phi i.iface (site_bits s c.instances (callees s i.group) i.sites ++ bits_at_places i.places))

      by_place : Early s c n i u → bit_at (c.phi ++ i.iface) u ≡ assignment_of s c i u
      by_place (field le e) =
          let phi : length c.phi ≡ s.fields = phi_right s U c b shapes 2 (omega arith) (subst (IsBelow b) e below) in
          front (omega (arith, le, phi, length-append c.phi i.iface))
      by_place (part lt le e) =
          let below' = subst (IsBelow b) e below in
          let up = line_above c.instances n in
          let phi : length c.phi ≡ s.fields = phi_right s U c b shapes (instance_line c.instances n + 1) (omega (arith, up)) below' in
          let face : length i.iface ≡ sum_by s.parts (members s i.group) = iface_right s U c b shapes n i at (instance_line c.instances n + 1) (omega arith) below' in
          front (omega (arith, le, phi, face, length-append c.phi i.iface))
      by_place (late le) = let lt = below_apart b (line_of s c n i.group u) (instance_line c.instances n + 2) below never in absurd (omega (arith, lt, le))

  pub marks_are : (whole : Bool) (bits : List Bool) (fields : ℕ) (lines : List ℕ) (after first : ℕ)
      → MatchBool whole (IsBelow b (first + 2)) (IsBelow b (first + 2) → ⊥) → first ≡ instance_line c.instances n
      → bits ≡ bits_up_to whole s c.instances i → fields ≡ s.fields → lines ≡ unknown_lines s i.group first (spots s i.group) → after ≡ first + 3 + length (spots s i.group)
      → AreMarksOf s c n i b (bit_at (c.phi ++ bits)) (line_in fields lines after)
  marks_are whole bits fields lines after first m e bits_are fields_are lines_are after_is = record {
    lines = line_right;
    values = λ u below.
        ap (λ (bs : List Bool). bit_at (c.phi ++ bs) u) bits_are
        ∙ early_value whole (subst (λ (k : ℕ). MatchBool whole (IsBelow b (k + 2)) (IsBelow b (k + 2) → ⊥)) e m) u (subst (IsBelow b) (line_right u) below);
  }
    where
      line_right : (u : ℕ) → line_in fields lines after u ≡ line_of s c n i.group u
      line_right u =
          ap (λ (k : ℕ). line_in k lines after u) fields_are
          ∙ ap (λ (ls : List ℕ). line_in s.fields ls after u) lines_are
          ∙ ap (λ (k : ℕ). line_in s.fields (unknown_lines s i.group first (spots s i.group)) k u) after_is
          ∙ ap (λ (k : ℕ). line_in s.fields (unknown_lines s i.group k (spots s i.group)) (k + 3 + length (spots s i.group)) u) e
          ∙ line_is s.fields (sum_by s.parts (members s i.group)) (sum_by (callee_parts s) (callees s i.group)) (instance_line c.instances n) u (λ (p : Spot). s.width p.proc) (spots s i.group)

-- Where nothing of an instance stands before the bound but fields, another of its group says the same

module _ (s : System) (U : ConstraintName → Bool) (c : Certificate) (b : Option ℕ) (n m : ℕ) (i j : Instance) (group : i.group ≡ j.group) (shapes : IsCleanBelow b (HasFault s U c Range))
    (never : IsBelow b (instance_line c.instances n) → ⊥) where
  at_fields : (u : ℕ) → IsBelow b (line_of s c n i.group u) → (u ≤ s.fields) × (line_of s c n i.group u ≡ 2)
  at_fields u below = by_place (early s c n i u)
    where
      by_place : Early s c n i u → (u ≤ s.fields) × (line_of s c n i.group u ≡ 2)
      by_place (field le e) = (le, e)
      by_place (part lt le e) = let x = below_apart b (line_of s c n i.group u) (instance_line c.instances n) below never in absurd (omega (arith, x, e))
      by_place (late le) = let x = below_apart b (line_of s c n i.group u) (instance_line c.instances n) below never in absurd (omega (arith, x, le))

  pub other_line : (u : ℕ) → IsBelow b (line_of s c n i.group u) → line_of s c m j.group u ≡ line_of s c n i.group u
  other_line u below = let p = at_fields u below in first_line (nat_le u s.fields)
      (cond (nat_le u (s.fields + sum_by s.parts (members s j.group))) (instance_line c.instances m + 1)
      (cond (nat_le u (s.fields + sum_by s.parts (members s j.group) + sum_by (callee_parts s) (callees s j.group))) (instance_line c.instances m + 2)
      (instance_line c.instances m + 3 + place_of (λ (p : Spot). s.width p.proc) (spots s j.group) (u - (s.fields + sum_by s.parts (members s j.group) + sum_by (callee_parts s) (callees s j.group))))))
      (le-leb u s.fields p.0) ∙ sym p.1
    where
      first_line : (t : Bool) (k : ℕ) → t ≡ true → cond t 2 k ≡ 2
      first_line true k e = refl
      first_line false k e = cc

  pub other_value : (u : ℕ) → IsBelow b (line_of s c n i.group u) → assignment_of s c j u ≡ assignment_of s c i u
  other_value u below =
      let p = at_fields u below in
      let phi : length c.phi ≡ s.fields = phi_right s U c b shapes 2 (omega arith) (subst (IsBelow b) p.1 below) in
      let le = p.0 in
      sym (same_front c.phi (j.iface ++ (site_bits s c.instances (callees s j.group) j.sites ++ bits_at_places j.places)) u (omega (arith, le, phi)))
      ∙ same_front c.phi (i.iface ++ (site_bits s c.instances (callees s i.group) i.sites ++ bits_at_places i.places)) u (omega (arith, le, phi))

-- Lists of lines, one by one

pub one_more_part : {X : Type 0} (f : X → ℕ) (xs : List X) (old now new : List ℕ) (k : ℕ) (d : X) (line : ℕ) → k < length xs → now ≡ old ++ replicate (sum_by f (take k xs)) line
    → new ≡ now ++ replicate (f (get_or xs k d)) line → new ≡ old ++ replicate (sum_by f (take (k + 1) xs)) line
one_more_part f xs old now new k d line lt e h =
    h ∙ ap (λ (ns : List ℕ). ns ++ replicate (f (get_or xs k d)) line) e
    ∙ append_assoc old (replicate (sum_by f (take k xs)) line) (replicate (f (get_or xs k d)) line)
    ∙ ap (λ (ns : List ℕ). old ++ ns) (replicate-append-replicate (sum_by f (take k xs)) (f (get_or xs k d)) line)
    ∙ ap (λ (n : ℕ). old ++ replicate n line) (sym (sum_by_more f xs k d lt))

place_lines_push : (w : Spot → ℕ) (first : ℕ) (ps : List Spot) (p : Spot) → place_lines w first (ps ++ p ∷ []) ≡ place_lines w first ps ++ replicate (w p) (first + length ps)
place_lines_push w first [] p = append-nil (replicate (w p) first) ∙ (let e : first ≡ first + 0 = omega arith in ap (replicate (w p)) e)
place_lines_push w first (q ∷ ps) p =
    ap (λ (ns : List ℕ). replicate (w q) first ++ ns) (place_lines_push w (suc first) ps p)
    ∙ sym (append_assoc (replicate (w q) first) (place_lines w (suc first) ps) (replicate (w p) (suc first + length ps)))
    ∙ (let e : suc first + length ps ≡ first + suc (length ps) = omega arith in ap (λ (n : ℕ). (replicate (w q) first ++ place_lines w (suc first) ps) ++ replicate (w p) n) e)

pub one_more_place : (w : Spot → ℕ) (ps : List Spot) (old now new : List ℕ) (k first line : ℕ) (p : Spot) → slice_get ps k ≡ Some p → line ≡ first + k → now ≡ old ++ place_lines w first (take k ps)
    → new ≡ now ++ replicate (w p) line → new ≡ old ++ place_lines w first (take (k + 1) ps)
one_more_place w ps old now new k first line p at e f h =
    let lt = slice_get_within ps k p at in
    let next : take (k + 1) ps ≡ take k ps ++ p ∷ [] = take_more ps k p lt ∙ ap (λ (q : Spot). take k ps ++ q ∷ []) (get_or_from_slice_get ps k p p at) in
    let long : length (take k ps) ≡ k = length-take-le k ps (omega (arith, lt)) in
    h ∙ ap (λ (ns : List ℕ). ns ++ replicate (w p) line) f
    ∙ append_assoc old (place_lines w first (take k ps)) (replicate (w p) line)
    ∙ ap (λ (n : ℕ). old ++ (place_lines w first (take k ps) ++ replicate (w p) n)) (e ∙ ap (λ (n : ℕ). first + n) (sym long))
    ∙ ap (λ (ns : List ℕ). old ++ ns) (sym (place_lines_push w first (take k ps) p))
    ∙ ap (λ (qs : List Spot). old ++ place_lines w first qs) (sym next)
