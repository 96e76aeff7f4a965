-- A good certificate is made of the assignments that solutions ask for.
use Rattle.std.proofs.Common.{◌≡◌, ℕ, zero, suc, ◌+◌, ◌<◌, ◌≤◌, Bool, true, false, ◌||◌, List, [], ◌∷◌, ◌++◌, Some, refl, sym, ap, ◌∙◌, subst, arith, length, get_or, take, slice_get, append_assoc, length-append}
use Rattle.std.specs.List.{Contains}
use Rattle.std.specs.Prelude.{nat_eq}
use Rattle.conflict_proof.specs.declared.names.ConstraintName.{ConstraintName}
use Rattle.own_cert.specs.declared.certificate.Instance.{Instance}
use Rattle.own_cert.specs.declared.certificate.Certificate.{Certificate}
use Rattle.std.specs.Prelude.{sum_by}
use Rattle.std.proofs.lemmas.List.Sums.{sum_by-cons}
use Rattle.verdict_meaning.specs.declared.callee.Callee.{Callee}
use Rattle.verdict_meaning.specs.Systems.{System, root, members, first, callee, callees, callee_parts, nobody, parts_before}
use Rattle.verdict_meaning.specs.Solutions.{counts, phi_by, pi_by, sigma_by, IsSolvable, by_assignment, IsSatisfiableOnly}
use Rattle.verdict_meaning.specs.Certificates.{face_of, face_in, site_bits, bits_at_places, bits_of, assignment_of, IsSite, IsGoodInstance, IsGoodIn, IsInstanceOf}
use Rattle.verdict_meaning.specs.Laws.{GoodIsSatisfiable, FewerAreSatisfiable}
use Rattle.verdict_meaning.proofs.Bits.{bits_at, part_within, part_length, pi_is_part, get_at, get_within}

-- the bits of sites around those of one
pub record Around (s : System) (is : List Instance) (cs : List Callee) (ns : List ℕ) (site m : ℕ) : Type 0 where
  pub before : List Bool
  pub after : List Bool
  pub split : site_bits s is cs ns ≡ before ++ (face_in s (slice_get is m) (get_or cs site nobody).proc ++ after)
  pub size : length before ≡ sum_by (callee_parts s) (take site cs)

some_is : (n m : ℕ) → Some n ≡ Some m → n ≡ m
some_is n m e = cc

around : (s : System) (is : List Instance) (cs : List Callee) (ns : List ℕ) (site m : ℕ) → slice_get ns site ≡ Some m → length ns ≡ length cs
    → ((j n : ℕ) → slice_get ns j ≡ Some n → length (face_in s (slice_get is n) (get_or cs j nobody).proc) ≡ callee_parts s (get_or cs j nobody))
    → Around s is cs ns site m
around s is [] [] site m at e faces = absurd (let h = get_within [] site m at in omega arith)
around s is (c ∷ cs) [] site m at e faces = absurd (omega arith)
around s is [] (n ∷ ns) site m at e faces = absurd (omega arith)
around s is (c ∷ cs) (n ∷ ns) zero m at e faces =
    record { before = []; after = site_bits s is cs ns; split = ap (λ k. face_in s (slice_get is k) c.proc ++ site_bits s is cs ns) (some_is n m at); size = refl }
around s is (c ∷ cs) (n ∷ ns) (suc site) m at e faces =
    let rest : Around s is cs ns site m = around s is cs ns site m at (omega arith) (λ j. faces (suc j)) in
    let front : List Bool = face_in s (slice_get is n) c.proc in
    let long : length front ≡ callee_parts s c = faces zero n refl in
    record {
      before = front ++ rest.before;
      after = rest.after;
      split = ap (λ l. front ++ l) rest.split ∙ sym (append_assoc front rest.before (face_in s (slice_get is m) (get_or cs site nobody).proc ++ rest.after));
      size = let h = length-append front rest.before in let k = rest.size in let t = sum_by-cons (callee_parts s) c (take site cs) in omega arith;
    }

-- the interface of an instance as it is found by its number
found : (s : System) (is : List Instance) (m : ℕ) (j : Instance) (k : ℕ) → slice_get is m ≡ Some j → face_in s (slice_get is m) k ≡ face_of s j k
found s is m j k e = ap (λ o. face_in s o k) e

module _ (s : System) (U : ConstraintName → Bool) (c : Certificate) (good : IsGoodIn s U c) where
  fits : (j : Instance) (m k : ℕ) → slice_get c.instances m ≡ Some j → j.entry ≡ k → parts_before s k (members s j.group) + s.parts k ≤ length j.iface
  fits j m k at e =
      let ok : IsGoodInstance s U c m j = good.each m j at in
      let entry : Contains (members s j.group) k = subst (λ q. Contains (members s j.group) q) e ok.entry in
      let h : parts_before s k (members s j.group) + s.parts k ≤ sum_by s.parts (members s j.group) = part_within s k (members s j.group) entry.0 entry.1 entry.2 in
      let l : length j.iface ≡ sum_by s.parts (members s j.group) = ok.iface in
      omega arith

  phi_is : (i : Instance) → phi_by s (assignment_of s c i) ≡ c.phi
  phi_is i = bits_at (bits_of s c i) [] c.phi (i.iface ++ (site_bits s c.instances (callees s i.group) i.sites ++ bits_at_places i.places)) 1 s.fields refl refl (sym good.phi)

  faces : (n : ℕ) (i : Instance) → slice_get c.instances n ≡ Some i → (j m : ℕ) → slice_get i.sites j ≡ Some m
      → length (face_in s (slice_get c.instances m) (callee s i.group j).proc) ≡ callee_parts s (callee s i.group j)
  faces n i at j m here =
      let there : IsSite s c.instances n (callee s i.group j) m = (good.each n i at).sites j m here in
      let k : ℕ = (callee s i.group j).proc in
      ap length (found s c.instances m there.instance k there.there) ∙ part_length s there.instance.group there.instance.iface k (fits there.instance m k there.there there.entry)

  sigma_is : (n : ℕ) (i : Instance) → slice_get c.instances n ≡ Some i → (site m : ℕ) → slice_get i.sites site ≡ Some m
      → sigma_by s i.group (assignment_of s c i) site ≡ face_in s (slice_get c.instances m) (callee s i.group site).proc
  sigma_is n i at site m here =
      let ok : IsGoodInstance s U c n i = good.each n i at in
      let cs : List Callee = callees s i.group in
      let a : Around s c.instances cs i.sites site m = around s c.instances cs i.sites site m here ok.count (faces n i at) in
      let face : List Bool = face_in s (slice_get c.instances m) (callee s i.group site).proc in
      let rows : List Bool = bits_at_places i.places in
      bits_at (bits_of s c i) (c.phi ++ (i.iface ++ a.before)) face (a.after ++ rows) (suc (s.fields + sum_by s.parts (members s i.group) + sum_by (callee_parts s) (take site cs))) (callee_parts s (callee s i.group site))
      (ap (λ l. c.phi ++ (i.iface ++ (l ++ rows))) a.split
      ∙ ap (λ l. c.phi ++ (i.iface ++ l)) (append_assoc a.before (face ++ a.after) rows ∙ ap (λ l. a.before ++ l) (append_assoc face a.after rows))
      ∙ ap (λ l. c.phi ++ l) (sym (append_assoc i.iface a.before (face ++ (a.after ++ rows))))
      ∙ sym (append_assoc c.phi (i.iface ++ a.before) (face ++ (a.after ++ rows))))
      (let h = length-append c.phi (i.iface ++ a.before) in let k = length-append i.iface a.before in let p = good.phi in let q = ok.iface in let r = a.size in omega arith)
      (sym (faces n i at site m here))

  -- what an instance asks for at a site is the interface of the called procedure in the instance that it names
  pub asked_is_had : (n : ℕ) (i : Instance) → slice_get c.instances n ≡ Some i → (site m : ℕ) → slice_get i.sites site ≡ Some m
      → (j : Instance) → slice_get c.instances m ≡ Some j → j.entry ≡ (callee s i.group site).proc
      → pi_by s j.group (assignment_of s c j) (callee s i.group site).proc ≡ sigma_by s i.group (assignment_of s c i) site
  asked_is_had n i at site m named j there entry =
      let k : ℕ = (callee s i.group site).proc in
      pi_is_part s j.group j.iface c.phi (site_bits s c.instances (callees s j.group) j.sites ++ bits_at_places j.places) k good.phi (fits j m k there entry)
      ∙ sym (sigma_is n i at site m named ∙ found s c.instances m j k there)

  solvable_at : (fuel n : ℕ) (i : Instance) → n < fuel → slice_get c.instances n ≡ Some i → (h : ℕ) → IsSolvable s U c.phi i.group h (pi_by s i.group (assignment_of s c i) h)
  solvable_at zero n i lt at h = absurd (omega arith)
  solvable_at (suc fuel) n i lt at h =
      by_assignment (assignment_of s c i) (phi_is i) refl (good.each n i at).local (λ site within. at_site (λ m j e there k. solvable_at fuel m j (omega arith) there k) site within)
    where
      at_site : ((m : ℕ) (j : Instance) → m < n → slice_get c.instances m ≡ Some j → (k : ℕ) → IsSolvable s U c.phi j.group k (pi_by s j.group (assignment_of s c j) k)) → (site : ℕ) → site < length (callees s i.group)
          → IsSolvable s U c.phi (callee s i.group site).group (callee s i.group site).proc (sigma_by s i.group (assignment_of s c i) site)
      at_site lower site within =
          let ok : IsGoodInstance s U c n i = good.each n i at in
          let count : length i.sites ≡ length (callees s i.group) = ok.count in
          let named : (m : ℕ) × (slice_get i.sites site ≡ Some m) = get_at i.sites site (omega arith) in
          let m : ℕ = named.0 in
          let k : ℕ = (callee s i.group site).proc in
          let there : IsSite s c.instances n (callee s i.group site) m = ok.sites site m named.1 in
          let j : Instance = there.instance in
          let earlier : m < n = there.earlier in
          let below : IsSolvable s U c.phi j.group k (pi_by s j.group (assignment_of s c j) k) = lower m j earlier there.there k in
          let same : pi_by s j.group (assignment_of s c j) k ≡ sigma_by s i.group (assignment_of s c i) site = asked_is_had n i at site m named.1 j there.there there.entry in
          subst (λ g. IsSolvable s U c.phi g k (sigma_by s i.group (assignment_of s c i) site)) there.group
          (subst (λ v. IsSolvable s U c.phi j.group k v) same below)

  pub good_solves : IsSatisfiableOnly s U
  good_solves = record {
    phi = c.phi;
    shape = good.phi;
    each = λ g lt. in_group g lt;
  }
    where
      in_group : (g : ℕ) → g < root s → (face : List Bool) × IsSolvable s U c.phi g (first s g) face
      in_group g lt =
          let one : IsInstanceOf c.instances g = good.all g lt in
          let i : Instance = one.instance in (
            pi_by s i.group (assignment_of s c i) (first s g),
            subst (λ h. IsSolvable s U c.phi h (first s g) (pi_by s i.group (assignment_of s c i) (first s g))) one.group
                (solvable_at (suc one.number) one.number i (omega arith) one.there (first s g)),
          )

pub good_is_satisfiable : GoodIsSatisfiable
good_is_satisfiable s U c good = good_solves s U c good

or_same : (b x y : Bool) → (x ≡ true → y ≡ true) → (b || x) ≡ true → (b || y) ≡ true
or_same true x y f e = refl
or_same false x y f e = f e

module _ (s : System) (U V : ConstraintName → Bool) (less : (name : ConstraintName) → V name ≡ true → U name ≡ true) where
  counts_less : (name : ConstraintName) → counts V name ≡ true → counts U name ≡ true
  counts_less name = or_same (nat_eq name.rule 21) (V name) (U name) (less name)

  fewer : (phi : List Bool) (g h : ℕ) (v : List Bool) → IsSolvable s U phi g h v → IsSolvable s V phi g h v
  fewer phi g h v (by_assignment a p q local sites) =
      by_assignment a p q (λ name there c. local name there (counts_less name c))
      (λ site lt. fewer phi (callee s g site).group (callee s g site).proc (sigma_by s g a site) (sites site lt))

pub fewer_are_satisfiable : FewerAreSatisfiable
fewer_are_satisfiable s U V less sat = record {
  phi = sat.phi;
  shape = sat.shape;
  each = λ g lt. let one = sat.each g lt in (one.0, fewer s U V less sat.phi g (first s g) one.0 one.1);
}
