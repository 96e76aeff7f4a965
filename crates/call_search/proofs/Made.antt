-- A certificate that is made of a solution is good.
use Rattle.std.specs.Prelude.{sum_by}
use Rattle.std.specs.List.{range_with_len}
use Rattle.std.proofs.Common.{◌≡◌, ℕ, zero, suc, ◌+◌, ◌-◌, ◌<◌, ◌≤◌, ◌⊎◌, inl, inr, ⊎_elim, Bool, List, [], ◌∷◌, ◌++◌, Some, refl, sym, ap, ◌∙◌, subst, arith, length, get_or, take, drop, slice_get, length-append}
use Rattle.std.specs.List.{Contains}
use Rattle.std.proofs.lemmas.List.Sums.{sum_by-cons}
use Rattle.std.proofs.lemmas.List.{take-append-drop, length-take-le, length-drop}
use Rattle.std.proofs.lemmas.Bool.{cases_lt}
use Rattle.std.proofs.lemmas.Option.{get_or_from_slice_get}
use Rattle.conflict_proof.specs.declared.names.ConstraintName.{ConstraintName}
use Rattle.conflict_proof.specs.declared.derivation.Line.{Line}
use Rattle.own_cert.specs.declared.certificate.Instance.{Instance}
use Rattle.own_cert.specs.declared.certificate.Certificate.{Certificate}
use Rattle.verdict_meaning.specs.declared.callee.Callee.{Callee}
use Rattle.verdict_meaning.specs.Systems.{System, root, members, callee, callees, callee_parts, nobody, count, parts_before}
use Rattle.verdict_meaning.specs.Solutions.{IsLocal, phi_by, pi_by, sigma_by}
use Rattle.verdict_meaning.specs.Certificates.{bit_at, part_of, face_of, face_in, site_bits, bits_at_places, bits_of, assignment_of, AreRows, IsSite, IsGoodInstance, Agree, IsInstanceOf, IsGoodIn, IsNamed, HasNoNeedless}
use Rattle.verdict_meaning.proofs.Bits.{part_within, pi_is_part, get_at, length-by, length-numbers}
use Rattle.verdict_meaning.proofs.Bits.{root_many, root_callee}
use Rattle.call_search.specs.declared.entries.Entry.{Entry}
use Rattle.call_search.specs.Shapes.{IsShaped, before_site}
use Rattle.call_search.specs.Entries.{in_group, own_face, IsKept, Answers, IsAnswered, IsAskedAt, IsAskedBy}
use Rattle.call_search.specs.Answers.{HasSolution}
use Rattle.call_search.specs.Made.{all_of, before_group, IsNumberOf, IsMadeOf, IsMade}
use Rattle.call_search.proofs.Lists.{get_append, get_within}
use Rattle.call_search.proofs.Faces.{part_values, site_within}

-- parts of a list one after another

pub drop_more : (xs : List Bool) (a b : ℕ) → drop b (drop a xs) ≡ drop (a + b) xs
drop_more xs zero b = ap (λ n. drop n xs) (omega arith)
drop_more [] (suc a) b = none b ∙ sym (none (suc a + b))
  where
    none : (n : ℕ) → drop {A = Bool} n [] ≡ []
    none zero = refl
    none (suc n) = refl
drop_more (x ∷ xs) (suc a) b = drop_more xs a b ∙ ap (λ n. drop n (x ∷ xs)) (next a b)
  where
    next : (a b : ℕ) → suc (a + b) ≡ suc a + b
    next a b = omega arith

pub take_two : (xs : List Bool) (a b : ℕ) → take (a + b) xs ≡ take a xs ++ take b (drop a xs)
take_two xs zero b = ap (λ n. take n xs) (omega arith)
take_two [] (suc a) b = none (suc a + b) ∙ sym (none b)
  where
    none : (n : ℕ) → take {A = Bool} n [] ≡ []
    none zero = refl
    none (suc n) = refl
take_two (x ∷ xs) (suc a) b = ap (λ n. take n (x ∷ xs)) (next a b) ∙ ap (λ l. x ∷ l) (take_two xs a b)
  where
    next : (a b : ℕ) → suc a + b ≡ suc (a + b)
    next a b = omega arith

four_parts : (xs : List Bool) (f p n : ℕ) → take f xs ++ (take p (drop f xs) ++ (take n (drop (f + p) xs) ++ drop (f + p + n) xs)) ≡ xs
four_parts xs f p n =
    ap (λ l. take f xs ++ (take p (drop f xs) ++ (take n (drop (f + p) xs) ++ l))) (sym (drop_more xs (f + p) n))
    ∙ ap (λ l. take f xs ++ (take p (drop f xs) ++ l)) (take-append-drop n (drop (f + p) xs) ∙ sym (drop_more xs f p))
    ∙ ap (λ l. take f xs ++ l) (take-append-drop p (drop f xs))
    ∙ take-append-drop f xs

-- where instances stand

get_past : (xs ys : List Entry) (n : ℕ) → slice_get (xs ++ ys) (length xs + n) ≡ slice_get ys n
get_past [] ys n = ap (λ k. slice_get ys k) (omega arith)
get_past (x ∷ xs) ys n = ap (λ k. slice_get (x ∷ (xs ++ ys)) k) (next (length xs) n) ∙ get_past xs ys n
  where
    next : (a b : ℕ) → suc a + b ≡ suc (a + b)
    next a b = omega arith

append_at : (xs ys : List Entry) (x : Entry) (n : ℕ) → slice_get (xs ++ ys) n ≡ Some x → (slice_get xs n ≡ Some x) ⊎ ((m : ℕ) × (n ≡ length xs + m) × (slice_get ys m ≡ Some x))
append_at [] ys x n e = inr (n, omega arith, e)
append_at (z ∷ xs) ys x zero e = inl e
append_at (z ∷ xs) ys x (suc n) e =
    ⊎_elim (λ (h : slice_get xs n ≡ Some x). inl h) (λ (h : (m : ℕ) × (n ≡ length xs + m) × (slice_get ys m ≡ Some x)). inr (h.0, (let k = h.1 in omega arith), h.2)) (append_at xs ys x n e)

pub at_index : (t : List (List Entry)) (g k : ℕ) (e : Entry) → slice_get (in_group t g) k ≡ Some e → slice_get (all_of t) (before_group t g + k) ≡ Some e
at_index [] zero k e h = cc
at_index [] (suc g) k e h = cc
at_index (es ∷ t) zero k e h = ap (λ n. slice_get (es ++ all_of t) n) (omega arith) ∙ get_append es (all_of t) e k h
at_index (es ∷ t) (suc g) k e h =
    ap (λ n. slice_get (es ++ all_of t) n) (let z = length-append es (all_of (take g t)) in omega arith) ∙ get_past es (all_of t) (before_group t g + k) ∙ at_index t g k e h

pub record Indexed (t : List (List Entry)) (n : ℕ) (e : Entry) : Type 0 where
  pub group : ℕ
  pub number : ℕ
  pub there : slice_get (in_group t group) number ≡ Some e
  pub is : n ≡ before_group t group + number

pub index_of : (t : List (List Entry)) (n : ℕ) (e : Entry) → slice_get (all_of t) n ≡ Some e → Indexed t n e
index_of [] n e h = cc
index_of (es ∷ t) n e h =
    ⊎_elim
    (λ (a : slice_get es n ≡ Some e). let r : Indexed (es ∷ t) n e = record { group = 0; number = n; there = a; is = omega arith } in r)
    (λ (a : (m : ℕ) × (n ≡ length es + m) × (slice_get (all_of t) m ≡ Some e)). further a.0 a.1 (index_of t a.0 e a.2))
    (append_at es (all_of t) e n h)
  where
    further : (m : ℕ) → n ≡ length es + m → Indexed t m e → Indexed (es ∷ t) n e
    further m at r = record { group = suc r.group; number = r.number; there = r.there; is = let z = length-append es (all_of (take r.group t)) in let i = r.is in omega arith }

pub before_mono : (t : List (List Entry)) (g h : ℕ) → g < h → before_group t g + length (in_group t g) ≤ before_group t h
before_mono [] zero h lt = omega arith
before_mono [] (suc g) h lt = omega arith
before_mono (es ∷ t) g zero lt = absurd (omega arith)
before_mono (es ∷ t) zero (suc h) lt = let z = length-append es (all_of (take h t)) in omega arith
before_mono (es ∷ t) (suc g) (suc h) lt =
    let z = length-append es (all_of (take h t)) in let y = length-append es (all_of (take g t)) in let i = before_mono t g h (omega arith) in omega arith

-- the bits of sites

sites_are : (s : System) (is : List Instance) (cs : List Callee) (ns : List ℕ) (o : ℕ) (bits : List Bool) → length ns ≡ length cs
    → ((j m : ℕ) → slice_get ns j ≡ Some m → face_in s (slice_get is m) (get_or cs j nobody).proc ≡ take (callee_parts s (get_or cs j nobody)) (drop (o + sum_by (callee_parts s) (take j cs)) bits))
    → site_bits s is cs ns ≡ take (sum_by (callee_parts s) cs) (drop o bits)
sites_are s is [] ns o bits e h = refl
sites_are s is (c ∷ cs) [] o bits e h = absurd (omega arith)
sites_are s is (c ∷ cs) (n ∷ ns) o bits e h =
    ap (λ l. l ++ site_bits s is cs ns) (h 0 n refl ∙ ap (λ k. take (callee_parts s c) (drop k bits)) (omega arith))
    ∙ ap (λ l. take (callee_parts s c) (drop o bits) ++ l)
    (sites_are s is cs ns (o + callee_parts s c) bits (omega arith) (λ j m at. h (suc j) m at ∙ ap (λ k. take (callee_parts s (get_or cs j nobody)) (drop k bits)) (ap (λ k. o + k) (sum_by-cons (callee_parts s) c (take j cs)) ∙ sum o (callee_parts s c) (sum_by (callee_parts s) (take j cs))))
    ∙ ap (λ l. take (sum_by (callee_parts s) cs) l) (sym (drop_more bits o (callee_parts s c))))
    ∙ sym (take_two (drop o bits) (callee_parts s c) (sum_by (callee_parts s) cs))
    ∙ ap (λ k. take k (drop o bits)) (sym (sum_by-cons (callee_parts s) c cs))
  where
    sum : (a b d : ℕ) → a + (b + d) ≡ a + b + d
    sum a b d = omega arith

module _ (s : System) (U : ConstraintName → Bool) (lines : List Line) (top : List Bool) (t : List (List Entry)) (shaped : IsShaped s) (sol : HasSolution s U lines top t) (c : Certificate) (made : IsMade s top t c) where
  pub kept_at : (n : ℕ) (e : Entry) → slice_get (all_of t) n ≡ Some e → IsKept s U lines (phi_by s (bit_at top)) e
  kept_at n e at = let r : Indexed t n e = index_of t n e at in sol.table.kept r.group r.number e r.there

  group_at : (n : ℕ) (e : Entry) (at : slice_get (all_of t) n ≡ Some e) → e.group ≡ (index_of t n e at).group
  group_at n e at = let r : Indexed t n e = index_of t n e at in sol.table.group r.group r.number e r.there

  -- the entry that an instance is made of
  pub entry_of : (n : ℕ) (i : Instance) → slice_get c.instances n ≡ Some i → (e : Entry) × (slice_get (all_of t) n ≡ Some e)
  entry_of n i at = get_at (all_of t) n (let h = get_within c.instances i n at in let k = made.instances.count in omega arith)

  instance_of : (n : ℕ) (e : Entry) → slice_get (all_of t) n ≡ Some e → (i : Instance) × (slice_get c.instances n ≡ Some i)
  instance_of n e at = get_at c.instances n (let h = get_within (all_of t) e n at in let k = made.instances.count in omega arith)

  long : (e : Entry) → IsKept s U lines (phi_by s (bit_at top)) e → s.fields + sum_by s.parts (members s e.group) + sum_by (callee_parts s) (callees s e.group) ≤ length e.bits
  long e k = let h : length e.bits ≡ count s e.group = k.size in omega arith

  -- a procedure's interface in an instance is that by the entry's bits
  pub face_is : (e : Entry) (i : Instance) (k : ℕ) → IsKept s U lines (phi_by s (bit_at top)) e → IsMadeOf s t e i → Contains (members s e.group) k → face_of s i k ≡ pi_by s e.group (bit_at e.bits) k
  face_is e i k kept m there =
      let l = long e kept in
      let p : ℕ = sum_by s.parts (members s e.group) in
      let front : List Bool = take s.fields e.bits in
      let rest : List Bool = drop p (drop s.fields e.bits) in
      let d : length (drop s.fields e.bits) ≡ length e.bits - s.fields = length-drop s.fields e.bits in
      let size : length (take p (drop s.fields e.bits)) ≡ p = length-take-le p (drop s.fields e.bits) (omega arith) in
      let within : parts_before s k (members s e.group) + s.parts k ≤ p = part_within s k (members s e.group) there.0 there.1 there.2 in
      let whole : front ++ (take p (drop s.fields e.bits) ++ rest) ≡ e.bits = ap (λ x. front ++ x) (take-append-drop p (drop s.fields e.bits)) ∙ take-append-drop s.fields e.bits in
      ap (λ g. part_of s g i.iface k) m.group ∙ ap (λ f. part_of s e.group f k) m.iface
      ∙ sym (pi_is_part s e.group (take p (drop s.fields e.bits)) front rest k (length-take-le s.fields e.bits (omega arith)) (omega arith))
      ∙ ap (λ xs. pi_by s e.group (bit_at xs) k) whole

  site_is : (n : ℕ) (e : Entry) (i : Instance) → slice_get (all_of t) n ≡ Some e → IsMadeOf s t e i → (site m : ℕ) → slice_get i.sites site ≡ Some m
      → face_in s (slice_get c.instances m) (callee s e.group site).proc ≡ sigma_by s e.group (bit_at e.bits) site
  site_is n e i at mi site m here =
      let r : IsNumberOf s t (callee s e.group site) (sigma_by s e.group (bit_at e.bits) site) m = mi.sites.each site m here in
      let j : (x : Instance) × (slice_get c.instances m ≡ Some x) = instance_of m r.entry r.there in
      let mj : IsMadeOf s t r.entry j.0 = made.instances.each m r.entry j.0 r.there j.1 in
      let kj : IsKept s U lines (phi_by s (bit_at top)) r.entry = kept_at m r.entry r.there in
      ap (λ o. face_in s o (callee s e.group site).proc) j.1
      ∙ ap (λ k. face_of s j.0 k) (sym r.answers.proc)
      ∙ face_is r.entry j.0 r.entry.proc kj mj kj.there.member
      ∙ r.answers.face_is

  pub bits_are : (n : ℕ) (e : Entry) (i : Instance) → slice_get (all_of t) n ≡ Some e → IsMadeOf s t e i → bits_of s c i ≡ e.bits
  bits_are n e i at mi =
      let kept : IsKept s U lines (phi_by s (bit_at top)) e = kept_at n e at in
      let l = long e kept in
      let f : ℕ = s.fields in
      let p : ℕ = sum_by s.parts (members s e.group) in
      let z : ℕ = sum_by (callee_parts s) (callees s e.group) in
      let phi : c.phi ≡ take f e.bits = made.phi ∙ sym kept.phi_is ∙ sym (part_values e.bits 0 f (omega arith)) in
      let sb : site_bits s c.instances (callees s e.group) i.sites ≡ take z (drop (f + p) e.bits) =
      sites_are s c.instances (callees s e.group) i.sites (f + p) e.bits mi.sites.count
      (λ j m here. site_is n e i at mi j m here ∙ sym (part_values e.bits (before_site s e.group j) (callee_parts s (callee s e.group j))
      (let w = site_within s e.group j (let q = get_within i.sites m j here in let y = mi.sites.count in omega arith) in let y : length e.bits ≡ count s e.group = kept.size in omega arith))) in
      ap (λ x. x ++ (i.iface ++ (site_bits s c.instances (callees s i.group) i.sites ++ bits_at_places i.places))) phi
      ∙ ap (λ x. take f e.bits ++ (x ++ (site_bits s c.instances (callees s i.group) i.sites ++ bits_at_places i.places))) mi.iface
      ∙ ap (λ g. take f e.bits ++ (take p (drop f e.bits) ++ (site_bits s c.instances (callees s g) i.sites ++ bits_at_places i.places))) mi.group
      ∙ ap (λ x. take f e.bits ++ (take p (drop f e.bits) ++ (x ++ bits_at_places i.places))) sb
      ∙ ap (λ x. take f e.bits ++ (take p (drop f e.bits) ++ (take z (drop (f + p) e.bits) ++ x))) mi.bits
      ∙ four_parts e.bits f p z

  earlier : (m n : ℕ) (j e : Entry) → slice_get (all_of t) m ≡ Some j → slice_get (all_of t) n ≡ Some e → j.group < e.group → m < n
  earlier m n j e p q lt =
      let a : Indexed t m j = index_of t m j p in
      let b : Indexed t n e = index_of t n e q in
      let ga : j.group ≡ a.group = sol.table.group a.group a.number j a.there in
      let gb : e.group ≡ b.group = sol.table.group b.group b.number e b.there in
      let w = get_within (in_group t a.group) j a.number a.there in
      let o = before_mono t a.group b.group (omega arith) in
      let ia = a.is in let ib = b.is in omega arith

  good_site : (n : ℕ) (e : Entry) (i : Instance) → slice_get (all_of t) n ≡ Some e → IsMadeOf s t e i → (site m : ℕ) → slice_get i.sites site ≡ Some m → IsSite s c.instances n (callee s i.group site) m
  good_site n e i at mi site m here =
      let r : IsNumberOf s t (callee s e.group site) (sigma_by s e.group (bit_at e.bits) site) m = mi.sites.each site m here in
      let j : (x : Instance) × (slice_get c.instances m ≡ Some x) = instance_of m r.entry r.there in
      let mj : IsMadeOf s t r.entry j.0 = made.instances.each m r.entry j.0 r.there j.1 in
      let b : (callee s e.group site).group < e.group = shaped.below e.group site (let q = get_within i.sites m site here in let y = mi.sites.count in omega arith) in
      let same : callee s e.group site ≡ callee s i.group site = ap (λ g. callee s g site) (sym mi.group) in
      let gj : r.entry.group ≡ (callee s e.group site).group = r.answers.group in
      record {
        earlier = earlier m n r.entry e r.there at (omega arith);
        instance = j.0;
        there = j.1;
        group = mj.group ∙ r.answers.group ∙ ap (λ (x : Callee). x.group) same;
        entry = mj.entry ∙ r.answers.proc ∙ ap (λ (x : Callee). x.proc) same;
      }

  good_instance : (n : ℕ) (i : Instance) → slice_get c.instances n ≡ Some i → IsGoodInstance s U c n i
  good_instance n i here =
      let eo : (e : Entry) × (slice_get (all_of t) n ≡ Some e) = entry_of n i here in
      let e : Entry = eo.0 in
      let at : slice_get (all_of t) n ≡ Some e = eo.1 in
      let mi : IsMadeOf s t e i = made.instances.each n e i at here in
      let kept : IsKept s U lines (phi_by s (bit_at top)) e = kept_at n e at in
      let l = long e kept in
      let p : ℕ = sum_by s.parts (members s e.group) in
      let d : length (drop s.fields e.bits) ≡ length e.bits - s.fields = length-drop s.fields e.bits in
      record {
        group = (let g = mi.group in let h = kept.there.group in omega arith);
        entry = subst (λ g. Contains (members s g) i.entry) (sym mi.group) (subst (λ k. Contains (members s e.group) k) (sym mi.entry) kept.there.member);
        iface = ap length mi.iface ∙ length-take-le p (drop s.fields e.bits) (omega arith) ∙ ap (λ g. sum_by s.parts (members s g)) (sym mi.group);
        count = mi.sites.count ∙ ap (λ g. length (callees s g)) (sym mi.group);
        rows = subst (λ g. AreRows s g i.places) (sym mi.group) mi.rows;
        sites = good_site n e i at mi;
        local = subst (λ g. IsLocal s U g (assignment_of s c i)) (sym mi.group) (subst (λ (xs : List Bool). IsLocal s U e.group (bit_at xs)) (sym (bits_are n e i at mi)) kept.local);
      }

  apart : (n m : ℕ) (i j : Instance) → slice_get c.instances n ≡ Some i → slice_get c.instances m ≡ Some j → Agree s i j → n ≡ m
  apart n m i j p q a =
      let eo : (e : Entry) × (slice_get (all_of t) n ≡ Some e) = entry_of n i p in
      let fo : (f : Entry) × (slice_get (all_of t) m ≡ Some f) = entry_of m j q in
      let e : Entry = eo.0 in
      let f : Entry = fo.0 in
      let mi : IsMadeOf s t e i = made.instances.each n e i eo.1 p in
      let mj : IsMadeOf s t f j = made.instances.each m f j fo.1 q in
      let ke : IsKept s U lines (phi_by s (bit_at top)) e = kept_at n e eo.1 in
      let kf : IsKept s U lines (phi_by s (bit_at top)) f = kept_at m f fo.1 in
      let groups : e.group ≡ f.group = sym mi.group ∙ a.group ∙ mj.group in
      let procs : e.proc ≡ f.proc = sym mi.entry ∙ a.entry ∙ mj.entry in
      let faces : own_face s e ≡ own_face s f =
      sym (ap (λ k. face_of s i k) mi.entry ∙ face_is e i e.proc ke mi ke.there.member) ∙ a.face ∙ (ap (λ k. face_of s j k) mj.entry ∙ face_is f j f.proc kf mj kf.there.member) in
      let x : Indexed t n e = index_of t n e eo.1 in
      let y : Indexed t m f = index_of t m f fo.1 in
      let same : x.group ≡ y.group = sym (sol.table.group x.group x.number e x.there) ∙ groups ∙ sol.table.group y.group y.number f y.there in
      let numbers : x.number ≡ y.number =
      sol.table.apart y.group x.number y.number e f (subst (λ g. slice_get (in_group t g) x.number ≡ Some e) same x.there) y.there (record { proc = procs; group = groups; face_is = faces }) in
      x.is ∙ ap (λ g. before_group t g + x.number) same ∙ ap (λ k. before_group t y.group + k) numbers ∙ sym y.is

  -- two entries that answer the same are one
  same_index : (n m : ℕ) (e f : Entry) → slice_get (all_of t) n ≡ Some e → slice_get (all_of t) m ≡ Some f → (k : Callee) (face : List Bool) → Answers s e k face → Answers s f k face → n ≡ m
  same_index n m e f p q k face a b =
      let x : Indexed t n e = index_of t n e p in
      let y : Indexed t m f = index_of t m f q in
      let groups : e.group ≡ f.group = a.group ∙ sym b.group in
      let same : x.group ≡ y.group = sym (sol.table.group x.group x.number e x.there) ∙ groups ∙ sol.table.group y.group y.number f y.there in
      let numbers : x.number ≡ y.number =
      sol.table.apart y.group x.number y.number e f (subst (λ g. slice_get (in_group t g) x.number ≡ Some e) same x.there) y.there (record { proc = a.proc ∙ sym b.proc; group = groups; face_is = a.face_is ∙ sym b.face_is }) in
      x.is ∙ ap (λ g. before_group t g + x.number) same ∙ ap (λ k. before_group t y.group + k) numbers ∙ sym y.is

  -- the number of the instance that the root asks for in a group
  root_answer : (g : ℕ) → g < root s → IsAnswered s (in_group t (callee s (root s) g).group) (callee s (root s) g) (sigma_by s (root s) (bit_at top) g)
  root_answer g lt = sol.full.root g (let many = root_many s in omega arith)

  one : ℕ → ℕ
  one g = elim (cases_lt g (root s)) as (λ _. ℕ) [ inl lt ↦ before_group t (callee s (root s) g).group + (root_answer g lt).number | inr _ ↦ 0 ]

  one_is : (g n : ℕ) → g < root s → ((lt : g < root s) → n ≡ before_group t (callee s (root s) g).group + (root_answer g lt).number) → n ≡ one g
  unfolding one
  one_is g n lt h = split (cases_lt g (root s))
    where
      split : (d : (g < root s) ⊎ (root s ≤ g)) → n ≡ elim d as (λ _. ℕ) [ inl lt ↦ before_group t (callee s (root s) g).group + (root_answer g lt).number | inr _ ↦ 0 ]
      split (inl a) = h a
      split (inr b) = absurd (omega arith)

  asked_by_root : (n : ℕ) (e : Entry) → slice_get (all_of t) n ≡ Some e → IsAskedAt s (root s) top e → n ≡ one e.group
  asked_by_root n e at a =
      let site_lt : a.site < root s = let w = a.within in let many = root_many s in omega arith in
      let here : e.group ≡ a.site = a.answers.group ∙ ap (λ (x : Callee). x.group) (root_callee s a.site site_lt) in
      subst (λ g. n ≡ one g) (sym here)
      (one_is a.site n site_lt (λ lt.
      let r = root_answer a.site lt in
      same_index n (before_group t (callee s (root s) a.site).group + r.number) e r.entry at (at_index t (callee s (root s) a.site).group r.number r.entry r.there) (callee s (root s) a.site) (sigma_by s (root s) (bit_at top) a.site) a.answers r.answers))

  asked_by_one : (n : ℕ) (e : Entry) → slice_get (all_of t) n ≡ Some e → IsAskedBy s t e → IsNamed c n
  asked_by_one n e at a =
      let d : Entry = a.caller in
      let n0 : ℕ = before_group t a.group + a.number in
      let there : slice_get (all_of t) n0 ≡ Some d = at_index t a.group a.number d a.there in
      let i : (x : Instance) × (slice_get c.instances n0 ≡ Some x) = instance_of n0 d there in
      let mi : IsMadeOf s t d i.0 = made.instances.each n0 d i.0 there i.1 in
      let dg : d.group ≡ a.group = sol.table.group a.group a.number d a.there in
      let within : a.asked.site < length (callees s d.group) = subst (λ g. a.asked.site < length (callees s g)) (sym dg) a.asked.within in
      let m : (x : ℕ) × (slice_get i.0.sites a.asked.site ≡ Some x) = get_at i.0.sites a.asked.site (let k = mi.sites.count in omega arith) in
      let r : IsNumberOf s t (callee s d.group a.asked.site) (sigma_by s d.group (bit_at d.bits) a.asked.site) m.0 = mi.sites.each a.asked.site m.0 m.1 in
      let asks : Answers s e (callee s d.group a.asked.site) (sigma_by s d.group (bit_at d.bits) a.asked.site) = subst (λ g. Answers s e (callee s g a.asked.site) (sigma_by s g (bit_at d.bits) a.asked.site)) (sym dg) a.asked.answers in
      let same : m.0 ≡ n = same_index m.0 n r.entry e r.there at (callee s d.group a.asked.site) (sigma_by s d.group (bit_at d.bits) a.asked.site) r.answers asks in
      record {
        number = n0;
        instance = i.0;
        there = i.1;
        site = (a.asked.site, get_within i.0.sites m.0 a.asked.site m.1, get_or_from_slice_get i.0.sites a.asked.site m.0 n m.1 ∙ same);
      }

  pub made_has_no_needless : HasNoNeedless s c
  made_has_no_needless = record { one = one; each = λ n i here. which n i here }
    where
      which : (n : ℕ) (i : Instance) → slice_get c.instances n ≡ Some i → (n ≡ one i.group) ⊎ IsNamed c n
      which n i here =
          let eo : (e : Entry) × (slice_get (all_of t) n ≡ Some e) = entry_of n i here in
          let mi : IsMadeOf s t eo.0 i = made.instances.each n eo.0 i eo.1 here in
          let x : Indexed t n eo.0 = index_of t n eo.0 eo.1 in
          ⊎_elim
          (λ (a : IsAskedAt s (root s) top eo.0). inl (subst (λ g. n ≡ one g) (sym mi.group) (asked_by_root n eo.0 eo.1 a)))
          (λ (a : IsAskedBy s t eo.0). inr (asked_by_one n eo.0 eo.1 a))
          (sol.full.wanted x.group x.number eo.0 x.there)

  root_groups : (g : ℕ) → g < root s → (callee s (root s) g).group ≡ g
  root_groups g lt = ap (λ (x : Callee). x.group) (root_callee s g lt)

  pub made_is_good : IsGoodIn s U c
  made_is_good = record {
    phi = ap length made.phi ∙ (length-by (bit_at top) (range_with_len 1 s.fields) ∙ length-numbers 1 s.fields);
    each = good_instance;
    apart = apart;
    all = λ g lt. one g lt;
  }
    where
      one : (g : ℕ) → g < root s → IsInstanceOf c.instances g
      one g lt =
          let a : IsAnswered s (in_group t (callee s (root s) g).group) (callee s (root s) g) (sigma_by s (root s) (bit_at top) g) = sol.full.root g (let many = root_many s in omega arith) in
          let there : slice_get (all_of t) (before_group t (callee s (root s) g).group + a.number) ≡ Some a.entry = at_index t (callee s (root s) g).group a.number a.entry a.there in
          let n : ℕ = before_group t (callee s (root s) g).group + a.number in
          let i : (x : Instance) × (slice_get c.instances n ≡ Some x) = instance_of n a.entry there in
          let mi : IsMadeOf s t a.entry i.0 = made.instances.each n a.entry i.0 there i.1 in
          record { number = n; instance = i.0; there = i.1; group = mi.group ∙ a.answers.group ∙ root_groups g lt }
