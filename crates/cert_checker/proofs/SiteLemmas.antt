-- Sites.
use Rattle.std.proofs.Common.{◌≡◌, ℕ, zero, suc, ◌+◌, ◌<◌, ◌≤◌, ◌⊎◌, inl, inr, ⊎_elim, Bool, true, false, List, [], ◌∷◌, ◌++◌, Option, Some, None, refl, sym, ap, ◌∙◌, subst, arith, length, get_or, take, slice_get, append_assoc}
use Rattle.std.proofs.lemmas.List.{append-nil}
use Rattle.std.specs.Prelude.{MatchBool, IsTrue}
use Rattle.std.specs.List.{Contains}
use Rattle.std.proofs.lemmas.Bool.{cases_eq}
use Rattle.std.proofs.lemmas.Option.{slice_get_within, slice_get-get_or}
use Rattle.conflict_proof.specs.declared.names.ConstraintName.{ConstraintName}
use Rattle.conflict_proof.specs.declared.faults.Reason.TheVariants.{Range, Site}
use Rattle.own_cert.specs.declared.certificate.Instance.{Instance}
use Rattle.own_cert.specs.declared.certificate.Certificate.{Certificate}
use Rattle.verdict_meaning.specs.declared.callee.Callee.{Callee}
use Rattle.verdict_meaning.specs.Systems.{System, root, members, callee, callees, nobody}
use Rattle.verdict_meaning.specs.Certificates.{IsSite, face_of, face_in, site_bits, part_of}
use Rattle.verdict_meaning.specs.CertificateFaults.{HasFault, instance_line}
use Rattle.verdict_meaning.specs.CertificateFaults as fault
use Rattle.cert_checker.specs.Tables.{Enters, AllEnter}
use Rattle.cert_checker.specs.Finding.{IsBelow, IsCleanBelow, HasWrongSite}
use Rattle.cert_checker.proofs.LineLemmas.{lt_or_le, line_mono}
use Rattle.cert_checker.proofs.FirstLemmas.{IsAt, below_mono}
use Rattle.cert_checker.proofs.ShapeLemmas.{group_there, entry_there, count_right}

pub site_to : (s : System) (U : ConstraintName → Bool) (c : Certificate) (n : ℕ) → HasWrongSite s c.instances n → HasFault s U c Site (instance_line c.instances n + 2)
site_to s U c n h = fault.site n h.site h.number h.instance h.there h.names h.wrong

pub site_from : (s : System) (U : ConstraintName → Bool) (c : Certificate) (line : ℕ) → HasFault s U c Site line → IsAt c.instances 2 (HasWrongSite s c.instances) line
site_from s U c line (fault.site n k m i at there none) = record {
  number = n;
  has = record { instance = i; there = at; site = k; number = m; names = there; wrong = none };
  within = slice_get_within c.instances n i at;
  on = refl;
}

-- One site

module _ (s : System) (is : List Instance) (n : ℕ) (c : Callee) (m : ℕ) where
  pub not_earlier : n ≤ m → IsSite s is n c m → ⊥
  not_earlier le h = let lt = h.earlier in omega arith

  pub other_group : (i : Instance) → slice_get is m ≡ Some i → (i.group ≡ c.group → ⊥) → IsSite s is n c m → ⊥
  other_group i at ne h = let there = h.there in let same : i ≡ h.instance = cc in ne (ap (λ (x : Instance). x.group) same ∙ h.group)

  pub by_entry : (b : Bool) (i : Instance) → m < n → slice_get is m ≡ Some i → i.group ≡ c.group → MatchBool b (i.entry ≡ c.proc) (i.entry ≡ c.proc → ⊥)
      → MatchBool b (IsSite s is n c m) (IsSite s is n c m → ⊥)
  by_entry true i lt at group e = record { earlier = lt; instance = i; there = at; group = group; entry = e }
  by_entry false i lt at group ne = λ h. let there = h.there in let same : i ≡ h.instance = cc in ne (ap (λ (x : Instance). x.entry) same ∙ h.entry)

-- All sites of an instance

-- those before k are right
abbrev pub AreSitesUpTo : System → List Instance → ℕ → Instance → ℕ → Type 0
AreSitesUpTo s is n i k = (j m : ℕ) → j < k → slice_get i.sites j ≡ Some m → IsSite s is n (callee s i.group j) m

pub one_more_site : (s : System) (is : List Instance) (n : ℕ) (i : Instance) (k m : ℕ) → slice_get i.sites k ≡ Some m → AreSitesUpTo s is n i k
    → IsSite s is n (callee s i.group k) m → AreSitesUpTo s is n i (k + 1)
one_more_site s is n i k m at before right j m' lt at' =
    ⊎_elim (λ (less : j < k). before j m' less at')
    (λ (ge : k ≤ j).
    let e : j ≡ k = omega arith in
    let same : m ≡ m' = (let x = ap (λ (l : ℕ). slice_get i.sites l) e in cc) in
    subst (λ (p : ℕ). IsSite s is n (callee s i.group j) p) same (subst (λ (l : ℕ). IsSite s is n (callee s i.group l) m) (sym e) right)) (lt_or_le j k)

pub no_wrong_site : (s : System) (is : List Instance) (n : ℕ) (i : Instance) (k : ℕ) → slice_get is n ≡ Some i → length i.sites ≤ k → AreSitesUpTo s is n i k → HasWrongSite s is n → ⊥
no_wrong_site s is n i k at le right h =
    let there = h.there in
    let same : i ≡ h.instance = cc in
    let names : slice_get i.sites h.site ≡ Some h.number = ap (λ (x : Instance). slice_get x.sites h.site) same ∙ h.names in
    let lt = slice_get_within i.sites h.site h.number names in
    h.wrong (subst (λ (x : Instance). IsSite s is n (callee s x.group h.site) h.number) same (right h.site h.number (omega (arith, lt)) names))

pub wrong_site : (s : System) (is : List Instance) (n : ℕ) (i : Instance) (k m : ℕ) (c : Callee) → slice_get is n ≡ Some i → slice_get i.sites k ≡ Some m → callee s i.group k ≡ c
    → (IsSite s is n c m → ⊥) → HasWrongSite s is n
wrong_site s is n i k m c at names e wrong =
    record { instance = i; there = at; site = k; number = m; names = names; wrong = λ h. wrong (subst (λ (x : Callee). IsSite s is n x m) e h) }

-- Right sites lead to the interfaces that their callees have

is_site : (s : System) (is : List Instance) (n : ℕ) (c : Callee) (m : ℕ) → IsSite s is n c m ⊎ (IsSite s is n c m → ⊥)
is_site s is n c m = by_place (lt_or_le m n) (slice_get is m) refl
  where
    by_place : (m < n) ⊎ (n ≤ m) → (o : Option Instance) → slice_get is m ≡ o → IsSite s is n c m ⊎ (IsSite s is n c m → ⊥)
    by_place (inr ge) o at = inr (not_earlier s is n c m ge)
    by_place (inl lt) None at = inr (λ h. let there = h.there in cc)
    by_place (inl lt) (Some i) at =
        ⊎_elim
        (λ (group : i.group ≡ c.group). ⊎_elim (λ (entry : i.entry ≡ c.proc). inl (record { earlier = lt; instance = i; there = at; group = group; entry = entry }))
        (λ (ne : i.entry ≡ c.proc → ⊥). inr (λ h. let there = h.there in let same : i ≡ h.instance = cc in ne (ap (λ (x : Instance). x.entry) same ∙ h.entry))) (cases_eq i.entry c.proc))
        (λ (ne : i.group ≡ c.group → ⊥). inr (other_group s is n c m i at ne)) (cases_eq i.group c.group)

pub all_enter : (s : System) (U : ConstraintName → Bool) (c : Certificate) (b : Option ℕ) (n : ℕ) (i : Instance) → slice_get c.instances n ≡ Some i
    → IsCleanBelow b (HasFault s U c Range) → IsCleanBelow b (HasFault s U c Site) → IsBelow b (instance_line c.instances n + 2) → AllEnter s c.instances i
all_enter s U c b n i at shapes sites below = record {
  count = count_right s U c b shapes n i at (instance_line c.instances n + 2) (omega arith) below;
  each = λ k m names. enters k m names (right k m names);
}
  where
    right : (k m : ℕ) → slice_get i.sites k ≡ Some m → IsSite s c.instances n (callee s i.group k) m
    right k m names =
        ⊎_elim (λ (h : IsSite s c.instances n (callee s i.group k) m). h)
        (λ (never : IsSite s c.instances n (callee s i.group k) m → ⊥). absurd (sites (instance_line c.instances n + 2) (fault.site n k m i at names never) below))
        (is_site s c.instances n (callee s i.group k) m)

    enters : (k m : ℕ) → slice_get i.sites k ≡ Some m → IsSite s c.instances n (callee s i.group k) m → Enters s c.instances (callee s i.group k) m
    enters k m names h =
        let lt = h.earlier in
        let le : instance_line c.instances m ≤ instance_line c.instances n + 2 = (let l = line_mono c.instances m n (omega (arith, lt)) in omega (arith, l)) in
        record {
          instance = h.instance;
          there = h.there;
          entry = h.entry;
          exists = group_there s U c b shapes m h.instance h.there (instance_line c.instances n + 2) le below;
          member = entry_there s U c b shapes m h.instance h.there (instance_line c.instances n + 2) le below;
        }

pub all_enter_if : (s : System) (U : ConstraintName → Bool) (c : Certificate) (b : Option ℕ) (n : ℕ) (i : Instance) → slice_get c.instances n ≡ Some i
    → IsCleanBelow b (HasFault s U c Range) → IsCleanBelow b (HasFault s U c Site) → (whole : Bool) (line : ℕ) → line ≡ instance_line c.instances n + 2
    → MatchBool whole (IsBelow b line) (IsBelow b line → ⊥) → IsTrue whole → AllEnter s c.instances i
all_enter_if s U c b n i at shapes sites true line e m = λ yes. all_enter s U c b n i at shapes sites (subst (IsBelow b) e m)
all_enter_if s U c b n i at shapes sites false line e m = λ yes. cc

-- The bits of the sites before k, and of one more

pub site_bits_next : (s : System) (is : List Instance) (cs : List Callee) (ns : List ℕ) (k m : ℕ) → slice_get ns k ≡ Some m → length ns ≡ length cs
    → site_bits s is cs (take (k + 1) ns) ≡ site_bits s is cs (take k ns) ++ face_in s (slice_get is m) (get_or cs k nobody).proc
site_bits_next s is cs ns k m at e = let one : k + 1 ≡ suc k = omega arith in ap (λ (l : ℕ). site_bits s is cs (take l ns)) one ∙ next cs ns k at e
  where
    next : (cs : List Callee) (ns : List ℕ) (k : ℕ) → slice_get ns k ≡ Some m → length ns ≡ length cs
        → site_bits s is cs (take (suc k) ns) ≡ site_bits s is cs (take k ns) ++ face_in s (slice_get is m) (get_or cs k nobody).proc
    next [] [] k at e = cc
    next [] (n ∷ ns) k at e = absurd (omega arith)
    next (c ∷ cs) [] k at e = absurd (omega arith)
    next (c ∷ cs) (n ∷ ns) zero at e =
        let same : n ≡ m = cc in
        end (face_in s (slice_get is n) c.proc) ∙ ap (λ (l : ℕ). face_in s (slice_get is l) c.proc) same ∙ empty cs
      where
        end : (xs : List Bool) → xs ++ site_bits s is cs [] ≡ xs
        end xs = ap (λ (ys : List Bool). xs ++ ys) (nothing cs) ∙ append-nil xs
          where
            nothing : (cs : List Callee) → site_bits s is cs [] ≡ []
            nothing [] = refl
            nothing (c ∷ cs) = refl

        empty : (cs : List Callee) → face_in s (slice_get is m) c.proc ≡ site_bits s is (c ∷ cs) [] ++ face_in s (slice_get is m) c.proc
        empty cs = refl
    next (c ∷ cs) (n ∷ ns) (suc k) at e =
        ap (λ (xs : List Bool). face_in s (slice_get is n) c.proc ++ xs) (next cs ns k at (omega arith))
        ∙ sym (append_assoc (face_in s (slice_get is n) c.proc) (site_bits s is cs (take k ns)) (face_in s (slice_get is m) (get_or cs k nobody).proc))

pub enters_face : (s : System) (is : List Instance) (c : Callee) (m : ℕ) (i : Instance) → Enters s is c m → slice_get is m ≡ Some i
    → part_of s i.group i.iface i.entry ≡ face_in s (slice_get is m) c.proc
enters_face s is c m i e at =
    let there = e.there in
    let same : i ≡ e.instance = cc in
    let entry : i.entry ≡ c.proc = ap (λ (x : Instance). x.entry) same ∙ e.entry in
    ap (λ (k : ℕ). part_of s i.group i.iface k) entry ∙ ap (λ (o : Option Instance). face_in s o c.proc) (sym at)

pub no_site_bits : (xs : List Bool) (s : System) (is : List Instance) (cs : List Callee) → xs ≡ xs ++ site_bits s is cs []
no_site_bits xs s is [] = sym (append-nil xs)
no_site_bits xs s is (c ∷ cs) = sym (append-nil xs)

pub enters_at : (s : System) (is : List Instance) (i : Instance) (k : ℕ) → AllEnter s is i → k < length i.sites → Enters s is (callee s i.group k) (get_or i.sites k 0)
enters_at s is i k all lt = all.each k (get_or i.sites k 0) (slice_get-get_or i.sites k 0 lt)

-- the instance that a site names, as it is read
pub entered : (s : System) (is : List Instance) (c : Callee) (m : ℕ) (i : Instance) → Enters s is c m → slice_get is m ≡ Some i → (i.group < root s) × Contains (members s i.group) i.entry
entered s is c m i e at =
    let there = e.there in
    let same : e.instance ≡ i = cc in
    (subst (λ (x : Instance). x.group < root s) same e.exists, subst (λ (x : Instance). Contains (members s x.group) x.entry) same e.member)

-- the bits of one site more
pub one_more_face : (xs ys more : List Bool) (s : System) (is : List Instance) (i named : Instance) (k : ℕ) → AllEnter s is i → k < length i.sites → slice_get is (get_or i.sites k 0) ≡ Some named
    → ys ≡ xs ++ site_bits s is (callees s i.group) (take k i.sites) → more ≡ ys ++ face_of s named named.entry → more ≡ xs ++ site_bits s is (callees s i.group) (take (k + 1) i.sites)
one_more_face xs ys more s is i named k all lt at e f =
    let m : ℕ = get_or i.sites k 0 in
    let face : face_of s named named.entry ≡ face_in s (slice_get is m) (callee s i.group k).proc = enters_face s is (callee s i.group k) m named (enters_at s is i k all lt) at in
    f ∙ ap (λ (bs : List Bool). ys ++ bs) face ∙ ap (λ (bs : List Bool). bs ++ face_in s (slice_get is m) (callee s i.group k).proc) e
    ∙ append_assoc xs (site_bits s is (callees s i.group) (take k i.sites)) (face_in s (slice_get is m) (callee s i.group k).proc)
    ∙ ap (λ (bs : List Bool). xs ++ bs) (sym (site_bits_next s is (callees s i.group) i.sites k m (slice_get-get_or i.sites k 0 lt) all.count))
