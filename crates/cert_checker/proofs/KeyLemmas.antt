-- Keys of instances, and sets of them.
use Rattle.std.proofs.Common.{◌≡◌, ℕ, zero, suc, ◌+◌, ◌<◌, ◌≤◌, ◌⊎◌, inl, inr, ⊎_elim, Bool, true, false, not, cond, ◌||◌, ltb, eqb, List, [], ◌∷◌, Option, Some, None, refl, sym, ap, ◌∙◌, subst, arith, length, map, take, drop, slice_get}
use Rattle.std.specs.Prelude.{MatchBool, ◌↔◌}
use Rattle.std.specs.List.{Contains, list_any}
use Rattle.std.specs.Global.{Vec}
use Rattle.std.specs.BTreeMap.{is_at}
use Rattle.std.specs.BTreeSet.{insert_key}
use Rattle.std.specs.Ordering.{match_ordering, is_eq, nat_cmp, ordering_then}
use Rattle.std.specs.Cmp.Lexicographic.{slice_cmp}
use Rattle.std.proofs.lemmas.Map.Lookups.{exact_bytes}
use Rattle.std.specs.declared.cmp.Ordering.{Ordering}
use Rattle.std.specs.declared.cmp.Ordering.TheVariants.{Less, Equal, Greater}
use Rattle.std.proofs.lemmas.Bool.{cases_eq, ltb-true, eq-eqb}
use Rattle.conflict_proof.specs.declared.names.ConstraintName.{ConstraintName}
use Rattle.conflict_proof.specs.declared.faults.Reason.TheVariants.{Twice}
use Rattle.own_cert.specs.declared.certificate.Instance.{Instance}
use Rattle.own_cert.specs.declared.certificate.Certificate.{Certificate}
use Rattle.verdict_meaning.specs.Systems.{System}
use Rattle.verdict_meaning.specs.Certificates.{face_of, Agree}
use Rattle.verdict_meaning.specs.CertificateFaults.{HasFault, instance_line}
use Rattle.verdict_meaning.specs.CertificateFaults as fault
use Rattle.cert_checker.specs.Tables.{key_bit, key_of}
use Rattle.std.proofs.lemmas.Option.{slice_get_within}
use Rattle.cert_checker.proofs.LineLemmas.{lt_or_le}
use Rattle.cert_checker.proofs.FirstLemmas.{IsAt}
use Rattle.cert_checker.proofs.Among.{here, there, first_or_rest, none_there}

-- Sets of lists, in an order that tells lists apart

module _ (cmp : Vec ℕ → Vec ℕ → Ordering) (exact : (x y : Vec ℕ) → cmp x y ≡ Equal → x.items ≡ y.items) (same : (x y : Vec ℕ) → x.items ≡ y.items → cmp x y ≡ Equal) where
  abbrev lists : List (Vec ℕ) → List (List ℕ)
  lists ks = map (λ (v : Vec ℕ). v.items) ks

  is_equal : (o : Ordering) → is_eq o ≡ true → o ≡ Equal
  is_equal Less e = cc
  is_equal Equal e = refl
  is_equal Greater e = cc

  either : (a b : Bool) → (a || b) ≡ true → (a ≡ true) ⊎ (b ≡ true)
  either true b e = inl refl
  either false b e = inr e

  pub found : (k : Vec ℕ) (ks : List (Vec ℕ)) → list_any (is_at (cmp k)) ks ≡ true → Contains (lists ks) k.items
  found k [] e = cc
  found k (x ∷ xs) e =
      ⊎_elim (λ (h : is_at (cmp k) x ≡ true). here x.items (lists xs) k.items (sym (exact k x (is_equal (cmp k x) h))))
      (λ (h : list_any (is_at (cmp k)) xs ≡ true). there x.items (lists xs) k.items (found k xs h)) (either (is_at (cmp k) x) (list_any (is_at (cmp k)) xs) e)

  pub not_found : (k : Vec ℕ) (ks : List (Vec ℕ)) → list_any (is_at (cmp k)) ks ≡ false → Contains (lists ks) k.items → ⊥
  not_found k [] e h = none_there k.items h
  not_found k (x ∷ xs) e h =
      ⊎_elim (λ (s : x.items ≡ k.items). let eq : cmp k x ≡ Equal = same k x (sym s) in two (is_at (cmp k) x) (list_any (is_at (cmp k)) xs) (ap is_eq eq) e)
      (λ (r : Contains (lists xs) k.items). not_found k xs (second (is_at (cmp k) x) (list_any (is_at (cmp k)) xs) e) r) (first_or_rest x.items (lists xs) k.items h)
    where
      two : (a b : Bool) → a ≡ true → (a || b) ≡ false → ⊥
      two true b p q = cc
      two false b p q = cc

      second : (a b : Bool) → (a || b) ≡ false → b ≡ false
      second true b q = cc
      second false b q = q

  pub kept : (k : Vec ℕ) (ks : List (Vec ℕ)) (q : List ℕ) → Contains (lists ks) q → Contains (lists (insert_key cmp ks k)) q
  kept k [] q h = absurd (none_there q h)
  kept k (x ∷ xs) q h = by_order (cmp k x) (first_or_rest x.items (lists xs) q h) (kept k xs q)
    where
      by_order : (o : Ordering) → (x.items ≡ q) ⊎ Contains (lists xs) q → (Contains (lists xs) q → Contains (lists (insert_key cmp xs k)) q) → Contains (lists (match_ordering o (k ∷ x ∷ xs) (x ∷ xs) (x ∷ insert_key cmp xs k))) q
      by_order Less e f = there k.items (lists (x ∷ xs)) q h
      by_order Equal e f = h
      by_order Greater (inl e) f = here x.items (lists (insert_key cmp xs k)) q e
      by_order Greater (inr r) f = there x.items (lists (insert_key cmp xs k)) q (f r)

  pub put : (k : Vec ℕ) (ks : List (Vec ℕ)) (q : List ℕ) → k.items ≡ q → Contains (lists (insert_key cmp ks k)) q
  put k [] q e = here k.items [] q e
  put k (x ∷ xs) q e = by_order (cmp k x) refl (put k xs q e)
    where
      by_order : (o : Ordering) → cmp k x ≡ o → Contains (lists (insert_key cmp xs k)) q → Contains (lists (match_ordering o (k ∷ x ∷ xs) (x ∷ xs) (x ∷ insert_key cmp xs k))) q
      by_order Less eq f = here k.items (lists (x ∷ xs)) q e
      by_order Equal eq f = here x.items (lists xs) q (sym (exact k x eq) ∙ e)
      by_order Greater eq f = there x.items (lists (insert_key cmp xs k)) q f

  pub only_these : (k : Vec ℕ) (ks : List (Vec ℕ)) (q : List ℕ) → Contains (lists (insert_key cmp ks k)) q → Contains (lists ks) q ⊎ (k.items ≡ q)
  only_these k [] q h = ⊎_elim (λ (e : k.items ≡ q). inr e) (λ (r : Contains [] q). absurd (none_there q r)) (first_or_rest k.items [] q h)
  only_these k (x ∷ xs) q h = by_order (cmp k x) (only_these k xs q) h
    where
      by_order : (o : Ordering) → (Contains (lists (insert_key cmp xs k)) q → Contains (lists xs) q ⊎ (k.items ≡ q)) → Contains (lists (match_ordering o (k ∷ x ∷ xs) (x ∷ xs) (x ∷ insert_key cmp xs k))) q → Contains (lists (x ∷ xs)) q ⊎ (k.items ≡ q)
      by_order Less f h = ⊎_elim (λ (e : k.items ≡ q). inr e) (λ (r : Contains (lists (x ∷ xs)) q). inl r) (first_or_rest k.items (lists (x ∷ xs)) q h)
      by_order Equal f h = inl h
      by_order Greater f h =
          ⊎_elim (λ (e : x.items ≡ q). inl (here x.items (lists xs) q e))
          (λ (r : Contains (lists (insert_key cmp xs k)) q).
          ⊎_elim (λ (l : Contains (lists xs) q). inl (there x.items (lists xs) q l)) (λ (e : k.items ≡ q). inr e) (f r))
          (first_or_rest x.items (lists (insert_key cmp xs k)) q h)

-- Lists of numbers, in the order of words

abbrev words_cmp : Vec ℕ → Vec ℕ → Ordering
words_cmp x y = slice_cmp nat_cmp x.items y.items

exact_words : (x y : Vec ℕ) → words_cmp x y ≡ Equal → x.items ≡ y.items
exact_words x y e = exact_bytes x.items y.items e

same_number : (x : ℕ) → nat_cmp x x ≡ Equal
same_number x = by_test (ltb x x) refl (eq-eqb x x refl)
  where
    by_test : (b : Bool) → ltb x x ≡ b → eqb x x ≡ true → cond b Less (cond (eqb x x) Equal Greater) ≡ Equal
    by_test true e f = absurd (let l = ltb-true x x e in omega arith)
    by_test false e f = ap (λ (t : Bool). cond t Equal Greater) f

itself : (xs : List ℕ) → slice_cmp nat_cmp xs xs ≡ Equal
itself [] = refl
itself (x ∷ xs) = ap (λ (o : Ordering). ordering_then o (slice_cmp nat_cmp xs xs)) (same_number x) ∙ itself xs

same_words : (x y : Vec ℕ) → x.items ≡ y.items → words_cmp x y ≡ Equal
same_words x y e = ap (λ (zs : List ℕ). slice_cmp nat_cmp x.items zs) (sym e) ∙ itself x.items

pub added_test : (ks : List (Vec ℕ)) (k : Vec ℕ) (new : Bool) → new ≡ not (list_any (is_at (words_cmp k)) ks)
    → MatchBool new (Contains (map (λ (v : Vec ℕ). v.items) ks) k.items → ⊥) (Contains (map (λ (v : Vec ℕ). v.items) ks) k.items)
added_test ks k new e = subst (λ (b : Bool). MatchBool b (Contains (map (λ (v : Vec ℕ). v.items) ks) k.items → ⊥) (Contains (map (λ (v : Vec ℕ). v.items) ks) k.items)) (sym e) (by_test (list_any (is_at (words_cmp k)) ks) refl)
  where
    by_test : (b : Bool) → list_any (is_at (words_cmp k)) ks ≡ b → MatchBool (not b) (Contains (map (λ (v : Vec ℕ). v.items) ks) k.items → ⊥) (Contains (map (λ (v : Vec ℕ). v.items) ks) k.items)
    by_test true t = found words_cmp exact_words same_words k ks t
    by_test false t = not_found words_cmp exact_words same_words k ks t

pub added_keys : (ks more : List (Vec ℕ)) (k : Vec ℕ) → more ≡ insert_key words_cmp ks k
    → (q : List ℕ) → Contains (map (λ (v : Vec ℕ). v.items) more) q ↔ (Contains (map (λ (v : Vec ℕ). v.items) ks) q ⊎ (k.items ≡ q))
added_keys ks more k e q = (
  λ h. only_these words_cmp exact_words same_words k ks q (subst (λ (vs : List (Vec ℕ)). Contains (map (λ (v : Vec ℕ). v.items) vs) q) e h),
  λ h. subst (λ (vs : List (Vec ℕ)). Contains (map (λ (v : Vec ℕ). v.items) vs) q) (sym e)
      (⊎_elim (λ (x : Contains (map (λ (v : Vec ℕ). v.items) ks) q). kept words_cmp exact_words same_words k ks q x)
      (λ (x : k.items ≡ q). put words_cmp exact_words same_words k ks q x) h),
)

-- Keys of instances

same_bits : (xs ys : List Bool) → map key_bit xs ≡ map key_bit ys → xs ≡ ys
same_bits [] [] e = refl
same_bits [] (y ∷ ys) e = cc
same_bits (x ∷ xs) [] e = cc
same_bits (x ∷ xs) (y ∷ ys) e =
    let head : key_bit x ≡ key_bit y = cc in
    let tail : map key_bit xs ≡ map key_bit ys = cc in
    ap (λ (b : Bool). b ∷ xs) (same_bit x y head) ∙ ap (λ (bs : List Bool). y ∷ bs) (same_bits xs ys tail)
  where
    same_bit : (x y : Bool) → key_bit x ≡ key_bit y → x ≡ y
    same_bit true true e = refl
    same_bit true false e = absurd (omega arith)
    same_bit false true e = absurd (omega arith)
    same_bit false false e = refl

pub agree_from_key : (s : System) (i j : Instance) → key_of s i ≡ key_of s j → Agree s i j
agree_from_key s i j e = record {
  group = cc;
  entry = cc;
  face = same_bits (face_of s i i.entry) (face_of s j j.entry) (let tail : map key_bit (face_of s i i.entry) ≡ map key_bit (face_of s j j.entry) = cc in tail);
}

pub key_from_agree : (s : System) (i j : Instance) → Agree s i j → key_of s i ≡ key_of s j
key_from_agree s i j a =
    ap (λ (n : ℕ). n ∷ i.entry ∷ map key_bit (face_of s i i.entry)) a.group
    ∙ ap (λ (n : ℕ). j.group ∷ n ∷ map key_bit (face_of s i i.entry)) a.entry
    ∙ ap (λ (bs : List Bool). j.group ∷ j.entry ∷ map key_bit bs) a.face

-- an instance that comes before instance m agrees with it
pub record IsTwiceAt (s : System) (is : List Instance) (m : ℕ) : Type 0 where
  pub first : ℕ
  pub earlier : first < m
  pub one : Instance
  pub other : Instance
  pub there : slice_get is first ≡ Some one
  pub here : slice_get is m ≡ Some other
  pub agree : Agree s one other

-- an instance before n has this key
pub record IsKeyBefore (s : System) (is : List Instance) (n : ℕ) (q : List ℕ) : Type 0 where
  pub number : ℕ
  pub before : number < n
  pub instance : Instance
  pub there : slice_get is number ≡ Some instance
  pub key : key_of s instance ≡ q

-- the keys are those of the instances before n, no two of which agree
pub record AreSeen (s : System) (is : List Instance) (keys : List (List ℕ)) (n : ℕ) : Type 0 where
  pub each : (m : ℕ) (i : Instance) → m < n → slice_get is m ≡ Some i → Contains keys (key_of s i)
  pub only : (q : List ℕ) → Contains keys q → IsKeyBefore s is n q
  pub apart : (m : ℕ) → m < n → IsTwiceAt s is m → ⊥

pub none_seen : (s : System) (is : List Instance) → AreSeen s is [] 0
none_seen s is = record {
  each = λ m i lt at. absurd (omega arith);
  only = λ q h. absurd (none_there q h);
  apart = λ m lt t. absurd (omega arith);
}

pub one_seen : (s : System) (is : List Instance) (keys more : List (List ℕ)) (n : ℕ) (i : Instance) → AreSeen s is keys n → slice_get is n ≡ Some i
    → (Contains keys (key_of s i) → ⊥) → ((q : List ℕ) → Contains more q ↔ (Contains keys q ⊎ (key_of s i ≡ q))) → AreSeen s is more (n + 1)
one_seen s is keys more n i seen at new added = record {
  each = λ m j lt at'. each_of m j at' (lt_or_le m n) (omega arith);
  only = λ q h. ⊎_elim
      (λ (k : Contains keys q). let o = seen.only q k in record { number = o.number; before = (let lt = o.before in omega arith); instance = o.instance; there = o.there; key = o.key })
      (λ (e : key_of s i ≡ q). record { number = n; before = omega arith; instance = i; there = at; key = e }) ((added q).0 h);
  apart = λ m lt t. apart_of m t (lt_or_le m n) (omega arith);
}
  where
    at_end : (m : ℕ) → n ≤ m → m ≤ n → m ≡ n
    at_end m a b = omega arith

    each_of : (m : ℕ) (j : Instance) → slice_get is m ≡ Some j → (m < n) ⊎ (n ≤ m) → m ≤ n → Contains more (key_of s j)
    each_of m j at' (inl lt) le = (added (key_of s j)).1 (inl (seen.each m j lt at'))
    each_of m j at' (inr ge) le =
        let e : m ≡ n = at_end m ge le in
        let same : i ≡ j = (let x = ap (λ (k : ℕ). slice_get is k) e in cc) in
        (added (key_of s j)).1 (inr (ap (key_of s) same))

    apart_of : (m : ℕ) → IsTwiceAt s is m → (m < n) ⊎ (n ≤ m) → m ≤ n → ⊥
    apart_of m t (inl lt) le = seen.apart m lt t
    apart_of m t (inr ge) le =
        let e : m ≡ n = at_end m ge le in
        let same : i ≡ t.other = (let x = ap (λ (k : ℕ). slice_get is k) e in let y = t.here in cc) in
        let before : t.first < n = (let lt = t.earlier in omega (arith, e)) in
        new (subst (Contains keys) (key_from_agree s t.one t.other t.agree ∙ ap (key_of s) (sym same)) (seen.each t.first t.one before t.there))

pub seen_twice : (s : System) (is : List Instance) (keys : List (List ℕ)) (n : ℕ) (i : Instance) → AreSeen s is keys n → slice_get is n ≡ Some i
    → Contains keys (key_of s i) → IsTwiceAt s is n
seen_twice s is keys n i seen at h =
    let o = seen.only (key_of s i) h in
    record { first = o.number; earlier = o.before; one = o.instance; other = i; there = o.there; here = at; agree = agree_from_key s o.instance i o.key }

pub twice_to : (s : System) (U : ConstraintName → Bool) (c : Certificate) (n : ℕ) → IsTwiceAt s c.instances n → HasFault s U c Twice (instance_line c.instances n + 1)
twice_to s U c n t = fault.twice t.first n t.one t.other t.earlier t.there t.here t.agree

pub twice_from : (s : System) (U : ConstraintName → Bool) (c : Certificate) (line : ℕ) → HasFault s U c Twice line → IsAt c.instances 1 (IsTwiceAt s c.instances) line
twice_from s U c line (fault.twice n m i j lt at at' agree) = record {
  number = m;
  has = record { first = n; earlier = lt; one = i; other = j; there = at; here = at'; agree = agree };
  within = slice_get_within c.instances m j at';
  on = refl;
}
