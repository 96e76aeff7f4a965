-- The places of a body and their numbers: the number of a place says where it stands.
use Rattle.std.proofs.Common.{◌≡◌, ◌⊎◌, ◌↔◌, inl, inr, ℕ, zero, suc, ◌+◌, ◌-◌, ◌*◌, ◌/◌, ◌%◌, ◌<◌, ◌≤◌, Bool, true, false, cond, List, [], ◌∷◌, ◌++◌, length, map, get_or, nat_eq, nat_lt, Option, Some, option_map, refl, sym, ap, subst, ◌∙◌, arith}
use Rattle.std.specs.Prelude.{⊤, slice_get}
use Rattle.std.specs.List.{All}
use Rattle.std.proofs.lemmas.Bool.{cases_lt, cases_Bool, and_parts, and_from, eqb-true, eq-eqb, lt-ltb, false≢true}
use Rattle.std.proofs.lemmas.List.{length-append, length-map}
use Rattle.std.proofs.lemmas.List.Elements.{All-head, All-tail}
use Rattle.std.proofs.lemmas.Option.{same_Some, slice_get-map, slice_get_within, slice_get-get_or}
use Rattle.c_tree.specs.declared.position.Place.{Place}
use Rattle.c_tree.specs.declared.position.Place.TheVariants as place
use Rattle.flow_graph.specs.declared.raw.RawAction.TheVariants as raw
use Rattle.flow_graph.specs.declared.raw.RawEdge.{RawEdge}
use Rattle.flow_graph.specs.Fits.{is_in, comes_before, Ascend}
use Rattle.flow_graph.specs.Parts.{edge}
use Rattle.flow_graph.specs.Numbers.{ascending, sorted, place_key, place_of_key, keys_of_place, place_keys, last_places, places_of, place_number}
use Rattle.flow_graph.specs.GraphOf.{numbering}
use Rattle.flow_graph.proofs.RawWays.{same_place, raw_at, AreRawWays, MayBegin, MayLead, IsControlled}
use Rattle.flow_graph.proofs.NumbersKeys.{slice_get-append_left, slice_get-append_right, is_in-self, is_in-one, is_in-append_left, is_in-append_right, is_in-append_cases, is_in-flat_map, flat_map_has, All-from_is_in, bound_above, sorted-at, sorted-key, Climb, sorted-climb, ranks-at, sorted-below}

-- Keys

pub place_of-key : (n j : ℕ) → j < 4 → place_of_key (place_key n j) ≡ place.At n j
place_of-key n j small =
    let node : (4 * n + j) / 4 ≡ n = omega arith in
    let step : (4 * n + j) % 4 ≡ j = omega arith in
    ap (λ (m : ℕ). place.At m ((4 * n + j) % 4)) node ∙ ap (place.At n) step

key_of-place : (k : ℕ) → place_key (k / 4) (k % 4) ≡ k
key_of-place k = omega arith

key_parts : (n j m i : ℕ) → j < 4 → i < 4 → place_key n j ≡ place_key m i → (n ≡ m) × (j ≡ i)
key_parts n j m i small less same = (omega (arith, same), omega (arith, same))

key_of : (p : Place) (k : ℕ) → is_in (keys_of_place p) k ≡ true → (n : ℕ) × (j : ℕ) × (p ≡ place.At n j) × (place_key n j ≡ k)
key_of place.In k h = absurd (false≢true h)
key_of (place.At n j) k h = (n, j, refl, sym (is_in-one (place_key n j) k h))
key_of place.End k h = absurd (false≢true h)
key_of place.Out k h = absurd (false≢true h)

-- the places of a body, by the keys of those at nodes
abbrev pub IsPlace : Bool → List ℕ → Place → Type 0
IsPlace main ks place.In = ⊤
IsPlace main ks (place.At n j) = (j < 4) × (is_in ks (place_key n j) ≡ true)
IsPlace main ks place.End = main ≡ true
IsPlace main ks place.Out = ⊤

-- Two places that are one

pub same_place-true : (p q : Place) → same_place p q ≡ true → p ≡ q
same_place-true place.In place.In h = refl
same_place-true place.End place.End h = refl
same_place-true place.Out place.Out h = refl
same_place-true (place.At n j) (place.At m i) h =
    let parts = and_parts (nat_eq n m) (nat_eq j i) h in
    ap (λ (l : ℕ). place.At l j) (eqb-true n m parts.0) ∙ ap (place.At m) (eqb-true j i parts.1)
same_place-true _ _ h = absurd (false≢true h)

pub same_place-self : (p : Place) → same_place p p ≡ true
same_place-self place.In = refl
same_place-self place.End = refl
same_place-self place.Out = refl
same_place-self (place.At n j) = and_from (nat_eq n n) (nat_eq j j) (eq-eqb n n refl) (eq-eqb j j refl)

pub same_place-other : (p q : Place) → (p ≡ q → ⊥) → same_place p q ≡ false
same_place-other p q other = elim (cases_Bool (same_place p q)) [ inl same ↦ absurd (other (same_place-true p q same)) | inr differ ↦ differ ]

-- The list of places

length_last : (main : Bool) → (1 ≤ length (last_places main)) × (length (last_places main) ≤ 2)
length_last true = (omega arith, omega arith)
length_last false = (omega arith, omega arith)

last_out : (main : Bool) → slice_get (last_places main) (length (last_places main) - 1) ≡ Some place.Out
last_out true = refl
last_out false = refl

module _ (main : Bool) (es : List RawEdge) where
  abbrev nodes : List Place
  nodes = map place_of_key (sorted (place_keys es))

  length_nodes : length nodes ≡ length (sorted (place_keys es))
  length_nodes = length-map (sorted (place_keys es)) place_of_key

  pub length_places : length (places_of main es) ≡ 1 + length (sorted (place_keys es)) + length (last_places main)
  length_places = omega (arith, length-append nodes (last_places main), length_nodes)

  -- what stands after the places of nodes
  after_nodes : (i n : ℕ) → 1 + length (sorted (place_keys es)) + i ≡ n → slice_get (places_of main es) n ≡ slice_get (last_places main) i
  after_nodes i n e = slice_get-append_right (place.In ∷ nodes) (last_places main) i n (omega (arith, length_nodes, e))

  pub places_in : slice_get (places_of main es) 0 ≡ Some place.In
  places_in = refl

  pub places_out : slice_get (places_of main es) (length (places_of main es) - 1) ≡ Some place.Out
  places_out =
      after_nodes (length (last_places main) - 1) (length (places_of main es) - 1) (omega (arith, length_places, length_last main)) ∙ last_out main

  node_at : (i k : ℕ) → slice_get (sorted (place_keys es)) i ≡ Some k → slice_get (places_of main es) (suc i) ≡ Some (place_of_key k)
  node_at i k h =
      slice_get-append_left nodes (last_places main) i (place_of_key k)
      (slice_get-map place_of_key (sorted (place_keys es)) i ∙ ap (option_map place_of_key) h)

-- which place has a number
place_cases : (main : Bool) (es : List RawEdge) (q : ℕ) → q < length (places_of main es)
    → (q ≡ 0)
    ⊎ (((i : ℕ) × (k : ℕ) × (q ≡ suc i) × (slice_get (sorted (place_keys es)) i ≡ Some k))
    ⊎ ((i : ℕ) × (q ≡ 1 + length (sorted (place_keys es)) + i) × (i < length (last_places main))))
place_cases main es zero within = inl refl
place_cases main es (suc i) within = elim (cases_lt i (length (sorted (place_keys es)))) [
  | inl node ↦ inr (inl (i, get_or (sorted (place_keys es)) i 0, refl, slice_get-get_or (sorted (place_keys es)) i 0 node))
  | inr last ↦ inr (inr (i - length (sorted (place_keys es)), omega arith, omega (arith, length_places main es)))
]

-- Their order

before_at : (x y : ℕ) → x < y → comes_before (place_of_key x) (place_of_key y) ≡ true
before_at x y less = elim (cases_Bool (nat_eq (x / 4) (y / 4))) [
  | inl same ↦
      let e = eqb-true (x / 4) (y / 4) same in
      ap (λ (b : Bool). cond b (nat_lt (x % 4) (y % 4)) (nat_lt (x / 4) (y / 4))) same ∙ lt-ltb (x % 4) (y % 4) (omega (arith, e))
  | inr other ↦
      ap (λ (b : Bool). cond b (nat_lt (x % 4) (y % 4)) (nat_lt (x / 4) (y / 4))) other ∙ lt-ltb (x / 4) (y / 4) (rise other)
]
  where
    rise : nat_eq (x / 4) (y / 4) ≡ false → x / 4 < y / 4
    rise other = elim (cases_lt (x / 4) (y / 4)) [
      | inl lower ↦ lower
      | inr higher ↦
          let e : x / 4 ≡ y / 4 = omega arith in
          absurd (false≢true (sym other ∙ eq-eqb (x / 4) (y / 4) e))
    ]

ascend_last : (main : Bool) (xs : List ℕ) → Climb xs → Ascend (map place_of_key xs ++ last_places main)
ascend_last true [] climb = (refl, tt)
ascend_last false [] climb = tt
ascend_last true (x ∷ []) climb = (refl, (refl, tt))
ascend_last false (x ∷ []) climb = (refl, tt)
ascend_last main (x ∷ y ∷ xs) climb = (before_at x y climb.0, ascend_last main (y ∷ xs) climb.1)

ascend_first : (main : Bool) (xs : List ℕ) → Ascend (map place_of_key xs ++ last_places main) → Ascend (place.In ∷ map place_of_key xs ++ last_places main)
ascend_first true [] ascend = (refl, ascend)
ascend_first false [] ascend = (refl, ascend)
ascend_first main (x ∷ xs) ascend = (refl, ascend)

pub places_ascend : (main : Bool) (es : List RawEdge) → Ascend (places_of main es)
places_ascend main es =
    ascend_first main (sorted (place_keys es)) (ascend_last main (sorted (place_keys es)) (sorted-climb (place_keys es)))

-- The end

node_no_end : (k : ℕ) (o : Option Place) → o ≡ Some (place_of_key k) → o ≡ Some place.End → ⊥
node_no_end k o is h = let e : place_of_key k ≡ place.End = same_Some (place_of_key k) place.End (sym is ∙ h) in absurd (cc)

end_from : (main : Bool) (es : List RawEdge) → slice_get (places_of main es) (length (places_of main es) - 1 - 1) ≡ Some place.End → main ≡ true
end_from true es h = refl
end_from false es h = elim (place_cases false es (length (places_of false es) - 1 - 1) (omega (arith, length_places false es))) [
  | inl first ↦
      let e : Some place.In ≡ Some place.End = sym (ap (slice_get (places_of false es)) first) ∙ h in
      let same : place.In ≡ place.End = same_Some place.In place.End e in
      absurd (cc)
  | inr other ↦ elim other [
    | inl node ↦
        absurd (node_no_end node.1 (slice_get (places_of false es) (length (places_of false es) - 1 - 1))
        (ap (slice_get (places_of false es)) node.2 ∙ node_at false es node.0 node.1 node.3) h)
    | inr last ↦ absurd (omega (arith, last.1, length_places false es))
  ]
]

end_there : (main : Bool) (es : List RawEdge) → main ≡ true → slice_get (places_of main es) (length (places_of main es) - 1 - 1) ≡ Some place.End
end_there true es is = after_nodes true es 0 (length (places_of true es) - 1 - 1) (omega (arith, length_places true es))
end_there false es is = absurd (false≢true is)

pub places_end : (main : Bool) (es : List RawEdge) → (slice_get (places_of main es) (length (places_of main es) - 1 - 1) ≡ Some place.End) ↔ (main ≡ true)
places_end main es = (end_from main es, end_there main es)

-- Places and numbers

module _ (vars types : ℕ) (main : Bool) (texts : List ℕ) (es : List RawEdge) where
  node_number : (n j : ℕ) → is_in (place_keys es) (place_key n j) ≡ true → place_number (numbering vars types main texts es) (place.At n j) ≡ suc (length (ascending (place_keys es) (place_key n j)))
  node_number n j h = omega (arith, ranks-at (place_keys es) (place_key n j) (bound_above (place_keys es) (place_key n j) h))

  -- each place stands at its number
  pub place_at : (p : Place) → IsPlace main (place_keys es) p → slice_get (places_of main es) (place_number (numbering vars types main texts es) p) ≡ Some p
  place_at place.In is = refl
  place_at (place.At n j) is =
      ap (slice_get (places_of main es)) (node_number n j is.1)
      ∙ node_at main es (length (ascending (place_keys es) (place_key n j))) (place_key n j) (sorted-at (place_keys es) (place_key n j) is.1)
      ∙ ap (λ (p : Place). Some p) (place_of-key n j is.0)
  place_at place.End is =
      after_nodes main es 0 (1 + length (sorted (place_keys es))) (omega arith) ∙ ap (λ (b : Bool). slice_get (last_places b) 0) is
  place_at place.Out is = places_out main es

  pub place_within : (p : Place) → IsPlace main (place_keys es) p → place_number (numbering vars types main texts es) p < length (places_of main es)
  place_within p is = slice_get_within (places_of main es) (place_number (numbering vars types main texts es) p) p (place_at p is)

  pub places_apart : (p q : Place) → IsPlace main (place_keys es) p → IsPlace main (place_keys es) q
      → place_number (numbering vars types main texts es) p ≡ place_number (numbering vars types main texts es) q → p ≡ q
  places_apart p q first second same = same_Some p q (sym (place_at p first) ∙ ap (slice_get (places_of main es)) same ∙ place_at q second)

  node_place : (i k : ℕ) → slice_get (sorted (place_keys es)) i ≡ Some k
      → IsPlace main (place_keys es) (place_of_key k) × (place_number (numbering vars types main texts es) (place_of_key k) ≡ suc i)
  node_place i k h =
      let key = sorted-key (place_keys es) i k h in
      let own = key_of-place k in
      let there : is_in (place_keys es) (place_key (k / 4) (k % 4)) ≡ true = subst (λ (l : ℕ). is_in (place_keys es) l ≡ true) (sym own) key.0 in
      ((omega arith, there), node_number (k / 4) (k % 4) there ∙ ap (λ (l : ℕ). suc (length (ascending (place_keys es) l))) own ∙ ap (λ (m : ℕ). suc m) key.1)

  last_place : (i n : ℕ) → i < length (last_places main) → n ≡ 1 + length (sorted (place_keys es)) + i
      → (p : Place) × IsPlace main (place_keys es) p × (place_number (numbering vars types main texts es) p ≡ n)
  last_place i n within e = by main refl
    where
      by : (b : Bool) → main ≡ b → (p : Place) × IsPlace main (place_keys es) p × (place_number (numbering vars types main texts es) p ≡ n)
      by false is =
          let one : length (last_places main) ≡ 1 = ap (λ (b : Bool). length (last_places b)) is in
          (place.Out, tt, omega (arith, length_places main es, one, e, within))
      by true is =
          let two : length (last_places main) ≡ 2 = ap (λ (b : Bool). length (last_places b)) is in
          elim (cases_lt i 1) [
            | inl first ↦ (place.End, is, omega (arith, e))
            | inr second ↦ (place.Out, tt, omega (arith, length_places main es, two, e, within))
          ]

  -- each number is that of a place
  pub place_with : (q : ℕ) → q < length (places_of main es) → (p : Place) × IsPlace main (place_keys es) p × (place_number (numbering vars types main texts es) p ≡ q)
  place_with q within = elim (place_cases main es q within) [
    | inl first ↦ (place.In, tt, sym first)
    | inr other ↦ elim other [
      | inl node ↦ let r = node_place node.0 node.1 node.3 in (place_of_key node.1, r.0, r.1 ∙ sym node.2)
      | inr last ↦ last_place last.0 q last.2 last.1
    ]
  ]

-- Where edges begin and lead

place_from : (main : Bool) (count : ℕ) (ks : List ℕ) (p : Place) → MayBegin main count p → ((k : ℕ) → is_in (keys_of_place p) k ≡ true → is_in ks k ≡ true) → IsPlace main ks p
place_from main count ks place.In may has = tt
place_from main count ks (place.At n j) may has = (may.1, has (place_key n j) (is_in-self (place_key n j)))
place_from main count ks place.End may has = may
place_from main count ks place.Out may has = absurd may

place_to : (main : Bool) (count : ℕ) (es : List RawEdge) (ks : List ℕ) (p : Place) → MayLead main count es p → ((k : ℕ) → is_in (keys_of_place p) k ≡ true → is_in ks k ≡ true) → IsPlace main ks p
place_to main count es ks place.In may has = absurd may
place_to main count es ks (place.At n j) may has = (may.0.1, has (place_key n j) (is_in-self (place_key n j)))
place_to main count es ks place.End may has = may
place_to main count es ks place.Out may has = tt

abbrev keys_of_edge : RawEdge → List ℕ
keys_of_edge e = keys_of_place e.from ++ keys_of_place e.to

edge_keys : (es : List RawEdge) (i : ℕ) (d : RawEdge) (k : ℕ) → i < length es → is_in (keys_of_edge (get_or es i d)) k ≡ true → is_in (place_keys es) k ≡ true
edge_keys es i d k within h = is_in-flat_map keys_of_edge es i d k within h

module _ (main : Bool) (count : ℕ) (es : List RawEdge) (is : IsControlled main count es) where
  pub from_places : All (λ e. IsPlace main (place_keys es) e.from) es
  from_places = λ i d within.
      place_from main count (place_keys es) (get_or es i d).from (is.begins i d within)
      (λ k h. edge_keys es i d k within (is_in-append_left (keys_of_place (get_or es i d).from) (keys_of_place (get_or es i d).to) k h))

  pub to_places : All (λ e. IsPlace main (place_keys es) e.to) es
  to_places = λ i d within.
      place_to main count es (place_keys es) (get_or es i d).to (is.leads i d within)
      (λ k h. edge_keys es i d k within (is_in-append_right (keys_of_place (get_or es i d).from) (keys_of_place (get_or es i d).to) k h))

-- how many places there are

no_edge : RawEdge
no_edge = edge place.In raw.Skip place.Out

begin_small : (main : Bool) (count k : ℕ) (p : Place) → MayBegin main count p → is_in (keys_of_place p) k ≡ true → k < 4 * count
begin_small main count k place.In may h = absurd (false≢true h)
begin_small main count k (place.At n j) may h = omega (arith, is_in-one (place_key n j) k h, may.0, may.1)
begin_small main count k place.End may h = absurd (false≢true h)
begin_small main count k place.Out may h = absurd may

lead_small : (main : Bool) (count k : ℕ) (es : List RawEdge) (p : Place) → MayLead main count es p → is_in (keys_of_place p) k ≡ true → k < 4 * count
lead_small main count k es place.In may h = absurd may
lead_small main count k es (place.At n j) may h = omega (arith, is_in-one (place_key n j) k h, may.0.0, may.0.1)
lead_small main count k es place.End may h = absurd (false≢true h)
lead_small main count k es place.Out may h = absurd (false≢true h)

module _ (main : Bool) (count : ℕ) (es : List RawEdge) (is : IsControlled main count es) where
  keys_small : (k : ℕ) → is_in (place_keys es) k ≡ true → k < 4 * count
  keys_small k h =
      let at = flat_map_has keys_of_edge es k h in
      let e = get_or es at.0 no_edge in
      elim (is_in-append_cases (keys_of_place e.from) (keys_of_place e.to) k (at.2 no_edge)) [
        | inl from ↦ begin_small main count k e.from (is.begins at.0 no_edge at.1) from
        | inr to ↦ lead_small main count k es e.to (is.leads at.0 no_edge at.1) to
      ]

  pub places_few : length (places_of main es) ≤ 4 * count + 3
  places_few =
      omega (arith, length_places main es, length_last main, sorted-below (place_keys es) (4 * count) (All-from_is_in (λ k. k < 4 * count) (place_keys es) keys_small))

-- The edges from a place

raw_at_some : (es : List RawEdge) (p : Place) (i : ℕ) (d : RawEdge) → i < length es → (get_or es i d).from ≡ p → raw_at es p ≡ [] → ⊥
raw_at_some [] p i d within from none = absurd (omega arith)
raw_at_some (e ∷ es) p zero d within from none =
    let here : same_place e.from p ≡ true = ap (λ (q : Place). same_place q p) from ∙ same_place-self p in
    let some : e ∷ raw_at es p ≡ [] = rw here at none in
    absurd (cc)
raw_at_some (e ∷ es) p (suc i) d within from none = elim (cases_Bool (same_place e.from p)) [
  | inl same ↦ let some : e ∷ raw_at es p ≡ [] = rw same at none in absurd (cc)
  | inr other ↦ let rest : raw_at es p ≡ [] = rw other at none in raw_at_some es p i d (omega arith) from rest
]

pub raw_at_out : (main : Bool) (count : ℕ) (es : List RawEdge) → All (λ e. MayBegin main count e.from) es → raw_at es place.Out ≡ []
raw_at_out main count [] all = refl
raw_at_out main count (e ∷ es) all =
    let other = same_place-other e.from place.Out (λ out. subst (MayBegin main count) out (All-head (λ x. MayBegin main count x.from) e es all)) in
    rw other (raw_at_out main count es (All-tail (λ x. MayBegin main count x.from) e es all))

module _ (main : Bool) (count : ℕ) (es : List RawEdge) (is : IsControlled main count es) where
  node_begins : (n j m i l : ℕ) (d : RawEdge) → l < length es → j < 4 → (get_or es l d).from ≡ place.At m i → place_key m i ≡ place_key n j → AreRawWays (raw_at es (place.At n j))
  node_begins n j m i l d within small from same =
      let may : MayBegin main count (place.At m i) = subst (MayBegin main count) from (is.begins l d within) in
      let parts = key_parts m i n j may.1 small same in
      let here : (get_or es l d).from ≡ place.At n j = from ∙ ap (λ (x : ℕ). place.At x i) parts.0 ∙ ap (place.At n) parts.1 in
      elim (is.nodes n j) [ inl none ↦ absurd (raw_at_some es (place.At n j) l d within here none) | inr ways ↦ ways ]

  node_led_to : (n j m i l : ℕ) (d : RawEdge) → l < length es → j < 4 → (get_or es l d).to ≡ place.At m i → place_key m i ≡ place_key n j → AreRawWays (raw_at es (place.At n j))
  node_led_to n j m i l d within small to same =
      let may : MayLead main count es (place.At m i) = subst (MayLead main count es) to (is.leads l d within) in
      let parts = key_parts m i n j may.0.1 small same in
      subst (λ (p : Place). AreRawWays (raw_at es p)) (ap (λ (x : ℕ). place.At x i) parts.0 ∙ ap (place.At n) parts.1) may.1

  -- each place but the exit has ways on
  pub place_ways : (p : Place) → IsPlace main (place_keys es) p → (p ≡ place.Out → ⊥) → AreRawWays (raw_at es p)
  place_ways place.In there not_out = is.entry
  place_ways place.End there not_out = is.end there
  place_ways place.Out there not_out = absurd (not_out refl)
  place_ways (place.At n j) there not_out =
      let at = flat_map_has keys_of_edge es (place_key n j) there.1 in
      let e = get_or es at.0 no_edge in
      elim (is_in-append_cases (keys_of_place e.from) (keys_of_place e.to) (place_key n j) (at.2 no_edge)) [
        | inl from ↦ let key = key_of e.from (place_key n j) from in node_begins n j key.0 key.1 at.0 no_edge at.1 there.0 key.2 key.3
        | inr to ↦ let key = key_of e.to (place_key n j) to in node_led_to n j key.0 key.1 at.0 no_edge at.1 there.0 key.2 key.3
      ]
