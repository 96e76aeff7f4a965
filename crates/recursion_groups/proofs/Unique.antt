-- At most one list of groups meets the definition.
use Rattle.std.proofs.Common.{◌≡◌, ℕ, suc, ◌+◌, ◌<◌, ◌≤◌, inl, inr, List, [], ◌∷◌, ◌++◌, length, get_or, refl, sym, ap, subst, ◌∙◌, arith}
use Rattle.std.proofs.lemmas.List.{get_or_default}
use Rattle.std.proofs.lemmas.List.Elements.{Contains-get_or, All-contains}
use Rattle.std.proofs.lemmas.List.Kept.{AllPairs-from_increasing}
use Rattle.std.specs.List.{Contains}
use Rattle.std.specs.List.Sorted.{IsStrictlyIncreasing}
use Rattle.flow_graph.specs.FlowGraph.{FlowGraph}
use Rattle.recursion_groups.specs.Grouping.{IsReady, IsNext, IsOrdered, IsGrouping}
use Rattle.recursion_groups.proofs.FoundLemmas.{contains_head, contains_tail, contains_cases, contains_none}

-- ascending lists of the same numbers are one list

rest_increases : (x : ℕ) (xs : List ℕ) → IsStrictlyIncreasing (x ∷ xs) → IsStrictlyIncreasing xs
rest_increases x xs h k lt =
    let next : suc k + 1 ≡ suc (k + 1) = omega arith in
    subst (λ n. get_or xs k 0 < get_or (x ∷ xs) n 0) next (h (suc k) (omega (arith, lt)))

first_below : (x : ℕ) (xs : List ℕ) → IsStrictlyIncreasing (x ∷ xs) → (y : ℕ) → Contains xs y → x < y
first_below x xs h y c =
    let at : get_or xs c.0 0 ≡ y = get_or_default xs c.0 0 y c.1 ∙ c.2 in
    let lt = AllPairs-from_increasing (x ∷ xs) h 0 (suc c.0) 0 (omega arith) (omega (arith, c.1)) in
    omega (arith, at, lt)

-- all of the first are in the second
abbrev Within : List ℕ → List ℕ → Type 0
Within xs ys = (z : ℕ) → Contains xs z → Contains ys z

first_of : (x y : ℕ) (ys : List ℕ) → IsStrictlyIncreasing (y ∷ ys) → Contains (y ∷ ys) x → y ≤ x
first_of x y ys h c = elim (contains_cases y x ys c) [ inl e ↦ omega (arith, e) | inr k ↦ let lt = first_below y ys h x k in omega (arith, lt) ]

rest_within : (x y : ℕ) (xs ys : List ℕ) → IsStrictlyIncreasing (x ∷ xs) → x ≡ y → Within (x ∷ xs) (y ∷ ys) → Within xs ys
rest_within x y xs ys h e w z c = elim (contains_cases y z ys (w z (contains_tail x z xs c))) [
  | inl same ↦ let lt = first_below x xs h z c in absurd (omega (arith, lt, same, e))
  | inr k ↦ k
]

same_numbers : (xs ys : List ℕ) → IsStrictlyIncreasing xs → IsStrictlyIncreasing ys → Within xs ys → Within ys xs → xs ≡ ys
same_numbers [] [] h k v w = refl
same_numbers [] (y ∷ ys) h k v w = absurd (contains_none y (w y (contains_head y y ys refl)))
same_numbers (x ∷ xs) [] h k v w = absurd (contains_none x (v x (contains_head x x xs refl)))
same_numbers (x ∷ xs) (y ∷ ys) h k v w =
    let low = first_of x y ys k (v x (contains_head x x xs refl)) in
    let high = first_of y x xs h (w y (contains_head y y ys refl)) in
    let e : x ≡ y = omega (arith, low, high) in
    ap (λ z. z ∷ xs) e ∙ ap (λ zs. y ∷ zs) (same_numbers xs ys (rest_increases x xs h) (rest_increases y ys k) (rest_within x y xs ys h e v) (rest_within y x ys xs k (sym e) w))

module _ (g : FlowGraph) (done : List ℕ) where
  first_in : (ps : List ℕ) → 0 < length ps → Contains ps (get_or ps 0 0)
  first_in ps some = Contains-get_or ps 0 0 some

  pub least_first : (ps : List ℕ) → IsStrictlyIncreasing ps → (p : ℕ) → Contains ps p → get_or ps 0 0 ≤ p
  least_first [] h p c = absurd (contains_none p c)
  least_first (x ∷ ps) h p c = first_of p x ps h c

  -- a group that stands next could stand next
  could_stand : (ps : List ℕ) → IsNext g done ps → (p : ℕ) → Contains ps p → IsReady g done p
  could_stand ps n p there q r both calls =
      let inside = (n.group.class p q there).1 both in
      elim (n.ready q r inside calls) [ inl k ↦ inl ((n.group.class p r there).0 k) | inr k ↦ inr k ]

  -- so no other one that does begins above it
  begins_low : (ps qs : List ℕ) → IsNext g done ps → IsNext g done qs → get_or qs 0 0 ≤ get_or ps 0 0
  begins_low ps qs n m =
      let there = first_in ps n.group.some in
      let body = All-contains (λ p. p < g.bodies) ps (get_or ps 0 0) n.group.bodies there in
      let low = m.least (get_or ps 0 0) body (n.apart (get_or ps 0 0) there) (could_stand ps n (get_or ps 0 0) there) in
      let least = least_first qs m.group.ascend low.0 low.1 in
      omega (arith, least, low.2)

  inside_other : (ps qs : List ℕ) → IsNext g done ps → IsNext g done qs → get_or ps 0 0 ≡ get_or qs 0 0 → Within ps qs
  inside_other ps qs n m e z c =
      let p = get_or ps 0 0 in
      let here = first_in ps n.group.some in
      let other : Contains qs p = subst (λ k. Contains qs k) (sym e) (first_in qs m.group.some) in
      (m.group.class p z other).1 ((n.group.class p z here).0 c)

  pub same_next : (ps qs : List ℕ) → IsNext g done ps → IsNext g done qs → ps ≡ qs
  same_next ps qs n m =
      let low = begins_low ps qs n m in
      let high = begins_low qs ps m n in
      let e : get_or ps 0 0 ≡ get_or qs 0 0 = omega (arith, low, high) in
      same_numbers ps qs n.group.ascend m.group.ascend (inside_other ps qs n m e) (inside_other qs ps m n (sym e))

  -- nothing stands next where all are done
  none_next : (ps : List ℕ) → IsNext g done ps → ((p : ℕ) → p < g.bodies → Contains done p) → ⊥
  none_next ps n all =
      let there = first_in ps n.group.some in
      n.apart (get_or ps 0 0) there (all (get_or ps 0 0) (All-contains (λ p. p < g.bodies) ps (get_or ps 0 0) n.group.bodies there))

pub same_order : (g : FlowGraph) (done : List ℕ) (pss qss : List (List ℕ)) → IsOrdered g done pss → IsOrdered g done qss → pss ≡ qss
same_order g done [] [] h k = refl
same_order g done [] (qs ∷ qss) h k = absurd (none_next g done qs k.0 h)
same_order g done (ps ∷ pss) [] h k = absurd (none_next g done ps h.0 k)
same_order g done (ps ∷ pss) (qs ∷ qss) h k =
    let e = same_next g done ps qs h.0 k.0 in
    ap (λ us. us ∷ pss) e ∙ ap (λ uss. qs ∷ uss) (same_order g (done ++ qs) pss qss (subst (λ us. IsOrdered g (done ++ us) pss) e h.1) k.1)

-- the groups of a program and their order are determined
pub same_grouping : (g : FlowGraph) (pss qss : List (List ℕ)) → IsGrouping g pss → IsGrouping g qss → pss ≡ qss
same_grouping g pss qss h k = same_order g [] pss qss h k
