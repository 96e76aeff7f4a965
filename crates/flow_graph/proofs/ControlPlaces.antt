-- Places by keys, so that what a part of a body uses is a range of keys; and the edges that begin at a place.
use Rattle.std.proofs.Common.{◌≡◌, ℕ, zero, suc, ◌+◌, ◌*◌, ◌<◌, ◌≤◌, ◌⊎◌, inl, inr, true, List, [], ◌∷◌, ◌++◌, refl, sym, ap, subst, ◌∙◌, arith}
use Rattle.std.specs.List.{All}
use Rattle.std.proofs.lemmas.Bool.{true≢false, cases_Bool, and_parts, and_from, eqb-true, eq-eqb}
use Rattle.std.proofs.lemmas.List.{append-nil}
use Rattle.std.proofs.lemmas.List.Elements.{All-head, All-tail}
use Rattle.c_tree.specs.declared.position.Place.{Place}
use Rattle.c_tree.specs.declared.position.Place.TheVariants as place
use Rattle.flow_graph.specs.declared.raw.RawEdge.{RawEdge}
use Rattle.flow_graph.proofs.RawWays.{same_place, raw_at, AreRawWays}

-- Keys

-- a node's sub-steps in the order 1, 2, 3, 0, before its operands: then what is run takes the keys from sub-step 0 on, a test
-- those from 3 on, and what has its value by a test all of them
abbrev pub rank : ℕ → ℕ
rank zero = 3
rank (suc j) = j

-- a sub-step of a node whose key is in a range; a node has four keys
abbrev pub Inside : ℕ → ℕ → Place → Type 0
Inside low high (place.At n j) = (j < 4) × (low ≤ 4 * n + rank j) × (4 * n + rank j < high)
Inside low high p = ⊥

pub inside_wider : (low high a b : ℕ) → a ≤ low → high ≤ b → (p : Place) → Inside low high p → Inside a b p
inside_wider low high a b x y (place.At n j) h = omega (arith, h.0, h.1, h.2)
inside_wider low high a b x y place.In h = absurd h
inside_wider low high a b x y place.End h = absurd h
inside_wider low high a b x y place.Out h = absurd h

pub inside_apart : (low mid high : ℕ) (p : Place) → Inside low mid p → Inside mid high p → ⊥
inside_apart low mid high (place.At n j) h k = omega (arith, h.2, k.1)
inside_apart low mid high place.In h k = h
inside_apart low mid high place.End h k = h
inside_apart low mid high place.Out h k = h

-- Equal places

pub same_place_eq : (p q : Place) → same_place p q ≡ true → p ≡ q
same_place_eq place.In place.In e = refl
same_place_eq place.End place.End e = refl
same_place_eq place.Out place.Out e = refl
same_place_eq (place.At n j) (place.At m i) e =
    let both = and_parts _ _ e in ap (λ k. place.At k j) (eqb-true n m both.0) ∙ ap (place.At m) (eqb-true j i both.1)
same_place_eq place.In place.End e = absurd (true≢false (sym e))
same_place_eq place.In place.Out e = absurd (true≢false (sym e))
same_place_eq place.In (place.At m i) e = absurd (true≢false (sym e))
same_place_eq place.End place.In e = absurd (true≢false (sym e))
same_place_eq place.End place.Out e = absurd (true≢false (sym e))
same_place_eq place.End (place.At m i) e = absurd (true≢false (sym e))
same_place_eq place.Out place.In e = absurd (true≢false (sym e))
same_place_eq place.Out place.End e = absurd (true≢false (sym e))
same_place_eq place.Out (place.At m i) e = absurd (true≢false (sym e))
same_place_eq (place.At n j) place.In e = absurd (true≢false (sym e))
same_place_eq (place.At n j) place.End e = absurd (true≢false (sym e))
same_place_eq (place.At n j) place.Out e = absurd (true≢false (sym e))

pub same_place_self : (p : Place) → same_place p p ≡ true
same_place_self place.In = refl
same_place_self place.End = refl
same_place_self place.Out = refl
same_place_self (place.At n j) = and_from _ _ (eq-eqb n n refl) (eq-eqb j j refl)

-- Edges at a place

pub raw_at-append : (es ds : List RawEdge) (p : Place) → raw_at (es ++ ds) p ≡ raw_at es p ++ raw_at ds p
raw_at-append [] ds p = refl
raw_at-append (e ∷ es) ds p = elim (cases_Bool (same_place e.from p)) [
  | inl is ↦ rw (is, raw_at-append es ds p) refl
  | inr is ↦ rw (is, raw_at-append es ds p) refl
]

-- where edges begin in a range, a place with ways is in it
pub ways_inside : (low high : ℕ) (es : List RawEdge) (p : Place) → All (λ e. Inside low high e.from) es → AreRawWays (raw_at es p) → Inside low high p
ways_inside low high [] p all w = absurd w
ways_inside low high (e ∷ es) p all w = elim (cases_Bool (same_place e.from p)) [
  | inl is ↦ subst (Inside low high) (same_place_eq e.from p is) (All-head (λ d. Inside low high d.from) e es all)
  | inr is ↦ ways_inside low high es p (All-tail (λ d. Inside low high d.from) e es all) (rw is at w)
]

-- each place has no edges, or ways
abbrev pub NoneOrWays : List RawEdge → Place → Type 0
NoneOrWays es p = (raw_at es p ≡ []) ⊎ AreRawWays (raw_at es p)

-- two lists of which no place has ways in both
abbrev pub AreApart : List RawEdge → List RawEdge → Type 0
AreApart es ds = (p : Place) → AreRawWays (raw_at es p) → AreRawWays (raw_at ds p) → ⊥

ways_append : (xs ys : List RawEdge) → ys ≡ [] → AreRawWays xs → AreRawWays (xs ++ ys)
ways_append xs ys none w = subst (λ zs. AreRawWays (xs ++ zs)) (sym none) (subst AreRawWays (sym (append-nil xs)) w)

ways_behind : (xs ys : List RawEdge) → xs ≡ [] → AreRawWays ys → AreRawWays (xs ++ ys)
ways_behind xs ys none w = subst (λ zs. AreRawWays (zs ++ ys)) (sym none) w

pub ways_first : (es ds : List RawEdge) (p : Place) → AreApart es ds → NoneOrWays ds p → AreRawWays (raw_at es p) → AreRawWays (raw_at (es ++ ds) p)
ways_first es ds p apart (inl none) w = subst AreRawWays (sym (raw_at-append es ds p)) (ways_append (raw_at es p) (raw_at ds p) none w)
ways_first es ds p apart (inr v) w = absurd (apart p w v)

pub ways_second : (es ds : List RawEdge) (p : Place) → AreApart es ds → NoneOrWays es p → AreRawWays (raw_at ds p) → AreRawWays (raw_at (es ++ ds) p)
ways_second es ds p apart (inl none) w = subst AreRawWays (sym (raw_at-append es ds p)) (ways_behind (raw_at es p) (raw_at ds p) none w)
ways_second es ds p apart (inr v) w = absurd (apart p v w)

pub none_or_ways_append : (es ds : List RawEdge) (p : Place) → AreApart es ds → NoneOrWays es p → NoneOrWays ds p → NoneOrWays (es ++ ds) p
none_or_ways_append es ds p apart (inl none) (inl nothing) = inl (raw_at-append es ds p ∙ ap (λ xs. xs ++ raw_at ds p) none ∙ nothing)
none_or_ways_append es ds p apart (inl none) (inr w) = inr (ways_second es ds p apart (inl none) w)
none_or_ways_append es ds p apart (inr w) other = inr (ways_first es ds p apart other w)
