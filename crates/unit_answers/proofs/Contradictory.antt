-- Sets with an unknown in both signs.
use Rattle.std.proofs.Common.{◌≡◌, ℕ, ◌+◌, ◌-◌, ◌<◌, ◌≤◌, ◌⊎◌, inl, inr, Bool, true, false, not, eqb, List, [], ◌∷◌, ◌++◌, length, get_or, take, map, Some, slice_get, refl, sym, ap, subst, ◌∙◌, arith}
use Rattle.std.specs.Prelude.{◌↔◌}
use Rattle.std.proofs.lemmas.Bool.{or_cases, false≢true, eqb-true, ne_eqb}
use Rattle.std.proofs.lemmas.Map.Keys.{IsDistinct-from_apart}
use Rattle.std.proofs.lemmas.Map.Steps.{length-le_from_distinct_below}
use Rattle.std.proofs.lemmas.List.{length-take-le, length-map, get_or-map, take_more, take_all}
use Rattle.std.specs.List.{All, Contains, IsDistinct, list_any}
use Rattle.std.proofs.lemmas.List.Elements.{Contains-push_cases, All-tail, All-take}
use Rattle.std.proofs.lemmas.Option.{slice_get_within, get_or_from_slice_get, slice_get-get_or}
use Rattle.zo_core.specs.Literals.{Literal, yes, no, opposite}
use Rattle.conflict_proof.specs.declared.names.ConstraintName.{ConstraintName}
use Rattle.transfer_rules.specs.Names.{NamedClause}
use Rattle.verdict_meaning.specs.Systems.{System, root}
use Rattle.verdict_meaning.specs.Closures.{Closed, IsUnitRefuted}
use Rattle.unit_answers.specs.declared.clash.Contradiction.{Contradiction}
use Rattle.unit_answers.specs.Sets.{UnitSet, set_at, found, AreClosures}
use Rattle.unit_answers.specs.Reasons.{AreReasoned}
use Rattle.unit_answers.specs.Contradictions.{AreConsistent, IsFirstContradiction, HasNoContradiction}
use Rattle.unit_answers.proofs.Places.{contains_at, contains_take, get_take}

twice : (x : Bool) → not (not x) ≡ x
twice true = refl
twice false = refl

never : (x : Bool) → not x ≡ x → ⊥
never true e = cc
never false e = cc

opposite-twice : (l : Literal) → opposite (opposite l) ≡ l
opposite-twice l = let mk : Bool → Literal = λ s. record { var = l.var; sign = s } in ap mk (twice l.sign)

pub consistent_push : (ls : List Literal) (l : Literal) → AreConsistent ls → (Contains ls (opposite l) → ⊥) → AreConsistent (ls ++ l ∷ [])
consistent_push ls l h absent m one two = elim (Contains-push_cases ls l m one) [
  | inl a ↦ elim (Contains-push_cases ls l (opposite m) two) [
    | inl b ↦ h m a b
    | inr e ↦ absent (subst (Contains ls) (sym (ap opposite e ∙ opposite-twice m)) a)
  ]
  | inr e ↦ elim (Contains-push_cases ls l (opposite m) two) [
    | inl b ↦ absent (subst (λ (x : Literal). Contains ls (opposite x)) (sym e) b)
    | inr f ↦ never m.sign (ap (λ (x : Literal). x.sign) (sym f ∙ e))
  ]
]

-- one literal more from the front
pub front_more : (ls : List Literal) (p : ℕ) (l : Literal) → slice_get ls p ≡ Some l → take (p + 1) ls ≡ take p ls ++ l ∷ []
front_more ls p l at = take_more ls p l (slice_get_within ls p l at) ∙ ap (λ (x : Literal). take p ls ++ x ∷ []) (get_or_from_slice_get ls p l l at)

pub consistent_more : (ls : List Literal) (p : ℕ) (l : Literal) → slice_get ls p ≡ Some l → AreConsistent (take p ls) → (Contains (take p ls) (opposite l) → ⊥) → AreConsistent (take (p + 1) ls)
consistent_more ls p l at h absent = subst (λ (xs : List Literal). AreConsistent xs) (sym (front_more ls p l at)) (consistent_push (take p ls) l h absent)

pub consistent_whole : (ls : List Literal) (p : ℕ) → length ls ≤ p → AreConsistent (take p ls) → AreConsistent ls
consistent_whole ls p le h = subst (λ (xs : List Literal). AreConsistent xs) (take_all p ls le) h

module _ (s : System) (U : ConstraintName → Bool) (table : ℕ → List NamedClause) (sets : List UnitSet) (all : AreClosures s U sets) (why : AreReasoned s table sets) where
  -- what was found in a group is its least set
  pub found_exact : (g : ℕ) → g ≤ root s → (l : Literal) → Contains (found (set_at sets g)) l ↔ Closed s U g [] l
  found_exact g le l =
      let same = why.same g le l in
      let exact = (all.each g le).exact l in
      ((λ h. exact.0 (same.1 h)), (λ h. same.0 (exact.1 h)))

  both : (g : ℕ) (l : Literal) (b : Bool) → l.sign ≡ b → Closed s U g [] l → Closed s U g [] (opposite l) → (v : ℕ) × Closed s U g [] (yes v) × Closed s U g [] (no v)
  both g l true e p n =
      let mk : Bool → Literal = λ x. record { var = l.var; sign = x } in
      (l.var, subst (λ (x : Bool). Closed s U g [] (mk x)) e p, subst (λ (x : Bool). Closed s U g [] (mk (not x))) e n)
  both g l false e p n =
      let mk : Bool → Literal = λ x. record { var = l.var; sign = x } in
      (l.var, subst (λ (x : Bool). Closed s U g [] (mk (not x))) e n, subst (λ (x : Bool). Closed s U g [] (mk x)) e p)

  -- a contradiction refutes
  pub clash_refutes : (c : Contradiction) → IsFirstContradiction sets c → IsUnitRefuted s U
  clash_refutes c f =
      let ls = found (set_at sets c.group) in
      let inside : c.group ≤ root s = (let lt = f.within in let many = all.count in omega arith) in
      let l = f.clash.lit in
      let e = contains_take c.place ls (opposite l) f.clash.before in
      let closed = found_exact c.group inside in
      let r = both c.group l l.sign refl ((closed l).0 (contains_at ls c.place l f.clash.at)) ((closed (opposite l)).0 (contains_at ls e.0 (opposite l) e.2)) in
      record { group = c.group; there = inside; unknown = r.0; positive = r.1; negative = r.2 }

  -- where there is none, propagation alone refutes nothing
  pub none_unrefuted : HasNoContradiction sets → IsUnitRefuted s U → ⊥
  none_unrefuted h r =
      let closed = found_exact r.group r.there in
      h r.group (let le = r.there in let many = all.count in omega arith) (yes r.unknown) ((closed (yes r.unknown)).1 r.positive) ((closed (no r.unknown)).1 r.negative)

-- before the first clash there is at most one literal of each unknown

abbrev record_of : ℕ → Bool → Literal
record_of v s = record { var = v; sign = s }

numbers_below : (u q : ℕ) (ls : List Literal) → All (λ l. (0 < l.var) × (l.var ≤ u)) ls → list_any (eqb q) (map (λ (l : Literal). l.var - 1) ls) ≡ true → q < u
numbers_below u q [] h e = absurd (false≢true e)
numbers_below u q (l ∷ ls) h e = elim (or_cases (eqb q (l.var - 1)) (list_any (eqb q) (map (λ (m : Literal). m.var - 1) ls)) e) [
  | inl k ↦ (let same = eqb-true q (l.var - 1) k in let r = h 0 l (omega arith) in let low = r.0 in let high = r.1 in omega (arith, same, low, high))
  | inr k ↦ numbers_below u q ls (All-tail (λ (m : Literal). (0 < m.var) × (m.var ≤ u)) l ls h) k
]

same_or_opposite : (x y : Bool) → (y ≡ x) ⊎ (y ≡ not x)
same_or_opposite true true = inl refl
same_or_opposite true false = inr refl
same_or_opposite false true = inr refl
same_or_opposite false false = inl refl

-- distinct literals of so many unknowns, of which no two are opposite, are no more
pub few_before : (u : ℕ) (ls : List Literal) (p : ℕ) → p ≤ length ls → All (λ l. (0 < l.var) × (l.var ≤ u)) ls
    → ((j k : ℕ) (l : Literal) → slice_get ls j ≡ Some l → slice_get ls k ≡ Some l → j ≡ k) → AreConsistent (take p ls) → p ≤ u
few_before u order p le within once h =
    let f : Literal → ℕ = λ l. l.var - 1 in
    let ls = take p order in
    let count : length ls ≡ p = length-take-le p order le in
    let size : length (map f ls) ≡ p = length-map ls f ∙ count in
    let w = All-take (λ (l : Literal). (0 < l.var) × (l.var ≤ u)) p order within in
    let d : Literal = record { var = 0; sign = true } in
    let apart : IsDistinct eqb (map f ls) = IsDistinct-from_apart eqb (map f ls) (λ i j e lt lt'.
    let ji : j < length ls = omega (arith, size, count, lt') in
    let ii : i < length ls = omega (arith, lt, ji) in
    let a = get_or ls i d in
    let b = get_or ls j d in
    let at_a : slice_get ls i ≡ Some a = slice_get-get_or ls i d ii in
    let at_b : slice_get ls j ≡ Some b = slice_get-get_or ls j d ji in
    let ne : f a ≡ f b → ⊥ = λ k.
    (let la = (w i d ii).0 in
    let lb = (w j d ji).0 in
    let same : b.var ≡ a.var = omega (arith, la, lb, k) in
    elim (same_or_opposite a.sign b.sign) [
      | inl s ↦
          let one : b ≡ a = ap (λ v. record_of v b.sign) same ∙ ap (record_of a.var) s in
          let ra = get_take p order i a at_a in
          let rb = get_take p order j b at_b in
          let eq = once i j a ra.1 (rb.1 ∙ ap Some one) in
          omega (arith, eq, lt)
      | inr s ↦
          let one : b ≡ opposite a = ap (λ v. record_of v b.sign) same ∙ ap (record_of a.var) s in
          h a (contains_at ls i a at_a) (contains_at ls j (opposite a) (at_b ∙ ap Some one))
    ]) in
    rw (get_or-map f ls i d e ii, get_or-map f ls j d e ji) (ne_eqb (f a) (f b) ne)) in
    let most = length-le_from_distinct_below (map f ls) u apart (λ q e. numbers_below u q ls w e) in
    omega (arith, most, size)
