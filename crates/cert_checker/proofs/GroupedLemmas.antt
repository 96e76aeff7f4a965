-- Tables of groups and of sites.
use Rattle.std.proofs.Common.{◌≡◌, ℕ, zero, suc, ◌+◌, ◌-◌, ◌<◌, ◌≤◌, ◌⊎◌, inl, inr, ⊎_elim, Bool, true, false, cond, not, ◌||◌, List, [], ◌∷◌, ◌++◌, Option, Some, None, refl, sym, ap, ◌∙◌, subst, arith, length, map, take, drop, get_or, set, slice_get, eqb}
use Rattle.std.specs.Prelude.{nat_eq}
use Rattle.std.specs.List.{Contains, All, position_or_len}
use Rattle.std.proofs.lemmas.Bool.{cases_eq, eqb-true, eq-eqb}
use Rattle.std.proofs.lemmas.List.{length-map, get_or-map, length-set, get_or-set_same, get_or-set_other, take_more, drop_more, get_or_default}
use Rattle.std.proofs.lemmas.Option.{slice_get_within, slice_get-map, get_or_from_slice_get}
use Rattle.flow_graph.specs.FlowGraph.{FlowGraph}
use Rattle.flow_graph.specs.Fits.{is_in}
use Rattle.recursion_groups.specs.Grouping.{IsGrouping}
use Rattle.owner_vars.specs.declared.site.Site.{Site}
use Rattle.owner_vars.specs.Unknowns.{sites, site_callees}
use Rattle.owner_vars.specs.Laws.{SitesAreNumbered}
use Rattle.transfer_rules.specs.Programs.{group_at}
use Rattle.verdict_meaning.specs.declared.callee.Callee.{Callee}
use Rattle.verdict_meaning.specs.Programs.{callee_in, group_of}
use Rattle.cert_checker.specs.Grouped.{AreGroupNumbers, MarksGroup, called}
use Rattle.cert_checker.proofs.ProgramLemmas.{group_bodies}

-- a member of a list and one more
in_push : (xs : List ℕ) (m q : ℕ) → is_in (xs ++ m ∷ []) q ≡ (is_in xs q || nat_eq q m)
in_push [] m q = or_false (nat_eq q m)
  where
    or_false : (b : Bool) → (b || false) ≡ b
    or_false true = refl
    or_false false = refl
in_push (x ∷ xs) m q = ap (λ (b : Bool). nat_eq q x || b) (in_push xs m q) ∙ or_assoc (nat_eq q x) (is_in xs q) (nat_eq q m)
  where
    or_assoc : (a b c : Bool) → (a || (b || c)) ≡ ((a || b) || c)
    or_assoc true b c = refl
    or_assoc false b c = refl

or_right_false : (a b : Bool) → (a || b) ≡ false → (a ≡ false) × (b ≡ false)
or_right_false true b e = cc
or_right_false false b e = (refl, e)

or_left : (a b : Bool) → (a || b) ≡ true → b ≡ false → a ≡ true
or_left true b e f = refl
or_left false b e f = cc

pub marks_more : (old now ms : List ℕ) (group k m : ℕ) → k < length ms → m ≡ get_or ms k 0 → All (λ (j : ℕ). j < length old) ms → MarksGroup old now (take k ms) group
    → MarksGroup old (set now m group) (take (k + 1) ms) group
marks_more old now ms group k m lt e all h = record {
  count = length-set now m group ∙ h.count;
  these = λ q i. these_of q (subst (λ (xs : List ℕ). is_in xs q ≡ true) next i);
  others = λ q i. others_of q (subst (λ (xs : List ℕ). is_in xs q ≡ false) next i);
}
  where
    next : take (k + 1) ms ≡ take k ms ++ m ∷ []
    next = take_more ms k 0 lt ∙ ap (λ (x : ℕ). take k ms ++ x ∷ []) (sym e)

    within : m < length now
    within = let a = all k 0 lt in let c = h.count in omega (arith, a, c, e)

    these_of : (q : ℕ) → is_in (take k ms ++ m ∷ []) q ≡ true → get_or (set now m group) q 0 ≡ group
    these_of q i =
        ⊎_elim (λ (same : q ≡ m). ap (λ (x : ℕ). get_or (set now m group) x 0) same ∙ get_or-set_same now m group 0 within)
        (λ (ne : q ≡ m → ⊥).
        get_or-set_other now m q group 0 ne ∙ h.these q (or_left (is_in (take k ms) q) (nat_eq q m) (sym (in_push (take k ms) m q) ∙ i) (not_same q ne (nat_eq q m) refl)))
        (cases_eq q m)
      where
        not_same : (q : ℕ) → (q ≡ m → ⊥) → (b : Bool) → nat_eq q m ≡ b → b ≡ false
        not_same q ne true t = absurd (ne (eqb-true q m t))
        not_same q ne false t = refl

    others_of : (q : ℕ) → is_in (take k ms ++ m ∷ []) q ≡ false → get_or (set now m group) q 0 ≡ get_or old q 0
    others_of q i =
        let p = or_right_false (is_in (take k ms) q) (nat_eq q m) (sym (in_push (take k ms) m q) ∙ i) in
        get_or-set_other now m q group 0 (λ same. differ (eq-eqb q m same) p.1) ∙ h.others q p.0
      where
        differ : nat_eq q m ≡ true → nat_eq q m ≡ false → ⊥
        differ x y = cc

-- members of a group have bodies
pub group_within : (g : FlowGraph) (groups : List (List ℕ)) (e : ℕ) (ms numbers : List ℕ) → IsGrouping g groups → e < length groups → ms ≡ get_or groups e ms → length numbers ≡ g.bodies
    → All (λ (k : ℕ). k < length numbers) ms
group_within g groups e ms numbers grouping lt is count k d small =
    let same : ms ≡ group_at groups e = is ∙ get_or_default groups e ms [] lt in
    let h : get_or ms k d < g.bodies = subst (All (λ (j : ℕ). j < g.bodies)) (sym same) (group_bodies g groups e grouping lt) k d small in
    omega (arith, h, count)

-- one group less to come
pub numbers_more : (bodies : ℕ) (groups : List (List ℕ)) (done : ℕ) (ms old new : List ℕ) → done < length groups → ms ≡ get_or groups (length groups - 1 - done) ms
    → AreGroupNumbers bodies groups (length groups - done) old → MarksGroup old new ms (length groups - 1 - done) → AreGroupNumbers bodies groups (length groups - (done + 1)) new
numbers_more bodies groups done ms old new lt is h marks = record {
  count = marks.count ∙ h.count;
  each = λ k small. each_of k small (is_in ms k) refl;
}
  where
    split : drop (length groups - (done + 1)) groups ≡ ms ∷ drop (length groups - done) groups
    split =
        let small : length groups - (done + 1) < length groups = omega arith in
        let here : length groups - 1 - done ≡ length groups - (done + 1) = omega arith in
        let next : length groups - (done + 1) + 1 ≡ length groups - done = omega arith in
        drop_more groups (length groups - (done + 1)) ms small
        ∙ ap (λ (x : List ℕ). x ∷ drop (length groups - (done + 1) + 1) groups) (ap (λ (i : ℕ). get_or groups i ms) (sym here) ∙ sym is)
        ∙ ap (λ (i : ℕ). ms ∷ drop i groups) next

    place : (k : ℕ) (b : Bool) → is_in ms k ≡ b → position_or_len (λ (xs : List ℕ). is_in xs k) (drop (length groups - (done + 1)) groups)
        ≡ cond (not b) (1 + position_or_len (λ (xs : List ℕ). is_in xs k) (drop (length groups - done) groups)) 0
    place k b e =
        ap (position_or_len (λ (xs : List ℕ). is_in xs k)) split
        ∙ ap (λ (t : Bool). cond (not t) (1 + position_or_len (λ (xs : List ℕ). is_in xs k) (drop (length groups - done) groups)) 0) e

    each_of : (k : ℕ) → k < bodies → (b : Bool) → is_in ms k ≡ b
        → get_or new k 0 ≡ length groups - (done + 1) + position_or_len (λ (xs : List ℕ). is_in xs k) (drop (length groups - (done + 1)) groups)
    each_of k small true e = let m = marks.these k e in let p = place k true e in omega (arith, m, p)
    each_of k small false e = let m = marks.others k e in let o = h.each k small in let p = place k false e in omega (arith, m, o, p, lt)

-- Sites

pub callee_within : (g : FlowGraph) (members : List ℕ) → SitesAreNumbered g members → (numbers : List ℕ) → length numbers ≡ g.bodies → (n : ℕ) (s : Site) → slice_get (sites g members) n ≡ Some s
    → s.callee < length numbers
callee_within g members numbered numbers count n s at = let b = (numbered.calls n s at).body in omega (arith, b, count)

pub one_more_callee : (g : FlowGraph) (groups : List (List ℕ)) (e : ℕ) → SitesAreNumbered g (group_at groups e) → (numbers : List ℕ) → AreGroupNumbers g.bodies groups 0 numbers
    → (n : ℕ) (s : Site) → slice_get (sites g (group_at groups e)) n ≡ Some s → (now new : List Callee) → now ≡ take n (called g groups e)
    → new ≡ now ++ (let c : Callee = record { proc = s.callee; group = get_or numbers s.callee 0 } in c) ∷ [] → new ≡ take (n + 1) (called g groups e)
one_more_callee g groups e numbered numbers are n s at now new f h =
    let body = (numbered.calls n s at).body in
    let group : get_or numbers s.callee 0 ≡ group_of groups s.callee = (let h = are.each s.callee body in omega (arith, h)) in
    let lt : n < length (sites g (group_at groups e)) = slice_get_within (sites g (group_at groups e)) n s at in
    let l = length-map (sites g (group_at groups e)) (λ (t : Site). t.callee) in
    let l' = length-map (site_callees g (group_at groups e)) (callee_in groups) in
    let small : n < length (site_callees g (group_at groups e)) = omega (arith, lt, l) in
    let small' : n < length (called g groups e) = omega (arith, small, l') in
    let called_is : get_or (called g groups e) n (callee_in groups 0) ≡ callee_in groups s.callee =
    get_or-map (callee_in groups) (site_callees g (group_at groups e)) n 0 (callee_in groups 0) small
    ∙ ap (callee_in groups) (get_or-map (λ (t : Site). t.callee) (sites g (group_at groups e)) n s 0 lt ∙ ap (λ (t : Site). t.callee) (get_or_from_slice_get (sites g (group_at groups e)) n s s at)) in
    h ∙ ap (λ (k : ℕ). now ++ (let c : Callee = record { proc = s.callee; group = k } in c) ∷ []) group
    ∙ ap (λ (cs : List Callee). cs ++ callee_in groups s.callee ∷ []) f
    ∙ ap (λ (c : Callee). take n (called g groups e) ++ c ∷ []) (sym called_is)
    ∙ sym (take_more (called g groups e) n (callee_in groups 0) small')
