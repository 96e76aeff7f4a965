-- The numbers of interfaces, and what they stand for at sites.
use Rattle.std.proofs.Common.{◌≡◌, ℕ, zero, suc, ◌+◌, ◌-◌, ◌<◌, ◌≤◌, ◌⊎◌, inl, inr, Bool, true, false, cond, not, List, [], ◌∷◌, ◌++◌, Option, Some, None, refl, sym, ap, ◌∙◌, arith, length, get_or, map}
use Rattle.std.specs.Prelude.{nat_eq, slice_index}
use Rattle.std.specs.List.Sorted.{IsStrictlyIncreasing}
use Rattle.std.specs.List.{Contains, filter, count_by, position_or_len, range_with_len}
use Rattle.std.proofs.lemmas.Bool.{eq-eqb, ne_eqb, cases_eq}
use Rattle.std.proofs.lemmas.List.{length-map, get_or_append_left}
use Rattle.std.proofs.lemmas.List.Sums.{length-filter, count_by-le-length}
use Rattle.zo_core.specs.declared.number_range.NumberRange.{NumberRange}
use Rattle.flow_graph.specs.FlowGraph.{FlowGraph, flow_of}
use Rattle.owner_vars.specs.Unknowns.{Unknown, Sigma, is_same, number_of, interface, parts_of, unknowns, root_unknowns, site_callees}
use Rattle.owner_vars.specs.Laws.{RowsAreTogether, RootNumbersFollow}
use Rattle.owner_vars.specs.Rows.{is_pi_of, is_sigma_of, range_where}
use Rattle.owner_vars.proofs.Numbers.{same_itself, is_same_true}
use Rattle.transfer_rules.specs.Programs.{Parts, IsProgram, group_at, firsts}
use Rattle.verdict_meaning.specs.declared.callee.Callee.{Callee}
use Rattle.verdict_meaning.specs.Systems.{System, root, members, first, callee, callees, phi_numbers, pi_numbers, sigma_numbers, count}
use Rattle.verdict_meaning.specs.Systems as system
use Rattle.verdict_meaning.specs.Derivations.{Carried, paired, at_site, carried_number}
use Rattle.verdict_meaning.specs.Programs.{root_callees, IsSystemOf, system_in}
use Rattle.proof_checker.specs.Programs.{unknowns_in}
use Rattle.proof_checker.proofs.GroupLemmas.{group_is}
use Rattle.proof_checker.proofs.CallLemmas.{root_callees_are}

-- The unknowns of a group, and of the root

end_at : {X : Type 0} (xs : List X) (x d : X) (n : ℕ) → n ≡ length xs → get_or (xs ++ x ∷ []) n d ≡ x
end_at [] x d zero e = refl
end_at [] x d (suc n) e = absurd (omega arith)
end_at (y ∷ xs) x d zero e = absurd (omega arith)
end_at (y ∷ xs) x d (suc n) e = end_at xs x d n (omega arith)

get_or-mapped : {X Y : Type 0} (f : X → Y) (xs : List X) (k : ℕ) (d : X) (e : Y) → k < length xs → get_or (map f xs) k e ≡ f (get_or xs k d)
get_or-mapped f [] k d e lt = absurd (omega arith)
get_or-mapped f (x ∷ xs) zero d e lt = refl
get_or-mapped f (x ∷ xs) (suc k) d e lt = get_or-mapped f xs k d e (omega arith)

pub own_unknowns : (p : Parts) → IsProgram p → (e : ℕ) → e < length p.groups → unknowns_in p e ≡ unknowns p.graph (group_at p.groups e)
own_unknowns p program e lt =
    ap (λ (us : List (List Unknown)). get_or us e []) program.numbers
    ∙ get_or_append_left (map (unknowns p.graph) p.groups) (root_unknowns p.graph (firsts p.groups) ∷ []) [] e (let many = length-map p.groups (unknowns p.graph) in omega arith)
    ∙ get_or-mapped (unknowns p.graph) p.groups e [] [] lt

firsts_same : (a : ℕ) (gs : List (List ℕ)) → map (λ (c : Callee). c.proc) (system.firsts a gs) ≡ firsts gs
firsts_same a [] = refl
firsts_same a (ms ∷ gs) = ap (λ (ks : List ℕ). get_or ms 0 0 ∷ ks) (firsts_same (suc a) gs)

pub root_firsts : (p : Parts) → root_callees (system_in p) ≡ firsts p.groups
root_firsts p = ap (map (λ (c : Callee). c.proc)) (root_callees_are p) ∙ firsts_same 0 p.groups

pub last_unknowns : (p : Parts) → IsProgram p → unknowns_in p (length p.groups) ≡ root_unknowns p.graph (root_callees (system_in p))
last_unknowns p program =
    ap (λ (us : List (List Unknown)). get_or us (length p.groups) []) program.numbers
    ∙ end_at (map (unknowns p.graph) p.groups) (root_unknowns p.graph (firsts p.groups)) [] (length p.groups) (sym (length-map p.groups (unknowns p.graph)))
    ∙ ap (root_unknowns p.graph) (sym (root_firsts p))

pub numbers_count : (p : Parts) → IsProgram p → length p.numbers ≡ length p.groups + 1
numbers_count p program = ap length program.numbers ∙ longer (map (unknowns p.graph) p.groups) (root_unknowns p.graph (firsts p.groups)) ∙ ap (λ n. n + 1) (length-map p.groups (unknowns p.graph))
  where
    longer : (xs : List (List Unknown)) (x : List Unknown) → length (xs ++ x ∷ []) ≡ length xs + 1
    longer [] x = omega arith
    longer (y ∷ xs) x = let e = longer xs x in omega arith

pub many : (p : Parts) → IsProgram p → IsSystemOf p.graph p.facts (system_in p) → (e : ℕ) → e ≤ root (system_in p) → length (unknowns_in p e) ≡ count (system_in p) e
many p program is e le = by_case (cases_eq e (length p.groups))
  where
    by_case : (e ≡ length p.groups) ⊎ (e ≡ length p.groups → ⊥) → length (unknowns_in p e) ≡ count (system_in p) e
    by_case (inl same) =
        ap (λ n. length (unknowns_in p n)) same ∙ ap length (last_unknowns p program) ∙ is.root_numbers.count ∙ ap (count (system_in p)) (sym same)
    by_case (inr ne) = let lt : e < length p.groups = omega arith in ap length (own_unknowns p program e lt) ∙ (is.numbers e lt).count

-- Ranges

-- the first that passes has the number of the first
first_number : (test : Unknown → Bool) (us : List Unknown) (x : Unknown) (xs : List Unknown) → filter test us ≡ x ∷ xs → number_of us x ≡ 1 + position_or_len test us
first_number test [] x xs e = cc
first_number test (u ∷ us) x xs e = by_test (test u) refl e (first_number test us x xs)
  where
    passes : (us : List Unknown) → filter test us ≡ x ∷ xs → test x ≡ true
    passes [] e = cc
    passes (u ∷ us) e = by (test u) refl e (passes us)
      where
        by : (b : Bool) → test u ≡ b → cond b (u ∷ filter test us) (filter test us) ≡ x ∷ xs → (filter test us ≡ x ∷ xs → test x ≡ true) → test x ≡ true
        by true on f later = let same : u ≡ x = cc in ap test (sym same) ∙ on
        by false on f later = later f

    differ : true ≡ false → ⊥
    differ e = cc

    other : (b : Bool) → is_same x u ≡ b → test u ≡ false → test x ≡ true → cond b 1 (suc (number_of us x)) ≡ suc (number_of us x)
    other true same off on = absurd (differ (sym on ∙ ap test (is_same_true x u same) ∙ off))
    other false same off on = refl

    by_test : (b : Bool) → test u ≡ b → cond b (u ∷ filter test us) (filter test us) ≡ x ∷ xs → (filter test us ≡ x ∷ xs → number_of us x ≡ 1 + position_or_len test us)
        → cond (is_same x u) 1 (suc (number_of us x)) ≡ 1 + cond (not b) (1 + position_or_len test us) 0
    by_test true on f later =
        let same : u ≡ x = cc in
        let is : is_same x u ≡ true = ap (is_same x) same ∙ same_itself x in
        ap (λ (b : Bool). cond b 1 (suc (number_of us x))) is
    by_test false off f later = other (is_same x u) refl off (passes us f) ∙ (let next = later f in omega arith)

length-range : (a n : ℕ) → length (range_with_len a n) ≡ n
length-range a zero = refl
length-range a (suc n) = ap suc (length-range (a + 1) n)

-- unknowns that pass, whose numbers are one after another, are a range
pub range_is : (test : Unknown → Bool) (us xs : List Unknown) (a n : ℕ) → filter test us ≡ xs → map (number_of us) xs ≡ range_with_len a n
    → let r = range_where test us in range_with_len r.first r.count ≡ range_with_len a n
range_is test us xs a n passed numbers = by_count n xs passed numbers
  where
    counted : (xs : List Unknown) → filter test us ≡ xs → count_by test us ≡ length xs
    counted xs e = sym (length-filter test us) ∙ ap length e

    by_count : (n : ℕ) (xs : List Unknown) → filter test us ≡ xs → map (number_of us) xs ≡ range_with_len a n → range_with_len (1 + position_or_len test us) (count_by test us) ≡ range_with_len a n
    by_count zero [] e f = ap (range_with_len (1 + position_or_len test us)) (counted [] e)
    by_count zero (x ∷ xs) e f = cc
    by_count (suc n) [] e f = cc
    by_count (suc n) (x ∷ xs) e f =
        let here : number_of us x ≡ a = cc in
        let begins : 1 + position_or_len test us ≡ a = sym (first_number test us x xs e) ∙ here in
        let size : count_by test us ≡ suc n = counted (x ∷ xs) e ∙ sym (length-map (x ∷ xs) (number_of us)) ∙ ap length f ∙ length-range a (suc n) in
        ap (λ k. range_with_len k (count_by test us)) begins ∙ ap (range_with_len a) size

-- a range ends within the list
position_filter : (test : Unknown → Bool) (us : List Unknown) → position_or_len test us + length (filter test us) ≤ length us
position_filter test [] = omega arith
position_filter test (u ∷ us) = by_test (test u) (let e = length-filter test us in let le = count_by-le-length test us in omega arith) (position_filter test us)
  where
    by_test : (b : Bool) → length (filter test us) ≤ length us → position_or_len test us + length (filter test us) ≤ length us
        → cond (not b) (1 + position_or_len test us) 0 + length (cond b (u ∷ filter test us) (filter test us)) ≤ suc (length us)
    by_test true most le = omega arith
    by_test false most le = omega arith

pub range_small : (test : Unknown → Bool) (us : List Unknown) (r : NumberRange) (n : ℕ) → r ≡ range_where test us → n ≡ length us → r.first + r.count ≤ n + 1
range_small test us r n is e =
    let le = position_filter test us in
    let many_ = length-filter test us in
    let first_is : r.first ≡ 1 + position_or_len test us = ap (λ (x : NumberRange). x.first) is in
    let count_is : r.count ≡ count_by test us = ap (λ (x : NumberRange). x.count) is in
    omega arith

of_range : (r s : NumberRange) (ns : List ℕ) → r ≡ s → range_with_len s.first s.count ≡ ns → range_with_len r.first r.count ≡ ns
of_range r s ns e h = ap (λ (x : NumberRange). range_with_len x.first x.count) e ∙ h

-- the interface of a member
pub member_range : (p : Parts) → IsProgram p → IsSystemOf p.graph p.facts (system_in p) → (e k : ℕ) (us : List Unknown) (r : NumberRange) → e < root (system_in p)
    → RowsAreTogether p.graph (members (system_in p) e) → Contains (members (system_in p) e) k → us ≡ unknowns_in p e → r ≡ range_where (is_pi_of k) us
    → range_with_len r.first r.count ≡ pi_numbers (system_in p) e k
member_range p program is e k us r lt rows member same e' =
    let own : us ≡ unknowns p.graph (members (system_in p) e) = same ∙ own_unknowns p program e lt in
    let whole : r ≡ range_where (is_pi_of k) (unknowns p.graph (members (system_in p) e)) = e' ∙ ap (range_where (is_pi_of k)) own in
    of_range r _ _ whole (range_is (is_pi_of k) (unknowns p.graph (members (system_in p) e)) (interface p.graph k) _ _ (rows.pi k member) ((is.numbers e lt).pi k member))

-- the interface that is called at a site
pub site_range : (p : Parts) → IsProgram p → IsSystemOf p.graph p.facts (system_in p) → ((ms : List ℕ) → IsStrictlyIncreasing ms → RowsAreTogether p.graph ms) → ((fs : List ℕ) → RootNumbersFollow p.graph fs)
    → (e site : ℕ) (us : List Unknown) (r : NumberRange) → e ≤ root (system_in p)
    → site < length (callees (system_in p) e) → us ≡ unknowns_in p e → r ≡ range_where (is_sigma_of site) us
    → range_with_len r.first r.count ≡ sigma_numbers (system_in p) e site
site_range p program is rows follow e site us r le there same e' = by_case (cases_eq e (root s))
  where
    s : System
    s = system_in p

    g : FlowGraph
    g = p.graph

    at_root : (n : ℕ) → n ≡ root s → us ≡ unknowns_in p n → site < length (callees s n) → range_with_len r.first r.count ≡ sigma_numbers s n site
    at_root n is_root own lt =
        let fs : List ℕ = root_callees s in
        let all : us ≡ root_unknowns g fs = own ∙ ap (unknowns_in p) is_root ∙ last_unknowns p program in
        let whole : r ≡ range_where (is_sigma_of site) (root_unknowns g fs) = e' ∙ ap (range_where (is_sigma_of site)) all in
        let many_ : length fs ≡ length (callees s (root s)) = length-map (callees s (root s)) (λ (c : Callee). c.proc) in
        let many_here : length (callees s n) ≡ length (callees s (root s)) = ap (λ m. length (callees s m)) is_root in
        let below : site < length fs = omega arith in
        let groups_many : length (firsts p.groups) ≡ length p.groups = length-map p.groups (λ (ms : List ℕ). get_or ms 0 0) in
        let firsts_many : length fs ≡ length (firsts p.groups) = ap length (root_firsts p) in
        let small : site < root s = omega arith in
        let called_first : slice_index fs site ≡ first s site = ap (λ (ks : List ℕ). get_or ks site 0) (root_firsts p) ∙ get_or-mapped (λ (ms : List ℕ). get_or ms 0 0) p.groups site [] 0 small in
        let passed : filter (is_sigma_of site) (root_unknowns g fs) ≡ map (Sigma site) (parts_of (flow_of g (first s site))) =
        (follow fs).together site below ∙ ap (λ k. map (Sigma site) (parts_of (flow_of g k))) called_first in
        of_range r _ _ whole (range_is (is_sigma_of site) (root_unknowns g fs) (map (Sigma site) (parts_of (flow_of g (first s site)))) _ _ passed (is.root_numbers.sigma site small))
        ∙ ap (λ m. sigma_numbers s m site) (sym is_root)

    by_case : (e ≡ root s) ⊎ (e ≡ root s → ⊥) → range_with_len r.first r.count ≡ sigma_numbers s e site
    by_case (inl is_root) = at_root e is_root same there
    by_case (inr ne) =
        let lt : e < root s = omega arith in
        let ms : List ℕ = members s e in
        let own : us ≡ unknowns g ms = same ∙ own_unknowns p program e lt in
        let whole : r ≡ range_where (is_sigma_of site) (unknowns g ms) = e' ∙ ap (range_where (is_sigma_of site)) own in
        let as_many : length (site_callees g ms) ≡ length (callees s e) = length-map _ _ ∙ sym (is.count e lt ∙ length-map _ _) in
        let below : site < length (site_callees g ms) = omega arith in
        let passed : filter (is_sigma_of site) (unknowns g ms) ≡ map (Sigma site) (parts_of (flow_of g (callee s e site).proc)) =
        (rows ms (group_is p.graph p.groups program.groups e lt).ascend).sigma site below ∙ ap (λ k. map (Sigma site) (parts_of (flow_of g k))) (sym (is.called e site lt there)) in
        of_range r _ _ whole (range_is (is_sigma_of site) (unknowns g ms) (map (Sigma site) (parts_of (flow_of g (callee s e site).proc))) _ _ passed ((is.numbers e lt).sigma site there))

-- What a number stands for

below_range : (a b n v : ℕ) → v < a → carried_number (paired (range_with_len a n) (range_with_len b n)) v ≡ None
below_range a b zero v lt = refl
below_range a b (suc n) v lt = ap (λ (c : Bool). cond c (Some b) (carried_number (paired (range_with_len (a + 1) n) (range_with_len (b + 1) n)) v)) (ne_eqb a v (omega arith)) ∙ below_range (a + 1) (b + 1) n v (omega arith)

above_range : (a b n v : ℕ) → a + n ≤ v → carried_number (paired (range_with_len a n) (range_with_len b n)) v ≡ None
above_range a b zero v le = refl
above_range a b (suc n) v le = ap (λ (c : Bool). cond c (Some b) (carried_number (paired (range_with_len (a + 1) n) (range_with_len (b + 1) n)) v)) (ne_eqb a v (omega arith)) ∙ above_range (a + 1) (b + 1) n v (omega arith)

within_range : (a b n v k : ℕ) → v ≡ a + k → k < n → carried_number (paired (range_with_len a n) (range_with_len b n)) v ≡ Some (b + k)
within_range a b zero v k e lt = absurd (omega arith)
within_range a b (suc n) v zero e lt =
    let same : a ≡ v = omega arith in
    ap (λ (c : Bool). cond c (Some b) (carried_number (paired (range_with_len (a + 1) n) (range_with_len (b + 1) n)) v)) (eq-eqb a v same) ∙ (let none : b ≡ b + 0 = omega arith in ap Some none)
within_range a b (suc n) v (suc k) e lt =
    ap (λ (c : Bool). cond c (Some b) (carried_number (paired (range_with_len (a + 1) n) (range_with_len (b + 1) n)) v)) (ne_eqb a v (omega arith))
    ∙ within_range (a + 1) (b + 1) n v k (omega arith) (omega arith) ∙ (let next : (b + 1) + k ≡ b + suc k = omega arith in ap Some next)

pub moved_below : (a b n m v : ℕ) → n ≡ m → v < a → None ≡ carried_number (paired (range_with_len a n) (range_with_len b m)) v
moved_below a b n m v e lt = sym (below_range a b n v lt) ∙ ap (λ k. carried_number (paired (range_with_len a n) (range_with_len b k)) v) e

pub moved_above : (a b n m v k : ℕ) → n ≡ m → a ≤ v → k ≡ v - a → n ≤ k → None ≡ carried_number (paired (range_with_len a n) (range_with_len b m)) v
moved_above a b n m v k e le f ge = sym (above_range a b n v (omega arith)) ∙ ap (λ i. carried_number (paired (range_with_len a n) (range_with_len b i)) v) e

pub moved_within : (a b n m v k w : ℕ) → n ≡ m → a ≤ v → k ≡ v - a → k < n → w ≡ b + k → Some w ≡ carried_number (paired (range_with_len a n) (range_with_len b m)) v
moved_within a b n m v k w e le f lt h =
    ap Some h ∙ sym (within_range a b n v k (omega arith) lt) ∙ ap (λ i. carried_number (paired (range_with_len a n) (range_with_len b i)) v) e

-- fields stand for themselves, and others are looked up behind them

in_fields : (f a v : ℕ) (ps : List Carried) → a ≤ v → v < a + f → carried_number (paired (range_with_len a f) (range_with_len a f) ++ ps) v ≡ Some v
in_fields zero a v ps le lt = absurd (omega arith)
in_fields (suc f) a v ps le lt = by_case (cases_eq a v) (λ up small. in_fields f (a + 1) v ps up small)
  where
    rest : Option ℕ
    rest = carried_number (paired (range_with_len (a + 1) f) (range_with_len (a + 1) f) ++ ps) v

    by_case : (a ≡ v) ⊎ (a ≡ v → ⊥) → (a + 1 ≤ v → v < (a + 1) + f → rest ≡ Some v) → cond (nat_eq a v) (Some a) rest ≡ Some v
    by_case (inl same) later = ap (λ (c : Bool). cond c (Some a) rest) (eq-eqb a v same) ∙ ap Some same
    by_case (inr ne) later = ap (λ (c : Bool). cond c (Some a) rest) (ne_eqb a v ne) ∙ later (omega arith) (omega arith)

past_fields : (f a v : ℕ) (ps : List Carried) → a + f ≤ v → carried_number (paired (range_with_len a f) (range_with_len a f) ++ ps) v ≡ carried_number ps v
past_fields zero a v ps le = refl
past_fields (suc f) a v ps le =
    ap (λ (c : Bool). cond c (Some a) (carried_number (paired (range_with_len (a + 1) f) (range_with_len (a + 1) f) ++ ps) v)) (ne_eqb a v (omega arith)) ∙ past_fields f (a + 1) v ps (omega arith)

pub field_itself : (s : System) (e site v : ℕ) → 0 < v → v ≤ s.fields → Some v ≡ carried_number (at_site s e site) v
field_itself s e site v some le =
    sym (in_fields s.fields 1 v (paired (pi_numbers s (callee s e site).group (callee s e site).proc) (sigma_numbers s e site)) (omega arith) (omega arith))

-- how many numbers both interfaces have
pub sizes : (s : System) (e site : ℕ) (c : Callee) (from to : NumberRange) → c ≡ callee s e site → range_with_len from.first from.count ≡ pi_numbers s c.group c.proc
    → range_with_len to.first to.count ≡ sigma_numbers s e site → from.count ≡ to.count
sizes s e site c from to is f h =
    sym (length-range from.first from.count) ∙ ap length f ∙ length-range _ (s.parts c.proc) ∙ ap (λ (x : Callee). s.parts x.proc) is ∙ sym (length-range _ (s.parts (callee s e site).proc)) ∙ sym (ap length h)
    ∙ length-range to.first to.count

pub behind_fields : (s : System) (e site v : ℕ) (c : Callee) (from to : NumberRange) (o : Option ℕ) → c ≡ callee s e site → s.fields < v → range_with_len from.first from.count ≡ pi_numbers s c.group c.proc
    → range_with_len to.first to.count ≡ sigma_numbers s e site → o ≡ carried_number (paired (range_with_len from.first from.count) (range_with_len to.first to.count)) v
    → o ≡ carried_number (at_site s e site) v
behind_fields s e site v c from to o is lt f h e' =
    e'
    ∙ ap (λ (ns : List ℕ). carried_number (paired ns (range_with_len to.first to.count)) v) f
    ∙ ap (λ (ns : List ℕ). carried_number (paired (pi_numbers s c.group c.proc) ns) v) h
    ∙ ap (λ (x : Callee). carried_number (paired (pi_numbers s x.group x.proc) (sigma_numbers s e site)) v) is
    ∙ sym (past_fields s.fields 1 v (paired (pi_numbers s (callee s e site).group (callee s e site).proc) (sigma_numbers s e site)) (omega arith))
