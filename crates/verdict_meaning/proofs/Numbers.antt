-- The numbers of a group's unknowns are those that the system of the program gives them.
use Rattle.std.proofs.Common.{◌≡◌, ℕ, zero, suc, ◌+◌, ◌<◌, ◌≤◌, Bool, true, false, cond, List, [], ◌∷◌, refl, sym, ap, ◌∙◌, subst, arith, length, map, take, get_or}
use Rattle.std.specs.Prelude.{nat_eq, sum_by, slice_index}
use Rattle.std.specs.List.{Contains, range_with_len}
use Rattle.std.proofs.lemmas.Bool.{eqb-true, eq-eqb, ne_eqb}
use Rattle.std.proofs.lemmas.List.{get_or-map, take-map, length-map, get_or_past}
use Rattle.std.proofs.lemmas.List.Sums.{sum_by-cons}
use Rattle.zo_core.specs.Literals.{Literal}
use Rattle.conflict_proof.specs.declared.names.ConstraintName.{ConstraintName}
use Rattle.flow_graph.specs.FlowGraph.{FlowGraph, flow_of}
use Rattle.owner_vars.specs.Unknowns.{Unknown, Phi, Sigma, count_from, field_count, interface, parts_of, site_callees, unknowns, root_unknowns, number_of}
use Rattle.owner_vars.specs.Laws.{NumbersFollow, RootNumbersFollow, part_count}
use Rattle.verdict_meaning.specs.declared.callee.Callee.{Callee}
use Rattle.verdict_meaning.specs.Systems.{System, root, members, first, callee, callees, callee_parts, firsts, nobody, parts_before, pi_numbers, sigma_numbers, place_count}
use Rattle.verdict_meaning.specs.Programs.{callee_in, system_with, NumbersAgree, root_callees, RootNumbersAgree}
use Rattle.verdict_meaning.proofs.Refuting.{root_many, root_callee}

-- the first place of a number in a list, and what stands before it
record Placed (s : System) (k : ℕ) (ms : List ℕ) : Type 0 where
  place : ℕ
  within : place < length ms
  is : slice_index ms place ≡ k
  before : parts_before s k ms ≡ sum_by s.parts (take place ms)

off : (b : Bool) (n : ℕ) → b ≡ false → cond b 0 n ≡ n
off true n e = cc
off false n e = refl

placed : (s : System) (k : ℕ) (ms : List ℕ) → Contains ms k → Placed s k ms
placed s k [] there = absurd (let lt = there.1 in omega arith)
placed s k (m ∷ ms) there = by_test (λ h. placed s k ms h) (nat_eq m k) refl
  where
    rest : (m ≡ k → ⊥) → Contains (m ∷ ms) k → Contains ms k
    rest ne (zero, lt, e) = absurd (ne e)
    rest ne (suc i, lt, e) = (i, omega arith, e)

    by_test : (Contains ms k → Placed s k ms) → (b : Bool) → nat_eq m k ≡ b → Placed s k (m ∷ ms)
    by_test later true e = record { place = 0; within = omega arith; is = eqb-true m k e; before = rw e refl }
    by_test later false e =
        let ne : (m ≡ k → ⊥) = (λ is. differ (sym (eq-eqb m k is) ∙ e)) in
        let next = later (rest ne there) in
        record {
          place = suc next.place;
          within = (let lt = next.within in omega arith);
          is = next.is;
          before = off (nat_eq m k) (s.parts m + parts_before s k ms) e ∙ ap (λ n. s.parts m + n) next.before ∙ sym (sum_by-cons s.parts m (take next.place ms));
        }
      where
        differ : true ≡ false → ⊥
        differ e = cc

-- numbers counted by two words
ranges : (n k : ℕ) → count_from n k ≡ range_with_len n k
ranges n zero = refl
ranges n (suc k) = let next : suc n ≡ n + 1 = omega arith in ap (λ (ns : List ℕ). n ∷ ns) (ap (λ m. count_from m k) next ∙ ranges (n + 1) k)

-- each of the first fields has its own number
fields_are : (number : Unknown → ℕ) (most n k : ℕ) → ((f : ℕ) → 0 < f → f ≤ most → number (Phi f) ≡ f) → 0 < n → n + k ≤ most + 1 → map number (map Phi (count_from n k)) ≡ range_with_len n k
fields_are number most n zero each some le = refl
fields_are number most n (suc k) each some le =
    let here : number (Phi n) ≡ n = each n some (omega arith) in
    let next : suc n ≡ n + 1 = omega arith in
    let rest : map number (map Phi (count_from (n + 1) k)) ≡ range_with_len (n + 1) k = fields_are number most (n + 1) k each (omega arith) (omega arith) in
    ap (λ (m : ℕ). m ∷ map number (map Phi (count_from (suc n) k))) here ∙ ap (λ (m : ℕ). n ∷ map number (map Phi (count_from m k))) next ∙ ap (λ (ns : List ℕ). n ∷ ns) rest

sum_by-mapped : {X Y : Type 0} (f : X → ℕ) (h : Y → X) (xs : List Y) → sum_by f (map h xs) ≡ sum_by (λ x. f (h x)) xs
sum_by-mapped f h [] = refl
sum_by-mapped f h (x ∷ xs) = sum_by-cons f (h x) (map h xs) ∙ ap (λ n. f (h x) + n) (sum_by-mapped f h xs) ∙ sym (sum_by-cons (λ x. f (h x)) x xs)

module _ (g : FlowGraph) (groups : List (List ℕ)) (names : List ℕ → List ConstraintName) (clauses : List ℕ → ConstraintName → List (List Literal)) where
  abbrev pub s : System
  s = system_with g groups names clauses

  module _ (e : ℕ) (lower : e < root s) (follow : NumbersFollow g (members s e)) where
    abbrev pub called : List ℕ
    called = site_callees g (members s e)

    pub own_sites : callees s e ≡ map (callee_in groups) called
    own_sites = pick (nat_eq e (root s)) (ne_eqb e (root s) (omega arith))
      where
        pick : (b : Bool) → b ≡ false → cond b (firsts 0 s.groups) (s.sites e) ≡ s.sites e
        pick true is = cc
        pick false is = refl

    site_there : (site : ℕ) → site < length (callees s e) → site < length called
    site_there site lt = let many = ap length own_sites ∙ length-map called (callee_in groups) in omega arith

    pub called_is : (site : ℕ) → site < length (callees s e) → callee s e site ≡ callee_in groups (slice_index called site)
    called_is site lt = ap (λ (cs : List Callee). get_or cs site nobody) own_sites ∙ get_or-map (callee_in groups) called site 0 nobody (site_there site lt)

    parts_until : (n : ℕ) → sum_by (callee_parts s) (take n (callees s e)) ≡ sum_by (part_count g) (take n called)
    parts_until n = ap (λ (cs : List Callee). sum_by (callee_parts s) (take n cs)) own_sites ∙ ap (sum_by (callee_parts s)) (take-map (callee_in groups) n called) ∙ sum_by-mapped (callee_parts s) (callee_in groups) (take n called)

    pi_are : (k : ℕ) → Contains (members s e) k → map (number_of (unknowns g (members s e))) (interface g k) ≡ pi_numbers s e k
    pi_are k there =
        let at = placed s k (members s e) there in
        let first_one : 1 + field_count g + sum_by (part_count g) (take at.place (members s e)) ≡ suc (s.fields + parts_before s k (members s e)) = (let before = at.before in omega arith) in
        let own : map (number_of (unknowns g (members s e))) (interface g (slice_index (members s e) at.place)) ≡ range_with_len (1 + field_count g + sum_by (part_count g) (take at.place (members s e))) (part_count g (slice_index (members s e) at.place)) =
        follow.pi at.place at.within in
        subst (λ (j : ℕ). map (number_of (unknowns g (members s e))) (interface g j) ≡ range_with_len (suc (s.fields + parts_before s k (members s e))) (part_count g j)) at.is
        (own ∙ ap (λ n. range_with_len n (part_count g (slice_index (members s e) at.place))) first_one)

    sigma_are : (site : ℕ) → site < length (callees s e) → map (number_of (unknowns g (members s e))) (map (Sigma site) (parts_of (flow_of g (callee s e site).proc))) ≡ sigma_numbers s e site
    sigma_are site lt =
        let is = called_is site lt in
        let own : map (number_of (unknowns g (members s e))) (map (Sigma site) (parts_of (flow_of g (slice_index called site))))
        ≡ range_with_len (1 + field_count g + sum_by (part_count g) (members s e) + sum_by (part_count g) (take site called)) (part_count g (slice_index called site)) =
        follow.sigma site (site_there site lt) in
        let first_one : 1 + field_count g + sum_by (part_count g) (members s e) + sum_by (part_count g) (take site called) ≡ suc (s.fields + sum_by s.parts (members s e) + sum_by (callee_parts s) (take site (callees s e))) =
        (let before = parts_until site in omega arith) in
        subst (λ (c : Callee). map (number_of (unknowns g (members s e))) (map (Sigma site) (parts_of (flow_of g c.proc))) ≡ range_with_len (suc (s.fields + sum_by s.parts (members s e) + sum_by (callee_parts s) (take site (callees s e)))) (callee_parts s c)) (sym is)
        (own ∙ ap (λ n. range_with_len n (part_count g (slice_index called site))) first_one)

    pub numbers_agree : NumbersAgree g s e
    numbers_agree = record {
      phi = fields_are (number_of (unknowns g (members s e))) (field_count g) 1 (field_count g) follow.phi (omega arith) (omega arith);
      pi = pi_are;
      sigma = sigma_are;
      count =
          let sites : sum_by (callee_parts s) (callees s e) ≡ sum_by (part_count g) called = ap (sum_by (callee_parts s)) own_sites ∙ sum_by-mapped (callee_parts s) (callee_in groups) called in
          let total = follow.count in
          omega arith;
    }

  -- the root

  module _ (follow : RootNumbersFollow g (root_callees s)) where
    none : sum_by s.parts (members s (root s)) ≡ 0
    none = ap (sum_by s.parts) (get_or_past s.groups (length s.groups) [] (omega arith))

    no_places : sum_by (place_count s) (members s (root s)) ≡ 0
    no_places = ap (sum_by (place_count s)) (get_or_past s.groups (length s.groups) [] (omega arith))

    root_parts : (n : ℕ) → sum_by (part_count g) (take n (root_callees s)) ≡ sum_by (callee_parts s) (take n (callees s (root s)))
    root_parts n = ap (sum_by (part_count g)) (take-map (λ (c : Callee). c.proc) n (callees s (root s))) ∙ sum_by-mapped (part_count g) (λ (c : Callee). c.proc) (take n (callees s (root s)))

    root_called : (site : ℕ) → site < root s → slice_index (root_callees s) site ≡ first s site
    root_called site lt =
        get_or-map (λ (c : Callee). c.proc) (callees s (root s)) site nobody 0 (let many = root_many s in omega arith) ∙ ap (λ (c : Callee). c.proc) (root_callee s site lt)

    root_sigma : (site : ℕ) → site < root s → map (number_of (root_unknowns g (root_callees s))) (map (Sigma site) (parts_of (flow_of g (first s site)))) ≡ sigma_numbers s (root s) site
    root_sigma site lt =
        let own : map (number_of (root_unknowns g (root_callees s))) (map (Sigma site) (parts_of (flow_of g (slice_index (root_callees s) site))))
        ≡ range_with_len (1 + field_count g + sum_by (part_count g) (take site (root_callees s))) (part_count g (slice_index (root_callees s) site)) =
        follow.sigma site (let many = root_many s in let as_many = length-map (callees s (root s)) (λ (c : Callee). c.proc) in omega arith) in
        let first_one : 1 + field_count g + sum_by (part_count g) (take site (root_callees s)) ≡ suc (s.fields + sum_by s.parts (members s (root s)) + sum_by (callee_parts s) (take site (callees s (root s)))) =
        (let before = root_parts site in let zero_ = none in omega arith) in
        let called_proc : (callee s (root s) site).proc ≡ first s site = ap (λ (c : Callee). c.proc) (root_callee s site lt) in
        (subst (λ (k : ℕ). map (number_of (root_unknowns g (root_callees s))) (map (Sigma site) (parts_of (flow_of g k))) ≡ range_with_len (suc (s.fields + sum_by s.parts (members s (root s)) + sum_by (callee_parts s) (take site (callees s (root s))))) (part_count g k)) (root_called site lt)
        (own ∙ ap (λ n. range_with_len n (part_count g (slice_index (root_callees s) site))) first_one))
        ∙ ap (λ (k : ℕ). range_with_len (suc (s.fields + sum_by s.parts (members s (root s)) + sum_by (callee_parts s) (take site (callees s (root s))))) (part_count g k)) (sym called_proc)

    pub root_numbers_agree : RootNumbersAgree g s
    root_numbers_agree = record {
      phi = fields_are (number_of (root_unknowns g (root_callees s))) (field_count g) 1 (field_count g) follow.phi (omega arith) (omega arith);
      sigma = root_sigma;
      count =
          let sites : sum_by (part_count g) (root_callees s) ≡ sum_by (callee_parts s) (callees s (root s)) = sum_by-mapped (part_count g) (λ (c : Callee). c.proc) (callees s (root s)) in
          let zero_ = none in
          let zero_places = no_places in
          let total = follow.count in
          omega arith;
    }
