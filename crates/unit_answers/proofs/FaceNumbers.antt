-- The numbers of interfaces are those of the system.
use Rattle.std.proofs.Common.{◌≡◌, ℕ, zero, suc, ◌+◌, ◌<◌, ◌≤◌, Bool, true, false, cond, List, [], ◌∷◌, length, map, take, get_or, refl, sym, ap, ◌∙◌, arith}
use Rattle.std.specs.Prelude.{nat_eq, sum_by, slice_index}
use Rattle.std.specs.List.{Contains, filter, count_by, position_or_len}
use Rattle.std.specs.List.Sorted.{IsStrictlyIncreasing}
use Rattle.std.proofs.lemmas.Bool.{eq-eqb}
use Rattle.std.proofs.lemmas.List.{length-map, get_or-map}
use Rattle.std.proofs.lemmas.List.Sums.{sum_by_more_le}
use Rattle.zo_core.specs.declared.number_range.NumberRange.{NumberRange}
use Rattle.flow_graph.specs.FlowGraph.{FlowGraph, flow_of}
use Rattle.path_facts.specs.Tables.{FactTables}
use Rattle.recursion_groups.specs.Grouping.{IsGrouping}
use Rattle.recursion_groups.proofs.Each.{group_at}
use Rattle.owner_vars.specs.Unknowns.{Unknown, Sigma, unknowns, root_unknowns, number_of, interface, parts_of, site_callees}
use Rattle.owner_vars.specs.Rows.{is_pi_of, is_sigma_of, range_where}
use Rattle.owner_vars.specs.Laws.{RowsAreTogether, RootNumbersFollow}
use Rattle.transfer_rules.specs.Programs.{firsts}
use Rattle.verdict_meaning.specs.declared.callee.Callee.{Callee}
use Rattle.verdict_meaning.specs.Systems.{System, firsts as first_callees, root, members, callee, callees, callee_parts, nobody, parts_before, pi_numbers, sigma_numbers, count}
use Rattle.verdict_meaning.specs.Programs.{system_of, IsSystemOf, root_callees}
use Rattle.unit_answers.specs.Layouts.{outer_count, IsPart, IsFace, IsSiteFace}
use Rattle.unit_answers.proofs.NumberLemmas.{counted, part_numbers, parts_within}

-- a range of so many from a first one, by other words for both
part_is : (none first count a n : ℕ) (r : NumberRange) → count ≡ n → (0 < n → first ≡ a) → IsPart none first count r → IsPart none a n r
part_is none first count a n r c f h = record {
  count_is = h.count_is ∙ c;
  first_is = λ lt. h.first_is (omega (arith, c)) ∙ f lt;
  none_is = λ e. h.none_is (c ∙ e);
}

-- where a range ends that has numbers, or none
part_ends : (none first count most : ℕ) (r : NumberRange) → IsPart none first count r → none ≤ most → first + count ≤ most → r.first + r.count ≤ most
part_ends none first zero most r h low high = let c = h.count_is in let f = h.none_is refl in omega arith
part_ends none first (suc n) most r h low high = let c = h.count_is in let f = h.first_is (omega arith) in omega arith

part_begins : (none first count least : ℕ) (r : NumberRange) → IsPart none first count r → least ≤ none → least ≤ first → least ≤ r.first
part_begins none first zero least r h low high = let f = h.none_is refl in omega arith
part_begins none first (suc n) least r h low high = let f = h.first_is (omega arith) in omega arith

-- the site's numbers are within those of the group
sites_within : (s : System) (e site : ℕ) → site < length (callees s e)
    → s.fields + sum_by s.parts (members s e) + sum_by (callee_parts s) (take site (callees s e)) + s.parts (callee s e site).proc ≤ count s e
sites_within s e site lt = let some = sum_by_more_le (callee_parts s) (callees s e) site nobody lt in omega arith

module _ (g : FlowGraph) (facts : FactTables) (groups : List (List ℕ)) (grouping : IsGrouping g groups) (of : IsSystemOf g facts (system_of g facts groups)) where
  abbrev s : System
  s = system_of g facts groups

  pub ascends : (e : ℕ) → e < length groups → IsStrictlyIncreasing (members s e)
  ascends e lt = (group_at g [] groups e grouping lt).ascend

  pub face_is : (e k : ℕ) → e < length groups → Contains (members s e) k → RowsAreTogether g (members s e) → (us : List Unknown) → us ≡ unknowns g (members s e)
      → (r : NumberRange) → IsPart (s.fields + 1) (range_where (is_pi_of k) us).first (range_where (is_pi_of k) us).count r → IsFace s e k r
  face_is e k lt member together us is r h =
      let test = is_pi_of k in
      let filtered : filter test us ≡ interface g k = ap (filter test) is ∙ together.pi k member in
      let numbers : map (number_of us) (interface g k) ≡ pi_numbers s e k = ap (λ (vs : List Unknown). map (number_of vs) (interface g k)) is ∙ (of.numbers e lt).pi k member in
      let all = counted test us (interface g k) (suc (s.fields + parts_before s k (members s e))) (s.parts k) filtered numbers in
      let part = part_is (s.fields + 1) (1 + position_or_len test us) (count_by test us) (suc (s.fields + parts_before s k (members s e))) (s.parts k) r all.0 all.1 h in
      let inside = parts_within s k (members s e) member in
      record {
        numbers = part_numbers (s.fields + 1) (suc (s.fields + parts_before s k (members s e))) (s.parts k) r part;
        size = part.count_is;
        first = part_begins (s.fields + 1) (suc (s.fields + parts_before s k (members s e))) (s.parts k) (suc s.fields) r part (omega arith) (omega arith);
        last = part_ends (s.fields + 1) (suc (s.fields + parts_before s k (members s e))) (s.parts k) (outer_count s e + 1) r part (omega arith) (omega arith);
      }

  abbrev site_first : ℕ → ℕ → ℕ
  site_first e site = suc (s.fields + sum_by s.parts (members s e) + sum_by (callee_parts s) (take site (callees s e)))

  site_with : (e site : ℕ) → site < length (callees s e) → (us xs : List Unknown) → filter (is_sigma_of site) us ≡ xs → map (number_of us) xs ≡ sigma_numbers s e site
      → (r : NumberRange) → IsPart (s.fields + 1) (range_where (is_sigma_of site) us).first (range_where (is_sigma_of site) us).count r → IsSiteFace s e site r
  site_with e site there us xs filtered numbers r h =
      let test = is_sigma_of site in
      let n = s.parts (callee s e site).proc in
      let all = counted test us xs (site_first e site) n filtered numbers in
      let part = part_is (s.fields + 1) (1 + position_or_len test us) (count_by test us) (site_first e site) n r all.0 all.1 h in
      let inside = sites_within s e site there in
      record {
        numbers = part_numbers (s.fields + 1) (site_first e site) n r part;
        size = part.count_is;
        first = part_begins (s.fields + 1) (site_first e site) n 1 r part (omega arith) (omega arith);
        last = part_ends (s.fields + 1) (site_first e site) n (count s e + 1) r part (omega arith) (omega arith);
      }

  pub site_face_is : (e site : ℕ) → e < length groups → site < length (callees s e) → RowsAreTogether g (members s e) → (us : List Unknown) → us ≡ unknowns g (members s e)
      → (r : NumberRange) → IsPart (s.fields + 1) (range_where (is_sigma_of site) us).first (range_where (is_sigma_of site) us).count r → IsSiteFace s e site r
  site_face_is e site lt there together us is r h =
      let called = of.called e site lt there in
      let within : site < length (site_callees g (members s e)) = (let many = of.count e lt in omega arith) in
      let xs = map (Sigma site) (parts_of (flow_of g (callee s e site).proc)) in
      let filtered : filter (is_sigma_of site) us ≡ xs =
      ap (filter (is_sigma_of site)) is ∙ together.sigma site within ∙ ap (λ (k : ℕ). map (Sigma site) (parts_of (flow_of g k))) (sym called) in
      let numbers : map (number_of us) xs ≡ sigma_numbers s e site = ap (λ (vs : List Unknown). map (number_of vs) xs) is ∙ (of.numbers e lt).sigma site there in
      site_with e site there us xs filtered numbers r h

  -- the root's sites

  at_root : callees s (root s) ≡ first_callees 0 groups
  at_root = pick (nat_eq (root s) (root s)) (eq-eqb (root s) (root s) refl)
    where
      pick : (b : Bool) → b ≡ true → cond b (first_callees 0 groups) (s.sites (root s)) ≡ first_callees 0 groups
      pick true e = refl
      pick false e = cc

  first_procs : (n : ℕ) (gs : List (List ℕ)) → map (λ (c : Callee). c.proc) (first_callees n gs) ≡ firsts gs
  first_procs n [] = refl
  first_procs n (ms ∷ gs) = ap (λ (ks : List ℕ). slice_index ms 0 ∷ ks) (first_procs (suc n) gs)

  pub root_procs : root_callees s ≡ firsts groups
  root_procs = ap (map (λ (c : Callee). c.proc)) at_root ∙ first_procs 0 groups

  pub root_many : length (callees s (root s)) ≡ length groups
  root_many = ap length at_root ∙ many 0 groups
    where
      many : (n : ℕ) (gs : List (List ℕ)) → length (first_callees n gs) ≡ length gs
      many n [] = refl
      many n (ms ∷ gs) = let rest = many (suc n) gs in omega arith

  nth_first : (n k : ℕ) (gs : List (List ℕ)) → k < length gs → get_or (first_callees n gs) k nobody ≡ record { proc = slice_index (get_or gs k []) 0; group = n + k }
  nth_first n k [] lt = absurd (omega arith)
  nth_first n zero (ms ∷ gs) lt = let same : n ≡ n + 0 = omega arith in ap (λ m. (let c : Callee = record { proc = slice_index ms 0; group = m } in c)) same
  nth_first n (suc k) (ms ∷ gs) lt =
      let same : suc n + k ≡ n + suc k = omega arith in
      nth_first (suc n) k gs (omega arith) ∙ ap (λ m. (let c : Callee = record { proc = slice_index (get_or gs k []) 0; group = m } in c)) same

  pub root_callee : (k : ℕ) → k < length groups → callee s (root s) k ≡ record { proc = slice_index (members s k) 0; group = k }
  root_callee k lt =
      let same : 0 + k ≡ k = omega arith in
      ap (λ (cs : List Callee). get_or cs k nobody) at_root ∙ nth_first 0 k groups lt
      ∙ ap (λ m. (let c : Callee = record { proc = slice_index (get_or groups k []) 0; group = m } in c)) same

  pub root_face_is : (site : ℕ) → site < length groups → RootNumbersFollow g (firsts groups) → (us : List Unknown) → us ≡ root_unknowns g (firsts groups)
      → (r : NumberRange) → IsPart (s.fields + 1) (range_where (is_sigma_of site) us).first (range_where (is_sigma_of site) us).count r → IsSiteFace s (root s) site r
  root_face_is site lt follow us is r h =
      let there : site < length (callees s (root s)) = omega (arith, root_many) in
      let size : length (firsts groups) ≡ length groups = length-map groups (λ (ms : List ℕ). slice_index ms 0) in
      let own : slice_index (firsts groups) site ≡ slice_index (members s site) 0 = get_or-map (λ (ms : List ℕ). slice_index ms 0) groups site [] 0 lt in
      let called : slice_index (firsts groups) site ≡ (callee s (root s) site).proc = own ∙ sym (ap (λ (c : Callee). c.proc) (root_callee site lt)) in
      let xs = map (Sigma site) (parts_of (flow_of g (callee s (root s) site).proc)) in
      let filtered : filter (is_sigma_of site) us ≡ xs =
      ap (filter (is_sigma_of site)) is ∙ follow.together site (omega arith) ∙ ap (λ (k : ℕ). map (Sigma site) (parts_of (flow_of g k))) called in
      let first_is : (callee s (root s) site).proc ≡ slice_index (members s site) 0 = ap (λ (c : Callee). c.proc) (root_callee site lt) in
      let numbers : map (number_of us) xs ≡ sigma_numbers s (root s) site =
      ap (λ (vs : List Unknown). map (number_of vs) xs) (is ∙ ap (root_unknowns g) (sym root_procs))
      ∙ ap (λ (k : ℕ). map (number_of (root_unknowns g (root_callees s))) (map (Sigma site) (parts_of (flow_of g k)))) first_is
      ∙ of.root_numbers.sigma site lt in
      site_with (root s) site there us xs filtered numbers r h
