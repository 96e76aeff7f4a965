-- Whom the sites of a group and of the root call.
use Rattle.std.proofs.Common.{◌≡◌, ℕ, zero, suc, ◌+◌, ◌<◌, ◌≤◌, ◌⊎◌, inl, inr, Bool, true, false, cond, List, [], ◌∷◌, ◌++◌, Some, refl, sym, ap, ◌∙◌, subst, arith, length, get_or, map, take}
use Rattle.std.specs.Prelude.{nat_eq}
use Rattle.std.specs.List.{All, Contains}
use Rattle.std.proofs.lemmas.Bool.{eq-eqb, ne_eqb, cases_eq}
use Rattle.std.proofs.lemmas.List.{get_or_default, get_or-map, length-map, take_more, take_all, get_or_append_left}
use Rattle.std.proofs.lemmas.List.Elements.{Contains-get_or}
use Rattle.std.proofs.lemmas.Option.{slice_get-get_or}
use Rattle.flow_graph.specs.FlowGraph.{FlowGraph}
use Rattle.owner_vars.specs.declared.site.Site.{Site}
use Rattle.owner_vars.specs.Unknowns.{sites, site_callees}
use Rattle.owner_vars.specs.Laws.{SitesAreNumbered}
use Rattle.transfer_rules.specs.Programs.{Parts, IsProgram}
use Rattle.verdict_meaning.specs.declared.callee.Callee.{Callee}
use Rattle.verdict_meaning.specs.Systems.{System, root, members, first, firsts, callee, callees, nobody}
use Rattle.verdict_meaning.specs.Programs.{callee_in, IsSystemOf, system_in}
use Rattle.proof_checker.specs.Sites.{called_at}
use Rattle.proof_checker.specs.Programs.{AreGroupNumbers, calls_out, all_calls}
use Rattle.proof_checker.proofs.GroupLemmas.{group_is, IsInGroup, in_its_group}

-- Lists that are made one by one

map_append : {X Y : Type 0} (f : X → Y) (xs ys : List X) → map f (xs ++ ys) ≡ map f xs ++ map f ys
map_append f [] ys = refl
map_append f (x ∷ xs) ys = ap (λ zs. f x ∷ zs) (map_append f xs ys)

pub mapped_next : {X Y : Type 0} (f : X → Y) (xs : List X) (i : ℕ) (d : X) → i < length xs → map f (take i xs) ++ f (get_or xs i d) ∷ [] ≡ map f (take (i + 1) xs)
mapped_next f xs i d lt = sym (map_append f (take i xs) (get_or xs i d ∷ [])) ∙ ap (map f) (sym (take_more xs i d lt))

pub mapped_all : {X Y : Type 0} (f : X → Y) (xs : List X) (i : ℕ) → length xs ≤ i → map f (take i xs) ≡ map f xs
mapped_all f xs i le = ap (map f) (take_all i xs le)

pub firsts_next : (a n : ℕ) (gs : List (List ℕ)) (i : ℕ) → i < length gs → n ≡ a + i → firsts a (take i gs) ++ record { proc = get_or (get_or gs i []) 0 0; group = n } ∷ [] ≡ firsts a (take (suc i) gs)
firsts_next a n [] i lt e = absurd (omega arith)
firsts_next a n (ms ∷ gs) zero lt e = let same : n ≡ a = omega arith in ap (λ m. let c : Callee = record { proc = get_or ms 0 0; group = m } in let cs : List Callee = c ∷ [] in cs) same
firsts_next a n (ms ∷ gs) (suc i) lt e = ap (λ (cs : List Callee). record { proc = get_or ms 0 0; group = a } ∷ cs) (firsts_next (suc a) n gs i (omega arith) (omega arith))

-- the same callees by the numbers of groups
mapped_same : {X Y : Type 0} (f h : X → Y) (xs : List X) → ((x : X) → Contains xs x → f x ≡ h x) → map f xs ≡ map h xs
mapped_same f h [] each = refl
mapped_same f h (x ∷ xs) each =
    ap (λ y. y ∷ map f xs) (each x (0, omega arith, refl)) ∙ ap (λ ys. h x ∷ ys) (mapped_same f h xs (λ y there. each y (suc there.0, (let lt = there.1 in omega arith), there.2)))

map_map : {X Y Z : Type 0} (f : Y → Z) (h : X → Y) (xs : List X) → map f (map h xs) ≡ map (λ x. f (h x)) xs
map_map f h [] = refl
map_map f h (x ∷ xs) = ap (λ zs. f (h x) ∷ zs) (map_map f h xs)

-- each site calls a procedure with a body
pub calls_body : (g : FlowGraph) (ms : List ℕ) → SitesAreNumbered g ms → (s : Site) → Contains (sites g ms) s → s.callee < g.bodies
calls_body g ms law s there = (law.calls there.0 s (slice_get-get_or (sites g ms) there.0 s there.1 ∙ ap Some there.2)).body

pub all_bodies : (g : FlowGraph) (ms : List ℕ) (n : ℕ) → SitesAreNumbered g ms → n ≡ g.bodies → All (λ (s : Site). s.callee < n) (sites g ms)
all_bodies g ms n law e k d lt =
    let small = calls_body g ms law (get_or (sites g ms) k d) (k, lt, get_or_same (sites g ms) k d lt) in omega arith
  where
    get_or_same : (ss : List Site) (k : ℕ) (d : Site) → k < length ss → get_or ss k (get_or ss k d) ≡ get_or ss k d
    get_or_same [] k d lt = absurd (omega arith)
    get_or_same (s ∷ ss) zero d lt = refl
    get_or_same (s ∷ ss) (suc k) d lt = get_or_same ss k d (omega arith)

pub calls_are : (g : FlowGraph) (gs : List (List ℕ)) (numbers ms : List ℕ) → AreGroupNumbers g gs numbers → SitesAreNumbered g ms → map (called_at numbers) (sites g ms) ≡ calls_out g gs ms
calls_are g gs numbers ms are law =
    mapped_same (called_at numbers) (λ (s : Site). callee_in gs s.callee) (sites g ms)
    (λ s there. ap (λ n. let c : Callee = record { proc = s.callee; group = n } in c) (are.each s.callee (calls_body g ms law s there)))
    ∙ sym (map_map (callee_in gs) (λ (s : Site). s.callee) (sites g ms))

-- The table of all

end_at : {X : Type 0} (xs : List X) (x d : X) (n : ℕ) → n ≡ length xs → get_or (xs ++ x ∷ []) n d ≡ x
end_at [] x d zero e = refl
end_at [] x d (suc n) e = absurd (omega arith)
end_at (y ∷ xs) x d zero e = absurd (omega arith)
end_at (y ∷ xs) x d (suc n) e = end_at xs x d n (omega arith)

pub own_callees : (p : Parts) (e : ℕ) → e < root (system_in p) → callees (system_in p) e ≡ calls_out p.graph p.groups (members (system_in p) e)
own_callees p e lt = pick (nat_eq e (root (system_in p))) (ne_eqb e (root (system_in p)) (omega arith))
  where
    pick : (b : Bool) → b ≡ false → cond b (firsts 0 p.groups) (calls_out p.graph p.groups (members (system_in p) e)) ≡ calls_out p.graph p.groups (members (system_in p) e)
    pick true is = cc
    pick false is = refl

pub root_callees_are : (p : Parts) → callees (system_in p) (root (system_in p)) ≡ firsts 0 p.groups
root_callees_are p = pick (nat_eq (root (system_in p)) (root (system_in p))) (eq-eqb (root (system_in p)) (root (system_in p)) refl)
  where
    pick : (b : Bool) → b ≡ true → cond b (firsts 0 p.groups) ((system_in p).sites (root (system_in p))) ≡ firsts 0 p.groups
    pick true is = refl
    pick false is = cc

pub calls_at : (p : Parts) (e : ℕ) → e ≤ root (system_in p) → get_or (all_calls p.graph p.groups) e [] ≡ callees (system_in p) e
calls_at p e le = by_case (cases_eq e (length p.groups))
  where
    by_case : (e ≡ length p.groups) ⊎ (e ≡ length p.groups → ⊥) → get_or (all_calls p.graph p.groups) e [] ≡ callees (system_in p) e
    by_case (inl same) =
        end_at (map (calls_out p.graph p.groups) p.groups) (firsts 0 p.groups) [] e (same ∙ sym (length-map p.groups (calls_out p.graph p.groups)))
        ∙ sym (root_callees_are p) ∙ ap (callees (system_in p)) (sym same)
    by_case (inr ne) =
        let lt : e < length p.groups = omega arith in
        get_or_append_left (map (calls_out p.graph p.groups) p.groups) (firsts 0 p.groups ∷ []) [] e (let many = length-map p.groups (calls_out p.graph p.groups) in omega arith)
        ∙ get_or-map (calls_out p.graph p.groups) p.groups e [] [] lt
        ∙ sym (own_callees p e lt)

pub calls_count : (p : Parts) → length (all_calls p.graph p.groups) ≡ length p.groups + 1
calls_count p = longer (map (calls_out p.graph p.groups) p.groups) (firsts 0 p.groups) ∙ ap (λ n. n + 1) (length-map p.groups (calls_out p.graph p.groups))
  where
    longer : (xs : List (List Callee)) (x : List Callee) → length (xs ++ x ∷ []) ≡ length xs + 1
    longer [] x = omega arith
    longer (y ∷ xs) x = let e = longer xs x in omega arith

-- What is called

get-firsts : (a : ℕ) (gs : List (List ℕ)) (k n : ℕ) → k < length gs → n ≡ a + k → get_or (firsts a gs) k nobody ≡ record { proc = get_or (get_or gs k []) 0 0; group = n }
get-firsts a [] k n lt e = absurd (omega arith)
get-firsts a (ms ∷ gs) zero n lt e = let same : a ≡ n = omega arith in ap (λ m. let c : Callee = record { proc = get_or ms 0 0; group = m } in c) same
get-firsts a (ms ∷ gs) (suc k) n lt e = get-firsts (suc a) gs k n (omega arith) (omega arith)

length-firsts : (a : ℕ) (gs : List (List ℕ)) → length (firsts a gs) ≡ length gs
length-firsts a [] = refl
length-firsts a (ms ∷ gs) = ap suc (length-firsts (suc a) gs)

-- a callee is a member of its group
abbrev pub IsMember : Parts → Callee → Type 0
IsMember p c = IsInGroup p.groups c.group c.proc

pub called_member : (p : Parts) → IsProgram p → IsSystemOf p.graph p.facts (system_in p) → (e site : ℕ) → e ≤ root (system_in p) → site < length (callees (system_in p) e) → IsMember p (callee (system_in p) e site)
called_member p program system e site le there = by_case (cases_eq e (root s))
  where
    s : System
    s = system_in p

    by_root : (n : ℕ) → n ≡ root s → site < length (callees s n) → IsMember p (callee s n site)
    by_root n same lt =
        let is : callees s n ≡ firsts 0 p.groups = ap (callees s) same ∙ root_callees_are p in
        let small : site < length p.groups = (let many = ap length is ∙ length-firsts 0 p.groups in omega arith) in
        let at : callee s n site ≡ record { proc = first s site; group = site } = ap (λ (cs : List Callee). get_or cs site nobody) is ∙ get-firsts 0 p.groups site site small (omega arith) in
        subst (IsMember p) (sym at) (record { there = small; member = Contains-get_or (get_or p.groups site []) 0 0 (group_is p.graph p.groups program.groups site small).some })

    by_case : (e ≡ root s) ⊎ (e ≡ root s → ⊥) → IsMember p (callee s e site)
    by_case (inl same) = by_root e same there
    by_case (inr ne) =
        let lt : e < root s = omega arith in
        let called : List ℕ = site_callees p.graph (members s e) in
        let is : callees s e ≡ map (callee_in p.groups) called = own_callees p e lt in
        let many : length (callees s e) ≡ length called = ap length is ∙ length-map called (callee_in p.groups) in
        let below : site < length called = omega arith in
        let at : callee s e site ≡ callee_in p.groups (get_or called site 0) = ap (λ (cs : List Callee). get_or cs site nobody) is ∙ get_or-map (callee_in p.groups) called site 0 nobody below in
        let ss : List Site = sites p.graph (members s e) in
        let as_many : length called ≡ length ss = length-map ss (λ (x : Site). x.callee) in
        subst (IsMember p) (sym at) (in_its_group p.graph p.groups program.groups (get_or called site 0) (small ss (λ x here. calls_body p.graph (members s e) (system.sites e lt) x here) site (omega arith)))
      where
        small : (ss : List Site) → ((x : Site) → Contains ss x → x.callee < p.graph.bodies) → (k : ℕ) → k < length ss → get_or (map (λ (x : Site). x.callee) ss) k 0 < p.graph.bodies
        small [] each k lt = absurd (omega arith)
        small (x ∷ ss) each zero lt = each x (0, omega arith, refl)
        small (x ∷ ss) each (suc k) lt = small ss (λ y here. each y (suc here.0, (let below = here.1 in omega arith), here.2)) k (omega arith)

-- a callee that is read in the table
pub called_is : (p : Parts) (calls : List (List Callee)) (e site : ℕ) (row : List Callee) (c : Callee) → calls ≡ all_calls p.graph p.groups → e ≤ root (system_in p) → site < length (callees (system_in p) e)
    → row ≡ get_or calls e row → c ≡ get_or row site c → c ≡ callee (system_in p) e site
called_is p calls e site row c is le there row_is c_is =
    let within : e < length (all_calls p.graph p.groups) = (let n = calls_count p in omega arith) in
    let row_there : row ≡ callees (system_in p) e =
    row_is ∙ ap (λ (cs : List (List Callee)). get_or cs e row) is ∙ get_or_default (all_calls p.graph p.groups) e row [] within ∙ calls_at p e le in
    c_is ∙ ap (λ (cs : List Callee). get_or cs site c) row_there ∙ get_or_default (callees (system_in p) e) site c nobody there
