-- The temporaries of a body exist, and are no more than its nodes.
use Rattle.std.proofs.Common.{◌≡◌, ℕ, ◌+◌, ◌≤◌, Bool, true, false, ◌||◌, zero, suc, List, [], ◌∷◌, ◌++◌, length, refl, arith, nat_eq}
use Rattle.std.specs.List.{All}
use Rattle.std.proofs.lemmas.List.Elements.{All-append, All-cons, All-head, All-tail, All-nil, All-weaker}
use Rattle.c_tree.specs.Plain.{Stmt, block, local, local_as, assign, do_call, free, when, when_else, while, for, break, continue, return, return_of, nothing, Stmts, no_stmts, stmt}
use Rattle.c_tree.specs.Nodes.{node_count, node_count_of, stmt_count, stmts_count}
use Rattle.c_types.specs.declared.infos.NodeInfo.{NodeInfo}
use Rattle.flow_graph.specs.declared.raw.Slot.{Slot}
use Rattle.flow_graph.specs.declared.raw.Slot.TheVariants as slot
use Rattle.flow_graph.specs.declared.raw.RawEdge.{RawEdge}
use Rattle.flow_graph.specs.Parts.{temp, type_at}
use Rattle.flow_graph.specs.FlowGraph.{FlowGraph}
use Rattle.flow_graph.specs.Fits.{TypeExists, is_in}
use Rattle.flow_graph.specs.Numbers.{keys_of_slot, slots_in, named_slots, slot_keys, temp_keys}
use Rattle.flow_graph.specs.Edges.{body_edges}
use Rattle.flow_graph.proofs.RawFits.{TempExists, TempsExist}
use Rattle.flow_graph.proofs.Temps.{Names}
use Rattle.flow_graph.proofs.TempsStmts.{temps_from, expr_temps, stmt_temps, stmts_temps, names_body}

-- what every temporary meets, those of a body do
module _ (P : Slot → Type 0) (is : List NodeInfo) (each : (base n : ℕ) → P (temp is base n)) where
  all_from : (base n c : ℕ) → All P (temps_from is base n c)
  all_from base n zero = All-nil P
  all_from base n (suc c) = All-cons P (temp is base n) (temps_from is base (n + 1) c) (each base n) (all_from base (n + 1) c)

  mutual
    pub all_stmt : (n : ℕ) (s : Stmt) → All P (stmt_temps is n s)
    all_stmt n (block at ss) = all_stmts (n + 1) ss
    all_stmt n (local at x t) = All-nil P
    all_stmt n (local_as at x t e) = all_from (n + 1) (n + 1) (node_count e)
    all_stmt n (assign at a e) = all_from (n + 1) (n + 1) (node_count a + node_count e)
    all_stmt n (do_call at e) = all_from (n + 1) (n + 1) (node_count e)
    all_stmt n (free at e) = all_from (n + 1) (n + 1) (node_count e)
    all_stmt n (when at c s) =
        All-append P (expr_temps is (n + 1) (node_count c)) (stmt_temps is (n + 1 + node_count c) s) (all_from (n + 1) (n + 1) (node_count c)) (all_stmt (n + 1 + node_count c) s)
    all_stmt n (when_else at c s t) =
        let k : ℕ = n + 1 + node_count c in
        All-append P (expr_temps is (n + 1) (node_count c) ++ stmt_temps is k s) (stmt_temps is (k + stmt_count s) t)
        (All-append P (expr_temps is (n + 1) (node_count c)) (stmt_temps is k s) (all_from (n + 1) (n + 1) (node_count c)) (all_stmt k s)) (all_stmt (k + stmt_count s) t)
    all_stmt n (while at c s) =
        All-append P (expr_temps is (n + 1) (node_count c)) (stmt_temps is (n + 1 + node_count c) s) (all_from (n + 1) (n + 1) (node_count c)) (all_stmt (n + 1 + node_count c) s)
    all_stmt n (for at init c step s) =
        let m : ℕ = n + 1 + stmts_count init in
        let k : ℕ = m + node_count_of c in
        let l : ℕ = k + stmts_count step in
        let ab = stmts_temps is (n + 1) init ++ expr_temps is m (node_count_of c) in
        All-append P (ab ++ stmts_temps is k step) (stmt_temps is l s)
        (All-append P ab (stmts_temps is k step)
        (All-append P (stmts_temps is (n + 1) init) (expr_temps is m (node_count_of c)) (all_stmts (n + 1) init) (all_from m m (node_count_of c))) (all_stmts k step))
        (all_stmt l s)
    all_stmt n (break at) = All-nil P
    all_stmt n (continue at) = All-nil P
    all_stmt n (return at) = All-nil P
    all_stmt n (return_of at e) = all_from (n + 1) (n + 1) (node_count e)
    all_stmt n (nothing at) = All-nil P

    pub all_stmts : (n : ℕ) (ss : Stmts) → All P (stmts_temps is n ss)
    all_stmts n no_stmts = All-nil P
    all_stmts n (stmt s ss) = All-append P (stmt_temps is n s) (stmts_temps is (n + stmt_count s) ss) (all_stmt n s) (all_stmts (n + stmt_count s) ss)

pub temps_exist : (g : FlowGraph) (main : Bool) (is : List NodeInfo) (s : Stmt) → ((n : ℕ) → TypeExists g (type_at is n)) → All (TempsExist g) (body_edges main is s)
temps_exist g main is s h = names_body (TempExists g) (λ y. tt) tt is main s (all_stmt (TempExists g) is (λ base n. h n) 0 s)

-- Keys

or_more : (h u v w : Bool) → u ≡ (v || w) → (h || u) ≡ ((h || v) || w)
or_more true u v w e = refl
or_more false u v w e = e

in_append : (a b : List ℕ) (k : ℕ) → is_in (a ++ b) k ≡ (is_in a k || is_in b k)
in_append [] b k = refl
in_append (x ∷ a) b k = or_more (nat_eq k x) (is_in (a ++ b) k) (is_in a k) (is_in b k) (in_append a b k)

-- the keys of a slot are among these
abbrev IsKeyed : ℕ → List ℕ → Slot → Type 0
IsKeyed types ks x = (k : ℕ) → is_in (keys_of_slot types x) k ≡ true → is_in ks k ≡ true

or_cases : (a b c : Bool) → (a ≡ true → c ≡ true) → (b ≡ true → c ≡ true) → (a || b) ≡ true → c ≡ true
or_cases true b c p q h = p refl
or_cases false b c p q h = q h

all_keyed : (types : ℕ) (ks : List ℕ) (xs : List Slot) → All (IsKeyed types ks) xs → (k : ℕ) → is_in (slot_keys types xs) k ≡ true → is_in ks k ≡ true
all_keyed types ks [] h k e = absurd (cc)
all_keyed types ks (x ∷ xs) h k e =
    or_cases (is_in (keys_of_slot types x) k) (is_in (slot_keys types xs) k) (is_in ks k) (All-head (IsKeyed types ks) x xs h k)
    (all_keyed types ks xs (All-tail (IsKeyed types ks) x xs h) k) (rw in_append at e)

or_right : (a b : Bool) → b ≡ true → (a || b) ≡ true
or_right true b h = refl
or_right false b h = h

or_left : (a b : Bool) → a ≡ true → (a || b) ≡ true
or_left true b h = refl
or_left false b h = absurd (cc)

own_keyed : (types : ℕ) (xs : List Slot) → All (IsKeyed types (slot_keys types xs)) xs
own_keyed types [] = All-nil (IsKeyed types [])
own_keyed types (x ∷ xs) =
    All-cons (IsKeyed types (slot_keys types (x ∷ xs))) x xs
    (λ k e. rw (in_append (keys_of_slot types x) (slot_keys types xs) k) (or_left (is_in (keys_of_slot types x) k) (is_in (slot_keys types xs) k) e))
    (All-weaker (IsKeyed types (slot_keys types xs)) (IsKeyed types (slot_keys types (x ∷ xs)))
    (λ y h k e. rw (in_append (keys_of_slot types x) (slot_keys types xs) k) (or_right (is_in (keys_of_slot types x) k) (is_in (slot_keys types xs) k) (h k e))) xs (own_keyed types xs))

all_named : (P : Slot → Type 0) (es : List RawEdge) → All (Names P) es → All P (named_slots es)
all_named P [] h = All-nil P
all_named P (e ∷ es) h = All-append P (slots_in e.action) (named_slots es) (All-head (Names P) e es h) (all_named P es (All-tail (Names P) e es h))

-- the keys that edges of a body name are those of its nodes
pub keys_of_nodes : (types : ℕ) (main : Bool) (is : List NodeInfo) (s : Stmt) (k : ℕ) → is_in (temp_keys types (body_edges main is s)) k ≡ true
    → is_in (slot_keys types (stmt_temps is 0 s)) k ≡ true
keys_of_nodes types main is s =
    let P = IsKeyed types (slot_keys types (stmt_temps is 0 s)) in
    all_keyed types (slot_keys types (stmt_temps is 0 s)) (named_slots (body_edges main is s))
    (all_named P (body_edges main is s) (names_body P (λ y k e. absurd (cc)) (λ k e. absurd (cc)) is main s (own_keyed types (stmt_temps is 0 s))))

pub slot_keys_few : (types : ℕ) (xs : List Slot) → length (slot_keys types xs) ≤ length xs
slot_keys_few types [] = omega arith
slot_keys_few types (slot.Temp k t ∷ xs) = omega (arith, slot_keys_few types xs)
slot_keys_few types (slot.Var y ∷ xs) = omega (arith, slot_keys_few types xs)
slot_keys_few types (slot.Ret ∷ xs) = omega (arith, slot_keys_few types xs)
