-- A statement is run by steps that begin at its own nodes, and goes on, breaks or continues where it is told to.
use Rattle.std.proofs.Common.{◌≡◌, ℕ, ◌+◌, ◌*◌, ◌≤◌, inl, inr, false, List, [], refl, arith}
use Rattle.c_tree.specs.declared.position.Place.{Place}
use Rattle.c_tree.specs.declared.position.Place.TheVariants as place
use Rattle.c_tree.specs.Plain.{Expr, name, arrow, index, Exprs, no_exprs, expr, Stmt, block, local, local_as, assign, do_call, free, when, when_else, while, for, break, continue, return, return_of, nothing, Stmts, no_stmts, stmt}
use Rattle.c_tree.specs.Nodes.{node_count, node_count_of, stmt_count, stmts_count}
use Rattle.c_types.specs.declared.infos.NodeInfo.{NodeInfo}
use Rattle.flow_graph.specs.declared.raw.Slot.{Slot}
use Rattle.flow_graph.specs.declared.raw.Slot.TheVariants as slot
use Rattle.flow_graph.specs.declared.raw.RawAction.{RawAction}
use Rattle.flow_graph.specs.declared.raw.RawAction.TheVariants as act
use Rattle.flow_graph.specs.Parts.{Part, ending, one, before, in_turn, refers_at, is_pointer_at, var_at, temp}
use Rattle.flow_graph.specs.Edges.{slot_of, operand, stepped, ways, valued, decided, stored, assigned, turns, turned, looped, flow, flow_all}
use Rattle.flow_graph.proofs.RawWays.{raw_is_test}
use Rattle.flow_graph.proofs.ControlParts.{Goes, IsPart, before_up, before_down, part_wider, ending_part, one_ways, With, round_part, later_ways}
use Rattle.flow_graph.proofs.ControlWays.{Ends, Tests, if_plain, ends_wider, in_turn_down, in_turn_up, stepped_ends, own_ends}
use Rattle.flow_graph.proofs.ControlExprs.{operand_ends, ways_fit}

-- statements that break, continue or go on, at these places, or return
abbrev pub Flows : ℕ → ℕ → (Place → Place → Place → Part) → Type 1
Flows low high a = (T : Place → Type 0) (bk ct q : Place) → T place.Out → T bk → T ct → T q → IsPart low high T (a bk ct q)

-- Whole expressions

pub valued_ends : (is : List NodeInfo) (n : ℕ) (e : Expr) (x : Slot) → Ends (4 * n) (4 * (n + node_count e)) (valued is n e x)
valued_ends is n e x = (ways_fit is n n e).run x

pub decided_tests : (is : List NodeInfo) (n : ℕ) (e : Expr) → Tests (4 * n) (4 * (n + node_count e)) (decided is n e)
decided_tests is n e = (ways_fit is n n e).test

operand_at : (is : List NodeInfo) (base n : ℕ) (e : Expr) → Ends (4 * n) (4 * (n + node_count e)) (operand is base n e (ways is base n e))
operand_at is base n e = operand_ends is base n (4 * n) (4 * (n + node_count e)) e (ways is base n e) (ways_fit is base n e)

-- Assignments

stored_plain : (is : List NodeInfo) (n : ℕ) (b x : Slot) → raw_is_test (stored is n b x) ≡ false
stored_plain is n b x = if_plain (is_pointer_at is n) (act.Store b (refers_at is n) x) (act.Put b (refers_at is n) x) refl refl

-- a step after what is assigned at node m and its target, of which the nodes from n + 2 on are run
target_ends : (n m high : ℕ) (source target : Place → Part) (a : RawAction) → n + 2 ≤ m → 4 * m ≤ high → raw_is_test a ≡ false
    → Ends (4 * m) high source → Ends (4 * (n + 2)) (4 * m) target → Ends (4 * n) high (stepped (in_turn source target) n a)
target_ends n m high source target a x y plain s t = ends_wider (4 * n + 3) high (4 * n) high (stepped (in_turn source target) n a) (omega arith) (omega arith)
    (stepped_ends n high (in_turn source target) a (omega arith) plain
    (ends_wider (4 * (n + 2)) high (4 * (n + 1)) high (in_turn source target) (omega arith) (omega arith)
    (in_turn_up (4 * (n + 2)) (4 * m) high source target (omega arith) y s t)))

assigned_ends : (is : List NodeInfo) (n : ℕ) (t e : Expr) → Ends (4 * n) (4 * (n + (node_count t + node_count e + 1))) (assigned is n t e)
assigned_ends is n (name at y) e = ends_wider (4 * (n + 2)) (4 * (n + 2 + node_count e)) (4 * n) (4 * (n + (node_count (name at y) + node_count e + 1)))
    ((ways is (n + 1) (n + 2) e).run (var_at is (n + 1))) (omega arith) (omega arith) ((ways_fit is (n + 1) (n + 2) e).run (var_at is (n + 1)))
assigned_ends is n (arrow at b f) e =
    let m : ℕ = n + 1 + node_count (arrow at b f) in
    ends_wider (4 * n) (4 * (m + node_count e)) (4 * n) (4 * (n + (node_count (arrow at b f) + node_count e + 1))) (assigned is n (arrow at b f) e) (omega arith) (omega arith)
    (target_ends n m (4 * (m + node_count e)) (operand is (n + 1) m e (ways is (n + 1) m e)) (operand is (n + 1) (n + 2) b (ways is (n + 1) (n + 2) b))
    (stored is (n + 1) (slot_of is (n + 1) (n + 2) b) (slot_of is (n + 1) m e)) (omega arith) (omega arith) (stored_plain is (n + 1) (slot_of is (n + 1) (n + 2) b) (slot_of is (n + 1) m e))
    (operand_at is (n + 1) m e)
    (ends_wider (4 * (n + 2)) (4 * (n + 2 + node_count b)) (4 * (n + 2)) (4 * m) (operand is (n + 1) (n + 2) b (ways is (n + 1) (n + 2) b)) (omega arith) (omega arith) (operand_at is (n + 1) (n + 2) b)))
assigned_ends is n (index at b i) e =
    let m : ℕ = n + 1 + node_count (index at b i) in
    let l : ℕ = n + 2 + node_count b in
    ends_wider (4 * n) (4 * (m + node_count e)) (4 * n) (4 * (n + (node_count (index at b i) + node_count e + 1))) (assigned is n (index at b i) e) (omega arith) (omega arith)
    (target_ends n m (4 * (m + node_count e)) (operand is (n + 1) m e (ways is (n + 1) m e))
    (in_turn (operand is (n + 1) (n + 2) b (ways is (n + 1) (n + 2) b)) (operand is (n + 1) l i (ways is (n + 1) l i)))
    (act.PutAt (slot_of is (n + 1) (n + 2) b) (slot_of is (n + 1) l i) (slot_of is (n + 1) m e)) (omega arith) (omega arith) refl
    (operand_at is (n + 1) m e)
    (in_turn_down (4 * (n + 2)) (4 * l) (4 * m) (operand is (n + 1) (n + 2) b (ways is (n + 1) (n + 2) b)) (operand is (n + 1) l i (ways is (n + 1) l i)) (omega arith) (omega arith)
    (operand_at is (n + 1) (n + 2) b)
    (ends_wider (4 * l) (4 * (l + node_count i)) (4 * l) (4 * m) (operand is (n + 1) l i (ways is (n + 1) l i)) (omega arith) (omega arith) (operand_at is (n + 1) l i))))
assigned_ends is n _ e = λ T q t. ending_part (4 * n) _ T q t

-- Branches

when_part : (low mid high : ℕ) (T : Place → Type 0) (test : Place → Place → Part) (first : Part) (q : Place) → low ≤ mid → mid ≤ high
    → Tests low mid test → T q → IsPart mid high T first → IsPart low high T (before (test first.start q) first)
when_part low mid high T test first q x y h t p =
    before_down low mid high T (test first.start q) first x y p (h (Goes T (first.after [])) first.start q p.fragment.starts (inl t))

when_else_part : (low a b high : ℕ) (T : Place → Type 0) (test : Place → Place → Part) (first second : Part) → low ≤ a → a ≤ b → b ≤ high
    → Tests low a test → IsPart b high T second → IsPart a b (Goes T (second.after [])) first
    → IsPart low high T (before (test first.start second.start) (before first second))
when_else_part low a b high T test first second x y z h p q =
    before_down low b high T (before (test first.start second.start) first) second (omega arith) z p
    (before_down low a b (Goes T (second.after [])) (test first.start second.start) first x y q
    (h (Goes (Goes T (second.after [])) (first.after [])) first.start second.start q.fragment.starts (inl p.fragment.starts)))

-- Loops

turns_tests : (is : List NodeInfo) (m : ℕ) (c : Exprs) → Tests (4 * m) (4 * (m + node_count_of c)) (turns is m c)
turns_tests is m no_exprs T t f s u = ending_part (4 * m) (4 * (m + node_count_of no_exprs)) T t s
turns_tests is m (expr c cs) T t f s u =
    part_wider (4 * m) (4 * (m + node_count c)) (4 * m) (4 * (m + node_count_of (expr c cs))) T (decided is m c t f) (omega arith) (omega arith) (decided_tests is m c T t f s u)

-- the body and the step, which come round to the head
turned_part : (n a b high : ℕ) (T : Place → Type 0) (body : Place → Place → Place → Part) (step : Place → Part) (q : Place) → a ≤ b → b ≤ high
    → Flows b high body → IsPart a b (With T (place.At n 0)) (step (place.At n 0)) → T place.Out → T q → IsPart a high (With T (place.At n 0)) (turned n body step q)
turned_part n a b high T body step q x y h p o t =
    let next : Part = step (place.At n 0) in
    before_up a b high (With T (place.At n 0)) (body q next.start next.start) next x y p
    (h (Goes (With T (place.At n 0)) (next.after [])) q next.start next.start (inl (inl o)) (inl (inl t)) p.fragment.starts p.fragment.starts)

-- what is run first, from node n + 1 on, and the loop, whose condition is node m
loop_part : (is : List NodeInfo) (n m b high : ℕ) (T : Place → Type 0) (bk ct q : Place) (first : Place → Place → Place → Part) (c : Exprs) (body step : Place → Place → Place → Part)
    → n + 1 ≤ m → 4 * (m + node_count_of c) ≤ b → b ≤ high
    → Flows (4 * (n + 1)) (4 * m) first → Flows (4 * (m + node_count_of c)) b step → Flows b high body
    → T place.Out → T bk → T ct → T q → IsPart (4 * n) high T (in_turn (first bk ct) (looped is n m c body (step bk ct)) q)
loop_part is n m b high T bk ct q first c body step x y z fs ss bs o s u t =
    round_part (4 * n) (4 * m) high T head (before (first bk ct head) enter) round (omega arith) (omega arith) rounds
    (before_up (4 * n) (4 * (n + 1)) (4 * m) (Goes inner (round.after [])) (first bk ct head) enter (omega arith) (omega arith) enters starts)
    (later_ways (4 * n) (4 * (n + 1)) (4 * m) (Goes inner (round.after [])) (Goes (Goes inner (round.after [])) (enter.after [])) (first bk ct head) enter head enters starts
    (one_ways head act.Skip round.start refl))
  where
    head : Place
    head = place.At n 0

    inner : Place → Type 0
    inner = With T (place.At n 0)

    turn : Part
    turn = turned n body (step bk ct) q

    turn_is : IsPart (4 * (m + node_count_of c)) high inner turn
    turn_is = turned_part n (4 * (m + node_count_of c)) b high T body (step bk ct) q y z bs (ss inner bk ct head (inl o) (inl s) (inl u) (inr refl)) o t

    round : Part
    round = before (turns is m c turn.start q) turn

    rounds : IsPart (4 * m) high inner round
    rounds = before_down (4 * m) (4 * (m + node_count_of c)) high inner (turns is m c turn.start q) turn (omega arith) (omega arith) turn_is
        (turns_tests is m c (Goes inner (turn.after [])) turn.start q turn_is.fragment.starts (inl (inl t)))

    enter : Part
    enter = one head act.Skip round.start

    enters : IsPart (4 * n) (4 * (n + 1)) (Goes inner (round.after [])) enter
    enters = own_ends n act.Skip refl (Goes inner (round.after [])) round.start rounds.fragment.starts

    starts : IsPart (4 * (n + 1)) (4 * m) (Goes (Goes inner (round.after [])) (enter.after [])) (first bk ct head)
    starts = fs (Goes (Goes inner (round.after [])) (enter.after [])) bk ct head (inl (inl (inl o))) (inl (inl (inl s))) (inl (inl (inl u))) enters.fragment.starts

-- Statements

-- those that go on alone
flows_from : (low high a b : ℕ) (f : Place → Part) → a ≤ low → high ≤ b → Ends low high f → Flows a b (λ bk ct. f)
flows_from low high a b f x y h T bk ct q o s u t = part_wider low high a b T (f q) x y (h T q t)

then_flows : (low mid high : ℕ) (first rest : Place → Place → Place → Part) → low ≤ mid → mid ≤ high → Flows low mid first → Flows mid high rest
    → Flows low high (λ bk ct. in_turn (first bk ct) (rest bk ct))
then_flows low mid high first rest x y h k T bk ct q o s u t =
    let r = k T bk ct q o s u t in
    before_down low mid high T (first bk ct (rest bk ct q).start) (rest bk ct q) x y r
    (h (Goes T ((rest bk ct q).after [])) bk ct (rest bk ct q).start (inl o) (inl s) (inl u) r.fragment.starts)

ending_flows : (low high : ℕ) → Flows low high (λ bk ct. ending)
ending_flows low high T bk ct q o s u t = ending_part low high T q t

mutual
  pub flow_fit : (is : List NodeInfo) (n : ℕ) (s : Stmt) → Flows (4 * n) (4 * (n + stmt_count s)) (λ bk ct. flow is bk ct n s)
  flow_fit is n (block at ss) T bk ct q o b c t =
      part_wider (4 * (n + 1)) (4 * (n + 1 + stmts_count ss)) (4 * n) (4 * (n + stmt_count (block at ss))) T (flow_all is bk ct (n + 1) ss q) (omega arith) (omega arith)
      (flows_fit is (n + 1) ss T bk ct q o b c t)
  flow_fit is n (nothing at) T bk ct q o b c t = ending_part (4 * n) (4 * (n + 1)) T q t
  flow_fit is n (break at) T bk ct q o b c t = ending_part (4 * n) (4 * (n + 1)) T bk b
  flow_fit is n (continue at) T bk ct q o b c t = ending_part (4 * n) (4 * (n + 1)) T ct c
  flow_fit is n (return at) T bk ct q o b c t = ending_part (4 * n) (4 * (n + 1)) T place.Out o
  flow_fit is n (local at x k) T bk ct q o b c t = own_ends n (act.Unset (var_at is n)) refl T q t
  flow_fit is n (local_as at x k e) T bk ct q o b c t =
      part_wider (4 * n) (4 * (n + 1 + node_count e)) (4 * n) (4 * (n + stmt_count (local_as at x k e))) T (flow is bk ct n (local_as at x k e) q) (omega arith) (omega arith)
      (in_turn_down (4 * n) (4 * (n + 1)) (4 * (n + 1 + node_count e)) (one (place.At n 0) (act.Unset (var_at is n))) (valued is (n + 1) e (var_at is n)) (omega arith) (omega arith)
      (own_ends n (act.Unset (var_at is n)) refl) (valued_ends is (n + 1) e (var_at is n)) T q t)
  flow_fit is n (assign at d e) T bk ct q o b c t = assigned_ends is n d e T q t
  flow_fit is n (do_call at e) T bk ct q o b c t =
      part_wider (4 * (n + 1)) (4 * (n + 1 + node_count e)) (4 * n) (4 * (n + stmt_count (do_call at e))) T (flow is bk ct n (do_call at e) q) (omega arith) (omega arith)
      (valued_ends is (n + 1) e (temp is (n + 1) (n + 1)) T q t)
  flow_fit is n (return_of at e) T bk ct q o b c t =
      part_wider (4 * (n + 1)) (4 * (n + 1 + node_count e)) (4 * n) (4 * (n + stmt_count (return_of at e))) T (flow is bk ct n (return_of at e) q) (omega arith) (omega arith)
      (valued_ends is (n + 1) e slot.Ret T place.Out o)
  flow_fit is n (free at e) T bk ct q o b c t =
      part_wider (4 * n + 3) (4 * (n + 1 + node_count e)) (4 * n) (4 * (n + stmt_count (free at e))) T (flow is bk ct n (free at e) q) (omega arith) (omega arith)
      (stepped_ends n (4 * (n + 1 + node_count e)) (operand is (n + 1) (n + 1) e (ways is (n + 1) (n + 1) e)) (act.Free (slot_of is (n + 1) (n + 1) e)) (omega arith) refl
      (operand_at is (n + 1) (n + 1) e) T q t)
  flow_fit is n (when at e s) T bk ct q o b c t =
      part_wider (4 * (n + 1)) (4 * (n + 1 + node_count e + stmt_count s)) (4 * n) (4 * (n + stmt_count (when at e s))) T (flow is bk ct n (when at e s) q) (omega arith) (omega arith)
      (when_part (4 * (n + 1)) (4 * (n + 1 + node_count e)) (4 * (n + 1 + node_count e + stmt_count s)) T (decided is (n + 1) e) (flow is bk ct (n + 1 + node_count e) s q) q
      (omega arith) (omega arith) (decided_tests is (n + 1) e) t (flow_fit is (n + 1 + node_count e) s T bk ct q o b c t))
  flow_fit is n (when_else at e s r) T bk ct q o b c t =
      let second : Part = flow is bk ct (n + 1 + node_count e + stmt_count s) r q in
      part_wider (4 * (n + 1)) (4 * (n + 1 + node_count e + stmt_count s + stmt_count r)) (4 * n) (4 * (n + stmt_count (when_else at e s r))) T (flow is bk ct n (when_else at e s r) q)
      (omega arith) (omega arith)
      (when_else_part (4 * (n + 1)) (4 * (n + 1 + node_count e)) (4 * (n + 1 + node_count e + stmt_count s)) (4 * (n + 1 + node_count e + stmt_count s + stmt_count r)) T
      (decided is (n + 1) e) (flow is bk ct (n + 1 + node_count e) s q) second (omega arith) (omega arith) (omega arith) (decided_tests is (n + 1) e)
      (flow_fit is (n + 1 + node_count e + stmt_count s) r T bk ct q o b c t)
      (flow_fit is (n + 1 + node_count e) s (Goes T (second.after [])) bk ct q (inl o) (inl b) (inl c) (inl t)))
  flow_fit is n (while at e s) T bk ct q o b c t =
      part_wider (4 * n) (4 * (n + 1 + node_count e + stmt_count s)) (4 * n) (4 * (n + stmt_count (while at e s))) T (flow is bk ct n (while at e s) q) (omega arith) (omega arith)
      (loop_part is n (n + 1) (4 * (n + 1 + node_count e)) (4 * (n + 1 + node_count e + stmt_count s)) T bk ct q (λ bk ct. ending) (expr e no_exprs)
      (λ bk ct. flow is bk ct (n + 1 + node_count e) s) (λ bk ct. ending) (omega arith) (omega arith) (omega arith)
      (ending_flows (4 * (n + 1)) (4 * (n + 1))) (ending_flows (4 * (n + 1 + node_count_of (expr e no_exprs))) (4 * (n + 1 + node_count e))) (flow_fit is (n + 1 + node_count e) s) o b c t)
  flow_fit is n (for at init e step s) T bk ct q o b c t =
      let m : ℕ = n + 1 + stmts_count init in
      let l : ℕ = n + 1 + stmts_count init + node_count_of e in
      let k : ℕ = n + 1 + stmts_count init + node_count_of e + stmts_count step in
      part_wider (4 * n) (4 * (k + stmt_count s)) (4 * n) (4 * (n + stmt_count (for at init e step s))) T (flow is bk ct n (for at init e step s) q) (omega arith) (omega arith)
      (loop_part is n m (4 * k) (4 * (k + stmt_count s)) T bk ct q (λ bk ct. flow_all is bk ct (n + 1) init) e
      (λ bk ct. flow is bk ct k s) (λ bk ct. flow_all is bk ct l step) (omega arith) (omega arith) (omega arith)
      (flows_fit is (n + 1) init) (flows_fit is l step) (flow_fit is k s) o b c t)

  pub flows_fit : (is : List NodeInfo) (n : ℕ) (ss : Stmts) → Flows (4 * n) (4 * (n + stmts_count ss)) (λ bk ct. flow_all is bk ct n ss)
  flows_fit is n no_stmts T bk ct q o b c t = ending_part (4 * n) (4 * (n + stmts_count no_stmts)) T q t
  flows_fit is n (stmt s ss) T bk ct q o b c t =
      part_wider (4 * n) (4 * (n + stmt_count s + stmts_count ss)) (4 * n) (4 * (n + stmts_count (stmt s ss))) T (flow_all is bk ct n (stmt s ss) q) (omega arith) (omega arith)
      (then_flows (4 * n) (4 * (n + stmt_count s)) (4 * (n + stmt_count s + stmts_count ss)) (λ bk ct. flow is bk ct n s) (λ bk ct. flow_all is bk ct (n + stmt_count s) ss)
      (omega arith) (omega arith) (flow_fit is n s) (flows_fit is (n + stmt_count s) ss) T bk ct q o b c t)
