-- The edges of a tree, by cases on it. `is` tells what is known of the nodes; n is the number of the node at hand, and
-- `base` that of the first expression node of its innermost statement.
use Rattle.std.specs.Prelude.{ℕ, ℤ, pos, zero, ◌+◌, List, [], ◌∷◌, Bool, true, false, ◌||◌, Option, Some, None, is_some, if◌then◌else◌}
use Rattle.c_tree.specs.declared.position.Place.{Place}
use Rattle.c_tree.specs.declared.position.Place.TheVariants as place
use Rattle.c_tree.specs.declared.tree.BinaryOp.{BinaryOp}
use Rattle.c_tree.specs.declared.tree.BinaryOp.TheVariants as op
use Rattle.c_tree.specs.Plain.{Expr, num, text, null, name, call, new, new_of, arrow, index, not_of, neg, binary, Exprs, no_exprs, expr, Stmt, block, local, local_as, assign, do_call, free, when, when_else, while, for, break, continue, return, return_of, nothing, Stmts, no_stmts, stmt}
use Rattle.c_tree.specs.Nodes.{node_count, node_count_of, stmt_count, stmts_count}
use Rattle.c_types.specs.declared.kinds.SlotType.{SlotType}
use Rattle.c_types.specs.declared.kinds.SlotType.TheVariants as type
use Rattle.c_types.specs.declared.infos.NodeInfo.{NodeInfo}
use Rattle.flow_graph.specs.declared.action.NewKind.{NewKind}
use Rattle.flow_graph.specs.declared.action.NewKind.TheVariants as kind
use Rattle.flow_graph.specs.declared.raw.Slot.{Slot}
use Rattle.flow_graph.specs.declared.raw.Slot.TheVariants as slot
use Rattle.flow_graph.specs.declared.raw.RawAction.{RawAction}
use Rattle.flow_graph.specs.declared.raw.RawAction.TheVariants as act
use Rattle.flow_graph.specs.declared.raw.RawEdge.{RawEdge}
use Rattle.flow_graph.specs.Parts.{Part, ending, one, two, before, in_turn, kind_at, type_at, refers_at, is_pointer_at, var_at, temp, same_var}

-- Expressions

-- how a node is run into a slot and goes on, and how it is tested and goes on where it is true and where it is false
pub record Ways : Type 0 where
  pub run : Slot → Place → Part
  pub test : Place → Place → Part

-- the slot of an operand: a variable's own, else the node's temporary
abbrev pub slot_of : List NodeInfo → ℕ → ℕ → Expr → Slot
slot_of is base n (name at x) = var_at is n
slot_of is base n e = temp is base n

-- an operand, given its ways: a variable has no edges
abbrev pub operand : List NodeInfo → ℕ → ℕ → Expr → Ways → Place → Part
operand is base n (name at x) w q = ending q
operand is base n e w q = w.run (temp is base n) q

-- what is run before node n, and then the node's own step
abbrev pub stepped : (Place → Part) → ℕ → RawAction → Place → Part
stepped ops n a q = before (ops (place.At n 0)) (one (place.At n 0) a q)

-- a slot that is tested at p: a pointer against null, an integer against 0
abbrev pub tested : Bool → Place → Slot → Place → Place → Part
tested true p x t f = two p (act.IsNull x) f (act.NotNull x) t
tested false p x t f = two p (act.NonZero x) t (act.Zero x) f

-- a node with a value, which is tested by it
abbrev pub by_value : List NodeInfo → ℕ → ℕ → (Slot → Place → Part) → Ways
by_value is base n r = record {
  run = r;
  test = λ t f. before (r (temp is base n) (place.At n 3)) (tested (is_pointer_at is n) (place.At n 3) (temp is base n) t f);
}

-- the value of a tested node: 1 where it is true, and 0 where it is false
abbrev pub value_edges : ℕ → Slot → Place → List RawEdge → List RawEdge
value_edges n x q es = (one (place.At n 2) (act.Set x (pos 0)) q).after ((one (place.At n 1) (act.Set x (pos 1)) q).after es)

-- a node that is tested, and has a value by the test
abbrev pub by_test : ℕ → (Place → Place → Part) → Ways
by_test n test = record {
  run = λ x q. before (test (place.At n 1) (place.At n 2)) (record { start = q; after = value_edges n x q });
  test = test;
}

-- a constant, or 0 as NULL
abbrev pub constant : List NodeInfo → ℕ → ℤ → Slot → RawAction
constant is n z x = if is_pointer_at is n then act.Null x else act.Set x z

-- where a constant leads as a condition
abbrev pub truth : ℤ → Place → Place → Place
truth (pos zero) t f = f
truth z t f = t

-- a pointer from y to x, which go by the temporary where they are one
abbrev pub by_temp : List NodeInfo → ℕ → ℕ → Bool → (Slot → RawAction) → Slot → Place → Part
by_temp is base n true a x q = before (one (place.At n 0) (a (temp is base n)) (place.At n 1)) (one (place.At n 1) (act.Copy x (temp is base n)) q)
by_temp is base n false a x q = one (place.At n 0) (a x) q

-- a variable is moved or copied
abbrev pub moved : List NodeInfo → ℕ → ℕ → Slot → Place → Part
moved is base n x q = if is_pointer_at is n
    then by_temp is base n (same_var x (var_at is n)) (λ y. act.Copy y (var_at is n)) x q
    else one (place.At n 0) (act.Move x (var_at is n)) q

-- a field of the base b is read
abbrev pub fetched : List NodeInfo → ℕ → ℕ → Slot → Slot → Place → Part
fetched is base n b x q = if is_pointer_at is n
    then by_temp is base n (same_var x b) (λ y. act.Load y b (refers_at is n)) x q
    else one (place.At n 0) (act.Get x b (refers_at is n)) q

-- a field of the base b is tested: a pointer in its place, an integer by its value
abbrev pub field_tested : List NodeInfo → ℕ → ℕ → Slot → Place → Place → Part
field_tested is base n b t f = if is_pointer_at is n
    then two (place.At n 0) (act.FieldNull b (refers_at is n)) f (act.FieldSet b (refers_at is n)) t
    else before (one (place.At n 0) (act.Get (temp is base n) b (refers_at is n)) (place.At n 3)) (tested false (place.At n 3) (temp is base n) t f)

-- what an allocation makes
abbrev pub made : SlotType → NewKind
made (type.StructPtr s) = kind.Struct s
made type.IntPtr = kind.Ints
made _ = kind.Chars

-- the slot of a call's result, where it has one
abbrev pub result_slot : List NodeInfo → ℕ → Slot → Option Slot
result_slot is n x = if is_some (kind_at is n) then Some x else None

-- the temporaries of the arguments, of which the first is node n
abbrev pub temps : List NodeInfo → ℕ → ℕ → Exprs → List Slot
temps is base n no_exprs = []
temps is base n (expr e es) = temp is base n ∷ temps is base (n + node_count e) es

-- NULL, or 0
abbrev pub is_null : Expr → Bool
is_null (null at) = true
is_null (num at (pos zero)) = true
is_null _ = false

-- a pointer e at node m, which the comparison at node n tests against null: a field in its own place
abbrev pub null_tested : List NodeInfo → ℕ → ℕ → ℕ → Expr → Ways → Place → Place → Part
null_tested is base n m (arrow at b f) w t f' = w.test t f'
null_tested is base n m e w t f = before (operand is base m e w (place.At n 3)) (tested true (place.At n 3) (slot_of is base m e) t f)

-- whether two pointers, at the nodes m and l, differ
abbrev pub pointers_tested : List NodeInfo → ℕ → ℕ → ℕ → ℕ → Expr → Expr → Ways → Ways → Place → Place → Part
pointers_tested is base n m l a b wa wb t f =
    before (in_turn (operand is base m a wa) (operand is base l b wb) (place.At n 3))
    (two (place.At n 3) (act.Equal (slot_of is base m a) (slot_of is base l b)) f (act.Differ (slot_of is base m a) (slot_of is base l b)) t)

-- whether pointers differ: one of them against null, or two
abbrev pub difference : List NodeInfo → ℕ → ℕ → ℕ → ℕ → Expr → Expr → Ways → Ways → Place → Place → Part
difference is base n m l a b wa wb t f =
    if is_null b then null_tested is base n m a wa t f
    else (if is_null a then null_tested is base n l b wb t f
    else pointers_tested is base n m l a b wa wb t f)

-- arithmetic, or a comparison of integers
abbrev pub computed : List NodeInfo → ℕ → ℕ → ℕ → ℕ → BinaryOp → Expr → Expr → Ways → Ways → Ways
computed is base n m l o a b wa wb = by_value is base n
    (λ x q. stepped (in_turn (operand is base m a wa) (operand is base l b wb)) n (act.Arith x o (slot_of is base m a) (slot_of is base l b)) q)

-- whether a node whose operands are the nodes m and l is tested: a comparison only where an operand is a pointer
abbrev pub branches : List NodeInfo → BinaryOp → ℕ → ℕ → Bool
branches is op.And m l = true
branches is op.Or m l = true
branches is op.Eq m l = is_pointer_at is m || is_pointer_at is l
branches is op.Ne m l = is_pointer_at is m || is_pointer_at is l
branches is _ m l = false

-- its test; what is no `&&`, `||` or `==` is `!=`
abbrev pub branched : List NodeInfo → ℕ → ℕ → ℕ → ℕ → BinaryOp → Expr → Expr → Ways → Ways → Place → Place → Part
branched is base n m l op.And a b wa wb t f = before (wa.test (wb.test t f).start f) (wb.test t f)
branched is base n m l op.Or a b wa wb t f = before (wa.test t (wb.test t f).start) (wb.test t f)
branched is base n m l op.Eq a b wa wb t f = difference is base n m l a b wa wb f t
branched is base n m l _ a b wa wb t f = difference is base n m l a b wa wb t f

-- two operands, at the nodes m and l
abbrev pub combined : List NodeInfo → ℕ → ℕ → ℕ → ℕ → BinaryOp → Expr → Expr → Ways → Ways → Ways
combined is base n m l o a b wa wb = if branches is o m l
    then by_test n (branched is base n m l o a b wa wb)
    else computed is base n m l o a b wa wb

-- node n
abbrev mutual
  pub ways : List NodeInfo → ℕ → ℕ → Expr → Ways
  ways is base n (num at z) = record {
    run = λ x q. one (place.At n 0) (constant is n z x) q;
    test = λ t f. ending (truth z t f);
  }
  ways is base n (name at y) = record {
    run = moved is base n;
    test = λ t f. tested (is_pointer_at is n) (place.At n 3) (var_at is n) t f;
  }
  ways is base n (null at) = by_value is base n (λ x q. one (place.At n 0) (act.Null x) q)
  ways is base n (text at b) = by_value is base n (λ x q. one (place.At n 0) (act.Text x n) q)
  ways is base n (neg at e) = by_value is base n
      (λ x q. stepped (operand is base (n + 1) e (ways is base (n + 1) e)) n (act.Neg x (slot_of is base (n + 1) e)) q)
  ways is base n (arrow at b f) = record {
    run = λ x q. before (operand is base (n + 1) b (ways is base (n + 1) b) (place.At n 0))
        (fetched is base n (slot_of is base (n + 1) b) x q);
    test = λ t f. before (operand is base (n + 1) b (ways is base (n + 1) b) (place.At n 0))
        (field_tested is base n (slot_of is base (n + 1) b) t f);
  }
  ways is base n (index at b i) = by_value is base n
      (λ x q. stepped (in_turn (operand is base (n + 1) b (ways is base (n + 1) b)) (operand is base (n + 1 + node_count b) i (ways is base (n + 1 + node_count b) i))) n
      (act.At x (slot_of is base (n + 1) b) (slot_of is base (n + 1 + node_count b) i)) q)
  ways is base n (new at s) = by_value is base n
      (λ x q. one (place.At n 0) (act.New x s.zeroed (made (type_at is n)) None) q)
  ways is base n (new_of at s c) = by_value is base n
      (λ x q. stepped (operand is base (n + 1) c (ways is base (n + 1) c)) n (act.New x s.zeroed (made (type_at is n)) (Some (slot_of is base (n + 1) c))) q)
  ways is base n (call at g es) = by_value is base n
      (λ x q. stepped (args is base (n + 1) es) n (act.Call (result_slot is n x) (refers_at is n) (temps is base (n + 1) es)) q)
  ways is base n (not_of at e) = by_test n (λ t f. (ways is base (n + 1) e).test f t)
  ways is base n (binary at o a b) =
      combined is base n (n + 1) (n + 1 + node_count a) o a b (ways is base (n + 1) a) (ways is base (n + 1 + node_count a) b)

  -- the arguments in order, of which the first is node n, each into its temporary
  pub args : List NodeInfo → ℕ → ℕ → Exprs → Place → Part
  args is base n no_exprs q = ending q
  args is base n (expr e es) q = in_turn ((ways is base n e).run (temp is base n)) (args is base (n + node_count e) es) q

-- a whole expression of a statement, whose first expression node it is

abbrev pub valued : List NodeInfo → ℕ → Expr → Slot → Place → Part
valued is n e x q = (ways is n n e).run x q

abbrev pub decided : List NodeInfo → ℕ → Expr → Place → Place → Part
decided is n e t f = (ways is n n e).test t f

-- Statements

-- what goes into a field, at the arrow of node n
abbrev pub stored : List NodeInfo → ℕ → Slot → Slot → RawAction
stored is n b x = if is_pointer_at is n then act.Store b (refers_at is n) x else act.Put b (refers_at is n) x

-- the assignment at node n, whose target is node n + 1; what is assigned is run first
abbrev pub assigned : List NodeInfo → ℕ → Expr → Expr → Place → Part
assigned is n (name at y) e q = (ways is (n + 1) (n + 2) e).run (var_at is (n + 1)) q
assigned is n (arrow at b f) e q =
    let m : ℕ = n + 1 + node_count (arrow at b f) in
    stepped (in_turn (operand is (n + 1) m e (ways is (n + 1) m e)) (operand is (n + 1) (n + 2) b (ways is (n + 1) (n + 2) b))) n
    (stored is (n + 1) (slot_of is (n + 1) (n + 2) b) (slot_of is (n + 1) m e)) q
assigned is n (index at b i) e q =
    let m : ℕ = n + 1 + node_count (index at b i) in
    let l : ℕ = n + 2 + node_count b in
    stepped (in_turn (operand is (n + 1) m e (ways is (n + 1) m e))
    (in_turn (operand is (n + 1) (n + 2) b (ways is (n + 1) (n + 2) b)) (operand is (n + 1) l i (ways is (n + 1) l i)))) n
    (act.PutAt (slot_of is (n + 1) (n + 2) b) (slot_of is (n + 1) l i) (slot_of is (n + 1) m e)) q
assigned is n t e q = ending q

-- the head of a loop at node n, whose condition, if there is one, is node m
abbrev pub turns : List NodeInfo → ℕ → Exprs → Place → Place → Part
turns is m no_exprs t f = ending t
turns is m (expr c cs) t f = decided is m c t f

abbrev pub headed : List NodeInfo → ℕ → ℕ → Exprs → Place → Place → Part
headed is n m c t f = before (one (place.At n 0) act.Skip (turns is m c t f).start) (turns is m c t f)

-- the body of a loop at node n that ends at q, which goes on at the step, and the step, which goes on at the head
abbrev pub turned : ℕ → (Place → Place → Place → Part) → (Place → Part) → Place → Part
turned n body step q =
    let next : Part = step (place.At n 0) in
    before (body q next.start next.start) next

-- such a loop
abbrev pub looped : List NodeInfo → ℕ → ℕ → Exprs → (Place → Place → Place → Part) → (Place → Part) → Place → Part
looped is n m c body step q =
    let turn : Part = turned n body step q in
    before (headed is n m c turn.start q) turn

-- statement n, which goes on at q; `break` goes to bk and `continue` to ct
abbrev mutual
  pub flow : List NodeInfo → Place → Place → ℕ → Stmt → Place → Part
  flow is bk ct n (block at ss) q = flow_all is bk ct (n + 1) ss q
  flow is bk ct n (nothing at) q = ending q
  flow is bk ct n (local at x t) q = one (place.At n 0) (act.Unset (var_at is n)) q
  flow is bk ct n (local_as at x t e) q = in_turn (one (place.At n 0) (act.Unset (var_at is n))) (valued is (n + 1) e (var_at is n)) q
  flow is bk ct n (assign at t e) q = assigned is n t e q
  flow is bk ct n (do_call at e) q = valued is (n + 1) e (temp is (n + 1) (n + 1)) q
  flow is bk ct n (free at e) q = stepped (operand is (n + 1) (n + 1) e (ways is (n + 1) (n + 1) e)) n (act.Free (slot_of is (n + 1) (n + 1) e)) q
  flow is bk ct n (when at c s) q =
      let first : Part = flow is bk ct (n + 1 + node_count c) s q in
      before (decided is (n + 1) c first.start q) first
  flow is bk ct n (when_else at c s t) q =
      let first : Part = flow is bk ct (n + 1 + node_count c) s q in
      let second : Part = flow is bk ct (n + 1 + node_count c + stmt_count s) t q in
      before (decided is (n + 1) c first.start second.start) (before first second)
  flow is bk ct n (while at c s) q =
      looped is n (n + 1) (expr c no_exprs) (λ bk ct next. flow is bk ct (n + 1 + node_count c) s next) ending q
  flow is bk ct n (for at init c step s) q =
      in_turn (flow_all is bk ct (n + 1) init)
      (looped is n (n + 1 + stmts_count init) c
      (λ bk ct next. flow is bk ct (n + 1 + stmts_count init + node_count_of c + stmts_count step) s next)
      (flow_all is bk ct (n + 1 + stmts_count init + node_count_of c) step)) q
  flow is bk ct n (break at) q = ending bk
  flow is bk ct n (continue at) q = ending ct
  flow is bk ct n (return at) q = ending place.Out
  flow is bk ct n (return_of at e) q = valued is (n + 1) e slot.Ret place.Out

  -- statements in order, of which the first is node n
  pub flow_all : List NodeInfo → Place → Place → ℕ → Stmts → Place → Part
  flow_all is bk ct n no_stmts q = ending q
  flow_all is bk ct n (stmt s ss) q = in_turn (flow is bk ct n s) (flow_all is bk ct (n + stmt_count s) ss) q

-- a `for` after its first statements, and its body with the step alone
abbrev pub loop_of : List NodeInfo → Place → Place → ℕ → Stmt → Place → Part
loop_of is bk ct n (for at init c step s) q =
    looped is n (n + 1 + stmts_count init) c
    (λ bk ct next. flow is bk ct (n + 1 + stmts_count init + node_count_of c + stmts_count step) s next)
    (flow_all is bk ct (n + 1 + stmts_count init + node_count_of c) step) q
loop_of is bk ct n _ q = ending q

abbrev pub turn_of : List NodeInfo → Place → Place → ℕ → Stmt → Place → Part
turn_of is bk ct n (for at init c step s) q =
    turned n
    (λ bk ct next. flow is bk ct (n + 1 + stmts_count init + node_count_of c + stmts_count step) s next)
    (flow_all is bk ct (n + 1 + stmts_count init + node_count_of c) step) q
turn_of is bk ct n _ q = ending q

-- the body of a `for` whose step begins at `next`
abbrev pub body_of_for : List NodeInfo → ℕ → Stmt → Place → Place → Part
body_of_for is n (for at init c step s) next q = flow is q next (n + 1 + stmts_count init + node_count_of c + stmts_count step) s next
body_of_for is n _ next q = ending q

-- Procedures

-- what comes after a body: the exit, and in `main` the end before it
abbrev pub closing : Bool → Part
closing false = ending place.Out
closing true = one place.End (act.Set slot.Ret (pos 0)) place.Out

-- the edges of a body, which is node 0; whether it is that of `main`
abbrev pub body_edges : Bool → List NodeInfo → Stmt → List RawEdge
body_edges main is s =
    let body : Part = flow is place.Out place.Out 0 s (closing main).start in
    (one place.In act.Skip body.start).after (body.after ((closing main).after []))
