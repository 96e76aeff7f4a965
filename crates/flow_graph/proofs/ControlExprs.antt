-- An expression is run and tested by steps that begin at its own nodes, and goes on where it is told to.
use Rattle.std.proofs.Common.{◌≡◌, ℕ, ℤ, ◌+◌, ◌*◌, ◌≤◌, inl, true, false, List, [], Some, None, refl, subst, arith, if◌then◌else◌}
use Rattle.c_tree.specs.declared.position.Place.{Place}
use Rattle.c_tree.specs.declared.position.Place.TheVariants as place
use Rattle.c_tree.specs.declared.tree.BinaryOp.{BinaryOp}
use Rattle.c_tree.specs.declared.tree.BinaryOp.TheVariants as op
use Rattle.c_tree.specs.Plain.{Expr, num, text, null, name, call, new, new_of, arrow, index, not_of, neg, binary, Exprs, no_exprs, expr}
use Rattle.c_tree.specs.Nodes.{node_count, node_count_of}
use Rattle.c_types.specs.declared.infos.NodeInfo.{NodeInfo}
use Rattle.flow_graph.specs.declared.raw.Slot.{Slot}
use Rattle.flow_graph.specs.declared.raw.RawAction.{RawAction}
use Rattle.flow_graph.specs.declared.raw.RawAction.TheVariants as act
use Rattle.flow_graph.specs.Parts.{Part, ending, one, two, before, in_turn, type_at, refers_at, is_pointer_at, var_at, temp}
use Rattle.flow_graph.specs.Edges.{Ways, slot_of, operand, stepped, tested, by_value, by_test, constant, truth, moved, fetched, field_tested, made, result_slot, temps, is_null, null_tested, pointers_tested, difference, computed, branches, branched, combined, ways, args}
use Rattle.flow_graph.proofs.RawWays.{raw_is_test}
use Rattle.flow_graph.proofs.ControlParts.{Goes, before_up, before_down, part_wider, ending_part, two_part}
use Rattle.flow_graph.proofs.ControlWays.{Ends, Tests, IsWays, if_part, if_ways, ends_wider, tests_wider, ways_wider, in_turn_down, stepped_ends, step_ends, tested_part, run_tested, by_value_ways, by_test_ways, constant_plain, truth_goes, own_ends, moved_ends, fetched_ends, fetched_start, field_tests, field_start}

-- Operands

ending_ends : (low high : ℕ) → Ends low high ending
ending_ends low high T q t = ending_part low high T q t

pub operand_ends : (is : List NodeInfo) (base n low high : ℕ) (e : Expr) (w : Ways) → IsWays low high w → Ends low high (operand is base n e w)
operand_ends is base n low high (name at x) w h = ending_ends low high
operand_ends is base n low high _ w h = h.run (temp is base n)

null_tests : (is : List NodeInfo) (base n m high : ℕ) (e : Expr) (w : Ways) → 4 * (n + 1) ≤ high → IsWays (4 * (n + 1)) high w → Tests (4 * n + 2) high (null_tested is base n m e w)
null_tests is base n m high (arrow at b f) w y h = tests_wider (4 * (n + 1)) high (4 * n + 2) high w.test (omega arith) (omega arith) h.test
null_tests is base n m high e w y h = run_tested n high true (slot_of is base m e) (operand is base m e w) (omega arith)
    (ends_wider (4 * (n + 1)) high (4 * n + 3) high (operand is base m e w) (omega arith) (omega arith) (operand_ends is base m (4 * (n + 1)) high e w h))

module _ (is : List NodeInfo) (base n m l mid high : ℕ) (a b : Expr) (wa wb : Ways) (x : 4 * (n + 1) ≤ mid) (y : mid ≤ high)
    (fa : IsWays (4 * (n + 1)) mid wa) (fb : IsWays mid high wb) where
  pub operands_end : Ends (4 * (n + 1)) high (in_turn (operand is base m a wa) (operand is base l b wb))
  operands_end = in_turn_down (4 * (n + 1)) mid high (operand is base m a wa) (operand is base l b wb) x y
      (operand_ends is base m (4 * (n + 1)) mid a wa fa) (operand_ends is base l mid high b wb fb)

  pointers_tests : Tests (4 * n + 2) high (pointers_tested is base n m l a b wa wb)
  pointers_tests T t f s u =
      let d = two_part (4 * n + 2) (4 * n + 3) T (place.At n 3) (act.Equal (slot_of is base m a) (slot_of is base l b)) f (act.Differ (slot_of is base m a) (slot_of is base l b)) t
      (omega arith, omega arith, omega arith) refl u s in
      before_up (4 * n + 2) (4 * n + 3) high T (in_turn (operand is base m a wa) (operand is base l b wb) (place.At n 3))
      (two (place.At n 3) (act.Equal (slot_of is base m a) (slot_of is base l b)) f (act.Differ (slot_of is base m a) (slot_of is base l b)) t) (omega arith) (omega arith) d
      (ends_wider (4 * (n + 1)) high (4 * n + 3) high (in_turn (operand is base m a wa) (operand is base l b wb)) (omega arith) (omega arith) operands_end
      (Goes T ((two (place.At n 3) (act.Equal (slot_of is base m a) (slot_of is base l b)) f (act.Differ (slot_of is base m a) (slot_of is base l b)) t).after [])) (place.At n 3) d.fragment.starts)

  difference_tests : Tests (4 * n + 2) high (difference is base n m l a b wa wb)
  difference_tests T t f s u = if_part (4 * n + 2) high T (is_null b) (null_tested is base n m a wa t f)
      (if is_null a then null_tested is base n l b wb t f else pointers_tested is base n m l a b wa wb t f)
      (null_tests is base n m high a wa (omega arith) (ways_wider (4 * (n + 1)) mid (4 * (n + 1)) high wa (omega arith) y fa) T t f s u)
      (if_part (4 * n + 2) high T (is_null a) (null_tested is base n l b wb t f) (pointers_tested is base n m l a b wa wb t f)
      (null_tests is base n l high b wb (omega arith) (ways_wider mid high (4 * (n + 1)) high wb x (omega arith) fb) T t f s u) (pointers_tests T t f s u))

  -- two tests, of which the second may follow where the first is true or where it is false
  and_tests : Tests (4 * n + 2) high (λ t f. before (wa.test (wb.test t f).start f) (wb.test t f))
  and_tests T t f s u =
      let r = fb.test T t f s u in
      part_wider (4 * (n + 1)) high (4 * n + 2) high T (before (wa.test (wb.test t f).start f) (wb.test t f)) (omega arith) (omega arith)
      (before_down (4 * (n + 1)) mid high T (wa.test (wb.test t f).start f) (wb.test t f) x y r
      (fa.test (Goes T ((wb.test t f).after [])) (wb.test t f).start f r.fragment.starts (inl u)))

  or_tests : Tests (4 * n + 2) high (λ t f. before (wa.test t (wb.test t f).start) (wb.test t f))
  or_tests T t f s u =
      let r = fb.test T t f s u in
      part_wider (4 * (n + 1)) high (4 * n + 2) high T (before (wa.test t (wb.test t f).start) (wb.test t f)) (omega arith) (omega arith)
      (before_down (4 * (n + 1)) mid high T (wa.test t (wb.test t f).start) (wb.test t f) x y r
      (fa.test (Goes T ((wb.test t f).after [])) t (wb.test t f).start (inl s) r.fragment.starts))

  branched_tests : (o : BinaryOp) → Tests (4 * n + 2) high (branched is base n m l o a b wa wb)
  branched_tests op.And = and_tests
  branched_tests op.Or = or_tests
  branched_tests op.Eq = λ T t f s u. difference_tests T f t u s
  branched_tests _ = difference_tests

  computed_ways : (o : BinaryOp) → IsWays (4 * n) high (computed is base n m l o a b wa wb)
  computed_ways o = by_value_ways is base n high
      (λ z. stepped (in_turn (operand is base m a wa) (operand is base l b wb)) n (act.Arith z o (slot_of is base m a) (slot_of is base l b))) (omega arith)
      (λ z. stepped_ends n high (in_turn (operand is base m a wa) (operand is base l b wb)) (act.Arith z o (slot_of is base m a) (slot_of is base l b)) (omega arith) refl operands_end)

  pub combined_ways : (o : BinaryOp) → IsWays (4 * n) high (combined is base n m l o a b wa wb)
  combined_ways o = if_ways (4 * n) high (branches is o m l) (by_test n (branched is base n m l o a b wa wb)) (computed is base n m l o a b wa wb)
      (by_test_ways n high (branched is base n m l o a b wa wb) (omega arith) (branched_tests o)) (computed_ways o)

-- Single forms

constant_ways : (is : List NodeInfo) (n : ℕ) (z : ℤ)
    → IsWays (4 * n) (4 * (n + 1)) (record { run = λ x q. one (place.At n 0) (constant is n z x) q; test = λ t f. ending (truth z t f) })
constant_ways is n z = record {
  run = λ x. own_ends n (constant is n z x) (constant_plain is n z x);
  test = λ T t f s u. ending_part (4 * n) (4 * (n + 1)) T (truth z t f) (truth_goes T z t f s u);
}

variable_ways : (is : List NodeInfo) (base n : ℕ)
    → IsWays (4 * n) (4 * (n + 1)) (record { run = moved is base n; test = λ t f. tested (is_pointer_at is n) (place.At n 3) (var_at is n) t f })
variable_ways is base n = record {
  run = moved_ends is base n;
  test = λ T t f s u. tested_part (4 * n) (4 * (n + 1)) T (is_pointer_at is n) (place.At n 3) (var_at is n) t f (omega arith, omega arith, omega arith) s u;
}

-- one step
step_ways : (is : List NodeInfo) (base n : ℕ) (a : Slot → RawAction) → ((x : Slot) → raw_is_test (a x) ≡ false)
    → IsWays (4 * n) (4 * (n + 1)) (by_value is base n (λ x q. one (place.At n 0) (a x) q))
step_ways is base n a plain = by_value_ways is base n (4 * (n + 1)) (λ x q. one (place.At n 0) (a x) q) (omega arith)
    (λ x. step_ends n (4 * (n + 1)) (a x) (omega arith) (plain x))

-- a step after others
stepped_ways : (is : List NodeInfo) (base n high : ℕ) (ops : Place → Part) (a : Slot → RawAction) → 4 * (n + 1) ≤ high → ((x : Slot) → raw_is_test (a x) ≡ false)
    → Ends (4 * (n + 1)) high ops → IsWays (4 * n) high (by_value is base n (λ x q. stepped ops n (a x) q))
stepped_ways is base n high ops a y plain h = by_value_ways is base n high (λ x q. stepped ops n (a x) q) (omega arith)
    (λ x. stepped_ends n high ops (a x) y (plain x) h)

field_ways : (is : List NodeInfo) (base n m high : ℕ) (b : Expr) (w : Ways) → 4 * (n + 1) ≤ high → IsWays (4 * (n + 1)) high w
    → IsWays (4 * n) high (record {
      run = λ x q. before (operand is base m b w (place.At n 0)) (fetched is base n (slot_of is base m b) x q);
      test = λ t f. before (operand is base m b w (place.At n 0)) (field_tested is base n (slot_of is base m b) t f);
    })
field_ways is base n m high b w y h = record {
  run = λ x T q t. before_up (4 * n) (4 * (n + 1)) high T (operand is base m b w (place.At n 0)) (fetched is base n c x q) (omega arith) y (fetched_ends is base n c x T q t)
      (operand_ends is base m (4 * (n + 1)) high b w h (Goes T ((fetched is base n c x q).after [])) (place.At n 0)
      (subst (Goes T ((fetched is base n c x q).after [])) (fetched_start is base n c x q) (fetched_ends is base n c x T q t).fragment.starts));
  test = λ T t f s u. before_up (4 * n) (4 * (n + 1)) high T (operand is base m b w (place.At n 0)) (field_tested is base n c t f) (omega arith) y (field_tests is base n c T t f s u)
      (operand_ends is base m (4 * (n + 1)) high b w h (Goes T ((field_tested is base n c t f).after [])) (place.At n 0)
      (subst (Goes T ((field_tested is base n c t f).after [])) (field_start is base n c t f) (field_tests is base n c T t f s u).fragment.starts));
}
  where
    c : Slot
    c = slot_of is base m b

not_tests : (n high : ℕ) (w : Ways) → 4 * (n + 1) ≤ high → IsWays (4 * (n + 1)) high w → Tests (4 * n + 2) high (λ t f. w.test f t)
not_tests n high w y h = tests_wider (4 * (n + 1)) high (4 * n + 2) high (λ t f. w.test f t) (omega arith) (omega arith) (λ T t f s u. h.test T f t u s)

-- All forms

mutual
  pub ways_fit : (is : List NodeInfo) (base n : ℕ) (e : Expr) → IsWays (4 * n) (4 * (n + node_count e)) (ways is base n e)
  ways_fit is base n (num at z) = constant_ways is n z
  ways_fit is base n (name at y) = variable_ways is base n
  ways_fit is base n (null at) = step_ways is base n act.Null (λ x. refl)
  ways_fit is base n (text at b) = step_ways is base n (λ x. act.Text x n) (λ x. refl)
  ways_fit is base n (new at s) = step_ways is base n (λ x. act.New x s.zeroed (made (type_at is n)) None) (λ x. refl)
  ways_fit is base n (neg at e) = stepped_ways is base n (4 * (n + node_count (neg at e))) (operand is base (n + 1) e (ways is base (n + 1) e))
      (λ x. act.Neg x (slot_of is base (n + 1) e)) (omega arith) (λ x. refl)
      (operand_ends is base (n + 1) (4 * (n + 1)) (4 * (n + node_count (neg at e))) e (ways is base (n + 1) e)
      (ways_wider (4 * (n + 1)) (4 * (n + 1 + node_count e)) (4 * (n + 1)) (4 * (n + node_count (neg at e))) (ways is base (n + 1) e) (omega arith) (omega arith) (ways_fit is base (n + 1) e)))
  ways_fit is base n (new_of at s c) = stepped_ways is base n (4 * (n + node_count (new_of at s c))) (operand is base (n + 1) c (ways is base (n + 1) c))
      (λ x. act.New x s.zeroed (made (type_at is n)) (Some (slot_of is base (n + 1) c))) (omega arith) (λ x. refl)
      (operand_ends is base (n + 1) (4 * (n + 1)) (4 * (n + node_count (new_of at s c))) c (ways is base (n + 1) c)
      (ways_wider (4 * (n + 1)) (4 * (n + 1 + node_count c)) (4 * (n + 1)) (4 * (n + node_count (new_of at s c))) (ways is base (n + 1) c) (omega arith) (omega arith) (ways_fit is base (n + 1) c)))
  ways_fit is base n (arrow at b f) = field_ways is base n (n + 1) (4 * (n + node_count (arrow at b f))) b (ways is base (n + 1) b) (omega arith)
      (ways_wider (4 * (n + 1)) (4 * (n + 1 + node_count b)) (4 * (n + 1)) (4 * (n + node_count (arrow at b f))) (ways is base (n + 1) b) (omega arith) (omega arith) (ways_fit is base (n + 1) b))
  ways_fit is base n (index at b i) = stepped_ways is base n (4 * (n + node_count (index at b i)))
      (in_turn (operand is base (n + 1) b (ways is base (n + 1) b)) (operand is base (n + 1 + node_count b) i (ways is base (n + 1 + node_count b) i)))
      (λ x. act.At x (slot_of is base (n + 1) b) (slot_of is base (n + 1 + node_count b) i)) (omega arith) (λ x. refl)
      (operands_end is base n (n + 1) (n + 1 + node_count b) (4 * (n + 1 + node_count b)) (4 * (n + node_count (index at b i))) b i
      (ways is base (n + 1) b) (ways is base (n + 1 + node_count b) i) (omega arith) (omega arith) (ways_fit is base (n + 1) b)
      (ways_wider (4 * (n + 1 + node_count b)) (4 * (n + 1 + node_count b + node_count i)) (4 * (n + 1 + node_count b)) (4 * (n + node_count (index at b i)))
      (ways is base (n + 1 + node_count b) i) (omega arith) (omega arith) (ways_fit is base (n + 1 + node_count b) i)))
  ways_fit is base n (call at g es) = stepped_ways is base n (4 * (n + node_count (call at g es))) (args is base (n + 1) es)
      (λ x. act.Call (result_slot is n x) (refers_at is n) (temps is base (n + 1) es)) (omega arith) (λ x. refl)
      (ends_wider (4 * (n + 1)) (4 * (n + 1 + node_count_of es)) (4 * (n + 1)) (4 * (n + node_count (call at g es))) (args is base (n + 1) es) (omega arith) (omega arith) (args_fit is base (n + 1) es))
  ways_fit is base n (not_of at e) = by_test_ways n (4 * (n + node_count (not_of at e))) (λ t f. (ways is base (n + 1) e).test f t) (omega arith)
      (not_tests n (4 * (n + node_count (not_of at e))) (ways is base (n + 1) e) (omega arith)
      (ways_wider (4 * (n + 1)) (4 * (n + 1 + node_count e)) (4 * (n + 1)) (4 * (n + node_count (not_of at e))) (ways is base (n + 1) e) (omega arith) (omega arith) (ways_fit is base (n + 1) e)))
  ways_fit is base n (binary at o a b) =
      combined_ways is base n (n + 1) (n + 1 + node_count a) (4 * (n + 1 + node_count a)) (4 * (n + node_count (binary at o a b))) a b
      (ways is base (n + 1) a) (ways is base (n + 1 + node_count a) b) (omega arith) (omega arith) (ways_fit is base (n + 1) a)
      (ways_wider (4 * (n + 1 + node_count a)) (4 * (n + 1 + node_count a + node_count b)) (4 * (n + 1 + node_count a)) (4 * (n + node_count (binary at o a b)))
      (ways is base (n + 1 + node_count a) b) (omega arith) (omega arith) (ways_fit is base (n + 1 + node_count a) b)) o

  pub args_fit : (is : List NodeInfo) (base n : ℕ) (es : Exprs) → Ends (4 * n) (4 * (n + node_count_of es)) (args is base n es)
  args_fit is base n no_exprs T q t = ending_part (4 * n) (4 * (n + node_count_of no_exprs)) T q t
  args_fit is base n (expr e es) T q t = ends_wider (4 * n) (4 * (n + node_count e + node_count_of es)) (4 * n) (4 * (n + node_count_of (expr e es)))
      (in_turn ((ways is base n e).run (temp is base n)) (args is base (n + node_count e) es)) (omega arith) (omega arith)
      (in_turn_down (4 * n) (4 * (n + node_count e)) (4 * (n + node_count e + node_count_of es)) ((ways is base n e).run (temp is base n)) (args is base (n + node_count e) es)
      (omega arith) (omega arith) ((ways_fit is base n e).run (temp is base n)) (args_fit is base (n + node_count e) es)) T q t
