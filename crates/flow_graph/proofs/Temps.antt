-- Which slots the edges of a body name beside variables and the result: temporaries of its expression nodes.
use Rattle.std.proofs.Common.{ℕ, ◌+◌, ◌<◌, ◌≤◌, Bool, true, false, List, arith, Option, Some, None, is_some}
use Rattle.std.specs.Prelude.{ℤ, pos, if◌then◌else◌}
use Rattle.std.specs.List.{All}
use Rattle.std.proofs.lemmas.List.Elements.{All-append, All-cons, All-nil}
use Rattle.c_tree.specs.declared.position.Place.{Place}
use Rattle.c_tree.specs.declared.position.Place.TheVariants as place
use Rattle.c_tree.specs.declared.tree.BinaryOp.{BinaryOp}
use Rattle.c_tree.specs.declared.tree.BinaryOp.TheVariants as op
use Rattle.c_tree.specs.Plain.{Expr, num, text, null, name, call, new, new_of, arrow, index, not_of, neg, binary, Exprs, no_exprs, expr}
use Rattle.c_tree.specs.Nodes.{node_count, node_count_of}
use Rattle.c_types.specs.declared.infos.NodeInfo.{NodeInfo}
use Rattle.flow_graph.specs.declared.raw.Slot.{Slot}
use Rattle.flow_graph.specs.declared.raw.Slot.TheVariants as slot
use Rattle.flow_graph.specs.declared.raw.RawAction.{RawAction}
use Rattle.flow_graph.specs.declared.raw.RawAction.TheVariants as act
use Rattle.flow_graph.specs.declared.raw.RawEdge.{RawEdge}
use Rattle.flow_graph.specs.Parts.{Part, one, two, before, in_turn, var_at, temp, same_var, is_pointer_at, kind_at, type_at, refers_at}
use Rattle.flow_graph.specs.Numbers.{slots_in, option_list}
use Rattle.flow_graph.specs.Edges.{Ways, ways, args, slot_of, operand, stepped, tested, by_value, value_edges, by_test, constant, truth, by_temp, moved, fetched, field_tested, made, result_slot, temps, is_null, null_tested, pointers_tested, difference, computed, branches, branched, combined}
use Rattle.flow_graph.proofs.RawFits.{Adds}
use Rattle.flow_graph.proofs.Adds.{if_holds, all_one, all_two, all_three, adds_ending, adds_one, adds_two, adds_before, adds_in_turn, adds_stepped}

-- the slots of an edge are such
abbrev pub Names : (Slot → Type 0) → RawEdge → Type 0
Names P e = All P (slots_in e.action)

-- the temporaries of so many nodes from n on are such
abbrev pub AreTemps : (Slot → Type 0) → List NodeInfo → ℕ → ℕ → ℕ → Type 0
AreTemps P is base n count = (m : ℕ) → n ≤ m → m < n + count → P (temp is base m)

pub record WaysName (P : Slot → Type 0) (w : Ways) : Type 0 where
  pub run : (x : Slot) → P x → (q : Place) → Adds (Names P) (w.run x q)
  pub test : (t f : Place) → Adds (Names P) (w.test t f)

-- an expression has a node of its own
pub some_nodes : (e : Expr) → 0 < node_count e
some_nodes (num at z) = omega arith
some_nodes (text at b) = omega arith
some_nodes (null at) = omega arith
some_nodes (name at y) = omega arith
some_nodes (call at f es) = omega arith
some_nodes (new at s) = omega arith
some_nodes (new_of at s e) = omega arith
some_nodes (arrow at b f) = omega arith
some_nodes (index at b i) = omega arith
some_nodes (not_of at e) = omega arith
some_nodes (neg at e) = omega arith
some_nodes (binary at o a b) = omega arith

module _ (P : Slot → Type 0) (vars : (y : ℕ) → P (slot.Var y)) (is : List NodeInfo) (base : ℕ) where
  pub names_slot : (n : ℕ) (e : Expr) → P (temp is base n) → P (slot_of is base n e)
  names_slot n (name at y) t = vars _
  names_slot n _ t = t

  pub names_operand : (n : ℕ) (e : Expr) (w : Ways) (q : Place) → P (temp is base n) → WaysName P w → Adds (Names P) (operand is base n e w q)
  names_operand n (name at y) w q t m = adds_ending (Names P) q
  names_operand n _ w q t m = m.run (temp is base n) t q

  names_tested : (b : Bool) (p : Place) (x : Slot) (t f : Place) → P x → Adds (Names P) (tested b p x t f)
  names_tested true p x t f h = adds_two (Names P) p f t (act.IsNull x) (act.NotNull x) (all_one P x h) (all_one P x h)
  names_tested false p x t f h = adds_two (Names P) p t f (act.NonZero x) (act.Zero x) (all_one P x h) (all_one P x h)

  names_by_value : (n : ℕ) (r : Slot → Place → Part) → P (temp is base n) → ((x : Slot) → P x → (q : Place) → Adds (Names P) (r x q))
      → WaysName P (by_value is base n r)
  names_by_value n r h run = record {
    run = run;
    test = λ t f. adds_before (Names P) (r (temp is base n) (place.At n 3)) (tested (is_pointer_at is n) (place.At n 3) (temp is base n) t f)
        (run (temp is base n) h (place.At n 3)) (names_tested (is_pointer_at is n) (place.At n 3) (temp is base n) t f h);
  }

  names_value : (n : ℕ) (x : Slot) (q start : Place) → P x → Adds (Names P) (record { start = start; after = value_edges n x q })
  names_value n x q start h es k =
      adds_one (Names P) (place.At n 2) q (act.Set x (pos 0)) (all_one P x h) ((one (place.At n 1) (act.Set x (pos 1)) q).after es)
      (adds_one (Names P) (place.At n 1) q (act.Set x (pos 1)) (all_one P x h) es k)

  names_by_test : (n : ℕ) (test : Place → Place → Part) → ((t f : Place) → Adds (Names P) (test t f)) → WaysName P (by_test n test)
  names_by_test n test m = record {
    run = λ x h q. adds_before (Names P) (test (place.At n 1) (place.At n 2)) (record { start = q; after = value_edges n x q })
        (m (place.At n 1) (place.At n 2)) (names_value n x q q h);
    test = m;
  }

  names_constant : (n : ℕ) (z : ℤ) (x : Slot) → P x → All P (slots_in (constant is n z x))
  names_constant n z x h = if_holds (λ (a : RawAction). All P (slots_in a)) (is_pointer_at is n) (act.Null x) (act.Set x z) (all_one P x h) (all_one P x h)

  names_by_temp : (n : ℕ) (b : Bool) (a : Slot → RawAction) (x : Slot) (q : Place) → P (temp is base n) → P x
      → ((y : Slot) → P y → All P (slots_in (a y))) → Adds (Names P) (by_temp is base n b a x q)
  names_by_temp n true a x q t h m =
      adds_before (Names P) (one (place.At n 0) (a (temp is base n)) (place.At n 1)) (one (place.At n 1) (act.Copy x (temp is base n)) q)
      (adds_one (Names P) (place.At n 0) (place.At n 1) (a (temp is base n)) (m (temp is base n) t))
      (adds_one (Names P) (place.At n 1) q (act.Copy x (temp is base n)) (all_two P x (temp is base n) h t))
  names_by_temp n false a x q t h m = adds_one (Names P) (place.At n 0) q (a x) (m x h)

  names_moved : (n : ℕ) (x : Slot) (q : Place) → P (temp is base n) → P x → Adds (Names P) (moved is base n x q)
  names_moved n x q t h =
      if_holds (Adds (Names P)) (is_pointer_at is n) (by_temp is base n (same_var x (var_at is n)) (λ y. act.Copy y (var_at is n)) x q)
      (one (place.At n 0) (act.Move x (var_at is n)) q)
      (names_by_temp n (same_var x (var_at is n)) (λ y. act.Copy y (var_at is n)) x q t h (λ y k. all_two P y (var_at is n) k (vars _)))
      (adds_one (Names P) (place.At n 0) q (act.Move x (var_at is n)) (all_two P x (var_at is n) h (vars _)))

  names_fetched : (n : ℕ) (b x : Slot) (q : Place) → P (temp is base n) → P b → P x → Adds (Names P) (fetched is base n b x q)
  names_fetched n b x q t k h =
      if_holds (Adds (Names P)) (is_pointer_at is n) (by_temp is base n (same_var x b) (λ y. act.Load y b (refers_at is n)) x q)
      (one (place.At n 0) (act.Get x b (refers_at is n)) q)
      (names_by_temp n (same_var x b) (λ y. act.Load y b (refers_at is n)) x q t h (λ y l. all_two P y b l k))
      (adds_one (Names P) (place.At n 0) q (act.Get x b (refers_at is n)) (all_two P x b h k))

  names_field : (n : ℕ) (b : Slot) (t f : Place) → P (temp is base n) → P b → Adds (Names P) (field_tested is base n b t f)
  names_field n b t f h k =
      if_holds (Adds (Names P)) (is_pointer_at is n) (two (place.At n 0) (act.FieldNull b (refers_at is n)) f (act.FieldSet b (refers_at is n)) t)
      (before (one (place.At n 0) (act.Get (temp is base n) b (refers_at is n)) (place.At n 3)) (tested false (place.At n 3) (temp is base n) t f))
      (adds_two (Names P) (place.At n 0) f t (act.FieldNull b (refers_at is n)) (act.FieldSet b (refers_at is n)) (all_one P b k) (all_one P b k))
      (adds_before (Names P) (one (place.At n 0) (act.Get (temp is base n) b (refers_at is n)) (place.At n 3)) (tested false (place.At n 3) (temp is base n) t f)
      (adds_one (Names P) (place.At n 0) (place.At n 3) (act.Get (temp is base n) b (refers_at is n)) (all_two P (temp is base n) b h k))
      (names_tested false (place.At n 3) (temp is base n) t f h))

  names_result : (n : ℕ) (x : Slot) → P x → All P (option_list (result_slot is n x))
  names_result n x h = if_holds (λ (o : Option Slot). All P (option_list o)) (is_some (kind_at is n)) (Some x) None (all_one P x h) (All-nil P)

  names_temps : (n : ℕ) (es : Exprs) → AreTemps P is base n (node_count_of es) → All P (temps is base n es)
  names_temps n no_exprs t = All-nil P
  names_temps n (expr e es) t =
      All-cons P (temp is base n) (temps is base (n + node_count e) es) (t n (omega arith) (omega (arith, some_nodes e)))
      (names_temps (n + node_count e) es (λ m l h. t m (omega (arith, l)) (omega (arith, h))))

  names_tested_operand : (n m : ℕ) (e : Expr) (w : Ways) (t f : Place) → P (temp is base m) → WaysName P w
      → Adds (Names P) (before (operand is base m e w (place.At n 3)) (tested true (place.At n 3) (slot_of is base m e) t f))
  names_tested_operand n m e w t f h k =
      adds_before (Names P) (operand is base m e w (place.At n 3)) (tested true (place.At n 3) (slot_of is base m e) t f)
      (names_operand m e w (place.At n 3) h k) (names_tested true (place.At n 3) (slot_of is base m e) t f (names_slot m e h))

  pub names_operands : (p : Place) (m l : ℕ) (a b : Expr) (wa wb : Ways) → P (temp is base m) → P (temp is base l) → WaysName P wa → WaysName P wb
      → Adds (Names P) (in_turn (operand is base m a wa) (operand is base l b wb) p)
  names_operands p m l a b wa wb h k i j =
      adds_in_turn (Names P) (operand is base m a wa) (operand is base l b wb) p (λ q. names_operand m a wa q h i) (names_operand l b wb p k j)

  -- of a node with one child
  inner : (n : ℕ) (e : Expr) → AreTemps P is base n (node_count e + 1) → AreTemps P is base (n + 1) (node_count e)
  inner n e h m l k = h m (omega (arith, l)) (omega (arith, k))

  first_temp : (n : ℕ) (e : Expr) → AreTemps P is base n (node_count e + 1) → P (temp is base (n + 1))
  first_temp n e h = h (n + 1) (omega arith) (omega (arith, some_nodes e))

  names_null_tested : (n m : ℕ) (e : Expr) (w : Ways) (t f : Place) → P (temp is base m) → WaysName P w → Adds (Names P) (null_tested is base n m e w t f)
  names_null_tested n m (arrow at b g) w t f h k = k.test t f
  names_null_tested n m (num at z) w t f h k = names_tested_operand n m (num at z) w t f h k
  names_null_tested n m (text at b) w t f h k = names_tested_operand n m (text at b) w t f h k
  names_null_tested n m (null at) w t f h k = names_tested_operand n m (null at) w t f h k
  names_null_tested n m (name at y) w t f h k = names_tested_operand n m (name at y) w t f h k
  names_null_tested n m (call at g es) w t f h k = names_tested_operand n m (call at g es) w t f h k
  names_null_tested n m (new at s) w t f h k = names_tested_operand n m (new at s) w t f h k
  names_null_tested n m (new_of at s e) w t f h k = names_tested_operand n m (new_of at s e) w t f h k
  names_null_tested n m (index at b i) w t f h k = names_tested_operand n m (index at b i) w t f h k
  names_null_tested n m (not_of at e) w t f h k = names_tested_operand n m (not_of at e) w t f h k
  names_null_tested n m (neg at e) w t f h k = names_tested_operand n m (neg at e) w t f h k
  names_null_tested n m (binary at o a b) w t f h k = names_tested_operand n m (binary at o a b) w t f h k

  names_pointers : (n m l : ℕ) (a b : Expr) (wa wb : Ways) (t f : Place) → P (temp is base m) → P (temp is base l) → WaysName P wa → WaysName P wb
      → Adds (Names P) (pointers_tested is base n m l a b wa wb t f)
  names_pointers n m l a b wa wb t f h k i j =
      adds_before (Names P) (in_turn (operand is base m a wa) (operand is base l b wb) (place.At n 3))
      (two (place.At n 3) (act.Equal (slot_of is base m a) (slot_of is base l b)) f (act.Differ (slot_of is base m a) (slot_of is base l b)) t)
      (names_operands (place.At n 3) m l a b wa wb h k i j)
      (adds_two (Names P) (place.At n 3) f t (act.Equal (slot_of is base m a) (slot_of is base l b)) (act.Differ (slot_of is base m a) (slot_of is base l b))
      (all_two P (slot_of is base m a) (slot_of is base l b) (names_slot m a h) (names_slot l b k))
      (all_two P (slot_of is base m a) (slot_of is base l b) (names_slot m a h) (names_slot l b k)))

  names_difference : (n m l : ℕ) (a b : Expr) (wa wb : Ways) (t f : Place) → P (temp is base m) → P (temp is base l) → WaysName P wa → WaysName P wb
      → Adds (Names P) (difference is base n m l a b wa wb t f)
  names_difference n m l a b wa wb t f h k i j =
      if_holds (Adds (Names P)) (is_null b) (null_tested is base n m a wa t f)
      (if is_null a then null_tested is base n l b wb t f else pointers_tested is base n m l a b wa wb t f)
      (names_null_tested n m a wa t f h i)
      (if_holds (Adds (Names P)) (is_null a) (null_tested is base n l b wb t f) (pointers_tested is base n m l a b wa wb t f)
      (names_null_tested n l b wb t f k j) (names_pointers n m l a b wa wb t f h k i j))

  names_computed : (n m l : ℕ) (o : BinaryOp) (a b : Expr) (wa wb : Ways) → P (temp is base n) → P (temp is base m) → P (temp is base l)
      → WaysName P wa → WaysName P wb → WaysName P (computed is base n m l o a b wa wb)
  names_computed n m l o a b wa wb s h k i j =
      names_by_value n (λ x q. stepped (in_turn (operand is base m a wa) (operand is base l b wb)) n (act.Arith x o (slot_of is base m a) (slot_of is base l b)) q) s
      (λ x p q. adds_stepped (Names P) (in_turn (operand is base m a wa) (operand is base l b wb)) n (act.Arith x o (slot_of is base m a) (slot_of is base l b)) q
      (λ r. names_operands r m l a b wa wb h k i j)
      (all_three P x (slot_of is base m a) (slot_of is base l b) p (names_slot m a h) (names_slot l b k)))

  names_branched : (n m l : ℕ) (o : BinaryOp) (a b : Expr) (wa wb : Ways) (t f : Place) → P (temp is base m) → P (temp is base l) → WaysName P wa → WaysName P wb
      → Adds (Names P) (branched is base n m l o a b wa wb t f)
  names_branched n m l op.And a b wa wb t f h k i j = adds_before (Names P) (wa.test (wb.test t f).start f) (wb.test t f) (i.test (wb.test t f).start f) (j.test t f)
  names_branched n m l op.Or a b wa wb t f h k i j = adds_before (Names P) (wa.test t (wb.test t f).start) (wb.test t f) (i.test t (wb.test t f).start) (j.test t f)
  names_branched n m l op.Eq a b wa wb t f h k i j = names_difference n m l a b wa wb f t h k i j
  names_branched n m l _ a b wa wb t f h k i j = names_difference n m l a b wa wb t f h k i j

  names_combined : (n m l : ℕ) (o : BinaryOp) (a b : Expr) (wa wb : Ways) → P (temp is base n) → P (temp is base m) → P (temp is base l)
      → WaysName P wa → WaysName P wb → WaysName P (combined is base n m l o a b wa wb)
  names_combined n m l o a b wa wb s h k i j =
      if_holds (WaysName P) (branches is o m l) (by_test n (branched is base n m l o a b wa wb)) (computed is base n m l o a b wa wb)
      (names_by_test n (branched is base n m l o a b wa wb) (λ t f. names_branched n m l o a b wa wb t f h k i j))
      (names_computed n m l o a b wa wb s h k i j)

  names_new : (n : ℕ) (x : Slot) (q : Place) (z : Bool) (w : Ways) (c : Expr) → P x → P (temp is base (n + 1)) → WaysName P w
      → Adds (Names P) (stepped (operand is base (n + 1) c w) n (act.New x z (made (type_at is n)) (Some (slot_of is base (n + 1) c))) q)
  names_new n x q z w c p h k =
      adds_stepped (Names P) (operand is base (n + 1) c w) n (act.New x z (made (type_at is n)) (Some (slot_of is base (n + 1) c))) q
      (λ r. names_operand (n + 1) c w r h k) (all_two P x (slot_of is base (n + 1) c) p (names_slot (n + 1) c h))

  mutual
    pub ways_name : (n : ℕ) (e : Expr) → AreTemps P is base n (node_count e) → WaysName P (ways is base n e)
    ways_name n (num at z) h = record {
      run = λ x p q. adds_one (Names P) (place.At n 0) q (constant is n z x) (names_constant n z x p);
      test = λ t f. adds_ending (Names P) (truth z t f);
    }
    ways_name n (name at y) h = record {
      run = λ x p q. names_moved n x q (h n (omega arith) (omega arith)) p;
      test = λ t f. names_tested (is_pointer_at is n) (place.At n 3) (var_at is n) t f (vars _);
    }
    ways_name n (null at) h =
        names_by_value n (λ x q. one (place.At n 0) (act.Null x) q) (h n (omega arith) (omega arith))
        (λ x p q. adds_one (Names P) (place.At n 0) q (act.Null x) (all_one P x p))
    ways_name n (text at b) h =
        names_by_value n (λ x q. one (place.At n 0) (act.Text x n) q) (h n (omega arith) (omega arith))
        (λ x p q. adds_one (Names P) (place.At n 0) q (act.Text x n) (all_one P x p))
    ways_name n (neg at e) h =
        let w = ways_name (n + 1) e (inner n e h) in
        let t = first_temp n e h in
        names_by_value n (λ x q. stepped (operand is base (n + 1) e (ways is base (n + 1) e)) n (act.Neg x (slot_of is base (n + 1) e)) q) (h n (omega arith) (omega arith))
        (λ x p q. adds_stepped (Names P) (operand is base (n + 1) e (ways is base (n + 1) e)) n (act.Neg x (slot_of is base (n + 1) e)) q
        (λ r. names_operand (n + 1) e (ways is base (n + 1) e) r t w) (all_two P x (slot_of is base (n + 1) e) p (names_slot (n + 1) e t)))
    ways_name n (arrow at b f) h =
        let w = ways_name (n + 1) b (inner n b h) in
        let s = h n (omega arith) (omega arith) in
        let t = first_temp n b h in
        record {
          run = λ x p q. adds_before (Names P) (operand is base (n + 1) b (ways is base (n + 1) b) (place.At n 0)) (fetched is base n (slot_of is base (n + 1) b) x q)
              (names_operand (n + 1) b (ways is base (n + 1) b) (place.At n 0) t w) (names_fetched n (slot_of is base (n + 1) b) x q s (names_slot (n + 1) b t) p);
          test = λ u v. adds_before (Names P) (operand is base (n + 1) b (ways is base (n + 1) b) (place.At n 0)) (field_tested is base n (slot_of is base (n + 1) b) u v)
              (names_operand (n + 1) b (ways is base (n + 1) b) (place.At n 0) t w) (names_field n (slot_of is base (n + 1) b) u v s (names_slot (n + 1) b t));
        }
    ways_name n (index at b i) h =
        let w = ways_name (n + 1) b (λ m l k. h m (omega (arith, l)) (omega (arith, k))) in
        let v = ways_name (n + 1 + node_count b) i (λ m l k. h m (omega (arith, l)) (omega (arith, k))) in
        let t = h (n + 1) (omega arith) (omega (arith, some_nodes b)) in
        let u = h (n + 1 + node_count b) (omega arith) (omega (arith, some_nodes i)) in
        names_by_value n (λ x q. stepped (in_turn (operand is base (n + 1) b (ways is base (n + 1) b)) (operand is base (n + 1 + node_count b) i (ways is base (n + 1 + node_count b) i))) n
        (act.At x (slot_of is base (n + 1) b) (slot_of is base (n + 1 + node_count b) i)) q) (h n (omega arith) (omega arith))
        (λ x p q. adds_stepped (Names P) (in_turn (operand is base (n + 1) b (ways is base (n + 1) b)) (operand is base (n + 1 + node_count b) i (ways is base (n + 1 + node_count b) i))) n
        (act.At x (slot_of is base (n + 1) b) (slot_of is base (n + 1 + node_count b) i)) q
        (λ r. names_operands r (n + 1) (n + 1 + node_count b) b i (ways is base (n + 1) b) (ways is base (n + 1 + node_count b) i) t u w v)
        (all_three P x (slot_of is base (n + 1) b) (slot_of is base (n + 1 + node_count b) i) p (names_slot (n + 1) b t) (names_slot (n + 1 + node_count b) i u)))
    ways_name n (new at s) h =
        names_by_value n (λ x q. one (place.At n 0) (act.New x s.zeroed (made (type_at is n)) None) q) (h n (omega arith) (omega arith))
        (λ x p q. adds_one (Names P) (place.At n 0) q (act.New x s.zeroed (made (type_at is n)) None) (all_one P x p))
    ways_name n (new_of at s c) h =
        let w = ways_name (n + 1) c (inner n c h) in
        names_by_value n (λ x q. stepped (operand is base (n + 1) c (ways is base (n + 1) c)) n (act.New x s.zeroed (made (type_at is n)) (Some (slot_of is base (n + 1) c))) q)
        (h n (omega arith) (omega arith)) (λ x p q. names_new n x q s.zeroed (ways is base (n + 1) c) c p (first_temp n c h) w)
    ways_name n (call at g es) h =
        let k = λ (m : ℕ) (l : n + 1 ≤ m) (j : m < n + 1 + node_count_of es). h m (omega (arith, l)) (omega (arith, j)) in
        names_by_value n (λ x q. stepped (args is base (n + 1) es) n (act.Call (result_slot is n x) (refers_at is n) (temps is base (n + 1) es)) q) (h n (omega arith) (omega arith))
        (λ x p q. adds_stepped (Names P) (args is base (n + 1) es) n (act.Call (result_slot is n x) (refers_at is n) (temps is base (n + 1) es)) q
        (λ r. args_name (n + 1) es r k) (All-append P (option_list (result_slot is n x)) (temps is base (n + 1) es) (names_result n x p) (names_temps (n + 1) es k)))
    ways_name n (not_of at e) h =
        let w = ways_name (n + 1) e (inner n e h) in
        names_by_test n (λ t f. (ways is base (n + 1) e).test f t) (λ t f. w.test f t)
    ways_name n (binary at o a b) h =
        names_combined n (n + 1) (n + 1 + node_count a) o a b (ways is base (n + 1) a) (ways is base (n + 1 + node_count a) b)
        (h n (omega arith) (omega arith)) (h (n + 1) (omega arith) (omega (arith, some_nodes a))) (h (n + 1 + node_count a) (omega arith) (omega (arith, some_nodes b)))
        (ways_name (n + 1) a (λ m l k. h m (omega (arith, l)) (omega (arith, k)))) (ways_name (n + 1 + node_count a) b (λ m l k. h m (omega (arith, l)) (omega (arith, k))))

    pub args_name : (n : ℕ) (es : Exprs) (q : Place) → AreTemps P is base n (node_count_of es) → Adds (Names P) (args is base n es q)
    args_name n no_exprs q h = adds_ending (Names P) q
    args_name n (expr e es) q h =
        let w = ways_name n e (λ m l k. h m l (omega (arith, k))) in
        adds_in_turn (Names P) ((ways is base n e).run (temp is base n)) (args is base (n + node_count e) es) q
        (w.run (temp is base n) (h n (omega arith) (omega (arith, some_nodes e))))
        (args_name (n + node_count e) es q (λ m l k. h m (omega (arith, l)) (omega (arith, k))))
