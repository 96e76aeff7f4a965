-- The ways of an expression, whose steps begin at its own nodes.
use Rattle.std.proofs.Common.{◌≡◌, ℕ, zero, suc, ℤ, pos, negsuc, ◌+◌, ◌*◌, ◌≤◌, inl, Bool, true, false, List, [], refl, subst, arith, if◌then◌else◌}
use Rattle.c_tree.specs.declared.position.Place.{Place}
use Rattle.c_tree.specs.declared.position.Place.TheVariants as place
use Rattle.c_types.specs.declared.infos.NodeInfo.{NodeInfo}
use Rattle.flow_graph.specs.declared.raw.Slot.{Slot}
use Rattle.flow_graph.specs.declared.raw.RawAction.{RawAction}
use Rattle.flow_graph.specs.declared.raw.RawAction.TheVariants as act
use Rattle.flow_graph.specs.Parts.{Part, one, two, before, in_turn, refers_at, is_pointer_at, var_at, temp, same_var}
use Rattle.flow_graph.specs.Edges.{Ways, stepped, tested, by_value, value_edges, by_test, constant, truth, by_temp, moved, fetched, field_tested}
use Rattle.flow_graph.proofs.RawWays.{raw_is_test}
use Rattle.flow_graph.proofs.ControlPlaces.{Inside}
use Rattle.flow_graph.proofs.ControlParts.{Goes, IsPart, before_up, before_down, part_wider, one_part, two_part}

-- what goes on at one place, and what goes on at two
abbrev pub Ends : ℕ → ℕ → (Place → Part) → Type 1
Ends low high a = (T : Place → Type 0) (q : Place) → T q → IsPart low high T (a q)

abbrev pub Tests : ℕ → ℕ → (Place → Place → Part) → Type 1
Tests low high a = (T : Place → Type 0) (t f : Place) → T t → T f → IsPart low high T (a t f)

pub record IsWays (low high : ℕ) (w : Ways) : Type 1 where
  pub run : (x : Slot) → Ends low high (w.run x)
  pub test : Tests low high w.test

-- By cases on a test

pub if_part : (low high : ℕ) (T : Place → Type 0) (c : Bool) (x y : Part) → IsPart low high T x → IsPart low high T y → IsPart low high T (if c then x else y)
if_part low high T true x y p q = p
if_part low high T false x y p q = q

if_start : (c : Bool) (x y : Part) (p : Place) → x.start ≡ p → y.start ≡ p → (if c then x else y).start ≡ p
if_start true x y p d e = d
if_start false x y p d e = e

pub if_ways : (low high : ℕ) (c : Bool) (x y : Ways) → IsWays low high x → IsWays low high y → IsWays low high (if c then x else y)
if_ways low high true x y p q = p
if_ways low high false x y p q = q

pub if_plain : (c : Bool) (a b : RawAction) → raw_is_test a ≡ false → raw_is_test b ≡ false → raw_is_test (if c then a else b) ≡ false
if_plain true a b p q = p
if_plain false a b p q = q

-- Wider ranges

pub ends_wider : (low high a b : ℕ) (f : Place → Part) → a ≤ low → high ≤ b → Ends low high f → Ends a b f
ends_wider low high a b f x y h T q t = part_wider low high a b T (f q) x y (h T q t)

pub tests_wider : (low high a b : ℕ) (g : Place → Place → Part) → a ≤ low → high ≤ b → Tests low high g → Tests a b g
tests_wider low high a b g x y h T t f s u = part_wider low high a b T (g t f) x y (h T t f s u)

pub ways_wider : (low high a b : ℕ) (w : Ways) → a ≤ low → high ≤ b → IsWays low high w → IsWays a b w
ways_wider low high a b w x y h = record {
  run = λ s. ends_wider low high a b (w.run s) x y (h.run s);
  test = tests_wider low high a b w.test x y h.test;
}

-- One after another

pub in_turn_down : (low mid high : ℕ) (a b : Place → Part) → low ≤ mid → mid ≤ high → Ends low mid a → Ends mid high b → Ends low high (in_turn a b)
in_turn_down low mid high a b x y h k T q t =
    let r = k T q t in before_down low mid high T (a (b q).start) (b q) x y r (h (Goes T ((b q).after [])) (b q).start r.fragment.starts)

pub in_turn_up : (low mid high : ℕ) (a b : Place → Part) → low ≤ mid → mid ≤ high → Ends mid high a → Ends low mid b → Ends low high (in_turn a b)
in_turn_up low mid high a b x y h k T q t =
    let r = k T q t in before_up low mid high T (a (b q).start) (b q) x y r (h (Goes T ((b q).after [])) (b q).start r.fragment.starts)

-- Steps of node n

pub step_ends : (n high : ℕ) (a : RawAction) → 4 * n + 4 ≤ high → raw_is_test a ≡ false → Ends (4 * n + 3) high (one (place.At n 0) a)
step_ends n high a y plain T q t = one_part (4 * n + 3) high T (place.At n 0) a q (omega arith, omega arith, omega arith) plain t

pub stepped_ends : (n high : ℕ) (ops : Place → Part) (a : RawAction) → 4 * (n + 1) ≤ high → raw_is_test a ≡ false → Ends (4 * (n + 1)) high ops → Ends (4 * n + 3) high (stepped ops n a)
stepped_ends n high ops a y plain h T q t =
    let r = step_ends n (4 * (n + 1)) a (omega arith) plain T q t in
    before_up (4 * n + 3) (4 * (n + 1)) high T (ops (place.At n 0)) (one (place.At n 0) a q) (omega arith) y r
    (h (Goes T ((one (place.At n 0) a q).after [])) (place.At n 0) r.fragment.starts)

pub tested_part : (low high : ℕ) (T : Place → Type 0) (c : Bool) (p : Place) (x : Slot) (t f : Place) → Inside low high p → T t → T f → IsPart low high T (tested c p x t f)
tested_part low high T true p x t f inside s u = two_part low high T p (act.IsNull x) f (act.NotNull x) t inside refl u s
tested_part low high T false p x t f inside s u = two_part low high T p (act.NonZero x) t (act.Zero x) f inside refl s u

tested_start : (c : Bool) (p : Place) (x : Slot) (t f : Place) → (tested c p x t f).start ≡ p
tested_start true p x t f = refl
tested_start false p x t f = refl

-- what is run and then tested at sub-step 3
pub run_tested : (n high : ℕ) (c : Bool) (x : Slot) (run : Place → Part) → 4 * n + 3 ≤ high → Ends (4 * n + 3) high run
    → Tests (4 * n + 2) high (λ t f. before (run (place.At n 3)) (tested c (place.At n 3) x t f))
run_tested n high c x run y h T t f s u =
    let r = tested_part (4 * n + 2) (4 * n + 3) T c (place.At n 3) x t f (omega arith, omega arith, omega arith) s u in
    before_up (4 * n + 2) (4 * n + 3) high T (run (place.At n 3)) (tested c (place.At n 3) x t f) (omega arith) y r
    (h (Goes T ((tested c (place.At n 3) x t f).after [])) (place.At n 3)
    (subst (Goes T ((tested c (place.At n 3) x t f).after [])) (tested_start c (place.At n 3) x t f) r.fragment.starts))

pub by_value_ways : (is : List NodeInfo) (base n high : ℕ) (run : Slot → Place → Part) → 4 * n + 3 ≤ high → ((x : Slot) → Ends (4 * n + 3) high (run x))
    → IsWays (4 * n) high (by_value is base n run)
by_value_ways is base n high run y h = record {
  run = λ x. ends_wider (4 * n + 3) high (4 * n) high (run x) (omega arith) (omega arith) (h x);
  test = tests_wider (4 * n + 2) high (4 * n) high (by_value is base n run).test (omega arith) (omega arith)
      (run_tested n high (is_pointer_at is n) (temp is base n) (run (temp is base n)) y (h (temp is base n)));
}

-- a test that goes on at the two steps by which the node has a value
value_ends : (n high : ℕ) (test : Place → Place → Part) (x : Slot) → 4 * n + 2 ≤ high → Tests (4 * n + 2) high test
    → Ends (4 * n) high (λ q. before (test (place.At n 1) (place.At n 2)) (record { start = q; after = value_edges n x q }))
value_ends n high test x y h T q t =
    before_up (4 * n) (4 * n + 1) high T (before (test (place.At n 1) (place.At n 2)) zero_step) one_step (omega arith) (omega arith) first
    (before_up (4 * n + 1) (4 * n + 2) high onward (test (place.At n 1) (place.At n 2)) zero_step (omega arith) y second
    (h (Goes onward (zero_step.after [])) (place.At n 1) (place.At n 2) (inl first.fragment.starts) second.fragment.starts))
  where
    one_step : Part
    one_step = one (place.At n 1) (act.Set x (pos 1)) q

    zero_step : Part
    zero_step = one (place.At n 2) (act.Set x (pos 0)) q

    first : IsPart (4 * n) (4 * n + 1) T (one (place.At n 1) (act.Set x (pos 1)) q)
    first = one_part (4 * n) (4 * n + 1) T (place.At n 1) (act.Set x (pos 1)) q (omega arith, omega arith, omega arith) refl t

    onward : Place → Type 0
    onward = Goes T (one_step.after [])

    second : IsPart (4 * n + 1) (4 * n + 2) onward (one (place.At n 2) (act.Set x (pos 0)) q)
    second = one_part (4 * n + 1) (4 * n + 2) onward (place.At n 2) (act.Set x (pos 0)) q (omega arith, omega arith, omega arith) refl (inl t)

pub by_test_ways : (n high : ℕ) (test : Place → Place → Part) → 4 * n + 2 ≤ high → Tests (4 * n + 2) high test → IsWays (4 * n) high (by_test n test)
by_test_ways n high test y h = record {
  run = λ x. value_ends n high test x y h;
  test = tests_wider (4 * n + 2) high (4 * n) high test (omega arith) (omega arith) h;
}

-- Single nodes

pub constant_plain : (is : List NodeInfo) (n : ℕ) (z : ℤ) (x : Slot) → raw_is_test (constant is n z x) ≡ false
constant_plain is n z x = if_plain (is_pointer_at is n) (act.Null x) (act.Set x z) refl refl

pub truth_goes : (T : Place → Type 0) (z : ℤ) (t f : Place) → T t → T f → T (truth z t f)
truth_goes T (pos zero) t f s u = u
truth_goes T (pos (suc k)) t f s u = s
truth_goes T (negsuc k) t f s u = s

by_temp_ends : (is : List NodeInfo) (base n : ℕ) (c : Bool) (a : Slot → RawAction) (x : Slot) → ((y : Slot) → raw_is_test (a y) ≡ false)
    → Ends (4 * n) (4 * (n + 1)) (by_temp is base n c a x)
by_temp_ends is base n true a x plain T q t =
    let r = one_part (4 * n) (4 * n + 3) T (place.At n 1) (act.Copy x (temp is base n)) q (omega arith, omega arith, omega arith) refl t in
    before_up (4 * n) (4 * n + 3) (4 * (n + 1)) T (one (place.At n 0) (a (temp is base n)) (place.At n 1)) (one (place.At n 1) (act.Copy x (temp is base n)) q)
    (omega arith) (omega arith) r
    (one_part (4 * n + 3) (4 * (n + 1)) (Goes T ((one (place.At n 1) (act.Copy x (temp is base n)) q).after [])) (place.At n 0) (a (temp is base n)) (place.At n 1)
    (omega arith, omega arith, omega arith) (plain (temp is base n)) r.fragment.starts)
by_temp_ends is base n false a x plain T q t = one_part (4 * n) (4 * (n + 1)) T (place.At n 0) (a x) q (omega arith, omega arith, omega arith) (plain x) t

by_temp_start : (is : List NodeInfo) (base n : ℕ) (c : Bool) (a : Slot → RawAction) (x : Slot) (q : Place) → (by_temp is base n c a x q).start ≡ place.At n 0
by_temp_start is base n true a x q = refl
by_temp_start is base n false a x q = refl

pub own_ends : (n : ℕ) (a : RawAction) → raw_is_test a ≡ false → Ends (4 * n) (4 * (n + 1)) (one (place.At n 0) a)
own_ends n a plain T q t = one_part (4 * n) (4 * (n + 1)) T (place.At n 0) a q (omega arith, omega arith, omega arith) plain t

pub moved_ends : (is : List NodeInfo) (base n : ℕ) (x : Slot) → Ends (4 * n) (4 * (n + 1)) (moved is base n x)
moved_ends is base n x T q t = if_part (4 * n) (4 * (n + 1)) T (is_pointer_at is n)
    (by_temp is base n (same_var x (var_at is n)) (λ y. act.Copy y (var_at is n)) x q) (one (place.At n 0) (act.Move x (var_at is n)) q)
    (by_temp_ends is base n (same_var x (var_at is n)) (λ y. act.Copy y (var_at is n)) x (λ y. refl) T q t)
    (own_ends n (act.Move x (var_at is n)) refl T q t)

pub fetched_ends : (is : List NodeInfo) (base n : ℕ) (b x : Slot) → Ends (4 * n) (4 * (n + 1)) (fetched is base n b x)
fetched_ends is base n b x T q t = if_part (4 * n) (4 * (n + 1)) T (is_pointer_at is n)
    (by_temp is base n (same_var x b) (λ y. act.Load y b (refers_at is n)) x q) (one (place.At n 0) (act.Get x b (refers_at is n)) q)
    (by_temp_ends is base n (same_var x b) (λ y. act.Load y b (refers_at is n)) x (λ y. refl) T q t)
    (own_ends n (act.Get x b (refers_at is n)) refl T q t)

pub fetched_start : (is : List NodeInfo) (base n : ℕ) (b x : Slot) (q : Place) → (fetched is base n b x q).start ≡ place.At n 0
fetched_start is base n b x q = if_start (is_pointer_at is n)
    (by_temp is base n (same_var x b) (λ y. act.Load y b (refers_at is n)) x q) (one (place.At n 0) (act.Get x b (refers_at is n)) q) (place.At n 0)
    (by_temp_start is base n (same_var x b) (λ y. act.Load y b (refers_at is n)) x q) refl

pub field_tests : (is : List NodeInfo) (base n : ℕ) (b : Slot) → Tests (4 * n) (4 * (n + 1)) (field_tested is base n b)
field_tests is base n b T t f s u = if_part (4 * n) (4 * (n + 1)) T (is_pointer_at is n)
    (two (place.At n 0) (act.FieldNull b (refers_at is n)) f (act.FieldSet b (refers_at is n)) t)
    (before (one (place.At n 0) (act.Get (temp is base n) b (refers_at is n)) (place.At n 3)) (tested false (place.At n 3) (temp is base n) t f))
    (two_part (4 * n) (4 * (n + 1)) T (place.At n 0) (act.FieldNull b (refers_at is n)) f (act.FieldSet b (refers_at is n)) t (omega arith, omega arith, omega arith) refl u s)
    (tests_wider (4 * n + 2) (4 * (n + 1)) (4 * n) (4 * (n + 1)) _ (omega arith) (omega arith)
    (run_tested n (4 * (n + 1)) false (temp is base n) (one (place.At n 0) (act.Get (temp is base n) b (refers_at is n))) (omega arith)
    (step_ends n (4 * (n + 1)) (act.Get (temp is base n) b (refers_at is n)) (omega arith) refl)) T t f s u)

pub field_start : (is : List NodeInfo) (base n : ℕ) (b : Slot) (t f : Place) → (field_tested is base n b t f).start ≡ place.At n 0
field_start is base n b t f = if_start (is_pointer_at is n)
    (two (place.At n 0) (act.FieldNull b (refers_at is n)) f (act.FieldSet b (refers_at is n)) t)
    (before (one (place.At n 0) (act.Get (temp is base n) b (refers_at is n)) (place.At n 3)) (tested false (place.At n 3) (temp is base n) t f)) (place.At n 0)
    refl refl
