-- The edges of an expression fit: what they do fits the slots and the members that they name.
use Rattle.std.proofs.Common.{◌≡◌, ℕ, ◌+◌, ◌-◌, ◌<◌, ◌≤◌, Bool, true, false, ◌||◌, List, [], ◌∷◌, length, map, Option, Some, None, is_some, option_map, slice_get, slice_index_or, unwrap_or, ◌++◌, if◌then◌else◌, refl, sym, ap, ◌∙◌, subst, arith, true≢false, ℤ, pos}
use Rattle.std.proofs.lemmas.Bool.{false≢true}
use Rattle.std.proofs.lemmas.Option.{get_or_from_slice_get, slice_get-map}
use Rattle.c_tree.specs.declared.position.Place.{Place}
use Rattle.c_tree.specs.declared.position.Place.TheVariants as place
use Rattle.c_tree.specs.declared.tree.BinaryOp.{BinaryOp}
use Rattle.c_tree.specs.declared.tree.BinaryOp.TheVariants as op
use Rattle.c_tree.specs.Plain.{Expr, num, text, null, name, call, new, new_of, arrow, index, not_of, neg, binary, Exprs, no_exprs, expr}
use Rattle.c_tree.specs.Nodes.{Node, of_expr, nodes, nodes_of, node_count}
use Rattle.c_types.specs.declared.kinds.SlotType.{SlotType}
use Rattle.c_types.specs.declared.kinds.SlotType.TheVariants as type
use Rattle.c_types.specs.declared.infos.StructInfo.{StructInfo}
use Rattle.c_types.specs.declared.infos.ProcInfo.{ProcInfo}
use Rattle.c_types.specs.Types.{is_pointer}
use Rattle.c_types.specs.Fits.{Body, HasValue, IsVariable, IsMember, AreComparable, integers, pointers, OperandsFit, IsCall, ExprFits, ArgsFit, params_of}
use Rattle.c_types.specs.Fits as typed
use Rattle.flow_graph.specs.declared.raw.Slot.{Slot}
use Rattle.flow_graph.specs.declared.raw.RawAction.{RawAction}
use Rattle.flow_graph.specs.declared.raw.RawAction.TheVariants as act
use Rattle.flow_graph.specs.FlowGraph.{FlowGraph}
use Rattle.flow_graph.specs.GraphOf.{member_types}
use Rattle.flow_graph.specs.Fits.{made_type, GoesTo}
use Rattle.flow_graph.specs.Parts.{Part, before, in_turn, kind_at, type_at, refers_at, is_pointer_at, var_at, temp, same_var}
use Rattle.flow_graph.specs.Edges.{Ways, slot_of, operand, stepped, tested, by_value, by_test, constant, by_temp, moved, fetched, field_tested, made, result_slot, temps, null_tested, pointers_tested, difference, computed, is_null, truth, branched, combined, ways, args}
use Rattle.flow_graph.proofs.RawFits.{kind_of, IsInteger, IsPointer, IsArray, HaveOneKind, LeadsTo, same_slot, is_among, AreApart, RawArgsFit, RawResultFits, RawIsApart, RawCountFits, RawActionFits, RawEdgeFits, Adds}
use Rattle.flow_graph.proofs.Settings.{IsFlowOf, IsProgram, TextsFit, IsAt, IsGoal, TakesKind}
use Rattle.flow_graph.proofs.ActionFitsNodes.{at_first, at_tail, at_left, at_right, nodes_length}
use Rattle.flow_graph.proofs.ActionFitsSlots.{AddsOnly, only_ending, only_one, only_two, only_before, only_in_turn, only_if, kind_is, refers_is, goes_to, goes_itself, integer_slot, pointer_slot, takes_pointer, takes_integer, takes_own, IsRead, goal_apart, no_var_temp, first_no_temp, second_no_temp}

-- Members

pub members_are : (ss : List StructInfo) (s : ℕ) (i : StructInfo) → slice_get ss s ≡ Some i → slice_index_or (member_types ss) s [] ≡ map (λ m. m.kind) i.members
members_are ss s i e =
    get_or_from_slice_get (member_types ss) s (map (λ m. m.kind) i.members) []
    (slice_get-map (λ s. map (λ m. m.kind) s.members) ss s ∙ ap (option_map (λ s. map (λ m. m.kind) s.members)) e)

made_is : (t : SlotType) → is_pointer t ≡ true → made_type (made t) ≡ t
made_is type.Int p = absurd (false≢true p)
made_is type.Char p = absurd (false≢true p)
made_is type.IntPtr p = refl
made_is type.CharPtr p = refl
made_is (type.StructPtr s) p = refl

or_false : (c d : Bool) → c ≡ false → d ≡ false → (c || d) ≡ false
or_false false d p q = q
or_false true d p q = p

or_true : (c d : Bool) → c ≡ true → (c || d) ≡ true
or_true true d p = refl
or_true false d p = absurd (false≢true p)

-- integers go to integers
goes_integer : (t s : SlotType) → is_pointer t ≡ false → is_pointer s ≡ false → GoesTo t s
goes_integer type.Int s p q = q
goes_integer type.Char s p q = q
goes_integer type.IntPtr s p q = absurd (true≢false p)
goes_integer type.CharPtr s p q = absurd (true≢false p)
goes_integer (type.StructPtr n) s p q = absurd (true≢false p)

positive : (e : Expr) → 0 < node_count e
positive (num at z) = omega arith
positive e = omega arith

module _ (g : FlowGraph) (b : Body) (texts : List ℕ) where
  -- the ways of a node add only edges that fit
  pub record WaysFit (base n : ℕ) (w : Ways) : Type 0 where
    pub run : (x : Slot) (q : Place) → IsGoal b base n x → TakesKind b.slots x (type_at b.nodes n) → AddsOnly (RawEdgeFits g b.slots texts) (w.run x q)
    pub test : (t f : Place) → HasValue b n → AddsOnly (RawEdgeFits g b.slots texts) (w.test t f)

  abbrev Only : Part → Type 0
  Only p = AddsOnly (RawEdgeFits g b.slots texts) p

  -- Operands

  own_temp : (base n : ℕ) → TakesKind b.slots (temp b.nodes base n) (type_at b.nodes n)
  own_temp base n = takes_own b.slots (temp b.nodes base n) (type_at b.nodes n) refl

  pub operand_fits : (base n : ℕ) (e : Expr) (w : Ways) (q : Place) → WaysFit base n w → Only (operand b.nodes base n e w q)
  operand_fits base n (name at x) w q h = only_ending q
  operand_fits base n e w q h = h.run (temp b.nodes base n) q refl (own_temp base n)

  variable_is : (n : ℕ) → IsVariable b n → kind_of b.slots (var_at b.nodes n) ≡ Some (type_at b.nodes n)
  variable_is n h = ap (slice_get b.slots) (refers_is b.nodes n h.slot h.refers) ∙ h.has ∙ ap Some (sym (kind_is b.nodes n h.type h.is))

  variable_read : (base n m : ℕ) → IsVariable b n → IsRead b base m (var_at b.nodes n)
  variable_read base n m h = subst (λ k. k < b.variables) (sym (refers_is b.nodes n h.slot h.refers)) h.variable

  slot_own : (base n : ℕ) (e : Expr) → ExprFits b n e → kind_of b.slots (slot_of b.nodes base n e) ≡ Some (type_at b.nodes n)
  slot_own base n (name at x) h = variable_is n h
  slot_own base n e h = refl

  pub slot_is : (base n : ℕ) (e : Expr) (t : SlotType) → ExprFits b n e → kind_at b.nodes n ≡ Some t → kind_of b.slots (slot_of b.nodes base n e) ≡ Some t
  slot_is base n e t h k = slot_own base n e h ∙ ap Some (kind_is b.nodes n t k)

  slot_read : (base n : ℕ) (e : Expr) → ExprFits b n e → IsRead b base n (slot_of b.nodes base n e)
  slot_read base n (name at x) h = variable_read base n n h
  slot_read base n e h = refl

  pub slot_integer : (base n : ℕ) (e : Expr) → ExprFits b n e → typed.IsInteger b n → IsInteger b.slots (slot_of b.nodes base n e)
  slot_integer base n e h i = integer_slot b.slots (slot_of b.nodes base n e) i.type (slot_is base n e i.type h i.is) i.integer

  pub slot_pointer : (base n : ℕ) (e : Expr) → ExprFits b n e → typed.IsPointer b n → IsPointer b.slots (slot_of b.nodes base n e)
  slot_pointer base n e h i = pointer_slot b.slots (slot_of b.nodes base n e) i.type (slot_is base n e i.type h i.is) i.pointer

  pub slot_array : (base n : ℕ) (e : Expr) → ExprFits b n e → typed.IsArray b n → IsArray b.slots (slot_of b.nodes base n e)
  slot_array base n e h i = record { type = i.type; is = slot_is base n e i.type h i.is; array = i.array }

  -- what a node of this type is run into
  goal_integer : (n : ℕ) (x : Slot) (t : SlotType) → kind_at b.nodes n ≡ Some t → is_pointer t ≡ false → TakesKind b.slots x (type_at b.nodes n) → IsInteger b.slots x
  goal_integer n x t e p h = takes_integer b.slots x (type_at b.nodes n) (ap is_pointer (kind_is b.nodes n t e) ∙ p) h

  goal_pointer : (n : ℕ) (x : Slot) (t : SlotType) → kind_at b.nodes n ≡ Some t → is_pointer t ≡ true → TakesKind b.slots x (type_at b.nodes n) → kind_of b.slots x ≡ Some t
  goal_pointer n x t e p h =
      takes_pointer b.slots x (type_at b.nodes n) (ap is_pointer (kind_is b.nodes n t e) ∙ p) h ∙ ap Some (kind_is b.nodes n t e)

  -- Tests

  pub tested_fits : (c : Bool) (p : Place) (x : Slot) (t f : Place) (k : SlotType) → kind_of b.slots x ≡ Some k → is_pointer k ≡ c → Only (tested c p x t f)
  tested_fits true p x t f k e c =
      only_two p (act.IsNull x) f (act.NotNull x) t (pointer_slot b.slots x k e c) (pointer_slot b.slots x k e c)
  tested_fits false p x t f k e c =
      only_two p (act.NonZero x) t (act.Zero x) f (integer_slot b.slots x k e c) (integer_slot b.slots x k e c)

  by_value_fits : (base n : ℕ) (r : Slot → Place → Part) → ((x : Slot) (q : Place) → IsGoal b base n x → TakesKind b.slots x (type_at b.nodes n) → Only (r x q))
      → WaysFit base n (by_value b.nodes base n r)
  by_value_fits base n r h = record {
    run = h;
    test = λ t f v.
        only_before (h (temp b.nodes base n) (place.At n 3) refl (own_temp base n))
        (tested_fits (is_pointer_at b.nodes n) (place.At n 3) (temp b.nodes base n) t f (type_at b.nodes n) refl refl);
  }

  by_test_fits : (base n : ℕ) (test : Place → Place → Part) → kind_at b.nodes n ≡ Some type.Int → ((t f : Place) → Only (test t f)) → WaysFit base n (by_test n test)
  by_test_fits base n test k h = record {
    run = λ x q goal takes.
        let i : IsInteger b.slots x = goal_integer n x type.Int k refl takes in
        only_before (h (place.At n 1) (place.At n 2))
        (only_before (only_one {P = RawEdgeFits g b.slots texts} (place.At n 2) (act.Set x (pos 0)) q i) (only_one {P = RawEdgeFits g b.slots texts} (place.At n 1) (act.Set x (pos 1)) q i));
    test = λ t f v. h t f;
  }

  -- Steps

  pub stepped_fits : {ops : Place → Part} (n : ℕ) (a : RawAction) (q : Place) → ((p : Place) → Only (ops p)) → RawActionFits g b.slots texts a → Only (stepped ops n a q)
  stepped_fits n a q h x = only_before (h (place.At n 0)) (only_one (place.At n 0) a q x)

  constant_fits : (n : ℕ) (z : ℤ) (x : Slot) → TakesKind b.slots x (type_at b.nodes n) → RawActionFits g b.slots texts (constant b.nodes n z x)
  constant_fits n z x h = by (is_pointer_at b.nodes n) refl
    where
      by : (c : Bool) → is_pointer_at b.nodes n ≡ c → RawActionFits g b.slots texts (if c then act.Null x else act.Set x z)
      by true p = pointer_slot b.slots x (type_at b.nodes n) (takes_pointer b.slots x (type_at b.nodes n) p h) p
      by false p = takes_integer b.slots x (type_at b.nodes n) p h

  new_fits : (n : ℕ) (x : Slot) (zeroed : Bool) (c : Option Slot) → typed.IsPointer b n → TakesKind b.slots x (type_at b.nodes n) → RawCountFits b.slots c
      → RawActionFits g b.slots texts (act.New x zeroed (made (type_at b.nodes n)) c)
  new_fits n x zeroed c i h count =
      let p : is_pointer (type_at b.nodes n) ≡ true = ap is_pointer (kind_is b.nodes n i.type i.is) ∙ i.pointer in
      (takes_pointer b.slots x (type_at b.nodes n) p h ∙ ap Some (sym (made_is (type_at b.nodes n) p)), count)

  -- a pointer that is put into x, where a puts it into a slot that is none of those it reads
  by_temp_fits : (base n : ℕ) (y x : Slot) (a : Slot → RawAction) (q : Place) (c : Bool) → same_var x y ≡ c
      → is_pointer_at b.nodes n ≡ true → kind_of b.slots x ≡ Some (type_at b.nodes n)
      → (same_var x y ≡ false → same_slot (length b.slots) x y ≡ false)
      → ((z : Slot) → same_slot (length b.slots) z y ≡ false → kind_of b.slots z ≡ Some (type_at b.nodes n) → RawActionFits g b.slots texts (a z))
      → Only (by_temp b.nodes base n c a x q)
  by_temp_fits base n y x a q true e p k apart fit =
      only_before
      (only_one (place.At n 0) (a (temp b.nodes base n)) (place.At n 1)
      (fit (temp b.nodes base n) (second_no_temp (length b.slots) x y (n - base) (type_at b.nodes n) e) refl))
      (only_one (place.At n 1) (act.Copy x (temp b.nodes base n)) q
      (first_no_temp (length b.slots) x y (n - base) (type_at b.nodes n) e, record { type = type_at b.nodes n; first = k; second = refl; pointer = p }))
  by_temp_fits base n y x a q false e p k apart fit = only_one (place.At n 0) (a x) q (fit x (apart e) k)

  moved_fits : (base n : ℕ) (x : Slot) (q : Place) → base ≤ n → IsVariable b n → IsGoal b base n x → TakesKind b.slots x (type_at b.nodes n) → Only (moved b.nodes base n x q)
  moved_fits base n x q le h goal takes =
      only_if (is_pointer_at b.nodes n)
      (λ p. by_temp_fits base n (var_at b.nodes n) x (λ y. act.Copy y (var_at b.nodes n)) q (same_var x (var_at b.nodes n)) refl p
      (takes_pointer b.slots x (type_at b.nodes n) p takes)
      (goal_apart b base n (n + 1) x (var_at b.nodes n) le (omega arith) goal (variable_read base n (n + 1) h))
      (λ z apart k. (apart, record { type = type_at b.nodes n; first = k; second = variable_is n h; pointer = p })))
      (λ p. only_one (place.At n 0) (act.Move x (var_at b.nodes n)) q
      (takes_integer b.slots x (type_at b.nodes n) p takes, integer_slot b.slots (var_at b.nodes n) (type_at b.nodes n) (variable_is n h) p))

  -- Members

  pub member_leads : IsProgram g b.structs b.procs → (n : ℕ) (m : IsMember b n) (y : Slot) → kind_of b.slots y ≡ Some (type.StructPtr m.structure)
      → LeadsTo g b.slots y (refers_at b.nodes n) (type_at b.nodes n)
  member_leads program n m y e = record {
    structure = m.structure;
    base = e;
    member =
        ap (λ ts. slice_get ts (refers_at b.nodes n)) (ap (λ ss. slice_index_or ss m.structure []) program.structs ∙ members_are b.structs m.structure m.info m.exists)
        ∙ ap (slice_get (map (λ i. i.kind) m.info.members)) (refers_is b.nodes n m.member m.refers)
        ∙ m.has
        ∙ ap Some (sym (kind_is b.nodes n m.type m.is));
  }

  fetched_fits : IsProgram g b.structs b.procs → (base n : ℕ) (y x : Slot) (q : Place) → base ≤ n → (m : IsMember b n) → kind_of b.slots y ≡ Some (type.StructPtr m.structure)
      → IsRead b base (n + 1) y → IsGoal b base n x → TakesKind b.slots x (type_at b.nodes n) → Only (fetched b.nodes base n y x q)
  fetched_fits program base n y x q le m e read goal takes =
      let leads = member_leads program n m y e in
      only_if (is_pointer_at b.nodes n)
      (λ p. by_temp_fits base n y x (λ z. act.Load z y (refers_at b.nodes n)) q (same_var x y) refl p
      (takes_pointer b.slots x (type_at b.nodes n) p takes)
      (goal_apart b base n (n + 1) x y le (omega arith) goal read)
      (λ z apart k. (apart, record { type = type_at b.nodes n; leads = leads; pointer = p; slot = k })))
      (λ p. only_one (place.At n 0) (act.Get x y (refers_at b.nodes n)) q
      (takes_integer b.slots x (type_at b.nodes n) p takes, record { type = type_at b.nodes n; leads = leads; integer = p }))

  field_tested_fits : IsProgram g b.structs b.procs → (base n : ℕ) (y : Slot) (t f : Place) (m : IsMember b n) → kind_of b.slots y ≡ Some (type.StructPtr m.structure)
      → Only (field_tested b.nodes base n y t f)
  field_tested_fits program base n y t f m e =
      let leads = member_leads program n m y e in
      only_if (is_pointer_at b.nodes n)
      (λ p. only_two (place.At n 0) (act.FieldNull y (refers_at b.nodes n)) f (act.FieldSet y (refers_at b.nodes n)) t
      (record { type = type_at b.nodes n; leads = leads; pointer = p }) (record { type = type_at b.nodes n; leads = leads; pointer = p }))
      (λ p. only_before
      (only_one (place.At n 0) (act.Get (temp b.nodes base n) y (refers_at b.nodes n)) (place.At n 3)
      (integer_slot b.slots (temp b.nodes base n) (type_at b.nodes n) refl p, record { type = type_at b.nodes n; leads = leads; integer = p }))
      (tested_fits false (place.At n 3) (temp b.nodes base n) t f (type_at b.nodes n) refl p))

  arrow_fits : IsProgram g b.structs b.procs → (base n : ℕ) (e : Expr) (w : Ways) → base ≤ n → IsMember b n → ExprFits b (n + 1) e → WaysFit base (n + 1) w
      → WaysFit base n (record {
        run = λ x q. before (operand b.nodes base (n + 1) e w (place.At n 0)) (fetched b.nodes base n (slot_of b.nodes base (n + 1) e) x q);
        test = λ t f. before (operand b.nodes base (n + 1) e w (place.At n 0)) (field_tested b.nodes base n (slot_of b.nodes base (n + 1) e) t f);
      })
  arrow_fits program base n e w le m h fit = record {
    run = λ x q goal takes.
        only_before (operand_fits base (n + 1) e w (place.At n 0) fit)
        (fetched_fits program base n (slot_of b.nodes base (n + 1) e) x q le m (slot_is base (n + 1) e (type.StructPtr m.structure) h m.base)
        (slot_read base (n + 1) e h) goal takes);
    test = λ t f v.
        only_before (operand_fits base (n + 1) e w (place.At n 0) fit)
        (field_tested_fits program base n (slot_of b.nodes base (n + 1) e) t f m (slot_is base (n + 1) e (type.StructPtr m.structure) h m.base));
  }

  -- Calls

  temps_apart : (base n m : ℕ) (es : Exprs) (x : Slot) → base ≤ n → n < m → IsGoal b base n x → is_among (length b.slots) (temps b.nodes base m es) x ≡ false
  temps_apart base n m no_exprs x le lt goal = refl
  temps_apart base n m (expr e es) x le lt goal =
      or_false (same_slot (length b.slots) x (temp b.nodes base m)) (is_among (length b.slots) (temps b.nodes base (m + node_count e) es) x)
      (goal_apart b base n m x (temp b.nodes base m) le lt goal refl (no_var_temp x (m - base) (type_at b.nodes m)))
      (temps_apart base n (m + node_count e) es x le (omega arith) goal)

  temps_differ : (base n : ℕ) (es : Exprs) → base ≤ n → AreApart (length b.slots) (temps b.nodes base n es)
  temps_differ base n no_exprs le = tt
  temps_differ base n (expr e es) le =
      (temps_apart base n (n + node_count e) es (temp b.nodes base n) le (omega (arith, positive e)) refl, temps_differ base (n + node_count e) es (omega arith))

  temps_fit : (base n : ℕ) (es : Exprs) (ts : List SlotType) → ArgsFit b n es ts → RawArgsFit b.slots (temps b.nodes base n es) ts
  temps_fit base n no_exprs [] h = tt
  temps_fit base n no_exprs (t ∷ ts) h = absurd h
  temps_fit base n (expr e es) [] h = absurd h
  temps_fit base n (expr e es) (t ∷ ts) h = (
    record { type = type_at b.nodes n; is = refl; goes = subst (λ s. GoesTo s t) (sym (kind_is b.nodes n h.0.type h.0.is)) (goes_to t h.0.type h.0.goes) },
    temps_fit base (n + node_count e) es ts h.2,
  )

  result_fits : (x : Slot) (k : Option SlotType) → TakesKind b.slots x (unwrap_or k type.Int) → RawResultFits b.slots (if is_some k then Some x else None) k
  result_fits x None h = tt
  result_fits x (Some t) h = by (is_pointer t) refl
    where
      by : (c : Bool) → is_pointer t ≡ c → RawResultFits b.slots (Some x) (Some t)
      by true p = (t, takes_pointer b.slots x t p h, goes_itself t)
      by false p = let i = takes_integer b.slots x t p h in (i.type, i.is, goes_integer t i.type p i.integer)

  result_apart : (x : Slot) (us : List Slot) (c : Bool) → is_among (length b.slots) us x ≡ false → RawIsApart (length b.slots) us (if c then Some x else None)
  result_apart x us true e = e
  result_apart x us false e = tt

  call_fits : IsProgram g b.structs b.procs → (base n : ℕ) (es : Exprs) (p : ProcInfo) (x : Slot) → base ≤ n → IsCall b n p → ArgsFit b (n + 1) es (params_of p)
      → IsGoal b base n x → TakesKind b.slots x (type_at b.nodes n)
      → RawActionFits g b.slots texts (act.Call (result_slot b.nodes n x) (refers_at b.nodes n) (temps b.nodes base (n + 1) es))
  call_fits program base n es p x le c h goal takes =
      let flow : IsFlowOf g (refers_at b.nodes n) p = subst (λ k. IsFlowOf g k p) (sym (refers_is b.nodes n c.number c.refers)) (program.procs c.number p c.has) in
      record {
        exists = flow.exists;
        args = subst (λ ts. RawArgsFit b.slots (temps b.nodes base (n + 1) es) ts) (sym flow.params) (temps_fit base (n + 1) es (params_of p) h);
        different = temps_differ base (n + 1) es (omega arith);
        result = subst (λ t. RawResultFits b.slots (result_slot b.nodes n x) t) (c.is ∙ sym flow.result) (result_fits x (kind_at b.nodes n) takes);
        apart = result_apart x (temps b.nodes base (n + 1) es) (is_some (kind_at b.nodes n)) (temps_apart base n (n + 1) es x le (omega arith) goal);
      }

  -- Two operands

  ways_if : (base n : ℕ) (c : Bool) {v w : Ways} → (c ≡ true → WaysFit base n v) → (c ≡ false → WaysFit base n w) → WaysFit base n (if c then v else w)
  ways_if base n true x y = x refl
  ways_if base n false x y = y refl

  -- the operands d and e, at the nodes m and l
  record AreOperands (base m l : ℕ) (d e : Expr) (v w : Ways) : Type 0 where
    first : ExprFits b m d
    second : ExprFits b l e
    first_ways : WaysFit base m v
    second_ways : WaysFit base l w

  record ArePointers (m l : ℕ) : Type 0 where
    type : SlotType
    first : kind_at b.nodes m ≡ Some type
    second : kind_at b.nodes l ≡ Some type
    pointer : is_pointer type ≡ true

  pair_fits : (base m l : ℕ) (d e : Expr) (v w : Ways) (q : Place) → WaysFit base m v → WaysFit base l w
      → Only (in_turn (operand b.nodes base m d v) (operand b.nodes base l e w) q)
  pair_fits base m l d e v w q x y = only_in_turn q (λ p. operand_fits base m d v p x) (λ p. operand_fits base l e w p y)

  computed_fits : (base n m l : ℕ) (o : BinaryOp) (d e : Expr) (v w : Ways) → kind_at b.nodes n ≡ Some type.Int → AreOperands base m l d e v w
      → typed.IsInteger b m → typed.IsInteger b l → WaysFit base n (computed b.nodes base n m l o d e v w)
  computed_fits base n m l o d e v w k ops x y =
      by_value_fits base n _
      (λ z q goal takes. stepped_fits n (act.Arith z o (slot_of b.nodes base m d) (slot_of b.nodes base l e)) q
      (λ p. pair_fits base m l d e v w p ops.first_ways ops.second_ways)
      (goal_integer n z type.Int k refl takes, slot_integer base m d ops.first x, slot_integer base l e ops.second y))

  null_tested_fits : (base n m : ℕ) (e : Expr) (w : Ways) (t f : Place) (k : SlotType) → kind_at b.nodes m ≡ Some k → is_pointer k ≡ true → ExprFits b m e → WaysFit base m w
      → Only (null_tested b.nodes base n m e w t f)
  null_tested_fits base n m (arrow at d x) w t f k is p h fit = fit.test t f (record { type = k; is = is })
  null_tested_fits base n m e w t f k is p h fit =
      only_before (operand_fits base m e w (place.At n 3) fit)
      (tested_fits true (place.At n 3) (slot_of b.nodes base m e) t f k (slot_is base m e k h is) p)

  pointers_tested_fits : (base n m l : ℕ) (d e : Expr) (v w : Ways) (t f : Place) → AreOperands base m l d e v w → ArePointers m l
      → Only (pointers_tested b.nodes base n m l d e v w t f)
  pointers_tested_fits base n m l d e v w t f ops k =
      let one_kind : HaveOneKind b.slots (slot_of b.nodes base m d) (slot_of b.nodes base l e) = record {
        type = k.type;
        first = slot_is base m d k.type ops.first k.first;
        second = slot_is base l e k.type ops.second k.second;
        pointer = k.pointer;
      } in
      only_before (pair_fits base m l d e v w (place.At n 3) ops.first_ways ops.second_ways)
      (only_two (place.At n 3) (act.Equal (slot_of b.nodes base m d) (slot_of b.nodes base l e)) f
      (act.Differ (slot_of b.nodes base m d) (slot_of b.nodes base l e)) t one_kind one_kind)

  difference_fits : (base n m l : ℕ) (d e : Expr) (v w : Ways) (t f : Place) → AreOperands base m l d e v w → ArePointers m l
      → Only (difference b.nodes base n m l d e v w t f)
  difference_fits base n m l d e v w t f ops k =
      only_if (is_null e) (λ _. null_tested_fits base n m d v t f k.type k.first k.pointer ops.first ops.first_ways)
      (λ _. only_if (is_null d) (λ _. null_tested_fits base n l e w t f k.type k.second k.pointer ops.second ops.second_ways)
      (λ _. pointers_tested_fits base n m l d e v w t f ops k))

  pub pointer_at : (n : ℕ) (t : SlotType) (c : Bool) → kind_at b.nodes n ≡ Some t → is_pointer t ≡ c → is_pointer_at b.nodes n ≡ c
  pointer_at n t c e p = ap is_pointer (kind_is b.nodes n t e) ∙ p

  comparable_pointers : (m l : ℕ) → AreComparable b m l → (is_pointer_at b.nodes m || is_pointer_at b.nodes l) ≡ true → ArePointers m l
  comparable_pointers m l (integers x y) e =
      absurd (false≢true (sym (or_false (is_pointer_at b.nodes m) (is_pointer_at b.nodes l) (pointer_at m x.type false x.is x.integer) (pointer_at l y.type false y.is y.integer)) ∙ e))
  comparable_pointers m l (pointers t p x y) e = record { type = t; first = x; second = y; pointer = p }

  comparable_integers : (m l : ℕ) → AreComparable b m l → (is_pointer_at b.nodes m || is_pointer_at b.nodes l) ≡ false → typed.IsInteger b m × typed.IsInteger b l
  comparable_integers m l (integers x y) e = (x, y)
  comparable_integers m l (pointers t p x y) e =
      absurd (true≢false (sym (or_true (is_pointer_at b.nodes m) (is_pointer_at b.nodes l) (pointer_at m t true x p)) ∙ e))

  -- `==` and `!=`, given the test where an operand is a pointer
  equality_fits : (base n m l : ℕ) (o : BinaryOp) (d e : Expr) (v w : Ways) (test : Place → Place → Part) → kind_at b.nodes n ≡ Some type.Int → AreComparable b m l
      → AreOperands base m l d e v w → (ArePointers m l → (t f : Place) → Only (test t f))
      → WaysFit base n (if is_pointer_at b.nodes m || is_pointer_at b.nodes l then by_test n test else computed b.nodes base n m l o d e v w)
  equality_fits base n m l o d e v w test k c ops h =
      ways_if base n (is_pointer_at b.nodes m || is_pointer_at b.nodes l)
      (λ p. by_test_fits base n test k (h (comparable_pointers m l c p)))
      (λ p. let i = comparable_integers m l c p in computed_fits base n m l o d e v w k ops i.0 i.1)

  combined_fits : (base n m l : ℕ) (o : BinaryOp) (d e : Expr) (v w : Ways) → kind_at b.nodes n ≡ Some type.Int → OperandsFit o b m l → AreOperands base m l d e v w
      → WaysFit base n (combined b.nodes base n m l o d e v w)
  combined_fits base n m l op.Eq d e v w k h ops =
      equality_fits base n m l op.Eq d e v w (branched b.nodes base n m l op.Eq d e v w) k h ops (λ c t f. difference_fits base n m l d e v w f t ops c)
  combined_fits base n m l op.Ne d e v w k h ops =
      equality_fits base n m l op.Ne d e v w (branched b.nodes base n m l op.Ne d e v w) k h ops (λ c t f. difference_fits base n m l d e v w t f ops c)
  combined_fits base n m l op.And d e v w k h ops =
      by_test_fits base n (branched b.nodes base n m l op.And d e v w) k
      (λ t f. only_before (ops.first_ways.test (w.test t f).start f h.0) (ops.second_ways.test t f h.1))
  combined_fits base n m l op.Or d e v w k h ops =
      by_test_fits base n (branched b.nodes base n m l op.Or d e v w) k
      (λ t f. only_before (ops.first_ways.test t (w.test t f).start h.0) (ops.second_ways.test t f h.1))
  combined_fits base n m l o d e v w k h ops = computed_fits base n m l o d e v w k ops h.0 h.1

  -- Expressions

  mutual
    pub ways_fit : (ns : List Node) → IsProgram g b.structs b.procs → TextsFit g texts ns → (base n : ℕ) (e : Expr) → base ≤ n → IsAt ns n (nodes e) → ExprFits b n e
        → WaysFit base n (ways b.nodes base n e)
    ways_fit ns program strings base n (num at z) le is h = record {
      run = λ x q goal takes. only_one (place.At n 0) (constant b.nodes n z x) q (constant_fits n z x takes);
      test = λ t f v. only_ending (truth z t f);
    }
    ways_fit ns program strings base n (name at y) le is h = record {
      run = λ x q goal takes. moved_fits base n x q le h goal takes;
      test = λ t f v. tested_fits (is_pointer_at b.nodes n) (place.At n 3) (var_at b.nodes n) t f (type_at b.nodes n) (variable_is n h) refl;
    }
    ways_fit ns program strings base n (null at) le is h =
        by_value_fits base n _
        (λ x q goal takes. only_one (place.At n 0) (act.Null x) q (pointer_slot b.slots x h.type (goal_pointer n x h.type h.is h.pointer takes) h.pointer))
    ways_fit ns program strings base n (text at u) le is h =
        by_value_fits base n _
        (λ x q goal takes. only_one (place.At n 0) (act.Text x n) q (goal_pointer n x type.CharPtr h refl takes, strings n at u (at_first ns n (of_expr (text at u)) [] is)))
    ways_fit ns program strings base n (neg at e) le is h =
        by_value_fits base n _
        (λ x q goal takes. stepped_fits n (act.Neg x (slot_of b.nodes base (n + 1) e)) q
        (λ p. operand_fits base (n + 1) e (ways b.nodes base (n + 1) e) p
        (ways_fit ns program strings base (n + 1) e (omega arith) (at_tail ns n (of_expr (neg at e)) (nodes e) is) h.2))
        (goal_integer n x type.Int h.0 refl takes, slot_integer base (n + 1) e h.2 h.1))
    ways_fit ns program strings base n (arrow at e f) le is h =
        arrow_fits program base n e (ways b.nodes base (n + 1) e) le h.0 h.1
        (ways_fit ns program strings base (n + 1) e (omega arith) (at_tail ns n (of_expr (arrow at e f)) (nodes e) is) h.1)
    ways_fit ns program strings base n (index at e i) le is h =
        let rest = at_tail ns n (of_expr (index at e i)) (nodes e ++ nodes i) is in
        by_value_fits base n _
        (λ x q goal takes. stepped_fits n (act.At x (slot_of b.nodes base (n + 1) e) (slot_of b.nodes base (n + 1 + node_count e) i)) q
        (λ p. pair_fits base (n + 1) (n + 1 + node_count e) e i (ways b.nodes base (n + 1) e) (ways b.nodes base (n + 1 + node_count e) i) p
        (ways_fit ns program strings base (n + 1) e (omega arith) (at_left ns (n + 1) (nodes e) (nodes i) rest) h.3)
        (ways_fit ns program strings base (n + 1 + node_count e) i (omega arith) (at_right ns (n + 1) (nodes e) (nodes i) (node_count e) (nodes_length e) rest) h.4))
        (goal_integer n x h.0.type h.0.is h.0.integer takes, slot_array base (n + 1) e h.3 h.1, slot_integer base (n + 1 + node_count e) i h.4 h.2))
    ways_fit ns program strings base n (new at s) le is h =
        by_value_fits base n _
        (λ x q goal takes. only_one (place.At n 0) (act.New x s.zeroed (made (type_at b.nodes n)) None) q (new_fits n x s.zeroed None h takes tt))
    ways_fit ns program strings base n (new_of at s c) le is h =
        by_value_fits base n _
        (λ x q goal takes. stepped_fits n (act.New x s.zeroed (made (type_at b.nodes n)) (Some (slot_of b.nodes base (n + 1) c))) q
        (λ p. operand_fits base (n + 1) c (ways b.nodes base (n + 1) c) p
        (ways_fit ns program strings base (n + 1) c (omega arith) (at_tail ns n (of_expr (new_of at s c)) (nodes c) is) h.2))
        (new_fits n x s.zeroed (Some (slot_of b.nodes base (n + 1) c)) h.0 takes (slot_integer base (n + 1) c h.2 h.1)))
    ways_fit ns program strings base n (call at f es) le is h =
        by_value_fits base n _
        (λ x q goal takes. stepped_fits n (act.Call (result_slot b.nodes n x) (refers_at b.nodes n) (temps b.nodes base (n + 1) es)) q
        (λ p. args_fit ns program strings base (n + 1) es (params_of h.0) p (omega arith) (at_tail ns n (of_expr (call at f es)) (nodes_of es) is) h.2)
        (call_fits program base n es h.0 x le h.1 h.2 goal takes))
    ways_fit ns program strings base n (not_of at e) le is h =
        by_test_fits base n _ h.0
        (λ t f. (ways_fit ns program strings base (n + 1) e (omega arith) (at_tail ns n (of_expr (not_of at e)) (nodes e) is) h.2).test f t h.1)
    ways_fit ns program strings base n (binary at o d e) le is h =
        let rest = at_tail ns n (of_expr (binary at o d e)) (nodes d ++ nodes e) is in
        combined_fits base n (n + 1) (n + 1 + node_count d) o d e (ways b.nodes base (n + 1) d) (ways b.nodes base (n + 1 + node_count d) e) h.0 h.1
        (record {
          first = h.2;
          second = h.3;
          first_ways = ways_fit ns program strings base (n + 1) d (omega arith) (at_left ns (n + 1) (nodes d) (nodes e) rest) h.2;
          second_ways = ways_fit ns program strings base (n + 1 + node_count d) e (omega arith) (at_right ns (n + 1) (nodes d) (nodes e) (node_count d) (nodes_length d) rest) h.3;
        })

    args_fit : (ns : List Node) → IsProgram g b.structs b.procs → TextsFit g texts ns → (base n : ℕ) (es : Exprs) (ts : List SlotType) (q : Place) → base ≤ n → IsAt ns n (nodes_of es)
        → ArgsFit b n es ts → Only (args b.nodes base n es q)
    args_fit ns program strings base n no_exprs ts q le is h = only_ending q
    args_fit ns program strings base n (expr e es) [] q le is h = absurd h
    args_fit ns program strings base n (expr e es) (t ∷ ts) q le is h =
        only_in_turn q
        (λ p. (ways_fit ns program strings base n e le (at_left ns n (nodes e) (nodes_of es) is) h.1).run (temp b.nodes base n) p refl (own_temp base n))
        (λ p. args_fit ns program strings base (n + node_count e) es ts p (omega arith) (at_right ns n (nodes e) (nodes_of es) (node_count e) (nodes_length e) is) h.2)

pub run_fits : (g : FlowGraph) (b : Body) (texts : List ℕ) (ns : List Node) (base n : ℕ) (e : Expr) (x : Slot) (q : Place)
    → IsProgram g b.structs b.procs → TextsFit g texts ns → IsAt ns n (nodes e) → base ≤ n
    → ExprFits b n e → IsGoal b base n x → TakesKind b.slots x (type_at b.nodes n)
    → Adds (RawEdgeFits g b.slots texts) ((ways b.nodes base n e).run x q)
run_fits g b texts ns base n e x q program strings is le h goal takes = ((ways_fit g b texts ns program strings base n e le is h).run x q goal takes).each

pub test_fits : (g : FlowGraph) (b : Body) (texts : List ℕ) (ns : List Node) (base n : ℕ) (e : Expr) (t f : Place)
    → IsProgram g b.structs b.procs → TextsFit g texts ns → IsAt ns n (nodes e) → base ≤ n
    → ExprFits b n e → HasValue b n
    → Adds (RawEdgeFits g b.slots texts) ((ways b.nodes base n e).test t f)
test_fits g b texts ns base n e t f program strings is le h v = ((ways_fit g b texts ns program strings base n e le is h).test t f v).each
