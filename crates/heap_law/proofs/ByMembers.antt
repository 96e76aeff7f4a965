-- Rules by numbered fields are rules by members.
use Rattle.std.proofs.Common.{◌≡◌, ◌≢◌, ◌+◌, ◌<◌, ◌&&◌, ◌||◌, ◌∷◌, ◌∙◌, [], ℕ, zero, suc, Bool, true, false, cond, not, List, length, take, refl, sym, ap, arith, Option, Some, None, ⊎_elim, ltb, eqb, slice_get, slice_index_or, All}
use Rattle.std.proofs.lemmas.Bool.{true≢false, cases_eq, eq-eqb, ne_eqb, eqb-true, or_parts, or_cases, and_parts, ltb-true, ltb-false}
use Rattle.zo_core.specs.Forms.{bit}
use Rattle.c_types.specs.declared.kinds.SlotType.{SlotType}
use Rattle.c_types.specs.declared.kinds.SlotType.TheVariants as type
use Rattle.c_types.specs.Types.{is_pointer}
use Rattle.flow_graph.specs.declared.action.Action.{Action}
use Rattle.flow_graph.specs.declared.action.Action.TheVariants as act
use Rattle.flow_graph.specs.declared.action.Edge.{Edge}
use Rattle.flow_graph.specs.FlowGraph.{FlowGraph, flow_of, has_body, edges_from, members_of, member_type, type_in, slot_type}
use Rattle.flow_graph.specs.Fits.{is_in, out_of, HasMember, GoesTo, ArgsFit, ResultFits, RetFits, CallFits, ActionFits, EdgeFits, HasPointer, IsFlowGraph, made_type, pointer_count}
use Rattle.path_facts.specs.Columns.{is_it}
use Rattle.path_facts.specs.Tables.{empty_in, fresh_in}
use Rattle.owner_vars.specs.Unknowns.{returns_pointer}
use Rattle.field_rules.specs.declared.edges.CallArg.{CallArg}
use Rattle.field_rules.specs.Sight.{Sight, HasField, leads_to}
use Rattle.field_rules.specs.Lines.{is_arg}
use Rattle.owner_vars.specs.Fields.{points_to, field_number}
use Rattle.owner_vars.specs.Laws.{FieldsAreNumbered}
use Rattle.transfer_rules.specs.Body.{Body, Setting, field_behind, sight, setting}
use Rattle.transfer_rules.specs.Rules as given
use Rattle.transfer_rules.specs.Holds as held
use Rattle.transfer_rules.specs.Holds.{Each}
use Rattle.heap_meaning.proofs.Lists.{by_bool, differ, at_get}
use Rattle.heap_meaning.proofs.Holds.{made_pointer}
use Rattle.heap_law.specs.Rules.{Marks, known_at, owning, arg_at, frees_rho, frees_omega, Same, Target, CallRules, Rules, EdgeHolds, BaseRules, EntryRules, ExitRules, PlaceHolds}
use Rattle.heap_law.proofs.Values.{arg_goes, front_type}
use Rattle.heap_law.specs.Assigned.{phi_of, open_at, marks_at, own_face, callee_face}
use Rattle.heap_law.proofs.FieldCounts.{there, has_pointer, count_next, count_stays, field_in}

-- a pointer argument of a call, which has no name outside its crate
abbrev ElementOf : {X Y : Type 0} → (List X → Y) → Type 0
ElementOf {X} {Y} f = X

abbrev Passed : Type 0
Passed = ElementOf given.call_args

-- Tests

and_is : (p w : Bool) → p ≡ true → (p && w) ≡ w
and_is p w e = rw e refl

and_zero : (p w : Bool) → (p ≡ true → w ≡ false) → (p && w) ≡ false
and_zero true w z = z refl
and_zero false w z = refl

and_same : (p w u : Bool) → (p ≡ true → w ≡ u) → (p && w) ≡ (p && u)
and_same true w u same = same refl
and_same false w u same = refl

not_on : (b : Bool) → b ≡ false → not b ≡ true
not_on b e = rw e refl

-- Each of a list

each_all : {X : Type 0} (P : X → Type 0) (xs : List X) → Each P xs → All P xs
each_all P [] each i d lt = absurd (omega arith)
each_all P (x ∷ xs) each zero d lt = each.0
each_all P (x ∷ xs) each (suc i) d lt = each_all P xs each.1 i d (omega arith)

goes_pointer : (s t : SlotType) → GoesTo s t → is_pointer s ≡ is_pointer t
goes_pointer type.Int t goes = sym goes
goes_pointer type.Char t goes = sym goes
goes_pointer type.IntPtr t goes = ap is_pointer goes
goes_pointer type.CharPtr t goes = ap is_pointer goes
goes_pointer (type.StructPtr z) t goes = ap is_pointer goes

rho_free : (a : Action) (k : ℕ) → given.frees_rho a k ≡ frees_rho a k
rho_free (act.Unset x) k = refl
rho_free (act.Null x) k = refl
rho_free (act.Text x n) k = refl
rho_free (act.New x zeroed kind count) k = refl
rho_free (act.Copy x y) k = refl
rho_free (act.Load x y m) k = refl
rho_free (act.Call r callee us) k = refl
rho_free (act.Free x) k = refl
rho_free (act.Store y m x) k = refl
rho_free a k = refl

module _ (b : Body) (t : ℕ → Bool) (graph : IsFlowGraph b.graph) (numbered : FieldsAreNumbered b.graph) (body : b.proc < b.graph.bodies) where
  abbrev g : FlowGraph
  g = b.graph

  abbrev k : ℕ
  k = b.proc

  abbrev v : Sight
  v = sight b

  abbrev s : Setting
  s = setting b

  abbrev kind_of : ℕ → SlotType
  kind_of x = slot_type b.graph b.proc x

  abbrev m : ℕ → Marks
  m p = marks_at b t p

  -- Slots and fields

  pointer_member : (z f : ℕ) → is_pointer (member_type g z f) ≡ true → HasPointer (members_of g z) f
  pointer_member z f p = has_pointer (members_of g z) f p

  slot_there : (x : ℕ) → is_pointer (kind_of x) ≡ true → x < v.slots
  slot_there x p = there (flow_of g k).slots x p

  struct_pointer : (x z : ℕ) → kind_of x ≡ type.StructPtr z → is_pointer (kind_of x) ≡ true
  struct_pointer x z ty = ap is_pointer ty

  pointer_at : (x : ℕ) (ty : SlotType) → slice_get (flow_of g k).slots x ≡ Some ty → is_pointer ty ≡ true → is_pointer (kind_of x) ≡ true
  pointer_at x ty is pointer = ap is_pointer (at_get (flow_of g k).slots x ty type.Int is) ∙ pointer

  points : (x z : ℕ) → kind_of x ≡ type.StructPtr z → v.structure x ≡ Some z
  points x z ty = ap points_to ty

  has_field : (x z f : ℕ) → kind_of x ≡ type.StructPtr z → is_pointer (member_type g z f) ≡ true → HasField v x (field_number g z f)
  has_field x z f ty p = let in_ = field_in g z f p in record { structure = z; is = points x z ty; from = in_.0; to = in_.1 }

  live : (p x : ℕ) → is_pointer (kind_of x) ≡ true → empty_in b.facts k p x ≡ false → given.is_live v s p x ≡ true
  live p x pointer em = rw (pointer, em) refl

  -- Marks

  rho_is : (p x : ℕ) → is_pointer (kind_of x) ≡ true → (m p).rho x ≡ t (v.rho p x)
  rho_is p x pointer = and_is (is_pointer (kind_of x)) (t (v.rho p x)) pointer

  rho_zero : (p x : ℕ) → (is_pointer (kind_of x) ≡ true → t (v.rho p x) ≡ false) → (m p).rho x ≡ false
  rho_zero p x zero_ = and_zero (is_pointer (kind_of x)) (t (v.rho p x)) zero_

  omega_is : (p x z f : ℕ) → kind_of x ≡ type.StructPtr z → is_pointer (member_type g z f) ≡ true → (m p).omega x f ≡ t (v.omega p x (field_number g z f))
  omega_is p x z f ty pointer = rw ty (and_is (is_pointer (member_type g z f)) (t (v.omega p x (field_number g z f))) pointer)

  omega_zero : (p x f : ℕ) → ((z : ℕ) → kind_of x ≡ type.StructPtr z → is_pointer (member_type g z f) ≡ true → t (v.omega p x (field_number g z f)) ≡ false) → (m p).omega x f ≡ false
  omega_zero p x f zero_ = by_type (kind_of x) zero_
    where
      by_type : (ty : SlotType) → ((z : ℕ) → ty ≡ type.StructPtr z → is_pointer (member_type g z f) ≡ true → t (v.omega p x (field_number g z f)) ≡ false) → open_at b t p x ty f ≡ false
      by_type (type.StructPtr z) zero_ = and_zero (is_pointer (member_type g z f)) (t (v.omega p x (field_number g z f))) (λ e. zero_ z refl e)
      by_type type.Int zero_ = refl
      by_type type.Char zero_ = refl
      by_type type.IntPtr zero_ = refl
      by_type type.CharPtr zero_ = refl

  omega_same : (p q x f : ℕ) → ((z : ℕ) → kind_of x ≡ type.StructPtr z → is_pointer (member_type g z f) ≡ true → t (v.omega q x (field_number g z f)) ≡ t (v.omega p x (field_number g z f))) → (m q).omega x f ≡ (m p).omega x f
  omega_same p q x f same = by_type (kind_of x) same
    where
      by_type : (ty : SlotType) → ((z : ℕ) → ty ≡ type.StructPtr z → is_pointer (member_type g z f) ≡ true → t (v.omega q x (field_number g z f)) ≡ t (v.omega p x (field_number g z f))) → open_at b t q x ty f ≡ open_at b t p x ty f
      by_type (type.StructPtr z) same = and_same (is_pointer (member_type g z f)) (t (v.omega q x (field_number g z f))) (t (v.omega p x (field_number g z f))) (λ e. same z refl e)
      by_type type.Int same = refl
      by_type type.Char same = refl
      by_type type.IntPtr same = refl
      by_type type.CharPtr same = refl

  omega_phi : (p x f : ℕ) → ((z : ℕ) → kind_of x ≡ type.StructPtr z → is_pointer (member_type g z f) ≡ true → t (v.omega p x (field_number g z f)) ≡ t (v.phi (field_number g z f))) → (m p).omega x f ≡ owning (phi_of b t) (kind_of x) f
  omega_phi p x f same = by_type (kind_of x) same
    where
      by_type : (ty : SlotType) → ((z : ℕ) → ty ≡ type.StructPtr z → is_pointer (member_type g z f) ≡ true → t (v.omega p x (field_number g z f)) ≡ t (v.phi (field_number g z f))) → open_at b t p x ty f ≡ owning (phi_of b t) ty f
      by_type (type.StructPtr z) same = and_same (is_pointer (member_type g z f)) (t (v.omega p x (field_number g z f))) (t (v.phi (field_number g z f))) (λ e. same z refl e)
      by_type type.Int same = refl
      by_type type.Char same = refl
      by_type type.IntPtr same = refl
      by_type type.CharPtr same = refl

  phi_is : (z f : ℕ) → is_pointer (member_type g z f) ≡ true → phi_of b t z f ≡ t (v.phi (field_number g z f))
  phi_is z f pointer = and_is (is_pointer (member_type g z f)) (t (v.phi (field_number g z f))) pointer

  -- what is open is a pointer member of the slot's struct
  record Opening (p x f : ℕ) : Type 0 where
    structure : ℕ
    slot : kind_of x ≡ type.StructPtr structure
    member : is_pointer (member_type g structure f) ≡ true
    open_ : t (v.omega p x (field_number g structure f)) ≡ true

  opening : (p x f : ℕ) → (m p).omega x f ≡ true → Opening p x f
  opening p x f om = by_type (kind_of x) refl om
    where
      by_type : (ty : SlotType) → kind_of x ≡ ty → open_at b t p x ty f ≡ true → Opening p x f
      by_type (type.StructPtr z) is om = let e = and_parts (is_pointer (member_type g z f)) (t (v.omega p x (field_number g z f))) om in record { structure = z; slot = is; member = e.0; open_ = e.1 }
      by_type type.Int is om = absurd (true≢false (sym om))
      by_type type.Char is om = absurd (true≢false (sym om))
      by_type type.IntPtr is om = absurd (true≢false (sym om))
      by_type type.CharPtr is om = absurd (true≢false (sym om))

  closed_zero : (p x f : ℕ) → held.IsClosed v s t p x → (m p).omega x f ≡ false
  closed_zero p x f closed = omega_zero p x f (λ z ty pointer. closed (field_number g z f) (has_field x z f ty pointer))

  closed_live : (p q x f : ℕ) → empty_in b.facts k p x ≡ false → (given.is_live v s p x ≡ true → held.IsClosed v s t q x) → (m q).omega x f ≡ false
  closed_live p q x f em closed = omega_zero q x f (λ z ty pointer. closed (live p x (struct_pointer x z ty) em) (field_number g z f) (has_field x z f ty pointer))

  -- Places

  base_rules : (p : ℕ) → held.PlaceHolds v s t p → BaseRules (phi_of b t) kind_of (m p) (known_at b.facts k p)
  base_rules p holds = record {
    bound = λ y f om.
        let o = opening p y f om in
        rw o.slot (phi_is o.structure f o.member ∙ holds.bound y (field_number g o.structure f) (slot_there y (struct_pointer y o.structure o.slot)) (has_field y o.structure f o.slot o.member) o.open_);
    one_base = λ y z f ne same fy fz oy oz. by_order y z f ne same fy fz (opening p y f oy) oz;
  }
    where
      once : (y z f : ℕ) → y < z → kind_of y ≡ kind_of z → fresh_in b.facts k p y ≡ false → fresh_in b.facts k p z ≡ false → Opening p y f → (m p).omega z f ≡ true → ⊥
      once y z f lt same fy fz o oz =
          let ty_z : kind_of z ≡ type.StructPtr o.structure = sym same ∙ o.slot in
          holds.one_base y z o.structure (field_number g o.structure f) (slot_there z (struct_pointer z o.structure ty_z)) lt (points y o.structure o.slot) (points z o.structure ty_z) fy fz
          (has_field y o.structure f o.slot o.member) o.open_ (sym (omega_is p z o.structure f ty_z o.member) ∙ oz)

      by_order : (y z f : ℕ) → y ≢ z → kind_of y ≡ kind_of z → fresh_in b.facts k p y ≡ false → fresh_in b.facts k p z ≡ false → Opening p y f → (m p).omega z f ≡ true → ⊥
      by_order y z f ne same fy fz o oz =
          by_bool (ltb y z)
          (λ e. once y z f (ltb_lt y z e) same fy fz o oz)
          (λ e. once z y f (ltb_ge y z e ne) (sym same) fz fy (opening p z f oz) (omega_is p y o.structure f o.slot o.member ∙ o.open_))
        where
          ltb_lt : (y z : ℕ) → ltb y z ≡ true → y < z
          ltb_lt y z e = ltb-true y z e

          ltb_ge : (y z : ℕ) → ltb y z ≡ false → y ≢ z → z < y
          ltb_ge y z e ne = let le = ltb-false y z e in omega (arith, ne)

  params_type : (x : ℕ) → x < length (flow_of g k).params → kind_of x ≡ type_in (flow_of g k).params x
  params_type x lt = front_type (flow_of g k).params (flow_of g k).slots x (graph.body k body).params lt

  entry_rules : (p : ℕ) → held.PlaceHolds v s t p → p ≡ 0 → EntryRules (phi_of b t) kind_of (m p) (known_at b.facts k p) (own_face b t) (length (flow_of g k).params)
  entry_rules p holds at = record {
    rho = λ x lt pointer.
        let here : is_pointer (type_in (flow_of g k).params x) ≡ true = rw (params_type x lt) at pointer in
        rho_is p x pointer ∙ (holds.entry at x lt pointer).rho ∙ sym (and_is (is_pointer (type_in (flow_of g k).params x)) (t (s.pi (s.param_part x))) here);
    omega = λ x f lt. omega_zero p x f (λ z ty pointer. (holds.entry at x lt (struct_pointer x z ty)).omega (field_number g z f) (has_field x z f ty pointer));
  }

  returns : (r : Option ℕ) (x : ℕ) → RetFits (flow_of g k) r → r ≡ Some x → is_pointer (kind_of x) ≡ true → returns_pointer (flow_of g k).result ≡ true
  returns None x fit is pointer = cc
  returns (Some y) x fit is pointer =
      let same : y ≡ x = cc in
      let ty : kind_of x ≡ fit.0 = rw (← same) (at_get (flow_of g k).slots y fit.0 type.Int fit.2) in
      rw fit.1 (rw ty at pointer)

  exit_rules : (p : ℕ) → held.PlaceHolds v s t p → p ≡ out_of g k → ExitRules (phi_of b t) kind_of (m p) (known_at b.facts k p) (own_face b t) (flow_of g k).ret
  exit_rules p holds at = record {
    result = λ x is pointer em.
        let it : is_it (flow_of g k).ret x ≡ true = rw is (eq-eqb x x refl) in
        let back = returns (flow_of g k).ret x (graph.body k body).ret is pointer in
        rho_is p x pointer ∙ (holds.exit at x (slot_there x pointer) (live p x pointer em)).result it ∙ sym (and_is (returns_pointer (flow_of g k).result) (t (s.pi 0)) back);
    rho = λ x off pointer em. rho_is p x pointer ∙ (holds.exit at x (slot_there x pointer) (live p x pointer em)).rho off;
    omega = λ x f em. closed_live p p x f em (λ l. (holds.exit at x (by_live p x l) l).omega);
  }
    where
      by_live : (p x : ℕ) → given.is_live v s p x ≡ true → x < v.slots
      by_live p x l = slot_there x (and_parts (is_pointer (kind_of x)) (not (v.empty p x)) l).0

  pub place_holds : (p : ℕ) → held.PlaceHolds v s t p → PlaceHolds g b.facts (phi_of b t) k p (m p) (own_face b t)
  place_holds p holds = record { base = base_rules p holds; entry = entry_rules p holds; exit = exit_rules p holds }

  -- Edges: what an action leaves alone

  field_at : (y n w : ℕ) → kind_of y ≡ type.StructPtr w → s.field_at y n ≡ field_number g w n
  field_at y n w ty = ap (λ (o : Option ℕ). field_behind g o n) (points y w ty)

  struct_same : (z w : ℕ) → type.StructPtr z ≡ type.StructPtr w → z ≡ w
  struct_same z w e = cc

  -- another member of the same slot, or another slot
  field_apart : (y n w : ℕ) → kind_of y ≡ type.StructPtr w → is_pointer (member_type g w n) ≡ true → (x f z : ℕ) → kind_of x ≡ type.StructPtr z → is_pointer (member_type g z f) ≡ true → (eqb x y && eqb f n) ≡ false
      → given.field_of_it s y n x (field_number g z f) ≡ false
  field_apart y n w ty_y mem_y x f z ty_x mem_x free =
      ⊎_elim
      (λ (is : x ≡ y).
      let same : z ≡ w = struct_same z w (sym ty_x ∙ ap kind_of is ∙ ty_y) in
      let f_n : (f ≡ n → ⊥) = λ e. differ {P = ⊥} (eqb x y && eqb f n) (rw (eq-eqb x y is, eq-eqb f n e) refl) free in
      let off : field_number g z f ≡ s.field_at y n → ⊥ = λ e. f_n ((numbered.apart w f w n (pointer_member w f (rw same at mem_x)) (pointer_member w n mem_y) (ap (λ (c : ℕ). field_number g c f) (sym same) ∙ e ∙ field_at y n w ty_y)).1) in
      rw (ne_eqb (field_number g z f) (s.field_at y n) off) (off_and (eqb x y)))
      (λ (ne : x ≡ y → ⊥). rw (ne_eqb x y ne) refl)
      (cases_eq x y)
    where
      off_and : (c : Bool) → (c && false) ≡ false
      off_and true = refl
      off_and false = refl

  -- the member that an action names
  record Named (y n : ℕ) : Type 0 where
    structure : ℕ
    slot : kind_of y ≡ type.StructPtr structure
    member : is_pointer (member_type g structure n) ≡ true

  named : (y n : ℕ) (ty : SlotType) → HasMember g (flow_of g k).slots y n ty → is_pointer ty ≡ true → Named y n
  named y n ty has pointer = record {
    structure = has.structure;
    slot = at_get (flow_of g k).slots y (type.StructPtr has.structure) type.Int has.base;
    member = rw (at_get (members_of g has.structure) n ty type.Int has.member) pointer;
  }

  free_parts : (a : Action) → ActionFits g (flow_of g k).slots a → (x f z : ℕ) → kind_of x ≡ type.StructPtr z → is_pointer (member_type g z f) ≡ true → frees_omega a x f ≡ false
      → (given.frees_slot a x ≡ false) × (given.frees_field v s a x (field_number g z f) ≡ false)
  free_parts (act.Unset y) fits x f z ty mem free = (free, refl)
  free_parts (act.Null y) fits x f z ty mem free = (free, refl)
  free_parts (act.Text y n) fits x f z ty mem free = (free, refl)
  free_parts (act.New y zeroed kind count) fits x f z ty mem free = (free, refl)
  free_parts (act.Copy y w) fits x f z ty mem free = (free, refl)
  free_parts (act.Free y) fits x f z ty mem free = (free, refl)
  free_parts (act.Call r callee us) fits x f z ty mem free = (free, refl)
  free_parts (act.Load w y n) fits x f z ty mem free =
      let p = or_parts (eqb x w) (eqb x y && eqb f n) free in
      let at = named y n fits.1.type fits.1.has fits.1.pointer in
      (p.0, field_apart y n at.structure at.slot at.member x f z ty mem p.1)
  free_parts (act.Store y n w) fits x f z ty mem free =
      let at = named y n fits.type fits.has fits.pointer in
      (refl, field_apart y n at.structure at.slot at.member x f z ty mem free)
  free_parts (act.FieldNull y n) fits x f z ty mem free =
      let at = named y n fits.type fits.has fits.pointer in
      (refl, field_apart y n at.structure at.slot at.member x f z ty mem free)
  free_parts a fits x f z ty mem free = (refl, refl)

  same_rules : (p q : ℕ) (a : Action) → ActionFits g (flow_of g k).slots a → held.SameHolds v s t p q a → Same g (phi_of b t) kind_of (m p) (m q) (known_at b.facts k p) a
  same_rules p q a fits holds = record {
    rho = λ x pointer em free. rho_is q x pointer ∙ sym (holds.rho x (slot_there x pointer) pointer em (rho_free a x ∙ free)) ∙ sym (rho_is p x pointer);
    omega = λ x f pointer em free. omega_same p q x f (λ z ty mem.
        let parts = free_parts a fits x f z ty mem free in
        sym (holds.omega x (field_number g z f) (slot_there x pointer) pointer em parts.0 (has_field x z f ty mem) parts.1));
  }

  -- Calls

  taken_is : (hb : Bool) (w : ℕ) → held.taken v s t (cond hb (Some w) None) ≡ (hb && t w)
  taken_is true w = refl
  taken_is false w = refl

  -- the entry of an argument
  args_each : (Q : ℕ → Option ℕ → Type 0) (p callee i n : ℕ) (us : List ℕ) (ps : List SlotType) → ArgsFit (flow_of g k).slots us ps → Each (λ (a : Passed). Q a.slot a.sigma) (given.args_from v s p callee i n us)
      → (j u c : ℕ) → arg_at us j ≡ Some u → is_pointer (kind_of u) ≡ true → c ≡ i + pointer_count (take j ps) → Q u (cond (s.has_body callee) (Some (s.part p callee c)) None)
  args_each Q p callee i n [] ps fit each j u c at pointer e = cc
  args_each Q p callee i n (w ∷ us) [] fit each j u c at pointer e = absurd fit
  args_each Q p callee i n (w ∷ us) (ty ∷ ps) fit each zero u c at pointer e =
      let same : w ≡ u = cc in
      let here : is_pointer (kind_of w) ≡ true = rw same pointer in
      let c_i : c ≡ i = omega (arith, e) in
      rw (c_i, ← same) ((rw here at each).0)
  args_each Q p callee i n (w ∷ us) (ty ∷ ps) fit each (suc j) u c at pointer e =
      let kind_w : kind_of w ≡ fit.0.type = at_get (flow_of g k).slots w fit.0.type type.Int fit.0.is in
      let goes : is_pointer (kind_of w) ≡ is_pointer ty = ap is_pointer kind_w ∙ goes_pointer fit.0.type ty fit.0.goes in
      by_bool (is_pointer (kind_of w))
      (λ on. let next = count_next ty ps j (sym goes ∙ on) in args_each Q p callee (suc i) (suc n) us ps fit.1 ((rw on at each).1) j u c at pointer (omega (arith, e, next)))
      (λ off. let next = count_stays ty ps j (sym goes ∙ off) in args_each Q p callee i (suc n) us ps fit.1 (rw off at each) j u c at pointer (omega (arith, e, next)))

  arg_is : (p callee i n : ℕ) (us : List ℕ) (y : ℕ) → is_in us y ≡ true → is_pointer (kind_of y) ≡ true → is_arg (given.call_args (given.args_from v s p callee i n us)) y ≡ true
  arg_is p callee i n [] y e pointer = absurd (true≢false (sym e))
  arg_is p callee i n (w ∷ us) y e pointer =
      ⊎_elim
      (λ (is : eqb y w ≡ true). let same = eqb-true y w is in rw (← same, pointer, eq-eqb y y refl) refl)
      (λ (rest : is_in us y ≡ true).
      by_bool (is_pointer (kind_of w))
      (λ on. rw on (or_on (eqb w y) _ (arg_is p callee (suc i) (suc n) us y rest pointer)))
      (λ off. rw off (arg_is p callee i (suc n) us y rest pointer)))
      (or_cases (eqb y w) (is_in us y) e)
    where
      or_on : (c d : Bool) → d ≡ true → (c || d) ≡ true
      or_on true d e = refl
      or_on false d e = e

  arg_not : (p callee i n : ℕ) (us : List ℕ) (y : ℕ) → is_in us y ≡ false → is_arg (given.call_args (given.args_from v s p callee i n us)) y ≡ false
  arg_not p callee i n [] y e = refl
  arg_not p callee i n (w ∷ us) y e =
      let parts = or_parts (eqb y w) (is_in us y) e in
      let w_y : eqb w y ≡ false = ne_eqb w y (λ is. true≢false (sym (eq-eqb y w (sym is)) ∙ parts.0)) in
      by_bool (is_pointer (kind_of w))
      (λ on. rw (on, w_y) (arg_not p callee (suc i) (suc n) us y parts.1))
      (λ off. rw off (arg_not p callee i (suc n) us y parts.1))

  each_map : (P : CallArg → Type 0) (us : List Passed) → Each P (given.call_args us) → Each (λ (a : Passed). P (record { slot = a.slot; sigma = a.sigma })) us
  each_map P [] each = tt
  each_map P (a ∷ us) each = (each.0, each_map P us each.1)

  result_of : (p q callee : ℕ) (r : Option ℕ) → held.ResultsHold v s t p q callee r → (x : ℕ) → r ≡ Some x → held.ResultHolds v s t p q callee x
  result_of p q callee None holds x is = cc
  result_of p q callee (Some y) holds x is = let same : y ≡ x = cc in rw (← same) holds

  result_pointer : (r : Option ℕ) (result : Option SlotType) (x : ℕ) → ResultFits (flow_of g k).slots r result → r ≡ Some x → is_pointer (kind_of x) ≡ true → returns_pointer result ≡ true
  result_pointer None result x fits is pointer = cc
  result_pointer (Some y) None x fits is pointer = absurd fits
  result_pointer (Some y) (Some u) x fits is pointer =
      let same : y ≡ x = cc in
      let ty : kind_of x ≡ fits.0 = rw (← same) (at_get (flow_of g k).slots y fits.0 type.Int fits.1) in
      goes_pointer u fits.0 fits.2 ∙ ap is_pointer (sym ty) ∙ pointer

  target_rules : (p q x : ℕ) → held.Target v s t p x → Target g (phi_of b t) kind_of (m p) (m q) (known_at b.facts k p) x
  target_rules p q x holds = record {
    rho = λ em. rho_zero p x (λ pointer. (holds (live p x pointer em)).rho);
    omega = λ f em. closed_live p p x f em (λ l. (holds l).omega);
  }

  -- a face's part of an argument
  param_is : (p callee : ℕ) (us : List ℕ) → ArgsFit (flow_of g k).slots us (flow_of g callee).params → (j u : ℕ) → arg_at us j ≡ Some u → is_pointer (kind_of u) ≡ true
      → held.taken v s t (cond (has_body g callee) (Some (s.part p callee (1 + pointer_count (take j (flow_of g callee).params)))) None) ≡ (has_body g callee && (callee_face b t p callee).param j)
  param_is p callee us fit j u at pointer =
      let w = s.part p callee (1 + pointer_count (take j (flow_of g callee).params)) in
      let a = arg_goes (flow_of g k).slots us (flow_of g callee).params j u fit at in
      let kind_u : kind_of u ≡ a.type = at_get (flow_of g k).slots u a.type type.Int a.is in
      let here : is_pointer (type_in (flow_of g callee).params j) ≡ true = sym (goes_pointer a.type (type_in (flow_of g callee).params j) a.goes) ∙ ap is_pointer (sym kind_u) ∙ pointer in
      taken_is (has_body g callee) w ∙ ap (λ (c : Bool). has_body g callee && c) (sym (and_is (is_pointer (type_in (flow_of g callee).params j)) (t w) here))

  call_rules : (p q : ℕ) (r : Option ℕ) (callee : ℕ) (us : List ℕ) → CallFits g (flow_of g k).slots r callee us → held.CallHolds v s t p q callee r (given.args v s p callee us)
      → CallRules g (phi_of b t) kind_of (m p) (m q) (known_at b.facts k p) (callee_face b t p callee) (has_body g callee) r us
  call_rules p q r callee us fits holds = record {
    target = λ x is. target_rules p q x (result_of p q callee r holds.result x is).target;
    closed = λ x f is. closed_zero q x f (result_of p q callee r holds.result x is).closed;
    arg = λ j u at pointer em.
        rho_is p u pointer
        ∙ args_each (λ x w. x < v.slots → v.empty p x ≡ false → t (v.rho p x) ≡ held.taken v s t w) p callee 1 1 us (flow_of g callee).params fits.args holds.args j u (1 + pointer_count (take j (flow_of g callee).params)) at pointer refl (slot_there u pointer) em
        ∙ param_is p callee us fits.args j u at pointer;
    result = λ x is pointer.
        rho_is q x pointer ∙ (result_of p q callee r holds.result x is).result pointer
        ∙ sym (and_is (returns_pointer (flow_of g callee).result) (t (s.part p callee 0)) (result_pointer r (flow_of g callee).result x fits.result is pointer));
    arg_closed = λ u f i em. omega_zero p u f (λ z ty mem.
        let pointer = struct_pointer u z ty in
        (holds.closed u (slot_there u pointer)).arg (arg_is p callee 1 1 us u i pointer) em (field_number g z f) (has_field u z f ty mem));
    call_closed = λ y f off fr om.
        let o = opening p y f om in
        let pointer = struct_pointer y o.structure o.slot in
        let seal = (holds.closed y (slot_there y pointer)).other (arg_not p callee 1 1 us y off) fr o.structure (points y o.structure o.slot) (field_number g o.structure f) (has_field y o.structure f o.slot o.member) o.open_ in
        record {
          owns = rho_is p y pointer ∙ seal.owns;
          fields = λ z n same.
              let ty : member_type g z n ≡ type.StructPtr o.structure = same ∙ o.slot in
              let is : is_pointer (member_type g z n) ≡ true = ap is_pointer ty in
              let leads : v.field_to (field_number g z n) ≡ Some o.structure = numbered.target z n (pointer_member z n is) ∙ ap points_to ty in
              phi_is z n is ∙ seal.fields (field_number g z n) (numbered.above z n (pointer_member z n is), numbered.within z n (pointer_member z n is)) (rw leads (eq-eqb o.structure o.structure refl));
          args = λ j u at same em.
              let ty : kind_of u ≡ type.StructPtr o.structure = same ∙ o.slot in
              let pointer_u = struct_pointer u o.structure ty in
              let each = each_map (λ (a : CallArg). leads_to (v.structure a.slot) o.structure ≡ true → v.empty p a.slot ≡ false → held.taken v s t a.sigma ≡ true) (given.args v s p callee us) seal.args in
              sym (param_is p callee us fits.args j u at pointer_u)
              ∙ args_each (λ x w. leads_to (v.structure x) o.structure ≡ true → v.empty p x ≡ false → held.taken v s t w ≡ true) p callee 1 1 us (flow_of g callee).params fits.args each j u (1 + pointer_count (take j (flow_of g callee).params)) at pointer_u refl
              (rw (points u o.structure ty) (eq-eqb o.structure o.structure refl)) em;
        };
  }

  -- All actions

  action_rules : (p q : ℕ) (a : Action) → ActionFits g (flow_of g k).slots a → held.ActionHolds v s t p q a → Rules g (phi_of b t) kind_of (m p) (m q) (known_at b.facts k p) (callee_face b t p) a
  action_rules p q (act.Unset x) fits holds = target_rules p q x holds
  action_rules p q (act.Null x) fits holds = target_rules p q x holds
  action_rules p q (act.Text x n) fits holds = record { target = target_rules p q x holds.target; owns = rho_zero q x (λ _. holds.owns) }
  action_rules p q (act.Copy x y) fits holds =
      let px = pointer_at x fits.1.type fits.1.first fits.1.pointer in
      let py = pointer_at y fits.1.type fits.1.second fits.1.pointer in
      record {
        target = target_rules p q x holds.target;
        splits = λ em.
            let e = holds.splits (live p y py em) in
            let a1 = ap bit (rho_is q x px) in
            let a2 = ap bit (rho_is q y py) in
            let a3 = ap bit (rho_is p y py) in
            omega arith;
        closed = λ f em. closed_zero q x f (holds.closed (live p y py em));
      }
  action_rules p q (act.New x zeroed kind count) fits holds = record { target = target_rules p q x holds.target; owns = rho_is q x (pointer_at x (made_type kind) fits.0 (made_pointer kind)) ∙ holds.owns }
  action_rules p q (act.Free x) fits holds =
      let px = pointer_at x fits.type fits.is fits.pointer in
      record {
        owns = λ em. rho_is p x px ∙ holds.owns (live p x px em);
        opened = λ f em. omega_phi p x f (λ z ty mem. holds.opened em (field_number g z f) (has_field x z f ty mem));
        rho = λ em. rho_zero q x (λ _. (holds.after (live p x px em)).rho);
        omega = λ f em. closed_zero q x f (holds.after (live p x px em)).omega;
      }
  action_rules p q (act.Load x y n) fits holds =
      let px = pointer_at x fits.1.type fits.1.slot fits.1.pointer in
      let at = named y n fits.1.type fits.1.has fits.1.pointer in
      let e : bit (t (v.rho q x)) + bit (t (v.omega p y (field_number g at.structure n))) ≡ bit (t (v.omega q y (field_number g at.structure n))) = rw (field_at y n at.structure at.slot) at holds.opens in
      let a1 = ap bit (rho_is q x px) in
      let a2 = ap bit (omega_is p y at.structure n at.slot at.member) in
      let a3 = ap bit (omega_is q y at.structure n at.slot at.member) in
      record {
        target = target_rules p q x holds.target;
        closed = λ f. closed_zero q x f holds.closed;
        opens = omega arith;
      }
  action_rules p q (act.Store y n x) fits holds =
      let px = pointer_at x fits.type fits.slot fits.pointer in
      let at = named y n fits.type fits.has fits.pointer in
      let owning_is : owning (phi_of b t) (kind_of y) n ≡ t (v.phi (field_number g at.structure n)) = rw at.slot (phi_is at.structure n at.member) in
      record {
        opened = omega_is p y at.structure n at.slot at.member ∙ (rw (field_at y n at.structure at.slot) at holds.opened) ∙ sym owning_is;
        moves = λ em.
            let e : bit (t (v.rho q x)) + bit (t (v.phi (field_number g at.structure n))) ≡ bit (t (v.rho p x)) + bit (t (v.omega q y (field_number g at.structure n))) = rw (field_at y n at.structure at.slot) at (holds.moves em) in
            let a1 = ap bit (rho_is q x px) in
            let a2 = ap bit (rho_is p x px) in
            let a3 = ap bit (omega_is q y at.structure n at.slot at.member) in
            let a4 = ap bit owning_is in
            omega arith;
      }
  action_rules p q (act.Call r callee us) fits holds = call_rules p q r callee us fits holds
  action_rules p q a fits holds = tt

  pub edge_holds : (p : ℕ) (e : Edge) → EdgeFits g k e → held.EdgeHolds v s t p e → EdgeHolds g (phi_of b t) kind_of (m p) (m e.to) (known_at b.facts k p) (callee_face b t p) e.action
  edge_holds p e fits holds = record { same = same_rules p e.to e.action fits.action holds.same; rules = action_rules p e.to e.action fits.action holds.rules }

  -- All of a procedure

  pub edges_hold : (p : ℕ) → p < v.places → held.ProcHolds v s t → All (λ (e : Edge). EdgeHolds g (phi_of b t) kind_of (m p) (m e.to) (known_at b.facts k p) (callee_face b t p) e.action) (edges_from g k p)
  edges_hold p lt holds i d li = edge_holds p (slice_index_or (edges_from g k p) i d) ((graph.body k body).fits p i d li) (each_all (held.EdgeHolds v s t p) (edges_from g k p) (holds.edges p lt) i d li)

  pub places_hold : (p : ℕ) → p < v.places → held.ProcHolds v s t → PlaceHolds g b.facts (phi_of b t) k p (m p) (own_face b t)
  places_hold p lt holds = place_holds p (holds.places p lt)
