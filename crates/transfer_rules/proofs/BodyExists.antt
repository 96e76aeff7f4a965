-- In a flow graph all that the edges of a body speak of exists.
use Rattle.std.proofs.Common.{◌≡◌, ℕ, zero, suc, ◌+◌, ◌<◌, ◌≤◌, Bool, true, false, cond, ◌&&◌, ◌||◌, List, [], ◌∷◌, ◌++◌, length, take, Option, Some, None, refl, sym, ap, subst, ◌∙◌, arith, eqb, ltb}
use Rattle.std.proofs.lemmas.Bool.{eq-eqb, eqb-false, ltb-false, ltb-true}
use Rattle.std.proofs.lemmas.Option.{get_or_from_slice_get, slice_get_within, slice_get-get_or}
use Rattle.std.proofs.lemmas.List.Elements.{All-nil, All-cons, All-head, All-tail}
use Rattle.std.proofs.lemmas.List.Sums.{sum_by-cons}
use Rattle.std.specs.Prelude.{slice_get, slice_index_or, sum_by, ⊤, IfSome}
use Rattle.std.specs.List.{All}
use Rattle.c_types.specs.declared.kinds.SlotType.{SlotType}
use Rattle.c_types.specs.declared.kinds.SlotType.TheVariants as type
use Rattle.c_types.specs.Types.{is_pointer}
use Rattle.flow_graph.specs.declared.action.Action.{Action}
use Rattle.flow_graph.specs.declared.action.Action.TheVariants as act
use Rattle.flow_graph.specs.declared.action.Edge.{Edge}
use Rattle.flow_graph.specs.declared.action.NewKind.{NewKind}
use Rattle.flow_graph.specs.declared.action.NewKind.TheVariants as new
use Rattle.flow_graph.specs.FlowGraph.{Flow, FlowGraph, flow_of, has_body, edges_from, members_of, member_type}
use Rattle.flow_graph.specs.Fits.{is_in, pointer_count, IsFlowGraph, IsBody, IsExternal, EdgeFits, ActionFits, CallFits, ArgsFit, SlotGoesTo, GoesTo, ResultFits, RetFits, AreWays, TypeExists, out_of}
use Rattle.flow_graph.specs.Fits as fits
use Rattle.owner_vars.specs.Unknowns.{count_from, returns_pointer}
use Rattle.owner_vars.specs.Fields.{points_to, field_number}
use Rattle.field_rules.specs.Sight.{Sight, HasPointer, HasField, HasOmega, IsField, RangesExist}
use Rattle.transfer_rules.specs.Body.{Body, Setting, sight, setting, slot_kind, field_behind, is_field_behind, has_part, calls, is_called}
use Rattle.transfer_rules.specs.Exist.{FewArgs, HasMember, SourceExists, MemberExists, IsSight, pointer_args, ResultExists, ActionExists, WayExists, EdgesExist}

-- Counts

abbrev bit : Bool → ℕ
bit b = cond b 1 0

count_before : (ts : List SlotType) (m : ℕ) (t : SlotType) → slice_get ts m ≡ Some t → is_pointer t ≡ true → pointer_count (take m ts) < pointer_count ts
count_before [] m t e is = absurd (none t e)
  where
    none : (t : SlotType) → None ≡ Some t → ⊥
    none t h = cc
count_before (k ∷ ts) zero t e is =
    let same : k ≡ t = cc in
    let one : bit (is_pointer k) ≡ 1 = ap (λ (z : SlotType). bit (is_pointer z)) same ∙ ap bit is in
    omega (arith, one)
count_before (k ∷ ts) (suc m) t e is = let h = count_before ts m t e is in omega arith

sum_le : (xs : List (List SlotType)) (s : ℕ) → sum_by pointer_count (take s xs) + pointer_count (slice_index_or xs s []) ≤ sum_by pointer_count xs
sum_le [] zero = omega arith
sum_le [] (suc s) = omega arith
sum_le (x ∷ xs) zero = omega (arith, sum_by-cons pointer_count x xs)
sum_le (x ∷ xs) (suc s) = omega (arith, sum_le xs s, sum_by-cons pointer_count x xs, sum_by-cons pointer_count x (take s xs))

get_take : {X : Type 0} (n : ℕ) (xs : List X) (x : ℕ) → x < n → slice_get (take n xs) x ≡ slice_get xs x
get_take zero xs x lt = absurd (omega arith)
get_take (suc n) [] x lt = refl
get_take (suc n) (y ∷ ys) zero lt = refl
get_take (suc n) (y ∷ ys) (suc x) lt = get_take n ys x (omega arith)

take_le : {X : Type 0} (n : ℕ) (xs : List X) → length (take n xs) ≤ length xs
take_le zero xs = omega arith
take_le (suc n) [] = omega arith
take_le (suc n) (x ∷ xs) = let h = take_le n xs in omega arith

or_true : (b : Bool) → (b || true) ≡ true
or_true true = refl
or_true false = refl

or_more : (b x y : Bool) → (x ≡ true → y ≡ true) → (b || x) ≡ true → (b || y) ≡ true
or_more true x y f h = refl
or_more false x y f h = f h

in_left : (us ws : List ℕ) (i : ℕ) → is_in us i ≡ true → is_in (us ++ ws) i ≡ true
in_left [] ws i h = absurd (differ h)
  where
    differ : false ≡ true → ⊥
    differ e = cc
in_left (u ∷ us) ws i h = or_more (eqb i u) (is_in us i) (is_in (us ++ ws) i) (λ k. in_left us ws i k) h

in_right : (us ws : List ℕ) (i : ℕ) → is_in ws i ≡ true → is_in (us ++ ws) i ≡ true
in_right [] ws i h = h
in_right (u ∷ us) ws i h = ap (λ b. eqb i u || b) (in_right us ws i h) ∙ or_true (eqb i u)

here_or_later : (i a : ℕ) (rest : Bool) → a ≤ i → (suc a ≤ i → rest ≡ true) → (eqb i a || rest) ≡ true
here_or_later i a rest le f = by (eqb i a) refl
  where
    by : (b : Bool) → eqb i a ≡ b → (b || rest) ≡ true
    by true e = refl
    by false e = let ne = eqb-false i a e in f (omega arith)

pub in_count : (a n i : ℕ) → a ≤ i → i < a + n → is_in (count_from a n) i ≡ true
in_count a zero i le lt = absurd (omega arith)
in_count a (suc n) i le lt = here_or_later i a (is_in (count_from (suc a) n) i) le (λ later. in_count (suc a) n i later (omega arith))

made_pointer : (n : NewKind) → is_pointer (fits.made_type n) ≡ true
made_pointer (new.Struct n) = refl
made_pointer new.Ints = refl
made_pointer new.Chars = refl

param_there : (f : Flow) (i : ℕ) → 0 < i → i ≤ pointer_count f.params → has_part f i ≡ true
param_there f i some le = in_left (count_from 1 (pointer_count f.params)) _ i (in_count 1 (pointer_count f.params) i (omega arith) (omega arith))

result_there : (f : Flow) → returns_pointer f.result ≡ true → has_part f 0 ≡ true
result_there f is = in_right (count_from 1 (pointer_count f.params)) _ 0 (rw is refl)

goes_pointer : (s t : SlotType) → GoesTo s t → is_pointer s ≡ is_pointer t
goes_pointer type.Int t h = sym h
goes_pointer type.Char t h = sym h
goes_pointer type.IntPtr t h = ap is_pointer h
goes_pointer type.CharPtr t h = ap is_pointer h
goes_pointer (type.StructPtr n) t h = ap is_pointer h

points_pointer : (k : SlotType) (t : ℕ) → points_to k ≡ Some t → is_pointer k ≡ true
points_pointer type.Int t h = cc
points_pointer type.Char t h = cc
points_pointer type.IntPtr t h = refl
points_pointer type.CharPtr t h = refl
points_pointer (type.StructPtr n) t h = refl

struct_there : (g : FlowGraph) (k : SlotType) (t : ℕ) → TypeExists g k → points_to k ≡ Some t → t < length g.structs
struct_there g type.Int t there e = cc
struct_there g type.Char t there e = cc
struct_there g type.IntPtr t there e = cc
struct_there g type.CharPtr t there e = cc
struct_there g (type.StructPtr n) t there e =
    let same : n ≡ t = cc in
    subst (λ i. i < length g.structs) same there

or_left : (x y : Bool) → x ≡ true → (x || y) ≡ true
or_left x y e = ap (λ z. z || y) e

or_right : (x y : Bool) → y ≡ true → (x || y) ≡ true
or_right x y e = ap (λ z. x || z) e ∙ or_true x

-- an action that is a call calls what one of these edges does
abbrev CalledIn : List Edge → Action → Type 0
CalledIn all (act.Call r callee us) = is_called all callee ≡ true
CalledIn all _ = ⊤

called_action : (all : List Edge) (a : Action) → ((c : ℕ) → calls a c ≡ true → is_called all c ≡ true) → CalledIn all a
called_action all (act.Call r callee us) f = f callee (eq-eqb callee callee refl)
called_action all act.Skip f = tt
called_action all (act.Set x c) f = tt
called_action all (act.Move x a) f = tt
called_action all (act.Unset x) f = tt
called_action all (act.Null x) f = tt
called_action all (act.Text x n) f = tt
called_action all (act.Copy x y) f = tt
called_action all (act.Neg x a) f = tt
called_action all (act.Arith x op a c) f = tt
called_action all (act.Get x y m) f = tt
called_action all (act.Load x y m) f = tt
called_action all (act.At x y i) f = tt
called_action all (act.New x zeroed kind count) f = tt
called_action all (act.Free x) f = tt
called_action all (act.Store y m x) f = tt
called_action all (act.Put y m x) f = tt
called_action all (act.PutAt y i x) f = tt
called_action all (act.IsNull x) f = tt
called_action all (act.NotNull x) f = tt
called_action all (act.FieldNull y m) f = tt
called_action all (act.FieldSet y m) f = tt
called_action all (act.NonZero x) f = tt
called_action all (act.Zero x) f = tt
called_action all (act.Equal x y) f = tt
called_action all (act.Differ x y) f = tt

module _ (b : Body) (graph : IsFlowGraph b.graph) (here : b.proc < b.graph.bodies) where
  abbrev g : FlowGraph
  g = b.graph

  abbrev k : ℕ
  k = b.proc

  abbrev ts : List SlotType
  ts = (flow_of b.graph b.proc).slots

  abbrev v : Sight
  v = sight b

  abbrev s : Setting
  s = setting b

  body : IsBody b.graph b.proc
  body = graph.body b.proc here

  kind : (x : ℕ) (t : SlotType) → slice_get ts x ≡ Some t → slot_kind b x ≡ t
  kind x t e = get_or_from_slice_get ts x t type.Int e

  within : (x : ℕ) (t : SlotType) → slice_get ts x ≡ Some t → x < v.slots
  within x t e = slice_get_within ts x t e

  pointer : (p x : ℕ) (t : SlotType) → p < v.places → slice_get ts x ≡ Some t → is_pointer t ≡ true → HasPointer v p x
  pointer p x t lt e is = record { place = lt; slot = within x t e; pointer = ap is_pointer (kind x t e) ∙ is }

  module _ (y m : ℕ) (t : SlotType) (h : fits.HasMember b.graph ts y m t) where
    points : points_to (slot_kind b y) ≡ Some h.structure
    points = ap points_to (kind y (type.StructPtr h.structure) h.base)

    member : is_pointer t ≡ true → HasMember v s y m
    member is =
        let at : member_type b.graph h.structure m ≡ t = get_or_from_slice_get (members_of b.graph h.structure) m t type.Int h.member in
        record { slot = within y (type.StructPtr h.structure) h.base; member = ap (λ o. is_field_behind b.graph o m) points ∙ ap is_pointer at ∙ is }

    field : is_pointer t ≡ true → HasField v y (s.field_at y m)
    field is =
        let e : s.field_at y m ≡ field_number b.graph h.structure m = ap (λ o. field_behind b.graph o m) points in
        let lt = count_before (members_of b.graph h.structure) m t h.member is in
        record { structure = h.structure; is = points; from = omega arith; to = omega arith }

    omega_here : (p : ℕ) → p < v.places → is_pointer t ≡ true → HasOmega v p y (s.field_at y m)
    omega_here p lt is = record { place = lt; slot = within y (type.StructPtr h.structure) h.base; field = field is }

    is_field : is_pointer t ≡ true → IsField v (s.field_at y m)
    is_field is =
        let e : s.field_at y m ≡ field_number b.graph h.structure m = ap (λ o. field_behind b.graph o m) points in
        let lt = count_before (members_of b.graph h.structure) m t h.member is in
        let le = sum_le b.graph.structs h.structure in
        (omega arith, omega arith)

  ranges : RangesExist v
  ranges r j lt = let le = sum_le b.graph.structs r in (omega arith, omega arith)

  param_is : (x : ℕ) → x < s.params → slice_get (flow_of b.graph b.proc).params x ≡ Some (slot_kind b x)
  param_is x lt =
      let n = length (flow_of b.graph b.proc).params in
      let long = take_le n ts in
      let e = ap length body.params in
      let up : x < length ts = omega arith in
      ap (λ us. slice_get us x) (sym body.params) ∙ get_take n ts x lt ∙ slice_get-get_or ts x type.Int up

  exit_there : (x : ℕ) → s.ret ≡ Some x → v.pointer x ≡ true → s.has_pi 0 ≡ true
  exit_there x e is =
      let h = subst (RetFits (flow_of b.graph b.proc)) e body.ret in
      result_there (flow_of b.graph b.proc) (ap returns_pointer h.1 ∙ ap is_pointer (sym (kind x h.0 h.2)) ∙ is)

  pub is_sight : IsSight v s
  is_sight = record {
    ranges = ranges;
    pointers = record {
      pointer = λ x t e. points_pointer (slot_kind b x) t e;
      structure = λ x t lt e. struct_there b.graph (slot_kind b x) t (body.types x type.Int lt) e;
    };
    params = (let long = take_le (length (flow_of b.graph b.proc).params) ts in let e = ap length body.params in omega arith);
    entry = λ x lt is.
        (let less = count_before (flow_of b.graph b.proc).params x (slot_kind b x) (param_is x lt) is in
        param_there (flow_of b.graph b.proc) (s.param_part x) (omega arith) (omega arith));
    exit = exit_there;
  }

  -- Calls

  args_slots : (us : List ℕ) (ps : List SlotType) → ArgsFit ts us ps → All (λ u. u < v.slots) us
  args_slots [] ps h = All-nil (λ u. u < v.slots)
  args_slots (u ∷ us) [] h = absurd h
  args_slots (u ∷ us) (q ∷ ps) h = All-cons (λ w. w < v.slots) u us (within u h.0.type h.0.is) (args_slots us ps h.1)

  args_count : (us : List ℕ) (ps : List SlotType) → ArgsFit ts us ps → pointer_args v s us ≡ pointer_count ps
  args_count [] [] h = refl
  args_count [] (q ∷ ps) h = absurd h
  args_count (u ∷ us) [] h = absurd h
  args_count (u ∷ us) (q ∷ ps) h =
      let same : is_pointer (slot_kind b u) ≡ is_pointer q = ap is_pointer (kind u h.0.type h.0.is) ∙ goes_pointer h.0.type q h.0.goes in
      let one : bit (is_pointer (slot_kind b u)) ≡ bit (is_pointer q) = ap bit same in
      let more = args_count us ps h.1 in
      omega (arith, one, more)

  both_hold : (x y : Bool) → x ≡ true → y ≡ true → (x && y) ≡ true
  both_hold x y e f = rw (e, f) refl

  arg_parts : (p callee : ℕ) (us : List ℕ) → is_called (s.edges p) callee ≡ true → ArgsFit ts us (flow_of b.graph callee).params → (i : ℕ) → 0 < i → i ≤ pointer_args v s us → s.has_body callee ≡ true → s.has_part p callee i ≡ true
  arg_parts p callee us called h i some le is =
      let e = args_count us (flow_of b.graph callee).params h in
      both_hold (has_body b.graph callee) (is_called (s.edges p) callee && has_part (flow_of b.graph callee) i) is
      (both_hold (is_called (s.edges p) callee) (has_part (flow_of b.graph callee) i) called (param_there (flow_of b.graph callee) i some (omega arith)))

  -- an external procedure returns no pointer
  returns_body : (callee : ℕ) (t : SlotType) → callee < length b.graph.procs → (flow_of b.graph callee).result ≡ Some t → is_pointer t ≡ true → has_body b.graph callee ≡ true
  returns_body callee t there e is = by (ltb callee b.graph.bodies) refl
    where
      differ : true ≡ false → ⊥
      differ h = cc

      by : (c : Bool) → ltb callee b.graph.bodies ≡ c → c ≡ true
      by true h = refl
      by false h =
          let out = (graph.external callee (ltb-false callee b.graph.bodies h) there).result in
          let no_pointer : is_pointer t ≡ false = subst (λ o. IfSome o (λ z. is_pointer z ≡ false)) e out in
          absurd (differ (sym is ∙ no_pointer))

  result_part : (p callee x : ℕ) (o : Option SlotType) → is_called (s.edges p) callee ≡ true → (flow_of b.graph callee).result ≡ o → callee < length b.graph.procs → ResultFits ts (Some x) o → ResultExists v s p callee x
  result_part p callee x None called e there h = absurd h
  result_part p callee x (Some t) called e there h =
      let same : is_pointer t ≡ is_pointer (slot_kind b x) = goes_pointer t h.0 h.2 ∙ ap is_pointer (sym (kind x h.0 h.1)) in
      record {
        slot = within x h.0 h.1;
        part = λ is. both_hold (has_body b.graph callee) (is_called (s.edges p) callee && has_part (flow_of b.graph callee) 0) (returns_body callee t there e (same ∙ is))
            (both_hold (is_called (s.edges p) callee) (has_part (flow_of b.graph callee) 0) called (result_there (flow_of b.graph callee) (ap returns_pointer e ∙ same ∙ is)));
      }

  results : (p callee : ℕ) (r : Option ℕ) → is_called (s.edges p) callee ≡ true → callee < length b.graph.procs → ResultFits ts r (flow_of b.graph callee).result → IfSome r (ResultExists v s p callee)
  results p callee None called there h = tt
  results p callee (Some x) called there h = result_part p callee x (flow_of b.graph callee).result called refl there h

  -- Edges

  module _ (p q : ℕ) (from : p < v.places) (to : q < v.places) where
    action : (a : Action) → ActionFits b.graph ts a → FewArgs a → CalledIn (s.edges p) a → ActionExists v s p q a
    action act.Skip h few called = tt
    action (act.Set x c) h few called = tt
    action (act.Move x a) h few called = tt
    action (act.Unset x) h few called = h
    action (act.Null x) h few called = within x h.type h.is
    action (act.Text x n) h few called = pointer q x type.CharPtr to h.0 refl
    action (act.Copy x y) h few called = (pointer q x h.1.type to h.1.first h.1.pointer, pointer q y h.1.type to h.1.second h.1.pointer)
    action (act.Neg x a) h few called = tt
    action (act.Arith x op a c) h few called = tt
    action (act.Get x y f) h few called = tt
    action (act.Load x y m) h few called =
        let k' = h.1 in
        record {
          member = member y m k'.type k'.has k'.pointer;
          target = pointer p x k'.type from k'.slot k'.pointer;
          load = record { target = pointer q x k'.type to k'.slot k'.pointer; before = omega_here y m k'.type k'.has p from k'.pointer; after = omega_here y m k'.type k'.has q to k'.pointer };
        }
    action (act.At x y i) h few called = tt
    action (act.New x zeroed kind' count) h few called = pointer q x (fits.made_type kind') to h.0 (made_pointer kind')
    action (act.Free x) h few called = pointer q x h.type to h.is h.pointer
    action (act.Store y m x) h few called = record {
      member = member y m h.type h.has h.pointer;
      store = record {
        field = is_field y m h.type h.has h.pointer;
        before = omega_here y m h.type h.has p from h.pointer;
        after = omega_here y m h.type h.has q to h.pointer;
        source_before = pointer p x h.type from h.slot h.pointer;
        source_after = pointer q x h.type to h.slot h.pointer;
      };
    }
    action (act.Put y f x) h few called = tt
    action (act.PutAt y i x) h few called = tt
    action (act.IsNull x) h few called = tt
    action (act.NotNull x) h few called = tt
    action (act.FieldNull y m) h few called = member y m h.type h.has h.pointer
    action (act.FieldSet y f) h few called = tt
    action (act.NonZero x) h few called = tt
    action (act.Zero x) h few called = tt
    action (act.Equal x y) h few called = tt
    action (act.Differ x y) h few called = tt
    action (act.Call r callee us) h few called = record {
      args = record {
        place = from;
        slots = args_slots us (flow_of b.graph callee).params h.args;
        parts = arg_parts p callee us called h.args;
        count = few;
      };
      result = results p callee r called h.exists h.result;
    }

    source : (a : Action) → ActionFits b.graph ts a → SourceExists v a
    source (act.Copy x y) h = within y h.1.type h.1.second
    source act.Skip h = tt
    source (act.Set x c) h = tt
    source (act.Move x a) h = tt
    source (act.Unset x) h = tt
    source (act.Null x) h = tt
    source (act.Text x n) h = tt
    source (act.Neg x a) h = tt
    source (act.Arith x op a c) h = tt
    source (act.Get x y f) h = tt
    source (act.Load x y m) h = tt
    source (act.At x y i) h = tt
    source (act.New x zeroed kind' count) h = tt
    source (act.Free x) h = tt
    source (act.Store y m x) h = tt
    source (act.Put y f x) h = tt
    source (act.PutAt y i x) h = tt
    source (act.IsNull x) h = tt
    source (act.NotNull x) h = tt
    source (act.FieldNull y m) h = tt
    source (act.FieldSet y f) h = tt
    source (act.NonZero x) h = tt
    source (act.Zero x) h = tt
    source (act.Equal x y) h = tt
    source (act.Differ x y) h = tt
    source (act.Call r callee us) h = tt

    members : (a : Action) → ActionFits b.graph ts a → MemberExists v s a
    members (act.Load x y m) h = member y m h.1.type h.1.has h.1.pointer
    members (act.Store y m x) h = member y m h.type h.has h.pointer
    members (act.FieldNull y m) h = member y m h.type h.has h.pointer
    members act.Skip h = tt
    members (act.Set x c) h = tt
    members (act.Move x a) h = tt
    members (act.Unset x) h = tt
    members (act.Null x) h = tt
    members (act.Text x n) h = tt
    members (act.Copy x y) h = tt
    members (act.Neg x a) h = tt
    members (act.Arith x op a c) h = tt
    members (act.Get x y f) h = tt
    members (act.At x y i) h = tt
    members (act.New x zeroed kind' count) h = tt
    members (act.Free x) h = tt
    members (act.Put y f x) h = tt
    members (act.PutAt y i x) h = tt
    members (act.IsNull x) h = tt
    members (act.NotNull x) h = tt
    members (act.FieldSet y f) h = tt
    members (act.NonZero x) h = tt
    members (act.Zero x) h = tt
    members (act.Equal x y) h = tt
    members (act.Differ x y) h = tt
    members (act.Call r callee us) h = tt

    way : (a : Action) → ActionFits b.graph ts a → FewArgs a → CalledIn (s.edges p) a → WayExists v s p q a
    way a h few called = record { sight = is_sight; from = from; to = to; action = action a h few called; source = source a h; member = members a h }

  ways : (p : ℕ) → p < v.places → (es : List Edge) → All (EdgeFits b.graph b.proc) es → All (λ (e : Edge). FewArgs e.action) es → ((c : ℕ) → is_called es c ≡ true → is_called (s.edges p) c ≡ true) → All (λ (e : Edge). WayExists v s p e.to e.action) es
  ways p from [] h few called = All-nil (λ (e : Edge). WayExists v s p e.to e.action)
  ways p from (e ∷ es) h few called =
      let F : Edge → Type 0 = λ d. FewArgs d.action in
      let one = All-head (EdgeFits b.graph b.proc) e es h in
      All-cons (λ (d : Edge). WayExists v s p d.to d.action) e es (way p e.to from one.to e.action one.action (All-head F e es few) (called_action (s.edges p) e.action (λ c k. called c (or_left (calls e.action c) (is_called es c) k))))
      (ways p from es (All-tail (EdgeFits b.graph b.proc) e es h) (All-tail F e es few) (λ c k. called c (or_right (calls e.action c) (is_called es c) k)))

  few_ways : (es : List Edge) → AreWays es → length es ≤ 2
  few_ways [] h = absurd h
  few_ways (e ∷ []) h = omega arith
  few_ways (e ∷ d ∷ []) h = omega arith
  few_ways (e ∷ d ∷ c ∷ es) h = absurd h

  pub edges_exist : (p : ℕ) → p < v.places → All (λ (e : Edge). FewArgs e.action) (s.edges p) → EdgesExist v s p
  edges_exist p from few = record { sight = is_sight; from = from; each = ways p from (s.edges p) (body.fits p) few (λ c k. k); few = count (ltb p (out_of b.graph b.proc)) refl }
    where
      last : out_of b.graph b.proc ≤ p → p ≡ out_of b.graph b.proc
      last le = omega arith

      count : (c : Bool) → ltb p (out_of b.graph b.proc) ≡ c → length (edges_from b.graph b.proc p) ≤ 2
      count true e = few_ways (edges_from b.graph b.proc p) (body.ways p (ltb-true p (out_of b.graph b.proc) e))
      count false e =
          let is = last (ltb-false p (out_of b.graph b.proc) e) in
          let none : edges_from b.graph b.proc p ≡ [] = ap (edges_from b.graph b.proc) is ∙ body.last in
          let long = ap length none in
          omega arith
