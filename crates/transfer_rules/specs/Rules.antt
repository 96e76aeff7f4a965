-- The rules of ownership, as the list of all constraints of a call group in the order of their names: by procedure, place,
-- edge, rule, slot, field and other. v and s are what is seen of a procedure.
use Rattle.std.specs.Prelude.{ℕ, suc, ◌-◌, Bool, false, cond, not, ◌&&◌, ◌||◌, List, [], ◌∷◌, ◌++◌, map, Option, Some, None, nat_eq}
use Rattle.std.specs.List.{flat_map}
use Rattle.flow_graph.specs.declared.action.Action.{Action}
use Rattle.flow_graph.specs.declared.action.Action.TheVariants as act
use Rattle.flow_graph.specs.declared.action.Edge.{Edge}
use Rattle.flow_graph.specs.FlowGraph.{FlowGraph}
use Rattle.flow_graph.specs.Fits.{is_in}
use Rattle.path_facts.specs.Columns.{empty_after, is_it}
use Rattle.path_facts.specs.Tables.{FactTables}
use Rattle.zo_core.specs.declared.forms.Form.{Form}
use Rattle.zo_core.specs.declared.forms.Form.TheVariants.{Zero, One, Equal, Sum}
use Rattle.field_rules.specs.declared.edges.CallArg.{CallArg}
use Rattle.field_rules.specs.declared.edges.FieldEdge.{FieldEdge}
use Rattle.field_rules.specs.declared.edges.FieldEdge.TheVariants as edge
use Rattle.field_rules.specs.declared.edges.FieldLine.{FieldLine}
use Rattle.field_rules.specs.Lists.{gather, when}
use Rattle.field_rules.specs.Sight.{Sight, over_fields}
use Rattle.field_rules.specs.Lines.{edge_lines, place_lines}
use Rattle.field_rules.specs.Meaning.{rule_number}
use Rattle.transfer_rules.specs.declared.args.PassedArg.{PassedArg}
use Rattle.transfer_rules.specs.declared.constraint.Condition.{Condition}
use Rattle.transfer_rules.specs.declared.constraint.Condition.TheVariants as condition
use Rattle.transfer_rules.specs.declared.constraint.Constraint.{Constraint}
use Rattle.transfer_rules.specs.Body.{Body, Setting, sight, setting}

abbrev pub call_args : List PassedArg → List CallArg
call_args us = map (λ (a : PassedArg). record { slot = a.slot; sigma = a.sigma }) us

-- what a live argument asks
abbrev pub arg_form : ℕ → Option ℕ → Form
arg_form u None = Zero u
arg_form u (Some w) = Equal u w

-- the slots whose rho an action may change
abbrev pub frees_rho : Action → ℕ → Bool
frees_rho (act.Unset x) k = nat_eq k x
frees_rho (act.Null x) k = nat_eq k x
frees_rho (act.Text x n) k = nat_eq k x
frees_rho (act.New x zeroed kind count) k = nat_eq k x
frees_rho (act.Copy x y) k = nat_eq k x || nat_eq k y
frees_rho (act.Load x y m) k = nat_eq k x
frees_rho (act.Call r callee us) k = is_it r k || is_in us k
frees_rho (act.Free x) k = nat_eq k x
frees_rho (act.Store y m x) k = nat_eq k x
frees_rho _ k = false

-- the slots through which an action may change what is open
abbrev pub frees_slot : Action → ℕ → Bool
frees_slot (act.Unset x) k = nat_eq k x
frees_slot (act.Null x) k = nat_eq k x
frees_slot (act.Text x n) k = nat_eq k x
frees_slot (act.New x zeroed kind count) k = nat_eq k x
frees_slot (act.Copy x y) k = nat_eq k x
frees_slot (act.Load x y m) k = nat_eq k x
frees_slot (act.Call r callee us) k = is_it r k || is_in us k
frees_slot (act.Free x) k = nat_eq k x
frees_slot _ k = false

-- the field f through the slot k is member m through the slot y
abbrev pub field_of_it : Setting → ℕ → ℕ → ℕ → ℕ → Bool
field_of_it s y m k f = nat_eq k y && nat_eq f (s.field_at y m)

module _ (v : Sight) (s : Setting) where
  -- something for each field of the struct to which a slot points
  abbrev pub each_field : ℕ → (ℕ → List Constraint) → List Constraint
  each_field x c = over_fields v (v.structure x) c

  abbrev pub constraint : ℕ → ℕ → ℕ → ℕ → ℕ → ℕ → Condition → List Constraint
  constraint p n rule slot field other c =
      record { name = record { proc = s.proc; place = p; edge = n; rule = rule; slot = slot; field = field; other = other }; condition = c } ∷ []

  -- The pointer arguments of a call: the slot, its number among all arguments from 1, and what the call takes, none where
  -- the called procedure is external. Parts are counted from i and arguments from n.
  abbrev pub args_from : ℕ → ℕ → ℕ → ℕ → List ℕ → List PassedArg
  args_from p callee i n [] = []
  args_from p callee i n (u ∷ us) =
      cond (v.pointer u)
      (record { slot = u; number = n; sigma = cond (s.has_body callee) (Some (s.part p callee i)) None } ∷ args_from p callee (suc i) (suc n) us)
      (args_from p callee i (suc n) us)

  abbrev pub args : ℕ → ℕ → List ℕ → List PassedArg
  args p callee us = args_from p callee 1 1 us

  -- a constraint that is one equation
  abbrev pub equation : ℕ → ℕ → ℕ → ℕ → ℕ → ℕ → Form → List Constraint
  equation p n rule slot field other f = constraint p n rule slot field other (condition.Form f)

  -- the rules on fields
  abbrev pub of_line : ℕ → ℕ → FieldLine → List Constraint
  of_line p n l = constraint p n (rule_number l.rule) l.slot l.field l.other (condition.Field l.rule)

  abbrev pub of_lines : ℕ → ℕ → List FieldLine → List Constraint
  of_lines p n ls = flat_map (of_line p n) ls

  abbrev pub is_live : ℕ → ℕ → Bool
  is_live p x = v.pointer x && not (v.empty p x)

  -- Edge n, from the place p to the place q

  -- nothing is open at a place through a slot; it owns nothing there besides
  abbrev pub closed_at : ℕ → ℕ → ℕ → ℕ → ℕ → ℕ → List Constraint
  closed_at p n rule place x f = equation p n rule x f 0 (Zero (v.omega place x f))

  abbrev pub nothing_at : ℕ → ℕ → ℕ → ℕ → ℕ → List Constraint
  nothing_at p n rule place x = equation p n rule x 0 0 (Zero (v.rho place x)) ++ each_field x (closed_at p n rule place x)

  -- 1, Target: a pointer that is assigned owns nothing before, and nothing is open through it
  abbrev pub target : ℕ → ℕ → ℕ → List Constraint
  target p n x = when (is_live p x) (nothing_at p n 1 p x)

  -- 2, Copy: the two share what the source had
  abbrev pub copied : ℕ → ℕ → ℕ → ℕ → ℕ → List Constraint
  copied p n q x y = when (is_live p y) (equation p n 2 x 0 y (Sum (v.rho q x) (v.rho q y) (v.rho p y)))

  -- 3, Closed: nothing is open through the pointer that was assigned
  abbrev pub closed : ℕ → ℕ → ℕ → ℕ → List Constraint
  closed p n q x = each_field x (closed_at p n 3 q x)

  -- 4, New
  abbrev pub made : ℕ → ℕ → ℕ → ℕ → List Constraint
  made p n q x = equation p n 4 x 0 0 (One (v.rho q x))

  -- 5, Text
  abbrev pub text : ℕ → ℕ → ℕ → ℕ → List Constraint
  text p n q x = equation p n 5 x 0 0 (Zero (v.rho q x))

  -- 6, Free: what is freed is owned
  abbrev pub freeing : ℕ → ℕ → ℕ → List Constraint
  freeing p n x = when (is_live p x) (equation p n 6 x 0 0 (One (v.rho p x)))

  -- 8, Freed: and then no more
  abbrev pub freed : ℕ → ℕ → ℕ → ℕ → List Constraint
  freed p n q x = when (is_live p x) (nothing_at p n 8 q x)

  -- 12, CallArg: a live argument owns exactly where the call takes ownership; an external procedure takes none
  abbrev pub call_arg_at : ℕ → ℕ → ℕ → PassedArg → List Constraint
  call_arg_at p n u a = when (nat_eq a.slot u && not (v.empty p u)) (equation p n 12 u 0 a.number (arg_form (v.rho p u) a.sigma))

  abbrev pub call_arg_of : ℕ → ℕ → List PassedArg → ℕ → List Constraint
  call_arg_of p n us u = flat_map (call_arg_at p n u) us

  abbrev pub call_args_rules : ℕ → ℕ → List PassedArg → List Constraint
  call_args_rules p n us = gather v.slots (call_arg_of p n us)

  -- 13, CallResult
  abbrev pub call_result : ℕ → ℕ → ℕ → ℕ → ℕ → List Constraint
  call_result p n q callee x = when (v.pointer x) (equation p n 13 x 0 0 (Equal (v.rho q x) (s.part p callee 0)))

  -- what an assigned pointer asks before and after a call, where the call has a result
  abbrev pub result_rules : ℕ → ℕ → ℕ → Option ℕ → List Constraint
  result_rules p n q None = []
  result_rules p n q (Some x) = target p n x ++ closed p n q x

  abbrev pub call_results : ℕ → ℕ → ℕ → ℕ → Option ℕ → List Constraint
  call_results p n q callee None = []
  call_results p n q callee (Some x) = call_result p n q callee x

  -- 7, 9, 10, 11 and 14: FreeField, Load, StoreOpen, Store, CallClosed
  abbrev pub field_rules : ℕ → ℕ → ℕ → FieldEdge → List Constraint
  field_rules p n q e = of_lines p n (edge_lines v e p q)

  -- rules 1 to 14 by the action
  abbrev pub action_rules : ℕ → ℕ → ℕ → Action → List Constraint
  action_rules p n q (act.Unset x) = target p n x
  action_rules p n q (act.Null x) = target p n x
  action_rules p n q (act.Text x t) = target p n x ++ text p n q x
  action_rules p n q (act.Copy x y) = target p n x ++ copied p n q x y ++ when (is_live p y) (closed p n q x)
  action_rules p n q (act.New x zeroed kind count) = target p n x ++ made p n q x
  action_rules p n q (act.Free x) = freeing p n x ++ field_rules p n q (edge.Free x) ++ freed p n q x
  action_rules p n q (act.Load x y m) = target p n x ++ closed p n q x ++ field_rules p n q (edge.Load x y (s.field_at y m))
  action_rules p n q (act.Store y m x) = field_rules p n q (edge.Store y (s.field_at y m) x)
  action_rules p n q (act.Call r callee us) =
      result_rules p n q r ++ call_args_rules p n (args p callee us) ++ call_results p n q callee r
      ++ field_rules p n q (edge.Call (call_args (args p callee us)))
  action_rules p n q _ = []

  -- 21, Same: what an action leaves alone is the same after it

  -- the field that it may open or close through a slot
  abbrev pub frees_field : Action → ℕ → ℕ → Bool
  frees_field (act.Load x y m) k f = field_of_it s y m k f
  frees_field (act.Store y m x) k f = field_of_it s y m k f
  frees_field (act.FieldNull y m) k f = field_of_it s y m k f
  frees_field _ k f = false

  abbrev pub same_field : ℕ → ℕ → ℕ → Action → ℕ → ℕ → List Constraint
  same_field p n q a x f = when (not (frees_field a x f)) (equation p n 21 x f 0 (Equal (v.omega p x f) (v.omega q x f)))

  abbrev pub same_rho : ℕ → ℕ → ℕ → Action → ℕ → List Constraint
  same_rho p n q a x = when (not (frees_rho a x)) (equation p n 21 x 0 0 (Equal (v.rho p x) (v.rho q x)))

  abbrev pub same_slot : ℕ → ℕ → ℕ → Action → ℕ → List Constraint
  same_slot p n q a x =
      when (v.pointer x && not (empty_after a (v.empty p) x))
      (same_rho p n q a x ++ when (not (frees_slot a x)) (each_field x (same_field p n q a x)))

  abbrev pub same : ℕ → ℕ → ℕ → Action → List Constraint
  same p n q a = gather v.slots (same_slot p n q a)

  -- At the place p

  -- 15, Entry: a parameter owns exactly where the interface says so, and nothing is open
  abbrev pub entry_slot : ℕ → ℕ → List Constraint
  entry_slot p x =
      when (v.pointer x) (equation p 0 15 x 0 0 (Equal (v.rho p x) (s.pi (s.param_part x))) ++ each_field x (closed_at p 0 15 p x))

  abbrev pub entry : ℕ → List Constraint
  entry p = when (nat_eq p 0) (gather s.params (entry_slot p))

  abbrev pub is_ret : ℕ → Bool
  is_ret x = is_it s.ret x

  -- 16, ExitRet: the result owns exactly where the interface says so
  abbrev pub exit_ret : ℕ → ℕ → List Constraint
  exit_ret p x = when (is_live p x && is_ret x) (equation p 0 16 x 0 0 (Equal (v.rho p x) (s.pi 0)))

  -- 17, ExitOwn: no other slot owns
  abbrev pub exit_own : ℕ → ℕ → List Constraint
  exit_own p x = when (is_live p x && not (is_ret x)) (equation p 0 17 x 0 0 (Zero (v.rho p x)))

  -- 18, ExitClosed: nothing is open
  abbrev pub exit_closed : ℕ → ℕ → List Constraint
  exit_closed p x = when (is_live p x) (each_field x (closed_at p 0 18 p x))

  abbrev pub exit : ℕ → List Constraint
  exit p =
      when (nat_eq p (v.places - 1))
      (gather v.slots (exit_ret p)
      ++ gather v.slots (exit_own p)
      ++ gather v.slots (exit_closed p))

  -- 15 to 20; 19 and 20 are Bound and OneBase
  abbrev pub place_rules : ℕ → List Constraint
  place_rules p = entry p ++ exit p ++ of_lines p 0 (place_lines v p)

  -- All constraints of the place p: those of its edges by their numbers, those of the place itself as if of edge 0
  abbrev pub edge_rules : ℕ → ℕ → Edge → List Constraint
  edge_rules p n e = action_rules p n e.to e.action ++ same p n e.to e.action

  abbrev pub more_edges : ℕ → ℕ → List Edge → List Constraint
  more_edges p n [] = []
  more_edges p n (e ∷ es) = edge_rules p n e ++ more_edges p (suc n) es

  abbrev pub rules_with : ℕ → List Edge → List Constraint
  rules_with p [] = place_rules p
  rules_with p (e ∷ es) = action_rules p 0 e.to e.action ++ place_rules p ++ same p 0 e.to e.action ++ more_edges p 1 es

  abbrev pub constraints_at : ℕ → List Constraint
  constraints_at p = rules_with p (s.edges p)

  abbrev pub proc_constraints : List Constraint
  proc_constraints = gather v.places constraints_at

abbrev pub body_of : FlowGraph → FactTables → List ℕ → ℕ → Body
body_of g ts members k = record { graph = g; facts = ts; members = members; proc = k }

abbrev pub body_constraints : FlowGraph → FactTables → List ℕ → ℕ → List Constraint
body_constraints g ts members k = let b = body_of g ts members k in proc_constraints (sight b) (setting b)

-- those of one place of a procedure
abbrev pub place_constraints : FlowGraph → FactTables → List ℕ → ℕ → ℕ → List Constraint
place_constraints g ts members k p = let b = body_of g ts members k in constraints_at (sight b) (setting b) p

-- all constraints of the call group of these procedures
abbrev pub constraints : FlowGraph → FactTables → List ℕ → List Constraint
constraints g ts members = flat_map (body_constraints g ts members) members
