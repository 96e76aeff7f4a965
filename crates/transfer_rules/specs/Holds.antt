-- What the rules of an edge and of a place say of an assignment: equations between what slots own and what is open through
-- them, at the place p where an edge starts and the place q where it ends.
use Rattle.std.specs.Prelude.{◌≡◌, ℕ, ◌+◌, ◌-◌, ◌<◌, Bool, true, false, ⊤, List, [], ◌∷◌, Option, Some, None}
use Rattle.zo_core.specs.Forms.{bit}
use Rattle.flow_graph.specs.declared.action.Action.{Action}
use Rattle.flow_graph.specs.declared.action.Action.TheVariants as act
use Rattle.flow_graph.specs.declared.action.Edge.{Edge}
use Rattle.path_facts.specs.Columns.{empty_after}
use Rattle.field_rules.specs.declared.edges.CallArg.{CallArg}
use Rattle.field_rules.specs.Sight.{Sight, HasField, IsField, leads_to}
use Rattle.field_rules.specs.Lines.{is_arg}
use Rattle.transfer_rules.specs.declared.args.PassedArg.{PassedArg}
use Rattle.flow_graph.specs.FlowGraph.{FlowGraph}
use Rattle.path_facts.specs.Tables.{FactTables}
use Rattle.transfer_rules.specs.Body.{Setting, sight, setting}
use Rattle.transfer_rules.specs.Rules.{frees_rho, frees_slot, frees_field, args, call_args, is_live, is_ret, body_of}

-- P of each element
abbrev pub Each : {X : Type 0} → (X → Type 0) → List X → Type 0
Each P [] = ⊤
Each P (x ∷ xs) = P x × Each P xs

module _ (v : Sight) (s : Setting) (t : ℕ → Bool) where
  -- at a place a slot owns, and a field is open through it; a field owns
  abbrev pub owns : ℕ → ℕ → Bool
  owns p x = t (v.rho p x)

  abbrev pub opens : ℕ → ℕ → ℕ → Bool
  opens p x f = t (v.omega p x f)

  abbrev pub field_owns : ℕ → Bool
  field_owns f = t (v.phi f)

  -- nothing is open through a slot
  abbrev pub IsClosed : ℕ → ℕ → Type 0
  IsClosed p x = (f : ℕ) → HasField v x f → opens p x f ≡ false

  -- nor does it own
  pub record HasNothing (p x : ℕ) : Type 0 where
    pub rho : owns p x ≡ false
    pub omega : IsClosed p x

  -- 1
  abbrev pub Target : ℕ → ℕ → Type 0
  Target p x = is_live v s p x ≡ true → HasNothing p x

  -- 5
  pub record TextHolds (p q x : ℕ) : Type 0 where
    pub target : Target p x
    pub owns : owns q x ≡ false

  -- 2 and 3
  pub record CopyHolds (p q x y : ℕ) : Type 0 where
    pub target : Target p x
    pub splits : is_live v s p y ≡ true → bit (owns q x) + bit (owns q y) ≡ bit (owns p y)
    pub closed : is_live v s p y ≡ true → IsClosed q x

  -- 4
  pub record NewHolds (p q x : ℕ) : Type 0 where
    pub target : Target p x
    pub owns : owns q x ≡ true

  -- 6, 7 and 8
  pub record FreeHolds (p q x : ℕ) : Type 0 where
    pub owns : is_live v s p x ≡ true → owns p x ≡ true
    pub opened : v.empty p x ≡ false → (f : ℕ) → HasField v x f → opens p x f ≡ field_owns f
    pub after : is_live v s p x ≡ true → HasNothing q x

  -- 3 and 9
  pub record LoadHolds (p q x y f : ℕ) : Type 0 where
    pub target : Target p x
    pub closed : IsClosed q x
    pub opens : bit (owns q x) + bit (opens p y f) ≡ bit (opens q y f)

  -- 10 and 11
  pub record StoreHolds (p q x y f : ℕ) : Type 0 where
    pub opened : opens p y f ≡ field_owns f
    pub moves : v.empty p x ≡ false → bit (owns q x) + bit (field_owns f) ≡ bit (owns p x) + bit (opens q y f)

  -- what the call takes in an argument: nothing where the called procedure is external
  abbrev pub taken : Option ℕ → Bool
  taken None = false
  taken (Some u) = t u

  -- 12
  abbrev pub ArgHolds : ℕ → PassedArg → Type 0
  ArgHolds p a = a.slot < v.slots → v.empty p a.slot ≡ false → owns p a.slot ≡ taken a.sigma

  -- a field may stay open over a call through a slot that points to the struct r
  pub record IsSealed (p y r : ℕ) (us : List CallArg) : Type 0 where
    pub owns : owns p y ≡ true
    pub fields : (f : ℕ) → IsField v f → leads_to (v.field_to f) r ≡ true → field_owns f ≡ true
    pub args : Each (λ (a : CallArg). leads_to (v.structure a.slot) r ≡ true → v.empty p a.slot ≡ false → taken a.sigma ≡ true) us

  -- 14
  pub record CallClosedHolds (p y : ℕ) (us : List CallArg) : Type 0 where
    pub arg : is_arg us y ≡ true → v.empty p y ≡ false → IsClosed p y
    pub other : is_arg us y ≡ false → v.fresh p y ≡ false → (r : ℕ) → v.structure y ≡ Some r → (f : ℕ) → HasField v y f → opens p y f ≡ true → IsSealed p y r us

  -- 1, 3 and 13, where the call has a result
  pub record ResultHolds (p q callee x : ℕ) : Type 0 where
    pub target : Target p x
    pub closed : IsClosed q x
    pub result : v.pointer x ≡ true → owns q x ≡ t (s.part p callee 0)

  abbrev pub ResultsHold : ℕ → ℕ → ℕ → Option ℕ → Type 0
  ResultsHold p q callee None = ⊤
  ResultsHold p q callee (Some x) = ResultHolds p q callee x

  pub record CallHolds (p q callee : ℕ) (r : Option ℕ) (us : List PassedArg) : Type 0 where
    pub result : ResultsHold p q callee r
    pub args : Each (ArgHolds p) us
    pub closed : (y : ℕ) → y < v.slots → CallClosedHolds p y (call_args us)

  -- rules 1 to 14 by the action
  abbrev pub ActionHolds : ℕ → ℕ → Action → Type 0
  ActionHolds p q (act.Unset x) = Target p x
  ActionHolds p q (act.Null x) = Target p x
  ActionHolds p q (act.Text x n) = TextHolds p q x
  ActionHolds p q (act.Copy x y) = CopyHolds p q x y
  ActionHolds p q (act.New x zeroed kind count) = NewHolds p q x
  ActionHolds p q (act.Free x) = FreeHolds p q x
  ActionHolds p q (act.Load x y m) = LoadHolds p q x y (s.field_at y m)
  ActionHolds p q (act.Store y m x) = StoreHolds p q x y (s.field_at y m)
  ActionHolds p q (act.Call r callee us) = CallHolds p q callee r (args v s p callee us)
  ActionHolds p q _ = ⊤

  -- 21
  pub record SameHolds (p q : ℕ) (a : Action) : Type 0 where
    pub rho : (x : ℕ) → x < v.slots → v.pointer x ≡ true → empty_after a (v.empty p) x ≡ false → frees_rho a x ≡ false → owns p x ≡ owns q x
    pub omega : (x f : ℕ) → x < v.slots → v.pointer x ≡ true → empty_after a (v.empty p) x ≡ false → frees_slot a x ≡ false → HasField v x f → frees_field v s a x f ≡ false → opens p x f ≡ opens q x f

  pub record EdgeHolds (p : ℕ) (e : Edge) : Type 0 where
    pub rules : ActionHolds p e.to e.action
    pub same : SameHolds p e.to e.action

  -- 15
  pub record EntryHolds (p x : ℕ) : Type 0 where
    pub rho : owns p x ≡ t (s.pi (s.param_part x))
    pub omega : IsClosed p x

  -- 16, 17 and 18
  pub record ExitHolds (p x : ℕ) : Type 0 where
    pub result : is_ret v s x ≡ true → owns p x ≡ t (s.pi 0)
    pub rho : is_ret v s x ≡ false → owns p x ≡ false
    pub omega : IsClosed p x

  -- 15 to 20
  pub record PlaceHolds (p : ℕ) : Type 0 where
    pub entry : p ≡ 0 → (x : ℕ) → x < s.params → v.pointer x ≡ true → EntryHolds p x
    pub exit : p ≡ v.places - 1 → (x : ℕ) → x < v.slots → is_live v s p x ≡ true → ExitHolds p x
    -- 19
    pub bound : (y f : ℕ) → y < v.slots → HasField v y f → opens p y f ≡ true → field_owns f ≡ true
    -- 20
    pub one_base : (y z r f : ℕ) → z < v.slots → y < z → v.structure y ≡ Some r → v.structure z ≡ Some r → v.fresh p y ≡ false → v.fresh p z ≡ false
        → HasField v y f → opens p y f ≡ true → opens p z f ≡ true → ⊥

  -- all rules of a procedure
  pub record ProcHolds : Type 0 where
    pub places : (p : ℕ) → p < v.places → PlaceHolds p
    pub edges : (p : ℕ) → p < v.places → Each (EdgeHolds p) (s.edges p)

-- all rules of a call group
abbrev pub GroupHolds : FlowGraph → FactTables → List ℕ → (ℕ → Bool) → Type 0
GroupHolds g ts members t = Each (λ k. ProcHolds (sight (body_of g ts members k)) (setting (body_of g ts members k)) t) members
