-- What each rule says of the marks of slots and members, over an edge and at a place. A mark says whether a slot owns what
-- it holds, or whether a member is open through a slot. Rules speak of all members of a struct: those that are no pointers
-- have no marks, so they are never open and never own.
use Rattle.std.specs.Prelude.{◌≡◌, ◌≢◌, ℕ, zero, suc, ◌+◌, ◌<◌, Bool, true, false, ◌&&◌, ◌||◌, ⊤, List, [], ◌∷◌, length, nat_eq, Option, Some, None}
use Rattle.zo_core.specs.Forms.{bit}
use Rattle.c_types.specs.declared.kinds.SlotType.{SlotType}
use Rattle.c_types.specs.declared.kinds.SlotType.TheVariants as type
use Rattle.c_types.specs.Types.{is_pointer}
use Rattle.flow_graph.specs.declared.action.Action.{Action}
use Rattle.flow_graph.specs.declared.action.Action.TheVariants as act
use Rattle.flow_graph.specs.FlowGraph.{FlowGraph, flow_of, has_body, slot_type, member_type}
use Rattle.flow_graph.specs.Fits.{is_in, out_of}
use Rattle.path_facts.specs.Columns.{is_it, empty_after}
use Rattle.path_facts.specs.Tables.{FactTables, empty_in, fresh_in}

-- the marks at one place: a slot owns, and a member is open through it
pub record Marks : Type 0 where
  pub rho : ℕ → Bool
  pub omega : ℕ → ℕ → Bool

-- what is known of the slots at one place
pub record Known : Type 0 where
  pub empty : ℕ → Bool
  pub fresh : ℕ → Bool

-- what the facts say of a place of a procedure
abbrev pub known_at : FactTables → ℕ → ℕ → Known
known_at facts k p = record { empty = empty_in facts k p; fresh = fresh_in facts k p }

-- one interface of a procedure: which parameters own, by their numbers among all, and whether the result does
pub record Face : Type 0 where
  pub param : ℕ → Bool
  pub result : Bool

-- which members own, by struct and member
abbrev pub Owning : Type 0
Owning = ℕ → ℕ → Bool

-- the same by the type of a pointer to the struct
abbrev pub owning : Owning → SlotType → ℕ → Bool
owning phi (type.StructPtr s) f = phi s f
owning phi _ f = false

-- the argument with this number, from 0
abbrev pub arg_at : List ℕ → ℕ → Option ℕ
arg_at [] j = None
arg_at (u ∷ us) zero = Some u
arg_at (u ∷ us) (suc j) = arg_at us j

-- Which marks an edge may change

-- slots that may come to own, or cease to
abbrev pub frees_rho : Action → ℕ → Bool
frees_rho (act.Unset x) k = nat_eq k x
frees_rho (act.Null x) k = nat_eq k x
frees_rho (act.Text x n) k = nat_eq k x
frees_rho (act.New x zeroed kind count) k = nat_eq k x
frees_rho (act.Copy x y) k = nat_eq k x || nat_eq k y
frees_rho (act.Load x y f) k = nat_eq k x
frees_rho (act.Free x) k = nat_eq k x
frees_rho (act.Store y f x) k = nat_eq k x
frees_rho (act.Call r callee us) k = is_it r k || is_in us k
frees_rho _ k = false

-- slots and members that may be opened or closed
abbrev pub frees_omega : Action → ℕ → ℕ → Bool
frees_omega (act.Unset x) k n = nat_eq k x
frees_omega (act.Null x) k n = nat_eq k x
frees_omega (act.Text x m) k n = nat_eq k x
frees_omega (act.New x zeroed kind count) k n = nat_eq k x
frees_omega (act.Copy x y) k n = nat_eq k x
frees_omega (act.Load x y f) k n = nat_eq k x || (nat_eq k y && nat_eq n f)
frees_omega (act.Free x) k n = nat_eq k x
frees_omega (act.Store y f x) k n = nat_eq k y && nat_eq n f
frees_omega (act.FieldNull y f) k n = nat_eq k y && nat_eq n f
frees_omega (act.Call r callee us) k n = is_it r k || is_in us k
frees_omega _ k n = false

-- Over an edge with an action: the types of the slots, the marks before it and after it, and what is known before it

module _ (g : FlowGraph) (phi : Owning) (type : ℕ → SlotType) (m m' : Marks) (e : Known) where
  -- a mark that the action may not change stays, unless the slot is Empty after it
  pub record Same (a : Action) : Type 0 where
    pub rho : (x : ℕ) → is_pointer (type x) ≡ true → empty_after a e.empty x ≡ false → frees_rho a x ≡ false → m'.rho x ≡ m.rho x
    pub omega : (x f : ℕ) → is_pointer (type x) ≡ true → empty_after a e.empty x ≡ false → frees_omega a x f ≡ false → m'.omega x f ≡ m.omega x f

  -- the slot that is written owned nothing, and nothing was open through it
  pub record Target (x : ℕ) : Type 0 where
    pub rho : e.empty x ≡ false → m.rho x ≡ false
    pub omega : (f : ℕ) → e.empty x ≡ false → m.omega x f ≡ false

  -- nobody owns a string's object
  pub record TextRules (x : ℕ) : Type 0 where
    pub target : Target x
    pub owns : m'.rho x ≡ false

  -- what y owned, one of the two owns
  pub record CopyRules (x y : ℕ) : Type 0 where
    pub target : Target x
    pub splits : e.empty y ≡ false → bit (m'.rho x) + bit (m'.rho y) ≡ bit (m.rho y)
    pub closed : (f : ℕ) → e.empty y ≡ false → m'.omega x f ≡ false

  -- the slot owns what is made
  pub record NewRules (x : ℕ) : Type 0 where
    pub target : Target x
    pub owns : m'.rho x ≡ true

  -- what is freed was owned, with all its owning members open
  pub record FreeRules (x : ℕ) : Type 0 where
    pub owns : e.empty x ≡ false → m.rho x ≡ true
    pub opened : (f : ℕ) → e.empty x ≡ false → m.omega x f ≡ owning phi (type x) f
    pub rho : e.empty x ≡ false → m'.rho x ≡ false
    pub omega : (f : ℕ) → e.empty x ≡ false → m'.omega x f ≡ false

  -- x owns what it loads where the member is opened by this
  pub record LoadRules (x y f : ℕ) : Type 0 where
    pub target : Target x
    pub closed : (n : ℕ) → m'.omega x n ≡ false
    pub opens : bit (m'.rho x) + bit (m.omega y f) ≡ bit (m'.omega y f)

  -- an owning member is open before it is stored into, and closed by a store of what x owned
  pub record StoreRules (y f x : ℕ) : Type 0 where
    pub opened : m.omega y f ≡ owning phi (type y) f
    pub moves : e.empty x ≡ false → bit (m'.rho x) + bit (owning phi (type y) f) ≡ bit (m.rho x) + bit (m'.omega y f)

  -- the slot y may keep a member open over the call, which cannot reach what y holds: y owns it, every member of y's type
  -- owns, and so does every argument of y's type
  pub record IsSealed (callee : Face) (body : Bool) (us : List ℕ) (y : ℕ) : Type 0 where
    pub owns : m.rho y ≡ true
    pub fields : (s f : ℕ) → member_type g s f ≡ type y → phi s f ≡ true
    pub args : (j u : ℕ) → arg_at us j ≡ Some u → type u ≡ type y → e.empty u ≡ false → (body && callee.param j) ≡ true

  -- an argument owns as the parameter of the callee does, where that has a body, and else not
  pub record CallRules (callee : Face) (body : Bool) (r : Option ℕ) (us : List ℕ) : Type 0 where
    pub target : (x : ℕ) → r ≡ Some x → Target x
    pub closed : (x f : ℕ) → r ≡ Some x → m'.omega x f ≡ false
    pub arg : (j u : ℕ) → arg_at us j ≡ Some u → is_pointer (type u) ≡ true → e.empty u ≡ false → m.rho u ≡ (body && callee.param j)
    pub result : (x : ℕ) → r ≡ Some x → is_pointer (type x) ≡ true → m'.rho x ≡ callee.result
    pub arg_closed : (u f : ℕ) → is_in us u ≡ true → e.empty u ≡ false → m.omega u f ≡ false
    pub call_closed : (y f : ℕ) → is_in us y ≡ false → e.fresh y ≡ false → m.omega y f ≡ true → IsSealed callee body us y

  -- the rules of an action; the other actions have none
  abbrev pub Rules : (ℕ → Face) → Action → Type 0
  Rules face (act.Unset x) = Target x
  Rules face (act.Null x) = Target x
  Rules face (act.Text x n) = TextRules x
  Rules face (act.Copy x y) = CopyRules x y
  Rules face (act.New x zeroed kind count) = NewRules x
  Rules face (act.Free x) = FreeRules x
  Rules face (act.Load x y f) = LoadRules x y f
  Rules face (act.Store y f x) = StoreRules y f x
  Rules face (act.Call r callee us) = CallRules (face callee) (has_body g callee) r us
  Rules face _ = ⊤

  -- all that is asked of an edge
  pub record EdgeHolds (face : ℕ → Face) (a : Action) : Type 0 where
    pub same : Same a
    pub rules : Rules face a

-- At a place: the types and marks of the slots, and what is known there

module _ (phi : Owning) (type : ℕ → SlotType) (m : Marks) (e : Known) where
  -- only owning members are open, and each through one slot of its type that is not Fresh
  pub record BaseRules : Type 0 where
    pub bound : (y f : ℕ) → m.omega y f ≡ true → owning phi (type y) f ≡ true
    pub one_base : (y z f : ℕ) → y ≢ z → type y ≡ type z → e.fresh y ≡ false → e.fresh z ≡ false → m.omega y f ≡ true → m.omega z f ≡ true → ⊥

  -- at the entry a parameter owns as the interface says, and nothing is open through it
  pub record EntryRules (own : Face) (params : ℕ) : Type 0 where
    pub rho : (x : ℕ) → x < params → is_pointer (type x) ≡ true → m.rho x ≡ own.param x
    pub omega : (x f : ℕ) → x < params → m.omega x f ≡ false

  -- at the exit the result alone may own, and nothing is open
  pub record ExitRules (own : Face) (ret : Option ℕ) : Type 0 where
    pub result : (x : ℕ) → ret ≡ Some x → is_pointer (type x) ≡ true → e.empty x ≡ false → m.rho x ≡ own.result
    pub rho : (x : ℕ) → is_it ret x ≡ false → is_pointer (type x) ≡ true → e.empty x ≡ false → m.rho x ≡ false
    pub omega : (x f : ℕ) → e.empty x ≡ false → m.omega x f ≡ false

-- all that is asked of the place p of the procedure k with these marks, under an interface of its own
pub record PlaceHolds (g : FlowGraph) (facts : FactTables) (phi : Owning) (k p : ℕ) (m : Marks) (own : Face) : Type 0 where
  pub base : BaseRules phi (slot_type g k) m (known_at facts k p)
  pub entry : p ≡ 0 → EntryRules phi (slot_type g k) m (known_at facts k p) own (length (flow_of g k).params)
  pub exit : p ≡ out_of g k → ExitRules phi (slot_type g k) m (known_at facts k p) own (flow_of g k).ret
