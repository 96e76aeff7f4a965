-- What an edge speaks of exists: the conditions of listing its rules.
use Rattle.std.specs.Prelude.{◌≡◌, ℕ, ◌+◌, ◌<◌, ◌≤◌, ◌^◌, true, ⊤, cond, List, [], ◌∷◌, length, Option, Some, IfSome}
use Rattle.std.specs.List.{All}
use Rattle.flow_graph.specs.declared.action.Action.{Action}
use Rattle.flow_graph.specs.declared.action.Action.TheVariants as act
use Rattle.flow_graph.specs.declared.action.Edge.{Edge}
use Rattle.field_rules.specs.Sight.{Sight, HasPointer, RangesExist, PointersFit, LoadExists, StoreExists}
use Rattle.transfer_rules.specs.Body.{Setting}

-- the member is a pointer of the struct to which the slot points
pub record HasMember (v : Sight) (s : Setting) (y m : ℕ) : Type 0 where
  pub slot : y < v.slots
  pub member : s.is_field y m ≡ true

-- what of an action the rule Same looks at
abbrev pub SourceExists : Sight → Action → Type 0
SourceExists v (act.Copy x y) = y < v.slots
SourceExists v _ = ⊤

abbrev pub MemberExists : Sight → Setting → Action → Type 0
MemberExists v s (act.Load x y m) = HasMember v s y m
MemberExists v s (act.Store y m x) = HasMember v s y m
MemberExists v s (act.FieldNull y m) = HasMember v s y m
MemberExists v s _ = ⊤

-- a call has no more arguments than can be numbered
abbrev pub FewArgs : Action → Type 0
FewArgs (act.Call r callee us) = length us < 2 ^ 31
FewArgs _ = ⊤

module _ (v : Sight) (s : Setting) where
  -- what a sight keeps
  pub record IsSight : Type 0 where
    pub ranges : RangesExist v
    pub pointers : PointersFit v
    -- the parameters are slots
    pub params : s.params ≤ v.slots
    -- the pointer parameters are parts of the interface
    pub entry : (x : ℕ) → x < s.params → v.pointer x ≡ true → s.has_pi (s.param_part x) ≡ true
    -- a result that is a pointer is one too
    pub exit : (x : ℕ) → s.ret ≡ Some x → v.pointer x ≡ true → s.has_pi 0 ≡ true

  abbrev pub pointer_args : List ℕ → ℕ
  pointer_args [] = 0
  pointer_args (u ∷ us) = cond (v.pointer u) 1 0 + pointer_args us

  pub record CallArgsExist (p callee : ℕ) (us : List ℕ) : Type 0 where
    pub place : p < v.places
    pub slots : All (λ u. u < v.slots) us
    pub parts : (i : ℕ) → 0 < i → i ≤ pointer_args us → s.has_body callee ≡ true → s.has_part p callee i ≡ true
    pub count : length us < 2 ^ 31

  pub record ResultExists (p callee x : ℕ) : Type 0 where
    pub slot : x < v.slots
    pub part : v.pointer x ≡ true → s.has_part p callee 0 ≡ true

  pub record CallHas (p callee : ℕ) (us : List ℕ) (r : Option ℕ) : Type 0 where
    pub args : CallArgsExist p callee us
    pub result : IfSome r (ResultExists p callee)

  pub record LoadHas (p q x y m : ℕ) : Type 0 where
    pub member : HasMember v s y m
    pub target : HasPointer v p x
    pub load : LoadExists v p q x y (s.field_at y m)

  pub record StoreHas (p q x y m : ℕ) : Type 0 where
    pub member : HasMember v s y m
    pub store : StoreExists v p q x y (s.field_at y m)

  abbrev pub ActionExists : ℕ → ℕ → Action → Type 0
  ActionExists p q (act.Unset x) = x < v.slots
  ActionExists p q (act.Null x) = x < v.slots
  ActionExists p q (act.Text x n) = HasPointer v q x
  ActionExists p q (act.Copy x y) = HasPointer v q x × HasPointer v q y
  ActionExists p q (act.New x zeroed kind count) = HasPointer v q x
  ActionExists p q (act.Free x) = HasPointer v q x
  ActionExists p q (act.Load x y m) = LoadHas p q x y m
  ActionExists p q (act.Store y m x) = StoreHas p q x y m
  ActionExists p q (act.FieldNull y m) = HasMember v s y m
  ActionExists p q (act.Call r callee us) = CallHas p callee us r
  ActionExists p q _ = ⊤

  pub record WayExists (p q : ℕ) (a : Action) : Type 0 where
    pub sight : IsSight
    pub from : p < v.places
    pub to : q < v.places
    pub action : ActionExists p q a
    pub source : SourceExists v a
    pub member : MemberExists v s a

  pub record EdgesExist (p : ℕ) : Type 0 where
    pub sight : IsSight
    pub from : p < v.places
    pub each : All (λ (e : Edge). WayExists p e.to e.action) (s.edges p)
    pub few : length (s.edges p) ≤ 2
