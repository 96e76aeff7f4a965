-- What is known of the nodes, slots and tables of a file that breaks no rule of types.
use Rattle.std.specs.Prelude.{◌≡◌, ℕ, ◌+◌, ◌<◌, ◌≤◌, Bool, true, false, ⊤, List, [], ◌∷◌, length, map, take, Option, Some, None, IfSome, is_some, option_and_then, slice_get, sum_by}
use Rattle.std.specs.List.{All}
use Rattle.c_tree.specs.declared.tree.BinaryOp.{BinaryOp}
use Rattle.c_tree.specs.declared.tree.BinaryOp.TheVariants as op
use Rattle.c_tree.specs.Plain.{Expr, num, text, null, name, call, new, new_of, arrow, index, not_of, neg, binary, Exprs, no_exprs, expr, Stmt, block, local, local_as, assign, do_call, free, when, when_else, while, for, break, continue, return, return_of, nothing, Stmts, no_stmts, stmt, Tree}
use Rattle.c_tree.specs.Nodes.{node_count, node_count_of, stmt_count, stmts_count, tree_size}
use Rattle.c_types.specs.declared.kinds.SlotType.{SlotType}
use Rattle.c_types.specs.declared.kinds.SlotType.TheVariants as kind
use Rattle.c_types.specs.declared.infos.SlotInfo.{SlotInfo}
use Rattle.c_types.specs.declared.infos.StructInfo.{StructInfo}
use Rattle.c_types.specs.declared.infos.NodeInfo.{NodeInfo}
use Rattle.c_types.specs.declared.infos.ProcInfo.{ProcInfo}
use Rattle.c_types.specs.Types.{is_pointer, fits}
use Rattle.c_types.specs.Items.{pointer_params}

-- a file's structs and procedures, and of one body the types of its slots, how many of these are parameters and
-- locals, and its nodes
pub record Body : Type 0 where
  pub structs : List StructInfo
  pub procs : List ProcInfo
  pub slots : List SlotType
  pub variables : ℕ
  pub nodes : List NodeInfo

abbrev pub kinds_of : List SlotInfo → List SlotType
kinds_of vs = map (λ v. v.kind) vs

-- the types of a procedure's parameters
abbrev pub params_of : ProcInfo → List SlotType
params_of p = take p.params (kinds_of p.slots)

abbrev pub kind_of : Body → ℕ → Option SlotType
kind_of b n = option_and_then (λ i. i.kind) (slice_get b.nodes n)

abbrev pub refers_of : Body → ℕ → Option ℕ
refers_of b n = option_and_then (λ i. i.refers) (slice_get b.nodes n)

-- Nodes

pub record HasValue (b : Body) (n : ℕ) : Type 0 where
  pub type : SlotType
  pub is : kind_of b n ≡ Some type

pub record IsInteger (b : Body) (n : ℕ) : Type 0 where
  pub type : SlotType
  pub is : kind_of b n ≡ Some type
  pub integer : is_pointer type ≡ false

pub record IsPointer (b : Body) (n : ℕ) : Type 0 where
  pub type : SlotType
  pub is : kind_of b n ≡ Some type
  pub pointer : is_pointer type ≡ true

-- the node's value may be given to a slot of that type
pub record GoesTo (b : Body) (n : ℕ) (t : SlotType) : Type 0 where
  pub type : SlotType
  pub is : kind_of b n ≡ Some type
  pub goes : fits t type ≡ true

-- the node names a parameter or a local
pub record NamesVariable (b : Body) (n : ℕ) : Type 0 where
  pub slot : ℕ
  pub type : SlotType
  pub refers : refers_of b n ≡ Some slot
  pub variable : slot < b.variables
  pub has : slice_get b.slots slot ≡ Some type

-- the same, and has its type
pub record IsVariable (b : Body) (n : ℕ) : Type 0 where
  pub slot : ℕ
  pub type : SlotType
  pub refers : refers_of b n ≡ Some slot
  pub variable : slot < b.variables
  pub has : slice_get b.slots slot ≡ Some type
  pub is : kind_of b n ≡ Some type

-- the node reads a member of the struct to which its base, the next node, points
pub record IsMember (b : Body) (n : ℕ) : Type 0 where
  pub structure : ℕ
  pub info : StructInfo
  pub member : ℕ
  pub type : SlotType
  pub base : kind_of b (n + 1) ≡ Some (kind.StructPtr structure)
  pub exists : slice_get b.structs structure ≡ Some info
  pub refers : refers_of b n ≡ Some member
  pub has : slice_get (map (λ m. m.kind) info.members) member ≡ Some type
  pub is : kind_of b n ≡ Some type

-- a pointer to integers or characters
abbrev pub is_array : SlotType → Bool
is_array kind.IntPtr = true
is_array kind.CharPtr = true
is_array _ = false

pub record IsArray (b : Body) (n : ℕ) : Type 0 where
  pub type : SlotType
  pub is : kind_of b n ≡ Some type
  pub array : is_array type ≡ true

-- two integers, or two pointers of one type
pub data AreComparable (b : Body) (m l : ℕ) : Type 0 where
  integers : IsInteger b m → IsInteger b l → AreComparable b m l
  pointers : (t : SlotType) → is_pointer t ≡ true → kind_of b m ≡ Some t → kind_of b l ≡ Some t → AreComparable b m l

-- the operands of an operator
abbrev pub OperandsFit : BinaryOp → Body → ℕ → ℕ → Type 0
OperandsFit op.Eq b m l = AreComparable b m l
OperandsFit op.Ne b m l = AreComparable b m l
OperandsFit op.And b m l = HasValue b m × HasValue b l
OperandsFit op.Or b m l = HasValue b m × HasValue b l
OperandsFit _ b m l = IsInteger b m × IsInteger b l

-- the node calls this procedure
pub record IsCall (b : Body) (n : ℕ) (p : ProcInfo) : Type 0 where
  pub number : ℕ
  pub refers : refers_of b n ≡ Some number
  pub has : slice_get b.procs number ≡ Some p
  pub is : kind_of b n ≡ p.result

-- node n
abbrev mutual
  pub ExprFits : Body → ℕ → Expr → Type 0
  ExprFits b n (num at z) = HasValue b n
  ExprFits b n (text at u) = kind_of b n ≡ Some kind.CharPtr
  ExprFits b n (null at) = IsPointer b n
  ExprFits b n (name at x) = IsVariable b n
  ExprFits b n (call at f es) = (p : ProcInfo) × IsCall b n p × ArgsFit b (n + 1) es (params_of p)
  ExprFits b n (new at s) = IsPointer b n
  ExprFits b n (new_of at s e) = IsPointer b n × IsInteger b (n + 1) × ExprFits b (n + 1) e
  ExprFits b n (arrow at e f) = IsMember b n × ExprFits b (n + 1) e
  ExprFits b n (index at e i) =
      IsInteger b n × IsArray b (n + 1) × IsInteger b (n + 1 + node_count e) × ExprFits b (n + 1) e × ExprFits b (n + 1 + node_count e) i
  ExprFits b n (not_of at e) = (kind_of b n ≡ Some kind.Int) × HasValue b (n + 1) × ExprFits b (n + 1) e
  ExprFits b n (neg at e) = (kind_of b n ≡ Some kind.Int) × IsInteger b (n + 1) × ExprFits b (n + 1) e
  ExprFits b n (binary at o d e) =
      (kind_of b n ≡ Some kind.Int) × OperandsFit o b (n + 1) (n + 1 + node_count d) × ExprFits b (n + 1) d × ExprFits b (n + 1 + node_count d) e

  -- as many arguments as parameters, each going to its type
  pub ArgsFit : Body → ℕ → Exprs → List SlotType → Type 0
  ArgsFit b n no_exprs [] = ⊤
  ArgsFit b n no_exprs (t ∷ ts) = ⊥
  ArgsFit b n (expr e es) [] = ⊥
  ArgsFit b n (expr e es) (t ∷ ts) = GoesTo b n t × ExprFits b n e × ArgsFit b (n + node_count e) es ts

-- a condition, at node n
abbrev pub ConditionFits : Body → ℕ → Expr → Type 0
ConditionFits b n e = HasValue b n × ExprFits b n e

abbrev pub ConditionsFit : Body → ℕ → Exprs → Type 0
ConditionsFit b n no_exprs = ⊤
ConditionsFit b n (expr e es) = ConditionFits b n e

-- the local that a node declares, and what it is given
pub record IsGiven (b : Body) (n : ℕ) (e : Expr) : Type 0 where
  pub slot : ℕ
  pub type : SlotType
  pub refers : refers_of b n ≡ Some slot
  pub variable : slot < b.variables
  pub has : slice_get b.slots slot ≡ Some type
  pub value : GoesTo b (n + 1) type
  pub fits : ExprFits b (n + 1) e

-- an assignment to the node m of the value of the node l
pub record IsAssigned (b : Body) (m l : ℕ) : Type 0 where
  pub type : SlotType
  pub target : kind_of b m ≡ Some type
  pub value : GoesTo b l type

-- a value is returned where there is a result, to which it goes
abbrev pub IsReturned : Body → Option SlotType → ℕ → Type 0
IsReturned b None n = ⊥
IsReturned b (Some t) n = GoesTo b n t

-- statement n of a procedure with that result
abbrev mutual
  pub StmtFits : Body → Option SlotType → ℕ → Stmt → Type 0
  StmtFits b r n (block at ss) = StmtsFit b r (n + 1) ss
  StmtFits b r n (local at x t) = NamesVariable b n
  StmtFits b r n (local_as at x t e) = IsGiven b n e
  StmtFits b r n (assign at a e) = IsAssigned b (n + 1) (n + 1 + node_count a) × ExprFits b (n + 1) a × ExprFits b (n + 1 + node_count a) e
  StmtFits b r n (do_call at e) = ExprFits b (n + 1) e
  StmtFits b r n (free at e) = IsPointer b (n + 1) × ExprFits b (n + 1) e
  StmtFits b r n (when at c s) = ConditionFits b (n + 1) c × StmtFits b r (n + 1 + node_count c) s
  StmtFits b r n (when_else at c s t) =
      ConditionFits b (n + 1) c × StmtFits b r (n + 1 + node_count c) s × StmtFits b r (n + 1 + node_count c + stmt_count s) t
  StmtFits b r n (while at c s) = ConditionFits b (n + 1) c × StmtFits b r (n + 1 + node_count c) s
  StmtFits b r n (for at init c step s) =
      StmtsFit b r (n + 1) init
      × ConditionsFit b (n + 1 + stmts_count init) c
      × StmtsFit b r (n + 1 + stmts_count init + node_count_of c) step
      × StmtFits b r (n + 1 + stmts_count init + node_count_of c + stmts_count step) s
  StmtFits b r n (break at) = ⊤
  StmtFits b r n (continue at) = ⊤
  StmtFits b r n (return at) = ⊤
  StmtFits b r n (return_of at e) = IsReturned b r (n + 1) × ExprFits b (n + 1) e
  StmtFits b r n (nothing at) = ⊤

  pub StmtsFit : Body → Option SlotType → ℕ → Stmts → Type 0
  StmtsFit b r n no_stmts = ⊤
  StmtsFit b r n (stmt s ss) = StmtFits b r n s × StmtsFit b r (n + stmt_count s) ss

-- Procedures and files

-- a struct that a type names exists
abbrev pub TypeExists : List StructInfo → SlotType → Type 0
TypeExists ss (kind.StructPtr s) = s < length ss
TypeExists ss _ = ⊤

abbrev pub KindExists : List StructInfo → NodeInfo → Type 0
KindExists ss i = IfSome i.kind (TypeExists ss)

abbrev pub result_count : Option SlotType → ℕ
result_count None = 0
result_count (Some t) = 1

-- the last slot of a body is its result's, where there is one
pub record HasResult (p : ProcInfo) (variables : ℕ) : Type 0 where
  pub count : length p.slots ≡ variables + result_count p.result
  pub last : IfSome p.result (λ t. slice_get (kinds_of p.slots) variables ≡ Some t)

abbrev pub body_with : List StructInfo → List ProcInfo → ProcInfo → ℕ → Body
body_with ss ps p variables = record { structs = ss; procs = ps; slots = kinds_of p.slots; variables = variables; nodes = p.nodes }

-- a procedure with this body
pub record IsTypedBody (ss : List StructInfo) (ps : List ProcInfo) (p : ProcInfo) (s : Stmt) : Type 0 where
  pub variables : ℕ
  pub result : HasResult p variables
  pub params : p.params ≤ variables
  pub nodes : length p.nodes ≡ stmt_count s
  pub locals : variables < p.params + stmt_count s
  pub kinds_exist : All (KindExists ss) p.nodes
  pub fits : StmtFits (body_with ss ps p variables) p.result 0 s

-- the body of a procedure, among those of the tree
abbrev pub body_of : Tree → ProcInfo → Option Stmt
body_of t p = option_and_then (λ i. i.body) (slice_get t.procs p.item)

pub record IsTypedProc (t : Tree) (ss : List StructInfo) (ps : List ProcInfo) (bodies k : ℕ) (p : ProcInfo) : Type 0 where
  pub item : p.item < length t.procs
  -- those that have a body have the first numbers
  pub bodied : k < bodies → is_some (body_of t p) ≡ true
  pub body : (s : Stmt) → body_of t p ≡ Some s → IsTypedBody ss ps p s
  -- without a body there are parameters alone, and no pointer comes back
  pub bare : bodies ≤ k → body_of t p ≡ None
  pub external : bodies ≤ k → (length p.slots ≡ p.params) × IfSome p.result (λ t. is_pointer t ≡ false)
  pub slots_exist : All (λ v. TypeExists ss v.kind) p.slots
  pub result_exists : IfSome p.result (TypeExists ss)

-- the size of a procedure with a body: itself, its parameters and its nodes
abbrev pub size_with : ProcInfo → Option Stmt → ℕ
size_with p None = 0
size_with p (Some s) = 1 + p.params + stmt_count s

pub record IsTypedFile (t : Tree) (ss : List StructInfo) (ps : List ProcInfo) (bodies main_proc : ℕ) : Type 0 where
  pub within : bodies ≤ length ps
  pub main_body : main_proc < bodies
  pub main : (p : ProcInfo) → slice_get ps main_proc ≡ Some p → (p.params ≡ 0) × (p.result ≡ Some kind.Int)
  pub procs : (k : ℕ) (p : ProcInfo) → slice_get ps k ≡ Some p → IsTypedProc t ss ps bodies k p
  pub members_exist : All (λ s. All (λ m. TypeExists ss m.kind) s.members) ss
  -- no item of the file is that of two procedures
  pub size : sum_by (λ p. size_with p (body_of t p)) ps ≤ tree_size t
  pub struct_count : length ss ≤ 1024
  pub member_count : All (λ s. length s.members ≤ 64) ss
  pub proc_count : length ps ≤ 4096
  pub param_count : All (λ p. pointer_params p ≤ 8) ps
