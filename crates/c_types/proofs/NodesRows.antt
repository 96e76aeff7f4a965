-- How many nodes an expression and a statement have in a body's row, and the first of them.
use Rattle.std.proofs.Common.{◌≡◌, ℕ, ◌+◌, List, ◌∷◌, ◌++◌, length, drop, Option, Some, slice_get, refl, subst, arith, length-append}
use Rattle.std.specs.Prelude.{⊤}
use Rattle.c_tree.specs.Plain.{Expr, num, text, null, name, call, new, new_of, arrow, index, not_of, neg, binary, Exprs, no_exprs, expr, Stmt, block, local, local_as, assign, do_call, free, when, when_else, while, for, break, continue, return, return_of, nothing, Stmts, no_stmts, stmt}
use Rattle.c_tree.specs.Nodes.{node_count, node_count_of, stmt_count, stmts_count}
use Rattle.c_tree.specs.Formed.{IsBlock}
use Rattle.c_types.specs.declared.kinds.SlotType.{SlotType}
use Rattle.c_types.specs.declared.kinds.Wanted.{Wanted}
use Rattle.c_types.specs.declared.kinds.Wanted.TheVariants as wanted
use Rattle.c_types.specs.declared.infos.NodeInfo.{NodeInfo}
use Rattle.c_types.specs.declared.tables.Tables.{Tables}
use Rattle.c_types.specs.declared.scope.Scope.{Scope}
use Rattle.c_types.specs.Types.{slot_type, type_of, wanted_for, type_as, wanted_by}
use Rattle.c_types.specs.Scopes.{declared, entered, left}
use Rattle.c_types.specs.Exprs.{operand_of, params_of, refers_of, expr_info, infos, args_infos}
use Rattle.c_types.specs.Stmts.{after, after_all, plain_info, slot_info, condition_infos, stmt_infos, stmts_infos}
use Rattle.c_types.specs.Items.{body_infos}
use Rattle.c_types.specs.Fits.{Body, kind_of}
use Rattle.c_types.specs.Fits as fits
use Rattle.c_types.proofs.NodesLists.{StandsAt, stands_first}
use Rattle.c_types.proofs.NodesKinds.{kind_at, refers_at}

-- the node of an expression, before those below it
pub own_info : (c : Tables) (s : Scope) (w : Wanted) (e : Expr) → (below : List NodeInfo) × (infos c s w e ≡ expr_info c s w e ∷ below)
own_info c s w (num at z) = (_, refl)
own_info c s w (text at u) = (_, refl)
own_info c s w (null at) = (_, refl)
own_info c s w (name at x) = (_, refl)
own_info c s w (call at f es) = (_, refl)
own_info c s w (new at n) = (_, refl)
own_info c s w (new_of at n e) = (_, refl)
own_info c s w (arrow at e f) = (_, refl)
own_info c s w (index at e i) = (_, refl)
own_info c s w (not_of at e) = (_, refl)
own_info c s w (neg at e) = (_, refl)
own_info c s w (binary at o d e) = (_, refl)

node_at : (row : List NodeInfo) (n : ℕ) (c : Tables) (s : Scope) (w : Wanted) (e : Expr) → StandsAt row n (infos c s w e) → slice_get row n ≡ Some (expr_info c s w e)
node_at row n c s w e h = let f = own_info c s w e in stands_first row n (expr_info c s w e) f.0 (subst (StandsAt row n) f.1 h)

-- the type of the node, and what it refers to
pub node_kind : (b : Body) (n : ℕ) (c : Tables) (s : Scope) (w : Wanted) (e : Expr) → StandsAt b.nodes n (infos c s w e) → kind_of b n ≡ type_as w (operand_of c s e)
node_kind b n c s w e h = kind_at b n (expr_info c s w e) (node_at b.nodes n c s w e h)

pub node_refers : (b : Body) (n : ℕ) (c : Tables) (s : Scope) (w : Wanted) (e : Expr) → StandsAt b.nodes n (infos c s w e) → fits.refers_of b n ≡ refers_of c s e
node_refers b n c s w e h = refers_at b n (expr_info c s w e) (node_at b.nodes n c s w e h)

-- Counts

plus : (xs ys : List NodeInfo) (m n : ℕ) → length xs ≡ m → length ys ≡ n → length (xs ++ ys) ≡ m + n
plus xs ys m n p q = omega (arith, length-append xs ys)

one_more : (x : NodeInfo) (xs : List NodeInfo) (n : ℕ) → length xs ≡ n → length (x ∷ xs) ≡ n + 1
one_more x xs n p = omega arith

mutual
  pub infos_count : (c : Tables) (s : Scope) (w : Wanted) (e : Expr) → length (infos c s w e) ≡ node_count e
  infos_count c s w (num at z) = refl
  infos_count c s w (text at u) = refl
  infos_count c s w (null at) = refl
  infos_count c s w (name at x) = refl
  infos_count c s w (call at f es) = one_more (expr_info c s w (call at f es)) _ _ (args_count c s (params_of c f) es)
  infos_count c s w (new at n) = refl
  infos_count c s w (new_of at n e) = one_more (expr_info c s w (new_of at n e)) _ _ (infos_count c s wanted.Value e)
  infos_count c s w (arrow at e f) = one_more (expr_info c s w (arrow at e f)) _ _ (infos_count c s wanted.Value e)
  infos_count c s w (index at e i) = one_more (expr_info c s w (index at e i)) _ _ (plus _ _ _ _ (infos_count c s wanted.Value e) (infos_count c s wanted.Value i))
  infos_count c s w (not_of at e) = one_more (expr_info c s w (not_of at e)) _ _ (infos_count c s wanted.Value e)
  infos_count c s w (neg at e) = one_more (expr_info c s w (neg at e)) _ _ (infos_count c s wanted.Value e)
  infos_count c s w (binary at o d e) =
      one_more (expr_info c s w (binary at o d e)) _ _ (plus _ _ _ _ (infos_count c s (wanted_by o (operand_of c s e)) d) (infos_count c s (wanted_by o (operand_of c s d)) e))

  pub args_count : (c : Tables) (s : Scope) (ks : List SlotType) (es : Exprs) → length (args_infos c s ks es) ≡ node_count_of es
  args_count c s ks no_exprs = refl
  args_count c s ks (expr e es) = plus _ _ _ _ (infos_count c s (wanted_for (slice_get ks 0)) e) (args_count c s (drop 1 ks) es)

-- each for statement has at most one condition
abbrev pub AtMostOne : Exprs → Type 0
AtMostOne no_exprs = ⊤
AtMostOne (expr e no_exprs) = ⊤
AtMostOne (expr e (expr d es)) = ⊥

abbrev mutual
  pub OneCondition : Stmt → Type 0
  OneCondition (block at sts) = OneConditionEach sts
  OneCondition (when at e st) = OneCondition st
  OneCondition (when_else at e st su) = OneCondition st × OneCondition su
  OneCondition (while at e st) = OneCondition st
  OneCondition (for at init e step st) = OneConditionEach init × AtMostOne e × OneConditionEach step × OneCondition st
  OneCondition _ = ⊤

  pub OneConditionEach : Stmts → Type 0
  OneConditionEach no_stmts = ⊤
  OneConditionEach (stmt st sts) = OneCondition st × OneConditionEach sts

pub condition_count : (c : Tables) (s : Scope) (es : Exprs) → AtMostOne es → length (condition_infos c s es) ≡ node_count_of es
condition_count c s no_exprs one = refl
condition_count c s (expr e no_exprs) one = omega (arith, infos_count c s wanted.Value e)
condition_count c s (expr e (expr d es)) one = absurd one

plus_three : (xs ys zs : List NodeInfo) (l m n : ℕ) → length xs ≡ l → length ys ≡ m → length zs ≡ n → length (xs ++ (ys ++ zs)) ≡ l + m + n
plus_three xs ys zs l m n p q r = omega (arith, length-append xs (ys ++ zs), length-append ys zs)

plus_four : (xs ys zs us : List NodeInfo) (l m n k : ℕ) → length xs ≡ l → length ys ≡ m → length zs ≡ n → length us ≡ k → length (xs ++ ys ++ (zs ++ us)) ≡ l + m + n + k
plus_four xs ys zs us l m n k p q r t = omega (arith, length-append (xs ++ ys) (zs ++ us), length-append xs ys, length-append zs us)

mutual
  pub stmt_infos_count : (c : Tables) (r : Option SlotType) (s : Scope) (st : Stmt) → OneCondition st → length (stmt_infos c r s st) ≡ stmt_count st
  stmt_infos_count c r s (block at sts) one = one_more plain_info _ _ (stmts_infos_count c r (entered s) sts one)
  stmt_infos_count c r s (local at x t) one = refl
  stmt_infos_count c r s (local_as at x t e) one = one_more (slot_info (length s.slots)) _ _ (infos_count c (declared s x (slot_type c.tags t) at) (wanted.For (slot_type c.tags t)) e)
  stmt_infos_count c r s (assign at a e) one = one_more plain_info _ _ (plus _ _ _ _ (infos_count c s wanted.Value a) (infos_count c s (wanted_for (type_of (operand_of c s a))) e))
  stmt_infos_count c r s (do_call at e) one = one_more plain_info _ _ (infos_count c s wanted.Nothing e)
  stmt_infos_count c r s (free at e) one = one_more plain_info _ _ (infos_count c s wanted.Value e)
  stmt_infos_count c r s (when at e st) one = one_more plain_info _ _ (plus _ _ _ _ (infos_count c s wanted.Value e) (stmt_infos_count c r s st one))
  stmt_infos_count c r s (when_else at e st su) one =
      one_more plain_info _ _ (plus_three _ _ _ _ _ _ (infos_count c s wanted.Value e) (stmt_infos_count c r s st one.0) (stmt_infos_count c r (left s (after c s st)) su one.1))
  stmt_infos_count c r s (while at e st) one = one_more plain_info _ _ (plus _ _ _ _ (infos_count c s wanted.Value e) (stmt_infos_count c r s st one))
  stmt_infos_count c r s (for at init e step st) one =
      let first = after_all c (entered s) init in
      one_more plain_info _ _
      (plus_four _ _ _ _ _ _ _ _ (stmts_infos_count c r (entered s) init one.0) (condition_count c first e one.1)
      (stmts_infos_count c r first step one.2) (stmt_infos_count c r (left first (after_all c first step)) st one.3))
  stmt_infos_count c r s (break at) one = refl
  stmt_infos_count c r s (continue at) one = refl
  stmt_infos_count c r s (return at) one = refl
  stmt_infos_count c r s (return_of at e) one = one_more plain_info _ _ (infos_count c s (wanted_for r) e)
  stmt_infos_count c r s (nothing at) one = refl

  pub stmts_infos_count : (c : Tables) (r : Option SlotType) (s : Scope) (sts : Stmts) → OneConditionEach sts → length (stmts_infos c r s sts) ≡ stmts_count sts
  stmts_infos_count c r s no_stmts one = refl
  stmts_infos_count c r s (stmt st sts) one = plus _ _ _ _ (stmt_infos_count c r s st one.0) (stmts_infos_count c r (after c s st) sts one.1)

-- a body has a node for each statement and expression in it
pub body_nodes : (c : Tables) (r : Option SlotType) (s : Scope) (st : Stmt) → IsBlock st → OneCondition st → length (body_infos c r s (Some st)) ≡ stmt_count st
body_nodes c r s (block at sts) is one = one_more plain_info _ _ (stmts_infos_count c r s sts one)
body_nodes c r s (local at x t) is one = absurd is
body_nodes c r s (local_as at x t e) is one = absurd is
body_nodes c r s (assign at a e) is one = absurd is
body_nodes c r s (do_call at e) is one = absurd is
body_nodes c r s (free at e) is one = absurd is
body_nodes c r s (when at e st) is one = absurd is
body_nodes c r s (when_else at e st su) is one = absurd is
body_nodes c r s (while at e st) is one = absurd is
body_nodes c r s (for at init e step st) is one = absurd is
body_nodes c r s (break at) is one = absurd is
body_nodes c r s (continue at) is one = absurd is
body_nodes c r s (return at) is one = absurd is
body_nodes c r s (return_of at e) is one = absurd is
body_nodes c r s (nothing at) is one = absurd is
