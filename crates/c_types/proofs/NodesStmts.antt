-- The nodes of a statement and of a body that breaks no rule.
use Rattle.std.proofs.Common.{◌≡◌, ℕ, zero, suc, ◌+◌, ◌<◌, Bool, true, false, List, [], ◌∷◌, ◌++◌, length, Option, Some, None, option_map, slice_get, ℤ, pos, negsuc, refl, sym, ap, ◌∙◌, subst, arith, append_assoc, length-append}
use Rattle.std.proofs.lemmas.Option.{slice_get_within, slice_get-map}
use Rattle.c_tree.specs.Plain.{Expr, num, text, null, name, call, new, new_of, arrow, index, not_of, neg, binary, Exprs, no_exprs, expr, Stmt, block, local, local_as, assign, do_call, free, when, when_else, while, for, break, continue, return, return_of, nothing, Stmts, no_stmts, stmt}
use Rattle.c_tree.specs.Nodes.{node_count, node_count_of, stmt_count, stmts_count}
use Rattle.c_tree.specs.Formed.{IsBlock}
use Rattle.c_types.specs.declared.kinds.SlotType.{SlotType}
use Rattle.c_types.specs.declared.kinds.SlotType.TheVariants as kind
use Rattle.c_types.specs.declared.kinds.Operand.{Operand}
use Rattle.c_types.specs.declared.kinds.Operand.TheVariants as operand
use Rattle.c_types.specs.declared.kinds.Wanted.TheVariants as wanted
use Rattle.c_types.specs.declared.infos.SlotInfo.{SlotInfo}
use Rattle.c_types.specs.declared.infos.StructInfo.{StructInfo}
use Rattle.c_types.specs.declared.infos.ProcInfo.{ProcInfo}
use Rattle.c_types.specs.declared.tables.Tables.{Tables}
use Rattle.c_types.specs.declared.scope.Scope.{Scope}
use Rattle.c_types.specs.Breaches.{listed}
use Rattle.c_types.specs.Types.{slot_type, of_number, of_type, type_of, wanted_for, type_as, breaks_12, breaks_13, breaks_15, breaks_16}
use Rattle.c_types.specs.Scopes.{declared, entered, left, breaks_5}
use Rattle.c_types.specs.Exprs.{operand_of, is_untyped, breaches, infos}
use Rattle.c_types.specs.Stmts.{after, after_all, breaks_12_for, condition_breaches, stmt_breaches, stmts_breaches, plain_info, slot_info, condition_infos, stmt_infos, stmts_infos}
use Rattle.c_types.specs.Items.{body_breaches, body_after, body_infos}
use Rattle.c_types.specs.Fits.{Body, kind_of, body_with, IsGiven, IsAssigned, IsReturned, ConditionFits, ConditionsFit, StmtFits, StmtsFit}
use Rattle.c_types.proofs.Settings.{AreTables}
use Rattle.c_types.proofs.NodesLists.{StandsAt, stands_first, stands_rest, stands_front, stands_behind, stands_self, slice_get-front, slice_get_pushed, both_none, none_here}
use Rattle.c_types.proofs.NodesKinds.{refers_at, has_value, freed_pointer, goes_to}
use Rattle.c_types.proofs.NodesOperands.{has_type}
use Rattle.c_types.proofs.NodesRows.{OneCondition, OneConditionEach, node_kind, infos_count, condition_count, stmt_infos_count, stmts_infos_count}
use Rattle.c_types.proofs.NodesScopes.{HoldsSlots, holds_before, grows, grows_all}
use Rattle.c_types.proofs.Nodes.{expr_fits, wants_typed}

-- A target has a type, since NULL is none

abbrev is_null : Operand → Bool
is_null (operand.Typed k) = false
is_null operand.Zero = false
is_null operand.Null = true
is_null operand.Untyped = false

number_no_null : (z : ℤ) → is_null (of_number z) ≡ false
number_no_null (pos zero) = refl
number_no_null (pos (suc n)) = refl
number_no_null (negsuc n) = refl

type_no_null : (o : Option SlotType) → is_null (of_type o) ≡ false
type_no_null None = refl
type_no_null (Some k) = refl

value_no_null : (c : Tables) (s : Scope) (e : Expr) → breaches listed c s wanted.Value e ≡ [] → is_null (operand_of c s e) ≡ false
value_no_null c s (num at z) fine = number_no_null z
value_no_null c s (text at u) fine = refl
value_no_null c s (null at) fine = cc
value_no_null c s (name at x) fine = type_no_null _
value_no_null c s (call at f es) fine = type_no_null _
value_no_null c s (new at n) fine = type_no_null _
value_no_null c s (new_of at n e) fine = type_no_null _
value_no_null c s (arrow at e f) fine = type_no_null _
value_no_null c s (index at e i) fine = type_no_null _
value_no_null c s (not_of at e) fine = refl
value_no_null c s (neg at e) fine = refl
value_no_null c s (binary at o d e) fine = refl

module _ (b : Body) where
  assigned : (m l : ℕ) (o q : Operand) → kind_of b m ≡ type_as wanted.Value o → is_untyped o ≡ false → is_null o ≡ false
      → kind_of b l ≡ type_as (wanted_for (type_of o)) q → is_untyped q ≡ false → breaks_13 (type_of o) q ≡ false → IsAssigned b m l
  assigned m l (operand.Typed k) q d t u e v r = record { type = k; target = d; value = goes_to b l k q e v r }
  assigned m l operand.Zero q d t u e v r = record { type = kind.Int; target = d; value = goes_to b l kind.Int q e v r }
  assigned m l operand.Null q d t u e v r = cc
  assigned m l operand.Untyped q d t u e v r = cc

  returned : (r : Option SlotType) (l : ℕ) (q : Operand) → kind_of b l ≡ type_as (wanted_for r) q → is_untyped q ≡ false → breaks_16 r q ≡ false → IsReturned b r l
  returned None l q e t rule = cc
  returned (Some k) l q e t rule = goes_to b l k q e t rule

  -- the slot of a declaration is a variable
  new_slot : (slots : List SlotInfo) (v : SlotInfo) → HoldsSlots b (slots ++ v ∷ []) → (length slots < b.variables) × (slice_get b.slots (length slots) ≡ Some v.kind)
  new_slot slots v held = (omega (arith, held.count, length-append slots (v ∷ [])), held.same (length slots) v (slice_get_pushed slots v))

module _ (c : Tables) (ss : List StructInfo) (ps : List ProcInfo) (b : Body) (tables : AreTables c ss ps) (structs : b.structs ≡ ss) (procs : b.procs ≡ ps) where
  condition_fits : (s : Scope) → HoldsSlots b s.slots → (n : ℕ) (e : Expr) → StandsAt b.nodes n (infos c s wanted.Value e) → breaks_12 (operand_of c s e) ≡ false
      → breaches listed c s wanted.Value e ≡ [] → ConditionFits b n e
  condition_fits s held n e row rule fine = (
    has_value b n (operand_of c s e) (node_kind b n c s wanted.Value e row) (has_type c s wanted.Value e refl fine) rule,
    expr_fits c ss ps b tables structs procs s held wanted.Value n e row fine,
  )

  conditions_fit : (s : Scope) → HoldsSlots b s.slots → (n : ℕ) (es : Exprs) → StandsAt b.nodes n (condition_infos c s es) → breaks_12_for c s es ≡ false
      → condition_breaches listed c s es ≡ [] → ConditionsFit b n es
  conditions_fit s held n no_exprs row rule fine = tt
  conditions_fit s held n (expr e es) row rule fine = condition_fits s held n e row rule fine

  given_fits : (s : Scope) (n : ℕ) (v : SlotInfo) (t : Scope) (e : Expr) → t.slots ≡ s.slots ++ v ∷ [] → HoldsSlots b t.slots
      → StandsAt b.nodes n (slot_info (length s.slots) ∷ infos c t (wanted.For v.kind) e) → breaks_13 (Some v.kind) (operand_of c t e) ≡ false
      → breaches listed c t (wanted.For v.kind) e ≡ [] → IsGiven b n e
  given_fits s n v t e is held row rule fine =
      let place = new_slot b s.slots v (subst (HoldsSlots b) is held) in
      let below = stands_rest b.nodes n (slot_info (length s.slots)) (infos c t (wanted.For v.kind) e) row in
      record {
        slot = length s.slots;
        type = v.kind;
        refers = refers_at b n (slot_info (length s.slots)) (stands_first b.nodes n (slot_info (length s.slots)) (infos c t (wanted.For v.kind) e) row);
        variable = place.0;
        has = place.1;
        value = goes_to b (n + 1) v.kind (operand_of c t e) (node_kind b (n + 1) c t (wanted.For v.kind) e below) (has_type c t (wanted.For v.kind) e refl fine) rule;
        fits = expr_fits c ss ps b tables structs procs t held (wanted.For v.kind) (n + 1) e below fine;
      }

  mutual
    pub stmt_fits : (r : Option SlotType) (looped : Bool) (s : Scope) (n : ℕ) (st : Stmt) → OneCondition st → HoldsSlots b (after c s st).slots
        → StandsAt b.nodes n (stmt_infos c r s st) → stmt_breaches listed c r looped s st ≡ [] → StmtFits b r n st
    stmt_fits r looped s n (block at sts) one held row fine = stmts_fit r looped (entered s) (n + 1) sts one held (stands_rest b.nodes n _ _ row) fine
    stmt_fits r looped s n (local at x t) one held row fine =
        let place = new_slot b s.slots _ held in
        record {
          slot = length s.slots;
          type = slot_type c.tags t;
          refers = refers_at b n (slot_info (length s.slots)) (stands_first b.nodes n _ [] row);
          variable = place.0;
          has = place.1;
        }
    stmt_fits r looped s n (local_as at x t e) one held row fine =
        let k = slot_type c.tags t in
        let new_name = none_here (breaks_5 s x) at 5 _ fine in
        let rule = none_here (breaks_13 (Some k) (operand_of c (declared s x k at) e)) at 13 _ new_name.1 in
        given_fits s n (record { name = x; kind = k; at = at }) (declared s x k at) e refl held row rule.0 rule.1
    stmt_fits r looped s n (assign at a e) one held row fine =
        let o = operand_of c s a in
        let q = operand_of c s e in
        let w = wanted_for (type_of o) in
        let rule = none_here (breaks_13 (type_of o) q) at 13 _ fine in
        let parts = both_none (breaches listed c s wanted.Value a) _ rule.1 in
        let below = stands_rest b.nodes n _ _ row in
        let target = stands_front b.nodes (n + 1) (infos c s wanted.Value a) (infos c s w e) below in
        let source = stands_behind b.nodes (n + 1) (node_count a) (infos c s wanted.Value a) (infos c s w e) (infos_count c s wanted.Value a) below in (
          assigned b (n + 1) (n + 1 + node_count a) o q (node_kind b (n + 1) c s wanted.Value a target) (has_type c s wanted.Value a refl parts.0) (value_no_null c s a parts.0)
              (node_kind b (n + 1 + node_count a) c s w e source) (has_type c s w e (wants_typed (type_of o)) parts.1) rule.0,
          expr_fits c ss ps b tables structs procs s held wanted.Value (n + 1) a target parts.0,
          expr_fits c ss ps b tables structs procs s held w (n + 1 + node_count a) e source parts.1,
        )
    stmt_fits r looped s n (do_call at e) one held row fine =
        expr_fits c ss ps b tables structs procs s held wanted.Nothing (n + 1) e (stands_rest b.nodes n _ _ row) fine
    stmt_fits r looped s n (free at e) one held row fine =
        let rule = none_here (breaks_15 (operand_of c s e)) at 15 _ fine in
        let below = stands_rest b.nodes n _ _ row in (
          freed_pointer b (n + 1) (operand_of c s e) (node_kind b (n + 1) c s wanted.Value e below) (has_type c s wanted.Value e refl rule.1) rule.0,
          expr_fits c ss ps b tables structs procs s held wanted.Value (n + 1) e below rule.1,
        )
    stmt_fits r looped s n (when at e st) one held row fine =
        let rule = none_here (breaks_12 (operand_of c s e)) at 12 _ fine in
        let parts = both_none (breaches listed c s wanted.Value e) _ rule.1 in
        let below = stands_rest b.nodes n _ _ row in
        let before = stands_front b.nodes (n + 1) (infos c s wanted.Value e) (stmt_infos c r s st) below in
        let behind = stands_behind b.nodes (n + 1) (node_count e) (infos c s wanted.Value e) (stmt_infos c r s st) (infos_count c s wanted.Value e) below in (
          condition_fits s (holds_before b s.slots _ _ (grows c s st) held) (n + 1) e before rule.0 parts.0,
          stmt_fits r looped s (n + 1 + node_count e) st one held behind parts.1,
        )
    stmt_fits r looped s n (when_else at e st su) one held row fine =
        let outer = left s (after c s st) in
        let rule = none_here (breaks_12 (operand_of c s e)) at 12 _ fine in
        let parts = both_none (breaches listed c s wanted.Value e) _ rule.1 in
        let ways = both_none (stmt_breaches listed c r looped s st) _ parts.1 in
        let below = stands_rest b.nodes n _ _ row in
        let before = stands_front b.nodes (n + 1) (infos c s wanted.Value e) _ below in
        let behind = stands_behind b.nodes (n + 1) (node_count e) (infos c s wanted.Value e) _ (infos_count c s wanted.Value e) below in
        let first = stands_front b.nodes (n + 1 + node_count e) (stmt_infos c r s st) (stmt_infos c r outer su) behind in
        let second = stands_behind b.nodes (n + 1 + node_count e) (stmt_count st) (stmt_infos c r s st) (stmt_infos c r outer su) (stmt_infos_count c r s st one.0) behind in
        let held_first = holds_before b (after c s st).slots _ _ (grows c outer su) held in (
          condition_fits s (holds_before b s.slots _ _ (grows c s st) held_first) (n + 1) e before rule.0 parts.0,
          stmt_fits r looped s (n + 1 + node_count e) st one.0 held_first first ways.0,
          stmt_fits r looped outer (n + 1 + node_count e + stmt_count st) su one.1 held second ways.1,
        )
    stmt_fits r looped s n (while at e st) one held row fine =
        let rule = none_here (breaks_12 (operand_of c s e)) at 12 _ fine in
        let parts = both_none (breaches listed c s wanted.Value e) _ rule.1 in
        let below = stands_rest b.nodes n _ _ row in
        let before = stands_front b.nodes (n + 1) (infos c s wanted.Value e) (stmt_infos c r s st) below in
        let behind = stands_behind b.nodes (n + 1) (node_count e) (infos c s wanted.Value e) (stmt_infos c r s st) (infos_count c s wanted.Value e) below in (
          condition_fits s (holds_before b s.slots _ _ (grows c s st) held) (n + 1) e before rule.0 parts.0,
          stmt_fits r true s (n + 1 + node_count e) st one held behind parts.1,
        )
    stmt_fits r looped s n (for at init e step st) one held row fine =
        let first = after_all c (entered s) init in
        let last = after_all c first step in
        let inner = left first last in
        let rule = none_here (breaks_12_for c first e) at 12 _ fine in
        let parts = both_none (stmts_breaches listed c r looped (entered s) init ++ condition_breaches listed c first e) _ rule.1 in
        let start = both_none (stmts_breaches listed c r looped (entered s) init) _ parts.0 in
        let rest = both_none (stmts_breaches listed c r true first step) _ parts.1 in
        let held_last = holds_before b last.slots _ _ (grows c inner st) held in
        let held_first = holds_before b first.slots _ _ (grows_all c first step) held_last in
        let n_init = n + 1 in
        let n_cond = n_init + stmts_count init in
        let n_step = n_cond + node_count_of e in
        let i_init = stmts_infos c r (entered s) init in
        let i_cond = condition_infos c first e in
        let i_step = stmts_infos c r first step in
        let i_body = stmt_infos c r inner st in
        let below = subst (StandsAt b.nodes n_init) (append_assoc i_init i_cond (i_step ++ i_body)) (stands_rest b.nodes n plain_info (i_init ++ i_cond ++ (i_step ++ i_body)) row) in
        let row_init = stands_front b.nodes n_init i_init (i_cond ++ (i_step ++ i_body)) below in
        let after_init = stands_behind b.nodes n_init (stmts_count init) i_init (i_cond ++ (i_step ++ i_body)) (stmts_infos_count c r (entered s) init one.0) below in
        let row_cond = stands_front b.nodes n_cond i_cond (i_step ++ i_body) after_init in
        let after_cond = stands_behind b.nodes n_cond (node_count_of e) i_cond (i_step ++ i_body) (condition_count c first e one.1) after_init in
        let row_step = stands_front b.nodes n_step i_step i_body after_cond in
        let row_body = stands_behind b.nodes n_step (stmts_count step) i_step i_body (stmts_infos_count c r first step one.2) after_cond in (
          stmts_fit r looped (entered s) n_init init one.0 held_first row_init start.0,
          conditions_fit first held_first n_cond e row_cond rule.0 start.1,
          stmts_fit r true first n_step step one.2 held_last row_step rest.0,
          stmt_fits r true inner (n_step + stmts_count step) st one.3 held row_body rest.1,
        )
    stmt_fits r looped s n (break at) one held row fine = tt
    stmt_fits r looped s n (continue at) one held row fine = tt
    stmt_fits r looped s n (return at) one held row fine = tt
    stmt_fits r looped s n (return_of at e) one held row fine =
        let rule = none_here (breaks_16 r (operand_of c s e)) at 16 _ fine in
        let below = stands_rest b.nodes n _ _ row in (
          returned b r (n + 1) (operand_of c s e) (node_kind b (n + 1) c s (wanted_for r) e below) (has_type c s (wanted_for r) e (wants_typed r) rule.1) rule.0,
          expr_fits c ss ps b tables structs procs s held (wanted_for r) (n + 1) e below rule.1,
        )
    stmt_fits r looped s n (nothing at) one held row fine = tt

    pub stmts_fit : (r : Option SlotType) (looped : Bool) (s : Scope) (n : ℕ) (sts : Stmts) → OneConditionEach sts → HoldsSlots b (after_all c s sts).slots
        → StandsAt b.nodes n (stmts_infos c r s sts) → stmts_breaches listed c r looped s sts ≡ [] → StmtsFit b r n sts
    stmts_fit r looped s n no_stmts one held row fine = tt
    stmts_fit r looped s n (stmt st sts) one held row fine =
        let parts = both_none (stmt_breaches listed c r looped s st) _ fine in
        let front = stands_front b.nodes n (stmt_infos c r s st) (stmts_infos c r (after c s st) sts) row in
        let behind = stands_behind b.nodes n (stmt_count st) (stmt_infos c r s st) (stmts_infos c r (after c s st) sts) (stmt_infos_count c r s st one.0) row in (
          stmt_fits r looped s n st one.0 (holds_before b (after c s st).slots _ _ (grows_all c (after c s st) sts) held) front parts.0,
          stmts_fit r looped (after c s st) (n + stmt_count st) sts one.1 held behind parts.1,
        )

-- a procedure's first slots are those that its body has
body_holds : (ss : List StructInfo) (ps : List ProcInfo) (p : ProcInfo) (slots rest : List SlotInfo) → p.slots ≡ slots ++ rest → HoldsSlots (body_with ss ps p (length slots)) slots
body_holds ss ps p slots rest is = record {
  same = λ i v e.
      slice_get-map (λ x. x.kind) p.slots i
      ∙ ap (option_map (λ (x : SlotInfo). x.kind)) (ap (λ xs. slice_get xs i) is ∙ slice_get-front slots rest i (slice_get_within slots i v e) ∙ e);
  count = omega arith;
}

pub body_fits : (c : Tables) (ss : List StructInfo) (ps : List ProcInfo) (s : Scope) (st : Stmt) (p : ProcInfo) (rest : List SlotInfo)
    → AreTables c ss ps → IsBlock st → OneCondition st → body_breaches listed c p.result s (Some st) ≡ []
    → p.slots ≡ (body_after c s (Some st)).slots ++ rest → p.nodes ≡ body_infos c p.result s (Some st)
    → StmtFits (body_with ss ps p (length (body_after c s (Some st)).slots)) p.result 0 st
body_fits c ss ps s (block at sts) p rest tables is one fine slots nodes =
    let last = (after_all c s sts).slots in
    let infos = stmts_infos c p.result s sts in
    let row = stands_rest p.nodes 0 plain_info infos (subst (λ xs. StandsAt xs 0 (plain_info ∷ infos)) (sym nodes) (stands_self (plain_info ∷ infos))) in
    stmts_fit c ss ps (body_with ss ps p (length last)) tables refl refl p.result false s (0 + 1) sts one (body_holds ss ps p last rest slots) row fine
body_fits c ss ps s (local at x t) p rest tables is one fine slots nodes = absurd is
body_fits c ss ps s (local_as at x t e) p rest tables is one fine slots nodes = absurd is
body_fits c ss ps s (assign at a e) p rest tables is one fine slots nodes = absurd is
body_fits c ss ps s (do_call at e) p rest tables is one fine slots nodes = absurd is
body_fits c ss ps s (free at e) p rest tables is one fine slots nodes = absurd is
body_fits c ss ps s (when at e st) p rest tables is one fine slots nodes = absurd is
body_fits c ss ps s (when_else at e st su) p rest tables is one fine slots nodes = absurd is
body_fits c ss ps s (while at e st) p rest tables is one fine slots nodes = absurd is
body_fits c ss ps s (for at init e step st) p rest tables is one fine slots nodes = absurd is
body_fits c ss ps s (break at) p rest tables is one fine slots nodes = absurd is
body_fits c ss ps s (continue at) p rest tables is one fine slots nodes = absurd is
body_fits c ss ps s (return at) p rest tables is one fine slots nodes = absurd is
body_fits c ss ps s (return_of at e) p rest tables is one fine slots nodes = absurd is
body_fits c ss ps s (nothing at) p rest tables is one fine slots nodes = absurd is
