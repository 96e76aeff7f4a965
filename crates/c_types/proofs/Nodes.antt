-- The nodes of an expression that breaks no rule.
use Rattle.std.proofs.Common.{◌≡◌, ℕ, ◌+◌, Bool, true, false, not, ◌&&◌, ◌||◌, if◌then◌else◌, List, [], ◌∷◌, Option, Some, None, is_some, option_map, option_and_then, slice_get, position, bytes_eq, refl, sym, ap, ◌∙◌, subst, arith}
use Rattle.std.specs.Option.{option_map_or}
use Rattle.std.proofs.lemmas.Option.{slice_get_within}
use Rattle.c_tree.specs.declared.tree.BinaryOp.{BinaryOp}
use Rattle.c_tree.specs.declared.tree.BinaryOp.TheVariants as op
use Rattle.c_tree.specs.declared.tree.Unit.{Unit as Measured}
use Rattle.c_tree.specs.Plain.{Expr, num, text, null, name, call, new, new_of, arrow, index, not_of, neg, binary, Exprs, no_exprs, expr}
use Rattle.c_tree.specs.Nodes.{node_count}
use Rattle.c_types.specs.declared.kinds.SlotType.{SlotType}
use Rattle.c_types.specs.declared.kinds.Operand.{Operand}
use Rattle.c_types.specs.declared.kinds.Wanted.{Wanted}
use Rattle.c_types.specs.declared.kinds.Wanted.TheVariants as wanted
use Rattle.c_types.specs.declared.infos.StructInfo.{StructInfo}
use Rattle.c_types.specs.declared.infos.ProcInfo.{ProcInfo}
use Rattle.c_types.specs.declared.tables.Signature.{Signature}
use Rattle.c_types.specs.declared.tables.Tables.{Tables}
use Rattle.c_types.specs.declared.scope.Scope.{Scope}
use Rattle.c_types.specs.Breaches.{listed}
use Rattle.c_types.specs.Types.{type_of, wanted_for, type_as, of_type, no_integer, no_array, element_type, breaks_9, breaks_10, breaks_12, breaks_13, binary_rule, breaks_binary, wanted_by}
use Rattle.c_types.specs.Declarations.{signature_of}
use Rattle.c_types.specs.Scopes.{slot_in, kind_in}
use Rattle.c_types.specs.Exprs.{operand_of, params_of, result_of, unit_type, member_of, is_untyped, misfits, breaks_6, breaks_6_call, breaks_7, breaks_8, breaks_14, breaks_18, breaks_19, wants_value, breaches, args_breaches, infos, args_infos}
use Rattle.c_types.specs.Fits.{Body, kind_of, refers_of, HasValue, IsInteger, IsPointer, IsVariable, IsMember, IsCall, OperandsFit, AreComparable, ExprFits, ArgsFit}
use Rattle.c_types.specs.Fits as fits
use Rattle.c_types.proofs.Settings.{AreTables}
use Rattle.c_types.proofs.NodesLists.{StandsAt, stands_rest, stands_front, stands_behind, no_breach, both_none, none_here, neither}
use Rattle.c_types.proofs.NodesKinds.{number_value, null_pointer, has_value, is_integer, array_base, goes_to, comparable}
use Rattle.c_types.proofs.NodesOperands.{some_of, name_means, name_kind, member_known, made_type, unit_pointer, element_known, has_type}
use Rattle.c_types.proofs.NodesRows.{node_kind, node_refers, infos_count}
use Rattle.c_types.proofs.NodesScopes.{HoldsSlots}

-- Operators

wants_either : (same : Bool) (k : Option SlotType) → wants_value (if same then wanted_for k else wanted.Value) ≡ true
wants_either true None = refl
wants_either true (Some k) = refl
wants_either false k = refl

wants_beside : (o : BinaryOp) (q : Operand) → wants_value (wanted_by o q) ≡ true
unfolding wanted_by
wants_beside o q = wants_either _ (type_of q)

pub wants_typed : (k : Option SlotType) → wants_value (wanted_for k) ≡ true
wants_typed None = refl
wants_typed (Some k) = refl

module _ (b : Body) (m l : ℕ) where
  two_integers : (a q : Operand) → kind_of b m ≡ type_as wanted.Value a → kind_of b l ≡ type_as wanted.Value q → is_untyped a ≡ false → is_untyped q ≡ false
      → (breaks_10 a || breaks_10 q) ≡ false → IsInteger b m × IsInteger b l
  two_integers a q d e t u r = let n = neither (breaks_10 a) (breaks_10 q) r in (is_integer b m a d t n.0, is_integer b l q e u n.1)

  two_values : (a q : Operand) → kind_of b m ≡ type_as wanted.Value a → kind_of b l ≡ type_as wanted.Value q → is_untyped a ≡ false → is_untyped q ≡ false
      → (breaks_12 a || breaks_12 q) ≡ false → HasValue b m × HasValue b l
  two_values a q d e t u r = let n = neither (breaks_12 a) (breaks_12 q) r in (has_value b m a d t n.0, has_value b l q e u n.1)

  operands_fit : (o : BinaryOp) (a q : Operand) → kind_of b m ≡ type_as (wanted_by o q) a → kind_of b l ≡ type_as (wanted_by o a) q
      → is_untyped a ≡ false → is_untyped q ≡ false → breaks_binary (binary_rule o) a q ≡ false → OperandsFit o b m l
  unfolding binary_rule breaks_binary wanted_by
  operands_fit op.Eq a q d e t u r = comparable b m l a q d e t u r
  operands_fit op.Ne a q d e t u r = comparable b m l a q d e t u r
  operands_fit op.And a q d e t u r = two_values a q d e t u r
  operands_fit op.Or a q d e t u r = two_values a q d e t u r
  operands_fit op.Mul a q d e t u r = two_integers a q d e t u r
  operands_fit op.Div a q d e t u r = two_integers a q d e t u r
  operands_fit op.Rem a q d e t u r = two_integers a q d e t u r
  operands_fit op.Add a q d e t u r = two_integers a q d e t u r
  operands_fit op.Sub a q d e t u r = two_integers a q d e t u r
  operands_fit op.Lt a q d e t u r = two_integers a q d e t u r
  operands_fit op.Le a q d e t u r = two_integers a q d e t u r
  operands_fit op.Gt a q d e t u r = two_integers a q d e t u r
  operands_fit op.Ge a q d e t u r = two_integers a q d e t u r

-- Nodes by what they are

typed_as : (w : Wanted) (o : Option SlotType) (k : SlotType) → o ≡ Some k → type_as w (of_type o) ≡ Some k
typed_as w o k e = ap (λ x. type_as w (of_type x)) e

result_as : (w : Wanted) (o : Option SlotType) → type_as w (of_type o) ≡ o
result_as w None = refl
result_as w (Some k) = refl

variable_fits : (b : Body) (n : ℕ) (s : Scope) (w : Wanted) (x : List ℕ) → HoldsSlots b s.slots → kind_of b n ≡ type_as w (of_type (kind_in s x))
    → refers_of b n ≡ slot_in s x → breaks_6 s x ≡ false → IsVariable b n
variable_fits b n s w x held e f r =
    let m = name_means s x r in
    record {
      slot = m.number;
      type = m.slot.kind;
      refers = f ∙ m.is;
      variable = omega (arith, slice_get_within s.slots m.number m.slot m.has, held.count);
      has = held.same m.number m.slot m.has;
      is = e ∙ typed_as w (kind_in s x) m.slot.kind (name_kind s x m);
    }

pointer_made : (b : Body) (n : ℕ) (c : Tables) (s : Scope) (w : Wanted) (u : Option Measured) (t : SlotType) → unit_type c s u ≡ Some t
    → kind_of b n ≡ type_as w (of_type (unit_type c s u)) → IsPointer b n
pointer_made b n c s w u t is e = record { type = t; is = e ∙ typed_as w (unit_type c s u) t is; pointer = unit_pointer c s u t is }

element_fits : (b : Body) (n : ℕ) (w : Wanted) (o : Operand) → is_untyped o ≡ false → no_array o ≡ false → kind_of b n ≡ type_as w (of_type (element_type o)) → IsInteger b n
element_fits b n w o t r e = let k = element_known o t r in record { type = k.0; is = e ∙ typed_as w (element_type o) k.0 k.1; integer = k.2 }

suited : (a m : Bool) → not a ≡ false → (a && m) ≡ false → m ≡ false
suited true m e r = r
suited false m e r = cc

module _ (c : Tables) (ss : List StructInfo) (ps : List ProcInfo) (b : Body) (tables : AreTables c ss ps) (structs : b.structs ≡ ss) (procs : b.procs ≡ ps) where
  member_fits : (n : ℕ) (w : Wanted) (o : Operand) (f : List ℕ) → is_untyped o ≡ false → breaks_8 c o f ≡ false
      → kind_of b n ≡ type_as w (of_type (option_map (λ m. m.1) (member_of c o f))) → refers_of b n ≡ option_map (λ m. m.0) (member_of c o f)
      → kind_of b (n + 1) ≡ type_as wanted.Value o → IsMember b n
  member_fits n w o f t r e g h =
      let m = member_known c o f t r in
      record {
        structure = m.structure;
        info = m.info;
        member = m.member;
        type = m.type;
        base = h ∙ ap (type_as wanted.Value) m.base;
        exists = ap (λ xs. slice_get xs m.structure) (structs ∙ sym tables.structs) ∙ m.exists;
        refers = g ∙ ap (option_map (λ x. x.0)) m.is;
        has = m.has;
        is = e ∙ typed_as w (option_map (λ x. x.1) (member_of c o f)) m.type (ap (option_map (λ x. x.1)) m.is);
      }

  call_fits : (n : ℕ) (w : Wanted) (f : List ℕ) (es : Exprs) → breaks_6_call c f ≡ false
      → kind_of b n ≡ type_as w (of_type (result_of c f)) → refers_of b n ≡ position (bytes_eq f) c.procs → ArgsFit b (n + 1) es (params_of c f)
      → (p : ProcInfo) × IsCall b n p × ArgsFit b (n + 1) es (fits.params_of p)
  call_fits n w f es known e g args =
      let said = some_of (signature_of c f) known in
      let callee = tables.callee f said.0 said.1 in
      let types : params_of c f ≡ fits.params_of callee.info = ap (λ o. option_map_or (λ (x : Signature). x.params) o []) said.1 ∙ sym callee.params in (
        callee.info,
        record {
          number = callee.number;
          refers = g ∙ callee.is;
          has = ap (λ xs. slice_get xs callee.number) procs ∙ callee.has;
          is = e ∙ result_as w (result_of c f) ∙ ap (option_and_then (λ (x : Signature). x.result)) said.1 ∙ sym callee.result;
        },
        subst (ArgsFit b (n + 1) es) types args,
      )

  mutual
    pub expr_fits : (s : Scope) → HoldsSlots b s.slots → (w : Wanted) (n : ℕ) (e : Expr) → StandsAt b.nodes n (infos c s w e) → breaches listed c s w e ≡ [] → ExprFits b n e
    expr_fits s held w n (num at z) row fine = number_value b n w z (node_kind b n c s w (num at z) row)
    expr_fits s held w n (text at u) row fine = node_kind b n c s w (text at u) row
    expr_fits s held w n (null at) row fine = null_pointer b n w (node_kind b n c s w (null at) row) (no_breach (breaks_19 w) at 19 fine)
    expr_fits s held w n (name at x) row fine =
        variable_fits b n s w x held (node_kind b n c s w (name at x) row) (node_refers b n c s w (name at x) row) (no_breach (breaks_6 s x) at 6 fine)
    expr_fits s held w n (call at f es) row fine =
        let known = none_here (breaks_6_call c f) at 6 _ fine in
        let suits = none_here (breaks_7 c s f es) at 7 _ known.1 in
        let value = none_here (breaks_18 c w f) at 18 _ suits.1 in
        call_fits n w f es known.0 (node_kind b n c s w (call at f es) row) (node_refers b n c s w (call at f es) row)
        (args_fit s held (n + 1) es (params_of c f) (stands_rest b.nodes n _ _ row) value.1 (suited (is_some (signature_of c f)) _ known.0 suits.0))
    expr_fits s held w n (new at u) row fine =
        let t = made_type c (unit_type c s u.unit) u.cast u.unit (no_breach _ at 14 fine) in
        pointer_made b n c s w u.unit t.0 t.1 (node_kind b n c s w (new at u) row)
    expr_fits s held w n (new_of at u e) row fine =
        let here = none_here _ at 14 _ fine in
        let parts = neither (breaks_14 c (unit_type c s u.unit) u.cast u.unit) _ here.0 in
        let count = neither (no_integer (operand_of c s e)) _ parts.1 in
        let t = made_type c (unit_type c s u.unit) u.cast u.unit parts.0 in
        let below = stands_rest b.nodes n _ _ row in (
          pointer_made b n c s w u.unit t.0 t.1 (node_kind b n c s w (new_of at u e) row),
          is_integer b (n + 1) (operand_of c s e) (node_kind b (n + 1) c s wanted.Value e below) (has_type c s wanted.Value e refl here.1) count.0,
          expr_fits s held wanted.Value (n + 1) e below here.1,
        )
    expr_fits s held w n (arrow at e f) row fine =
        let here = none_here (breaks_8 c (operand_of c s e) f) at 8 _ fine in
        let below = stands_rest b.nodes n _ _ row in (
          member_fits n w (operand_of c s e) f (has_type c s wanted.Value e refl here.1) here.0 (node_kind b n c s w (arrow at e f) row)
              (node_refers b n c s w (arrow at e f) row) (node_kind b (n + 1) c s wanted.Value e below),
          expr_fits s held wanted.Value (n + 1) e below here.1,
        )
    expr_fits s held w n (index at e i) row fine =
        let here = none_here (breaks_9 (operand_of c s e) (operand_of c s i)) at 9 _ fine in
        let rule = neither (no_array (operand_of c s e)) _ here.0 in
        let parts = both_none (breaches listed c s wanted.Value e) _ here.1 in
        let below = stands_rest b.nodes n _ _ row in
        let base = stands_front b.nodes (n + 1) (infos c s wanted.Value e) (infos c s wanted.Value i) below in
        let place = stands_behind b.nodes (n + 1) (node_count e) (infos c s wanted.Value e) (infos c s wanted.Value i) (infos_count c s wanted.Value e) below in
        let typed = has_type c s wanted.Value e refl parts.0 in (
          element_fits b n w (operand_of c s e) typed rule.0 (node_kind b n c s w (index at e i) row),
          array_base b (n + 1) (operand_of c s e) (node_kind b (n + 1) c s wanted.Value e base) typed rule.0,
          is_integer b (n + 1 + node_count e) (operand_of c s i) (node_kind b (n + 1 + node_count e) c s wanted.Value i place) (has_type c s wanted.Value i refl parts.1) rule.1,
          expr_fits s held wanted.Value (n + 1) e base parts.0,
          expr_fits s held wanted.Value (n + 1 + node_count e) i place parts.1,
        )
    expr_fits s held w n (not_of at e) row fine =
        let here = none_here (breaks_12 (operand_of c s e)) at 12 _ fine in
        let below = stands_rest b.nodes n _ _ row in (
          node_kind b n c s w (not_of at e) row,
          has_value b (n + 1) (operand_of c s e) (node_kind b (n + 1) c s wanted.Value e below) (has_type c s wanted.Value e refl here.1) here.0,
          expr_fits s held wanted.Value (n + 1) e below here.1,
        )
    expr_fits s held w n (neg at e) row fine =
        let here = none_here (breaks_10 (operand_of c s e)) at 10 _ fine in
        let below = stands_rest b.nodes n _ _ row in (
          node_kind b n c s w (neg at e) row,
          is_integer b (n + 1) (operand_of c s e) (node_kind b (n + 1) c s wanted.Value e below) (has_type c s wanted.Value e refl here.1) here.0,
          expr_fits s held wanted.Value (n + 1) e below here.1,
        )
    expr_fits s held w n (binary at o d e) row fine =
        let left = wanted_by o (operand_of c s e) in
        let right = wanted_by o (operand_of c s d) in
        let here = none_here (breaks_binary (binary_rule o) (operand_of c s d) (operand_of c s e)) at (binary_rule o) _ fine in
        let parts = both_none (breaches listed c s left d) _ here.1 in
        let below = stands_rest b.nodes n _ _ row in
        let front = stands_front b.nodes (n + 1) (infos c s left d) (infos c s right e) below in
        let behind = stands_behind b.nodes (n + 1) (node_count d) (infos c s left d) (infos c s right e) (infos_count c s left d) below in (
          node_kind b n c s w (binary at o d e) row,
          operands_fit b (n + 1) (n + 1 + node_count d) o (operand_of c s d) (operand_of c s e)
              (node_kind b (n + 1) c s left d front) (node_kind b (n + 1 + node_count d) c s right e behind)
              (has_type c s left d (wants_beside o (operand_of c s e)) parts.0) (has_type c s right e (wants_beside o (operand_of c s d)) parts.1) here.0,
          expr_fits s held left (n + 1) d front parts.0,
          expr_fits s held right (n + 1 + node_count d) e behind parts.1,
        )

    pub args_fit : (s : Scope) → HoldsSlots b s.slots → (n : ℕ) (es : Exprs) (ks : List SlotType) → StandsAt b.nodes n (args_infos c s ks es)
        → args_breaches listed c s ks es ≡ [] → misfits c s ks es ≡ false → ArgsFit b n es ks
    args_fit s held n no_exprs [] row fine fit = tt
    args_fit s held n no_exprs (k ∷ ks) row fine fit = cc
    args_fit s held n (expr e es) [] row fine fit = cc
    args_fit s held n (expr e es) (k ∷ ks) row fine fit =
        let given = infos c s (wanted.For k) e in
        let parts = both_none (breaches listed c s (wanted.For k) e) _ fine in
        let rule = neither (breaks_13 (Some k) (operand_of c s e)) _ fit in
        let front = stands_front b.nodes n given (args_infos c s ks es) row in
        let behind = stands_behind b.nodes n (node_count e) given (args_infos c s ks es) (infos_count c s (wanted.For k) e) row in (
          goes_to b n k (operand_of c s e) (node_kind b n c s (wanted.For k) e front) (has_type c s (wanted.For k) e refl parts.0) rule.0,
          expr_fits s held (wanted.For k) n e front parts.0,
          args_fit s held (n + node_count e) es ks behind parts.1 rule.1,
        )
