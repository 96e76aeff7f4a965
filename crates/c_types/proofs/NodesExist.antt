-- The types of a body's nodes exist.
use Rattle.std.proofs.Common.{◌≡◌, ℕ, zero, suc, ◌+◌, ◌<◌, Bool, true, false, if◌then◌else◌, List, [], ◌∷◌, ◌++◌, length, drop, Option, Some, None, IfSome, is_some, option_map, option_and_then, slice_get, bytes_eq, ℤ, pos, negsuc, refl, sym, ap, ◌∙◌, subst, arith, ltb-true}
use Rattle.std.specs.Prelude.{⊤}
use Rattle.std.specs.List.{All}
use Rattle.std.specs.Option.{option_map_or}
use Rattle.std.proofs.lemmas.Option.{slice_get_within, get_or_from_slice_get}
use Rattle.std.proofs.lemmas.List.Elements.{All-nil, All-cons, All-append, All-head, All-tail}
use Rattle.c_tree.specs.declared.tree.TypeName.{TypeName}
use Rattle.c_tree.specs.declared.tree.Unit.{Unit as Measured}
use Rattle.c_tree.specs.declared.tree.Unit.TheVariants as measured
use Rattle.c_tree.specs.declared.tree.BinaryOp.{BinaryOp}
use Rattle.c_tree.specs.Plain.{Expr, num, text, null, name, call, new, new_of, arrow, index, not_of, neg, binary, Exprs, no_exprs, expr, Stmt, block, local, local_as, assign, do_call, free, when, when_else, while, for, break, continue, return, return_of, nothing, Stmts, no_stmts, stmt}
use Rattle.c_tree.specs.Formed.{IsBlock}
use Rattle.c_types.specs.declared.kinds.SlotType.{SlotType}
use Rattle.c_types.specs.declared.kinds.SlotType.TheVariants as kind
use Rattle.c_types.specs.declared.kinds.Operand.{Operand}
use Rattle.c_types.specs.declared.kinds.Operand.TheVariants as operand
use Rattle.c_types.specs.declared.kinds.Wanted.{Wanted}
use Rattle.c_types.specs.declared.kinds.Wanted.TheVariants as wanted
use Rattle.c_types.specs.declared.infos.MemberInfo.{MemberInfo}
use Rattle.c_types.specs.declared.infos.NodeInfo.{NodeInfo}
use Rattle.c_types.specs.declared.infos.SlotInfo.{SlotInfo}
use Rattle.c_types.specs.declared.infos.StructInfo.{StructInfo}
use Rattle.c_types.specs.declared.infos.ProcInfo.{ProcInfo}
use Rattle.c_types.specs.declared.tables.Signature.{Signature}
use Rattle.c_types.specs.declared.tables.Tables.{Tables}
use Rattle.c_types.specs.declared.scope.Scope.{Scope}
use Rattle.c_types.specs.Breaches.{listed}
use Rattle.c_types.specs.Types.{slot_type, tag_number, pointer_only, of_number, of_type, type_of, wanted_for, pointer_wanted, type_as, element_type, breaks_9, breaks_10, breaks_12, breaks_13, breaks_15, breaks_16, binary_rule, breaks_binary, wanted_by}
use Rattle.c_types.specs.Declarations.{is_defined, signature_of}
use Rattle.c_types.specs.Scopes.{slot_in, slot_kind, kind_in, declared, entered, left, breaks_5}
use Rattle.c_types.specs.Exprs.{member_from, member_of, unit_type, result_of, params_of, operand_of, breaks_6_call, breaks_7, breaks_8, unit_undefined, breaks_14, breaks_18, breaches, args_breaches, expr_info, infos, args_infos}
use Rattle.c_types.specs.Stmts.{after, after_all, breaks_12_for, condition_breaches, stmt_breaches, stmts_breaches, plain_info, slot_info, condition_infos, stmt_infos, stmts_infos}
use Rattle.c_types.specs.Items.{body_breaches, body_after, body_infos}
use Rattle.c_types.specs.Fits.{TypeExists, KindExists}
use Rattle.c_types.proofs.Settings.{AreTables}
use Rattle.c_types.proofs.NodesLists.{slice_get_pushed, no_breach, both_none, none_here, neither}
use Rattle.c_types.proofs.NodesKinds.{not_false}
use Rattle.c_types.proofs.NodesScopes.{Extends, still_there, grows, grows_all}

all_get : {X : Type 0} (P : X → Type 0) (xs : List X) (i : ℕ) (x : X) → slice_get xs i ≡ Some x → All P xs → P x
all_get P xs i x e h = subst P (get_or_from_slice_get xs i x x e) (h i x (slice_get_within xs i x e))

-- What is wanted, and what an operand is, has a type that exists

abbrev WantedExists : List StructInfo → Wanted → Type 0
WantedExists ss wanted.Nothing = ⊤
WantedExists ss wanted.Value = ⊤
WantedExists ss (wanted.For k) = TypeExists ss k

abbrev OperandExists : List StructInfo → Operand → Type 0
OperandExists ss (operand.Typed k) = TypeExists ss k
OperandExists ss operand.Zero = ⊤
OperandExists ss operand.Null = ⊤
OperandExists ss operand.Untyped = ⊤

abbrev SlotsExist : List StructInfo → List SlotInfo → Type 0
SlotsExist ss slots = (i : ℕ) (v : SlotInfo) → slice_get slots i ≡ Some v → TypeExists ss v.kind

slots_before : (ss : List StructInfo) (slots longer : List SlotInfo) (n : ℕ) → Extends slots longer n → SlotsExist ss longer → SlotsExist ss slots
slots_before ss slots longer n x h i v e = h i v (still_there slots longer n x i v e)

module _ (ss : List StructInfo) where
  for_exists : (o : Option SlotType) → IfSome o (TypeExists ss) → WantedExists ss (wanted_for o)
  for_exists None h = tt
  for_exists (Some k) h = h

  type_exists : (o : Operand) → OperandExists ss o → IfSome (type_of o) (TypeExists ss)
  type_exists (operand.Typed k) h = h
  type_exists operand.Zero h = tt
  type_exists operand.Null h = tt
  type_exists operand.Untyped h = tt

  of_type_exists : (o : Option SlotType) → IfSome o (TypeExists ss) → OperandExists ss (of_type o)
  of_type_exists None h = tt
  of_type_exists (Some k) h = h

  same_exists : (same : Bool) (o : Option SlotType) → IfSome o (TypeExists ss) → WantedExists ss (if same then wanted_for o else wanted.Value)
  same_exists true o h = for_exists o h
  same_exists false o h = tt

  beside_exists : (o : BinaryOp) (q : Operand) → OperandExists ss q → WantedExists ss (wanted_by o q)
  unfolding wanted_by
  beside_exists o q h = same_exists _ (type_of q) (type_exists q h)

  pointer_exists : (k : SlotType) → TypeExists ss k → IfSome (pointer_only k) (TypeExists ss)
  pointer_exists kind.Int h = tt
  pointer_exists kind.Char h = tt
  pointer_exists kind.IntPtr h = tt
  pointer_exists kind.CharPtr h = tt
  pointer_exists (kind.StructPtr n) h = h

  behind_exists : (o : Option SlotType) → IfSome o (TypeExists ss) → IfSome (option_and_then pointer_only o) (TypeExists ss)
  behind_exists None h = tt
  behind_exists (Some k) h = pointer_exists k h

  null_exists : (w : Wanted) → WantedExists ss w → IfSome (pointer_wanted w) (TypeExists ss)
  null_exists wanted.Nothing h = tt
  null_exists wanted.Value h = tt
  null_exists (wanted.For k) h = pointer_exists k h

  zero_exists : (o : Option SlotType) → IfSome o (TypeExists ss) → IfSome (if is_some o then o else Some kind.Int) (TypeExists ss)
  zero_exists None h = tt
  zero_exists (Some k) h = h

  kind_exists : (w : Wanted) (o : Operand) → WantedExists ss w → OperandExists ss o → IfSome (type_as w o) (TypeExists ss)
  kind_exists w (operand.Typed k) g h = h
  kind_exists w operand.Zero g h = zero_exists (pointer_wanted w) (null_exists w g)
  kind_exists w operand.Null g h = null_exists w g
  kind_exists w operand.Untyped g h = tt

  number_exists : (z : ℤ) → OperandExists ss (of_number z)
  number_exists (pos zero) = tt
  number_exists (pos (suc n)) = tt
  number_exists (negsuc n) = tt

  element_exists : (o : Operand) → IfSome (element_type o) (TypeExists ss)
  element_exists (operand.Typed kind.Int) = tt
  element_exists (operand.Typed kind.Char) = tt
  element_exists (operand.Typed kind.IntPtr) = tt
  element_exists (operand.Typed kind.CharPtr) = tt
  element_exists (operand.Typed (kind.StructPtr n)) = tt
  element_exists operand.Zero = tt
  element_exists operand.Null = tt
  element_exists operand.Untyped = tt

  slot_exists : (slots : List SlotInfo) (i : ℕ) → SlotsExist ss slots → (o : Option SlotInfo) → slice_get slots i ≡ o → IfSome (option_map (λ v. v.kind) o) (TypeExists ss)
  slot_exists slots i h None e = tt
  slot_exists slots i h (Some v) e = h i v e

  named_exists : (s : Scope) → SlotsExist ss s.slots → (o : Option ℕ) → IfSome (option_and_then (slot_kind s) o) (TypeExists ss)
  named_exists s h None = tt
  named_exists s h (Some i) = slot_exists s.slots i h (slice_get s.slots i) refl

  name_exists : (s : Scope) (x : List ℕ) → SlotsExist ss s.slots → IfSome (kind_in s x) (TypeExists ss)
  name_exists s x h = named_exists s h (slot_in s x)

  cond_exists : (named : Bool) (i : ℕ) (k : SlotType) (o : Option (ℕ × SlotType)) → TypeExists ss k → IfSome (option_map (λ m. m.1) o) (TypeExists ss)
      → IfSome (option_map (λ m. m.1) (if named then Some (i, k) else o)) (TypeExists ss)
  cond_exists true i k o g h = g
  cond_exists false i k o g h = h

  among_members : (i : ℕ) (ms : List MemberInfo) (f : List ℕ) → All (λ m. TypeExists ss m.kind) ms → IfSome (option_map (λ m. m.1) (member_from i ms f)) (TypeExists ss)
  among_members i [] f h = tt
  among_members i (d ∷ ms) f h =
      cond_exists (bytes_eq d.name f) i d.kind (member_from (i + 1) ms f) (All-head (λ m. TypeExists ss m.kind) d ms h)
      (among_members (i + 1) ms f (All-tail (λ m. TypeExists ss m.kind) d ms h))

  first_exists : (ks : List SlotType) → All (TypeExists ss) ks → IfSome (slice_get ks 0) (TypeExists ss)
  first_exists [] h = tt
  first_exists (k ∷ ks) h = All-head (TypeExists ss) k ks h

  rest_exist : (ks : List SlotType) → All (TypeExists ss) ks → All (TypeExists ss) (drop 1 ks)
  rest_exist [] h = h
  rest_exist (k ∷ ks) h = All-tail (TypeExists ss) k ks h

-- What the tables say exists

unit_known : (c : Tables) (k : Option SlotType) (cast : Option TypeName) (u : Option Measured) → breaks_14 c k cast u ≡ false → unit_undefined c u ≡ false
unit_known c None cast u r = cc
unit_known c (Some k) cast u r = (neither (unit_undefined c u) _ r).0

module _ (c : Tables) (ss : List StructInfo) (ps : List ProcInfo) (tables : AreTables c ss ps) where
  in_struct : (n : ℕ) (f : List ℕ) (o : Option StructInfo) → slice_get c.structs n ≡ o
      → IfSome (option_map (λ m. m.1) (option_and_then (λ s. member_from 0 s.members f) o)) (TypeExists ss)
  in_struct n f None e = tt
  in_struct n f (Some s) e =
      among_members ss 0 s.members f
      (all_get (λ (x : StructInfo). All (λ (m : MemberInfo). TypeExists ss m.kind) x.members) ss n s (ap (λ xs. slice_get xs n) (sym tables.structs) ∙ e) tables.members_exist)

  member_exists : (o : Operand) (f : List ℕ) → IfSome (option_map (λ m. m.1) (member_of c o f)) (TypeExists ss)
  member_exists (operand.Typed kind.Int) f = tt
  member_exists (operand.Typed kind.Char) f = tt
  member_exists (operand.Typed kind.IntPtr) f = tt
  member_exists (operand.Typed kind.CharPtr) f = tt
  member_exists (operand.Typed (kind.StructPtr n)) f = in_struct n f (slice_get c.structs n) refl
  member_exists operand.Zero f = tt
  member_exists operand.Null f = tt
  member_exists operand.Untyped f = tt

  result_exists : (f : List ℕ) (o : Option Signature) → signature_of c f ≡ o → IfSome (option_and_then (λ g. g.result) o) (TypeExists ss)
  result_exists f None e = tt
  result_exists f (Some g) e = (tables.exist f g e).result

  params_exist : (f : List ℕ) (o : Option Signature) → signature_of c f ≡ o → All (TypeExists ss) (option_map_or (λ g. g.params) o [])
  params_exist f None e = All-nil (TypeExists ss)
  params_exist f (Some g) e = (tables.exist f g e).params

  unit_exists : (s : Scope) (u : Option Measured) → SlotsExist ss s.slots → unit_undefined c u ≡ false → IfSome (unit_type c s u) (TypeExists ss)
  unit_exists s None h r = tt
  unit_exists s (Some measured.Int) h r = tt
  unit_exists s (Some measured.Char) h r = tt
  unit_exists s (Some (measured.Struct t)) h r =
      let below : tag_number c.tags t < c.defined = ltb-true (tag_number c.tags t) c.defined (not_false (is_defined c t) r) in
      omega (arith, below, tables.defined)
  unit_exists s (Some (measured.Behind x)) h r = behind_exists ss (kind_in s x) (name_exists ss s x h)

  made_exists : (s : Scope) (cast : Option TypeName) (u : Option Measured) → SlotsExist ss s.slots → breaks_14 c (unit_type c s u) cast u ≡ false
      → OperandExists ss (of_type (unit_type c s u))
  made_exists s cast u h r = of_type_exists ss (unit_type c s u) (unit_exists s u h (unit_known c (unit_type c s u) cast u r))

  operand_exists : (s : Scope) → SlotsExist ss s.slots → (w : Wanted) (e : Expr) → breaches listed c s w e ≡ [] → OperandExists ss (operand_of c s e)
  operand_exists s h w (num at z) fine = number_exists ss z
  operand_exists s h w (text at u) fine = tt
  operand_exists s h w (null at) fine = tt
  operand_exists s h w (name at x) fine = of_type_exists ss (kind_in s x) (name_exists ss s x h)
  operand_exists s h w (call at f es) fine = of_type_exists ss (result_of c f) (result_exists f (signature_of c f) refl)
  operand_exists s h w (new at n) fine = made_exists s n.cast n.unit h (no_breach _ at 14 fine)
  operand_exists s h w (new_of at n e) fine = made_exists s n.cast n.unit h (neither (breaks_14 c (unit_type c s n.unit) n.cast n.unit) _ (none_here _ at 14 _ fine).0).0
  operand_exists s h w (arrow at e f) fine = of_type_exists ss (option_map (λ m. m.1) (member_of c (operand_of c s e) f)) (member_exists (operand_of c s e) f)
  operand_exists s h w (index at e i) fine = of_type_exists ss (element_type (operand_of c s e)) (element_exists ss (operand_of c s e))
  operand_exists s h w (not_of at e) fine = tt
  operand_exists s h w (neg at e) fine = tt
  operand_exists s h w (binary at o d e) fine = tt

  -- The nodes of an expression

  abbrev Exist : List NodeInfo → Type 0
  Exist xs = All (KindExists ss) xs

  own : (s : Scope) → SlotsExist ss s.slots → (w : Wanted) (e : Expr) (below : List NodeInfo) → WantedExists ss w → breaches listed c s w e ≡ [] → Exist below → Exist (expr_info c s w e ∷ below)
  own s h w e below g fine rest = All-cons (KindExists ss) (expr_info c s w e) below (kind_exists ss w (operand_of c s e) g (operand_exists s h w e fine)) rest

  alone : (s : Scope) → SlotsExist ss s.slots → (w : Wanted) (e : Expr) → WantedExists ss w → breaches listed c s w e ≡ [] → Exist (expr_info c s w e ∷ [])
  alone s h w e g fine = own s h w e [] g fine (All-nil (KindExists ss))

  mutual
    infos_exist : (s : Scope) → SlotsExist ss s.slots → (w : Wanted) (e : Expr) → WantedExists ss w → breaches listed c s w e ≡ [] → Exist (infos c s w e)
    infos_exist s h w (num at z) g fine = alone s h w (num at z) g fine
    infos_exist s h w (text at u) g fine = alone s h w (text at u) g fine
    infos_exist s h w (null at) g fine = alone s h w (null at) g fine
    infos_exist s h w (name at x) g fine = alone s h w (name at x) g fine
    infos_exist s h w (call at f es) g fine =
        let known = none_here (breaks_6_call c f) at 6 _ fine in
        let suits = none_here (breaks_7 c s f es) at 7 _ known.1 in
        let value = none_here (breaks_18 c w f) at 18 _ suits.1 in
        own s h w (call at f es) (args_infos c s (params_of c f) es) g fine (args_exist s h (params_of c f) es (params_exist f (signature_of c f) refl) value.1)
    infos_exist s h w (new at n) g fine = alone s h w (new at n) g fine
    infos_exist s h w (new_of at n e) g fine =
        own s h w (new_of at n e) (infos c s wanted.Value e) g fine (infos_exist s h wanted.Value e tt (none_here _ at 14 _ fine).1)
    infos_exist s h w (arrow at e f) g fine =
        own s h w (arrow at e f) (infos c s wanted.Value e) g fine (infos_exist s h wanted.Value e tt (none_here (breaks_8 c (operand_of c s e) f) at 8 _ fine).1)
    infos_exist s h w (index at e i) g fine =
        let here = none_here (breaks_9 (operand_of c s e) (operand_of c s i)) at 9 _ fine in
        let parts = both_none (breaches listed c s wanted.Value e) _ here.1 in
        own s h w (index at e i) (infos c s wanted.Value e ++ infos c s wanted.Value i) g fine
        (All-append (KindExists ss) (infos c s wanted.Value e) (infos c s wanted.Value i) (infos_exist s h wanted.Value e tt parts.0) (infos_exist s h wanted.Value i tt parts.1))
    infos_exist s h w (not_of at e) g fine =
        own s h w (not_of at e) (infos c s wanted.Value e) g fine (infos_exist s h wanted.Value e tt (none_here (breaks_12 (operand_of c s e)) at 12 _ fine).1)
    infos_exist s h w (neg at e) g fine =
        own s h w (neg at e) (infos c s wanted.Value e) g fine (infos_exist s h wanted.Value e tt (none_here (breaks_10 (operand_of c s e)) at 10 _ fine).1)
    infos_exist s h w (binary at o d e) g fine =
        let left = wanted_by o (operand_of c s e) in
        let right = wanted_by o (operand_of c s d) in
        let here = none_here (breaks_binary (binary_rule o) (operand_of c s d) (operand_of c s e)) at (binary_rule o) _ fine in
        let parts = both_none (breaches listed c s left d) _ here.1 in
        own s h w (binary at o d e) (infos c s left d ++ infos c s right e) g fine
        (All-append (KindExists ss) (infos c s left d) (infos c s right e)
        (infos_exist s h left d (beside_exists ss o (operand_of c s e) (operand_exists s h right e parts.1)) parts.0)
        (infos_exist s h right e (beside_exists ss o (operand_of c s d) (operand_exists s h left d parts.0)) parts.1))

    args_exist : (s : Scope) → SlotsExist ss s.slots → (ks : List SlotType) (es : Exprs) → All (TypeExists ss) ks → args_breaches listed c s ks es ≡ [] → Exist (args_infos c s ks es)
    args_exist s h ks no_exprs g fine = All-nil (KindExists ss)
    args_exist s h ks (expr e es) g fine =
        let w = wanted_for (slice_get ks 0) in
        let parts = both_none (breaches listed c s w e) _ fine in
        All-append (KindExists ss) (infos c s w e) (args_infos c s (drop 1 ks) es)
        (infos_exist s h w e (for_exists ss (slice_get ks 0) (first_exists ss ks g)) parts.0) (args_exist s h (drop 1 ks) es (rest_exist ss ks g) parts.1)

  -- The nodes of a statement

  plain : (below : List NodeInfo) → Exist below → Exist (plain_info ∷ below)
  plain below rest = All-cons (KindExists ss) plain_info below tt rest

  joined : (xs ys : List NodeInfo) → Exist xs → Exist ys → Exist (xs ++ ys)
  joined xs ys g h = All-append (KindExists ss) xs ys g h

  condition_exists : (s : Scope) → SlotsExist ss s.slots → (es : Exprs) → condition_breaches listed c s es ≡ [] → Exist (condition_infos c s es)
  condition_exists s h no_exprs fine = All-nil (KindExists ss)
  condition_exists s h (expr e es) fine = infos_exist s h wanted.Value e tt fine

  module _ (r : Option SlotType) (result : IfSome r (TypeExists ss)) where
    mutual
      stmt_exists : (looped : Bool) (s : Scope) (st : Stmt) → SlotsExist ss (after c s st).slots → stmt_breaches listed c r looped s st ≡ [] → Exist (stmt_infos c r s st)
      stmt_exists looped s (block at sts) h fine = plain _ (stmts_exist looped (entered s) sts h fine)
      stmt_exists looped s (local at x t) h fine = All-cons (KindExists ss) (slot_info (length s.slots)) [] tt (All-nil (KindExists ss))
      stmt_exists looped s (local_as at x t e) h fine =
          let k = slot_type c.tags t in
          let inner = declared s x k at in
          let new_name = none_here (breaks_5 s x) at 5 _ fine in
          let rule = none_here (breaks_13 (Some k) (operand_of c inner e)) at 13 _ new_name.1 in
          All-cons (KindExists ss) (slot_info (length s.slots)) (infos c inner (wanted.For k) e) tt
          (infos_exist inner h (wanted.For k) e (h (length s.slots) _ (slice_get_pushed s.slots _)) rule.1)
      stmt_exists looped s (assign at a e) h fine =
          let w = wanted_for (type_of (operand_of c s a)) in
          let rule = none_here (breaks_13 (type_of (operand_of c s a)) (operand_of c s e)) at 13 _ fine in
          let parts = both_none (breaches listed c s wanted.Value a) _ rule.1 in
          plain _ (joined (infos c s wanted.Value a) (infos c s w e) (infos_exist s h wanted.Value a tt parts.0)
          (infos_exist s h w e (for_exists ss (type_of (operand_of c s a)) (type_exists ss (operand_of c s a) (operand_exists s h wanted.Value a parts.0))) parts.1))
      stmt_exists looped s (do_call at e) h fine = plain _ (infos_exist s h wanted.Nothing e tt fine)
      stmt_exists looped s (free at e) h fine = plain _ (infos_exist s h wanted.Value e tt (none_here (breaks_15 (operand_of c s e)) at 15 _ fine).1)
      stmt_exists looped s (when at e st) h fine =
          let rule = none_here (breaks_12 (operand_of c s e)) at 12 _ fine in
          let parts = both_none (breaches listed c s wanted.Value e) _ rule.1 in
          plain _ (joined (infos c s wanted.Value e) (stmt_infos c r s st)
          (infos_exist s (slots_before ss s.slots _ _ (grows c s st) h) wanted.Value e tt parts.0) (stmt_exists looped s st h parts.1))
      stmt_exists looped s (when_else at e st su) h fine =
          let outer = left s (after c s st) in
          let rule = none_here (breaks_12 (operand_of c s e)) at 12 _ fine in
          let parts = both_none (breaches listed c s wanted.Value e) _ rule.1 in
          let ways = both_none (stmt_breaches listed c r looped s st) _ parts.1 in
          let first = slots_before ss (after c s st).slots _ _ (grows c outer su) h in
          plain _ (joined (infos c s wanted.Value e) _ (infos_exist s (slots_before ss s.slots _ _ (grows c s st) first) wanted.Value e tt parts.0)
          (joined (stmt_infos c r s st) (stmt_infos c r outer su) (stmt_exists looped s st first ways.0) (stmt_exists looped outer su h ways.1)))
      stmt_exists looped s (while at e st) h fine =
          let rule = none_here (breaks_12 (operand_of c s e)) at 12 _ fine in
          let parts = both_none (breaches listed c s wanted.Value e) _ rule.1 in
          plain _ (joined (infos c s wanted.Value e) (stmt_infos c r s st)
          (infos_exist s (slots_before ss s.slots _ _ (grows c s st) h) wanted.Value e tt parts.0) (stmt_exists true s st h parts.1))
      stmt_exists looped s (for at init e step st) h fine =
          let first = after_all c (entered s) init in
          let last = after_all c first step in
          let inner = left first last in
          let rule = none_here (breaks_12_for c first e) at 12 _ fine in
          let parts = both_none (stmts_breaches listed c r looped (entered s) init ++ condition_breaches listed c first e) _ rule.1 in
          let start = both_none (stmts_breaches listed c r looped (entered s) init) _ parts.0 in
          let rest = both_none (stmts_breaches listed c r true first step) _ parts.1 in
          let at_last = slots_before ss last.slots _ _ (grows c inner st) h in
          let at_first = slots_before ss first.slots _ _ (grows_all c first step) at_last in
          plain _ (joined (stmts_infos c r (entered s) init ++ condition_infos c first e) (stmts_infos c r first step ++ stmt_infos c r inner st)
          (joined (stmts_infos c r (entered s) init) (condition_infos c first e) (stmts_exist looped (entered s) init at_first start.0) (condition_exists first at_first e start.1))
          (joined (stmts_infos c r first step) (stmt_infos c r inner st) (stmts_exist true first step at_last rest.0) (stmt_exists true inner st h rest.1)))
      stmt_exists looped s (break at) h fine = plain [] (All-nil (KindExists ss))
      stmt_exists looped s (continue at) h fine = plain [] (All-nil (KindExists ss))
      stmt_exists looped s (return at) h fine = plain [] (All-nil (KindExists ss))
      stmt_exists looped s (return_of at e) h fine =
          plain _ (infos_exist s h (wanted_for r) e (for_exists ss r result) (none_here (breaks_16 r (operand_of c s e)) at 16 _ fine).1)
      stmt_exists looped s (nothing at) h fine = plain [] (All-nil (KindExists ss))

      stmts_exist : (looped : Bool) (s : Scope) (sts : Stmts) → SlotsExist ss (after_all c s sts).slots → stmts_breaches listed c r looped s sts ≡ [] → Exist (stmts_infos c r s sts)
      stmts_exist looped s no_stmts h fine = All-nil (KindExists ss)
      stmts_exist looped s (stmt st sts) h fine =
          let parts = both_none (stmt_breaches listed c r looped s st) _ fine in
          joined (stmt_infos c r s st) (stmts_infos c r (after c s st) sts)
          (stmt_exists looped s st (slots_before ss (after c s st).slots _ _ (grows_all c (after c s st) sts) h) parts.0)
          (stmts_exist looped (after c s st) sts h parts.1)

pub body_kinds_exist : (c : Tables) (ss : List StructInfo) (ps : List ProcInfo) (r : Option SlotType) (s : Scope) (st : Stmt)
    → AreTables c ss ps → IsBlock st → body_breaches listed c r s (Some st) ≡ []
    → All (λ v. TypeExists ss v.kind) (body_after c s (Some st)).slots → IfSome r (TypeExists ss) → All (KindExists ss) (body_infos c r s (Some st))
body_kinds_exist c ss ps r s (block at sts) tables is fine slots result =
    let h : SlotsExist ss (after_all c s sts).slots = λ i v e. all_get (λ (x : SlotInfo). TypeExists ss x.kind) (after_all c s sts).slots i v e slots in
    plain c ss ps tables (stmts_infos c r s sts) (stmts_exist c ss ps tables r result false s sts h fine)
body_kinds_exist c ss ps r s (local at x t) tables is fine slots result = absurd is
body_kinds_exist c ss ps r s (local_as at x t e) tables is fine slots result = absurd is
body_kinds_exist c ss ps r s (assign at a e) tables is fine slots result = absurd is
body_kinds_exist c ss ps r s (do_call at e) tables is fine slots result = absurd is
body_kinds_exist c ss ps r s (free at e) tables is fine slots result = absurd is
body_kinds_exist c ss ps r s (when at e st) tables is fine slots result = absurd is
body_kinds_exist c ss ps r s (when_else at e st su) tables is fine slots result = absurd is
body_kinds_exist c ss ps r s (while at e st) tables is fine slots result = absurd is
body_kinds_exist c ss ps r s (for at init e step st) tables is fine slots result = absurd is
body_kinds_exist c ss ps r s (break at) tables is fine slots result = absurd is
body_kinds_exist c ss ps r s (continue at) tables is fine slots result = absurd is
body_kinds_exist c ss ps r s (return at) tables is fine slots result = absurd is
body_kinds_exist c ss ps r s (return_of at e) tables is fine slots result = absurd is
body_kinds_exist c ss ps r s (nothing at) tables is fine slots result = absurd is
