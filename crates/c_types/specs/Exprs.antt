-- The rules of expressions, and what each node of one is.
use Rattle.std.specs.Prelude.{ℕ, ◌+◌, zero, suc, ℤ, pos, negsuc, List, [], ◌∷◌, ◌++◌, drop, Bool, true, false, not, ◌&&◌, ◌||◌, Option, Some, None, is_some, is_none, option_map, option_and_then, slice_get, position, bytes_eq, if◌then◌else◌}
use Rattle.std.specs.Option.{option_map_or}
use Rattle.c_tree.specs.declared.tree.TypeName.{TypeName}
use Rattle.c_tree.specs.declared.tree.TypeName.TheVariants as written
use Rattle.c_tree.specs.declared.tree.Unit.{Unit as Measured}
use Rattle.c_tree.specs.declared.tree.Unit.TheVariants as measured
use Rattle.c_tree.specs.Plain.{Expr, num, text, null, name, call, new, new_of, arrow, index, not_of, neg, binary, Exprs, no_exprs, expr}
use Rattle.c_types.specs.declared.kinds.SlotType.{SlotType}
use Rattle.c_types.specs.declared.kinds.SlotType.TheVariants as kind
use Rattle.c_types.specs.declared.kinds.Operand.{Operand}
use Rattle.c_types.specs.declared.kinds.Operand.TheVariants as operand
use Rattle.c_types.specs.declared.kinds.Wanted.{Wanted}
use Rattle.c_types.specs.declared.kinds.Wanted.TheVariants as wanted
use Rattle.c_types.specs.declared.infos.MemberInfo.{MemberInfo}
use Rattle.c_types.specs.declared.infos.NodeInfo.{NodeInfo}
use Rattle.c_types.specs.declared.tables.Tables.{Tables}
use Rattle.c_types.specs.declared.scope.Scope.{Scope}
use Rattle.c_types.specs.Breaches.{Gathering, breach_if}
use Rattle.c_types.specs.Types.{slot_type, tag_number, pointer_only, wanted_for, pointer_wanted, same_type, of_number, of_type, type_as, no_integer, breaks_9, element_type, breaks_10, breaks_12, breaks_13, binary_rule, breaks_binary, wanted_by}
use Rattle.c_types.specs.Declarations.{is_defined, signature_of}
use Rattle.c_types.specs.Scopes.{slot_in, kind_in}

-- the place, from i on, and the type of the first member of that name
abbrev pub member_from : ℕ → List MemberInfo → List ℕ → Option (ℕ × SlotType)
member_from i [] f = None
member_from i (m ∷ ms) f = if bytes_eq m.name f then Some (i, m.kind) else member_from (i + 1) ms f

-- the member to which an arrow over that base leads
abbrev pub member_of : Tables → Operand → List ℕ → Option (ℕ × SlotType)
member_of c (operand.Typed (kind.StructPtr n)) f = option_and_then (λ s. member_from 0 s.members f) (slice_get c.structs n)
member_of c (operand.Typed kind.Int) f = None
member_of c (operand.Typed kind.Char) f = None
member_of c (operand.Typed kind.IntPtr) f = None
member_of c (operand.Typed kind.CharPtr) f = None
member_of c operand.Zero f = None
member_of c operand.Null f = None
member_of c operand.Untyped f = None

abbrev pub is_untyped : Operand → Bool
is_untyped (operand.Typed k) = false
is_untyped operand.Zero = false
is_untyped operand.Null = false
is_untyped operand.Untyped = true

-- the type of an allocation: what its unit says, and `char *` without a unit
abbrev pub unit_type : Tables → Scope → Option Measured → Option SlotType
unit_type c s None = Some kind.CharPtr
unit_type c s (Some measured.Int) = Some kind.IntPtr
unit_type c s (Some measured.Char) = Some kind.CharPtr
unit_type c s (Some (measured.Struct t)) = Some (kind.StructPtr (tag_number c.tags t))
unit_type c s (Some (measured.Behind x)) = option_and_then pointer_only (kind_in s x)

abbrev pub result_of : Tables → List ℕ → Option SlotType
result_of c f = option_and_then (λ g. g.result) (signature_of c f)

abbrev pub params_of : Tables → List ℕ → List SlotType
params_of c f = option_map_or (λ g. g.params) (signature_of c f) []

-- what the rules see of an expression
abbrev pub operand_of : Tables → Scope → Expr → Operand
operand_of c s (num at z) = of_number z
operand_of c s (text at b) = operand.Typed kind.CharPtr
operand_of c s (null at) = operand.Null
operand_of c s (name at x) = of_type (kind_in s x)
operand_of c s (call at f es) = of_type (result_of c f)
operand_of c s (new at n) = of_type (unit_type c s n.unit)
operand_of c s (new_of at n e) = of_type (unit_type c s n.unit)
operand_of c s (arrow at b f) = of_type (option_map (λ m. m.1) (member_of c (operand_of c s b) f))
operand_of c s (index at b i) = of_type (element_type (operand_of c s b))
operand_of c s (not_of at e) = operand.Typed kind.Int
operand_of c s (neg at e) = operand.Typed kind.Int
operand_of c s (binary at o a b) = operand.Typed kind.Int

-- 6: a variable name is in scope; a called name has a prototype or a body
abbrev pub breaks_6 : Scope → List ℕ → Bool
breaks_6 s x = is_none (slot_in s x)

abbrev pub breaks_6_call : Tables → List ℕ → Bool
breaks_6_call c f = is_none (signature_of c f)

-- 7: a call has as many arguments as there are parameters, and each fits its own
abbrev pub is_misfit : Option SlotType → Operand → Bool
is_misfit None o = true
is_misfit (Some k) o = breaks_13 (Some k) o

abbrev pub any_left : List SlotType → Bool
any_left [] = false
any_left (k ∷ ks) = true

abbrev pub misfits : Tables → Scope → List SlotType → Exprs → Bool
misfits c s ks no_exprs = any_left ks
misfits c s ks (expr e es) = is_misfit (slice_get ks 0) (operand_of c s e) || misfits c s (drop 1 ks) es

abbrev pub breaks_7 : Tables → Scope → List ℕ → Exprs → Bool
breaks_7 c s f es = is_some (signature_of c f) && misfits c s (params_of c f) es

-- 8: the base of an arrow points to a struct that is defined and has the member
abbrev pub breaks_8 : Tables → Operand → List ℕ → Bool
breaks_8 c base f = not (is_untyped base) && is_none (member_of c base f)

-- 14: a struct that is named is defined; a name after `sizeof *` is a pointer in scope; a cast names the type;
-- the count is an integer, and a struct has none but the constant 1 of calloc
abbrev pub type_undefined : Tables → TypeName → Bool
type_undefined c written.Int = false
type_undefined c written.Char = false
type_undefined c written.IntPtr = false
type_undefined c written.CharPtr = false
type_undefined c (written.StructPtr t) = not (is_defined c t)

abbrev pub cast_undefined : Tables → Option TypeName → Bool
cast_undefined c None = false
cast_undefined c (Some t) = type_undefined c t

abbrev pub unit_undefined : Tables → Option Measured → Bool
unit_undefined c None = false
unit_undefined c (Some measured.Int) = false
unit_undefined c (Some measured.Char) = false
unit_undefined c (Some (measured.Struct t)) = not (is_defined c t)
unit_undefined c (Some (measured.Behind x)) = false

abbrev pub cast_differs : Tables → Option TypeName → SlotType → Bool
cast_differs c None k = false
cast_differs c (Some t) k = not (same_type (slot_type c.tags t) k)

abbrev pub breaks_14 : Tables → Option SlotType → Option TypeName → Option Measured → Bool
breaks_14 c None cast unit = true
breaks_14 c (Some k) cast unit = unit_undefined c unit || (cast_undefined c cast || cast_differs c cast k)

abbrev pub is_struct : Option SlotType → Bool
is_struct None = false
is_struct (Some kind.Int) = false
is_struct (Some kind.Char) = false
is_struct (Some kind.IntPtr) = false
is_struct (Some kind.CharPtr) = false
is_struct (Some (kind.StructPtr n)) = true

abbrev pub number_is_one : ℤ → Bool
number_is_one (pos zero) = false
number_is_one (pos (suc zero)) = true
number_is_one (pos (suc (suc n))) = false
number_is_one (negsuc n) = false

abbrev pub is_one : Expr → Bool
is_one (num at z) = number_is_one z
is_one (text at b) = false
is_one (null at) = false
is_one (name at x) = false
is_one (call at f es) = false
is_one (new at n) = false
is_one (new_of at n e) = false
is_one (arrow at b f) = false
is_one (index at b i) = false
is_one (not_of at e) = false
is_one (neg at e) = false
is_one (binary at o a b) = false

abbrev pub breaks_14_count : Option SlotType → Bool → Expr → Operand → Bool
breaks_14_count k zeroed e o = no_integer o || (is_struct k && not (zeroed && is_one e))

-- 18: a call of a void procedure is a statement
abbrev pub wants_value : Wanted → Bool
wants_value wanted.Nothing = false
wants_value wanted.Value = true
wants_value (wanted.For k) = true

abbrev pub breaks_18 : Tables → Wanted → List ℕ → Bool
breaks_18 c w f = wants_value w && (is_some (signature_of c f) && is_none (result_of c f))

-- 19: NULL stands only where it is given a pointer type
abbrev pub breaks_19 : Wanted → Bool
breaks_19 w = is_none (pointer_wanted w)

module _ {M : Type 0} (g : Gathering M) where
  infixr 5 ◌also◌
  open g use {also as ◌also◌}

  -- what an expression and those below it break, in preorder, where that is wanted of it
  abbrev mutual
    pub breaches : Tables → Scope → Wanted → Expr → M
    breaches c s w (num at z) = g.none
    breaches c s w (text at b) = g.none
    breaches c s w (null at) = breach_if g (breaks_19 w) at 19
    breaches c s w (name at x) = breach_if g (breaks_6 s x) at 6
    breaches c s w (call at f es) =
        breach_if g (breaks_6_call c f) at 6
        also (breach_if g (breaks_7 c s f es) at 7
        also (breach_if g (breaks_18 c w f) at 18
        also args_breaches c s (params_of c f) es))
    breaches c s w (new at n) = breach_if g (breaks_14 c (unit_type c s n.unit) n.cast n.unit) at 14
    breaches c s w (new_of at n e) =
        breach_if g
        (breaks_14 c (unit_type c s n.unit) n.cast n.unit || breaks_14_count (unit_type c s n.unit) n.zeroed e (operand_of c s e))
        at 14
        also breaches c s wanted.Value e
    breaches c s w (arrow at b f) =
        breach_if g (breaks_8 c (operand_of c s b) f) at 8 also breaches c s wanted.Value b
    breaches c s w (index at b i) =
        breach_if g (breaks_9 (operand_of c s b) (operand_of c s i)) at 9
        also (breaches c s wanted.Value b also breaches c s wanted.Value i)
    breaches c s w (not_of at e) = breach_if g (breaks_12 (operand_of c s e)) at 12 also breaches c s wanted.Value e
    breaches c s w (neg at e) = breach_if g (breaks_10 (operand_of c s e)) at 10 also breaches c s wanted.Value e
    breaches c s w (binary at o a b) =
        breach_if g (breaks_binary (binary_rule o) (operand_of c s a) (operand_of c s b)) at (binary_rule o)
        also (breaches c s (wanted_by o (operand_of c s b)) a also breaches c s (wanted_by o (operand_of c s a)) b)

    -- the arguments of a call, each for the type of its parameter
    pub args_breaches : Tables → Scope → List SlotType → Exprs → M
    args_breaches c s ks no_exprs = g.none
    args_breaches c s ks (expr e es) = breaches c s (wanted_for (slice_get ks 0)) e also args_breaches c s (drop 1 ks) es

-- what a node refers to: a name its slot, a call its procedure, an arrow its member
abbrev pub refers_of : Tables → Scope → Expr → Option ℕ
refers_of c s (num at z) = None
refers_of c s (text at b) = None
refers_of c s (null at) = None
refers_of c s (name at x) = slot_in s x
refers_of c s (call at f es) = position (bytes_eq f) c.procs
refers_of c s (new at n) = None
refers_of c s (new_of at n e) = None
refers_of c s (arrow at b f) = option_map (λ m. m.0) (member_of c (operand_of c s b) f)
refers_of c s (index at b i) = None
refers_of c s (not_of at e) = None
refers_of c s (neg at e) = None
refers_of c s (binary at o a b) = None

abbrev pub expr_info : Tables → Scope → Wanted → Expr → NodeInfo
expr_info c s w e = record { kind = type_as w (operand_of c s e); refers = refers_of c s e }

-- the nodes of an expression in preorder, where that is wanted of it
abbrev mutual
  pub infos : Tables → Scope → Wanted → Expr → List NodeInfo
  infos c s w (num at z) = expr_info c s w (num at z) ∷ []
  infos c s w (text at b) = expr_info c s w (text at b) ∷ []
  infos c s w (null at) = expr_info c s w (null at) ∷ []
  infos c s w (name at x) = expr_info c s w (name at x) ∷ []
  infos c s w (call at f es) = expr_info c s w (call at f es) ∷ args_infos c s (params_of c f) es
  infos c s w (new at n) = expr_info c s w (new at n) ∷ []
  infos c s w (new_of at n e) = expr_info c s w (new_of at n e) ∷ infos c s wanted.Value e
  infos c s w (arrow at b f) = expr_info c s w (arrow at b f) ∷ infos c s wanted.Value b
  infos c s w (index at b i) = expr_info c s w (index at b i) ∷ infos c s wanted.Value b ++ infos c s wanted.Value i
  infos c s w (not_of at e) = expr_info c s w (not_of at e) ∷ infos c s wanted.Value e
  infos c s w (neg at e) = expr_info c s w (neg at e) ∷ infos c s wanted.Value e
  infos c s w (binary at o a b) =
      expr_info c s w (binary at o a b)
      ∷ infos c s (wanted_by o (operand_of c s b)) a ++ infos c s (wanted_by o (operand_of c s a)) b

  pub args_infos : Tables → Scope → List SlotType → Exprs → List NodeInfo
  args_infos c s ks no_exprs = []
  args_infos c s ks (expr e es) = infos c s (wanted_for (slice_get ks 0)) e ++ args_infos c s (drop 1 ks) es
