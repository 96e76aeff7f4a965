-- Types, and what the rules of types ask of them.
use Rattle.std.specs.Prelude.{ℕ, Bool, true, false, not, ◌&&◌, ◌||◌, List, [], ◌∷◌, Option, Some, None, is_some, nat_eq, if◌then◌else◌, bytes_eq, zero, suc, ℤ, pos, negsuc}
use Rattle.std.specs.List.{position_or_len}
use Rattle.c_tree.specs.declared.tree.TypeName.{TypeName}
use Rattle.c_tree.specs.declared.tree.TypeName.TheVariants as written
use Rattle.c_tree.specs.declared.tree.BinaryOp.{BinaryOp}
use Rattle.c_tree.specs.declared.tree.BinaryOp.TheVariants as op
use Rattle.c_types.specs.declared.kinds.SlotType.{SlotType}
use Rattle.c_types.specs.declared.kinds.SlotType.TheVariants as kind
use Rattle.c_types.specs.declared.kinds.Operand.{Operand}
use Rattle.c_types.specs.declared.kinds.Operand.TheVariants as operand
use Rattle.c_types.specs.declared.kinds.Wanted.{Wanted}
use Rattle.c_types.specs.declared.kinds.Wanted.TheVariants as wanted
use Rattle.c_types.specs.declared.tables.Signature.{Signature}

-- the number of a struct, by the tags of all structs in order of their numbers
abbrev pub tag_number : List (List ℕ) → List ℕ → ℕ
tag_number tags t = position_or_len (bytes_eq t) tags

-- the type that a declaration writes
abbrev pub slot_type : List (List ℕ) → TypeName → SlotType
slot_type tags written.Int = kind.Int
slot_type tags written.Char = kind.Char
slot_type tags written.IntPtr = kind.IntPtr
slot_type tags written.CharPtr = kind.CharPtr
slot_type tags (written.StructPtr t) = kind.StructPtr (tag_number tags t)

abbrev pub is_pointer : SlotType → Bool
is_pointer kind.Int = false
is_pointer kind.Char = false
is_pointer kind.IntPtr = true
is_pointer kind.CharPtr = true
is_pointer (kind.StructPtr n) = true

-- the type where it is a pointer's
abbrev pub pointer_only : SlotType → Option SlotType
pointer_only k = if is_pointer k then Some k else None

abbrev pub same_type : SlotType → SlotType → Bool
same_type kind.Int kind.Int = true
same_type kind.Char kind.Char = true
same_type kind.IntPtr kind.IntPtr = true
same_type kind.CharPtr kind.CharPtr = true
same_type (kind.StructPtr n) (kind.StructPtr m) = nat_eq n m
same_type _ _ = false

-- an integer goes to an integer, and a pointer to a pointer of the same type
abbrev pub fits : SlotType → SlotType → Bool
fits target source = if is_pointer target then same_type target source else not (is_pointer source)

abbrev pub same_types : List SlotType → List SlotType → Bool
same_types [] [] = true
same_types (k ∷ ks) (l ∷ ls) = same_type k l && same_types ks ls
same_types _ _ = false

abbrev pub same_result : Option SlotType → Option SlotType → Bool
same_result None None = true
same_result (Some k) (Some l) = same_type k l
same_result _ _ = false

abbrev pub same_signature : Signature → Signature → Bool
same_signature p q = same_types p.params q.params && same_result p.result q.result

-- a constant is told apart where it is 0
abbrev pub of_number : ℤ → Operand
of_number (pos zero) = operand.Zero
of_number (pos (suc n)) = operand.Typed kind.Int
of_number (negsuc n) = operand.Typed kind.Int

abbrev pub of_type : Option SlotType → Operand
of_type None = operand.Untyped
of_type (Some k) = operand.Typed k

-- the type of what an operand is
abbrev pub type_of : Operand → Option SlotType
type_of (operand.Typed k) = Some k
type_of operand.Zero = Some kind.Int
type_of operand.Null = None
type_of operand.Untyped = None

-- what is wanted where a type is known, or is not
abbrev pub wanted_for : Option SlotType → Wanted
wanted_for None = wanted.Value
wanted_for (Some k) = wanted.For k

-- the pointer type that NULL is given
abbrev pub pointer_wanted : Wanted → Option SlotType
pointer_wanted wanted.Nothing = None
pointer_wanted wanted.Value = None
pointer_wanted (wanted.For k) = pointer_only k

-- the type of an operand of which that is wanted: NULL, and 0 as NULL, has the pointer type that it is given
abbrev pub type_as : Wanted → Operand → Option SlotType
type_as w (operand.Typed k) = Some k
type_as w operand.Zero = if is_some (pointer_wanted w) then pointer_wanted w else Some kind.Int
type_as w operand.Null = pointer_wanted w
type_as w operand.Untyped = None

-- an operand is no integer; one without a type is not held to be none
abbrev pub no_integer : Operand → Bool
no_integer (operand.Typed k) = is_pointer k
no_integer operand.Zero = false
no_integer operand.Null = true
no_integer operand.Untyped = false

-- 9: the base of an index is an `int *` or a `char *`, and the index is an integer
abbrev pub no_array : Operand → Bool
no_array (operand.Typed kind.Int) = true
no_array (operand.Typed kind.Char) = true
no_array (operand.Typed kind.IntPtr) = false
no_array (operand.Typed kind.CharPtr) = false
no_array (operand.Typed (kind.StructPtr n)) = true
no_array operand.Zero = true
no_array operand.Null = true
no_array operand.Untyped = false

abbrev pub breaks_9 : Operand → Operand → Bool
breaks_9 base index = no_array base || no_integer index

-- the type of an element
abbrev pub element_type : Operand → Option SlotType
element_type (operand.Typed kind.IntPtr) = Some kind.Int
element_type (operand.Typed kind.CharPtr) = Some kind.Char
element_type (operand.Typed kind.Int) = None
element_type (operand.Typed kind.Char) = None
element_type (operand.Typed (kind.StructPtr n)) = None
element_type operand.Zero = None
element_type operand.Null = None
element_type operand.Untyped = None

-- 10: an operand of arithmetic or of an order is an integer
abbrev pub breaks_10 : Operand → Bool
breaks_10 o = no_integer o

-- 11: `==` and `!=` compare two integers, two pointers of one type, or a pointer that has a type with NULL or 0
abbrev pub breaks_11 : Operand → Operand → Bool
breaks_11 operand.Untyped o = false
breaks_11 operand.Null operand.Untyped = false
breaks_11 operand.Null operand.Null = true
breaks_11 operand.Null operand.Zero = true
breaks_11 operand.Null (operand.Typed k) = not (is_pointer k)
breaks_11 operand.Zero operand.Untyped = false
breaks_11 operand.Zero operand.Null = true
breaks_11 operand.Zero operand.Zero = false
breaks_11 operand.Zero (operand.Typed k) = false
breaks_11 (operand.Typed k) operand.Untyped = false
breaks_11 (operand.Typed k) operand.Null = not (is_pointer k)
breaks_11 (operand.Typed k) operand.Zero = false
breaks_11 (operand.Typed k) (operand.Typed l) = not (fits k l)

-- 12: a condition, and an operand of `!`, `&&` or `||`, is an integer or a pointer that has a type
abbrev pub breaks_12 : Operand → Bool
breaks_12 (operand.Typed k) = false
breaks_12 operand.Zero = false
breaks_12 operand.Null = true
breaks_12 operand.Untyped = false

-- 13: an integer goes to an integer, a pointer to a pointer of the same type, and NULL or 0 to a pointer
abbrev pub breaks_13 : Option SlotType → Operand → Bool
breaks_13 None o = false
breaks_13 (Some k) (operand.Typed l) = not (fits k l)
breaks_13 (Some k) operand.Zero = false
breaks_13 (Some k) operand.Null = not (is_pointer k)
breaks_13 (Some k) operand.Untyped = false

-- 15: what is freed is a pointer that has a type
abbrev pub breaks_15 : Operand → Bool
breaks_15 (operand.Typed k) = not (is_pointer k)
breaks_15 operand.Zero = true
breaks_15 operand.Null = true
breaks_15 operand.Untyped = false

-- 16: a value is returned where there is a result, which it fits
abbrev pub breaks_16 : Option SlotType → Operand → Bool
breaks_16 None o = true
breaks_16 (Some k) o = breaks_13 (Some k) o

-- the rule on the operands of an operator, and whether they break it
unfoldable pub binary_rule : BinaryOp → ℕ
binary_rule op.Eq = 11
binary_rule op.Ne = 11
binary_rule op.And = 12
binary_rule op.Or = 12
binary_rule op.Mul = 10
binary_rule op.Div = 10
binary_rule op.Rem = 10
binary_rule op.Add = 10
binary_rule op.Sub = 10
binary_rule op.Lt = 10
binary_rule op.Le = 10
binary_rule op.Gt = 10
binary_rule op.Ge = 10

unfoldable pub breaks_binary : ℕ → Operand → Operand → Bool
breaks_binary r a b = if nat_eq r 11 then breaks_11 a b else if nat_eq r 12 then breaks_12 a || breaks_12 b else breaks_10 a || breaks_10 b

-- what an operator wants beside this operand: `==` and `!=` want its type
unfoldable pub wanted_by : BinaryOp → Operand → Wanted
wanted_by o beside = if nat_eq (binary_rule o) 11 then wanted_for (type_of beside) else wanted.Value
