-- What a node is whose operand breaks no rule, by the type that it has.
use Rattle.std.proofs.Common.{◌≡◌, ℕ, Bool, true, false, not, Some, option_and_then, slice_get, if◌then◌else◌, refl, sym, ap, ◌∙◌, eq-eqb, eqb-true, ◌⊎◌, inl, inr, ⊎_elim, ℤ, pos, negsuc, zero, suc}
use Rattle.c_types.specs.declared.kinds.SlotType.{SlotType}
use Rattle.c_types.specs.declared.kinds.SlotType.TheVariants as kind
use Rattle.c_types.specs.declared.kinds.Operand.{Operand}
use Rattle.c_types.specs.declared.kinds.Operand.TheVariants as operand
use Rattle.c_types.specs.declared.kinds.Wanted.{Wanted}
use Rattle.c_types.specs.declared.kinds.Wanted.TheVariants as wanted
use Rattle.c_types.specs.declared.infos.NodeInfo.{NodeInfo}
use Rattle.c_types.specs.Types.{is_pointer, same_type, fits, of_number, type_of, pointer_only, wanted_for, pointer_wanted, type_as, no_integer, no_array, breaks_11, breaks_12, breaks_13, breaks_15}
use Rattle.c_types.specs.Exprs.{is_untyped, breaks_19}
use Rattle.c_types.specs.Fits.{Body, kind_of, refers_of, HasValue, IsInteger, IsPointer, GoesTo, IsArray, AreComparable, integers, pointers}

pub fits_itself : (k : SlotType) → fits k k ≡ true
fits_itself kind.Int = refl
fits_itself kind.Char = refl
fits_itself kind.IntPtr = refl
fits_itself kind.CharPtr = refl
fits_itself (kind.StructPtr n) = eq-eqb n n refl

pub same_types_equal : (k l : SlotType) → same_type k l ≡ true → l ≡ k
same_types_equal kind.Int kind.Int e = refl
same_types_equal kind.Char kind.Char e = refl
same_types_equal kind.IntPtr kind.IntPtr e = refl
same_types_equal kind.CharPtr kind.CharPtr e = refl
same_types_equal (kind.StructPtr n) (kind.StructPtr m) e = ap kind.StructPtr (sym (eqb-true n m e))
same_types_equal kind.Int _ e = cc
same_types_equal kind.Char _ e = cc
same_types_equal kind.IntPtr _ e = cc
same_types_equal kind.CharPtr _ e = cc
same_types_equal (kind.StructPtr n) _ e = cc

pub not_false : (b : Bool) → not b ≡ false → b ≡ true
not_false true e = refl
not_false false e = cc

pub not_true : (b : Bool) → not b ≡ true → b ≡ false
not_true false e = refl
not_true true e = cc

-- the node at which an info stands
pub kind_at : (b : Body) (n : ℕ) (i : NodeInfo) → slice_get b.nodes n ≡ Some i → kind_of b n ≡ i.kind
kind_at b n i e = ap (option_and_then (λ j. j.kind)) e

pub refers_at : (b : Body) (n : ℕ) (i : NodeInfo) → slice_get b.nodes n ≡ Some i → refers_of b n ≡ i.refers
refers_at b n i e = ap (option_and_then (λ j. j.refers)) e

integers_fit : (t : SlotType) → is_pointer t ≡ false → fits t kind.Int ≡ true
integers_fit kind.Int e = refl
integers_fit kind.Char e = refl
integers_fit kind.IntPtr e = cc
integers_fit kind.CharPtr e = cc
integers_fit (kind.StructPtr s) e = cc

pointer_fits : (t : SlotType) → is_pointer t ≡ true → pointer_only t ≡ Some t
pointer_fits kind.Int e = cc
pointer_fits kind.Char e = cc
pointer_fits kind.IntPtr e = refl
pointer_fits kind.CharPtr e = refl
pointer_fits (kind.StructPtr s) e = refl

module _ (b : Body) where
  -- 0 where an integer is wanted, or NULL where a pointer is
  zero_given : (n : ℕ) (k : SlotType) → kind_of b n ≡ type_as (wanted.For k) operand.Zero → kind_of b n ≡ Some k ⊎ (kind_of b n ≡ Some kind.Int) × (is_pointer k ≡ false)
  zero_given n kind.Int e = inr (e, refl)
  zero_given n kind.Char e = inr (e, refl)
  zero_given n kind.IntPtr e = inl e
  zero_given n kind.CharPtr e = inl e
  zero_given n (kind.StructPtr s) e = inl e

  zero_value : (n : ℕ) (w : Wanted) → kind_of b n ≡ type_as w operand.Zero → HasValue b n
  zero_value n wanted.Nothing e = record { type = kind.Int; is = e }
  zero_value n wanted.Value e = record { type = kind.Int; is = e }
  zero_value n (wanted.For k) e = ⊎_elim (λ g. record { type = k; is = g }) (λ g. record { type = kind.Int; is = g.0 }) (zero_given n k e)

  pub number_value : (n : ℕ) (w : Wanted) (z : ℤ) → kind_of b n ≡ type_as w (of_number z) → HasValue b n
  number_value n w (pos zero) e = zero_value n w e
  number_value n w (pos (suc m)) e = record { type = kind.Int; is = e }
  number_value n w (negsuc m) e = record { type = kind.Int; is = e }

  -- NULL has the pointer type that is wanted
  pub null_pointer : (n : ℕ) (w : Wanted) → kind_of b n ≡ pointer_wanted w → breaks_19 w ≡ false → IsPointer b n
  null_pointer n wanted.Nothing e r = cc
  null_pointer n wanted.Value e r = cc
  null_pointer n (wanted.For kind.Int) e r = cc
  null_pointer n (wanted.For kind.Char) e r = cc
  null_pointer n (wanted.For kind.IntPtr) e r = record { type = kind.IntPtr; is = e; pointer = refl }
  null_pointer n (wanted.For kind.CharPtr) e r = record { type = kind.CharPtr; is = e; pointer = refl }
  null_pointer n (wanted.For (kind.StructPtr s)) e r = record { type = kind.StructPtr s; is = e; pointer = refl }

  pub has_value : (n : ℕ) (o : Operand) → kind_of b n ≡ type_as wanted.Value o → is_untyped o ≡ false → breaks_12 o ≡ false → HasValue b n
  has_value n (operand.Typed k) e t r = record { type = k; is = e }
  has_value n operand.Zero e t r = record { type = kind.Int; is = e }
  has_value n operand.Null e t r = cc
  has_value n operand.Untyped e t r = cc

  pub is_integer : (n : ℕ) (o : Operand) → kind_of b n ≡ type_as wanted.Value o → is_untyped o ≡ false → no_integer o ≡ false → IsInteger b n
  is_integer n (operand.Typed k) e t r = record { type = k; is = e; integer = r }
  is_integer n operand.Zero e t r = record { type = kind.Int; is = e; integer = refl }
  is_integer n operand.Null e t r = cc
  is_integer n operand.Untyped e t r = cc

  pub freed_pointer : (n : ℕ) (o : Operand) → kind_of b n ≡ type_as wanted.Value o → is_untyped o ≡ false → breaks_15 o ≡ false → IsPointer b n
  freed_pointer n (operand.Typed k) e t r = record { type = k; is = e; pointer = not_false (is_pointer k) r }
  freed_pointer n operand.Zero e t r = cc
  freed_pointer n operand.Null e t r = cc
  freed_pointer n operand.Untyped e t r = cc

  pub array_base : (n : ℕ) (o : Operand) → kind_of b n ≡ type_as wanted.Value o → is_untyped o ≡ false → no_array o ≡ false → IsArray b n
  array_base n (operand.Typed kind.Int) e t r = cc
  array_base n (operand.Typed kind.Char) e t r = cc
  array_base n (operand.Typed kind.IntPtr) e t r = record { type = kind.IntPtr; is = e; array = refl }
  array_base n (operand.Typed kind.CharPtr) e t r = record { type = kind.CharPtr; is = e; array = refl }
  array_base n (operand.Typed (kind.StructPtr s)) e t r = cc
  array_base n operand.Zero e t r = cc
  array_base n operand.Null e t r = cc
  array_base n operand.Untyped e t r = cc

  null_goes : (n : ℕ) (t : SlotType) → kind_of b n ≡ pointer_only t → is_pointer t ≡ true → GoesTo b n t
  null_goes n t e p = record { type = t; is = e ∙ pointer_fits t p; goes = fits_itself t }

  pub goes_to : (n : ℕ) (t : SlotType) (o : Operand) → kind_of b n ≡ type_as (wanted.For t) o → is_untyped o ≡ false → breaks_13 (Some t) o ≡ false → GoesTo b n t
  goes_to n t (operand.Typed k) e u r = record { type = k; is = e; goes = not_false (fits t k) r }
  goes_to n t operand.Zero e u r = ⊎_elim (λ g. record { type = t; is = g; goes = fits_itself t }) (λ g. record { type = kind.Int; is = g.0; goes = integers_fit t g.1 }) (zero_given n t e)
  goes_to n t operand.Null e u r = null_goes n t e (not_false (is_pointer t) r)
  goes_to n t operand.Untyped e u r = cc

  -- two operands of one type, or one that has an integer's type with an integer
  alike : (m l : ℕ) (k : SlotType) (p : Bool) → is_pointer k ≡ p → kind_of b m ≡ Some k → kind_of b l ≡ Some k → AreComparable b m l
  alike m l k true p d e = pointers k p d e
  alike m l k false p d e = integers (record { type = k; is = d; integer = p }) (record { type = k; is = e; integer = p })

  zero_left : (m l : ℕ) (k : SlotType) → kind_of b m ≡ type_as (wanted.For k) operand.Zero → kind_of b l ≡ Some k → AreComparable b m l
  zero_left m l k d e = ⊎_elim (λ g. alike m l k (is_pointer k) refl g e) (λ g. integers (record { type = kind.Int; is = g.0; integer = refl }) (record { type = k; is = e; integer = g.1 })) (zero_given m k d)

  zero_right : (m l : ℕ) (k : SlotType) → kind_of b m ≡ Some k → kind_of b l ≡ type_as (wanted.For k) operand.Zero → AreComparable b m l
  zero_right m l k d e = ⊎_elim (λ g. alike m l k (is_pointer k) refl d g) (λ g. integers (record { type = k; is = d; integer = g.1 }) (record { type = kind.Int; is = g.0; integer = refl })) (zero_given l k e)

  two_typed : (m l : ℕ) (k j : SlotType) (p : Bool) → is_pointer k ≡ p → kind_of b m ≡ Some k → kind_of b l ≡ Some j
      → (if p then same_type k j else not (is_pointer j)) ≡ true → AreComparable b m l
  two_typed m l k j true p d e r = pointers k p d (e ∙ ap Some (same_types_equal k j r))
  two_typed m l k j false p d e r = integers (record { type = k; is = d; integer = p }) (record { type = j; is = e; integer = not_true (is_pointer j) r })

  pub comparable : (m l : ℕ) (o q : Operand) → kind_of b m ≡ type_as (wanted_for (type_of q)) o → kind_of b l ≡ type_as (wanted_for (type_of o)) q
      → is_untyped o ≡ false → is_untyped q ≡ false → breaks_11 o q ≡ false → AreComparable b m l
  comparable m l operand.Untyped q d e t u r = cc
  comparable m l o operand.Untyped d e t u r = cc
  comparable m l operand.Null operand.Null d e t u r = cc
  comparable m l operand.Null operand.Zero d e t u r = cc
  comparable m l operand.Null (operand.Typed k) d e t u r = let p = not_false (is_pointer k) r in pointers k p (d ∙ pointer_fits k p) e
  comparable m l operand.Zero operand.Null d e t u r = cc
  comparable m l operand.Zero operand.Zero d e t u r = alike m l kind.Int false refl d e
  comparable m l operand.Zero (operand.Typed k) d e t u r = zero_left m l k d e
  comparable m l (operand.Typed k) operand.Null d e t u r = let p = not_false (is_pointer k) r in pointers k p d (e ∙ pointer_fits k p)
  comparable m l (operand.Typed k) operand.Zero d e t u r = zero_right m l k d e
  comparable m l (operand.Typed k) (operand.Typed j) d e t u r = two_typed m l k j (is_pointer k) refl d e (not_false (fits k j) r)
