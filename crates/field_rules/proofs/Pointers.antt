-- Going over the pointers among the slots, and over the fields that point to a struct.
use Rattle.std.proofs.Common.{◌≡◌, ℕ, zero, suc, ◌<◌, ◌≤◌, Bool, true, false, List, [], ◌∷◌, ◌++◌, length, get_or, take, cond, not, ◌&&◌, Option, Some, None, refl, sym, ap, ◌∙◌, arith}
use Rattle.std.proofs.lemmas.Grind.{flat_map-append}
use Rattle.std.proofs.lemmas.List.{take_all}
use Rattle.std.proofs.lemmas.Bool.{eqb-true}
use Rattle.std.proofs.lemmas.List.Elements.{All-append, All-nil, All-cons}
use Rattle.std.specs.List.{All, flat_map}
use Rattle.std.specs.Prelude.{nat_lt}
use Rattle.field_rules.specs.Lists.{gather, when}
use Rattle.field_rules.specs.declared.edges.CallArg.{CallArg}
use Rattle.field_rules.specs.Sight.{Sight, IsField, PointersFit, pointer_at, pointers, leads_to, field_to_at, fields_to, over_fields}
use Rattle.field_rules.specs.Lines.{is_arg, bound_line, bound_lines, base_lines, one_base_lines, argument_line, argument_lines, sealed_lines, call_lines, is_other, other, others, base_at, bases_at, later}

append_nil : {X : Type 0} (xs : List X) → xs ++ [] ≡ xs
append_nil [] = refl
append_nil (x ∷ xs) = ap (λ ys. x ∷ ys) (append_nil xs)

one : {X : Type 0} (b : Bool) (f : ℕ → List X) (x : ℕ) → (b ≡ false → f x ≡ []) → flat_map f (when b (x ∷ [])) ≡ f x
one true f x none = append_nil (f x)
one false f x none = sym (none refl)

-- what is said of each pointer, where nothing is said of other slots, is what is said of each slot
pub over_pointers : {X : Type 0} (v : Sight) (f : ℕ → List X) → ((x : ℕ) → v.pointer x ≡ false → f x ≡ []) → flat_map f (pointers v) ≡ gather v.slots f
over_pointers v f none = up v.slots
  where
    up : (n : ℕ) → flat_map f (gather n (pointer_at v)) ≡ gather n f
    up zero = refl
    up (suc n) =
        flat_map-append f (gather n (pointer_at v)) (pointer_at v n)
        ∙ ap (λ zs. zs ++ flat_map f (pointer_at v n)) (up n)
        ∙ ap (λ zs. gather n f ++ zs) (one (v.pointer n) f n (none n))

abbrev Below : ℕ → ℕ → Type 0
Below n x = x < n

more : (n : ℕ) (xs : List ℕ) → All (Below n) xs → All (Below (suc n)) xs
more n xs h k d lt = let le : Below n (get_or xs k d) = h k d lt in omega arith

pub pointers_are_slots : (v : Sight) → All (λ x. x < v.slots) (pointers v)
pointers_are_slots v = up v.slots
  where
    last : (b : Bool) (n : ℕ) → All (Below (suc n)) (when b (n ∷ []))
    last true n = All-cons (Below (suc n)) n [] (omega arith) (All-nil (Below (suc n)))
    last false n = All-nil (Below (suc n))

    up : (n : ℕ) → All (Below n) (gather n (pointer_at v))
    up zero = All-nil (Below zero)
    up (suc n) = All-append (Below (suc n)) (gather n (pointer_at v)) (pointer_at v n) (more n (gather n (pointer_at v)) (up n)) (last (v.pointer n) n)

pub fields_to_are_fields : (v : Sight) (s : ℕ) → All (IsField v) (fields_to v s)
fields_to_are_fields v s = up v.fields (omega arith)
  where
    last : (b : Bool) (n : ℕ) → suc n ≤ v.fields → All (IsField v) (when b (suc n ∷ []))
    last true n le = All-cons (IsField v) (suc n) [] (omega arith, le) (All-nil (IsField v))
    last false n le = All-nil (IsField v)

    up : (n : ℕ) → n ≤ v.fields → All (IsField v) (gather n (field_to_at v s))
    up zero le = All-nil (IsField v)
    up (suc n) le = All-append (IsField v) (gather n (field_to_at v s)) (field_to_at v s n) (up n (omega arith)) (last (leads_to (v.field_to (suc n)) s) n le)

-- the same once a loop over the pointers has come to their end
pub over_taken : {X : Type 0} (v : Sight) (f : ℕ → List X) (i : ℕ) → ((x : ℕ) → v.pointer x ≡ false → f x ≡ []) → length (pointers v) ≤ i → flat_map f (take i (pointers v)) ≡ gather v.slots f
over_taken v f i none le = ap (λ ps. flat_map f ps) (take_all i (pointers v) le) ∙ over_pointers v f none

-- Nothing is said of a slot that is no pointer

no_struct : (v : Sight) → PointersFit v → (x : ℕ) → v.pointer x ≡ false → v.structure x ≡ None
no_struct v fit x not_pointer = by (v.structure x) refl
  where
    differ : true ≡ false → ⊥
    differ e = cc

    by : (o : Option ℕ) → v.structure x ≡ o → o ≡ None
    by None e = refl
    by (Some s) e = absurd (differ (sym (fit.pointer x s e) ∙ not_pointer))

pub no_bounds : (v : Sight) (p : ℕ) → PointersFit v → (x : ℕ) → v.pointer x ≡ false → bound_lines v p x ≡ []
no_bounds v p fit x e = ap (λ o. over_fields v o (bound_line v p x)) (no_struct v fit x e)

when_none : {X : Type 0} (b : Bool) (xs : List X) → xs ≡ [] → when b xs ≡ []
when_none true xs e = e
when_none false xs e = refl

pub no_bases : (v : Sight) (p : ℕ) → PointersFit v → (x : ℕ) → v.pointer x ≡ false → one_base_lines v p x ≡ []
no_bases v p fit x e = when_none (not (v.fresh p x)) (base_lines v p x (v.structure x)) (ap (λ o. base_lines v p x o) (no_struct v fit x e))

pub no_call : (v : Sight) (us : List CallArg) (p : ℕ) → PointersFit v → (x : ℕ) → v.pointer x ≡ false → call_lines v us p x ≡ []
no_call v us p fit x e = by (is_arg us x)
  where
    none : v.structure x ≡ None
    none = no_struct v fit x e

    by : (b : Bool) → cond b (argument_lines v p x) (when (not (v.fresh p x)) (sealed_lines v us p x (v.structure x))) ≡ []
    by true = when_none (not (v.empty p x)) (over_fields v (v.structure x) (argument_line v p x)) (ap (λ o. over_fields v o (argument_line v p x)) none)
    by false = when_none (not (v.fresh p x)) (sealed_lines v us p x (v.structure x)) (ap (λ o. sealed_lines v us p x o) none)

pub no_other : (v : Sight) (p y s : ℕ) → PointersFit v → (x : ℕ) → v.pointer x ≡ false → other v p y s x ≡ []
no_other v p y s fit x e = ap (λ b. when b (x ∷ [])) (out (nat_lt y x) (leads_to (v.structure x) s) (not (v.fresh p x)) (ap (λ o. leads_to o s) (no_struct v fit x e)))
  where
    out : (a b c : Bool) → b ≡ false → ((a && b) && c) ≡ false
    out true true c h = cc
    out true false c h = refl
    out false b c h = refl

-- the slots that `others` lists are slots, and point to the struct
abbrev PointsTo : Sight → ℕ → ℕ → Type 0
PointsTo v s z = (z < v.slots) × (v.structure z ≡ Some s)

led : (o : Option ℕ) (s : ℕ) → leads_to o s ≡ true → o ≡ Some s
led None s h = cc
led (Some r) s h = ap Some (eqb-true r s h)

middle : (a b c : Bool) → ((a && b) && c) ≡ true → b ≡ true
middle true true c h = refl
middle true false c h = h
middle false b c h = cc

last_other : (v : Sight) (p y s n : ℕ) → n < v.slots → (b : Bool) → (b ≡ true → leads_to (v.structure n) s ≡ true) → All (PointsTo v s) (when b (n ∷ []))
last_other v p y s n lt true h = All-cons (PointsTo v s) n [] (lt, led (v.structure n) s (h refl)) (All-nil (PointsTo v s))
last_other v p y s n lt false h = All-nil (PointsTo v s)

pub other_is_slot : (v : Sight) (p y s z : ℕ) → z < v.slots → All (λ z. (z < v.slots) × (v.structure z ≡ Some s)) (other v p y s z)
other_is_slot v p y s z lt = last_other v p y s z lt (is_other v p y s z) (middle (nat_lt y z) (leads_to (v.structure z) s) (not (v.fresh p z)))

pub others_are_slots : (v : Sight) (p y s : ℕ) → All (λ z. (z < v.slots) × (v.structure z ≡ Some s)) (others v p y s)
others_are_slots v p y s = up v.slots (omega arith)
  where
    up : (n : ℕ) → n ≤ v.slots → All (PointsTo v s) (gather n (other v p y s))
    up zero le = All-nil (PointsTo v s)
    up (suc n) le = All-append (PointsTo v s) (gather n (other v p y s)) (other v p y s n) (up n (omega arith)) (other_is_slot v p y s n (omega arith))

-- By struct

pub no_base : (v : Sight) (p s : ℕ) → PointersFit v → (x : ℕ) → v.pointer x ≡ false → base_at v p s x ≡ []
no_base v p s fit x e = ap (λ b. when b (x ∷ [])) (out (leads_to (v.structure x) s) (not (v.fresh p x)) (ap (λ o. leads_to o s) (no_struct v fit x e)))
  where
    out : (b c : Bool) → b ≡ false → (b && c) ≡ false
    out true c h = cc
    out false c h = refl

-- those after a slot are its others
pub after_bases : (v : Sight) (p y s : ℕ) → flat_map (later y) (bases_at v p s) ≡ others v p y s
after_bases v p y s = up v.slots
  where
    one : (x l f : Bool) (z : ℕ) → nat_lt y z ≡ x → flat_map (later y) (when (l && f) (z ∷ [])) ≡ when ((x && l) && f) (z ∷ [])
    one true true true z e = ap (λ b. when b (z ∷ []) ++ []) e
    one true true false z e = refl
    one true false f z e = refl
    one false true true z e = ap (λ b. when b (z ∷ []) ++ []) e
    one false true false z e = refl
    one false false f z e = refl

    up : (n : ℕ) → flat_map (later y) (gather n (base_at v p s)) ≡ gather n (other v p y s)
    up zero = refl
    up (suc n) =
        flat_map-append (later y) (gather n (base_at v p s)) (base_at v p s n)
        ∙ ap (λ zs. zs ++ flat_map (later y) (base_at v p s n)) (up n)
        ∙ ap (λ zs. gather n (other v p y s) ++ zs) (one (nat_lt y n) (leads_to (v.structure n) s) (not (v.fresh p n)) n refl)

-- an empty list more is as none
pub push_empty : (xs : List (List ℕ)) (s : ℕ) → get_or (xs ++ [] ∷ []) s [] ≡ get_or xs s []
push_empty [] zero = refl
push_empty [] (suc s) = refl
push_empty (x ∷ xs) zero = refl
push_empty (x ∷ xs) (suc s) = push_empty xs s
