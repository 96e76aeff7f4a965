-- Numbers by group and literal.
use Rattle.std.proofs.Common.{◌≡◌, ◌≢◌, ℕ, zero, suc, ◌+◌, ◌*◌, ◌<◌, ◌≤◌, ◌⊎◌, inl, inr, Bool, true, false, cond, List, [], ◌∷◌, length, set, refl, sym, ap, subst, ◌∙◌, arith, get_or-set_other, get_or-set_same}
use Rattle.std.specs.Prelude.{slice_index}
use Rattle.std.proofs.lemmas.Bool.{cases_eq, cases_lt}
use Rattle.std.proofs.lemmas.List.{set_past}
use Rattle.std.proofs.Math.ListN.{length-set}
use Rattle.zo_core.specs.Literals.{Literal}
use Rattle.unit_refutation.specs.Numbers.{code_of, row_of, HasRoom, number_of, with_number}

-- a row that is there
row_there : (rows : List (List ℕ)) (group : ℕ) (lit : Literal) → HasRoom rows group lit → group < length rows
row_there [] group lit room = absurd (omega (arith, room))
row_there (r ∷ rows) zero lit room = omega arith
row_there (r ∷ rows) (suc group) lit room = let lt = row_there rows group lit room in omega (arith, lt)

pub room_inside : (rows : List (List ℕ)) (group : ℕ) (lit : Literal) → HasRoom rows group lit → group < length rows
room_inside rows group lit room = row_there rows group lit room

-- literals of one code are one
code_apart : (l m : Literal) → code_of l ≡ code_of m → l ≡ m
code_apart l m e = by_sign l.sign m.sign refl refl e
  where
    lit : ℕ → Bool → Literal
    lit v b = record { var = v; sign = b }

    same : (b : Bool) → l.sign ≡ b → m.sign ≡ b → l.var ≡ m.var → l ≡ m
    same b p q v = ap (λ (n : ℕ). lit n l.sign) v ∙ ap (lit m.var) (p ∙ sym q)

    by_sign : (a b : Bool) → l.sign ≡ a → m.sign ≡ b → 2 * l.var + cond l.sign 1 0 ≡ 2 * m.var + cond m.sign 1 0 → l ≡ m
    by_sign true true p q k = let h : 2 * l.var + 1 ≡ 2 * m.var + 1 = ap (λ (x : Bool). 2 * l.var + cond x 1 0) (sym p) ∙ k ∙ ap (λ (x : Bool). 2 * m.var + cond x 1 0) q in same true p q (omega (arith, h))
    by_sign true false p q k = let h : 2 * l.var + 1 ≡ 2 * m.var + 0 = ap (λ (x : Bool). 2 * l.var + cond x 1 0) (sym p) ∙ k ∙ ap (λ (x : Bool). 2 * m.var + cond x 1 0) q in absurd (omega (arith, h))
    by_sign false true p q k = let h : 2 * l.var + 0 ≡ 2 * m.var + 1 = ap (λ (x : Bool). 2 * l.var + cond x 1 0) (sym p) ∙ k ∙ ap (λ (x : Bool). 2 * m.var + cond x 1 0) q in absurd (omega (arith, h))
    by_sign false false p q k = let h : 2 * l.var + 0 ≡ 2 * m.var + 0 = ap (λ (x : Bool). 2 * l.var + cond x 1 0) (sym p) ∙ k ∙ ap (λ (x : Bool). 2 * m.var + cond x 1 0) q in same false p q (omega (arith, h))

row_same : (rows : List (List ℕ)) (group : ℕ) (lit : Literal) (n : ℕ) → group < length rows → row_of (with_number rows group lit n) group ≡ set (row_of rows group) (code_of lit) n
row_same rows group lit n lt = get_or-set_same rows group (set (row_of rows group) (code_of lit) n) [] lt

row_other : (rows : List (List ℕ)) (group other : ℕ) (lit : Literal) (n : ℕ) → other ≢ group → row_of (with_number rows group lit n) other ≡ row_of rows other
row_other rows group other lit n ne = get_or-set_other rows group other (set (row_of rows group) (code_of lit) n) [] ne

pub number_same : (rows : List (List ℕ)) (group : ℕ) (lit : Literal) (n : ℕ) → HasRoom rows group lit → number_of (with_number rows group lit n) group lit ≡ n
number_same rows group lit n room =
    ap (λ (r : List ℕ). slice_index r (code_of lit)) (row_same rows group lit n (row_there rows group lit room)) ∙ get_or-set_same (row_of rows group) (code_of lit) n 0 room

-- there is room for every literal for which there was
pub room_kept : (rows : List (List ℕ)) (group other : ℕ) (lit l : Literal) (n : ℕ) → HasRoom rows other l → HasRoom (with_number rows group lit n) other l
room_kept rows group other lit l n room = elim (cases_eq other group) [
  | inl e ↦
      let lt : group < length rows = subst (λ (k : ℕ). k < length rows) e (row_there rows other l room) in
      let size = ap length (ap (row_of (with_number rows group lit n)) e ∙ row_same rows group lit n lt) ∙ length-set (row_of rows group) (code_of lit) n ∙ ap (λ (k : ℕ). length (row_of rows k)) (sym e) in
      omega (arith, room, size)
  | inr ne ↦ let size = ap length (row_other rows group other lit n ne) in omega (arith, room, size)
]

pub number_other : (rows : List (List ℕ)) (group other : ℕ) (lit l : Literal) (n : ℕ) → (other ≡ group → l ≡ lit → ⊥) → number_of (with_number rows group lit n) other l ≡ number_of rows other l
number_other rows group other lit l n ne = elim (cases_eq other group) [
  | inl e ↦ in_group (cases_lt group (length rows)) e
  | inr far ↦ ap (λ (r : List ℕ). slice_index r (code_of l)) (row_other rows group other lit n far)
]
  where
    in_group : (group < length rows) ⊎ (length rows ≤ group) → other ≡ group → number_of (with_number rows group lit n) other l ≡ number_of rows other l
    in_group (inl lt) e =
        ap (λ (k : ℕ). number_of (with_number rows group lit n) k l) e
        ∙ ap (λ (r : List ℕ). slice_index r (code_of l)) (row_same rows group lit n lt)
        ∙ get_or-set_other (row_of rows group) (code_of lit) (code_of l) n 0 (λ k. ne e (code_apart l lit k))
        ∙ ap (λ (k : ℕ). number_of rows k l) (sym e)
    in_group (inr le) e = ap (λ (rs : List (List ℕ)). number_of rs other l) (set_past rows group (set (row_of rows group) (code_of lit) n) le)
