-- A clause more in a table, and the clause of a number.
use Rattle.std.proofs.Common.{◌≡◌, ℕ, zero, suc, ◌+◌, ◌-◌, ◌≤◌, List, [], ◌∷◌, ◌++◌, length, take, drop, refl, ap, ap₂, ◌∙◌, arith}
use Rattle.zo_core.specs.Literals.{Literal}
use Rattle.conflict_proof.specs.declared.names.ConstraintName.{ConstraintName}
use Rattle.transfer_rules.specs.Table.{cut, AreEnds, named, rows, IsTable}

pub length_append : {X : Type 0} (xs ys : List X) → length (xs ++ ys) ≡ length xs + length ys
length_append [] ys = omega arith
length_append (x ∷ xs) ys = let e = length_append xs ys in omega arith

length_drop : {X : Type 0} (n : ℕ) (xs : List X) → n ≤ length xs → n + length (drop n xs) ≡ length xs
length_drop zero xs le = omega arith
length_drop (suc n) [] le = absurd (omega arith)
length_drop (suc n) (x ∷ xs) le = let e = length_drop n xs (omega arith) in omega arith

take_front : {X : Type 0} (n : ℕ) (xs ys : List X) → n ≤ length xs → take n (xs ++ ys) ≡ take n xs
take_front zero xs ys le = refl
take_front (suc n) [] ys le = absurd (omega arith)
take_front (suc n) (x ∷ xs) ys le = ap (λ zs. x ∷ zs) (take_front n xs ys (omega arith))

drop_front : {X : Type 0} (n : ℕ) (xs ys : List X) → n ≤ length xs → drop n (xs ++ ys) ≡ drop n xs ++ ys
drop_front zero xs ys le = refl
drop_front (suc n) [] ys le = absurd (omega arith)
drop_front (suc n) (x ∷ xs) ys le = drop_front n xs ys (omega arith)

take_all : {X : Type 0} (n : ℕ) (xs : List X) → n ≡ length xs → take n xs ≡ xs
take_all zero [] e = refl
take_all zero (x ∷ xs) e = absurd (omega arith)
take_all (suc n) [] e = absurd (omega arith)
take_all (suc n) (x ∷ xs) e = ap (λ zs. x ∷ zs) (take_all n xs (omega arith))

drop_all : {X : Type 0} (n : ℕ) (xs : List X) → n ≡ length xs → length (drop n xs) ≡ 0
drop_all n xs e = let k = length_drop n xs (omega arith) in omega arith

pub ends_more : (from : ℕ) (es : List ℕ) (ls c : List Literal) (last : ℕ) → AreEnds from es ls → last ≡ from + length ls + length c → AreEnds from (es ++ last ∷ []) (ls ++ c)
ends_more from [] ls c last h e =
    let a = length_append ls c in
    (omega arith, omega arith, drop_all (last - from) (ls ++ c) (omega arith))
ends_more from (d ∷ es) ls c last h e =
    let a = length_append ls c in
    let k = length_drop (d - from) ls h.1 in
    let step : AreEnds d (es ++ last ∷ []) (drop (d - from) ls ++ c) = ends_more d es (drop (d - from) ls) c last h.2 (omega arith) in
    (h.0, omega arith, rw (drop_front (d - from) ls c h.1) step)

pub cut_more : (from : ℕ) (es : List ℕ) (ls c : List Literal) (last : ℕ) → AreEnds from es ls → last ≡ from + length ls + length c → cut from (es ++ last ∷ []) (ls ++ c) ≡ cut from es ls ++ c ∷ []
cut_more from [] [] c last h e = ap (λ z. z ∷ []) (take_all (last - from) c (omega arith))
cut_more from [] (l ∷ ls) c last h e = absurd (omega arith)
cut_more from (d ∷ es) ls c last h e =
    let k = length_drop (d - from) ls h.1 in
    ap₂ (λ (x : List Literal) (y : List (List Literal)). x ∷ y) (take_front (d - from) ls c h.1)
    (ap (cut d (es ++ last ∷ [])) (drop_front (d - from) ls c h.1) ∙ cut_more d es (drop (d - from) ls) c last h.2 (omega arith))

cut_length : (from : ℕ) (es : List ℕ) (ls : List Literal) → length (cut from es ls) ≡ length es
cut_length from [] ls = refl
cut_length from (e ∷ es) ls = ap suc (cut_length e es (drop (e - from) ls))

named_more : (ns : List ConstraintName) (cs : List (List Literal)) (n : ConstraintName) (c : List Literal) → length ns ≡ length cs → named (ns ++ n ∷ []) (cs ++ c ∷ []) ≡ named ns cs ++ record { name = n; lits = c } ∷ []
named_more [] [] n c e = refl
named_more [] (d ∷ cs) n c e = absurd (omega arith)
named_more (m ∷ ns) [] n c e = absurd (omega arith)
named_more (m ∷ ns) (d ∷ cs) n c e = ap (λ zs. record { name = m; lits = d } ∷ zs) (named_more ns cs n c (omega arith))

pub rows_more : (ns : List ConstraintName) (es : List ℕ) (ls : List Literal) (n : ConstraintName) (c : List Literal) (last : ℕ) → IsTable ns es ls → last ≡ length ls + length c → rows (ns ++ n ∷ []) (es ++ last ∷ []) (ls ++ c) ≡ rows ns es ls ++ record { name = n; lits = c } ∷ []
rows_more ns es ls n c last t e =
    let k = cut_length 0 es ls in
    let count = t.count in
    ap (named (ns ++ n ∷ [])) (cut_more 0 es ls c last t.ends (omega arith)) ∙ named_more ns (cut 0 es ls) n c (omega arith)

pub table_more : (ns : List ConstraintName) (es : List ℕ) (ls : List Literal) (n : ConstraintName) (c : List Literal) (last : ℕ) → IsTable ns es ls → last ≡ length ls + length c → IsTable (ns ++ n ∷ []) (es ++ last ∷ []) (ls ++ c)
table_more ns es ls n c last t e =
    let a = length_append ns (n ∷ []) in
    let b = length_append es (last ∷ []) in
    let count = t.count in
    record { count = omega arith; ends = ends_more 0 es ls c last t.ends (omega arith) }

named_length : (ns : List ConstraintName) (cs : List (List Literal)) → length ns ≡ length cs → length (named ns cs) ≡ length cs
named_length [] cs e = e
named_length (n ∷ ns) [] e = absurd (omega arith)
named_length (n ∷ ns) (c ∷ cs) e = ap suc (named_length ns cs (omega arith))

pub rows_length : (ns : List ConstraintName) (es : List ℕ) (ls : List Literal) → IsTable ns es ls → length (rows ns es ls) ≡ length es
rows_length ns es ls t =
    let k = cut_length 0 es ls in
    let count = t.count in
    named_length ns (cut 0 es ls) (omega arith) ∙ k
