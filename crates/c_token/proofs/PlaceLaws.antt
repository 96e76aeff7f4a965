-- Lines and columns, and what passing over bytes does to them.
use Rattle.std.proofs.Common.{◌≡◌, ◌<◌, ◌≤◌, ◌+◌, ◌||◌, ℕ, suc, Bool, true, false, List, [], ◌∷◌, ◌++◌, length, take, drop, refl, ap, sym, ◌∙◌, arith}
use Rattle.std.specs.Prelude.{if◌then◌else◌, cond, count_by}
use Rattle.std.specs.List.{list_any}
use Rattle.std.proofs.Math.Seq.{take-add}
use Rattle.std.proofs.lemmas.List.Sums.{sum_by-append}
use Rattle.c_token.specs.declared.position.Position.{Position}
use Rattle.c_token.specs.Bytes.{is_line_feed}
use Rattle.c_token.specs.Reading.{line_at, col_after, col_at}
use Rattle.c_token.specs.Parts.{pass, step}

pub record Passed (p : Position) (bs : List ℕ) : Type 0 where
  pub at : (pass p bs).at ≡ p.at + length bs
  pub line : (pass p bs).line ≡ p.line + count_by is_line_feed bs
  pub col : (pass p bs).col ≡ col_after p.col bs
  pub first : (pass p bs).first ≡ (p.first || list_any is_line_feed bs)

or_true : (a : Bool) → (a || true) ≡ true
or_true true = refl
or_true false = refl

or_false : (a b : Bool) → (a || (false || b)) ≡ (a || b)
or_false true b = refl
or_false false b = refl

counted : (b : ℕ) (bs : List ℕ) → count_by is_line_feed (b ∷ bs) ≡ (0 + cond (is_line_feed b) 1 0) + count_by is_line_feed bs
counted b bs = sum_by-append (λ (x : ℕ). cond (is_line_feed x) 1 0) (b ∷ []) bs

passed_feed : (p : Position) (b : ℕ) (bs : List ℕ) → is_line_feed b ≡ true → Passed (step p b) bs → Passed p (b ∷ bs)
passed_feed p b bs e h =
    let s : step p b ≡ record { at = suc p.at; line = suc p.line; col = 1; first = true } = rw e refl in
    record {
      at = h.at ∙ (let x : (step p b).at ≡ suc p.at = ap (λ (r : Position). r.at) s in omega arith);
      line = h.line ∙ (let x : (step p b).line ≡ suc p.line = ap (λ (r : Position). r.line) s in let split : count_by is_line_feed (b ∷ bs) ≡ (0 + 1) + count_by is_line_feed bs = counted b bs ∙ ap (λ t. (0 + cond t 1 0) + count_by is_line_feed bs) e in omega arith);
      col = h.col ∙ (let x : (step p b).col ≡ 1 = ap (λ (r : Position). r.col) s in ap (λ c. col_after c bs) (x ∙ rw e refl));
      first = h.first ∙ (let x : (step p b).first ≡ true = ap (λ (r : Position). r.first) s in ap (λ f. f || list_any is_line_feed bs) x ∙ rw e (sym (or_true p.first)));
    }

passed_other : (p : Position) (b : ℕ) (bs : List ℕ) → is_line_feed b ≡ false → Passed (step p b) bs → Passed p (b ∷ bs)
passed_other p b bs e h =
    let s : step p b ≡ record { at = suc p.at; line = p.line; col = suc p.col; first = p.first } = rw e refl in
    record {
      at = h.at ∙ (let x : (step p b).at ≡ suc p.at = ap (λ (r : Position). r.at) s in omega arith);
      line = h.line ∙ (let x : (step p b).line ≡ p.line = ap (λ (r : Position). r.line) s in let split : count_by is_line_feed (b ∷ bs) ≡ (0 + 0) + count_by is_line_feed bs = counted b bs ∙ ap (λ t. (0 + cond t 1 0) + count_by is_line_feed bs) e in omega arith);
      col = h.col ∙ (let x : (step p b).col ≡ suc p.col = ap (λ (r : Position). r.col) s in ap (λ c. col_after c bs) (x ∙ rw e refl));
      first = h.first ∙ (let x : (step p b).first ≡ p.first = ap (λ (r : Position). r.first) s in ap (λ f. f || list_any is_line_feed bs) x ∙ rw e (sym (or_false p.first (list_any is_line_feed bs))));
    }

pub passed : (p : Position) (bs : List ℕ) → Passed p bs
passed p [] = record { at = omega arith; line = omega arith; col = refl; first = go p.first }
  where
    go : (a : Bool) → a ≡ (a || false)
    go true = refl
    go false = refl
passed p (b ∷ bs) = go (is_line_feed b) refl (passed (step p b) bs)
  where
    go : (t : Bool) → is_line_feed b ≡ t → Passed (step p b) bs → Passed p (b ∷ bs)
    go true e h = passed_feed p b bs e h
    go false e h = passed_other p b bs e h

pub col_after-append : (col : ℕ) (xs ys : List ℕ) → col_after col (xs ++ ys) ≡ col_after (col_after col xs) ys
col_after-append col [] ys = refl
col_after-append col (x ∷ xs) ys = col_after-append (if is_line_feed x then 1 else suc col) xs ys

pub col_after-le : (col : ℕ) (xs : List ℕ) → 0 < col → col_after col xs ≤ col + length xs
col_after-le col [] low = omega arith
col_after-le col (x ∷ xs) low = go (is_line_feed x) refl (col_after-le 1 xs (omega arith)) (col_after-le (suc col) xs (omega arith))
  where
    go : (t : Bool) → is_line_feed x ≡ t → col_after 1 xs ≤ 1 + length xs → col_after (suc col) xs ≤ suc col + length xs → col_after col (x ∷ xs) ≤ col + length (x ∷ xs)
    go true e one more = rw e (omega arith)
    go false e one more = rw e (omega arith)

pub line_at-add : (bytes : List ℕ) (k n : ℕ) → line_at bytes (k + n) ≡ line_at bytes k + count_by is_line_feed (take n (drop k bytes))
line_at-add bytes k n =
    let e = sum_by-append (λ (x : ℕ). cond (is_line_feed x) 1 0) (take k bytes) (take n (drop k bytes)) in
    rw (take-add k n bytes) (omega (arith, e))

pub col_at-add : (bytes : List ℕ) (k n : ℕ) → col_at bytes (k + n) ≡ col_after (col_at bytes k) (take n (drop k bytes))
col_at-add bytes k n = rw (take-add k n bytes) (col_after-append 1 (take k bytes) (take n (drop k bytes)))

pub col_after-positive : (col : ℕ) (xs : List ℕ) → 0 < col → 0 < col_after col xs
col_after-positive col [] low = low
col_after-positive col (x ∷ xs) low = go (is_line_feed x) refl (col_after-positive 1 xs (omega arith)) (col_after-positive (suc col) xs (omega arith))
  where
    go : (t : Bool) → is_line_feed x ≡ t → 0 < col_after 1 xs → 0 < col_after (suc col) xs → 0 < col_after col (x ∷ xs)
    go true e one more = rw e one
    go false e one more = rw e more
