-- Runs of digits, and the numbers that they spell.
use Rattle.std.proofs.Common.{◌≡◌, ℕ, zero, suc, ◌+◌, ◌<◌, ◌≤◌, ◌^◌, Bool, true, false, ◌&&◌, List, [], ◌∷◌, ◌++◌, length, drop, refl, sym, ap, subst, ◌∙◌, decimal, get_or, eqb, Result, Ok, Err, Some, None, MatchOption, MatchResult, arith}
use Rattle.std.proofs.lemmas.List.{take_at, drop_at, take-append-drop}
use Rattle.std.proofs.lemmas.List.Sums.{take_while-cons}
use Rattle.std.proofs.lemmas.Bool.{eq-eqb}
use Rattle.std.proofs.lemmas.Fmt.{digits_decimal, decimal_injective, decimal_nonempty, first_decimal, decimal_digit, digits_value-decimal, decimal-digits_value, IsAscii-from_digits}
use Rattle.std.proofs.lemmas.Str.{IsUtf8-from_ascii}
use Rattle.std.proofs.lemmas.Str.Parse.{IsNumeralModel, numerals_by_value, tells_all_ascii_digits, parse_digits}
use Rattle.std.specs.Prelude.{IsUtf8}
use Rattle.std.specs.Result.{result_ok}
use Rattle.std.specs.List.{prefix_len}
use Rattle.std.specs.Char.{is_ascii_digit}
use Rattle.std.specs.Str.{all_ascii_digits}
use Rattle.std.specs.Str.Parse.{digits_value, ParsesUnsigned}
use Rattle.conflict_proof.specs.Fronts.{digit_run, after_digits, NoDigit, SpellsNone, BeginsNot, NoNumber, IsNumber, NoField, IsField}

own : IsNumeralModel (λ ds. all_ascii_digits ds ≡ true) (digits_value 10)
own = numerals_by_value _ tells_all_ascii_digits

pub both : (a b : Bool) → (a && b) ≡ true → (a ≡ true) × (b ≡ true)
both true true e = (refl, refl)
both true false e = cc
both false b e = cc

-- digits, then no digit
run_ends : (ds r : List ℕ) → all_ascii_digits ds ≡ true → NoDigit r → prefix_len is_ascii_digit (ds ++ r) ≡ length ds
run_ends [] r all none = none
run_ends (c ∷ ds) r all none =
    let h = both (is_ascii_digit c) (all_ascii_digits ds) all in
    rw h.0 (omega (arith, run_ends ds r h.1 none))

pub decimal_digits : (n : ℕ) → n < 2 ^ 64 → all_ascii_digits (decimal n) ≡ true
decimal_digits n small = digits_decimal own n small

pub run_of_decimal : (n : ℕ) (r : List ℕ) → n < 2 ^ 64 → NoDigit r → digit_run (decimal n ++ r) ≡ decimal n
run_of_decimal n r small none = take_at (decimal n) r _ (sym (run_ends (decimal n) r (decimal_digits n small) none))

pub after_decimal : (n : ℕ) (r : List ℕ) → n < 2 ^ 64 → NoDigit r → after_digits (decimal n ++ r) ≡ r
after_decimal n r small none = drop_at (decimal n) r _ (sym (run_ends (decimal n) r (decimal_digits n small) none))

pub same_number : (m n : ℕ) (q r : List ℕ) → m < 2 ^ 64 → n < 2 ^ 64 → NoDigit q → NoDigit r → decimal m ++ q ≡ decimal n ++ r → (m ≡ n) × (q ≡ r)
same_number m n q r lm ln nq nr e =
    let runs : decimal m ≡ decimal n = sym (run_of_decimal m q lm nq) ∙ ap digit_run e ∙ run_of_decimal n r ln nr in
    let rests : q ≡ r = sym (after_decimal m q lm nq) ∙ ap after_digits e ∙ after_decimal n r ln nr in
    (decimal_injective m n lm ln runs, rests)

starts_with_digit : (ds r more : List ℕ) (b : ℕ) → all_ascii_digits ds ≡ true → 0 < length ds → is_ascii_digit b ≡ false → ds ++ r ≡ b ∷ more → ⊥
starts_with_digit [] r more b all some other e = absurd (omega arith)
starts_with_digit (c ∷ ds) r more b all some other e =
    let same : c ≡ b = ap (λ (w : List ℕ). get_or w 0 0) e in
    let digit : is_ascii_digit c ≡ true = (both (is_ascii_digit c) (all_ascii_digits ds) all).0 in
    let not_digit : is_ascii_digit c ≡ false = ap is_ascii_digit same ∙ other in
    cc

-- a number begins with a digit
pub first_is_digit : (n : ℕ) (r more : List ℕ) (b : ℕ) → n < 2 ^ 64 → is_ascii_digit b ≡ false → decimal n ++ r ≡ b ∷ more → ⊥
first_is_digit n r more b small other e = starts_with_digit (decimal n) r more b (decimal_digits n small) (decimal_nonempty n small) other e

-- the run, and what follows it
pub run_split : (bs : List ℕ) → digit_run bs ++ after_digits bs ≡ bs
run_split bs = take-append-drop (prefix_len is_ascii_digit bs) bs

drop_suc : (m n b : ℕ) (bs : List ℕ) → m ≡ suc n → drop m (b ∷ bs) ≡ drop n bs
drop_suc m n b bs e = rw e refl

after_digit : (b : ℕ) (bs : List ℕ) → is_ascii_digit b ≡ true → after_digits (b ∷ bs) ≡ after_digits bs
after_digit b bs e = rw e (drop_suc (1 + prefix_len is_ascii_digit bs) (prefix_len is_ascii_digit bs) b bs (omega arith))

after_other : (b : ℕ) (bs : List ℕ) → is_ascii_digit b ≡ false → after_digits (b ∷ bs) ≡ b ∷ bs
after_other b bs e = rw e refl

pub after_ends : (bs : List ℕ) → NoDigit (after_digits bs)
after_ends [] = refl
after_ends (b ∷ bs) = by_first (is_ascii_digit b) refl (after_ends bs)
  where
    by_first : (t : Bool) → is_ascii_digit b ≡ t → NoDigit (after_digits bs) → NoDigit (after_digits (b ∷ bs))
    by_first true e h = subst NoDigit (sym (after_digit b bs e)) h
    by_first false e h = subst NoDigit (sym (after_other b bs e)) (rw e refl)

pub run_is_digits : (bs : List ℕ) → prefix_len is_ascii_digit (digit_run bs) ≡ length (digit_run bs)
run_is_digits [] = refl
run_is_digits (b ∷ bs) = by_first (is_ascii_digit b) refl (run_is_digits bs)
  where
    by_first : (t : Bool) → is_ascii_digit b ≡ t → prefix_len is_ascii_digit (digit_run bs) ≡ length (digit_run bs) → prefix_len is_ascii_digit (digit_run (b ∷ bs)) ≡ length (digit_run (b ∷ bs))
    by_first true e h =
        let run : digit_run (b ∷ bs) ≡ b ∷ digit_run bs = take_while-cons is_ascii_digit b bs ∙ rw e refl in
        subst (λ (w : List ℕ). prefix_len is_ascii_digit w ≡ length w) (sym run) (rw e (omega (arith, h)))
    by_first false e h =
        let run : digit_run (b ∷ bs) ≡ [] = take_while-cons is_ascii_digit b bs ∙ rw e refl in
        subst (λ (w : List ℕ). prefix_len is_ascii_digit w ≡ length w) (sym run) refl

all_digits_by : (c : ℕ) (ds : List ℕ) (t : Bool) → is_ascii_digit c ≡ t → (prefix_len is_ascii_digit ds ≡ length ds → all_ascii_digits ds ≡ true) → prefix_len is_ascii_digit (c ∷ ds) ≡ length (c ∷ ds) → all_ascii_digits (c ∷ ds) ≡ true
all_digits_by c ds true t rest e = rw (t, rest (let f : 1 + prefix_len is_ascii_digit ds ≡ suc (length ds) = rw t at e in omega arith)) refl
all_digits_by c ds false t rest e = let f : 0 ≡ suc (length ds) = rw t at e in absurd (omega arith)

all_digits : (ds : List ℕ) → prefix_len is_ascii_digit ds ≡ length ds → all_ascii_digits ds ≡ true
all_digits [] e = refl
all_digits (c ∷ ds) e = all_digits_by c ds (is_ascii_digit c) refl (all_digits ds) e

pub utf8_digits : (ds : List ℕ) → prefix_len is_ascii_digit ds ≡ length ds → IsUtf8 ds
utf8_digits ds e = IsUtf8-from_ascii ds (IsAscii-from_digits ds (own.to ds (all_digits ds e)))

length_zero : length (decimal 0) ≡ 1
length_zero = ap length (decimal_digit 0 (omega arith))

-- a needless zero in front
pub needless_zero : (ds : List ℕ) → get_or ds 0 0 ≡ 48 → 1 < length ds → SpellsNone ds
needless_zero ds first long zero small e = absurd (let l : length ds ≡ length (decimal 0) = ap length e in omega (arith, length_zero))
needless_zero ds first long (suc n) small e = absurd (let f = first_decimal (suc n) (omega arith) small in let g : get_or ds 0 0 ≡ get_or (decimal (suc n)) 0 0 = ap (λ (w : List ℕ). get_or w 0 0) e in omega arith)

-- what `parse` gives of digits with no needless zero
pub parsed : {E : Type 0} (ds : List ℕ) (r : Result ℕ E) → prefix_len is_ascii_digit ds ≡ length ds → (get_or ds 0 0 ≡ 48 → length ds ≤ 1) → ParsesUnsigned 64 10 ds r
    → MatchOption (result_ok r) (SpellsNone ds) (λ n. (n < 2 ^ 64) × (ds ≡ decimal n))
parsed {E} ds (Ok x) run plain h =
    let r : Result ℕ E = Ok x in
    let p = parse_digits own {E = E} 64 ds r h (all_digits ds run) in
    (omega (arith, p.0.1, p.1), sym (ap decimal p.1 ∙ decimal-digits_value own ds (all_digits ds run) p.0.0 (λ f. omega (arith, p.0.0, plain f)) p.0.1))
parsed {E} ds (Err x) run plain h = λ n small e.
    let r : Result ℕ E = Err x in
    let p = parse_digits own {E = E} 64 ds r h (all_digits ds run) in
    let value : digits_value 10 ds ≡ n = ap (digits_value 10) e ∙ digits_value-decimal own n small in
    let some : 0 < length ds = rw e (decimal_nonempty n small) in
    p (some, omega arith)

-- two numerals that are not one
pub different : (m n : ℕ) → eqb m n ≡ false → m ≡ n → ⊥
different m n f e = let g : eqb m n ≡ true = eq-eqb m n e in cc

-- the number at the front, where the run of digits spells it
pub spelled : (bs : List ℕ) (n : ℕ) → digit_run bs ≡ decimal n → bs ≡ decimal n ++ after_digits bs
spelled bs n e = sym (run_split bs) ∙ ap (λ (w : List ℕ). w ++ after_digits bs) e

pub run_of : (bs : List ℕ) (n : ℕ) (more : List ℕ) → n < 2 ^ 64 → NoDigit more → bs ≡ decimal n ++ more → digit_run bs ≡ decimal n
run_of bs n more small ends e = ap digit_run e ∙ run_of_decimal n more small ends

pub no_number : (top : ℕ) (bs : List ℕ) → top ≤ 2 ^ 32 → SpellsNone (digit_run bs) → NoNumber top bs
no_number top bs low none n more small ends e = none n (omega arith) (run_of bs n more (omega arith) ends e)

pub number_above : (top : ℕ) (bs : List ℕ) (m : ℕ) → top ≤ 2 ^ 32 → m < 2 ^ 64 → digit_run bs ≡ decimal m → top ≤ m → NoNumber top bs
number_above top bs m low fits run above n more small ends e =
    let same : m ≡ n = decimal_injective m n fits (omega arith) (sym run ∙ run_of bs n more (omega arith) ends e) in absurd (omega arith)

pub number_at : (top : ℕ) (bs : List ℕ) (n : ℕ) (rest : List ℕ) → digit_run bs ≡ decimal n → n < top → rest ≡ after_digits bs → IsNumber top bs n rest
number_at top bs n rest run small e = record {
  text = spelled bs n run ∙ ap (λ (w : List ℕ). decimal n ++ w) (sym e);
  small = small;
  ends = subst NoDigit (sym e) (after_ends bs);
}

-- a field is a number after a space
pub no_space : (bs : List ℕ) → BeginsNot (32 ∷ []) bs → NoField bs
no_space bs none n more small ends e = none (decimal n ++ more) e

pub no_field : (bs rest : List ℕ) → bs ≡ 32 ∷ rest → NoNumber (2 ^ 32) rest → NoField bs
no_field bs rest e none n more small ends f = none n more small ends (ap (drop 1) (sym e ∙ f))

pub field_at : (bs rest after : List ℕ) (n : ℕ) → bs ≡ 32 ∷ rest → IsNumber (2 ^ 32) rest n after → IsField bs n after
field_at bs rest after n e is = record { text = e ∙ ap (λ (w : List ℕ). 32 ∷ w) is.text; small = is.small; ends = is.ends }

-- what `from_utf8(..).ok()` gives
pub utf8_fails : {A E : Type 0} (P : A → Type 0) (Q : E → Type 0) (N : Type 0) (r : Result A E) → MatchResult r P (λ e. (N → ⊥) × Q e) → N → result_ok r ≡ None → ⊥
utf8_fails P Q N (Ok x) h n e = cc
utf8_fails P Q N (Err x) h n e = h.0 n

some_same : {A : Type 0} (y x : A) → Some y ≡ Some x → y ≡ x
some_same y x e = cc

pub utf8_gives : {A E : Type 0} (P : A → Type 0) (Z : E → Type 0) (r : Result A E) (x : A) → MatchResult r P Z → result_ok r ≡ Some x → P x
utf8_gives P Z (Ok y) x h e = subst P (some_same y x e) h
utf8_gives P Z (Err y) x h e = cc
