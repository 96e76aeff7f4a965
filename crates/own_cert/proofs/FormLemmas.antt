-- What is no line, by its word and what follows it.
use Rattle.std.proofs.Common.{◌≡◌, ℕ, zero, suc, ◌+◌, ◌<◌, ◌≤◌, ◌^◌, Bool, List, [], ◌∷◌, ◌++◌, length, map, take, drop, refl, sym, ap, ◌∙◌, get_or, append_assoc, codes, decimal, Option, Some, None, MatchOption, Result, Ok, Err, IfOk, arith}
use Rattle.std.proofs.lemmas.List.{append-nil, take_more}
use Rattle.std.specs.List.{All}
use Rattle.conflict_proof.specs.Text.{numbers_text}
use Rattle.conflict_proof.specs.Fronts.{BeginsNot, digit_run, SpellsNone, NoDigit, NoField, IsField, NoNumbers, AreNumbers}
use Rattle.conflict_proof.proofs.Digits.{run_of, different}
use Rattle.conflict_proof.proofs.NumberLemmas.{same_numbers, numbers_push}
use Rattle.own_cert.specs.declared.lines.Version.TheVariants.{First, Second}
use Rattle.own_cert.specs.declared.lines.Line.{Line}
use Rattle.own_cert.specs.declared.lines.Line.TheVariants as line
use Rattle.own_cert.specs.Text.{digit, bits_text, line_text}
use Rattle.own_cert.specs.Values.{IsLine}
use Rattle.own_cert.specs.LineForms.{NoLine, IsNoDigit, NoDigits, NoBits, IsBitsText}
use Rattle.conflict_proof.proofs.LineLemmas.{three, small_three}
use Rattle.own_cert.proofs.LineLemmas.{kind, kind_of, kind_text, two, small_two, bits_end, sites_left}

kind_is : (bs : List ℕ) (l : Line) → bs ≡ line_text l → kind l ≡ kind_of bs
kind_is bs l e = sym (kind_text l) ∙ ap kind_of (sym e)

pub no_phi : (rest : List ℕ) → NoBits rest → NoLine (codes "phi" ++ rest)
no_phi rest none l is e = by_kind l (kind_is (codes "phi" ++ rest) l e) e
  where
    by_kind : (m : Line) → kind m ≡ 1 → codes "phi" ++ rest ≡ line_text m → ⊥
    by_kind (line.Phi bits) k f = none bits (ap (drop 3) f)
    by_kind m k f = absurd (omega (arith, k))

pub no_iface : (rest : List ℕ) → NoBits rest → NoLine (codes "iface" ++ rest)
no_iface rest none l is e = by_kind l (kind_is (codes "iface" ++ rest) l e) e
  where
    by_kind : (m : Line) → kind m ≡ 3 → codes "iface" ++ rest ≡ line_text m → ⊥
    by_kind (line.Iface bits) k f = none bits (ap (drop 5) f)
    by_kind m k f = absurd (omega (arith, k))

no_end_by : (rest : List ℕ) → ((n : ℕ) → n < 2 ^ 64 → rest ≡ decimal n → ⊥) → NoLine (codes "end " ++ rest)
no_end_by rest none l is e = by_kind l (kind_is (codes "end " ++ rest) l e) is e
  where
    by_kind : (m : Line) → kind m ≡ 7 → IsLine m → codes "end " ++ rest ≡ line_text m → ⊥
    by_kind (line.End n) k is f = none n is (ap (drop 4) f)
    by_kind m k is f = absurd (omega (arith, k))

run_here : (rest : List ℕ) (n : ℕ) → n < 2 ^ 64 → rest ≡ decimal n → digit_run rest ≡ decimal n
run_here rest n small e = run_of rest n [] small refl (e ∙ sym (append-nil (decimal n)))

pub no_end : (rest : List ℕ) → SpellsNone (digit_run rest) → NoLine (codes "end " ++ rest)
no_end rest none = no_end_by rest (λ n small e. none n small (run_here rest n small e))

pub more_end : (rest : List ℕ) → (length (digit_run rest) ≡ length rest → ⊥) → NoLine (codes "end " ++ rest)
more_end rest other = no_end_by rest (λ n small e. other (ap length (run_here rest n small e ∙ sym e)))

no_entry_by : (rest : List ℕ) → ((g x : ℕ) → g < 2 ^ 32 → x < 2 ^ 32 → rest ≡ numbers_text (two g x) → ⊥) → NoLine (codes "instance" ++ rest)
no_entry_by rest none l is e = by_kind l (kind_is (codes "instance" ++ rest) l e) is e
  where
    by_kind : (m : Line) → kind m ≡ 2 → IsLine m → codes "instance" ++ rest ≡ line_text m → ⊥
    by_kind (line.Instance g x) k is f = none g x is.0 is.1 (ap (drop 8) f)
    by_kind m k is f = absurd (omega (arith, k))

pub no_entry : (rest : List ℕ) → NoNumbers 2 rest → NoLine (codes "instance" ++ rest)
no_entry rest none = no_entry_by rest (λ g x hg hx e. none (two g x) [] refl (small_two g x hg hx) refl (e ∙ sym (append-nil (numbers_text (two g x)))))

pub more_entry : (bs ns rest : List ℕ) → AreNumbers bs ns rest → length ns ≡ 2 → 0 < length rest → NoLine (codes "instance" ++ bs)
more_entry bs ns rest are long some = no_entry_by bs (λ g x hg hx e. nothing g x hg hx e)
  where
    nothing : (g x : ℕ) → g < 2 ^ 32 → x < 2 ^ 32 → bs ≡ numbers_text (two g x) → ⊥
    nothing g x hg hx e =
        let s = same_numbers ns (two g x) rest [] long are.small (small_two g x hg hx) (are.ends (omega (arith, long))) refl (sym are.text ∙ e ∙ sym (append-nil (numbers_text (two g x)))) in
        let l : length rest ≡ 0 = ap length s.1 in
        omega (arith, some, l)

pub no_sites : (bs is rest : List ℕ) → bs ≡ numbers_text is ++ rest → All (λ n. n < 2 ^ 32) is → (0 < length is → NoDigit rest) → NoField rest → 0 < length rest → NoLine (codes "sites" ++ bs)
no_sites bs is rest text small ends none some l il e = by_kind l (kind_is (codes "sites" ++ bs) l e) il e
  where
    by_kind : (m : Line) → kind m ≡ 4 → IsLine m → codes "sites" ++ bs ≡ line_text m → ⊥
    by_kind (line.Sites ns) k im f =
        let nil : rest ≡ [] = sites_left is ns rest small im ends none (sym text ∙ ap (drop 5) f) in
        let l : length rest ≡ 0 = ap length nil in
        omega (arith, some, l)
    by_kind m k im f = absurd (omega (arith, k))

-- one site more
pub sites_more : (bs is rest after : List ℕ) (n : ℕ) → bs ≡ numbers_text is ++ rest → IsField rest n after → bs ≡ numbers_text (is ++ n ∷ []) ++ after
sites_more bs is rest after n e field =
    e ∙ ap (λ (w : List ℕ). numbers_text is ++ w) field.text
    ∙ sym (append_assoc (numbers_text is) (32 ∷ decimal n) after)
    ∙ ap (λ (w : List ℕ). w ++ after) (sym (numbers_push is n))

-- a place's line, where its word is not that of a run

no_place_by : (rest : List ℕ) → BeginsNot (codes "s") rest → ((p x : ℕ) (bits : List Bool) → p < 2 ^ 32 → x < 2 ^ 32 → rest ≡ numbers_text (two p x) ++ bits_text bits → ⊥) → NoLine (codes "place" ++ rest)
no_place_by rest other none (line.Place row) is e = none row.proc row.place row.bits is.proc is.place (ap (drop 5) e)
no_place_by rest other none (line.Places run) is e = other (numbers_text (three run.proc run.first run.last) ++ bits_text run.bits) (ap (drop 5) e)
no_place_by rest other none (line.Header First) is e = absurd (different 112 99 refl (ap (λ (w : List ℕ). get_or w 0 0) e))
no_place_by rest other none (line.Header Second) is e = absurd (different 112 99 refl (ap (λ (w : List ℕ). get_or w 0 0) e))
no_place_by rest other none (line.Phi bits) is e = absurd (different 108 104 refl (ap (λ (w : List ℕ). get_or w 1 0) e))
no_place_by rest other none (line.Instance g x) is e = absurd (different 112 105 refl (ap (λ (w : List ℕ). get_or w 0 0) e))
no_place_by rest other none (line.Iface bits) is e = absurd (different 112 105 refl (ap (λ (w : List ℕ). get_or w 0 0) e))
no_place_by rest other none (line.Sites ns) is e = absurd (different 112 115 refl (ap (λ (w : List ℕ). get_or w 0 0) e))
no_place_by rest other none (line.End n) is e = absurd (different 112 101 refl (ap (λ (w : List ℕ). get_or w 0 0) e))

pub no_place : (rest : List ℕ) → BeginsNot (codes "s") rest → NoNumbers 2 rest → NoLine (codes "place" ++ rest)
no_place rest other none = no_place_by rest other (λ p x bits hp hx e. none (two p x) (bits_text bits) refl (small_two p x hp hx) (bits_end bits) e)

pub no_place_bits : (bs ns rest : List ℕ) → BeginsNot (codes "s") bs → AreNumbers bs ns rest → length ns ≡ 2 → NoBits rest → NoLine (codes "place" ++ bs)
no_place_bits bs ns rest other are long none = no_place_by bs other (λ p x bits hp hx e. none bits
    (same_numbers ns (two p x) rest (bits_text bits) long are.small (small_two p x hp hx) (are.ends (omega (arith, long))) (bits_end bits) (sym are.text ∙ e)).1)

no_places_by : (rest : List ℕ) → ((p x y : ℕ) (bits : List Bool) → p < 2 ^ 32 → x ≤ y → y < 2 ^ 32 → rest ≡ numbers_text (three p x y) ++ bits_text bits → ⊥) → NoLine (codes "places" ++ rest)
no_places_by rest none l is e = by_kind l (kind_is (codes "places" ++ rest) l e) is e
  where
    by_kind : (m : Line) → kind m ≡ 6 → IsLine m → codes "places" ++ rest ≡ line_text m → ⊥
    by_kind (line.Places run) k is f = none run.proc run.first run.last run.bits is.proc is.order is.last (ap (drop 6) f)
    by_kind m k is f = absurd (omega (arith, k))

pub no_places : (rest : List ℕ) → NoNumbers 3 rest → NoLine (codes "places" ++ rest)
no_places rest none = no_places_by rest (λ p x y bits hp order hy e. none (three p x y) (bits_text bits) refl (small_three p x y hp (omega (arith, order, hy)) hy) (bits_end bits) e)

places_are : (bs ns rest : List ℕ) (p x y : ℕ) (bits : List Bool) → AreNumbers bs ns rest → length ns ≡ 3 → p < 2 ^ 32 → x ≤ y → y < 2 ^ 32 → bs ≡ numbers_text (three p x y) ++ bits_text bits
    → (ns ≡ three p x y) × (rest ≡ bits_text bits)
places_are bs ns rest p x y bits are long hp order hy e =
    same_numbers ns (three p x y) rest (bits_text bits) long are.small (small_three p x y hp (omega (arith, order, hy)) hy) (are.ends (omega (arith, long))) (bits_end bits) (sym are.text ∙ e)

pub no_places_bits : (bs ns rest : List ℕ) → AreNumbers bs ns rest → length ns ≡ 3 → NoBits rest → NoLine (codes "places" ++ bs)
no_places_bits bs ns rest are long none = no_places_by bs (λ p x y bits hp order hy e. none bits (places_are bs ns rest p x y bits are long hp order hy e).1)

pub back_places : (bs ns rest : List ℕ) → AreNumbers bs ns rest → length ns ≡ 3 → get_or ns 2 0 < get_or ns 1 0 → NoLine (codes "places" ++ bs)
back_places bs ns rest are long back = no_places_by bs (λ p x y bits hp order hy e. forward p x y bits hp order hy e)
  where
    forward : (p x y : ℕ) (bits : List Bool) → p < 2 ^ 32 → x ≤ y → y < 2 ^ 32 → bs ≡ numbers_text (three p x y) ++ bits_text bits → ⊥
    forward p x y bits hp order hy e =
        let s = places_are bs ns rest p x y bits are long hp order hy e in
        let first : get_or ns 1 0 ≡ x = ap (λ (w : List ℕ). get_or w 1 0) s.0 in
        let last : get_or ns 2 0 ≡ y = ap (λ (w : List ℕ). get_or w 2 0) s.0 in
        omega (arith, back, order, first, last)

-- no word is there
pub no_word : (bs : List ℕ) → BeginsNot (codes "places") bs → BeginsNot (codes "place") bs → BeginsNot (codes "instance") bs → BeginsNot (codes "iface") bs → BeginsNot (codes "sites") bs
    → BeginsNot (codes "phi") bs → BeginsNot (codes "end ") bs → BeginsNot (codes "clouseau certificate ") bs → NoLine bs
no_word bs a b c d e f g h (line.Places run) is same = a _ same
no_word bs a b c d e f g h (line.Place row) is same = b _ same
no_word bs a b c d e f g h (line.Instance x y) is same = c _ same
no_word bs a b c d e f g h (line.Iface bits) is same = d _ same
no_word bs a b c d e f g h (line.Sites ns) is same = e _ same
no_word bs a b c d e f g h (line.Phi bits) is same = f _ same
no_word bs a b c d e f g h (line.End n) is same = g _ same
no_word bs a b c d e f g h (line.Header First) is same = h (codes "1") same
no_word bs a b c d e f g h (line.Header Second) is same = h (codes "2") same

-- rows of bits
pub no_digits : (bs : List ℕ) (i : ℕ) → i < length bs → IsNoDigit (get_or bs i 0) → NoDigits bs
no_digits bs i low none bits e = at_index bits i (within e) (λ b f. none b (ap (λ (w : List ℕ). get_or w i 0) e ∙ f))
  where
    within : bs ≡ map digit bits → i < length (map digit bits)
    within e = let l : length bs ≡ length (map digit bits) = ap length e in omega (arith, low, l)

    at_index : (cs : List Bool) (k : ℕ) → k < length (map digit cs) → IsNoDigit (get_or (map digit cs) k 0) → ⊥
    at_index [] k low none = absurd (omega arith)
    at_index (c ∷ cs) zero low none = none c refl
    at_index (c ∷ cs) (suc k) low none = at_index cs k (omega (arith, low)) none

pub digits_more : (bs : List ℕ) (bits : List Bool) (i : ℕ) (b : Bool) → i < length bs → map digit bits ≡ take i bs → get_or bs i 0 ≡ digit b → map digit (bits ++ b ∷ []) ≡ take (i + 1) bs
digits_more bs bits i b low e f =
    push bits ∙ ap (λ (w : List ℕ). w ++ digit b ∷ []) e ∙ ap (λ n. take i bs ++ n ∷ []) (sym f) ∙ sym (take_more bs i 0 low)
  where
    push : (cs : List Bool) → map digit (cs ++ b ∷ []) ≡ map digit cs ++ digit b ∷ []
    push [] = refl
    push (c ∷ cs) = ap (λ (w : List ℕ). digit c ∷ w) (push cs)

-- bits after their space
pub no_space : (bs rest : List ℕ) (b : ℕ) → bs ≡ b ∷ rest → (b ≡ 32 → ⊥) → NoBits bs
no_space bs rest b e not [] f = let g : b ∷ rest ≡ [] = sym e ∙ f in cc
no_space bs rest b e not (c ∷ cs) f = not (ap (λ (w : List ℕ). get_or w 0 0) (sym e ∙ f))

pub no_row : (bs rest : List ℕ) → bs ≡ 32 ∷ rest → NoDigits rest → 0 < length rest → NoBits bs
no_row bs rest e none some [] f = let g : 32 ∷ rest ≡ [] = sym e ∙ f in cc
no_row bs rest e none some (c ∷ cs) f = none (c ∷ cs) (ap (drop 1) (sym e ∙ f))

pub empty_row : (bs rest : List ℕ) → bs ≡ 32 ∷ rest → length rest ≡ 0 → NoBits bs
empty_row bs rest e none [] f = let g : 32 ∷ rest ≡ [] = sym e ∙ f in cc
empty_row bs rest e none (c ∷ cs) f =
    let g : rest ≡ map digit (c ∷ cs) = ap (drop 1) (sym e ∙ f) in
    let l : length rest ≡ suc (length (map digit cs)) = ap length g in
    omega (arith, none, l)

pub row_of : (bs rest : List ℕ) (bits : List Bool) → bs ≡ 32 ∷ rest → rest ≡ map digit bits → 0 < length rest → bs ≡ bits_text bits
row_of bs rest [] e f some = let l : length rest ≡ 0 = ap length f in absurd (omega (arith, some, l))
row_of bs rest (c ∷ cs) e f some = e ∙ ap (λ (w : List ℕ). 32 ∷ w) f

pub bits_by : {E : Type 0} (bs rest : List ℕ) (r : Result (Option (List Bool)) E) → bs ≡ 32 ∷ rest → 0 < length rest → IfOk r (λ o. MatchOption o (NoDigits rest) (λ bits. rest ≡ map digit bits))
    → IfOk r (λ o. MatchOption o (NoBits bs) (IsBitsText bs))
bits_by bs rest (Ok None) e some h = no_row bs rest e h some
bits_by bs rest (Ok (Some bits)) e some h = row_of bs rest bits e h some
bits_by bs rest (Err x) e some h = tt
