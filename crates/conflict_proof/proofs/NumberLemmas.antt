-- Lists of numbers as text.
use Rattle.std.proofs.Common.{◌≡◌, ℕ, suc, ◌+◌, ◌<◌, ◌^◌, List, [], ◌∷◌, ◌++◌, length, take, drop, set, refl, sym, ap, ◌∙◌, decimal, get_or, append_assoc, arith}
use Rattle.std.proofs.lemmas.List.{append-nil, drop_more, take_more_set}
use Rattle.std.proofs.lemmas.List.Elements.{All-push}
use Rattle.std.specs.List.{All}
use Rattle.conflict_proof.specs.Text.{numbers_text}
use Rattle.conflict_proof.specs.Fronts.{NoDigit, NoField, IsField, NoNumbers}
use Rattle.conflict_proof.proofs.Digits.{same_number}

pub numbers_push : (ns : List ℕ) (n : ℕ) → numbers_text (ns ++ n ∷ []) ≡ numbers_text ns ++ (32 ∷ decimal n)
numbers_push [] n = append-nil (32 ∷ decimal n)
numbers_push (m ∷ ns) n = ap (λ (w : List ℕ). (32 ∷ decimal m) ++ w) (numbers_push ns n) ∙ sym (append_assoc (32 ∷ decimal m) (numbers_text ns) (32 ∷ decimal n))

pub numbers_end : (ns more : List ℕ) → NoDigit more → NoDigit (numbers_text ns ++ more)
numbers_end [] more none = none
numbers_end (n ∷ ns) more none = refl

pub same_numbers : (ms ns q r : List ℕ) → length ms ≡ length ns → All (λ n. n < 2 ^ 32) ms → All (λ n. n < 2 ^ 32) ns → NoDigit q → NoDigit r
    → numbers_text ms ++ q ≡ numbers_text ns ++ r → (ms ≡ ns) × (q ≡ r)
same_numbers [] [] q r long sm sn nq nr e = (refl, e)
same_numbers [] (n ∷ ns) q r long sm sn nq nr e = absurd (omega arith)
same_numbers (m ∷ ms) [] q r long sm sn nq nr e = absurd (omega arith)
same_numbers (m ∷ ms) (n ∷ ns) q r long sm sn nq nr e =
    let lm : m < 2 ^ 32 = sm 0 m (omega arith) in
    let ln : n < 2 ^ 32 = sn 0 n (omega arith) in
    let f : decimal m ++ (numbers_text ms ++ q) ≡ decimal n ++ (numbers_text ns ++ r) =
    sym (append_assoc (decimal m) (numbers_text ms) q) ∙ ap (drop 1) e ∙ append_assoc (decimal n) (numbers_text ns) r in
    let s = same_number m n (numbers_text ms ++ q) (numbers_text ns ++ r) (omega arith) (omega arith) (numbers_end ms q nq) (numbers_end ns r nr) f in
    let t = same_numbers ms ns q r (omega arith) (λ j d i. sm (suc j) d (omega arith)) (λ j d i. sn (suc j) d (omega arith)) nq nr s.1 in
    (ap (λ w. w ∷ ms) s.0 ∙ ap (λ (w : List ℕ). n ∷ w) t.0, t.1)

-- what is left to read of k numbers, where i have been read
abbrev pub LeavesNumbers : ℕ → ℕ → List ℕ → List ℕ → Type 0
LeavesNumbers k i bs rest = (ns more : List ℕ) → length ns ≡ k → All (λ n. n < 2 ^ 32) ns → NoDigit more → bs ≡ numbers_text ns ++ more → rest ≡ numbers_text (drop i ns) ++ more

next_text : (k i : ℕ) (bs rest ns more : List ℕ) → i < k → LeavesNumbers k i bs rest → length ns ≡ k → All (λ n. n < 2 ^ 32) ns → NoDigit more → bs ≡ numbers_text ns ++ more
    → rest ≡ 32 ∷ decimal (get_or ns i 0) ++ (numbers_text (drop (i + 1) ns) ++ more)
next_text k i bs rest ns more low leaves long small none e =
    leaves ns more long small none e
    ∙ ap (λ (w : List ℕ). numbers_text w ++ more) (drop_more ns i 0 (omega arith))
    ∙ ap (λ (w : List ℕ). 32 ∷ w) (append_assoc (decimal (get_or ns i 0)) (numbers_text (drop (i + 1) ns)) more)

pub leaves_more : (k i n : ℕ) (bs rest after : List ℕ) → i < k → LeavesNumbers k i bs rest → IsField rest n after → LeavesNumbers k (i + 1) bs after
leaves_more k i n bs rest after low leaves field ns more long small none e =
    let m = get_or ns i 0 in
    let tail = numbers_text (drop (i + 1) ns) ++ more in
    let is_small : m < 2 ^ 32 = small i 0 (omega arith) in
    let f : decimal n ++ after ≡ decimal m ++ tail = ap (drop 1) (sym field.text ∙ next_text k i bs rest ns more low leaves long small none e) in
    (same_number n m after tail (omega (arith, field.small)) (omega arith) field.ends (numbers_end (drop (i + 1) ns) more none) f).1

pub no_more_numbers : (k i : ℕ) (bs rest : List ℕ) → i < k → LeavesNumbers k i bs rest → NoField rest → NoNumbers k bs
no_more_numbers k i bs rest low leaves no_field ns more long small none e =
    no_field (get_or ns i 0) (numbers_text (drop (i + 1) ns) ++ more) (small i 0 (omega arith)) (numbers_end (drop (i + 1) ns) more none)
    (next_text k i bs rest ns more low leaves long small none e)

-- one number more
pub filled_text : (ns bs rest after : List ℕ) (i n : ℕ) → i < length ns → bs ≡ numbers_text (take i ns) ++ rest → IsField rest n after → bs ≡ numbers_text (take (i + 1) (set ns i n)) ++ after
filled_text ns bs rest after i n low e field =
    e ∙ ap (λ (w : List ℕ). numbers_text (take i ns) ++ w) field.text
    ∙ sym (append_assoc (numbers_text (take i ns)) (32 ∷ decimal n) after)
    ∙ ap (λ (w : List ℕ). w ++ after) (sym (numbers_push (take i ns) n))
    ∙ ap (λ (w : List ℕ). numbers_text w ++ after) (sym (take_more_set ns i n low))

pub filled_small : (ns : List ℕ) (i n : ℕ) → i < length ns → All (λ m. m < 2 ^ 32) (take i ns) → n < 2 ^ 32 → All (λ m. m < 2 ^ 32) (take (i + 1) (set ns i n))
filled_small ns i n low small one = rw (take_more_set ns i n low) (All-push (λ m. m < 2 ^ 32) (take i ns) n small one)
