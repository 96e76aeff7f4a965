-- A sample's text is short.
use Rattle.std.proofs.Common.{◌≡◌, ℕ, zero, suc, ◌+◌, ◌-◌, ◌*◌, ◌<◌, ◌≤◌, ◌^◌, List, [], ◌++◌, length, codes, refl, arith, length-append, lit<, lit≤, sub-one, ap, ◌∙◌}
use Rattle.std.specs.Prelude.{decimal}
use Rattle.std.proofs.lemmas.Fmt.{length-decimal-le}
use Rattle.command_words.specs.Sample.{struct_line, leaf_line, caller_line, caller_lines, main_line, sample_text}

three : (a b c : List ℕ) → length (a ++ b ++ c) ≡ length a + length b + length c
three a b c = rw (length-append (a ++ b) c, length-append a b) refl

four : (a b c d : List ℕ) → length (a ++ b ++ c ++ d) ≡ length a + length b + length c + length d
four a b c d = rw (length-append (a ++ b ++ c) d, three a b c) refl

seven : (a b c d e f g : List ℕ) → length (a ++ b ++ c ++ d ++ e ++ f ++ g) ≡ length a + length b + length c + length d + length e + length f + length g
seven a b c d e f g = rw (length-append (a ++ b ++ c ++ d ++ e ++ f) g, length-append (a ++ b ++ c ++ d ++ e) f, length-append (a ++ b ++ c ++ d) e, four a b c d) refl

few_digits : (n : ℕ) → n ≤ 4000 → length (decimal n) ≤ 4
few_digits n h = length-decimal-le 4 n (lit< tt) (omega (arith, h)) (omega (arith, h))

caller_small : (j : ℕ) → j < 4000 → length (caller_line j) ≤ 100
caller_small j h =
    let a = codes "struct node *f" in
    let b = codes "(struct node *p) { struct node *q; q = f" in
    let c = codes "(p); return f" in
    let d = codes "(q); }\n" in
    let whole : length (caller_line j) ≡ length a + length (decimal (j + 1)) + length b + length (decimal j) + length c + length (decimal j) + length d =
    seven a (decimal (j + 1)) b (decimal j) c (decimal j) d in
    let n = few_digits j (omega (arith, h)) in
    let m = few_digits (j + 1) (omega (arith, h)) in
    let la : length a ≡ 14 = refl in
    let lb : length b ≡ 40 = refl in
    let lc : length c ≡ 13 = refl in
    let ld : length d ≡ 7 = refl in
    omega (arith, whole, n, m, la, lb, lc, ld)

callers_small : (k : ℕ) → k ≤ 4000 → length (caller_lines k) ≤ 100 * k
callers_small zero h = lit≤ tt
callers_small (suc j) h =
    let before = callers_small j (omega (arith, h)) in
    let one = caller_small j (omega (arith, h)) in
    rw (length-append (caller_lines j) (caller_line j)) (omega (arith, before, one))

main_small : (m : ℕ) → m ≤ 4000 → length (main_line m) ≤ 200
main_small m h =
    let a = codes "int main(void) { struct node *a; struct node *b; a = malloc(sizeof(struct node)); b = f" in
    let b = codes "(a); free(b); return 0; }\n" in
    let whole : length (main_line m) ≡ length a + length (decimal m) + length b = three a (decimal m) b in
    let n = few_digits m h in
    let la : length a ≡ 87 = refl in
    let lb : length b ≡ 26 = refl in
    omega (arith, whole, n, la, lb)

pub sample_small : (n : ℕ) → n ≤ 4000 → length (sample_text n) ≤ 4194304
sample_small n h =
    let k : n - 1 ≤ 4000 = omega (arith, h) in
    let whole : length (sample_text n) ≡ length struct_line + length leaf_line + length (caller_lines (n - 1)) + length (main_line (n - 1)) =
    four struct_line leaf_line (caller_lines (n - 1)) (main_line (n - 1)) in
    let ls : length struct_line ≡ 43 = refl in
    let ll : length leaf_line ≡ 46 = refl in
    let lines = callers_small (n - 1) k in
    let last = main_small (n - 1) k in
    omega (arith, whole, ls, ll, lines, last, k)
