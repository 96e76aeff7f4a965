-- Lists of bits that are made of parts.
use Rattle.std.proofs.Common.{subst, ◌≡◌, ℕ, zero, suc, ◌+◌, ◌<◌, ◌≤◌, Bool, true, false, cond, List, [], ◌∷◌, ◌++◌, Some, refl, sym, ap, ◌∙◌, arith, length, get_or, take, drop, map, slice_get, append_assoc, length-append}
use Rattle.std.proofs.Math.Seq.{get_or-append_seam}
use Rattle.std.proofs.lemmas.Bool.{eqb-true, eq-eqb}
use Rattle.std.proofs.lemmas.List.{take-append-drop, length-take-le, length-drop}
use Rattle.std.specs.Prelude.{nat_eq}
use Rattle.std.specs.Prelude.{sum_by}
use Rattle.std.proofs.lemmas.List.Sums.{sum_by-cons}
use Rattle.std.specs.List.{range_with_len}
use Rattle.verdict_meaning.specs.declared.callee.Callee.{Callee}
use Rattle.verdict_meaning.specs.Systems.{System, root, members, first, firsts, callee, callees, nobody, parts_before, pi_numbers}
use Rattle.verdict_meaning.specs.Certificates.{bit_at, part_of}

pub length-numbers : (n k : ℕ) → length (range_with_len n k) ≡ k
length-numbers n zero = refl
length-numbers n (suc k) = ap suc (length-numbers (n + 1) k)

pub length-by : (a : ℕ → Bool) (ns : List ℕ) → length (map a ns) ≡ length ns
length-by a [] = refl
length-by a (n ∷ ns) = ap suc (length-by a ns)

-- the bits after some others
pub bits_between : (xs ys zs : List Bool) (k : ℕ) → k ≡ suc (length xs) → map (bit_at (xs ++ (ys ++ zs))) (range_with_len k (length ys)) ≡ ys
bits_between xs [] zs k e = refl
bits_between xs (y ∷ ys) zs k e =
    let bs : List Bool = xs ++ (y ∷ (ys ++ zs)) in
    let longer : k + 1 ≡ suc (length (xs ++ y ∷ [])) = omega (arith, length-append xs (y ∷ [])) in
    ap (λ x. x ∷ map (bit_at bs) (range_with_len (k + 1) (length ys))) (ap (bit_at bs) e ∙ get_or-append_seam xs y (ys ++ zs) false)
    ∙ ap (λ l. y ∷ l) (ap (λ b. map (bit_at b) (range_with_len (k + 1) (length ys))) (sym (append_assoc xs (y ∷ []) (ys ++ zs))) ∙ bits_between (xs ++ y ∷ []) ys zs (k + 1) longer)

-- the same, where the parts go by other names
pub bits_at : (bs xs ys zs : List Bool) (k n : ℕ) → bs ≡ xs ++ (ys ++ zs) → k ≡ suc (length xs) → n ≡ length ys → map (bit_at bs) (range_with_len k n) ≡ ys
bits_at bs xs ys zs k n e f h =
    ap (λ b. map (bit_at b) (range_with_len k n)) e ∙ ap (λ m. map (bit_at (xs ++ (ys ++ zs))) (range_with_len k m)) h ∙ bits_between xs ys zs k f

no_test : (b : Bool) → b ≡ true → b ≡ false → ⊥
no_test true e f = cc
no_test false e f = cc

cond_le : (b : Bool) (y n z : ℕ) → (b ≡ true → n ≤ z) → (b ≡ false → y + n ≤ z) → cond b 0 y + n ≤ z
cond_le true y n z f g = let h = f refl in omega arith
cond_le false y n z f g = g refl

-- the part of a member is within the interfaces of all members
pub part_within : (s : System) (k : ℕ) (ms : List ℕ) (i : ℕ) → i < length ms → get_or ms i k ≡ k → parts_before s k ms + s.parts k ≤ sum_by s.parts ms
part_within s k [] i lt e = absurd (omega arith)
part_within s k (m ∷ ms) zero lt e =
    subst (λ n. parts_before s k (m ∷ ms) + s.parts k ≤ n) (sym (sum_by-cons s.parts m ms))
    (cond_le (nat_eq m k) (s.parts m + parts_before s k ms) (s.parts k) (s.parts m + sum_by s.parts ms)
    (λ t. let h : s.parts m ≡ s.parts k = ap s.parts e in omega arith)
    (λ t. absurd (no_test (nat_eq m k) (eq-eqb m k e) t)))
part_within s k (m ∷ ms) (suc i) lt e =
    subst (λ n. parts_before s k (m ∷ ms) + s.parts k ≤ n) (sym (sum_by-cons s.parts m ms))
    (cond_le (nat_eq m k) (s.parts m + parts_before s k ms) (s.parts k) (s.parts m + sum_by s.parts ms)
    (λ t. let h : s.parts m ≡ s.parts k = ap s.parts (eqb-true m k t) in omega arith)
    (λ t. let h : parts_before s k ms + s.parts k ≤ sum_by s.parts ms = part_within s k ms i (omega arith) e in omega arith))

pub part_length : (s : System) (g : ℕ) (iface : List Bool) (k : ℕ) → parts_before s k (members s g) + s.parts k ≤ length iface → length (part_of s g iface k) ≡ s.parts k
part_length s g iface k le =
    length-take-le (s.parts k) (drop (parts_before s k (members s g)) iface) (let h = length-drop (parts_before s k (members s g)) iface in omega arith)

-- by the bits, a member's interface is its part
pub pi_is_part : (s : System) (g : ℕ) (iface phi zs : List Bool) (k : ℕ) → length phi ≡ s.fields → parts_before s k (members s g) + s.parts k ≤ length iface
    → map (bit_at (phi ++ (iface ++ zs))) (pi_numbers s g k) ≡ part_of s g iface k
pi_is_part s g iface phi zs k e le =
    let o : ℕ = parts_before s k (members s g) in
    let p : List Bool = take o iface in
    let q : List Bool = part_of s g iface k in
    let r : List Bool = drop (s.parts k) (drop o iface) in
    let split : iface ≡ p ++ (q ++ r) = sym (ap (λ l. p ++ l) (take-append-drop (s.parts k) (drop o iface)) ∙ take-append-drop o iface) in
    let before : length p ≡ o = length-take-le o iface (omega arith) in
    bits_at (phi ++ (iface ++ zs)) (phi ++ p) q (r ++ zs) (suc (s.fields + o)) (s.parts k)
    (ap (λ l. phi ++ (l ++ zs)) split ∙ ap (λ l. phi ++ l) (append_assoc p (q ++ r) zs ∙ ap (λ l. p ++ l) (append_assoc q r zs)) ∙ sym (append_assoc phi p (q ++ (r ++ zs))))
    (let h = length-append phi p in omega arith)
    (sym (part_length s g iface k le))

pub get_at : {X : Type 0} (xs : List X) (k : ℕ) → k < length xs → (x : X) × (slice_get xs k ≡ Some x)
get_at [] k lt = absurd (omega arith)
get_at (x ∷ xs) zero lt = (x, refl)
get_at (x ∷ xs) (suc k) lt = get_at xs k (omega arith)

pub get_within : {X : Type 0} (xs : List X) (k : ℕ) (x : X) → slice_get xs k ≡ Some x → k < length xs
get_within [] k x e = cc
get_within (y ∷ xs) zero x e = omega arith
get_within (y ∷ xs) (suc k) x e = let h = get_within xs k x e in omega arith

-- the root's callees

at_root : (s : System) → callees s (root s) ≡ firsts 0 s.groups
at_root s = pick (nat_eq (root s) (root s)) (eq-eqb (root s) (root s) refl)
  where
    pick : (b : Bool) → b ≡ true → cond b (firsts 0 s.groups) (s.sites (root s)) ≡ firsts 0 s.groups
    pick true e = refl
    pick false e = cc

length-firsts : (g : ℕ) (gs : List (List ℕ)) → length (firsts g gs) ≡ length gs
length-firsts g [] = refl
length-firsts g (ms ∷ gs) = ap suc (length-firsts (suc g) gs)

get-firsts : (g : ℕ) (gs : List (List ℕ)) (k n : ℕ) → k < length gs → n ≡ g + k → get_or (firsts g gs) k nobody ≡ record { proc = get_or (get_or gs k []) 0 0; group = n }
get-firsts g [] k n lt e = absurd (omega arith)
get-firsts g (ms ∷ gs) zero n lt e = let h : g ≡ n = omega arith in ap (λ m. let c : Callee = record { proc = get_or ms 0 0; group = m } in c) h
get-firsts g (ms ∷ gs) (suc k) n lt e = get-firsts (suc g) gs k n (omega arith) (omega arith)

pub root_many : (s : System) → length (callees s (root s)) ≡ root s
root_many s = ap length (at_root s) ∙ length-firsts 0 s.groups

pub root_callee : (s : System) (k : ℕ) → k < root s → callee s (root s) k ≡ record { proc = first s k; group = k }
root_callee s k lt = ap (λ l. get_or l k nobody) (at_root s) ∙ get-firsts 0 s.groups k k lt (omega arith)
