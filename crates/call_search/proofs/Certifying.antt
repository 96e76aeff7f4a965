-- The parts of a certificate that a table makes.
use Rattle.std.proofs.Common.{◌≡◌, ℕ, zero, suc, ◌+◌, ◌*◌, ◌-◌, ◌<◌, ◌≤◌, ⊎_elim, Bool, List, [], ◌∷◌, ◌++◌, Some, refl, sym, ap, ◌∙◌, subst, arith, length, get_or, take, drop, map, slice_get, length-append, append_assoc}
use Rattle.std.specs.Prelude.{sum_by, Result, Ok, Err, IfOk}
use Rattle.std.specs.List.{All, flat_map, range_with_len}
use Rattle.std.proofs.lemmas.List.{length-take-le, length-drop, map-append}
use Rattle.std.proofs.lemmas.List.Sums.{sum_by-cons, sum_by_more, sum_by-take-le}
use Rattle.conflict_proof.specs.declared.names.ConstraintName.{ConstraintName}
use Rattle.conflict_proof.specs.declared.derivation.Line.{Line}
use Rattle.own_cert.specs.declared.certificate.PlaceBits.{PlaceBits}
use Rattle.own_cert.specs.declared.certificate.Instance.{Instance}
use Rattle.verdict_meaning.specs.declared.callee.Callee.{Callee}
use Rattle.verdict_meaning.specs.Systems.{System, root, members, callee, callees, callee_parts, place_count, count}
use Rattle.verdict_meaning.specs.Solutions.{sigma_by}
use Rattle.verdict_meaning.specs.Certificates.{bit_at, bits_at_places, AreRows, Spot, spots_of, spot_of}
use Rattle.call_search.specs.declared.entries.Entry.{Entry}
use Rattle.call_search.specs.Answers.{HasSolution}
use Rattle.call_search.specs.Entries.{in_group, IsAnswerAt, IsSized}
use Rattle.call_search.specs.Made.{all_of, before_group, AreBases, IsNumberOf, AreSiteNumbers, row_at, rows_of, rows_from, AreMadeOf, IsMadeOf, IsMade, IsComplete}
use Rattle.call_search.proofs.Lists.{push_cases, append_none, get_within}
use Rattle.call_search.proofs.Faces.{phi_values}
use Rattle.call_search.proofs.Made.{at_index, drop_more, take_two}

-- numbers of instances

pub before_next : (t : List (List Entry)) (g : ℕ) → g < length t → before_group t (g + 1) ≡ before_group t g + length (in_group t g)
before_next t g lt = let s : g + 1 ≡ suc g = omega arith in ap (before_group t) s ∙ next t g lt
  where
    next : (t : List (List Entry)) (g : ℕ) → g < length t → before_group t (suc g) ≡ before_group t g + length (in_group t g)
    next [] g lt = absurd (omega arith)
    next (es ∷ t) zero lt = ap length (append_none es) ∙ (let z : length es ≡ 0 + length es = omega arith in z)
    next (es ∷ t) (suc g) lt =
        let a = length-append es (all_of (take (suc g) t)) in let b = length-append es (all_of (take g t)) in let h = next t g (omega arith) in omega arith

pub bases_none : (t : List (List Entry)) → AreBases t [] 0
bases_none t = record { count = refl; each = λ g m at. cc }

pub bases_next : (t : List (List Entry)) (ns ms : List ℕ) (i m : ℕ) → AreBases t ns i → m ≡ before_group t i → ms ≡ ns ++ m ∷ [] → AreBases t ms (i + 1)
bases_next t ns ms i m b e is = record {
  count = ap length is ∙ length-append ns (m ∷ []) ∙ ap (λ k. k + 1) b.count;
  each = λ g x at. ⊎_elim
      (λ (h : slice_get ns g ≡ Some x). b.each g x h)
      (λ (h : (g ≡ length ns) × (m ≡ x)). sym h.1 ∙ e ∙ ap (before_group t) (sym (h.0 ∙ b.count)))
      (push_cases ns m x g (ap (λ (xs : List ℕ). slice_get xs g) (sym is) ∙ at));
}

pub any_default : {X : Type 0} (xs : List X) (k : ℕ) (d e : X) → k < length xs → get_or xs k d ≡ get_or xs k e
any_default [] k d e lt = absurd (omega arith)
any_default (x ∷ xs) zero d e lt = refl
any_default (x ∷ xs) (suc k) d e lt = any_default xs k d e (omega arith)

pub read_member : (xs ys : List ℕ) (i : ℕ) → xs ≡ ys → i < length ys → get_or xs i 0 ≡ get_or ys i (get_or xs i 0)
read_member xs ys i e lt = ap (λ l. get_or l i 0) e ∙ any_default ys i 0 (get_or xs i 0) lt

pub read_some : {X : Type 0} (xs : List X) (k : ℕ) (x : X) → k < length xs → x ≡ get_or xs k x → slice_get xs k ≡ Some x
read_some [] k x lt e = absurd (omega arith)
read_some (y ∷ xs) zero x lt e = ap (λ z. Some z) (sym e)
read_some (y ∷ xs) (suc k) x lt e = read_some xs k x (omega arith) e

pub numbered_at : (s : System) (t : List (List Entry)) (bs : List ℕ) (c : Callee) (face : List Bool) (es : List Entry) (at b m : ℕ) → AreBases t bs (length t) → c.group < length t → b ≡ get_or bs c.group b → es ≡ in_group t c.group → IsAnswerAt s es c face at → m ≡ b + at
    → IsNumberOf s t c face m
numbered_at s t bs c face es at b m bases lt be is a e =
    let base : b ≡ before_group t c.group = bases.each c.group b (read_some bs c.group b (let h = bases.count in omega arith) be) in
    record {
      entry = a.entry;
      there = ap (λ k. slice_get (all_of t) k) (e ∙ ap (λ k. k + at) base) ∙ at_index t c.group at a.entry (ap (λ (xs : List Entry). slice_get xs at) (sym is) ∙ a.there);
      answers = a.answers;
    }

pub sites_none : (s : System) (t : List (List Entry)) (g : ℕ) (bits : List Bool) → AreSiteNumbers s t g bits [] 0
sites_none s t g bits = record { count = refl; each = λ site m at. cc }

pub sites_next : (s : System) (t : List (List Entry)) (g : ℕ) (bits face : List Bool) (ns ms : List ℕ) (i m : ℕ) (c : Callee) → AreSiteNumbers s t g bits ns i → c ≡ callee s g i → face ≡ sigma_by s g (bit_at bits) i → IsNumberOf s t c face m → ms ≡ ns ++ m ∷ []
    → AreSiteNumbers s t g bits ms (i + 1)
sites_next s t g bits face ns ms i m c b ce fe h is = record {
  count = ap length is ∙ length-append ns (m ∷ []) ∙ ap (λ k. k + 1) b.count;
  each = λ site x at. ⊎_elim
      (λ (o : slice_get ns site ≡ Some x). b.each site x o)
      (λ (o : (site ≡ length ns) × (m ≡ x)).
      subst (λ k. IsNumberOf s t (callee s g k) (sigma_by s g (bit_at bits) k) x) (sym (o.0 ∙ b.count))
      (subst (λ k. IsNumberOf s t (callee s g i) (sigma_by s g (bit_at bits) i) k) o.1
      (subst (λ (k : Callee). IsNumberOf s t k (sigma_by s g (bit_at bits) i) m) ce (subst (λ (f : List Bool). IsNumberOf s t c f m) fe h))))
      (push_cases ns m x site (ap (λ (xs : List ℕ). slice_get xs site) (sym is) ∙ at));
}

-- rows

pub range_more : (n k : ℕ) → range_with_len n (k + 1) ≡ range_with_len n k ++ (n + k) ∷ []
range_more n k = let s : k + 1 ≡ suc k = omega arith in ap (range_with_len n) s ∙ next n k
  where
    next : (n k : ℕ) → range_with_len n (suc k) ≡ range_with_len n k ++ (n + k) ∷ []
    next n zero = ap (λ m. m ∷ []) (omega arith)
    next n (suc k) = ap (λ l. n ∷ l) (next (n + 1) k ∙ ap (λ m. range_with_len (n + 1) k ++ m ∷ []) (omega arith))

pub rows_next : (bits : List Bool) (from width proc place first : ℕ) (old out new : List PlaceBits) (xs : List Bool) → out ≡ old ++ map (row_at bits from width proc) (range_with_len 0 place) → first ≡ from + place * width
    → xs ≡ take (first + width - first) (drop first bits) → new ≡ out ++ record { proc = proc; place = place; bits = xs } ∷ [] → new ≡ old ++ map (row_at bits from width proc) (range_with_len 0 (place + 1))
rows_next bits from width proc place first old out new xs o f r n =
    let row : PlaceBits = record { proc = proc; place = place; bits = xs } in
    let w : first + width - first ≡ width = omega arith in
    let z : 0 + place ≡ place = omega arith in
    n ∙ ap (λ l. l ++ row ∷ []) o ∙ append_assoc old (map (row_at bits from width proc) (range_with_len 0 place)) (row ∷ [])
    ∙ ap (λ (x : PlaceBits). old ++ (map (row_at bits from width proc) (range_with_len 0 place) ++ x ∷ [])) (ap (λ (ys : List Bool). let p : PlaceBits = record { proc = proc; place = place; bits = ys } in p) r ∙ ap (λ k. let p : PlaceBits = record { proc = proc; place = place; bits = take k (drop first bits) } in p) w ∙ ap (λ k. let p : PlaceBits = record { proc = proc; place = place; bits = take width (drop k bits) } in p) f)
    ∙ ap (λ k. old ++ (map (row_at bits from width proc) (range_with_len 0 place) ++ row_at bits from width proc k ∷ [])) (sym z)
    ∙ ap (λ l. old ++ l) (sym (map-append (row_at bits from width proc) (range_with_len 0 place) ((0 + place) ∷ [])) ∙ ap (map (row_at bits from width proc)) (sym (range_more 0 place)))

rows-push : (s : System) (bits : List Bool) (from : ℕ) (ks : List ℕ) (k : ℕ) → rows_from s bits from (ks ++ k ∷ []) ≡ rows_from s bits from ks ++ rows_of s bits (from + sum_by (place_count s) ks) k
rows-push s bits from [] k = append_none (rows_of s bits from k) ∙ ap (λ n. rows_of s bits n k) (omega arith)
rows-push s bits from (j ∷ ks) k =
    ap (λ l. rows_of s bits from j ++ l) (rows-push s bits (from + place_count s j) ks k ∙ ap (λ n. rows_from s bits (from + place_count s j) ks ++ rows_of s bits n k) (let h = sum_by-cons (place_count s) j ks in omega arith))
    ∙ sym (append_assoc (rows_of s bits from j) (rows_from s bits (from + place_count s j) ks) (rows_of s bits (from + sum_by (place_count s) (j ∷ ks)) k))

pub take_next : {X : Type 0} (ks : List X) (i : ℕ) (k : X) → i < length ks → k ≡ get_or ks i k → take (i + 1) ks ≡ take i ks ++ k ∷ []
take_next ks i k lt e = let s : i + 1 ≡ suc i = omega arith in ap (λ n. take n ks) s ∙ next ks i k lt e
  where
    next : {X : Type 0} (ks : List X) (i : ℕ) (k : X) → i < length ks → k ≡ get_or ks i k → take (suc i) ks ≡ take i ks ++ k ∷ []
    next [] i k lt e = absurd (omega arith)
    next (x ∷ ks) zero k lt e = ap (λ y. y ∷ []) (sym e)
    next (x ∷ ks) (suc i) k lt e = ap (λ l. x ∷ l) (next ks i k (omega arith) e)

pub member_rows : (s : System) (bits : List Bool) (from first i k p w : ℕ) (ms : List ℕ) (out new : List PlaceBits) → i < length ms → k ≡ get_or ms i k → out ≡ rows_from s bits from (take i ms) → first ≡ from + sum_by (place_count s) (take i ms) → p ≡ s.places k → w ≡ s.width k
    → new ≡ out ++ map (row_at bits first w k) (range_with_len 0 p) → new ≡ rows_from s bits from (take (i + 1) ms)
member_rows s bits from first i k p w ms out new lt ke o f pe we n =
    n ∙ ap (λ l. l ++ map (row_at bits first w k) (range_with_len 0 p)) o
    ∙ ap (λ x. rows_from s bits from (take i ms) ++ map (row_at bits first w k) (range_with_len 0 x)) pe
    ∙ ap (λ x. rows_from s bits from (take i ms) ++ map (row_at bits first x k) (range_with_len 0 (s.places k))) we
    ∙ ap (λ x. rows_from s bits from (take i ms) ++ rows_of s bits x k) f
    ∙ sym (rows-push s bits from (take i ms) k) ∙ ap (rows_from s bits from) (sym (take_next ms i k lt ke))

pub first_next : (s : System) (from first i k p w n : ℕ) (ms : List ℕ) → i < length ms → k ≡ get_or ms i k → first ≡ from + sum_by (place_count s) (take i ms) → p ≡ s.places k → w ≡ s.width k → n ≡ first + p * w → n ≡ from + sum_by (place_count s) (take (i + 1) ms)
first_next s from first i k p w n ms lt ke f pe we ne =
    let m = sum_by_more (place_count s) ms i k lt in
    let c : place_count s (get_or ms i k) ≡ p * w = ap (place_count s) (sym ke) ∙ ap (λ x. x * s.width k) (sym pe) ∙ ap (λ x. p * x) (sym we) in
    omega arith

pub rows_fit : (s : System) (g from first i k p w : ℕ) (bits : List Bool) → i < length (members s g) → k ≡ get_or (members s g) i k → length bits ≡ count s g → from ≡ s.fields + sum_by s.parts (members s g) + sum_by (callee_parts s) (callees s g) → first ≡ from + sum_by (place_count s) (take i (members s g)) → p ≡ s.places k → w ≡ s.width k
    → first + p * w ≤ length bits
rows_fit s g from first i k p w bits lt ke size fe f pe we =
    let n : first + p * w ≡ from + sum_by (place_count s) (take (i + 1) (members s g)) = first_next s from first i k p w (first + p * w) (members s g) lt ke f pe we refl in
    let le = sum_by-take-le (place_count s) (members s g) (i + 1) in
    omega arith

-- what rows say

spots_at : (bits : List Bool) (from w k : ℕ) (qs : List ℕ) → map spot_of (map (row_at bits from w k) qs) ≡ map (λ q. let p : Spot = record { proc = k; place = q } in p) qs
spots_at bits from w k [] = refl
spots_at bits from w k (q ∷ qs) = ap (λ l. (let p : Spot = record { proc = k; place = q } in p) ∷ l) (spots_at bits from w k qs)

rows_spots : (s : System) (bits : List Bool) (from : ℕ) (ks : List ℕ) → map spot_of (rows_from s bits from ks) ≡ flat_map (spots_of s) ks
rows_spots s bits from [] = refl
rows_spots s bits from (k ∷ ks) =
    map-append spot_of (rows_of s bits from k) (rows_from s bits (from + place_count s k) ks)
    ∙ ap (λ l. l ++ map spot_of (rows_from s bits (from + place_count s k) ks)) (spots_at bits from (s.width k) k (range_with_len 0 (s.places k)))
    ∙ ap (λ l. spots_of s k ++ l) (rows_spots s bits (from + place_count s k) ks)

bits_of_rows : (bits : List Bool) (from w k q n : ℕ) → bits_at_places (map (row_at bits from w k) (range_with_len q n)) ≡ take (n * w) (drop (from + q * w) bits)
bits_of_rows bits from w k q zero = let e : 0 ≡ zero * w = omega arith in ap (λ m. take m (drop (from + q * w) bits)) e
bits_of_rows bits from w k q (suc n) =
    let e : from + (q + 1) * w ≡ from + q * w + w = omega arith in
    ap (λ l. take w (drop (from + q * w) bits) ++ l)
    (bits_of_rows bits from w k (q + 1) n ∙ ap (λ m. take (n * w) (drop m bits)) e ∙ ap (take (n * w)) (sym (drop_more bits (from + q * w) w)))
    ∙ sym (take_two (drop (from + q * w) bits) w (n * w))
    ∙ ap (λ m. take m (drop (from + q * w) bits)) (let f : w + n * w ≡ suc n * w = omega arith in f)

flat-append : (xs ys : List PlaceBits) → bits_at_places (xs ++ ys) ≡ bits_at_places xs ++ bits_at_places ys
flat-append [] ys = refl
flat-append (x ∷ xs) ys = ap (λ l. x.bits ++ l) (flat-append xs ys) ∙ sym (append_assoc x.bits (bits_at_places xs) (bits_at_places ys))

rows_bits : (s : System) (bits : List Bool) (from : ℕ) (ks : List ℕ) → bits_at_places (rows_from s bits from ks) ≡ take (sum_by (place_count s) ks) (drop from bits)
rows_bits s bits from [] = refl
rows_bits s bits from (k ∷ ks) =
    flat-append (rows_of s bits from k) (rows_from s bits (from + place_count s k) ks)
    ∙ ap (λ l. l ++ bits_at_places (rows_from s bits (from + place_count s k) ks)) (bits_of_rows bits from (s.width k) k 0 (s.places k) ∙ ap (λ m. take (place_count s k) (drop m bits)) (let f : from + 0 * s.width k ≡ from = omega arith in f))
    ∙ ap (λ l. take (place_count s k) (drop from bits) ++ l) (rows_bits s bits (from + place_count s k) ks ∙ ap (take (sum_by (place_count s) ks)) (sym (drop_more bits from (place_count s k))))
    ∙ sym (take_two (drop from bits) (place_count s k) (sum_by (place_count s) ks))
    ∙ ap (λ m. take m (drop from bits)) (sym (sum_by-cons (place_count s) k ks))

abbrev EachRow : (PlaceBits → Type 0) → List PlaceBits → Type 0
EachRow P [] = Unit {0}
EachRow P (r ∷ rs) = P r × EachRow P rs

all_rows : (P : PlaceBits → Type 0) (rs : List PlaceBits) → EachRow P rs → All P rs
all_rows P [] h k d lt = absurd (omega arith)
all_rows P (r ∷ rs) h zero d lt = h.0
all_rows P (r ∷ rs) h (suc k) d lt = all_rows P rs h.1 k d (omega arith)

each-append : (P : PlaceBits → Type 0) (xs ys : List PlaceBits) → EachRow P xs → EachRow P ys → EachRow P (xs ++ ys)
each-append P [] ys h k = k
each-append P (x ∷ xs) ys h k = (h.0, each-append P xs ys h.1 k)

abbrev IsWide : System → PlaceBits → Type 0
IsWide s r = length r.bits ≡ s.width r.proc

wide_rows : (s : System) (bits : List Bool) (from k q n : ℕ) → from + (q + n) * s.width k ≤ length bits → EachRow (IsWide s) (map (row_at bits from (s.width k) k) (range_with_len q n))
wide_rows s bits from k q zero le = tt
wide_rows s bits from k q (suc n) le =
    let d = length-drop (from + q * s.width k) bits in
    (length-take-le (s.width k) (drop (from + q * s.width k) bits) (let m : (q + suc n) * s.width k ≡ q * s.width k + s.width k + n * s.width k = omega arith in omega arith), wide_rows s bits from k (q + 1) n (let m : (q + 1 + n) * s.width k ≡ (q + suc n) * s.width k = ap (λ x. x * s.width k) (omega arith) in omega arith))

wide_all : (s : System) (bits : List Bool) (from : ℕ) (ks : List ℕ) → from + sum_by (place_count s) ks ≤ length bits → EachRow (IsWide s) (rows_from s bits from ks)
wide_all s bits from [] le = tt
wide_all s bits from (k ∷ ks) le =
    let c = sum_by-cons (place_count s) k ks in
    each-append (IsWide s) (rows_of s bits from k) (rows_from s bits (from + place_count s k) ks)
    (wide_rows s bits from k 0 (s.places k) (let m : (0 + s.places k) * s.width k ≡ place_count s k = ap (λ x. x * s.width k) (omega arith) in omega arith))
    (wide_all s bits (from + place_count s k) ks (omega arith))

pub are_rows : (s : System) (g from : ℕ) (bits : List Bool) (rows : List PlaceBits) → rows ≡ rows_from s bits from (members s g) → from + sum_by (place_count s) (members s g) ≤ length bits → AreRows s g rows
are_rows s g from bits rows e le = subst (λ (rs : List PlaceBits). AreRows s g rs) (sym e) (record { places = rows_spots s bits from (members s g); widths = all_rows (IsWide s) (rows_from s bits from (members s g)) (wide_all s bits from (members s g) le) })

pub take_all : {X : Type 0} (xs : List X) (n : ℕ) → length xs ≤ n → take n xs ≡ xs
take_all [] zero le = refl
take_all [] (suc n) le = refl
take_all (x ∷ xs) zero le = absurd (omega arith)
take_all (x ∷ xs) (suc n) le = ap (λ l. x ∷ l) (take_all xs n (omega arith))

pub rows_rest : (s : System) (g from : ℕ) (bits : List Bool) (rows : List PlaceBits) → rows ≡ rows_from s bits from (members s g) → length bits ≡ from + sum_by (place_count s) (members s g) → bits_at_places rows ≡ drop from bits
rows_rest s g from bits rows e size = ap bits_at_places e ∙ rows_bits s bits from (members s g) ∙ take_all (drop from bits) (sum_by (place_count s) (members s g)) (let d = length-drop from bits in omega arith)

-- instances

pub made_none : (s : System) (t : List (List Entry)) → AreMadeOf s t [] []
made_none s t = record { count = refl; each = λ n e i p q. cc }

pub made_next : (s : System) (t : List (List Entry)) (es : List Entry) (is is2 : List Instance) (e : Entry) (i : Instance) → AreMadeOf s t es is → IsMadeOf s t e i → is2 ≡ is ++ i ∷ [] → AreMadeOf s t (es ++ e ∷ []) is2
made_next s t es is is2 e i m h ie = record {
  count = ap length ie ∙ length-append is (i ∷ []) ∙ ap (λ n. n + 1) m.count ∙ sym (length-append es (e ∷ []));
  each = λ n f j p q. ⊎_elim
      (λ (a : slice_get es n ≡ Some f). ⊎_elim
      (λ (b : slice_get is n ≡ Some j). m.each n f j a b)
      (λ (b : (n ≡ length is) × (i ≡ j)). absurd (let w = get_within es f n a in let c = m.count in let z = b.0 in omega arith))
      (push_cases is i j n (ap (λ (xs : List Instance). slice_get xs n) (sym ie) ∙ q)))
      (λ (a : (n ≡ length es) × (e ≡ f)). ⊎_elim
      (λ (b : slice_get is n ≡ Some j). absurd (let w = get_within is j n b in let c = m.count in let z = a.0 in omega arith))
      (λ (b : (n ≡ length is) × (i ≡ j)). subst (λ (x : Instance). IsMadeOf s t f x) b.1 (subst (λ (x : Entry). IsMadeOf s t x i) a.1 h))
      (push_cases is i j n (ap (λ (xs : List Instance). slice_get xs n) (sym ie) ∙ q)))
      (push_cases es e f n p);
}

pub all_next : (t : List (List Entry)) (g : ℕ) → g < length t → all_of (take (g + 1) t) ≡ all_of (take g t) ++ in_group t g
all_next t g lt = let s : g + 1 ≡ suc g = omega arith in ap (λ n. all_of (take n t)) s ∙ next t g lt
  where
    next : (t : List (List Entry)) (g : ℕ) → g < length t → all_of (take (suc g) t) ≡ all_of (take g t) ++ in_group t g
    next [] g lt = absurd (omega arith)
    next (es ∷ t) zero lt = append_none es
    next (es ∷ t) (suc g) lt = ap (λ l. es ++ l) (next t g (omega arith)) ∙ sym (append_assoc es (all_of (take g t)) (in_group t g))

pub if_ok : {X E : Type 0} (r : Result X E) (P Q : X → Type 0) → ((x : X) → P x → Q x) → IfOk r P → IfOk r Q
if_ok (Ok x) P Q f h = f x h
if_ok (Err e) P Q f h = tt

pub made_instance : (s : System) (t : List (List Entry)) (e d : Entry) (bits iface : List Bool) (f op sp : ℕ) (sites : List ℕ) (rows : List PlaceBits) → d ≡ e → IsSized s e → bits ≡ d.bits → f ≡ s.fields → op ≡ sum_by s.parts (members s d.group) → sp ≡ sum_by (callee_parts s) (callees s d.group)
    → iface ≡ take (f + op - f) (drop f bits) → AreSiteNumbers s t d.group bits sites (length (callees s d.group)) → rows ≡ rows_from s bits (f + op + sp) (members s d.group)
    → IsMadeOf s t e (record { group = d.group; entry = d.proc; iface = iface; sites = sites; places = rows })
made_instance s t e d bits iface f op sp sites rows de sized be fe oe pe ie se re =
    subst (λ (x : Entry). IsMadeOf s t x (record { group = d.group; entry = d.proc; iface = iface; sites = sites; places = rows })) de
    (record {
      group = refl;
      entry = refl;
      iface =
          let w : f + op - f ≡ op = omega arith in
          ie ∙ ap (λ n. take n (drop f bits)) (w ∙ oe) ∙ ap (λ n. take (sum_by s.parts (members s d.group)) (drop n bits)) fe ∙ ap (λ (xs : List Bool). take (sum_by s.parts (members s d.group)) (drop s.fields xs)) be;
      sites = subst (λ (xs : List Bool). AreSiteNumbers s t d.group xs sites (length (callees s d.group))) be se;
      rows = are_rows s d.group (f + op + sp) bits rows re (let z = size in omega arith);
      bits = rows_rest s d.group (f + op + sp) bits rows re size ∙ ap (λ n. drop n bits) from ∙ ap (λ (xs : List Bool). drop (s.fields + sum_by s.parts (members s d.group) + sum_by (callee_parts s) (callees s d.group)) xs) be;
    })
  where
    from : f + op + sp ≡ s.fields + sum_by s.parts (members s d.group) + sum_by (callee_parts s) (callees s d.group)
    from = ap (λ n. n + op + sp) fe ∙ ap (λ n. s.fields + n + sp) oe ∙ ap (λ n. s.fields + sum_by s.parts (members s d.group) + n) pe

    mine : IsSized s d
    mine = subst (λ (x : Entry). IsSized s x) (sym de) sized

    size : length bits ≡ f + op + sp + sum_by (place_count s) (members s d.group)
    size = ap length be ∙ mine.size ∙ ap (λ n. n + sum_by (place_count s) (members s d.group)) (sym from)

pub entry_within : (s : System) (e d : Entry) (bits : List Bool) (f op sp : ℕ) → d ≡ e → IsSized s e → bits ≡ d.bits → f ≡ s.fields → op ≡ sum_by s.parts (members s d.group) → f + op ≤ length bits
entry_within s e d bits f op sp de sized be fe oe =
    let mine : IsSized s d = subst (λ (x : Entry). IsSized s x) (sym de) sized in
    let z : length bits ≡ count s d.group = ap length be ∙ mine.size in
    omega arith

pub solution_complete : (s : System) (U : ConstraintName → Bool) (lines : List Line) (top : List Bool) (t : List (List Entry)) → HasSolution s U lines top t → IsComplete s t
solution_complete s U lines top t h = record {
  sized = λ g n e at. let k = h.table.kept g n e at in record { there = k.there; size = k.size };
  group = h.table.group;
  answered = h.full.down;
}

pub solution_made : (s : System) (top : List Bool) (t : List (List Entry)) (n : ℕ) (phi : List Bool) (is : List Instance) → length top ≡ count s (root s) → n ≡ s.fields → phi ≡ take n top → AreMadeOf s t (all_of t) is
    → IsMade s top t (record { phi = phi; instances = is })
solution_made s top t n phi is size ne pe m = record { phi = pe ∙ phi_values s top n ne size; instances = m }

pub other_default : (t : List (List Entry)) (bs : List ℕ) (g : ℕ) → AreBases t bs (length t) → g < length t → get_or bs g 0 ≡ get_or bs g (get_or bs g 0)
other_default t bs g b lt = at (let h = b.count in omega arith)
  where
    at : g < length bs → get_or bs g 0 ≡ get_or bs g (get_or bs g 0)
    at lt = any_default bs g 0 (get_or bs g 0) lt

pub before_more : (t : List (List Entry)) (g b n : ℕ) (es : List Entry) → g < length t → b ≡ before_group t g → es ≡ get_or t g es → n ≡ b + length es → n ≡ before_group t (g + 1)
before_more t g b n es lt be ee ne =
    let h = before_next t g lt in
    let f : length es ≡ length (in_group t g) = ap length (ee ∙ at t g es [] lt) in
    omega arith
  where
    at : (t : List (List Entry)) (g : ℕ) (d f : List Entry) → g < length t → get_or t g d ≡ get_or t g f
    at [] g d f lt = absurd (omega arith)
    at (x ∷ t) zero d f lt = refl
    at (x ∷ t) (suc g) d f lt = at t g d f (omega arith)

pub entries_next : (s : System) (t : List (List Entry)) (g i : ℕ) (es : List Entry) (is is2 : List Instance) (e : Entry) (x : Instance) → es ≡ in_group t g → i < length es → e ≡ get_or es i e → AreMadeOf s t (all_of (take g t) ++ take i (in_group t g)) is → IsMadeOf s t e x → is2 ≡ is ++ x ∷ []
    → AreMadeOf s t (all_of (take g t) ++ take (i + 1) (in_group t g)) is2
entries_next s t g i es is is2 e x ee lt at m h ie =
    subst (λ (fs : List Entry). AreMadeOf s t fs is2)
    (append_assoc (all_of (take g t)) (take i (in_group t g)) (e ∷ []) ∙ ap (λ l. all_of (take g t) ++ l) (sym (ap (take (i + 1)) (sym ee) ∙ take_next es i e lt at ∙ ap (λ l. take i l ++ e ∷ []) ee)))
    (made_next s t (all_of (take g t) ++ take i (in_group t g)) is is2 e x m h ie)

pub entries_all : (s : System) (t : List (List Entry)) (g i : ℕ) (es : List Entry) (is : List Instance) → g < length t → es ≡ in_group t g → length es ≤ i → AreMadeOf s t (all_of (take g t) ++ take i (in_group t g)) is → AreMadeOf s t (all_of (take (g + 1) t)) is
entries_all s t g i es is lt ee le m =
    subst (λ (fs : List Entry). AreMadeOf s t fs is)
    (ap (λ l. all_of (take g t) ++ l) (take_all (in_group t g) i (let h = ap length ee in omega arith)) ∙ sym (all_next t g lt)) m

pub entry_there : (t : List (List Entry)) (g i : ℕ) (es : List Entry) (e : Entry) → es ≡ in_group t g → i < length es → e ≡ get_or es i e → slice_get (in_group t g) i ≡ Some e
entry_there t g i es e ee lt at = ap (λ (xs : List Entry). slice_get xs i) (sym ee) ∙ read_some es i e lt at
