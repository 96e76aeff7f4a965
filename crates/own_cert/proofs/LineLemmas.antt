-- Different lines have different texts, and no line feed is in them.
use Rattle.std.proofs.Common.{◌≡◌, ℕ, zero, suc, ◌<◌, ◌^◌, ◌==◌, if◌then◌else◌, Bool, true, false, List, [], ◌∷◌, ◌++◌, length, map, drop, refl, sym, ap, ◌∙◌, get_or, append_assoc, decimal, arith}
use Rattle.std.proofs.lemmas.Fmt.{decimal_injective}
use Rattle.std.specs.List.{All}
use Rattle.conflict_proof.specs.Text.{numbers_text}
use Rattle.line_texts.specs.Lines.{line_feeds}
use Rattle.conflict_proof.specs.Fronts.{NoDigit, NoField}
use Rattle.conflict_proof.proofs.Digits.{same_number, different}
use Rattle.conflict_proof.proofs.NumberLemmas.{same_numbers, numbers_end}
use Rattle.conflict_proof.proofs.LineLemmas.{three, small_three}
use Rattle.conflict_proof.proofs.FeedLemmas.{decimal_lone, numbers_lone}
use Rattle.line_texts.proofs.LineFeeds.{feeds-append}
use Rattle.own_cert.specs.declared.certificate.PlaceBits.{PlaceBits}
use Rattle.own_cert.specs.declared.lines.Version.{Version}
use Rattle.own_cert.specs.declared.lines.Version.TheVariants.{First, Second}
use Rattle.own_cert.specs.declared.lines.Run.{Run}
use Rattle.own_cert.specs.declared.lines.Line.{Line}
use Rattle.own_cert.specs.declared.lines.Line.TheVariants as line
use Rattle.own_cert.specs.Text.{digit, bits_text, header_text, line_text}
use Rattle.own_cert.specs.Values.{IsRow, IsRun, IsLine}

-- a line's word, by its number and by its text
abbrev pub kind : Line → ℕ
kind (line.Header v) = 0
kind (line.Phi bits) = 1
kind (line.Instance g e) = 2
kind (line.Iface bits) = 3
kind (line.Sites ns) = 4
kind (line.Place row) = 5
kind (line.Places run) = 6
kind (line.End n) = 7

abbrev pub kind_of : List ℕ → ℕ
kind_of w =
    if get_or w 0 0 == 99 then 0
    else if get_or w 0 0 == 101 then 7
    else if get_or w 0 0 == 115 then 4
    else if get_or w 0 0 == 105 then (if get_or w 1 0 == 110 then 2 else 3)
    else if get_or w 1 0 == 104 then 1
    else if get_or w 5 0 == 115 then 6
    else 5

pub kind_text : (l : Line) → kind_of (line_text l) ≡ kind l
kind_text (line.Header First) = refl
kind_text (line.Header Second) = refl
kind_text (line.Phi bits) = refl
kind_text (line.Instance g e) = refl
kind_text (line.Iface bits) = refl
kind_text (line.Sites ns) = refl
kind_text (line.Place row) = refl
kind_text (line.Places run) = refl
kind_text (line.End n) = refl

-- rows of bits
digit_at : (b c : Bool) → digit b ≡ digit c → b ≡ c
digit_at true true e = refl
digit_at false false e = refl
digit_at true false e = absurd (different 49 48 refl e)
digit_at false true e = absurd (different 48 49 refl e)

pub same_digits : (bs cs : List Bool) → map digit bs ≡ map digit cs → bs ≡ cs
same_digits [] [] e = refl
same_digits [] (c ∷ cs) e = cc
same_digits (b ∷ bs) [] e = cc
same_digits (b ∷ bs) (c ∷ cs) e =
    let first : b ≡ c = digit_at b c (ap (λ (w : List ℕ). get_or w 0 0) e) in
    let rest : bs ≡ cs = same_digits bs cs (ap (drop 1) e) in
    ap (λ x. x ∷ bs) first ∙ ap (λ xs. c ∷ xs) rest

pub same_bits : (bs cs : List Bool) → bits_text bs ≡ bits_text cs → bs ≡ cs
same_bits [] [] e = refl
same_bits [] (c ∷ cs) e = cc
same_bits (b ∷ bs) [] e = cc
same_bits (b ∷ bs) (c ∷ cs) e = same_digits (b ∷ bs) (c ∷ cs) (ap (drop 1) e)

pub bits_end : (bs : List Bool) → NoDigit (bits_text bs)
bits_end [] = refl
bits_end (b ∷ bs) = refl

-- numbers
abbrev pub two : ℕ → ℕ → List ℕ
two a b = a ∷ b ∷ []

pub small_two : (a b : ℕ) → a < 2 ^ 32 → b < 2 ^ 32 → All (λ n. n < 2 ^ 32) (two a b)
small_two a b ha hb zero d h = ha
small_two a b ha hb (suc zero) d h = hb
small_two a b ha hb (suc (suc k)) d h = absurd (omega arith)

pub sites_end : (ns : List ℕ) → NoDigit (numbers_text ns)
sites_end [] = refl
sites_end (n ∷ ns) = refl

pub same_sites : (ms ns : List ℕ) → All (λ n. n < 2 ^ 32) ms → All (λ n. n < 2 ^ 32) ns → numbers_text ms ≡ numbers_text ns → ms ≡ ns
same_sites [] [] sm sn e = refl
same_sites [] (n ∷ ns) sm sn e = cc
same_sites (m ∷ ms) [] sm sn e = cc
same_sites (m ∷ ms) (n ∷ ns) sm sn e =
    let lm : m < 2 ^ 32 = sm 0 m (omega arith) in
    let ln : n < 2 ^ 32 = sn 0 n (omega arith) in
    let s = same_number m n (numbers_text ms) (numbers_text ns) (omega arith) (omega arith) (sites_end ms) (sites_end ns) (ap (drop 1) e) in
    let rest : ms ≡ ns = same_sites ms ns (λ j d i. sm (suc j) d (omega arith)) (λ j d i. sn (suc j) d (omega arith)) s.1 in
    ap (λ x. x ∷ ms) s.0 ∙ ap (λ xs. n ∷ xs) rest

-- an element of equal lists
at : (k : ℕ) (xs ys : List ℕ) → xs ≡ ys → get_or xs k 0 ≡ get_or ys k 0
at k xs ys e = ap (λ (w : List ℕ). get_or w k 0) e

abbrev row_with : ℕ → ℕ → List Bool → PlaceBits
row_with proc place bits = record { proc = proc; place = place; bits = bits }

abbrev run_with : ℕ → ℕ → ℕ → List Bool → Run
run_with proc first last bits = record { proc = proc; first = first; last = last; bits = bits }

same_row : (r s : PlaceBits) → IsRow r → IsRow s
    → numbers_text (two r.proc r.place) ++ bits_text r.bits ≡ numbers_text (two s.proc s.place) ++ bits_text s.bits → r ≡ s
same_row r s ir is e =
    let t = same_numbers (two r.proc r.place) (two s.proc s.place) (bits_text r.bits) (bits_text s.bits) refl
    (small_two r.proc r.place ir.proc ir.place) (small_two s.proc s.place is.proc is.place) (bits_end r.bits) (bits_end s.bits) e in
    let proc : r.proc ≡ s.proc = at 0 (two r.proc r.place) (two s.proc s.place) t.0 in
    let place : r.place ≡ s.place = at 1 (two r.proc r.place) (two s.proc s.place) t.0 in
    let bits : r.bits ≡ s.bits = same_bits r.bits s.bits t.1 in
    ap (λ x. row_with x r.place r.bits) proc ∙ ap (λ x. row_with s.proc x r.bits) place ∙ ap (λ x. row_with s.proc s.place x) bits

first_small : (r : Run) → IsRun r → r.first < 2 ^ 32
first_small r is = omega (arith, is.order, is.last)

same_run : (r s : Run) → IsRun r → IsRun s
    → numbers_text (three r.proc r.first r.last) ++ bits_text r.bits ≡ numbers_text (three s.proc s.first s.last) ++ bits_text s.bits → r ≡ s
same_run r s ir is e =
    let t = same_numbers (three r.proc r.first r.last) (three s.proc s.first s.last) (bits_text r.bits) (bits_text s.bits) refl
    (small_three r.proc r.first r.last ir.proc (first_small r ir) ir.last) (small_three s.proc s.first s.last is.proc (first_small s is) is.last)
    (bits_end r.bits) (bits_end s.bits) e in
    let proc : r.proc ≡ s.proc = at 0 (three r.proc r.first r.last) (three s.proc s.first s.last) t.0 in
    let first : r.first ≡ s.first = at 1 (three r.proc r.first r.last) (three s.proc s.first s.last) t.0 in
    let last : r.last ≡ s.last = at 2 (three r.proc r.first r.last) (three s.proc s.first s.last) t.0 in
    let bits : r.bits ≡ s.bits = same_bits r.bits s.bits t.1 in
    ap (λ x. run_with x r.first r.last r.bits) proc ∙ ap (λ x. run_with s.proc x r.last r.bits) first
    ∙ ap (λ x. run_with s.proc s.first x r.bits) last ∙ ap (λ x. run_with s.proc s.first s.last x) bits

same_header : (v w : Version) → header_text v ≡ header_text w → line.Header v ≡ line.Header w
same_header First First e = refl
same_header Second Second e = refl
same_header First Second e = absurd (different 49 50 refl (ap (λ (u : List ℕ). get_or u 21 0) e))
same_header Second First e = absurd (different 50 49 refl (ap (λ (u : List ℕ). get_or u 21 0) e))

same_entry : (g e h f : ℕ) → g < 2 ^ 32 → e < 2 ^ 32 → h < 2 ^ 32 → f < 2 ^ 32 → numbers_text (two g e) ≡ numbers_text (two h f) → line.Instance g e ≡ line.Instance h f
same_entry g e h f sg se sh sf same =
    let s = same_sites (two g e) (two h f) (small_two g e sg se) (small_two h f sh sf) same in
    let first : g ≡ h = at 0 (two g e) (two h f) s in
    let second : e ≡ f = at 1 (two g e) (two h f) s in
    ap (λ x. line.Instance x e) first ∙ ap (λ x. line.Instance h x) second

-- lines of one kind
same_of_kind : (l m : Line) → kind l ≡ kind m → IsLine l → IsLine m → line_text l ≡ line_text m → l ≡ m
same_of_kind (line.Header v) (line.Header w) k il im e = same_header v w e
same_of_kind (line.Phi b) (line.Phi c) k il im e = ap line.Phi (same_bits b c (ap (drop 3) e))
same_of_kind (line.Instance g x) (line.Instance h y) k il im e = same_entry g x h y il.0 il.1 im.0 im.1 (ap (drop 8) e)
same_of_kind (line.Iface b) (line.Iface c) k il im e = ap line.Iface (same_bits b c (ap (drop 5) e))
same_of_kind (line.Sites b) (line.Sites c) k il im e = ap line.Sites (same_sites b c il im (ap (drop 5) e))
same_of_kind (line.Place r) (line.Place s) k il im e = ap line.Place (same_row r s il im (ap (drop 5) e))
same_of_kind (line.Places r) (line.Places s) k il im e = ap line.Places (same_run r s il im (ap (drop 6) e))
same_of_kind (line.End n) (line.End m) k il im e = ap line.End (decimal_injective n m il im (ap (drop 4) e))
same_of_kind l m k il im e = absurd (omega (arith, k))

pub same_line : (l m : Line) → IsLine l → IsLine m → line_text l ≡ line_text m → l ≡ m
same_line l m il im e = same_of_kind l m (sym (kind_text l) ∙ ap kind_of e ∙ kind_text m) il im e

-- no line feed
digits_lone : (bs : List Bool) → line_feeds (map digit bs) ≡ 0
digits_lone [] = refl
digits_lone (true ∷ bs) = digits_lone bs
digits_lone (false ∷ bs) = digits_lone bs

bits_lone : (bs : List Bool) → line_feeds (bits_text bs) ≡ 0
bits_lone [] = refl
bits_lone (b ∷ bs) = digits_lone (b ∷ bs)

places_lone : (ns : List ℕ) (bs : List Bool) → All (λ n. n < 2 ^ 32) ns → line_feeds (numbers_text ns ++ bits_text bs) ≡ 0
places_lone ns bs small = feeds-append (numbers_text ns) (bits_text bs) ∙ omega (arith, numbers_lone ns small, bits_lone bs)

pub line_lone : (l : Line) → IsLine l → line_feeds (line_text l) ≡ 0
line_lone (line.Header First) is = refl
line_lone (line.Header Second) is = refl
line_lone (line.Phi bits) is = bits_lone bits
line_lone (line.Instance g e) is = numbers_lone (two g e) (small_two g e is.0 is.1)
line_lone (line.Iface bits) is = bits_lone bits
line_lone (line.Sites ns) is = numbers_lone ns is
line_lone (line.Place r) is = places_lone (two r.proc r.place) r.bits (small_two r.proc r.place is.proc is.place)
line_lone (line.Places r) is = places_lone (three r.proc r.first r.last) r.bits (small_three r.proc r.first r.last is.proc (first_small r is) is.last)
line_lone (line.End n) is = decimal_lone n is

-- sites with no further one after them
pub sites_left : (is ns rest : List ℕ) → All (λ n. n < 2 ^ 32) is → All (λ n. n < 2 ^ 32) ns → (0 < length is → NoDigit rest) → NoField rest → numbers_text is ++ rest ≡ numbers_text ns → rest ≡ []
sites_left [] [] rest si sn ends none e = e
sites_left [] (n ∷ ns) rest si sn ends none e = absurd (none n (numbers_text ns) (sn 0 n (omega arith)) (sites_end ns) e)
sites_left (i ∷ is) [] rest si sn ends none e = cc
sites_left (i ∷ is) (n ∷ ns) rest si sn ends none e =
    let li : i < 2 ^ 32 = si 0 i (omega arith) in
    let ln : n < 2 ^ 32 = sn 0 n (omega arith) in
    let f : decimal i ++ (numbers_text is ++ rest) ≡ decimal n ++ numbers_text ns = sym (append_assoc (decimal i) (numbers_text is) rest) ∙ ap (drop 1) e in
    let s = same_number i n (numbers_text is ++ rest) (numbers_text ns) (omega arith) (omega arith) (numbers_end is rest (ends (omega arith))) (sites_end ns) f in
    sites_left is ns rest (λ j d h. si (suc j) d (omega arith)) (λ j d h. sn (suc j) d (omega arith)) (λ h. ends (omega arith)) none s.1
