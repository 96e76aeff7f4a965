-- Rows as runs: the runs of rows have these rows, none goes on where the one before it ends, and runs of which
-- that holds are the runs of their rows.
use Rattle.std.proofs.Common.{◌≡◌, ℕ, zero, suc, ◌+◌, ◌-◌, ◌*◌, ◌<◌, ◌≤◌, ◌^◌, ◌==◌, ◌&&◌, if◌then◌else◌, Bool, true, false, List, [], ◌∷◌, ◌++◌, length, take, drop, get_or, subst, refl, sym, ap, ◌∙◌, append_assoc, Option, Some, None, arith}
use Rattle.std.proofs.Math.Bool.{beq}
use Rattle.std.proofs.lemmas.Bool.{eqb-true, eq-eqb}
use Rattle.std.specs.Prelude.{slice_get}
use Rattle.std.specs.Cmp.Lexicographic.{pointwise}
use Rattle.std.specs.Cmp.{booleans_Decides}
use Rattle.std.specs.List.{All, flat_map}
use Rattle.std.proofs.lemmas.List.Elements.{All-more}
use Rattle.std.proofs.lemmas.Slice.Eq.{slice_eq-Decides}
use Rattle.std.proofs.lemmas.List.{append-nil, drop_more}
use Rattle.std.proofs.lemmas.Grind.{flat_map-append}
use Rattle.conflict_proof.proofs.Digits.{both}
use Rattle.own_cert.specs.declared.certificate.PlaceBits.{PlaceBits}
use Rattle.own_cert.specs.declared.lines.Run.{Run}
use Rattle.own_cert.specs.Text.{goes_on, run_of, with_row, runs_of, row_bits}
use Rattle.own_cert.specs.Runs.{rows_from, places_in, rows_of, goes_on_from, after_last, more_of_run, row_at, last_of, Apart}
use Rattle.own_cert.specs.Values.{IsRow, IsRun}

-- where a run goes on
pub record GoesOn (row : PlaceBits) (run : Run) : Type 0 where
  pub proc : row.proc ≡ run.proc
  pub next : row.place + 1 ≡ run.first
  pub bits : row.bits ≡ run.bits

pub bits_same : (bs cs : List Bool) → pointwise beq bs cs ≡ true → bs ≡ cs
bits_same bs cs e = (slice_eq-Decides booleans_Decides bs cs (pointwise beq bs cs) refl).0 e

pub same_bits : (bs : List Bool) → pointwise beq bs bs ≡ true
same_bits bs = (slice_eq-Decides booleans_Decides bs bs (pointwise beq bs bs) refl).1 refl

pub goes_on_is : (row : PlaceBits) (run : Run) → goes_on row run ≡ true → GoesOn row run
goes_on_is row run e =
    let a = both (row.proc == run.proc) ((row.place + 1 == run.first) && pointwise beq row.bits run.bits) e in
    let b = both (row.place + 1 == run.first) (pointwise beq row.bits run.bits) a.1 in
    record { proc = eqb-true row.proc run.proc a.0; next = eqb-true (row.place + 1) run.first b.0; bits = bits_same row.bits run.bits b.1 }

abbrev pub run_at : ℕ → List Bool → ℕ → ℕ → Run
run_at proc bits first last = record { proc = proc; first = first; last = last; bits = bits }

pub goes_on_next : (proc : ℕ) (bits : List Bool) (first last : ℕ) → goes_on (row_at proc bits first) (run_at proc bits (first + 1) last) ≡ true
goes_on_next proc bits first last = rw (eq-eqb proc proc refl, eq-eqb (first + 1) (first + 1) refl, same_bits bits) refl

with_row_apart : (row : PlaceBits) (run : Run) (runs : List Run) (t : Bool) → goes_on row run ≡ t → Apart None (run ∷ runs) → Apart None (with_row row (run ∷ runs))
with_row_apart row run runs true e h = rw e (refl, h.1)
with_row_apart row run runs false e h = rw e (refl, (e, h.1))

pub runs_apart : (rows : List PlaceBits) → Apart None (runs_of rows)
runs_apart [] = tt
runs_apart (row ∷ rows) = by_runs (runs_of rows) (runs_apart rows)
  where
    by_runs : (runs : List Run) → Apart None runs → Apart None (with_row row runs)
    by_runs [] h = (refl, tt)
    by_runs (run ∷ runs) h = with_row_apart row run runs (goes_on row run) refl h

-- a run's first place is not after its last
abbrev pub Ordered : List Run → Type 0
Ordered [] = Unit {0}
Ordered (run ∷ runs) = (run.first ≤ run.last) × Ordered runs

longer : (row : PlaceBits) (run : Run) → run.first ≤ run.last → GoesOn row run → rows_of (record run { first = row.place }) ≡ row ∷ rows_of run
longer row run order on =
    let more : run.last - row.place + 1 ≡ suc (places_in run) = omega (arith, on.next, order) in
    ap (rows_from run.proc run.bits row.place) more
    ∙ ap (λ k. row_at run.proc run.bits row.place ∷ rows_from run.proc run.bits k (places_in run)) on.next
    ∙ ap (λ p. row_at p run.bits row.place ∷ rows_of run) (sym on.proc)
    ∙ ap (λ b. row_at row.proc b row.place ∷ rows_of run) (sym on.bits)

alone : (row : PlaceBits) → rows_of (run_of row) ≡ row ∷ []
alone row = let count : places_in (run_of row) ≡ 1 = omega arith in ap (rows_from row.proc row.bits row.place) count

pub record Whole (rows : List PlaceBits) (runs : List Run) : Type 0 where
  pub same : flat_map rows_of runs ≡ rows
  pub ordered : Ordered runs

with_row_whole : (row : PlaceBits) (rows : List PlaceBits) (run : Run) (runs : List Run) (t : Bool) → goes_on row run ≡ t → Whole rows (run ∷ runs) → Whole (row ∷ rows) (with_row row (run ∷ runs))
with_row_whole row rows run runs true e h =
    let on = goes_on_is row run e in
    let order : row.place ≤ run.last = omega (arith, on.next, h.ordered.0) in
    rw e (record { same = ap (λ w. w ++ flat_map rows_of runs) (longer row run h.ordered.0 on) ∙ ap (λ w. row ∷ w) h.same; ordered = (order, h.ordered.1) })
with_row_whole row rows run runs false e h =
    rw e (record { same = ap (λ w. w ++ flat_map rows_of (run ∷ runs)) (alone row) ∙ ap (λ w. row ∷ w) h.same; ordered = (omega arith, h.ordered) })

pub runs_whole : (rows : List PlaceBits) → Whole rows (runs_of rows)
runs_whole [] = record { same = refl; ordered = tt }
runs_whole (row ∷ rows) = by_runs (runs_of rows) (runs_whole rows)
  where
    by_runs : (runs : List Run) → Whole rows runs → Whole (row ∷ rows) (with_row row runs)
    by_runs [] h = record { same = ap (λ w. w ++ []) (alone row) ∙ ap (λ w. row ∷ w) h.same; ordered = (omega arith, tt) }
    by_runs (run ∷ runs) h = with_row_whole row rows run runs (goes_on row run) refl h

-- the runs of valid rows are valid
abbrev pub AreRuns : List Run → Type 0
AreRuns [] = Unit {0}
AreRuns (run ∷ runs) = IsRun run × AreRuns runs

with_row_valid : (row : PlaceBits) (run : Run) (runs : List Run) (t : Bool) → goes_on row run ≡ t → IsRow row → AreRuns (run ∷ runs) → AreRuns (with_row row (run ∷ runs))
with_row_valid row run runs true e is h =
    let on = goes_on_is row run e in
    rw e (record { proc = h.0.proc; order = omega (arith, on.next, h.0.order); last = h.0.last }, h.1)
with_row_valid row run runs false e is h = rw e (record { proc = is.proc; order = omega arith; last = is.place }, h)

pub runs_valid : (rows : List PlaceBits) → All IsRow rows → AreRuns (runs_of rows)
runs_valid [] is = tt
runs_valid (row ∷ rows) is = by_runs (runs_of rows) (runs_valid rows (λ k d h. is (suc k) d (omega arith)))
  where
    by_runs : (runs : List Run) → AreRuns runs → AreRuns (with_row row runs)
    by_runs [] h = (record { proc = (is 0 row (omega arith)).proc; order = omega arith; last = (is 0 row (omega arith)).place }, tt)
    by_runs (run ∷ runs) h = with_row_valid row run runs (goes_on row run) refl (is 0 row (omega arith)) h

-- whether the first of some runs goes on where a row ends
abbrev joins : PlaceBits → List Run → Bool
joins row [] = false
joins row (run ∷ runs) = goes_on row run

no_join : (row : PlaceBits) (runs : List Run) → joins row runs ≡ false → with_row row runs ≡ run_of row ∷ runs
no_join row [] e = refl
no_join row (run ∷ runs) e = rw e refl

one_run : (proc : ℕ) (bits : List Bool) (first n : ℕ) (rows : List PlaceBits) → joins (row_at proc bits (first + n)) (runs_of rows) ≡ false
    → runs_of (rows_from proc bits first (suc n) ++ rows) ≡ run_at proc bits first (first + n) ∷ runs_of rows
one_run proc bits first zero rows apart =
    let here : first + 0 ≡ first = omega arith in
    let other : joins (row_at proc bits first) (runs_of rows) ≡ false = rw here at apart in
    no_join (row_at proc bits first) (runs_of rows) other ∙ ap (λ k. run_at proc bits first k ∷ runs_of rows) (sym here)
one_run proc bits first (suc n) rows apart =
    let same : first + suc n ≡ (first + 1) + n = omega arith in
    let other : joins (row_at proc bits ((first + 1) + n)) (runs_of rows) ≡ false = rw same at apart in
    let rest = one_run proc bits (first + 1) n rows other in
    ap (with_row (row_at proc bits first)) rest
    ∙ ap (λ t. if t then run_at proc bits first ((first + 1) + n) ∷ runs_of rows else run_of (row_at proc bits first) ∷ run_at proc bits (first + 1) ((first + 1) + n) ∷ runs_of rows)
    (goes_on_next proc bits first ((first + 1) + n))
    ∙ ap (λ k. run_at proc bits first k ∷ runs_of rows) (sym same)

apart_joins : (row : PlaceBits) (runs : List Run) → Apart (Some row) runs → joins row runs ≡ false
apart_joins row [] h = refl
apart_joins row (run ∷ runs) h = h.0

pub runs_again : (prev : Option PlaceBits) (runs : List Run) → Apart prev runs → Ordered runs → runs_of (flat_map rows_of runs) ≡ runs
runs_again prev [] apart order = refl
runs_again prev (run ∷ runs) apart order =
    let rest = runs_again (Some (last_of run)) runs apart.1 order.1 in
    let count : places_in run ≡ suc (run.last - run.first) = omega arith in
    let last : run.first + (run.last - run.first) ≡ run.last = omega (arith, order.0) in
    let other : joins (row_at run.proc run.bits (run.first + (run.last - run.first))) (runs_of (flat_map rows_of runs)) ≡ false = rw (last, rest) (apart_joins (last_of run) runs apart.1) in
    ap (λ n. runs_of (rows_from run.proc run.bits run.first n ++ flat_map rows_of runs)) count
    ∙ one_run run.proc run.bits run.first (run.last - run.first) (flat_map rows_of runs) other
    ∙ ap (λ k. run_at run.proc run.bits run.first k ∷ runs_of (flat_map rows_of runs)) last
    ∙ ap (λ w. run ∷ w) rest

-- where rows end, and where runs end
abbrev pub final : Option PlaceBits → List PlaceBits → Option PlaceBits
final prev [] = prev
final prev (row ∷ rows) = final (Some row) rows

abbrev pub end_row : Option PlaceBits → List Run → Option PlaceBits
end_row prev [] = prev
end_row prev (run ∷ runs) = end_row (Some (last_of run)) runs

get_final : (row : PlaceBits) (rows : List PlaceBits) → slice_get (row ∷ rows) (length rows) ≡ final (Some row) rows
get_final row [] = refl
get_final row (next ∷ rows) = get_final next rows

pub last_is : (rows : List PlaceBits) → slice_get rows (length rows - 1) ≡ final None rows
last_is [] = refl
last_is (row ∷ rows) = ap (λ n. slice_get (row ∷ rows) n) (omega arith) ∙ get_final row rows

pub final-append : (prev : Option PlaceBits) (a b : List PlaceBits) → final prev (a ++ b) ≡ final (final prev a) b
final-append prev [] b = refl
final-append prev (row ∷ a) b = final-append (Some row) a b

final_from : (proc : ℕ) (bits : List Bool) (first n : ℕ) (prev : Option PlaceBits) → final prev (rows_from proc bits first (suc n)) ≡ Some (row_at proc bits (first + n))
final_from proc bits first zero prev = ap (λ k. Some (row_at proc bits k)) (omega arith)
final_from proc bits first (suc n) prev = final_from proc bits (first + 1) n (Some (row_at proc bits first)) ∙ ap (λ k. Some (row_at proc bits k)) (omega arith)

pub final_run : (prev : Option PlaceBits) (run : Run) → run.first ≤ run.last → final prev (rows_of run) ≡ Some (last_of run)
final_run prev run order =
    let count : places_in run ≡ suc (run.last - run.first) = omega arith in
    let last : run.first + (run.last - run.first) ≡ run.last = omega (arith, order) in
    ap (λ n. final prev (rows_from run.proc run.bits run.first n)) count
    ∙ final_from run.proc run.bits run.first (run.last - run.first) prev
    ∙ ap (λ k. Some (row_at run.proc run.bits k)) last

pub final_runs : (prev : Option PlaceBits) (runs : List Run) → Ordered runs → final prev (flat_map rows_of runs) ≡ end_row prev runs
final_runs prev [] order = refl
final_runs prev (run ∷ runs) order =
    final-append prev (rows_of run) (flat_map rows_of runs)
    ∙ ap (λ o. final o (flat_map rows_of runs)) (final_run prev run order.0)
    ∙ final_runs (Some (last_of run)) runs order.1

apart_push : (prev : Option PlaceBits) (runs : List Run) (run : Run) → Apart prev runs → goes_on_from (end_row prev runs) run ≡ false → Apart prev (runs ++ run ∷ [])
apart_push prev [] run h last = (last, tt)
apart_push prev (r ∷ runs) run h last = (h.0, apart_push (Some (last_of r)) runs run h.1 last)

ordered_push : (runs : List Run) (run : Run) → Ordered runs → run.first ≤ run.last → Ordered (runs ++ run ∷ [])
ordered_push [] run h last = (last, tt)
ordered_push (r ∷ runs) run h last = (h.0, ordered_push runs run h.1 last)

-- one run more
pub run_more : (rows : List PlaceBits) (run : Run) → run.first ≤ run.last → after_last rows run ≡ false → runs_of (rows ++ rows_of run) ≡ runs_of rows ++ run ∷ []
run_more rows run order apart =
    let runs = runs_of rows in
    let whole = runs_whole rows in
    let ends : slice_get rows (length rows - 1) ≡ end_row None runs = last_is rows ∙ ap (final None) (sym whole.same) ∙ final_runs None runs whole.ordered in
    let other : goes_on_from (end_row None runs) run ≡ false = rw ends at apart in
    let joined : rows ++ rows_of run ≡ flat_map rows_of (runs ++ run ∷ []) =
    ap (λ w. w ++ rows_of run) (sym whole.same)
    ∙ sym (flat_map-append rows_of runs (run ∷ []) ∙ ap (λ w. flat_map rows_of runs ++ w) (append-nil (rows_of run))) in
    ap runs_of joined ∙ runs_again None (runs ++ run ∷ []) (apart_push None runs run (runs_apart rows) other) (ordered_push runs run whole.ordered order)

-- how many places and bits a run has
pub length_from : (proc : ℕ) (bits : List Bool) (first n : ℕ) → length (rows_from proc bits first n) ≡ n
length_from proc bits first zero = refl
length_from proc bits first (suc n) = omega (arith, length_from proc bits (first + 1) n)

pub bits_from : (proc : ℕ) (bits : List Bool) (first n : ℕ) → row_bits (rows_from proc bits first n) ≡ length bits * n
bits_from proc bits first zero = omega arith
bits_from proc bits first (suc n) = omega (arith, bits_from proc bits (first + 1) n)

pub row_bits-append : (a b : List PlaceBits) → row_bits (a ++ b) ≡ row_bits a + row_bits b
row_bits-append [] b = omega arith
row_bits-append (row ∷ a) b = omega (arith, row_bits-append a b)

-- one place more in a run
pub rows_push : (proc : ℕ) (bits : List Bool) (first n : ℕ) → rows_from proc bits first (suc n) ≡ rows_from proc bits first n ++ row_at proc bits (first + n) ∷ []
rows_push proc bits first zero = ap (λ k. row_at proc bits k ∷ []) (omega arith)
rows_push proc bits first (suc n) =
    ap (λ w. row_at proc bits first ∷ w) (rows_push proc bits (first + 1) n ∙ ap (λ k. rows_from proc bits (first + 1) n ++ row_at proc bits k ∷ []) (omega arith))

-- the rows of a valid run are valid
valid_from : (proc : ℕ) (bits : List Bool) (first n : ℕ) → proc < 2 ^ 32 → first + n ≤ 2 ^ 32 → All IsRow (rows_from proc bits first n)
valid_from proc bits first zero p fits k d h = absurd (omega arith)
valid_from proc bits first (suc n) p fits zero d h = record { proc = p; place = omega (arith, fits) }
valid_from proc bits first (suc n) p fits (suc k) d h = valid_from proc bits (first + 1) n p (omega (arith, fits)) k d (omega arith)

pub rows_valid : (run : Run) → IsRun run → All IsRow (rows_of run)
rows_valid run is = valid_from run.proc run.bits run.first (places_in run) is.proc (omega (arith, is.order, is.last))

pub rows_extended : (proc : ℕ) (bits : List Bool) (first n place m : ℕ) (start out new : List PlaceBits) → first + n ≡ place → m ≡ suc n
    → out ≡ start ++ rows_from proc bits first n → new ≡ out ++ row_at proc bits place ∷ [] → new ≡ start ++ rows_from proc bits first m
rows_extended proc bits first n place m start out new here more before after =
    after ∙ ap (λ w. w ++ row_at proc bits place ∷ []) before
    ∙ append_assoc start (rows_from proc bits first n) (row_at proc bits place ∷ [])
    ∙ ap (λ k. start ++ (rows_from proc bits first n ++ row_at proc bits k ∷ [])) (sym here)
    ∙ ap (λ w. start ++ w) (sym (rows_push proc bits first n))
    ∙ ap (λ k. start ++ rows_from proc bits first k) (sym more)

-- how many rows go on with a run
pub more_within : (row : PlaceBits) (rows : List PlaceBits) → more_of_run row rows ≤ length rows
more_within row [] = omega arith
more_within row (next ∷ rows) = by_test (goes_on row (run_of next)) (more_within next rows)
  where
    by_test : (t : Bool) → more_of_run next rows ≤ length rows → (if t then suc (more_of_run next rows) else 0) ≤ suc (length rows)
    by_test true h = omega (arith, h)
    by_test false h = omega arith

pub get_any : (rows : List PlaceBits) (k : ℕ) (d e : PlaceBits) → k < length rows → get_or rows k d ≡ get_or rows k e
get_any [] k d e low = absurd (omega arith)
get_any (row ∷ rows) zero d e low = refl
get_any (row ∷ rows) (suc k) d e low = get_any rows k d e (omega (arith, low))

-- the first run of rows
first_by : (row next : PlaceBits) (rows : List PlaceBits) (t : Bool) → goes_on row (run_of next) ≡ t
    → runs_of (next ∷ rows) ≡ run_at next.proc next.bits next.place (get_or (next ∷ rows) (more_of_run next rows) next).place ∷ runs_of (drop (more_of_run next rows) rows)
    → with_row row (run_at next.proc next.bits next.place (get_or (next ∷ rows) (more_of_run next rows) next).place ∷ runs_of (drop (more_of_run next rows) rows))
    ≡ run_at row.proc row.bits row.place (get_or (row ∷ next ∷ rows) (more_of_run row (next ∷ rows)) row).place ∷ runs_of (drop (more_of_run row (next ∷ rows)) (next ∷ rows))
first_by row next rows true e rest =
    let on = goes_on_is row (run_of next) e in
    let m = more_of_run next rows in
    let last : get_or (next ∷ rows) m next ≡ get_or (next ∷ rows) m row = get_any (next ∷ rows) m next row (let h = more_within next rows in omega (arith, h)) in
    let proc : next.proc ≡ row.proc = sym on.proc in
    let bits : next.bits ≡ row.bits = sym on.bits in
    rw e
    (ap (λ p. run_at p next.bits row.place (get_or (next ∷ rows) m next).place ∷ runs_of (drop m rows)) proc
    ∙ ap (λ b. run_at row.proc b row.place (get_or (next ∷ rows) m next).place ∷ runs_of (drop m rows)) bits
    ∙ ap (λ r. run_at row.proc row.bits row.place r.place ∷ runs_of (drop m rows)) last)
first_by row next rows false e rest = rw e (ap (λ w. run_of row ∷ w) (sym rest))

pub first_run : (row : PlaceBits) (rows : List PlaceBits)
    → runs_of (row ∷ rows) ≡ run_at row.proc row.bits row.place (get_or (row ∷ rows) (more_of_run row rows) row).place ∷ runs_of (drop (more_of_run row rows) rows)
first_run row [] = refl
first_run row (next ∷ rows) = let rest = first_run next rows in ap (with_row row) rest ∙ first_by row next rows (goes_on row (run_of next)) refl rest

-- one row more that goes on, and one that doesn't
next_front : (rows : List PlaceBits) (n : ℕ) (next : PlaceBits) → n < length rows → next ≡ get_or rows n next → drop n rows ≡ next ∷ drop (n + 1) rows
next_front rows n next low is = drop_more rows n next low ∙ ap (λ y. y ∷ drop (n + 1) rows) (sym is)

pub run_on : (rows : List PlaceBits) (last next : PlaceBits) (n : ℕ) → n < length rows → next ≡ get_or rows n next → true ≡ goes_on last (run_of next) → more_of_run last (drop n rows) ≡ suc (more_of_run next (drop (n + 1) rows))
run_on rows last next n low is on =
    ap (more_of_run last) (next_front rows n next low is) ∙ ap (λ t. if t then suc (more_of_run next (drop (n + 1) rows)) else 0) (sym on)

pub run_ends : (rows : List PlaceBits) (last next : PlaceBits) (n : ℕ) → n < length rows → next ≡ get_or rows n next → false ≡ goes_on last (run_of next) → more_of_run last (drop n rows) ≡ 0
run_ends rows last next n low is off =
    ap (more_of_run last) (next_front rows n next low is) ∙ ap (λ t. if t then suc (more_of_run next (drop (n + 1) rows)) else 0) (sym off)

pub more_pushed : (rows : List PlaceBits) (n : ℕ) (next : PlaceBits) → n < length rows → next ≡ get_or rows n next → All IsRow (take n rows) → IsRow next → All IsRow (take (n + 1) rows)
more_pushed rows n next low is each one = All-more IsRow rows n next low each (subst IsRow is one)
