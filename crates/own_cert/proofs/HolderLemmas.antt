-- Lines of the second text by the lines of the first one that they stand for.
use Rattle.std.proofs.Common.{◌≡◌, ℕ, zero, suc, ◌+◌, ◌-◌, ◌<◌, ◌≤◌, if◌then◌else◌, Bool, true, false, List, [], ◌∷◌, ◌++◌, length, map, take, drop, get_or, refl, sym, ap, subst, ◌∙◌, append_assoc, codes, leb, ◌↔◌, arith}
use Rattle.std.proofs.lemmas.Bool.{le-leb, lt-leb, leb-true, leb-false}
use Rattle.std.proofs.lemmas.List.{length-append, length-map, map-append, drop_more, drop_all}
use Rattle.std.proofs.lemmas.Grind.{flat_map-append}
use Rattle.std.specs.List.{flat_map}
use Rattle.own_cert.specs.declared.certificate.PlaceBits.{PlaceBits}
use Rattle.own_cert.specs.declared.certificate.Instance.{Instance}
use Rattle.own_cert.specs.declared.certificate.Certificate.{Certificate}
use Rattle.own_cert.specs.declared.lines.Version.TheVariants.{First, Second}
use Rattle.own_cert.specs.declared.lines.Run.{Run}
use Rattle.own_cert.specs.declared.lines.Line.{Line}
use Rattle.own_cert.specs.declared.lines.Line.TheVariants as line
use Rattle.own_cert.specs.Text.{goes_on, run_of, with_row, runs_of, place_lines, instance_lines, lines_of}
use Rattle.own_cert.specs.Runs.{rows_of, places_in, more_of_run}
use Rattle.conflict_proof.specs.Fronts.{BeginsNot}
use Rattle.own_cert.specs.Holders.{BeginsSecond, first_lines_of, held_by, Stands, HoldsFirst}
use Rattle.own_cert.proofs.RunLemmas.{goes_on_is, run_at, first_run, runs_whole, Ordered, length_from}

-- all of the first text is held
runs_hold : (runs : List Run) → flat_map first_lines_of (map line.Places runs) ≡ map line.Place (flat_map rows_of runs)
runs_hold [] = refl
runs_hold (run ∷ runs) = ap (λ w. map line.Place (rows_of run) ++ w) (runs_hold runs) ∙ sym (map-append line.Place (rows_of run) (flat_map rows_of runs))

places_hold : (rows : List PlaceBits) → flat_map first_lines_of (place_lines Second rows) ≡ place_lines First rows
places_hold rows = runs_hold (runs_of rows) ∙ ap (map line.Place) (runs_whole rows).same

instance_holds : (i : Instance) → flat_map first_lines_of (instance_lines Second i) ≡ instance_lines First i
instance_holds i = ap (λ w. line.Instance i.group i.entry ∷ line.Iface i.iface ∷ line.Sites i.sites ∷ w) (places_hold i.places)

pub instances_hold : (is : List Instance) → flat_map first_lines_of (flat_map (instance_lines Second) is) ≡ flat_map (instance_lines First) is
instances_hold [] = refl
instances_hold (i ∷ is) =
    flat_map-append first_lines_of (instance_lines Second i) (flat_map (instance_lines Second) is)
    ∙ ap (λ w. w ++ flat_map first_lines_of (flat_map (instance_lines Second) is)) (instance_holds i)
    ∙ ap (λ w. instance_lines First i ++ w) (instances_hold is)

pub holds_first : (c : Certificate) → HoldsFirst c
holds_first c =
    ap (λ w. line.Header First ∷ line.Phi c.phi ∷ w)
    (flat_map-append first_lines_of (flat_map (instance_lines Second) c.instances) (line.End (length c.instances) ∷ [])
    ∙ ap (λ w. w ++ line.End (length c.instances) ∷ []) (instances_hold c.instances))

-- the line, from 1, that stands for line n
abbrev width : Line → ℕ
width l = length (first_lines_of l)

abbrev pub find : List Line → ℕ → ℕ
find [] n = 0
find (l ∷ ls) n = if leb n (width l) then 1 else suc (find ls (n - width l))

held_more : (l : Line) (ls : List Line) → held_by (l ∷ ls) ≡ width l + held_by ls
held_more l ls = length-append (first_lines_of l) (flat_map first_lines_of ls)

stands_later : (l : Line) (ls : List Line) (n m : ℕ) → width l < n → Stands ls (n - width l) m → Stands (l ∷ ls) n (suc m)
stands_later l ls n zero over s = absurd (omega (arith, s.some))
stands_later l ls n (suc m) over s =
    let one : suc (suc m) - 1 ≡ suc m = omega arith in
    let two : m ≡ suc m - 1 = omega arith in
    let before : held_by (take (suc (suc m) - 1) (l ∷ ls)) ≡ width l + held_by (take (suc m - 1) ls) =
    ap (λ k. held_by (take k (l ∷ ls))) one ∙ held_more l (take m ls) ∙ ap (λ k. width l + held_by (take k ls)) two in
    let up_to : held_by (take (suc (suc m)) (l ∷ ls)) ≡ width l + held_by (take (suc m) ls) = held_more l (take (suc m) ls) in
    record { some = omega arith; within = omega (arith, s.within); before = omega (arith, before, s.before, over); up_to = omega (arith, up_to, s.up_to, over) }

stands_by : (l : Line) (ls : List Line) (n : ℕ) (t : Bool) → leb n (width l) ≡ t → 1 ≤ n → (width l < n → Stands ls (n - width l) (find ls (n - width l))) → Stands (l ∷ ls) n (find (l ∷ ls) n)
stands_by l ls n true e some rest = rw e (let h = held_more l [] in record { some = omega arith; within = omega arith; before = omega (arith, some); up_to = omega (arith, h, leb-true n (width l) e) })
stands_by l ls n false e some rest = let over : width l < n = leb-false n (width l) e in rw e (stands_later l ls n (find ls (n - width l)) over (rest over))

pub find_stands : (ls : List Line) (n : ℕ) → 1 ≤ n → n ≤ held_by ls → Stands ls n (find ls n)
find_stands [] n some within = absurd (omega (arith, some, within))
find_stands (l ∷ ls) n some within = stands_by l ls n (leb n (width l)) refl some (λ over. find_stands ls (n - width l) (omega (arith, over)) (let h = held_more l ls in omega (arith, h, within, over)))

-- a line that stands for one, and lines that stand for fewer
find_one : (l : Line) (ls : List Line) (n : ℕ) → width l ≡ 1 → 1 < n → find (l ∷ ls) n ≡ suc (find ls (n - 1))
find_one l ls n one more =
    let over : width l < n = omega (arith, one, more) in
    rw (lt-leb n (width l) over) (ap (λ k. suc (find ls (n - k))) one)

find_here : (l : Line) (ls : List Line) → width l ≡ 1 → find (l ∷ ls) 1 ≡ 1
find_here l ls one = let low : 1 ≤ width l = omega (arith, one) in rw (le-leb 1 (width l) low) refl

find_after_by : (l : Line) (ks ls : List Line) (n : ℕ) (t : Bool) → leb n (width l) ≡ t → held_by (l ∷ ks) < n → (held_by ks < n - width l → find (ks ++ ls) (n - width l) ≡ length ks + find ls (n - width l - held_by ks))
    → find (l ∷ ks ++ ls) n ≡ length (l ∷ ks) + find ls (n - held_by (l ∷ ks))
find_after_by l ks ls n true e over rest = let low : n ≤ width l = leb-true n (width l) e in let h = held_more l ks in absurd (omega (arith, low, h, over))
find_after_by l ks ls n false e over rest =
    let h = held_more l ks in
    let place : n - width l - held_by ks ≡ n - held_by (l ∷ ks) = omega (arith, h) in
    rw e (ap suc (rest (omega (arith, h, over))) ∙ ap (λ k. suc (length ks + find ls k)) place ∙ omega arith)

pub find_after : (ks ls : List Line) (n : ℕ) → held_by ks < n → find (ks ++ ls) n ≡ length ks + find ls (n - held_by ks)
find_after [] ls n over = let same : n ≡ n - 0 = omega arith in ap (find ls) same ∙ omega arith
find_after (l ∷ ks) ls n over = find_after_by l ks ls n (leb n (width l)) refl over (λ h. find_after ks ls (n - width l) h)

-- lines of runs
width_run : (run : Run) → width (line.Places run) ≡ places_in run
width_run run = length-map (rows_of run) line.Place ∙ length_from run.proc run.bits run.first (places_in run)

abbrev runs_find : List Run → List Line → ℕ → ℕ
runs_find runs more k = find (map line.Places runs ++ more) k

-- the first run of some rows begins with the first row
record Head (next : PlaceBits) (runs : List Run) : Type 0 where
  last : ℕ
  others : List Run
  is : runs ≡ run_at next.proc next.bits next.place last ∷ others

head_of : (next : PlaceBits) (rows : List PlaceBits) → Head next (runs_of (next ∷ rows))
head_of next rows = record { last = _; others = _; is = first_run next rows }

-- a row before rows
later_by : (l k : Line) (ls : List Line) (n : ℕ) (t : Bool) → leb n (width l) ≡ t → width k ≡ width l + 1 → find (k ∷ ls) (suc n) ≡ find (l ∷ ls) n
later_by l k ls n true e one =
    let low : suc n ≤ width k = omega (arith, one, leb-true n (width l) e) in
    rw (e, le-leb (suc n) (width k) low) refl
later_by l k ls n false e one =
    let over : width k < suc n = omega (arith, one, leb-false n (width l) e) in
    let place : suc n - width k ≡ n - width l = omega (arith, one) in
    rw (e, lt-leb (suc n) (width k) over) (ap (λ m. suc (find ls m)) place)

row_find_by : (row : PlaceBits) (run : Run) (runs : List Run) (more : List Line) (k : ℕ) (t : Bool) → goes_on row run ≡ t → run.first ≤ run.last → 1 ≤ k
    → runs_find (with_row row (run ∷ runs)) more (suc k) ≡ (if t then 0 else 1) + runs_find (run ∷ runs) more k
row_find_by row run runs more k true e order some =
    let on = goes_on_is row run e in
    let longer = record run { first = row.place } in
    let wide : width (line.Places longer) ≡ width (line.Places run) + 1 = width_run longer ∙ omega (arith, on.next, order, width_run run) in
    rw e (later_by (line.Places run) (line.Places longer) (map line.Places runs ++ more) k (leb k (width (line.Places run))) refl wide ∙ omega arith)
row_find_by row run runs more k false e order some =
    let wide : width (line.Places (run_of row)) ≡ 1 = width_run (run_of row) ∙ omega arith in
    let place : suc k - 1 ≡ k = omega arith in
    rw e (find_one (line.Places (run_of row)) (map line.Places (run ∷ runs) ++ more) (suc k) wide (omega (arith, some)) ∙ ap (λ m. suc (runs_find (run ∷ runs) more m)) place ∙ omega arith)

row_length_by : (row : PlaceBits) (run : Run) (runs : List Run) (t : Bool) → goes_on row run ≡ t → length (with_row row (run ∷ runs)) ≡ (if t then 0 else 1) + length (run ∷ runs)
row_length_by row run runs true e = rw e (omega arith)
row_length_by row run runs false e = rw e (omega arith)

first_of_runs : (row : PlaceBits) (rows : List PlaceBits) (more : List Line) → runs_find (runs_of (row ∷ rows)) more 1 ≡ 1
first_of_runs row rows more =
    let h = head_of row rows in
    let run = run_at row.proc row.bits row.place h.last in
    let some : 1 ≤ width (line.Places run) = omega (arith, width_run run) in
    ap (λ w. runs_find w more 1) h.is ∙ rw (le-leb 1 (width (line.Places run)) some) refl

-- a place's line among those of its instance
pub place_find : (rows : List PlaceBits) (more : List Line) (k : ℕ) → 1 ≤ k → k ≤ length rows → runs_find (runs_of rows) more k ≡ length (runs_of (take k rows))
place_find [] more k some low = absurd (omega (arith, some, low))
place_find (row ∷ rows) more zero some low = absurd (omega (arith, some))
place_find (row ∷ rows) more (suc zero) some low = first_of_runs row rows more
place_find (row ∷ []) more (suc (suc k)) some low = absurd (omega (arith, low))
place_find (row ∷ next ∷ rows) more (suc (suc k)) some low =
    let rest = place_find (next ∷ rows) more (suc k) (omega arith) (omega (arith, low)) in
    let runs = runs_of (next ∷ rows) in
    let h = head_of next rows in
    let run = run_at next.proc next.bits next.place h.last in
    let t = goes_on row (run_of next) in
    let ordered = subst Ordered h.is (runs_whole (next ∷ rows)).ordered in
    let front = head_of next (take k rows) in
    let other = run_at next.proc next.bits next.place front.last in
    ap (λ w. runs_find (with_row row w) more (suc (suc k))) h.is
    ∙ row_find_by row run h.others more (suc k) t refl ordered.0 (omega arith)
    ∙ ap (λ w. (if t then 0 else 1) + runs_find w more (suc k)) (sym h.is)
    ∙ ap (λ n. (if t then 0 else 1) + n) rest
    ∙ ap (λ w. (if t then 0 else 1) + length w) front.is
    ∙ sym (ap (λ w. length (with_row row w)) front.is ∙ row_length_by row other front.others t refl)

-- how many runs there are
pub runs_counted : (row : PlaceBits) (rows : List PlaceBits) → length (runs_of (row ∷ rows)) ≡ suc (length (runs_of (drop (more_of_run row rows) rows)))
runs_counted row rows = ap length (first_run row rows)

with_row_length : (row : PlaceBits) (runs : List Run) → length (with_row row runs) ≤ suc (length runs)
with_row_length row [] = omega arith
with_row_length row (run ∷ runs) = by_test (goes_on row run) refl
  where
    by_test : (t : Bool) → goes_on row run ≡ t → length (with_row row (run ∷ runs)) ≤ suc (length (run ∷ runs))
    by_test true e = omega (arith, row_length_by row run runs true e)
    by_test false e = omega (arith, row_length_by row run runs false e)

pub fewer_runs : (rows : List PlaceBits) → length (runs_of rows) ≤ length rows
fewer_runs [] = omega arith
fewer_runs (row ∷ rows) = omega (arith, with_row_length row (runs_of rows), fewer_runs rows)

-- three lines that stand for one each
abbrev head_lines : Instance → List Line → List Line
head_lines i ls = line.Instance i.group i.entry ∷ line.Iface i.iface ∷ line.Sites i.sites ∷ ls

head_find : (i : Instance) (ls : List Line) (n : ℕ) → 1 ≤ n → n ≤ 3 → find (head_lines i ls) n ≡ n
head_find i ls zero some low = absurd (omega (arith, some))
head_find i ls (suc zero) some low = refl
head_find i ls (suc (suc zero)) some low = refl
head_find i ls (suc (suc (suc zero))) some low = refl
head_find i ls (suc (suc (suc (suc n)))) some low = absurd (omega (arith, low))

past_head : (i : Instance) (ls : List Line) (n : ℕ) → 3 < n → find (head_lines i ls) n ≡ 3 + find ls (n - 3)
past_head i ls n over = find_after (head_lines i []) ls n over

-- the lines after k instances
abbrev pub tail_lines : Certificate → ℕ → List Line
tail_lines c k = flat_map (instance_lines Second) (drop k c.instances) ++ line.End (length c.instances) ∷ []

-- where the search for a line stands
pub record Walks (c : Certificate) (n at left k : ℕ) : Type 0 where
  pub found : find (lines_of Second c) n ≡ at + find (tail_lines c k) left
  pub some : 1 ≤ left
  pub within : left ≤ held_by (tail_lines c k)
  pub low : at + left ≤ n

held_all : (c : Certificate) → held_by (lines_of Second c) ≡ length (lines_of First c)
held_all c = ap length (holds_first c)

pub walks_start : (c : Certificate) (n : ℕ) → 2 < n → n ≤ length (lines_of First c) → Walks c n 2 (n - 2) 0
walks_start c n over within =
    let front = line.Header Second ∷ line.Phi c.phi ∷ [] in
    let all : held_by (lines_of Second c) ≡ 2 + held_by (tail_lines c 0) = omega arith in
    record { found = find_after front (tail_lines c 0) n over; some = omega (arith, over); within = omega (arith, within, all, held_all c); low = omega (arith, over) }

pub walks_first : (c : Certificate) (n : ℕ) → 1 ≤ n → n ≤ 2 → find (lines_of Second c) n ≡ n
walks_first c zero some low = absurd (omega (arith, some))
walks_first c (suc zero) some low = refl
walks_first c (suc (suc zero)) some low = refl
walks_first c (suc (suc (suc n))) some low = absurd (omega (arith, low))

tail_front : (c : Certificate) (k : ℕ) (i : Instance) → k < length c.instances → i ≡ get_or c.instances k i → tail_lines c k ≡ head_lines i (place_lines Second i.places ++ tail_lines c (k + 1))
tail_front c k i low is =
    let end = line.End (length c.instances) ∷ [] in
    let rest = flat_map (instance_lines Second) (drop (k + 1) c.instances) in
    ap (λ w. flat_map (instance_lines Second) w ++ end) (drop_more c.instances k i low ∙ ap (λ j. j ∷ drop (k + 1) c.instances) (sym is))
    ∙ append_assoc (instance_lines Second i) rest end

pub walks_head : (c : Certificate) (n at left k : ℕ) (i : Instance) → k < length c.instances → i ≡ get_or c.instances k i → Walks c n at left k → left ≤ 3 → find (lines_of Second c) n ≡ at + left
walks_head c n at left k i low is w short =
    w.found ∙ ap (λ ls. at + find ls left) (tail_front c k i low is) ∙ ap (λ m. at + m) (head_find i (place_lines Second i.places ++ tail_lines c (k + 1)) left w.some short)

past : (c : Certificate) (n at left k : ℕ) (i : Instance) → k < length c.instances → i ≡ get_or c.instances k i → Walks c n at left k → 3 < left
    → find (lines_of Second c) n ≡ at + (3 + find (place_lines Second i.places ++ tail_lines c (k + 1)) (left - 3))
past c n at left k i low is w over =
    w.found ∙ ap (λ ls. at + find ls left) (tail_front c k i low is) ∙ ap (λ m. at + m) (past_head i (place_lines Second i.places ++ tail_lines c (k + 1)) left over)

pub walks_place : (c : Certificate) (n at left k : ℕ) (i : Instance) → k < length c.instances → i ≡ get_or c.instances k i → Walks c n at left k → 3 < left → left - 3 ≤ length i.places
    → find (lines_of Second c) n ≡ at + (3 + length (runs_of (take (left - 3) i.places)))
walks_place c n at left k i low is w over here =
    past c n at left k i low is w over ∙ ap (λ m. at + (3 + m)) (place_find i.places (tail_lines c (k + 1)) (left - 3) (omega (arith, over)) here)

held_places : (i : Instance) → held_by (place_lines Second i.places) ≡ length i.places
held_places i = ap length (places_hold i.places) ∙ length-map i.places line.Place

held-append : (ks ls : List Line) → held_by (ks ++ ls) ≡ held_by ks + held_by ls
held-append ks ls = ap length (flat_map-append first_lines_of ks ls) ∙ length-append (flat_map first_lines_of ks) (flat_map first_lines_of ls)

pub walks_on : (c : Certificate) (n at left k : ℕ) (i : Instance) → k < length c.instances → i ≡ get_or c.instances k i → Walks c n at left k → 3 < left → length i.places < left - 3
    → Walks c n (at + (3 + length (runs_of i.places))) (left - 3 - length i.places) (k + 1)
walks_on c n at left k i low is w over beyond =
    let places = place_lines Second i.places in
    let rest = tail_lines c (k + 1) in
    let held = held_places i in
    let count : length places ≡ length (runs_of i.places) = length-map (runs_of i.places) line.Places in
    let after = find_after places rest (left - 3) (omega (arith, held, beyond)) in
    let all : held_by (tail_lines c k) ≡ 3 + (held_by places + held_by rest) =
    ap held_by (tail_front c k i low is) ∙ held-append (head_lines i []) (places ++ rest) ∙ ap (λ m. 3 + m) (held-append places rest) in
    record {
      found =
          past c n at left k i low is w over ∙ ap (λ m. at + (3 + m)) after ∙ ap (λ m. at + (3 + (m + find rest (left - 3 - held_by places)))) count
          ∙ ap (λ m. at + (3 + (length (runs_of i.places) + find rest (left - 3 - m)))) held ∙ omega arith;
      some = omega (arith, beyond);
      within = omega (arith, w.within, all, held, beyond);
      low = omega (arith, w.low, fewer_runs i.places, beyond, over);
    }

pub walks_end : (c : Certificate) (n at left k : ℕ) → length c.instances ≤ k → Walks c n at left k → find (lines_of Second c) n ≡ at + left
walks_end c n at left k end w =
    let none : tail_lines c k ≡ line.End (length c.instances) ∷ [] = ap (λ is. flat_map (instance_lines Second) is ++ line.End (length c.instances) ∷ []) (drop_all k c.instances end) in
    let held : held_by (tail_lines c k) ≡ 1 = ap held_by none in
    let one : left ≡ 1 = omega (arith, held, w.within, w.some) in
    w.found ∙ ap (λ ls. at + find ls left) none ∙ ap (λ m. at + find (line.End (length c.instances) ∷ []) m) one ∙ ap (λ m. at + m) (sym one)

pub stands : (c : Certificate) (n m : ℕ) → 1 ≤ n → n ≤ length (lines_of First c) → find (lines_of Second c) n ≡ m → Stands (lines_of Second c) n m
stands c n m some within e = subst (Stands (lines_of Second c) n) e (find_stands (lines_of Second c) n some (omega (arith, within, held_all c)))

-- the first line is another one
pub not_second : (bs : List ℕ) → BeginsNot (codes "clouseau certificate 2\n") bs → ◌≡◌ {A = ℕ} 1 2 ↔ BeginsSecond bs
not_second bs none = (λ e. absurd (omega (arith, e)), λ h. absurd (none h.0 h.1))
