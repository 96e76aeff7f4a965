-- What printing adds, line by line.
use Rattle.std.proofs.Common.{◌≡◌, ℕ, ◌+◌, ◌<◌, ◌≤◌, ◌^◌, Bool, true, false, if◌then◌else◌, List, [], ◌∷◌, ◌++◌, length, map, take, drop, get_or, refl, sym, ap, subst, ◌∙◌, append_assoc, codes, decimal, Result, Ok, Err, OnOk, arith}
use Rattle.std.proofs.lemmas.List.{append-nil, map-append, map_push, take-append-drop, take_all}
use Rattle.std.proofs.lemmas.List.Elements.{All-push, All-append}
use Rattle.std.proofs.lemmas.Grind.{flat_map-append}
use Rattle.std.specs.List.{All, flat_map}
use Rattle.line_texts.specs.Lines.{with_line_feeds}
use Rattle.conflict_proof.specs.Text.{numbers_text}
use Rattle.conflict_proof.proofs.PrintLemmas.{taken}
use Rattle.line_texts.proofs.LineFeeds.{feeds_join}
use Rattle.own_cert.specs.declared.certificate.PlaceBits.{PlaceBits}
use Rattle.own_cert.specs.declared.certificate.Instance.{Instance}
use Rattle.own_cert.specs.declared.certificate.Certificate.{Certificate}
use Rattle.own_cert.specs.declared.lines.Version.{Version}
use Rattle.own_cert.specs.declared.lines.Version.TheVariants.{First, Second}
use Rattle.own_cert.specs.declared.lines.Run.{Run}
use Rattle.own_cert.specs.declared.lines.Line.{Line}
use Rattle.own_cert.specs.declared.lines.Line.TheVariants as line
use Rattle.own_cert.specs.Text.{digit, bits_text, header_text, line_text, runs_of, instance_lines, fits_second, printed_version, certificate_text}
use Rattle.own_cert.specs.Runs.{more_of_run}
use Rattle.own_cert.specs.LineForms.{words_text}
use Rattle.own_cert.specs.Values.{IsRow, IsInstance, Has}
use Rattle.conflict_proof.proofs.LineLemmas.{three}
use Rattle.own_cert.proofs.LineLemmas.{two}
use Rattle.own_cert.proofs.RunLemmas.{run_at, first_run}
use Rattle.own_cert.proofs.ReadLemmas.{bytes_of}

bytes_push : (ls : List Line) (l : Line) → bytes_of (ls ++ l ∷ []) ≡ bytes_of ls ++ (line_text l ++ 10 ∷ [])
bytes_push ls l =
    ap with_line_feeds (map-append line_text ls (l ∷ [])) ∙ feeds_join (map line_text ls) (line_text l ∷ [])
    ∙ ap (λ (w : List ℕ). bytes_of ls ++ w) (append-nil (line_text l ++ 10 ∷ []))

-- one line more
pub line_put : (ls : List Line) (l : Line) (start out new : List ℕ) → out ≡ start ++ bytes_of ls → new ≡ out ++ (line_text l ++ 10 ∷ []) → new ≡ start ++ bytes_of (ls ++ l ∷ [])
line_put ls l start out new before after =
    after ∙ ap (λ (w : List ℕ). w ++ (line_text l ++ 10 ∷ [])) before ∙ append_assoc start (bytes_of ls) (line_text l ++ 10 ∷ []) ∙ ap (λ (w : List ℕ). start ++ w) (sym (bytes_push ls l))

pub place_put : (rows : List PlaceBits) (i : ℕ) (row : PlaceBits) (start out new : List ℕ) → i < length rows → row ≡ get_or rows i row → out ≡ start ++ bytes_of (map line.Place (take i rows))
    → new ≡ out ++ (line_text (line.Place row) ++ 10 ∷ []) → new ≡ start ++ bytes_of (map line.Place (take (i + 1) rows))
place_put rows i row start out new low is before after =
    line_put (map line.Place (take i rows)) (line.Place row) start out new before after
    ∙ ap (λ w. start ++ bytes_of w) (sym (ap (map line.Place) (taken rows i row low is) ∙ map_push line.Place (take i rows) row))

-- one run more
pub run_put : (row : PlaceBits) (rows rest : List PlaceBits) (last : ℕ) (start out new : List ℕ) → rest ≡ row ∷ rows → last ≡ (get_or rest (more_of_run row rows) row).place
    → out ++ bytes_of (map line.Places (runs_of rest)) ≡ start → new ≡ out ++ (line_text (line.Places (run_at row.proc row.bits row.place last)) ++ 10 ∷ [])
    → new ++ bytes_of (map line.Places (runs_of (drop (more_of_run row rows) rows))) ≡ start
run_put row rows rest last start out new whole is before after =
    let run = run_at row.proc row.bits row.place last in
    let others = map line.Places (runs_of (drop (more_of_run row rows) rows)) in
    let end : (get_or (row ∷ rows) (more_of_run row rows) row).place ≡ last = ap (λ w. (get_or w (more_of_run row rows) row).place) (sym whole) ∙ sym is in
    let runs : runs_of rest ≡ run ∷ runs_of (drop (more_of_run row rows) rows) =
    ap runs_of whole ∙ first_run row rows ∙ ap (λ k. run_at row.proc row.bits row.place k ∷ runs_of (drop (more_of_run row rows) rows)) end in
    ap (λ (w : List ℕ). w ++ bytes_of others) after
    ∙ append_assoc out (line_text (line.Places run) ++ 10 ∷ []) (bytes_of others)
    ∙ sym (ap (λ w. out ++ bytes_of (map line.Places w)) runs)
    ∙ before

-- rows that are valid, run by run
pub rows_before : (row : PlaceBits) (rows : List PlaceBits) (n : ℕ) → IsRow row → All IsRow (take n rows) → All IsRow (drop n rows) → All IsRow (row ∷ rows)
rows_before row rows n first some others = All-append IsRow (row ∷ []) rows (single row first) (subst (All IsRow) (take-append-drop n rows) (All-append IsRow (take n rows) (drop n rows) some others))
  where
    single : (r : PlaceBits) → IsRow r → All IsRow (r ∷ [])
    single r is = All-push IsRow [] r (λ k d h. absurd (omega arith)) is

-- bits
pub bits_put : (bits : List Bool) (start out new : List ℕ) → 0 < length bits → out ≡ start ++ 32 ∷ [] → new ≡ out ++ map digit bits → new ≡ start ++ bits_text bits
bits_put [] start out new some before after = absurd (omega arith)
bits_put (b ∷ bits) start out new some before after = after ∙ ap (λ (w : List ℕ). w ++ map digit (b ∷ bits)) before ∙ append_assoc start (32 ∷ []) (map digit (b ∷ bits))

-- one instance more
pub instance_put : (v : Version) (is : List Instance) (k : ℕ) (i : Instance) (front : List Line) (out new : List ℕ) → k < length is → i ≡ get_or is k i → out ≡ bytes_of (front ++ flat_map (instance_lines v) (take k is))
    → new ≡ out ++ bytes_of (instance_lines v i) → new ≡ bytes_of (front ++ flat_map (instance_lines v) (take (k + 1) is))
instance_put v is k i front out new low e before after =
    let done = flat_map (instance_lines v) (take k is) in
    let more : flat_map (instance_lines v) (take (k + 1) is) ≡ done ++ instance_lines v i =
    ap (flat_map (instance_lines v)) (taken is k i low e) ∙ flat_map-append (instance_lines v) (take k is) (i ∷ []) ∙ ap (λ w. done ++ w) (append-nil (instance_lines v i)) in
    after ∙ ap (λ (w : List ℕ). w ++ bytes_of (instance_lines v i)) before
    ∙ sym (ap with_line_feeds (map-append line_text (front ++ done) (instance_lines v i)) ∙ feeds_join (map line_text (front ++ done)) (map line_text (instance_lines v i)))
    ∙ ap bytes_of (append_assoc front done (instance_lines v i) ∙ ap (λ w. front ++ w) (sym more))

pub none_left : (rows : List PlaceBits) → length rows ≡ 0 → All IsRow rows
none_left rows none k d low = absurd (omega (arith, none, low))

-- a line by its word, numbers and bits
pub place_words : (row : PlaceBits) → words_text (codes "place") (two row.proc row.place) row.bits ≡ line_text (line.Place row) ++ 10 ∷ []
place_words row = ap (λ (w : List ℕ). codes "place" ++ w) (sym (append_assoc (numbers_text (two row.proc row.place)) (bits_text row.bits) (10 ∷ [])))

pub run_words : (run : Run) → words_text (codes "places") (three run.proc run.first run.last) run.bits ≡ line_text (line.Places run) ++ 10 ∷ []
run_words run = ap (λ (w : List ℕ). codes "places" ++ w) (sym (append_assoc (numbers_text (three run.proc run.first run.last)) (bits_text run.bits) (10 ∷ [])))

pub row_small : (row : PlaceBits) (more : List ℕ) → All (λ n. n < 2 ^ 32) (row.proc ∷ row.place ∷ more) → IsRow row
row_small row more small = record { proc = small 0 0 (omega arith); place = small 1 0 (omega arith) }

pub front_put : (v : Version) (phi : List Bool) (out new : List ℕ) → out ≡ header_text v ++ codes "\n" → new ≡ out ++ words_text (codes "phi") [] phi → new ≡ bytes_of (line.Header v ∷ line.Phi phi ∷ [])
front_put v phi out new before after =
    after ∙ ap (λ (w : List ℕ). w ++ words_text (codes "phi") [] phi) before
    ∙ ap (λ (w : List ℕ). (header_text v ++ codes "\n") ++ (codes "phi" ++ w)) (sym (append-nil (bits_text phi ++ 10 ∷ [])))

pub has_printed : (c : Certificate) → Has (printed_version c) c
has_printed c = by_test (fits_second c) refl
  where
    by_test : (t : Bool) → fits_second c ≡ t → Has (if t then Second else First) c
    by_test true e = e
    by_test false e = tt

pub instance_is : {X E : Type 0} (r : Result X E) (i : Instance) → All (λ n. n < 2 ^ 32) (i.group ∷ i.entry ∷ []) → All (λ n. n < 2 ^ 32) i.sites → OnOk r (All IsRow i.places) → OnOk r (IsInstance i)
instance_is (Ok x) i head sites rows = record { group = head 0 0 (omega arith); entry = head 1 0 (omega arith); sites = sites; places = rows }
instance_is (Err x) i head sites rows = tt

-- the end
pub whole_put : (c : Certificate) (v : Version) (is : List Instance) (k count : ℕ) (out new : List ℕ) → v ≡ printed_version c → is ≡ c.instances → length is ≤ k
    → out ≡ bytes_of (line.Header v ∷ line.Phi c.phi ∷ flat_map (instance_lines v) (take k is)) → count ≡ length is → new ≡ out ++ (codes "end " ++ (decimal count ++ codes "\n")) → new ≡ certificate_text c
whole_put c v is k count out new version all long before counted after =
    let front = λ (w : Version) (xs : List Instance). line.Header w ∷ line.Phi c.phi ∷ flat_map (instance_lines w) xs in
    let same : take k is ≡ c.instances = take_all k is long ∙ all in
    line_put (front v c.instances) (line.End count) [] out new (before ∙ ap (λ xs. bytes_of (front v xs)) same) after
    ∙ ap (λ n. bytes_of (front v c.instances ++ line.End n ∷ [])) (counted ∙ ap length all)
    ∙ ap (λ w. bytes_of (front w c.instances ++ line.End (length c.instances) ∷ [])) version
