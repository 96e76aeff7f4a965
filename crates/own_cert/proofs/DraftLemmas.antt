-- Reading goes through the lines of each text, and what it has gone through begins a text.
use Rattle.std.proofs.Common.{◌≡◌, ℕ, ◌+◌, ◌-◌, ◌*◌, ◌≤◌, ◌==◌, if◌then◌else◌, Bool, true, false, List, [], ◌∷◌, ◌++◌, length, map, refl, sym, ap, subst, ◌∙◌, append_assoc, leb, Option, Some, None, arith}
use Rattle.std.proofs.lemmas.Bool.{eq-eqb, le-leb, leb-true}
use Rattle.std.proofs.lemmas.List.{append-nil, length-append}
use Rattle.std.specs.List.{flat_map}
use Rattle.conflict_proof.proofs.Digits.{both}
use Rattle.own_cert.specs.declared.certificate.PlaceBits.{PlaceBits}
use Rattle.own_cert.specs.declared.certificate.Instance.{Instance}
use Rattle.own_cert.specs.declared.certificate.Certificate.{Certificate}
use Rattle.own_cert.specs.declared.lines.Version.{Version}
use Rattle.own_cert.specs.declared.lines.Version.TheVariants.{First, Second}
use Rattle.own_cert.specs.declared.lines.Run.{Run}
use Rattle.own_cert.specs.declared.lines.Line.{Line}
use Rattle.own_cert.specs.declared.lines.Line.TheVariants as line
use Rattle.own_cert.specs.declared.runs.Room.{Room}
use Rattle.own_cert.specs.declared.draft.Draft.{Draft}
use Rattle.own_cert.specs.declared.draft.State.{State}
use Rattle.own_cert.specs.declared.draft.State.TheVariants as at
use Rattle.own_cert.specs.Text.{runs_of, place_lines, instance_lines, lines_of, row_bits, places_of, bits_of}
use Rattle.own_cert.specs.Values.{Has}
use Rattle.own_cert.specs.Runs.{rows_of, goes_on_from, after_last, places_in, room_less, room_after, Apart, last_of}
use Rattle.own_cert.specs.Drafts.{empty_draft, between, more_places, take_room, after_run, next}
use Rattle.line_texts.specs.Texts as of_kind
use Rattle.line_texts.proofs.Reading.{walk-append}
use Rattle.own_cert.specs.Reading.{certificates}
use Rattle.own_cert.proofs.RunLemmas.{Ordered, runs_apart, runs_whole, final, last_is, final-append, final_run, length_from, bits_from, row_bits-append}

-- where lines lead to
abbrev pub walk : Option State → List Line → Option State
walk o ls = of_kind.walk certificates o ls

-- drafts and instances by their parts
abbrev pub draft : Version → List Bool → List Instance → Room → Draft
draft version phi instances room = record { version = version; phi = phi; instances = instances; room = room }

abbrev pub room_of : ℕ → ℕ → Room
room_of places bits = record { places = places; bits = bits }

abbrev pub certificate : List Bool → List Instance → Certificate
certificate phi instances = record { phi = phi; instances = instances }

more_more : (i : Instance) (rs ss : List PlaceBits) → more_places (more_places i rs) ss ≡ more_places i (rs ++ ss)
more_more i rs ss = ap (λ w. record i { places = w }) (append_assoc i.places rs ss)

more_none : (i : Instance) → more_places i [] ≡ i
more_none i = ap (λ w. record i { places = w }) (append-nil i.places)

-- the places of an instance, by their lines
walk_places : (phi : List Bool) (is : List Instance) (room : Room) (i : Instance) (rows : List PlaceBits)
    → walk (Some (at.Placed (draft First phi is room) i)) (map line.Place rows) ≡ Some (at.Placed (draft First phi is room) (more_places i rows))
walk_places phi is room i [] = ap (λ j. Some (at.Placed (draft First phi is room) j)) (sym (more_none i))
walk_places phi is room i (row ∷ rows) =
    walk_places phi is room (more_places i (row ∷ [])) rows
    ∙ ap (λ j. Some (at.Placed (draft First phi is room) j)) (more_more i (row ∷ []) rows)

-- the places and the bits of runs
abbrev all_places : List Run → ℕ
all_places runs = length (flat_map rows_of runs)

abbrev all_bits : List Run → ℕ
all_bits runs = row_bits (flat_map rows_of runs)

all_places_more : (run : Run) (runs : List Run) → all_places (run ∷ runs) ≡ places_in run + all_places runs
all_places_more run runs = length-append (rows_of run) (flat_map rows_of runs) ∙ ap (λ n. n + all_places runs) (length_from run.proc run.bits run.first (places_in run))

all_bits_more : (run : Run) (runs : List Run) → all_bits (run ∷ runs) ≡ length run.bits * places_in run + all_bits runs
all_bits_more run runs = row_bits-append (rows_of run) (flat_map rows_of runs) ∙ ap (λ n. n + all_bits runs) (bits_from run.proc run.bits run.first (places_in run))

room_is : (room : Room) (p b : ℕ) → p ≤ room.places → b ≤ room.bits → room_less room p b ≡ Some (room_of (room.places - p) (room.bits - b))
room_is room p b hp hb = rw (le-leb p room.places hp, le-leb b room.bits hb) refl

one_run_step : (phi : List Bool) (is : List Instance) (room : Room) (i : Instance) (run : Run) → after_last i.places run ≡ false → places_in run ≤ room.places → length run.bits * places_in run ≤ room.bits
    → after_run Second (draft Second phi is room) i run ≡ Some (at.Placed (draft Second phi is (room_of (room.places - places_in run) (room.bits - length run.bits * places_in run))) (more_places i (rows_of run)))
one_run_step phi is room i run apart hp hb =
    ap (λ t. if t then None else take_room (draft Second phi is room) i run (room_after room run)) apart
    ∙ ap (take_room (draft Second phi is room) i run) (room_is room (places_in run) (length run.bits * places_in run) hp hb)

walk_runs : (phi : List Bool) (is : List Instance) (room : Room) (i : Instance) (runs : List Run)
    → Apart (final None i.places) runs → Ordered runs → all_places runs ≤ room.places → all_bits runs ≤ room.bits
    → walk (Some (at.Placed (draft Second phi is room) i)) (map line.Places runs)
    ≡ Some (at.Placed (draft Second phi is (room_of (room.places - all_places runs) (room.bits - all_bits runs))) (more_places i (flat_map rows_of runs)))
walk_runs phi is room i [] apart order hp hb =
    let p : room.places ≡ room.places - 0 = omega arith in
    let b : room.bits ≡ room.bits - 0 = omega arith in
    ap (λ j. Some (at.Placed (draft Second phi is room) j)) (sym (more_none i))
    ∙ ap (λ n. Some (at.Placed (draft Second phi is (room_of n room.bits)) (more_places i []))) p
    ∙ ap (λ n. Some (at.Placed (draft Second phi is (room_of (room.places - 0) n)) (more_places i []))) b
walk_runs phi is room i (run ∷ runs) apart order hp hb =
    let pm = all_places_more run runs in
    let bm = all_bits_more run runs in
    let here : after_last i.places run ≡ false = ap (λ o. goes_on_from o run) (last_is i.places) ∙ apart.0 in
    let one = one_run_step phi is room i run here (omega arith) (omega arith) in
    let left = room_of (room.places - places_in run) (room.bits - length run.bits * places_in run) in
    let ends : final None (i.places ++ rows_of run) ≡ Some (last_of run) = final-append None i.places (rows_of run) ∙ final_run (final None i.places) run order.0 in
    let rest = walk_runs phi is left (more_places i (rows_of run)) runs (subst (λ o. Apart o runs) (sym ends) apart.1) order.1 (omega arith) (omega arith) in
    let p : room.places - places_in run - all_places runs ≡ room.places - all_places (run ∷ runs) = omega arith in
    let b : room.bits - length run.bits * places_in run - all_bits runs ≡ room.bits - all_bits (run ∷ runs) = omega arith in
    ap (λ o. walk o (map line.Places runs)) one
    ∙ rest
    ∙ ap (λ n. Some (at.Placed (draft Second phi is (room_of n (room.bits - length run.bits * places_in run - all_bits runs))) (more_places (more_places i (rows_of run)) (flat_map rows_of runs)))) p
    ∙ ap (λ n. Some (at.Placed (draft Second phi is (room_of (room.places - all_places (run ∷ runs)) n)) (more_places (more_places i (rows_of run)) (flat_map rows_of runs)))) b
    ∙ ap (λ j. Some (at.Placed (draft Second phi is (room_of (room.places - all_places (run ∷ runs)) (room.bits - all_bits (run ∷ runs)))) j)) (more_more i (rows_of run) (flat_map rows_of runs))

-- the room that rows take of the second text's
abbrev room_left : Version → Room → List PlaceBits → Room
room_left First room rows = room
room_left Second room rows = room_of (room.places - length rows) (room.bits - row_bits rows)

abbrev Fits : Version → Room → ℕ → ℕ → Type 0
Fits First room places bits = Unit {0}
Fits Second room places bits = (places ≤ room.places) × (bits ≤ room.bits)

abbrev entered : ℕ → ℕ → List Bool → List ℕ → Instance
entered g e f ns = record { group = g; entry = e; iface = f; sites = ns; places = [] }

walk_rows : (v : Version) (phi : List Bool) (is : List Instance) (room : Room) (i : Instance) → Fits v room (length i.places) (row_bits i.places)
    → walk (Some (at.Placed (draft v phi is room) (entered i.group i.entry i.iface i.sites))) (place_lines v i.places) ≡ Some (at.Placed (draft v phi is (room_left v room i.places)) i)
walk_rows First phi is room i fits = walk_places phi is room (entered i.group i.entry i.iface i.sites) i.places
walk_rows Second phi is room i fits =
    let whole = runs_whole i.places in
    let runs = runs_of i.places in
    let p : all_places runs ≡ length i.places = ap length whole.same in
    let b : all_bits runs ≡ row_bits i.places = ap row_bits whole.same in
    walk_runs phi is room (entered i.group i.entry i.iface i.sites) runs (runs_apart i.places) whole.ordered (omega (arith, p, fits.0)) (omega (arith, b, fits.1))
    ∙ ap (λ n. Some (at.Placed (draft Second phi is (room_of (room.places - n) (room.bits - all_bits runs))) (more_places (entered i.group i.entry i.iface i.sites) (flat_map rows_of runs)))) p
    ∙ ap (λ n. Some (at.Placed (draft Second phi is (room_of (room.places - length i.places) (room.bits - n))) (more_places (entered i.group i.entry i.iface i.sites) (flat_map rows_of runs)))) b
    ∙ ap (λ w. Some (at.Placed (draft Second phi is (room_left Second room i.places)) (more_places (entered i.group i.entry i.iface i.sites) w))) whole.same

-- a state after whole instances
record IsBetween (s : State) (d : Draft) : Type 0 where
  entry : (g e : ℕ) → next s (line.Instance g e) ≡ Some (at.Entered d g e)
  end : (n : ℕ) → next s (line.End n) ≡ between d (line.End n)

fits_rest : (v : Version) (room : Room) (i : Instance) (is : List Instance) → Fits v room (places_of (i ∷ is)) (bits_of (i ∷ is)) → Fits v (room_left v room i.places) (places_of is) (bits_of is)
fits_rest First room i is fits = tt
fits_rest Second room i is fits = (omega (arith, fits.0), omega (arith, fits.1))

fits_first : (v : Version) (room : Room) (i : Instance) (is : List Instance) → Fits v room (places_of (i ∷ is)) (bits_of (i ∷ is)) → Fits v room (length i.places) (row_bits i.places)
fits_first First room i is fits = tt
fits_first Second room i is fits = (omega (arith, fits.0), omega (arith, fits.1))

walk_instance : (v : Version) (phi : List Bool) (done : List Instance) (room : Room) (s : State) (i : Instance) → IsBetween s (draft v phi done room) → Fits v room (length i.places) (row_bits i.places)
    → walk (Some s) (instance_lines v i) ≡ Some (at.Placed (draft v phi done (room_left v room i.places)) i)
walk_instance v phi done room s i between fits =
    ap (λ o. walk o (line.Iface i.iface ∷ line.Sites i.sites ∷ place_lines v i.places)) (between.entry i.group i.entry)
    ∙ walk_rows v phi done room i fits

walk_instances : (v : Version) (phi : List Bool) (is done : List Instance) (room : Room) (s : State) → IsBetween s (draft v phi done room) → Fits v room (places_of is) (bits_of is)
    → walk (Some s) (flat_map (instance_lines v) is ++ line.End (length (done ++ is)) ∷ []) ≡ Some (at.Done (certificate phi (done ++ is)))
walk_instances v phi [] done room s b fits =
    let count : (length (done ++ []) == length done) ≡ true = eq-eqb (length (done ++ [])) (length done) (ap length (append-nil done)) in
    b.end (length (done ++ []))
    ∙ ap (λ t. if t then Some (at.Done (certificate phi done)) else None) count
    ∙ ap (λ w. Some (at.Done (certificate phi w))) (sym (append-nil done))
walk_instances v phi (i ∷ is) done room s b fits =
    let rest = flat_map (instance_lines v) is in
    let end = line.End (length (done ++ i ∷ is)) ∷ [] in
    let one = walk_instance v phi done room s i b (fits_first v room i is fits) in
    let all : (done ++ i ∷ []) ++ is ≡ done ++ i ∷ is = append_assoc done (i ∷ []) is in
    let after = walk_instances v phi is (done ++ i ∷ []) (room_left v room i.places) (at.Placed (draft v phi done (room_left v room i.places)) i)
    (record { entry = λ g e. refl; end = λ n. refl }) (fits_rest v room i is fits) in
    ap (walk (Some s)) (append_assoc (instance_lines v i) rest end)
    ∙ walk-append certificates (Some s) (instance_lines v i) (rest ++ end)
    ∙ ap (λ o. walk o (rest ++ end)) one
    ∙ ap (λ n. walk (Some (at.Placed (draft v phi done (room_left v room i.places)) i)) (rest ++ line.End n ∷ [])) (sym (ap length all))
    ∙ after
    ∙ ap (λ w. Some (at.Done (certificate phi w))) all

fits_all : (v : Version) (c : Certificate) → Has v c → Fits v (room_of 16777216 268435456) (places_of c.instances) (bits_of c.instances)
fits_all First c has = tt
fits_all Second c has =
    let h = both (leb (places_of c.instances) 16777216) (leb (bits_of c.instances) 268435456) has in
    (leb-true (places_of c.instances) 16777216 h.0, leb-true (bits_of c.instances) 268435456 h.1)

-- the lines of a text lead to the end
pub goes_through : (v : Version) (c : Certificate) → Has v c → walk (Some at.Start) (lines_of v c) ≡ Some (at.Done c)
goes_through v c has = walk_instances v c.phi c.instances [] (room_of 16777216 268435456) (at.Whole (empty_draft v c.phi)) (record { entry = λ g e. refl; end = λ n. refl }) (fits_all v c has)
