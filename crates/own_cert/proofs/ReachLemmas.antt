-- The lines that have led to a state are those of what it holds, and begin a text.
use Rattle.std.proofs.Common.{◌≡◌, ℕ, ◌+◌, ◌-◌, ◌*◌, ◌<◌, ◌≤◌, ◌^◌, ◌==◌, if◌then◌else◌, Bool, true, false, List, [], ◌∷◌, ◌++◌, length, map, refl, sym, ap, subst, ◌∙◌, append_assoc, leb, Option, Some, None, arith}
use Rattle.std.proofs.lemmas.Bool.{eqb-true, le-leb, leb-true}
use Rattle.std.proofs.lemmas.List.{append-nil, map_push, length-append}
use Rattle.std.proofs.lemmas.List.Elements.{All-push, All-append}
use Rattle.std.proofs.lemmas.Grind.{flat_map-append}
use Rattle.std.specs.List.{All, flat_map}
use Rattle.own_cert.specs.declared.certificate.PlaceBits.{PlaceBits}
use Rattle.own_cert.specs.declared.certificate.Instance.{Instance}
use Rattle.own_cert.specs.declared.certificate.Certificate.{Certificate}
use Rattle.own_cert.specs.declared.lines.Version.{Version}
use Rattle.own_cert.specs.declared.lines.Version.TheVariants.{First, Second}
use Rattle.own_cert.specs.declared.lines.Run.{Run}
use Rattle.own_cert.specs.declared.lines.Line.{Line}
use Rattle.own_cert.specs.declared.lines.Line.TheVariants as line
use Rattle.own_cert.specs.declared.runs.Room.{Room}
use Rattle.own_cert.specs.declared.draft.Draft.{Draft}
use Rattle.own_cert.specs.declared.draft.State.{State}
use Rattle.own_cert.specs.declared.draft.State.TheVariants as at
use Rattle.own_cert.specs.Text.{runs_of, place_lines, instance_lines, lines_of, row_bits, places_of, bits_of}
use Rattle.own_cert.specs.Values.{IsRow, IsInstance, IsCertificate, Has, IsRun, IsLine}
use Rattle.own_cert.specs.Runs.{rows_of, after_last, places_in, room_less, room_after}
use Rattle.own_cert.specs.Drafts.{empty_draft, closed, finished, between, more_places, take_room, after_place, after_run, in_places, next}
use Rattle.own_cert.proofs.RunLemmas.{run_more, length_from, bits_from, row_bits-append, rows_valid}
use Rattle.own_cert.proofs.DraftLemmas.{room_of, certificate}

-- the lines of whole instances
abbrev pub begun : Draft → List Line
begun d = line.Header d.version ∷ line.Phi d.phi ∷ flat_map (instance_lines d.version) d.instances

-- what the second text may still hold, after instances and the rows of an open one
abbrev pub Leaves : Version → Room → List Instance → List PlaceBits → Type 0
Leaves First room is rows = Unit {0}
Leaves Second room is rows = (room.places + (places_of is + length rows) ≡ 16777216) × (room.bits + (bits_of is + row_bits rows) ≡ 268435456)

-- lines that hold a draft, and after it the lines of an open instance
pub record Holds (ls : List Line) (d : Draft) (rows : List PlaceBits) (more : List Line) : Type 0 where
  pub lines : ls ≡ begun d ++ more
  pub each : All IsInstance d.instances
  pub room : Leaves d.version d.room d.instances rows
  pub count : length d.instances + 1 ≤ length ls

pub record HoldsOpen (ls : List Line) (d : Draft) (i : Instance) : Type 0 where
  pub holds : Holds ls d i.places (instance_lines d.version i)
  pub is : IsInstance i
  pub more : length d.instances + 2 ≤ length ls

pub record HoldsAll (ls : List Line) (c : Certificate) : Type 0 where
  pub version : Version
  pub has : Has version c
  pub lines : ls ≡ lines_of version c
  pub each : All IsInstance c.instances
  pub count : length c.instances ≤ length ls

abbrev pub Reached : List Line → State → Type 0
Reached ls at.Start = ls ≡ []
Reached ls (at.Headed v) = ls ≡ line.Header v ∷ []
Reached ls (at.Whole d) = Holds ls d [] []
Reached ls (at.Entered d g e) = Holds ls d [] (line.Instance g e ∷ []) × (g < 2 ^ 32) × (e < 2 ^ 32)
Reached ls (at.Faced d g e f) = Holds ls d [] (line.Instance g e ∷ line.Iface f ∷ []) × (g < 2 ^ 32) × (e < 2 ^ 32)
Reached ls (at.Placed d i) = HoldsOpen ls d i
Reached ls (at.Done c) = HoldsAll ls c

some_is : (P : State → Type 0) (s t : State) → Some s ≡ Some t → P s → P t
some_is P s t e h = let f : s ≡ t = same s t e in subst P f h
  where
    same : (x y : State) → Some x ≡ Some y → x ≡ y
    same x y e = cc

longer : (ls : List Line) (l : Line) → length (ls ++ l ∷ []) ≡ length ls + 1
longer ls l = length-append ls (l ∷ [])

lines_more : (ls : List Line) (d : Draft) (more : List Line) (l : Line) → ls ≡ begun d ++ more → ls ++ l ∷ [] ≡ begun d ++ (more ++ l ∷ [])
lines_more ls d more l e = ap (λ w. w ++ l ∷ []) e ∙ append_assoc (begun d) more (l ∷ [])

holds_more : (ls : List Line) (d : Draft) (rows : List PlaceBits) (more : List Line) (l : Line) → Holds ls d rows more → Holds (ls ++ l ∷ []) d rows (more ++ l ∷ [])
holds_more ls d rows more l h = record {
  lines = lines_more ls d more l h.lines;
  each = h.each;
  room = h.room;
  count = omega (arith, h.count, longer ls l);
}

-- places and bits of instances, with one more
pub places_push : (is : List Instance) (i : Instance) → places_of (is ++ i ∷ []) ≡ places_of is + length i.places
places_push [] i = omega arith
places_push (j ∷ is) i = omega (arith, places_push is i)

pub bits_push : (is : List Instance) (i : Instance) → bits_of (is ++ i ∷ []) ≡ bits_of is + row_bits i.places
bits_push [] i = omega arith
bits_push (j ∷ is) i = omega (arith, bits_push is i)

leaves_closed : (v : Version) (room : Room) (is : List Instance) (i : Instance) → Leaves v room is i.places → Leaves v room (is ++ i ∷ []) []
leaves_closed First room is i h = tt
leaves_closed Second room is i h = (omega (arith, h.0, places_push is i), omega (arith, h.1, bits_push is i))

begun_closed : (d : Draft) (i : Instance) → begun (closed d i) ≡ begun d ++ instance_lines d.version i
begun_closed d i =
    ap (λ w. line.Header d.version ∷ line.Phi d.phi ∷ w)
    (flat_map-append (instance_lines d.version) d.instances (i ∷ []) ∙ ap (λ w. flat_map (instance_lines d.version) d.instances ++ w) (append-nil (instance_lines d.version i)))

-- an instance at its end
holds_closed : (ls : List Line) (d : Draft) (i : Instance) → HoldsOpen ls d i → Holds ls (closed d i) [] []
holds_closed ls d i h = record {
  lines = h.holds.lines ∙ sym (begun_closed d i) ∙ sym (append-nil (begun (closed d i)));
  each = All-push IsInstance d.instances i h.holds.each h.is;
  room = leaves_closed d.version d.room d.instances i h.holds.room;
  count = omega (arith, h.more, length-append d.instances (i ∷ []));
}

has_all : (v : Version) (room : Room) (phi : List Bool) (is : List Instance) → Leaves v room is [] → Has v (certificate phi is)
has_all First room phi is h = tt
has_all Second room phi is h =
    let p : places_of is ≤ 16777216 = omega (arith, h.0) in
    let b : bits_of is ≤ 268435456 = omega (arith, h.1) in
    rw (le-leb (places_of is) 16777216 p, le-leb (bits_of is) 268435456 b) refl

holds_all : (ls : List Line) (d : Draft) (n : ℕ) → n ≡ length d.instances → Holds ls d [] [] → HoldsAll (ls ++ line.End n ∷ []) (finished d)
holds_all ls d n e h = record {
  version = d.version;
  has = has_all d.version d.room d.phi d.instances h.room;
  lines = lines_more ls d [] (line.End n) h.lines ∙ ap (λ k. begun d ++ line.End k ∷ []) e;
  each = h.each;
  count = omega (arith, h.count, longer ls (line.End n));
}

end_step : (ls : List Line) (d : Draft) (n : ℕ) (s : State) (t : Bool) → (n == length d.instances) ≡ t → Holds ls d [] []
    → (if t then Some (at.Done (finished d)) else None) ≡ Some s → Reached (ls ++ line.End n ∷ []) s
end_step ls d n s true f h e = some_is (Reached (ls ++ line.End n ∷ [])) (at.Done (finished d)) s e (holds_all ls d n (eqb-true n (length d.instances) f) h)
end_step ls d n s false f h e = cc

between_step : (ls : List Line) (d : Draft) (l : Line) (s : State) → IsLine l → Holds ls d [] [] → between d l ≡ Some s → Reached (ls ++ l ∷ []) s
between_step ls d (line.Instance g x) s is h e = some_is (Reached (ls ++ line.Instance g x ∷ [])) (at.Entered d g x) s e (holds_more ls d [] [] (line.Instance g x) h, is.0, is.1)
between_step ls d (line.End n) s is h e = end_step ls d n s (n == length d.instances) refl h e
between_step ls d l s is h e = cc

-- one place more
instance_more : (v : Version) (i : Instance) (rows : List PlaceBits) (l : Line) → place_lines v (i.places ++ rows) ≡ place_lines v i.places ++ l ∷ [] → instance_lines v (more_places i rows) ≡ instance_lines v i ++ l ∷ []
instance_more v i rows l e = ap (λ w. line.Instance i.group i.entry ∷ line.Iface i.iface ∷ line.Sites i.sites ∷ w) e

holds_places : (ls : List Line) (d : Draft) (i : Instance) (rows : List PlaceBits) (room : Room) (l : Line) → HoldsOpen ls d i → All IsRow (i.places ++ rows)
    → place_lines d.version (i.places ++ rows) ≡ place_lines d.version i.places ++ l ∷ [] → Leaves d.version room d.instances (i.places ++ rows)
    → HoldsOpen (ls ++ l ∷ []) (record d { room = room }) (more_places i rows)
holds_places ls d i rows room l h is e left = record {
  holds = record {
    lines = lines_more ls d (instance_lines d.version i) l h.holds.lines ∙ ap (λ w. begun d ++ w) (sym (instance_more d.version i rows l e));
    each = h.holds.each;
    room = left;
    count = omega (arith, h.holds.count, longer ls l);
  };
  is = record { group = h.is.group; entry = h.is.entry; sites = h.is.sites; places = is };
  more = omega (arith, h.more, longer ls l);
}

place_step : (ls : List Line) (v : Version) (d : Draft) (i : Instance) (row : PlaceBits) (s : State) → d.version ≡ v → IsRow row → HoldsOpen ls d i → after_place v d i row ≡ Some s → Reached (ls ++ line.Place row ∷ []) s
place_step ls First d i row s f is h e =
    some_is (Reached (ls ++ line.Place row ∷ [])) (at.Placed d (more_places i (row ∷ []))) s e
    (holds_places ls d i (row ∷ []) d.room (line.Place row) h (All-push IsRow i.places row h.is.places is)
    (subst (λ w. place_lines w (i.places ++ row ∷ []) ≡ place_lines w i.places ++ line.Place row ∷ []) (sym f) (map_push line.Place i.places row))
    (subst (λ w. Leaves w d.room d.instances (i.places ++ row ∷ [])) (sym f) tt))
place_step ls Second d i row s f is h e = cc

-- one run more
pub record Takes (room left : Room) (places bits : ℕ) : Type 0 where
  pub places_left : left.places + places ≡ room.places
  pub bits_left : left.bits + bits ≡ room.bits

room_same : (x y : Room) → Some x ≡ Some y → x ≡ y
room_same x y e = cc

pub takes : (room left : Room) (p b : ℕ) (s t : Bool) → leb p room.places ≡ s → leb b room.bits ≡ t → room_less room p b ≡ Some left → Takes room left p b
takes room left p b true true hp hb e =
    let f : Some (room_of (room.places - p) (room.bits - b)) ≡ Some left = rw (hp, hb) at e in
    let lp : p ≤ room.places = leb-true p room.places hp in
    let lb : b ≤ room.bits = leb-true b room.bits hb in
    subst (λ r. Takes room r p b) (room_same (room_of (room.places - p) (room.bits - b)) left f) (record { places_left = omega (arith, lp); bits_left = omega (arith, lb) })
takes room left p b true false hp hb e = let f : None ≡ Some left = rw (hp, hb) at e in cc
takes room left p b false t hp hb e = let f : None ≡ Some left = rw hp at e in cc

leaves_run : (room left : Room) (is : List Instance) (rows : List PlaceBits) (run : Run) → Takes room left (places_in run) (length run.bits * places_in run) → Leaves Second room is rows → Leaves Second left is (rows ++ rows_of run)
leaves_run room left is rows run t h =
    let p = length-append rows (rows_of run) in
    let n = length_from run.proc run.bits run.first (places_in run) in
    let b = row_bits-append rows (rows_of run) in
    let m = bits_from run.proc run.bits run.first (places_in run) in
    (omega (arith, h.0, t.places_left, p, n), omega (arith, h.1, t.bits_left, b, m))

run_lines : (i : Instance) (run : Run) → IsRun run → after_last i.places run ≡ false → place_lines Second (i.places ++ rows_of run) ≡ place_lines Second i.places ++ line.Places run ∷ []
run_lines i run is apart = ap (map line.Places) (run_more i.places run is.order apart) ∙ map_push line.Places (runs_of i.places) run

run_in_room : (ls : List Line) (d : Draft) (i : Instance) (run : Run) (s : State) (o : Option Room) → room_after d.room run ≡ o → d.version ≡ Second → IsRun run → after_last i.places run ≡ false → HoldsOpen ls d i
    → take_room d i run o ≡ Some s → Reached (ls ++ line.Places run ∷ []) s
run_in_room ls d i run s None f v is apart h e = cc
run_in_room ls d i run s (Some left) f v is apart h e =
    let t = takes d.room left (places_in run) (length run.bits * places_in run) (leb (places_in run) d.room.places) (leb (length run.bits * places_in run) d.room.bits) refl refl f in
    some_is (Reached (ls ++ line.Places run ∷ [])) (at.Placed (record d { room = left }) (more_places i (rows_of run))) s e
    (holds_places ls d i (rows_of run) left (line.Places run) h (All-append IsRow i.places (rows_of run) h.is.places (rows_valid run is))
    (subst (λ w. place_lines w (i.places ++ rows_of run) ≡ place_lines w i.places ++ line.Places run ∷ []) (sym v) (run_lines i run is apart))
    (subst (λ w. Leaves w left d.instances (i.places ++ rows_of run)) (sym v) (leaves_run d.room left d.instances i.places run t (subst (λ w. Leaves w d.room d.instances i.places) v h.holds.room))))

run_apart : (ls : List Line) (d : Draft) (i : Instance) (run : Run) (s : State) (t : Bool) → after_last i.places run ≡ t → d.version ≡ Second → IsRun run → HoldsOpen ls d i
    → (if t then None else take_room d i run (room_after d.room run)) ≡ Some s → Reached (ls ++ line.Places run ∷ []) s
run_apart ls d i run s true f v is h e = cc
run_apart ls d i run s false f v is h e = run_in_room ls d i run s (room_after d.room run) refl v is f h e

run_step : (ls : List Line) (v : Version) (d : Draft) (i : Instance) (run : Run) (s : State) → d.version ≡ v → IsRun run → HoldsOpen ls d i → after_run v d i run ≡ Some s → Reached (ls ++ line.Places run ∷ []) s
run_step ls First d i run s f is h e = cc
run_step ls Second d i run s f is h e = run_apart ls d i run s (after_last i.places run) refl f is h e

places_step : (ls : List Line) (d : Draft) (i : Instance) (l : Line) (s : State) → IsLine l → HoldsOpen ls d i → in_places d i l ≡ Some s → Reached (ls ++ l ∷ []) s
places_step ls d i (line.Place row) s is h e = place_step ls d.version d i row s refl is h e
places_step ls d i (line.Places run) s is h e = run_step ls d.version d i run s refl is h e
places_step ls d i l s is h e = between_step ls (closed d i) l s is (holds_closed ls d i h) e

start_step : (ls : List Line) (l : Line) (s : State) → ls ≡ [] → next at.Start l ≡ Some s → Reached (ls ++ l ∷ []) s
start_step ls (line.Header v) s h e = some_is (Reached (ls ++ line.Header v ∷ [])) (at.Headed v) s e (ap (λ w. w ++ line.Header v ∷ []) h)
start_step ls l s h e = cc

leaves_none : (v : Version) → Leaves v (room_of 16777216 268435456) [] []
leaves_none First = tt
leaves_none Second = (refl, refl)

headed_step : (ls : List Line) (v : Version) (l : Line) (s : State) → ls ≡ line.Header v ∷ [] → next (at.Headed v) l ≡ Some s → Reached (ls ++ l ∷ []) s
headed_step ls v (line.Phi phi) s h e =
    let long : length ls ≡ 1 = ap length h in
    some_is (Reached (ls ++ line.Phi phi ∷ [])) (at.Whole (empty_draft v phi)) s e
    (record {
      lines = ap (λ w. w ++ line.Phi phi ∷ []) h;
      each = λ k d i. absurd (omega arith);
      room = leaves_none v;
      count = omega (arith, longer ls (line.Phi phi), long);
    })
headed_step ls v l s h e = cc

entered_step : (ls : List Line) (d : Draft) (g x : ℕ) (l : Line) (s : State) → Holds ls d [] (line.Instance g x ∷ []) → g < 2 ^ 32 → x < 2 ^ 32 → next (at.Entered d g x) l ≡ Some s → Reached (ls ++ l ∷ []) s
entered_step ls d g x (line.Iface f) s h hg hx e =
    some_is (Reached (ls ++ line.Iface f ∷ [])) (at.Faced d g x f) s e (holds_more ls d [] (line.Instance g x ∷ []) (line.Iface f) h, hg, hx)
entered_step ls d g x l s h hg hx e = cc

abbrev entered : ℕ → ℕ → List Bool → List ℕ → Instance
entered g x f ns = record { group = g; entry = x; iface = f; sites = ns; places = [] }

no_lines : (v : Version) → place_lines v [] ≡ []
no_lines First = refl
no_lines Second = refl

faced_step : (ls : List Line) (d : Draft) (g x : ℕ) (f : List Bool) (l : Line) (s : State) → IsLine l → Holds ls d [] (line.Instance g x ∷ line.Iface f ∷ []) → g < 2 ^ 32 → x < 2 ^ 32
    → next (at.Faced d g x f) l ≡ Some s → Reached (ls ++ l ∷ []) s
faced_step ls d g x f (line.Sites ns) s is h hg hx e =
    let m = holds_more ls d [] (line.Instance g x ∷ line.Iface f ∷ []) (line.Sites ns) h in
    some_is (Reached (ls ++ line.Sites ns ∷ [])) (at.Placed d (entered g x f ns)) s e
    (record {
      holds = subst (Holds (ls ++ line.Sites ns ∷ []) d []) (ap (λ w. line.Instance g x ∷ line.Iface f ∷ line.Sites ns ∷ w) (sym (no_lines d.version))) m;
      is = record { group = hg; entry = hx; sites = is; places = λ k d i. absurd (omega arith) };
      more = omega (arith, h.count, longer ls (line.Sites ns));
    })
faced_step ls d g x f l s is h hg hx e = cc

-- one line more
pub reaches : (ls : List Line) (l : Line) (s t : State) → IsLine l → Reached ls s → next s l ≡ Some t → Reached (ls ++ l ∷ []) t
reaches ls l at.Start t is h e = start_step ls l t h e
reaches ls l (at.Headed v) t is h e = headed_step ls v l t h e
reaches ls l (at.Whole d) t is h e = between_step ls d l t is h e
reaches ls l (at.Entered d g x) t is h e = entered_step ls d g x l t h.0 h.1 h.2 e
reaches ls l (at.Faced d g x f) t is h e = faced_step ls d g x f l t is h.0 h.1 h.2 e
reaches ls l (at.Placed d i) t is h e = places_step ls d i l t is h e
reaches ls l (at.Done c) t is h e = cc

-- lines that begin those of a text
pub record Begins (ls : List Line) : Type 0 where
  pub version : Version
  pub value : Certificate
  pub is : IsCertificate value
  pub has : Has version value
  pub others : List Line
  pub lines : lines_of version value ≡ ls ++ others

all_begins : (ls : List Line) (c : Certificate) → length ls < 2 ^ 64 → HoldsAll ls c → Begins ls
all_begins ls c small h = record {
  version = h.version;
  value = c;
  is = record { count = omega (arith, h.count); each = h.each };
  has = h.has;
  others = [];
  lines = sym h.lines ∙ sym (append-nil ls);
}

whole_begins : (ls : List Line) (d : Draft) → length ls < 2 ^ 64 → Holds ls d [] [] → Begins ls
whole_begins ls d small h = record {
  version = d.version;
  value = finished d;
  is = record { count = omega (arith, h.count); each = h.each };
  has = has_all d.version d.room d.phi d.instances h.room;
  others = line.End (length d.instances) ∷ [];
  lines = ap (λ w. w ++ line.End (length d.instances) ∷ []) (sym (append-nil (begun d)) ∙ sym h.lines);
}

open_begins : (ls : List Line) (d : Draft) (i : Instance) (more rest : List Line) → length ls < 2 ^ 64 → IsInstance i → Holds ls d i.places more → instance_lines d.version i ≡ more ++ rest → Begins ls
open_begins ls d i more rest small is h e =
    let end = line.End (length (closed d i).instances) ∷ [] in
    let all : begun (closed d i) ≡ ls ++ rest =
    begun_closed d i ∙ ap (λ w. begun d ++ w) e ∙ sym (append_assoc (begun d) more rest) ∙ ap (λ w. w ++ rest) (sym h.lines) in
    record {
      version = d.version;
      value = finished (closed d i);
      is = record { count = omega (arith, h.count, length-append d.instances (i ∷ [])); each = All-push IsInstance d.instances i h.each is };
      has = has_all d.version d.room d.phi (d.instances ++ i ∷ []) (leaves_closed d.version d.room d.instances i h.room);
      others = rest ++ end;
      lines = ap (λ w. w ++ end) all ∙ append_assoc ls rest end;
    }

bare : (g x : ℕ) (f : List Bool) → g < 2 ^ 32 → x < 2 ^ 32 → IsInstance (entered g x f [])
bare g x f hg hx = record { group = hg; entry = hx; sites = λ k d h. absurd (omega arith); places = λ k d h. absurd (omega arith) }

no_instances : IsCertificate (certificate [] [])
no_instances = record { count = omega arith; each = λ k d h. absurd (omega arith) }

has_none : (v : Version) → Has v (certificate [] [])
has_none First = tt
has_none Second = refl

pub begins : (ls : List Line) (s : State) → length ls < 2 ^ 64 → Reached ls s → Begins ls
begins ls at.Start small h = record {
  version = First;
  value = certificate [] [];
  is = no_instances;
  has = tt;
  others = lines_of First (certificate [] []);
  lines = ap (λ w. w ++ lines_of First (certificate [] [])) (sym h);
}
begins ls (at.Headed v) small h = record {
  version = v;
  value = certificate [] [];
  is = no_instances;
  has = has_none v;
  others = line.Phi [] ∷ line.End 0 ∷ [];
  lines = ap (λ w. w ++ line.Phi [] ∷ line.End 0 ∷ []) (sym h);
}
begins ls (at.Whole d) small h = whole_begins ls d small h
begins ls (at.Entered d g x) small h =
    open_begins ls d (entered g x [] []) (line.Instance g x ∷ []) (line.Iface [] ∷ line.Sites [] ∷ place_lines d.version []) small (bare g x [] h.1 h.2) h.0 refl
begins ls (at.Faced d g x f) small h =
    open_begins ls d (entered g x f []) (line.Instance g x ∷ line.Iface f ∷ []) (line.Sites [] ∷ place_lines d.version []) small (bare g x f h.1 h.2) h.0 refl
begins ls (at.Placed d i) small h = open_begins ls d i (instance_lines d.version i) [] small h.is h.holds (sym (append-nil (instance_lines d.version i)))
begins ls (at.Done c) small h = all_begins ls c small h
