-- Rows of runs, and the room of a certificate's second text.
use Rattle.std.specs.Prelude.{ℕ, zero, suc, ◌+◌, ◌-◌, ◌*◌, Bool, false, ◌&&◌, nat_le, if◌then◌else◌, List, [], ◌∷◌, length, slice_get, Option, Some, None, ◌≡◌}
use Rattle.own_cert.specs.declared.certificate.PlaceBits.{PlaceBits}
use Rattle.own_cert.specs.declared.lines.Run.{Run}
use Rattle.own_cert.specs.declared.runs.Room.{Room}
use Rattle.own_cert.specs.Text.{goes_on, run_of, row_bits}

-- n rows with the same bits, from a place on
abbrev pub rows_from : ℕ → List Bool → ℕ → ℕ → List PlaceBits
rows_from proc bits first zero = []
rows_from proc bits first (suc n) = record { proc = proc; place = first; bits = bits } ∷ rows_from proc bits (first + 1) n

-- how many places a run has
abbrev pub places_in : Run → ℕ
places_in run = run.last - run.first + 1

abbrev pub rows_of : Run → List PlaceBits
rows_of run = rows_from run.proc run.bits run.first (places_in run)

abbrev pub goes_on_from : Option PlaceBits → Run → Bool
goes_on_from None run = false
goes_on_from (Some row) run = goes_on row run

-- whether a run goes on where rows end
abbrev pub after_last : List PlaceBits → Run → Bool
after_last rows run = goes_on_from (slice_get rows (length rows - 1)) run

-- how many rows after a row go on with its run
abbrev pub more_of_run : PlaceBits → List PlaceBits → ℕ
more_of_run row [] = 0
more_of_run row (next ∷ rows) = if goes_on row (run_of next) then suc (more_of_run next rows) else 0

abbrev pub row_at : ℕ → List Bool → ℕ → PlaceBits
row_at proc bits place = record { proc = proc; place = place; bits = bits }

-- the last row of a run
abbrev pub last_of : Run → PlaceBits
last_of run = row_at run.proc run.bits run.last

-- each run is as long as it can be: none goes on where the rows before it end
abbrev pub Apart : Option PlaceBits → List Run → Type 0
Apart prev [] = Unit {0}
Apart prev (run ∷ runs) = (goes_on_from prev run ≡ false) × Apart (Some (last_of run)) runs

-- the room that is left
abbrev pub room_less : Room → ℕ → ℕ → Option Room
room_less room places bits =
    if nat_le places room.places && nat_le bits room.bits then Some (record { places = room.places - places; bits = room.bits - bits }) else None

abbrev pub room_after_rows : Room → List PlaceBits → Option Room
room_after_rows room rows = room_less room (length rows) (row_bits rows)

abbrev pub room_after : Room → Run → Option Room
room_after room run = room_less room (places_in run) (length run.bits * places_in run)
