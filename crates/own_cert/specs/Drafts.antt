-- How reading goes on from line to line.
use Rattle.std.specs.Prelude.{◌==◌, Bool, if◌then◌else◌, List, [], ◌∷◌, ◌++◌, length, Option, Some, None}
use Rattle.own_cert.specs.declared.certificate.PlaceBits.{PlaceBits}
use Rattle.own_cert.specs.declared.certificate.Instance.{Instance}
use Rattle.own_cert.specs.declared.certificate.Certificate.{Certificate}
use Rattle.own_cert.specs.declared.lines.Version.{Version}
use Rattle.own_cert.specs.declared.lines.Version.TheVariants.{First, Second}
use Rattle.own_cert.specs.declared.lines.Run.{Run}
use Rattle.own_cert.specs.declared.lines.Line.{Line}
use Rattle.own_cert.specs.declared.lines.Line.TheVariants as line
use Rattle.own_cert.specs.declared.runs.Room.{Room}
use Rattle.own_cert.specs.declared.draft.Draft.{Draft}
use Rattle.own_cert.specs.declared.draft.State.{State}
use Rattle.own_cert.specs.declared.draft.State.TheVariants as at
use Rattle.own_cert.specs.Runs.{rows_of, after_last, room_after}

-- before anything is read, and after the header
abbrev pub empty_draft : Version → List Bool → Draft
empty_draft version phi = record { version = version; phi = phi; instances = []; room = record { places = 16777216; bits = 268435456 } }

-- the draft with one instance more
abbrev pub closed : Draft → Instance → Draft
closed d i = record d { instances = d.instances ++ i ∷ [] }

abbrev pub finished : Draft → Certificate
finished d = record { phi = d.phi; instances = d.instances }

-- an instance or the end, after whole instances
abbrev pub between : Draft → Line → Option State
between d (line.Instance group entry) = Some (at.Entered d group entry)
between d (line.End count) = if count == length d.instances then Some (at.Done (finished d)) else None
between d l = None

-- an instance with more places
abbrev pub more_places : Instance → List PlaceBits → Instance
more_places i rows = record i { places = i.places ++ rows }

abbrev pub take_room : Draft → Instance → Run → Option Room → Option State
take_room d i run None = None
take_room d i run (Some room) = Some (at.Placed (record d { room = room }) (more_places i (rows_of run)))

-- a place, and a run of places
abbrev pub after_place : Version → Draft → Instance → PlaceBits → Option State
after_place First d i row = Some (at.Placed d (more_places i (row ∷ [])))
after_place Second d i row = None

abbrev pub after_run : Version → Draft → Instance → Run → Option State
after_run First d i run = None
after_run Second d i run = if after_last i.places run then None else take_room d i run (room_after d.room run)

abbrev pub in_places : Draft → Instance → Line → Option State
in_places d i (line.Place row) = after_place d.version d i row
in_places d i (line.Places run) = after_run d.version d i run
in_places d i l = between (closed d i) l

abbrev pub next : State → Line → Option State
next at.Start (line.Header version) = Some (at.Headed version)
next (at.Headed version) (line.Phi phi) = Some (at.Whole (empty_draft version phi))
next (at.Whole d) l = between d l
next (at.Entered d group entry) (line.Iface iface) = Some (at.Faced d group entry iface)
next (at.Faced d group entry iface) (line.Sites sites) = Some (at.Placed d (record { group = group; entry = entry; iface = iface; sites = sites; places = [] }))
next (at.Placed d i) l = in_places d i l
next s l = None
