-- The two texts of a certificate, line by line. Numbers are decimal, words are separated by one space, and each
-- line ends with a line feed.
use Rattle.std.specs.Prelude.{ℕ, ◌+◌, Bool, ◌&&◌, ◌==◌, nat_le, if◌then◌else◌, List, [], ◌∷◌, ◌++◌, map, length, codes, decimal}
use Rattle.std.specs.List.{flat_map}
use Rattle.std.specs.Cmp.Lexicographic.{pointwise}
use Rattle.std.proofs.Math.Bool.{beq}
use Rattle.line_texts.specs.Lines.{with_line_feeds}
use Rattle.conflict_proof.specs.Text.{numbers_text}
use Rattle.own_cert.specs.declared.certificate.PlaceBits.{PlaceBits}
use Rattle.own_cert.specs.declared.certificate.Instance.{Instance}
use Rattle.own_cert.specs.declared.certificate.Certificate.{Certificate}
use Rattle.own_cert.specs.declared.lines.Version.{Version}
use Rattle.own_cert.specs.declared.lines.Version.TheVariants.{First, Second}
use Rattle.own_cert.specs.declared.lines.Run.{Run}
use Rattle.own_cert.specs.declared.lines.Line.{Line}
use Rattle.own_cert.specs.declared.lines.Line.TheVariants as line

-- 0 or 1
abbrev pub digit : Bool → ℕ
digit b = if b then 49 else 48

-- a row of 0 and 1 after a space, and nothing where there are no bits
abbrev pub bits_text : List Bool → List ℕ
bits_text [] = []
bits_text (b ∷ bs) = 32 ∷ map digit (b ∷ bs)

abbrev pub header_text : Version → List ℕ
header_text First = codes "clouseau certificate 1"
header_text Second = codes "clouseau certificate 2"

-- each line:
--   clouseau certificate VERSION
--   phi BITS
--   instance GROUP ENTRY
--   iface BITS
--   sites INSTANCE INSTANCE ..
--   place PROC PLACE BITS
--   places PROC FIRST LAST BITS
--   end COUNT
abbrev pub line_text : Line → List ℕ
line_text (line.Header version) = header_text version
line_text (line.Phi bits) = codes "phi" ++ bits_text bits
line_text (line.Instance group entry) = codes "instance" ++ numbers_text (group ∷ entry ∷ [])
line_text (line.Iface bits) = codes "iface" ++ bits_text bits
line_text (line.Sites sites) = codes "sites" ++ numbers_text sites
line_text (line.Place row) = codes "place" ++ (numbers_text (row.proc ∷ row.place ∷ []) ++ bits_text row.bits)
line_text (line.Places run) = codes "places" ++ (numbers_text (run.proc ∷ run.first ∷ run.last ∷ []) ++ bits_text run.bits)
line_text (line.End count) = codes "end " ++ decimal count

-- a run of the one place
abbrev pub run_of : PlaceBits → Run
run_of row = record { proc = row.proc; first = row.place; last = row.place; bits = row.bits }

-- whether a run goes on where a place's row ends: with the next place of the same procedure, and with its bits
abbrev pub goes_on : PlaceBits → Run → Bool
goes_on row run = (row.proc == run.proc) && ((row.place + 1 == run.first) && pointwise beq row.bits run.bits)

-- the runs of a row and of those after it
abbrev pub with_row : PlaceBits → List Run → List Run
with_row row [] = run_of row ∷ []
with_row row (run ∷ runs) = if goes_on row run then record run { first = row.place } ∷ runs else run_of row ∷ run ∷ runs

-- rows as runs, each as long as it can be
abbrev pub runs_of : List PlaceBits → List Run
runs_of [] = []
runs_of (row ∷ rows) = with_row row (runs_of rows)

-- the lines of places
abbrev pub place_lines : Version → List PlaceBits → List Line
place_lines First rows = map line.Place rows
place_lines Second rows = map line.Places (runs_of rows)

-- the lines of an instance
abbrev pub instance_lines : Version → Instance → List Line
instance_lines version i = line.Instance i.group i.entry ∷ line.Iface i.iface ∷ line.Sites i.sites ∷ place_lines version i.places

-- the lines of a text
abbrev pub lines_of : Version → Certificate → List Line
lines_of version c = line.Header version ∷ line.Phi c.phi ∷ (flat_map (instance_lines version) c.instances ++ line.End (length c.instances) ∷ [])

abbrev pub text_of : Version → Certificate → List ℕ
text_of version c = with_line_feeds (map line_text (lines_of version c))

-- the text with a line for each place, and the one with a line for each run
abbrev pub certificate_text_1 : Certificate → List ℕ
certificate_text_1 c = text_of First c

abbrev pub certificate_text_2 : Certificate → List ℕ
certificate_text_2 c = text_of Second c

-- the bits of rows, together
abbrev pub row_bits : List PlaceBits → ℕ
row_bits [] = 0
row_bits (row ∷ rows) = length row.bits + row_bits rows

-- the places of instances, and their bits, together
abbrev pub places_of : List Instance → ℕ
places_of [] = 0
places_of (i ∷ is) = length i.places + places_of is

abbrev pub bits_of : List Instance → ℕ
bits_of [] = 0
bits_of (i ∷ is) = row_bits i.places + bits_of is

-- whether a certificate has the second text: its places are at most 2 ^ 24, and their bits at most 2 ^ 28
abbrev pub fits_second : Certificate → Bool
fits_second c = nat_le (places_of c.instances) 16777216 && nat_le (bits_of c.instances) 268435456

-- the text that is printed: the second one where there is one
abbrev pub printed_version : Certificate → Version
printed_version c = if fits_second c then Second else First

abbrev pub certificate_text : Certificate → List ℕ
certificate_text c = text_of (printed_version c) c
