-- Which certificates there are: those whose numbers are within the ranges of their types. Every value that a
-- program holds is one.
use Rattle.std.specs.Prelude.{◌≡◌, ◌<◌, ◌≤◌, ◌^◌, ℕ, true, List, length}
use Rattle.std.specs.List.{All}
use Rattle.own_cert.specs.declared.certificate.PlaceBits.{PlaceBits}
use Rattle.own_cert.specs.declared.certificate.Instance.{Instance}
use Rattle.own_cert.specs.declared.certificate.Certificate.{Certificate}
use Rattle.own_cert.specs.declared.lines.Version.{Version}
use Rattle.own_cert.specs.declared.lines.Version.TheVariants.{First, Second}
use Rattle.own_cert.specs.declared.lines.Run.{Run}
use Rattle.own_cert.specs.declared.lines.Line.{Line}
use Rattle.own_cert.specs.declared.lines.Line.TheVariants as line
use Rattle.own_cert.specs.Text.{fits_second, text_of}

pub record IsRow (row : PlaceBits) : Type 0 where
  pub proc : row.proc < 2 ^ 32
  pub place : row.place < 2 ^ 32

pub record IsInstance (i : Instance) : Type 0 where
  pub group : i.group < 2 ^ 32
  pub entry : i.entry < 2 ^ 32
  pub sites : All (λ n. n < 2 ^ 32) i.sites
  pub places : All IsRow i.places

pub record IsCertificate (c : Certificate) : Type 0 where
  pub count : length c.instances < 2 ^ 64
  pub each : All IsInstance c.instances

-- the version is one of the certificate's
abbrev pub Has : Version → Certificate → Type 0
Has First c = Unit {0}
Has Second c = fits_second c ≡ true

-- the bytes are a text of the certificate, of either version
abbrev pub IsTextOf : Certificate → List ℕ → Type 0
IsTextOf c bs = (version : Version) × Has version c × (bs ≡ text_of version c)

-- the same for what a line says
pub record IsRun (run : Run) : Type 0 where
  pub proc : run.proc < 2 ^ 32
  pub order : run.first ≤ run.last
  pub last : run.last < 2 ^ 32

abbrev pub IsLine : Line → Type 0
IsLine (line.Header version) = Unit {0}
IsLine (line.Phi bits) = Unit {0}
IsLine (line.Instance group entry) = (group < 2 ^ 32) × (entry < 2 ^ 32)
IsLine (line.Iface bits) = Unit {0}
IsLine (line.Sites sites) = All (λ n. n < 2 ^ 32) sites
IsLine (line.Place row) = IsRow row
IsLine (line.Places run) = IsRun run
IsLine (line.End count) = count < 2 ^ 64
