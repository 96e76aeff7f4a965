-- Certificates' texts as texts that are read line by line.
use Rattle.std.specs.Prelude.{◌≡◌, ℕ, List}
use Rattle.line_texts.specs.Texts.{Kind}
use Rattle.line_texts.specs.Texts as lines
use Rattle.own_cert.specs.declared.certificate.Certificate.{Certificate}
use Rattle.own_cert.specs.declared.lines.Version.{Version}
use Rattle.own_cert.specs.declared.lines.Line.{Line}
use Rattle.own_cert.specs.declared.draft.State.{State}
use Rattle.own_cert.specs.declared.draft.State.TheVariants as at
use Rattle.own_cert.specs.Text.{line_text, lines_of}
use Rattle.own_cert.specs.Values.{IsLine, IsCertificate, Has}
use Rattle.own_cert.specs.Drafts.{next}

abbrev pub certificates : Kind
certificates = record {
  Line = Line;
  State = State;
  Value = Certificate;
  line_text = line_text;
  IsLine = IsLine;
  start = at.Start;
  next = next;
  done = at.Done;
  IsValue = IsCertificate;
  AreLinesOf = λ c ls. (version : Version) × Has version c × (ls ≡ lines_of version c);
}

-- the bytes of a line lead from state to state
abbrev pub Leads : State → List ℕ → State → Type 0
Leads s bytes t = lines.Leads certificates s bytes t

-- no line that the bytes say leads on
abbrev pub Wrong : State → List ℕ → Type 0
Wrong s bytes = lines.Wrong certificates s bytes
