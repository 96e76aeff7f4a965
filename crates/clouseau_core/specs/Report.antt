-- What a call reports: its status, and what it gave to its two outputs.
use Rattle.std.specs.Prelude.{ℕ, List, [], Option}
use Rattle.std.specs.Io.KnownBytes.{Appends}
use Rattle.io_edge.specs.Held.{Held}
use Rattle.io_edge.specs.Faults.{Rose}
use Rattle.io_edge.specs.Writing.{AppendsPart}
use Rattle.clouseau_core.specs.declared.report.Verdict.{Verdict}
use Rattle.clouseau_core.specs.Answers.{IsAnswer}

abbrev pub status_of : Verdict → ℕ
status_of (Verdict.Accepted c) = 0
status_of Verdict.Valid = 0
status_of (Verdict.Conflict ks) = 1
status_of (Verdict.Invalid bad) = 1
status_of (Verdict.Refused r) = 2
status_of (Verdict.Undecided d) = 3
status_of Verdict.ReadFault = 4
status_of Verdict.WriteFault = 5
status_of Verdict.Usage = 6
status_of Verdict.NoMemory = 7

-- an output over a call: the bytes given, where they are told, and the count of faults
pub record Output : Type 0 where
  pub given_before : Option (List ℕ)
  pub given_after : Option (List ℕ)
  pub faults_before : ℕ
  pub faults_after : ℕ

-- the whole text was given
abbrev pub Took : Output → List ℕ → Type 0
Took s text = Appends s.given_before s.given_after text

-- a part of the text was given, from its front, and a fault was counted
abbrev pub Broke : Output → List ℕ → Type 0
Broke s text = AppendsPart s.given_before s.given_after text × Rose s.faults_before s.faults_after

-- How the call ends on its outputs: the texts of an answer are given whole; or the one of `out` or of `err` breaks
-- off, and the verdict is WriteFault.
pub data IsReported (words : List (List ℕ)) (held : List ℕ → Held) (before after : ℕ) (out err : Output) : Verdict → Type 0 where
  given : (v : Verdict) (o e : List ℕ) → IsAnswer words held before after v o e → Took out o → Took err e
      → IsReported words held before after out err v
  out_broke : (v : Verdict) (o e : List ℕ) → IsAnswer words held before after v o e → Broke out o → Took err []
      → IsReported words held before after out err Verdict.WriteFault
  err_broke : (v : Verdict) (o e : List ℕ) → IsAnswer words held before after v o e → Took out o → Broke err e
      → IsReported words held before after out err Verdict.WriteFault

-- how giving the texts of a verdict ends
pub data IsGiven (out err : Output) (v : Verdict) (o e : List ℕ) : Verdict → Type 0 where
  whole : Took out o → Took err e → IsGiven out err v o e v
  out_part : Broke out o → Took err [] → IsGiven out err v o e Verdict.WriteFault
  err_part : Took out o → Broke err e → IsGiven out err v o e Verdict.WriteFault
