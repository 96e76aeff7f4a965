-- The texts of verdicts that are one line.
use Rattle.std.specs.Prelude.{ℕ, List, ◌++◌, codes, decimal}
use Rattle.conflict_proof.specs.declared.faults.BadLine.{BadLine}
use Rattle.conflict_proof.specs.declared.faults.Reason.{Reason}
use Rattle.conflict_proof.specs.declared.faults.Reason.TheVariants as reason
use Rattle.source_program.specs.Texts.{line_on}

abbrev pub usage_line : List ℕ
usage_line = codes "usage: clouseau check FILE, prove FILE, verify FILE TEXT or sample N, with --budget WORDS\n"

abbrev pub memory_line : List ℕ
memory_line = codes "out of memory\n"

abbrev pub unread_line : List ℕ → List ℕ
unread_line name = line_on (codes "cannot read ") name

abbrev pub long_line : List ℕ → List ℕ
long_line name = line_on (codes "too long: ") name

abbrev pub undecided_line : ℕ → List ℕ
undecided_line budget = codes "undecided " ++ decimal budget ++ codes "\n"

abbrev pub valid_line : List ℕ
valid_line = codes "valid\n"

abbrev pub reason_word : Reason → List ℕ
reason_word reason.Form = codes "Form"
reason_word reason.Range = codes "Range"
reason_word reason.Site = codes "Site"
reason_word reason.Twice = codes "Twice"
reason_word reason.Missing = codes "Missing"
reason_word reason.Broken = codes "Broken"
reason_word reason.Axiom = codes "Axiom"
reason_word reason.Resolvent = codes "Resolvent"
reason_word reason.Inst = codes "Inst"
reason_word reason.NoRefutation = codes "NoRefutation"

abbrev pub invalid_line : BadLine → List ℕ
invalid_line bad = codes "invalid line " ++ decimal bad.line ++ codes ": " ++ reason_word bad.reason ++ codes "\n"

-- a sample of so many procedures, and a word on it
abbrev pub sample_line : ℕ → List ℕ → List ℕ
sample_line count word = codes "sample " ++ decimal count ++ codes " " ++ word ++ codes "\n"
