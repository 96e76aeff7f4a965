-- The first line of some bytes that can't be continued to a derivation's text.
use Rattle.std.specs.Prelude.{◌≡◌, ℕ, List, ◌++◌}
use Rattle.line_texts.specs.Lines.{IsFirstBadLineOf}
use Rattle.conflict_proof.specs.declared.derivation.Derivation.{Derivation}
use Rattle.conflict_proof.specs.declared.faults.Reason.TheVariants.{Form}
use Rattle.conflict_proof.specs.declared.faults.TextError.{TextError}
use Rattle.conflict_proof.specs.declared.faults.TextError.TheVariants as error
use Rattle.conflict_proof.specs.Values.{IsDerivation}
use Rattle.conflict_proof.specs.Text.{derivation_text}

-- the bytes can be continued to a text
abbrev pub BeginsText : List ℕ → Type 0
BeginsText bs = (d : Derivation) × IsDerivation d × (more : List ℕ) × (derivation_text d ≡ bs ++ more)

-- no value's text is the bytes
abbrev pub IsNoText : List ℕ → Type 0
IsNoText bs = (d : Derivation) → IsDerivation d → bs ≡ derivation_text d → ⊥

abbrev pub IsFirstBadLine : List ℕ → ℕ → Type 0
IsFirstBadLine bs n = IsFirstBadLineOf BeginsText bs n

-- the refusal at line n
abbrev pub IsFormAt : ℕ → TextError → Type 0
IsFormAt n error.Memory = ⊥
IsFormAt n (error.Invalid bad) = (bad.line ≡ n) × (bad.reason ≡ Form)

-- what a refusal to read the bytes says of them
abbrev pub Refuses : List ℕ → TextError → Type 0
Refuses bs error.Memory = Unit {0}
Refuses bs (error.Invalid bad) = (bad.reason ≡ Form) × IsNoText bs × IsFirstBadLine bs bad.line
