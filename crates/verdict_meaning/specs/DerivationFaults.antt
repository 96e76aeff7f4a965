-- The faults of a derivation, by the lines of its text: the header, then its lines, and the end.
use Rattle.std.specs.Prelude.{◌≡◌, ℕ, ◌+◌, ◌<◌, ◌≤◌, ◌⊎◌, Bool, List, [], ◌∷◌, Some, length}
use Rattle.std.specs.List.{Contains}
use Rattle.zo_core.specs.Literals.{Literal}
use Rattle.conflict_proof.specs.declared.names.ConstraintName.{ConstraintName}
use Rattle.conflict_proof.specs.declared.derivation.How.{How}
use Rattle.conflict_proof.specs.declared.derivation.How.TheVariants.{Axiom, Resolve, Inst}
use Rattle.conflict_proof.specs.declared.derivation.Line.{Line}
use Rattle.conflict_proof.specs.declared.faults.Reason.{Reason}
use Rattle.conflict_proof.specs.declared.faults.Reason.TheVariants as reason
use Rattle.conflict_proof.specs.declared.faults.BadLine.{BadLine}
use Rattle.verdict_meaning.specs.Systems.{System, root, count}
use Rattle.verdict_meaning.specs.Derivations.{line_at, IsAxiomLine, IsResolventLine, IsInstLine, Refutes}

-- the numbers of the lines that a line names
abbrev pub premises : How → List ℕ
premises (Axiom name) = []
premises (Resolve i j) = i ∷ j ∷ []
premises (Inst i site) = i ∷ []

-- the line of the text that has line n
abbrev pub text_line : ℕ → ℕ
text_line n = n + 1

-- the last line of the text
abbrev pub end_line : List Line → ℕ
end_line lines = length lines + 2

-- the derivation has a fault with this reason at this line; the constraints are those that count
pub data HasFault (s : System) (U : ConstraintName → Bool) (lines : List Line) : Reason → ℕ → Type 0 where
  -- a group that does not exist
  group : (n : ℕ) (line : Line) → line_at lines n ≡ Some line → root s < line.group → HasFault s U lines reason.Range (text_line n)
  -- a line that does not exist or is not earlier
  premise : (n i : ℕ) (line : Line) → line_at lines n ≡ Some line → Contains (premises line.how) i → (0 < i → i < n → ⊥)
      → HasFault s U lines reason.Range (text_line n)
  -- an unknown that is not the group's
  unknown : (n : ℕ) (line : Line) (l : Literal) → line_at lines n ≡ Some line → Contains line.lits l → (0 < l.var → l.var ≤ count s line.group → ⊥)
      → HasFault s U lines reason.Range (text_line n)
  -- no clause of a constraint of the group that counts
  axiom_line : (n : ℕ) (line : Line) (name : ConstraintName) → line_at lines n ≡ Some line → line.how ≡ Axiom name
      → (IsAxiomLine s U line.group name line.lits → ⊥) → HasFault s U lines reason.Axiom (text_line n)
  -- no resolvent of the two lines
  resolvent_line : (n i j : ℕ) (line : Line) → line_at lines n ≡ Some line → line.how ≡ Resolve i j
      → (IsResolventLine lines n line.group i j line.lits → ⊥) → HasFault s U lines reason.Resolvent (text_line n)
  -- not the line, carried to the site
  inst_line : (n i site : ℕ) (line : Line) → line_at lines n ≡ Some line → line.how ≡ Inst i site
      → (IsInstLine s lines n line.group i site line.lits → ⊥) → HasFault s U lines reason.Inst (text_line n)
  -- the last line is no empty clause of the root
  refutation : (Refutes s lines → ⊥) → HasFault s U lines reason.NoRefutation (end_line lines)

-- on one line Range comes before the others
abbrev pub rank : Reason → ℕ
rank reason.Range = 0
rank _ = 1

-- a fault at this line for this reason, and none at an earlier line or at this one for a reason that comes before it
pub record IsFirstFault (s : System) (U : ConstraintName → Bool) (lines : List Line) (bad : BadLine) : Type 0 where
  pub fault : HasFault s U lines bad.reason bad.line
  pub first : (why : Reason) (line : ℕ) → HasFault s U lines why line → (bad.line < line) ⊎ ((bad.line ≡ line) × (rank bad.reason ≤ rank why))
