-- Which derivations there are: those whose numbers are within the ranges of their types, and whose clauses are
-- clauses. Every value that a program holds is one.
use Rattle.std.specs.Prelude.{◌<◌, ◌^◌, List, length}
use Rattle.std.specs.List.{All}
use Rattle.zo_core.specs.Literals.{Literal}
use Rattle.zo_core.specs.Order.{Ascends}
use Rattle.conflict_proof.specs.declared.names.ConstraintName.{ConstraintName}
use Rattle.conflict_proof.specs.declared.derivation.How.{How}
use Rattle.conflict_proof.specs.declared.derivation.How.TheVariants.{Axiom, Resolve, Inst}
use Rattle.conflict_proof.specs.declared.derivation.Line.{Line}
use Rattle.conflict_proof.specs.declared.derivation.Derivation.{Derivation}

-- literals whose unknowns ascend from 1 on, each below 2 ^ 31
abbrev pub IsClause : List Literal → Type 0
IsClause c = Ascends 0 c × All (λ l. l.var < 2 ^ 31) c

pub record IsName (n : ConstraintName) : Type 0 where
  pub proc : n.proc < 2 ^ 32
  pub place : n.place < 2 ^ 32
  pub edge : n.edge < 2 ^ 8
  pub rule : n.rule < 2 ^ 8
  pub slot : n.slot < 2 ^ 32
  pub field : n.field < 2 ^ 32
  pub other : n.other < 2 ^ 32

abbrev pub IsHow : How → Type 0
IsHow (Axiom name) = IsName name
IsHow (Resolve first second) = (first < 2 ^ 32) × (second < 2 ^ 32)
IsHow (Inst line site) = (line < 2 ^ 32) × (site < 2 ^ 32)

pub record IsLine (l : Line) : Type 0 where
  pub group : l.group < 2 ^ 32
  pub how : IsHow l.how
  pub lits : IsClause l.lits

pub record IsDerivation (d : Derivation) : Type 0 where
  pub count : length d.lines < 2 ^ 64
  pub each : All IsLine d.lines
