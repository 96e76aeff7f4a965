-- The lines of a valid derivation name earlier lines alone.
use Rattle.std.proofs.Common.{ℕ, Bool, List}
use Rattle.zo_core.specs.Literals.{Literal}
use Rattle.conflict_proof.specs.declared.names.ConstraintName.{ConstraintName}
use Rattle.conflict_proof.specs.declared.derivation.How.{How}
use Rattle.conflict_proof.specs.declared.derivation.How.TheVariants.{Axiom, Resolve, Inst}
use Rattle.conflict_proof.specs.declared.derivation.Line.{Line}
use Rattle.verdict_meaning.specs.Systems.{System}
use Rattle.verdict_meaning.specs.Derivations.{IsValidIn, IsRight}
use Rattle.used_names.specs.Marks.{IsBefore, LeadBack}

is_before : (s : System) (U : ConstraintName → Bool) (lines : List Line) (n g : ℕ) (how : How) (c : List Literal) → IsRight s U lines n g how c → IsBefore how n
is_before s U lines n g (Axiom name) c r = tt
is_before s U lines n g (Resolve i j) c r = (r.first_earlier, r.second_earlier)
is_before s U lines n g (Inst i site) c r = r.earlier

pub valid_lead_back : (s : System) (U : ConstraintName → Bool) (lines : List Line) → IsValidIn s U lines → LeadBack lines
valid_lead_back s U lines v n line at = is_before s U lines n line.group line.how line.lits (v n line at).right
