-- What the verdict on a program is, where some lines are known.
use Rattle.std.specs.Prelude.{◌≡◌, ◌≢◌, ℕ, ◌+◌, ◌≤◌, Bool, List, ◌++◌, Some, slice_get}
use Rattle.conflict_proof.specs.declared.names.ConstraintName.{ConstraintName}
use Rattle.conflict_proof.specs.declared.derivation.Line.{Line}
use Rattle.verdict_meaning.specs.Systems.{System, root}
use Rattle.own_cert.specs.declared.certificate.Certificate.{Certificate}
use Rattle.verdict_meaning.specs.Certificates.{IsGoodIn, HasNoNeedless}
use Rattle.verdict_meaning.specs.Derivations.{IsValidIn, Refutes, NoClauseTwice, IsSpent, cost_of}
use Rattle.call_search.specs.declared.judging.Judged.{Judged}
use Rattle.call_search.specs.declared.judging.Judged.TheVariants as judged

-- valid lines of groups, no clause twice in a group
pub record AreKnown (s : System) (U : ConstraintName → Bool) (known : List Line) : Type 0 where
  pub valid : IsValidIn s U known
  pub once : NoClauseTwice known
  pub groups : (n : ℕ) (x : Line) → slice_get known n ≡ Some x → x.group ≢ root s

pub record BeginsWith (known lines : List Line) : Type 0 where
  pub more : List Line
  pub is : lines ≡ known ++ more

-- lines that begin with those known, and refute at no more than the budget
pub record IsRefutation (s : System) (U : ConstraintName → Bool) (known : List Line) (budget : ℕ) (lines : List Line) : Type 0 where
  pub begins : BeginsWith known lines
  pub valid : IsValidIn s U lines
  pub refutes : Refutes s lines
  pub cost : cost_of lines ≤ cost_of known + budget

-- lines that begin with those known, and show that the budget is spent
pub record IsUndecided (s : System) (U : ConstraintName → Bool) (known : List Line) (budget : ℕ) (lines : List Line) : Type 0 where
  pub begins : BeginsWith known lines
  pub spent : IsSpent s U lines (cost_of known + budget)

-- valid lines that begin with those known, no clause twice in a group
pub record AreLearnt (s : System) (U : ConstraintName → Bool) (known lines : List Line) : Type 0 where
  pub begins : BeginsWith known lines
  pub valid : IsValidIn s U lines
  pub once : NoClauseTwice lines

-- a good certificate without needless instances, and lines that were learnt
pub record IsAcceptance (s : System) (U : ConstraintName → Bool) (known : List Line) (c : Certificate) (lines : List Line) : Type 0 where
  pub good : IsGoodIn s U c
  pub needed : HasNoNeedless s c
  pub learnt : AreLearnt s U known lines

abbrev pub JudgedIs : System → (ConstraintName → Bool) → List Line → ℕ → Judged → Type 0
JudgedIs s U known budget (judged.Accepted c lines) = IsAcceptance s U known c lines
JudgedIs s U known budget (judged.Refuted d) = IsRefutation s U known budget d.lines
JudgedIs s U known budget (judged.Undecided d) = IsUndecided s U known budget d.lines
