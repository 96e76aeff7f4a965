-- Lines that are added to known ones.
use Rattle.std.specs.Prelude.{◌≡◌, ◌≢◌, ℕ, ◌+◌, ◌*◌, ◌<◌, ◌⊎◌, Bool, cond, List, [], ◌∷◌, ◌++◌, MatchOption, Some, length, map, slice_get}
use Rattle.std.specs.Global.{Vec}
use Rattle.std.specs.declared.cmp.Ordering.{Ordering}
use Rattle.std.specs.BTreeMap.{BTreeMap, get}
use Rattle.std.specs.Cmp.Lexicographic.{slice_cmp}
use Rattle.std.specs.Ordering.{nat_cmp}
use Rattle.zo_core.specs.Literals.{Literal}
use Rattle.conflict_proof.specs.declared.names.ConstraintName.{ConstraintName}
use Rattle.conflict_proof.specs.declared.derivation.Line.{Line}
use Rattle.verdict_meaning.specs.Systems.{System, root, callee, callees}
use Rattle.verdict_meaning.specs.Derivations.{IsValidIn, NoClauseTwice, line_at}
use Rattle.call_search.specs.Verdicts.{BeginsWith}
use Rattle.call_search.specs.Ledgers.{IsNew}
use Rattle.call_summary.specs.Trims.{by_new}

-- the number of a literal
abbrev pub code_of : Literal → ℕ
code_of l = 2 * l.var + cond l.sign 1 0

-- a line's group, and its literals by number
abbrev pub key_of : Line → List ℕ
key_of line = line.group ∷ map code_of line.lits

-- line n has the clause of this one, in the same group
pub record HasClause (lines : List Line) (n : ℕ) (x : Line) : Type 0 where
  pub line : Line
  pub there : line_at lines n ≡ Some line
  pub group : line.group ≡ x.group
  pub lits : line.lits ≡ x.lits

-- Numbers of lines by their keys

-- the order of keys
abbrev pub key_order : Vec ℕ → Vec ℕ → Ordering
key_order a b = slice_cmp nat_cmp a.items b.items

-- no line has this key
abbrev pub NoneHas : List Line → List ℕ → Type 0
NoneHas lines key = (n : ℕ) (x : Line) → line_at lines n ≡ Some x → key_of x ≡ key → ⊥

-- line n has this key
pub record HasKey (lines : List Line) (key : List ℕ) (n : ℕ) : Type 0 where
  pub line : Line
  pub there : line_at lines n ≡ Some line
  pub is : key_of line ≡ key

-- the map tells for each key a line that has it, or that there is none
abbrev pub IsIndexOf : List Line → BTreeMap (Vec ℕ) ℕ → Type 0
IsIndexOf lines index = (key : Vec ℕ) → MatchOption (get key_order index key) (NoneHas lines key.items) (HasKey lines key.items)

-- the line has a new number, under which its clause stands: that of a line with its clause, or that of a line that was added
pub record IsAdded (old : List Line) (numbers : List ℕ) (line : Line) (new : List Line) (more : List ℕ) : Type 0 where
  pub at : ℕ
  pub numbers_are : more ≡ numbers ++ at ∷ []
  pub has : HasClause new at line
  pub cases : (new ≡ old) ⊎ ((new ≡ old ++ by_new numbers line ∷ []) × IsNew old line.group line.lits)

-- the lines that groups call are those of lower groups
abbrev pub CallsLower : System → Type 0
CallsLower s = (g site : ℕ) → site < length (callees s g) → (callee s g site).group < g

-- for each line outside the root there is one with its clause in its group
pub record HasClauseSomewhere (lines : List Line) (x : Line) : Type 0 where
  pub number : ℕ
  pub has : HasClause lines number x

abbrev pub HaveClauses : ℕ → List Line → List Line → Type 0
HaveClauses top lines from = (n : ℕ) (x : Line) → slice_get from n ≡ Some x → x.group ≢ top → HasClauseSomewhere lines x

-- lines that begin with the known ones and have the clauses of others outside the root, no clause twice in a group
pub record IsJoined (top : ℕ) (known more lines : List Line) : Type 0 where
  pub begins : BeginsWith known lines
  pub once : NoClauseTwice lines
  pub groups : (n : ℕ) (x : Line) → slice_get lines n ≡ Some x → x.group ≢ top
  pub have : HaveClauses top lines more
  pub valid : (s : System) → (U : ConstraintName → Bool) → top ≡ root s → CallsLower s → IsValidIn s U known → IsValidIn s U more → IsValidIn s U lines
