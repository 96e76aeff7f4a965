-- What a valid derivation is, when it refutes, and what it costs.
use Rattle.std.specs.Prelude.{sum_by, ◌≡◌, ℕ, zero, suc, ◌+◌, ◌*◌, ◌^◌, ◌<◌, ◌≤◌, Bool, true, List, [], ◌∷◌, ◌++◌, Option, Some, None, length, slice_get, nat_eq, cond}
use Rattle.std.specs.List.{Contains, All}
use Rattle.zo_core.specs.Literals.{Literal}
use Rattle.zo_core.specs.Truth.{clause_true}
use Rattle.zo_core.specs.Order.{Ascends, gathered}
use Rattle.zo_core.specs.Resolvents.{IsResolvent}
use Rattle.conflict_proof.specs.declared.names.ConstraintName.{ConstraintName}
use Rattle.conflict_proof.specs.declared.derivation.How.{How}
use Rattle.conflict_proof.specs.declared.derivation.How.TheVariants.{Axiom, Resolve, Inst}
use Rattle.conflict_proof.specs.declared.derivation.Line.{Line}
use Rattle.verdict_meaning.specs.Systems.{System, root, callee, callees, names_of, phi_numbers, pi_numbers, sigma_numbers, count}
use Rattle.verdict_meaning.specs.Solutions.{counts}

-- a clause of a group's unknowns
abbrev pub IsClauseOf : System → ℕ → List Literal → Type 0
IsClauseOf s g c = Ascends 0 c × All (λ (l : Literal). l.var ≤ count s g) c

-- lines are numbered from 1
abbrev pub line_at : List Line → ℕ → Option Line
line_at lines zero = None
line_at lines (suc n) = slice_get lines n

-- An unknown of a called group and the one that stands for it at a site.
pub record Carried : Type 0 where
  pub from : ℕ
  pub to : ℕ

-- each unknown of one list with that of the other at its place
abbrev pub paired : List ℕ → List ℕ → List Carried
paired [] ms = []
paired (n ∷ ns) [] = []
paired (n ∷ ns) (m ∷ ms) = record { from = n; to = m } ∷ paired ns ms

-- the fields stand for themselves, and what the site asks for stands for the interface of the called procedure
abbrev pub at_site : System → ℕ → ℕ → List Carried
at_site s g site =
    paired (phi_numbers s) (phi_numbers s) ++ paired (pi_numbers s (callee s g site).group (callee s g site).proc) (sigma_numbers s g site)

-- what stands for the unknown, where something does
abbrev pub carried_number : List Carried → ℕ → Option ℕ
carried_number [] v = None
carried_number (p ∷ ps) v = cond (nat_eq p.from v) (Some p.to) (carried_number ps v)

-- the literals with one more before them, where there is a number for it
abbrev pub with_number : Bool → List Literal → Option ℕ → Option (List Literal)
with_number sign c None = None
with_number sign c (Some n) = Some (record { var = n; sign = sign } ∷ c)

-- the carried literals with one more before them
abbrev pub carried_before : List Carried → Literal → Option (List Literal) → Option (List Literal)
carried_before ps l None = None
carried_before ps l (Some c) = with_number l.sign c (carried_number ps l.var)

-- the literals at a site that stand for these; None where one of these is of an unknown that has none
abbrev pub carried : List Carried → List Literal → Option (List Literal)
carried ps [] = Some []
carried ps (l ∷ c) = carried_before ps l (carried ps c)

-- line n, which is one of a group, is the resolvent of two earlier lines of the group
pub record IsResolventLine (lines : List Line) (n g i j : ℕ) (c : List Literal) : Type 0 where
  pub first : Line
  pub second : Line
  pub first_at : line_at lines i ≡ Some first
  pub second_at : line_at lines j ≡ Some second
  pub first_earlier : i < n
  pub second_earlier : j < n
  pub first_group : first.group ≡ g
  pub second_group : second.group ≡ g
  pub resolvent : IsResolvent first.lits second.lits c

-- it is an earlier line of the group that a site calls, carried to the site
pub record IsInstLine (s : System) (lines : List Line) (n g i site : ℕ) (c : List Literal) : Type 0 where
  pub site_there : site < length (callees s g)
  pub line : Line
  pub there : line_at lines i ≡ Some line
  pub earlier : i < n
  pub group : line.group ≡ (callee s g site).group
  pub lits : List Literal
  pub is_carried : carried (at_site s g site) line.lits ≡ Some lits
  pub in_order : gathered lits ≡ Some c

-- it is a clause of a constraint of the group that counts
pub record IsAxiomLine (s : System) (U : ConstraintName → Bool) (g : ℕ) (name : ConstraintName) (c : List Literal) : Type 0 where
  pub there : Contains (names_of s g) name
  pub counting : counts U name ≡ true
  pub clause : Contains (s.clauses g name) c

-- line n is what it says it is
abbrev pub IsRight : System → (ConstraintName → Bool) → List Line → ℕ → ℕ → How → List Literal → Type 0
IsRight s U lines n g (Axiom name) c = IsAxiomLine s U g name c
IsRight s U lines n g (Resolve i j) c = IsResolventLine lines n g i j c
IsRight s U lines n g (Inst i site) c = IsInstLine s lines n g i site c

-- line n is of a group that exists or of the root, is a clause of its unknowns, and is what it says it is
pub record IsRightLine (s : System) (U : ConstraintName → Bool) (lines : List Line) (n : ℕ) (line : Line) : Type 0 where
  pub group : line.group ≤ root s
  pub clause : IsClauseOf s line.group line.lits
  pub right : IsRight s U lines n line.group line.how line.lits

-- the derivation is valid, with the constraints that count
abbrev pub IsValidIn : System → (ConstraintName → Bool) → List Line → Type 0
IsValidIn s U lines = (n : ℕ) (line : Line) → line_at lines n ≡ Some line → IsRightLine s U lines n line

-- its last line is an empty clause of the root
pub record Refutes (s : System) (lines : List Line) : Type 0 where
  pub before : List Line
  pub last : Line
  pub is : lines ≡ before ++ last ∷ []
  pub group : last.group ≡ root s
  pub empty : last.lits ≡ []

-- one word and one for each literal
abbrev pub line_cost : Line → ℕ
line_cost line = length line.lits + 1

-- the words of all lines
abbrev pub cost_of : List Line → ℕ
cost_of lines = sum_by line_cost lines

-- no two lines of one group have one clause
abbrev pub NoClauseTwice : List Line → Type 0
NoClauseTwice lines =
    (n m : ℕ) (x y : Line) → slice_get lines n ≡ Some x → slice_get lines m ≡ Some y → x.group ≡ y.group → x.lits ≡ y.lits → n ≡ m

-- no group, nor the root, has more unknowns
abbrev pub HasAtMost : System → ℕ → Type 0
HasAtMost s most = (g : ℕ) → g ≤ root s → count s g ≤ most

-- what a derivation in which no clause stands twice costs at most
abbrev pub most_cost : ℕ → ℕ → ℕ
most_cost groups most = (groups + 1) * (most + 2) ^ 2 * 3 ^ most

-- A derivation shows that the budget is spent: it costs more, and without its last line it does not.
pub record IsSpent (s : System) (U : ConstraintName → Bool) (lines : List Line) (budget : ℕ) : Type 0 where
  pub valid : IsValidIn s U lines
  pub once : NoClauseTwice lines
  pub over : budget < cost_of lines
  pub before : List Line
  pub last : Line
  pub is : lines ≡ before ++ last ∷ []
  pub within : cost_of before ≤ budget

-- a line that was carried to a site
abbrev pub IsCarriedBy : How → Type 0
IsCarriedBy (Axiom name) = ⊥
IsCarriedBy (Resolve i j) = ⊥
IsCarriedBy (Inst i site) = Unit {0}

-- the lines that were carried to sites of a group are true
abbrev pub InstLinesAreTrue : List Line → ℕ → (ℕ → Bool) → Type 0
InstLinesAreTrue lines g a = (n : ℕ) (line : Line) → line_at lines n ≡ Some line → line.group ≡ g → IsCarriedBy line.how → clause_true a line.lits ≡ true
