-- The text of a derivation, line by line. Numbers are decimal, words are separated by one space, and each line
-- ends with a line feed.
use Rattle.std.specs.Prelude.{ℕ, if◌then◌else◌, List, [], ◌∷◌, ◌++◌, map, length, codes, decimal}
use Rattle.std.specs.List.{flat_map}
use Rattle.line_texts.specs.Lines.{with_line_feeds}
use Rattle.zo_core.specs.Literals.{Literal}
use Rattle.conflict_proof.specs.declared.names.ConstraintName.{ConstraintName}
use Rattle.conflict_proof.specs.declared.derivation.How.{How}
use Rattle.conflict_proof.specs.declared.derivation.How.TheVariants.{Axiom, Resolve, Inst}
use Rattle.conflict_proof.specs.declared.derivation.Line.{Line}
use Rattle.conflict_proof.specs.declared.derivation.Derivation.{Derivation}

-- the unknown's number, after `-` where the literal says that the unknown is 0
abbrev pub literal_text : Literal → List ℕ
literal_text l = if l.sign then decimal l.var else 45 ∷ decimal l.var

-- each literal after a space
abbrev pub clause_text : List Literal → List ℕ
clause_text c = flat_map (λ l. 32 ∷ literal_text l) c

-- each number after a space
abbrev pub numbers_text : List ℕ → List ℕ
numbers_text ns = flat_map (λ n. 32 ∷ decimal n) ns

-- the numbers of an axiom's line
abbrev pub axiom_numbers : ℕ → ConstraintName → List ℕ
axiom_numbers group n = group ∷ n.rule ∷ n.proc ∷ n.place ∷ n.edge ∷ n.slot ∷ n.field ∷ n.other ∷ []

-- the letter, the group's number, and what the line comes from:
--   a GROUP RULE PROC PLACE EDGE SLOT FIELD OTHER
--   r GROUP LINE LINE
--   i GROUP LINE SITE
abbrev pub how_text : ℕ → How → List ℕ
how_text group (Axiom name) = 97 ∷ numbers_text (axiom_numbers group name)
how_text group (Resolve first second) = 114 ∷ numbers_text (group ∷ first ∷ second ∷ [])
how_text group (Inst line site) = 105 ∷ numbers_text (group ∷ line ∷ site ∷ [])

-- where the line comes from, ` :`, and its literals
abbrev pub line_text : Line → List ℕ
line_text l = how_text l.group l.how ++ codes " :" ++ clause_text l.lits

-- the last line
abbrev pub end_text : ℕ → List ℕ
end_text count = codes "end " ++ decimal count

-- the lines of the text, without their line feeds
abbrev pub text_lines : Derivation → List (List ℕ)
text_lines d = codes "clouseau derivation 1" ∷ map line_text d.lines ++ end_text (length d.lines) ∷ []

abbrev pub derivation_text : Derivation → List ℕ
derivation_text d = with_line_feeds (text_lines d)
