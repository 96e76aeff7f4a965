-- An operand that is no name, at the front of a statement: a step must follow it, so one level less is left to the operand.
use Rattle.std.proofs.Common.{◌≡◌, ◌≤◌, ◌<◌, ◌-◌, ℕ, zero, suc, true, false, List, refl, sym, ◌∙◌, inl, inr, Some, None, arith}
use Rattle.std.specs.Prelude.{option_and_then, codes}
use Rattle.std.proofs.lemmas.Bool.{cases_lt}
use Rattle.c_tree.specs.Plain.{Expr}
use Rattle.c_token.specs.declared.token.Token.{Token}
use Rattle.c_grammar.specs.Parts.{Part}
use Rattle.c_grammar.specs.Exprs.{Primary, expr_line}
use Rattle.c_grammar.specs.Exprs as grammar
use Rattle.c_grammar.specs.Reading.{after_mark}
use Rattle.c_grammar.specs.ReadExprs.{Stage, stage, read_primary}
use Rattle.c_grammar.specs.ReadStmts.{from_primary}
use Rattle.c_grammar.proofs.Fronts.{by_bool, by_option, mark_next}
use Rattle.c_grammar.proofs.Begins.{line_deep}
use Rattle.c_grammar.proofs.LineComplete.{rank, next_rank}
use Rattle.c_grammar.proofs.PrimarySound.{FitsPrimary, primary_sound}
use Rattle.c_grammar.proofs.PrimaryComplete.{primary_complete}
use Rattle.c_grammar.proofs.StageSound.{stage_sound}
use Rattle.c_grammar.proofs.StageComplete.{stage_complete}
use Rattle.c_parser.specs.Below.{begins_step}
use Rattle.c_parser.proofs.Loops.{steps_deep}
use Rattle.c_parser.proofs.Paths.{from_steps, from_unnamed}

step_rank : (ts : List Token) → begins_step ts ≡ true → 0 < rank ts
step_rank ts is = by_option (after_mark (codes "->") ts)
    (λ q some. let r = next_rank _ ts q.rest q.token (mark_next (codes "->") ts q some) in omega arith)
    (λ none. by_option (after_mark (codes "[") ts)
    (λ q some. let r = next_rank _ ts q.rest q.token (mark_next (codes "[") ts q some) in omega arith)
    (λ none'. let never : false ≡ true = rw (none, none') at is in cc))

from_deep : (d : ℕ) (s : Stage) (p : Part Expr) → d < p.depth → from_primary d s false p ≡ None
from_deep d s p deep = by_bool (begins_step p.rest)
    (λ yes'. from_steps d s false p yes' ∙ rw (steps_deep (suc d) (s.line expr_line) d p yes' deep) refl)
    (λ no'. from_unnamed d s p no')

read_fits : (d : ℕ) (ts : List Token) (p : Part Expr) → read_primary (stage d) ts ≡ Some p → FitsPrimary (suc d) ts p
read_fits d ts p read = primary_sound d (stage d) (stage_sound d) ts p read

primary_deep : (ts : List Token) (p : Part Expr) → Primary ts p → 0 < p.depth
primary_deep ts p from = line_deep 0 ts p (grammar.unary ts p (grammar.Unary.postfix ts p (grammar.Postfix.primary ts p from)))

-- a primary that a step follows is read wherever it is not too deep
read_again : (d e : ℕ) (ts : List Token) (p : Part Expr) → read_primary (stage d) ts ≡ Some p → begins_step p.rest ≡ true → p.depth ≤ suc e
    → read_primary (stage e) ts ≡ Some p
read_again d e ts p read step low = primary_complete e (stage e) (stage_complete e) ts p (read_fits d ts p read).0 low (step_rank p.rest step)

pub operand_first : (ts : List Token) → option_and_then (from_primary 0 (stage 0) false) (read_primary (stage 0) ts) ≡ None
operand_first ts = by_option (read_primary (stage 0) ts)
    (λ p is. let deep = primary_deep ts p (read_fits 0 ts p is).0 in rw is (from_deep 0 (stage 0) p deep))
    (λ none. rw none refl)

operand_none : (e : ℕ) (ts : List Token) → ((p : Part Expr) → read_primary (stage e) ts ≡ Some p → begins_step p.rest ≡ true → ⊥)
    → option_and_then (from_primary (suc e) (stage (suc e)) false) (read_primary (stage (suc e)) ts) ≡ None
operand_none e ts never = by_option (read_primary (stage (suc e)) ts)
    (λ p is. rw is (by_bool (begins_step p.rest)
    (λ yes'. elim (cases_lt (suc e) p.depth) [
      | inl deep ↦ from_deep (suc e) (stage (suc e)) p deep
      | inr low ↦ absurd (never p (read_again (suc e) e ts p is yes' low) yes')
    ])
    (λ no'. from_unnamed (suc e) (stage (suc e)) p no')))
    (λ none. rw none refl)

operand_less : (e : ℕ) (ts : List Token)
    → option_and_then (from_primary (suc e) (stage (suc e)) false) (read_primary (stage (suc e)) ts)
    ≡ option_and_then (from_primary (suc e) (stage (suc e)) false) (read_primary (stage e) ts)
operand_less e ts = by_option (read_primary (stage e) ts)
    (λ p is. by_bool (begins_step p.rest)
    (λ yes'. let low = (read_fits e ts p is).1 in let above = read_again e (suc e) ts p is yes' (omega arith) in rw (above, is) refl)
    (λ no'. operand_none e ts (λ q is' step. let same : Some p ≡ Some q = sym is ∙ is' in let never : true ≡ false = cc in cc)
    ∙ sym (rw is (from_unnamed (suc e) (stage (suc e)) p no'))))
    (λ none. operand_none e ts (λ q is' step. let never : None ≡ Some q = sym none ∙ is' in cc) ∙ rw none refl)

pub operand_below : (limit : ℕ) (ts : List Token) → 0 < limit
    → option_and_then (from_primary limit (stage limit) false) (read_primary (stage limit) ts)
    ≡ option_and_then (from_primary limit (stage limit) false) (read_primary (stage (limit - 1)) ts)
operand_below zero ts some = absurd (omega arith)
operand_below (suc e) ts some = let less : suc e - 1 ≡ e = omega arith in rw less (operand_less e ts)
