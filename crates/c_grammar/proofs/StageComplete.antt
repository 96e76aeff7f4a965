-- What is spelled as an expression is read, at every depth that is left.
use Rattle.std.proofs.Common.{◌≡◌, ◌≤◌, ℕ, zero, suc, List, refl, Some, None, arith}
use Rattle.std.specs.Prelude.{codes}
use Rattle.c_token.specs.declared.token.Token.{Token}
use Rattle.c_token.specs.declared.token.TokenKind.TheVariants as kind
use Rattle.c_grammar.specs.Parts.{Part, Row, Next}
use Rattle.c_grammar.specs.Exprs.{Allocation, Size, Request, expr_line}
use Rattle.c_grammar.specs.Exprs as grammar
use Rattle.c_grammar.specs.ReadExprs.{Stage, first, next, stage, no_part, size_by}
use Rattle.c_grammar.proofs.Begins.{line_deep}
use Rattle.c_grammar.proofs.TypeComplete.{unit_begins, unit_complete}
use Rattle.c_grammar.proofs.PrimarySound.{IsSound}
use Rattle.c_grammar.proofs.StageSound.{stage_sound}
use Rattle.c_grammar.proofs.PrimaryComplete.{IsComplete, args_complete}
use Rattle.c_grammar.proofs.LinesComplete.{line_complete}
use Rattle.c_grammar.proofs.SizeComplete.{size_complete, allocation_complete, closing_no_star}

first_size : (ts us : List Token) (r : Row Request) (c : Token) → Size ts r → r.depth ≤ 0 → Next (kind.Mark (codes ")")) r.rest c us
    → size_by no_part no_part (λ p. None) 0 ts ≡ Some r
first_size ts us r c (grammar.Size.unit vs u from) low end =
    let begin = unit_begins vs u from in
    let read = unit_complete 0 vs u from low in
    let star = closing_no_star u.rest us c end in
    rw (begin, read, star) refl
first_size ts us r c (grammar.Size.count_unit vs ws t p u x y z) low end = let deep = line_deep _ vs p x in absurd (omega arith)
first_size ts us r c (grammar.Size.unit_count vs ws t u p x y z) low end = let deep = line_deep _ ws p z in absurd (omega arith)
first_size ts us r c (grammar.Size.bytes vs p from) low end = let deep = line_deep _ vs p from in absurd (omega arith)

first_allocation : (ts : List Token) (a : Part Request) → Allocation ts a → a.depth ≤ 0 → None ≡ Some a
first_allocation ts a (grammar.malloc t o c us vs ws r is x y z) low = absurd (omega arith)
first_allocation ts a (grammar.calloc t o m c us vs ws xs p u is x y z v w) low = absurd (omega arith)
first_allocation ts a (grammar.calloc_bytes t o m n c us vs ws xs ys p is x y z v w) low = absurd (omega arith)

first_complete : IsComplete 0 first
first_complete = record {
  line = λ k ts p from low free less. let deep = line_deep k ts p from in absurd (omega arith);
  args = λ ts us vs o c a x from y low. absurd (omega arith);
  size = λ ts us r c from low end. first_size ts us r c from low end;
  allocation = λ ts a from low. first_allocation ts a from low;
}

next_complete : (d : ℕ) (s : Stage) → IsSound d s → IsComplete d s → IsComplete (suc d) (next d s)
next_complete d s sound complete = record {
  line = line_complete d s complete;
  args = λ ts us vs o c a x from y low. args_complete d (s.line expr_line) (complete.line expr_line) ts us vs o c a x from y (omega arith);
  size = λ ts us r c from low end. size_complete d s complete sound ts us r c from low end;
  allocation = allocation_complete d s complete sound;
}

pub stage_complete : (d : ℕ) → IsComplete d (stage d)
unfolding stage
stage_complete zero = first_complete
stage_complete (suc d) = next_complete d (stage d) (stage_sound d) (stage_complete d)
