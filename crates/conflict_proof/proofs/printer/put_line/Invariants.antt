use Rattle.std.proofs.Common.{◌≡◌, ◌<◌, ◌^◌, ◌++◌, take, codes}
use Rattle.std.specs.List.{All}
use Rattle.conflict_proof.specs.Text.{how_text, clause_text}
use Rattle.conflict_proof.proofs.printer.put_line.Given as goal

abbrev pub invariant-loop-lit : goal.invariant-loop-lit
invariant-loop-lit l = record {
  text : l.out.items ≡ l.fn.out.items ++ (how_text l.line.group l.line.how ++ (codes " :" ++ clause_text (take l.lit-index l.lit-items)));
  small : All (λ m. m.var < 2 ^ 31) (take l.lit-index l.lit-items);
}
