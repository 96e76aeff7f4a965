use Rattle.std.proofs.Common.{◌≡◌, ◌++◌, ◌∷◌, [], rules}
use Rattle.conflict_proof.specs.Text.{how_text, clause_text}
use Rattle.conflict_proof.proofs.PrintLemmas.{one_literal, literals_small}
use Rattle.conflict_proof.proofs.printer.put_line.Goals as goal

pub loop-lit-preserved : goal.loop-lit-preserved
loop-lit-preserved c =
    let l = c.loop-lit in
    let lits = c.lits-lit-items.result.now in
    let lit = c.lit-item.result in
    let added : c.put_literal.new.out.items ≡ l.out.items ++ clause_text (lit ∷ []) = search rules in
    record {
      text = one_literal lits l.lit-index lit c.args.out.now.items (how_text c.args.line.now.group c.args.line.now.how) l.out.items c.put_literal.new.out.items c.loop-lit-test.true c.lit-item.is l.invariant.text added;
      small = literals_small lits l.lit-index lit c.loop-lit-test.true c.lit-item.is l.invariant.small c.put_literal.ensures.small;
    }
