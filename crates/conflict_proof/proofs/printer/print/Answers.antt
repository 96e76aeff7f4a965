use Rattle.std.proofs.Common.{◌≡◌, ◌++◌, codes, rules}
use Rattle.conflict_proof.specs.Text.{line_text}
use Rattle.conflict_proof.specs.Values.{IsLine}
use Rattle.conflict_proof.proofs.PrintLemmas.{one_line, lines_whole}
use Rattle.conflict_proof.proofs.ReadLemmas.{same_text}
use Rattle.conflict_proof.proofs.printer.print.Goals as goal

pub loop-line-preserved : goal.loop-line-preserved
loop-line-preserved c =
    let l = c.loop-line in
    let lines = c.deref-line-items.result.now in
    let line = c.line-item.result in
    let added : c.put_line.new.out.items ≡ l.out.items ++ (line_text line ++ codes "\n") = search rules in
    let is : IsLine line = search rules in
    record {
      text = one_line lines l.line-index line (codes "clouseau derivation 1") l.out.items c.put_line.new.out.items c.loop-line-test.true c.line-item.is l.invariant.text added;
      each = lines_whole lines l.line-index line c.loop-line-test.true c.line-item.is l.invariant.each is;
    }

pub returns-clause-alone : goal.returns-clause-alone
returns-clause-alone c = λ other whole mine same. same_text other c.args.value.now whole mine same
