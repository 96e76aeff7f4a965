use Rattle.std.proofs.Common.{◌≡◌, ℕ, ◌+◌, List, max, get_or, sym, ap, ◌∙◌, arith}
use Rattle.zo_core.specs.Literals.{Literal}
use Rattle.cert_checker.specs.Tables.{row, clause_line, run_line, line_in}
use Rattle.cert_checker.proofs.RunLemmas.{one_more_row}
use Rattle.cert_checker.proofs.runs.last_line.Goals as goal

pub loop-k-preserved : goal.loop-k-preserved
loop-k-preserved c =
    let line : ℕ → ℕ = line_in c.args.marks.now.fields c.args.marks.now.lines.items c.args.marks.now.after in
    one_more_row line c.args.table.now c.args.from c.loop-k.k c.loop-k.last c.max-last.result c.loop-k.auto.k (let a = c.loop-k-test.true in let b = c.requires.within in omega (arith, a, b)) c.loop-k.invariant
    (c.max-last.ensures ∙ ap (λ (k : ℕ). max k c.loop-k.last) (c.last_line.ensures ∙ ap (clause_line line) c.lits.ensures))
