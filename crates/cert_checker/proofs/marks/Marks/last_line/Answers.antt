use Rattle.std.proofs.Common.{◌≡◌, ℕ, ◌+◌, ◌∷◌, [], ◌++◌, List, take, map, max, get_or, refl, sym, ap, ◌∙◌, arith}
use Rattle.std.proofs.lemmas.List.{take_more}
use Rattle.zo_core.specs.Literals.{Literal}
use Rattle.cert_checker.specs.Tables.{clause_line, line_in}
use Rattle.cert_checker.proofs.RunLemmas.{one_more_lit}
use Rattle.cert_checker.proofs.marks.Marks.last_line.Goals as goal

pub loop-lit-preserved : goal.loop-lit-preserved
loop-lit-preserved c =
    one_more_lit (line_in c.args.self.now.fields c.args.self.now.lines.items c.args.self.now.after) c.args.lits.now c.loop-lit.lit-index c.lit-item.result c.loop-lit.last c.max-last.result
    c.loop-lit-test.true c.lit-item.is c.loop-lit.invariant
    (c.max-last.ensures ∙ ap (λ (k : ℕ). max k c.loop-lit.last) (c.line.ensures ∙ ap (line_in c.args.self.now.fields c.args.self.now.lines.items c.args.self.now.after) (c.number.ensures.number ∙ c.var.ensures.var)))
