use Rattle.std.proofs.Common.{◌+◌, arith, sym, ◌∙◌}
use Rattle.proof_checker.proofs.LineLemmas.{read_number, inst_line}
use Rattle.proof_checker.proofs.lines.is_inst_line.Goals as goal

pub returns : goal.returns
returns g c =
    inst_line _ c.args.lines.now (c.args.k + 1) c.args.line.now.group c.args.i c.args.site c.args.line.now.lits c.index-lines-i.result c.in-Some.callee c.are_carried.result
    (sym c.callee.ensures ∙ c.in-Some.is) (read_number c.args.lines.now c.args.i c.index-lines-i.result c.requires.earlier.0 (omega arith) c.index-lines-i.is) c.requires.earlier.1 (omega arith)
    c.lits.ensures.canonical c.lits-2.ensures.canonical (rw (c.lits.ensures.lits, c.lits-2.ensures.lits) at c.are_carried.ensures)
