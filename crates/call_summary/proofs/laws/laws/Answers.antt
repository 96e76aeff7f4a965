use Rattle.call_summary.proofs.laws.laws.Goals as goal

pub returns-clause-apart : goal.returns-clause-apart
returns-clause-apart c = λ s U units plain. c.unit_refuted_is_unsatisfiable.ensures s U units (c.plain_is_satisfiable.ensures s U plain)
