use Rattle.std.proofs.Common.{[], ◌∷◌, length-append, arith}
use Rattle.path_facts.proofs.TableLemmas.{tables_more}
use Rattle.path_facts.proofs.solve.facts.Goals as goal

pub procs-preserved : goal.procs-preserved
procs-preserved c =
    let count = c.procs.invariant.count in
    rw c.in_ok-push.ensures.items
    (record {
      count = omega (arith, length-append c.procs.tables.items (c.in_ok-of.field-0 ∷ []));
      tables = tables_more c.args.graph.now c.procs.tables.items c.in_ok-of.field-0 c.procs.proc count c.procs.invariant.tables c.in_ok-of.ensures;
    })
