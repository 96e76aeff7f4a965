use Rattle.std.proofs.Common.{◌≡◌, List, subst}
use Rattle.std.specs.Prelude.{IfOk}
use Rattle.transfer_rules.specs.Names.{NamedClause}
use Rattle.cert_checker.proofs.ProgramLemmas.{table_is}
use Rattle.cert_checker.proofs.grouped.clauses_at.Goals as goal

pub returns : goal.returns
returns c =
    let p = c.args.program.now in
    subst (λ (rs : List NamedClause). IfOk c.place_clauses.result (λ (t : List NamedClause). t ≡ rs))
    (table_is p.graph p.facts p.groups (c.names_are_apart.ensures p.graph p.facts) c.args.scope.now c.args.group c.args.proc c.args.place c.requires.member c.requires.place) c.place_clauses.ensures
