use Rattle.std.proofs.Common.{◌++◌, ℕ, List, get_or, ap, ◌∙◌}
use Rattle.std.proofs.lemmas.List.{take_all}
use Rattle.std.specs.List.{flat_map}
use Rattle.transfer_rules.specs.Names.{NamedClause, clauses_in}
use Rattle.transfer_rules.specs.Programs.{group_at}
use Rattle.transfer_rules.specs.Rules.{body_constraints}
use Rattle.transfer_rules.proofs.NameLemmas.{clauses_next}
use Rattle.transfer_rules.proofs.listing.group_clauses.Goals as goal

pub loop-proc-preserved : goal.loop-proc-preserved
loop-proc-preserved c =
    let p = c.args.program.now in
    let s = c.args.scope.now in
    let f = body_constraints p.graph p.facts (group_at p.groups c.args.group) in
    let ms = c.members-members.result.now in
    let i = c.loop-proc.proc-index in
    c.in_ok-table.ensures ∙ ap (λ (t : List NamedClause). t ++ clauses_in s (f (get_or ms i 0))) c.loop-proc.invariant
    ∙ clauses_next s f ms i c.loop-proc-test.true

pub returns : goal.returns
returns c =
    let p = c.args.program.now in
    let s = c.args.scope.now in
    let f = body_constraints p.graph p.facts (group_at p.groups c.args.group) in
    let ms = c.members-members.result.now in
    let i = c.loop-proc.proc-index in
    c.loop-proc.invariant ∙ ap (λ (us : List ℕ). clauses_in s (flat_map f us)) (take_all i ms c.loop-proc-test.false ∙ c.members-members.ensures)
