use Rattle.std.proofs.Common.{ℕ, ◌<◌, List, [], length, get_or, sym, subst}
use Rattle.std.specs.List.{Contains}
use Rattle.std.proofs.lemmas.List.Elements.{Contains-get_or}
use Rattle.recursion_groups.proofs.Each.{group_at}
use Rattle.unit_answers.proofs.laying.first.Goals as goal

pub bounds-members-0 : goal.bounds-members-0
bounds-members-0 c =
    let p = c.args.program.now in
    subst (λ (ms : List ℕ). 0 < length ms) (sym c.members-members.ensures) (group_at p.graph [] p.groups c.args.group c.law.ensures.groups c.requires).some

pub returns-clause-member : goal.returns-clause-member
returns-clause-member c =
    let p = c.args.program.now in
    let some = (group_at p.graph [] p.groups c.args.group c.law.ensures.groups c.requires).some in
    subst (λ (ms : List ℕ). Contains (get_or p.groups c.args.group []) (get_or ms 0 0)) (sym c.members-members.ensures)
    (Contains-get_or (get_or p.groups c.args.group []) 0 0 some)
