use Rattle.std.proofs.Common.{◌≡◌, ℕ, ◌≤◌, List, [], ap, subst, ◌∙◌, arith}
use Rattle.std.specs.List.{All}
use Rattle.transfer_rules.specs.Names.{NamedClause}
use Rattle.unit_answers.specs.Propagation.{IsWithin}
use Rattle.unit_answers.specs.Settled.{IsSettled}
use Rattle.verdict_meaning.specs.Programs.{system_in}
use Rattle.unit_answers.specs.Tables.{table_in}
use Rattle.unit_answers.proofs.groups.set_of.Goals as goal

weaker : (rows : List NamedClause) (m n : ℕ) → m ≤ n → All (IsWithin m) rows → All (IsWithin n) rows
weaker rows m n le all k d lt = λ i e less. let low = all k d lt i e less in omega arith

pub group_set-requires-clause-table : goal.group_set-requires-clause-table
group_set-requires-clause-table c =
    let low = c.if-most_in-count.false in
    let many = c.count_of-count.ensures.count in
    weaker c.in_ok-table.table c.most_in.result _ (omega arith) c.most_in.ensures.most

pub returns-clause-within : goal.returns-clause-within
returns-clause-within c = λ l there.
    let within = c.in_ok-set.ensures.within l there in
    let own = (c.requires.layout.each c.args.group (let lt = c.requires.group in omega arith)).count in
    omega arith

pub returns-clause-settled : goal.returns-clause-settled
returns-clause-settled c =
    let p = c.args.program.now in
    let number : c.in-Ok.number ≡ c.args.group = (let both = c.in-Ok.ensures in both.1) in
    let rows : c.in_ok-table.table ≡ table_in p c.args.scope.now c.args.group = c.in_ok-table.ensures.table ∙ ap (table_in p c.args.scope.now) number in
    subst (λ (rs : List NamedClause). IsSettled (system_in p) c.args.group rs c.args.lower.now [] c.in_ok-set.set) rows (c.in_ok-set.ensures.settled (system_in p) c.requires.layout)
