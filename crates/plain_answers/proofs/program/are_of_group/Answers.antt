use Rattle.std.proofs.Common.{◌<◌, ◌≤◌, List, length, subst, arith}
use Rattle.std.specs.List.{All}
use Rattle.std.proofs.lemmas.List.{take_all}
use Rattle.std.proofs.lemmas.List.Elements.{All-more}
use Rattle.zo_core.specs.Literals.{Literal}
use Rattle.transfer_rules.specs.Names.{NamedClause}
use Rattle.transfer_rules.specs.Table.{no_clause}
use Rattle.plain_answers.specs.Stages.{IsOfGroup, AreOfGroup}
use Rattle.plain_answers.proofs.program.are_of_group.Goals as goal

pub loop-number-preserved : goal.loop-number-preserved
loop-number-preserved c =
    let below : c.loop-number.number < length c.args.table.now = (let t = c.loop-number-test.true in let e = c.len-number-end.ensures in omega arith) in
    All-more (IsOfGroup c.args.count) c.args.table.now c.loop-number.number no_clause below c.loop-number.invariant
    (subst (λ (ls : List Literal). AreOfGroup c.args.count ls) c.lits.ensures (c.is_of_group.ensures c.if-not-is_of_group.false))

pub returns : goal.returns
returns c = λ _.
    let past : length c.args.table.now ≤ c.loop-number.number = (let t = c.loop-number-test.false in let e = c.len-number-end.ensures in omega arith) in
    subst (λ (rs : List NamedClause). All (IsOfGroup c.args.count) rs) (take_all c.loop-number.number c.args.table.now past) c.loop-number.invariant
