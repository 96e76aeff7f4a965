use Rattle.std.proofs.Common.{◌∙◌, subst}
use Rattle.call_search.specs.Indexes.{Ledger}
use Rattle.call_search.specs.Entries.{IsTable}
use Rattle.call_search.specs.Answers.{IsObtained}
use Rattle.call_search.proofs.Table.{table_sized, found_it, sat_obtained, refused, kept_obtained, fewer_kept, kept_sized, put_for}
use Rattle.call_search.proofs.fill.obtain.Goals as goal

pub is_there-requires : goal.is_there-requires
is_there-requires g c = table_sized (g.G.Shapes.system c.args.groups.now) (g.G.Groups.counting c.args.groups.now) c.args.ledger.now.lines c.args.phi.now c.args.table.now.items c.args.callee.group c.listed.result.now c.requires.left.table c.listed.ensures

pub returns-then-is_there-clause-answer : goal.returns-then-is_there-clause-answer
returns-then-is_there-clause-answer g c = found_it (g.G.Shapes.system c.args.groups.now) (g.G.Groups.counting c.args.groups.now) c.args.phi.now c.args.callee c.args.face.now c.args.ledger.now c.args.table.now.items c.listed.result.now c.listed.ensures c.requires.left.table c.if-is_there.ensures

pub take-requires-clause-sized : goal.take-requires-clause-sized
take-requires-clause-sized g c = kept_sized (g.G.Shapes.system c.args.groups.now) (g.G.Groups.counting c.args.groups.now) c.args.ledger.now.lines c.args.phi.now c.args.kept.now.items c.requires.left.kept

pub returns-in-Some-clause-answer : goal.returns-in-Some-clause-answer
returns-in-Some-clause-answer g c =
    kept_obtained (g.G.Shapes.system c.args.groups.now) (g.G.Groups.counting c.args.groups.now) c.args.phi.now c.args.callee c.args.face.now c.args.ledger.now c.args.table.now.items c.put.new.table.items c.args.kept.now.items c.listed.result.now c.in-Some.entry c.requires.left c.listed.ensures c.if-is_there.ensures c.in-Some.ensures.entry.0 c.in-Some.ensures.entry.1
    (put_for (g.G.Shapes.system c.args.groups.now) c.args.callee c.args.face.now c.in-Some.entry c.args.table.now.items c.put.new.table.items c.in-Some.ensures.entry.0 c.in_ok-put.ensures)

pub returns-in-Some-clause-left : goal.returns-in-Some-clause-left
returns-in-Some-clause-left g c = record {
  table =
      let o : IsObtained (g.G.Shapes.system c.args.groups.now) (g.G.Groups.counting c.args.groups.now) c.args.phi.now c.args.callee c.args.face.now c.args.ledger.now c.args.ledger.now c.args.table.now.items c.put.new.table.items =
      kept_obtained (g.G.Shapes.system c.args.groups.now) (g.G.Groups.counting c.args.groups.now) c.args.phi.now c.args.callee c.args.face.now c.args.ledger.now c.args.table.now.items c.put.new.table.items c.args.kept.now.items c.listed.result.now c.in-Some.entry c.requires.left c.listed.ensures c.if-is_there.ensures c.in-Some.ensures.entry.0 c.in-Some.ensures.entry.1
      (put_for (g.G.Shapes.system c.args.groups.now) c.args.callee c.args.face.now c.in-Some.entry c.args.table.now.items c.put.new.table.items c.in-Some.ensures.entry.0 c.in_ok-put.ensures) in
      o.table;
  kept = fewer_kept (g.G.Shapes.system c.args.groups.now) (g.G.Groups.counting c.args.groups.now) c.args.ledger.now.lines c.args.phi.now c.args.kept.now.items c.take.new.table.items c.requires.left.kept c.in-Some.ensures.fewer;
}

pub returns-in-Sat-clause-answer : goal.returns-in-Sat-clause-answer
returns-in-Sat-clause-answer g c =
    sat_obtained (g.G.Shapes.system c.args.groups.now) (g.G.Groups.counting c.args.groups.now) c.args.phi.now c.args.callee c.args.face.now c.args.ledger.now c.solve.new.ledger c.args.table.now.items c.put-in-Sat.new.table.items c.listed.result.now c.deref.result.now c.in_ok-bits.field-0 c.in-Sat.bits c.in-Sat.is c.in_ok-bits.ensures
    (c.deref.ensures.value ∙ c.in_ok-given.ensures.literals) c.requires.left.table c.listed.ensures c.if-is_there.ensures c.in_ok-put-in-Sat.ensures c.requires.callee c.requires.phi c.requires.face

pub returns-in-Sat-clause-left : goal.returns-in-Sat-clause-left
returns-in-Sat-clause-left g c = record {
  table =
      let o : IsObtained (g.G.Shapes.system c.args.groups.now) (g.G.Groups.counting c.args.groups.now) c.args.phi.now c.args.callee c.args.face.now c.args.ledger.now c.solve.new.ledger c.args.table.now.items c.put-in-Sat.new.table.items =
      sat_obtained (g.G.Shapes.system c.args.groups.now) (g.G.Groups.counting c.args.groups.now) c.args.phi.now c.args.callee c.args.face.now c.args.ledger.now c.solve.new.ledger c.args.table.now.items c.put-in-Sat.new.table.items c.listed.result.now c.deref.result.now c.in_ok-bits.field-0 c.in-Sat.bits c.in-Sat.is c.in_ok-bits.ensures
      (c.deref.ensures.value ∙ c.in_ok-given.ensures.literals) c.requires.left.table c.listed.ensures c.if-is_there.ensures c.in_ok-put-in-Sat.ensures c.requires.callee c.requires.phi c.requires.face in
      subst (λ (l : Ledger). IsTable (g.G.Shapes.system c.args.groups.now) (g.G.Groups.counting c.args.groups.now) l.lines c.args.phi.now c.put-in-Sat.new.table.items) o.ledger o.table;
  kept = fewer_kept (g.G.Shapes.system c.args.groups.now) (g.G.Groups.counting c.args.groups.now) c.args.ledger.now.lines c.args.phi.now c.args.kept.now.items c.take.new.table.items c.requires.left.kept c.take.ensures.fewer;
}

pub returns-in-Conflict-clause-answer : goal.returns-in-Conflict-clause-answer
returns-in-Conflict-clause-answer g c =
    refused (g.G.Shapes.system c.args.groups.now) (g.G.Groups.counting c.args.groups.now) c.args.phi.now c.args.callee c.args.face.now c.args.ledger.now c.solve.new.ledger c.deref.result.now c.in_ok-bits.field-0 c.in-Conflict.n c.in-Conflict.is c.in_ok-bits.ensures (c.deref.ensures.value ∙ c.in_ok-given.ensures.literals)

pub returns-in-Conflict-clause-left : goal.returns-in-Conflict-clause-left
returns-in-Conflict-clause-left g c = record {
  table = c.requires.left.table;
  kept = fewer_kept (g.G.Shapes.system c.args.groups.now) (g.G.Groups.counting c.args.groups.now) c.args.ledger.now.lines c.args.phi.now c.args.kept.now.items c.take.new.table.items c.requires.left.kept c.take.ensures.fewer;
}

pub returns-clause-left : goal.returns-clause-left
returns-clause-left g c = record {
  table = c.requires.left.table;
  kept = fewer_kept (g.G.Shapes.system c.args.groups.now) (g.G.Groups.counting c.args.groups.now) c.args.ledger.now.lines c.args.phi.now c.args.kept.now.items c.take.new.table.items c.requires.left.kept c.take.ensures.fewer;
}
