use Rattle.std.proofs.Common.{◌≡◌, ◌∷◌, ◌++◌, [], length, arith, rules, ap, ◌∙◌}
use Rattle.std.proofs.lemmas.List.{length_push}
use Rattle.unit_refutation.proofs.CollectLemmas.{rows_push}
use Rattle.unit_refutation.proofs.numbers.LitNumbers.new.Goals as goal

pub loop-group-preserved : goal.loop-group-preserved
loop-group-preserved c =
    let rows = c.loop-group.rows.items in
    let r = c.in_ok-room_for.field-0 in
    let items : c.push.new.self.items ≡ rows ++ r ∷ [] = search rules in
    let inv = c.loop-group.invariant in
    let count = inv.count in
    let size = ap length items ∙ length_push rows r in
    record {
      count = omega (arith, size, count);
      room = rows_push c.args.closures.now c.loop-group.group rows c.push.new.self.items r c.findings-findings.result.now items count c.findings-findings.ensures c.in_ok-room_for.ensures inv.room;
    }

pub returns : goal.returns
returns c = λ group lit le has. c.loop-group.invariant.room group lit (omega (arith, le)) has
