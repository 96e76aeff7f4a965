use Rattle.std.proofs.Common.{◌≤◌, ℕ, take, refl, ap, arith, rules}
use Rattle.flow_graph.specs.FlowGraph.{type_in}
use Rattle.flow_graph.specs.Fits.{pointer_count}
use Rattle.owner_vars.specs.declared.field_table.Member.{Member}
use Rattle.owner_vars.specs.Tables.{member_row}
use Rattle.owner_vars.proofs.Lists.{listed_more}
use Rattle.owner_vars.proofs.Sizes.{pointer_count_more, pointer_count_within}
use Rattle.owner_vars.proofs.field_walk.member_rows.Goals as goal

pub loop-kind-preserved : goal.loop-kind-preserved
loop-kind-preserved c =
    let l = c.loop-kind in
    let ts = c.args.kinds.now in
    let so_far = pointer_count (take l.kind-index ts) in
    let step = pointer_count_more ts l.kind-index _ c.loop-kind-test.true so_far c.from-number.result c.is_pointer.result refl c.is_pointer.ensures c.from-number.ensures in
    let few : so_far ≤ l.kind-index = omega (arith, l.invariant.number, l.invariant.small) in
    let within = pointer_count_within ts l.kind-index _ c.loop-kind-test.true so_far c.from-number.result c.is_pointer.result refl c.is_pointer.ensures c.from-number.ensures few in
    record {
      rows = listed_more l.kind-index (member_row c.args.first ts) l.rows.items _ _ l.invariant.rows (ap (λ n. member n) l.invariant.number) (search rules);
      number = omega (arith, step, l.invariant.number);
      small = omega (arith, within, l.invariant.number);
    }
  where
    member : ℕ → Member
    member n = record { kind = type_in c.args.kinds.now c.loop-kind.kind-index; number = n }
