use Rattle.std.proofs.Common.{◌<◌, ◌∙◌, ap, ◌++◌, arith, refl, length}
use Rattle.call_search.proofs.Held.{gathering_none, gathering_next, gathered_all}
use Rattle.call_search.proofs.keeping.gather.Goals as goal

pub loop-group-init : goal.loop-group-init
loop-group-init c = gathering_none c.args.kept.now.items c.args.table.now.items

pub index_mut-requires : goal.index_mut-requires
index_mut-requires c = omega (arith, c.loop-group.kept.ok.0, c.args.kept.now.ok.0, c.loop-group.invariant.size)

pub index_mut-requires-in-loop-group : goal.index_mut-requires-in-loop-group
index_mut-requires-in-loop-group c = omega (arith, c.loop-group.table.ok.0, c.args.kept.now.ok.0, c.loop-group.invariant.left_size)

pub loop-group-preserved : goal.loop-group-preserved
loop-group-preserved c =
    let kept_lt : c.loop-group.group < length c.loop-group.kept.items = omega (arith, c.args.kept.now.ok.0, c.loop-group.invariant.size) in
    let table_lt : c.loop-group.group < length c.loop-group.table.items = omega (arith, c.args.kept.now.ok.0, c.loop-group.invariant.left_size) in
    gathering_next c.args.kept.now.items c.args.table.now.items c.loop-group.kept.items c.loop-group.table.items _ _ c.loop-group.group c.index_mut.result.now c.index_mut-in-loop-group.result.now c.append.new.self.items c.append.new.other.items
    c.loop-group.invariant kept_lt table_lt c.index_mut.ensures.value c.index_mut-in-loop-group.ensures.value
    (c.in_ok-append.ensures.items ∙ ap (λ es. es ++ c.behind-table.inside.items.items) c.behind-kept.view_is ∙ ap (λ es. c.index_mut.result.now ++ es) c.behind-table.view_is)
    refl refl

pub returns : goal.returns
returns c = gathered_all c.args.kept.now.items c.args.table.now.items c.loop-group.kept.items c.loop-group.table.items c.loop-group.group c.loop-group.invariant
