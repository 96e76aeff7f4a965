use Rattle.std.proofs.Common.{rules, ◌≡◌, ◌++◌, false, refl}
use Rattle.flow_graph.specs.FlowGraph.{type_in}
use Rattle.annotate.specs.Annotation.{comma, kind_text}
use Rattle.annotate.proofs.TextRows.{gather_more, two}
use Rattle.annotate.proofs.heads.put_types.Goals as goal

pub loop-place-preserved : goal.loop-place-preserved
loop-place-preserved c =
    let kinds = c.args.kinds.now in
    let place = c.loop-place.place in
    let out = c.args.out.now.items in
    let new = c.put_kind.new.out.items in
    let line = comma place ++ kind_text (type_in kinds place) false in
    let added : new ≡ c.loop-place.out.items ++ line = two c.loop-place.out.items c.put_comma.new.out.items new (comma place) (kind_text (type_in kinds place) false) c.in_ok-put_comma.ensures c.in_ok-put_kind.ensures in
    gather_more place (λ j. comma j ++ kind_text (type_in kinds j) false) out c.loop-place.out.items new line c.loop-place.invariant added refl
