use Rattle.std.proofs.Common.{◌≡◌, ◌++◌, codes, ap, ap₂, ◌∙◌}
use Rattle.c_types.specs.declared.kinds.SlotType.TheVariants as type
use Rattle.flow_graph.specs.FlowGraph.{type_in}
use Rattle.owner_vars.proofs.Sizes.{pointer_count_more, pointer_count_within}
use Rattle.annotate.specs.Annotation.{comma, kind_text, param_text}
use Rattle.annotate.specs.Instances.{bit_at}
use Rattle.annotate.proofs.TextRows.{gather_more, two}
use Rattle.annotate.proofs.procs.put_params.Goals as goal

pub loop-place-preserved : goal.loop-place-preserved
loop-place-preserved c =
    let l = c.loop-place in
    let kinds = c.args.kinds.now in
    let face = c.args.face.now in
    record {
      text = gather_more l.place (λ j. comma j ++ param_text c.args.typed.now c.args.proc kinds face j) c.args.out.now.items l.out.items c.put_param.new.out.items
          (comma l.place ++ (c.param_name.result.now ++ codes " " ++ kind_text (type_in kinds l.place) c.bit_at.result)) l.invariant.text
          (two l.out.items c.put_comma.new.out.items c.put_param.new.out.items (comma l.place) (c.param_name.result.now ++ codes " " ++ kind_text (type_in kinds l.place) c.bit_at.result) c.in_ok-put_comma.ensures c.in_ok-put_param.ensures)
          (ap₂ (λ n b. comma l.place ++ (n ++ codes " " ++ kind_text (type_in kinds l.place) b)) c.param_name.ensures (c.bit_at.ensures ∙ ap (bit_at face) l.invariant.part));
      part = pointer_count_more kinds l.place type.Int c.loop-place-test.true l.part c.from-part.result c.is_pointer.result l.invariant.part c.is_pointer.ensures c.from-part.ensures;
      few = pointer_count_within kinds l.place type.Int c.loop-place-test.true l.part c.from-part.result c.is_pointer.result l.invariant.part c.is_pointer.ensures c.from-part.ensures l.invariant.few;
    }
