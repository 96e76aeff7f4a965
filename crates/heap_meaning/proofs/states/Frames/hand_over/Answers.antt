use Rattle.std.proofs.Common.{◌≡◌, length, rules}
use Rattle.heap_meaning.specs.declared.states.Frame.{Frame}
use Rattle.heap_meaning.specs.Deeds.{no_frame, handed}
use Rattle.heap_meaning.proofs.Tops.{top_set}
use Rattle.heap_meaning.proofs.states.Frames.hand_over.Goals as goal

pub returns : goal.returns
returns c =
    let long : c.len-top.result ≡ length c.self.inside.items.items = search rules in
    top_set c.self.inside.items.items c.args.self.now c.len-top.result c.index_mut.result.now c.hand_over.new.self no_frame
    (λ (t : Frame). handed t c.args.waiting c.args.args.now) c.self.view_is c.requires long c.index_mut.ensures.value c.hand_over.ensures
