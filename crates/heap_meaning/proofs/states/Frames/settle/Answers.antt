use Rattle.std.proofs.Common.{◌≡◌, length, rules}
use Rattle.heap_meaning.specs.declared.states.Frame.{Frame}
use Rattle.heap_meaning.specs.Deeds.{no_frame, settled}
use Rattle.heap_meaning.proofs.Tops.{top_set}
use Rattle.heap_meaning.proofs.states.Frames.settle.Goals as goal

pub returns : goal.returns
returns c =
    let long : c.len-top.result ≡ length c.self.inside.items.items = search rules in
    top_set c.self.inside.items.items c.args.self.now c.len-top.result c.index_mut.result.now c.settle.new.self no_frame
    (λ (t : Frame). settled t c.args.to c.args.slot c.args.value) c.self.view_is c.requires long c.index_mut.ensures.value c.settle.ensures
