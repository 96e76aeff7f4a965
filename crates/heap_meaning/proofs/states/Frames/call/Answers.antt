use Rattle.std.proofs.Common.{◌≡◌, ◌∷◌, [], ◌++◌, length, rules}
use Rattle.heap_meaning.specs.declared.states.Frame.{Frame}
use Rattle.heap_meaning.specs.Deeds.{no_frame, handed}
use Rattle.heap_meaning.proofs.Tops.{below_set}
use Rattle.heap_meaning.proofs.states.Frames.call.Goals as goal

pub returns-clause-called : goal.returns-clause-called
returns-clause-called c =
    let long : c.len-top.result ≡ length c.self.inside.items.items = search rules in
    let pushed : c.push.new.self.items ≡ c.self.inside.items.items ++ c.args.frame ∷ [] = search rules in
    below_set c.self.inside.items.items c.args.self.now c.push.new.self.items c.len-top.result c.args.frame c.index_mut.result.now c.hand_over.new.self no_frame
    (λ (t : Frame). handed t c.args.waiting c.args.args.now) c.self.view_is c.requires long pushed c.index_mut.ensures.value c.hand_over.ensures
