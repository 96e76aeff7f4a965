use Rattle.transfer_rules.proofs.Narrow.{sight_there}
use Rattle.transfer_rules.proofs.candidates.push_named_pair.Goals as goal

pub one_base_rules-requires-clause-place : goal.one_base_rules-requires-clause-place
one_base_rules-requires-clause-place g c =
    let v = g.S.View.sight c.args.scene.now in
    let seen = sight_there v (g.S.Scene.setting c.args.scene.now) c.args.name.now.field c.requires.sight in
    record { place = c.requires.slot.place; ranges = seen.ranges; pointers = seen.pointers }
