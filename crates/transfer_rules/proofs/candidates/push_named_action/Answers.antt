use Rattle.transfer_rules.proofs.Narrow.{sight_there}
use Rattle.transfer_rules.proofs.candidates.push_named_action.Goals as goal

pub push_free-requires-clause-sight : goal.push_free-requires-clause-sight
push_free-requires-clause-sight g c = sight_there (g.S.View.sight c.args.scene.now) (g.S.Scene.setting c.args.scene.now) c.args.name.now.field c.requires.sight
