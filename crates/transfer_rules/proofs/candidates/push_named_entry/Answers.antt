use Rattle.transfer_rules.proofs.Narrow.{sight_there}
use Rattle.transfer_rules.proofs.candidates.push_named_entry.Goals as goal

pub push_param-requires-clause-sight : goal.push_param-requires-clause-sight
push_param-requires-clause-sight g c = sight_there (g.S.View.sight c.args.scene.now) (g.S.Scene.setting c.args.scene.now) c.args.name.now.field c.requires.sight
