use Rattle.std.proofs.Common.{◌≡◌, suc, ◌+◌, ◌<◌, ◌++◌, drop}
use Rattle.std.specs.List.{All}
use Rattle.field_rules.specs.Sight.{HasPointer}
use Rattle.transfer_rules.specs.Exist.{pointer_args}
use Rattle.transfer_rules.specs.Rules.{args, args_from}
use Rattle.transfer_rules.proofs.action.args.Given as goal

abbrev pub invariant-loop-n : goal.invariant-loop-n
invariant-loop-n g l = record {
  exact : l.out.items ++ args_from (g.S.View.sight l.scene) (g.S.Scene.setting l.scene) l.place l.callee l.part (suc l.n) (drop l.n l.slots) ≡ args (g.S.View.sight l.scene) (g.S.Scene.setting l.scene) l.place l.callee l.slots;
  there : All (λ u. HasPointer (g.S.View.sight l.scene) l.place u.slot) l.out.items;
  some : 0 < l.part;
  count : l.part + pointer_args (g.S.View.sight l.scene) (g.S.Scene.setting l.scene) (drop l.n l.slots) ≡ 1 + pointer_args (g.S.View.sight l.scene) (g.S.Scene.setting l.scene) l.slots;
}
