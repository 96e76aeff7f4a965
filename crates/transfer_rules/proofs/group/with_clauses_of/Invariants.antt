use Rattle.std.proofs.Common.{◌≡◌, ◌++◌}
use Rattle.field_rules.specs.Lists.{gather}
use Rattle.transfer_rules.specs.Names.{clauses_in}
use Rattle.transfer_rules.specs.Rules.{constraints_at}
use Rattle.transfer_rules.proofs.group.with_clauses_of.Given as goal

abbrev pub invariant-loop-place : goal.invariant-loop-place
invariant-loop-place g l = l.table ≡ l.fn.table ++ clauses_in l.scope (gather l.place (constraints_at (g.S.View.sight l.scene) (g.S.Scene.setting l.scene)))
