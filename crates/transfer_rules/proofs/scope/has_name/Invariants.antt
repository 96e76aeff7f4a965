use Rattle.std.proofs.Common.{◌≡◌, drop}
use Rattle.std.specs.List.{list_any}
use Rattle.transfer_rules.specs.Names.{is_name}
use Rattle.transfer_rules.proofs.scope.has_name.Given as goal

abbrev pub invariant-loop-other : goal.invariant-loop-other
invariant-loop-other l = list_any (is_name l.name) l.names ≡ list_any (is_name l.name) (drop l.other-index l.names)
