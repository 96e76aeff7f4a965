use Rattle.std.proofs.Common.{◌≡◌, take}
use Rattle.std.specs.List.{flat_map}
use Rattle.transfer_rules.specs.Names.{clauses_in}
use Rattle.transfer_rules.specs.Programs.{group_at}
use Rattle.transfer_rules.specs.Rules.{body_constraints}
use Rattle.transfer_rules.proofs.listing.group_clauses.Given as goal

abbrev pub invariant-loop-proc : goal.invariant-loop-proc
invariant-loop-proc l = l.table ≡ clauses_in l.scope (flat_map (body_constraints l.program.graph l.program.facts (group_at l.program.groups l.group)) (take l.proc-index l.members))
