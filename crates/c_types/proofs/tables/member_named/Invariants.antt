use Rattle.std.proofs.Common.{◌≡◌, drop}
use Rattle.c_types.specs.Exprs.{member_from}
use Rattle.c_types.proofs.tables.member_named.Given as goal

abbrev pub invariant-loop-i : goal.invariant-loop-i
invariant-loop-i l = member_from l.i (drop l.i l.members) l.name ≡ member_from 0 l.members l.name
