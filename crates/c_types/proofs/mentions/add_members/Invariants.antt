use Rattle.std.proofs.Common.{◌≡◌, drop}
use Rattle.c_types.specs.Declarations.{with_members}
use Rattle.c_types.proofs.mentions.add_members.Given as goal

abbrev pub invariant-loop-m : goal.invariant-loop-m
invariant-loop-m l = with_members l.tags (drop l.m-index l.members) ≡ with_members l.fn.tags l.members
