use Rattle.std.proofs.Common.{◌≡◌, ◌++◌, drop}
use Rattle.c_types.specs.Declarations.{member_infos, fields_after}
use Rattle.c_types.proofs.declarations.numbered_members.Given as goal

abbrev pub invariant-loop-m : goal.invariant-loop-m
invariant-loop-m l = record { infos : l.items.items ++ member_infos l.tags l.next (drop l.m-index l.members) ≡ member_infos l.tags l.fn.fields l.members; fields : fields_after l.tags l.next (drop l.m-index l.members) ≡ fields_after l.tags l.fn.fields l.members }
