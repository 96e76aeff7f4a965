use Rattle.std.proofs.Common.{◌≡◌, ◌++◌, drop, map}
use Rattle.c_types.specs.Declarations.{named_info}
use Rattle.c_types.proofs.declarations.add_named.Given as goal

abbrev pub invariant-loop-i : goal.invariant-loop-i
invariant-loop-i l = l.infos.items ++ map named_info (drop l.i l.tags) ≡ l.fn.infos.items ++ map named_info (drop l.fn.defined l.tags)
