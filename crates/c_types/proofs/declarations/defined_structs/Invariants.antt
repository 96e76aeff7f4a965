use Rattle.std.proofs.Common.{◌≡◌, [], ◌++◌, drop}
use Rattle.c_types.specs.Declarations.{defined_infos}
use Rattle.c_types.proofs.declarations.defined_structs.Given as goal

abbrev pub invariant-loop-d : goal.invariant-loop-d
invariant-loop-d l = l.infos.items ++ defined_infos l.tags l.seen l.fields (drop l.d-index l.structs) ≡ defined_infos l.tags [] 0 l.structs
