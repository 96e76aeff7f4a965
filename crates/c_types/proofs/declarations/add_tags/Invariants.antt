use Rattle.std.proofs.Common.{◌≡◌, drop, map}
use Rattle.c_types.specs.Names.{with_names}
use Rattle.c_types.proofs.declarations.add_tags.Given as goal

abbrev pub invariant-loop-d : goal.invariant-loop-d
invariant-loop-d l = with_names l.tags (map (λ x. x.tag) (drop l.d-index l.structs)) ≡ with_names l.fn.tags (map (λ x. x.tag) l.structs)
