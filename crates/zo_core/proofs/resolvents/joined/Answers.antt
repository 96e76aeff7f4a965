use Rattle.std.proofs.Common.{◌∙◌, rules}
use Rattle.zo_core.proofs.resolvents.joined.Goals as goal

pub invariant_of-result : goal.invariant_of-result
invariant_of-result c = rw (c.in_ok-items.ensures.ok ∙ c.as_slice.ensures.value) (c.resolve_into.ensures.order (search rules))
