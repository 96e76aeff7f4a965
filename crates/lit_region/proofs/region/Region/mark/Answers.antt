use Rattle.std.proofs.Common.{arith, ◌∙◌}
use Rattle.lit_region.proofs.Layouts.{used_places, few_places}
use Rattle.lit_region.proofs.region.Region.mark.Goals as goal

pub overflow_cast-result : goal.overflow_cast-result
overflow_cast-result c =
    let few = few_places _ _ _ _ _ _ _ c.args.self.now c.self.invariant in
    let within = c.self.invariant.within in
    let small = c.self.invariant.small in
    omega arith

pub returns : goal.returns
returns c = c.len.ensures ∙ used_places _ _ _ _ _ _ _ c.args.self.now c.self.invariant c.self.view_is
