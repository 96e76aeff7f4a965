use Rattle.std.proofs.Common.{ap, arith}
use Rattle.lit_region.specs.Contents.{Contents}
use Rattle.lit_region.proofs.Layouts.{used_words}
use Rattle.lit_region.proofs.region.Region.free_words.Goals as goal

pub returns-clause-free : goal.returns-clause-free
returns-clause-free c =
    let used = used_words _ _ _ _ _ _ _ c.args.self.now c.self.invariant c.self.view_is in
    let size = ap (λ (r : Contents). r.size) c.self.view_is in
    omega arith

pub returns-clause-within : goal.returns-clause-within
returns-clause-within c =
    let used = used_words _ _ _ _ _ _ _ c.args.self.now c.self.invariant c.self.view_is in
    let size = ap (λ (r : Contents). r.size) c.self.view_is in
    let within = c.self.invariant.within in
    omega arith
