use Rattle.std.proofs.Common.{◌<◌, ℕ, subst, sym}
use Rattle.transfer_rules.specs.Programs.{Parts}
use Rattle.program_shapes.proofs.Members.{member_body}
use Rattle.program_shapes.proofs.procs.places_of.Goals as goal

pub places-requires : goal.places-requires
places-requires c =
    let p = c.args.program.now in
    subst (λ (q : Parts). c.args.proc < q.graph.bodies) (sym c.program.view_is) (member_body p.graph p.groups c.args.group c.args.proc c.law.ensures.groups c.requires.group c.requires.member)
