use Rattle.std.proofs.Common.{arith}
use Rattle.owner_vars.proofs.Sizes.{few_members, sites_small}
use Rattle.owner_vars.proofs.SiteLemmas.{sites_are}
use Rattle.owner_vars.proofs.site_walk.sites.Goals as goal

pub new-requires-clause-count : goal.new-requires-clause-count
new-requires-clause-count c = omega (arith, few_members c.args.graph.now c.law.ensures.graph c.args.members.now c.requires.ascend c.requires.bodies)

pub invariant_of-result : goal.invariant_of-result
invariant_of-result c =
    (sites_are c.args.graph.now c.args.members.now _ _ _ c.loop-member.member-index c.requires.ascend (sites_small c.args.graph.now c.law.ensures.graph c.args.members.now c.requires.ascend c.requires.bodies)
    c.in_ok-index.ensures (omega (arith, c.loop-member-test.false, c.loop-member.auto.member-index-end)) c.loop-member.invariant.rows c.loop-member.invariant.items).0
