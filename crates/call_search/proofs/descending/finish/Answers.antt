use Rattle.std.proofs.Common.{◌+◌, ◌<◌, ◌^◌, arith}
use Rattle.call_search.proofs.Descent.{site_fits}
use Rattle.call_search.proofs.descending.finish.Goals as goal

pub overflow_add-asker : goal.overflow_add-asker
overflow_add-asker g c =
    let fits : c.in-Some.asker.site + 1 < 2 ^ 32 = site_fits (g.G.Shapes.system c.args.groups.now) (g.met.G.Shapes.shaped c.args.groups.now) c.pop.new.self.items c.args.stack.now.items c.in-Some.asker c.args.frame c.in-Some.ensures.items c.requires.nested in
    omega arith
