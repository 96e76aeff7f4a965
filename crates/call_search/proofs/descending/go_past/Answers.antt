use Rattle.call_search.proofs.Steps.{gone_past}
use Rattle.call_search.proofs.descending.go_past.Goals as goal

pub returns-in_ok-push-in-None : goal.returns-in_ok-push-in-None
returns-in_ok-push-in-None g c =
    gone_past (g.G.Shapes.system c.args.groups.now) (g.G.Groups.counting c.args.groups.now) c.args.phi.now (g.met.G.Shapes.shaped c.args.groups.now) c.args.line c.args.ledger.now c.tell.new.ledger c.args.kept.now.items c.tell.new.kept.items c.args.stack.now.items c.args.frame c.requires.frames c.requires.kept c.requires.group c.in_ok-next.field-0 c.in-None.is c.in_ok-next.ensures c.push.new.self.items c.requires.site c.requires.said c.in_ok-push-in-None.ensures.items
