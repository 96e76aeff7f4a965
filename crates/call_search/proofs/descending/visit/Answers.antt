use Rattle.std.proofs.Common.{ℕ, ◌<◌, subst}
use Rattle.call_search.proofs.Table.{kept_sized}
use Rattle.call_search.proofs.Descent.{frames_last, nested_last}
use Rattle.call_search.proofs.Steps.{passed}
use Rattle.call_search.proofs.descending.visit.Goals as goal

pub is_kept-requires-clause-group : goal.is_kept-requires-clause-group
is_kept-requires-clause-group g c = nested_last (g.G.Shapes.system c.args.groups.now) c.args.stack.now.items c.args.frame c.requires.frames.nested

pub is_kept-requires-clause-size : goal.is_kept-requires-clause-size
is_kept-requires-clause-size g c = (frames_last (g.G.Shapes.system c.args.groups.now) (g.G.Groups.counting c.args.groups.now) c.args.ledger.now.lines c.args.phi.now c.args.stack.now.items c.args.frame c.requires.frames).asker.size

pub is_kept-requires-clause-sized : goal.is_kept-requires-clause-sized
is_kept-requires-clause-sized g c = kept_sized (g.G.Shapes.system c.args.groups.now) (g.G.Groups.counting c.args.groups.now) c.args.ledger.now.lines c.args.phi.now c.args.kept.now.items c.requires.kept

pub returns-then-is_kept : goal.returns-then-is_kept
returns-then-is_kept g c = passed (g.G.Shapes.system c.args.groups.now) (g.G.Groups.counting c.args.groups.now) c.args.phi.now c.args.ledger.now c.args.kept.now.items c.args.stack.now.items c.push.new.self.items c.args.frame c.requires.ledger c.requires.frames c.requires.kept (subst (λ (n : ℕ). c.args.frame.site < n) c.sites.ensures c.if-frame-sites.false) c.in_ok-push.ensures.items
