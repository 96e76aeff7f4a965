use Rattle.plain_answers.proofs.Asking.{asked_none, asked_next}
use Rattle.plain_answers.proofs.wants.ask_all.Goals as goal

pub loop-site-init : goal.loop-site-init
loop-site-init g c = asked_none (g.G.Shapes.system c.args.groups.now) c.args.group c.args.bits.now c.args.wanted.now.items

pub loop-site-preserved : goal.loop-site-preserved
loop-site-preserved g c =
    asked_next (g.G.Shapes.system c.args.groups.now) c.args.group c.args.bits.now c.args.wanted.now.items c.loop-site.wanted.items c.ask.new.wanted.items c.loop-site.site c.loop-site.invariant c.in_ok-ask.ensures
