use Rattle.std.proofs.Common.{◌<◌, sym, subst, List, Bool}
use Rattle.verdict_meaning.specs.declared.callee.Callee.{Callee}
use Rattle.verdict_meaning.specs.Systems.{callee}
use Rattle.call_search.specs.Entries.{in_group, IsAnswered}
use Rattle.call_search.proofs.Certifying.{sites_next}
use Rattle.call_search.proofs.certify.sites_of.Goals as goal

pub number_of-requires-clause-answered : goal.number_of-requires-clause-answered
number_of-requires-clause-answered g c =
    subst (λ (k : Callee). IsAnswered (g.G.Shapes.system c.args.groups.now) (in_group c.args.table.now.items k.group) k c.asked_face-face.result.now) (sym c.callee-callee.ensures)
    (subst (λ (f : List Bool). IsAnswered (g.G.Shapes.system c.args.groups.now) (in_group c.args.table.now.items (callee (g.G.Shapes.system c.args.groups.now) c.args.group c.loop-site.site).group) (callee (g.G.Shapes.system c.args.groups.now) c.args.group c.loop-site.site) f) (sym c.asked_face-face.ensures) (c.requires.answered c.loop-site.site (subst (λ n. c.loop-site.site < n) c.sites-site-end.ensures c.loop-site-test.true)))

pub loop-site-preserved : goal.loop-site-preserved
loop-site-preserved g c =
    sites_next (g.G.Shapes.system c.args.groups.now) c.args.table.now.items c.args.group c.args.bits.now c.asked_face-face.result.now c.loop-site.out.items c.push.new.self.items c.loop-site.site c.in_ok-number_of.field-0 c.callee-callee.result c.loop-site.invariant c.callee-callee.ensures c.asked_face-face.ensures c.in_ok-number_of.ensures c.in_ok-push.ensures.items
