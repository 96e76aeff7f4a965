use Rattle.std.proofs.Common.{◌∙◌, ap, sym}
use Rattle.call_search.specs.declared.descending.Frame.{Frame}
use Rattle.call_search.proofs.Steps.{denied_as}
use Rattle.call_search.proofs.descending.said_to.Goals as goal

pub said_at-requires-clause-denied : goal.said_at-requires-clause-denied
said_at-requires-clause-denied g c =
    denied_as (g.G.Shapes.system c.args.groups.now) c.args.ledger.now.lines c.args.n c.args.frame.now.group c.frame.inside.0.0 c.args.frame.now.site c.frame.inside.0.1.0 c.args.frame.now.bits c.as_slice-bits.result.now
    (ap (λ (f : Frame). f.group) (sym c.frame.view_is)) (ap (λ (f : Frame). f.site) (sym c.frame.view_is)) (ap (λ (f : Frame). f.bits) (sym c.frame.view_is) ∙ sym c.as_slice-bits.ensures.value) c.requires.denied
