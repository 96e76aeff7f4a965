use Rattle.call_search.proofs.Carry.{said_new}
use Rattle.verdict_meaning.specs.Solutions.{phi_by}
use Rattle.verdict_meaning.specs.Certificates.{bit_at}
use Rattle.call_search.proofs.site.carry.Goals as goal

pub add-requires-clause-right : goal.add-requires-clause-right
add-requires-clause-right g c = c.in_ok-line.ensures.right

pub add-requires-clause-new : goal.add-requires-clause-new
add-requires-clause-new g c =
    said_new c.local_lines_are_true.ensures (g.G.Shapes.system c.args.groups.now) (g.G.Groups.counting c.args.groups.now) c.args.ledger.now.lines (phi_by (g.G.Shapes.system c.args.groups.now) (bit_at c.args.bits.now)) c.args.group c.args.site c.args.bits.now c.in_ok-line.line c.requires.ledger.valid c.requires.asker c.in_ok-line.ensures
