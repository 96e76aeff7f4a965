use Rattle.std.proofs.Common.{◌∙◌, ap, sym, length}
use Rattle.verdict_meaning.specs.Systems.{callee_parts}
use Rattle.verdict_meaning.specs.Certificates.{bit_at}
use Rattle.call_search.proofs.Asking.{phi_length, sigma_length, yes_provided, refused_asker, refused_solves, none_paid}
use Rattle.call_search.proofs.fill.ask.Goals as goal

pub obtain-requires-clause-phi : goal.obtain-requires-clause-phi
obtain-requires-clause-phi g c = ap length (sym c.requires.asker.phi_is) ∙ phi_length (g.G.Shapes.system c.args.groups.now) (bit_at c.args.bits.now)

pub obtain-requires-clause-face : goal.obtain-requires-clause-face
obtain-requires-clause-face g c =
    ap length c.asked_face-face.ensures ∙ sigma_length (g.G.Shapes.system c.args.groups.now) c.args.group (bit_at c.args.bits.now) c.args.site ∙ ap (callee_parts (g.G.Shapes.system c.args.groups.now)) (sym c.callee-callee.ensures)

pub carry-requires-clause-asker : goal.carry-requires-clause-asker
carry-requires-clause-asker g c =
    refused_asker (g.G.Shapes.system c.args.groups.now) (g.G.Groups.counting c.args.groups.now) (g.met.G.Shapes.shaped c.args.groups.now) c.args.phi.now c.args.group c.args.bits.now c.args.site c.requires.site c.args.ledger.now c.obtain.new.ledger c.args.table.now.items c.obtain.new.table.items c.callee-callee.result c.asked_face-face.result.now
    c.in_ok-obtain.field-0 c.in-Refused.n c.in-Refused.is c.in_ok-obtain.ensures.answer c.callee-callee.ensures c.requires.asker

pub returns-in-Yes-clause-answer : goal.returns-in-Yes-clause-answer
returns-in-Yes-clause-answer g c =
    yes_provided (g.G.Shapes.system c.args.groups.now) (g.G.Groups.counting c.args.groups.now) (g.met.G.Shapes.shaped c.args.groups.now) c.args.phi.now c.args.group c.args.bits.now c.args.site c.requires.site c.args.ledger.now c.obtain.new.ledger c.args.table.now.items c.obtain.new.table.items c.callee-callee.result c.asked_face-face.result.now
    c.in_ok-obtain.field-0 c.in-Yes.is c.in_ok-obtain.ensures.answer c.callee-callee.ensures c.asked_face-face.ensures

pub returns-in-None-clause-answer : goal.returns-in-None-clause-answer
returns-in-None-clause-answer g c =
    none_paid (g.G.Shapes.system c.args.groups.now) (g.G.Groups.counting c.args.groups.now) c.callee-callee.result.group c.args.ledger.now c.obtain.new.ledger c.carry.new.ledger c.in_ok-carry-in-Refused.field-0 c.in-None.is c.in_ok-carry-in-Refused.ensures
    (refused_solves (g.G.Shapes.system c.args.groups.now) (g.G.Groups.counting c.args.groups.now) c.args.phi.now c.args.ledger.now c.obtain.new.ledger c.args.table.now.items c.obtain.new.table.items c.callee-callee.result c.asked_face-face.result.now c.in_ok-obtain.field-0 c.in-Refused.n c.in-Refused.is c.in_ok-obtain.ensures.answer)
