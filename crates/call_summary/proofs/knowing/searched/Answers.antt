use Rattle.call_search.specs.Verdicts.{IsAcceptance, IsUndecided}
use Rattle.call_summary.proofs.Knowns.{accepted_as, accepted_known, undecided_known, known_accepted, known_undecided}
use Rattle.call_summary.proofs.knowing.searched.Goals as goal

pub returns-in_ok-lines-in-Accepted : goal.returns-in_ok-lines-in-Accepted
returns-in_ok-lines-in-Accepted g c =
    let s = g.G.Shapes.system c.args.groups.now in
    let U = g.G.Groups.counting c.args.groups.now in
    let a : IsAcceptance s U c.args.known.now c.in-Accepted.certificate c.in-Accepted.learnt =
    known_accepted s U c.args.known.now c.in_ok-first.first.lines c.args.budget c.in_ok-certificate.field-0 c.in-Accepted.certificate c.in-Accepted.learnt c.in_ok-first.ensures c.in-Accepted.is c.in_ok-certificate.ensures in
    accepted_known s U c.args.known.now c.args.budget c.in-Accepted.certificate c.in_ok-lines-in-Accepted.lines (accepted_as s U c.args.known.now c.in-Accepted.learnt c.in-Accepted.certificate a) c.requires.none
    c.in_ok-lines-in-Accepted.ensures.known c.in_ok-lines-in-Accepted.ensures.first

pub returns-in_ok-lines-in-Undecided : goal.returns-in_ok-lines-in-Undecided
returns-in_ok-lines-in-Undecided g c =
    let s = g.G.Shapes.system c.args.groups.now in
    let U = g.G.Groups.counting c.args.groups.now in
    let u : IsUndecided s U c.args.known.now c.args.budget c.in-Undecided.derivation.lines =
    known_undecided s U c.args.known.now c.in_ok-first.first.lines c.args.budget c.in_ok-certificate.field-0 c.in-Undecided.derivation c.in_ok-first.ensures c.in-Undecided.is c.in_ok-certificate.ensures in
    undecided_known c.laws.ensures.bound s U c.args.known.now c.args.budget c.in-Undecided.derivation c.in_ok-lines-in-Undecided.lines u c.requires.none c.requires.units c.requires.plain
    c.in_ok-lines-in-Undecided.ensures.known c.in_ok-lines-in-Undecided.ensures.first c.in_ok-lines-in-Undecided.ensures.have
