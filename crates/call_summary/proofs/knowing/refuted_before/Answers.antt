use Rattle.verdict_meaning.specs.Systems.{root}
use Rattle.call_search.specs.Verdicts.{IsRefutation}
use Rattle.call_summary.proofs.Fronts.{root_refutes}
use Rattle.call_summary.proofs.Knowns.{refuted_known, known_same, begin_same, have_known, begins_long}
use Rattle.call_summary.proofs.Left.{valid_stand_back}
use Rattle.call_summary.proofs.knowing.refuted_before.Goals as goal

pub refuted-requires-clause-back : goal.refuted-requires-clause-back
refuted-requires-clause-back g c =
    let s = g.G.Shapes.system c.args.groups.now in
    let U = g.G.Groups.counting c.args.groups.now in
    let e = c.requires.empty in
    let r : IsRefutation s U c.args.known.now c.args.budget c.in_ok-derivation.derivation.lines =
    root_refutes s U c.args.known.now c.args.budget c.args.at c.root.result e.line c.in_ok-derivation.derivation.lines c.requires.known c.requires.some c.root.ensures e.there e.empty (c.in_ok-derivation.ensures e.line e.there) in
    valid_stand_back s U c.in_ok-derivation.derivation.lines r.valid

pub refuted-requires-clause-first : goal.refuted-requires-clause-first
refuted-requires-clause-first g c =
    let s = g.G.Shapes.system c.args.groups.now in
    let U = g.G.Groups.counting c.args.groups.now in
    let e = c.requires.empty in
    let r : IsRefutation s U c.args.known.now c.args.budget c.in_ok-derivation.derivation.lines =
    root_refutes s U c.args.known.now c.args.budget c.args.at c.root.result e.line c.in_ok-derivation.derivation.lines c.requires.known c.requires.some c.root.ensures e.there e.empty (c.in_ok-derivation.ensures e.line e.there) in
    begins_long c.args.known.now c.in_ok-derivation.derivation.lines r.begins

pub returns : goal.returns
returns g c =
    let s = g.G.Shapes.system c.args.groups.now in
    let U = g.G.Groups.counting c.args.groups.now in
    let e = c.requires.empty in
    let is = c.in_ok-derivation.ensures e.line e.there in
    let r : IsRefutation s U c.args.known.now c.args.budget c.in_ok-derivation.derivation.lines =
    root_refutes s U c.args.known.now c.args.budget c.args.at c.root.result e.line c.in_ok-derivation.derivation.lines c.requires.known c.requires.some c.root.ensures e.there e.empty is in
    refuted_known s U c.args.known.now c.in_ok-derivation.derivation.lines c.args.budget c.in_ok-inferred.inferred c.in_ok-lines.lines r c.in_ok-inferred.ensures.trim c.in_ok-inferred.ensures.answer
    (known_same s U c.args.known.now c.in_ok-lines.lines.lines c.in_ok-lines.ensures c.requires.known) (begin_same c.args.known.now c.in_ok-lines.lines.lines c.in_ok-lines.ensures)
    (have_known (root s) c.args.known.now c.in_ok-lines.lines.lines c.in_ok-derivation.derivation.lines _ is c.root.ensures c.in_ok-lines.ensures)
