use Rattle.std.proofs.Common.{◌≡◌, length, arith}
use Rattle.verdict_meaning.specs.Derivations.{at_site}
use Rattle.proof_checker.proofs.CarryLemmas.{carried-length, carried-at, carried-all}
use Rattle.proof_checker.proofs.LineLemmas.{match_false}
use Rattle.proof_checker.proofs.instances.are_carried.Goals as goal

pub returns-then-from-lits : goal.returns-then-from-lits
returns-then-from-lits g c = λ e.
    let same : length c.args.from.now ≡ length c.args.lits.now = carried-length (at_site (g.C.Constraints.system c.args.constraints.now) c.args.group c.args.site) c.args.from.now c.args.lits.now e in
    omega arith

pub returns-then-not-is_carried : goal.returns-then-not-is_carried
returns-then-not-is_carried g c = λ e.
    match_false c.is_carried.result _ _ c.if-not-is_carried.true c.is_carried.ensures
    (carried-at (at_site (g.C.Constraints.system c.args.constraints.now) c.args.group c.args.site) c.args.from.now c.args.lits.now c.loop-i.i c.index-from-i.result c.index-lits-i.result e (omega arith) c.index-from-i.is c.index-lits-i.is)

pub returns : goal.returns
returns g c =
    let same : length c.args.from.now ≡ length c.args.lits.now = omega arith in
    carried-all (at_site (g.C.Constraints.system c.args.constraints.now) c.args.group c.args.site) c.args.from.now c.args.lits.now same (λ k d lt. c.loop-i.invariant k d (omega arith))
