use Rattle.std.proofs.Common.{ℕ, [], get_or, refl, sym, subst, arith}
use Rattle.std.specs.List.{Contains}
use Rattle.verdict_meaning.specs.Programs.{IsSystemOf, system_of}
use Rattle.unit_answers.proofs.Calls.{has_body, home_lower, home_holds, call_is, own_group}
use Rattle.unit_answers.proofs.laying.call.Goals as goal

pub bounds-homes-callee : goal.bounds-homes-callee
bounds-homes-callee c =
    let p = c.args.program.now in
    let of : IsSystemOf p.graph p.facts (system_of p.graph p.facts p.groups) = c.system_is_of_graph.ensures p.graph p.facts p.groups c.law.ensures.fits c.law.ensures.groups in
    let body = has_body p.graph p.facts p.groups c.law.ensures.groups of c.args.group c.args.site c.args.callee c.requires.group c.requires.site c.requires.callee in
    let many = c.requires.homes.count in
    omega arith

pub face-there-requires-clause-group : goal.face-there-requires-clause-group
face-there-requires-clause-group c =
    let p = c.args.program.now in
    let of : IsSystemOf p.graph p.facts (system_of p.graph p.facts p.groups) = c.system_is_of_graph.ensures p.graph p.facts p.groups c.law.ensures.fits c.law.ensures.groups in
    let body = has_body p.graph p.facts p.groups c.law.ensures.groups of c.args.group c.args.site c.args.callee c.requires.group c.requires.site c.requires.callee in
    let lower = home_lower p.graph p.facts p.groups c.law.ensures.groups of c.args.group c.args.site c.args.callee c.requires.group c.requires.site c.requires.callee in
    let at = c.requires.homes.each c.args.callee body in
    let within = c.requires.group in
    omega arith

pub face-there-requires-clause-member : goal.face-there-requires-clause-member
face-there-requires-clause-member c =
    let p = c.args.program.now in
    let of : IsSystemOf p.graph p.facts (system_of p.graph p.facts p.groups) = c.system_is_of_graph.ensures p.graph p.facts p.groups c.law.ensures.fits c.law.ensures.groups in
    let body = has_body p.graph p.facts p.groups c.law.ensures.groups of c.args.group c.args.site c.args.callee c.requires.group c.requires.site c.requires.callee in
    let at = c.requires.homes.each c.args.callee body in
    subst (λ (n : ℕ). Contains (get_or p.groups n []) c.args.callee) (sym at)
    (home_holds p.graph p.facts p.groups c.law.ensures.groups of c.args.group c.args.site c.args.callee c.requires.group c.requires.site c.requires.callee)

pub returns : goal.returns
returns c =
    let p = c.args.program.now in
    let of : IsSystemOf p.graph p.facts (system_of p.graph p.facts p.groups) = c.system_is_of_graph.ensures p.graph p.facts p.groups c.law.ensures.fits c.law.ensures.groups in
    let body = has_body p.graph p.facts p.groups c.law.ensures.groups of c.args.group c.args.site c.args.callee c.requires.group c.requires.site c.requires.callee in
    let at = c.requires.homes.each c.args.callee body in
    let own = own_group p.graph p.facts p.groups c.law.ensures.groups of c.args.group c.requires.group in
    let follow = c.unknown_laws.ensures.numbers p.graph (get_or p.groups c.args.group []) own.ascend in
    call_is p.graph p.facts p.groups c.law.ensures.groups of c.args.group c.args.site c.args.callee c.requires.group c.requires.site c.requires.callee follow
    (get_or c.args.homes.now c.args.callee 0) at
    (record { callee = record { proc = c.args.callee; group = get_or c.args.homes.now c.args.callee 0 }; there = c.face-there.result; here = c.site_face-here.result })
    refl c.face-there.ensures c.site_face-here.ensures
