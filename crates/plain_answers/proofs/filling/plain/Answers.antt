use Rattle.std.proofs.Common.{Bool, List, [], sym, subst, arith}
use Rattle.std.proofs.lemmas.Option.{MatchOption-at_some}
use Rattle.call_search.specs.Made.{IsMade}
use Rattle.plain_answers.specs.Stages.{IsTop, IsStage}
use Rattle.plain_answers.proofs.Certified.{is_top_by, complete_by, certified}
use Rattle.plain_answers.proofs.filling.plain.Goals as goal

pub of-requires : goal.of-requires
of-requires g c = let n = c.requires.closures.count in let e = c.root-root.ensures in omega arith

pub fill-requires-clause-top : goal.fill-requires-clause-top
fill-requires-clause-top g c =
    let s = g.G.Shapes.system c.args.groups.now in
    let U = g.G.GroupClauses.counting c.args.groups.now in
    subst (λ (bs : List Bool). IsTop s U bs) (sym c.deref.ensures.value)
    (is_top_by s U c.args.closures.now c.in_ok-top.top.items c.of.result.now c.root-root.result c.count.result c.requires.closures c.root-root.ensures c.of.ensures c.count.ensures c.in_ok-top.ensures.size c.in_ok-top.ensures.each)

pub certificate-requires-clause-complete : goal.certificate-requires-clause-complete
certificate-requires-clause-complete g c =
    let s = g.G.Shapes.system c.args.groups.now in
    let U = g.G.GroupClauses.counting c.args.groups.now in
    let is_top = is_top_by s U c.args.closures.now c.in_ok-top.top.items c.of.result.now c.root-root.result c.count.result c.requires.closures c.root-root.ensures c.of.ensures c.count.ensures c.in_ok-top.ensures.size c.in_ok-top.ensures.each in
    let found : IsStage s U c.deref.result.now [] c.in-Some.table.items = MatchOption-at_some _ (λ v. IsStage s U c.deref.result.now [] v.items) c.in-Some.table c.in-Some.is c.in_ok-fill.ensures in
    let stage : IsStage s U c.in_ok-top.top.items [] c.in-Some.table.items = subst (λ (bs : List Bool). IsStage s U bs [] c.in-Some.table.items) c.deref.ensures.value found in
    complete_by s U c.in_ok-top.top.items c.in-Some.table.items (g.met.G.Shapes.shaped c.args.groups.now) is_top stage

pub returns : goal.returns
returns g c =
    let s = g.G.Shapes.system c.args.groups.now in
    let U = g.G.GroupClauses.counting c.args.groups.now in
    let is_top = is_top_by s U c.args.closures.now c.in_ok-top.top.items c.of.result.now c.root-root.result c.count.result c.requires.closures c.root-root.ensures c.of.ensures c.count.ensures c.in_ok-top.ensures.size c.in_ok-top.ensures.each in
    let found : IsStage s U c.deref.result.now [] c.in-Some.table.items = MatchOption-at_some _ (λ v. IsStage s U c.deref.result.now [] v.items) c.in-Some.table c.in-Some.is c.in_ok-fill.ensures in
    let stage : IsStage s U c.in_ok-top.top.items [] c.in-Some.table.items = subst (λ (bs : List Bool). IsStage s U bs [] c.in-Some.table.items) c.deref.ensures.value found in
    let made : IsMade s c.in_ok-top.top.items c.in-Some.table.items c.in_ok-made-in-Some.made =
    subst (λ (bs : List Bool). IsMade s bs c.in-Some.table.items c.in_ok-made-in-Some.made) c.deref-in-Some.ensures.value c.in_ok-made-in-Some.ensures in
    certified s U c.in_ok-top.top.items c.in-Some.table.items (g.met.G.Shapes.shaped c.args.groups.now) is_top stage c.in_ok-made-in-Some.made made
