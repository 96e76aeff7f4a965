use Rattle.std.proofs.Common.{◌≡◌, ◌<◌, ◌++◌, List, [], ◌∷◌, length, sym, ap₂, below_more, ◌∙◌, subst, rules}
use Rattle.std.specs.List.{All}
use Rattle.owner_vars.specs.Unknowns.{Unknown, unknowns}
use Rattle.transfer_rules.specs.Programs.{firsts}
use Rattle.transfer_rules.proofs.NameLemmas.{mapped_next}
use Rattle.transfer_rules.proofs.Groupings.{first_over, all_bodies, all_some, firsts_bodies}
use Rattle.transfer_rules.proofs.build.numberings.Goals as goal

pub firsts-requires : goal.firsts-requires
firsts-requires c = all_some c.args.graph.now c.args.groups.now c.requires.grouping

pub number_root_with-requires-clause-bodies : goal.number_root_with-requires-clause-bodies
number_root_with-requires-clause-bodies c =
    let is : c.deref.result.now ≡ firsts c.args.groups.now = search rules in
    subst (All (λ k. k < c.args.graph.now.bodies)) (sym is)
    (firsts_bodies c.args.graph.now c.args.groups.now (all_some c.args.graph.now c.args.groups.now c.requires.grouping) (all_bodies c.args.graph.now c.args.groups.now c.requires.grouping))

pub returns-in-Err-clause-err : goal.returns-in-Err-clause-err
returns-in-Err-clause-err c =
    let lt : c.loop-k.k < length c.args.groups.now = search rules in
    first_over c.args.graph.now c.args.groups.now c.loop-k.k c.in-Err.error c.requires.grouping lt c.loop-k.invariant.fit c.in-Err.ensures.err

pub loop-k-preserved : goal.loop-k-preserved
loop-k-preserved c =
    let g = c.args.graph.now in
    let gs = c.args.groups.now in
    let k = c.loop-k.k in
    let lt : k < length gs = search rules in
    record {
      numbers = c.in_ok-add.ensures ∙ ap₂ (λ (us : List (List Unknown)) (u : List Unknown). us ++ u ∷ []) c.loop-k.invariant.numbers c.in-Ok.ensures.ok ∙ mapped_next (unknowns g) gs k [] lt;
      fit = below_more _ _ c.loop-k.invariant.fit c.in-Ok.ensures.within;
    }
