use Rattle.std.proofs.Common.{◌≡◌, ◌<◌, ◌+◌, ℕ, suc, List, [], ◌∷◌, length, ap, ◌∙◌, arith}
use Rattle.std.specs.Prelude.{slice_index_or}
use Rattle.flow_graph.specs.FlowGraph.{FlowGraph}
use Rattle.owner_vars.specs.Fields.{field_target}
use Rattle.owner_vars.specs.Unknowns.{field_count}
use Rattle.field_rules.specs.Lists.{gather, when}
use Rattle.field_rules.specs.Sight.{leads_to}
use Rattle.transfer_rules.proofs.Targets.{one_more, target_is}
use Rattle.transfer_rules.proofs.index.targets.Goals as goal

pub loop-j-preserved : goal.loop-j-preserved
loop-j-preserved c =
    let g = c.args.graph.now in
    let n = c.loop-j.j in
    let lists = c.loop-j.invariant in
    let added = c.in_ok-add_target.ensures in
    let to = c.target.ensures ∙ ap (λ (h : FlowGraph). field_target h (n + 1)) c.requires in
    record {
      count = added.length ∙ lists.count;
      each = λ s lt.
          let F : ℕ → List ℕ = λ j. when (leads_to (field_target g (suc j)) s) (suc j ∷ []) in
          let long = lists.count in
          let within : s < length c.loop-j.out.items = omega arith in
          one_more F n (slice_index_or c.loop-j.out.items s []) (slice_index_or c.add_target.new.lists.items s []) (when (leads_to c.target.result s) ((n + 1) ∷ [])) (lists.each s lt) (added.each s within) (target_is c.target.result g n s to);
    }

pub returns : goal.returns
returns c =
    let g = c.args.graph.now in
    let lists = c.loop-j.invariant in
    let past = c.loop-j-test.false in
    let up = c.loop-j.auto.j-end in
    let is = c.count-j-end.ensures.count ∙ ap field_count c.requires in
    let end : c.loop-j.j ≡ field_count g = omega arith in
    record {
      count = lists.count;
      each = λ s lt. lists.each s lt ∙ ap (λ k. gather k (λ j. when (leads_to (field_target g (suc j)) s) (suc j ∷ []))) end;
    }
