use Rattle.std.proofs.Common.{ℕ, List, sym, subst}
use Rattle.recursion_groups.specs.Calls.{AreCalls}
use Rattle.recursion_groups.proofs.GroupLemmas.{calls_within, is_grouping, grouping_count}
use Rattle.recursion_groups.proofs.build.groups.Goals as goal

pub grouped-requires-clause-within : goal.grouped-requires-clause-within
grouped-requires-clause-within c =
    calls_within c.args.graph.now c.as_slice.result.now (subst (λ (ls : List (List ℕ)). AreCalls c.args.graph.now ls) (sym c.as_slice.ensures.value) c.in_ok-calls.ensures)

pub returns-clause-grouping : goal.returns-clause-grouping
returns-clause-grouping c =
    is_grouping c.args.graph.now c.as_slice.result.now (subst (λ (ls : List (List ℕ)). AreCalls c.args.graph.now ls) (sym c.as_slice.ensures.value) c.in_ok-calls.ensures) _ c.in_ok-items.ensures

pub returns-clause-count : goal.returns-clause-count
returns-clause-count c =
    grouping_count c.args.graph.now c.as_slice.result.now (subst (λ (ls : List (List ℕ)). AreCalls c.args.graph.now ls) (sym c.as_slice.ensures.value) c.in_ok-calls.ensures) _ c.in_ok-items.ensures
