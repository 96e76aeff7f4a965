-- The groups of a grouping.
use Rattle.std.proofs.Common.{◌≡◌, ℕ, zero, suc, ◌<◌, ◌≤◌, List, [], ◌∷◌, ◌++◌, length, arith}
use Rattle.std.specs.Prelude.{slice_index, slice_index_or}
use Rattle.std.specs.List.{All}
use Rattle.std.specs.List.Sorted.{IsStrictlyIncreasing}
use Rattle.std.proofs.lemmas.List.Elements.{All-nil, All-cons, All-head, All-tail, All-get_or}
use Rattle.flow_graph.specs.FlowGraph.{FlowGraph}
use Rattle.recursion_groups.specs.Grouping.{IsGroup, IsOrdered, IsGrouping}
use Rattle.owner_vars.specs.declared.error.NumberError.{NumberError}
use Rattle.owner_vars.specs.declared.error.NumberError.TheVariants as error
use Rattle.owner_vars.specs.Answers.{IsRefused as IsRefusedGroup}
use Rattle.owner_vars.specs.Unknowns.{unknowns}
use Rattle.transfer_rules.specs.Programs.{firsts, group_at, IsRefused}

ordered : (g : FlowGraph) (done : List ℕ) (gs : List (List ℕ)) → IsOrdered g done gs → (k : ℕ) (d : List ℕ) → k < length gs → IsGroup g (slice_index_or gs k d)
ordered g done [] h k d lt = absurd (omega arith)
ordered g done (ps ∷ gs) h zero d lt = h.0.group
ordered g done (ps ∷ gs) h (suc k) d lt = ordered g (done ++ ps) gs h.1 k d (omega arith)

pub group_is : (g : FlowGraph) (gs : List (List ℕ)) → IsGrouping g gs → (k : ℕ) (d : List ℕ) → k < length gs → IsGroup g (slice_index_or gs k d)
group_is g gs h k d lt = ordered g [] gs h k d lt

pub all_ascend : (g : FlowGraph) (gs : List (List ℕ)) → IsGrouping g gs → All IsStrictlyIncreasing gs
all_ascend g gs h k d lt = (group_is g gs h k d lt).ascend

pub all_bodies : (g : FlowGraph) (gs : List (List ℕ)) → IsGrouping g gs → All (All (λ k. k < g.bodies)) gs
all_bodies g gs h k d lt = (group_is g gs h k d lt).bodies

pub all_some : (g : FlowGraph) (gs : List (List ℕ)) → IsGrouping g gs → All (λ ms. 0 < length ms) gs
all_some g gs h k d lt = (group_is g gs h k d lt).some

pub firsts_bodies : (g : FlowGraph) (gs : List (List ℕ)) → All (λ ms. 0 < length ms) gs → All (All (λ k. k < g.bodies)) gs → All (λ k. k < g.bodies) (firsts gs)
firsts_bodies g [] some within = All-nil (λ k. k < g.bodies)
firsts_bodies g (ms ∷ gs) some within =
    let Some_ : List ℕ → Type 0 = λ us. 0 < length us in
    let B : ℕ → Type 0 = λ k. k < g.bodies in
    All-cons B (slice_index ms 0) (firsts gs) (All-get_or B ms 0 0 (All-head Some_ ms gs some) (All-head (All B) ms gs within))
    (firsts_bodies g gs (All-tail Some_ ms gs some) (All-tail (All B) ms gs within))

pub firsts_count : (gs : List (List ℕ)) → length (firsts gs) ≡ length gs
firsts_count [] = omega arith
firsts_count (ms ∷ gs) = let e = firsts_count gs in omega arith

-- where the first group that is over is refused, so is the program
pub first_over : (g : FlowGraph) (gs : List (List ℕ)) (k : ℕ) (e : NumberError) → IsGrouping g gs → k < length gs
    → ((j : ℕ) → j < k → length (unknowns g (group_at gs j)) ≤ 8388608) → IsRefusedGroup (unknowns g (group_at gs k)) e → IsRefused g e
first_over g gs k error.Memory grouping lt fit h = tt
first_over g gs k (error.Limit kind count) grouping lt fit h =
    (h.0, record { groups = gs; grouping = grouping; group = k; within = lt; over = h.2; first = fit; count_is = h.1 })
