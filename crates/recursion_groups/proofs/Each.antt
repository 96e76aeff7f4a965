-- Each list of a grouping is a group: what a caller of `groups` may rest on.
use Rattle.std.proofs.Common.{◌≡◌, ℕ, zero, suc, ◌<◌, List, [], ◌∷◌, ◌++◌, length, get_or, sym, subst, ◌∙◌, arith}
use Rattle.std.proofs.lemmas.List.{get_or_read}
use Rattle.flow_graph.specs.FlowGraph.{FlowGraph}
use Rattle.recursion_groups.specs.Grouping.{IsGroup, IsOrdered, IsGrouping}

pub group_at : (g : FlowGraph) (done : List ℕ) (pss : List (List ℕ)) (i : ℕ) → IsOrdered g done pss → i < length pss → IsGroup g (get_or pss i [])
group_at g done [] i h lt = absurd (omega arith)
group_at g done (ps ∷ pss) zero h lt = h.0.group
group_at g done (ps ∷ pss) (suc i) h lt = group_at g (done ++ ps) pss i h.1 (omega arith)

-- the same for a group that was read from the list
pub group_read : (g : FlowGraph) (pss : List (List ℕ)) (i : ℕ) (ps qs : List ℕ) → IsGrouping g pss → i < length pss → ps ≡ get_or pss i ps → qs ≡ ps → IsGroup g qs
group_read g pss i ps qs h lt read same =
    subst (IsGroup g) (sym (same ∙ get_or_read pss i ps lt read [])) (group_at g [] pss i h lt)
