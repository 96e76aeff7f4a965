-- The shapes of a program are as the search asks.
use Rattle.owner_vars.proofs.IndexLemmas.{from_is_in}
use Rattle.verdict_meaning.specs.Systems.{System, members, callee}
use Rattle.call_search.specs.Shapes.{IsShaped}
use Rattle.program_shapes.specs.Tables.{KeepsShape}

pub shape_law : (s : System) → KeepsShape s → IsShaped s
shape_law s h = record {
  below = h.below;
  there = λ g site lt. record { group = h.inside g site lt; member = from_is_in (members s (callee s g site).group) (callee s g site).proc (h.held g site lt) };
  groups = h.groups;
  small = h.small;
  few = h.few;
}
