use Rattle.std.proofs.Common.{◌≡◌, ◌+◌, take}
use Rattle.std.specs.Prelude.{sum_by}
use Rattle.verdict_meaning.specs.Systems.{members, place_count}
use Rattle.call_search.specs.Made.{rows_from}
use Rattle.call_search.proofs.certify.rows_of.Given as goal

abbrev pub invariant-loop-proc : goal.invariant-loop-proc
invariant-loop-proc g l = record {
  rows : l.out.items ≡ rows_from (g.G.Shapes.system l.groups) l.bits l.from (take l.proc-index (members (g.G.Shapes.system l.groups) l.group));
  first : l.first ≡ l.from + sum_by (place_count (g.G.Shapes.system l.groups)) (take l.proc-index (members (g.G.Shapes.system l.groups) l.group));
}
