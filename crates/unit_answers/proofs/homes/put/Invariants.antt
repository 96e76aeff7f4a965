use Rattle.std.proofs.Common.{◌≡◌, ℕ, ◌<◌, take, length, cond}
use Rattle.std.specs.Prelude.{slice_index}
use Rattle.flow_graph.specs.Fits.{is_in}
use Rattle.unit_answers.proofs.homes.put.Given as goal

abbrev pub invariant-loop-member : goal.invariant-loop-member
invariant-loop-member l = (k : ℕ) → k < length l.initial.homes → slice_index l.homes k ≡ cond (is_in (take l.member-index l.members) k) l.group (slice_index l.initial.homes k)
