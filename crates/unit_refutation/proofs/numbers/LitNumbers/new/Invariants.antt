use Rattle.std.proofs.Common.{◌≡◌, ℕ, ◌<◌, length}
use Rattle.std.specs.List.{Contains}
use Rattle.zo_core.specs.Literals.{Literal}
use Rattle.unit_refutation.specs.Numbers.{HasRoom}
use Rattle.unit_refutation.specs.Room.{found_in}
use Rattle.unit_refutation.proofs.numbers.LitNumbers.new.Given as goal

abbrev pub invariant-loop-group : goal.invariant-loop-group
invariant-loop-group l = record {
  count : length l.rows.items ≡ l.group;
  room : (group : ℕ) (lit : Literal) → group < l.group → Contains (found_in l.closures group) lit → HasRoom l.rows.items group lit;
}
