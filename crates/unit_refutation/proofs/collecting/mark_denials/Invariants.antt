use Rattle.std.proofs.Common.{◌≢◌, take}
use Rattle.std.specs.List.{Contains}
use Rattle.zo_core.specs.Literals.{Literal, opposite}
use Rattle.unit_refutation.specs.Collecting.{IsMarked, AddsMarks}
use Rattle.unit_refutation.proofs.collecting.mark_denials.Given as goal

abbrev pub invariant-loop-m : goal.invariant-loop-m
invariant-loop-m l = record {
  adds : AddsMarks l.fn.marks l.marks;
  marked : (m : Literal) → Contains (take l.m-index l.clause) m → m ≢ l.lit → IsMarked l.marks l.group (opposite m);
}
