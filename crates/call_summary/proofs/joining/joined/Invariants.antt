use Rattle.call_summary.specs.Joins.{IsIndexOf}
use Rattle.call_summary.proofs.Joints.{IsJoint}
use Rattle.call_summary.proofs.joining.joined.Given as goal

abbrev pub invariant-loop-line : goal.invariant-loop-line
invariant-loop-line l = record {
  joint : IsJoint l.root l.known l.more l.lines.items l.numbers.items l.line-index;
  index : IsIndexOf l.lines.items l.index;
}
