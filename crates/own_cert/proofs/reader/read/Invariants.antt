use Rattle.std.proofs.Common.{length, ◌≤◌, ◌+◌}
use Rattle.line_texts.proofs.Reading.{Gone}
use Rattle.own_cert.specs.Reading.{certificates}
use Rattle.own_cert.proofs.reader.read.Given as goal

abbrev pub invariant-loop-bytes : goal.invariant-loop-bytes
invariant-loop-bytes l = record {
  gone : Gone certificates l.fn.text l.rest l.state l.number;
  within : l.number + length l.rest ≤ length l.fn.text + 1;
}

abbrev pub decreases-loop-bytes : goal.decreases-loop-bytes
decreases-loop-bytes l = length l.rest
