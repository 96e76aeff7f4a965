use Rattle.std.proofs.Common.{◌≡◌, ◌-◌, ◌+◌, ◌<◌, ◌^◌, drop, length}
use Rattle.c_token.specs.Parts.{pass}
use Rattle.c_token.proofs.position.Position.pass.Given as goal

abbrev pub invariant-loop-b : goal.invariant-loop-b
invariant-loop-b l = record {
  passed : pass l.self (drop l.b-index l.passed) ≡ pass l.fn.self l.passed;
  at : l.self.at + (length l.passed - l.b-index) < 2 ^ 32;
  line : l.self.line + (length l.passed - l.b-index) < 2 ^ 32;
  col : l.self.col + (length l.passed - l.b-index) < 2 ^ 32;
}
