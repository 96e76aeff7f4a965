use Rattle.std.proofs.Common.{◌≡◌, ◌≤◌, ◌-◌, length}
use Rattle.c_token.specs.Parts.{quoted, after}
use Rattle.c_token.proofs.quotes.quoted.Given as goal

abbrev pub invariant-loop-first : goal.invariant-loop-first
invariant-loop-first l = record {
  fits : length l.rest ≤ length l.bytes;
  read : quoted l.quote l.bytes ≡ after l.items.items (length l.bytes - length l.rest) (quoted l.quote l.rest);
}

abbrev pub decreases-loop-first : goal.decreases-loop-first
decreases-loop-first l = length l.rest
