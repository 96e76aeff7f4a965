use Rattle.std.proofs.Common.{◌≡◌, ◌<◌, ◌^◌, ◌++◌, length}
use Rattle.std.specs.List.{All}
use Rattle.conflict_proof.specs.Text.{numbers_text}
use Rattle.conflict_proof.specs.Fronts.{NoDigit}
use Rattle.own_cert.proofs.line_reader.sites.Given as goal

abbrev pub invariant-loop-site : goal.invariant-loop-site
invariant-loop-site l = record {
  text : l.fn.text ≡ numbers_text l.items.items ++ l.rest;
  small : All (λ n. n < 2 ^ 32) l.items.items;
  ends : 0 < length l.items.items → NoDigit l.rest;
}

abbrev pub decreases-loop-site : goal.decreases-loop-site
decreases-loop-site l = length l.rest
