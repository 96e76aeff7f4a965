use Rattle.std.proofs.Common.{◌≡◌, ◌<◌, ◌++◌, ◌^◌, length, take}
use Rattle.std.specs.List.{All}
use Rattle.conflict_proof.specs.Text.{numbers_text}
use Rattle.conflict_proof.specs.Fronts.{NoDigit}
use Rattle.conflict_proof.proofs.NumberLemmas.{LeavesNumbers}
use Rattle.conflict_proof.proofs.numbers.fill.Given as goal

abbrev pub invariant-loop-i : goal.invariant-loop-i
invariant-loop-i l = record {
  len : length l.numbers ≡ length l.initial.numbers;
  text : l.fn.text ≡ numbers_text (take l.i l.numbers) ++ l.rest;
  small : All (λ n. n < 2 ^ 32) (take l.i l.numbers);
  ends : 0 < l.i → NoDigit l.rest;
  leaves : LeavesNumbers (length l.initial.numbers) l.i l.fn.text l.rest;
}
