use Rattle.std.proofs.Common.{arith}
use Rattle.std.proofs.lemmas.List.Sums.{prefix_len-le-length}
use Rattle.std.specs.Char.{is_ascii_digit}
use Rattle.conflict_proof.proofs.Digits.{run_is_digits}
use Rattle.conflict_proof.proofs.numbers.number.Goals as goal

pub split_at-requires : goal.split_at-requires
split_at-requires c = omega (arith, prefix_len-le-length is_ascii_digit c.args.text.now, c.digits.ensures)

pub value-requires : goal.value-requires
value-requires c = rw (c.split_at.ensures.front, c.digits.ensures) (run_is_digits c.args.text.now)
