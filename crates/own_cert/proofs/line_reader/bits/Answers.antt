use Rattle.std.proofs.Common.{◌≡◌, ◌∷◌, length, rules}
use Rattle.conflict_proof.proofs.Cases.{some_from_test}
use Rattle.own_cert.proofs.FormLemmas.{bits_by}
use Rattle.own_cert.proofs.line_reader.bits.Goals as goal

pub returns : goal.returns
returns c =
    let text : c.args.text.now ≡ 32 ∷ c.in-Some.row.now = search rules in
    bits_by c.args.text.now c.in-Some.row.now c.digits.result text (some_from_test (length c.in-Some.row.now) c.if-is_empty.ensures) c.digits.ensures
