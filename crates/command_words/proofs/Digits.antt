-- What `parse` makes of digits.
use Rattle.std.proofs.Common.{◌≡◌, ℕ, ◌≤◌, true, length, arith, rules}
use Rattle.std.specs.Prelude.{Ok, Result, ◌^◌}
use Rattle.std.specs.List.{list_all}
use Rattle.std.specs.Char.{is_ascii_digit}
use Rattle.std.specs.Str.Parse.{ParsesUnsigned}
use Rattle.std.proofs.lemmas.Str.Parse.{IsNumeralModel, numerals_by_fold, parse_gives, digits_value_short}
use Rattle.std.proofs.lemmas.Bool.Decides.{nat_tests}
use Rattle.command_words.specs.Asked.{Text, is_digits, value_after, value_of}

own : IsNumeralModel (λ ds. list_all is_ascii_digit ds ≡ true) (value_after 0)
own = numerals_by_fold _ (search rules) value_after (search rules)

pub parsed : {E : Type 0} (text : Text) (digits : ℕ) (r : Result ℕ E) → ParsesUnsigned 32 10 text r → digits ≤ 9 → is_digits digits text ≡ true → r ≡ Ok (value_of text)
parsed text digits r h few is =
    let parts : (list_all is_ascii_digit text ≡ true) × (1 ≤ length text) × (length text ≤ digits) = grind (arith, nat_tests) in
    let ten : 10 ^ 9 ≤ 2 ^ 32 = omega arith in
    parse_gives own 32 text r h parts.0 parts.1 (omega (arith, digits_value_short own text 9 parts.0 (omega arith)))
