use Rattle.std.proofs.Common.{◌≡◌, ◌∙◌, ap, sym, refl, true}
use Rattle.command_words.specs.Asked.{value_of, is_digits, within}
use Rattle.command_words.proofs.Digits.{parsed}
use Rattle.command_words.proofs.numbers.number_in.Goals as goal

pub returns-in-Ok : goal.returns-in-Ok
returns-in-Ok c =
    let is : is_digits c.args.digits c.args.text.now ≡ true = sym c.if-not-is_digits.ensures in
    let gives = parsed c.args.text.now c.args.digits c.parse.result c.parse.ensures.value.0 c.requires is in
    let same : c.in-Ok.number ≡ value_of c.args.text.now = cc in
    record {
      value = c.within.ensures.value ∙ (ap (within c.args.most) same ∙ rw is refl);
      range = c.within.ensures.range;
    }

pub returns-in-Err : goal.returns-in-Err
returns-in-Err c =
    let is : is_digits c.args.digits c.args.text.now ≡ true = sym c.if-not-is_digits.ensures in
    let gives = parsed c.args.text.now c.args.digits c.parse.result c.parse.ensures.value.0 c.requires is in
    cc
