use Rattle.std.proofs.Common.{◌≡◌, ◌≤◌, drop}
use Rattle.std.specs.List.{list_all}
use Rattle.c_tree.specs.Names.{is_digit}
use Rattle.c_token.specs.Bytes.{value_from}
use Rattle.c_token.proofs.forms.number.Given as goal

abbrev pub invariant-loop-b : goal.invariant-loop-b
invariant-loop-b l = record {
  small : l.value ≤ 2147483647;
  spelled : value_from l.value (drop l.b-index l.run) ≡ value_from 0 l.run;
  digits : list_all is_digit (drop l.b-index l.run) ≡ list_all is_digit l.run;
}
