use Rattle.std.proofs.Common.{◌≡◌, drop}
use Rattle.c_grammar.specs.ReadItems.{are_named}
use Rattle.c_parser.proofs.items.are_named.Given as goal

abbrev pub invariant-loop-param : goal.invariant-loop-param
invariant-loop-param l = are_named (drop l.param-index l.params) ≡ are_named l.params
