use Rattle.std.proofs.Common.{◌≡◌, ◌++◌}
use Rattle.command_words.specs.Sample.{struct_line, leaf_line, caller_lines}
use Rattle.command_words.proofs.sample.sample_source.Given as goal

abbrev pub invariant-loop-j : goal.invariant-loop-j
invariant-loop-j l = l.text.items ≡ struct_line ++ leaf_line ++ caller_lines l.j
