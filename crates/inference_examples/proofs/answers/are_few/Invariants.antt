use Rattle.std.proofs.Common.{◌≡◌, ◌≤◌, take}
use Rattle.verdict_meaning.specs.Derivations.{cost_of}
use Rattle.inference_examples.proofs.answers.are_few.Given as goal

abbrev pub invariant-loop-line : goal.invariant-loop-line
invariant-loop-line l = (l.words ≡ cost_of (take l.line-index l.lines)) × (l.words ≤ 268435456)
