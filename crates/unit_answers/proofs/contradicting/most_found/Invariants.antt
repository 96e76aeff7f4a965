use Rattle.std.proofs.Common.{◌<◌, ◌≤◌, ◌^◌, take}
use Rattle.std.specs.List.{All}
use Rattle.unit_answers.specs.declared.findings.Finding.{Finding}
use Rattle.unit_answers.proofs.contradicting.most_found.Given as goal

abbrev pub invariant-loop-finding : goal.invariant-loop-finding
invariant-loop-finding l = record { small : l.most < 2 ^ 31; most : All (λ (f : Finding). f.lit.var ≤ l.most) (take l.finding-index l.findings) }
