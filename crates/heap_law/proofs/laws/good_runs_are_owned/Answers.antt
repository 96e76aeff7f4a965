use Rattle.verdict_meaning.specs.Programs.{system_of}
use Rattle.heap_law.specs.Certified.{marking_of}
use Rattle.heap_law.proofs.laws.good_runs_are_owned.Goals as goal

pub returns : goal.returns
returns c g facts groups cert program good choices =
    c.runs_are_owned.ensures g facts (marking_of g facts (system_of g facts groups) cert) (c.good_is_certified.ensures g facts groups cert program good) choices
