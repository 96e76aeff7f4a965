use Rattle.path_facts.proofs.LawLemmas.{at_start, over, has_slot}
use Rattle.path_facts.proofs.laws.path_laws.Goals as goal

pub returns-clause-start : goal.returns-clause-start
returns-clause-start c g ts flow are k body = at_start g ts flow are k body

pub returns-clause-over : goal.returns-clause-over
returns-clause-over c g ts flow are k p i body edge reached = over g ts flow are k body p i edge reached

pub returns-clause-slots : goal.returns-clause-slots
returns-clause-slots c g ts are k p x body inside small = has_slot g ts are k p x body inside small
