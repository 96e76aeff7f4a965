use Rattle.owner_vars.proofs.GroupRows.{together_law, numbers_law, root_law}
use Rattle.owner_vars.proofs.LawLemmas.{there_law, root_there_law}
use Rattle.owner_vars.proofs.laws.unknown_laws.Goals as goal

pub returns-clause-there : goal.returns-clause-there
returns-clause-there c g members = there_law g members

pub returns-clause-together : goal.returns-clause-together
returns-clause-together c g members ascend = together_law g members ascend

pub returns-clause-numbers : goal.returns-clause-numbers
returns-clause-numbers c g members ascend = numbers_law g members ascend

pub returns-clause-root_there : goal.returns-clause-root_there
returns-clause-root_there c g firsts = root_there_law g firsts

pub returns-clause-root_numbers : goal.returns-clause-root_numbers
returns-clause-root_numbers c g firsts = root_law g firsts
