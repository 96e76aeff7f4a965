use Rattle.owner_vars.proofs.LawLemmas.{sites_law}
use Rattle.owner_vars.proofs.laws.site_laws.Goals as goal

pub returns : goal.returns
returns c g members flow ascend bodies = sites_law g members flow ascend bodies
