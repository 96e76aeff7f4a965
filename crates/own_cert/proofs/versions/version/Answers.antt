use Rattle.own_cert.proofs.HolderLemmas.{not_second}
use Rattle.own_cert.proofs.versions.version.Goals as goal

pub returns-in-None-clause-second : goal.returns-in-None-clause-second
returns-in-None-clause-second c = not_second c.args.text.now c.in-None.ensures
