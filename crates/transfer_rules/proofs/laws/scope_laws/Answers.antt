use Rattle.transfer_rules.proofs.ScopeLaws.{scope_law, whole_law}
use Rattle.transfer_rules.proofs.laws.scope_laws.Goals as goal

pub returns : goal.returns
returns c = record {
  names = λ g ts members s t. scope_law s t g ts members;
  whole = λ g ts members s t. whole_law s t g ts members;
}
