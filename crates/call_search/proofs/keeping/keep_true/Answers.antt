use Rattle.std.proofs.Common.{rules}
use Rattle.std.proofs.lemmas.Fn.{filter_same}
use Rattle.call_search.proofs.Held.{true_only}
use Rattle.call_search.proofs.keeping.keep_true.Goals as goal

pub returns : goal.returns
returns c = true_only c.args.lits.now c.args.entries.now.items _ (filter_same _ _ _ (λ x b f' k. search rules) _ _ c.retain.ensures.filtered)
