use Rattle.std.proofs.Common.{◌∙◌, ◌<◌, ap, sym, List, length, slice_get, subst}
use Rattle.call_search.specs.declared.entries.Entry.{Entry}
use Rattle.call_search.specs.Entries.{NoneAnswers}
use Rattle.call_search.proofs.Lists.{get_within}
use Rattle.call_search.proofs.keeping.take.Goals as goal

pub find-requires : goal.find-requires
find-requires g c n e at = c.requires.sized c.args.callee.group n e (ap (λ (xs : List Entry). slice_get xs n) (sym c.listed.ensures) ∙ at)

pub take_at-requires-clause-within : goal.take_at-requires-clause-within
take_at-requires-clause-within g c = subst (λ (xs : List Entry). c.in-Some.at < length xs) c.listed.ensures (get_within c.listed.result.now c.in-Some.ensures.entry c.in-Some.at c.in-Some.ensures.there)

pub returns-in-None-clause-entry : goal.returns-in-None-clause-entry
returns-in-None-clause-entry g c = subst (λ (xs : List Entry). NoneAnswers (g.G.Shapes.system c.args.groups.now) xs c.args.callee c.args.face.now) c.listed.ensures c.in-None.ensures
