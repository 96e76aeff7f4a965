use Rattle.std.proofs.Common.{List, ℕ, subst, arith, ◌∙◌}
use Rattle.std.proofs.lemmas.List.{take_all}
use Rattle.path_facts.specs.Rows.{TakesArgs}
use Rattle.path_facts.proofs.ColumnLemmas.{takes_more}
use Rattle.path_facts.proofs.columns.take_args.Goals as goal

pub clear-requires : goal.clear-requires
clear-requires c = record {
  bits = c.loop-arg.invariant.bits;
  slot = c.requires.args c.loop-arg.arg-index 0 c.loop-arg-test.true;
  reached = c.loop-arg.invariant.reached;
}

pub loop-arg-preserved : goal.loop-arg-preserved
loop-arg-preserved c = record {
  bits = c.clear.ensures.bits;
  reached = c.clear.ensures.becomes.unreached ∙ c.loop-arg.invariant.reached;
  takes = takes_more c.args.tracks.now c.args.args.now _ _ _ c.loop-arg.arg-index c.loop-arg-test.true c.loop-arg.invariant.takes c.clear.ensures.becomes;
}

pub returns-clause-becomes : goal.returns-clause-becomes
returns-clause-becomes c =
    let whole = take_all c.loop-arg.arg-index c.args.args.now (omega arith) in
    let P : List ℕ → Type 0 = λ us. TakesArgs c.args.tracks.now us c.args.row.now c.loop-arg.row in
    subst P whole c.loop-arg.invariant.takes
