use Rattle.std.proofs.Common.{◌≡◌, false, take}
use Rattle.path_facts.specs.Bits.{unreached_bit}
use Rattle.path_facts.specs.Rows.{HasBits, TakesArgs}
use Rattle.path_facts.proofs.columns.take_args.Given as goal

abbrev pub invariant-loop-arg : goal.invariant-loop-arg
invariant-loop-arg l = record {
  bits : HasBits l.tracks l.row;
  reached : unreached_bit l.row ≡ false;
  takes : TakesArgs l.tracks (take l.arg-index l.args) l.initial.row l.row;
}
