use Rattle.std.proofs.Common.{◌-◌, refl}
use Rattle.proof_checker.proofs.NumberLemmas.{moved_below, moved_above, moved_within}
use Rattle.proof_checker.proofs.in_scope.moved.Goals as goal

pub returns-then-number-from : goal.returns-then-number-from
returns-then-number-from c = moved_below c.args.from.first c.args.to.first c.args.from.count c.args.to.count c.args.number c.requires.size c.if-number-from.true

pub returns-then-above-from : goal.returns-then-above-from
returns-then-above-from c =
    moved_above c.args.from.first c.args.to.first c.args.from.count c.args.to.count c.args.number (c.args.number - c.args.from.first) c.requires.size c.if-number-from.false refl c.if-above-from.true

pub returns : goal.returns
returns c =
    moved_within c.args.from.first c.args.to.first c.args.from.count c.args.to.count c.args.number (c.args.number - c.args.from.first) _ c.requires.size c.if-number-from.false refl c.if-above-from.false refl
