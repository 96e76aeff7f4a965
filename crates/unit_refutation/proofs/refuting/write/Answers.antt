use Rattle.std.proofs.Common.{Bool, ap, subst, ◌∙◌}
use Rattle.zo_core.specs.Literals.{Literal}
use Rattle.unit_refutation.specs.Numbers.{number_of}
use Rattle.unit_refutation.specs.Lines.{Grows, SpellsTrail, Ends}
use Rattle.unit_refutation.proofs.BoundLemmas.{both_ok, written, written_over}
use Rattle.unit_refutation.proofs.refuting.write.Goals as goal

pub returns-then-whole : goal.returns-then-whole
returns-then-whole c =
    let mid = c.spell_all.new.writer in
    let numbers = c.spell_all.new.numbers in
    let spells = subst (λ (b : Bool). SpellsTrail c.args.steps.now c.args.writer.now mid numbers b) c.if-whole.true c.in_ok-whole.ensures.spells in
    both_ok c.end.result (λ b. Grows 2 mid c.end.new.writer) (Ends c.args.group c.args.root c.get-first.result c.get-second.result mid c.end.new.writer) _ c.end.ensures.grows c.end.ensures.ends
    (λ whole grows ends. written c.args.steps.now c.args.group c.args.lit c.args.root c.get-first.result c.get-second.result c.args.writer.now mid c.end.new.writer numbers whole spells
    c.get-first.ensures.number (c.get-second.ensures.number ∙ ap (λ (l : Literal). number_of numbers c.args.group l) c.negated.ensures) grows ends)

pub returns : goal.returns
returns c =
    written_over c.args.steps.now c.args.group c.args.lit c.args.root c.args.writer.now c.spell_all.new.writer c.spell_all.new.numbers
    (subst (λ (b : Bool). SpellsTrail c.args.steps.now c.args.writer.now c.spell_all.new.writer c.spell_all.new.numbers b) c.if-whole.false c.in_ok-whole.ensures.spells)
