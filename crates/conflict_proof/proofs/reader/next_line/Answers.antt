use Rattle.conflict_proof.proofs.Cases.{none_case}
use Rattle.conflict_proof.proofs.LineLemmas.{no_colon, no_clause}
use Rattle.conflict_proof.proofs.reader.next_line.Goals as goal

pub returns-in_default-after_word : goal.returns-in_default-after_word
returns-in_default-after_word c = no_colon c.args.text.now c.in-Some.group c.in-Some.how c.in-Some.rest.now c.in-Some.ensures c.in_default-after_word.ensures

pub returns-in_default-2 : goal.returns-in_default-2
returns-in_default-2 c =
    no_clause c.args.text.now c.in-Some.group c.in-Some.how c.in-Some.rest.now c.in-Some-after_word.rest.now c.in-Some.ensures c.in-Some-after_word.ensures
    (none_case _ _ c.in_ok-lits.field-0 c.in_ok-lits.ensures c.in_default-2.is)
