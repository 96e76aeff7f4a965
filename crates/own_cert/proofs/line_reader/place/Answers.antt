use Rattle.conflict_proof.proofs.Cases.{none_case}
use Rattle.own_cert.proofs.FormLemmas.{no_place, no_place_bits}
use Rattle.own_cert.proofs.line_reader.place.Goals as goal

pub returns-in_default : goal.returns-in_default
returns-in_default c = no_place c.args.text.now c.requires c.in_default.ensures.read

pub returns-in-None : goal.returns-in-None
returns-in-None c =
    no_place_bits c.args.text.now c.fill.new.numbers c.in-Some.rest.now c.requires c.in-Some.ensures.read c.in-Some.ensures.len (none_case _ _ c.in_ok-bits.field-0 c.in_ok-bits.ensures c.in-None.is)
