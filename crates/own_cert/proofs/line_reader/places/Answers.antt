use Rattle.conflict_proof.proofs.Cases.{none_case}
use Rattle.own_cert.proofs.FormLemmas.{no_places, back_places, no_places_bits}
use Rattle.own_cert.proofs.line_reader.places.Goals as goal

pub returns-in_default : goal.returns-in_default
returns-in_default c = no_places c.args.text.now c.in_default.ensures.read

pub returns-then-last-first : goal.returns-then-last-first
returns-then-last-first c = back_places c.args.text.now c.fill.new.numbers c.in-Some.rest.now c.in-Some.ensures.read c.in-Some.ensures.len c.if-last-first.true

pub returns-in-None : goal.returns-in-None
returns-in-None c =
    no_places_bits c.args.text.now c.fill.new.numbers c.in-Some.rest.now c.in-Some.ensures.read c.in-Some.ensures.len (none_case _ _ c.in_ok-bits.field-0 c.in_ok-bits.ensures c.in-None.is)
