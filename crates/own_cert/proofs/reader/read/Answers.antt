use Rattle.std.proofs.Common.{◌≡◌, ◌<◌, ◌^◌, [], length, arith}
use Rattle.conflict_proof.proofs.Cases.{none_case, some_case, some_from_test, none_from_test}
use Rattle.own_cert.specs.declared.draft.State.TheVariants as at
use Rattle.line_texts.proofs.Reading.{gone_more, bad_no_text, bad_line, no_line, no_more, no_end}
use Rattle.own_cert.specs.Reading.{certificates}
use Rattle.own_cert.proofs.ReadLemmas.{readable, gone_at, shorter, nothing_left, refuses_at, found_text, only_text}
use Rattle.own_cert.proofs.reader.read.Goals as goal

pub returns-in-Ok-None-clause-refused : goal.returns-in-Ok-None-clause-refused
returns-in-Ok-None-clause-refused c =
    let l = c.loop-bytes in
    let text = c.args.text.now in
    let small : l.number < 2 ^ 64 = omega (arith, l.auto.number-fits) in
    let bytes = c.in-Some.bytes.now in
    let after = c.in-Some.after.now in
    let wrong = none_case _ _ c.in-Ok-None.field-0 c.in-Ok-None.ensures c.in-Ok-None.field-0-is in
    refuses_at text l.number c.form_at.result c.form_at.ensures (bad_no_text certificates readable text l.rest.now bytes after l.state l.number l.invariant.gone c.in-Some.ensures wrong)
    (bad_line certificates readable text l.rest.now bytes after l.state l.number l.invariant.gone small c.in-Some.ensures wrong)

pub loop-bytes-preserved : goal.loop-bytes-preserved
loop-bytes-preserved c =
    let l = c.loop-bytes in
    let after = c.in-Some.after.now in
    let leads = some_case _ _ c.in-Ok-Some.field-0 c.in-Ok-Some.more c.in-Ok-Some.ensures c.in-Ok-Some.field-0-is in
    record {
      gone = gone_more certificates c.args.text.now l.rest.now c.in-Some.bytes.now after l.state c.in-Ok-Some.more l.number l.invariant.gone c.in-Some.ensures leads;
      within = let s = shorter l.rest.now c.in-Some.bytes.now after c.in-Some.ensures in omega (arith, l.invariant.within, s);
    }

pub returns-then-not-is_empty-clause-refused : goal.returns-then-not-is_empty-clause-refused
returns-then-not-is_empty-clause-refused c =
    let l = c.loop-bytes in
    let text = c.args.text.now in
    let small : l.number < 2 ^ 64 = omega (arith, l.auto.number-fits) in
    let some = some_from_test (length l.rest.now) c.if-not-is_empty.ensures in
    refuses_at text l.number c.form_at-then-not-is_empty.result c.form_at-then-not-is_empty.ensures
    (no_more certificates readable text l.rest.now l.state l.number l.invariant.gone c.in_default.ensures some)
    (no_line certificates readable text l.rest.now l.state l.number l.invariant.gone small c.in_default.ensures)

pub returns-in-Done-clause-found : goal.returns-in-Done-clause-found
returns-in-Done-clause-found c =
    let l = c.loop-bytes in
    let text = c.args.text.now in
    let small : l.number < 2 ^ 64 = omega (arith, l.auto.number-fits) in
    let empty : l.rest.now ≡ [] = nothing_left l.rest.now (none_from_test (length l.rest.now) c.if-not-is_empty.ensures) in
    found_text text c.in-Done.certificate l.number (gone_at text l.rest.now l.state (at.Done c.in-Done.certificate) l.number l.invariant.gone c.in-Done.is empty) small

pub returns-in-Done-clause-only : goal.returns-in-Done-clause-only
returns-in-Done-clause-only c =
    let l = c.loop-bytes in
    let text = c.args.text.now in
    let small : l.number < 2 ^ 64 = omega (arith, l.auto.number-fits) in
    let empty : l.rest.now ≡ [] = nothing_left l.rest.now (none_from_test (length l.rest.now) c.if-not-is_empty.ensures) in
    only_text text c.in-Done.certificate l.number (gone_at text l.rest.now l.state (at.Done c.in-Done.certificate) l.number l.invariant.gone c.in-Done.is empty)

pub returns : goal.returns
returns c =
    let l = c.loop-bytes in
    let text = c.args.text.now in
    let small : l.number < 2 ^ 64 = omega (arith, l.auto.number-fits) in
    record {
      found = tt;
      only = tt;
      refused =
          refuses_at text l.number c.form_at-in_default-state.result c.form_at-in_default-state.ensures
          (no_end certificates readable text l.rest.now l.state l.number l.invariant.gone c.in_default.ensures c.in_default-state.not-Done)
          (no_line certificates readable text l.rest.now l.state l.number l.invariant.gone small c.in_default.ensures);
    }
