use Rattle.std.proofs.Common.{◌≡◌, ◌+◌, ◌<◌, ◌^◌, ◌∷◌, ◌++◌, ◌∙◌, subst, sym, length, arith, rules}
use Rattle.conflict_proof.specs.Fault.{IsFormAt}
use Rattle.conflict_proof.specs.Fronts.{NoEnd}
use Rattle.conflict_proof.specs.Text.{end_text}
use Rattle.conflict_proof.proofs.Cases.{some_from_test, none_from_test}
use Rattle.conflict_proof.proofs.ReadLemmas.{Begun, begun_of, derivation_is, refuses_at, no_header, bad_header, no_end, bad_line, no_more, bad_more, found_text, only_text}
use Rattle.conflict_proof.proofs.reader.read.Goals as goal

pub returns-in_default-clause-refused : goal.returns-in_default-clause-refused
returns-in_default-clause-refused c = refuses_at c.args.text.now 1 c.form_at.result c.form_at.ensures (no_header c.args.text.now c.in_default.ensures) (bad_header c.args.text.now c.in_default.ensures)

pub returns-in_default-end-clause-refused : goal.returns-in_default-end-clause-refused
returns-in_default-end-clause-refused c =
    let ls = c.in-Ok.items.items in
    let count : c.len-count.result ≡ length ls = search rules in
    let begun : Begun c.args.text.now ls c.in-Ok.rest.now = begun_of c.args.text.now c.in-Some.body.now c.in-Ok.rest.now ls c.in-Some.ensures c.in-Ok.ensures (omega (arith, count, c.len-count.type_inv)) in
    let small : length ls + 3 < 2 ^ 64 = omega (arith, count, c.in-Ok.items.ok, c.in-Ok.items.small) in
    let none : NoEnd (length ls) c.in-Ok.rest.now = subst (λ n. NoEnd n c.in-Ok.rest.now) count c.in_default-end.ensures in
    let fault = subst (λ n. IsFormAt (n + 2) c.form_at-in_default-end.result) count c.form_at-in_default-end.ensures in
    refuses_at c.args.text.now (length ls + 2) c.form_at-in_default-end.result fault (no_end c.args.text.now ls c.in-Ok.rest.now begun none) (bad_line c.args.text.now ls c.in-Ok.rest.now small begun none)

pub returns-then-not-is_empty-clause-refused : goal.returns-then-not-is_empty-clause-refused
returns-then-not-is_empty-clause-refused c =
    let ls = c.in-Ok.items.items in
    let more = c.in-Some-end.more.now in
    let count : c.len-count.result ≡ length ls = search rules in
    let begun : Begun c.args.text.now ls c.in-Ok.rest.now = begun_of c.args.text.now c.in-Some.body.now c.in-Ok.rest.now ls c.in-Some.ensures c.in-Ok.ensures (omega (arith, count, c.len-count.type_inv)) in
    let ends : c.in-Ok.rest.now ≡ end_text (length ls) ++ 10 ∷ more = subst (λ n. c.in-Ok.rest.now ≡ end_text n ++ 10 ∷ more) count c.in-Some-end.ensures in
    let small : length ls + 3 < 2 ^ 64 = omega (arith, count, c.in-Ok.items.ok, c.in-Ok.items.small) in
    let some : 0 < length more = some_from_test (length more) c.if-not-is_empty.ensures in
    let fault = subst (λ n. IsFormAt (n + 3) c.form_at-then-not-is_empty.result) count c.form_at-then-not-is_empty.ensures in
    refuses_at c.args.text.now (length ls + 3) c.form_at-then-not-is_empty.result fault (no_more c.args.text.now ls c.in-Ok.rest.now more begun ends some) (bad_more c.args.text.now ls c.in-Ok.rest.now more small begun ends)

pub returns-clause-found : goal.returns-clause-found
returns-clause-found c =
    let ls = c.in-Ok.items.items in
    let more = c.in-Some-end.more.now in
    let count : c.len-count.result ≡ length ls = search rules in
    let small : length ls < 2 ^ 64 = omega (arith, count, c.len-count.type_inv) in
    let begun : Begun c.args.text.now ls c.in-Ok.rest.now = begun_of c.args.text.now c.in-Some.body.now c.in-Ok.rest.now ls c.in-Some.ensures c.in-Ok.ensures small in
    let ends : c.in-Ok.rest.now ≡ end_text (length ls) ++ 10 ∷ more = subst (λ n. c.in-Ok.rest.now ≡ end_text n ++ 10 ∷ more) count c.in-Some-end.ensures in
    let none : length more ≡ 0 = none_from_test (length more) (sym c.if-not-is_empty.false ∙ c.is_empty.ensures) in
    (derivation_is ls begun.each begun.count, found_text c.args.text.now ls c.in-Ok.rest.now more begun ends none)

pub returns-clause-only : goal.returns-clause-only
returns-clause-only c =
    let ls = c.in-Ok.items.items in
    let more = c.in-Some-end.more.now in
    let count : c.len-count.result ≡ length ls = search rules in
    let begun : Begun c.args.text.now ls c.in-Ok.rest.now = begun_of c.args.text.now c.in-Some.body.now c.in-Ok.rest.now ls c.in-Some.ensures c.in-Ok.ensures (omega (arith, count, c.len-count.type_inv)) in
    let ends : c.in-Ok.rest.now ≡ end_text (length ls) ++ 10 ∷ more = subst (λ n. c.in-Ok.rest.now ≡ end_text n ++ 10 ∷ more) count c.in-Some-end.ensures in
    let none : length more ≡ 0 = none_from_test (length more) (sym c.if-not-is_empty.false ∙ c.is_empty.ensures) in
    only_text c.args.text.now ls c.in-Ok.rest.now more begun ends none
