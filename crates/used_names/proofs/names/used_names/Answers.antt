use Rattle.std.proofs.Common.{◌≡◌, ◌<◌, length, get_or, refl, sym, ◌∙◌, subst, arith, rules, false}
use Rattle.std.proofs.lemmas.List.{get_or_read}
use Rattle.std.proofs.lemmas.Option.{slice_get_read}
use Rattle.verdict_meaning.specs.UsedNames.{AreAscending, AreUsedNames}
use Rattle.used_names.specs.Picked.{ArePicked}
use Rattle.used_names.proofs.NameLemmas.{picked_on, picked_off, picked_all, ascending}
use Rattle.used_names.proofs.names.used_names.Goals as goal
use Rattle.used_names.proofs.names.used_names.Goals.{then-index+in_ok-add, else-index}

pub loop-index-preserved : goal.loop-index-preserved
loop-index-preserved c =
    let lines = c.as_slice-lines.result.now in
    let marks = c.in_ok-needed.needed.items in
    let k = c.loop-index.index in
    let lt : k < length lines = omega (arith, c.loop-index-test.true, c.loop-index.auto.index-end) in
    let line = c.index-lines-index.result in
    let there = slice_get_read lines (length lines) k c.index-lines-index.result refl lt c.index-lines-index.is in
    let mark : get_or marks k false ≡ c.index.result.now = sym (get_or_read marks k c.index.result.now (omega (arith, lt, c.in_ok-needed.ensures.count)) c.index.ensures false) in
    elim c.if-index.branch [
      | then-index+in_ok-add w ↦ rw (w.used-is, w.in_ok-add.ensures) (picked_on lines marks k c.loop-index.used.keys line there c.loop-index.invariant (mark ∙ w.if-index.true))
      | else-index w ↦ rw (w.used-is) (picked_off lines marks k c.loop-index.used.keys line there c.loop-index.invariant (mark ∙ w.if-index.false))
    ]

pub returns : goal.returns
returns c =
    let lines = c.as_slice-lines.result.now in
    let marks = c.in_ok-needed.needed.items in
    let names = c.in_ok-items.items.items in
    let all : c.loop-index.index ≡ length lines = omega (arith, c.loop-index-test.false, c.loop-index.auto.index-end) in
    let same : names ≡ c.loop-index.used.keys = c.in_ok-items.ensures.names in
    let picked : ArePicked lines marks (length lines) names = subst (λ ns. ArePicked lines marks (length lines) ns) (sym same) (subst (λ n. ArePicked lines marks n c.loop-index.used.keys) all c.loop-index.invariant) in
    let order : AreAscending names = subst AreAscending (sym same) (ascending c.loop-index.used.keys c.in_ok-items.ensures.order) in
    subst (λ ls. AreUsedNames ls names) (search rules) (picked_all lines marks names c.in_ok-needed.ensures order picked)
