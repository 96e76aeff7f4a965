use Rattle.std.proofs.Common.{◌∙◌, ap, sym, refl, length, List, ℕ, get_or, arith}
use Rattle.std.proofs.lemmas.List.{get_or_default}
use Rattle.path_facts.proofs.BitLemmas.{met_changed, met_same, met_all, bit_in-meet}
use Rattle.path_facts.proofs.row.Row.meet.Goals as goal
use Rattle.path_facts.proofs.row.Row.meet.Goals.{then-new-old, else-new-old}

pub words-init : goal.words-init
words-init c = record { count = refl; met = λ j below. absurd (omega arith); rest = λ j above. refl; same = λ _. refl; falls = λ never. absurd (cc) }

pub words-preserved : goal.words-preserved
words-preserved c =
    let long = ap length c.self.view_is in
    let other_long = ap length c.other.view_is in
    let count = c.words.invariant.count in
    let here = c.index-old.ensures ∙ get_or_default c.words.self-inside.words.items c.words.i c.index-old.result.now 0 (omega arith) in
    let there = c.index.ensures ∙ get_or_default c.other.inside.words.items c.words.i c.index.result.now 0 (omega arith) ∙ ap (λ (ws : List ℕ). get_or ws c.words.i 0) c.other.view_is in
    elim c.if-new-old.branch [
      | then-new-old w ↦ rw (w.self-inside-is, w.changed-is) (met_changed _ _ _ _ _ c.words.invariant (omega arith) _ _ here there w.if-new-old.true)
      | else-new-old w ↦ rw (w.self-inside-is, w.changed-is) (met_same _ _ _ _ _ c.words.invariant (omega arith) _ _ here there w.if-new-old.false)
    ]

pub returns-clause-bits : goal.returns-clause-bits
returns-clause-bits c =
    let long = ap length c.self.view_is in
    let stop = c.words-test.false in
    let end = c.len-i-end.ensures in
    rw (sym c.self.view_is) (bit_in-meet _ _ _ (met_all _ _ _ _ _ c.words.invariant (omega arith) (omega arith)))

pub returns-clause-same : goal.returns-clause-same
returns-clause-same c is = c.words.invariant.same is ∙ c.self.view_is

pub returns-clause-falls : goal.returns-clause-falls
returns-clause-falls c is = rw (sym c.self.view_is) (c.words.invariant.falls is)
