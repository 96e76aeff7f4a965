use Rattle.std.proofs.Common.{rules, ◌≡◌, ◌∷◌, ◌++◌, [], ℕ, suc, List, length, length-append, sym, ap, ◌∙◌, subst, arith}
use Rattle.conflict_proof.specs.declared.derivation.How.{How}
use Rattle.conflict_proof.specs.declared.derivation.Line.{Line}
use Rattle.call_summary.specs.Trims.{by_numbers, by_new}
use Rattle.call_summary.specs.Joins.{IsAdded}
use Rattle.call_summary.proofs.Indexes.{added_there, added_new}
use Rattle.call_summary.proofs.joining.add.Goals as goal

pub returns-in-Some-clause-added : goal.returns-in-Some-clause-added
returns-in-Some-clause-added c =
    subst (λ (ns : List ℕ). IsAdded c.args.lines.now.items c.args.numbers.now.items c.args.line.now c.args.lines.now.items ns) (sym c.in_ok-push.ensures.items)
    (added_there c.args.lines.now.items c.args.numbers.now.items c.args.line.now c.args.index.now c.in_ok-key.key c.in-Some.at c.requires.index c.in_ok-key.ensures (sym c.find.ensures ∙ c.in-Some.is))

pub returns-clause-added : goal.returns-clause-added
returns-clause-added c =
    let line = c.args.line.now in
    let how : c.renumbered-how.result ≡ by_numbers c.args.numbers.now.items line.how = c.renumbered-how.ensures ∙ ap (λ (ns : List ℕ). by_numbers ns line.how) c.deref.ensures.value in
    let more : c.in_ok-more.more ≡ by_new c.args.numbers.now.items line = c.in_ok-more.ensures ∙ ap (λ (h : How). record { group = line.group; how = h; lits = line.lits }) how in
    let new : c.enter.new.lines.items ≡ c.args.lines.now.items ++ by_new c.args.numbers.now.items line ∷ [] = c.in_ok-enter.ensures.lines ∙ ap (λ (x : Line). c.args.lines.now.items ++ x ∷ []) more in
    let number : c.in_ok-number.field-0 ≡ length c.enter.new.lines.items = search rules in
    let count : length c.enter.new.lines.items ≡ suc (length c.args.lines.now.items) = ap length new ∙ length-append c.args.lines.now.items (by_new c.args.numbers.now.items line ∷ []) ∙ omega arith in
    subst (λ (ns : List ℕ). IsAdded c.args.lines.now.items c.args.numbers.now.items line c.enter.new.lines.items ns) (sym c.in_ok-push-2.ensures.items)
    (added_new c.args.lines.now.items c.args.numbers.now.items line c.args.index.now c.in_ok-key.key c.in_ok-number.field-0 c.enter.new.lines.items c.requires.index c.in_ok-key.ensures (sym c.find.ensures ∙ c.in_default.is) (number ∙ count) new)
