use Rattle.std.proofs.Common.{rules, ◌≡◌, ◌∷◌, [], suc, List, length, length-append, sym, ap, ◌∙◌, subst, arith}
use Rattle.conflict_proof.specs.declared.derivation.Line.{Line}
use Rattle.call_summary.specs.Joins.{IsIndexOf}
use Rattle.call_summary.proofs.Indexes.{entered}
use Rattle.call_summary.proofs.joining.enter.Goals as goal

pub returns-clause-index : goal.returns-clause-index
returns-clause-index c =
    let number : c.in_ok-at.at ≡ length c.push.new.self.items = search rules in
    let count : length c.push.new.self.items ≡ suc (length c.args.lines.now.items) = ap length c.in_ok-push.ensures.items ∙ length-append c.args.lines.now.items (c.args.line ∷ []) ∙ omega arith in
    subst (λ (ls : List Line). IsIndexOf ls c.insert.new.self) (sym c.in_ok-push.ensures.items)
    (entered c.args.lines.now.items c.args.line c.args.index.now c.insert.new.self c.args.key c.in_ok-at.at c.requires.index c.in_ok-insert.ensures.updates.0 c.requires.key (number ∙ count))
