use Rattle.std.proofs.Common.{List, [], ◌∷◌, ◌++◌, length, ◌≡◌, ◌∙◌, ap, sym, subst}
use Rattle.conflict_proof.specs.declared.derivation.Line.{Line}
use Rattle.call_search.specs.Indexes.{Ledger, AreIndexed}
use Rattle.call_search.specs.declared.ledger.Ledger.TheInside.{Inside}
use Rattle.call_search.proofs.Indexing.{indexed_pushed}
use Rattle.call_search.proofs.ledger.Ledger.push.Goals as goal

pub invariant_of-self-2 : goal.invariant_of-self-2
invariant_of-self-2 c =
    let lines : List Line = c.self.inside.lines in
    let line : Line = c.args.line in
    let is : c.push.new.self.items ≡ lines ++ line ∷ [] = c.in_ok-push.ensures.items ∙ ap (λ (l : Inside). l.lines ++ line ∷ []) c.self-inside.view_is in
    indexed_pushed lines c.push.new.self.items line _ c.add_place.new.groups.items _ (subst (λ (l : Inside). AreIndexed lines l.groups.items) (sym c.self-inside.view_is) c.self.invariant) is (ap (λ (ls : List Line). length ls) c.lines.ensures ∙ ap (λ (l : Ledger). length l.lines) (sym c.self.view_is)) c.in_default.ensures.ok
