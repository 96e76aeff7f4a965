use Rattle.std.proofs.Common.{◌∙◌, ap, sym, subst, List, ◌≡◌}
use Rattle.zo_core.specs.Literals.{Literal}
use Rattle.zo_core.specs.Order.{Ascends}
use Rattle.conflict_proof.specs.declared.derivation.Line.{Line}
use Rattle.std.specs.Prelude.{Some}
use Rattle.verdict_meaning.specs.Derivations.{line_at}
use Rattle.call_search.proofs.Carry.{line_read}
use Rattle.call_search.proofs.site.line_lits.Goals as goal

pub returns : goal.returns
returns c = record {
  line = λ line at.
      c.lits.ensures.lits ∙ ap (λ (x : Line). x.lits) (sym c.index-lines-n.is ∙ line_read _ c.args.n c.index-lines-n.result line c.index-lines-n.is (subst (λ (ls : List Line). line_at ls c.args.n ≡ Some line) (sym c.lines.ensures) at));
  canonical = subst (λ (ls : List Literal). Ascends 0 ls) (sym c.lits.ensures.lits) c.lits.ensures.canonical;
}
