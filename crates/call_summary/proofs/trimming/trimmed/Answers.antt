use Rattle.std.proofs.Common.{◌≡◌, Bool, sym, ap, ◌∙◌, subst, List}
use Rattle.conflict_proof.specs.declared.derivation.Line.{Line}
use Rattle.verdict_meaning.specs.Selected.{selected}
use Rattle.call_summary.specs.Trims.{StandBack}
use Rattle.call_summary.proofs.Selecting.{selected_stand_back}
use Rattle.call_summary.proofs.trimming.trimmed.Goals as goal

pub returns-clause-trim : goal.returns-clause-trim
returns-clause-trim c = record {
  marks = c.in_ok-marks.marks.items;
  left = c.in_ok-marks.ensures;
  is = c.in_ok-items.ensures ∙ ap (λ (ms : List Bool). selected ms c.args.lines.now) c.deref.ensures.value;
}

pub returns-clause-back : goal.returns-clause-back
returns-clause-back c =
    let is : c.in_ok-items.items.items ≡ selected c.in_ok-marks.marks.items c.args.lines.now = c.in_ok-items.ensures ∙ ap (λ (ms : List Bool). selected ms c.args.lines.now) c.deref.ensures.value in
    subst (λ (ls : List Line). StandBack ls) (sym is) (selected_stand_back c.args.lines.now c.in_ok-marks.marks.items c.requires.back c.in_ok-marks.ensures.closed)
