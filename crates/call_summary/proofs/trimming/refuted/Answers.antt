use Rattle.std.proofs.Common.{rules, ◌≡◌, List, sym, subst}
use Rattle.conflict_proof.specs.declared.derivation.Line.{Line}
use Rattle.call_summary.specs.Trims.{IsRefutationFor}
use Rattle.call_summary.proofs.Left.{lead_back, trim_refutes}
use Rattle.call_summary.proofs.trimming.refuted.Goals as goal

pub used_names-requires : goal.used_names-requires
used_names-requires c = lead_back c.in_ok-trim.trim.lines c.in_ok-trim.ensures.back

pub returns-clause-answer : goal.returns-clause-answer
returns-clause-answer c = λ s U words budget are.
    let same : c.as_slice-lines.result.now ≡ c.args.derivation.now.lines = search rules in
    trim_refutes c.as_slice-lines.result.now c.args.first c.in_ok-trim.trim.lines c.in_ok-trim.ensures.trim c.laws.ensures.trim s U words
    (subst (λ (ls : List Line). IsRefutationFor s U words ls) (sym same) are) c.in_ok-names.names c.in_ok-names.ensures
