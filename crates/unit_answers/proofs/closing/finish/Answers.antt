use Rattle.std.proofs.Common.{◌≡◌, ◌<◌, ◌≤◌, List, map, slice_get, ◌∙◌, ap, sym, subst}
use Rattle.std.specs.List.{Contains}
use Rattle.std.proofs.lemmas.List.Elements.{All-contains}
use Rattle.zo_core.specs.Literals.{Literal}
use Rattle.unit_answers.specs.Sets.{lit_of}
use Rattle.unit_answers.specs.Trails.{known}
use Rattle.unit_answers.proofs.closing.finish.Goals as goal

pub returns-clause-ordered : goal.returns-clause-ordered
returns-clause-ordered c =
    let same : map lit_of c.into_findings-findings.result.items ≡ known c.args.trail = ap (map lit_of) c.into_findings-findings.ensures.same in
    record {
      ascend = c.in_ok-lits.ensures.ascend;
      some = λ l there. (All-contains (λ (m : Literal). (0 < m.var) × (m.var ≤ c.args.trail.unknowns)) (known c.args.trail) l c.into_findings-findings.ensures.within ((c.in_ok-lits.ensures.same l).0 there)).0;
      same = λ l. (
        (λ there. subst (λ (ls : List Literal). Contains ls l) (sym same) ((c.in_ok-lits.ensures.same l).0 there)),
        (λ there. (c.in_ok-lits.ensures.same l).1 (subst (λ (ls : List Literal). Contains ls l) same there)),
      );
      once = λ j k l at_j at_k. c.into_findings-findings.ensures.once j k l (ap (λ (ls : List Literal). slice_get ls j) (sym same) ∙ at_j) (ap (λ (ls : List Literal). slice_get ls k) (sym same) ∙ at_k);
    }

pub returns-clause-within : goal.returns-clause-within
returns-clause-within c = λ l there.
    (All-contains (λ (m : Literal). (0 < m.var) × (m.var ≤ c.args.trail.unknowns)) (known c.args.trail) l c.into_findings-findings.ensures.within ((c.in_ok-lits.ensures.same l).0 there)).1
