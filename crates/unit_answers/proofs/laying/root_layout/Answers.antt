use Rattle.std.proofs.Common.{◌≡◌, ℕ, ◌+◌, List, [], ◌∷◌, ◌++◌, length, slice_get, inl, inr, ap, sym, subst, ◌∙◌, rules, arith}
use Rattle.std.proofs.lemmas.List.{length_push}
use Rattle.std.proofs.lemmas.List.{get_or_past}
use Rattle.std.specs.Prelude.{sum_by}
use Rattle.verdict_meaning.specs.Systems.{root, members}
use Rattle.verdict_meaning.specs.Programs.{IsSystemOf, system_of}
use Rattle.unit_answers.specs.declared.layouts.Call.{Call}
use Rattle.unit_answers.specs.Layouts.{IsCallAt}
use Rattle.unit_answers.proofs.Places.{get_push_cases}
use Rattle.unit_answers.proofs.FaceNumbers.{root_many}
use Rattle.unit_answers.proofs.laying.root_layout.Goals as goal

pub loop-group-preserved : goal.loop-group-preserved
loop-group-preserved c =
    let p = c.args.program.now in
    let s = system_of p.graph p.facts p.groups in
    let calls = c.loop-group.calls.items in
    let one = c.root_call.result in
    let items : c.push.new.self.items ≡ calls ++ one ∷ [] = search rules in
    let many = c.loop-group.invariant.count in
    record {
      count = ap length items ∙ length_push calls one ∙ ap (λ n. n + 1) many;
      each = λ n d at. elim (get_push_cases calls one n d (ap (λ (cs : List Call). slice_get cs n) (sym items) ∙ at)) [
        | inl old ↦ c.loop-group.invariant.each n d old
        | inr new ↦
            subst (λ (k : ℕ). IsCallAt s (root s) k d) (sym (new.0 ∙ many))
            (subst (λ (x : Call). IsCallAt s (root s) c.loop-group.group x) new.1 c.root_call.ensures)
      ];
    }

pub returns : goal.returns
returns c =
    let p = c.args.program.now in
    let s = system_of p.graph p.facts p.groups in
    let of : IsSystemOf p.graph p.facts (system_of p.graph p.facts p.groups) = c.system_is_of_graph.ensures p.graph p.facts p.groups c.law.ensures.fits c.law.ensures.groups in
    let all = root_many p.graph p.facts p.groups c.law.ensures.groups of in
    let none : sum_by s.parts (members s (root s)) ≡ 0 = ap (sum_by s.parts) (get_or_past p.groups (length p.groups) [] (omega arith)) in
    let fields = c.requires.fields in
    let groups = c.requires.groups in
    let made = c.loop-group.invariant.count in
    let end = c.loop-group-test.false in
    let high = c.loop-group.auto.group-end in
    let fits = c.ranges.many.fits in
    record {
      count = c.in_ok-count.ensures.count;
      small = c.in_ok-count.ensures.small;
      outer = omega arith;
      sites = omega arith;
      few = omega arith;
      each = c.loop-group.invariant.each;
    }
