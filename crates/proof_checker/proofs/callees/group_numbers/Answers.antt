use Rattle.std.proofs.Common.{◌≡◌, ◌<◌, ◌+◌, ◌-◌, ◌++◌, ℕ, [], List, cond, length, get_or, take, drop, ap, sym, ◌∙◌, subst, arith, rules}
use Rattle.std.specs.List.{All}
use Rattle.std.proofs.lemmas.List.{take_at}
use Rattle.flow_graph.specs.Fits.{is_in}
use Rattle.proof_checker.proofs.GroupLemmas.{AreFrom, one_before}
use Rattle.proof_checker.proofs.callees.group_numbers.Goals as goal

pub put_number-requires : goal.put_number-requires
put_number-requires c =
    let bodies : ℕ = c.args.program.now.graph.bodies in
    let size : length c.deref_mut.result.now ≡ bodies = ap length c.deref_mut.ensures.value ∙ c.loop-group.invariant.count in
    subst (λ n. All (λ k. k < n) c.members_of.result.now) (sym size) (subst (All (λ k. k < bodies)) (sym c.members_of.ensures.members) c.members_of.ensures.group.bodies)

pub loop-group-preserved : goal.loop-group-preserved
loop-group-preserved c =
    let gs : List (List ℕ) = c.args.program.now.groups in
    let bodies : ℕ = c.args.program.now.graph.bodies in
    let i : ℕ = c.loop-group.group - 1 in
    let old : List ℕ = c.loop-group.numbers.items in
    let new : List ℕ = c.put_number.new.numbers in
    let size : length c.deref_mut.result.now ≡ bodies = ap length c.deref_mut.ensures.value ∙ c.loop-group.invariant.count in
    let same_size : length new ≡ c.loop-group.numbers.len = search rules in
    let is : take c.loop-group.numbers.len (new ++ drop (length new) old) ≡ new = take_at new (drop (length new) old) c.loop-group.numbers.len same_size in
    let lt : i < length gs = search rules in
    let at : c.loop-group.group ≡ i + 1 = omega arith in
    let from : AreFrom gs bodies (i + 1) old = subst (λ n. AreFrom gs bodies n old) at c.loop-group.invariant.numbers in
    record {
      count = ap length is ∙ (let e = c.put_number.auto.numbers in omega arith);
      numbers = λ k small. ap (λ (xs : List ℕ). get_or xs k 0) is ∙ one_before gs bodies i old new lt from
          (λ j below. c.put_number.ensures j (omega arith) ∙ ap (λ (ms : List ℕ). cond (is_in ms j) i (get_or c.deref_mut.result.now j 0)) c.members_of.ensures.members ∙ ap (λ (xs : List ℕ). cond (is_in (get_or gs i []) j) i (get_or xs j 0)) c.deref_mut.ensures.value)
          k small;
    }
