use Rattle.std.proofs.Common.{◌≡◌, ℕ, ◌<◌, List, [], ap, sym, subst, ◌∙◌}
use Rattle.std.specs.List.{All}
use Rattle.std.proofs.lemmas.List.{get_or_default}
use Rattle.recursion_groups.proofs.Each.{group_at}
use Rattle.unit_answers.proofs.laying.group_numbers.Goals as goal

pub homes-requires-clause-within : goal.homes-requires-clause-within
homes-requires-clause-within c =
    let p = c.args.program.now in
    let all : All (All (λ (k : ℕ). k < p.graph.bodies)) p.groups = λ k d lt.
    subst (λ (ms : List ℕ). All (λ (n : ℕ). n < p.graph.bodies) ms) (get_or_default p.groups k [] d lt) (group_at p.graph [] p.groups k c.law.ensures.groups lt).bodies in
    let groups : c.program.inside.groups ≡ p.groups = ap (λ q. q.groups) c.program.view_is in
    let bodies : c.bodies.result ≡ p.graph.bodies = c.bodies.ensures.count ∙ ap (λ q. q.graph.bodies) c.program.view_is in
    subst (λ (n : ℕ). All (All (λ (k : ℕ). k < n)) c.program.inside.groups) (sym bodies)
    (subst (λ (gs : List (List ℕ)). All (All (λ (k : ℕ). k < p.graph.bodies)) gs) (sym groups) all)
