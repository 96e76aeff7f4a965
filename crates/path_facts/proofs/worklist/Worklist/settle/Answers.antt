use Rattle.std.proofs.Common.{◌≡◌, ℕ, false, arith}
use Rattle.std.proofs.lemmas.List.Elements.{All-contains}
use Rattle.path_facts.specs.Progress.{is_pending}
use Rattle.path_facts.proofs.worklist.Worklist.settle.Goals as goal

pub returns-clause-closed : goal.returns-clause-closed
returns-clause-closed c p inside =
    let count = c.sweep.ensures.work.are_rows.count in
    let waits =
    All-contains (λ (q : ℕ). is_pending c.sweep.new.self.pending.items q ≡ false) c.args.order.now p (c.sweep.ensures.visited c.sweeps-test.false)
    (c.requires.every p (omega arith)) in
    c.sweep.ensures.settled p inside waits
