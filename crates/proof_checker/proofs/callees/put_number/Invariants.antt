use Rattle.std.proofs.Common.{◌≡◌, ℕ, cond, drop, get_or}
use Rattle.flow_graph.specs.Fits.{is_in}
use Rattle.proof_checker.proofs.callees.put_number.Given as goal

abbrev pub invariant-loop-member : goal.invariant-loop-member
invariant-loop-member l = (k : ℕ)
    → cond (is_in (drop l.member-index l.members) k) l.number (get_or l.numbers k 0) ≡ cond (is_in l.members k) l.number (get_or l.fn.numbers k 0)
