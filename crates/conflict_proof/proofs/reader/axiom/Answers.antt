use Rattle.conflict_proof.proofs.LineLemmas.{no_axiom, wide_rule, wide_edge}
use Rattle.conflict_proof.proofs.reader.axiom.Goals as goal

pub returns-in_err-rest : goal.returns-in_err-rest
returns-in_err-rest c = rw c.from_residual.ensures (no_axiom c.args.text.now c.in_err-rest.ensures.read)

pub returns-then-rule : goal.returns-then-rule
returns-then-rule c = wide_rule c.args.text.now c.fill.new.numbers c.in_ok-rest.rest.now c.in_ok-rest.ensures.read c.in_ok-rest.ensures.len c.if-rule.true

pub returns-then-edge : goal.returns-then-edge
returns-then-edge c = wide_edge c.args.text.now c.fill.new.numbers c.in_ok-rest.rest.now c.in_ok-rest.ensures.read c.in_ok-rest.ensures.len c.if-edge.true
