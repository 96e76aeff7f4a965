use Rattle.std.proofs.Common.{◌≡◌, ◌++◌, ◌∷◌, [], ◌∙◌, arith, rules}
use Rattle.conflict_proof.proofs.ClauseLemmas.{not_above, top_push, text_more, clause_more, reads_more, rest_is_feed}
use Rattle.conflict_proof.proofs.clauses.next_clause.Goals as goal

pub returns-then-var-last : goal.returns-then-var-last
returns-then-var-last c =
    let l = c.loop-found in
    let lit = c.in-Some.found.0 in
    not_above c.args.text.now l.lits.items lit l.rest.now c.in-Some.found.1.now l.invariant.reads c.in-Some.ensures
    (omega (arith, c.if-var-last.true, c.number-var.ensures.number, c.var.ensures.var, l.invariant.last))

pub loop-found-preserved : goal.loop-found-preserved
loop-found-preserved c =
    let l = c.loop-found in
    let lit = c.in-Some.found.0 in
    let after = c.in-Some.found.1.now in
    let items : c.push.new.self.items ≡ l.lits.items ++ lit ∷ [] = search rules in
    record {
      text = rw items (text_more c.args.text.now l.lits.items lit l.rest.now after l.invariant.text c.in-Some.ensures);
      is = rw items (clause_more l.lits.items lit l.invariant.is c.in-Some.ensures.is (omega (arith, c.if-var-last.false, c.number-var.ensures.number, c.var.ensures.var, l.invariant.last)));
      last = rw (items, top_push 0 l.lits.items lit) (c.number-var.ensures.number ∙ c.var.ensures.var);
      reads = rw items (reads_more c.args.text.now l.lits.items lit l.rest.now after l.invariant.reads c.in-Some.ensures);
    }

pub returns : goal.returns
returns c = λ clause more is text.
    let l = c.loop-found in
    c.in-None.ensures more (rest_is_feed c.args.text.now l.lits.items l.rest.now l.invariant.reads c.in_default.ensures clause more is text)
