use Rattle.std.proofs.Common.{◌≡◌, ◌++◌, length}
use Rattle.conflict_proof.specs.Text.{clause_text}
use Rattle.conflict_proof.specs.Values.{IsClause}
use Rattle.conflict_proof.proofs.ClauseLemmas.{top, Reads}
use Rattle.conflict_proof.proofs.clauses.next_clause.Given as goal

abbrev pub invariant-loop-found : goal.invariant-loop-found
invariant-loop-found l = record {
  text : l.fn.text ≡ clause_text l.lits.items ++ l.rest;
  is : IsClause l.lits.items;
  last : l.last ≡ top 0 l.lits.items;
  reads : Reads l.fn.text l.lits.items l.rest;
}

abbrev pub decreases-loop-found : goal.decreases-loop-found
decreases-loop-found l = length l.rest
