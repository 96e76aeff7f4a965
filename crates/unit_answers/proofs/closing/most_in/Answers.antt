use Rattle.std.proofs.Common.{ℕ, ◌≤◌, List, take, get_or, sym, subst, arith}
use Rattle.std.proofs.lemmas.List.{take_more, take_all}
use Rattle.std.proofs.lemmas.List.Elements.{All-push}
use Rattle.std.specs.List.{All}
use Rattle.zo_core.specs.Literals.{Literal}
use Rattle.transfer_rules.specs.Names.{NamedClause}
use Rattle.transfer_rules.specs.Table.{no_clause}
use Rattle.unit_answers.specs.Propagation.{IsWithin}
use Rattle.unit_answers.proofs.closing.most_in.Goals as goal

weaker : (rows : List NamedClause) (m n : ℕ) → m ≤ n → All (IsWithin m) rows → All (IsWithin n) rows
weaker rows m n le all k d lt = λ i e less. let low = all k d lt i e less in omega arith

pub loop-number-preserved : goal.loop-number-preserved
loop-number-preserved c =
    let rows = c.args.table.now in
    let i = c.loop-number.number in
    let row = get_or rows i no_clause in
    let most = c.most_of-most.result in
    let inv = c.loop-number.invariant in
    let least = c.most_of-most.ensures.least in
    let here : IsWithin most row = subst (λ (ls : List Literal). All (λ (l : Literal). l.var ≤ most) ls) c.lits.ensures c.most_of-most.ensures.most in
    record {
      least = (let low = inv.least in omega arith);
      small = c.most_of-most.ensures.small;
      most = subst (λ (rs : List NamedClause). All (IsWithin most) rs) (sym (take_more rows i no_clause (omega arith)))
          (All-push (IsWithin most) (take i rows) row (weaker (take i rows) c.loop-number.most most least inv.most) here);
    }

pub returns-clause-most : goal.returns-clause-most
returns-clause-most c =
    let rows = c.args.table.now in
    let len = c.len-number-end.ensures in
    subst (λ (rs : List NamedClause). All (IsWithin c.loop-number.most) rs) (take_all c.loop-number.number rows (omega arith)) c.loop-number.invariant.most
