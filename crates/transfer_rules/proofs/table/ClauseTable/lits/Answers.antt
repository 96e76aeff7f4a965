use Rattle.std.proofs.Common.{◌<◌, ℕ, List, [], length, get_or, sym, ap, ap₂, ◌∙◌, arith}
use Rattle.zo_core.specs.Literals.{Literal}
use Rattle.transfer_rules.specs.Names.{NamedClause}
use Rattle.transfer_rules.specs.Table.{cut, spread, no_clause}
use Rattle.transfer_rules.proofs.TableLemmas.{rows_length}
use Rattle.transfer_rules.proofs.Pieces.{row_at}
use Rattle.transfer_rules.proofs.table.ClauseTable.lits.Goals as goal

pub piece-requires-clause-within : goal.piece-requires-clause-within
piece-requires-clause-within c =
    let long = rows_length (spread c.self.inside.names.items c.self.inside.owners.items) c.self.inside.ends.items c.self.inside.lits.items c.self.invariant.table in
    let same = ap length c.self.view_is in
    let ends = ap length c.deref.ensures.value in
    let lt = c.requires in
    omega arith

pub returns : goal.returns
returns c =
    let ns = spread c.self.inside.names.items c.self.inside.owners.items in
    let es = c.self.inside.ends.items in
    let ls = c.self.inside.lits.items in
    let n = c.args.number in
    let long = rows_length ns es ls c.self.invariant.table in
    let same = ap length c.self.view_is in
    let lt' = c.requires in
    let lt : n < length es = omega arith in
    let read = c.piece.ensures ∙ ap₂ (λ (us : List ℕ) (vs : List Literal). get_or (cut 0 us vs) n []) c.deref.ensures.value c.deref-2.ensures.value in
    read ∙ sym (ap (λ (r : NamedClause). r.lits) (row_at n ns es ls c.self.invariant.table lt)) ∙ ap (λ (t : List NamedClause). (get_or t n no_clause).lits) c.self.view_is
