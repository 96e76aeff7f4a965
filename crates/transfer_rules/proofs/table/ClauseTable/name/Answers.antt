use Rattle.std.proofs.Common.{◌<◌, ℕ, List, length, get_or, sym, ap, ap₂, ◌∙◌, subst, arith}
use Rattle.conflict_proof.specs.declared.names.ConstraintName.{ConstraintName}
use Rattle.transfer_rules.specs.Names.{NamedClause}
use Rattle.transfer_rules.specs.Table.{no_clause, no_name, spread, ArePlaces}
use Rattle.transfer_rules.proofs.TableLemmas.{rows_length}
use Rattle.transfer_rules.proofs.Pieces.{row_at}
use Rattle.transfer_rules.proofs.Spread.{spread_length}
use Rattle.transfer_rules.proofs.table.ClauseTable.name.Goals as goal

pub name_at-requires-clause-owners : goal.name_at-requires-clause-owners
name_at-requires-clause-owners c =
    let long = rows_length (spread c.self.inside.names.items c.self.inside.owners.items) c.self.inside.ends.items c.self.inside.lits.items c.self.invariant.table in
    let same = ap length c.self.view_is in
    let count = c.self.invariant.table.count in
    let wide = spread_length c.self.inside.names.items c.self.inside.owners.items in
    let lt = c.requires in
    let owners = ap length c.deref-2.ensures.value in
    omega arith

pub name_at-requires-clause-places : goal.name_at-requires-clause-places
name_at-requires-clause-places c =
    let P : List ConstraintName → Type 0 = λ ns. ArePlaces ns c.deref-2.result.now in
    subst P (sym c.deref.ensures.value) (subst (ArePlaces c.self.inside.names.items) (sym c.deref-2.ensures.value) c.self.invariant.places)

pub returns : goal.returns
returns c =
    let ns = spread c.self.inside.names.items c.self.inside.owners.items in
    let es = c.self.inside.ends.items in
    let ls = c.self.inside.lits.items in
    let n = c.args.number in
    let long = rows_length ns es ls c.self.invariant.table in
    let same = ap length c.self.view_is in
    let lt' = c.requires in
    let lt : n < length es = omega arith in
    let read = c.name_at.ensures ∙ ap₂ (λ (us : List ConstraintName) (os : List ℕ). get_or (spread us os) n no_name) c.deref.ensures.value c.deref-2.ensures.value in
    read ∙ sym (ap (λ (r : NamedClause). r.name) (row_at n ns es ls c.self.invariant.table lt)) ∙ ap (λ (t : List NamedClause). (get_or t n no_clause).name) c.self.view_is
