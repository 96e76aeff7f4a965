use Rattle.std.proofs.Common.{◌≡◌, ℕ, ◌+◌, ◌<◌, List, [], ◌∷◌, ◌++◌, length, get_or, ap, ◌∙◌, arith, rules}
use Rattle.conflict_proof.specs.declared.names.ConstraintName.{ConstraintName}
use Rattle.transfer_rules.specs.Names.{NamedClause}
use Rattle.transfer_rules.specs.Table.{no_name, rows, spread, IsGrown}
use Rattle.transfer_rules.proofs.TableLemmas.{length_append, rows_more}
use Rattle.transfer_rules.proofs.Spread.{spread_more, table_spread}
use Rattle.transfer_rules.proofs.table.ClauseTable.with.Goals as goal

pub invariant_of-result : goal.invariant_of-result
invariant_of-result c =
    let ns = c.self.inside.names.items in
    let os = c.self.inside.owners.items in
    let es = c.self.inside.ends.items in
    let ls = c.self.inside.lits.items in
    let cl = c.args.clause.now in
    let last : ℕ = length c.as_slice-last.result.now in
    let new = c.place_of.new.names.items in
    let e1 : c.extend_from_slice.new.self.items ≡ ls ++ cl = search rules in
    let e2 : c.push-2.new.self.items ≡ es ++ last ∷ [] = search rules in
    let e3 : c.push.new.self.items ≡ os ++ c.in_ok-owner.owner ∷ [] = search rules in
    let grown : IsGrown ns new = search rules in
    let is : get_or new c.in_ok-owner.owner no_name ≡ c.args.name = search rules in
    let lt : c.in_ok-owner.owner < length new = search rules in
    let long = length_append ls cl in
    let size : last ≡ length ls + length cl = omega (arith, ap length e1, ap length c.as_slice-last.ensures.value) in
    rw (e3, e2, e1) (table_spread ns new grown os es ls cl c.in_ok-owner.owner last c.args.name c.self.invariant is lt size)

pub returns : goal.returns
returns c =
    let ns = c.self.inside.names.items in
    let os = c.self.inside.owners.items in
    let es = c.self.inside.ends.items in
    let ls = c.self.inside.lits.items in
    let cl = c.args.clause.now in
    let last : ℕ = length c.as_slice-last.result.now in
    let new = c.place_of.new.names.items in
    let e1 : c.extend_from_slice.new.self.items ≡ ls ++ cl = search rules in
    let e2 : c.push-2.new.self.items ≡ es ++ last ∷ [] = search rules in
    let e3 : c.push.new.self.items ≡ os ++ c.in_ok-owner.owner ∷ [] = search rules in
    let grown : IsGrown ns new = search rules in
    let is : get_or new c.in_ok-owner.owner no_name ≡ c.args.name = search rules in
    let lt : c.in_ok-owner.owner < length new = search rules in
    let long = length_append ls cl in
    let size : last ≡ length ls + length cl = omega (arith, ap length e1, ap length c.as_slice-last.ensures.value) in
    let more = spread_more ns new grown os c.in_ok-owner.owner c.args.name c.self.invariant.places is in
    rw (e3, e2, e1) (ap (λ (xs : List ConstraintName). rows xs (es ++ last ∷ []) (ls ++ cl)) more
    ∙ rows_more (spread ns os) es ls c.args.name cl last c.self.invariant.table size ∙ ap (λ (rs : List NamedClause). rs ++ record { name = c.args.name; lits = cl } ∷ []) c.self.view_is)
