use Rattle.std.proofs.Common.{◌+◌, List, [], ◌∷◌, ◌++◌, length, refl, ap, sym, arith, ◌∙◌}
use Rattle.zo_core.specs.Literals.{Literal}
use Rattle.lit_region.specs.Contents.{Contents, clause_at}
use Rattle.lit_region.proofs.Layouts.{used_words, used_places, few_places, clauses_in-push, put_parts, nonzero, clause_at-append}
use Rattle.lit_region.proofs.region.Region.put.Goals as goal

pub unwrap-requires : goal.unwrap-requires
unwrap-requires c =
    let used = used_words _ _ _ _ _ _ _ c.args.self.now c.self.invariant c.self.view_is in
    let size = ap (λ (r : Contents). r.size) c.self.view_is in
    let free = c.free_words.ensures.free in
    let room = c.self.invariant.lits_fit in
    let within = c.self.invariant.within in
    c.extend_from_slice.ensures.succeeds (omega arith)

pub unwrap-requires-2 : goal.unwrap-requires-2
unwrap-requires-2 c =
    let used = used_words _ _ _ _ _ _ _ c.args.self.now c.self.invariant c.self.view_is in
    let size = ap (λ (r : Contents). r.size) c.self.view_is in
    let free = c.free_words.ensures.free in
    let few = few_places _ _ _ _ _ _ _ c.args.self.now c.self.invariant in
    let within = c.self.invariant.within in
    let room = c.self.invariant.places_fit in
    let some = nonzero (length c.args.lits.now) (sym c.is_empty.ensures ∙ c.if-is_empty.false) in
    c.push.ensures.succeeds (omega arith)

pub overflow_cast-result : goal.overflow_cast-result
overflow_cast-result c =
    let used = used_words _ _ _ _ _ _ _ c.args.self.now c.self.invariant c.self.view_is in
    let size = ap (λ (r : Contents). r.size) c.self.view_is in
    let free = c.free_words.ensures.free in
    let few = few_places _ _ _ _ _ _ _ c.args.self.now c.self.invariant in
    let small = c.self.invariant.small in
    let within = c.self.invariant.within in
    let some = nonzero (length c.args.lits.now) (sym c.is_empty.ensures ∙ c.if-is_empty.false) in
    let pushed = rw c.unwrap-2.ensures at c.push.ensures.len in
    let now = c.len.ensures in
    omega arith

pub invariant_of-self : goal.invariant_of-self
invariant_of-self c =
    let used = used_words _ _ _ _ _ _ _ c.args.self.now c.self.invariant c.self.view_is in
    let size = ap (λ (r : Contents). r.size) c.self.view_is in
    let free = c.free_words.ensures.free in
    let within = c.self.invariant.within in
    rw (rw c.unwrap.ensures at c.extend_from_slice.ensures.items, rw c.unwrap.ensures at c.extend_from_slice.ensures.len, rw c.unwrap-2.ensures at c.push.ensures.items, rw c.unwrap-2.ensures at c.push.ensures.len)
    (put_parts _ _ _ _ _ _ _ c.self.invariant c.args.lits.now (record { start = c.len-start.result; len = length c.args.lits.now }) _ _
    (nonzero (length c.args.lits.now) (sym c.is_empty.ensures ∙ c.if-is_empty.false)) (omega arith) c.len-start.ensures refl c.extend_from_slice.ensures.capacity c.push.ensures.capacity)

pub returns-clause-put : goal.returns-clause-put
returns-clause-put c some = (
  c.len.ensures ∙ rw c.unwrap-2.ensures at c.push.ensures.len ∙ ap (λ n. n + 1) (used_places _ _ _ _ _ _ _ c.args.self.now c.self.invariant c.self.view_is),
  rw (rw c.unwrap.ensures at c.extend_from_slice.ensures.items, rw c.unwrap-2.ensures at c.push.ensures.items)
      (clauses_in-push c.self.inside.lits.items c.args.lits.now c.self.inside.places.items (record { start = c.len-start.result; len = length c.args.lits.now })
      (rw c.self.invariant.lits_count at c.self.invariant.laid) (c.len-start.ensures ∙ c.self.invariant.lits_count) refl
      ∙ ap (λ (r : Contents). r.clauses ++ c.args.lits.now ∷ []) c.self.view_is),
)

pub returns-clause-same : goal.returns-clause-same
returns-clause-same c at live =
    rw (rw c.unwrap.ensures at c.extend_from_slice.ensures.items, rw c.unwrap-2.ensures at c.push.ensures.items)
    (ap (λ (cs : List (List Literal)). clause_at cs at)
    (clauses_in-push c.self.inside.lits.items c.args.lits.now c.self.inside.places.items (record { start = c.len-start.result; len = length c.args.lits.now })
    (rw c.self.invariant.lits_count at c.self.invariant.laid) (c.len-start.ensures ∙ c.self.invariant.lits_count) refl
    ∙ ap (λ (r : Contents). r.clauses ++ c.args.lits.now ∷ []) c.self.view_is)
    ∙ clause_at-append c.args.self.now.clauses (c.args.lits.now ∷ []) at live)
