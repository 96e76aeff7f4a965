use Rattle.std.proofs.Common.{◌≡◌, List, take, ap, sym, arith, ◌∙◌}
use Rattle.std.proofs.lemmas.List.{take_all}
use Rattle.std.specs.Vec.{vec_len, vec_capacity}
use Rattle.lit_region.specs.Contents.{Contents, clause_at}
use Rattle.zo_core.specs.Literals.{Literal}
use Rattle.lit_region.specs.Places.{clauses_in, AreParts}
use Rattle.lit_region.proofs.Layouts.{used_places, cut_parts, clause_at-take}
use Rattle.lit_region.proofs.region.Region.release.Goals as goal

facts : (c : goal.After-truncate-then-count-len)
    → AreParts (take c.index.result.now.start c.self.inside.lits.items) (vec_len c.truncate.new.self) (vec_capacity c.self.inside.lits)
    (take c.to.inside.count c.self.inside.places.items) (vec_len c.truncate-then-count-len.new.self) (vec_capacity c.self.inside.places) c.self.inside.size
    × (clauses_in (take c.index.result.now.start c.self.inside.lits.items) (take c.to.inside.count c.self.inside.places.items) ≡ take c.to.inside.count (clauses_in c.self.inside.lits.items c.self.inside.places.items))
facts c =
    let count = c.self.invariant.places_count in
    cut_parts _ _ _ _ _ _ _ c.self.invariant c.to.inside.count c.index.result.now (omega arith) c.index.ensures _ _ c.truncate.ensures.len c.truncate-then-count-len.ensures.len

pub invariant_of-self : goal.invariant_of-self
invariant_of-self c =
    rw (c.truncate.ensures.items, c.truncate.ensures.capacity, c.truncate-then-count-len.ensures.items, c.truncate-then-count-len.ensures.capacity) (facts c).0

pub returns-then-count-len-clause-clauses : goal.returns-then-count-len-clause-clauses
returns-then-count-len-clause-clauses c =
    rw (c.truncate.ensures.items, c.truncate-then-count-len.ensures.items, ← c.to.view_is)
    ((facts c).1 ∙ ap (λ (r : Contents). take c.to.inside.count r.clauses) c.self.view_is)

pub returns-else-count-len-clause-clauses : goal.returns-else-count-len-clause-clauses
returns-else-count-len-clause-clauses c =
    let used = used_places _ _ _ _ _ _ _ c.args.self.now c.self.invariant c.self.view_is in
    let count = c.to.view_is in
    sym (take_all c.args.to c.args.self.now.clauses (omega arith))

pub returns-then-count-len-clause-same : goal.returns-then-count-len-clause-same
returns-then-count-len-clause-same c at live =
    let count = c.to.view_is in
    rw (c.truncate.ensures.items, c.truncate-then-count-len.ensures.items)
    (ap (λ (cs : List (List Literal)). clause_at cs at) ((facts c).1 ∙ ap (λ (r : Contents). take c.to.inside.count r.clauses) c.self.view_is)
    ∙ clause_at-take c.args.self.now.clauses c.to.inside.count at (omega arith))
