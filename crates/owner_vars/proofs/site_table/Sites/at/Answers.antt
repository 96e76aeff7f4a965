use Rattle.std.proofs.Common.{◌≡◌, ◌+◌, ◌<◌, ◌∙◌, List, ℕ, Some, length, get_or, ap, subst, sym, arith}
use Rattle.owner_vars.proofs.IndexLemmas.{from_is_in}
use Rattle.owner_vars.proofs.SiteLemmas.{no_member, no_place, there, nothing, number_small}
use Rattle.owner_vars.proofs.site_table.Sites.at.Goals as goal

pub returns-then-not-has : goal.returns-then-not-has
returns-then-not-has c = no_member _ _ _ c.self.invariant _ c.self.view_is c.args.proc c.args.place (sym c.has.ensures ∙ c.if-not-has.true)

pub at-requires : goal.at-requires
at-requires c = from_is_in _ _ (sym c.has.ensures ∙ c.if-not-has.false)

pub index-row-requires : goal.index-row-requires
index-row-requires c =
    let w = c.self.invariant.within c.args.proc (from_is_in _ _ (sym c.has.ensures ∙ c.if-not-has.false)) in
    omega (arith, w, c.at.ensures.place, c.self.inside.rows.ok.0)

pub returns-then-before-place : goal.returns-then-before-place
returns-then-before-place c =
    let row = c.index-row.result.now in
    let same = c.as_slice-before.ensures.value ∙ c.row.view_is in
    no_place _ _ _ c.self.invariant _ c.self.view_is c.args.proc c.at.result (from_is_in _ _ (sym c.has.ensures ∙ c.if-not-has.false)) c.at.ensures.place row c.index-row.ensures c.args.place
    (omega (arith, c.if-before-place.true, ap (λ (r : List ℕ). length r) same))

pub overflow_cast-result : goal.overflow_cast-result
overflow_cast-result c =
    let row = c.index-row.result.now in
    let same : c.as_slice-before.result.now ≡ row = c.as_slice-before.ensures.value ∙ c.row.view_is in
    let n = number_small _ _ _ c.self.invariant _ c.self.view_is c.args.proc c.at.result (from_is_in _ _ (sym c.has.ensures ∙ c.if-not-has.false)) c.at.ensures.place row c.index-row.ensures c.args.place
    (omega (arith, c.if-before-place.false, ap (λ (r : List ℕ). length r) same))
    (subst (λ (r : List ℕ). get_or r c.args.place 0 < get_or r (c.args.place + 1) 0) same c.if-first-before.true) in
    omega (arith, n, ap (λ (r : List ℕ). get_or r c.args.place 0) same)

pub returns-then-first-before : goal.returns-then-first-before
returns-then-first-before c =
    let row = c.index-row.result.now in
    let same : c.as_slice-before.result.now ≡ row = c.as_slice-before.ensures.value ∙ c.row.view_is in
    ap (λ (r : List ℕ). Some (get_or r c.args.place 0)) same
    ∙ there _ _ _ c.self.invariant _ c.self.view_is c.args.proc c.at.result (from_is_in _ _ (sym c.has.ensures ∙ c.if-not-has.false)) c.at.ensures.place row c.index-row.ensures c.args.place
    (omega (arith, c.if-before-place.false, ap (λ (r : List ℕ). length r) same))
    (subst (λ (r : List ℕ). get_or r c.args.place 0 < get_or r (c.args.place + 1) 0) same c.if-first-before.true)

pub returns-else-first-before : goal.returns-else-first-before
returns-else-first-before c =
    let row = c.index-row.result.now in
    let same : c.as_slice-before.result.now ≡ row = c.as_slice-before.ensures.value ∙ c.row.view_is in
    nothing _ _ _ c.self.invariant _ c.self.view_is c.args.proc c.at.result (from_is_in _ _ (sym c.has.ensures ∙ c.if-not-has.false)) c.at.ensures.place row c.index-row.ensures c.args.place
    (omega (arith, c.if-before-place.false, ap (λ (r : List ℕ). length r) same))
    (let le = c.if-first-before.false in omega (arith, le, ap (λ (r : List ℕ). get_or r c.args.place 0) same, ap (λ (r : List ℕ). get_or r (c.args.place + 1) 0) same))
