use Rattle.std.proofs.Common.{◌≡◌, ◌+◌, ◌*◌, ◌<◌, ◌≤◌, ◌∙◌, sym, ap, subst, arith}
use Rattle.owner_vars.specs.Rows.{is_at}
use Rattle.owner_vars.specs.Tables.{Rows}
use Rattle.owner_vars.proofs.IndexLemmas.{from_is_in}
use Rattle.owner_vars.proofs.RowLemmas.{IsRange}
use Rattle.owner_vars.proofs.TableRows.{no_member_row, row_past, row_zero, row_some, row_fits}
use Rattle.owner_vars.proofs.numbering.Numbering.row.Goals as goal

pub returns-then-not-has : goal.returns-then-not-has
returns-then-not-has c =
    let r = no_member_row _ _ _ _ _ _ c.self.invariant _ c.self.view_is c.args.proc c.args.place c.no_numbers.result c.no_numbers.ensures (sym c.has.ensures ∙ c.if-not-has.true) in
    record { range = r.0; together = r.1 }

pub at-requires : goal.at-requires
at-requires c = from_is_in _ _ (sym c.has.ensures ∙ c.if-not-has.false)

pub index-rows-requires : goal.index-rows-requires
index-rows-requires c = omega (arith, c.at.ensures.within, c.self.invariant.rows_count, c.self.inside.rows.ok.0)

pub returns-then-place-rows : goal.returns-then-place-rows
returns-then-place-rows c =
    let past = let e = ap (λ (q : Rows). q.places) c.rows.view_is in let le = c.if-place-rows.true in subst (λ n. n ≤ c.args.place) e le in
    let r = row_past _ _ _ _ _ _ c.self.invariant _ c.self.view_is c.args.proc c.at.result (sym c.has.ensures ∙ c.if-not-has.false) c.at.ensures.place c.index-rows.result.now c.index-rows.ensures c.args.place past c.no_numbers-then-place-rows.result c.no_numbers-then-place-rows.ensures in
    record { range = r.0; together = r.1 }

pub returns-then-rows-eq0 : goal.returns-then-rows-eq0
returns-then-rows-eq0 c =
    let inside = subst (λ n. c.args.place < n) (ap (λ (q : Rows). q.places) c.rows.view_is) c.if-place-rows.false in
    let none = sym (ap (λ (q : Rows). q.width) c.rows.view_is) ∙ c.if-rows-eq0.true in
    let r = row_zero _ _ _ _ _ _ c.self.invariant _ c.self.view_is c.args.proc c.at.result (sym c.has.ensures ∙ c.if-not-has.false) c.at.ensures.place c.index-rows.result.now c.index-rows.ensures c.args.place inside none c.no_numbers-then-rows-eq0.result c.no_numbers-then-rows-eq0.ensures in
    record { range = r.0; together = r.1 }

pub overflow_cast-result : goal.overflow_cast-result
overflow_cast-result c =
    let inside = subst (λ n. c.args.place < n) (ap (λ (q : Rows). q.places) c.rows.view_is) c.if-place-rows.false in
    let some : c.index-rows.result.now.width ≡ 0 → ⊥ = λ e. c.if-rows-eq0.false (ap (λ (q : Rows). q.width) c.rows.view_is ∙ e) in
    let fits = subst (λ (q : Rows). q.before + c.args.place * q.width + q.width ≤ 8388608) (sym c.rows.view_is) (row_fits _ _ _ _ _ _ c.self.invariant _ c.self.view_is c.args.proc c.at.result (sym c.has.ensures ∙ c.if-not-has.false) c.at.ensures.place c.index-rows.result.now c.index-rows.ensures c.args.place inside some) in
    omega (arith, fits)

pub overflow_mul-result : goal.overflow_mul-result
overflow_mul-result c =
    let inside = subst (λ n. c.args.place < n) (ap (λ (q : Rows). q.places) c.rows.view_is) c.if-place-rows.false in
    let some : c.index-rows.result.now.width ≡ 0 → ⊥ = λ e. c.if-rows-eq0.false (ap (λ (q : Rows). q.width) c.rows.view_is ∙ e) in
    let fits = subst (λ (q : Rows). q.before + c.args.place * q.width + q.width ≤ 8388608) (sym c.rows.view_is) (row_fits _ _ _ _ _ _ c.self.invariant _ c.self.view_is c.args.proc c.at.result (sym c.has.ensures ∙ c.if-not-has.false) c.at.ensures.place c.index-rows.result.now c.index-rows.ensures c.args.place inside some) in
    omega (arith, fits)

pub overflow_add-result : goal.overflow_add-result
overflow_add-result c =
    let inside = subst (λ n. c.args.place < n) (ap (λ (q : Rows). q.places) c.rows.view_is) c.if-place-rows.false in
    let some : c.index-rows.result.now.width ≡ 0 → ⊥ = λ e. c.if-rows-eq0.false (ap (λ (q : Rows). q.width) c.rows.view_is ∙ e) in
    let fits = subst (λ (q : Rows). q.before + c.args.place * q.width + q.width ≤ 8388608) (sym c.rows.view_is) (row_fits _ _ _ _ _ _ c.self.invariant _ c.self.view_is c.args.proc c.at.result (sym c.has.ensures ∙ c.if-not-has.false) c.at.ensures.place c.index-rows.result.now c.index-rows.ensures c.args.place inside some) in
    omega (arith, fits)

pub overflow_add-result-2 : goal.overflow_add-result-2
overflow_add-result-2 c =
    let inside = subst (λ n. c.args.place < n) (ap (λ (q : Rows). q.places) c.rows.view_is) c.if-place-rows.false in
    let some : c.index-rows.result.now.width ≡ 0 → ⊥ = λ e. c.if-rows-eq0.false (ap (λ (q : Rows). q.width) c.rows.view_is ∙ e) in
    let fits = subst (λ (q : Rows). q.before + c.args.place * q.width + q.width ≤ 8388608) (sym c.rows.view_is) (row_fits _ _ _ _ _ _ c.self.invariant _ c.self.view_is c.args.proc c.at.result (sym c.has.ensures ∙ c.if-not-has.false) c.at.ensures.place c.index-rows.result.now c.index-rows.ensures c.args.place inside some) in
    omega (arith, fits)

pub returns : goal.returns
returns c =
    let inside = subst (λ n. c.args.place < n) (ap (λ (q : Rows). q.places) c.rows.view_is) c.if-place-rows.false in
    let some : c.index-rows.result.now.width ≡ 0 → ⊥ = λ e. c.if-rows-eq0.false (ap (λ (q : Rows). q.width) c.rows.view_is ∙ e) in
    let r = subst (λ (q : Rows). IsRange (is_at c.args.proc c.args.place) c.args.self.now (record { first = q.before + c.args.place * q.width + 1; count = q.width })) (sym c.rows.view_is)
    (row_some _ _ _ _ _ _ c.self.invariant _ c.self.view_is c.args.proc c.at.result (sym c.has.ensures ∙ c.if-not-has.false) c.at.ensures.place c.index-rows.result.now c.index-rows.ensures c.args.place inside some) in
    record { range = r.0; together = r.1 }
