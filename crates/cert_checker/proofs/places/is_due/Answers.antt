use Rattle.std.proofs.Common.{◌≡◌, ℕ, ◌+◌, ◌<◌, ◌≤◌, Bool, true, false, Some, length, get_or, slice_get, refl, sym, ap, ◌∙◌, subst, arith, rules}
use Rattle.std.proofs.lemmas.Option.{slice_get_read, slice_get-get_or}
use Rattle.own_cert.specs.declared.certificate.PlaceBits.{PlaceBits}
use Rattle.cert_checker.specs.declared.places.Place.{Place}
use Rattle.cert_checker.proofs.ShapeLemmas.{past_wrong, other_wrong, due_member, width_test}
use Rattle.cert_checker.proofs.places.is_due.Goals as goal

pub returns-then-k-due : goal.returns-then-k-due
returns-then-k-due g c =
    past_wrong (g.G.Groups.system c.args.groups.now) c.args.group c.args.due.now c.args.rows.now c.requires.due c.args.k c.index-rows-k.result
    (slice_get_read c.args.rows.now (length c.args.rows.now) c.args.k c.index-rows-k.result refl c.requires.within c.index-rows-k.is) c.if-k-due.true

pub returns-then-place-row : goal.returns-then-place-row
returns-then-place-row g c =
    let d : Place = record { proc = 0; place = 0 } in
    other_wrong (g.G.Groups.system c.args.groups.now) c.args.group c.args.due.now c.args.rows.now c.requires.due c.args.k c.index-rows-k.result (get_or c.args.due.now c.args.k d)
    (slice_get_read c.args.rows.now (length c.args.rows.now) c.args.k c.index-rows-k.result refl c.requires.within c.index-rows-k.is)
    (slice_get-get_or c.args.due.now c.args.k d c.if-k-due.false)
    (λ e f. c.if-place-row.true (e ∙ sym (ap (λ (r : PlaceBits). r.proc) c.row.view_is)))

pub returns-then-place-row-2 : goal.returns-then-place-row-2
returns-then-place-row-2 g c =
    let d : Place = record { proc = 0; place = 0 } in
    other_wrong (g.G.Groups.system c.args.groups.now) c.args.group c.args.due.now c.args.rows.now c.requires.due c.args.k c.index-rows-k.result (get_or c.args.due.now c.args.k d)
    (slice_get_read c.args.rows.now (length c.args.rows.now) c.args.k c.index-rows-k.result refl c.requires.within c.index-rows-k.is)
    (slice_get-get_or c.args.due.now c.args.k d c.if-k-due.false)
    (λ e f. c.if-place-row-2.true (f ∙ sym (ap (λ (r : PlaceBits). r.place) c.row.view_is)))

pub width-requires-clause-member : goal.width-requires-clause-member
width-requires-clause-member g c =
    let d : Place = record { proc = 0; place = 0 } in
    due_member (g.G.Groups.system c.args.groups.now) c.args.group c.args.due.now c.requires.due c.args.k (get_or c.args.due.now c.args.k d) (slice_get-get_or c.args.due.now c.args.k d c.if-k-due.false)

pub returns : goal.returns
returns g c =
    let d : Place = record { proc = 0; place = 0 } in
    let long : c.len.result ≡ length c.index-rows-k.result.bits = search rules in
    width_test (g.G.Groups.system c.args.groups.now) c.args.group c.args.due.now c.args.rows.now c.requires.due c.args.k c.index-rows-k.result (get_or c.args.due.now c.args.k d)
    (slice_get_read c.args.rows.now (length c.args.rows.now) c.args.k c.index-rows-k.result refl c.requires.within c.index-rows-k.is)
    (slice_get-get_or c.args.due.now c.args.k d c.if-k-due.false)
    (c.if-place-row.false ∙ ap (λ (r : PlaceBits). r.proc) c.row.view_is)
    (c.if-place-row-2.false ∙ ap (λ (r : PlaceBits). r.place) c.row.view_is)
    c.len.result c.width.result long c.width.ensures
