use Rattle.std.proofs.Common.{◌≡◌, ℕ, ◌+◌, ◌++◌, List, Some, length, get_or, take, replicate, slice_get, sym, ap, ◌∙◌, arith, subst}
use Rattle.std.proofs.lemmas.Option.{slice_get-get_or}
use Rattle.verdict_meaning.specs.Systems.{System}
use Rattle.verdict_meaning.specs.Certificates.{Spot, spots}
use Rattle.cert_checker.specs.declared.places.Place.{Place}
use Rattle.cert_checker.specs.Places.{spot_at}
use Rattle.cert_checker.proofs.ShapeLemmas.{due_member, due_at}
use Rattle.cert_checker.proofs.MarkLemmas.{one_more_place}
use Rattle.cert_checker.proofs.marks.push_place_lines.Goals as goal

pub width-requires-clause-member : goal.width-requires-clause-member
width-requires-clause-member g c =
    let d : Place = record { proc = 0; place = 0 } in
    due_member (g.G.Groups.system c.args.groups.now) c.args.group c.args.places.now c.requires.places c.loop-k.k (get_or c.args.places.now c.loop-k.k d)
    (slice_get-get_or c.args.places.now c.loop-k.k d c.loop-k-test.true)

pub loop-k-preserved : goal.loop-k-preserved
loop-k-preserved g c =
    let s : System = g.G.Groups.system c.args.groups.now in
    let d : Place = record { proc = 0; place = 0 } in
    let p : Place = get_or c.args.places.now c.loop-k.k d in
    one_more_place (λ (q : Spot). s.width q.proc) (spots s c.args.group) c.args.lines.now.items c.loop-k.lines.items c.push_copies.new.lines.items c.loop-k.k c.args.first c.in_ok-line.line (spot_at p)
    (due_at s c.args.group c.args.places.now c.requires.places c.loop-k.k p (slice_get-get_or c.args.places.now c.loop-k.k d c.loop-k-test.true))
    c.in_ok-line.ensures c.loop-k.invariant
    (c.in_ok-push_copies.ensures ∙ ap (λ (n : ℕ). c.loop-k.lines.items ++ replicate n c.in_ok-line.line) c.width.ensures)
