use Rattle.std.proofs.Common.{◌≡◌, ℕ, ◌+◌, ◌++◌, Bool, List, Some, length, map, get_or, take, slice_get, sym, ap, ◌∙◌, subst, arith}
use Rattle.std.proofs.lemmas.List.{length-map}
use Rattle.std.proofs.lemmas.Option.{slice_get-get_or}
use Rattle.conflict_proof.specs.declared.names.ConstraintName.{ConstraintName}
use Rattle.transfer_rules.specs.Names.{NamedClause}
use Rattle.verdict_meaning.specs.Systems.{System}
use Rattle.verdict_meaning.specs.Certificates.{Spot, bit_at, spots}
use Rattle.cert_checker.specs.declared.places.Place.{Place}
use Rattle.cert_checker.specs.Places.{spot_at}
use Rattle.cert_checker.specs.Tables.{line_in, IsFalseRun, IsFalseAmong}
use Rattle.cert_checker.specs.Finding.{IsFirstBelow}
use Rattle.cert_checker.proofs.ShapeLemmas.{due_member, due_place, due_at}
use Rattle.cert_checker.proofs.BrokenLemmas.{no_places, one_more_place, all_places}
use Rattle.cert_checker.proofs.broken.false_in.Goals as goal

pub clauses_at-requires-clause-member : goal.clauses_at-requires-clause-member
clauses_at-requires-clause-member g c =
    let d : Place = record { proc = 0; place = 0 } in
    due_member (g.G.Groups.system c.args.groups.now) c.args.group c.args.places.now c.requires.places c.loop-k.k (get_or c.args.places.now c.loop-k.k d)
    (slice_get-get_or c.args.places.now c.loop-k.k d c.loop-k-test.true)

pub clauses_at-requires-clause-place : goal.clauses_at-requires-clause-place
clauses_at-requires-clause-place g c =
    let d : Place = record { proc = 0; place = 0 } in
    due_place (g.G.Groups.system c.args.groups.now) c.args.group c.args.places.now c.requires.places c.loop-k.k (get_or c.args.places.now c.loop-k.k d)
    (slice_get-get_or c.args.places.now c.loop-k.k d c.loop-k-test.true)

pub loop-k-preserved : goal.loop-k-preserved
loop-k-preserved g c =
    let s : System = g.G.Groups.system c.args.groups.now in
    let U : ConstraintName → Bool = g.G.Groups.scope c.args.groups.now in
    let names : Spot → List ConstraintName = g.G.Groups.names c.args.groups.now c.args.group in
    let m = c.args.marks.now in
    let value : ℕ → Bool = bit_at (c.args.phi.now ++ m.bits.items) in
    let line : ℕ → ℕ = line_in m.fields m.lines.items m.after in
    let d : Place = record { proc = 0; place = 0 } in
    let p : Place = get_or c.args.places.now c.loop-k.k d in
    let ps : List Spot = spots s c.args.group in
    subst (IsFirstBelow c.args.bound (IsFalseAmong s U c.args.group names (take (c.loop-k.k + 1) ps) value line)) (sym c.earliest-found.ensures)
    (one_more_place s U c.args.group names value line c.args.bound ps c.loop-k.k (spot_at p)
    (due_at s c.args.group c.args.places.now c.requires.places c.loop-k.k p (slice_get-get_or c.args.places.now c.loop-k.k d c.loop-k-test.true))
    c.loop-k.found c.first_false-line.result c.loop-k.invariant
    (subst (λ (rs : List NamedClause). IsFirstBelow c.args.bound (IsFalseRun rs value line) c.first_false-line.result) c.in_ok-table.ensures c.first_false-line.ensures))

pub returns : goal.returns
returns g c =
    let s : System = g.G.Groups.system c.args.groups.now in
    let m = c.args.marks.now in
    let ps : List Spot = spots s c.args.group in
    let count : length ps ≡ length c.args.places.now = ap length (sym c.requires.places) ∙ length-map c.args.places.now spot_at in
    all_places s (g.G.Groups.scope c.args.groups.now) c.args.group (g.G.Groups.names c.args.groups.now c.args.group)
    (bit_at (c.args.phi.now ++ m.bits.items)) (line_in m.fields m.lines.items m.after) c.args.bound ps c.loop-k.k c.loop-k.found (omega (arith, count)) c.loop-k.invariant
