use Rattle.std.proofs.Common.{◌≡◌, ℕ, List, Some, refl, ap, ◌∙◌, arith}
use Rattle.zo_core.specs.Literals.{Literal}
use Rattle.zo_core.specs.Order.{Ascends}
use Rattle.zo_core.proofs.Merging.{joined-ascends}
use Rattle.zo_solver.specs.Clauses.{numbered}
use Rattle.zo_solver.specs.Trail.{IsClauseOver, IsWhole}
use Rattle.zo_solver.specs.declared.search.Search.{Search}
use Rattle.zo_solver.specs.declared.answers.Origin.TheVariants.{Resolved}
use Rattle.zo_solver.proofs.Growing.{each_clause-at, clause-few, made}
use Rattle.zo_solver.proofs.Searching.{on-same, on-push, last-line, joined_is}
use Rattle.zo_solver.proofs.search.Search.resolve.Goals.{After-resolve_into}
use Rattle.zo_solver.proofs.search.Search.resolve.Goals as goal

-- a line's literals are in order
ordered : (s : Search) (n : ℕ) (c : List Literal) → IsWhole s → numbered s.lines.clauses n ≡ Some c → Ascends 0 c
ordered s n c w at = (each_clause-at (IsClauseOver s.vars) s.lines.clauses n c w.lines at).0

pub resolve_into-requires-clause-first : goal.resolve_into-requires-clause-first
resolve_into-requires-clause-first c = ordered c.args.self.now c.args.first c.get.result.now c.requires.whole c.get.ensures

pub resolve_into-requires-clause-second : goal.resolve_into-requires-clause-second
resolve_into-requires-clause-second c = ordered c.args.self.now c.args.second c.get-2.result.now c.requires.whole c.get-2.ensures

pub resolve_into-requires-clause-room : goal.resolve_into-requires-clause-room
resolve_into-requires-clause-room c =
    let a = clause-few c.args.self.now.vars c.get.result.now (each_clause-at (IsClauseOver c.args.self.now.vars) c.args.self.now.lines.clauses c.args.first c.get.result.now c.requires.whole.lines c.get.ensures) in
    let b = clause-few c.args.self.now.vars c.get-2.result.now (each_clause-at (IsClauseOver c.args.self.now.vars) c.args.self.now.lines.clauses c.args.second c.get-2.result.now c.requires.whole.lines c.get-2.ensures) in
    let room = c.requires.whole.made_room in
    omega arith

pub returns-in-Some : goal.returns-in-Some
returns-in-Some c =
    let s = c.args.self.now in
    let p = c.requires.pair in
    let e = joined_is s c.args.lit c.args.first c.args.second p c.get.result.now c.get-2.result.now c.resolve_into.new.made.items c.resolve_into.result c.get.ensures c.get-2.ensures c.resolve_into.ensures.items in
    let m = made s c.args.lit c.args.first c.args.second p c.requires.whole c.resolve_into.new.made.items e in
    let cap = c.resolve_into.ensures.room in (
      on-same s _ c.requires.whole (record { vars = refl; given = refl; lines = refl; trail_room = omega arith; made_room = omega arith }) refl refl,
      record { clause = c.resolve_into.new.made.items; clause_at = c.in-Some.ensures.some ∙ ap Some c.as_slice-made.ensures.value; denied = m.denied },
    )

pub returns-then-push : goal.returns-then-push
returns-then-push c =
    let s = c.args.self.now in
    let p = c.requires.pair in
    let e = joined_is s c.args.lit c.args.first c.args.second p c.get.result.now c.get-2.result.now c.resolve_into.new.made.items c.resolve_into.result c.get.ensures c.get-2.ensures c.resolve_into.ensures.items in
    let m = made s c.args.lit c.args.first c.args.second p c.requires.whole c.resolve_into.new.made.items e in
    let cap = c.resolve_into.ensures.room in
    let is : c.as_slice-made.result.now ≡ c.resolve_into.new.made.items = c.as_slice-made.ensures.value in
    let clauses = rw is at (c.push.ensures.clauses c.if-push.true) in (
      on-push s _ c.resolve_into.new.made.items (Resolved c.args.first c.args.second) c.requires.whole (
          record {
            vars = refl;
            given = refl;
            values = refl;
            trail = refl;
            made_room = cap;
            clauses = clauses;
            origins = c.push.ensures.origins c.if-push.true;
            words = rw is at (c.push.ensures.words c.if-push.true);
            count = c.len-number.ensures.origins;
            over = (joined-ascends c.args.lit p.a p.b c.resolve_into.new.made.items (ordered c.args.self.now c.args.first p.a c.requires.whole p.a_at) (ordered c.args.self.now c.args.second p.b c.requires.whole p.b_at) e, m.over);
            origin_true = m.resolved;
            not_lemma = λ e. cc;
          }),
      record { clause = c.resolve_into.new.made.items; clause_at = last-line s.lines.clauses c.push.new.self.clauses c.resolve_into.new.made.items c.len-number.result clauses c.len-number.ensures.len; denied = m.denied },
    )

pub returns : goal.returns
returns c =
    let s = c.args.self.now in
    let p = c.requires.pair in
    let e = joined_is s c.args.lit c.args.first c.args.second p c.get.result.now c.get-2.result.now c.resolve_into.new.made.items c.resolve_into.result c.get.ensures c.get-2.ensures c.resolve_into.ensures.items in
    let m = made s c.args.lit c.args.first c.args.second p c.requires.whole c.resolve_into.new.made.items e in
    let cap = c.resolve_into.ensures.room in
    let full = c.push.ensures.full c.if-push.false in
    let is : c.as_slice-made.result.now ≡ c.resolve_into.new.made.items = c.as_slice-made.ensures.value in (
      on-same s _ c.requires.whole (record { vars = refl; given = refl; lines = full.0; trail_room = omega arith; made_room = cap }) refl refl,
      record {
        origin = Resolved c.args.first c.args.second;
        origin_is = refl;
        no_lemma = λ e. cc;
        origin_true = rw full.0 m.resolved;
        is_new = rw full.0 (rw is at c.in_default.ensures.none);
        cost = rw full.0 (rw is at full.1);
      },
    )
