use Rattle.std.proofs.Common.{refl, sym, ◌∙◌, arith}
use Rattle.zo_solver.proofs.Searching.{on-same, denied-on, holds_against, turned_reason, in_order}
use Rattle.zo_solver.proofs.search.Search.one_back.Goals as goal

pub returns-then-not-is_in : goal.returns-then-not-is_in
returns-then-not-is_in c = (
  on-same c.args.self.now _ c.requires.whole (record { vars = refl; given = refl; lines = refl; trail_room = omega arith; made_room = omega arith }) refl refl,
  denied-on c.args.self.now c.args.mark.lit c.args.now c.clause.result.now c.requires.now c.clause.ensures (rw c.negated.ensures at (sym c.is_in.ensures ∙ c.if-not-is_in.true)),
)

pub resolve_sources-requires-clause-held : goal.resolve_sources-requires-clause-held
resolve_sources-requires-clause-held c =
    holds_against c.args.self.now c.args.mark.lit c.args.now c.clause.result.now c.clause.ensures (rw c.negated.ensures at (sym c.is_in.ensures ∙ c.if-not-is_in.false))

pub returns-in-Guess : goal.returns-in-Guess
returns-in-Guess c =
    record {
      guess = c.in-Guess.is;
      marked = rw c.negated-in-Guess.ensures at c.mark.ensures;
      reason = turned_reason c.args.self.now c.args.mark.lit c.args.now c.requires.now
          (holds_against c.args.self.now c.args.mark.lit c.args.now c.clause.result.now c.clause.ensures (rw c.negated.ensures at (sym c.is_in.ensures ∙ c.if-not-is_in.false)));
    }

pub is_in-requires : goal.is_in-requires
is_in-requires c = in_order c.args.self.now c.args.now c.clause.result.now c.requires.whole c.clause.ensures
