use Rattle.std.proofs.Common.{ℕ, refl, sym, subst, arith}
use Rattle.zo_solver.specs.Clauses.{AreWithin}
use Rattle.zo_solver.specs.Values.{assignment}
use Rattle.zo_solver.specs.Accounts.{AnswerMeans, IsRefuted, IsSatisfied}
use Rattle.group_solver.specs.Rows.{rows_in}
use Rattle.group_solver.proofs.Lists.{numbered_within}
use Rattle.group_solver.proofs.Solved.{ready, solved, solves, over}
use Rattle.group_solver.proofs.solving.answer.Goals as goal

pub solve-requires-clause-within : goal.solve-requires-clause-within
solve-requires-clause-within c = subst (λ (n : ℕ). AreWithin n c.args.given.now) (sym c.requires.begun.vars) c.requires.within

pub values-requires-clause-there : goal.values-requires-clause-there
values-requires-clause-there c = let a = c.requires.begun.vars in let b = c.solve.ensures.advances.vars in omega arith

pub refute-requires-clause-ready : goal.refute-requires-clause-ready
refute-requires-clause-ready c =
    ready (rows_in c.args.table.now) c.args.group c.args.vars c.args.vars c.args.ledger.now c.args.places.now.items c.args.solver.now c.solve.new.self c.requires.begun c.solve.ensures.advances c.requires.once

pub refute-requires-clause-some : goal.refute-requires-clause-some
refute-requires-clause-some c =
    let r : IsRefuted c.args.given.now c.solve.new.self c.in-Conflict.number = subst (AnswerMeans c.args.given.now c.solve.new.self) c.in-Conflict.is c.solve.ensures.answer in
    (numbered_within c.solve.new.self.lines c.in-Conflict.number r.clause r.clause_at).0

pub refute-requires-clause-there : goal.refute-requires-clause-there
refute-requires-clause-there c =
    let r : IsRefuted c.args.given.now c.solve.new.self c.in-Conflict.number = subst (AnswerMeans c.args.given.now c.solve.new.self) c.in-Conflict.is c.solve.ensures.answer in
    (numbered_within c.solve.new.self.lines c.in-Conflict.number r.clause r.clause_at).1

pub spend-requires-clause-ready : goal.spend-requires-clause-ready
spend-requires-clause-ready c =
    ready (rows_in c.args.table.now) c.args.group c.args.vars c.args.vars c.args.ledger.now c.args.places.now.items c.args.solver.now c.solve.new.self c.requires.begun c.solve.ensures.advances c.requires.once

pub returns-in_ok-bits-in-Sat : goal.returns-in_ok-bits-in-Sat
returns-in_ok-bits-in-Sat c s U is =
    let found : IsSatisfied c.args.given.now c.solve.new.self = subst (AnswerMeans c.args.given.now c.solve.new.self) c.in-Sat.is c.solve.ensures.answer in (
      refl,
      solved s U c.args.group c.args.vars (rows_in c.args.table.now) c.args.ledger.now is _ (assignment c.solve.new.self.values) c.in_ok-bits-in-Sat.ensures
          c.args.places.now.items c.args.solver.now c.solve.new.self c.requires.begun c.solve.ensures.advances refl c.args.given.now found c.requires.within c.requires.some,
    )

pub returns-in_ok-place-in-Conflict : goal.returns-in_ok-place-in-Conflict
returns-in_ok-place-in-Conflict c s U is =
    let r : IsRefuted c.args.given.now c.solve.new.self c.in-Conflict.number = subst (AnswerMeans c.args.given.now c.solve.new.self) c.in-Conflict.is c.solve.ensures.answer in
    (solves s U c.args.group c.args.vars (rows_in c.args.table.now) c.args.ledger.now is c.refute.new.ledger c.in_ok-place-in-Conflict.ensures.copied, c.in_ok-place-in-Conflict.ensures.denied c.args.given.now r)

pub returns-in_ok-line-in-Spent : goal.returns-in_ok-line-in-Spent
returns-in_ok-line-in-Spent c s U is = (
  solves s U c.args.group c.args.vars (rows_in c.args.table.now) c.args.ledger.now is c.spend.new.ledger c.in_ok-line-in-Spent.ensures.copied,
  over s U c.args.group c.args.vars (rows_in c.args.table.now) c.args.ledger.now is c.spend.new.ledger c.in_ok-line-in-Spent.ensures.copied c.in_ok-line-in-Spent.line c.in_ok-line-in-Spent.ensures.next,
)
