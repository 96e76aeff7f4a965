use Rattle.std.proofs.Common.{◌+◌, ◌<◌, ◌^◌, ap, sym, subst, arith, List}
use Rattle.zo_core.specs.Literals.{Literal}
use Rattle.call_search.specs.Ledgers.{IsGiven}
use Rattle.call_search.proofs.Table.{own-fits, own-range, given_is}
use Rattle.call_search.proofs.Stated.{are_given}
use Rattle.call_search.proofs.fill.given_for.Goals as goal

pub overflow_add-before_own : goal.overflow_add-before_own
overflow_add-before_own g c =
    let lt : c.before_own.result + 1 < 2 ^ 32 = own-fits (g.G.Shapes.system c.args.groups.now) c.args.callee c.before_own.result (g.met.G.Shapes.shaped c.args.groups.now) c.requires.callee c.before_own.ensures in
    omega arith

pub state-requires-2-clause-range : goal.state-requires-2-clause-range
state-requires-2-clause-range g c = own-range (g.G.Shapes.system c.args.groups.now) c.args.callee c.before_own.result c.args.face.now (g.met.G.Shapes.shaped c.args.groups.now) c.requires.callee c.before_own.ensures c.requires.face

pub returns-clause-literals : goal.returns-clause-literals
returns-clause-literals g c =
    given_is (g.G.Shapes.system c.args.groups.now) c.args.phi.now c.args.callee c.args.face.now (c.before_own.result + 1) c.new-given.result.items c.state.new.out.items c.state-2.new.out.items c.new-given.ensures.items c.in_ok-state.ensures c.in_ok-state-2.ensures (ap (λ n. n + 1) c.before_own.ensures)

pub returns-clause-given : goal.returns-clause-given
returns-clause-given g c =
    subst (λ (ls : List Literal). IsGiven (g.G.Shapes.system c.args.groups.now) c.args.callee.group ls)
    (sym (given_is (g.G.Shapes.system c.args.groups.now) c.args.phi.now c.args.callee c.args.face.now (c.before_own.result + 1) c.new-given.result.items c.state.new.out.items c.state-2.new.out.items c.new-given.ensures.items c.in_ok-state.ensures c.in_ok-state-2.ensures (ap (λ n. n + 1) c.before_own.ensures)))
    (are_given (g.G.Shapes.system c.args.groups.now) c.args.phi.now c.args.callee c.args.face.now c.requires.callee c.requires.phi c.requires.face)
