use Rattle.std.proofs.Common.{ℕ, ◌<◌, ◌+◌, ◌≤◌, length, arith, subst, sym, below_more}
use Rattle.cert_checker.proofs.ShapeLemmas.{rows_first, rows_short, rows_none}
use Rattle.cert_checker.proofs.places.rows_fault.Goals as goal

pub returns-then-not-is_due : goal.returns-then-not-is_due
returns-then-not-is_due g c =
    rows_first (g.G.Groups.system c.args.groups.now) c.args.group c.args.due.now c.args.rows.now c.requires.due c.loop-k.k c.loop-k.invariant c.if-not-is_due.ensures

pub loop-k-preserved : goal.loop-k-preserved
loop-k-preserved g c = below_more _ _ c.loop-k.invariant c.if-not-is_due.ensures

pub returns-then-rows-due : goal.returns-then-rows-due
returns-then-rows-due g c =
    rows_short (g.G.Groups.system c.args.groups.now) c.args.group c.args.due.now c.args.rows.now c.requires.due c.loop-k.k c.loop-k-test.false c.loop-k.invariant c.if-rows-due.true

pub returns : goal.returns
returns g c =
    rows_none (g.G.Groups.system c.args.groups.now) c.args.group c.args.due.now c.args.rows.now c.requires.due c.loop-k.k c.loop-k-test.false c.loop-k.invariant c.if-rows-due.false
