use Rattle.std.proofs.Common.{◌≡◌, ◌+◌, ◌-◌, ◌++◌, length, ap, ◌∙◌, arith}
use Rattle.owner_vars.specs.Unknowns.{gather}
use Rattle.annotate.specs.Annotation.{extern_line}
use Rattle.annotate.proofs.TextRows.{gather_more}
use Rattle.annotate.proofs.heads.put_externs.Goals as goal

pub loop-after-preserved : goal.loop-after-preserved
loop-after-preserved c =
    let t = c.args.source.now.typed.now in
    let g = c.args.source.now.graph.now in
    let n = c.loop-after.after in
    gather_more n (λ j. extern_line t g (g.bodies + j)) c.args.out.now.items c.loop-after.out.items c.put_extern.new.out.items _ c.loop-after.invariant c.in_ok-put_extern.ensures
    (ap (λ b. extern_line t g (b + n)) c.bodies-bodies.ensures.count)

pub returns : goal.returns
returns c =
    let t = c.args.source.now.typed.now in
    let g = c.args.source.now.graph.now in
    let end : c.loop-after.after ≡ length g.procs - g.bodies =
    omega (arith, c.loop-after-test.false, c.loop-after.auto.after-end, c.procs.ensures.count, c.bodies-bodies.ensures.count) in
    c.loop-after.invariant ∙ ap (λ n. c.args.out.now.items ++ gather n (λ j. extern_line t g (g.bodies + j))) end
