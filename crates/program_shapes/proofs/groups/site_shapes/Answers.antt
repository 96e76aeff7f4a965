use Rattle.std.proofs.Common.{◌≡◌, ℕ, length, refl, subst, arith}
use Rattle.program_shapes.specs.Tables.{AreSitesOf}
use Rattle.program_shapes.proofs.Sums.{no_call, sites_next, sum_next}
use Rattle.program_shapes.proofs.groups.site_shapes.Goals as goal

pub loop-call-preserved : goal.loop-call-preserved
loop-call-preserved c =
    let next = sum_next c.loop-call.call-index c.args.calls.now no_call c.loop-call-test.true in
    let was = c.loop-call.invariant.before in
    let more = c.in_ok-before.ensures in
    record {
      sites = sites_next c.args.outer c.loop-call.call-index c.loop-call.before c.args.calls.now c.loop-call.sites.items c.push.new.self.items no_call _ c.loop-call-test.true refl refl was c.in_ok-push.ensures.items c.loop-call.invariant.sites;
      before = omega arith;
    }

pub returns : goal.returns
returns c =
    let low = c.loop-call-test.false in
    let high = c.loop-call.auto.call-index-end in
    let all : c.loop-call.call-index ≡ length c.args.calls.now = omega arith in
    subst (λ (n : ℕ). AreSitesOf c.args.outer n c.args.calls.now c.loop-call.sites.items) all c.loop-call.invariant.sites
