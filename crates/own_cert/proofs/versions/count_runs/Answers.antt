use Rattle.std.proofs.Common.{◌≡◌, ◌∷◌, ◌∙◌, length, drop, suc, ap, sym, arith}
use Rattle.own_cert.specs.Text.{runs_of}
use Rattle.own_cert.specs.Runs.{more_of_run}
use Rattle.own_cert.proofs.HolderLemmas.{runs_counted}
use Rattle.own_cert.proofs.versions.count_runs.Goals as goal

pub loop-first-preserved : goal.loop-first-preserved
loop-first-preserved c =
    let l = c.loop-first in
    let first = c.in-Some.first.now in
    let more = c.in-Some.more.now in
    let rest = c.split_at.result.1.now in
    let whole : l.rest.now ≡ first ∷ more = c.in-Some.ensures.cases.0 in
    let after : rest ≡ drop (more_of_run first more) more = c.split_at.ensures.back ∙ ap (λ k. drop k more) c.more_of_run.ensures.count in
    let counted : length (runs_of l.rest.now) ≡ suc (length (runs_of rest)) = ap (λ w. length (runs_of w)) whole ∙ runs_counted first more ∙ ap (λ w. suc (length (runs_of w))) (sym after) in
    record { counted = omega (arith, l.invariant.counted, counted); within = omega (arith, l.invariant.within, c.split_at.ensures.back_len, c.in-Some.ensures.cases.1) }
