use Rattle.std.proofs.Common.{◌≡◌, ◌+◌, ◌<◌, ◌++◌, ◌||◌, length, drop, slice_get, refl, sym, ap, ap₂, ◌∙◌, arith, append_assoc}
use Rattle.std.proofs.lemmas.Grind.{common_steps}
use Rattle.c_tree.specs.View.{expr_view, exprs_view}
use Rattle.c_types.specs.Breaches.{soonest, sooner}
use Rattle.c_types.specs.Types.{wanted_for}
use Rattle.c_types.specs.Exprs.{operand_of, breaches, infos, is_misfit, misfits, args_breaches, args_infos}
use Rattle.c_types.proofs.Firsts.{sooner_left, sooner_right, sooner_assoc}
use Rattle.c_types.proofs.Walks.{any_left-drop, misfits_item, args_breaches_item, args_infos_item, or_assoc}
use Rattle.c_types.proofs.exprs.+check.Goals as goal

pub check_args-loop-i-init : goal.check_args-loop-i-init
check_args-loop-i-init t c = record { misfit = refl; first = sooner_left _; nodes = refl }

pub check_args-returns-clause-first : goal.check_args-returns-clause-first
check_args-returns-clause-first t c = grind (arith, common_steps, sooner_right, c.loop-i.invariant.first, c.loop-i-test.false)

pub check_args-returns-clause-misfit : goal.check_args-returns-clause-misfit
check_args-returns-clause-misfit t c = grind (arith, common_steps, any_left-drop, c.loop-i.invariant.misfit, c.loop-i-test.false)

pub check_args-loop-i-preserved : goal.check_args-loop-i-preserved
check_args-loop-i-preserved t c =
    let tables = c.args.tables.now in
    let scope = c.args.scope.now in
    let params = c.args.params.now in
    let es = c.args.es.now in
    let i = c.loop-i.i in
    let e = c.index-es-i.result in
    let rest = misfits tables scope (drop (i + 1) params) (exprs_view (drop (i + 1) es)) in
    let later = args_breaches soonest tables scope (drop (i + 1) params) (exprs_view (drop (i + 1) es)) in
    let more = args_infos tables scope (drop (i + 1) params) (exprs_view (drop (i + 1) es)) in
    let within : i < length es = omega (arith, c.loop-i-test.true) in
    let wanted : c.of_type.result ≡ wanted_for (slice_get params i) = c.of_type.ensures ∙ ap wanted_for c.param_at-param.ensures in
    record {
      misfit =
          ap (λ b. b || rest) (c.either-misfit.ensures ∙ ap (λ b. c.loop-i.misfit || b) (c.is_misfit.ensures ∙ ap₂ is_misfit c.param_at-param.ensures c.in_ok-seen.ensures.operand))
          ∙ or_assoc c.loop-i.misfit (is_misfit (slice_get params i) (operand_of tables scope (expr_view e))) rest
          ∙ ap (λ b. c.loop-i.misfit || b) (sym (misfits_item tables scope params es i e within c.index-es-i.is))
          ∙ c.loop-i.invariant.misfit;
      first =
          ap (λ o. sooner o later) (c.sooner-first.ensures ∙ ap (sooner c.loop-i.first) (c.in_ok-seen.ensures.first ∙ ap (λ w. breaches soonest tables scope w (expr_view e)) wanted))
          ∙ sooner_assoc c.loop-i.first (breaches soonest tables scope (wanted_for (slice_get params i)) (expr_view e)) later
          ∙ ap (sooner c.loop-i.first) (sym (args_breaches_item tables scope params es i e within c.index-es-i.is))
          ∙ c.loop-i.invariant.first;
      nodes =
          ap (λ xs. xs ++ more) (c.in_ok-seen.ensures.nodes ∙ ap (λ w. c.loop-i.nodes.items ++ infos tables scope w (expr_view e)) wanted)
          ∙ append_assoc c.loop-i.nodes.items (infos tables scope (wanted_for (slice_get params i)) (expr_view e)) more
          ∙ ap (λ xs. c.loop-i.nodes.items ++ xs) (sym (args_infos_item tables scope params es i e within c.index-es-i.is))
          ∙ c.loop-i.invariant.nodes;
    }
