use Rattle.std.proofs.Common.{◌≡◌, ◌+◌, ◌<◌, ◌++◌, refl, sym, ◌∙◌, arith, ap, length, take, drop, append_assoc}
use Rattle.std.proofs.lemmas.Grind.{common_steps}
use Rattle.std.proofs.lemmas.List.{at_drop_all}
use Rattle.c_tree.specs.View.{stmt_view, stmts_view}
use Rattle.c_types.specs.declared.scope.Scope.{Scope}
use Rattle.c_types.specs.Stmts.{after, after_all, stmt_breaches, stmts_breaches, stmt_infos, stmts_infos}
use Rattle.c_types.specs.Breaches.{soonest, sooner}
use Rattle.c_types.proofs.Walks.{stmts_breaches_item, after_all_item, stmts_infos_item}
use Rattle.c_types.proofs.Firsts.{sooner_left, sooner_right, sooner_assoc}
use Rattle.c_types.proofs.Scopes.{keeps_visible_all}
use Rattle.c_types.proofs.stmts.+stmts.Goals as goal

pub check_stmts-loop-s-init : goal.check_stmts-loop-s-init
check_stmts-loop-s-init t c = record { first = sooner_left _; after = refl; nodes = refl }

pub check_stmts-returns-clause-first : goal.check_stmts-returns-clause-first
check_stmts-returns-clause-first t c = grind (arith, common_steps, sooner_right, c.loop-s.invariant.first, c.loop-s-test.false)

pub check_stmts-returns-clause-keeps : goal.check_stmts-returns-clause-keeps
check_stmts-returns-clause-keeps t c =
    let k = keeps_visible_all c.args.tables.now c.args.scope.now (stmts_view c.args.ss.now) in
    let a : c.loop-s.scope ≡ after_all c.args.tables.now c.args.scope.now (stmts_view c.args.ss.now) =
    sym (at_drop_all (λ xs. after_all c.args.tables.now c.loop-s.scope (stmts_view xs)) c.args.ss.now c.loop-s.s-index (grind (arith, common_steps, c.loop-s-test.false))) ∙ c.loop-s.invariant.after in
    ap (λ (s : Scope). take (length c.args.scope.now.visible) s.visible) a ∙ k

pub check_stmts-loop-s-preserved : goal.check_stmts-loop-s-preserved
check_stmts-loop-s-preserved t c =
    let tables = c.args.tables.now in
    let r = c.args.context.returned in
    let looped = c.args.context.looped in
    let ss = c.args.ss.now in
    let i = c.loop-s.s-index in
    let s = c.s-item.result in
    let within : i < length ss = omega (arith, c.loop-s-test.true) in
    let here = c.loop-s.scope in
    let then = after tables here (stmt_view s) in
    let rest = stmts_view (drop (i + 1) ss) in
    let moved : c.check_stmt.new.scope ≡ then = c.in_ok-found.ensures.after in
    record {
      first =
          ap (λ o. sooner o (stmts_breaches soonest tables r looped c.check_stmt.new.scope rest)) (c.sooner-first.ensures ∙ ap (sooner c.loop-s.first) c.in_ok-found.ensures.first)
          ∙ ap (λ x. sooner (sooner c.loop-s.first (stmt_breaches soonest tables r looped here (stmt_view s))) (stmts_breaches soonest tables r looped x rest)) moved
          ∙ sooner_assoc c.loop-s.first (stmt_breaches soonest tables r looped here (stmt_view s)) (stmts_breaches soonest tables r looped then rest)
          ∙ ap (sooner c.loop-s.first) (sym (stmts_breaches_item tables here ss i s within c.s-item.is r looped))
          ∙ c.loop-s.invariant.first;
      after = ap (λ x. after_all tables x rest) moved ∙ sym (after_all_item tables here ss i s within c.s-item.is) ∙ c.loop-s.invariant.after;
      nodes =
          ap (λ xs. xs ++ stmts_infos tables r c.check_stmt.new.scope rest) c.in_ok-found.ensures.nodes
          ∙ ap (λ x. (c.loop-s.nodes.items ++ stmt_infos tables r here (stmt_view s)) ++ stmts_infos tables r x rest) moved
          ∙ append_assoc c.loop-s.nodes.items (stmt_infos tables r here (stmt_view s)) (stmts_infos tables r then rest)
          ∙ ap (λ xs. c.loop-s.nodes.items ++ xs) (sym (stmts_infos_item tables here ss i s within c.s-item.is r))
          ∙ c.loop-s.invariant.nodes;
    }
