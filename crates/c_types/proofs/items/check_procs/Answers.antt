use Rattle.std.proofs.Common.{◌≡◌, ◌+◌, ◌<◌, ◌++◌, ◌&&◌, not, is_some, is_none, length, drop, map, sym, ap, ◌∙◌, arith, append_assoc}
use Rattle.std.proofs.lemmas.Grind.{common_steps}
use Rattle.c_tree.specs.View.{proc_view}
use Rattle.c_types.specs.Breaches.{soonest, sooner}
use Rattle.c_types.specs.Names.{has_name}
use Rattle.c_types.specs.Declarations.{with_body}
use Rattle.c_types.specs.Items.{proc_breaches, procs_breaches, proc_info, chosen, with_prototype, bodied_infos, external_infos}
use Rattle.c_types.proofs.Firsts.{sooner_right, sooner_assoc}
use Rattle.c_types.proofs.ItemRows.{procs_breaches_item, bodied_infos_item, external_infos_item}
use Rattle.c_types.proofs.items.check_procs.Goals as goal

pub returns-clause-first : goal.returns-clause-first
returns-clause-first c = grind (arith, common_steps, sooner_right, c.loop-i.invariant.first, c.loop-i-test.false)

pub loop-i-preserved : goal.loop-i-preserved
loop-i-preserved c =
    let tables = c.args.tables.now in
    let procs = c.args.procs.now in
    let i = c.loop-i.i in
    let p = c.index-procs-i.result in
    let bodied = c.loop-i.kept.bodied in
    let known = c.loop-i.kept.known in
    let within : i < length procs = omega (arith, c.loop-i-test.true) in
    let rest = map proc_view (drop (i + 1) procs) in
    let is_bodied = is_some p.body && not (has_name bodied p.name) in
    let is_external = is_none p.body && not (has_name known p.name) in
    let info = proc_info tables i (proc_view p) in
    let moved : c.check.new.self.bodied ≡ with_body bodied (proc_view p) = c.in_ok-found.ensures.bodied in
    let learnt : c.check.new.self.known ≡ with_prototype known (proc_view p) = c.in_ok-found.ensures.known in
    record {
      first =
          ap (λ o. sooner o (procs_breaches soonest tables c.check.new.self.bodied rest)) (c.sooner-first.ensures ∙ ap (sooner c.loop-i.first) c.in_ok-found.ensures.first)
          ∙ ap (λ b. sooner (sooner c.loop-i.first (proc_breaches soonest tables bodied (proc_view p))) (procs_breaches soonest tables b rest)) moved
          ∙ sooner_assoc c.loop-i.first (proc_breaches soonest tables bodied (proc_view p)) (procs_breaches soonest tables (with_body bodied (proc_view p)) rest)
          ∙ ap (sooner c.loop-i.first) (sym (procs_breaches_item tables procs i p within c.index-procs-i.is bodied))
          ∙ c.loop-i.invariant.first;
      infos =
          ap (λ xs. xs ++ bodied_infos tables c.check.new.self.bodied (i + 1) rest) c.in_ok-found.ensures.infos
          ∙ ap (λ b. (c.loop-i.kept.infos.items ++ chosen is_bodied info) ++ bodied_infos tables b (i + 1) rest) moved
          ∙ append_assoc c.loop-i.kept.infos.items (chosen is_bodied info) (bodied_infos tables (with_body bodied (proc_view p)) (i + 1) rest)
          ∙ ap (λ xs. c.loop-i.kept.infos.items ++ xs) (sym (bodied_infos_item tables procs i p within c.index-procs-i.is bodied))
          ∙ c.loop-i.invariant.infos;
      externals =
          ap (λ xs. xs ++ external_infos tables c.check.new.self.known (i + 1) rest) c.in_ok-found.ensures.externals
          ∙ ap (λ b. (c.loop-i.kept.externals.items ++ chosen is_external info) ++ external_infos tables b (i + 1) rest) learnt
          ∙ append_assoc c.loop-i.kept.externals.items (chosen is_external info) (external_infos tables (with_prototype known (proc_view p)) (i + 1) rest)
          ∙ ap (λ xs. c.loop-i.kept.externals.items ++ xs) (sym (external_infos_item tables procs i p within c.index-procs-i.is known))
          ∙ c.loop-i.invariant.externals;
    }
