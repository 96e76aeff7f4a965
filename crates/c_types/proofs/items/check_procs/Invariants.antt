use Rattle.std.proofs.Common.{◌≡◌, [], ◌++◌, drop, map}
use Rattle.c_tree.specs.View.{proc_view}
use Rattle.c_types.specs.Breaches.{soonest, sooner}
use Rattle.c_types.specs.Declarations.{with_bodies}
use Rattle.c_types.specs.Items.{procs_breaches, bodied_infos, external_infos}
use Rattle.c_types.proofs.items.check_procs.Given as goal

abbrev pub invariant-loop-i : goal.invariant-loop-i
invariant-loop-i l = record {
  first : sooner l.first (procs_breaches soonest l.tables l.kept.bodied (map proc_view (drop l.i l.procs))) ≡ procs_breaches soonest l.tables [] (map proc_view l.procs);
  infos : l.kept.infos.items ++ bodied_infos l.tables l.kept.bodied l.i (map proc_view (drop l.i l.procs)) ≡ bodied_infos l.tables [] 0 (map proc_view l.procs);
  externals : l.kept.externals.items ++ external_infos l.tables l.kept.known l.i (map proc_view (drop l.i l.procs)) ≡ external_infos l.tables (with_bodies [] (map proc_view l.procs)) 0 (map proc_view l.procs);
}
