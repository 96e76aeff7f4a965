use Rattle.std.proofs.Common.{◌≡◌, ◌<◌, ◌∙◌, ◌||◌, false, length, ap, arith, length-set}
use Rattle.std.proofs.lemmas.List.{get_or_default}
use Rattle.flow_graph.specs.Paths.{edge_at}
use Rattle.path_facts.specs.Bits.{unreached_bit}
use Rattle.path_facts.specs.Progress.{is_pending}
use Rattle.path_facts.proofs.RowLemmas.{wide_has_bits, names_fit, edge_fits, edge_read, row_read, followed_work, followed}
use Rattle.path_facts.proofs.worklist.Worklist.follow.Goals as goal

pub pass-requires : goal.pass-requires
pass-requires c =
    let g = c.args.graph.now in
    let k = c.args.proc in
    let p = c.args.place in
    let i = c.args.number in
    let edge = edge_read g k p i _ c.index-edges_from-number.result c.edges_from.ensures c.index-edges_from-number.is c.requires.edge in
    let row = c.copy_from.ensures ∙ row_read c.args.self.now.rows.items p c.index.result.now c.index.ensures c.requires.place in
    record {
      bits = wide_has_bits g k c.args.tracks.now c.requires.tracks c.copy_from.new.self (ap length row ∙ c.requires.work.are_rows.widths p c.requires.place);
      names =
          rw edge
          (names_fit g k c.args.tracks.now c.requires.tracks (edge_at g k p i).action (edge_fits g k p i c.requires.graph c.requires.body c.requires.edge).action
          (λ r is. c.requires.tracks.all.results p i r c.requires.edge is));
      reached = ap unreached_bit row ∙ c.requires.reached;
    }

pub returns-clause-work : goal.returns-clause-work
returns-clause-work c =
    let g = c.args.graph.now in
    let k = c.args.proc in
    let e = c.index-edges_from-number.result in
    let edge = edge_read g k c.args.place c.args.number _ e c.edges_from.ensures c.index-edges_from-number.is c.requires.edge in
    let row = c.copy_from.ensures ∙ row_read c.args.self.now.rows.items c.args.place c.index.result.now c.index.ensures c.requires.place in
    let fits = (edge_fits g k c.args.place c.args.number c.requires.graph c.requires.body c.requires.edge).to in
    let count = c.requires.work.are_rows.count in
    let inside : e.to < length c.args.self.now.rows.items = rw edge (omega arith) in
    let to = row_read c.args.self.now.rows.items e.to c.index_mut.result.now c.index_mut.ensures.value inside in
    followed_work g k c.args.tracks.now c.requires.graph c.requires.body c.args.self.now.rows.items c.args.self.now.pending.items c.args.self.now.after c.requires.work
    c.args.place c.args.number c.requires.place c.requires.edge c.requires.reached e edge c.copy_from.new.self row c.index_mut.result.now to
    c.pass.new.row c.meet-changed.new.self c.pass.ensures c.meet-changed.ensures.bits c.meet-changed.ensures.len _
    (length-set c.args.self.now.pending.items e.to (c.index_mut-2.result.now || c.meet-changed.result))

pub returns-clause-followed : goal.returns-clause-followed
returns-clause-followed c =
    let g = c.args.graph.now in
    let k = c.args.proc in
    let e = c.index-edges_from-number.result in
    let edge = edge_read g k c.args.place c.args.number _ e c.edges_from.ensures c.index-edges_from-number.is c.requires.edge in
    let row = c.copy_from.ensures ∙ row_read c.args.self.now.rows.items c.args.place c.index.result.now c.index.ensures c.requires.place in
    let fits = (edge_fits g k c.args.place c.args.number c.requires.graph c.requires.body c.requires.edge).to in
    let count = c.requires.work.are_rows.count in
    let size = c.requires.work.pending_count in
    let inside : e.to < length c.args.self.now.rows.items = rw edge (omega arith) in
    let to = row_read c.args.self.now.rows.items e.to c.index_mut.result.now c.index_mut.ensures.value inside in
    let pending : c.index_mut-2.result.now ≡ is_pending c.args.self.now.pending.items e.to =
    c.index_mut-2.ensures.value ∙ get_or_default c.args.self.now.pending.items e.to c.index_mut-2.result.now false (omega arith) in
    rw pending
    (followed g k c.args.tracks.now c.requires.graph c.requires.body c.args.self.now.rows.items c.args.self.now.pending.items c.args.self.now.after c.requires.work
    c.args.place c.args.number c.requires.place c.requires.edge c.requires.reached e edge c.copy_from.new.self row c.index_mut.result.now to
    c.pass.new.row c.meet-changed.new.self c.pass.ensures c.meet-changed.ensures.bits c.meet-changed.ensures.len
    c.meet-changed.result c.meet-changed.ensures.same c.meet-changed.ensures.falls)
