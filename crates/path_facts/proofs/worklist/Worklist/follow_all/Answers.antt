use Rattle.std.proofs.Common.{◌≡◌, length, ap, arith}
use Rattle.flow_graph.specs.FlowGraph.{edges_from}
use Rattle.path_facts.proofs.RowLemmas.{followed_none, followed_more, still_reached}
use Rattle.path_facts.proofs.worklist.Worklist.follow_all.Goals as goal

pub edges-init : goal.edges-init
edges-init c = record {
  work = c.requires.work;
  followed = followed_none c.args.graph.now c.args.proc c.args.tracks.now c.args.place c.args.self.now.rows.items c.args.self.now.pending.items;
}

pub follow-changed-requires : goal.follow-changed-requires
follow-changed-requires c =
    let before = c.requires.work.are_rows.count in
    let now = c.edges.invariant.work.are_rows.count in
    let place = c.requires.place in
    let edges = ap length c.edges_from-count.ensures in
    record {
      graph = c.requires.graph;
      body = c.requires.body;
      tracks = c.requires.tracks;
      work = c.edges.invariant.work;
      place = omega arith;
      edge = omega arith;
      reached = still_reached _ _ _ _ c.args.place c.edges.invariant.followed.moves c.requires.reached;
    }

pub edges-preserved : goal.edges-preserved
edges-preserved c = record {
  work = c.follow-changed.ensures.work;
  followed = followed_more c.args.graph.now c.args.proc c.args.tracks.now c.args.place c.edges.number _ _ _ _ _ _ _ _ c.edges.invariant.followed c.follow-changed.ensures.followed;
}

pub returns : goal.returns
returns c =
    let edges = ap length c.edges_from-count.ensures in
    let all : length (edges_from c.args.graph.now c.args.proc c.args.place) ≡ c.edges.number = omega arith in
    rw all (record { work = c.edges.invariant.work; followed = c.edges.invariant.followed })
