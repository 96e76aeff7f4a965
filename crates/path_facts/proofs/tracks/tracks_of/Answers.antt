use Rattle.std.proofs.Common.{List, Bool, length, subst, ap, arith}
use Rattle.path_facts.specs.Tracks.{AreTracksOf}
use Rattle.path_facts.proofs.TrackLemmas.{slots_small, tracks_fit}
use Rattle.path_facts.proofs.tracks.tracks_of.Goals as goal

pub numbered-requires : goal.numbered-requires
numbered-requires c =
    let small = slots_small c.args.graph.now c.args.proc c.requires.graph c.requires.body in
    omega (arith, c.in_ok-marks.ensures.size, ap (λ (bs : List Bool). length bs) c.as_slice.ensures.value)

pub returns : goal.returns
returns c =
    tracks_fit c.args.graph.now c.args.proc c.in_ok-marks.marks.items c.in_ok-tracks.tracks.items c.in_ok-marks.ensures
    (subst (λ bs. AreTracksOf bs c.in_ok-tracks.tracks.items) c.as_slice.ensures.value c.in_ok-tracks.ensures)
