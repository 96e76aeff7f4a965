use Rattle.std.proofs.Common.{◌≡◌, ℕ, length, replicate, refl, arith, ap, sym, subst}
use Rattle.flow_graph.specs.FlowGraph.{flow_of}
use Rattle.path_facts.specs.Tracks.{track_count}
use Rattle.path_facts.specs.Bits.{row_words}
use Rattle.path_facts.specs.Progress.{IsEmptyBetween}
use Rattle.path_facts.proofs.RowLemmas.{wide_has_bits}
use Rattle.path_facts.proofs.StartLemmas.{none_between, more_between, between_start}
use Rattle.path_facts.proofs.TrackLemmas.{params_fit, slots_small}
use Rattle.path_facts.proofs.start.start_row.Goals as goal

pub words_for-requires : goal.words_for-requires
words_for-requires c =
    let size = c.requires.tracks.size in
    let small = slots_small c.args.graph.now c.args.proc c.requires.graph c.requires.body in
    omega arith

pub slots-init : goal.slots-init
slots-init c =
    let params = ap length c.params-slot.ensures in
    let slots = ap length c.slots-slots.ensures in
    let row : c.in_ok-row.row ≡ replicate c.words_for.result 0 = c.in_ok-row.ensures in
    let between = none_between c.args.tracks.now (length (flow_of c.args.graph.now c.args.proc).params) in
    let fit = params_fit c.args.graph.now c.args.proc c.requires.graph c.requires.body in
    record {
      bits = rw (row, c.words_for.ensures) (wide_has_bits c.args.graph.now c.args.proc c.args.tracks.now c.requires.tracks (replicate (row_words (track_count c.args.tracks.now)) 0) between.len);
      row = rw (params, row, c.words_for.ensures) between;
      low = omega arith;
      high = omega arith;
    }

pub put_empty-requires : goal.put_empty-requires
put_empty-requires c =
    let slots = ap length c.slots-slots.ensures in
    let size = c.requires.tracks.size in
    let below = c.slots-test.true in
    record { bits = c.slots.invariant.bits; slot = omega arith; value = λ _. refl }

pub slots-preserved : goal.slots-preserved
slots-preserved c =
    let slots = ap length c.slots-slots.ensures in
    let low = c.slots.invariant.low in
    let below = c.slots-test.true in
    record {
      bits = c.put_empty.ensures.bits;
      row = more_between c.args.tracks.now _ c.slots.slot c.slots.row c.put_empty.new.row low c.slots.invariant.row c.put_empty.ensures.becomes;
      low = omega arith;
      high = omega arith;
    }

pub returns : goal.returns
returns c =
    let slots = ap length c.slots-slots.ensures in
    let high = c.slots.invariant.high in
    let stop = c.slots-test.false in
    let all : length (flow_of c.args.graph.now c.args.proc).slots ≡ c.slots.slot = omega arith in
    let g = c.args.graph.now in
    let k = c.args.proc in
    let P : ℕ → Type 0 = λ n. IsEmptyBetween c.args.tracks.now (length (flow_of g k).params) n c.slots.row in
    between_start g k c.args.tracks.now c.requires.tracks c.slots.row (subst P (sym all) c.slots.invariant.row)
