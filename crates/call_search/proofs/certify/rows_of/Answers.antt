use Rattle.std.proofs.Common.{ℕ, ◌<◌, List, get_or, length, refl, subst}
use Rattle.verdict_meaning.specs.Systems.{members}
use Rattle.call_search.proofs.Certifying.{member_rows, first_next, rows_fit, read_member}
use Rattle.call_search.proofs.certify.rows_of.Goals as goal

pub push_rows-requires : goal.push_rows-requires
push_rows-requires g c =
    rows_fit (g.G.Shapes.system c.args.groups.now) c.args.group c.args.from c.loop-proc.first c.loop-proc.proc-index (get_or c.members-proc-items.result.now c.loop-proc.proc-index 0) c.places-places.result c.width-width.result c.args.bits.now (subst (λ (l : List ℕ). c.loop-proc.proc-index < length l) c.members-proc-items.ensures c.loop-proc-test.true) (read_member c.members-proc-items.result.now (members (g.G.Shapes.system c.args.groups.now) c.args.group) c.loop-proc.proc-index c.members-proc-items.ensures (subst (λ (l : List ℕ). c.loop-proc.proc-index < length l) c.members-proc-items.ensures c.loop-proc-test.true))
    c.requires.size c.requires.from c.loop-proc.invariant.first c.places-places.ensures c.width-width.ensures

pub loop-proc-preserved : goal.loop-proc-preserved
loop-proc-preserved g c = record {
  rows =
      member_rows (g.G.Shapes.system c.args.groups.now) c.args.bits.now c.args.from c.loop-proc.first c.loop-proc.proc-index (get_or c.members-proc-items.result.now c.loop-proc.proc-index 0) c.places-places.result c.width-width.result (members (g.G.Shapes.system c.args.groups.now) c.args.group) c.loop-proc.out.items c.push_rows.new.out.items (subst (λ (l : List ℕ). c.loop-proc.proc-index < length l) c.members-proc-items.ensures c.loop-proc-test.true) (read_member c.members-proc-items.result.now (members (g.G.Shapes.system c.args.groups.now) c.args.group) c.loop-proc.proc-index c.members-proc-items.ensures (subst (λ (l : List ℕ). c.loop-proc.proc-index < length l) c.members-proc-items.ensures c.loop-proc-test.true))
      c.loop-proc.invariant.rows c.loop-proc.invariant.first c.places-places.ensures c.width-width.ensures c.in_ok-push_rows.ensures;
  first =
      first_next (g.G.Shapes.system c.args.groups.now) c.args.from c.loop-proc.first c.loop-proc.proc-index (get_or c.members-proc-items.result.now c.loop-proc.proc-index 0) c.places-places.result c.width-width.result _ (members (g.G.Shapes.system c.args.groups.now) c.args.group) (subst (λ (l : List ℕ). c.loop-proc.proc-index < length l) c.members-proc-items.ensures c.loop-proc-test.true) (read_member c.members-proc-items.result.now (members (g.G.Shapes.system c.args.groups.now) c.args.group) c.loop-proc.proc-index c.members-proc-items.ensures (subst (λ (l : List ℕ). c.loop-proc.proc-index < length l) c.members-proc-items.ensures c.loop-proc-test.true))
      c.loop-proc.invariant.first c.places-places.ensures c.width-width.ensures refl;
}
