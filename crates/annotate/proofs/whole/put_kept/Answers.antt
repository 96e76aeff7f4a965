use Rattle.std.proofs.Common.{◌≡◌, ◌<◌, length, subst, sym, ap, ◌∙◌, arith}
use Rattle.annotate.specs.Keeps.{AreLeads}
use Rattle.annotate.specs.Rings.{AreRings}
use Rattle.annotate.proofs.LeadRows.{lists_within, tells}
use Rattle.annotate.proofs.whole.put_kept.Goals as goal

pub rings-requires-clause-within : goal.rings-requires-clause-within
rings-requires-clause-within c =
    lists_within c.args.source.now.graph.now c.args.phi.now c.deref.result.now (subst (AreLeads c.args.source.now.graph.now c.args.phi.now) (sym c.deref.ensures.value) c.in_ok-lists.ensures)

pub rings-requires-clause-few : goal.rings-requires-clause-few
rings-requires-clause-few c = omega (arith, ap length c.deref.ensures.value, c.in_ok-lists.ensures.count, c.law.ensures.graph.struct_count)

pub returns : goal.returns
returns c =
    let g = c.args.source.now.graph.now in
    let phi = c.args.phi.now in
    let are : AreLeads g phi c.deref.result.now = subst (AreLeads g phi) (sym c.deref.ensures.value) c.in_ok-lists.ensures in
    let marks : AreRings c.deref.result.now c.deref-2.result.now = subst (AreRings c.deref.result.now) (sym c.deref-2.ensures.value) c.in_ok-marks.ensures in
    record {
      kept = _;
      back = tells g phi c.deref.result.now are c.law.ensures.graph (c.field_laws.ensures.fields g) c.deref-2.result.now marks;
      text = c.in_ok-put_keeps.ensures;
    }
