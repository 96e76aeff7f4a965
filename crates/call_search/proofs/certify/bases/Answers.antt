use Rattle.std.proofs.Common.{◌∙◌, ◌+◌, ◌<◌, ap, subst, length, get_or, List}
use Rattle.call_search.specs.declared.entries.Entry.{Entry}
use Rattle.call_search.proofs.Certifying.{bases_next, before_more}
use Rattle.call_search.proofs.certify.bases.Goals as goal

pub loop-entries-preserved : goal.loop-entries-preserved
loop-entries-preserved c = record {
  bases = bases_next c.args.table.now.items c.loop-entries.out.items c.push.new.self.items c.loop-entries.entries-index c.loop-entries.before c.loop-entries.invariant.bases c.loop-entries.invariant.before c.in_ok-push.ensures.items;
  before =
      before_more c.args.table.now.items c.loop-entries.entries-index c.loop-entries.before c.in_ok-before.before c.entries-item.result (subst (λ (t : List (List Entry)). c.loop-entries.entries-index < length t) c.as_slice-entries-items.ensures.value c.loop-entries-test.true) c.loop-entries.invariant.before
      (c.entries-item.is ∙ ap (λ (t : List (List Entry)). get_or t c.loop-entries.entries-index c.entries-item.result) c.as_slice-entries-items.ensures.value)
      (c.in_ok-before.ensures ∙ ap (λ n. c.loop-entries.before + n) (c.len.ensures ∙ c.entries.inside.items.ok.0 ∙ ap length c.entries.view_is));
}
