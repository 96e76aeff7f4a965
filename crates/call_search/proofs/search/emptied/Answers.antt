use Rattle.std.proofs.Common.{◌∙◌, List, ap}
use Rattle.call_search.specs.declared.entries.Entry.{Entry}
use Rattle.call_search.specs.Entries.{in_group}
use Rattle.call_search.proofs.Asking.{empty_more, length_more}
use Rattle.call_search.proofs.search.emptied.Goals as goal

pub loop-k-preserved : goal.loop-k-preserved
loop-k-preserved c = record {
  size = length_more c.push.new.self.items c.loop-k.table.items _ c.loop-k._k c.in_ok-push.ensures.items c.loop-k.invariant.size;
  each = λ h. ap (λ (t : List (List Entry)). in_group t h) c.in_ok-push.ensures.items ∙ empty_more c.loop-k.table.items _ c.new.ensures.items c.loop-k.invariant.each h;
}
