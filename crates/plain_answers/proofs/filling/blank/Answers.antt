use Rattle.std.proofs.Common.{◌∙◌, List, ap}
use Rattle.call_search.specs.declared.entries.Entry.{Entry}
use Rattle.call_search.specs.Entries.{in_group}
use Rattle.plain_answers.proofs.Lists.{empty_more, length_more}
use Rattle.plain_answers.proofs.filling.blank.Goals as goal

pub loop-group-preserved : goal.loop-group-preserved
loop-group-preserved c = record {
  size = length_more c.push.new.self.items c.loop-group.table.items _ c.loop-group._group c.in_ok-push.ensures.items c.loop-group.invariant.size;
  each = λ h. ap (λ (t : List (List Entry)). in_group t h) c.in_ok-push.ensures.items ∙ empty_more c.loop-group.table.items _ c.new.ensures.items c.loop-group.invariant.each h;
}
