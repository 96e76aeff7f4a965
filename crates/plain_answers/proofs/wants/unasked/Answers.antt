use Rattle.std.proofs.Common.{◌∙◌, List, ap}
use Rattle.plain_answers.specs.declared.wants.Want.{Want}
use Rattle.plain_answers.specs.Wants.{wants_in}
use Rattle.plain_answers.proofs.Lists.{empty_more, length_more}
use Rattle.plain_answers.proofs.wants.unasked.Goals as goal

pub loop-group-preserved : goal.loop-group-preserved
loop-group-preserved c = (
  length_more c.push.new.self.items c.loop-group.wanted.items _ c.loop-group._group c.in_ok-push.ensures.items c.loop-group.invariant.0,
  λ h. ap (λ (w : List (List Want)). wants_in w h) c.in_ok-push.ensures.items ∙ empty_more c.loop-group.wanted.items _ c.new.ensures.items c.loop-group.invariant.1 h,
)
