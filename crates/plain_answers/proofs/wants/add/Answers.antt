use Rattle.std.proofs.Common.{◌∙◌, ap, ◌++◌, ◌∷◌, []}
use Rattle.plain_answers.proofs.Asking.{put_is}
use Rattle.plain_answers.proofs.wants.add.Goals as goal

pub returns : goal.returns
returns c =
    put_is c.args.wanted.now.items c.args.group c.args.want c.push.new.self.items c.index_mut.result.now c.requires (c.in_ok-push.ensures.items ∙ ap (λ ws. ws ++ c.args.want ∷ []) c.behind-wanted.view_is) c.index_mut.ensures.value
