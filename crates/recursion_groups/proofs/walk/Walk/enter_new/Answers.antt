use Rattle.std.proofs.Common.{◌≡◌, ℕ, List, ◌∙◌, ap, sym, subst}
use Rattle.std.proofs.lemmas.List.{get_or_read}
use Rattle.std.proofs.lemmas.Result.{on_ok_weaker}
use Rattle.recursion_groups.specs.Walks.{Walked, list_at, entered, Meets}
use Rattle.recursion_groups.proofs.WalkLemmas.{root_entered}
use Rattle.recursion_groups.proofs.walk.Walk.enter_new.Goals as goal

pub returns : goal.returns
returns c =
    let list : c.deref.result.now ≡ list_at c.args.calls.now c.args.root =
    c.deref.ensures.value ∙ c.called.view_is ∙ get_or_read c.args.calls.now c.args.root c.index-calls-root.result c.requires.root c.index-calls-root.is _ in
    on_ok_weaker c.enter.result
    (λ e. subst (λ (w : Walked). Meets c.args.calls.now c.args.root c.args.self.now w) (sym (e ∙ ap (λ (us : List ℕ). entered c.args.self.now c.args.root us) list)) (root_entered c.args.calls.now c.args.self.now c.requires.walk c.requires.rest c.args.root c.requires.root (sym c.in-New.ensures)))
    c.enter.ensures
