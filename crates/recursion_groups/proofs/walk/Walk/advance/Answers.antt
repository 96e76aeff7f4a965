use Rattle.std.proofs.Common.{◌≡◌, ◌∙◌, ap, sym, length, arith}
use Rattle.std.proofs.lemmas.List.{get_or_read}
use Rattle.std.proofs.lemmas.Result.{on_ok_weaker}
use Rattle.recursion_groups.specs.declared.walk.Mark.TheVariants.{New, Open, Done}
use Rattle.recursion_groups.specs.Walks.{Walked, mark_of, list_at}
use Rattle.recursion_groups.proofs.WalkLemmas.{bound_within, stack_within, step_closed, call_within, step_passed, step_joined, step_entered}
use Rattle.recursion_groups.proofs.walk.Walk.advance.Goals as goal

pub close-requires-clause-bound : goal.close-requires-clause-bound
close-requires-clause-bound c = bound_within c.args.calls.now c.args.self.now c.requires.walk c.args.bound c.requires.bound

pub close-requires-clause-within : goal.close-requires-clause-within
close-requires-clause-within c = stack_within c.args.calls.now c.args.self.now c.requires.walk c.args.bound c.requires.bound

pub returns-in_default : goal.returns-in_default
returns-in_default c =
    on_ok_weaker c.close.result (λ k. step_closed c.args.calls.now c.args.self.now c.requires.walk c.args.bound c.requires.bound c.close.new.self c.in_default.ensures k) c.close.ensures

pub mark-requires : goal.mark-requires
mark-requires c =
    let first = c.in-Some.ensures.0 in
    let dropped = c.drop_call.ensures c.in-Some.call first.0 first.1 in
    let lt = call_within c.args.calls.now c.args.self.now c.requires.walk c.args.bound c.requires.bound c.in-Some.call first c.requires.within in
    omega (arith, lt, c.requires.walk.count, ap (λ (w : Walked). length w.marks) dropped)

pub bounds-calls-call : goal.bounds-calls-call
bounds-calls-call c =
    call_within c.args.calls.now c.args.self.now c.requires.walk c.args.bound c.requires.bound c.in-Some.call c.in-Some.ensures.0 c.requires.within

pub enter-requires : goal.enter-requires
enter-requires c =
    let first = c.in-Some.ensures.0 in
    let dropped = c.drop_call.ensures c.in-Some.call first.0 first.1 in
    let lt = call_within c.args.calls.now c.args.self.now c.requires.walk c.args.bound c.requires.bound c.in-Some.call first c.requires.within in
    omega (arith, lt, c.requires.walk.count, ap (λ (w : Walked). length w.marks) dropped)

pub returns-in_ok-enter-in-New : goal.returns-in_ok-enter-in-New
returns-in_ok-enter-in-New c =
    let first = c.in-Some.ensures.0 in
    let to = c.in-Some.call.to in
    let dropped = c.drop_call.ensures c.in-Some.call first.0 first.1 in
    let lt = call_within c.args.calls.now c.args.self.now c.requires.walk c.args.bound c.requires.bound c.in-Some.call first c.requires.within in
    let list : c.deref.result.now ≡ list_at c.args.calls.now to =
    c.deref.ensures.value ∙ c.called.view_is ∙ get_or_read c.args.calls.now to c.index-calls-call.result lt c.index-calls-call.is _ in
    let new : New ≡ mark_of c.args.self.now.marks to = c.in-New.ensures ∙ ap (λ (w : Walked). mark_of w.marks to) dropped in
    rw (c.in_ok-enter-in-New.ensures, dropped, list)
    (step_entered c.args.calls.now c.args.self.now c.requires.walk c.args.bound c.requires.bound c.in-Some.call first c.requires.within c.in-Some.ensures.1 (sym new))

pub returns-in-Open : goal.returns-in-Open
returns-in-Open c =
    let first = c.in-Some.ensures.0 in
    let dropped = c.drop_call.ensures c.in-Some.call first.0 first.1 in
    let there : Open c.in-Open.place ≡ mark_of c.args.self.now.marks c.in-Some.call.to = c.in-Open.ensures ∙ ap (λ (w : Walked). mark_of w.marks c.in-Some.call.to) dropped in
    rw (c.join.ensures, dropped)
    (step_joined c.args.calls.now c.args.self.now c.requires.walk c.args.bound c.requires.bound c.in-Some.call first c.in-Some.ensures.1 c.in-Open.place (sym there))

pub returns-in-Done : goal.returns-in-Done
returns-in-Done c =
    let first = c.in-Some.ensures.0 in
    let dropped = c.drop_call.ensures c.in-Some.call first.0 first.1 in
    let there : Done c.in-Done.field-0 ≡ mark_of c.args.self.now.marks c.in-Some.call.to = c.in-Done.ensures ∙ ap (λ (w : Walked). mark_of w.marks c.in-Some.call.to) dropped in
    rw dropped (step_passed c.args.calls.now c.args.self.now c.requires.walk c.args.bound c.requires.bound c.in-Some.call first c.in-Done.field-0 (sym there))

pub close-requires-clause-few : goal.close-requires-clause-few
close-requires-clause-few c = omega (arith, c.requires.walk.few, c.requires.few)
