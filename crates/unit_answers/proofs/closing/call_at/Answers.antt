use Rattle.std.proofs.Common.{◌≡◌, ◌<◌, List, length, get_or, slice_get, ap, sym, subst, ◌∙◌}
use Rattle.std.proofs.lemmas.Option.{slice_get-get_or}
use Rattle.unit_answers.specs.declared.layouts.Call.{Call}
use Rattle.unit_answers.specs.Layouts.{group_at}
use Rattle.unit_answers.proofs.Entering.{call_fits}
use Rattle.unit_answers.proofs.closing.call_at.Goals as goal

no_call : Call
no_call = record { callee = record { proc = 0; group = 0 }; there = record { first = 0; count = 0 }; here = record { first = 0; count = 0 } }

pub returns-clause-at : goal.returns-clause-at
unfolding no_call
returns-clause-at c =
    let calls = c.calls_of-calls.result.now in
    let is : calls ≡ (group_at c.args.layout.now c.args.group).calls = c.calls_of-calls.ensures in
    let lt : c.args.site < length calls = subst (λ (cs : List Call). c.args.site < length cs) (sym is) c.requires.site in
    ap (λ (cs : List Call). slice_get cs c.args.site) (sym is) ∙ slice_get-get_or calls c.args.site no_call lt

pub returns-clause-fits : goal.returns-clause-fits
unfolding no_call
returns-clause-fits c =
    let calls = c.calls_of-calls.result.now in
    let is : calls ≡ (group_at c.args.layout.now c.args.group).calls = c.calls_of-calls.ensures in
    let lt : c.args.site < length calls = subst (λ (cs : List Call). c.args.site < length cs) (sym is) c.requires.site in
    call_fits c.args.layout.now c.requires.layout c.args.group c.args.site (get_or calls c.args.site no_call) c.requires.group
    (ap (λ (cs : List Call). slice_get cs c.args.site) (sym is) ∙ slice_get-get_or calls c.args.site no_call lt)
