use Rattle.std.proofs.Common.{◌≡◌, ◌<◌, List, sym, subst, rules}
use Rattle.std.specs.List.{All}
use Rattle.field_rules.specs.declared.edges.CallArg.{CallArg}
use Rattle.transfer_rules.specs.Rules.{call_args}
use Rattle.transfer_rules.proofs.ArgLemmas.{passed_slots}
use Rattle.transfer_rules.proofs.Narrow.{sight_there}
use Rattle.transfer_rules.proofs.candidates.push_named_closed.Goals as goal

pub call_rules-requires-clause-call : goal.call_rules-requires-clause-call
call_rules-requires-clause-call g c =
    let v = g.S.View.sight c.args.scene.now in
    let s = g.S.Scene.setting c.args.scene.now in
    let seen = sight_there v s c.args.name.now.field c.requires.sight in
    let e : c.in_ok-args.args ≡ call_args c.in_ok-passed.passed.items = search rules in
    let P : List CallArg → Type 0 = λ zs. All (λ (a : CallArg). a.slot < v.slots) zs in
    record {
      place = c.requires.args.place;
      args = subst P (sym e) (passed_slots v s c.args.name.now.place c.in_ok-passed.passed.items c.in_ok-passed.ensures.there);
      pointers = seen.pointers;
    }
