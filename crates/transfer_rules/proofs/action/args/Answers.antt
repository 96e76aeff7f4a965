use Rattle.std.proofs.Common.{◌≡◌, ℕ, ◌+◌, ◌<◌, List, [], ◌∷◌, ◌++◌, length, get_or, drop, suc, refl, sym, subst, ap₂, ◌∙◌, arith, rules, true, false}
use Rattle.std.specs.List.{All}
use Rattle.std.proofs.lemmas.List.Elements.{All-push}
use Rattle.field_rules.specs.Sight.{HasPointer}
use Rattle.transfer_rules.specs.declared.args.PassedArg.{PassedArg}
use Rattle.transfer_rules.specs.Rules.{args_from}
use Rattle.transfer_rules.proofs.ArgLemmas.{passed, args_more, args_skip, count_le, count_taken, count_skipped}
use Rattle.transfer_rules.proofs.action.args.Goals as goal
use Rattle.transfer_rules.proofs.action.args.Goals.{then-is_pointer+in_ok-push, else-is_pointer}

pub overflow_add-part : goal.overflow_add-part
overflow_add-part g c =
    let le = count_le (g.S.View.sight c.args.scene.now) (g.S.Scene.setting c.args.scene.now) c.args.slots.now in
    let count = c.loop-n.invariant.count in
    let small = c.requires.count in
    omega arith

pub loop-n-preserved : goal.loop-n-preserved
loop-n-preserved g c =
    let v = g.S.View.sight c.args.scene.now in
    let s = g.S.Scene.setting c.args.scene.now in
    let us = c.args.slots.now in
    let n = c.loop-n.n in
    let u : ℕ = get_or us n 0 in
    let i = c.loop-n.invariant in
    let count = i.count in
    let some = i.some in
    let lt : n < length us = search rules in
    let P : PassedArg → Type 0 = λ a. HasPointer v c.args.place a.slot in
    elim c.if-is_pointer.branch [
      | then-is_pointer+in_ok-push w ↦
          (let is : v.pointer u ≡ true = search rules in
          let added : c.if-is_pointer.out.items ≡ c.loop-n.out.items ++ passed v s c.args.place c.args.callee c.loop-n.part n u ∷ [] = search rules in
          let part : c.if-is_pointer.part ≡ c.loop-n.part + 1 = search rules in
          let e = count_taken v s us n u lt refl is in
          let has : HasPointer v c.args.place u = record { place = c.requires.place; slot = c.requires.slots n 0 lt; pointer = is } in
          record {
            exact = ap₂ (λ (zs : List PassedArg) (k : ℕ). zs ++ args_from v s c.args.place c.args.callee k (suc (n + 1)) (drop (n + 1) us)) added part
                ∙ args_more v s c.args.place c.args.callee c.loop-n.part n u us c.loop-n.out.items lt refl is ∙ i.exact;
            there = subst (λ (zs : List PassedArg). All P zs) (sym added) (All-push P c.loop-n.out.items (passed v s c.args.place c.args.callee c.loop-n.part n u) i.there has);
            some = omega arith;
            count = omega arith;
          })
      | else-is_pointer w ↦
          (let is : v.pointer u ≡ false = search rules in
          let same : c.if-is_pointer.out.items ≡ c.loop-n.out.items = search rules in
          let part : c.if-is_pointer.part ≡ c.loop-n.part = search rules in
          let e = count_skipped v s us n u lt refl is in
          record {
            exact = ap₂ (λ (zs : List PassedArg) (k : ℕ). zs ++ args_from v s c.args.place c.args.callee k (suc (n + 1)) (drop (n + 1) us)) same part
                ∙ ap₂ (λ (zs : List PassedArg) (ws : List PassedArg). zs ++ ws) refl (args_skip v s c.args.place c.args.callee c.loop-n.part n u us lt refl is) ∙ i.exact;
            there = subst (λ (zs : List PassedArg). All P zs) (sym same) i.there;
            some = omega arith;
            count = omega arith;
          })
    ]
