use Rattle.std.proofs.Common.{◌≡◌, ℕ, List, [], ◌∷◌, ◌++◌, length, Result, Ok, Err, OnOk, OnErr, refl, sym, ap, ap₂, ◌∙◌}
use Rattle.c_types.specs.declared.infos.SlotInfo.{SlotInfo}
use Rattle.c_types.specs.declared.scope.Scope.{Scope}
use Rattle.c_types.specs.Names.{with_name}
use Rattle.c_types.proofs.Visible.{number, AllNamed, all_named_like, all_named_more, all_slot_more, all_named_new}
use Rattle.c_types.proofs.scope.OpenScopes.declare.Goals as goal

pushed_pair : {E : Type 0} (r : Result (Unit {0}) E) (gs hs : List (ℕ × ℕ)) (a b m n : ℕ) → a ≡ b → m ≡ n
    → OnOk r (hs ≡ gs ++ (a, m) ∷ []) → OnOk r (hs ≡ gs ++ (b, n) ∷ [])
pushed_pair (Ok u) gs hs a b m n e f h = h ∙ ap₂ (λ x y. gs ++ (x, y) ∷ []) e f
pushed_pair (Err x) gs hs a b m n e f h = h

-- the row of meanings after a push that may fail
declared_or_not : {E : Type 0} (r : Result (Unit {0}) E) (slots : List SlotInfo) (names : List (List ℕ)) (s : SlotInfo) (gs hs : List (ℕ × ℕ))
    → OnOk r (hs ≡ gs ++ (number names s.name, length slots) ∷ []) → OnErr r (hs ≡ gs)
    → AllNamed slots names gs → AllNamed (slots ++ s ∷ []) (with_name names s.name) hs
declared_or_not (Ok u) slots names s gs hs e f h =
    all_named_like (slots ++ s ∷ []) (slots ++ s ∷ []) (with_name names s.name) (with_name names s.name) (gs ++ (number names s.name, length slots) ∷ []) hs
    refl refl (sym e) (all_named_new slots names s gs h)
declared_or_not (Err x) slots names s gs hs e f h =
    all_named_like (slots ++ s ∷ []) (slots ++ s ∷ []) (with_name names s.name) (with_name names s.name) gs hs
    refl refl (sym f) (all_slot_more slots s (with_name names s.name) gs (all_named_more slots names s.name gs h))

pub invariant_of-self-in_err-push_slot : goal.invariant_of-self-in_err-push_slot
invariant_of-self-in_err-push_slot c =
    let i = c.self.inside in
    let x = c.as_slice-name.result.now in
    all_named_like i.slots c.push_slot.new.slots (with_name i.names x) c.add.new.self i.visible i.visible
    (sym c.in_err-push_slot.ensures.kept) (sym c.in_ok-add.ensures.names) refl
    (all_named_more i.slots i.names x i.visible c.self.invariant)

pub invariant_of-self-2 : goal.invariant_of-self-2
invariant_of-self-2 c =
    let i = c.self.inside in
    let s : SlotInfo = record { name = c.as_slice-name.result.now; kind = c.args.kind; at = c.args.at } in
    let slot : c.in_ok-slot.slot ≡ length i.slots = c.in_ok-slot.ensures ∙ sym (ap (λ (v : Scope). length v.slots) c.self.view_is) in
    let named : c.place-number.result ≡ number i.names s.name = c.place-number.ensures in
    let pushed : OnOk c.push.result (c.push.new.self ≡ i.visible ++ (number i.names s.name, length i.slots) ∷ []) =
    pushed_pair c.push.result i.visible c.push.new.self c.place-number.result (number i.names s.name) c.in_ok-slot.slot (length i.slots) named slot c.push.ensures.pushed in
    all_named_like (i.slots ++ s ∷ []) c.push_slot.new.slots (with_name i.names s.name) c.add.new.self c.push.new.self c.push.new.self
    (sym c.in_ok-push_slot.ensures.pushed) (sym c.in_ok-add.ensures.names) refl
    (declared_or_not c.push.result i.slots i.names s i.visible c.push.new.self pushed c.push.ensures.kept c.self.invariant)
