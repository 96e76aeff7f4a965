-- What every edge of a part meets, for each way in which parts are put together.
use Rattle.std.proofs.Common.{ℕ, Bool, true, false, [], ◌∷◌, ◌++◌}
use Rattle.std.specs.Prelude.{if◌then◌else◌}
use Rattle.std.specs.List.{All}
use Rattle.std.proofs.lemmas.List.Elements.{All-append, All-cons, All-nil}
use Rattle.c_tree.specs.declared.position.Place.{Place}
use Rattle.c_tree.specs.declared.position.Place.TheVariants as place
use Rattle.flow_graph.specs.declared.raw.RawAction.{RawAction}
use Rattle.flow_graph.specs.declared.raw.RawEdge.{RawEdge}
use Rattle.flow_graph.specs.Parts.{Part, ending, one, two, before, in_turn, edge}
use Rattle.flow_graph.specs.Edges.{stepped}
use Rattle.flow_graph.proofs.RawFits.{Adds}

-- both branches meet it
pub if_holds : {A : Type 0} (R : A → Type 0) (b : Bool) (x y : A) → R x → R y → R (if b then x else y)
if_holds R true x y p q = p
if_holds R false x y p q = q

pub all_one : {X : Type 0} (P : X → Type 0) (x : X) → P x → All P (x ∷ [])
all_one P x p = All-cons P x [] p (All-nil P)

pub all_two : {X : Type 0} (P : X → Type 0) (x y : X) → P x → P y → All P (x ∷ y ∷ [])
all_two P x y p q = All-cons P x (y ∷ []) p (all_one P y q)

pub all_three : {X : Type 0} (P : X → Type 0) (x y z : X) → P x → P y → P z → All P (x ∷ y ∷ z ∷ [])
all_three P x y z p q r = All-cons P x (y ∷ z ∷ []) p (all_two P y z q r)

-- Parts, whose edges all meet Q

module _ (Q : RawEdge → Type 0) where
  pub adds_ending : (q : Place) → Adds Q (ending q)
  adds_ending q es h = h

  pub adds_one : (p q : Place) (a : RawAction) → Q (edge p a q) → Adds Q (one p a q)
  adds_one p q a n es h = All-append Q es (edge p a q ∷ []) h (all_one Q (edge p a q) n)

  pub adds_two : (p q r : Place) (a b : RawAction) → Q (edge p a q) → Q (edge p b r) → Adds Q (two p a q b r)
  adds_two p q r a b m n es h =
      All-append Q (es ++ edge p a q ∷ []) (edge p b r ∷ []) (All-append Q es (edge p a q ∷ []) h (all_one Q (edge p a q) m)) (all_one Q (edge p b r) n)

  pub adds_before : (l r : Part) → Adds Q l → Adds Q r → Adds Q (before l r)
  adds_before l r m n es h = m (r.after es) (n es h)

  pub adds_in_turn : (a b : Place → Part) (q : Place) → ((p : Place) → Adds Q (a p)) → Adds Q (b q) → Adds Q (in_turn a b q)
  adds_in_turn a b q m n = adds_before (a (b q).start) (b q) (m (b q).start) n

  pub adds_stepped : (ops : Place → Part) (n : ℕ) (a : RawAction) (q : Place) → ((p : Place) → Adds Q (ops p)) → Q (edge (place.At n 0) a q) → Adds Q (stepped ops n a q)
  adds_stepped ops n a q m s = adds_before (ops (place.At n 0)) (one (place.At n 0) a q) (m (place.At n 0)) (adds_one (place.At n 0) q a s)
