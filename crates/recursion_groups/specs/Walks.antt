-- How far a walk along calls has come that finds the classes of procedures that reach one another.
use Rattle.std.specs.Prelude.{◌≡◌, ℕ, zero, suc, ◌+◌, ◌<◌, ◌≤◌, ⊤, cond, List, [], ◌∷◌, ◌++◌, length, replicate, map, take, drop, slice_index_or, slice_index, slice_set, nat_le}
use Rattle.std.specs.List.{Contains}
use Rattle.recursion_groups.specs.declared.walk.Mark.{Mark}
use Rattle.recursion_groups.specs.declared.walk.Mark.TheVariants.{New, Open, Done}
use Rattle.recursion_groups.specs.declared.walk.Pending.{Pending}

-- Steps from number to number, of which the lists say where each one's lead

abbrev pub list_at : List (List ℕ) → ℕ → List ℕ
list_at lists p = slice_index_or lists p []

abbrev pub Steps : List (List ℕ) → ℕ → ℕ → Type 0
Steps lists p q = Contains (list_at lists p) q

-- p steps to the first of these, each of them to the next, and the last is q; none where p is q
abbrev pub StepsThrough : List (List ℕ) → ℕ → List ℕ → ℕ → Type 0
StepsThrough lists p [] q = p ≡ q
StepsThrough lists p (r ∷ rs) q = Steps lists p r × StepsThrough lists r rs q

-- steps lead from p to q
abbrev pub LeadsTo : List (List ℕ) → ℕ → ℕ → Type 0
LeadsTo lists p q = (through : List ℕ) × StepsThrough lists p through q

-- they lead to numbers that have lists
abbrev pub AreWithin : List (List ℕ) → Type 0
AreWithin lists = (p q : ℕ) → Steps lists p q → q < length lists

-- Walks

pub record Walked : Type 0 where
  pub marks : List Mark
  pub stack : List ℕ
  -- the last one first
  pub bounds : List ℕ
  pub pending : List Pending
  pub firsts : List ℕ

abbrev pub mark_of : List Mark → ℕ → Mark
mark_of marks p = slice_index_or marks p New

abbrev pub at_first : ℕ → Walked
at_first n = record { marks = replicate n New; stack = []; bounds = []; pending = []; firsts = [] }

abbrev pub with_pending : Walked → List Pending → Walked
with_pending w es = record { marks = w.marks; stack = w.stack; bounds = w.bounds; pending = es; firsts = w.firsts }

-- the calls of the procedure at place i, before those that were there
abbrev pub added : ℕ → List ℕ → List Pending → List Pending
added i [] es = es
added i (q ∷ qs) es = added i qs (record { place = i; to = q } ∷ es)

-- p is met, which calls these
abbrev pub entered : Walked → ℕ → List ℕ → Walked
entered w p qs = record {
  marks = slice_set w.marks p (Open (length w.stack));
  stack = w.stack ++ p ∷ [];
  bounds = length w.stack ∷ w.bounds;
  pending = added (length w.stack) qs w.pending;
  firsts = w.firsts;
}

-- the bounds from the first one on that is at most i
abbrev pub unbound : ℕ → List ℕ → List ℕ
unbound i [] = []
unbound i (b ∷ bs) = cond (nat_le b i) (b ∷ bs) (unbound i bs)

abbrev pub joined : Walked → ℕ → Walked
joined w i = record { marks = w.marks; stack = w.stack; bounds = unbound i w.bounds; pending = w.pending; firsts = w.firsts }

-- these are in the class c now
pub record AreMarked (members : List ℕ) (c : ℕ) (old new : List Mark) : Type 0 where
  pub done : (p : ℕ) → Contains members p → mark_of new p ≡ Done c
  pub kept : (p : ℕ) → (Contains members p → ⊥) → mark_of new p ≡ mark_of old p

-- those from place b of the stack on are a class now
pub record IsClosed (b : ℕ) (old new : Walked) : Type 0 where
  pub count : length new.marks ≡ length old.marks
  pub marks : AreMarked (drop b old.stack) (length old.firsts) old.marks new.marks
  pub stack : new.stack ≡ take b old.stack
  pub bounds : (c : ℕ) (bs : List ℕ) → old.bounds ≡ c ∷ bs → new.bounds ≡ bs
  pub pending : new.pending ≡ old.pending
  pub firsts : new.firsts ≡ old.firsts ++ slice_index old.stack b ∷ []

abbrev pub IsFirst : {X : Type 0} → List X → X → Type 0
IsFirst {X} xs x = (rest : List X) × (xs ≡ x ∷ rest)

-- the first of these calls is of a caller below b, or there is none
abbrev pub NoneAbove : List Pending → ℕ → Type 0
NoneAbove es b = (e : Pending) (rest : List Pending) → es ≡ e ∷ rest → e.place < b

abbrev pub IsAbove : List Pending → ℕ → Pending → Type 0
IsAbove es b e = IsFirst es e × (b ≤ e.place)

-- What holds at each point of a walk

-- each bound at or below i is at or below j too: j stands in the segment of i or a later one
abbrev pub IsOnward : List ℕ → ℕ → ℕ → Type 0
IsOnward bs i j = (b : ℕ) → Contains bs b → b ≤ i → b ≤ j

-- each is above those after it
abbrev pub Falls : List ℕ → Type 0
Falls [] = ⊤
Falls (b ∷ bs) = ((c : ℕ) → Contains bs c → c < b) × Falls bs

-- the places of callers do not rise
abbrev pub AreLast : List Pending → Type 0
AreLast [] = ⊤
AreLast (e ∷ es) = ((d : Pending) → Contains es d → d.place ≤ e.place) × AreLast es

-- the call of q by the procedure at place i is to be followed, or q is in a class or stands no segment before it
pub data IsSettled (w : Walked) (i q : ℕ) : Type 0 where
  to_follow : Contains w.pending (record { place = i; to = q }) → IsSettled w i q
  in_class : (c : ℕ) → mark_of w.marks q ≡ Done c → IsSettled w i q
  onward : (j : ℕ) → mark_of w.marks q ≡ Open j → IsOnward w.bounds i j → IsSettled w i q

-- q is in a class whose number is at most c
pub record IsBelow (w : Walked) (q c : ℕ) : Type 0 where
  pub class : ℕ
  pub done : mark_of w.marks q ≡ Done class
  pub low : class ≤ c

abbrev pub total : (ℕ → ℕ) → ℕ → ℕ
total f zero = 0
total f (suc n) = f n + total f n

abbrev pub fresh : Mark → ℕ
fresh New = 1
fresh (Open i) = 0
fresh (Done c) = 0

abbrev pub weight : Mark → List ℕ → ℕ
weight New qs = length qs + 3
weight (Open i) qs = 0
weight (Done c) qs = 0

pub record IsWalk (lists : List (List ℕ)) (w : Walked) : Type 0 where
  pub count : length w.marks ≡ length lists
  pub placed : (i : ℕ) → i < length w.stack → mark_of w.marks (slice_index w.stack i) ≡ Open i
  pub stands : (p i : ℕ) → mark_of w.marks p ≡ Open i → (i < length w.stack) × (slice_index w.stack i ≡ p)
  pub bottom : 0 < length w.stack → Contains w.bounds 0
  pub within : (b : ℕ) → Contains w.bounds b → b < length w.stack
  pub falls : Falls w.bounds
  pub calls : (e : Pending) → Contains w.pending e → (e.place < length w.stack) × Steps lists (slice_index w.stack e.place) e.to
  pub last : AreLast w.pending
  pub reach : (i j : ℕ) → i < length w.stack → j < length w.stack → IsOnward w.bounds i j → LeadsTo lists (slice_index w.stack i) (slice_index w.stack j)
  pub settled : (i q : ℕ) → i < length w.stack → Steps lists (slice_index w.stack i) q → IsSettled w i q
  pub down : (p q c : ℕ) → mark_of w.marks p ≡ Done c → Steps lists p q → IsBelow w q c
  pub class : (p q c : ℕ) → mark_of w.marks p ≡ Done c → mark_of w.marks q ≡ Done c → LeadsTo lists p q
  pub below : (p c : ℕ) → mark_of w.marks p ≡ Done c → c < length w.firsts
  pub first : (c : ℕ) → c < length w.firsts → mark_of w.marks (slice_index w.firsts c) ≡ Done c
  pub few : length w.firsts + length w.bounds + total (λ p. fresh (mark_of w.marks p)) (length lists) ≤ length lists

-- How much is left to do

abbrev pub work : List (List ℕ) → Walked → ℕ
work lists w = total (λ p. weight (mark_of w.marks p) (list_at lists p)) (length lists) + length w.pending + length w.bounds

-- what is not new stays so
abbrev pub KeepsMet : Walked → Walked → Type 0
KeepsMet old new = (p : ℕ) → mark_of new.marks p ≡ New → mark_of old.marks p ≡ New

pub record Advances (lists : List (List ℕ)) (old new : Walked) : Type 0 where
  pub walk : IsWalk lists new
  pub met : KeepsMet old new
  pub less : work lists new < work lists old

abbrev pub IsMet : Walked → ℕ → Type 0
IsMet w p = mark_of w.marks p ≡ New → ⊥

pub record Meets (lists : List (List ℕ)) (root : ℕ) (old new : Walked) : Type 0 where
  pub walk : IsWalk lists new
  pub met : KeepsMet old new
  pub root_met : IsMet new root

-- Classes

pub record Classed : Type 0 where
  pub of : List ℕ
  pub count : ℕ

abbrev pub class_of : Mark → ℕ
class_of New = 0
class_of (Open i) = 0
class_of (Done c) = c

abbrev pub classed : Walked → Classed
classed w = record { of = map class_of w.marks; count = length w.firsts }

abbrev pub class_at : List ℕ → ℕ → ℕ
class_at of p = slice_index of p

pub record IsOfClass (of : List ℕ) (c : ℕ) : Type 0 where
  pub member : ℕ
  pub within : member < length of
  pub there : class_at of member ≡ c

pub record AreClasses (lists : List (List ℕ)) (classes : Classed) : Type 0 where
  pub size : length classes.of ≡ length lists
  pub below : (p : ℕ) → p < length lists → class_at classes.of p < classes.count
  pub some : (c : ℕ) → c < classes.count → IsOfClass classes.of c
  pub same : (p q : ℕ) → p < length lists → q < length lists → class_at classes.of p ≡ class_at classes.of q → LeadsTo lists p q
  pub down : (p q : ℕ) → p < length lists → Steps lists p q → class_at classes.of q ≤ class_at classes.of p
  pub few : classes.count ≤ length lists
