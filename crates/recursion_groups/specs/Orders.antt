-- The order of classes: a called class before its caller's, and of those that could stand next the one with the least
-- first procedure.
use Rattle.std.specs.Prelude.{◌≡◌, ℕ, ◌<◌, ◌≤◌, Bool, true, false, List, [], ◌∷◌, ◌++◌, length, take, replicate, slice_index, slice_index_or, slice_set}
use Rattle.std.specs.List.{Contains}
use Rattle.std.specs.BTreeSet.{insert_key}
use Rattle.std.specs.Ordering.{nat_cmp}
use Rattle.recursion_groups.specs.Walks.{list_at, Steps, class_at}

-- the class that stands after those that are placed
pub record IsNextClass (outs : List (List ℕ)) (firsts placed : List ℕ) (c : ℕ) : Type 0 where
  pub within : c < length outs
  pub apart : Contains placed c → ⊥
  pub ready : (d : ℕ) → Steps outs c d → Contains placed d
  pub least : (d : ℕ) → d < length outs → (Contains placed d → ⊥) → ((e : ℕ) → Steps outs d e → Contains placed e) → slice_index firsts c ≤ slice_index firsts d

pub record IsClassOrder (outs : List (List ℕ)) (firsts order : List ℕ) : Type 0 where
  pub next : (k : ℕ) → k < length order → IsNextClass outs firsts (take k order) (slice_index order k)
  pub all : (c : ℕ) → c < length outs → Contains order c
  pub count : length order ≤ length outs

-- a class calls classes below it, and its first procedure is of it
pub record AreOuts (outs : List (List ℕ)) (firsts of : List ℕ) : Type 0 where
  pub down : (c d : ℕ) → Steps outs c d → d < c
  pub count : length firsts ≡ length outs
  pub within : (c : ℕ) → c < length outs → slice_index firsts c < length of
  pub class : (c : ℕ) → c < length outs → class_at of (slice_index firsts c) ≡ c

-- How far the order has come

pub record Queued : Type 0 where
  pub placed : List Bool
  -- up to where the classes that each one calls are known to be placed
  pub next : List ℕ
  pub watchers : List (List ℕ)
  -- the first procedures of those that could stand next
  pub ready : List ℕ

abbrev pub is_placed : Queued → ℕ → Bool
is_placed w c = slice_index_or w.placed c false

abbrev pub next_at : Queued → ℕ → ℕ
next_at w c = slice_index w.next c

abbrev pub watched : Queued → ℕ → ℕ → ℕ → Queued
watched w c n d = record { placed = w.placed; next = slice_set w.next c n; watchers = slice_set w.watchers d (list_at w.watchers d ++ c ∷ []); ready = w.ready }

abbrev pub readied : Queued → ℕ → ℕ → ℕ → Queued
readied w c n p = record { placed = w.placed; next = slice_set w.next c n; watchers = w.watchers; ready = insert_key nat_cmp w.ready p }

abbrev pub with_ready : Queued → List ℕ → Queued
with_ready w ps = record { placed = w.placed; next = w.next; watchers = w.watchers; ready = ps }

abbrev pub with_placed : Queued → ℕ → Queued
with_placed w c = record { placed = slice_set w.placed c true; next = w.next; watchers = slice_set w.watchers c []; ready = w.ready }

pub record IsKey (outs : List (List ℕ)) (firsts : List ℕ) (w : Queued) (p : ℕ) : Type 0 where
  pub class : ℕ
  pub within : class < length outs
  pub key : p ≡ slice_index firsts class
  pub end : next_at w class ≡ length (list_at outs class)
  pub out : is_placed w class ≡ false

-- c waits for d
pub record IsWaiting (outs : List (List ℕ)) (w : Queued) (c d : ℕ) : Type 0 where
  pub within : c < length outs
  pub at : next_at w c < length (list_at outs c)
  pub on : slice_index (list_at outs c) (next_at w c) ≡ d

pub data IsLive (firsts : List ℕ) (w : Queued) (pending : List ℕ) (c : ℕ) : Type 0 where
  is_ready : Contains w.ready (slice_index firsts c) → IsLive firsts w pending c
  waits : (d : ℕ) → Contains (list_at w.watchers d) c → is_placed w d ≡ false → IsLive firsts w pending c
  to_settle : Contains pending c → IsLive firsts w pending c

pub record IsQueue (outs : List (List ℕ)) (firsts : List ℕ) (w : Queued) (pending : List ℕ) : Type 0 where
  pub placed_count : length w.placed ≡ length outs
  pub next_count : length w.next ≡ length outs
  pub watch_count : length w.watchers ≡ length outs
  pub bounded : (c : ℕ) → c < length outs → next_at w c ≤ length (list_at outs c)
  pub passed : (c k : ℕ) → c < length outs → k < next_at w c → is_placed w (slice_index (list_at outs c) k) ≡ true
  pub closed : (c : ℕ) → c < length outs → is_placed w c ≡ true → next_at w c ≡ length (list_at outs c)
  pub keys : (p : ℕ) → Contains w.ready p → IsKey outs firsts w p
  pub watch : (d c : ℕ) → Contains (list_at w.watchers d) c → is_placed w d ≡ false → IsWaiting outs w c d
  pub unsettled : (c : ℕ) → Contains pending c → (c < length outs) × (is_placed w c ≡ false)
  pub live : (c : ℕ) → c < length outs → is_placed w c ≡ false → IsLive firsts w pending c

-- the first from `from` on that is not placed, or the list's length
pub record IsNextOpen (us : List ℕ) (placed : List Bool) (from r : ℕ) : Type 0 where
  pub low : from ≤ r
  pub high : r ≤ length us
  pub passed : (k : ℕ) → from ≤ k → k < r → slice_index_or placed (slice_index us k) false ≡ true
  pub stop : r < length us → slice_index_or placed (slice_index us r) false ≡ false

-- p was the least
pub record IsLeast (p : ℕ) (old new : Queued) : Type 0 where
  pub rest : new ≡ with_ready old new.ready
  pub keys : old.ready ≡ p ∷ new.ready
  pub above : (q : ℕ) → Contains new.ready q → p < q

pub record Settles (outs : List (List ℕ)) (firsts : List ℕ) (old new : Queued) (pending : List ℕ) : Type 0 where
  pub queue : IsQueue outs firsts new pending
  pub same : new.placed ≡ old.placed

abbrev pub at_first : ℕ → Queued
at_first n = record { placed = replicate n false; next = replicate n 0; watchers = replicate n []; ready = [] }

-- these are the numbers below n
pub record AreBelow (n : ℕ) (us : List ℕ) : Type 0 where
  pub all : (q : ℕ) → q < n → Contains us q
  pub only : (q : ℕ) → Contains us q → q < n
