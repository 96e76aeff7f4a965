-- The owners of an object in a state, by the marks of a certificate. The running frame is the first.
use Rattle.std.specs.Prelude.{◌≡◌, ℕ, suc, ◌+◌, Bool, true, false, ◌&&◌, List, [], ◌∷◌, length, drop, Some, nat_eq, slice_get}
use Rattle.heap_meaning.specs.declared.values.Value.{Value}
use Rattle.heap_meaning.specs.declared.values.Value.TheVariants as value
use Rattle.heap_meaning.specs.declared.states.Frame.{Frame}
use Rattle.heap_meaning.specs.declared.states.Kind.{Kind}
use Rattle.heap_meaning.specs.declared.states.Kind.TheVariants as kind
use Rattle.heap_meaning.specs.declared.states.Object.{Object}
use Rattle.heap_meaning.specs.Reads.{slot, object_at, live_at, kind_at, cell, is_allocated}
use Rattle.zo_core.specs.Forms.{bit}
use Rattle.heap_law.specs.Sums.{total}
use Rattle.heap_law.specs.Rules.{Marks, Owning}
use Rattle.heap_law.specs.Markings.{Marking, called}

-- the instance of a frame that stands on these: the first one of `main`, else what the call of the frame below it names
abbrev pub instance_of_frame : Marking → List Frame → ℕ
instance_of_frame c [] = c.first
instance_of_frame c (f ∷ fs) = called c (instance_of_frame c fs) f.proc f.place

-- the marks at a frame's place
abbrev pub marks_of : Marking → Frame → List Frame → Marks
marks_of c f below = c.marks (instance_of_frame c below) f.proc f.place

-- the value holds the object
abbrev pub refers : Value → ℕ → Bool
refers (value.Ref m) o = nat_eq m o
refers _ o = false

-- how many slots hold the object o and own it
abbrev pub slots_own : Marks → List Value → ℕ → ℕ
slots_own m vs o = total (length vs) (λ x. bit (m.rho x && refers (slot vs x) o))

-- the same over all these frames, the first of which stands on the others
abbrev pub frames_own : Marking → List Frame → ℕ → ℕ
frames_own c [] o = 0
frames_own c (f ∷ fs) o = slots_own (marks_of c f fs) f.slots o + frames_own c fs o

-- through how many slots that hold the object b its member f is open
abbrev pub slots_open : Marks → List Value → ℕ → ℕ → ℕ
slots_open m vs b f = total (length vs) (λ x. bit (m.omega x f && refers (slot vs x) b))

-- the same over all these frames
abbrev pub frames_open : Marking → List Frame → ℕ → ℕ → ℕ
frames_open c [] b f = 0
frames_open c (t ∷ fs) b f = slots_open (marks_of c t fs) t.slots b f + frames_open c fs b f

-- the members of objects that own
abbrev pub field_owns : Owning → Kind → ℕ → Bool
field_owns phi (kind.Struct s) f = phi s f
field_owns phi _ f = false

-- 1 where the member f of the live object b owns, holds the object o, and is open through no slot, of so many
abbrev pub cell_share : Owning → List Object → ℕ → ℕ → ℕ → ℕ → ℕ
cell_share phi h openings o b f = bit (live_at h b && (field_owns phi (kind_at h b) f && (refers (cell h b f) o && nat_eq openings 0)))

-- how many members of objects own the object o, where so many slots open each of them
abbrev pub cells_own : Owning → List Object → (ℕ → ℕ → ℕ) → ℕ → ℕ
cells_own phi h openings o = total (length h) (λ b. total (length (object_at h b).cells) (λ f. cell_share phi h (openings b f) o b f))

-- how many slots and members own the object o
abbrev pub owner_count : Marking → List Frame → List Object → ℕ → ℕ
owner_count c fs h o = frames_own c fs o + cells_own c.phi h (frames_open c fs) o

-- each live object that was allocated has one owner; one that was freed, and that of a string, has none
abbrev pub HasOneOwner : Marking → List Frame → List Object → Type 0
HasOneOwner c fs h = (o : ℕ) → owner_count c fs h o ≡ bit (live_at h o && is_allocated (kind_at h o))

-- Who owns an object

-- a slot of a frame, frames being numbered from the running one, which is 0; or a member of an object
pub data Owner : Type 0 where
  SlotOf : (frame slot : ℕ) → Owner
  MemberOf : (object member : ℕ) → Owner

-- the slot holds the object, and owns at the frame's place
pub record SlotOwns (c : Marking) (fs : List Frame) (i x o : ℕ) : Type 0 where
  pub frame : Frame
  pub is : slice_get fs i ≡ Some frame
  pub holds : refers (slot frame.slots x) o ≡ true
  pub owns : (marks_of c frame (drop (suc i) fs)).rho x ≡ true

-- the member of the live object b holds the object and owns, and is open through no slot that holds b
pub record MemberOwns (c : Marking) (fs : List Frame) (h : List Object) (b f o : ℕ) : Type 0 where
  pub live : live_at h b ≡ true
  pub owns : field_owns c.phi (kind_at h b) f ≡ true
  pub holds : refers (cell h b f) o ≡ true
  pub closed : (i y : ℕ) (d : Frame) → slice_get fs i ≡ Some d → refers (slot d.slots y) b ≡ true → (marks_of c d (drop (suc i) fs)).omega y f ≡ false

-- this slot or member owns the object o
abbrev pub IsOwner : Marking → List Frame → List Object → ℕ → Owner → Type 0
IsOwner c fs h o (SlotOf i x) = SlotOwns c fs i x o
IsOwner c fs h o (MemberOf b f) = MemberOwns c fs h b f o

-- one, and no other
pub record HasOne (c : Marking) (fs : List Frame) (h : List Object) (o : ℕ) : Type 0 where
  pub owner : Owner
  pub is : IsOwner c fs h o owner
  pub only : (other : Owner) → IsOwner c fs h o other → other ≡ owner

-- each live object that was allocated has exactly one owner, and no other object has any
pub record HaveOwners (c : Marking) (fs : List Frame) (h : List Object) : Type 0 where
  pub one : (o : ℕ) → live_at h o ≡ true → is_allocated (kind_at h o) ≡ true → HasOne c fs h o
  pub none : (o : ℕ) → (live_at h o && is_allocated (kind_at h o)) ≡ false → (owner : Owner) → IsOwner c fs h o owner → ⊥
