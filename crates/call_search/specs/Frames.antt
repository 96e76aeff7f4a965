-- Frames of a descent from the root to what is asked for.
use Rattle.std.specs.Prelude.{◌≡◌, ℕ, zero, suc, ◌+◌, ◌-◌, ◌*◌, ◌<◌, ◌≤◌, ◌^◌, ◌⊎◌, Bool, true, false, cond, List, [], ◌∷◌, ◌++◌, Option, Some, None, length, slice_get}
use Rattle.std.specs.List.{All, Contains}
use Rattle.zo_core.specs.Literals.{Literal}
use Rattle.conflict_proof.specs.declared.names.ConstraintName.{ConstraintName}
use Rattle.conflict_proof.specs.declared.derivation.Line.{Line}
use Rattle.verdict_meaning.specs.Systems.{System, root, callee, callees}
use Rattle.verdict_meaning.specs.Certificates.{bit_at}
use Rattle.verdict_meaning.specs.Derivations.{IsValidIn}
use Rattle.call_search.specs.Indexes.{Ledger}
use Rattle.call_search.specs.declared.entries.Entry.{Entry}
use Rattle.call_search.specs.declared.fill.Asked.{Asked}
use Rattle.call_search.specs.declared.fill.Asked.TheVariants as asked
use Rattle.call_search.specs.declared.descending.Frame.{Frame}
use Rattle.call_search.specs.declared.descending.Mark.{Mark}
use Rattle.call_search.specs.declared.descending.Mark.TheVariants as mark
use Rattle.call_search.specs.declared.descending.Step.{Step}
use Rattle.call_search.specs.declared.descending.Step.TheVariants as step
use Rattle.call_search.specs.Shapes.{before_site}
use Rattle.call_search.specs.Ledgers.{Extends, IsOver}
use Rattle.call_search.specs.Entries.{AreKept, AreKeptBy, IsPut}
use Rattle.call_search.specs.Answers.{IsAsker, IsPaid, IsTurned}

-- a frame none of whose sites was gone past
abbrev pub frame_of : ℕ → List Bool → List Bool → Frame
frame_of g bits marks = record { group = g; site = 0; bits = bits; refuted = false; marks = marks }

-- the frame at another site, whether a line was carried to it, and with these marks
abbrev pub frame_at : Frame → ℕ → Bool → List Bool → Frame
frame_at f site refuted marks = record { group = f.group; site = site; bits = f.bits; refuted = refuted; marks = marks }

-- the frame after its site was gone past
abbrev pub past : Frame → Frame
past f = frame_at f (f.site + 1) f.refuted f.marks

-- a frame's site asks for an instance of the other frame's group
pub record IsAsking (s : System) (f h : Frame) : Type 0 where
  pub within : f.site < length (callees s f.group)
  pub group : (callee s f.group f.site).group ≡ h.group

-- each frame but the first is of the group that the one before it asks for
pub record AreNested (s : System) (fs : List Frame) : Type 0 where
  pub group : (n : ℕ) (f : Frame) → slice_get fs n ≡ Some f → f.group ≤ root s
  pub asking : (n : ℕ) (f h : Frame) → slice_get fs n ≡ Some f → slice_get fs (suc n) ≡ Some h → IsAsking s f h

-- the clause has a literal of an unknown of a site of the group before this one
pub record SpeaksBefore (s : System) (g site : ℕ) (c : List Literal) : Type 0 where
  pub literal : Literal
  pub there : Contains c literal
  pub above : s.fields < literal.var
  pub within : literal.var ≤ before_site s g site

-- the clause is of fields alone, and that of its first literal is marked
pub record IsMarked (s : System) (marks : List Bool) (c : List Literal) : Type 0 where
  pub first : Literal
  pub rest : List Literal
  pub is : c ≡ first ∷ rest
  pub marked : bit_at marks first.var ≡ true
  pub fields : All (λ (l : Literal). l.var ≤ s.fields) c

-- what sites of a frame before this one say: a clause that its site never says as a new one
abbrev pub WasSaid : System → Frame → List Literal → Type 0
WasSaid s f c = SpeaksBefore s f.group f.site c ⊎ IsMarked s f.marks c

-- a line that was carried to a frame
pub record IsToldTo (s : System) (f : Frame) (line : Line) : Type 0 where
  pub refuted : f.refuted ≡ true
  pub said : WasSaid s f line.lits

-- a frame whose bits met the constraints of its group and the lines that were carried there, when it was put on the others;
-- lines that were added since and are of its group were carried to it
pub record IsWaiting (s : System) (U : ConstraintName → Bool) (lines : List Line) (phi : List Bool) (f : Frame) : Type 0 where
  pub before : List Line
  pub more : List Line
  pub is : lines ≡ before ++ more
  pub valid : IsValidIn s U before
  pub asker : IsAsker s U before phi f.group f.bits
  pub told : (n : ℕ) (x : Line) → slice_get more n ≡ Some x → x.group ≡ f.group → IsToldTo s f x

-- nested frames, each of which waits for the one after it
pub record AreFrames (s : System) (U : ConstraintName → Bool) (lines : List Line) (phi : List Bool) (fs : List Frame) : Type 0 where
  pub nested : AreNested s fs
  pub waiting : (n : ℕ) (f : Frame) → slice_get fs n ≡ Some f → IsWaiting s U lines phi f

-- the instance of the last frame was put to those that are kept, and the frame before it goes on
pub record IsHandedOn (s : System) (bits : List Bool) (k k2 : List (List Entry)) (fs gs : List Frame) : Type 0 where
  pub before : List Frame
  pub asker : Frame
  pub is : fs ≡ before ++ asker ∷ []
  pub put : IsPut (callee s asker.group asker.site).group (record { group = (callee s asker.group asker.site).group; proc = (callee s asker.group asker.site).proc; bits = bits }) k k2
  pub now : gs ≡ before ++ past asker ∷ []

-- the same, or it was the root's frame, on which there were no others
abbrev pub IsFinished : System → List Bool → List (List Entry) → List (List Entry) → List Frame → List Frame → Type 0
IsFinished s bits k k2 fs gs = IsHandedOn s bits k k2 fs gs ⊎ ((fs ≡ []) × (gs ≡ []) × (k2 ≡ k))

-- more steps than a frame of any group below this one takes, where each group has fewer than 2 ^ 32 sites
abbrev pub room : ℕ → ℕ
room zero = 1
room (suc g) = room g * 2 ^ 32 + 1

-- no fewer steps than a frame takes from its site on, with all that it goes down to, and after that site
abbrev pub steps_from : System → Frame → ℕ
steps_from s f = (length (callees s f.group) - f.site) * room f.group + 1

abbrev pub steps_after : System → Frame → ℕ
steps_after s f = (length (callees s f.group) - suc f.site) * room f.group + 1

-- no fewer steps than all frames take, each of which but the last waits for the one after it, where none is given up
abbrev pub steps_left : System → List Frame → ℕ
steps_left s [] = 0
steps_left s (f ∷ []) = steps_from s f
steps_left s (f ∷ (h ∷ fs)) = steps_after s f + steps_left s (h ∷ fs)

-- the root's frame alone, with marks
abbrev pub IsFirst : ℕ → List Bool → List Frame → Type 0
IsFirst g bits fs = (marks : List Bool) × (fs ≡ frame_of g bits marks ∷ [])

-- the line was added, and the instances that it refutes were dropped; or it is the one that would be next
abbrev pub TellsIs : System → (ConstraintName → Bool) → Line → Ledger → Ledger → List (List Entry) → List (List Entry) → Option Line → Type 0
TellsIs s U line old new k k2 None = IsPaid s U old new × (new.lines ≡ old.lines ++ line ∷ []) × AreKeptBy line k k k2
TellsIs s U line old new k k2 (Some next) = (new ≡ old) × IsOver s U new next

-- the unknown of the clause's first literal has this place among the marks
pub record IsFirstAt (c : List Literal) (at : ℕ) : Type 0 where
  pub first : Literal
  pub rest : List Literal
  pub is : c ≡ first ∷ rest
  pub var : first.var ≡ suc at

-- the mark for the unknown of the clause's first literal
abbrev pub MarkIs : List Bool → List Literal → Mark → Type 0
MarkIs marks c mark.Missing = (at : ℕ) → at < length marks → IsFirstAt c at → ⊥
MarkIs marks c (mark.Clear at) = (at < length marks) × (bit_at marks (suc at) ≡ false) × IsFirstAt c at
MarkIs marks c mark.Set = (at : ℕ) × (bit_at marks (suc at) ≡ true) × IsFirstAt c at

-- how many frames had a line carried to them
abbrev pub refuted_in : List Frame → ℕ
refuted_in [] = 0
refuted_in (f ∷ fs) = cond f.refuted 1 0 + refuted_in fs

-- the words and the frames to which lines were carried got fewer together; or they did not get more, and fewer steps are left
abbrev pub Falls : System → Ledger → Ledger → List Frame → List Frame → Type 0
Falls s old new fs gs = (new.words + refuted_in gs < old.words + refuted_in fs) ⊎ ((new.words + refuted_in gs ≤ old.words + refuted_in fs) × (steps_left s gs < steps_left s fs))

-- whose bits they all go down from, as it was put there
abbrev pub bottom : List Frame → Option Frame
bottom [] = None
bottom (f ∷ fs) = Some (frame_of f.group f.bits [])

-- there are frames to go on with
pub record IsOn (s : System) (U : ConstraintName → Bool) (phi : List Bool) (old new : Ledger) (k : List (List Entry)) (fs gs : List Frame) : Type 0 where
  pub extends : Extends s U old new
  pub frames : AreFrames s U new.lines phi gs
  pub kept : AreKept s U new.lines phi k
  pub same : bottom gs ≡ bottom fs
  pub falls : Falls s old new fs gs

-- the first frame has all that it asks for, and no line was carried to it
pub record IsAtEnd (s : System) (U : ConstraintName → Bool) (phi : List Bool) (old new : Ledger) (k : List (List Entry)) (fs : List Frame) : Type 0 where
  pub extends : Extends s U old new
  pub kept : AreKept s U new.lines phi k
  pub asker : (f : Frame) → bottom fs ≡ Some f → IsAsker s U new.lines phi f.group f.bits

-- lines were carried to the first frame
pub record IsTurnedBack (s : System) (U : ConstraintName → Bool) (phi : List Bool) (old new : Ledger) (k : List (List Entry)) (fs : List Frame) : Type 0 where
  pub extends : Extends s U old new
  pub kept : AreKept s U new.lines phi k
  pub fewer : new.words < old.words + refuted_in fs

abbrev pub IsEnded : System → (ConstraintName → Bool) → List Bool → Ledger → Ledger → List (List Entry) → List Frame → Asked → Type 0
IsEnded s U phi old new k fs asked.Kept = IsAtEnd s U phi old new k fs
IsEnded s U phi old new k fs asked.Carried = IsTurnedBack s U phi old new k fs
IsEnded s U phi old new k fs (asked.Spent line) = Extends s U old new × IsOver s U new line

-- one step of the last frame
abbrev pub SteppedIs : System → (ConstraintName → Bool) → List Bool → Ledger → Ledger → List (List Entry) → List Frame → List Frame → Step → Type 0
SteppedIs s U phi old new k fs gs step.On = IsOn s U phi old new k fs gs
SteppedIs s U phi old new k fs gs (step.Ended answer) = IsEnded s U phi old new k fs answer

-- this answer where no frame is left
abbrev pub EndsWith : List Frame → Asked → Step → Type 0
EndsWith gs answer step.On = 0 < length gs
EndsWith gs answer (step.Ended given) = (gs ≡ []) × (given ≡ answer)

-- lines were added, none of which was carried to the root
pub record IsDescended (s : System) (U : ConstraintName → Bool) (phi top : List Bool) (old new : Ledger) (k : List (List Entry)) : Type 0 where
  pub extends : Extends s U old new
  pub kept : AreKept s U new.lines phi k
  pub asker : IsAsker s U new.lines phi (root s) top

abbrev pub DescendedIs : System → (ConstraintName → Bool) → List Bool → List Bool → Ledger → Ledger → List (List Entry) → Asked → Type 0
DescendedIs s U phi top old new k asked.Kept = IsDescended s U phi top old new k
DescendedIs s U phi top old new k asked.Carried = IsTurned s U phi old new k
DescendedIs s U phi top old new k (asked.Spent line) = Extends s U old new × IsOver s U new line
