-- What a step of a descent does.
use Rattle.std.proofs.Common.{◌≡◌, ℕ, zero, suc, ◌+◌, ◌*◌, ◌<◌, ◌≤◌, inl, inr, ⊎_elim, Bool, true, false, cond, List, [], ◌∷◌, ◌++◌, Option, Some, None, refl, sym, ap, ◌∙◌, subst, arith, length, slice_get, slice_index_or, set, get_or, get_or-set_same, get_or-set_other, length-append}
use Rattle.std.proofs.Math.Nat.{mul-le-mul_left}
use Rattle.std.proofs.lemmas.Bool.{cases_eq, cases_lt}
use Rattle.zo_core.specs.Literals.{Literal}
use Rattle.conflict_proof.specs.declared.names.ConstraintName.{ConstraintName}
use Rattle.conflict_proof.specs.declared.derivation.Line.{Line}
use Rattle.verdict_meaning.specs.declared.callee.Callee.{Callee}
use Rattle.verdict_meaning.specs.Systems.{System, root, callee, callees, callee_parts}
use Rattle.verdict_meaning.specs.Solutions.{phi_by, sigma_by}
use Rattle.verdict_meaning.specs.Certificates.{bit_at}
use Rattle.verdict_meaning.specs.Derivations.{InstLinesAreTrue, cost_of}
use Rattle.call_search.specs.Indexes.{Ledger}
use Rattle.call_search.specs.declared.entries.Entry.{Entry}
use Rattle.call_search.specs.declared.descending.Frame.{Frame}
use Rattle.call_search.specs.declared.descending.Mark.TheVariants as mark
use Rattle.call_search.specs.declared.descending.Step.{Step}
use Rattle.call_search.specs.declared.descending.Step.TheVariants as step
use Rattle.call_search.specs.declared.groups.Outcome.{Outcome}
use Rattle.call_search.specs.declared.groups.Outcome.TheVariants as outcome
use Rattle.call_search.specs.declared.fill.Asked.{Asked}
use Rattle.call_search.specs.declared.fill.Asked.TheVariants as asked
use Rattle.call_search.specs.Shapes.{IsShaped, IsThere}
use Rattle.call_search.specs.Ledgers.{IsLedger, Extends, Solves, IsOver, IsDenied, IsSolved}
use Rattle.call_search.specs.Entries.{IsKept, AreKept, AreKeptBy}
use Rattle.call_search.specs.Answers.{IsAsker, IsPaid, IsTurned, OutcomeIs, given_for}
use Rattle.call_search.specs.Frames.{frame_of, frame_at, past, IsAsking, AreNested, SpeaksBefore, IsMarked, WasSaid, IsToldTo, AreFrames, IsHandedOn, IsFinished, room, steps_left, TellsIs, IsFirstAt, MarkIs, refuted_in, Falls, bottom, IsOn, IsEnded, SteppedIs, EndsWith, IsDescended, DescendedIs}
use Rattle.call_search.proofs.Lists.{some_one, push_cases, append_cases, same_last}
use Rattle.call_search.proofs.Grow.{cost-append, extends-trans}
use Rattle.call_search.proofs.Asking.{phi_length, sigma_length, kept-asker, fewer-words}
use Rattle.call_search.proofs.Table.{made-kept}
use Rattle.call_search.proofs.Settling.{by_line, last_is, extends_none}
use Rattle.call_search.proofs.Descent.{nested_last, above, waits_now, waits_more, waits_at, waits_asker, frames_front, frames_last, frames_at, frames_past, frames_more, before_more, finished_frames, finished_kept, finished_steps, past_steps, more_steps, steps_with, steps_fit}

-- the bottom, and how many are refuted

bottom_at : (fs : List Frame) (f : Frame) (site : ℕ) (r : Bool) (marks : List Bool) → bottom (fs ++ frame_at f site r marks ∷ []) ≡ bottom (fs ++ f ∷ [])
bottom_at [] f site r marks = refl
bottom_at (g ∷ fs) f site r marks = refl

bottom_front : (fs : List Frame) (f : Frame) → 0 < length fs → bottom fs ≡ bottom (fs ++ f ∷ [])
bottom_front [] f some = absurd (omega arith)
bottom_front (g ∷ fs) f some = refl

some_pushed : (fs : List Frame) (f : Frame) → 0 < length (fs ++ f ∷ [])
some_pushed fs f = let l : length (fs ++ f ∷ []) ≡ length fs + 1 = length-append fs (f ∷ []) in omega arith

refuted_with : (fs : List Frame) (f : Frame) → refuted_in (fs ++ f ∷ []) ≡ refuted_in fs + cond f.refuted 1 0
refuted_with [] f = omega arith
refuted_with (g ∷ fs) f = let r = refuted_with fs f in omega arith

refuted_yes : (fs : List Frame) (f : Frame) → f.refuted ≡ true → refuted_in (fs ++ f ∷ []) ≡ refuted_in fs + 1
refuted_yes fs f e = refuted_with fs f ∙ ap (λ b. refuted_in fs + cond b 1 0) e

refuted_no : (fs : List Frame) (f : Frame) → f.refuted ≡ false → refuted_in (fs ++ f ∷ []) ≡ refuted_in fs
refuted_no fs f e = let h : refuted_in (fs ++ f ∷ []) ≡ refuted_in fs + 0 = refuted_with fs f ∙ ap (λ b. refuted_in fs + cond b 1 0) e in omega arith

refuted_least : (fs : List Frame) (f : Frame) → refuted_in fs ≤ refuted_in (fs ++ f ∷ [])
refuted_least fs f = let h = refuted_with fs f in omega arith

-- steps after others

module _ (s : System) (U : ConstraintName → Bool) (phi : List Bool) where
  ended_after : (old mid new : Ledger) (k : List (List Entry)) (fs : List Frame) (o : Asked) → Extends s U old mid → IsEnded s U phi mid new k fs o → IsEnded s U phi old new k fs o
  ended_after old mid new k fs asked.Kept e h = record { extends = extends-trans s U old mid new e h.extends; kept = h.kept; asker = h.asker }
  ended_after old mid new k fs asked.Carried e h = record { extends = extends-trans s U old mid new e h.extends; kept = h.kept; fewer = let a = fewer-words s U old mid e in let b = h.fewer in omega arith }
  ended_after old mid new k fs (asked.Spent line) e h = (extends-trans s U old mid new e h.0, h.1)

  falls_after : (old mid new : Ledger) (fs gs : List Frame) → mid.words ≤ old.words → Falls s mid new fs gs → Falls s old new fs gs
  falls_after old mid new fs gs le h = ⊎_elim
      (λ (i : new.words + refuted_in gs < mid.words + refuted_in fs). inl (omega arith))
      (λ (i : (new.words + refuted_in gs ≤ mid.words + refuted_in fs) × (steps_left s gs < steps_left s fs)). inr (let z = i.0 in omega arith, i.1)) h

  pub stepped_after : (old mid new : Ledger) (k : List (List Entry)) (fs gs : List Frame) (o : Step) → Extends s U old mid → SteppedIs s U phi mid new k fs gs o → SteppedIs s U phi old new k fs gs o
  stepped_after old mid new k fs gs step.On e h = record { extends = extends-trans s U old mid new e h.extends; frames = h.frames; kept = h.kept; same = h.same; falls = falls_after old mid new fs gs (fewer-words s U old mid e) h.falls }
  stepped_after old mid new k fs gs (step.Ended o) e h = ended_after old mid new k fs o e h

  -- the same from frames like these

  ended_as : (old new : Ledger) (k : List (List Entry)) (fs hs : List Frame) (o : Asked) → bottom fs ≡ bottom hs → refuted_in fs ≤ refuted_in hs → IsEnded s U phi old new k fs o → IsEnded s U phi old new k hs o
  ended_as old new k fs hs asked.Kept e le h = record { extends = h.extends; kept = h.kept; asker = λ f at. h.asker f (e ∙ at) }
  ended_as old new k fs hs asked.Carried e le h = record { extends = h.extends; kept = h.kept; fewer = let b = h.fewer in omega arith }
  ended_as old new k fs hs (asked.Spent line) e le h = h

  falls_as : (old new : Ledger) (fs hs gs : List Frame) → refuted_in fs ≤ refuted_in hs → steps_left s fs ≤ steps_left s hs → Falls s old new fs gs → Falls s old new hs gs
  falls_as old new fs hs gs le few h = ⊎_elim
      (λ (i : new.words + refuted_in gs < old.words + refuted_in fs). inl (omega arith))
      (λ (i : (new.words + refuted_in gs ≤ old.words + refuted_in fs) × (steps_left s gs < steps_left s fs)). inr (let z = i.0 in omega arith, let z = i.1 in omega arith)) h

  stepped_as : (old new : Ledger) (k : List (List Entry)) (fs hs gs : List Frame) (o : Step) → bottom fs ≡ bottom hs → refuted_in fs ≤ refuted_in hs → steps_left s fs ≤ steps_left s hs → SteppedIs s U phi old new k fs gs o → SteppedIs s U phi old new k hs gs o
  stepped_as old new k fs hs gs step.On e le few h = record { extends = h.extends; frames = h.frames; kept = h.kept; same = h.same ∙ e; falls = falls_as old new fs hs gs le few h.falls }
  stepped_as old new k fs hs gs (step.Ended o) e le few h = ended_as old new k fs hs o e le h

  pub stepped_marked : (old new : Ledger) (k : List (List Entry)) (fs : List Frame) (f : Frame) (marks : List Bool) (gs : List Frame) (o : Step) → SteppedIs s U phi old new k (fs ++ frame_at f f.site f.refuted marks ∷ []) gs o → SteppedIs s U phi old new k (fs ++ f ∷ []) gs o
  stepped_marked old new k fs f marks gs o =
      stepped_as old new k (fs ++ frame_at f f.site f.refuted marks ∷ []) (fs ++ f ∷ []) gs o (bottom_at fs f f.site f.refuted marks)
      (let a = refuted_with fs f in let b = refuted_with fs (frame_at f f.site f.refuted marks) in omega arith)
      (let a = steps_with s fs f in let b = steps_with s fs (frame_at f f.site f.refuted marks) in omega arith)

  -- a frame's site is gone past

  pub passed : (l : Ledger) (k : List (List Entry)) (fs gs : List Frame) (f : Frame) → IsLedger s U l → AreFrames s U l.lines phi (fs ++ f ∷ []) → AreKept s U l.lines phi k → f.site < length (callees s f.group) → gs ≡ fs ++ past f ∷ [] → IsOn s U phi l l k (fs ++ f ∷ []) gs
  passed l k fs gs f ok frames kept lt is = record {
    extends = extends_none s U l ok;
    frames = subst (λ (xs : List Frame). AreFrames s U l.lines phi xs) (sym is) (frames_past s U l.lines phi fs f lt frames);
    kept = kept;
    same = ap bottom is ∙ bottom_at fs f (f.site + 1) f.refuted f.marks;
    falls = inr (let e : refuted_in gs ≡ refuted_in (fs ++ past f ∷ []) = ap refuted_in is in let a = refuted_with fs f in let b = refuted_with fs (past f) in omega arith, past_steps s fs gs f (length (callees s f.group)) refl lt is);
  }

  -- a frame is left

  pub left_refuted : (l : Ledger) (k : List (List Entry)) (fs : List Frame) (f : Frame) (o : Step) → IsLedger s U l → AreFrames s U l.lines phi (fs ++ f ∷ []) → AreKept s U l.lines phi k → f.refuted ≡ true → EndsWith fs asked.Carried o → SteppedIs s U phi l l k (fs ++ f ∷ []) fs o
  left_refuted l k fs f step.On ok frames kept told some = record {
    extends = extends_none s U l ok;
    frames = frames_front s U l.lines phi fs f frames;
    kept = kept;
    same = bottom_front fs f some;
    falls = inl (let e = refuted_yes fs f told in omega arith);
  }
  left_refuted l k fs f (step.Ended answer) ok frames kept told ends =
      subst (IsEnded s U phi l l k (fs ++ f ∷ [])) (sym ends.1) (record { extends = extends_none s U l ok; kept = kept; fewer = let e = refuted_yes fs f told in omega arith })

  module _ (shaped : IsShaped s) (l : Ledger) (k k2 : List (List Entry)) (fs gs : List Frame) (f : Frame) (ok : IsLedger s U l) (frames : AreFrames s U l.lines phi (fs ++ f ∷ [])) (kept : AreKept s U l.lines phi k) (untold : f.refuted ≡ false) (done : IsFinished s f.bits k k2 fs gs) where
    left_same : 0 < length gs → bottom gs ≡ bottom (fs ++ f ∷ [])
    left_same some = ⊎_elim
        (λ (i : IsHandedOn s f.bits k k2 fs gs). ap bottom i.now ∙ bottom_at i.before i.asker (i.asker.site + 1) i.asker.refuted i.asker.marks ∙ ap bottom (sym i.is) ∙ bottom_front fs f (subst (λ (xs : List Frame). 0 < length xs) (sym i.is) (some_pushed i.before i.asker)))
        (λ (i : (fs ≡ []) × (gs ≡ []) × (k2 ≡ k)). absurd (let e : length gs ≡ 0 = ap length i.1 in omega arith)) done

    left_count : refuted_in gs ≤ refuted_in (fs ++ f ∷ [])
    left_count = ⊎_elim
        (λ (i : IsHandedOn s f.bits k k2 fs gs).
        let a : refuted_in gs ≡ refuted_in (i.before ++ past i.asker ∷ []) = ap refuted_in i.now in
        let b : refuted_in fs ≡ refuted_in (i.before ++ i.asker ∷ []) = ap refuted_in i.is in
        let c = refuted_with i.before i.asker in
        let d = refuted_with i.before (past i.asker) in
        let e = refuted_least fs f in
        omega arith)
        (λ (i : (fs ≡ []) × (gs ≡ []) × (k2 ≡ k)). let a : refuted_in gs ≡ 0 = ap refuted_in i.1 in omega arith) done

    none_before : gs ≡ [] → fs ≡ []
    none_before e = ⊎_elim
        (λ (i : IsHandedOn s f.bits k k2 fs gs). absurd (let a : length gs ≡ 0 = ap length e in let b = some_pushed i.before (past i.asker) in let c : length gs ≡ length (i.before ++ past i.asker ∷ []) = ap length i.now in omega arith))
        (λ (i : (fs ≡ []) × (gs ≡ []) × (k2 ≡ k)). i.0) done

    pub left_finished : (o : Step) → EndsWith gs asked.Kept o → SteppedIs s U phi l l k2 (fs ++ f ∷ []) gs o
    left_finished step.On some = record {
      extends = extends_none s U l ok;
      frames = finished_frames s U l.lines phi shaped k k2 fs gs f frames kept untold done;
      kept = finished_kept s U l.lines phi shaped k k2 fs gs f frames kept untold done;
      same = left_same some;
      falls = inr (let e = left_count in omega arith, finished_steps s k k2 fs gs f done);
    }
    left_finished (step.Ended answer) ends = subst (IsEnded s U phi l l k2 (fs ++ f ∷ [])) (sym ends.1) (record {
      extends = extends_none s U l ok;
      kept = finished_kept s U l.lines phi shaped k k2 fs gs f frames kept untold done;
      asker = λ x at. subst (λ (y : Frame). IsAsker s U l.lines phi y.group y.bits) (some_one (frame_of f.group f.bits []) x (ap (λ (xs : List Frame). bottom (xs ++ f ∷ [])) (sym (none_before ends.0)) ∙ at)) (waits_asker s U phi l.lines f untold (frames_last s U l.lines phi fs f frames));
    })

-- lines of groups below those of frames

-- each frame's group is that of the last one, or above it
all_least : (s : System) → IsShaped s → (fs : List Frame) (f : Frame) → AreNested s (fs ++ f ∷ []) → (n : ℕ) (g : Frame) → slice_get (fs ++ f ∷ []) n ≡ Some g → f.group ≤ g.group
all_least s shaped fs f a n g at = ⊎_elim
    (λ (i : slice_get fs n ≡ Some g). let h : f.group < g.group = above s shaped fs f a n g i in omega arith)
    (λ (i : (n ≡ length fs) × (f ≡ g)). let e : f.group ≡ g.group = ap (λ (x : Frame). x.group) i.1 in omega arith)
    (push_cases fs f g n at)

module _ (s : System) (U : ConstraintName → Bool) (phi : List Bool) where
  frames_added : (lines new ls : List Line) (gs : List Frame) → new ≡ lines ++ ls → ((n : ℕ) (g : Frame) → slice_get gs n ≡ Some g → (m : ℕ) (x : Line) → slice_get ls m ≡ Some x → x.group ≡ g.group → IsToldTo s g x) → AreFrames s U lines phi gs → AreFrames s U new phi gs
  frames_added lines new ls gs is told a = record { nested = a.nested; waiting = λ n g at. waits_more s U phi lines new ls g is (told n g at) (a.waiting n g at) }

  pub frames_solved : (shaped : IsShaped s) (old new : Ledger) (c : ℕ) (fs : List Frame) (f : Frame) → Solves s U c old new → c < f.group → AreFrames s U old.lines phi (fs ++ f ∷ []) → AreFrames s U new.lines phi (fs ++ f ∷ [])
  frames_solved shaped old new c fs f sol below a =
      frames_added old.lines new.lines sol.extends.more (fs ++ f ∷ []) sol.extends.is
      (λ n g at m x in_more e. absurd (let h : x.group ≡ c = (sol.own m x in_more).0 in let le : f.group ≤ g.group = all_least s shaped fs f a.nested n g at in omega arith)) a

  own_true : (old new : Ledger) (c g : ℕ) (a : ℕ → Bool) → Solves s U c old new → InstLinesAreTrue old.lines g a → InstLinesAreTrue new.lines g a
  own_true old new c g a sol h zero x at group by = cc
  own_true old new c g a sol h (suc n) x at group by = ⊎_elim
      (λ (i : slice_get old.lines n ≡ Some x). h (suc n) x i group by)
      (λ (i : (m : ℕ) × (slice_get sol.extends.more m ≡ Some x)). absurd ((sol.own i.0 x i.1).1 by))
      (append_cases old.lines sol.extends.more x n (ap (λ (ls : List Line). slice_get ls n) (sym sol.extends.is) ∙ at))

  pub kept_solved : (old new : Ledger) (c : ℕ) (k : List (List Entry)) → Solves s U c old new → AreKept s U old.lines phi k → AreKept s U new.lines phi k
  kept_solved old new c k sol a = record {
    size = a.size;
    kept = λ g n e at. let h : IsKept s U old.lines phi e = a.kept g n e at in record { there = h.there; size = h.size; local = h.local; phi_is = h.phi_is; carried = own_true old new c e.group (bit_at e.bits) sol h.carried };
    group = a.group;
  }

  -- a line is told

  module _ (shaped : IsShaped s) (line : Line) (old new : Ledger) (k k2 : List (List Entry)) (fs : List Frame) (f : Frame) (frames : AreFrames s U old.lines phi (fs ++ f ∷ [])) (kept : AreKept s U old.lines phi k) (group : line.group ≡ f.group) (r : Option Line) (re : r ≡ None) (tells : TellsIs s U line old new k k2 r) where
    told : IsPaid s U old new × (new.lines ≡ old.lines ++ line ∷ []) × AreKeptBy line k k k2
    told = subst (TellsIs s U line old new k k2) re tells

    told_kept : AreKept s U new.lines phi k2
    told_kept = by_line s U old new phi k k k2 line told.0 kept kept (last_is s U old new line told.0 (λ before last e. same_last old.lines before line last (sym told.1 ∙ e))) told.2

    told_words : new.words + (length line.lits + 1) ≡ old.words
    told_words =
        let paid = told.0.extends.paid in
        let cost : cost_of new.lines ≡ cost_of old.lines + cost_of (line ∷ []) = ap cost_of told.1 ∙ cost-append old.lines (line ∷ []) in
        omega arith

    one_line : (m : ℕ) (x : Line) → slice_get (line ∷ []) m ≡ Some x → line ≡ x
    one_line zero x at = some_one line x at
    one_line (suc m) x at = cc

    -- the frame is given up
    front_frames : AreFrames s U new.lines phi fs
    front_frames = frames_added old.lines new.lines (line ∷ []) fs told.1
        (λ n g at m x in_line e. absurd (let h : f.group < g.group = above s shaped fs f frames.nested n g at in let i : line.group ≡ x.group = ap (λ (y : Line). y.group) (one_line m x in_line) in omega arith))
        (frames_front s U old.lines phi fs f frames)

    pub given_up : (o : Step) → EndsWith fs asked.Carried o → SteppedIs s U phi old new k2 (fs ++ f ∷ []) fs o
    given_up step.On some = record {
      extends = told.0.extends;
      frames = front_frames;
      kept = told_kept;
      same = bottom_front fs f some;
      falls = inl (let a = told_words in let b = refuted_least fs f in omega arith);
    }
    given_up (step.Ended answer) ends = subst (IsEnded s U phi old new k2 (fs ++ f ∷ [])) (sym ends.1) (record { extends = told.0.extends; kept = told_kept; fewer = let a = told_words in omega arith })

    abbrev told_frame : Frame
    told_frame = frame_at f (f.site + 1) true f.marks

    -- the frame goes on past its site
    pub gone_past : (gs : List Frame) → f.site < length (callees s f.group) → WasSaid s (past f) line.lits → gs ≡ fs ++ frame_at f (f.site + 1) true f.marks ∷ [] → IsOn s U phi old new k2 (fs ++ f ∷ []) gs
    gone_past gs lt said is = record {
      extends = told.0.extends;
      frames = subst (λ (xs : List Frame). AreFrames s U new.lines phi xs) (sym is) later;
      kept = told_kept;
      same = ap bottom is ∙ bottom_at fs f (f.site + 1) true f.marks;
      falls = inl fewer;
    }
      where
        moved : AreFrames s U old.lines phi (fs ++ told_frame ∷ [])
        moved = frames_at s U old.lines phi fs f (f.site + 1) true f.marks (waits_at s U phi old.lines f (f.site + 1) true f.marks (λ e. refl) (before_more s f.group f.site lt) (λ v e. e) (frames_last s U old.lines phi fs f frames)) frames

        later : AreFrames s U new.lines phi (fs ++ told_frame ∷ [])
        later = frames_added old.lines new.lines (line ∷ []) (fs ++ told_frame ∷ []) told.1
            (λ n g at m x in_line e. ⊎_elim
            (λ (i : slice_get fs n ≡ Some g). absurd (let b : f.group < g.group = above s shaped fs f frames.nested n g i in let j : line.group ≡ x.group = ap (λ (y : Line). y.group) (one_line m x in_line) in omega arith))
            (λ (i : (n ≡ length fs) × (told_frame ≡ g)). subst (λ (y : Frame). IsToldTo s y x) i.1 (subst (λ (y : Line). IsToldTo s told_frame y) (one_line m x in_line) (record { refuted = refl; said = said })))
            (push_cases fs told_frame g n at)) moved

        some_literal : 0 < length line.lits
        some_literal = ⊎_elim
            (λ (i : SpeaksBefore s f.group (f.site + 1) line.lits). let w : i.there.0 < length line.lits = i.there.1 in omega arith)
            (λ (i : IsMarked s f.marks line.lits). let l : length line.lits ≡ suc (length i.rest) = ap length i.is in omega arith) said

        fewer : new.words + refuted_in gs < old.words + refuted_in (fs ++ f ∷ [])
        fewer =
            let e : refuted_in gs ≡ refuted_in (fs ++ told_frame ∷ []) = ap refuted_in is in
            let a = refuted_yes fs told_frame refl in
            let b = refuted_least fs f in
            let c = told_words in
            let d = some_literal in
            omega arith

-- marks

pub more_marked : (marks : List Bool) (at : ℕ) → at < length marks → (v : ℕ) → bit_at marks v ≡ true → bit_at (set marks at true) v ≡ true
more_marked marks at lt zero e = cc
more_marked marks at lt (suc n) e = elim (cases_eq n at) [
  | inl same ↦ subst (λ (m : ℕ). bit_at (set marks at true) (suc m) ≡ true) (sym same) (get_or-set_same marks at true false lt)
  | inr other ↦ get_or-set_other marks at n true false other ∙ e
]

one_first : (l m : Literal) (ls ms : List Literal) → l ∷ ls ≡ m ∷ ms → l ≡ m
one_first l m ls ms e = cc

pub first_unmarked : (marks : List Bool) (at : ℕ) (c : List Literal) → IsFirstAt c at → bit_at marks (suc at) ≡ false → (first : Literal) (rest : List Literal) → c ≡ first ∷ rest → bit_at marks first.var ≡ false
first_unmarked marks at c h clear first rest e = ap (bit_at marks) (ap (λ (l : Literal). l.var) (one_first first h.first rest h.rest (sym e ∙ h.is)) ∙ h.var) ∙ clear

pub mark_missing : (marks : List Bool) (c : List Literal) → MarkIs marks c mark.Missing → (first : Literal) (rest : List Literal) → c ≡ first ∷ rest → bit_at marks first.var ≡ false
mark_missing marks c h first rest e = go first.var refl
  where
    beyond : (bs : List Bool) (n : ℕ) → length bs ≤ n → slice_index_or bs n false ≡ false
    beyond [] zero le = refl
    beyond [] (suc n) le = refl
    beyond (b ∷ bs) zero le = absurd (omega arith)
    beyond (b ∷ bs) (suc n) le = beyond bs n (omega arith)

    go : (v : ℕ) → first.var ≡ v → bit_at marks v ≡ false
    go zero ve = refl
    go (suc at) ve = elim (cases_lt at (length marks)) [
      | inl lt ↦ absurd (h at lt (record { first = first; rest = rest; is = e; var = ve }))
      | inr le ↦ beyond marks at le
    ]

pub marked_frames : (s : System) (U : ConstraintName → Bool) (lines : List Line) (phi : List Bool) (fs : List Frame) (f : Frame) (at : ℕ) → at < length f.marks → AreFrames s U lines phi (fs ++ f ∷ []) → AreFrames s U lines phi (fs ++ frame_at f f.site f.refuted (set f.marks at true) ∷ [])
marked_frames s U lines phi fs f at lt a =
    frames_at s U lines phi fs f f.site f.refuted (set f.marks at true) (waits_at s U phi lines f f.site f.refuted (set f.marks at true) (λ e. e) (omega arith) (more_marked f.marks at lt) (frames_last s U lines phi fs f a)) a

-- going down to an instance that was solved

module _ (s : System) (U : ConstraintName → Bool) (shaped : IsShaped s) (phi : List Bool) (fs : List Frame) (f : Frame) (old new : Ledger) (ok : IsLedger s U old) (frames : AreFrames s U old.lines phi (fs ++ f ∷ [])) (lt : f.site < length (callees s f.group)) (c : Callee) (face : List Bool) (given : List Literal) (o : Outcome) (is : OutcomeIs s U c.group given old new o) (ce : c ≡ callee s f.group f.site) (fe : face ≡ sigma_by s f.group (bit_at f.bits) f.site) (ge : given ≡ given_for s phi c face) where
  asks : (h : Frame) → h.group ≡ c.group → IsAsking s f h
  asks h e = record { within = lt; group = ap (λ (k : Callee). k.group) (sym ce) ∙ sym e }

  low : c.group ≤ root s
  low = let h = (shaped.there f.group f.site lt).group in let e = ap (λ (k : Callee). k.group) ce in omega arith

  below : c.group < f.group
  below = let h = shaped.below f.group f.site lt in let e = ap (λ (k : Callee). k.group) ce in omega arith

  phi_same : phi_by s (bit_at f.bits) ≡ phi
  phi_same = (frames_last s U old.lines phi fs f frames).asker.phi_is

  module _ (bits : List Bool) (oe : o ≡ outcome.Sat bits) where
    sat : (new ≡ old) × IsSolved s U old.lines c.group given bits
    sat = subst (OutcomeIs s U c.group given old new) oe is

    solved_asker : IsAsker s U old.lines phi c.group bits
    solved_asker =
        kept-asker s U old.lines phi c.group (record { group = c.group; proc = c.proc; bits = bits }) refl
        (made-kept s U phi c face old.lines (subst (λ k. IsThere s k) (sym ce) (shaped.there f.group f.site lt)) (ap length (sym phi_same) ∙ phi_length s (bit_at f.bits))
        (ap length fe ∙ sigma_length s f.group (bit_at f.bits) f.site ∙ ap (callee_parts s) (sym ce)) bits (subst (λ ls. IsSolved s U old.lines c.group ls bits) ge sat.1))

    abbrev h : Frame
    h = frame_of c.group bits []

    -- the instance is not gone into
    pub solved_on : (k : List (List Entry)) (gs : List Frame) → AreKept s U old.lines phi k → gs ≡ fs ++ past f ∷ [] → IsOn s U phi old new k (fs ++ f ∷ []) gs
    solved_on k gs kept e = subst (λ (l : Ledger). IsOn s U phi old l k (fs ++ f ∷ []) gs) (sym sat.0) (passed s U phi old k fs gs f ok frames kept lt e)

    pub entered_on : (k : List (List Entry)) (gs : List Frame) → AreKept s U old.lines phi k → gs ≡ (fs ++ f ∷ []) ++ h ∷ [] → IsOn s U phi old new k (fs ++ f ∷ []) gs
    entered_on k gs kept e = subst (λ (l : Ledger). IsOn s U phi old l k (fs ++ f ∷ []) gs) (sym sat.0) (record {
      extends = extends_none s U old ok;
      frames = subst (λ (xs : List Frame). AreFrames s U old.lines phi xs) (sym e) (frames_more s U old.lines phi fs f h frames low (asks h refl) (waits_now s U phi old.lines h ok.valid solved_asker));
      kept = kept;
      same = ap bottom e ∙ sym (bottom_front (fs ++ f ∷ []) h (some_pushed fs f));
      falls = inr (
        let a : refuted_in gs ≡ refuted_in ((fs ++ f ∷ []) ++ h ∷ []) = ap refuted_in e in let b = refuted_no (fs ++ f ∷ []) h refl in omega arith,
        subst (λ (xs : List Frame). steps_left s xs < steps_left s (fs ++ f ∷ [])) (sym e) (more_steps s shaped fs f h (nested_last s fs f frames.nested) low (asks h refl) refl),
      );
    })

  module _ (n : ℕ) (oe : o ≡ outcome.Conflict n) where
    refused : Solves s U c.group old new × IsDenied new.lines c.group given n
    refused = subst (OutcomeIs s U c.group given old new) oe is

    pub refused_extends : Extends s U old new
    refused_extends = refused.0.extends

    pub refused_frames : AreFrames s U new.lines phi (fs ++ f ∷ [])
    refused_frames = frames_solved s U phi shaped old new c.group fs f refused.0 below frames

    pub refused_kept : (k : List (List Entry)) → AreKept s U old.lines phi k → AreKept s U new.lines phi k
    refused_kept k kept = kept_solved s U phi old new c.group k refused.0 kept

    pub refused_denied : IsDenied new.lines (callee s f.group f.site).group (given_for s (phi_by s (bit_at f.bits)) (callee s f.group f.site) (sigma_by s f.group (bit_at f.bits) f.site)) n
    refused_denied =
        subst (λ (p : List Bool). IsDenied new.lines (callee s f.group f.site).group (given_for s p (callee s f.group f.site) (sigma_by s f.group (bit_at f.bits) f.site)) n) (sym phi_same)
        (subst (λ (k : Callee). IsDenied new.lines k.group (given_for s phi k (sigma_by s f.group (bit_at f.bits) f.site)) n) ce
        (subst (λ (xs : List Bool). IsDenied new.lines c.group (given_for s phi c xs) n) fe
        (subst (λ ls. IsDenied new.lines c.group ls n) ge refused.1)))

-- at a frame like this one

abbrev DeniedAt : System → List Line → ℕ → ℕ → List Bool → ℕ → Type 0
DeniedAt s lines g site bits n = IsDenied lines (callee s g site).group (given_for s (phi_by s (bit_at bits)) (callee s g site) (sigma_by s g (bit_at bits) site)) n

pub denied_as : (s : System) (lines : List Line) (n g h site at : ℕ) (bits others : List Bool) → g ≡ h → site ≡ at → bits ≡ others → DeniedAt s lines g site bits n → DeniedAt s lines h at others n
denied_as s lines n g h site at bits others ge se be d =
    subst (λ (x : List Bool). DeniedAt s lines h at x n) be (subst (λ (x : ℕ). DeniedAt s lines h x bits n) se (subst (λ (x : ℕ). DeniedAt s lines x site bits n) ge d))

pub first_at : (c : List Literal) (l : Literal) (at : ℕ) → 0 < length c → l ≡ get_or c 0 l → l.var ≡ suc at → IsFirstAt c at
first_at [] l at some e v = absurd (omega arith)
first_at (m ∷ c) l at some e v = record { first = m; rest = c; is = refl; var = ap (λ (x : Literal). x.var) (sym e) ∙ v }

-- the whole descent

lex : (a b r t u : ℕ) → b < a → t < r → b * r + t < a * r + u
lex a b r t u lt fits = let h : r * (b + 1) ≤ r * a = mul-le-mul_left r (omega arith) in omega arith

lex_same : (a b r t u : ℕ) → b ≤ a → t < u → b * r + t < a * r + u
lex_same a b r t u le lt = let h : r * b ≤ r * a = mul-le-mul_left r le in omega arith

abbrev pub measure : System → Ledger → List Frame → ℕ
measure s l fs = (l.words + refuted_in fs) * room (suc (root s)) + steps_left s fs

pub measure_falls : (s : System) → IsShaped s → (old new : Ledger) (fs gs : List Frame) → AreNested s gs → Falls s old new fs gs → measure s new gs < measure s old fs
measure_falls s shaped old new fs gs nested h = ⊎_elim
    (λ (i : new.words + refuted_in gs < old.words + refuted_in fs). lex (old.words + refuted_in fs) (new.words + refuted_in gs) (room (suc (root s))) (steps_left s gs) (steps_left s fs) i (steps_fit s shaped gs nested))
    (λ (i : (new.words + refuted_in gs ≤ old.words + refuted_in fs) × (steps_left s gs < steps_left s fs)). lex_same (old.words + refuted_in fs) (new.words + refuted_in gs) (room (suc (root s))) (steps_left s gs) (steps_left s fs) i.0 i.1) h

pub descended : (s : System) (U : ConstraintName → Bool) (phi top : List Bool) (first old new : Ledger) (k : List (List Entry)) (fs : List Frame) (o : Asked) → Extends s U first old → bottom fs ≡ Some (frame_of (root s) top []) → old.words + refuted_in fs ≤ first.words → IsEnded s U phi old new k fs o → DescendedIs s U phi top first new k o
descended s U phi top first old new k fs asked.Kept e at words h = record { extends = extends-trans s U first old new e h.extends; kept = h.kept; asker = h.asker (frame_of (root s) top []) at }
descended s U phi top first old new k fs asked.Carried e at words h = record { extends = extends-trans s U first old new e h.extends; fewer = let a = h.fewer in omega arith; kept = h.kept }
descended s U phi top first old new k fs (asked.Spent line) e at words h = (extends-trans s U first old new e h.0, h.1)

-- as the descent is told

pub descended_kept : (s : System) (U : ConstraintName → Bool) (phi top : List Bool) (old new : Ledger) (k : List (List Entry)) (o : Asked) → o ≡ asked.Kept → DescendedIs s U phi top old new k o → IsDescended s U phi top old new k
descended_kept s U phi top old new k o oe is = subst (DescendedIs s U phi top old new k) oe is

pub descended_turned : (s : System) (U : ConstraintName → Bool) (phi top : List Bool) (first old new : Ledger) (k : List (List Entry)) (o : Asked) → o ≡ asked.Carried → DescendedIs s U phi top old new k o → Extends s U first old → IsTurned s U phi first new k
descended_turned s U phi top first old new k o oe is e =
    let t : IsTurned s U phi old new k = subst (DescendedIs s U phi top old new k) oe is in
    record {
      extends = extends-trans s U first old new e t.extends;
      fewer = let a = fewer-words s U first old e in let b = t.fewer in omega arith;
      kept = t.kept;
    }

pub descended_over : (s : System) (U : ConstraintName → Bool) (phi top : List Bool) (first old new : Ledger) (k : List (List Entry)) (o : Asked) (line : Line) → o ≡ asked.Spent line → DescendedIs s U phi top old new k o → Extends s U first old → Extends s U first new × IsOver s U new line
descended_over s U phi top first old new k o line oe is e =
    let here : Extends s U old new × IsOver s U new line = subst (DescendedIs s U phi top old new k) oe is in
    (extends-trans s U first old new e here.0, here.1)
