-- A descent: its frames, what it keeps, and its steps.
use Rattle.std.proofs.Common.{◌≡◌, ℕ, zero, suc, ◌+◌, ◌-◌, ◌*◌, ◌<◌, ◌≤◌, ◌^◌, ◌⊎◌, inl, inr, ⊎_elim, Bool, true, false, List, [], ◌∷◌, ◌++◌, Some, refl, sym, ap, ◌∙◌, subst, arith, length, slice_get, length-append, append_assoc}
use Rattle.std.proofs.Math.Nat.{mul-le-mul_left}
use Rattle.std.proofs.lemmas.Bool.{cases_eq}
use Rattle.zo_core.specs.Literals.{Literal}
use Rattle.zo_core.specs.Truth.{clause_true}
use Rattle.conflict_proof.specs.declared.names.ConstraintName.{ConstraintName}
use Rattle.conflict_proof.specs.declared.derivation.Line.{Line}
use Rattle.verdict_meaning.specs.declared.callee.Callee.{Callee}
use Rattle.verdict_meaning.specs.Systems.{System, root, callee, callees, callee_parts}
use Rattle.verdict_meaning.specs.Solutions.{sigma_by}
use Rattle.verdict_meaning.specs.Certificates.{bit_at}
use Rattle.verdict_meaning.specs.Derivations.{IsValidIn, InstLinesAreTrue}
use Rattle.verdict_meaning.specs.Laws.{LocalLinesAreTrue}
use Rattle.call_search.specs.declared.entries.Entry.{Entry}
use Rattle.call_search.specs.declared.descending.Frame.{Frame}
use Rattle.call_search.specs.Shapes.{IsShaped, before_site}
use Rattle.call_search.specs.Sites.{IsOfSite, IsSaidAt, HasOther}
use Rattle.call_search.specs.Ledgers.{IsNew}
use Rattle.call_search.specs.Entries.{in_group, IsKept, IsPut, IsSized, AreKept, AreSized}
use Rattle.call_search.specs.Answers.{IsAsker}
use Rattle.call_search.specs.Frames.{frame_of, frame_at, past, IsAsking, AreNested, SpeaksBefore, IsMarked, WasSaid, IsToldTo, IsWaiting, AreFrames, IsHandedOn, IsFinished, room, steps_from, steps_after, steps_left}
use Rattle.call_search.proofs.Lists.{some_one, push_cases, push_same, get_append, get_within, append_cases, append_none}
use Rattle.call_search.proofs.Faces.{site_next}
use Rattle.call_search.proofs.Carry.{Contained-P}
use Rattle.call_search.proofs.Asking.{phi_length, sigma_length}

-- the element before the last one, where that is pushed
before_last : (fs : List Frame) (h f : Frame) (n : ℕ) → n < length fs → slice_get (fs ++ h ∷ []) n ≡ Some f → slice_get fs n ≡ Some f
before_last fs h f n lt at = ⊎_elim (λ (i : slice_get fs n ≡ Some f). i) (λ (i : (n ≡ length fs) × (h ≡ f)). let e : n ≡ length fs = i.0 in absurd (omega arith)) (push_cases fs h f n at)

-- frames

pub nested_front : (s : System) (fs : List Frame) (f : Frame) → AreNested s (fs ++ f ∷ []) → AreNested s fs
nested_front s fs f a = record {
  group = λ n x at. a.group n x (get_append fs (f ∷ []) x n at);
  asking = λ n x y p q. a.asking n x y (get_append fs (f ∷ []) x n p) (get_append fs (f ∷ []) y (suc n) q);
}

pub nested_last : (s : System) (fs : List Frame) (f : Frame) → AreNested s (fs ++ f ∷ []) → f.group ≤ root s
nested_last s fs f a = a.group (length fs) f (push_same fs f)

-- what the last frame before another one asks for
abbrev AsksFor : System → List Frame → Frame → Type 0
AsksFor s fs h = (n : ℕ) (f : Frame) → suc n ≡ length fs → slice_get fs n ≡ Some f → IsAsking s f h

nested_asks : (s : System) (fs : List Frame) (h : Frame) → AreNested s (fs ++ h ∷ []) → AsksFor s fs h
nested_asks s fs h a n f e at = a.asking n f h (get_append fs (h ∷ []) f n at) (subst (λ k. slice_get (fs ++ h ∷ []) k ≡ Some h) (sym e) (push_same fs h))

nested_push : (s : System) (fs : List Frame) (h : Frame) → AreNested s fs → h.group ≤ root s → AsksFor s fs h → AreNested s (fs ++ h ∷ [])
nested_push s fs h a le asks = record {
  group = λ n f at. ⊎_elim (λ (i : slice_get fs n ≡ Some f). a.group n f i) (λ (i : (n ≡ length fs) × (h ≡ f)). subst (λ (x : Frame). x.group ≤ root s) i.1 le) (push_cases fs h f n at);
  asking = λ n f g p q. ⊎_elim
      (λ (i : slice_get fs (suc n) ≡ Some g). a.asking n f g (before_last fs h f n (let w = get_within fs g (suc n) i in omega arith) p) i)
      (λ (i : (suc n ≡ length fs) × (h ≡ g)). let e : suc n ≡ length fs = i.0 in subst (λ (x : Frame). IsAsking s f x) i.1 (asks n f e (before_last fs h f n (omega arith) p)))
      (push_cases fs h g (suc n) q);
}

-- the last frame's group is below those of the others
module _ (s : System) (shaped : IsShaped s) where
  abbrev Chain : List Frame → Type 0
  Chain fs = (n : ℕ) (f h : Frame) → slice_get fs n ≡ Some f → slice_get fs (suc n) ≡ Some h → IsAsking s f h

  one_below : (f h : Frame) → IsAsking s f h → h.group < f.group
  one_below f h a = let b = shaped.below f.group f.site a.within in let e = a.group in omega arith

  first_above : (f : Frame) (fs : List Frame) (h : Frame) → Chain (f ∷ (fs ++ h ∷ [])) → h.group < f.group
  first_above f [] h chain = one_below f h (chain 0 f h refl refl)
  first_above f (g ∷ fs) h chain =
      let a : h.group < g.group = first_above g fs h (λ n. chain (suc n)) in
      let b : g.group < f.group = one_below f g (chain 0 f g refl refl) in
      omega arith

  all_above : (fs : List Frame) (h : Frame) → Chain (fs ++ h ∷ []) → (n : ℕ) (f : Frame) → slice_get fs n ≡ Some f → h.group < f.group
  all_above [] h chain n f at = cc
  all_above (g ∷ fs) h chain zero f at = subst (λ (x : Frame). h.group < x.group) (some_one g f at) (first_above g fs h chain)
  all_above (g ∷ fs) h chain (suc n) f at = all_above fs h (λ m. chain (suc m)) n f at

  pub above : (fs : List Frame) (h : Frame) → AreNested s (fs ++ h ∷ []) → (n : ℕ) (f : Frame) → slice_get fs n ≡ Some f → h.group < f.group
  above fs h a = all_above fs h a.asking

-- a site more

pub before_more : (s : System) (g site : ℕ) → site < length (callees s g) → before_site s g site ≤ before_site s g (site + 1)
before_more s g site lt = let e = site_next s g site lt in omega arith

said_later : (s : System) (f : Frame) (site : ℕ) (r : Bool) (marks : List Bool) (c : List Literal) → before_site s f.group f.site ≤ before_site s f.group site → ((v : ℕ) → bit_at f.marks v ≡ true → bit_at marks v ≡ true) → WasSaid s f c → WasSaid s (frame_at f site r marks) c
said_later s f site r marks c le more h = ⊎_elim
    (λ (i : SpeaksBefore s f.group f.site c). inl (record { literal = i.literal; there = i.there; above = i.above; within = let w = i.within in omega arith }))
    (λ (i : IsMarked s f.marks c). inr (record { first = i.first; rest = i.rest; is = i.is; marked = more i.first.var i.marked; fields = i.fields })) h

clash : true ≡ false → ⊥
clash e = cc

module _ (s : System) (U : ConstraintName → Bool) (phi : List Bool) where
  -- a frame that waits

  pub waits_now : (lines : List Line) (f : Frame) → IsValidIn s U lines → IsAsker s U lines phi f.group f.bits → IsWaiting s U lines phi f
  waits_now lines f valid asker = record { before = lines; more = []; is = sym (append_none lines); valid = valid; asker = asker; told = λ n x at e. cc }

  pub waits_more : (lines new ls : List Line) (f : Frame) → new ≡ lines ++ ls → ((n : ℕ) (x : Line) → slice_get ls n ≡ Some x → x.group ≡ f.group → IsToldTo s f x) → IsWaiting s U lines phi f → IsWaiting s U new phi f
  waits_more lines new ls f is told w = record {
    before = w.before;
    more = w.more ++ ls;
    is = is ∙ ap (λ (xs : List Line). xs ++ ls) w.is ∙ append_assoc w.before w.more ls;
    valid = w.valid;
    asker = w.asker;
    told = λ n x at e. ⊎_elim (λ (i : slice_get w.more n ≡ Some x). w.told n x i e) (λ (i : (m : ℕ) × (slice_get ls m ≡ Some x)). told i.0 x i.1 e) (append_cases w.more ls x n at);
  }

  pub waits_at : (lines : List Line) (f : Frame) (site : ℕ) (r : Bool) (marks : List Bool) → (f.refuted ≡ true → r ≡ true) → before_site s f.group f.site ≤ before_site s f.group site → ((v : ℕ) → bit_at f.marks v ≡ true → bit_at marks v ≡ true) → IsWaiting s U lines phi f → IsWaiting s U lines phi (frame_at f site r marks)
  waits_at lines f site r marks keep le more w = record {
    before = w.before;
    more = w.more;
    is = w.is;
    valid = w.valid;
    asker = w.asker;
    told = λ n x at e. let h : IsToldTo s f x = w.told n x at e in record { refuted = keep h.refuted; said = said_later s f site r marks x.lits le more h.said };
  }

  -- it still meets the lines, where none was carried to it
  pub waits_asker : (lines : List Line) (f : Frame) → f.refuted ≡ false → IsWaiting s U lines phi f → IsAsker s U lines phi f.group f.bits
  waits_asker lines f untold w = record { size = w.asker.size; local = w.asker.local; phi_is = w.asker.phi_is; carried = still }
    where
      still : InstLinesAreTrue lines f.group (bit_at f.bits)
      still zero x at group by = cc
      still (suc n) x at group by = ⊎_elim
          (λ (i : slice_get w.before n ≡ Some x). w.asker.carried (suc n) x i group by)
          (λ (i : (m : ℕ) × (slice_get w.more m ≡ Some x)). absurd (clash (sym (w.told i.0 x i.1 group).refuted ∙ untold)))
          (append_cases w.before w.more x n (ap (λ (ls : List Line). slice_get ls n) (sym w.is) ∙ at))

  -- what its bits make false is a new line, where it differs from those that were carried to it
  pub waits_new : LocalLinesAreTrue → (lines : List Line) (f : Frame) (line : Line) → IsWaiting s U lines phi f → IsSaidAt s U lines f.group f.site f.bits line
      → HasOther s.fields line.lits ⊎ ((first : Literal) (rest : List Literal) → line.lits ≡ first ∷ rest → bit_at f.marks first.var ≡ false) → IsNew lines line.group line.lits
  waits_new law lines f line w said other zero x at eg ec = cc
  waits_new law lines f line w said other (suc n) x at eg ec = ⊎_elim
      (λ (i : slice_get w.before n ≡ Some x). clash (sym (law s U w.before f.group (bit_at f.bits) w.valid w.asker.local w.asker.carried (suc n) x i (eg ∙ said.group)) ∙ ap (clause_true (bit_at f.bits)) ec ∙ said.denied))
      (λ (i : (m : ℕ) × (slice_get w.more m ≡ Some x)). told (subst (λ (c : List Literal). WasSaid s f c) ec (w.told i.0 x i.1 (eg ∙ said.group)).said))
      (append_cases w.before w.more x n (ap (λ (ls : List Line). slice_get ls n) (sym w.is) ∙ at))
    where
      told : WasSaid s f line.lits → ⊥
      told h = ⊎_elim
          (λ (i : SpeaksBefore s f.group f.site line.lits). ⊎_elim
          (λ (j : i.literal.var ≤ s.fields). let z : ⊥ = (let k = i.above in omega arith) in z)
          (λ (j : (before_site s f.group f.site < i.literal.var) × (i.literal.var ≤ before_site s f.group (f.site + 1))). let z : ⊥ = (let k = i.within in let m = j.0 in omega arith) in z)
          (Contained-P (λ (l : Literal). IsOfSite s f.group f.site l.var) line.lits i.literal said.here i.there))
          (λ (i : IsMarked s f.marks line.lits). ⊎_elim
          (λ (j : HasOther s.fields line.lits). let z : ⊥ = (let k : j.literal.var ≤ s.fields = Contained-P (λ (l : Literal). l.var ≤ s.fields) line.lits j.literal i.fields j.there in let m = j.above in omega arith) in z)
          (λ (j : (first : Literal) (rest : List Literal) → line.lits ≡ first ∷ rest → bit_at f.marks first.var ≡ false). clash (sym i.marked ∙ j i.first i.rest i.is))
          other) h

module _ (s : System) (U : ConstraintName → Bool) (lines : List Line) (phi : List Bool) where
  pub frames_front : (fs : List Frame) (f : Frame) → AreFrames s U lines phi (fs ++ f ∷ []) → AreFrames s U lines phi fs
  frames_front fs f a = record { nested = nested_front s fs f a.nested; waiting = λ n x at. a.waiting n x (get_append fs (f ∷ []) x n at) }

  pub frames_last : (fs : List Frame) (f : Frame) → AreFrames s U lines phi (fs ++ f ∷ []) → IsWaiting s U lines phi f
  frames_last fs f a = a.waiting (length fs) f (push_same fs f)

  frames_push : (fs : List Frame) (h : Frame) → AreFrames s U lines phi fs → h.group ≤ root s → AsksFor s fs h → IsWaiting s U lines phi h → AreFrames s U lines phi (fs ++ h ∷ [])
  frames_push fs h a le asks waiting = record {
    nested = nested_push s fs h a.nested le asks;
    waiting = λ n f at. ⊎_elim (λ (i : slice_get fs n ≡ Some f). a.waiting n f i) (λ (i : (n ≡ length fs) × (h ≡ f)). subst (λ (x : Frame). IsWaiting s U lines phi x) i.1 waiting) (push_cases fs h f n at);
  }

  -- the first frame, that of the root
  pub frames_first : (top marks : List Bool) → IsValidIn s U lines → IsAsker s U lines phi (root s) top → AreFrames s U lines phi (frame_of (root s) top marks ∷ [])
  frames_first top marks valid a = frames_push [] (frame_of (root s) top marks) none (omega arith) (λ n f e at. cc) (waits_now s U phi lines (frame_of (root s) top marks) valid a)
    where
      none : AreFrames s U lines phi []
      none = record { nested = record { group = λ n f at. cc; asking = λ n f h p q. cc }; waiting = λ n f at. cc }

  -- the last frame goes on
  pub frames_at : (fs : List Frame) (f : Frame) (site : ℕ) (r : Bool) (marks : List Bool) → IsWaiting s U lines phi (frame_at f site r marks) → AreFrames s U lines phi (fs ++ f ∷ []) → AreFrames s U lines phi (fs ++ frame_at f site r marks ∷ [])
  frames_at fs f site r marks w a =
      frames_push fs (frame_at f site r marks) (frames_front fs f a) (nested_last s fs f a.nested)
      (λ n g e at. let h : IsAsking s g f = nested_asks s fs f a.nested n g e at in record { within = h.within; group = h.group }) w

  -- the last frame's site is gone past
  pub frames_past : (fs : List Frame) (f : Frame) → f.site < length (callees s f.group) → AreFrames s U lines phi (fs ++ f ∷ []) → AreFrames s U lines phi (fs ++ past f ∷ [])
  frames_past fs f lt a = frames_at fs f (f.site + 1) f.refuted f.marks (waits_at s U phi lines f (f.site + 1) f.refuted f.marks (λ e. e) (before_more s f.group f.site lt) (λ v e. e) (frames_last fs f a)) a

  -- a frame is put on the others, for which the last one's site asks
  pub frames_more : (fs : List Frame) (f h : Frame) → AreFrames s U lines phi (fs ++ f ∷ []) → h.group ≤ root s → IsAsking s f h → IsWaiting s U lines phi h → AreFrames s U lines phi ((fs ++ f ∷ []) ++ h ∷ [])
  frames_more fs f h a le asking waiting = frames_push (fs ++ f ∷ []) h a le (λ n g e at. only n g e at) waiting
    where
      only : (n : ℕ) (g : Frame) → suc n ≡ length (fs ++ f ∷ []) → slice_get (fs ++ f ∷ []) n ≡ Some g → IsAsking s g h
      only n g e at =
          let l : length (fs ++ f ∷ []) ≡ length fs + 1 = length-append fs (f ∷ []) in
          let m : length fs ≡ n = omega arith in
          subst (λ (x : Frame). IsAsking s x h) (some_one f g (sym (push_same fs f) ∙ ap (λ k. slice_get (fs ++ f ∷ []) k) m ∙ at)) asking

  -- an instance is put to those that are kept
  kept_put : (k k2 : List (List Entry)) (g : ℕ) (e : Entry) → AreKept s U lines phi k → IsKept s U lines phi e → e.group ≡ g → IsPut g e k k2 → AreKept s U lines phi k2
  kept_put k k2 g e kept new same put = record {
    size = put.size ∙ kept.size;
    kept = λ h n x at. (each h n x at).0;
    group = λ h n x at. (each h n x at).1;
  }
    where
      each : (h n : ℕ) (x : Entry) → slice_get (in_group k2 h) n ≡ Some x → IsKept s U lines phi x × (x.group ≡ h)
      each h n x at = elim (cases_eq h g) [
        | inl here ↦ ⊎_elim
            (λ (i : slice_get (in_group k g) n ≡ Some x). (kept.kept g n x i, kept.group g n x i ∙ sym here))
            (λ (i : (n ≡ length (in_group k g)) × (e ≡ x)). (subst (λ (y : Entry). IsKept s U lines phi y) i.1 new, ap (λ (y : Entry). y.group) (sym i.1) ∙ same ∙ sym here))
            (push_cases (in_group k g) e x n (ap (λ (es : List Entry). slice_get es n) (sym put.here) ∙ subst (λ m. slice_get (in_group k2 m) n ≡ Some x) here at))
        | inr other ↦ let old : slice_get (in_group k h) n ≡ Some x = ap (λ (es : List Entry). slice_get es n) (sym (put.others h other)) ∙ at in (kept.kept h n x old, kept.group h n x old)
      ]

  -- the last frame is finished
  module _ (shaped : IsShaped s) (k k2 : List (List Entry)) (fs gs : List Frame) (f : Frame) (frames : AreFrames s U lines phi (fs ++ f ∷ [])) (kept : AreKept s U lines phi k) (told : f.refuted ≡ false) where
    module _ (h : IsHandedOn s f.bits k k2 fs gs) where
      abbrev c : Callee
      c = callee s h.asker.group h.asker.site

      whole : AreFrames s U lines phi ((h.before ++ h.asker ∷ []) ++ f ∷ [])
      whole = subst (λ (xs : List Frame). AreFrames s U lines phi (xs ++ f ∷ [])) h.is frames

      asking : IsAsking s h.asker f
      asking = nested_asks s (h.before ++ h.asker ∷ []) f whole.nested (length h.before) h.asker (let l : length (h.before ++ h.asker ∷ []) ≡ length h.before + 1 = length-append h.before (h.asker ∷ []) in omega arith) (push_same h.before h.asker)

      handed_frames : AreFrames s U lines phi gs
      handed_frames = subst (λ (xs : List Frame). AreFrames s U lines phi xs) (sym h.now) (frames_past h.before h.asker asking.within (frames_front (h.before ++ h.asker ∷ []) f whole))

      abbrev entry : Entry
      entry = record { group = c.group; proc = c.proc; bits = f.bits }

      its_asker : IsAsker s U lines phi c.group f.bits
      its_asker = subst (λ g. IsAsker s U lines phi g f.bits) (sym asking.group) (waits_asker s U phi lines f told (frames_last fs f frames))

      its_kept : IsKept s U lines phi entry
      its_kept = record { there = shaped.there h.asker.group h.asker.site asking.within; size = its_asker.size; local = its_asker.local; phi_is = its_asker.phi_is; carried = its_asker.carried }

      handed_kept : AreKept s U lines phi k2
      handed_kept = kept_put k k2 c.group entry kept its_kept refl h.put

    pub finished_frames : IsFinished s f.bits k k2 fs gs → AreFrames s U lines phi gs
    finished_frames h = ⊎_elim (λ (i : IsHandedOn s f.bits k k2 fs gs). handed_frames i)
        (λ (i : (fs ≡ []) × (gs ≡ []) × (k2 ≡ k)). subst (λ (xs : List Frame). AreFrames s U lines phi xs) (i.0 ∙ sym i.1) (frames_front fs f frames)) h

    pub finished_kept : IsFinished s f.bits k k2 fs gs → AreKept s U lines phi k2
    finished_kept h = ⊎_elim (λ (i : IsHandedOn s f.bits k k2 fs gs). handed_kept i)
        (λ (i : (fs ≡ []) × (gs ≡ []) × (k2 ≡ k)). subst (λ (t : List (List Entry)). AreKept s U lines phi t) (sym i.2) kept) h

-- what a frame asks for

-- the site of the one before the last has a next number
pub site_fits : (s : System) → IsShaped s → (before fs : List Frame) (asker f : Frame) → fs ≡ before ++ asker ∷ [] → AreNested s (fs ++ f ∷ []) → asker.site + 1 < 2 ^ 32
site_fits s shaped before fs asker f e a =
    let whole : AreNested s ((before ++ asker ∷ []) ++ f ∷ []) = subst (λ (xs : List Frame). AreNested s (xs ++ f ∷ [])) e a in
    let l : length (before ++ asker ∷ []) ≡ length before + 1 = length-append before (asker ∷ []) in
    let asking : IsAsking s asker f = nested_asks s (before ++ asker ∷ []) f whole (length before) asker (omega arith) (push_same before asker) in
    let few = shaped.few asker.group (nested_last s before asker (nested_front s (before ++ asker ∷ []) f whole)) in
    let within = asking.within in
    omega arith

pub frame_phi : (s : System) (U : ConstraintName → Bool) (lines : List Line) (phi : List Bool) (fs : List Frame) (f : Frame) → AreFrames s U lines phi (fs ++ f ∷ []) → length phi ≡ s.fields
frame_phi s U lines phi fs f a = ap length (sym (frames_last s U lines phi fs f a).asker.phi_is) ∙ phi_length s (bit_at f.bits)

pub face_length : (s : System) (g : ℕ) (bits : List Bool) (site : ℕ) (c : Callee) (face : List Bool) → c ≡ callee s g site → face ≡ sigma_by s g (bit_at bits) site → length face ≡ s.parts c.proc
face_length s g bits site c face ce fe = ap length fe ∙ sigma_length s g (bit_at bits) site ∙ ap (callee_parts s) (sym ce)

pub sized_in : (s : System) (t : List (List Entry)) (g : ℕ) (es : List Entry) → AreSized s t → es ≡ in_group t g → (n : ℕ) (e : Entry) → slice_get es n ≡ Some e → IsSized s e
sized_in s t g es sized is n e at = sized g n e (ap (λ (xs : List Entry). slice_get xs n) (sym is) ∙ at)

-- steps

room_some : (g : ℕ) → 0 < room g
room_some zero = omega arith
room_some (suc g) = let h = room_some g in omega arith

room_more : (h g : ℕ) → h ≤ g → room h ≤ room g
room_more h zero le = let e : h ≡ 0 = omega arith in subst (λ k. room k ≤ room 0) (sym e) (omega arith)
room_more h (suc g) le = elim (cases_eq h (suc g)) [
  | inl same ↦ subst (λ k. room k ≤ room (suc g)) (sym same) (omega arith)
  | inr other ↦ let below : room h ≤ room g = room_more h g (omega arith) in omega arith
]

-- all sites of a group and one step more take less than a site above it
sites_fit : (n h g : ℕ) → n < 2 ^ 32 → h < g → n * room h + 1 < room g
sites_fit n h zero lt below = absurd (omega arith)
sites_fit n h (suc g) lt below =
    let more : room h ≤ room g = room_more h g (omega arith) in
    let a : n * room h ≤ n * room g = mul-le-mul_left n more in
    let b : room g * n ≤ room g * (2 ^ 32 - 1) = mul-le-mul_left (room g) (omega arith) in
    let some : 0 < room g = room_some g in
    omega arith

steps_some : (s : System) (f : Frame) → 0 < steps_from s f
steps_some s f = omega arith

-- a site fewer
site_less : (n k r : ℕ) → k < n → (n - k) * r ≡ (n - suc k) * r + r
site_less n k r lt = let e : n - k ≡ suc (n - suc k) = omega arith in ap (λ m. m * r) e ∙ omega arith

steps_one : (s : System) (f : Frame) → f.site < length (callees s f.group) → steps_from s f ≡ steps_after s f + room f.group
steps_one s f lt = let e = site_less (length (callees s f.group)) f.site (room f.group) lt in omega arith

steps_past : (s : System) (f : Frame) → steps_from s (past f) ≡ steps_after s f
steps_past s f = let e : length (callees s f.group) - (f.site + 1) ≡ length (callees s f.group) - suc f.site = omega arith in ap (λ n. n * room f.group + 1) e

-- those of all frames but the last
abbrev steps_before : System → List Frame → ℕ
steps_before s [] = 0
steps_before s (f ∷ fs) = steps_after s f + steps_before s fs

pub steps_with : (s : System) (fs : List Frame) (f : Frame) → steps_left s (fs ++ f ∷ []) ≡ steps_before s fs + steps_from s f
steps_with s [] f = omega arith
steps_with s (g ∷ []) f = omega arith
steps_with s (g ∷ (h ∷ fs)) f = let r : steps_left s (h ∷ (fs ++ f ∷ [])) ≡ steps_after s h + steps_before s fs + steps_from s f = steps_with s (h ∷ fs) f in omega arith

before_with : (s : System) (fs : List Frame) (f : Frame) → steps_before s (fs ++ f ∷ []) ≡ steps_before s fs + steps_after s f
before_with s [] f = omega arith
before_with s (g ∷ fs) f = let r = before_with s fs f in omega arith

pub past_steps : (s : System) (fs gs : List Frame) (f : Frame) (n : ℕ) → n ≡ length (callees s f.group) → f.site < n → gs ≡ fs ++ past f ∷ [] → steps_left s gs < steps_left s (fs ++ f ∷ [])
past_steps s fs gs f n ne lt is =
    let a = steps_with s fs f in
    let b : steps_left s gs ≡ steps_before s fs + steps_from s (past f) = ap (steps_left s) is ∙ steps_with s fs (past f) in
    let c = steps_past s f in
    let d = steps_one s f (omega arith) in
    let e = room_some f.group in
    omega arith

pub finished_steps : (s : System) (k k2 : List (List Entry)) (fs gs : List Frame) (f : Frame) → IsFinished s f.bits k k2 fs gs → steps_left s gs < steps_left s (fs ++ f ∷ [])
finished_steps s k k2 fs gs f h = ⊎_elim (λ (i : IsHandedOn s f.bits k k2 fs gs). handed i) (λ (i : (fs ≡ []) × (gs ≡ []) × (k2 ≡ k)). last i.1) h
  where
    last : gs ≡ [] → steps_left s gs < steps_left s (fs ++ f ∷ [])
    last e =
        let a : steps_left s gs ≡ 0 = ap (steps_left s) e in
        let b = steps_with s fs f in
        let c = steps_some s f in
        omega arith

    handed : IsHandedOn s f.bits k k2 fs gs → steps_left s gs < steps_left s (fs ++ f ∷ [])
    handed i =
        let a : steps_left s gs ≡ steps_before s i.before + steps_from s (past i.asker) = ap (steps_left s) i.now ∙ steps_with s i.before (past i.asker) in
        let b = steps_past s i.asker in
        let c : steps_left s (fs ++ f ∷ []) ≡ steps_before s fs + steps_from s f = steps_with s fs f in
        let d : steps_before s fs ≡ steps_before s i.before + steps_after s i.asker = ap (steps_before s) i.is ∙ before_with s i.before i.asker in
        let e = steps_some s f in
        omega arith

pub more_steps : (s : System) → IsShaped s → (fs : List Frame) (f h : Frame) → f.group ≤ root s → h.group ≤ root s → IsAsking s f h → h.site ≡ 0 → steps_left s ((fs ++ f ∷ []) ++ h ∷ []) < steps_left s (fs ++ f ∷ [])
more_steps s shaped fs f h fg hg asking first =
    let a = steps_with s (fs ++ f ∷ []) h in
    let b = before_with s fs f in
    let c = steps_with s fs f in
    let d = steps_one s f asking.within in
    let below : h.group < f.group = let m = shaped.below f.group f.site asking.within in let e = asking.group in omega arith in
    let few : length (callees s h.group) < 2 ^ 32 = shaped.few h.group hg in
    let e : length (callees s h.group) * room h.group + 1 < room f.group = sites_fit (length (callees s h.group)) h.group f.group few below in
    let n : length (callees s h.group) - h.site ≡ length (callees s h.group) = omega arith in
    let g : steps_from s h ≡ length (callees s h.group) * room h.group + 1 = ap (λ m. m * room h.group + 1) n in
    omega arith

-- all steps that are left fit into the room above the first frame's group

from_fits : (s : System) (f : Frame) → length (callees s f.group) < 2 ^ 32 → steps_from s f < room (suc f.group)
from_fits s f few =
    let a : room f.group * (length (callees s f.group) - f.site) ≤ room f.group * (2 ^ 32 - 1) = mul-le-mul_left (room f.group) (omega arith) in
    let some : 0 < room f.group = room_some f.group in
    omega arith

steps_below : (s : System) → IsShaped s → (f : Frame) (fs : List Frame) → AreNested s (f ∷ fs) → steps_left s (f ∷ fs) < room (suc f.group)
steps_below s shaped f [] a = from_fits s f (shaped.few f.group (a.group 0 f refl))
steps_below s shaped f (h ∷ fs) a =
    let rest : steps_left s (h ∷ fs) < room (suc h.group) = steps_below s shaped h fs (record { group = λ n. a.group (suc n); asking = λ n. a.asking (suc n) }) in
    let asking : IsAsking s f h = a.asking 0 f h refl refl in
    let below : h.group < f.group = let m = shaped.below f.group f.site asking.within in let e = asking.group in omega arith in
    let more : room (suc h.group) ≤ room f.group = room_more (suc h.group) f.group (omega arith) in
    let one = steps_one s f asking.within in
    let fits = from_fits s f (shaped.few f.group (a.group 0 f refl)) in
    omega arith

pub steps_fit : (s : System) → IsShaped s → (fs : List Frame) → AreNested s fs → steps_left s fs < room (suc (root s))
steps_fit s shaped [] a = room_some (suc (root s))
steps_fit s shaped (f ∷ fs) a =
    let below = steps_below s shaped f fs a in
    let more : room (suc f.group) ≤ room (suc (root s)) = room_more (suc f.group) (suc (root s)) (let le = a.group 0 f refl in omega arith) in
    omega arith
