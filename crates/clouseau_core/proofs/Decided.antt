-- Where nothing is in the way, there is a verdict.
use Rattle.std.proofs.Common.{◌≡◌, ◌⊎◌, inl, inr, ℕ, ◌≤◌, List, length, Option, None, Some, subst, arith}
use Rattle.io_edge.specs.Held.{Held, Untold, Absent, Whole}
use Rattle.io_edge.specs.Faults.{Rose}
use Rattle.io_edge.specs.Reading.{IsContent}
use Rattle.transfer_rules.specs.Programs.{Parts}
use Rattle.source_program.specs.declared.refusal.Refusal.{Refusal}
use Rattle.source_program.specs.Sources.{IsCause}
use Rattle.source_program.specs.Loading as loading
use Rattle.source_program.specs.Loading.{IsLonger, IsRefusedFile}
use Rattle.command_words.specs.Asked.{Task, check, prove, verify, sample, Asked, asked_command}
use Rattle.clouseau_core.specs.declared.report.Verdict.{Verdict}
use Rattle.clouseau_core.specs.declared.way.Way.{Way}
use Rattle.clouseau_core.specs.Judged.{IsJudged, accepted, conflict, undecided}
use Rattle.clouseau_core.specs.Answers as answers
use Rattle.clouseau_core.specs.Answers.{IsUnloaded, IsUnread, IsVerdictOnText, IsOnFile, IsTextAnswer, IsOnText, IsOnSample, IsDone, IsAnswer}
use Rattle.clouseau_core.specs.Report.{Output, IsReported, given, out_broke, err_broke}
use Rattle.clouseau_core.specs.Headline.{HoldsSource, HoldsText, IsThere, NoFaults, IsOnSource, IsVerdictOf, IsDecided, IsOnWords}
use Rattle.clouseau_core.specs.Headline as headline

-- what is held and told is not absent
not_absent : (h : Held) (bytes : List ℕ) → h ≡ Whole bytes → h ≡ Absent → ⊥
not_absent h bytes told absent = cc

not_longer : (h : Held) (bytes : List ℕ) (most : ℕ) → h ≡ Whole bytes → length bytes ≤ most → IsLonger h most → ⊥
not_longer h bytes most told short longer =
    let less = subst (λ (k : Held). IsLonger k most) told longer in
    omega (arith, less, short)

content_is : (h : Held) (bytes other : List ℕ) → h ≡ Whole bytes → IsContent h other → other ≡ bytes
content_is h bytes other told is = subst (λ (k : Held). IsContent k other) told is

not_refused : (h : Held) (name : List ℕ) (r : Refusal) (line : List ℕ) → HoldsSource h → IsRefusedFile h name r line → ⊥
not_refused h name r line source (loading.too_long longer) = not_longer h source.bytes 4194304 source.told source.short longer
not_refused h name r line source (loading.refused bytes s content short cause) =
    source.allowed s (subst (λ (bs : List ℕ). IsCause bs s) (content_is h source.bytes bytes source.told content) cause)

judged_is : (w : Way) (budget : ℕ) (p : Parts) (v : Verdict) (text : List ℕ) → IsJudged w budget p v text → IsOnSource v
judged_is w budget p v text (accepted c t is told) = tt
judged_is w budget p v text (conflict d names t is told) = tt
judged_is w budget p v text (undecided d t is told) = tt

memory_is : (task : Task) → IsVerdictOf task Verdict.NoMemory
memory_is (check name) = tt
memory_is (prove name) = tt
memory_is (verify file name) = tt
memory_is (sample count) = tt

-- the words mean one command
one_command : (o : Option Asked) (b a : Asked) → o ≡ Some b → o ≡ Some a → b ≡ a
one_command o b a x y = cc

module _ (words : List (List ℕ)) (held : List ℕ → Held) (before after : ℕ) (none : Rose before after → ⊥) where
  no_fault : (name bytes : List ℕ) → held name ≡ Whole bytes → (held name ≡ Absent) ⊎ Rose before after → ⊥
  no_fault name bytes told (inl absent) = not_absent (held name) bytes told absent
  no_fault name bytes told (inr rose) = none rose

  not_unloaded : (name : List ℕ) (v : Verdict) (e : List ℕ) → HoldsSource (held name) → IsUnloaded held before after name v e → ⊥
  not_unloaded name v e source (answers.read_fault cause) = no_fault name source.bytes source.told cause
  not_unloaded name v e source (answers.refused r line cause) = not_refused (held name) name r line source cause

  not_unread : (name : List ℕ) (v : Verdict) (e : List ℕ) → HoldsText (held name) → IsUnread held before after name v e → ⊥
  not_unread name v e text (answers.read_fault cause) = no_fault name text.bytes text.told cause
  not_unread name v e text (answers.too_long longer) = not_longer (held name) text.bytes 268435456 text.told text.short longer

  on_file : (w : Way) (budget : ℕ) (name : List ℕ) (v : Verdict) (o e : List ℕ) → HoldsSource (held name)
      → IsOnFile w budget held before after name v o e → IsOnSource v
  on_file w budget name v o e source (answers.unloaded u line is) = absurd (not_unloaded name u line source is)
  on_file w budget name v o e source (answers.judged p u text loaded is) = judged_is w budget p u text is

  on_text : (name : List ℕ) (p : Parts) (v : Verdict) (o e : List ℕ) → HoldsText (held name) → IsTextAnswer p held before after name v o e → headline.IsOnText v
  on_text name p v o e text (answers.unread u line is) = absurd (not_unread name u line text is)
  on_text name p v o e text (answers.verified bytes u line content short (answers.valid is)) = tt
  on_text name p v o e text (answers.verified bytes u line content short (answers.invalid bad is)) = tt

  done_is : (task : Task) (budget : ℕ) (v : Verdict) (o e : List ℕ) → IsThere held task → IsDone task budget held before after v o e → IsVerdictOf task v
  done_is (check name) budget v o e there is = on_file _ budget name v o e there is
  done_is (prove name) budget v o e there is = on_file _ budget name v o e there is
  done_is (verify file name) budget v o e there (answers.unloaded u line is) = absurd (not_unloaded file u line there.0 is)
  done_is (verify file name) budget v o e there (answers.loaded p u text line loaded is) = on_text name p u text line there.1 is
  done_is (sample count) budget v o e there (answers.refused r cause) = absurd (there r cause)
  done_is (sample count) budget v o e there (answers.judged p u text program is) = judged_is _ budget p u text is

  answer_is : (a : Asked) (v : Verdict) (o e : List ℕ) → asked_command words ≡ Some a → IsThere held a.task → IsAnswer words held before after v o e
      → IsVerdictOf a.task v
  answer_is a v o e asks there (answers.usage unasked) = absurd (some_not_none asks unasked)
    where
      some_not_none : asked_command words ≡ Some a → asked_command words ≡ None → ⊥
      some_not_none x y = cc
  answer_is a v o e asks there (answers.done b u text line asked is) =
      let same : b ≡ a = one_command (asked_command words) b a asked asks in
      done_is a.task b.budget u text line there (subst (λ (x : Asked). IsDone x.task b.budget held before after u text line) same is)
  answer_is a v o e asks there answers.no_memory = memory_is a.task

decided_in : (words : List (List ℕ)) (held : List ℕ → Held) (before after : ℕ) (out err : Output) (v : Verdict)
    → IsReported words held before after out err v → IsDecided words held before after out err v
decided_in words held before after out err v (given u o e is t s) a asks there quiet = answer_is words held before after quiet.files a u o e asks there is
decided_in words held before after out err v (out_broke u o e is b t) a asks there quiet = absurd (quiet.out_none b.1)
decided_in words held before after out err v (err_broke u o e is t b) a asks there quiet = absurd (quiet.err_none b.1)

words_in : (words : List (List ℕ)) (held : List ℕ → Held) (before after : ℕ) (out err : Output) (v : Verdict)
    → IsReported words held before after out err v → asked_command words ≡ None → IsOnWords v
words_in words held before after out err v (given u o e (answers.usage unasked) t s) none = tt
words_in words held before after out err v (given u o e (answers.done a w text line asks is) t s) none = absurd (go asks none)
  where
    go : asked_command words ≡ Some a → asked_command words ≡ None → ⊥
    go x y = cc
words_in words held before after out err v (given u o e answers.no_memory t s) none = tt
words_in words held before after out err v (out_broke u o e is b t) none = tt
words_in words held before after out err v (err_broke u o e is t b) none = tt

pub decided : {words : List (List ℕ)} {held : List ℕ → Held} {before after : ℕ} {out err : Output} {v : Verdict}
    → IsReported words held before after out err v → IsDecided words held before after out err v
decided {words = words} {held = held} {before = before} {after = after} {out = out} {err = err} {v = v} is = decided_in words held before after out err v is

pub on_words : {words : List (List ℕ)} {held : List ℕ → Held} {before after : ℕ} {out err : Output} {v : Verdict}
    → IsReported words held before after out err v → asked_command words ≡ None → IsOnWords v
on_words {words = words} {held = held} {before = before} {after = after} {out = out} {err = err} {v = v} is = words_in words held before after out err v is
