-- What a report promises of its verdict.
use Rattle.std.proofs.Common.{◌≡◌, ℕ, List, Some, refl, subst}
use Rattle.io_edge.specs.Held.{Held}
use Rattle.transfer_rules.specs.Programs.{Parts}
use Rattle.source_program.specs.Loading.{IsLoaded}
use Rattle.call_summary.specs.declared.inferred.Inferred.{Inferred}
use Rattle.call_summary.specs.declared.inferred.Inferred.TheVariants as inferred
use Rattle.command_words.specs.Asked.{Task, check, prove, verify, sample, Asked, asked_command}
use Rattle.clouseau_core.specs.declared.report.Verdict.{Verdict}
use Rattle.clouseau_core.specs.declared.way.Way.{Way}
use Rattle.clouseau_core.specs.declared.way.Way.TheVariants as way
use Rattle.clouseau_core.specs.Judged.{IsTextBy, IsJudged, accepted, conflict, undecided}
use Rattle.clouseau_core.specs.Answers as answers
use Rattle.clouseau_core.specs.Answers.{IsUnloaded, IsUnread, IsVerdictOnText, IsOnFile, IsTextAnswer, IsOnText, IsOnSample, IsDone, IsAnswer}
use Rattle.clouseau_core.specs.Report.{Output, Took, IsReported, given, out_broke, err_broke}
use Rattle.clouseau_core.specs.Headline.{IsSourceOf, IsPrintedBy, Promises}

module _ (words : List (List ℕ)) (held : List ℕ → Held) (before after : ℕ) (out : Output) where
  -- a task and its budget are what the words ask for
  abbrev Asks : Task → ℕ → Type 0
  Asks task budget = asked_command words ≡ Some (record { task = task; budget = budget })

  -- what a way tells, a task prints
  abbrev Prints : Way → Task → Parts → ℕ → Type 0
  Prints w task p budget = (i : Inferred) (text : List ℕ) → IsTextBy w p budget i text → Took out text → IsPrintedBy task p budget i out

  judged_promises : (w : Way) (task : Task) (budget : ℕ) (p : Parts) (v : Verdict) (o : List ℕ) → Asks task budget → IsSourceOf held task p
      → Prints w task p budget → IsJudged w budget p v o → Took out o → Promises words held out v
  judged_promises w task budget p v o asks source prints (accepted c text is told) t = record {
    asked = record { task = task; budget = budget };
    program = p;
    of = record { command = asks; source = source };
    acceptance = is;
    printed = prints (inferred.Accepted c) text told t;
  }
  judged_promises w task budget p v o asks source prints (conflict d names text is told) t = record {
    asked = record { task = task; budget = budget };
    program = p;
    of = record { command = asks; source = source };
    conflict = record { used = names; derivation = d };
    one = refl;
    refutation = is;
    printed = prints (inferred.Refuted d names) text told t;
  }
  judged_promises w task budget p v o asks source prints (undecided d text is told) t = record {
    asked = record { task = task; budget = budget };
    program = p;
    of = record { command = asks; source = source };
    open_by = is;
    printed = prints (inferred.Undecided d) text told t;
  }

  unloaded_promises : (name : List ℕ) (v : Verdict) (e : List ℕ) → IsUnloaded held before after name v e → Promises words held out v
  unloaded_promises name v e (answers.read_fault cause) = tt
  unloaded_promises name v e (answers.refused r line cause) = tt

  file_promises : (w : Way) (task : Task) (budget : ℕ) (name : List ℕ) (v : Verdict) (o e : List ℕ) → Asks task budget
      → ((p : Parts) → IsLoaded (held name) p → IsSourceOf held task p) → ((p : Parts) → Prints w task p budget)
      → IsOnFile w budget held before after name v o e → Took out o → Promises words held out v
  file_promises w task budget name v o e asks source prints (answers.unloaded u line is) t = unloaded_promises name u line is
  file_promises w task budget name v o e asks source prints (answers.judged p u text loaded is) t =
      judged_promises w task budget p u text asks (source p loaded) (prints p) is t

  text_promises : (file name : List ℕ) (budget : ℕ) (p : Parts) (v : Verdict) (o e : List ℕ) → Asks (verify file name) budget → IsLoaded (held file) p
      → IsTextAnswer p held before after name v o e → Took out o → Promises words held out v
  text_promises file name budget p v o e asks loaded (answers.unread u line (answers.read_fault cause)) t = tt
  text_promises file name budget p v o e asks loaded (answers.unread u line (answers.too_long cause)) t = tt
  text_promises file name budget p v o e asks loaded (answers.verified bytes u line content short (answers.valid is)) t = record {
    asked = record { task = verify file name; budget = budget };
    program = p;
    of = record { command = asks; source = loaded };
    bytes = bytes;
    text = (content, short);
    valid = is;
    printed = t;
  }
  text_promises file name budget p v o e asks loaded (answers.verified bytes u line content short (answers.invalid bad is)) t = record {
    asked = record { task = verify file name; budget = budget };
    program = p;
    of = record { command = asks; source = loaded };
    bytes = bytes;
    text = (content, short);
    invalid = is;
    printed = t;
  }

  done_promises : (task : Task) (budget : ℕ) (v : Verdict) (o e : List ℕ) → Asks task budget → IsDone task budget held before after v o e → Took out o
      → Promises words held out v
  done_promises (check name) budget v o e asks is t =
      file_promises way.Check (check name) budget name v o e asks (λ p loaded. loaded) (λ p i text told took. (text, told, took)) is t
  done_promises (prove name) budget v o e asks is t =
      file_promises way.Prove (prove name) budget name v o e asks (λ p loaded. loaded) (λ p i text told took. subst (Took out) told took) is t
  done_promises (verify file name) budget v o e asks (answers.unloaded u line is) t = unloaded_promises file u line is
  done_promises (verify file name) budget v o e asks (answers.loaded p u text line loaded is) t = text_promises file name budget p u text line asks loaded is t
  done_promises (sample count) budget v o e asks (answers.refused r cause) t = tt
  done_promises (sample count) budget v o e asks (answers.judged p u text program is) t =
      judged_promises (way.Sample count) (sample count) budget p u text asks program (λ i line told took. subst (Took out) told took) is t

  answer_promises : (v : Verdict) (o e : List ℕ) → IsAnswer words held before after v o e → Took out o → Promises words held out v
  answer_promises v o e (answers.usage none) t = tt
  answer_promises v o e (answers.done a u text line asks is) t = done_promises a.task a.budget u text line asks is t
  answer_promises v o e answers.no_memory t = tt

  pub promised : (err : Output) (v : Verdict) → IsReported words held before after out err v → Promises words held out v
  promised err v (given u o e is t s) = answer_promises u o e is t
  promised err v (out_broke u o e is b t) = tt
  promised err v (err_broke u o e is t b) = tt

-- the same of what the verdict is
pub promised_as : {words : List (List ℕ)} {held : List ℕ → Held} {before after : ℕ} {out err : Output} {v : Verdict} (w : Verdict)
    → IsReported words held before after out err v → v ≡ w → Promises words held out w
promised_as {words = words} {held = held} {before = before} {after = after} {out = out} {err = err} {v = v} w reported is =
    subst (λ (u : Verdict). Promises words held out u) is (promised words held before after out err v reported)
