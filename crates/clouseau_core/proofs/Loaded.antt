-- Why there is no program, from the errors of loading.
use Rattle.std.proofs.Common.{◌≡◌, ◌∙◌, sym, subst, inl, inr, ℕ, ◌≤◌, List}
use Rattle.io_edge.specs.Held.{Held}
use Rattle.io_edge.specs.Reading.{IsContent}
use Rattle.transfer_rules.specs.Programs.{Parts}
use Rattle.source_program.specs.declared.loading.LoadError.{LoadError}
use Rattle.source_program.specs.Loading.{IsLoadFailure, IsLonger}
use Rattle.clouseau_core.specs.declared.report.Verdict.{Verdict}
use Rattle.clouseau_core.specs.Answers as answers
use Rattle.clouseau_core.specs.Answers.{IsUnloaded, IsErrorText, IsTextAnswer}
use Rattle.clouseau_core.proofs.Given.{rose_later}

pub unloaded_of : (held : List ℕ → Held) (before after : ℕ) (name : List ℕ) (error : LoadError) (v : Verdict) (e : List ℕ)
    → IsLoadFailure (held name) name before after error → IsErrorText name error v e → IsUnloaded held before after name v e
unloaded_of held before after name LoadError.Memory v e cause said = absurd said
unloaded_of held before after name LoadError.ReadFault v e cause said = rw (said.0, said.1) (answers.read_fault cause)
unloaded_of held before after name (LoadError.Refused r line) v e cause said = rw (said.0, said.1) (answers.refused r line cause)

-- a text is answered after a source was loaded as at the call's beginning
pub text_answer_over : (p : Parts) (held now : List ℕ → Held) (before mid after : ℕ) (name : List ℕ) (v : Verdict) (o e : List ℕ)
    → now name ≡ held name → before ≤ mid → IsTextAnswer p now mid after name v o e → IsTextAnswer p held before after name v o e
text_answer_over p held now before mid after name v o e same later (answers.unread u line (answers.read_fault (inl absent))) =
    answers.unread _ _ (answers.read_fault (inl (sym same ∙ absent)))
text_answer_over p held now before mid after name v o e same later (answers.unread u line (answers.read_fault (inr rose))) =
    answers.unread _ _ (answers.read_fault (inr (rose_later before mid after later rose)))
text_answer_over p held now before mid after name v o e same later (answers.unread u line (answers.too_long longer)) =
    answers.unread _ _ (answers.too_long (subst (λ (h : Held). IsLonger h 268435456) same longer))
text_answer_over p held now before mid after name v o e same later (answers.verified bytes u text content short is) =
    answers.verified bytes u text (subst (λ (h : Held). IsContent h bytes) same content) short is
