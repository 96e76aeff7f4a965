-- What comes of loading is what its parts come to.
use Rattle.std.proofs.Common.{ℕ, List, Option, sym, subst}
use Rattle.c_tree.specs.View.{tree_view}
use Rattle.c_types.specs.declared.typed.Typed.{Typed}
use Rattle.c_types.specs.declared.error.LimitKind.{LimitKind}
use Rattle.flow_graph.specs.GraphOf.{graph_of}
use Rattle.owner_vars.specs.declared.error.NumberError.{NumberError}
use Rattle.owner_vars.specs.declared.error.NumberError.TheVariants as number
use Rattle.transfer_rules.specs.Programs.{IsRefused as IsNumberRefusal}
use Rattle.io_edge.specs.Held.{Held, Untold, Absent, Whole}
use Rattle.io_edge.specs.Reading.{IsOver}
use Rattle.source_program.specs.declared.refusal.Refusal.{Refusal}
use Rattle.source_program.specs.declared.failure.Failure.{Failure}
use Rattle.source_program.specs.declared.loading.LoadError.{LoadError}
use Rattle.source_program.specs.Failures.{of_numbers}
use Rattle.source_program.specs.Sources.{ReadsTyped, IsUntyped, IsCause, untyped, past_unknowns, IsFailure}
use Rattle.source_program.specs.Loading.{IsLonger, IsRefusedFile, IsLoadFailure, IsSaid}

pub untyped_failure : (bytes : List ℕ) (e : Failure) → IsFailure (IsUntyped bytes) e → IsFailure (IsCause bytes) e
untyped_failure bytes Failure.Memory is = tt
untyped_failure bytes (Failure.Refused r) is = untyped r is

pub number_failure : (bytes : List ℕ) (typed : Typed) (e : NumberError) → ReadsTyped bytes (tree_view typed.tree) → IsNumberRefusal (graph_of typed) e
    → IsFailure (IsCause bytes) (of_numbers e)
number_failure bytes typed number.Memory reads is = tt
number_failure bytes typed (number.Limit kind count) reads is =
    subst (λ (k : LimitKind). IsCause bytes (Refusal.Limit k count)) (sym is.0) (past_unknowns typed count reads is.1)

-- a file of which more bytes were taken than it may have has more of them
pub longer : (h : Held) (left : Option (List ℕ)) (most : ℕ) → IsOver h left most → IsLonger h most
longer Untold left most o = tt
longer Absent left most o = absurd o
longer (Whole content) left most o = o.0

-- a refusal that has its cause, with its line
pub said_failure : (held : Held) (name : List ℕ) (before after : ℕ) (r : Refusal) (line : List ℕ) (e : LoadError)
    → IsSaid r line e → IsRefusedFile held name r line → IsLoadFailure held name before after e
said_failure held name before after r line LoadError.Memory said is = tt
said_failure held name before after r line LoadError.ReadFault said is = absurd said
said_failure held name before after r line (LoadError.Refused refusal text) said is =
    subst (λ (t : List ℕ). IsRefusedFile held name refusal t) (sym said.1) (subst (λ (x : Refusal). IsRefusedFile held name x line) (sym said.0) is)
