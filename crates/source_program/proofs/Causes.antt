-- A cause of an error is that of the refusal which it is.
use Rattle.std.proofs.Common.{◌≡◌, ◌⊎◌, inl, inr, ℕ, List, Some, Result, Err}
use Rattle.c_tree.specs.declared.tree.Tree as code
use Rattle.c_tree.specs.Plain.{Tree}
use Rattle.c_token.specs.declared.token.Token.{Token}
use Rattle.c_token.specs.declared.token.LexError.{LexError}
use Rattle.c_token.specs.Reading.{IsTokenReading, IsCause as IsLexCause}
use Rattle.c_parser.specs.declared.error.ParseError.{ParseError}
use Rattle.c_grammar.specs.Items.{IsSpelled}
use Rattle.c_types.specs.declared.error.TypeError.{TypeError}
use Rattle.c_types.specs.Items.{refusal_of}
use Rattle.source_program.specs.Failures.{of_lex, of_parse, of_types}
use Rattle.source_program.specs.Sources.{Reads, IsUntyped, IsFailure, no_token, no_tree, ill_typed, no_main, past_limit}

pub lex_failure : (bytes : List ℕ) (e : LexError) → IsLexCause bytes e → IsFailure (IsUntyped bytes) (of_lex e)
lex_failure bytes LexError.Memory is = tt
lex_failure bytes (LexError.Lex k) is = no_token k is

pub parse_failure : (bytes : List ℕ) (ts : List Token) (r : Result code.Tree ParseError) (e : ParseError) → IsTokenReading bytes ts → r ≡ Err e
    → ((k : ℕ) → r ≡ Err (ParseError.Parse k) → (t : Tree) → IsSpelled ts t → ⊥) → IsFailure (IsUntyped bytes) (of_parse e)
parse_failure bytes ts r ParseError.Memory read is none = tt
parse_failure bytes ts r (ParseError.Parse k) read is none = no_tree k (record { tokens = ts; read = read; unspelled = none k is })

refused_failure : (bytes : List ℕ) (t : Tree) (e : TypeError) → Reads bytes t → refusal_of t ≡ Some e → IsFailure (IsUntyped bytes) (of_types e)
refused_failure bytes t TypeError.Memory r is = tt
refused_failure bytes t (TypeError.BadType k rule) r is = ill_typed t k rule r is
refused_failure bytes t TypeError.NoMain r is = no_main t r is
refused_failure bytes t (TypeError.Limit kind count) r is = past_limit t kind count r is

pub type_failure : (bytes : List ℕ) (t : Tree) (e : TypeError) → Reads bytes t → (e ≡ TypeError.Memory) ⊎ (refusal_of t ≡ Some e)
    → IsFailure (IsUntyped bytes) (of_types e)
type_failure bytes t e r (inl want) = rw want tt
type_failure bytes t e r (inr is) = refused_failure bytes t e r is
