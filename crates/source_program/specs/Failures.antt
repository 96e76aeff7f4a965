-- The refusals that the errors of the stages are.
use Rattle.c_token.specs.declared.token.LexError.{LexError}
use Rattle.c_parser.specs.declared.error.ParseError.{ParseError}
use Rattle.c_types.specs.declared.error.TypeError.{TypeError}
use Rattle.owner_vars.specs.declared.error.NumberError.{NumberError}
use Rattle.source_program.specs.declared.refusal.Refusal.{Refusal}
use Rattle.source_program.specs.declared.failure.Failure.{Failure}

abbrev pub of_lex : LexError → Failure
of_lex LexError.Memory = Failure.Memory
of_lex (LexError.Lex k) = Failure.Refused (Refusal.Lex k)

abbrev pub of_parse : ParseError → Failure
of_parse ParseError.Memory = Failure.Memory
of_parse (ParseError.Parse k) = Failure.Refused (Refusal.Parse k)

abbrev pub of_types : TypeError → Failure
of_types TypeError.Memory = Failure.Memory
of_types (TypeError.BadType k rule) = Failure.Refused (Refusal.BadType k rule)
of_types TypeError.NoMain = Failure.Refused Refusal.NoMain
of_types (TypeError.Limit kind count) = Failure.Refused (Refusal.Limit kind count)

abbrev pub of_numbers : NumberError → Failure
of_numbers NumberError.Memory = Failure.Memory
of_numbers (NumberError.Limit kind count) = Failure.Refused (Refusal.Limit kind count)
