-- The command line as `clap` is given it, and what is taken from its matches.
use Rattle.std.specs.Prelude.{◌≡◌, true, List, [], ◌∷◌, codes, Option, Some, None, option_map, unwrap_or}
use Rattle.clap.specs.Words.{App, Rule, new_app, new_rule, with_rule}
use Rattle.clap.specs.Simple.{on_top}
use Rattle.clap.specs.declared.builder.action.ArgAction.TheVariants.{Append}
use Rattle.clap.specs.Words.{first_value, raw_values, matched_of, found_of}
use Rattle.clap.specs.declared.parser.matches.ArgMatches.{ArgMatches}
use Rattle.clap.specs.declared.parser.matches.Found.{Found}
use Rattle.command_words.specs.Asked.{Text, Asked, asked_in, asked_command}

abbrev pub budget_rule : Rule
budget_rule = record (new_rule (codes "budget")) { long = Some (codes "budget"); action = Some Append }

abbrev pub program : App
program = with_rule (with_rule (with_rule (with_rule (on_top (λ s. record s { no_binary_name = true; disable_help_flag = true }) (new_app (codes "clouseau")))
    (new_rule (codes "mode"))) (new_rule (codes "arg"))) (new_rule (codes "arg2"))) budget_rule

-- the positionals that were given
abbrev pub positionals_of : Option Text → Option Text → Option Text → List Text
positionals_of (Some mode) (Some arg) (Some arg2) = mode ∷ arg ∷ arg2 ∷ []
positionals_of (Some mode) (Some arg) None = mode ∷ arg ∷ []
positionals_of _ _ _ = []

-- the command that the values of MODE, ARG, ARG2 and of the option mean
abbrev pub asked_with : Option Text → Option Text → Option Text → Option (List Text) → Option Asked
asked_with mode arg arg2 budgets =
    asked_in (record { positionals = positionals_of mode arg arg2; budgets = unwrap_or budgets [] })

abbrev pub found_command : Found → Option Asked
found_command f = asked_with (first_value f (codes "mode")) (first_value f (codes "arg")) (first_value f (codes "arg2"))
    (option_map raw_values (matched_of f (codes "budget")))

-- what is found in the words: matches that give the command that they mean, or nothing where they mean none
abbrev pub Finds : List Text → Option ArgMatches → Type 0
Finds words None = asked_command words ≡ None
Finds words (Some matches) = found_command (found_of matches) ≡ asked_command words
