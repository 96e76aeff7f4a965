-- The command that the words of a command line mean, or none.
use Rattle.std.specs.Prelude.{ℕ, ◌+◌, ◌-◌, ◌*◌, ◌==◌, ◌≤◌, ◌&&◌, nat_le, Bool, true, false, List, [], ◌∷◌, Option, Some, None}
use Rattle.std.specs.Prelude.{if◌then◌else◌, bytes_eq, codes, length, take, drop, option_map, option_and_then}
use Rattle.std.specs.List.{list_all}
use Rattle.std.specs.Char.{is_ascii_digit}
use Rattle.command_words.specs.declared.command.Command.{Command}
use Rattle.command_words.specs.declared.command.Work.{Work}
use Rattle.command_words.specs.declared.command.Work.TheVariants as work

abbrev pub Text : Type 0
Text = List ℕ

-- ---- what is asked for

pub data Task : Type 0 where
  -- the source in the file of that name
  check : Text → Task
  prove : Text → Task
  -- the source, and the file with the text on it
  verify : Text → Text → Task
  -- the sample of that many procedures
  sample : ℕ → Task

pub record Asked : Type 0 where
  pub task : Task
  pub budget : ℕ

abbrev pub task_of : Work → Task
task_of (work.Check file) = check file.now
task_of (work.Prove file) = prove file.now
task_of (work.Verify file text) = verify file.now text.now
task_of (work.Sample count) = sample count

abbrev pub asked_by : Command → Asked
asked_by c = record { task = task_of c.work; budget = c.budget }

-- the numbers of a command are in their ranges
abbrev pub HasCount : Work → Type 0
HasCount (work.Sample count) = (1 ≤ count) × (count ≤ 4000)
HasCount _ = Unit {0}

abbrev pub HasRanges : Command → Type 0
HasRanges c = (1 ≤ c.budget) × (c.budget ≤ 100000000) × HasCount c.work

-- ---- the kinds of words

-- the word is longer than `-` and begins with it
abbrev pub is_dashed : Text → Bool
is_dashed [] = false
is_dashed (b ∷ []) = false
is_dashed (b ∷ c ∷ rest) = b == 45

-- what a word before the first `--` is
pub data Kind : Type 0 where
  -- `--`: all words after it are positionals
  ends : Kind
  -- `--budget`: the next word is its number
  budget_next : Kind
  -- `--budget=N`, with N
  budget_is : Text → Kind
  -- any other that is longer than `-` and begins with it
  refused : Kind
  positional : Kind

abbrev pub kind_of : Text → Kind
kind_of word = if bytes_eq word (codes "--") then ends
    else (if bytes_eq word (codes "--budget") then budget_next
    else (if bytes_eq (take 9 word) (codes "--budget=") then budget_is (drop 9 word)
    else (if is_dashed word then refused else positional)))

-- ---- the parts of a command line

-- the positionals, and the numbers that the option was given
pub record Parts : Type 0 where
  pub positionals : List Text
  pub budgets : List Text

abbrev pub with_positional : Text → Option Parts → Option Parts
with_positional word None = None
with_positional word (Some p) = Some (record p { positionals = word ∷ p.positionals })

abbrev pub with_budget : Text → Option Parts → Option Parts
with_budget number None = None
with_budget number (Some p) = Some (record p { budgets = number ∷ p.budgets })

-- the parts of a word of that kind and of the words after it: `read` are the parts of these by themselves,
-- and `read_number` their parts where the first of them is the option's number
abbrev pub parts_at : Kind → Text → List Text → Option Parts → Option Parts → Option Parts
parts_at ends word after read read_number = Some (record { positionals = after; budgets = [] })
parts_at budget_next word after read read_number = read_number
parts_at (budget_is number) word after read read_number = with_budget number read
parts_at refused word after read read_number = None
parts_at positional word after read read_number = with_positional word read

-- the parts of the words; with true the first of them is the option's number
abbrev pub parts_from : Bool → List Text → Option Parts
parts_from false [] = Some (record { positionals = []; budgets = [] })
parts_from true [] = None
parts_from false (word ∷ after) = parts_at (kind_of word) word after (parts_from false after) (parts_from true after)
parts_from true (number ∷ after) = with_budget number (parts_from false after)

-- none where a word is refused, or `--budget` is the last
abbrev pub parts_of : List Text → Option Parts
parts_of = parts_from false

-- ---- numbers

-- the number that decimal digits spell, after the number n
abbrev pub value_after : ℕ → Text → ℕ
value_after n [] = n
value_after n (b ∷ rest) = value_after (10 * n + (b - 48)) rest

abbrev pub value_of : Text → ℕ
value_of = value_after 0

-- one digit at least, and at most so many
abbrev pub is_digits : ℕ → Text → Bool
is_digits most text = list_all is_ascii_digit text && (nat_le 1 (length text) && nat_le (length text) most)

-- a number from 1 to `most`
abbrev pub within : ℕ → ℕ → Option ℕ
within most n = if nat_le 1 n && nat_le n most then Some n else None

abbrev pub number_in : ℕ → ℕ → Text → Option ℕ
number_in digits most text = if is_digits digits text then within most (value_of text) else None

-- ---- the command

-- the option stands at most once
abbrev pub budget_in : List Text → Option ℕ
budget_in [] = Some 4000000
budget_in (number ∷ []) = number_in 9 100000000 number
budget_in (number ∷ another ∷ more) = None

abbrev pub task_on_one : Text → Text → Option Task
task_on_one mode word = if bytes_eq mode (codes "check") then Some (check word)
    else (if bytes_eq mode (codes "prove") then Some (prove word)
    else (if bytes_eq mode (codes "sample") then option_map sample (number_in 4 4000 word) else None))

abbrev pub task_in : List Text → Option Task
task_in (mode ∷ word ∷ []) = task_on_one mode word
task_in (mode ∷ file ∷ text ∷ []) = if bytes_eq mode (codes "verify") then Some (verify file text) else None
task_in _ = None

abbrev pub asked_for : Option Task → Option ℕ → Option Asked
asked_for (Some task) (Some budget) = Some (record { task = task; budget = budget })
asked_for (Some task) None = None
asked_for None budget = None

abbrev pub asked_in : Parts → Option Asked
asked_in p = asked_for (task_in p.positionals) (budget_in p.budgets)

-- the command that the words mean
abbrev pub asked_command : List Text → Option Asked
asked_command words = option_and_then asked_in (parts_of words)
