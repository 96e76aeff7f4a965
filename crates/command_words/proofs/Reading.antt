-- What the walk comes to is the command that the words mean.
use Rattle.std.proofs.Common.{◌≡◌, ◌∙◌, ap, sym, subst, ℕ, Bool, true, false, List, [], ◌∷◌, ◌++◌, Option, Some, None, refl, codes, arith, inl, inr}
use Rattle.std.specs.Prelude.{fold, option_and_then, slice_get, unwrap_or}
use Rattle.std.specs.List.{All}
use Rattle.std.specs.Str.{IsUtf8}
use Rattle.std.proofs.lemmas.List.{append_assoc, append-nil}
use Rattle.std.proofs.lemmas.List.Elements.{All-get_or, All-drop}
use Rattle.clap.specs.Words.{Row, Text, all_of, first_of}
use Rattle.clap.specs.Walk.{Rule, idle, settled, walk_from, nothing_held, with_default, has_row, rows_of}
use Rattle.clap.specs.Faults.{walk_fault, settle_fault, default_fault, defaults_fault, check_fault, fault_of}
use Rattle.clap.specs.Kinds.{Kinds, or_else, HasKind, IsAmong}
use Rattle.clap.specs.declared.error.Error.{Error}
use Rattle.clap.specs.Words.{App, built, matches_of, found_of, is_simple, is_simple_and_free, HasMatchesOf, kind_of as error_kind}
use Rattle.clap.specs.declared.parser.matches.ArgMatches.{ArgMatches}
use Rattle.clap.specs.declared.parser.matches.Found.{Found}
use Rattle.clap.proofs.FaultLemmas.{leaf_fault}
use Rattle.clap.proofs.WalkLemmas.{first_value-rows, raw_values-rows}
use Rattle.clap.specs.declared.error.kind.ErrorKind.TheVariants as kind
use Rattle.clap.specs.declared.builder.value_parser.Reading.TheVariants.{AsWritten}
use Rattle.command_words.specs.Asked.{Asked, Parts, Task, asked_for, Kind, parts_at, parts_from, with_positional, with_budget, budget_in, asked_in, task_in, asked_command, parts_of}
use Rattle.command_words.specs.Program.{program, asked_with, found_command}
use Rattle.command_words.proofs.Seen.{View, ends, budget_next, budget_is, long, short, plain, Plain, view}
use Rattle.command_words.proofs.Rows.{put, put_here, put_there, without_none, no_row, first_all}
use Rattle.command_words.proofs.Walks.{rules, top, held, stands, answered, after, faults, answer, goes, stops, next_fault, next_goes, number_fault, number_goes, ends_fault, ends_goes, long_stops, short_stops, first, second, third, plain_fault, trailing_fault, plain_goes, trailing_goes, plain_stops, trailing_stops, waits, wait_ends, wait_ends_goes, wait_next_stops, wait_number_stops, wait_long_stops, wait_short_stops, wait_plain, wait_plain_goes, wait_trailing_stops, wait_trailing_full, wait_end}

-- ---- what the rows hold

abbrev at_first : List Text → Option (List Text)
at_first [] = None
at_first (m ∷ ps) = Some (m ∷ [])

abbrev at_second : List Text → Option (List Text)
at_second [] = None
at_second (m ∷ ps) = at_first ps

abbrev at_third : List Text → Option (List Text)
at_third [] = None
at_third (m ∷ ps) = at_second ps

abbrev given : List Text → Option (List Text)
given [] = None
given (b ∷ bs) = Some (b ∷ bs)

-- the rows hold these positionals and these numbers of the option
record Holds (rows : List Row) (ps bs : List Text) : Type 0 where
  mode : all_of (codes "mode") rows ≡ at_first ps
  arg : all_of (codes "arg") rows ≡ at_second ps
  arg2 : all_of (codes "arg2") rows ≡ at_third ps
  budget : all_of (codes "budget") rows ≡ given bs

-- what is held comes to such rows
record Ready (rows : List Row) (p : Option (Text × List Text)) (ps bs : List Text) : Type 0 where
  sound : settle_fault rules false (held rows p) ≡ []
  holds : Holds (settled rules (held rows p)).rows ps bs

one_more : (bs : List Text) (v : Text) → Some (unwrap_or (given bs) [] ++ v ∷ []) ≡ given (bs ++ v ∷ [])
one_more [] v = refl
one_more (b ∷ bs) v = refl

counted : (rows : List Row) (ps bs : List Text) (v : Text) → Holds rows ps bs → Holds (put (codes "budget") AsWritten v rows) ps (bs ++ v ∷ [])
counted rows ps bs v h = record {
  mode = put_there (codes "budget") (codes "mode") AsWritten v rows refl ∙ h.mode;
  arg = put_there (codes "budget") (codes "arg") AsWritten v rows refl ∙ h.arg;
  arg2 = put_there (codes "budget") (codes "arg2") AsWritten v rows refl ∙ h.arg2;
  budget = put_here (codes "budget") AsWritten v rows refl ∙ ap (λ (o : Option (List Text)). Some (unwrap_or o [] ++ v ∷ [])) h.budget ∙ one_more bs v;
}

number_ready : (rows : List Row) (ps bs : List Text) (v : Text) → Holds rows ps bs → Ready (put (codes "budget") AsWritten v rows) None ps (bs ++ v ∷ [])
number_ready rows ps bs v h = record { sound = refl; holds = counted rows ps bs v h }

waited_ready : (rows : List Row) (ps bs : List Text) (v : Text) → Holds rows ps bs → Ready rows (Some (codes "budget", v ∷ [])) ps (bs ++ v ∷ [])
waited_ready rows ps bs v h = record { sound = refl; holds = counted rows ps bs v h }

first_ready : (rows : List Row) (bs : List Text) (v : Text) → Holds rows [] bs → Ready rows (Some (codes "mode", v ∷ [])) (v ∷ []) bs
first_ready rows bs v h = record {
  sound = rw (no_row (codes "mode") rows h.mode) refl;
  holds =
      let P : List Row → Type 0 = λ rs. Holds (put (codes "mode") AsWritten v rs) (v ∷ []) bs in
      subst P (sym (without_none (codes "mode") rows h.mode)) (record {
        mode = put_here (codes "mode") AsWritten v rows refl ∙ ap (λ (o : Option (List Text)). Some (unwrap_or o [] ++ v ∷ [])) h.mode;
        arg = put_there (codes "mode") (codes "arg") AsWritten v rows refl ∙ h.arg;
        arg2 = put_there (codes "mode") (codes "arg2") AsWritten v rows refl ∙ h.arg2;
        budget = put_there (codes "mode") (codes "budget") AsWritten v rows refl ∙ h.budget;
      });
}

second_ready : (rows : List Row) (m : Text) (bs : List Text) (v : Text) → Holds rows (m ∷ []) bs → Ready rows (Some (codes "arg", v ∷ [])) (m ∷ v ∷ []) bs
second_ready rows m bs v h = record {
  sound = rw (no_row (codes "arg") rows h.arg) refl;
  holds =
      let P : List Row → Type 0 = λ rs. Holds (put (codes "arg") AsWritten v rs) (m ∷ v ∷ []) bs in
      subst P (sym (without_none (codes "arg") rows h.arg)) (record {
        mode = put_there (codes "arg") (codes "mode") AsWritten v rows refl ∙ h.mode;
        arg = put_here (codes "arg") AsWritten v rows refl ∙ ap (λ (o : Option (List Text)). Some (unwrap_or o [] ++ v ∷ [])) h.arg;
        arg2 = put_there (codes "arg") (codes "arg2") AsWritten v rows refl ∙ h.arg2;
        budget = put_there (codes "arg") (codes "budget") AsWritten v rows refl ∙ h.budget;
      });
}

third_ready : (rows : List Row) (m a : Text) (bs : List Text) (v : Text) → Holds rows (m ∷ a ∷ []) bs
    → Ready rows (Some (codes "arg2", v ∷ [])) (m ∷ a ∷ v ∷ []) bs
third_ready rows m a bs v h = record {
  sound = rw (no_row (codes "arg2") rows h.arg2) refl;
  holds =
      let P : List Row → Type 0 = λ rs. Holds (put (codes "arg2") AsWritten v rs) (m ∷ a ∷ v ∷ []) bs in
      subst P (sym (without_none (codes "arg2") rows h.arg2)) (record {
        mode = put_there (codes "arg2") (codes "mode") AsWritten v rows refl ∙ h.mode;
        arg = put_there (codes "arg2") (codes "arg") AsWritten v rows refl ∙ h.arg;
        arg2 = put_here (codes "arg2") AsWritten v rows refl ∙ ap (λ (o : Option (List Text)). Some (unwrap_or o [] ++ v ∷ [])) h.arg2;
        budget = put_there (codes "arg2") (codes "budget") AsWritten v rows refl ∙ h.budget;
      });
}

-- ---- the end of the words

-- how many positionals there are
data Filled : List Text → ℕ → Type 0 where
  none : Filled [] 1
  one : (m : Text) → Filled (m ∷ []) 2
  two : (m a : Text) → Filled (m ∷ a ∷ []) 3
  three : (m a x : Text) → Filled (m ∷ a ∷ x ∷ []) 4

abbrev head_of : Option (List Text) → Option Text
head_of = option_and_then (λ (vs : List Text). slice_get vs 0)

budgets_back : (bs : List Text) → unwrap_or (given bs) [] ≡ bs
budgets_back [] = refl
budgets_back (b ∷ bs) = refl

meant : (ps bs : List Text) (n : ℕ) → Filled ps n
    → asked_with (head_of (at_first ps)) (head_of (at_second ps)) (head_of (at_third ps)) (given bs) ≡ asked_in (record { positionals = ps; budgets = bs })
meant _ bs _ none = refl
meant _ bs _ (one m) = refl
meant _ bs _ (two m a) = ap (λ (b : List Text). asked_in (record { positionals = m ∷ a ∷ []; budgets = b })) (budgets_back bs)
meant _ bs _ (three m a x) = ap (λ (b : List Text). asked_in (record { positionals = m ∷ a ∷ x ∷ []; budgets = b })) (budgets_back bs)

from_rows : (rows : List Row) (ps bs : List Text) (n : ℕ) → Filled ps n → Holds rows ps bs → answered [] rows ≡ asked_in (record { positionals = ps; budgets = bs })
from_rows rows ps bs n f h =
    let m : first_of (codes "mode") rows ≡ head_of (at_first ps) = first_all (codes "mode") rows ∙ ap head_of h.mode in
    let a : first_of (codes "arg") rows ≡ head_of (at_second ps) = first_all (codes "arg") rows ∙ ap head_of h.arg in
    let x : first_of (codes "arg2") rows ≡ head_of (at_third ps) = first_all (codes "arg2") rows ∙ ap head_of h.arg2 in
    same (first_of (codes "mode") rows) (head_of (at_first ps)) (first_of (codes "arg") rows) (head_of (at_second ps))
    (first_of (codes "arg2") rows) (head_of (at_third ps)) (all_of (codes "budget") rows) (given bs) m a x h.budget
    ∙ meant ps bs n f
  where
    same : (m m' a a' x x' : Option Text) (b b' : Option (List Text)) → m ≡ m' → a ≡ a' → x ≡ x' → b ≡ b' → asked_with m a x b ≡ asked_with m' a' x' b'
    same m m' a a' x x' b b' e f g h = cc

ended : (rows : List Row) (p : Option (Text × List Text)) (ps bs : List Text) (n : ℕ) (trailing : Bool) → Filled ps n → Ready rows p ps bs
    → answer (stands (held rows p) idle n trailing) [] ≡ asked_in (record { positionals = ps; budgets = bs })
unfolding walk_fault
ended rows p ps bs n trailing f r = rw r.sound (from_rows (settled rules (held rows p)).rows ps bs n f r.holds)

-- ---- after `--`

trail : (words : List Text) (rows : List Row) (p : Option (Text × List Text)) (ps bs : List Text) (n : ℕ) → Filled ps n → Ready rows p ps bs
    → answer (stands (held rows p) idle n true) words ≡ asked_in (record { positionals = ps ++ words; budgets = bs })
trail [] rows p ps bs n f r = ended rows p ps bs n true f r ∙ ap (λ (l : List Text). asked_in (record { positionals = l; budgets = bs })) (sym (append-nil ps))
trail (w ∷ rest) rows p _ bs _ none r =
    goes _ _ w rest (trailing_fault first rows p w r.sound) (trailing_goes first rows p w)
    ∙ trail rest (settled rules (held rows p)).rows (Some (codes "mode", w ∷ [])) (w ∷ []) bs 2 (one w) (first_ready _ bs w r.holds)
trail (w ∷ rest) rows p _ bs _ (one m) r =
    goes _ _ w rest (trailing_fault second rows p w r.sound) (trailing_goes second rows p w)
    ∙ trail rest (settled rules (held rows p)).rows (Some (codes "arg", w ∷ [])) (m ∷ w ∷ []) bs 3 (two m w) (second_ready _ m bs w r.holds)
trail (w ∷ rest) rows p _ bs _ (two m a) r =
    goes _ _ w rest (trailing_fault third rows p w r.sound) (trailing_goes third rows p w)
    ∙ trail rest (settled rules (held rows p)).rows (Some (codes "arg2", w ∷ [])) (m ∷ a ∷ w ∷ []) bs 4 (three m a w) (third_ready _ m a bs w r.holds)
trail (w ∷ rest) rows p _ bs _ (three m a x) r = stops _ w rest kind.UnknownArgument (trailing_stops rows p w)

-- where the option lacks its number
doomed : (words : List Text) (rows : List Row) (ps : List Text) (n : ℕ) → Filled ps n → answer (waits rows n true) words ≡ None
doomed [] rows ps n f = wait_end rows n true
doomed (w ∷ rest) rows _ _ none = stops _ w rest kind.InvalidValue (wait_trailing_stops first rows w)
doomed (w ∷ rest) rows _ _ (one m) = stops _ w rest kind.InvalidValue (wait_trailing_stops second rows w)
doomed (w ∷ rest) rows _ _ (two m a) = stops _ w rest kind.InvalidValue (wait_trailing_stops third rows w)
doomed (w ∷ rest) rows _ _ (three m a x) = stops _ w rest kind.UnknownArgument (wait_trailing_full rows w)

-- ---- what the words come to after others

abbrev joined : List Text → List Text → Option Parts → Option Asked
joined ps bs None = None
joined ps bs (Some p) = asked_in (record { positionals = ps ++ p.positionals; budgets = bs ++ p.budgets })

with_word : (ps bs : List Text) (w : Text) (o : Option Parts) → joined ps bs (with_positional w o) ≡ joined (ps ++ w ∷ []) bs o
with_word ps bs w None = refl
with_word ps bs w (Some p) = ap (λ (l : List Text). asked_in (record { positionals = l; budgets = bs ++ p.budgets })) (sym (append_assoc ps (w ∷ []) p.positionals))

with_number : (ps bs : List Text) (v : Text) (o : Option Parts) → joined ps bs (with_budget v o) ≡ joined ps (bs ++ v ∷ []) o
with_number ps bs v None = refl
with_number ps bs v (Some p) = ap (λ (l : List Text). asked_in (record { positionals = ps ++ p.positionals; budgets = l })) (sym (append_assoc bs (v ∷ []) p.budgets))

-- no number begins with `-`
no_budget : (bs more rest : List Text) (v tail : Text) → v ≡ 45 ∷ tail → budget_in (bs ++ v ∷ more) ≡ None
no_budget [] [] rest v tail e = rw e refl
no_budget [] (x ∷ more) rest v tail e = refl
no_budget (b ∷ []) more rest v tail e = refl
no_budget (b ∷ c ∷ bs) more rest v tail e = refl

no_task : (ps bs : List Text) → budget_in bs ≡ None → asked_in (record { positionals = ps; budgets = bs }) ≡ None
no_task ps bs e = go (task_in ps)
  where
    go : (o : Option Task) → asked_for o (budget_in bs) ≡ None
    go None = refl
    go (Some t) = rw e refl

none_wanted : (ps bs : List Text) (v tail : Text) (o : Option Parts) → v ≡ 45 ∷ tail → None ≡ joined ps bs (with_budget v o)
none_wanted ps bs v tail None e = refl
none_wanted ps bs v tail (Some p) e = sym (no_task (ps ++ p.positionals) (bs ++ v ∷ p.budgets) (no_budget bs p.budgets [] v tail e))

-- ---- all words

record Answers (words : List Text) : Type 0 where
  idles : (rows : List Row) (p : Option (Text × List Text)) (ps bs : List Text) (n : ℕ) → Filled ps n → Ready rows p ps bs
      → answer (stands (held rows p) idle n false) words ≡ joined ps bs (parts_from false words)
  waiting : (rows : List Row) (ps bs : List Text) (n : ℕ) → Filled ps n → Holds rows ps bs
      → answer (waits rows n false) words ≡ joined ps bs (parts_from true words)

four : (ps bs : List Text) (m a x w : Text) (o : Option Parts) → None ≡ joined (m ∷ a ∷ x ∷ []) bs (with_positional w o)
four ps bs m a x w None = refl
four ps bs m a x w (Some p) = refl

sits : (w : Text) (rest : List Text) → Plain w → Answers rest → (rows : List Row) (p : Option (Text × List Text)) (ps bs : List Text) (n : ℕ) → Filled ps n → Ready rows p ps bs
    → answer (stands (held rows p) idle n false) (w ∷ rest) ≡ joined ps bs (with_positional w (parts_from false rest))
sits w rest seen h rows p _ bs _ none r =
    goes _ _ w rest (plain_fault first rows p w seen r.sound) (plain_goes first rows p w seen)
    ∙ h.idles (settled rules (held rows p)).rows (Some (codes "mode", w ∷ [])) (w ∷ []) bs 2 (one w) (first_ready _ bs w r.holds)
    ∙ sym (with_word [] bs w (parts_from false rest))
sits w rest seen h rows p _ bs _ (one m) r =
    goes _ _ w rest (plain_fault second rows p w seen r.sound) (plain_goes second rows p w seen)
    ∙ h.idles (settled rules (held rows p)).rows (Some (codes "arg", w ∷ [])) (m ∷ w ∷ []) bs 3 (two m w) (second_ready _ m bs w r.holds)
    ∙ sym (with_word (m ∷ []) bs w (parts_from false rest))
sits w rest seen h rows p _ bs _ (two m a) r =
    goes _ _ w rest (plain_fault third rows p w seen r.sound) (plain_goes third rows p w seen)
    ∙ h.idles (settled rules (held rows p)).rows (Some (codes "arg2", w ∷ [])) (m ∷ a ∷ w ∷ []) bs 4 (three m a w) (third_ready _ m a bs w r.holds)
    ∙ sym (with_word (m ∷ a ∷ []) bs w (parts_from false rest))
sits w rest seen h rows p _ bs _ (three m a x) r =
    stops _ w rest kind.UnknownArgument (plain_stops rows p w seen) ∙ four [] bs m a x w (parts_from false rest)

idle_on : (w : Text) (rest : List Text) → View w → Answers rest → (rows : List Row) (p : Option (Text × List Text)) (ps bs : List Text) (n : ℕ) → Filled ps n → Ready rows p ps bs
    → answer (stands (held rows p) idle n false) (w ∷ rest) ≡ joined ps bs (parts_from false (w ∷ rest))
idle_on _ rest ends h rows p ps bs n f r =
    goes _ _ (codes "--") rest (ends_fault (held rows p) n) (ends_goes (held rows p) n) ∙ trail rest rows p ps bs n f r
    ∙ ap (λ (l : List Text). asked_in (record { positionals = ps ++ rest; budgets = l })) (sym (append-nil bs))
idle_on _ rest budget_next h rows p ps bs n f r =
    goes _ _ (codes "--budget") rest (next_fault rows p n r.sound) (next_goes rows p n) ∙ h.waiting (settled rules (held rows p)).rows ps bs n f r.holds
idle_on _ rest (budget_is v) h rows p ps bs n f r =
    goes _ _ (codes "--budget=" ++ v) rest (number_fault rows p n v r.sound) (number_goes rows p n v)
    ∙ h.idles (put (codes "budget") AsWritten v (settled rules (held rows p)).rows) None ps (bs ++ v ∷ []) n f (number_ready _ ps bs v r.holds)
    ∙ sym (with_number ps bs v (parts_from false rest))
idle_on _ rest (long w l) h rows p ps bs n f r =
    stops _ w rest kind.UnknownArgument (long_stops rows p n w l)
    ∙ ap (λ (k : Kind). joined ps bs (parts_at k w rest (parts_from false rest) (parts_from true rest))) (sym l.kind)
idle_on _ rest (short w s) h rows p ps bs n f r =
    stops _ w rest kind.UnknownArgument (short_stops rows p n w s)
    ∙ ap (λ (k : Kind). joined ps bs (parts_at k w rest (parts_from false rest) (parts_from true rest))) (sym s.kind)
idle_on _ rest (plain w seen) h rows p ps bs n f r =
    sits w rest seen h rows p ps bs n f r
    ∙ ap (λ (k : Kind). joined ps bs (parts_at k w rest (parts_from false rest) (parts_from true rest))) (sym seen.kind)

wait_on : (w : Text) (rest : List Text) → View w → Answers rest → (rows : List Row) (ps bs : List Text) (n : ℕ) → Filled ps n → Holds rows ps bs
    → answer (waits rows n false) (w ∷ rest) ≡ joined ps bs (with_budget w (parts_from false rest))
wait_on _ rest ends h rows ps bs n f r =
    goes _ _ (codes "--") rest (wait_ends rows n) (wait_ends_goes rows n) ∙ doomed rest rows ps n f ∙ none_wanted ps bs _ _ (parts_from false rest) refl
wait_on _ rest budget_next h rows ps bs n f r =
    stops _ (codes "--budget") rest kind.InvalidValue (wait_next_stops rows n) ∙ none_wanted ps bs _ _ (parts_from false rest) refl
wait_on _ rest (budget_is v) h rows ps bs n f r =
    stops _ (codes "--budget=" ++ v) rest kind.InvalidValue (wait_number_stops rows n v) ∙ none_wanted ps bs _ _ (parts_from false rest) refl
wait_on _ rest (long w l) h rows ps bs n f r =
    stops _ w rest kind.UnknownArgument (wait_long_stops rows n w l) ∙ none_wanted ps bs w l.rest (parts_from false rest) l.is
wait_on _ rest (short w s) h rows ps bs n f r =
    stops _ w rest kind.UnknownArgument (wait_short_stops rows n w s) ∙ none_wanted ps bs w (s.flag ∷ s.more) (parts_from false rest) s.is
wait_on _ rest (plain w seen) h rows ps bs n f r =
    goes _ _ w rest (wait_plain rows n w seen) (wait_plain_goes rows n w seen)
    ∙ h.idles rows (Some (codes "budget", w ∷ [])) ps (bs ++ w ∷ []) n f (waited_ready rows ps bs w r)
    ∙ sym (with_number ps bs w (parts_from false rest))

answers : (words : List Text) → All IsUtf8 words → Answers words
answers [] utf8 = record {
  idles = λ rows p ps bs n f r. ended rows p ps bs n false f r
      ∙ ap (λ (l : List Text). asked_in (record { positionals = l; budgets = bs })) (sym (append-nil ps))
      ∙ ap (λ (l : List Text). asked_in (record { positionals = ps ++ []; budgets = l })) (sym (append-nil bs));
  waiting = λ rows ps bs n f h. wait_end rows n false;
}
answers (w ∷ rest) utf8 =
    let seen = view w (All-get_or IsUtf8 (w ∷ rest) 0 w (omega arith) utf8) in
    let h = answers rest (All-drop IsUtf8 1 (w ∷ rest) utf8) in
    record {
      idles = λ rows p ps bs n f r. idle_on w rest seen h rows p ps bs n f r;
      waiting = λ rows ps bs n f r. wait_on w rest seen h rows ps bs n f r;
    }

begun : Ready [] None [] []
begun = record { sound = refl; holds = record { mode = refl; arg = refl; arg2 = refl; budget = refl } }

all_words : (words : List Text) → All IsUtf8 words → answer (walk_from nothing_held) words ≡ asked_command words
all_words words utf8 = (answers words utf8).idles [] None [] [] 1 none begun ∙ back (parts_of words)
  where
    back : (o : Option Parts) → joined [] [] o ≡ option_and_then asked_in o
    back None = refl
    back (Some p) = refl

-- ---- what `clap` says of the words

-- no argument has a default
NoDefaults : List Rule → Type 0
NoDefaults [] = Unit {0}
NoDefaults (a ∷ rest) = (a.defaults ≡ []) × NoDefaults rest

no_default : (a : Rule) (rows : List Row) → a.defaults ≡ [] → (default_fault rows a ≡ []) × (with_default rows a ≡ rows)
no_default a rows e = go (has_row a.id rows) refl
  where
    go : (t : Bool) → has_row a.id rows ≡ t → (default_fault rows a ≡ []) × (with_default rows a ≡ rows)
    go true t = (rw t refl, rw t refl)
    go false t = (rw (t, e) refl, rw (t, e) refl)

no_defaults : (list : List Rule) (rows : List Row) → NoDefaults list → (defaults_fault rows list ≡ []) × (fold with_default rows list ≡ rows)
unfolding defaults_fault NoDefaults
no_defaults [] rows h = (refl, refl)
no_defaults (a ∷ rest) rows h =
    let d = no_default a rows h.0 in
    let r = no_defaults rest rows h.1 in
    (rw (d.0, d.1) r.0, ap (λ (rs : List Row). fold with_default rs rest) d.1 ∙ r.1)

rules_have_none : NoDefaults rules
unfolding NoDefaults
rules_have_none = (refl, (refl, (refl, (refl, tt))))

no_check : (rows : List Row) → check_fault top rows false ≡ []
no_check rows = refl

or_none : (ks : Kinds) → or_else ks [] ≡ ks
or_none [] = refl
or_none (k ∷ ks) = refl

same_faults : (words : List Text) → fault_of program words ≡ faults (walk_from nothing_held) words
same_faults words =
    let w = walk_fault top [] (walk_from nothing_held) words in
    let h = after (walk_from nothing_held) words in
    let s = settle_fault rules false h in
    leaf_fault (built program) nothing_held words refl
    ∙ ap (λ (d : Kinds). or_else w (or_else s (or_else d []))) ((no_defaults rules (settled rules h).rows rules_have_none).0)
    ∙ ap (λ (d : Kinds). or_else w d) (or_none s)

same_rows : (words : List Text) → matches_of program words ≡ (settled rules (after (walk_from nothing_held) words)).rows
same_rows words = (no_defaults rules (settled rules (after (walk_from nothing_held) words)).rows rules_have_none).1

read : (words : List Text) → All IsUtf8 words → answered (fault_of program words) (matches_of program words) ≡ asked_command words
read words utf8 = ap (λ (ks : Kinds). answered ks (matches_of program words)) (same_faults words)
    ∙ ap (λ (rs : List Row). answered (faults (walk_from nothing_held) words) rs) (same_rows words) ∙ all_words words utf8

pub taken : (words : List Text) (m : ArgMatches) → All IsUtf8 words → fault_of program words ≡ [] → rows_of (found_of m) ≡ matches_of program words
    → found_command (found_of m) ≡ asked_command words
taken words m utf8 empty rows =
    same (first_value-rows f (codes "mode")) (first_value-rows f (codes "arg")) (first_value-rows f (codes "arg2")) (raw_values-rows f (codes "budget"))
    ∙ ap (λ (rs : List Row). answered [] rs) rows ∙ ap (λ (ks : Kinds). answered ks (matches_of program words)) (sym empty) ∙ read words utf8
  where
    f : Found
    f = found_of m

    same : {a a2 b b2 c c2 : Option Text} {d d2 : Option (List Text)} → a ≡ a2 → b ≡ b2 → c ≡ c2 → d ≡ d2 → asked_with a b c d ≡ asked_with a2 b2 c2 d2
    same e g h i = cc

pub refused_words : (words : List Text) → All IsUtf8 words → (fault_of program words ≡ [] → ⊥) → asked_command words ≡ None
refused_words words utf8 some = go (fault_of program words) refl (read words utf8)
  where
    go : (ks : Kinds) → fault_of program words ≡ ks → answered (fault_of program words) (matches_of program words) ≡ asked_command words → asked_command words ≡ None
    go [] e r = absurd (some e)
    go (k ∷ ks) e r = sym r ∙ ap (λ (xs : Kinds). answered xs (matches_of program words)) e

-- ---- what a parse by such a command says

pub taken_by : (a : App) (words : List Text) (m : ArgMatches) → a ≡ program → All IsUtf8 words
    → (is_simple_and_free a ≡ true → fault_of a words ≡ []) → HasMatchesOf a words m → found_command (found_of m) ≡ asked_command words
taken_by a words m e utf8 faultless matches =
    let clear : fault_of program words ≡ [] = ap (λ (x : App). fault_of x words) (sym e) ∙ faultless (ap is_simple_and_free e) in
    let rows : rows_of (found_of m) ≡ matches_of program words = (matches (ap is_simple e)).0 ∙ ap (λ (x : App). matches_of x words) e in
    taken words m utf8 clear rows

pub refused_by : (a : App) (words : List Text) (x : Error) → a ≡ program → All IsUtf8 words
    → (is_simple_and_free a ≡ true → HasKind (fault_of a words) x) → (error_kind x ≡ kind.OutOfMemory → ⊥) → asked_command words ≡ None
refused_by a words x e utf8 kinds memory =
    let has : HasKind (fault_of program words) x = subst (λ (y : App). HasKind (fault_of y words) x) e (kinds (ap is_simple_and_free e)) in
    refused_words words utf8 (λ empty. elim has [
      | inl k ↦ memory k
      | inr among ↦ subst (λ (ks : Kinds). IsAmong (error_kind x) ks) empty among
    ])
