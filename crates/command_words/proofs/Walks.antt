-- How the walk over the words goes on, word by word.
use Rattle.std.proofs.Common.{◌≡◌, ◌∙◌, ap, ℕ, ◌&&◌, Bool, true, false, List, [], ◌∷◌, ◌++◌, Option, Some, None, refl, codes}
use Rattle.std.specs.Prelude.{fold, if◌then◌else◌}
use Rattle.clap.specs.Words.{Row, Rule, Text, built, all_of, first_of}
use Rattle.clap.specs.Walk.{Held, Walk, Waiting, idle, option, walked, settled, pushed}
use Rattle.clap.specs.Simple.{Shape}
use Rattle.clap.specs.Kinds.{Kinds, or_else}
use Rattle.clap.specs.Faults.{turn_fault, walk_fault, settle_fault, flags_fault}
use Rattle.clap.specs.declared.error.kind.ErrorKind.{ErrorKind}
use Rattle.clap.specs.declared.error.kind.ErrorKind.TheVariants as kind
use Rattle.clap.proofs.OnLiterals.{clap_on_literals}
use Rattle.command_words.specs.Asked.{Asked}
use Rattle.command_words.specs.Program.{program, asked_with}
use Rattle.command_words.proofs.Seen.{Plain, Long, Short}
use Rattle.command_words.proofs.Rows.{put}
use Rattle.clap.specs.declared.builder.value_parser.Reading.TheVariants.{AsWritten}

abbrev pub top : Shape
top = (built program).top

abbrev pub rules : List Rule
rules = top.rules

abbrev pub held : List Row → Option (Text × List Text) → Held
held rows pending = record { rows = rows; pending = pending; skip = 0 }

abbrev pub stands : Held → Waiting → ℕ → Bool → Walk
stands h waiting position trailing = record { held = h; waiting = waiting; position = position; is_trailing = trailing; stopped = None }

abbrev pub answered : Kinds → List Row → Option Asked
answered [] rows = asked_with (first_of (codes "mode") rows) (first_of (codes "arg") rows) (first_of (codes "arg2") rows) (all_of (codes "budget") rows)
answered (k ∷ ks) rows = None

abbrev pub after : Walk → List Text → Held
after w words = (fold (walked rules []) w words).held

abbrev pub faults : Walk → List Text → Kinds
faults w words = or_else (walk_fault top [] w words) (settle_fault rules false (after w words))

-- what the walk over the words comes to
abbrev pub answer : Walk → List Text → Option Asked
answer w words = answered (faults w words) (settled rules (after w words)).rows

pub goes : (w next : Walk) (word : Text) (rest : List Text) → turn_fault top [] w word ≡ [] → walked rules [] w word ≡ next
    → answer w (word ∷ rest) ≡ answer next rest
unfolding walk_fault
goes w next word rest none to =
    let P : Walk → Option Asked = λ v. answered (or_else (or_else (turn_fault top [] w word) (walk_fault top [] v rest)) (settle_fault rules false (after v rest))) (settled rules (after v rest)).rows in
    ap P to ∙ rw none refl

pub stops : (w : Walk) (word : Text) (rest : List Text) (k : ErrorKind) → turn_fault top [] w word ≡ k ∷ [] → answer w (word ∷ rest) ≡ None
unfolding walk_fault
stops w word rest k fault = rw fault refl

-- no argument takes several values at once
neither : {X : Type 0} (b : Bool) (x y : X) → (if b && false then x else y) ≡ y
neither true x y = refl
neither false x y = refl

-- ---- a word of the option

pub next_fault : (rows : List Row) (p : Option (Text × List Text)) (n : ℕ) → settle_fault rules false (held rows p) ≡ []
    → turn_fault top [] (stands (held rows p) idle n false) (codes "--budget") ≡ []
unfolding clap_on_literals
next_fault rows p n none = rw none refl

pub next_goes : (rows : List Row) (p : Option (Text × List Text)) (n : ℕ)
    → walked rules [] (stands (held rows p) idle n false) (codes "--budget")
    ≡ stands (held (settled rules (held rows p)).rows (Some (codes "budget", []))) (option (codes "budget")) n false
unfolding clap_on_literals
next_goes rows p n = refl

pub number_fault : (rows : List Row) (p : Option (Text × List Text)) (n : ℕ) (v : Text) → settle_fault rules false (held rows p) ≡ []
    → turn_fault top [] (stands (held rows p) idle n false) (codes "--budget=" ++ v) ≡ []
unfolding clap_on_literals
number_fault rows p n v none = rw none refl

pub number_goes : (rows : List Row) (p : Option (Text × List Text)) (n : ℕ) (v : Text)
    → walked rules [] (stands (held rows p) idle n false) (codes "--budget=" ++ v)
    ≡ stands (held (put (codes "budget") AsWritten v (settled rules (held rows p)).rows) None) idle n false
unfolding clap_on_literals
number_goes rows p n v = refl

-- ---- `--`

pub ends_fault : (h : Held) (n : ℕ) → turn_fault top [] (stands h idle n false) (codes "--") ≡ []
unfolding clap_on_literals
ends_fault h n = refl

pub ends_goes : (h : Held) (n : ℕ) → walked rules [] (stands h idle n false) (codes "--") ≡ stands h idle n true
unfolding clap_on_literals
ends_goes h n = refl

-- ---- an option that is not there

pub long_stops : (rows : List Row) (p : Option (Text × List Text)) (n : ℕ) (word : Text) → Long word
    → turn_fault top [] (stands (held rows p) idle n false) word ≡ kind.UnknownArgument ∷ []
long_stops rows p n word l = rw (l.dashes, l.long, l.strange) refl

pub short_stops : (rows : List Row) (p : Option (Text × List Text)) (n : ℕ) (word : Text) → Short word
    → turn_fault top [] (stands (held rows p) idle n false) word ≡ kind.UnknownArgument ∷ []
unfolding flags_fault
short_stops rows p n word s = rw (s.dashes, s.long, s.short, s.char) refl

-- ---- positionals

pub data Seat : Type 0 where
  first : Seat
  second : Seat
  third : Seat

abbrev pub number : Seat → ℕ
number first = 1
number second = 2
number third = 3

abbrev pub next : Seat → ℕ
next first = 2
next second = 3
next third = 4

abbrev pub id : Seat → Text
id first = codes "mode"
id second = codes "arg"
id third = codes "arg2"

pub plain_fault : (s : Seat) (rows : List Row) (p : Option (Text × List Text)) (word : Text) → Plain word → settle_fault rules false (held rows p) ≡ []
    → turn_fault top [] (stands (held rows p) idle (number s) false) word ≡ []
plain_fault first rows p word w none = rw (w.dashes, w.long, w.short) (neither _ _ _ ∙ none)
plain_fault second rows p word w none = rw (w.dashes, w.long, w.short) (neither _ _ _ ∙ none)
plain_fault third rows p word w none = rw (w.dashes, w.long, w.short) (neither _ _ _ ∙ none)

pub trailing_fault : (s : Seat) (rows : List Row) (p : Option (Text × List Text)) (word : Text) → settle_fault rules false (held rows p) ≡ []
    → turn_fault top [] (stands (held rows p) idle (number s) true) word ≡ []
trailing_fault first rows p word none = neither _ _ _ ∙ none
trailing_fault second rows p word none = neither _ _ _ ∙ none
trailing_fault third rows p word none = neither _ _ _ ∙ none

-- a positional is held after what was held before
seated : (s : Seat) (rows : List Row) (p : Option (Text × List Text)) (word : Text) (trailing b : Bool)
    → stands (pushed (id s) word (if b && false then held rows p else settled rules (held rows p))) idle (next s) trailing
    ≡ stands (held (settled rules (held rows p)).rows (Some (id s, word ∷ []))) idle (next s) trailing
seated s rows p word trailing b =
    ap (λ (h : Held). stands (pushed (id s) word h) idle (next s) trailing) (neither b (held rows p) (settled rules (held rows p)))

pub plain_goes : (s : Seat) (rows : List Row) (p : Option (Text × List Text)) (word : Text) → Plain word
    → walked rules [] (stands (held rows p) idle (number s) false) word
    ≡ stands (held (settled rules (held rows p)).rows (Some (id s, word ∷ []))) idle (next s) false
unfolding walked
plain_goes first rows p word w = rw (w.dashes, w.long, w.short) (seated first rows p word false _)
plain_goes second rows p word w = rw (w.dashes, w.long, w.short) (seated second rows p word false _)
plain_goes third rows p word w = rw (w.dashes, w.long, w.short) (seated third rows p word false _)

pub trailing_goes : (s : Seat) (rows : List Row) (p : Option (Text × List Text)) (word : Text)
    → walked rules [] (stands (held rows p) idle (number s) true) word
    ≡ stands (held (settled rules (held rows p)).rows (Some (id s, word ∷ []))) idle (next s) true
unfolding walked
trailing_goes first rows p word = seated first rows p word true _
trailing_goes second rows p word = seated second rows p word true _
trailing_goes third rows p word = seated third rows p word true _

pub plain_stops : (rows : List Row) (p : Option (Text × List Text)) (word : Text) → Plain word
    → turn_fault top [] (stands (held rows p) idle 4 false) word ≡ kind.UnknownArgument ∷ []
plain_stops rows p word w = rw (w.dashes, w.long, w.short) refl

pub trailing_stops : (rows : List Row) (p : Option (Text × List Text)) (word : Text)
    → turn_fault top [] (stands (held rows p) idle 4 true) word ≡ kind.UnknownArgument ∷ []
trailing_stops rows p word = refl

-- ---- where the word before was `--budget`

abbrev pub waits : List Row → ℕ → Bool → Walk
waits rows n trailing = stands (held rows (Some (codes "budget", []))) (option (codes "budget")) n trailing

pub wait_ends : (rows : List Row) (n : ℕ) → turn_fault top [] (waits rows n false) (codes "--") ≡ []
unfolding clap_on_literals
wait_ends rows n = refl

pub wait_ends_goes : (rows : List Row) (n : ℕ) → walked rules [] (waits rows n false) (codes "--") ≡ waits rows n true
unfolding clap_on_literals
wait_ends_goes rows n = refl

pub wait_next_stops : (rows : List Row) (n : ℕ) → turn_fault top [] (waits rows n false) (codes "--budget") ≡ kind.InvalidValue ∷ []
unfolding clap_on_literals
wait_next_stops rows n = refl

pub wait_number_stops : (rows : List Row) (n : ℕ) (v : Text) → turn_fault top [] (waits rows n false) (codes "--budget=" ++ v) ≡ kind.InvalidValue ∷ []
unfolding clap_on_literals
wait_number_stops rows n v = refl

pub wait_long_stops : (rows : List Row) (n : ℕ) (word : Text) → Long word → turn_fault top [] (waits rows n false) word ≡ kind.UnknownArgument ∷ []
wait_long_stops rows n word l = rw (l.dashes, l.long, l.strange) refl

pub wait_short_stops : (rows : List Row) (n : ℕ) (word : Text) → Short word → turn_fault top [] (waits rows n false) word ≡ kind.UnknownArgument ∷ []
unfolding flags_fault
wait_short_stops rows n word s = rw (s.dashes, s.long, s.short, s.char) refl

pub wait_plain : (rows : List Row) (n : ℕ) (word : Text) → Plain word → turn_fault top [] (waits rows n false) word ≡ []
wait_plain rows n word w = rw (w.dashes, w.long, w.short) refl

pub wait_plain_goes : (rows : List Row) (n : ℕ) (word : Text) → Plain word
    → walked rules [] (waits rows n false) word ≡ stands (held rows (Some (codes "budget", word ∷ []))) idle n false
unfolding walked
wait_plain_goes rows n word w = rw (w.dashes, w.long, w.short) refl

pub wait_trailing_stops : (s : Seat) (rows : List Row) (word : Text) → turn_fault top [] (waits rows (number s) true) word ≡ kind.InvalidValue ∷ []
wait_trailing_stops first rows word = refl
wait_trailing_stops second rows word = refl
wait_trailing_stops third rows word = refl

pub wait_trailing_full : (rows : List Row) (word : Text) → turn_fault top [] (waits rows 4 true) word ≡ kind.UnknownArgument ∷ []
wait_trailing_full rows word = refl

pub wait_end : (rows : List Row) (n : ℕ) (trailing : Bool) → answer (waits rows n trailing) [] ≡ None
unfolding walk_fault
wait_end rows n trailing = refl
