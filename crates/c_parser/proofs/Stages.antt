-- What the depth that is left is there for, by whether any is left.
use Rattle.std.proofs.Common.{◌≡◌, ◌≤◌, ◌<◌, ◌-◌, ℕ, zero, suc, true, false, List, [], ◌∷◌, length, refl, subst, inl, inr, ◌∙◌, Option, Some, None, arith}
use Rattle.std.specs.Prelude.{codes, option_and_then, IsErrAnd}
use Rattle.std.specs.declared.result.Result.{Result}
use Rattle.std.proofs.lemmas.Result.{err_from_is_err_and}
use Rattle.c_token.specs.declared.token.TokenKind.TheVariants as kind
use Rattle.c_parser.specs.declared.error.ParseError.{ParseError}
use Rattle.c_parser.specs.declared.error.ParseError.TheVariants as error
use Rattle.c_grammar.proofs.StageSound.{stage_sound}
use Rattle.c_grammar.proofs.Shorter.{line_shorter as spelled_shorter}
use Rattle.std.proofs.lemmas.Bool.{cases_lt}
use Rattle.c_tree.specs.declared.tree.TypeName.{TypeName}
use Rattle.c_tree.specs.declared.tree.Unit.{Unit as Measured}
use Rattle.c_tree.specs.Plain.{Expr}
use Rattle.c_tree.specs.Plain as tree
use Rattle.c_token.specs.declared.token.Token.{Token}
use Rattle.c_grammar.specs.Parts.{Part, Piece}
use Rattle.c_grammar.specs.Exprs.{leaf, product_line, expr_line}
use Rattle.c_grammar.specs.Types.{type_of}
use Rattle.c_grammar.specs.Reading.{is_mark, is_word, Front, Stretch, after_mark, read_base, read_star}
use Rattle.c_grammar.specs.ReadExprs.{Reader, Stage, stage, find, operations, read_line, read_unary, read_counted, rise, allocation_at, size_by, size_unit, read_unit, begins_base, begins_sizeof, args_closed}
use Rattle.c_grammar.proofs.Fronts.{by_bool, by_option, is_word_true}
use Rattle.c_parser.specs.Below.{args_before, malloc_after}
use Rattle.c_grammar.specs.ReadExprs as reading
use Rattle.c_parser.specs.Views.{literal, Refuses, Gives, Cast, cast_closed, cast_starred, cast_base, read_cast}

pub line_at_none : (k : ℕ) (ts : List Token) → (stage 0).line k ts ≡ None
unfolding stage
line_at_none k ts = refl

pub line_below : (limit k : ℕ) (ts : List Token) → 0 < limit → (stage limit).line k ts ≡ read_line (stage (limit - 1)) (limit - 1) k ts
unfolding stage
line_below zero k ts some = absurd (omega arith)
line_below (suc d) k ts some = let less : suc d - 1 ≡ d = omega arith in rw less refl

-- a line that refuses leaves the lines above it nothing
pub line_refused : (s : Stage) (d k : ℕ) (ts : List Token) → read_unary s d ts ≡ None → read_line s d k ts ≡ None
line_refused s d zero ts none = none
line_refused s d (suc k) ts none = let below = line_refused s d k ts none in rw below refl

pub higher_refused : (s : Stage) (d k j : ℕ) (ts : List Token) → k ≤ j → read_line s d k ts ≡ None → read_line s d j ts ≡ None
higher_refused s d zero zero ts low none = none
higher_refused s d (suc k) zero ts low none = absurd (omega arith)
higher_refused s d k (suc j) ts low none = elim (cases_lt j k) [
  | inl less ↦ let same : k ≡ suc j = omega arith in let P : ℕ → Type 0 = λ n. read_line s d n ts ≡ None in subst P same none
  | inr least ↦ let below = higher_refused s d k j ts least none in rw below refl
]

pub higher_rise : (s : Stage) (d k j : ℕ) (p : Part Expr) → k ≤ j → rise s d k p ≡ None → rise s d j p ≡ None
higher_rise s d zero zero p low none = none
higher_rise s d (suc k) zero p low none = absurd (omega arith)
higher_rise s d k (suc j) p low none = elim (cases_lt j k) [
  | inl less ↦ let same : k ≡ suc j = omega arith in let P : ℕ → Type 0 = λ n. rise s d n p ≡ None in subst P same none
  | inr least ↦ let below = higher_rise s d k j p least none in rw below refl
]

-- what is read with no level left
pub first_paren : (t : Token) (ts : List Token) → reading.paren_at (stage 0) t ts ≡ None
unfolding stage
first_paren t ts = by_bool (begins_base ts)
    (λ y. rw y (based (read_base ts)))
    (λ n. rw n refl)
  where
    closed : (k : TypeName) (o : Option Front) → option_and_then (λ q. reading.cast_made t k q.rest reading.first) o ≡ None
    closed k None = refl
    closed k (Some q) = refl

    typed : (r : Stretch) (o : Option TypeName) → reading.cast_typed reading.first t r o ≡ None
    typed r None = refl
    typed r (Some k) = closed k (after_mark (codes ")") r.rest)

    starred : (b : Piece Measured) (o : Option Stretch) → option_and_then (λ r. reading.cast_typed reading.first t r (type_of b.tree true)) o ≡ None
    starred b None = refl
    starred b (Some r) = typed r (type_of b.tree true)

    based : (o : Option (Piece Measured)) → option_and_then (reading.cast_base reading.first t) o ≡ None
    based None = refl
    based (Some b) = starred b (read_star b.rest)

-- a cast is read, and then the allocation
pub cast_then : (s : Stage) (t : Token) (ts : List Token)
    → option_and_then (reading.cast_base s t) (read_base ts) ≡ option_and_then (λ c. reading.cast_made t c.kind c.rest s) (read_cast ts)
cast_then s t ts = based (read_base ts)
  where
    closed : (k : TypeName) (o : Option Front)
        → option_and_then (λ q. reading.cast_made t k q.rest s) o ≡ option_and_then (λ (c : Cast). reading.cast_made t c.kind c.rest s) (option_and_then (λ q. Some (record { kind = k; rest = q.rest })) o)
    closed k None = refl
    closed k (Some q) = refl

    typed : (r : Stretch) (o : Option TypeName)
        → reading.cast_typed s t r o ≡ option_and_then (λ (c : Cast). reading.cast_made t c.kind c.rest s) (option_and_then (cast_closed r.rest) o)
    typed r None = refl
    typed r (Some k) = closed k (after_mark (codes ")") r.rest)

    starred : (b : Piece Measured) (o : Option Stretch)
        → option_and_then (λ r. reading.cast_typed s t r (type_of b.tree true)) o
        ≡ option_and_then (λ (c : Cast). reading.cast_made t c.kind c.rest s) (option_and_then (cast_starred b) o)
    starred b None = refl
    starred b (Some r) = typed r (type_of b.tree true)

    based : (o : Option (Piece Measured))
        → option_and_then (reading.cast_base s t) o ≡ option_and_then (λ (c : Cast). reading.cast_made t c.kind c.rest s) (option_and_then cast_base o)
    based None = refl
    based (Some b) = starred b (read_star b.rest)

-- the allocation at the front, where a level is left
pub allocation_none : (ts : List Token) → (stage 0).allocation ts ≡ None
unfolding stage
allocation_none ts = refl

pub allocation_below : (limit : ℕ) (t : Token) (ts : List Token) → 0 < limit
    → (stage limit).allocation (t ∷ ts) ≡ allocation_at (stage (limit - 1)) (limit - 1) t ts
unfolding stage
allocation_below zero t ts some = absurd (omega arith)
allocation_below (suc d) t ts some = let less : suc d - 1 ≡ d = omega arith in rw less refl

-- the size, where a level is left
pub size_below : (limit : ℕ) (ts : List Token) → 0 < limit
    → (stage limit).size ts ≡ size_by ((stage limit).line product_line) (read_counted (stage (limit - 1)) (limit - 1)) (rise (stage (limit - 1)) (limit - 1) 5) limit ts
unfolding stage
size_below zero ts some = absurd (omega arith)
size_below (suc d) ts some = let less : suc d - 1 ≡ d = omega arith in rw less refl

pub size_units : (limit : ℕ) (ts : List Token) → begins_sizeof ts ≡ true
    → (stage limit).size ts ≡ option_and_then (λ u. size_unit ((stage limit).line product_line) u (after_mark (codes "*") u.rest)) (read_unit limit ts)
unfolding stage
size_units zero ts begins = rw begins refl
size_units (suc d) ts begins = rw begins refl

pub size_none : (ts : List Token) → begins_sizeof ts ≡ false → (stage 0).size ts ≡ None
unfolding stage
size_none ts begins = rw begins refl

-- arguments and the parenthesis that closes them
pub args_none : (ts : List Token) → (stage 0).args ts ≡ None
unfolding stage
args_none ts = refl

pub args_below : (limit : ℕ) (ts : List Token) (q : Front) → 0 < limit → after_mark (codes "(") ts ≡ Some q
    → (stage limit).args ts ≡ option_and_then args_closed (args_before ((stage (limit - 1)).line expr_line) q.rest)
unfolding stage
args_below zero ts q some opens = absurd (omega arith)
args_below (suc d) ts q some opens = let less : suc d - 1 ≡ d = omega arith in rw (less, opens) (by_option (after_mark (codes ")") q.rest)
    (λ c closes. rw (closes, closes) refl)
    (λ none. rw none refl))

pub allocation_malloc : (limit : ℕ) (t : Token) (ts : List Token) → 0 < limit → is_word (codes "malloc") t.kind ≡ true
    → (stage limit).allocation (t ∷ ts) ≡ malloc_after (stage (limit - 1)) t ts
allocation_malloc limit t ts some is = allocation_below limit t ts some ∙ rw is refl

pub allocation_calloc : (limit : ℕ) (t : Token) (ts : List Token) → 0 < limit → is_word (codes "calloc") t.kind ≡ true
    → (stage limit).allocation (t ∷ ts) ≡ option_and_then (λ q. option_and_then (reading.calloc_comma (limit - 1) t) ((stage (limit - 1)).line expr_line q.rest)) (after_mark (codes "(") ts)
allocation_calloc limit t ts some is =
    let other : is_word (codes "malloc") t.kind ≡ false = let k = is_word_true (codes "calloc") t.kind is in rw k refl in
    allocation_below limit t ts some ∙ rw (other, is) refl

pub allocation_other : (limit : ℕ) (t : Token) (ts : List Token) → (0 < limit → is_word (codes "malloc") t.kind ≡ false)
    → (1 < limit → is_word (codes "calloc") t.kind ≡ false) → (stage limit).allocation (t ∷ ts) ≡ None
unfolding stage
allocation_other zero t ts m c = refl
allocation_other (suc zero) t ts m c = rw (m (omega arith)) (by_bool (is_word (codes "calloc") t.kind)
    (λ y. rw y (by_option (after_mark (codes "(") ts) (λ q is. rw is refl) (λ none. rw none refl)))
    (λ n. rw n refl))
allocation_other (suc (suc d)) t ts m c = rw (m (omega arith), c (omega arith)) refl

pub line_shorter : (limit k : ℕ) (ts : List Token) (p : Part Expr) → (stage limit).line k ts ≡ Some p → length p.rest < length ts
line_shorter limit k ts p read = spelled_shorter k ts p ((stage_sound limit).line k ts p read).0

pub nothing_allocated : (limit : ℕ) → (stage limit).allocation [] ≡ None
unfolding stage
nothing_allocated zero = refl
nothing_allocated (suc d) = refl

pub paren_cast : (s : Stage) (t : Token) (ts : List Token) (c : Cast) → begins_base ts ≡ true → read_cast ts ≡ Some c
    → reading.paren_at s t ts ≡ reading.cast_made t c.kind c.rest s
paren_cast s t ts c begins read = rw begins (cast_then s t ts ∙ rw read refl)

-- the kinds of a primary
pub primary_name : (s : Stage) (t : Token) (ts : List Token) (x : List ℕ) → t.kind ≡ kind.Name x → reading.read_primary s (t ∷ ts) ≡ reading.name_at s t x ts (after_mark (codes "(") ts)
primary_name s t ts x is = rw is refl

pub primary_call : (s : Stage) (t : Token) (ts : List Token) (x : List ℕ) (q : Front) → t.kind ≡ kind.Name x → after_mark (codes "(") ts ≡ Some q
    → reading.read_primary s (t ∷ ts) ≡ option_and_then (reading.call_closed t x) (s.args ts)
primary_call s t ts x q is opens = rw (is, opens) refl

pub primary_word : (s : Stage) (t : Token) (ts : List Token) (w : List ℕ) → t.kind ≡ kind.Word w → literal t ts ≡ None
    → reading.read_primary s (t ∷ ts) ≡ option_and_then reading.plain_new (s.allocation (t ∷ ts))
primary_word s t ts w is none = let none' = rw is at none in by_bool (is_word (codes "NULL") (kind.Word w))
    (λ y. let never : Some (leaf tree.null t ts) ≡ None = rw y at none' in cc)
    (λ n. rw (is, n) refl)

pub primary_mark : (s : Stage) (t : Token) (ts : List Token) (m : List ℕ) → t.kind ≡ kind.Mark m → is_mark (codes "(") t.kind ≡ false
    → reading.read_primary s (t ∷ ts) ≡ None
primary_mark s t ts m is other = let other' = rw is at other in rw (is, other') refl

pub primary_first : (t : Token) (ts : List Token) (m : List ℕ) → t.kind ≡ kind.Mark m → reading.read_primary (stage 0) (t ∷ ts) ≡ None
primary_first t ts m is = by_bool (is_mark (codes "(") (kind.Mark m))
    (λ y. rw (is, y) (first_paren t ts))
    (λ n. rw (is, n) refl)

pub first_not : (t : Token) (ts : List Token) → is_mark (codes "!") t.kind ≡ true → read_unary (stage 0) 0 (t ∷ ts) ≡ None
unfolding stage
first_not t ts is = rw is refl

pub first_neg : (t : Token) (ts : List Token) → is_mark (codes "!") t.kind ≡ false → is_mark (codes "-") t.kind ≡ true → read_unary (stage 0) 0 (t ∷ ts) ≡ None
unfolding stage
first_neg t ts other is = rw (other, is) refl

-- what an exit of `?` hands on
pub refuses : {A B : Type 0} (e : ParseError) (a : Option A) (b : Option B) → (a ≡ None → b ≡ None) → Refuses e a → Refuses e b
refuses error.Memory a b f r = tt
refuses (error.Parse k) a b f r = f r

pub refused : {C A B : Type 0} (view : C → B) (r : Result C ParseError) (e : ParseError) (a : Option A) (b : Option B)
    → IsErrAnd r (λ y. y ≡ e) → Refuses e a → (a ≡ None → b ≡ None) → Gives view r b
refused view r e a b h gone f = let p = err_from_is_err_and r h in rw (p.1, p.2) (refuses e a b f gone)
