-- What the parts of the lexer find at the front of some bytes.
use Rattle.std.specs.Prelude.{◌<◌, ◌≤◌, ◌+◌, ◌==◌, ℕ, suc, pos, Bool, true, if◌then◌else◌, List, [], ◌∷◌, ◌++◌, length, take, Option, Some, None, option_map}
use Rattle.std.specs.List.{prefix_len}
use Rattle.c_tree.specs.Names.{is_letter, is_digit, is_word_byte, is_reserved}
use Rattle.c_token.specs.declared.position.Position.{Position}
use Rattle.c_token.specs.declared.token.TokenKind.{TokenKind}
use Rattle.c_token.specs.declared.token.TokenKind.TheVariants as kind
use Rattle.c_token.specs.Bytes.{is_line_feed, is_run_byte, number_of, is_plain, escaped, is_mark}
use Rattle.c_token.specs.Blanks.{IsBlank, BeginsNoBlank}
use Rattle.c_token.specs.Forms.{number_kind, opens_comment}

-- the position after one more byte
abbrev pub step : Position → ℕ → Position
step p b = if is_line_feed b then record { at = suc p.at; line = suc p.line; col = 1; first = true }
    else record { at = suc p.at; line = p.line; col = suc p.col; first = p.first }

-- the position after these bytes
abbrev pub pass : Position → List ℕ → Position
pass p [] = p
pass p (b ∷ bs) = pass (step p b) bs

-- a blank at the front, of at least one byte and not past the end
abbrev pub IsFittingBlank : Bool → List ℕ → ℕ → Type 0
IsFittingBlank first bs n = IsBlank first bs n × (0 < n) × (n ≤ length bs)

-- the comment that a slash begins with these bytes, or that it begins none
abbrev pub IsComment : List ℕ → Option ℕ → Type 0
IsComment bs None = (first : Bool) → BeginsNoBlank first (47 ∷ bs)
IsComment bs (Some n) = (first : Bool) → IsFittingBlank first (47 ∷ bs) n

-- which bytes go on a word, or a run
abbrev pub goes_on : Bool → ℕ → Bool
goes_on dotted b = if dotted then is_run_byte b else is_word_byte b

-- a unit at the front and its length
abbrev pub unit_at : ℕ → List ℕ → Option (ℕ × ℕ)
unit_at quote [] = None
unit_at quote (b ∷ []) = if is_plain quote b then Some (b, 1) else None
unit_at quote (b ∷ c ∷ bs) =
    if is_plain quote b then Some (b, 1)
    else (if b == 92 then option_map (λ v. (v, 2)) (escaped c bs) else None)

-- further units and bytes before those that were found
abbrev pub after : List ℕ → ℕ → Option (List ℕ × ℕ) → Option (List ℕ × ℕ)
after us n None = None
after us n (Some q) = Some (us ++ q.0, n + q.1)

abbrev pub after_escape : Option ℕ → Option (List ℕ × ℕ) → Option (List ℕ × ℕ)
after_escape None q = None
after_escape (Some v) q = after (v ∷ []) 2 q

-- the units before the first quote, and how many bytes they are with it
abbrev pub quoted : ℕ → List ℕ → Option (List ℕ × ℕ)
quoted quote [] = None
quoted quote (b ∷ []) = if b == quote then Some ([], 1) else None
quoted quote (b ∷ c ∷ bs) =
    if b == quote then Some ([], 1)
    else (if is_plain quote b then after (b ∷ []) 1 (quoted quote (c ∷ bs))
    else (if b == 92 then after_escape (escaped c bs) (quoted quote bs) else None))

-- a form at the front: its token, if it is one, and its length
abbrev pub Found : Type 0
Found = Option TokenKind × ℕ

abbrev pub word_kind : List ℕ → TokenKind
word_kind w = if is_reserved w then kind.Word w else kind.Name w

abbrev pub word_at : List ℕ → Option Found
word_at bs = let n = prefix_len is_word_byte bs in Some (Some (word_kind (take n bs)), n)

abbrev pub run_at : List ℕ → Option Found
run_at bs = let n = prefix_len is_run_byte bs in Some (option_map number_kind (number_of (take n bs)), n)

abbrev pub text_of : Option (List ℕ × ℕ) → Option Found
text_of None = None
text_of (Some q) = Some (Some (kind.Text q.0), suc q.1)

abbrev pub char_of : Option (List ℕ × ℕ) → Option Found
char_of (Some ((v ∷ []), n)) = Some (Some (kind.Char (pos v)), suc n)
char_of _ = None

abbrev pub mark_len : List ℕ → ℕ
mark_len [] = 0
mark_len (b ∷ []) = if is_mark (b ∷ []) then 1 else 0
mark_len (b ∷ c ∷ bs) = if is_mark (b ∷ c ∷ []) then 2 else (if is_mark (b ∷ []) then 1 else 0)

abbrev pub mark_at : List ℕ → Option Found
mark_at bs = let n = mark_len bs in if n == 0 then None else Some (Some (kind.Mark (take n bs)), n)

-- the longest form at the front, by its first byte
abbrev pub form_at : List ℕ → Option Found
form_at [] = None
form_at (b ∷ bs) =
    if is_letter b then word_at (b ∷ bs)
    else (if is_digit b then run_at (b ∷ bs)
    else (if b == 34 then text_of (quoted 34 bs)
    else (if b == 39 then char_of (quoted 39 bs)
    else mark_at (b ∷ bs))))

-- the token of a form, if it is one
abbrev pub token_of : Option Found → Option (TokenKind × ℕ)
token_of (Some ((Some k), n)) = Some (k, n)
token_of _ = None

-- the token at the front and its length
abbrev pub token_at : List ℕ → Option (TokenKind × ℕ)
token_at bs = if opens_comment bs then None else token_of (form_at bs)
