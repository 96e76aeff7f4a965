-- The longest form at the front is the one that the first byte tells.
use Rattle.std.proofs.Common.{◌≡◌, ◌<◌, ◌≤◌, ◌+◌, ◌==◌, ◌&&◌, ℕ, zero, suc, pos, Bool, true, false, not, List, [], ◌∷◌, ◌++◌, length, take, drop, Option, Some, None, refl, sym, ap, subst, ◌∙◌, inl, inr, arith}
use Rattle.std.specs.Prelude.{option_map, bytes_eq}
use Rattle.std.specs.List.{list_any, list_all, prefix_len}
use Rattle.std.proofs.lemmas.Bool.{cases_lt}
use Rattle.std.proofs.lemmas.Bool.Decides.{nat_tests}
use Rattle.std.proofs.lemmas.Slice.Eq.{bytes_eq-Decides}
use Rattle.std.proofs.lemmas.List.{take-append-drop, length-take-le}
use Rattle.std.proofs.lemmas.List.Sums.{prefix_len-le-length}
use Rattle.c_tree.specs.Names.{is_letter, is_digit, is_word_byte, is_word, is_reserved, is_name, keywords, library_words}
use Rattle.c_token.specs.declared.token.TokenKind.{TokenKind}
use Rattle.c_token.specs.declared.token.TokenKind.TheVariants as kind
use Rattle.c_token.specs.Bytes.{is_run_byte, is_run, number_of, IsQuoted, is_mark, marks}
use Rattle.c_token.specs.Forms.{number_kind, Form, name, word, number, text, char, mark, opens_comment, IsToken, BeginsNoToken}
use Rattle.c_token.specs.Parts.{Found, quoted, word_kind, word_at, run_at, text_of, char_of, mark_at, form_at, token_at}
use Rattle.c_token.proofs.QuoteLaws.{IsRead, quoted_read, IsQuote, quoted_whole, same}

-- what is true of each listed word is true of a word that is one of them
listed : (p : List ℕ → Bool) (w : List ℕ) (ws : List (List ℕ)) → list_any (bytes_eq w) ws ≡ true → list_all p ws ≡ true → p w ≡ true
listed p w [] any all = cc
listed p w (x ∷ ws) any all = go (bytes_eq w x) refl (p x) refl (listed p w ws)
  where
    go : (t : Bool) → bytes_eq w x ≡ t → (s : Bool) → p x ≡ s → (list_any (bytes_eq w) ws ≡ true → list_all p ws ≡ true → p w ≡ true) → p w ≡ true
    go true e true s rec = let is : w ≡ x = (bytes_eq-Decides w x).0 e in rw is s
    go true e false s rec = let never : false ≡ true = rw s at all in cc
    go false e true s rec = rec (rw e at any) (rw s at all)
    go false e false s rec = let never : false ≡ true = rw s at all in cc

both : (a b : Bool) → (a && b) ≡ true → (a ≡ true) × (b ≡ true)
both true b e = (refl, e)
both false b e = cc

reserved_word : (w : List ℕ) → is_reserved w ≡ true → is_word w ≡ true
reserved_word w is = go (list_any (bytes_eq w) keywords) refl
  where
    go : (t : Bool) → list_any (bytes_eq w) keywords ≡ t → is_word w ≡ true
    go true e = listed is_word w keywords e refl
    go false e = listed is_word w library_words (rw e at is) refl

-- no byte of the other classes
abbrev is_other : ℕ → Bool
is_other b = not (is_letter b) && (not (is_digit b) && (not (b == 34) && not (b == 39)))

-- at most two bytes, of which the first is of no other class
abbrev is_mark_shape : List ℕ → Bool
is_mark_shape [] = false
is_mark_shape (b ∷ []) = is_other b
is_mark_shape (b ∷ c ∷ []) = is_other b
is_mark_shape _ = false

mark_shape : (w : List ℕ) → is_mark w ≡ true → is_mark_shape w ≡ true
mark_shape w is = listed is_mark_shape w marks is refl

digit_no_letter : (b : ℕ) → is_digit b ≡ true → is_letter b ≡ false
digit_no_letter b is = grind (arith, nat_tests)

-- a byte of no other class is none of them
pub record IsOther (b : ℕ) : Type 0 where
  pub no_letter : is_letter b ≡ false
  pub no_digit : is_digit b ≡ false
  pub no_double : (b == 34) ≡ false
  pub no_single : (b == 39) ≡ false

not_false : (a : Bool) → not a ≡ true → a ≡ false
not_false true e = cc
not_false false e = refl

other : (b : ℕ) → is_other b ≡ true → IsOther b
other b is =
    let p = both (not (is_letter b)) (not (is_digit b) && (not (b == 34) && not (b == 39))) is in
    let q = both (not (is_digit b)) (not (b == 34) && not (b == 39)) p.1 in
    let r = both (not (b == 34)) (not (b == 39)) q.1 in
    record { no_letter = not_false (is_letter b) p.0; no_digit = not_false (is_digit b) q.0; no_double = not_false (b == 34) r.0; no_single = not_false (b == 39) r.1 }

-- the longest front that passes a test
all_within : (p : ℕ → Bool) (m : ℕ) (bs : List ℕ) → m ≤ length bs → list_all p (take m bs) ≡ true → m ≤ prefix_len p bs
all_within p zero bs fits all = omega arith
all_within p (suc m) [] fits all = absurd (omega arith)
all_within p (suc m) (b ∷ bs) fits all = go (p b) refl (all_within p m bs (omega arith))
  where
    go : (t : Bool) → p b ≡ t → (list_all p (take m bs) ≡ true → m ≤ prefix_len p bs) → suc m ≤ prefix_len p (b ∷ bs)
    go true e h = let r = h (rw e at all) in rw e (omega arith)
    go false e h = let never : false ≡ true = rw e at all in cc

prefix_all : (p : ℕ → Bool) (bs : List ℕ) → list_all p (take (prefix_len p bs) bs) ≡ true
prefix_all p [] = refl
prefix_all p (b ∷ bs) = go (p b) refl (prefix_all p bs)
  where
    go : (t : Bool) → p b ≡ t → list_all p (take (prefix_len p bs) bs) ≡ true → list_all p (take (prefix_len p (b ∷ bs)) (b ∷ bs)) ≡ true
    go true e h = let n : 1 + prefix_len p bs ≡ suc (prefix_len p bs) = omega arith in rw (e, n, e) h
    go false e h = rw e refl

-- a form of m bytes is within what is found
abbrev pub IsWithin : ℕ → Option TokenKind → Option Found → Type 0
IsWithin m k None = ⊥
IsWithin m k (Some f) = (m ≤ f.1) × (m ≡ f.1 → k ≡ f.0)

form_at-letter : (b : ℕ) (bs : List ℕ) → is_letter b ≡ true → form_at (b ∷ bs) ≡ word_at (b ∷ bs)
form_at-letter b bs e = rw e refl

form_at-digit : (b : ℕ) (bs : List ℕ) → is_letter b ≡ false → is_digit b ≡ true → form_at (b ∷ bs) ≡ run_at (b ∷ bs)
form_at-digit b bs l d = rw (l, d) refl

letter_byte : (b : ℕ) → is_letter b ≡ true → is_word_byte b ≡ true
letter_byte b e = rw e refl

word_within : (bs : List ℕ) (m : ℕ) (w : List ℕ) → m ≤ length bs → w ≡ take m bs → is_word w ≡ true → IsWithin m (Some (word_kind w)) (form_at bs)
word_within bs zero w fits e is = let never : is_word [] ≡ true = rw e at is in cc
word_within [] (suc m) w fits e is = absurd (omega arith)
word_within (b ∷ bs) (suc m) w fits e is =
    let is' : is_word (b ∷ take m bs) ≡ true = rw e at is in
    let p = both (is_letter b) (list_all is_word_byte (take m bs)) is' in
    let all : list_all is_word_byte (take (suc m) (b ∷ bs)) ≡ true = rw (letter_byte b p.0) p.1 in
    let low = all_within is_word_byte (suc m) (b ∷ bs) fits all in
    subst (IsWithin (suc m) (Some (word_kind w))) (sym (form_at-letter b bs p.0)) (low, λ same. ap (λ x. Some (word_kind x)) (e ∙ ap (λ n. take n (b ∷ bs)) same))

run_within : (bs : List ℕ) (m : ℕ) (w : List ℕ) → m ≤ length bs → w ≡ take m bs → is_run w ≡ true → IsWithin m (option_map number_kind (number_of w)) (form_at bs)
run_within bs zero w fits e is = let never : is_run [] ≡ true = rw e at is in cc
run_within [] (suc m) w fits e is = absurd (omega arith)
run_within (b ∷ bs) (suc m) w fits e is =
    let is' : is_run (b ∷ take m bs) ≡ true = rw e at is in
    let p = both (is_digit b) (list_all is_run_byte (take m bs)) is' in
    let never = digit_no_letter b p.0 in
    let byte : is_run_byte b ≡ true = rw (never, p.0) refl in
    let all : list_all is_run_byte (take (suc m) (b ∷ bs)) ≡ true = rw byte p.1 in
    let low = all_within is_run_byte (suc m) (b ∷ bs) fits all in
    subst (IsWithin (suc m) (option_map number_kind (number_of w))) (sym (form_at-digit b bs never p.0))
    (low, λ same. ap (λ x. option_map number_kind (number_of x)) (e ∙ ap (λ n. take n (b ∷ bs)) same))

double_quote : IsQuote 34
double_quote = record { apart = λ b e. grind (arith, nat_tests); no_escape = refl; no_plain = refl }

single_quote : IsQuote 39
single_quote = record { apart = λ b e. grind (arith, nat_tests); no_escape = refl; no_plain = refl }

-- what is quoted at the front is what is read there
front_quoted : (q : ℕ) (bs : List ℕ) (m : ℕ) (w vs : List ℕ) → IsQuote q → m ≤ length bs → w ≡ take m bs → IsQuoted q w vs → quoted q bs ≡ Some (vs, m)
front_quoted q bs m w vs is fits e h =
    let whole = quoted_whole q w vs (drop m bs) is h in
    let all : w ++ drop m bs ≡ bs = rw e (take-append-drop m bs) in
    let len : length w ≡ m = rw e (length-take-le m bs fits) in
    rw (all, len) at whole

text_within : (bs : List ℕ) (m : ℕ) (w vs : List ℕ) → m ≤ length bs → 34 ∷ w ≡ take m bs → IsQuoted 34 w vs → IsWithin m (Some (kind.Text vs)) (form_at bs)
text_within bs zero w vs fits e h = cc
text_within [] (suc m) w vs fits e h = absurd (omega arith)
text_within (b ∷ bs) (suc m) w vs fits e h =
    let first : b ≡ 34 = cc in
    let rest : w ≡ take m bs = cc in
    let read = front_quoted 34 bs m w vs double_quote (omega arith) rest h in
    rw (first, read) (omega arith, λ same. refl)

char_within : (bs : List ℕ) (m : ℕ) (w : List ℕ) (v : ℕ) → m ≤ length bs → 39 ∷ w ≡ take m bs → IsQuoted 39 w (v ∷ []) → IsWithin m (Some (kind.Char (pos v))) (form_at bs)
char_within bs zero w v fits e h = cc
char_within [] (suc m) w v fits e h = absurd (omega arith)
char_within (b ∷ bs) (suc m) w v fits e h =
    let first : b ≡ 39 = cc in
    let rest : w ≡ take m bs = cc in
    let read = front_quoted 39 bs m w (v ∷ []) single_quote (omega arith) rest h in
    rw (first, read) (omega arith, λ same. refl)

form_at-other : (b : ℕ) (bs : List ℕ) → IsOther b → form_at (b ∷ bs) ≡ mark_at (b ∷ bs)
form_at-other b bs o = rw (o.no_letter, o.no_digit, o.no_double, o.no_single) refl

mark_within : (bs : List ℕ) (m : ℕ) (w : List ℕ) → m ≤ length bs → w ≡ take m bs → is_mark w ≡ true → is_mark_shape w ≡ true → IsWithin m (Some (kind.Mark w)) (form_at bs)
mark_within bs zero w fits e is shape = let never : is_mark_shape [] ≡ true = rw e at shape in cc
mark_within [] (suc m) w fits e is shape = absurd (omega arith)
mark_within (b ∷ []) (suc zero) w fits e is shape =
    let o = other b (rw e at shape) in
    let one : is_mark (b ∷ []) ≡ true = rw e at is in
    rw (form_at-other b [] o, one) (omega arith, λ same. rw e refl)
mark_within (b ∷ []) (suc (suc m)) w fits e is shape = absurd (omega arith)
mark_within (b ∷ c ∷ bs) (suc zero) w fits e is shape =
    let o = other b (rw e at shape) in
    let one : is_mark (b ∷ []) ≡ true = rw e at is in
    subst (IsWithin 1 (Some (kind.Mark w))) (sym (form_at-other b (c ∷ bs) o)) (go (is_mark (b ∷ c ∷ [])) refl one)
  where
    go : (t : Bool) → is_mark (b ∷ c ∷ []) ≡ t → is_mark (b ∷ []) ≡ true → IsWithin 1 (Some (kind.Mark w)) (mark_at (b ∷ c ∷ bs))
    go true two one = rw two (omega arith, λ same. absurd (omega arith))
    go false two one = rw (two, one) (omega arith, λ same. rw e refl)
mark_within (b ∷ c ∷ bs) (suc (suc zero)) w fits e is shape =
    let o = other b (rw e at shape) in
    let two : is_mark (b ∷ c ∷ []) ≡ true = rw e at is in
    rw (form_at-other b (c ∷ bs) o, two) (omega arith, λ same. rw e refl)
mark_within (b ∷ c ∷ []) (suc (suc (suc m))) w fits e is shape = absurd (omega arith)
mark_within (b ∷ c ∷ d ∷ bs) (suc (suc (suc m))) w fits e is shape = let never : is_mark_shape (b ∷ c ∷ d ∷ take m bs) ≡ true = rw e at shape in cc

pub form_within : (bs : List ℕ) (m : ℕ) (w : List ℕ) (k : Option TokenKind) → m ≤ length bs → w ≡ take m bs → Form w k → IsWithin m k (form_at bs)
form_within bs m w k fits e (name x is) =
    let p = both (is_word x) (not (is_reserved x)) is in
    let kind : word_kind x ≡ kind.Name x = rw (not_false (is_reserved x) p.1) refl in
    subst (λ (k' : TokenKind). IsWithin m (Some k') (form_at bs)) kind (word_within bs m x fits e p.0)
form_within bs m w k fits e (word x is) =
    let kind : word_kind x ≡ kind.Word x = rw is refl in
    subst (λ (k' : TokenKind). IsWithin m (Some k') (form_at bs)) kind (word_within bs m x fits e (reserved_word x is))
form_within bs m w k fits e (number x is) = run_within bs m x fits e is
form_within bs m w k fits e (text x vs h) = text_within bs m x vs fits e h
form_within bs m w k fits e (char x v h) = char_within bs m x v fits e h
form_within bs m w k fits e (mark x is) = mark_within bs m x fits e is (mark_shape x is)

-- what is found has that form
abbrev pub IsFormed : List ℕ → Option Found → Type 0
IsFormed bs None = Unit {0}
IsFormed bs (Some f) = (0 < f.1) × (f.1 ≤ length bs) × Form (take f.1 bs) f.0

word_form : (w : List ℕ) → is_word w ≡ true → Form w (Some (word_kind w))
word_form w is = go (is_reserved w) refl
  where
    go : (t : Bool) → is_reserved w ≡ t → Form w (Some (word_kind w))
    go true e = rw e (word w e)
    go false e = let n : is_name w ≡ true = rw (is, e) refl in rw e (name w n)

word_formed : (b : ℕ) (bs : List ℕ) → is_letter b ≡ true → IsFormed (b ∷ bs) (word_at (b ∷ bs))
word_formed b bs letter =
    let n : prefix_len is_word_byte (b ∷ bs) ≡ suc (prefix_len is_word_byte bs) = rw (letter_byte b letter) (omega arith) in
    let is : is_word (b ∷ take (prefix_len is_word_byte bs) bs) ≡ true = rw (letter, prefix_all is_word_byte bs) refl in
    rw n (omega arith, omega (arith, prefix_len-le-length is_word_byte bs), word_form (b ∷ take (prefix_len is_word_byte bs) bs) is)

run_formed : (b : ℕ) (bs : List ℕ) → is_digit b ≡ true → IsFormed (b ∷ bs) (run_at (b ∷ bs))
run_formed b bs digit =
    let byte : is_run_byte b ≡ true = rw (digit_no_letter b digit, digit) refl in
    let n : prefix_len is_run_byte (b ∷ bs) ≡ suc (prefix_len is_run_byte bs) = rw byte (omega arith) in
    let is : is_run (b ∷ take (prefix_len is_run_byte bs) bs) ≡ true = rw (digit, prefix_all is_run_byte bs) refl in
    rw n (omega arith, omega (arith, prefix_len-le-length is_run_byte bs), number (b ∷ take (prefix_len is_run_byte bs) bs) is)

text_formed : (bs : List ℕ) (r : Option (List ℕ × ℕ)) → IsRead 34 bs r → IsFormed (34 ∷ bs) (text_of r)
text_formed bs None h = tt
text_formed bs (Some x) h = (omega arith, omega (arith, h.1), text (take x.1 bs) x.0 h.2)

char_formed : (bs : List ℕ) (r : Option (List ℕ × ℕ)) → IsRead 39 bs r → IsFormed (39 ∷ bs) (char_of r)
char_formed bs None h = tt
char_formed bs (Some ([], n)) h = tt
char_formed bs (Some ((v ∷ []), n)) h = (omega arith, omega (arith, h.1), char (take n bs) v h.2)
char_formed bs (Some ((v ∷ u ∷ us), n)) h = tt

mark_formed : (bs : List ℕ) → IsFormed bs (mark_at bs)
mark_formed [] = tt
mark_formed (b ∷ []) = go (is_mark (b ∷ [])) refl
  where
    go : (t : Bool) → is_mark (b ∷ []) ≡ t → IsFormed (b ∷ []) (mark_at (b ∷ []))
    go true e = rw e (omega arith, omega arith, mark (b ∷ []) e)
    go false e = rw e tt
mark_formed (b ∷ c ∷ bs) = go (is_mark (b ∷ c ∷ [])) refl (is_mark (b ∷ [])) refl
  where
    go : (t : Bool) → is_mark (b ∷ c ∷ []) ≡ t → (s : Bool) → is_mark (b ∷ []) ≡ s → IsFormed (b ∷ c ∷ bs) (mark_at (b ∷ c ∷ bs))
    go true e s f = rw e (omega arith, omega arith, mark (b ∷ c ∷ []) e)
    go false e true f = rw (e, f) (omega arith, omega arith, mark (b ∷ []) f)
    go false e false f = rw (e, f) tt

pub form_at_formed : (bs : List ℕ) → IsFormed bs (form_at bs)
form_at_formed [] = tt
form_at_formed (b ∷ bs) = go (is_letter b) refl (is_digit b) refl (b == 34) refl (b == 39) refl
  where
    go : (l : Bool) → is_letter b ≡ l → (d : Bool) → is_digit b ≡ d → (t : Bool) → (b == 34) ≡ t → (s : Bool) → (b == 39) ≡ s
        → IsFormed (b ∷ bs) (form_at (b ∷ bs))
    go true l d d' t t' s s' = subst (IsFormed (b ∷ bs)) (sym (form_at-letter b bs l)) (word_formed b bs l)
    go false l true d t t' s s' = subst (IsFormed (b ∷ bs)) (sym (form_at-digit b bs l d)) (run_formed b bs d)
    go false l false d true t s s' = rw (l, d, t, same b 34 t) (text_formed bs (quoted 34 bs) (quoted_read 34 bs))
    go false l false d false t true s = rw (l, d, t, s, same b 39 s) (char_formed bs (quoted 39 bs) (quoted_read 39 bs))
    go false l false d false t false s = rw (l, d, t, s) (mark_formed (b ∷ bs))

-- the token at the front is the form that is found
pub token_found : (bs : List ℕ) (k : TokenKind) (n : ℕ) → IsToken bs k n → form_at bs ≡ Some (Some k, n)
token_found bs k n t = go (form_at bs) refl (form_within bs n (take n bs) (Some k) t.fits refl t.formed) (form_at_formed bs)
  where
    go : (r : Option Found) → form_at bs ≡ r → IsWithin n (Some k) r → IsFormed bs r → form_at bs ≡ Some (Some k, n)
    go None e within formed = absurd within
    go (Some f) e within formed = elim (cases_lt n f.1) [
      | inl low ↦ absurd (t.longest f.1 f.0 low formed.1 formed.2)
      | inr high ↦ let len : n ≡ f.1 = omega (arith, within.0) in let kind : Some k ≡ f.0 = within.1 len in rw (e, len, kind) refl
    ]

found_kind : Option Found → Option TokenKind
found_kind None = None
found_kind (Some f) = f.0

found_len : Option Found → ℕ
found_len None = 0
found_len (Some f) = f.1

one_kind : (j k : TokenKind) → Some j ≡ Some k → j ≡ k
one_kind j k e = cc

pair : (j k : TokenKind) (m n : ℕ) → ◌≡◌ {A = Option Found} (Some (Some j, m)) (Some (Some k, n)) → (j ≡ k) × (m ≡ n)
unfolding found_kind found_len
pair j k m n e = (one_kind j k (ap found_kind e), ap found_len e)

none_some : (k : TokenKind) (m n : ℕ) → ◌≡◌ {A = Option Found} (Some (None, m)) (Some (Some k, n)) → ⊥
unfolding found_kind
none_some k m n e = let kinds : None ≡ Some k = ap found_kind e in cc

pub one_token : (bs : List ℕ) (j k : TokenKind) (m n : ℕ) → IsToken bs j m → IsToken bs k n → (j ≡ k) × (m ≡ n)
one_token bs j k m n t u =
    pair j k m n (sym (token_found bs j m t) ∙ token_found bs k n u)

abbrev pub IsTokenAt : List ℕ → Option (TokenKind × ℕ) → Type 0
IsTokenAt bs None = BeginsNoToken bs
IsTokenAt bs (Some t) = IsToken bs t.0 t.1 × (0 < t.1)

found_token : (bs : List ℕ) (k : TokenKind) (n : ℕ) → opens_comment bs ≡ false → form_at bs ≡ Some (Some k, n) → IsTokenAt bs (Some (k, n))
found_token bs k n apart e =
    let formed : IsFormed bs (Some (Some k, n)) = rw e at (form_at_formed bs) in (
      record {
        fits = formed.1;
        formed = formed.2;
        longest = λ m j low fits form. (let within : IsWithin m j (Some (Some k, n)) = rw e at (form_within bs m (take m bs) j fits refl form) in absurd (omega (arith, within.0)));
        apart = apart;
      },
      formed.0,
    )

pub token_at_is : (bs : List ℕ) → IsTokenAt bs (token_at bs)
token_at_is bs = go (opens_comment bs) refl (form_at bs) refl
  where
    go : (t : Bool) → opens_comment bs ≡ t → (r : Option Found) → form_at bs ≡ r → IsTokenAt bs (token_at bs)
    go true o r e = rw o (λ k n t. (let never = t.apart in cc))
    go false o None e = rw (o, e) (λ k n t. (let f = token_found bs k n t in cc))
    go false o (Some (None, n)) e = rw (o, e) (λ k m t. none_some k n m (sym e ∙ token_found bs k m t))
    go false o (Some (Some k, n)) e = rw (o, e) (found_token bs k n o e)

pub token_is : (bs : List ℕ) (r : Option (TokenKind × ℕ)) (k : TokenKind) (n : ℕ) → r ≡ token_at bs → r ≡ Some (k, n) → IsToken bs k n × (0 < n)
token_is bs r k n e f = subst (IsTokenAt bs) (sym e ∙ f) (token_at_is bs)

pub token_none : (bs : List ℕ) (r : Option (TokenKind × ℕ)) → r ≡ token_at bs → r ≡ None → BeginsNoToken bs
token_none bs r e f = subst (IsTokenAt bs) (sym e ∙ f) (token_at_is bs)
