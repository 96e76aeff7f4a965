-- Blanks: at most one stands at the front, and what a slash begins.
use Rattle.std.proofs.Common.{◌≡◌, ◌⊎◌, ◌≤◌, ◌+◌, ℕ, Bool, true, false, List, [], ◌∷◌, length, get_or, Some, None, refl, ap, subst, sym, inl, inr, codes, arith}
use Rattle.std.proofs.lemmas.Bool.{cases_lt}
use Rattle.std.proofs.lemmas.List.Sums.{position_or_len_is}
use Rattle.bstr.specs.Find.{FindsNeedle, IsFirstByte, is_byte}
use Rattle.c_token.specs.Bytes.{is_space, is_line_feed}
use Rattle.c_token.specs.Blanks.{line_len, is_include, IsBlank, space, comment, line_comment, include, BeginsNoBlank}
use Rattle.c_token.specs.Parts.{IsComment}

pub not_true : (b : Bool) → (b ≡ true → ⊥) → b ≡ false
not_true true h = absurd (h refl)
not_true false h = refl

-- a comment ends in one place
one_end : (bs : List ℕ) (a b : ℕ) → FindsNeedle bs (codes "*/") 0 (Some a) → FindsNeedle bs (codes "*/") 0 (Some b) → a ≡ b
one_end bs a b x y = elim (cases_lt a b) [
  | inl low ↦ absurd (y.0.before a x.0.low low x.1)
  | inr high ↦ elim (cases_lt b a) [
    | inl low ↦ absurd (x.0.before b y.0.low low y.1)
    | inr same ↦ omega arith
  ]
]

no_end : (bs : List ℕ) (at : ℕ) → FindsNeedle bs (codes "*/") 0 None → FindsNeedle bs (codes "*/") 0 (Some at) → ⊥
no_end bs at none some = none at some.0.low some.0.high some.1

-- a byte that is a space is none of the others
space_not : (b c : ℕ) (bs cs : List ℕ) → is_space c ≡ false → is_space b ≡ true → b ∷ bs ≡ c ∷ cs → ⊥
space_not b c bs cs never is_one e = let same : b ≡ c = cc in let p : is_space b ≡ is_space c = ap is_space same in cc

pub one_blank : (first : Bool) (bs cs : List ℕ) (n m : ℕ) → bs ≡ cs → IsBlank first bs n → IsBlank first cs m → n ≡ m
one_blank first bs cs n m e (space b bs' is) (space c cs' is') = refl
one_blank first bs cs n m e (space b bs' is) (comment cs' at ends) = absurd (space_not b 47 _ _ refl is e)
one_blank first bs cs n m e (space b bs' is) (line_comment cs') = absurd (space_not b 47 _ _ refl is e)
one_blank first bs cs n m e (space b bs' is) (include cs' f inc) = absurd (space_not b 35 _ _ refl is e)
one_blank first bs cs n m e (comment bs' at ends) (space c cs' is) = absurd (space_not c 47 _ _ refl is (sym e))
one_blank first bs cs n m e (comment bs' at ends) (comment cs' at' ends') =
    let same : cs' ≡ bs' = cc in
    ap (λ k. k + 4) (one_end bs' at at' ends (subst (λ (w : List ℕ). FindsNeedle w (codes "*/") 0 (Some at')) same ends'))
one_blank first bs cs n m e (comment bs' at ends) (line_comment cs') = cc
one_blank first bs cs n m e (comment bs' at ends) (include cs' f inc) = cc
one_blank first bs cs n m e (line_comment bs') (space c cs' is) = absurd (space_not c 47 _ _ refl is (sym e))
one_blank first bs cs n m e (line_comment bs') (comment cs' at ends) = cc
one_blank first bs cs n m e (line_comment bs') (line_comment cs') = let same : bs' ≡ cs' = cc in ap (λ w. line_len w + 2) same
one_blank first bs cs n m e (line_comment bs') (include cs' f inc) = cc
one_blank first bs cs n m e (include bs' f inc) (space c cs' is) = absurd (space_not c 35 _ _ refl is (sym e))
one_blank first bs cs n m e (include bs' f inc) (comment cs' at ends) = cc
one_blank first bs cs n m e (include bs' f inc) (line_comment cs') = cc
one_blank first bs cs n m e (include bs' f inc) (include cs' f' inc') = let same : bs' ≡ cs' = cc in ap (λ w. line_len w + 1) same

-- what the search for a line feed finds
pub line_found : (bs : List ℕ) (at : ℕ) → IsFirstByte (is_byte 10) bs (Some at) → at ≡ line_len bs
line_found bs at found =
    sym (position_or_len_is is_line_feed bs at 0 (omega (arith, found.0.high))
    (λ k low. not_true (is_line_feed (get_or bs k 0)) (found.0.before k (omega arith) low)) (λ high. found.1))

pub line_missing : (bs : List ℕ) → IsFirstByte (is_byte 10) bs None → length bs ≡ line_len bs
line_missing bs none =
    sym (position_or_len_is is_line_feed bs (length bs) 0 (omega arith)
    (λ k low. not_true (is_line_feed (get_or bs k 0)) (none k (omega arith) low)) (λ high. absurd (omega arith)))

pub line_len-le : (bs : List ℕ) → line_len bs ≤ length bs
line_len-le [] = omega arith
line_len-le (b ∷ bs) = go (is_line_feed b) refl (line_len-le bs)
  where
    go : (t : Bool) → is_line_feed b ≡ t → line_len bs ≤ length bs → line_len (b ∷ bs) ≤ length (b ∷ bs)
    go true e h = rw e (omega arith)
    go false e h = rw e (omega arith)

-- what a slash begins with the bytes after it
pub closed_comment : (body : List ℕ) (at : ℕ) → FindsNeedle body (codes "*/") 0 (Some at) → IsComment (42 ∷ body) (Some (at + 4))
closed_comment body at ends first = (comment body at ends, omega arith, let fits = ends.1.fits in omega (arith, fits))

-- what a blank begins with
abbrev IsCommentOf : ℕ → List ℕ → Type 0
IsCommentOf n [] = ⊥
IsCommentOf n (c ∷ body) = ((c ≡ 42) × ((at : ℕ) × FindsNeedle body (codes "*/") 0 (Some at))) ⊎ (c ≡ 47)

abbrev IsBlankOf : Bool → ℕ → List ℕ → Type 0
IsBlankOf first n [] = ⊥
IsBlankOf first n (b ∷ bs) = (is_space b ≡ true) ⊎ (((b ≡ 47) × IsCommentOf n bs) ⊎ ((b ≡ 35) × (first ≡ true) × (is_include bs ≡ true)))

blank_of : (first : Bool) (bs : List ℕ) (n : ℕ) → IsBlank first bs n → IsBlankOf first n bs
blank_of first bs n (space b bs' is) = inl is
blank_of first bs n (comment bs' at ends) = inr (inl (refl, inl (refl, (at, ends))))
blank_of first bs n (line_comment bs') = inr (inl (refl, inr refl))
blank_of first bs n (include bs' f inc) = inr (inr (refl, f, inc))

no_slash_blank : (bs : List ℕ) → ((n : ℕ) → IsCommentOf n bs → ⊥) → IsComment bs None
no_slash_blank bs h first n x = elim (blank_of first (47 ∷ bs) n x) [
  | inl is ↦ slash_no_space is
  | inr other ↦ elim other [ inl c ↦ h n c.1 | inr i ↦ slash_no_hash i.0 ]
]
  where
    slash_no_space : is_space 47 ≡ true → ⊥
    slash_no_space e = cc

    slash_no_hash : ◌≡◌ {A = ℕ} 47 35 → ⊥
    slash_no_hash e = absurd (omega arith)

pub open_comment : (body : List ℕ) → FindsNeedle body (codes "*/") 0 None → IsComment (42 ∷ body) None
open_comment body none = no_slash_blank (42 ∷ body) (λ n x. go x)
  where
    star_no_slash : ◌≡◌ {A = ℕ} 42 47 → ⊥
    star_no_slash e = absurd (omega arith)

    go : (◌≡◌ {A = ℕ} 42 42 × ((at : ℕ) × FindsNeedle body (codes "*/") 0 (Some at))) ⊎ (◌≡◌ {A = ℕ} 42 47) → ⊥
    go (inl c) = no_end body c.1.0 none c.1.1
    go (inr e) = star_no_slash e

pub line_comment_is : (body : List ℕ) → IsComment (47 ∷ body) (Some (line_len body + 2))
line_comment_is body first = (line_comment body, omega arith, omega (arith, line_len-le body))

pub no_blank_at_end : (first : Bool) → BeginsNoBlank first []
no_blank_at_end first n x = blank_of first [] n x
