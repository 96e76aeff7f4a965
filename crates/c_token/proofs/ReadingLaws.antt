-- One reading.
use Rattle.std.proofs.Common.{◌≡◌, ◌≤◌, ◌+◌, ◌||◌, ℕ, Bool, true, List, [], ◌∷◌, ◌++◌, length, take, drop, refl, sym, ap, subst, ◌∙◌, arith}
use Rattle.std.specs.List.{list_any}
use Rattle.std.proofs.lemmas.List.{append-nil, append_assoc}
use Rattle.std.proofs.Math.ListN.{drop_of_length-le}
use Rattle.c_token.specs.declared.token.Token.{Token}
use Rattle.c_token.specs.declared.token.TokenKind.{TokenKind}
use Rattle.c_token.specs.Bytes.{is_line_feed}
use Rattle.c_token.specs.Blanks.{IsBlank, BeginsNoBlank}
use Rattle.c_token.specs.Forms.{IsToken, BeginsNoToken}
use Rattle.c_token.specs.Reading.{span_at, Passes, blank, token, Reaches, start, further}
use Rattle.c_token.specs.Laws.{HasOneReading, IsReadOrStuck, HasOneStuckPlace}
use Rattle.c_token.proofs.BlankLaws.{one_blank, no_blank_at_end}
use Rattle.c_token.proofs.FormLaws.{token_found, one_token}

-- two steps from one place are the same
pub one_step : (bytes : List ℕ) (at : ℕ) (first : Bool) (n m : ℕ) (f g : Bool) (ts us : List Token)
    → Passes bytes at first n f ts → Passes bytes at first m g us → (n ≡ m) × (f ≡ g) × (ts ≡ us)
one_step bytes at first n m f g ts us (blank a b) (blank a' b') =
    let same = one_blank first (drop at bytes) (drop at bytes) a a' refl b b' in
    (ap (λ k. at + k) same, ap (λ k. first || list_any is_line_feed (take k (drop at bytes))) same, refl)
one_step bytes at first n m f g ts us (blank a b) (token k a' never t) = absurd (never a b)
one_step bytes at first n m f g ts us (token k a never t) (blank a' b) = absurd (never a' b)
one_step bytes at first n m f g ts us (token j a never t) (token k a' never' t') =
    let same = one_token (drop at bytes) j k a a' t t' in
    let made = λ (i : TokenKind) (l : ℕ). (let x : Token = record { kind = i; at = span_at bytes at l } in x) in
    (ap (λ l. at + l) same.1, refl, ap (λ i. made i a ∷ []) same.0 ∙ ap (λ l. made k l ∷ []) same.1)

-- from a place on to an end
pub data Onward (bytes : List ℕ) (end : ℕ) (last : Bool) : ℕ → Bool → List Token → Type 0 where
  stays : Onward bytes end last end last []
  goes : (at next : ℕ) (first first' : Bool) (ts us : List Token) → Passes bytes at first next first' ts
      → Onward bytes end last next first' us → Onward bytes end last at first (ts ++ us)

join : (bytes : List ℕ) (ts : List Token) (at : ℕ) (first : Bool) → Reaches bytes ts at first
    → (end : ℕ) (last : Bool) (us : List Token) → Onward bytes end last at first us → Onward bytes end last 0 true (ts ++ us)
join bytes ts at first start end last us more = more
join bytes ts at first (further xs ys at' next first' first'' before step) end last us more =
    subst (λ (zs : List Token). Onward bytes end last 0 true zs) (sym (append_assoc xs ys us))
    (join bytes xs at' first' before end last (ys ++ us) (goes at' next first' first'' ys us step more))

whole : (bytes : List ℕ) (ts : List Token) (at : ℕ) (first : Bool) → Reaches bytes ts at first → Onward bytes at first 0 true ts
whole bytes ts at first r = subst (λ (zs : List Token). Onward bytes at first 0 true zs) (append-nil ts) (join bytes ts at first r at first [] stays)

-- where no step leads on
abbrev pub IsLast : List ℕ → ℕ → Bool → Type 0
IsLast bytes at first = (next : ℕ) (first' : Bool) (ts : List Token) → Passes bytes at first next first' ts → ⊥

one_way : (bytes : List ℕ) (e e' : ℕ) (l l' : Bool) → IsLast bytes e l → IsLast bytes e' l'
    → (at at' : ℕ) (first first' : Bool) (ts us : List Token) → at ≡ at' → first ≡ first'
    → Onward bytes e l at first ts → Onward bytes e' l' at' first' us → (e ≡ e') × (ts ≡ us)
one_way bytes e e' l l' end end' at at' first first' ts us p q stays stays = (p, refl)
one_way bytes e e' l l' end end' at at' first first' ts us p q stays (goes a n f g xs ys step more) =
    absurd (end n g xs (subst (λ (b : Bool). Passes bytes e b n g xs) (sym q) (subst (λ (k : ℕ). Passes bytes k f n g xs) (sym p) step)))
one_way bytes e e' l l' end end' at at' first first' ts us p q (goes a n f g xs ys step more) stays =
    absurd (end' n g xs (subst (λ (b : Bool). Passes bytes e' b n g xs) q (subst (λ (k : ℕ). Passes bytes k f n g xs) p step)))
one_way bytes e e' l l' end end' at at' first first' ts us p q (goes a n f g xs ys step more) (goes a' n' f' g' xs' ys' step' more') =
    let moved = subst (λ (b : Bool). Passes bytes a b n' g' xs') (sym q) (subst (λ (k : ℕ). Passes bytes k f' n' g' xs') (sym p) step') in
    let same = one_step bytes a f n n' g g' xs xs' step moved in
    let rest = one_way bytes e e' l l' end end' n n' g g' ys ys' same.0 same.1 more more' in
    (rest.0, ap (λ (zs : List Token). zs ++ ys) same.2 ∙ ap (λ (zs : List Token). xs' ++ zs) rest.1)

one_place : (bytes : List ℕ) (e e' : ℕ) (l l' : Bool) (ts us : List Token) → IsLast bytes e l → IsLast bytes e' l'
    → Reaches bytes ts e l → Reaches bytes us e' l' → (e ≡ e') × (ts ≡ us)
one_place bytes e e' l l' ts us end end' r s =
    one_way bytes e e' l l' end end' 0 0 true true ts us refl refl (whole bytes ts e l r) (whole bytes us e' l' s)

-- no step leads on from the end, nor from where nothing begins
nothing_left : (bs : List ℕ) (k : TokenKind) (n : ℕ) → bs ≡ [] → IsToken bs k n → ⊥
nothing_left [] k n e t = let f = token_found [] k n t in cc
nothing_left (b ∷ bs) k n e t = cc

past_end : (bytes : List ℕ) (at next : ℕ) (first first' : Bool) (ts : List Token) → length bytes ≤ at → Passes bytes at first next first' ts → ⊥
past_end bytes at next first first' ts high (blank n b) = no_blank_at_end first n (subst (λ (w : List ℕ). IsBlank first w n) (drop_of_length-le bytes high) b)
past_end bytes at next first first' ts high (token k n apart t) = nothing_left (drop at bytes) k n (drop_of_length-le bytes high) t

end_is_last : (bytes : List ℕ) (first : Bool) → IsLast bytes (length bytes) first
end_is_last bytes first next first' ts step = past_end bytes (length bytes) next first first' ts (omega arith) step

stuck_is_last : (bytes : List ℕ) (at : ℕ) (first : Bool) → BeginsNoBlank first (drop at bytes) → BeginsNoToken (drop at bytes) → IsLast bytes at first
stuck_is_last bytes at first no_blank no_token next first' ts (blank n b) = no_blank n b
stuck_is_last bytes at first no_blank no_token next first' ts (token k n never t) = no_token k n t

pub has_one_reading : HasOneReading
has_one_reading bytes ts us r s =
    (one_place bytes (length bytes) (length bytes) r.first s.first ts us (end_is_last bytes r.first) (end_is_last bytes s.first) r.reaches s.reaches).1

pub is_read_or_stuck : IsReadOrStuck
is_read_or_stuck bytes ts k r s =
    let e = (one_place bytes (length bytes) k r.first s.first ts s.tokens (end_is_last bytes r.first) (stuck_is_last bytes k s.first s.no_blank s.no_token) r.reaches s.reaches).0 in
    let left = s.left in
    absurd (omega arith)

pub has_one_stuck_place : HasOneStuckPlace
has_one_stuck_place bytes j k r s =
    (one_place bytes j k r.first s.first r.tokens s.tokens (stuck_is_last bytes j r.first r.no_blank r.no_token) (stuck_is_last bytes k s.first s.no_blank s.no_token) r.reaches s.reaches).0
