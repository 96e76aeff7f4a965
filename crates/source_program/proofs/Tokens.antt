-- A reading has at most as many tokens as bytes.
use Rattle.std.proofs.Common.{◌≡◌, ℕ, zero, suc, ◌<◌, ◌≤◌, Bool, List, [], ◌∷◌, ◌++◌, length, take, Option, Some, refl, arith, length-append}
use Rattle.c_token.specs.declared.token.Token.{Token}
use Rattle.c_token.specs.declared.token.TokenKind.{TokenKind}
use Rattle.c_token.specs.Forms.{Form, name, word, number, mark, IsToken}
use Rattle.c_token.specs.Reading.{Passes, blank, token, Reaches, start, further, IsTokenReading}

nothing_formed : (w : List ℕ) (k : Option TokenKind) → w ≡ [] → Form w k → ⊥
nothing_formed [] k e (name w is) = cc
nothing_formed [] k e (word w is) = cc
nothing_formed [] k e (number w is) = cc
nothing_formed [] k e (mark w is) = cc
nothing_formed (b ∷ bs) k e f = cc

some_bytes : (bs : List ℕ) (k : TokenKind) (n : ℕ) → IsToken bs k n → 0 < n
some_bytes bs k zero t = absurd (nothing_formed (take zero bs) (Some k) refl t.formed)
some_bytes bs k (suc n) t = omega arith

few_more : (bytes : List ℕ) (xs us : List Token) (at next : ℕ) (first first' : Bool) → length xs ≤ at → Passes bytes at first next first' us
    → length (xs ++ us) ≤ next
few_more bytes xs us at next first first' low (blank m b) = rw (length-append xs us) (omega (arith, low))
few_more bytes xs us at next first first' low (token k m never t) = let s = some_bytes _ k m t in rw (length-append xs us) (omega (arith, low, s))

few_from : (bytes : List ℕ) (ts : List Token) (at : ℕ) (first : Bool) → Reaches bytes ts at first → length ts ≤ at
few_from bytes ts at first start = omega arith
few_from bytes ts at first (further xs ys at' next first' first'' before step) =
    few_more bytes xs ys at' next first' first'' (few_from bytes xs at' first' before) step

pub few_tokens : (bytes : List ℕ) (ts : List Token) → IsTokenReading bytes ts → length ts ≤ length bytes
few_tokens bytes ts r = few_from bytes ts (length bytes) r.first r.reaches
