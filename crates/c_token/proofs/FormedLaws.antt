-- What each token of a reading holds.
use Rattle.std.proofs.Common.{◌≡◌, ◌≤◌, ◌&&◌, ℕ, pos, Bool, true, false, List, [], ◌∷◌, Option, Some, None, refl, subst, arith}
use Rattle.std.specs.Prelude.{nat_le, option_map, All, IsTrue}
use Rattle.std.proofs.lemmas.Bool.Decides.{nat_tests}
use Rattle.std.proofs.lemmas.List.Elements.{All-nil, All-cons, All-append}
use Rattle.c_token.specs.declared.token.Token.{Token}
use Rattle.c_token.specs.declared.token.TokenKind.{TokenKind}
use Rattle.c_token.specs.declared.token.TokenKind.TheVariants as kind
use Rattle.c_token.specs.Bytes.{number_of, is_decimal, value_from, is_plain, escaped, IsQuoted, closed, plain, escape}
use Rattle.c_token.specs.Forms.{number_kind, Form, name, word, number, text, char, mark}
use Rattle.c_token.specs.Reading.{Passes, blank, token, Reaches, start, further}
use Rattle.c_token.specs.Formed.{is_unit, IsFormedKind, IsFormedToken}

plain_unit : (q b : ℕ) → is_plain q b ≡ true → is_unit b ≡ true
plain_unit q b e = grind (arith, nat_tests)

escaped_unit : (c : ℕ) (bs : List ℕ) (v : ℕ) → escaped c bs ≡ Some v → is_unit v ≡ true
escaped_unit c bs v e = grind (arith, nat_tests)

pub units : (q : ℕ) (w vs : List ℕ) → IsQuoted q w vs → All (λ v. IsTrue (is_unit v)) vs
units q w vs closed = All-nil (λ v. IsTrue (is_unit v))
units q w vs (plain b bs us p h) = All-cons (λ v. IsTrue (is_unit v)) b us (plain_unit q b p) (units q bs us h)
units q w vs (escape c v bs us e h) = All-cons (λ x. IsTrue (is_unit x)) v us (escaped_unit c bs v e) (units q bs us h)

-- a unit of a character constant is no byte from 128 on
plain_small : (b : ℕ) → is_plain 39 b ≡ true → b ≤ 126
plain_small b e = grind (arith, nat_tests)

escaped_small : (c : ℕ) (bs : List ℕ) (v : ℕ) → escaped c bs ≡ Some v → v ≤ 126
escaped_small c bs v e = grind (arith, nat_tests)

single : (w vs : List ℕ) (v : ℕ) → vs ≡ v ∷ [] → IsQuoted 39 w vs → IsTrue (is_unit v) × (v ≤ 126)
single w vs v is closed = cc
single w vs v is (plain b bs us p h) = let same : b ≡ v = cc in rw (← same) (plain_unit 39 b p, plain_small b p)
single w vs v is (escape c u bs us e h) = let same : u ≡ v = cc in rw (← same) (escaped_unit c bs u e, escaped_small c bs u e)

both : (a b : Bool) → (a && b) ≡ true → b ≡ true
both true b h = h
both false b h = cc

below : (a b : ℕ) → nat_le a b ≡ true → a ≤ b
below a b e = grind (arith, nat_tests)

small : (w : List ℕ) (n : ℕ) → number_of w ≡ Some n → n ≤ 2147483647
small w n e = go (is_decimal w && nat_le (value_from 0 w) 2147483647) refl
  where
    go : (t : Bool) → (is_decimal w && nat_le (value_from 0 w) 2147483647) ≡ t → n ≤ 2147483647
    go true t =
        let found : Some (value_from 0 w) ≡ Some n = rw t at e in
        let is : value_from 0 w ≡ n = cc in
        rw (← is) (below (value_from 0 w) 2147483647 (both (is_decimal w) (nat_le (value_from 0 w) 2147483647) t))
    go false t = let found : None ≡ Some n = rw t at e in cc

number_formed : (w : List ℕ) (k : TokenKind) → option_map number_kind (number_of w) ≡ Some k → IsFormedKind k
number_formed w k e = go (number_of w) refl
  where
    go : (r : Option ℕ) → number_of w ≡ r → IsFormedKind k
    go None n = let never : None ≡ Some k = rw n at e in cc
    go (Some v) n =
        let s : Some (number_kind v) ≡ Some k = rw n at e in
        let is : number_kind v ≡ k = cc in
        rw (← is) (v, refl, small w v n)

one : (a b : TokenKind) → Some a ≡ Some b → a ≡ b
one a b h = cc

pub form_formed : (w : List ℕ) (r : Option TokenKind) (k : TokenKind) → r ≡ Some k → Form w r → IsFormedKind k
form_formed w r k e (name x is) = subst IsFormedKind (one (kind.Name x) k e) is
form_formed w r k e (word x is) = subst IsFormedKind (one (kind.Word x) k e) is
form_formed w r k e (number x is) = number_formed x k e
form_formed w r k e (text x vs h) = subst IsFormedKind (one (kind.Text vs) k e) (units 34 x vs h)
form_formed w r k e (char x v h) = subst IsFormedKind (one (kind.Char (pos v)) k e) (let is = single x (v ∷ []) v refl h in (v, refl, is.0, is.1))
form_formed w r k e (mark x is) = subst IsFormedKind (one (kind.Mark x) k e) is

step_formed : (bytes : List ℕ) (at next : ℕ) (first first' : Bool) (ts : List Token) → Passes bytes at first next first' ts → All IsFormedToken ts
step_formed bytes at next first first' ts (blank n b) = All-nil IsFormedToken
step_formed bytes at next first first' ts (token k n never t) =
    All-cons IsFormedToken _ [] (form_formed _ (Some k) k refl t.formed) (All-nil IsFormedToken)

pub all_formed : (bytes : List ℕ) (ts : List Token) (at : ℕ) (first : Bool) → Reaches bytes ts at first → All IsFormedToken ts
all_formed bytes ts at first start = All-nil IsFormedToken
all_formed bytes ts at first (further xs ys at' next first' first'' before step) =
    All-append IsFormedToken xs ys (all_formed bytes xs at' first' before) (step_formed bytes at' next first' first'' ys step)
