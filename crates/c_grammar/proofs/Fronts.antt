-- Lemmas on what is looked up at the front of the tokens.
use Rattle.std.proofs.Common.{◌≡◌, ℕ, Bool, true, false, List, [], ◌∷◌, refl, sym, ap, subst, ◌∙◌, inl, inr, Option, Some, None}
use Rattle.std.specs.Prelude.{option_and_then, bytes_eq, ◌⊎◌, if◌then◌else◌}
use Rattle.std.proofs.lemmas.Slice.Eq.{bytes_eq-Decides}
use Rattle.c_token.specs.declared.token.Token.{Token}
use Rattle.c_token.specs.declared.token.TokenKind.{TokenKind}
use Rattle.c_token.specs.declared.token.TokenKind.TheVariants as kind
use Rattle.c_grammar.specs.Parts.{Next}
use Rattle.c_grammar.specs.Reading.{is_mark, is_word, name_of, Front, Named, front_if, after_mark, after_word, after_name}

-- what a step was given
pub bound : {A B : Type 0} (o : Option A) (f : A → Option B) (y : B) → option_and_then f o ≡ Some y → (x : A) × (o ≡ Some x) × (f x ≡ Some y)
bound (Some x) f y e = (x, refl, e)
bound None f y e = cc

pub binding : {A B P : Type 0} (o : Option A) (f : A → Option B) (y : B) → option_and_then f o ≡ Some y → ((x : A) → o ≡ Some x → f x ≡ Some y → P) → P
binding o f y e use_it = let b = bound o f y e in use_it b.0 b.1 b.2

-- which way a choice went
pub either : {A : Type 0} (b : Bool) (x y z : A) → (if b then x else y) ≡ z → ((b ≡ true) × (x ≡ z)) ⊎ ((b ≡ false) × (y ≡ z))
either true x y z e = inl (refl, e)
either false x y z e = inr (refl, e)

pub is_mark_true : (m : List ℕ) (k : TokenKind) → is_mark m k ≡ true → k ≡ kind.Mark m
is_mark_true m (kind.Mark w) e = ap (λ (x : List ℕ). kind.Mark x) ((bytes_eq-Decides w m).0 e)
is_mark_true m _ e = cc

pub is_word_true : (m : List ℕ) (k : TokenKind) → is_word m k ≡ true → k ≡ kind.Word m
is_word_true m (kind.Word w) e = ap (λ (x : List ℕ). kind.Word x) ((bytes_eq-Decides w m).0 e)
is_word_true m _ e = cc

pub bytes_eq_self : (m : List ℕ) → bytes_eq m m ≡ true
bytes_eq_self m = (bytes_eq-Decides m m).1 refl

pub front_if_true : (b : Bool) (t : Token) (ts : List Token) (q : Front) → front_if b t ts ≡ Some q → (b ≡ true) × (t ≡ q.token) × (ts ≡ q.rest)
front_if_true true t ts q e = let same : record { token = t; rest = ts } ≡ q = cc in
    (refl, ap (λ (p : Front). p.token) same, ap (λ (p : Front). p.rest) same)
front_if_true false t ts q e = cc

pub mark_next : (m : List ℕ) (ts : List Token) (q : Front) → after_mark m ts ≡ Some q → Next (kind.Mark m) ts q.token q.rest
mark_next m [] q e = cc
mark_next m (t ∷ ts) q e = let f = front_if_true (is_mark m t.kind) t ts q e in
    let k = is_mark_true m t.kind f.0 in
    (let a = f.1 in let b = f.2 in cc, ap (λ (u : Token). u.kind) (sym f.1) ∙ k)

pub word_next : (m : List ℕ) (ts : List Token) (q : Front) → after_word m ts ≡ Some q → Next (kind.Word m) ts q.token q.rest
word_next m [] q e = cc
word_next m (t ∷ ts) q e = let f = front_if_true (is_word m t.kind) t ts q e in
    let k = is_word_true m t.kind f.0 in
    (let a = f.1 in let b = f.2 in cc, ap (λ (u : Token). u.kind) (sym f.1) ∙ k)

pub name_of_some : (k : TokenKind) (x : List ℕ) → name_of k ≡ Some x → k ≡ kind.Name x
name_of_some (kind.Name w) x e = let same : w ≡ x = cc in ap (λ (y : List ℕ). kind.Name y) same
name_of_some _ x e = cc

pub name_next : (ts : List Token) (n : Named) → after_name ts ≡ Some n → Next (kind.Name n.name) ts n.token n.rest
name_next [] n e = cc
name_next (t ∷ ts) n e = go (name_of t.kind) refl
  where
    go : (o : Option (List ℕ)) → name_of t.kind ≡ o → Next (kind.Name n.name) (t ∷ ts) n.token n.rest
    go None is = let never : None ≡ Some n = rw is at e in cc
    go (Some x) is =
        let same : record { name = x; token = t; rest = ts } ≡ n = let s = rw is at e in cc in
        let tok : t ≡ n.token = ap (λ (p : Named). p.token) same in
        let named : x ≡ n.name = ap (λ (p : Named). p.name) same in
        let left : ts ≡ n.rest = ap (λ (p : Named). p.rest) same in
        (cc, ap (λ (u : Token). u.kind) (sym tok) ∙ (name_of_some t.kind x is ∙ ap (λ (y : List ℕ). kind.Name y) named))

-- the other way
pub next_mark : (m : List ℕ) (ts us : List Token) (t : Token) → Next (kind.Mark m) ts t us → after_mark m ts ≡ Some (record { token = t; rest = us })
next_mark m ts us t n = rw (n.0, n.1, bytes_eq_self m) refl

pub next_word : (m : List ℕ) (ts us : List Token) (t : Token) → Next (kind.Word m) ts t us → after_word m ts ≡ Some (record { token = t; rest = us })
next_word m ts us t n = rw (n.0, n.1, bytes_eq_self m) refl

pub next_name : (x : List ℕ) (ts us : List Token) (t : Token) → Next (kind.Name x) ts t us → after_name ts ≡ Some (record { name = x; token = t; rest = us })
next_name x ts us t n = rw (n.0, n.1) refl

pub by_bool : {P : Type 0} (b : Bool) → (b ≡ true → P) → (b ≡ false → P) → P
by_bool {P = P} b if_so if_not = go b refl
  where
    go : (c : Bool) → b ≡ c → P
    go true e = if_so e
    go false e = if_not e

-- what was found, or that nothing was
pub by_option : {A P : Type 0} (o : Option A) → ((x : A) → o ≡ Some x → P) → (o ≡ None → P) → P
by_option {A = A} {P = P} o if_some if_none = go o refl
  where
    go : (c : Option A) → o ≡ c → P
    go (Some x) e = if_some x e
    go None e = if_none e

pub given : {A : Type 0} (P : A → Type 0) (x y : A) → Some x ≡ Some y → P x → P y
given P x y e holds = let same : x ≡ y = cc in subst P same holds
