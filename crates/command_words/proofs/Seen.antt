-- What `clap` sees of a word, by its kind.
use Rattle.std.proofs.Common.{◌≡◌, ◌⊎◌, ◌∙◌, ap, sym, subst, ℕ, ◌==◌, ◌+◌, Bool, true, false, List, [], ◌∷◌, ◌++◌, Option, Some, None, refl, inl, inr, codes, take, drop, arith, suc}
use Rattle.std.specs.Prelude.{slice_get}
use Rattle.std.proofs.Math.Utf8.{encodes}
use Rattle.std.specs.Str.{bytes_eq, chars, IsUtf8}
use Rattle.std.specs.List.{before_first, after_first, position_or_len}
use Rattle.std.proofs.lemmas.Slice.Eq.{bytes_eq-Decides}
use Rattle.std.proofs.lemmas.Str.{encodes-chars, IsUtf8-drop, IsCharBoundary-after_ascii}
use Rattle.std.proofs.lemmas.Bool.{eqb-true}
use Rattle.std.proofs.lemmas.List.{take-append-drop}
use Rattle.clap.specs.Lexer.{long_of, short_of, name_and_value}
use Rattle.command_words.specs.Asked.{Text, kind_of, refused, positional}

-- the word has what a positional has
pub record Plain (word : Text) : Type 0 where
  pub dashes : bytes_eq word (45 ∷ 45 ∷ []) ≡ false
  pub long : long_of word ≡ None
  pub short : short_of word ≡ None
  pub kind : kind_of word ≡ positional

-- a long option that is not there
pub record Long (word : Text) : Type 0 where
  pub name : Text
  pub value : Option Text
  pub rest : Text
  pub is : word ≡ 45 ∷ rest
  pub dashes : bytes_eq word (45 ∷ 45 ∷ []) ≡ false
  pub long : long_of word ≡ Some (name, value)
  pub strange : bytes_eq (codes "budget") name ≡ false
  pub kind : kind_of word ≡ refused

-- a short option
pub record Short (word : Text) : Type 0 where
  pub first : ℕ
  pub flag : ℕ
  pub more : Text
  pub is : word ≡ 45 ∷ flag ∷ more
  pub dashes : bytes_eq word (45 ∷ 45 ∷ []) ≡ false
  pub long : long_of word ≡ None
  pub short : short_of word ≡ Some (flag ∷ more)
  pub char : slice_get (chars (flag ∷ more)) 0 ≡ Some first
  pub kind : kind_of word ≡ refused

pub data View : Text → Type 0 where
  ends : View (codes "--")
  budget_next : View (codes "--budget")
  budget_is : (n : Text) → View (codes "--budget=" ++ n)
  long : (word : Text) → Long word → View word
  short : (word : Text) → Short word → View word
  plain : (word : Text) → Plain word → View word

some_char : (flag : ℕ) (more : Text) → IsUtf8 (45 ∷ flag ∷ more) → (c : ℕ) × (slice_get (chars (flag ∷ more)) 0 ≡ Some c)
some_char flag more utf8 =
    go (chars (flag ∷ more)) (encodes-chars (flag ∷ more) (IsUtf8-drop (45 ∷ flag ∷ more) 1 utf8 (IsCharBoundary-after_ascii (45 ∷ flag ∷ more) 0 utf8 (omega arith) (omega arith))))
  where
    go : (cs : List ℕ) → encodes cs ≡ flag ∷ more → (c : ℕ) × (slice_get cs 0 ≡ Some c)
    go [] e = cc
    go (c ∷ cs) e = (c, refl)

abbrev is_equals : ℕ → Bool
is_equals = λ x. x == 61

one_more : (x : ℕ) (xs : Text) → (x == 61) ≡ false → position_or_len is_equals (x ∷ xs) ≡ suc (position_or_len is_equals xs)
one_more x xs is = rw is (omega arith)

before_one_more : (x : ℕ) (xs : Text) → (x == 61) ≡ false → before_first is_equals (x ∷ xs) ≡ x ∷ before_first is_equals xs
before_one_more x xs is = ap (λ n. take n (x ∷ xs)) (one_more x xs is)

after_one_more : (x : ℕ) (xs : Text) → (x == 61) ≡ false → after_first is_equals (x ∷ xs) ≡ after_first is_equals xs
after_one_more x xs is =
    let n = position_or_len is_equals xs in
    let e : suc n + 1 ≡ suc (n + 1) = omega arith in
    ap (λ k. drop (k + 1) (x ∷ xs)) (one_more x xs is) ∙ ap (λ k. drop k (x ∷ xs)) e

-- a text is what stands before its first `=`, or that, the `=` and more
split_at_equals : (text : Text) → (before_first is_equals text ≡ text) ⊎ (text ≡ before_first is_equals text ++ 61 ∷ after_first is_equals text)
split_at_equals [] = inl refl
split_at_equals (x ∷ xs) = go (x == 61) refl (split_at_equals xs)
  where
    go : (t : Bool) → (x == 61) ≡ t → (before_first is_equals xs ≡ xs) ⊎ (xs ≡ before_first is_equals xs ++ 61 ∷ after_first is_equals xs)
        → (before_first is_equals (x ∷ xs) ≡ x ∷ xs) ⊎ (x ∷ xs ≡ before_first is_equals (x ∷ xs) ++ 61 ∷ after_first is_equals (x ∷ xs))
    go true t rest = inr (rw t (ap (λ n. n ∷ xs) (eqb-true x 61 t)))
    go false t rest = elim rest [
      | inl h ↦ inl (before_one_more x xs t ∙ ap (λ ys. x ∷ ys) h)
      | inr h ↦ inr (rw (before_one_more x xs t, after_one_more x xs t) (ap (λ ys. x ∷ ys) h))
    ]

not_budget : (text : Text) → bytes_eq (45 ∷ 45 ∷ text) (codes "--budget") ≡ false → bytes_eq (take 9 (45 ∷ 45 ∷ text)) (codes "--budget=") ≡ false
    → (t : Bool) → bytes_eq (codes "budget") (before_first is_equals text) ≡ t → t ≡ false
not_budget text whole front false is = refl
not_budget text whole front true is =
    let name : codes "budget" ≡ before_first is_equals text = (bytes_eq-Decides (codes "budget") (before_first is_equals text)).0 is in
    elim (split_at_equals text) [
      | inl h ↦
          let e : text ≡ codes "budget" = sym h ∙ sym name in
          let bad : true ≡ false = rw e at whole in
          cc
      | inr h ↦
          let e : text ≡ codes "budget" ++ 61 ∷ after_first is_equals text = h ∙ ap (λ n. n ++ 61 ∷ after_first is_equals text) (sym name) in
          let bad : true ≡ false = subst (λ t. bytes_eq (take 9 (45 ∷ 45 ∷ t)) (codes "--budget=") ≡ false) e front in
          cc
    ]

-- a word that begins with `-` and is longer, and is none of the words of the option
dashed : (c : ℕ) (more : Text) → IsUtf8 (45 ∷ c ∷ more) → (t : Bool) → (c == 45) ≡ t → bytes_eq (45 ∷ c ∷ more) (codes "--") ≡ false
    → bytes_eq (45 ∷ c ∷ more) (codes "--budget") ≡ false → bytes_eq (take 9 (45 ∷ c ∷ more)) (codes "--budget=") ≡ false
    → kind_of (45 ∷ c ∷ more) ≡ refused → View (45 ∷ c ∷ more)
dashed c more utf8 false is dashes whole front kind =
    let char = some_char c more utf8 in
    short (45 ∷ c ∷ more) (record {
      first = char.0;
      flag = c;
      more = more;
      is = refl;
      dashes = dashes;
      long = rw is refl;
      short = rw is refl;
      char = char.1;
      kind = kind;
    })
dashed c [] utf8 true is dashes whole front kind =
    let e : c ≡ 45 = eqb-true c 45 is in
    let bad : true ≡ false = subst (λ n. bytes_eq (45 ∷ n ∷ []) (codes "--") ≡ false) e dashes in
    cc
dashed c (d ∷ more) utf8 true is dashes whole front kind =
    let e : c ≡ 45 = eqb-true c 45 is in
    long (45 ∷ c ∷ d ∷ more) (record {
      name = before_first is_equals (d ∷ more);
      value = (name_and_value (d ∷ more)).1;
      rest = c ∷ d ∷ more;
      is = refl;
      dashes = dashes;
      long = rw e refl;
      strange = not_budget (d ∷ more) (rw e at whole) (rw e at front) (bytes_eq (codes "budget") (before_first is_equals (d ∷ more))) refl;
      kind = kind;
    })

undashed : (b c : ℕ) (more : Text) → (b == 45) ≡ false → View (b ∷ c ∷ more)
undashed b c more is = plain (b ∷ c ∷ more) (record {
  dashes = rw is refl;
  long = rw is refl;
  short = rw is refl;
  kind = rw is refl;
})

view_two : (b c : ℕ) (more : Text) → IsUtf8 (b ∷ c ∷ more) → View (b ∷ c ∷ more)
view_two b c more utf8 = go (b == 45) refl
  where
    tests : IsUtf8 (45 ∷ c ∷ more) → (t : Bool) → bytes_eq (45 ∷ c ∷ more) (codes "--") ≡ t → (u : Bool) → bytes_eq (45 ∷ c ∷ more) (codes "--budget") ≡ u
        → (v : Bool) → bytes_eq (take 9 (45 ∷ c ∷ more)) (codes "--budget=") ≡ v → View (45 ∷ c ∷ more)
    tests utf true t u iu v iv = subst View (sym ((bytes_eq-Decides (45 ∷ c ∷ more) (codes "--")).0 t)) ends
    tests utf false t true iu v iv = subst View (sym ((bytes_eq-Decides (45 ∷ c ∷ more) (codes "--budget")).0 iu)) budget_next
    tests utf false t false iu true iv =
        let front : take 9 (45 ∷ c ∷ more) ≡ codes "--budget=" = (bytes_eq-Decides (take 9 (45 ∷ c ∷ more)) (codes "--budget=")).0 iv in
        let whole : codes "--budget=" ++ drop 9 (45 ∷ c ∷ more) ≡ 45 ∷ c ∷ more = ap (λ f. f ++ drop 9 (45 ∷ c ∷ more)) (sym front) ∙ take-append-drop 9 (45 ∷ c ∷ more) in
        subst View whole (budget_is (drop 9 (45 ∷ c ∷ more)))
    tests utf false t false iu false iv = dashed c more utf (c == 45) refl t iu iv (rw (t, iu, iv) refl)

    go : (t : Bool) → (b == 45) ≡ t → View (b ∷ c ∷ more)
    go false is = undashed b c more is
    go true is =
        let e : b ≡ 45 = eqb-true b 45 is in
        subst (λ n. View (n ∷ c ∷ more)) (sym e)
        (tests (rw e at utf8) (bytes_eq (45 ∷ c ∷ more) (codes "--")) refl (bytes_eq (45 ∷ c ∷ more) (codes "--budget")) refl (bytes_eq (take 9 (45 ∷ c ∷ more)) (codes "--budget=")) refl)

pub view : (word : Text) → IsUtf8 word → View word
view [] utf8 = plain [] (record { dashes = refl; long = refl; short = refl; kind = refl })
view (b ∷ []) utf8 = plain (b ∷ []) (one (b == 45) refl)
  where
    one : (t : Bool) → (b == 45) ≡ t → Plain (b ∷ [])
    one true is =
        let e : b ≡ 45 = eqb-true b 45 is in
        subst (λ n. Plain (n ∷ [])) (sym e) (record { dashes = refl; long = refl; short = refl; kind = refl })
    one false is = record { dashes = rw is refl; long = rw is refl; short = rw is refl; kind = rw is refl }
view (b ∷ c ∷ more) utf8 = view_two b c more utf8
