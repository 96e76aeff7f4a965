-- Variables by the numbers of their names.
use Rattle.std.proofs.Common.{◌≡◌, ℕ, zero, suc, ◌+◌, ◌<◌, ◌⊎◌, inl, inr, Bool, true, false, not, cond, ◌||◌, List, [], ◌∷◌, ◌++◌, map, length, get_or, fold, Option, Some, None, option_map, slice_get, nat_eq, if◌then◌else◌, bytes_eq, refl, sym, ap, ◌∙◌, subst, arith, length-append}
use Rattle.std.specs.Bool.{Decides, one_answer}
use Rattle.std.specs.Option.{option_map_or}
use Rattle.std.specs.List.{list_any, position_or_len}
use Rattle.std.proofs.Math.Seq.{get_or-append_seam}
use Rattle.std.proofs.lemmas.Bool.Decides.{Decides-eqb, eqb_tells}
use Rattle.std.proofs.lemmas.List.{get_or_append_left}
use Rattle.std.proofs.lemmas.List.Folds.{position_or_len_push}
use Rattle.std.proofs.lemmas.List.Sums.{prefix_len-le-length}
use Rattle.std.proofs.lemmas.Slice.Eq.{bytes_eq-Decides}
use Rattle.c_types.specs.declared.infos.SlotInfo.{SlotInfo}
use Rattle.c_types.specs.Names.{has_name, with_name}
use Rattle.c_types.specs.Scopes.{or_else, is_named, last_named}
use Rattle.c_types.proofs.Latest.{latest}
use Rattle.c_types.proofs.Rows.{or_else_assoc}

which : (b : Bool) → (b ≡ true) ⊎ (b ≡ false)
which true = inl refl
which false = inr refl

tell : {P : Type 0} (b : Bool) → Decides b P → ((b ≡ true) × P) ⊎ (b ≡ false)
tell true d = inl (refl, d.0 refl)
tell false d = inr refl

abbrev pub number : List (List ℕ) → List ℕ → ℕ
number names x = position_or_len (bytes_eq x) names

-- two names of one number are one
same_place : (names : List (List ℕ)) (x y : List ℕ) → number names x < length names → number names x ≡ number names y → x ≡ y
same_place [] x y h e = absurd (omega arith)
same_place (z ∷ zs) x y h e =
    let at : (w : List ℕ) (b : Bool) → bytes_eq w z ≡ b → number (z ∷ zs) w ≡ cond (not b) (1 + number zs w) 0 =
    λ w b p. ap (λ c. cond (not c) (1 + number zs w) 0) p in
    elim (tell (bytes_eq x z) (bytes_eq-Decides x z)) as (λ _. x ≡ y) [
      | inl p ↦ elim (tell (bytes_eq y z) (bytes_eq-Decides y z)) as (λ _. x ≡ y) [
        | inl q ↦ p.1 ∙ sym q.1
        | inr q ↦ absurd (let a = at x true p.0 in let b = at y false q in omega arith)
      ]
      | inr p ↦ elim (tell (bytes_eq y z) (bytes_eq-Decides y z)) as (λ _. x ≡ y) [
        | inl q ↦ absurd (let a = at x false p in let b = at y true q.0 in omega arith)
        | inr q ↦ let a = at x false p in let b = at y false q in same_place zs x y (omega arith) (omega arith)
      ]
    ]

same_number : (names : List (List ℕ)) (x y : List ℕ) → number names x < length names → nat_eq (number names x) (number names y) ≡ bytes_eq x y
same_number names x y h =
    let d = Decides-eqb (number names x) (number names y) in
    one_answer (nat_eq (number names x) (number names y)) (bytes_eq x y)
    (λ t. same_place names x y h (d.0 t), λ e. d.1 (ap (number names) e)) (bytes_eq-Decides x y)

found_within : (p : List ℕ → Bool) (xs : List (List ℕ)) → list_any p xs ≡ true → position_or_len p xs < length xs
found_within p [] h = absurd (cc)
found_within p (x ∷ xs) h =
    elim (which (p x)) as (λ _. position_or_len p (x ∷ xs) < length (x ∷ xs)) [
      | inl e ↦ let a : position_or_len p (x ∷ xs) ≡ 0 = ap (λ b. cond (not b) (1 + position_or_len p xs) 0) e in omega arith
      | inr e ↦
          let a : position_or_len p (x ∷ xs) ≡ 1 + position_or_len p xs = ap (λ b. cond (not b) (1 + position_or_len p xs) 0) e in
          let k = found_within p xs (sym (ap (λ b. b || list_any p xs) e) ∙ h) in
          omega arith
    ]

added : (p : List ℕ → Bool) (xs : List (List ℕ)) (y : List ℕ) → p y ≡ true → position_or_len p (xs ++ y ∷ []) ≡ position_or_len p xs
added p xs y h =
    position_or_len_push p xs y
    ∙ elim (eqb_tells (position_or_len p xs) (length xs))
    as (λ _. cond (nat_eq (position_or_len p xs) (length xs)) (length xs + cond (p y) 0 1) (position_or_len p xs) ≡ position_or_len p xs) [
      | inl e ↦
          let a : cond {A = ℕ} (p y) 0 1 ≡ 0 = ap (λ b. cond {A = ℕ} b 0 1) h in
          let k : length xs + cond {A = ℕ} (p y) 0 1 ≡ position_or_len p xs = omega (arith, e.1) in
          ap (λ b. cond b (length xs + cond (p y) 0 1) (position_or_len p xs)) e.0 ∙ k
      | inr e ↦ ap (λ b. cond b (length xs + cond (p y) 0 1) (position_or_len p xs)) e.0
    ]

earlier : (p : List ℕ → Bool) (xs : List (List ℕ)) (y : List ℕ) → position_or_len p xs < length xs → position_or_len p (xs ++ y ∷ []) ≡ position_or_len p xs
earlier p xs y h =
    position_or_len_push p xs y
    ∙ elim (eqb_tells (position_or_len p xs) (length xs))
    as (λ _. cond (nat_eq (position_or_len p xs) (length xs)) (length xs + cond (p y) 0 1) (position_or_len p xs) ≡ position_or_len p xs) [
      | inl e ↦ absurd (omega (arith, e.1))
      | inr e ↦ ap (λ b. cond b (length xs + cond (p y) 0 1) (position_or_len p xs)) e.0
    ]

with_old : (names : List (List ℕ)) (x : List ℕ) → has_name names x ≡ true → with_name names x ≡ names
unfolding with_name
with_old names x h = ap (λ b. if b then names else names ++ x ∷ []) h

with_new : (names : List (List ℕ)) (x : List ℕ) → has_name names x ≡ false → with_name names x ≡ names ++ x ∷ []
unfolding with_name
with_new names x h = ap (λ b. if b then names else names ++ x ∷ []) h

-- the slot's name has that number
abbrev pub Numbered : List (List ℕ) → Option SlotInfo → ℕ → Type 0
Numbered names o n = option_map (λ v. number names v.name) o ≡ Some n

abbrev pub Named : List SlotInfo → List (List ℕ) → ℕ × ℕ → Type 0
Named slots names g = (g.0 < length names) × Numbered names (slice_get slots g.1) g.0

-- the invariant of OpenScopes
abbrev pub AllNamed : List SlotInfo → List (List ℕ) → List (ℕ × ℕ) → Type 0
AllNamed slots names gs = (k : ℕ) (d : ℕ × ℕ) → k < length gs → Named slots names (get_or gs k d)

pub all_named_like : (slots ts : List SlotInfo) (names ns : List (List ℕ)) (gs hs : List (ℕ × ℕ)) → slots ≡ ts → names ≡ ns → gs ≡ hs
    → AllNamed slots names gs → AllNamed ts ns hs
all_named_like slots ts names ns gs hs e f g h =
    subst (λ x. AllNamed x ns hs) e (subst (λ x. AllNamed slots x hs) f (subst (λ x. AllNamed slots names x) g h))

-- a name more
numbered_more : (names : List (List ℕ)) (x : List ℕ) (o : Option SlotInfo) (n : ℕ) → n < length names → Numbered names o n → Numbered (names ++ x ∷ []) o n
numbered_more names x None n h e = absurd (cc)
numbered_more names x (Some v) n h e =
    let k : number names v.name ≡ n = cc in
    ap (λ m. Some m) (earlier (bytes_eq v.name) names x (omega (arith, h, k))) ∙ e

named_more : (slots : List SlotInfo) (names : List (List ℕ)) (x : List ℕ) (g : ℕ × ℕ) → Named slots names g → Named slots (with_name names x) g
named_more slots names x g h =
    elim (which (has_name names x)) as (λ _. Named slots (with_name names x) g) [
      | inl e ↦ subst (λ ns. Named slots ns g) (sym (with_old names x e)) h
      | inr e ↦ subst (λ ns. Named slots ns g) (sym (with_new names x e))
          (omega (arith, h.0, length-append names (x ∷ [])), numbered_more names x (slice_get slots g.1) g.0 h.0 h.1)
    ]

pub all_named_more : (slots : List SlotInfo) (names : List (List ℕ)) (x : List ℕ) (gs : List (ℕ × ℕ)) → AllNamed slots names gs → AllNamed slots (with_name names x) gs
all_named_more slots names x gs h = λ k d less. named_more slots names x (get_or gs k d) (h k d less)

-- a slot more
slot_more : (slots : List SlotInfo) (s : SlotInfo) (names : List (List ℕ)) (i n : ℕ) → Numbered names (slice_get slots i) n → Numbered names (slice_get (slots ++ s ∷ []) i) n
slot_more [] s names i n h = absurd (cc)
slot_more (v ∷ vs) s names zero n h = h
slot_more (v ∷ vs) s names (suc i) n h = slot_more vs s names i n h

pub all_slot_more : (slots : List SlotInfo) (s : SlotInfo) (names : List (List ℕ)) (gs : List (ℕ × ℕ)) → AllNamed slots names gs → AllNamed (slots ++ s ∷ []) names gs
all_slot_more slots s names gs h = λ k d less. let g = h k d less in (g.0, slot_more slots s names (get_or gs k d).1 (get_or gs k d).0 g.1)

last_slot : (slots : List SlotInfo) (s : SlotInfo) → slice_get (slots ++ s ∷ []) (length slots) ≡ Some s
last_slot [] s = refl
last_slot (v ∷ vs) s = last_slot vs s

-- a variable more
new_named : (slots : List SlotInfo) (names : List (List ℕ)) (s : SlotInfo) → Named (slots ++ s ∷ []) (with_name names s.name) (number names s.name, length slots)
new_named slots names s =
    let at : (ns : List (List ℕ)) → number ns s.name ≡ number names s.name → Numbered ns (slice_get (slots ++ s ∷ []) (length slots)) (number names s.name) =
    λ ns e. ap (option_map (λ (v : SlotInfo). number ns v.name)) (last_slot slots s) ∙ ap (λ n. Some n) e in
    elim (which (has_name names s.name)) as (λ _. Named (slots ++ s ∷ []) (with_name names s.name) (number names s.name, length slots)) [
      | inl e ↦ subst (λ ns. Named (slots ++ s ∷ []) ns (number names s.name, length slots)) (sym (with_old names s.name e))
          (found_within (bytes_eq s.name) names e, at names refl)
      | inr e ↦ subst (λ ns. Named (slots ++ s ∷ []) ns (number names s.name, length slots)) (sym (with_new names s.name e)) (
        (let most = prefix_len-le-length (λ y. not (bytes_eq s.name y)) names in omega (arith, most, length-append names (s.name ∷ []))),
        at (names ++ s.name ∷ []) (added (bytes_eq s.name) names s.name ((bytes_eq-Decides s.name s.name).1 refl)),
      )
    ]

pub all_named_new : (slots : List SlotInfo) (names : List (List ℕ)) (s : SlotInfo) (gs : List (ℕ × ℕ)) → AllNamed slots names gs
    → AllNamed (slots ++ s ∷ []) (with_name names s.name) (gs ++ (number names s.name, length slots) ∷ [])
all_named_new slots names s gs h k d less =
    let g : ℕ × ℕ = (number names s.name, length slots) in
    elim (eqb_tells k (length gs)) as (λ _. Named (slots ++ s ∷ []) (with_name names s.name) (get_or (gs ++ g ∷ []) k d)) [
      | inl e ↦ subst (λ x. Named (slots ++ s ∷ []) (with_name names s.name) x)
          (sym (ap (λ n. get_or (gs ++ g ∷ []) n d) e.1 ∙ get_or-append_seam gs g [] d)) (new_named slots names s)
      | inr e ↦
          let below : k < length gs = omega (arith, e.1, less, length-append gs (g ∷ [])) in
          subst (λ x. Named (slots ++ s ∷ []) (with_name names s.name) x) (sym (get_or_append_left gs (g ∷ []) d k below))
          (all_slot_more slots s (with_name names s.name) gs (all_named_more slots names s.name gs h) k d below)
    ]

-- a look-up by the name's number
seen : (names : List (List ℕ)) (x : List ℕ) (o : Option SlotInfo) (n : ℕ) → n < length names → Numbered names o n
    → nat_eq n (number names x) ≡ option_map_or (λ v. bytes_eq v.name x) o false
seen names x None n h e = absurd (cc)
seen names x (Some v) n h e =
    let k : number names v.name ≡ n = cc in
    ap (λ m. nat_eq m (number names x)) (sym k) ∙ same_number names v.name x (omega (arith, h, k))

step : (g : ℕ × ℕ) (n : ℕ) (b : Bool) (o : Option ℕ) → nat_eq g.0 n ≡ b → (if nat_eq g.0 n then Some g.1 else o) ≡ or_else (if b then Some g.1 else None) o
step g n true o e = ap (λ c. if c then Some g.1 else o) e
step g n false o e = ap (λ c. if c then Some g.1 else o) e

looked_up : (slots : List SlotInfo) (names : List (List ℕ)) (x : List ℕ) (gs : List (ℕ × ℕ)) (o : Option ℕ) → AllNamed slots names gs
    → fold (λ (p : Option ℕ) (g : ℕ × ℕ). if nat_eq g.0 (number names x) then Some g.1 else p) o gs ≡ or_else (last_named slots (map (λ (g : ℕ × ℕ). g.1) gs) x) o
looked_up slots names x [] o h = refl
looked_up slots names x (g ∷ gs) o h =
    let here = h 0 g (omega arith) in
    looked_up slots names x gs (if nat_eq g.0 (number names x) then Some g.1 else o) (λ k d less. h (suc k) d (omega (arith, less)))
    ∙ ap (or_else (last_named slots (map (λ (v : ℕ × ℕ). v.1) gs) x))
    (step g (number names x) (is_named slots g.1 x) o (seen names x (slice_get slots g.1) g.0 here.0 here.1))
    ∙ sym (or_else_assoc (last_named slots (map (λ (v : ℕ × ℕ). v.1) gs) x) (if is_named slots g.1 x then Some g.1 else None) o)

or_none : (o : Option ℕ) → or_else o None ≡ o
or_none None = refl
or_none (Some n) = refl

pub latest_named : (slots : List SlotInfo) (names : List (List ℕ)) (x : List ℕ) (gs : List (ℕ × ℕ)) → AllNamed slots names gs
    → latest gs (number names x) ≡ last_named slots (map (λ (g : ℕ × ℕ). g.1) gs) x
latest_named slots names x gs h = looked_up slots names x gs None h ∙ or_none (last_named slots (map (λ (g : ℕ × ℕ). g.1) gs) x)
