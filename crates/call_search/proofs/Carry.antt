-- What becomes of a line that is carried to a site by whose bits it is false.
use Rattle.std.specs.List.{range_with_len}
use Rattle.std.proofs.Common.{◌≡◌, ℕ, zero, suc, ◌+◌, ◌-◌, ◌<◌, ◌≤◌, ◌^◌, ◌⊎◌, inl, inr, ⊎_elim, Bool, true, false, not, ◌||◌, cond, eqb, ltb, List, [], ◌∷◌, ◌++◌, Option, Some, None, refl, sym, ap, ◌∙◌, subst, arith, length, get_or, map, slice_get}
use Rattle.std.specs.List.{Contains, All}
use Rattle.std.specs.Prelude.{nat_eq}
use Rattle.std.proofs.lemmas.Bool.{eqb-true, eq-eqb, cases_eq, le-leb, lt-leb, le-ltb, ltb-true, ltb-false}
use Rattle.std.proofs.lemmas.List.Elements.{Contains-append_cases}
use Rattle.std.proofs.lemmas.Option.{get_or_from_slice_get}
use Rattle.zo_core.specs.Literals.{Literal, opposite, same_sign}
use Rattle.zo_core.specs.Truth.{holds, clause_true}
use Rattle.zo_core.specs.Order.{Ascends, behind, with_literal, with_more, gathered}
use Rattle.zo_core.specs.Renames.{renamed, KeepsApart}
use Rattle.conflict_proof.specs.declared.names.ConstraintName.{ConstraintName}
use Rattle.conflict_proof.specs.declared.derivation.How.TheVariants.{Inst}
use Rattle.conflict_proof.specs.declared.derivation.Line.{Line}
use Rattle.verdict_meaning.specs.declared.callee.Callee.{Callee}
use Rattle.verdict_meaning.specs.Systems.{System, root, callee, callees, count, phi_numbers, pi_numbers, sigma_numbers}
use Rattle.verdict_meaning.specs.Solutions.{phi_by, sigma_by}
use Rattle.verdict_meaning.specs.Certificates.{bit_at}
use Rattle.verdict_meaning.specs.Derivations.{line_at, line_cost, Carried, paired, at_site, carried_number, with_number, carried_before, carried, IsRightLine, IsValidIn}
use Rattle.verdict_meaning.proofs.Bits.{length-by, length-numbers}
use Rattle.verdict_meaning.specs.Laws.{LocalLinesAreTrue}
use Rattle.call_search.specs.Indexes.{Ledger}
use Rattle.call_search.specs.Shapes.{IsShaped, before_own, before_site, stated}
use Rattle.call_search.specs.Sites.{IsOfSite, IsSaidAt, site_image, image_at, IsCarriedClause}
use Rattle.call_search.specs.Ledgers.{IsLedger, IsNew, IsOver, IsDenied}
use Rattle.call_search.specs.Answers.{IsAsker, IsPaid, given_for}
use Rattle.call_search.proofs.Indexing.{few_known}
use Rattle.call_search.proofs.Faces.{own_within, site_within, site_next}
use Rattle.call_search.proofs.Grow.{ledger-push, get-within}

-- a literal among those stated

pub record StatedAt (n : ℕ) (bs : List Bool) (l : Literal) : Type 0 where
  pub index : ℕ
  pub within : index < length bs
  pub var : l.var ≡ n + index
  pub sign : l.sign ≡ get_or bs index false

stated_at : (n : ℕ) (bs : List Bool) (k : ℕ) (l : Literal) → k < length (stated n bs) → get_or (stated n bs) k l ≡ l → StatedAt n bs l
stated_at n [] k l lt e = absurd (omega arith)
stated_at n (b ∷ bs) zero l lt e = record { index = 0; within = omega arith; var = let h = ap (λ (x : Literal). x.var) e in omega arith; sign = ap (λ (x : Literal). x.sign) (sym e) }
stated_at n (b ∷ bs) (suc k) l lt e =
    let r = stated_at (suc n) bs k l (omega arith) e in
    record { index = suc r.index; within = let h = r.within in omega arith; var = let h = r.var in omega arith; sign = r.sign }

pub stated_in : (n : ℕ) (bs : List Bool) (l : Literal) → Contains (stated n bs) l → StatedAt n bs l
stated_in n bs l h = stated_at n bs h.0 l h.1 h.2

get_or-by : (a : ℕ → Bool) (n k i : ℕ) → i < k → get_or (map a (range_with_len n k)) i false ≡ a (n + i)
get_or-by a n zero i lt = absurd (omega arith)
get_or-by a n (suc k) zero lt = ap a (omega arith)
get_or-by a n (suc k) (suc i) lt = get_or-by a (n + 1) k i (omega arith) ∙ ap a (omega arith)

-- numbers that are carried

carried_past : (k m n v : ℕ) (rest : List Carried) → (v < k) ⊎ (k + n ≤ v) → carried_number (paired (range_with_len k n) (range_with_len m n) ++ rest) v ≡ carried_number rest v
carried_past k m zero v rest h = refl
carried_past k m (suc n) v rest h =
    skip (nat_eq k v) refl ∙ carried_past (k + 1) (m + 1) n v rest (⊎_elim (λ (a : v < k). inl (omega arith)) (λ (b : k + suc n ≤ v). inr (omega arith)) h)
  where
    skip : (b : Bool) → nat_eq k v ≡ b → cond b (Some m) (carried_number (paired (range_with_len (k + 1) n) (range_with_len (m + 1) n) ++ rest) v) ≡ carried_number (paired (range_with_len (k + 1) n) (range_with_len (m + 1) n) ++ rest) v
    skip true e = let same : k ≡ v = eqb-true k v e in absurd (⊎_elim (λ (a : v < k). let z : ⊥ = omega arith in z) (λ (b : k + suc n ≤ v). let z : ⊥ = omega arith in z) h)
    skip false e = refl

carried_in : (k m n v w : ℕ) (rest : List Carried) → k ≤ v → v < k + n → w + k ≡ v + m → carried_number (paired (range_with_len k n) (range_with_len m n) ++ rest) v ≡ Some w
carried_in k m zero v w rest le lt e = absurd (omega arith)
carried_in k m (suc n) v w rest le lt e =
    elim (cases_eq k v) [
      | inl same ↦ rw (eq-eqb k v same) (ap (λ x. Some x) (omega arith))
      | inr ne ↦ rw (unequal k v ne) (carried_in (k + 1) (m + 1) n v w rest (omega arith) (omega arith) (omega arith))
    ]
  where
    unequal : (a b : ℕ) → (a ≡ b → ⊥) → eqb a b ≡ false
    unequal a b ne = pick (eqb a b) refl
      where
        pick : (t : Bool) → eqb a b ≡ t → t ≡ false
        pick true e = absurd (ne (eqb-true a b e))
        pick false e = refl

-- an unknown of the fields, or of the called procedure's interface
pub record IsFace (fields own parts v : ℕ) : Type 0 where
  pub some : 0 < v
  pub one : (v ≤ fields) ⊎ ((own < v) × (v ≤ own + parts))

image_low : (own parts site v : ℕ) → v ≤ own → site_image own parts site v ≡ v
image_low own parts site v le = rw (le-leb v own le) refl

image_high : (own parts site v : ℕ) → own < v → v ≤ own + parts → site_image own parts site v ≡ v - own + site
image_high own parts site v lt le = rw (lt-leb v own lt, le-ltb (own + parts) v le) refl

false_literal : (z v : Bool) → not z ≡ v → cond z v (not v) ≡ false
false_literal true v e = sym e
false_literal false v e = ap not (sym e)

pub Contained-P : (P : Literal → Type 0) (c : List Literal) (l : Literal) → All P c → Contains c l → P l
Contained-P P c l all h = subst P h.2 (all h.0 l h.1)

abbrev Each : (Literal → Type 0) → List Literal → Type 0
Each P [] = Unit {0}
Each P (l ∷ c) = P l × Each P c

each_of : (P : Literal → Type 0) (c : List Literal) → All P c → Each P c
each_of P [] h = tt
each_of P (l ∷ c) h = (h 0 l (omega arith), each_of P c (λ k d lt. h (suc k) d (omega arith)))

all_of : (P : Literal → Type 0) (c : List Literal) → Each P c → All P c
all_of P [] h k d lt = absurd (omega arith)
all_of P (l ∷ c) h zero d lt = h.0
all_of P (l ∷ c) h (suc k) d lt = all_of P c h.1 k d (omega arith)

abbrev OrNone : (Literal → Type 0) → Option (List Literal) → Type 0
OrNone P None = Unit {0}
OrNone P (Some c) = Each P c

or_none-cond : (P : Literal → Type 0) (b : Bool) (x y : Option (List Literal)) → OrNone P x → OrNone P y → OrNone P (cond b x y)
or_none-cond P true x y h k = h
or_none-cond P false x y h k = k

or_none-behind : (P : Literal → Type 0) (m : Literal) (o : Option (List Literal)) → P m → OrNone P o → OrNone P (behind m o)
or_none-behind P m None h k = tt
or_none-behind P m (Some c) h k = (h, k)

each-with_literal : (P : Literal → Type 0) (l : Literal) (c : List Literal) → P l → Each P c → OrNone P (with_literal l c)
each-with_literal P l [] h k = (h, tt)
each-with_literal P l (m ∷ c) h k =
    or_none-cond P (ltb l.var m.var) (Some (l ∷ m ∷ c)) _ (h, k)
    (or_none-cond P (eqb l.var m.var) _ _ (or_none-cond P (same_sign l.sign m.sign) (Some (m ∷ c)) None k tt)
    (or_none-behind P m (with_literal l c) k.0 (each-with_literal P l c h k.1)))

each-with_more : (P : Literal → Type 0) (ls : List Literal) (o : Option (List Literal)) → Each P ls → OrNone P o → OrNone P (with_more ls o)
each-with_more P [] o h k = k
each-with_more P (l ∷ ls) None h k = tt
each-with_more P (l ∷ ls) (Some c) h k = each-with_more P ls (with_literal l c) h.1 (each-with_literal P l c h.0 k)

each-gathered : (P : Literal → Type 0) (ls c : List Literal) → Each P ls → gathered ls ≡ Some c → Each P c
each-gathered P ls c h e = let Q : Option (List Literal) → Type 0 = OrNone P in subst Q e (each-with_more P ls (Some []) h tt)

abbrev ascends_or_none : ℕ → Option (List Literal) → Type 0
ascends_or_none n None = Unit {0}
ascends_or_none n (Some c) = Ascends n c

asc-cond : (n : ℕ) (b : Bool) (x y : Option (List Literal)) → (b ≡ true → ascends_or_none n x) → (b ≡ false → ascends_or_none n y) → ascends_or_none n (cond b x y)
asc-cond n true x y f g = f refl
asc-cond n false x y f g = g refl

asc-behind : (n : ℕ) (m : Literal) (o : Option (List Literal)) → n < m.var → ascends_or_none m.var o → ascends_or_none n (behind m o)
asc-behind n m None h k = tt
asc-behind n m (Some c) h k = (h, k)

asc-with_literal : (n : ℕ) (l : Literal) (c : List Literal) → n < l.var → Ascends n c → ascends_or_none n (with_literal l c)
asc-with_literal n l [] h k = (h, tt)
asc-with_literal n l (m ∷ c) h k =
    asc-cond n (ltb l.var m.var) (Some (l ∷ m ∷ c)) _ (λ e. (h, (ltb-true l.var m.var e, k.1)))
    (λ e. asc-cond n (eqb l.var m.var) _ _
    (λ f. asc-cond n (same_sign l.sign m.sign) (Some (m ∷ c)) None (λ z. k) (λ z. tt))
    (λ f. asc-behind n m (with_literal l c) k.0 (asc-with_literal m.var l c (apart e f) k.1)))
  where
    apart : ltb l.var m.var ≡ false → eqb l.var m.var ≡ false → m.var < l.var
    apart e f = let p : m.var ≤ l.var = ltb-false l.var m.var e in strict (λ same. clash (sym (eq-eqb l.var m.var same) ∙ f)) p
      where
        clash : true ≡ false → ⊥
        clash e = cc

        strict : (l.var ≡ m.var → ⊥) → m.var ≤ l.var → m.var < l.var
        strict ne p = omega arith

asc-with_more : (n : ℕ) (ls : List Literal) (o : Option (List Literal)) → Each (λ (l : Literal). n < l.var) ls → ascends_or_none n o → ascends_or_none n (with_more ls o)
asc-with_more n [] o h k = k
asc-with_more n (l ∷ ls) None h k = tt
asc-with_more n (l ∷ ls) (Some c) h k = asc-with_more n ls (with_literal l c) h.1 (asc-with_literal n l c h.0 k)

asc-gathered : (ls c : List Literal) → Each (λ (l : Literal). 0 < l.var) ls → gathered ls ≡ Some c → Ascends 0 c
asc-gathered ls c h e = subst (ascends_or_none 0) e (asc-with_more 0 ls (Some []) h tt)

append-nil : {X : Type 0} (xs : List X) → xs ++ [] ≡ xs
append-nil [] = refl
append-nil (x ∷ xs) = ap (λ ys. x ∷ ys) (append-nil xs)

module _ (s : System) (shaped : IsShaped s) (a : ℕ → Bool) (g site : ℕ) (lt : site < length (callees s g)) where
  abbrev c : Callee
  c = callee s g site

  abbrev own : ℕ
  own = before_own s c

  abbrev parts : ℕ
  parts = s.parts c.proc

  abbrev sb : ℕ
  sb = before_site s g site

  abbrev img : ℕ → ℕ
  img = site_image own parts sb

  abbrev given : List Literal
  given = given_for s (phi_by s a) c (sigma_by s g a site)

  low : s.fields ≤ own
  low = omega arith

  low_site : s.fields ≤ sb
  low_site = omega arith

  pub record OneFace (l : Literal) : Type 0 where
    pub face : IsFace s.fields own parts l.var
    pub not_true : holds (λ v. a (img v)) l ≡ false

  one_face : (l : Literal) → Contains given (opposite l) → OneFace l
  one_face l h = elim (Contains-append_cases (stated 1 (phi_by s a)) (stated (suc own) (sigma_by s g a site)) (opposite l) h) [
    | inl p ↦ of_field (stated_in 1 (phi_by s a) (opposite l) p)
    | inr p ↦ of_part (stated_in (suc own) (sigma_by s g a site) (opposite l) p)
  ]
    where
      of_field : StatedAt 1 (phi_by s a) (opposite l) → OneFace l
      of_field r =
          let n : length (phi_by s a) ≡ s.fields = length-by a (phi_numbers s) ∙ length-numbers 1 s.fields in
          let v : l.var ≡ 1 + r.index = r.var in
          let i : r.index < s.fields = let w = r.within in omega arith in
          let le : l.var ≤ own = let w = low in omega arith in
          let val : not l.sign ≡ a (img l.var) = r.sign ∙ get_or-by a 1 s.fields r.index i ∙ ap a (sym v) ∙ ap a (sym (image_low own parts sb l.var le)) in
          record { face = record { some = omega arith; one = inl (omega arith) }; not_true = false_literal l.sign (a (img l.var)) val }

      of_part : StatedAt (suc own) (sigma_by s g a site) (opposite l) → OneFace l
      of_part r =
          let n : length (sigma_by s g a site) ≡ parts = length-by a (sigma_numbers s g site) ∙ length-numbers (suc sb) parts in
          let v : l.var ≡ suc own + r.index = r.var in
          let i : r.index < parts = let w = r.within in omega arith in
          let above : own < l.var = omega arith in
          let le : l.var ≤ own + parts = omega arith in
          let to : suc sb + r.index ≡ l.var - own + sb = omega arith in
          let val : not l.sign ≡ a (img l.var) = r.sign ∙ get_or-by a (suc sb) parts r.index i ∙ ap a to ∙ ap a (sym (image_high own parts sb l.var above le)) in
          record { face = record { some = omega arith; one = inr (above, le) }; not_true = false_literal l.sign (a (img l.var)) val }

  number_to : (v : ℕ) → IsFace s.fields own parts v → carried_number (at_site s g site) v ≡ Some (img v)
  number_to v f = elim f.one [
    | inl le ↦ field le
    | inr h ↦ part h.0 h.1
  ]
    where
      last : List Carried
      last = paired (pi_numbers s c.group c.proc) (sigma_numbers s g site)

      field : v ≤ s.fields → carried_number (at_site s g site) v ≡ Some (img v)
      field le =
          let z = f.some in
          carried_in 1 1 s.fields v v (paired (pi_numbers s c.group c.proc) (sigma_numbers s g site)) (omega arith) (omega arith) (omega arith)
          ∙ ap (λ x. Some x) (sym (image_low own parts sb v (omega arith)))

      part : own < v → v ≤ own + parts → carried_number (at_site s g site) v ≡ Some (img v)
      part above le =
          carried_past 1 1 s.fields v (paired (pi_numbers s c.group c.proc) (sigma_numbers s g site)) (inr (omega arith))
          ∙ ap (λ ps. carried_number ps v) (sym (append-nil (paired (pi_numbers s c.group c.proc) (sigma_numbers s g site))))
          ∙ carried_in (suc own) (suc sb) parts v (v - own + sb) [] (omega arith) (omega arith) (omega arith)
          ∙ ap (λ x. Some x) (sym (image_high own parts sb v above le))

  carried_all : (ls : List Literal) → Each OneFace ls → carried (at_site s g site) ls ≡ Some (renamed img ls)
  carried_all [] h = refl
  carried_all (l ∷ ls) h = ap (carried_before (at_site s g site) l) (carried_all ls h.1) ∙ ap (with_number l.sign (renamed img ls)) (number_to l.var (h.0).face)

  all_false : (ls : List Literal) → Each OneFace ls → clause_true (λ v. a (img v)) ls ≡ false
  all_false [] h = refl
  all_false (l ∷ ls) h = ap (λ b. b || clause_true (λ v. a (img v)) ls) (h.0).not_true ∙ all_false ls h.1

  img-apart : (v w : ℕ) → IsFace s.fields own parts v → IsFace s.fields own parts w → img v ≡ img w → v ≡ w
  img-apart v w f h e = elim f.one [
    | inl p ↦ elim h.one [
      | inl q ↦ sym (image_low own parts sb v (omega arith)) ∙ e ∙ image_low own parts sb w (omega arith)
      | inr q ↦ absurd (let x = image_low own parts sb v (omega arith) in let y = image_high own parts sb w q.0 q.1 in let z = q.0 in omega arith)
    ]
    | inr p ↦ elim h.one [
      | inl q ↦ absurd (let y = image_low own parts sb w (omega arith) in let x = image_high own parts sb v p.0 p.1 in let z = p.0 in omega arith)
      | inr q ↦ let x = image_high own parts sb v p.0 p.1 in let y = image_high own parts sb w q.0 q.1 in let i = p.0 in let j = q.0 in omega arith
    ]
  ]

  pub keeps_apart : (ls : List Literal) → All (λ (l : Literal). Contains given (opposite l)) ls → KeepsApart img ls
  keeps_apart ls h l m p q e =
      img-apart l.var m.var (one_face l (Contained-P (λ (x : Literal). Contains given (opposite x)) ls l h p)).face (one_face m (Contained-P (λ (x : Literal). Contains given (opposite x)) ls m h q)).face e

  img-within : (v : ℕ) → IsFace s.fields own parts v → img v ≤ count s g
  img-within v f = elim f.one [
    | inl p ↦ let x = image_low own parts sb v (omega arith) in let y = site_within s g site lt in omega arith
    | inr p ↦ let x = image_high own parts sb v p.0 p.1 in let y = site_within s g site lt in let i = p.0 in let j = p.1 in omega arith
  ]

  each_within : (ls : List Literal) → Each OneFace ls → Each (λ (l : Literal). l.var ≤ count s g) (renamed img ls)
  each_within [] h = tt
  each_within (l ∷ ls) h = (img-within l.var (h.0).face, each_within ls h.1)

  img-some : (v : ℕ) → IsFace s.fields own parts v → 0 < img v
  img-some v f = elim f.one [
    | inl p ↦ let x = image_low own parts sb v (omega arith) in let y = f.some in omega arith
    | inr p ↦ let x = image_high own parts sb v p.0 p.1 in let i = p.0 in omega arith
  ]

  each_some : (ls : List Literal) → Each OneFace ls → Each (λ (l : Literal). 0 < l.var) (renamed img ls)
  each_some [] h = tt
  each_some (l ∷ ls) h = (img-some l.var (h.0).face, each_some ls h.1)

  each_face : (ls : List Literal) → Each (λ (l : Literal). Contains given (opposite l)) ls → Each OneFace ls
  each_face [] h = tt
  each_face (l ∷ ls) h = (one_face l h.0, each_face ls h.1)

  pub own-small : own + parts < 2 ^ 31
  own-small = let t = shaped.there g site lt in let w = own_within s c t in let m = shaped.small c.group (let h = t.group in omega arith) in omega arith

  pub site-small : g ≤ root s → sb + parts < 2 ^ 31
  site-small le = let w = site_within s g site lt in let m = shaped.small g le in omega arith

  -- an unknown of the interface goes to one of the site
  img-here : (v : ℕ) → IsFace s.fields own parts v → IsOfSite s g site (img v)
  img-here v f = elim f.one [
    | inl p ↦ let x = image_low own parts sb v (omega arith) in inl (omega arith)
    | inr p ↦ let x = image_high own parts sb v p.0 p.1 in let y = site_next s g site lt in let i = p.0 in let j = p.1 in inr (omega arith, omega arith)
  ]

  each_here : (ls : List Literal) → Each OneFace ls → Each (λ (l : Literal). IsOfSite s g site l.var) (renamed img ls)
  each_here [] h = tt
  each_here (l ∷ ls) h = (img-here l.var (h.0).face, each_here ls h.1)

  module _ (U : ConstraintName → Bool) (lines : List Line) (le : g ≤ root s) (n : ℕ) (denied : IsDenied lines c.group given n) (from new : List Literal) (from_is : from ≡ denied.line.lits) (made : IsCarriedClause img from new) where
    abbrev next : Line
    next = record { group = g; how = Inst n site; lits = new }

    faces : Each OneFace denied.line.lits
    faces = each_face denied.line.lits (each_of (λ (l : Literal). Contains given (opposite l)) denied.line.lits denied.denied)

    made-is : gathered (renamed img denied.line.lits) ≡ Some new
    made-is = ap (λ ls. gathered (renamed img ls)) (sym from_is) ∙ made.made

    earlier : n < suc (length lines)
    earlier = within n denied.there
      where
        within : (m : ℕ) → line_at lines m ≡ Some denied.line → m < suc (length lines)
        within zero e = cc
        within (suc m) e = let h = get-within lines denied.line m e in omega arith

    next-right : IsRightLine s U lines (length lines + 1) next
    next-right = record {
      group = le;
      clause = (asc-gathered (renamed img denied.line.lits) new (each_some denied.line.lits faces) made-is, all_of (λ (l : Literal). l.var ≤ count s g) new (each-gathered (λ (l : Literal). l.var ≤ count s g) (renamed img denied.line.lits) new (each_within denied.line.lits faces) made-is));
      right = record {
        site_there = lt;
        line = denied.line;
        there = denied.there;
        earlier = (let h = earlier in omega arith);
        group = denied.group;
        lits = renamed img denied.line.lits;
        is_carried = carried_all denied.line.lits faces;
        in_order = made-is;
      };
    }

    next-false : clause_true a new ≡ false
    next-false = made.truth a ∙ ap (clause_true (λ v. a (img v))) from_is ∙ all_false denied.line.lits faces

    next-here : All (λ (l : Literal). IsOfSite s g site l.var) new
    next-here = all_of (λ (l : Literal). IsOfSite s g site l.var) new (each-gathered (λ (l : Literal). IsOfSite s g site l.var) (renamed img denied.line.lits) new (each_here denied.line.lits faces) made-is)

    pub next_said : (bits : List Bool) → a ≡ bit_at bits → IsSaidAt s U lines g site bits next
    next_said bits is = record { group = refl; right = next-right; denied = ap (λ (f : ℕ → Bool). clause_true f new) (sym is) ∙ next-false; here = next-here }

-- what bits make false is no line that they make true
pub said_new : LocalLinesAreTrue → (s : System) (U : ConstraintName → Bool) (lines : List Line) (phi : List Bool) (g site : ℕ) (bits : List Bool) (line : Line) → IsValidIn s U lines → IsAsker s U lines phi g bits → IsSaidAt s U lines g site bits line → IsNew lines line.group line.lits
said_new law s U lines phi g site bits line valid asker said m x at eg ec = clash (sym local ∙ ap (clause_true (bit_at bits)) ec ∙ said.denied)
  where
    local : clause_true (bit_at bits) x.lits ≡ true
    local = law s U lines g (bit_at bits) valid asker.local asker.carried m x at (eg ∙ said.group)

    clash : true ≡ false → ⊥
    clash e = cc

pub added : (s : System) (U : ConstraintName → Bool) (old d new : Ledger) (y : Line) (cost : ℕ) → d ≡ old → IsLedger s U old → IsRightLine s U old.lines (length old.lines + 1) y → IsNew old.lines y.group y.lits
    → new.lines ≡ d.lines ++ y ∷ [] → cost ≡ line_cost y → cost ≤ d.words → new.words ≡ d.words - cost → IsPaid s U old new
added s U old d new y cost de l right fresh lines ce le words =
    let dw : d.words ≡ old.words = ap (λ (x : Ledger). x.words) de in
    let r : IsRightLine s U old.lines (suc (length old.lines)) y = subst (λ n. IsRightLine s U old.lines n y) (omega arith) right in
    record {
      extends = ledger-push s U old new y l r fresh (lines ∙ ap (λ (x : Ledger). x.lines ++ y ∷ []) de) (omega arith);
      fewer = omega arith;
      own = [];
      last = y;
      is = lines ∙ ap (λ (x : Ledger). x.lines ++ y ∷ []) de;
      none = λ n x at. absurd (nothing n x at);
    }
  where
    nothing : (n : ℕ) (x : Line) → slice_get [] n ≡ Some x → ⊥
    nothing n x at = cc

pub pushed : (s : System) (U : ConstraintName → Bool) (old new : Ledger) (y : Line) → IsLedger s U old → IsRightLine s U old.lines (length old.lines + 1) y → IsNew old.lines y.group y.lits
    → new.lines ≡ old.lines ++ y ∷ [] → new.words + line_cost y ≡ old.words → IsPaid s U old new
pushed s U old new y l right fresh lines words = added s U old old new y (line_cost y) refl l right fresh lines refl (omega arith) (omega arith)

pub few_lines : (s : System) (U : ConstraintName → Bool) (l : Ledger) → IsLedger s U l → length l.lines < 2 ^ 32
few_lines s U l ok = few_known l.lines l.words ok.small

pub not_added : (s : System) (U : ConstraintName → Bool) (old d : Ledger) (y : Line) (cost : ℕ) → d ≡ old → IsRightLine s U old.lines (length old.lines + 1) y → IsNew old.lines y.group y.lits → cost ≡ line_cost y → d.words < cost → IsOver s U old y
not_added s U old d y cost de right fresh ce lt = record {
  right = subst (λ n. IsRightLine s U old.lines n y) (omega arith) right;
  new = fresh;
  over = let dw : d.words ≡ old.words = ap (λ (x : Ledger). x.words) de in omega arith;
}

-- what the code needs

pub image_is : (s : System) (g site : ℕ) (k : Callee) (b p w : ℕ) → k ≡ callee s g site → b ≡ before_own s k → p ≡ s.parts k.proc → w ≡ before_site s g site → site_image b p w ≡ image_at s g site
image_is s g site k b p w ke be pe we =
    let b2 : b ≡ before_own s (callee s g site) = be ∙ ap (before_own s) ke in
    let p2 : p ≡ s.parts (callee s g site).proc = pe ∙ ap (λ (x : Callee). s.parts x.proc) ke in
    ap (λ x. site_image x p w) b2 ∙ ap (λ x. site_image (before_own s (callee s g site)) x w) p2 ∙ ap (λ x. site_image (before_own s (callee s g site)) (s.parts (callee s g site).proc) x) we

pub record AreSmall (b p w : ℕ) : Type 0 where
  pub own : b + p < 2 ^ 31
  pub site : w + p < 2 ^ 31

pub small_numbers : (s : System) (g site : ℕ) (k : Callee) (b p w : ℕ) → IsShaped s → g ≤ root s → site < length (callees s g) → k ≡ callee s g site → b ≡ before_own s k → p ≡ s.parts k.proc → w ≡ before_site s g site → AreSmall b p w
small_numbers s g site k b p w shaped le lt ke be pe we =
    let b2 : b ≡ before_own s (callee s g site) = be ∙ ap (before_own s) ke in
    let p2 : p ≡ s.parts (callee s g site).proc = pe ∙ ap (λ (x : Callee). s.parts x.proc) ke in
    let o = own-small s shaped (λ v. true) g site lt in
    let q = site-small s shaped (λ v. true) g site lt le in
    record { own = omega arith; site = omega arith }

pub apart_by : (img image : ℕ → ℕ) (from lits : List Literal) → img ≡ image → lits ≡ from → KeepsApart image from → KeepsApart img lits
apart_by img image from lits ie le h = subst (λ (f : ℕ → ℕ). KeepsApart f lits) (sym ie) (subst (λ ls. KeepsApart image ls) (sym le) h)

pub carried_by : (img image : ℕ → ℕ) (from lits new : List Literal) → img ≡ image → lits ≡ from → gathered (renamed img lits) ≡ Some new → ((t : ℕ → Bool) → clause_true t new ≡ clause_true (λ v. t (img v)) lits) → IsCarriedClause image from new
carried_by img image from lits new ie le made truth =
    subst (λ (f : ℕ → ℕ). IsCarriedClause f from new) ie (subst (λ ls. IsCarriedClause img ls new) le (record { made = made; truth = truth }))

pub line_read : (lines : List Line) (n : ℕ) (x line : Line) → x ≡ get_or lines (n - 1) x → line_at lines n ≡ Some line → x ≡ line
line_read lines zero x line e at = cc
line_read lines (suc n) x line e at =
    let one : suc n - 1 ≡ n = omega arith in
    e ∙ ap (λ k. get_or lines k x) one ∙ get_or_from_slice_get lines n line x at
