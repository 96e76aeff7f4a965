-- What an instance more does to a table.
use Rattle.std.specs.List.{range_with_len}
use Rattle.std.proofs.Common.{◌≡◌, ℕ, zero, suc, ◌+◌, ◌<◌, ◌≤◌, ◌^◌, ◌⊎◌, inl, inr, ⊎_elim, Bool, true, false, not, cond, List, [], ◌∷◌, ◌++◌, Some, refl, sym, ap, ◌∙◌, subst, arith, length, get_or, take, map, slice_get, append_assoc, set, length-set, get_or-set_same, get_or-set_other}
use Rattle.std.specs.List.{All}
use Rattle.std.proofs.lemmas.Bool.{cases_eq}
use Rattle.zo_core.specs.Literals.{Literal}
use Rattle.zo_core.specs.Truth.{holds}
use Rattle.conflict_proof.specs.declared.names.ConstraintName.{ConstraintName}
use Rattle.conflict_proof.specs.declared.derivation.Line.{Line}
use Rattle.verdict_meaning.specs.declared.callee.Callee.{Callee}
use Rattle.verdict_meaning.specs.Systems.{System, root}
use Rattle.verdict_meaning.specs.Solutions.{phi_by}
use Rattle.verdict_meaning.specs.Certificates.{bit_at}
use Rattle.call_search.specs.Indexes.{Ledger}
use Rattle.call_search.specs.declared.entries.Entry.{Entry}
use Rattle.call_search.specs.Shapes.{IsThere, IsShaped, before_own, stated}
use Rattle.call_search.proofs.Faces.{own_within}
use Rattle.call_search.specs.declared.groups.Outcome.{Outcome}
use Rattle.call_search.specs.declared.groups.Outcome.TheVariants as outcome
use Rattle.call_search.specs.Ledgers.{IsSolved, Solves, IsDenied}
use Rattle.call_search.specs.Entries.{at_entry, in_group, IsSized, IsKept, own_face, Answers, IsAnswered, NoneAnswers, IsTable, IsPut, AreKept, AreLeft, AreFewer, AreSized, IsFrom}
use Rattle.call_search.specs.Answers.{given_for, Adds, IsObtained, OutcomeIs}
use Rattle.call_search.proofs.Lists.{some_one, push_cases, push_same, append_none}

-- literals that say what values are

stated_more : (n i : ℕ) (bs : List Bool) (d : Bool) → i < length bs → stated n (take (suc i) bs) ≡ stated n (take i bs) ++ record { var = n + i; sign = get_or bs i d } ∷ []
stated_more n i [] d lt = absurd (omega arith)
stated_more n zero (b ∷ bs) d lt = ap (λ v. let l : Literal = record { var = v; sign = b } in l ∷ []) (omega arith)
stated_more n (suc i) (b ∷ bs) d lt =
    ap (λ ls. record { var = n; sign = b } ∷ ls) (stated_more (suc n) i bs d (omega arith) ∙ ap (λ v. stated (suc n) (take i bs) ++ record { var = v; sign = get_or bs i d } ∷ []) (omega arith))

says : (z v : Bool) → cond z v (not v) ≡ true → v ≡ z
says true v e = e
says false true e = cc
says false false e = refl

all_tail : (P : Literal → Type 0) (l : Literal) (c : List Literal) → All P (l ∷ c) → All P c
all_tail P l c h k d lt = h (suc k) d (omega arith)

pub stated_holds : (a : ℕ → Bool) (n : ℕ) (bs : List Bool) → All (λ (l : Literal). holds a l ≡ true) (stated n bs) → map a (range_with_len n (length bs)) ≡ bs
stated_holds a n [] h = refl
stated_holds a n (b ∷ bs) h =
    let l : Literal = record { var = n; sign = b } in
    ap (λ m. a n ∷ map a (range_with_len m (length bs))) (omega arith)
    ∙ ap (λ x. x ∷ map a (range_with_len (suc n) (length bs))) (says b (a n) (h 0 l (omega arith)))
    ∙ ap (λ xs. b ∷ xs) (stated_holds a (suc n) bs (all_tail (λ (x : Literal). holds a x ≡ true) l (stated (suc n) bs) h))

all_left : (P : Literal → Type 0) (xs ys : List Literal) → All P (xs ++ ys) → All P xs
all_left P [] ys h k d lt = absurd (omega arith)
all_left P (x ∷ xs) ys h zero d lt = h 0 d (omega arith)
all_left P (x ∷ xs) ys h (suc k) d lt = all_left P xs ys (all_tail P x (xs ++ ys) h) k d (omega arith)

all_right : (P : Literal → Type 0) (xs ys : List Literal) → All P (xs ++ ys) → All P ys
all_right P [] ys h = h
all_right P (x ∷ xs) ys h = all_right P xs ys (all_tail P x (xs ++ ys) h)

-- an instance with what is asked for, put into the table
module _ (s : System) (U : ConstraintName → Bool) (phi : List Bool) (c : Callee) (face : List Bool) (lines : List Line) (made : Entry) (made-kept : IsKept s U lines phi made) (made-answers : Answers s made c face) where
  module _ (t u : List (List Entry)) (table : IsTable s U lines phi t) (none : NoneAnswers s (in_group t c.group) c face) (put : IsPut c.group made t u) where
    -- where an instance of the new table stands
    where_is : (g n : ℕ) (e : Entry) → slice_get (in_group u g) n ≡ Some e → (slice_get (in_group t g) n ≡ Some e) ⊎ ((g ≡ c.group) × (n ≡ length (in_group t c.group)) × (made ≡ e))
    where_is g n e at = elim (cases_eq g c.group) [
      | inl same ↦ ⊎_elim
          (λ (old : slice_get (in_group t c.group) n ≡ Some e). inl (subst (λ h. slice_get (in_group t h) n ≡ Some e) (sym same) old))
          (λ (new : (n ≡ length (in_group t c.group)) × (made ≡ e)). inr (same, new.0, new.1))
          (push_cases (in_group t c.group) made e n (ap (λ (es : List Entry). slice_get es n) (sym put.here) ∙ subst (λ h. slice_get (in_group u h) n ≡ Some e) same at))
      | inr other ↦ inl (ap (λ (es : List Entry). slice_get es n) (sym (put.others g other)) ∙ at)
    ]

    new-kept : (g n : ℕ) (e : Entry) → slice_get (in_group u g) n ≡ Some e → IsKept s U lines phi e
    new-kept g n e at = elim (where_is g n e at) [
      | inl old ↦ table.kept g n e old
      | inr new ↦ subst (λ (x : Entry). IsKept s U lines phi x) new.2 made-kept
    ]

    new-group : (g n : ℕ) (e : Entry) → slice_get (in_group u g) n ≡ Some e → e.group ≡ g
    new-group g n e at = elim (where_is g n e at) [
      | inl old ↦ table.group g n e old
      | inr new ↦ ap (λ (x : Entry). x.group) (sym new.2) ∙ made-answers.group ∙ sym new.0
    ]

    -- an old instance is not of the same procedure with the same interface
    differs : (g n : ℕ) (e : Entry) → g ≡ c.group → slice_get (in_group t g) n ≡ Some e → Answers s e c face → ⊥
    differs g n e same at a = none n e (subst (λ h. slice_get (in_group t h) n ≡ Some e) same at) a

    new-apart : (g n m : ℕ) (e f : Entry) → slice_get (in_group u g) n ≡ Some e → slice_get (in_group u g) m ≡ Some f → Answers s e (at_entry f) (own_face s f) → n ≡ m
    new-apart g n m e f p q a = elim (where_is g n e p) [
      | inl i ↦ elim (where_is g m f q) [
        | inl j ↦ table.apart g n m e f i j a
        | inr j ↦ absurd (differs g n e j.0 i (of_made f j.2 a))
      ]
      | inr i ↦ elim (where_is g m f q) [
        | inl j ↦ absurd (differs g m f i.0 j (turned e i.2 a))
        | inr j ↦ i.1 ∙ sym j.1
      ]
    ]
      where
        of_made : (f : Entry) → made ≡ f → Answers s e (at_entry f) (own_face s f) → Answers s e c face
        of_made f is b = record { proc = b.proc ∙ ap (λ (x : Entry). x.proc) (sym is) ∙ made-answers.proc; group = b.group ∙ ap (λ (x : Entry). x.group) (sym is) ∙ made-answers.group; face_is = b.face_is ∙ ap (own_face s) (sym is) ∙ made-answers.face_is }

        turned : (e : Entry) → made ≡ e → Answers s e (at_entry f) (own_face s f) → Answers s f c face
        turned e is b = record { proc = sym b.proc ∙ ap (λ (x : Entry). x.proc) (sym is) ∙ made-answers.proc; group = sym b.group ∙ ap (λ (x : Entry). x.group) (sym is) ∙ made-answers.group; face_is = sym b.face_is ∙ ap (own_face s) (sym is) ∙ made-answers.face_is }

    pub put-table : IsTable s U lines phi u
    put-table = record { size = put.size ∙ table.size; kept = new-kept; group = new-group; apart = new-apart }

    pub put-adds : Adds s c face t u
    put-adds = record {
      size = put.size;
      others = put.others;
      more = made ∷ [];
      is = put.here;
      each = λ k e at. first k e at;
    }
      where
        first : (k : ℕ) (e : Entry) → slice_get (made ∷ []) k ≡ Some e → Answers s e c face
        first zero e at = subst (λ (x : Entry). Answers s x c face) (some_one made e at) made-answers
        first (suc k) e at = cc

    pub put-answered : IsAnswered s (in_group u c.group) c face
    put-answered = record {
      number = length (in_group t c.group);
      entry = made;
      there = ap (λ (es : List Entry). slice_get es (length (in_group t c.group))) put.here ∙ push_same (in_group t c.group) made;
      answers = made-answers;
    }

    pub put-obtained : (old new : Ledger) → new ≡ old → old.lines ≡ lines → IsObtained s U phi c face old new t u
    put-obtained old new e f = record {
      ledger = e;
      table = subst (λ (ls : List Line). IsTable s U ls phi u) (sym (ap (λ (l : Ledger). l.lines) e ∙ f)) put-table;
      adds = put-adds;
      answered = put-answered;
    }

module _ (s : System) (U : ConstraintName → Bool) (phi : List Bool) (c : Callee) (face : List Bool) (lines : List Line) (there : IsThere s c) (phi_size : length phi ≡ s.fields) (face_size : length face ≡ s.parts c.proc) where
  module _ (bits : List Bool) (solved : IsSolved s U lines c.group (given_for s phi c face) bits) where
    abbrev made : Entry
    made = record { group = c.group; proc = c.proc; bits = bits }

    made-phi : phi_by s (bit_at bits) ≡ phi
    made-phi = ap (λ n. map (bit_at bits) (range_with_len 1 n)) (sym phi_size) ∙ stated_holds (bit_at bits) 1 phi (all_left (λ (l : Literal). holds (bit_at bits) l ≡ true) (stated 1 phi) (stated (suc (before_own s c)) face) solved.holding)

    made-face : own_face s made ≡ face
    made-face = ap (λ n. map (bit_at bits) (range_with_len (suc (before_own s c)) n)) (sym face_size) ∙ stated_holds (bit_at bits) (suc (before_own s c)) face (all_right (λ (l : Literal). holds (bit_at bits) l ≡ true) (stated 1 phi) (stated (suc (before_own s c)) face) solved.holding)

    pub made-kept : IsKept s U lines phi made
    made-kept = record { there = there; size = solved.size; local = solved.local; phi_is = made-phi; carried = solved.carried }

    pub made-answers : Answers s made c face
    made-answers = record { proc = refl; group = refl; face_is = made-face }

pub found-obtained : (s : System) (U : ConstraintName → Bool) (phi : List Bool) (c : Callee) (face : List Bool) (ledger : Ledger) (t : List (List Entry)) → IsTable s U ledger.lines phi t → IsAnswered s (in_group t c.group) c face
    → IsObtained s U phi c face ledger ledger t t
found-obtained s U phi c face ledger t table at = record {
  ledger = refl;
  table = table;
  adds = record { size = refl; others = λ h ne. refl; more = []; is = sym (append_none (in_group t c.group)); each = λ k e at. cc };
  answered = at;
}

pub state_step : (old out new : List Literal) (n i : ℕ) (bs : List Bool) (l : Literal) → i < length bs → out ≡ old ++ stated n (take i bs) → new ≡ out ++ l ∷ [] → l ≡ record { var = n + i; sign = get_or bs i false } → new ≡ old ++ stated n (take (i + 1) bs)
state_step old out new n i bs l lt e f h =
    let one : i + 1 ≡ suc i = omega arith in
    f ∙ ap (λ ls. ls ++ l ∷ []) e ∙ append_assoc old (stated n (take i bs)) (l ∷ [])
    ∙ ap (λ x. old ++ (stated n (take i bs) ++ x ∷ [])) h
    ∙ ap (λ ls. old ++ ls) (sym (stated_more n i bs false lt))
    ∙ ap (λ k. old ++ stated n (take k bs)) (sym one)

pub state_end : (old out : List Literal) (n i : ℕ) (bs : List Bool) → length bs ≤ i → out ≡ old ++ stated n (take i bs) → out ≡ old ++ stated n bs
state_end old out n i bs le e = e ∙ ap (λ xs. old ++ stated n xs) (whole i bs le)
  where
    whole : (i : ℕ) (bs : List Bool) → length bs ≤ i → take i bs ≡ bs
    whole i [] le = take-nil i
      where
        take-nil : (i : ℕ) → take {A = Bool} i [] ≡ []
        take-nil zero = refl
        take-nil (suc i) = refl
    whole zero (b ∷ bs) le = absurd (omega arith)
    whole (suc i) (b ∷ bs) le = ap (λ xs. b ∷ xs) (whole i bs (omega arith))

default_free : (t : List (List Entry)) (g : ℕ) (d f : List Entry) → g < length t → get_or t g d ≡ get_or t g f
default_free [] g d f lt = absurd (omega arith)
default_free (x ∷ t) zero d f lt = refl
default_free (x ∷ t) (suc g) d f lt = default_free t g d f (omega arith)

pub put_is : (t : List (List Entry)) (g : ℕ) (e : Entry) (es r : List Entry) → g < length t → es ≡ r ++ e ∷ [] → r ≡ get_or t g r → IsPut g e t (set t g es)
put_is t g e es r lt is at = record {
  size = length-set t g es;
  here = get_or-set_same t g es [] lt ∙ is ∙ ap (λ xs. xs ++ e ∷ []) (at ∙ default_free t g r [] lt);
  others = λ h ne. get_or-set_other t g h es [] ne;
}

pub listed_is : (t : List (List Entry)) (g : ℕ) (r xs : List Entry) → g < length t → xs ≡ r → r ≡ get_or t g r → xs ≡ in_group t g
listed_is t g r xs lt e at = e ∙ at ∙ default_free t g r [] lt

-- what the code needs of numbers
pub own-fits : (s : System) (c : Callee) (n : ℕ) → IsShaped s → IsThere s c → n ≡ before_own s c → n + 1 < 2 ^ 32
own-fits s c n shaped there e = let w = own_within s c there in let m = shaped.small c.group (let h = there.group in omega arith) in omega arith

pub own-range : (s : System) (c : Callee) (n : ℕ) (face : List Bool) → IsShaped s → IsThere s c → n ≡ before_own s c → length face ≡ s.parts c.proc → n + 1 + length face ≤ 2 ^ 31
own-range s c n face shaped there e f = let w = own_within s c there in let m = shaped.small c.group (let h = there.group in omega arith) in omega arith

pub phi-range : (s : System) (phi : List Bool) → IsShaped s → length phi ≡ s.fields → 1 + length phi ≤ 2 ^ 31
phi-range s phi shaped e = let m = shaped.small (root s) (omega arith) in omega arith

pub given_is : (s : System) (phi : List Bool) (c : Callee) (face : List Bool) (n : ℕ) (none one two : List Literal) → none ≡ [] → one ≡ none ++ stated 1 phi → two ≡ one ++ stated n face → n ≡ before_own s c + 1 → two ≡ given_for s phi c face
given_is s phi c face n none one two a b d e =
    let h : n ≡ suc (before_own s c) = omega arith in
    d ∙ ap (λ ls. ls ++ stated n face) (b ∙ ap (λ ls. ls ++ stated 1 phi) a) ∙ ap (λ k. stated 1 phi ++ stated k face) h

pub table_sized : (s : System) (U : ConstraintName → Bool) (lines : List Line) (phi : List Bool) (t : List (List Entry)) (g : ℕ) (es : List Entry) → IsTable s U lines phi t → es ≡ in_group t g → (n : ℕ) (e : Entry) → slice_get es n ≡ Some e → IsSized s e
table_sized s U lines phi t g es table is n e at =
    let k : IsKept s U lines phi e = table.kept g n e (ap (λ (xs : List Entry). slice_get xs n) (sym is) ∙ at) in
    record { there = k.there; size = k.size }

pub found_it : (s : System) (U : ConstraintName → Bool) (phi : List Bool) (c : Callee) (face : List Bool) (ledger : Ledger) (t : List (List Entry)) (es : List Entry) → es ≡ in_group t c.group → IsTable s U ledger.lines phi t → IsAnswered s es c face
    → IsObtained s U phi c face ledger ledger t t
found_it s U phi c face ledger t es is table at = found-obtained s U phi c face ledger t table (subst (λ (xs : List Entry). IsAnswered s xs c face) is at)

pub sat_obtained : (s : System) (U : ConstraintName → Bool) (phi : List Bool) (c : Callee) (face : List Bool) (old new : Ledger) (t u : List (List Entry)) (es : List Entry) (given : List Literal) (o : Outcome) (bits : List Bool)
    → o ≡ outcome.Sat bits → OutcomeIs s U c.group given old new o → given ≡ given_for s phi c face → IsTable s U old.lines phi t → es ≡ in_group t c.group → NoneAnswers s es c face
    → IsPut c.group (record { group = c.group; proc = c.proc; bits = bits }) t u → IsThere s c → length phi ≡ s.fields → length face ≡ s.parts c.proc → IsObtained s U phi c face old new t u
sat_obtained s U phi c face old new t u es given o bits oe is ge table le none put there pe fe =
    let out : (new ≡ old) × IsSolved s U old.lines c.group given bits = subst (OutcomeIs s U c.group given old new) oe is in
    let solved : IsSolved s U old.lines c.group (given_for s phi c face) bits = subst (λ ls. IsSolved s U old.lines c.group ls bits) ge out.1 in
    put-obtained s U phi c face old.lines (record { group = c.group; proc = c.proc; bits = bits }) (made-kept s U phi c face old.lines there pe fe bits solved) (made-answers s U phi c face old.lines there pe fe bits solved) t u table (subst (λ (xs : List Entry). NoneAnswers s xs c face) le none) put old new out.0 refl

pub refused : (s : System) (U : ConstraintName → Bool) (phi : List Bool) (c : Callee) (face : List Bool) (old new : Ledger) (given : List Literal) (o : Outcome) (n : ℕ)
    → o ≡ outcome.Conflict n → OutcomeIs s U c.group given old new o → given ≡ given_for s phi c face → Solves s U c.group old new × IsDenied new.lines c.group (given_for s phi c face) n
refused s U phi c face old new given o n oe is ge =
    let out : Solves s U c.group old new × IsDenied new.lines c.group given n = subst (OutcomeIs s U c.group given old new) oe is in
    (out.0, subst (λ ls. IsDenied new.lines c.group ls n) ge out.1)

-- an instance that was kept

pub kept_obtained : (s : System) (U : ConstraintName → Bool) (phi : List Bool) (c : Callee) (face : List Bool) (ledger : Ledger) (t u k : List (List Entry)) (es : List Entry) (e : Entry) → AreLeft s U ledger.lines phi t k → es ≡ in_group t c.group → NoneAnswers s es c face
    → Answers s e c face → IsFrom k c.group e → IsPut c.group e t u → IsObtained s U phi c face ledger ledger t u
kept_obtained s U phi c face ledger t u k es e left le none answers from put =
    put-obtained s U phi c face ledger.lines e (left.kept.kept c.group from.0 e from.1) answers t u left.table (subst (λ (xs : List Entry). NoneAnswers s xs c face) le none) put ledger ledger refl refl

pub fewer_kept : (s : System) (U : ConstraintName → Bool) (lines : List Line) (phi : List Bool) (old new : List (List Entry)) → AreKept s U lines phi old → AreFewer old new → AreKept s U lines phi new
fewer_kept s U lines phi old new k f = record {
  size = f.size ∙ k.size;
  kept = λ g n e at. let r = f.each g n e at in k.kept g r.0 e r.1;
  group = λ g n e at. let r = f.each g n e at in k.group g r.0 e r.1;
}

pub kept_sized : (s : System) (U : ConstraintName → Bool) (lines : List Line) (phi : List Bool) (t : List (List Entry)) → AreKept s U lines phi t → AreSized s t
kept_sized s U lines phi t k g n e at = let r = k.kept g n e at in record { there = r.there; size = r.size }

pub put_for : (s : System) (c : Callee) (face : List Bool) (e : Entry) (t u : List (List Entry)) → Answers s e c face → IsPut e.group e t u → IsPut c.group e t u
put_for s c face e t u a p = subst (λ g. IsPut g e t u) a.group p
