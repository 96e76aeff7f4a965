-- What the least assignment of a group says, and where it is no solution.
use Rattle.std.proofs.Common.{◌≡◌, ℕ, suc, ◌+◌, ◌<◌, ◌≤◌, ◌⊎◌, inl, inr, Bool, true, false, List, [], ◌∷◌, ◌++◌, Some, refl, sym, ap, ◌∙◌, subst, arith, length, get_or, take, not, slice_get}
use Rattle.std.specs.Prelude.{◌↔◌, MatchBool}
use Rattle.std.specs.Cmp.{booleans_Decides}
use Rattle.std.specs.Cmp.Lexicographic.{pointwise}
use Rattle.std.proofs.lemmas.Slice.Eq.{slice_eq-Decides}
use mathlib.Core.Bool.{beq}
use Rattle.std.specs.List.{Contains, All}
use Rattle.std.proofs.lemmas.Option.{slice_get_within, slice_get-get_or, get_or_from_slice_get}
use Rattle.std.proofs.lemmas.Bool.{cases_lt}
use Rattle.zo_core.specs.Literals.{Literal, yes}
use Rattle.zo_core.specs.Truth.{clause_true}
use Rattle.conflict_proof.specs.declared.names.ConstraintName.{ConstraintName}
use Rattle.transfer_rules.specs.Names.{NamedClause}
use Rattle.transfer_rules.specs.Table.{no_clause}
use Rattle.verdict_meaning.specs.declared.callee.Callee.{Callee}
use Rattle.verdict_meaning.specs.Systems.{System, root, callee, callees, count, phi_numbers, pi_numbers}
use Rattle.verdict_meaning.specs.Solutions.{IsLocal, phi_by, pi_by, sigma_by}
use Rattle.verdict_meaning.specs.Certificates.{bit_at}
use Rattle.verdict_meaning.specs.Plain.{said, IsLeast, PlainIn, plain}
use Rattle.unit_answers.specs.Propagation.{IsWithin}
use Rattle.unit_answers.specs.Sets.{UnitSet, IsSetOf, set_at, AreWithin}
use Rattle.std.proofs.lemmas.List.Elements.{Contains-get_or}
use Rattle.unit_answers.specs.Tables.{IsTableOf}
use Rattle.call_search.specs.declared.entries.Entry.{Entry}
use Rattle.call_search.specs.Shapes.{IsThere}
use Rattle.call_search.specs.Answers.{given_for}
use Rattle.call_search.proofs.Lists.{push_cases}
use Rattle.call_search.proofs.Faces.{part_values}
use Rattle.plain_answers.specs.declared.wants.Want.{Want}
use Rattle.plain_answers.specs.Stages.{IsOfGroup, AreTrue, IsFitting, IsRight, IsEntryOf, AreEntries}
use Rattle.plain_answers.proofs.Lists.{other_at}
use Rattle.plain_answers.proofs.Given.{said_given}
use Rattle.plain_answers.proofs.Least.{AreSame, phi_same, pi_same, one_least, least_by, local_rows, rows_local, rows_same}

-- clauses one after another

pub row_unmet : (a : ℕ → Bool) (rows : List NamedClause) (k : ℕ) (lits : List Literal) → k < length rows → lits ≡ (get_or rows k no_clause).lits → clause_true a lits ≡ false → AreTrue a rows → ⊥
row_unmet a rows k lits lt e unmet all =
    let yes_ : clause_true a (get_or rows k no_clause).lits ≡ true = all k (get_or rows k no_clause) (slice_get-get_or rows k no_clause lt) in
    let both : false ≡ true = sym unmet ∙ ap (clause_true a) e ∙ yes_ in
    cc

-- each clause before k is true
abbrev pub AreTrueBelow : (ℕ → Bool) → List NamedClause → ℕ → Type 0
AreTrueBelow a rows k = (j : ℕ) (row : NamedClause) → j < k → slice_get rows j ≡ Some row → clause_true a row.lits ≡ true

pub rows_more : (a : ℕ → Bool) (rows : List NamedClause) (k : ℕ) (lits : List Literal) → k < length rows → lits ≡ (get_or rows k no_clause).lits → clause_true a lits ≡ true → AreTrueBelow a rows k → AreTrueBelow a rows (k + 1)
rows_more a rows k lits lt e is h j row less at = elim (cases_lt j k) [
  | inl low ↦ h j row low at
  | inr le ↦
      let same : j ≡ k = omega arith in
      let here : get_or rows k no_clause ≡ row = get_or_from_slice_get rows k row no_clause (ap (λ i. slice_get rows i) (sym same) ∙ at) in
      ap (λ (r : NamedClause). clause_true a r.lits) (sym here) ∙ ap (clause_true a) (sym e) ∙ is
]

pub rows_all : (a : ℕ → Bool) (rows : List NamedClause) (k : ℕ) → length rows ≤ k → AreTrueBelow a rows k → AreTrue a rows
rows_all a rows k le h j row at = h j row (let lt = slice_get_within rows j row at in omega arith) at

module _ (s : System) (U : ConstraintName → Bool) (phi : List Bool) where
  -- what it means that a procedure's interface is plain
  pub record IsMadePlain (g h : ℕ) (v : List Bool) : Type 0 where
    pub values : ℕ → Bool
    pub least : IsLeast s U g (said (phi_numbers s) phi ++ said (pi_numbers s g h) v) values
    pub phi_is : phi_by s values ≡ phi
    pub face_is : pi_by s g values h ≡ v
    pub local : IsLocal s U g values
    pub sites : (site : ℕ) → site < length (callees s g) → PlainIn s U phi (callee s g site).group (callee s g site).proc (sigma_by s g values site)

  pub made_plain : (g h : ℕ) (v : List Bool) → PlainIn s U phi g h v → IsMadePlain g h v
  made_plain g h v (plain a least p f local sites) = record { values = a; least = least; phi_is = p; face_is = f; local = local; sites = sites }

  module _ (c : Callee) (face bits : List Bool) (there : IsThere s c) (least : IsLeast s U c.group (said (phi_numbers s) phi ++ said (pi_numbers s c.group c.proc) face) (bit_at bits)) where
    same_values : (m : IsMadePlain c.group c.proc face) → AreSame s c.group m.values (bit_at bits)
    same_values m = one_least s U c.group (said (phi_numbers s) phi ++ said (pi_numbers s c.group c.proc) face) m.values (bit_at bits) m.least least

    -- where it says another thing than what was given, the interface is not plain
    pub unfit_unplain : (IsFitting s phi c face bits → ⊥) → PlainIn s U phi c.group c.proc face → ⊥
    unfit_unplain unfit p =
        let m : IsMadePlain c.group c.proc face = made_plain c.group c.proc face p in
        unfit (record {
          phi_is = sym (phi_same s c.group m.values (bit_at bits) (same_values m)) ∙ m.phi_is;
          face_is = sym (pi_same s c.group m.values (bit_at bits) (same_values m) c.proc there) ∙ m.face_is;
        })

    -- nor where it does not meet the clauses
    pub unmet_unplain : (rows : List NamedClause) → IsTableOf s U c.group rows → All (IsOfGroup (count s c.group)) rows → (AreTrue (bit_at bits) rows → ⊥) → PlainIn s U phi c.group c.proc face → ⊥
    unmet_unplain rows table within unmet p =
        let m : IsMadePlain c.group c.proc face = made_plain c.group c.proc face p in
        unmet (rows_same s c.group m.values (bit_at bits) rows (same_values m) within (local_rows s U c.group rows table m.values m.local))

    pub right_by : (rows : List NamedClause) → IsTableOf s U c.group rows → length bits ≡ count s c.group → IsFitting s phi c face bits → AreTrue (bit_at bits) rows → IsRight s U phi c face bits
    right_by rows table size fits met = record { size = size; least = least; fits = fits; local = rows_local s U c.group rows table (bit_at bits) met }

  pub least_given : (c : Callee) (face bits : List Bool) (given lits : List Literal) (n : ℕ) → length phi ≡ s.fields → length face ≡ s.parts c.proc → given ≡ given_for s phi c face → n ≡ count s c.group → IsSetOf s U c.group given lits
      → ((v : ℕ) → 0 < v → v ≤ n → (bit_at bits v ≡ true) ↔ Contains lits (yes v)) → IsLeast s U c.group (said (phi_numbers s) phi ++ said (pi_numbers s c.group c.proc) face) (bit_at bits)
  least_given c face bits given lits n pe fe ge ne set each =
      subst (λ (ls : List Literal). IsLeast s U c.group ls (bit_at bits)) (ge ∙ sym (said_given s phi c face pe fe)) (least_by s U c.group given lits bits n ne set each)

  -- instances one after another

  pub entries_none : (g : ℕ) → AreEntries s U phi g [] []
  entries_none g = record { count_is = refl; each = λ n q e a b. cc }

  pub entries_next : (g : ℕ) (wants : List Want) (q : Want) (es : List Entry) (e : Entry) → AreEntries s U phi g wants es → IsEntryOf s U phi g q e → AreEntries s U phi g (wants ++ q ∷ []) (es ++ e ∷ [])
  entries_next g wants q es e h one = record {
    count_is = longer es wants e q h.count_is;
    each = λ n p d a b. at n p d a b (push_cases wants q p n a) (push_cases es e d n b);
  }
    where
      longer : (es : List Entry) (wants : List Want) (e : Entry) (q : Want) → length es ≡ length wants → length (es ++ e ∷ []) ≡ length (wants ++ q ∷ [])
      longer [] [] e q h = refl
      longer [] (w ∷ ws) e q h = absurd (omega arith)
      longer (x ∷ es) [] e q h = absurd (omega arith)
      longer (x ∷ es) (w ∷ ws) e q h = ap suc (longer es ws e q (omega arith))

      at : (n : ℕ) (p : Want) (d : Entry) → slice_get (wants ++ q ∷ []) n ≡ Some p → slice_get (es ++ e ∷ []) n ≡ Some d
          → (slice_get wants n ≡ Some p) ⊎ ((n ≡ length wants) × (q ≡ p)) → (slice_get es n ≡ Some d) ⊎ ((n ≡ length es) × (e ≡ d)) → IsEntryOf s U phi g p d
      at n p d a b (inl x) (inl y) = h.each n p d x y
      at n p d a b (inl x) (inr y) = absurd (let lt = slice_get_within wants n p x in let c = h.count_is in let i = y.0 in omega arith)
      at n p d a b (inr x) (inl y) = absurd (let lt = slice_get_within es n d y in let c = h.count_is in let i = x.0 in omega arith)
      at n p d a b (inr x) (inr y) = subst (λ (z : Want). IsEntryOf s U phi g z d) x.1 (subst (λ (z : Entry). IsEntryOf s U phi g q z) y.1 one)

-- each has a bit for each unknown
pub entries_sized : (s : System) (U : ConstraintName → Bool) (phi : List Bool) (g : ℕ) (wants : List Want) (es : List Entry) → AreEntries s U phi g wants es → All (λ (e : Entry). length e.bits ≡ count s g) es
entries_sized s U phi g wants es h k d lt =
    let at : slice_get es k ≡ Some (get_or es k d) = slice_get-get_or es k d lt in
    let q = other_at es wants k (get_or es k d) (sym h.count_is) at in
    let one : IsEntryOf s U phi g q.0 (get_or es k d) = h.each k q.0 (get_or es k d) q.1 at in
    one.right.size

-- comparisons of bits

told : (xs ys : List Bool) (r : Bool) → r ≡ pointwise beq xs ys → MatchBool r (xs ≡ ys) (xs ≡ ys → ⊥)
told xs ys true e = (slice_eq-Decides booleans_Decides xs ys (pointwise beq xs ys) refl).0 (sym e)
told xs ys false e = λ same. clash (e ∙ (slice_eq-Decides booleans_Decides xs ys (pointwise beq xs ys) refl).1 same)
  where
    clash : false ≡ true → ⊥
    clash e = cc

same_by : (xs ys : List Bool) → not (pointwise beq xs ys) ≡ false → xs ≡ ys
same_by xs ys e = pick (pointwise beq xs ys) refl e
  where
    pick : (r : Bool) → r ≡ pointwise beq xs ys → not r ≡ false → xs ≡ ys
    pick true m n = told xs ys true m
    pick false m n = cc

other_by : (xs ys : List Bool) → not (pointwise beq xs ys) ≡ true → xs ≡ ys → ⊥
other_by xs ys e same = pick (pointwise beq xs ys) refl e
  where
    pick : (r : Bool) → r ≡ pointwise beq xs ys → not r ≡ true → ⊥
    pick true m n = cc
    pick false m n = told xs ys false m same

module _ (s : System) (phi : List Bool) (c : Callee) (face bits front : List Bool) (front_is : front ≡ phi_by s (bit_at bits)) where
  pub unfit_by : (r : Bool) → r ≡ not (pointwise beq front phi) → r ≡ true → IsFitting s phi c face bits → ⊥
  unfit_by r e t f = other_by front phi (sym e ∙ t) (front_is ∙ f.phi_is)

  pub fits_by : (r b : Bool) (own : List Bool) → r ≡ not (pointwise beq front phi) → r ≡ false → own ≡ pi_by s c.group (bit_at bits) c.proc → b ≡ pointwise beq own face
      → MatchBool b (IsFitting s phi c face bits) (IsFitting s phi c face bits → ⊥)
  fits_by r true own e f o m = record { phi_is = sym front_is ∙ same_by front phi (sym e ∙ f); face_is = sym o ∙ told own face true m }
  fits_by r false own e f o m = λ x. told own face false m (o ∙ x.face_is)

-- the first bits are those of fields
pub front_values : (s : System) (g : ℕ) (bits : List Bool) (n : ℕ) → n ≡ s.fields → length bits ≡ count s g → take n bits ≡ phi_by s (bit_at bits)
front_values s g bits n ne size = ap (λ k. take k bits) ne ∙ part_values bits 0 s.fields (omega arith)

pub match_true : (b : Bool) (P Q : Type 0) → b ≡ true → MatchBool b P Q → P
match_true true P Q e m = m
match_true false P Q e m = cc

pub match_false : (b : Bool) (P Q : Type 0) → b ≡ false → MatchBool b P Q → Q
match_false true P Q e m = cc
match_false false P Q e m = m

-- what is asked of the literals of a set and of a table

pub own_within_by : (s : System) (sets : List UnitSet) (g n : ℕ) (ls : List Literal) → g < root s → AreWithin s sets → ls ≡ (set_at sets g).lits → n ≡ count s g → All (λ (l : Literal). l.var ≤ n) ls
own_within_by s sets g n ls lt within is ne k d less =
    let there : Contains (set_at sets g).lits (get_or ls k d) = subst (λ (us : List Literal). Contains us (get_or ls k d)) is (Contains-get_or ls k d less) in
    let most = within.most g (get_or ls k d) (omega arith) there in
    omega arith

pub table_within_by : (rows : List NamedClause) (m n : ℕ) → n ≡ m → All (IsOfGroup m) rows → All (IsWithin n) rows
table_within_by rows m n e all k d lt i x less = let both = all k d lt i x less in let low = both.1 in omega arith
