-- Lines as text.
use Rattle.std.proofs.Common.{◌≡◌, ℕ, zero, suc, ◌<◌, ◌≤◌, ◌^◌, List, [], ◌∷◌, ◌++◌, length, drop, refl, sym, ap, ◌∙◌, get_or, append_assoc, codes, arith}
use Rattle.std.specs.List.{All}
use Rattle.zo_core.specs.Literals.{Literal}
use Rattle.conflict_proof.specs.declared.names.ConstraintName.{ConstraintName}
use Rattle.conflict_proof.specs.declared.derivation.How.{How}
use Rattle.conflict_proof.specs.declared.derivation.How.TheVariants.{Axiom, Resolve, Inst}
use Rattle.conflict_proof.specs.declared.derivation.Line.{Line}
use Rattle.conflict_proof.specs.Text.{numbers_text, axiom_numbers, how_text, clause_text, line_text}
use Rattle.conflict_proof.specs.Values.{IsName, IsHow, IsLine}
use Rattle.conflict_proof.specs.Fronts.{NoDigit, NoNumbers, AreNumbers, NoHow, IsHowFront, NoLine, IsLineFront, NoClause, IsClauseLine}
use Rattle.conflict_proof.proofs.Digits.{different}
use Rattle.conflict_proof.proofs.NumberLemmas.{same_numbers}
use Rattle.conflict_proof.proofs.ClauseLemmas.{same_clause}

-- the numbers of a line
abbrev pub three : ℕ → ℕ → ℕ → List ℕ
three a b c = a ∷ b ∷ c ∷ []

pub small_three : (a b c : ℕ) → a < 2 ^ 32 → b < 2 ^ 32 → c < 2 ^ 32 → All (λ n. n < 2 ^ 32) (three a b c)
small_three a b c ha hb hc zero d h = ha
small_three a b c ha hb hc (suc zero) d h = hb
small_three a b c ha hb hc (suc (suc zero)) d h = hc
small_three a b c ha hb hc (suc (suc (suc k))) d h = absurd (omega arith)

pub small_axiom : (group : ℕ) (n : ConstraintName) → group < 2 ^ 32 → IsName n → All (λ m. m < 2 ^ 32) (axiom_numbers group n)
small_axiom group n hg h zero d i = hg
small_axiom group n hg h (suc zero) d i = omega (arith, h.rule)
small_axiom group n hg h (suc (suc zero)) d i = h.proc
small_axiom group n hg h (suc (suc (suc zero))) d i = h.place
small_axiom group n hg h (suc (suc (suc (suc zero)))) d i = omega (arith, h.edge)
small_axiom group n hg h (suc (suc (suc (suc (suc zero))))) d i = h.slot
small_axiom group n hg h (suc (suc (suc (suc (suc (suc zero)))))) d i = h.field
small_axiom group n hg h (suc (suc (suc (suc (suc (suc (suc zero))))))) d i = h.other
small_axiom group n hg h (suc (suc (suc (suc (suc (suc (suc (suc k)))))))) d i = absurd (omega arith)

-- a list by its elements
abbrev first_of : List ℕ → ℕ
first_of xs = get_or xs 0 0

abbrev pub at : ℕ → List ℕ → ℕ
at k xs = get_or xs k 0

same_at : (k : ℕ) (xs ys : List ℕ) → xs ≡ ys → at k xs ≡ at k ys
same_at k xs ys e = ap (at k) e

-- the name that an axiom's numbers give
abbrev pub name_of : List ℕ → ConstraintName
name_of ns = record { proc = at 2 ns; place = at 3 ns; edge = at 4 ns; rule = at 1 ns; slot = at 5 ns; field = at 6 ns; other = at 7 ns }

same_name : (g g' : ℕ) (m n : ConstraintName) → axiom_numbers g m ≡ axiom_numbers g' n → m ≡ n
same_name g g' m n e = ap name_of e

pub record SameHow (g g' : ℕ) (h h' : How) (q r : List ℕ) : Type 0 where
  pub group : g ≡ g'
  pub how : h ≡ h'
  pub rest : q ≡ r

-- different lines' fronts have different texts
pub same_how : (g g' : ℕ) (h h' : How) (q r : List ℕ) → g < 2 ^ 32 → g' < 2 ^ 32 → IsHow h → IsHow h' → NoDigit q → NoDigit r → how_text g h ++ q ≡ how_text g' h' ++ r → SameHow g g' h h' q r
same_how g g' (Axiom m) (Axiom n) q r lg lg' im in' nq nr e =
    let s = same_numbers (axiom_numbers g m) (axiom_numbers g' n) q r refl (small_axiom g m lg im) (small_axiom g' n lg' in') nq nr (ap (drop 1) e) in
    record { group = same_at 0 (axiom_numbers g m) (axiom_numbers g' n) s.0; how = ap Axiom (same_name g g' m n s.0); rest = s.1 }
same_how g g' (Resolve a b) (Resolve c d) q r lg lg' im in' nq nr e =
    let s = same_numbers (three g a b) (three g' c d) q r refl (small_three g a b lg im.0 im.1) (small_three g' c d lg' in'.0 in'.1) nq nr (ap (drop 1) e) in
    let first : a ≡ c = same_at 1 (three g a b) (three g' c d) s.0 in
    let second : b ≡ d = same_at 2 (three g a b) (three g' c d) s.0 in
    record { group = same_at 0 (three g a b) (three g' c d) s.0; how = ap (λ x. Resolve x b) first ∙ ap (λ x. Resolve c x) second; rest = s.1 }
same_how g g' (Inst a b) (Inst c d) q r lg lg' im in' nq nr e =
    let s = same_numbers (three g a b) (three g' c d) q r refl (small_three g a b lg im.0 im.1) (small_three g' c d lg' in'.0 in'.1) nq nr (ap (drop 1) e) in
    let first : a ≡ c = same_at 1 (three g a b) (three g' c d) s.0 in
    let second : b ≡ d = same_at 2 (three g a b) (three g' c d) s.0 in
    record { group = same_at 0 (three g a b) (three g' c d) s.0; how = ap (λ x. Inst x b) first ∙ ap (λ x. Inst c x) second; rest = s.1 }
same_how g g' (Axiom m) (Resolve c d) q r lg lg' im in' nq nr e = absurd (different 97 114 refl (ap first_of e))
same_how g g' (Axiom m) (Inst c d) q r lg lg' im in' nq nr e = absurd (different 97 105 refl (ap first_of e))
same_how g g' (Resolve a b) (Axiom n) q r lg lg' im in' nq nr e = absurd (different 114 97 refl (ap first_of e))
same_how g g' (Resolve a b) (Inst c d) q r lg lg' im in' nq nr e = absurd (different 114 105 refl (ap first_of e))
same_how g g' (Inst a b) (Axiom n) q r lg lg' im in' nq nr e = absurd (different 105 97 refl (ap first_of e))
same_how g g' (Inst a b) (Resolve c d) q r lg lg' im in' nq nr e = absurd (different 105 114 refl (ap first_of e))

-- where the numbers of a line's letter are missing
pub no_axiom : (bs : List ℕ) → NoNumbers 8 bs → NoHow (97 ∷ bs)
no_axiom bs none g (Axiom n) more lg is ends e = none (axiom_numbers g n) more refl (small_axiom g n lg is) ends (ap (drop 1) e)
no_axiom bs none g (Resolve a b) more lg is ends e = absurd (different 97 114 refl (ap first_of e))
no_axiom bs none g (Inst a b) more lg is ends e = absurd (different 97 105 refl (ap first_of e))

pub no_resolve : (bs : List ℕ) → NoNumbers 3 bs → NoHow (114 ∷ bs)
no_resolve bs none g (Axiom n) more lg is ends e = absurd (different 114 97 refl (ap first_of e))
no_resolve bs none g (Resolve a b) more lg is ends e = none (three g a b) more refl (small_three g a b lg is.0 is.1) ends (ap (drop 1) e)
no_resolve bs none g (Inst a b) more lg is ends e = absurd (different 114 105 refl (ap first_of e))

pub no_inst : (bs : List ℕ) → NoNumbers 3 bs → NoHow (105 ∷ bs)
no_inst bs none g (Axiom n) more lg is ends e = absurd (different 105 97 refl (ap first_of e))
no_inst bs none g (Resolve a b) more lg is ends e = absurd (different 105 114 refl (ap first_of e))
no_inst bs none g (Inst a b) more lg is ends e = none (three g a b) more refl (small_three g a b lg is.0 is.1) ends (ap (drop 1) e)

pub no_letter : (b : ℕ) (bs : List ℕ) → (b ≡ 97 → ⊥) → (b ≡ 114 → ⊥) → (b ≡ 105 → ⊥) → NoHow (b ∷ bs)
no_letter b bs x y z g (Axiom n) more lg is ends e = x (ap first_of e)
no_letter b bs x y z g (Resolve c d) more lg is ends e = y (ap first_of e)
no_letter b bs x y z g (Inst c d) more lg is ends e = z (ap first_of e)

pub no_bytes : NoHow []
no_bytes g (Axiom n) more lg is ends e = cc
no_bytes g (Resolve c d) more lg is ends e = cc
no_bytes g (Inst c d) more lg is ends e = cc

-- a rule or an edge that is too large
axiom_is : (bs ns rest : List ℕ) → AreNumbers bs ns rest → length ns ≡ 8 → (g : ℕ) (n : ConstraintName) (more : List ℕ) → g < 2 ^ 32 → IsName n → NoDigit more → 97 ∷ bs ≡ 97 ∷ numbers_text (axiom_numbers g n) ++ more → ns ≡ axiom_numbers g n
axiom_is bs ns rest are long g n more lg is ends e =
    (same_numbers ns (axiom_numbers g n) rest more long are.small (small_axiom g n lg is) (are.ends (omega arith)) ends (sym are.text ∙ ap (drop 1) e)).0

pub wide_rule : (bs ns rest : List ℕ) → AreNumbers bs ns rest → length ns ≡ 8 → 2 ^ 8 ≤ at 1 ns → NoHow (97 ∷ bs)
wide_rule bs ns rest are long wide g (Resolve a b) more lg is ends e = absurd (different 97 114 refl (ap first_of e))
wide_rule bs ns rest are long wide g (Inst a b) more lg is ends e = absurd (different 97 105 refl (ap first_of e))
wide_rule bs ns rest are long wide g (Axiom n) more lg is ends e =
    let rule : at 1 ns ≡ n.rule = same_at 1 ns (axiom_numbers g n) (axiom_is bs ns rest are long g n more lg is ends e) in absurd (omega (arith, is.rule))

pub wide_edge : (bs ns rest : List ℕ) → AreNumbers bs ns rest → length ns ≡ 8 → 2 ^ 8 ≤ at 4 ns → NoHow (97 ∷ bs)
wide_edge bs ns rest are long wide g (Resolve a b) more lg is ends e = absurd (different 97 114 refl (ap first_of e))
wide_edge bs ns rest are long wide g (Inst a b) more lg is ends e = absurd (different 97 105 refl (ap first_of e))
wide_edge bs ns rest are long wide g (Axiom n) more lg is ends e =
    let edge : at 4 ns ≡ n.edge = same_at 4 ns (axiom_numbers g n) (axiom_is bs ns rest are long g n more lg is ends e) in absurd (omega (arith, is.edge))

-- numbers as they stand on a line
eight_are : (ns : List ℕ) → length ns ≡ 8 → ns ≡ axiom_numbers (at 0 ns) (name_of ns)
eight_are [] long = absurd (omega arith)
eight_are (a ∷ []) long = absurd (omega arith)
eight_are (a ∷ b ∷ []) long = absurd (omega arith)
eight_are (a ∷ b ∷ c ∷ []) long = absurd (omega arith)
eight_are (a ∷ b ∷ c ∷ d ∷ []) long = absurd (omega arith)
eight_are (a ∷ b ∷ c ∷ d ∷ e ∷ []) long = absurd (omega arith)
eight_are (a ∷ b ∷ c ∷ d ∷ e ∷ f ∷ []) long = absurd (omega arith)
eight_are (a ∷ b ∷ c ∷ d ∷ e ∷ f ∷ g ∷ []) long = absurd (omega arith)
eight_are (a ∷ b ∷ c ∷ d ∷ e ∷ f ∷ g ∷ h ∷ []) long = refl
eight_are (a ∷ b ∷ c ∷ d ∷ e ∷ f ∷ g ∷ h ∷ i ∷ ns) long = absurd (omega arith)

three_are : (ns : List ℕ) → length ns ≡ 3 → ns ≡ three (at 0 ns) (at 1 ns) (at 2 ns)
three_are [] long = absurd (omega arith)
three_are (a ∷ []) long = absurd (omega arith)
three_are (a ∷ b ∷ []) long = absurd (omega arith)
three_are (a ∷ b ∷ c ∷ []) long = refl
three_are (a ∷ b ∷ c ∷ d ∷ ns) long = absurd (omega arith)

small_at : (ns : List ℕ) (n k : ℕ) → All (λ m. m < 2 ^ 32) ns → length ns ≡ n → k < n → at k ns < 2 ^ 32
small_at ns n k small long low = small k 0 (omega arith)

pub axiom_front : (bs ns rest : List ℕ) → AreNumbers bs ns rest → length ns ≡ 8 → at 1 ns < 2 ^ 8 → at 4 ns < 2 ^ 8 → IsHowFront (97 ∷ bs) (at 0 ns) (Axiom (name_of ns)) rest
axiom_front bs ns rest are long rule edge =
    let s : (k : ℕ) → k < 8 → at k ns < 2 ^ 32 = λ k low. small_at ns 8 k are.small long low in
    record {
      text = ap (λ (w : List ℕ). 97 ∷ w) are.text ∙ ap (λ (w : List ℕ). 97 ∷ numbers_text w ++ rest) (eight_are ns long);
      small = s 0 (omega arith);
      is = record { proc = s 2 (omega arith); place = s 3 (omega arith); edge = edge; rule = rule; slot = s 5 (omega arith); field = s 6 (omega arith); other = s 7 (omega arith) };
      ends = are.ends (omega arith);
    }

pub resolve_front : (bs ns rest : List ℕ) → AreNumbers bs ns rest → length ns ≡ 3 → IsHowFront (114 ∷ bs) (at 0 ns) (Resolve (at 1 ns) (at 2 ns)) rest
resolve_front bs ns rest are long = record {
  text = ap (λ (w : List ℕ). 114 ∷ w) are.text ∙ ap (λ (w : List ℕ). 114 ∷ numbers_text w ++ rest) (three_are ns long);
  small = small_at ns 3 0 are.small long (omega arith);
  is = (small_at ns 3 1 are.small long (omega arith), small_at ns 3 2 are.small long (omega arith));
  ends = are.ends (omega arith);
}

pub inst_front : (bs ns rest : List ℕ) → AreNumbers bs ns rest → length ns ≡ 3 → IsHowFront (105 ∷ bs) (at 0 ns) (Inst (at 1 ns) (at 2 ns)) rest
inst_front bs ns rest are long = record {
  text = ap (λ (w : List ℕ). 105 ∷ w) are.text ∙ ap (λ (w : List ℕ). 105 ∷ numbers_text w ++ rest) (three_are ns long);
  small = small_at ns 3 0 are.small long (omega arith);
  is = (small_at ns 3 1 are.small long (omega arith), small_at ns 3 2 are.small long (omega arith));
  ends = are.ends (omega arith);
}

-- a line after its front
after_how : (l : Line) (more : List ℕ) → line_text l ++ 10 ∷ more ≡ how_text l.group l.how ++ (32 ∷ 58 ∷ (clause_text l.lits ++ 10 ∷ more))
after_how l more =
    append_assoc (how_text l.group l.how ++ codes " :") (clause_text l.lits) (10 ∷ more)
    ∙ append_assoc (how_text l.group l.how) (codes " :") (clause_text l.lits ++ 10 ∷ more)

pub no_front : (bs : List ℕ) → NoHow bs → NoLine bs
no_front bs none l more is e = none l.group l.how (32 ∷ 58 ∷ (clause_text l.lits ++ 10 ∷ more)) is.group is.how refl (e ∙ after_how l more)

same_front : (bs : List ℕ) (g : ℕ) (h : How) (rest : List ℕ) → IsHowFront bs g h rest → (l : Line) (more : List ℕ) → IsLine l → bs ≡ line_text l ++ 10 ∷ more → SameHow g l.group h l.how rest (32 ∷ 58 ∷ (clause_text l.lits ++ 10 ∷ more))
same_front bs g h rest front l more is e =
    same_how g l.group h l.how rest _ front.small is.group front.is is.how front.ends refl (sym front.text ∙ e ∙ after_how l more)

pub no_colon : (bs : List ℕ) (g : ℕ) (h : How) (rest : List ℕ) → IsHowFront bs g h rest → ((more : List ℕ) → rest ≡ 32 ∷ 58 ∷ more → ⊥) → NoLine bs
no_colon bs g h rest front none l more is e = none _ (same_front bs g h rest front l more is e).rest

pub no_clause : (bs : List ℕ) (g : ℕ) (h : How) (rest after : List ℕ) → IsHowFront bs g h rest → rest ≡ 32 ∷ 58 ∷ after → NoClause after → NoLine bs
no_clause bs g h rest after front colon none l more is e =
    none l.lits more is.lits (ap (drop 2) (sym colon ∙ (same_front bs g h rest front l more is e).rest))

abbrev pub line_at : ℕ → How → List Literal → Line
line_at g h c = record { group = g; how = h; lits = c }

pub whole_line : (bs : List ℕ) (g : ℕ) (h : How) (rest after : List ℕ) (c : List Literal) (end : List ℕ) → IsHowFront bs g h rest → rest ≡ 32 ∷ 58 ∷ after → IsClauseLine after c end
    → IsLineFront bs (record { group = g; how = h; lits = c }) end
whole_line bs g h rest after c end front colon clause = record {
  text = front.text ∙ ap (λ (w : List ℕ). how_text g h ++ w) (colon ∙ ap (λ (w : List ℕ). 32 ∷ 58 ∷ w) clause.text) ∙ sym (after_how (record { group = g; how = h; lits = c }) end);
  is = record { group = front.small; how = front.is; lits = clause.is };
}

pub same_line : (l m : Line) → IsLine l → IsLine m → line_text l ≡ line_text m → l ≡ m
same_line l m il im e =
    let front : IsHowFront (line_text l ++ 10 ∷ []) l.group l.how (32 ∷ 58 ∷ (clause_text l.lits ++ 10 ∷ [])) =
    record { text = after_how l []; small = il.group; is = il.how; ends = refl } in
    let s = same_front (line_text l ++ 10 ∷ []) l.group l.how _ front m [] im (ap (λ (w : List ℕ). w ++ 10 ∷ []) e) in
    let c : l.lits ≡ m.lits = (same_clause l.lits m.lits [] [] il.lits im.lits (ap (drop 2) s.rest)).0 in
    let g : l.group ≡ m.group = s.group in
    let h : l.how ≡ m.how = s.how in
    ap (λ w. line_at w l.how l.lits) g ∙ ap (λ w. line_at m.group w l.lits) h ∙ ap (λ w. line_at m.group m.how w) c
