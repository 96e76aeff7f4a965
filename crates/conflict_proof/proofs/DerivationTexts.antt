-- Derivations' texts as texts that are read line by line.
use Rattle.std.proofs.Common.{◌≡◌, ℕ, suc, ◌+◌, ◌<◌, ◌^◌, ◌==◌, if◌then◌else◌, Bool, true, false, List, [], ◌∷◌, ◌++◌, length, map, get_or, refl, sym, ap, subst, ◌∙◌, append_assoc, codes, decimal, Option, Some, None, arith}
use Rattle.std.proofs.lemmas.Bool.{eqb-true, eq-eqb}
use Rattle.std.proofs.lemmas.List.{length-map, length-append, map_push, append-nil, append_cancel_left}
use Rattle.std.proofs.lemmas.List.Elements.{All-push, All-nil}
use Rattle.std.specs.List.{All, AllByRecursion}
use Rattle.line_texts.specs.Lines.{line_feeds}
use Rattle.line_texts.specs.Texts.{Kind, walk, AreBegun, IsReadable}
use Rattle.line_texts.proofs.Reading.{led}
use Rattle.conflict_proof.specs.declared.derivation.How.{How}
use Rattle.conflict_proof.specs.declared.derivation.How.TheVariants.{Axiom, Resolve, Inst}
use Rattle.conflict_proof.specs.declared.derivation.Line.{Line}
use Rattle.conflict_proof.specs.declared.derivation.Derivation.{Derivation}
use Rattle.conflict_proof.specs.Text.{how_text, clause_text, line_text, end_text}
use Rattle.conflict_proof.specs.Values.{IsLine, IsDerivation}
use Rattle.conflict_proof.proofs.Digits.{different, same_number}
use Rattle.conflict_proof.proofs.LineLemmas.{same_line}
use Rattle.conflict_proof.proofs.FeedLemmas.{line_lone, end_lone}

-- what a line of a text says, and where reading stands
pub data Said : Type 0 where
  Header : Said
  Of : Line → Said
  End : ℕ → Said

pub data State : Type 0 where
  Start : State
  At : List Line → State
  Done : List Line → State

abbrev pub said_text : Said → List ℕ
said_text Header = codes "clouseau derivation 1"
said_text (Of l) = line_text l
said_text (End n) = end_text n

abbrev pub IsSaid : Said → Type 0
IsSaid Header = Unit {0}
IsSaid (Of l) = IsLine l
IsSaid (End n) = n < 2 ^ 64

abbrev pub next : State → Said → Option State
next Start Header = Some (At [])
next (At ls) (Of l) = Some (At (ls ++ l ∷ []))
next (At ls) (End n) = if n == length ls then Some (Done ls) else None
next s t = None

abbrev pub all_said : List Line → List Said
all_said ls = Header ∷ (map Of ls ++ End (length ls) ∷ [])

abbrev pub derivations : Kind
derivations = record {
  Line = Said;
  State = State;
  Value = Derivation;
  line_text = said_text;
  IsLine = IsSaid;
  start = Start;
  next = next;
  done = λ d. Done d.lines;
  IsValue = IsDerivation;
  AreLinesOf = λ d ts. ts ≡ all_said d.lines;
}

-- how a line begins
how_first : (b : ℕ) → (97 ≡ b → ⊥) → (114 ≡ b → ⊥) → (105 ≡ b → ⊥) → (g : ℕ) (h : How) (more w : List ℕ) → how_text g h ++ more ≡ b ∷ w → ⊥
how_first b na nr ni g (Axiom n) more w e = na (ap (λ (v : List ℕ). get_or v 0 0) e)
how_first b na nr ni g (Resolve x y) more w e = nr (ap (λ (v : List ℕ). get_or v 0 0) e)
how_first b na nr ni g (Inst x y) more w e = ni (ap (λ (v : List ℕ). get_or v 0 0) e)

line_first : (b : ℕ) → (97 ≡ b → ⊥) → (114 ≡ b → ⊥) → (105 ≡ b → ⊥) → (l : Line) (w : List ℕ) → line_text l ≡ b ∷ w → ⊥
line_first b na nr ni l w e =
    how_first b na nr ni l.group l.how (codes " :" ++ clause_text l.lits) w (sym (append_assoc (how_text l.group l.how) (codes " :") (clause_text l.lits)) ∙ e)

no_header : (l : Line) → line_text l ≡ codes "clouseau derivation 1" → ⊥
no_header l e = line_first 99 (different 97 99 refl) (different 114 99 refl) (different 105 99 refl) l (codes "louseau derivation 1") e

pub no_end_line : (l : Line) (n : ℕ) → line_text l ≡ end_text n → ⊥
no_end_line l n e = line_first 101 (different 97 101 refl) (different 114 101 refl) (different 105 101 refl) l (codes "nd " ++ decimal n) e

one_said : (s t : Said) → IsSaid s → IsSaid t → said_text s ≡ said_text t → s ≡ t
one_said Header Header is it e = refl
one_said Header (Of l) is it e = absurd (no_header l (sym e))
one_said Header (End n) is it e = absurd (different 99 101 refl (ap (λ (v : List ℕ). get_or v 0 0) e))
one_said (Of l) Header is it e = absurd (no_header l e)
one_said (Of l) (Of m) is it e = ap Of (same_line l m is it e)
one_said (Of l) (End n) is it e = absurd (no_end_line l n e)
one_said (End n) Header is it e = absurd (different 101 99 refl (ap (λ (v : List ℕ). get_or v 0 0) e))
one_said (End n) (Of l) is it e = absurd (no_end_line l n (sym e))
one_said (End m) (End n) is it e =
    let same : decimal m ≡ decimal n = append_cancel_left (codes "end ") (decimal m) (decimal n) e in
    ap End (same_number m n [] [] is it refl refl (append-nil (decimal m) ∙ same ∙ sym (append-nil (decimal n)))).0

said_lone : (t : Said) → IsSaid t → line_feeds (said_text t) ≡ 0
said_lone Header is = refl
said_lone (Of l) is = line_lone l is
said_lone (End n) is = end_lone n is

all_are : (ls : List Line) (n : ℕ) → All IsLine ls → n < 2 ^ 64 → AllByRecursion IsSaid (map Of ls ++ End n ∷ [])
all_are [] n each small = (small, tt)
all_are (l ∷ ls) n each small = (each 0 l (omega arith), all_are ls n (λ j d h. each (suc j) d (omega arith)) small)

pub lines_are : (ls : List Line) → All IsLine ls → AllByRecursion IsSaid (Header ∷ map Of ls)
lines_are ls each = (tt, rest ls each)
  where
    rest : (ls : List Line) → All IsLine ls → AllByRecursion IsSaid (map Of ls)
    rest [] each = tt
    rest (l ∷ ls) each = (each 0 l (omega arith), rest ls (λ j d h. each (suc j) d (omega arith)))

-- where the lines of a text lead
walk_lines : (before ls : List Line) → walk derivations (Some (At before)) (map Of ls) ≡ Some (At (before ++ ls))
walk_lines before [] = ap (λ w. Some (At w)) (sym (append-nil before))
walk_lines before (l ∷ ls) = walk_lines (before ++ l ∷ []) ls ∙ ap (λ w. Some (At w)) (append_assoc before (l ∷ []) ls)

pub walk_at : (ls : List Line) → walk derivations (Some Start) (Header ∷ map Of ls) ≡ Some (At ls)
walk_at ls = walk_lines [] ls

walk_all : (before ls : List Line) (n : ℕ) → n ≡ length (before ++ ls) → walk derivations (Some (At before)) (map Of ls ++ End n ∷ []) ≡ Some (Done (before ++ ls))
walk_all before [] n e =
    let here : (n == length before) ≡ true = eq-eqb n (length before) (e ∙ ap length (append-nil before)) in
    rw here (ap (λ w. Some (Done w)) (sym (append-nil before)))
walk_all before (l ∷ ls) n e =
    let all : (before ++ l ∷ []) ++ ls ≡ before ++ l ∷ ls = append_assoc before (l ∷ []) ls in
    walk_all (before ++ l ∷ []) ls n (e ∙ ap length (sym all)) ∙ ap (λ w. Some (Done w)) all

-- lines that have led to a state
abbrev pub Reached : List Said → State → Type 0
Reached ts Start = ts ≡ []
Reached ts (At ls) = (ts ≡ Header ∷ map Of ls) × All IsLine ls
Reached ts (Done ls) = (ts ≡ all_said ls) × All IsLine ls

some_is : (P : State → Type 0) (s t : State) → P s → Some s ≡ Some t → P t
some_is P s t h e = let f : s ≡ t = same s t e in subst P f h
  where
    same : (x y : State) → Some x ≡ Some y → x ≡ y
    same x y e = cc

reaches : (ts : List Said) (t : Said) (s u : State) → IsSaid t → Reached ts s → next s t ≡ Some u → Reached (ts ++ t ∷ []) u
reaches ts Header Start u is h e = some_is (Reached (ts ++ Header ∷ [])) (At []) u (ap (λ w. w ++ Header ∷ []) h, All-nil IsLine) e
reaches ts (Of l) Start u is h e = absurd (cc)
reaches ts (End n) Start u is h e = absurd (cc)
reaches ts Header (At ls) u is h e = absurd (cc)
reaches ts (Of l) (At ls) u is h e =
    some_is (Reached (ts ++ Of l ∷ [])) (At (ls ++ l ∷ [])) u
    (ap (λ w. w ++ Of l ∷ []) h.0 ∙ ap (λ w. Header ∷ w) (sym (map_push Of ls l)), All-push IsLine ls l h.1 is) e
reaches ts (End n) (At ls) u is h e = by_test (n == length ls) refl
  where
    by_test : (b : Bool) → (n == length ls) ≡ b → Reached (ts ++ End n ∷ []) u
    by_test true f =
        let whole : Some (Done ls) ≡ Some u = sym (ap (λ b. if b then Some (Done ls) else None) f) ∙ e in
        some_is (Reached (ts ++ End n ∷ [])) (Done ls) u
        (ap (λ w. w ++ End n ∷ []) h.0 ∙ ap (λ k. Header ∷ (map Of ls ++ End k ∷ [])) (eqb-true n (length ls) f), h.1) whole
    by_test false f = let never : None ≡ Some u = sym (ap (λ b. if b then Some (Done ls) else None) f) ∙ e in absurd (cc)
reaches ts t (Done ls) u is h e = absurd (cc)

abbrev derivation_at : List Line → Derivation
derivation_at ls = record { lines = ls }

begun_by : (s : State) (ts : List Said) → Reached ts s → length ts + 1 < 2 ^ 64 → AreBegun derivations ts
begun_by Start ts h small = record {
  value = derivation_at [];
  is = record { count = omega arith; each = All-nil IsLine };
  others = all_said [];
  lines = ap (λ w. w ++ all_said []) h;
}
begun_by (At ls) ts h small = record {
  value = derivation_at ls;
  is = record { count = omega (arith, small, ap length h.0, length-map ls Of); each = h.1 };
  others = End (length ls) ∷ [];
  lines = ap (λ w. w ++ End (length ls) ∷ []) h.0;
}
begun_by (Done ls) ts h small = record {
  value = derivation_at ls;
  is = record { count = omega (arith, small, ap length h.0, length-map ls Of, length-append (map Of ls) (End (length ls) ∷ [])); each = h.1 };
  others = [];
  lines = append-nil ts ∙ h.0;
}

pub readable : IsReadable derivations
readable = record {
  lone = said_lone;
  one_line = one_said;
  one_value = λ d e same. ap derivation_at (held d e same);
  are_lines = λ d ts is of. subst (AllByRecursion IsSaid) (sym of) (tt, all_are d.lines (length d.lines) is.each is.count);
  leads = λ d ts of. ap (walk derivations (Some Start)) of ∙ walk_all [] d.lines (length d.lines) refl;
  begins = λ s ts are leads small. begun_by s ts (led derivations Reached reaches [] ts Start s refl are leads) small;
  whole = λ d ts are leads small.
      let h : Reached ts (Done d.lines) = led derivations Reached reaches [] ts Start (Done d.lines) refl are leads in
      (record { count = omega (arith, small, ap length h.0, length-map d.lines Of, length-append (map Of d.lines) (End (length d.lines) ∷ [])); each = h.1 }, h.0);
}
  where
    held : (d e : Derivation) → Done d.lines ≡ Done e.lines → d.lines ≡ e.lines
    held d e same = cc
