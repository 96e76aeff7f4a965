-- How derivations grow.
use Rattle.std.proofs.Common.{◌≡◌, ℕ, zero, suc, ◌+◌, ◌≤◌, inl, inr, Bool, List, [], ◌∷◌, ◌++◌, length, Option, Some, None, slice_get, refl, sym, ap, subst, ◌∙◌, arith, add-one}
use Rattle.std.specs.Prelude.{IfSome}
use Rattle.std.proofs.lemmas.List.Sums.{sum_by_push, sum_by-cons}
use Rattle.std.proofs.lemmas.List.{append_assoc, length_push, append-nil}
use Rattle.zo_core.specs.Literals.{Literal}
use Rattle.conflict_proof.specs.declared.names.ConstraintName.{ConstraintName}
use Rattle.conflict_proof.specs.declared.derivation.How.{How}
use Rattle.conflict_proof.specs.declared.derivation.How.TheVariants.{Axiom, Resolve, Inst}
use Rattle.conflict_proof.specs.declared.derivation.Line.{Line}
use Rattle.verdict_meaning.specs.Systems.{System}
use Rattle.verdict_meaning.specs.Derivations.{line_at, line_cost, IsRight, IsRightLine, IsValidIn, NoClauseTwice, cost_of}
use Rattle.unit_refutation.specs.declared.writing.Writer.{Writer}
use Rattle.unit_refutation.specs.Lines.{line_of, IsLineOf, IsWithin, Puts, Grows}
use Rattle.unit_refutation.proofs.ListLemmas.{get_kept, get_next, get_push_cases}

pub line_kept : (lines more : List Line) (n : ℕ) (line : Line) → line_at lines n ≡ Some line → line_at (lines ++ more) n ≡ Some line
line_kept lines more zero line e = cc
line_kept lines more (suc n) line e = get_kept lines more n line e

right_kept : (s : System) (U : ConstraintName → Bool) (lines more : List Line) (n g : ℕ) (how : How) (c : List Literal) → IsRight s U lines n g how c → IsRight s U (lines ++ more) n g how c
right_kept s U lines more n g (Axiom name) c h = h
right_kept s U lines more n g (Resolve i j) c h = record {
  first = h.first;
  second = h.second;
  first_at = line_kept lines more i h.first h.first_at;
  second_at = line_kept lines more j h.second h.second_at;
  first_earlier = h.first_earlier;
  second_earlier = h.second_earlier;
  first_group = h.first_group;
  second_group = h.second_group;
  resolvent = h.resolvent;
}
right_kept s U lines more n g (Inst i site) c h = record {
  site_there = h.site_there;
  line = h.line;
  there = line_kept lines more i h.line h.there;
  earlier = h.earlier;
  group = h.group;
  lits = h.lits;
  is_carried = h.is_carried;
  in_order = h.in_order;
}

pub valid_none : (s : System) (U : ConstraintName → Bool) → IsValidIn s U []
valid_none s U zero line e = cc
valid_none s U (suc n) line e = cc

-- a right line more
pub valid_push : (s : System) (U : ConstraintName → Bool) (lines : List Line) (line : Line) → IsValidIn s U lines → IsRightLine s U lines (length lines + 1) line → IsValidIn s U (lines ++ line ∷ [])
valid_push s U lines line all new zero l e = cc
valid_push s U lines line all new (suc n) l e = elim (get_push_cases lines line n l e) [
  | inl at ↦
      let old : IsRightLine s U lines (suc n) l = all (suc n) l at in
      record { group = old.group; clause = old.clause; right = right_kept s U lines (line ∷ []) (suc n) l.group l.how l.lits old.right }
  | inr at ↦
      let num : length lines + 1 ≡ suc n = let k = at.0 in omega (arith, k) in
      subst (λ (x : Line). IsRightLine s U (lines ++ line ∷ []) (suc n) x) at.1
      (subst (λ (k : ℕ). IsRightLine s U (lines ++ line ∷ []) k line) num
      (record { group = new.group; clause = new.clause; right = right_kept s U lines (line ∷ []) (length lines + 1) line.group line.how line.lits new.right }))
]

pub once_none : NoClauseTwice []
once_none n m x y at_n at_m g c = cc

-- a line more of a clause that has none in its group
pub once_push : (lines : List Line) (line : Line) → NoClauseTwice lines
    → ((k : ℕ) (m : Line) → slice_get lines k ≡ Some m → m.group ≡ line.group → m.lits ≡ line.lits → ⊥) → NoClauseTwice (lines ++ line ∷ [])
once_push lines line all new j k l m at_l at_m g c =
    elim (get_push_cases lines line j l at_l) [
      | inl a ↦ elim (get_push_cases lines line k m at_m) [
        | inl b ↦ all j k l m a b g c
        | inr b ↦ absurd (new j l a (g ∙ ap (λ (x : Line). x.group) (sym b.1)) (c ∙ ap (λ (x : Line). x.lits) (sym b.1)))
      ]
      | inr a ↦ elim (get_push_cases lines line k m at_m) [
        | inl b ↦ absurd (new k m b (sym g ∙ ap (λ (x : Line). x.group) (sym a.1)) (sym c ∙ ap (λ (x : Line). x.lits) (sym a.1)))
        | inr b ↦ a.0 ∙ sym b.0
      ]
    ]

pub cost_push : (lines : List Line) (line : Line) → cost_of (lines ++ line ∷ []) ≡ cost_of lines + (length line.lits + 1)
cost_push lines line = sum_by_push line_cost lines line

pub length_cost : (lines : List Line) → length lines ≤ cost_of lines
length_cost [] = omega arith
length_cost (l ∷ lines) = let rest = length_cost lines in omega (arith, sum_by-cons line_cost l lines, rest)

-- What was put

-- the cost after a line
pub puts_cost : (group : ℕ) (how : How) (lits : List Literal) (old new : Writer) (n : Option ℕ) → old.words ≡ cost_of old.lines.items → Puts group how lits old new n → new.words ≡ cost_of new.lines.items
puts_cost group how lits old new n e p =
    p.words ∙ ap (λ k. k + (length lits + 1)) e ∙ sym (cost_push old.lines.items (line_of group how lits)) ∙ ap cost_of (sym p.lines)

pub puts_grows : (group : ℕ) (how : How) (lits : List Literal) (old new : Writer) (n : Option ℕ) (most : ℕ) → length lits + 1 ≤ most → Puts group how lits old new n → Grows most old new
puts_grows group how lits old new n most le p = record { more = line_of group how lits ∷ []; lines = p.lines; words = let e = p.words in omega (arith, le, e); budget = p.budget }

pub grows_more : (x y : ℕ) (a b c : Writer) → Grows x a b → Grows y b c → Grows (x + y) a c
grows_more x y a b c f g = record {
  more = f.more ++ g.more;
  lines = g.lines ∙ ap (λ (ls : List Line). ls ++ g.more) f.lines ∙ append_assoc a.lines.items f.more g.more;
  words = let h = f.words in let k = g.words in omega (arith, h, k);
  budget = g.budget ∙ f.budget;
}

pub grows_later : (x y : ℕ) (a b : Writer) → x ≤ y → Grows x a b → Grows y a b
grows_later x y a b le f = record { more = f.more; lines = f.lines; words = let h = f.words in omega (arith, h, le); budget = f.budget }

pub grows_none : (most : ℕ) (a : Writer) → Grows most a a
grows_none most a = record { more = []; lines = sym (append-nil a.lines.items); words = omega arith; budget = refl }

pub line_of_kept : (x : ℕ) (a b : Writer) (n group : ℕ) (lits : List Literal) → Grows x a b → IsLineOf a.lines.items n group lits → IsLineOf b.lines.items n group lits
line_of_kept x a b n group lits f h =
    subst (λ (ls : List Line). IsLineOf ls n group lits) (sym f.lines)
    (record { line = h.line; there = line_kept a.lines.items f.more n h.line h.there; is_group = h.is_group; is_lits = h.is_lits })

-- the number that was answered is that of the new line
pub puts_line : (group : ℕ) (how : How) (lits : List Literal) (old new : Writer) (k : ℕ) → Puts group how lits old new (Some k) → IsLineOf new.lines.items k group lits
puts_line group how lits old new k p =
    let len : length new.lines.items ≡ suc (length old.lines.items) = ap length p.lines ∙ length_push old.lines.items (line_of group how lits) ∙ add-one (length old.lines.items) in
    let num : k ≡ suc (length old.lines.items) = p.answer.1 ∙ len in
    record {
      line = line_of group how lits;
      there = ap (line_at new.lines.items) num ∙ ap (λ (ls : List Line). slice_get ls (length old.lines.items)) p.lines ∙ get_next old.lines.items (line_of group how lits);
      is_group = refl;
      is_lits = refl;
    }

pub puts_within : (group : ℕ) (how : How) (lits : List Literal) (old new : Writer) (k : ℕ) → IsWithin old → Puts group how lits old new (Some k) → IsWithin new
puts_within group how lits old new k w p = record { cost = puts_cost group how lits old new (Some k) w.cost p; within = p.answer.0 }

pub put_within : (group : ℕ) (how : How) (lits : List Literal) (old new : Writer) (n : Option ℕ) → IsWithin old → Puts group how lits old new n → IfSome n (λ k. IsWithin new)
put_within group how lits old new None w p = tt
put_within group how lits old new (Some k) w p = puts_within group how lits old new k w p
