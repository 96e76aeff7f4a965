-- The empty lines, and what all lines cost.
use Rattle.std.proofs.Common.{◌≡◌, ◌≢◌, ℕ, zero, suc, ◌+◌, ◌<◌, ◌≤◌, inl, inr, Bool, true, false, cond, List, [], ◌∷◌, ◌++◌, length, get_or, Option, Some, None, slice_get, refl, sym, ap, subst, ◌∙◌, arith, eq-eqb}
use Rattle.std.specs.Prelude.{nat_eq}
use Rattle.std.proofs.lemmas.Option.{slice_get_within}
use Rattle.std.proofs.lemmas.List.Elements.{All-nil}
use Rattle.zo_core.specs.Literals.{Literal, opposite}
use Rattle.zo_core.specs.Equality.{literal_eq-itself}
use Rattle.zo_core.specs.Order.{gathered}
use Rattle.zo_core.specs.Resolvents.{without, IsResolvent}
use Rattle.conflict_proof.specs.declared.names.ConstraintName.{ConstraintName}
use Rattle.conflict_proof.specs.declared.derivation.How.TheVariants.{Resolve, Inst}
use Rattle.conflict_proof.specs.declared.derivation.Line.{Line}
use Rattle.verdict_meaning.specs.declared.callee.Callee.{Callee}
use Rattle.verdict_meaning.specs.Systems.{System, root, count, callee, callees, firsts, nobody}
use Rattle.verdict_meaning.specs.Derivations.{line_at, IsClauseOf, IsRightLine, IsValidIn, NoClauseTwice, at_site, carried}
use Rattle.unit_refutation.specs.declared.writing.Writer.{Writer}
use Rattle.unit_refutation.specs.declared.steps.Step.{Step}
use Rattle.unit_refutation.specs.Lines.{line_of, IsLineOf, IsWithin, Puts, IsSpelled, IsOver, IsWhole}
use Rattle.unit_refutation.proofs.ListLemmas.{get_push_cases}
use Rattle.unit_refutation.proofs.LineLemmas.{valid_push, once_push, puts_line, puts_within}
use Rattle.unit_refutation.proofs.SpellLemmas.{put_over}

-- Two opposite literals

number_earlier : (lines : List Line) (n : ℕ) (line : Line) → line_at lines n ≡ Some line → n < length lines + 1
number_earlier lines zero line e = omega arith
number_earlier lines (suc n) line e = let lt : n < length lines = slice_get_within lines n line e in omega (arith, lt)

without_alone : (l : Literal) → without l (l ∷ []) ≡ []
without_alone l = rw (literal_eq-itself l) refl

resolvent_empty : (l : Literal) → IsResolvent (l ∷ []) (opposite l ∷ []) []
resolvent_empty l = (
  l,
  (
    (0, omega arith, refl),
    (0, omega arith, refl),
    ap (λ (c : List Literal). gathered (c ++ without (opposite l) (opposite l ∷ []))) (without_alone l) ∙ ap gathered (without_alone (opposite l)),
  ),
)

no_clause : (s : System) (group : ℕ) → IsClauseOf s group []
no_clause s group = (tt, All-nil (λ (l : Literal). l.var ≤ count s group))

empty_right : (s : System) (U : ConstraintName → Bool) (lines : List Line) (group i j : ℕ) (l : Literal) → group ≤ root s → IsLineOf lines i group (l ∷ []) → IsLineOf lines j group (opposite l ∷ [])
    → IsRightLine s U lines (length lines + 1) (line_of group (Resolve i j) [])
empty_right s U lines group i j l le a b = record {
  group = le;
  clause = no_clause s group;
  right = record {
    first = a.line;
    second = b.line;
    first_at = a.there;
    second_at = b.there;
    first_earlier = number_earlier lines i a.line a.there;
    second_earlier = number_earlier lines j b.line b.there;
    first_group = a.is_group;
    second_group = b.is_group;
    resolvent =
        subst (λ (x : List Literal). IsResolvent x b.line.lits []) (sym a.is_lits)
        (subst (λ (x : List Literal). IsResolvent (l ∷ []) x []) (sym b.is_lits) (resolvent_empty l));
  };
}

-- no line of a literal is empty
none_empty : (s : System) (U : ConstraintName → Bool) (trail : List Step) (end : ℕ) (lines : List Line) → IsSpelled s U trail end lines → (k : ℕ) (m : Line) → slice_get lines k ≡ Some m → m.lits ≡ [] → ⊥
none_empty s U trail end lines h k m at e =
    let has = (h.each k m at).is.holds in
    let size = ap length e in
    let lt = has.1 in
    omega (arith, size, lt)

pub empty_valid : (s : System) (U : ConstraintName → Bool) (trail : List Step) (end : ℕ) (old new : Writer) (group i j : ℕ) (l : Literal) (n : Option ℕ)
    → IsSpelled s U trail end old.lines.items → group ≤ root s → IsLineOf old.lines.items i group (l ∷ []) → IsLineOf old.lines.items j group (opposite l ∷ []) → Puts group (Resolve i j) [] old new n
    → IsValidIn s U new.lines.items × NoClauseTwice new.lines.items
empty_valid s U trail end old new group i j l n h le a b p = (
  subst (λ (ls : List Line). IsValidIn s U ls) (sym p.lines) (valid_push s U old.lines.items (line_of group (Resolve i j) []) h.valid (empty_right s U old.lines.items group i j l le a b)),
  subst (λ (ls : List Line). NoClauseTwice ls) (sym p.lines)
      (once_push old.lines.items (line_of group (Resolve i j) []) h.once (λ k m at g e. none_empty s U trail end old.lines.items h k m at e)),
)

pub empty_over : (s : System) (U : ConstraintName → Bool) (trail : List Step) (end : ℕ) (old new : Writer) (group i j : ℕ) (l : Literal)
    → IsSpelled s U trail end old.lines.items → group ≤ root s → IsLineOf old.lines.items i group (l ∷ []) → IsLineOf old.lines.items j group (opposite l ∷ []) → IsWithin old
    → Puts group (Resolve i j) [] old new None → IsOver s U new
empty_over s U trail end old new group i j l h le a b w p =
    let v = empty_valid s U trail end old new group i j l None h le a b p in
    put_over s U group (Resolve i j) [] old new w p v.0 v.1

-- where the contradiction is in the root
pub whole_there : (s : System) (U : ConstraintName → Bool) (trail : List Step) (end : ℕ) (old new : Writer) (group i j k : ℕ) (l : Literal)
    → IsSpelled s U trail end old.lines.items → group ≤ root s → IsLineOf old.lines.items i group (l ∷ []) → IsLineOf old.lines.items j group (opposite l ∷ []) → IsWithin old
    → Puts group (Resolve i j) [] old new (Some k) → group ≡ root s → IsWhole s U new
whole_there s U trail end old new group i j k l h le a b w p e =
    let v = empty_valid s U trail end old new group i j l (Some k) h le a b p in
    record {
      valid = v.0;
      once = v.1;
      refutes = record { before = old.lines.items; last = line_of group (Resolve i j) []; is = p.lines; group = e; empty = refl };
      within = puts_within group (Resolve i j) [] old new k w p;
    }

-- The root's empty line

at_root : (s : System) → callees s (root s) ≡ firsts 0 s.groups
at_root s = pick (nat_eq (root s) (root s)) (eq-eqb (root s) (root s) refl)
  where
    pick : (b : Bool) → b ≡ true → cond b (firsts 0 s.groups) (s.sites (root s)) ≡ firsts 0 s.groups
    pick true e = refl
    pick false e = cc

length-firsts : (g : ℕ) (gs : List (List ℕ)) → length (firsts g gs) ≡ length gs
length-firsts g [] = refl
length-firsts g (ms ∷ gs) = ap suc (length-firsts (suc g) gs)

group-firsts : (g : ℕ) (gs : List (List ℕ)) (k : ℕ) → k < length gs → (get_or (firsts g gs) k nobody).group ≡ g + k
group-firsts g [] k lt = absurd (omega arith)
group-firsts g (ms ∷ gs) zero lt = omega arith
group-firsts g (ms ∷ gs) (suc k) lt = let rest = group-firsts (suc g) gs k (omega arith) in omega (arith, rest)

root_site : (s : System) (k : ℕ) → k < root s → (k < length (callees s (root s))) × ((callee s (root s) k).group ≡ k)
root_site s k lt =
    let size = ap length (at_root s) ∙ length-firsts 0 s.groups in
    (omega (arith, size, lt), ap (λ (cs : List Callee). (get_or cs k nobody).group) (at_root s) ∙ group-firsts 0 s.groups k lt ∙ (let e : 0 + k ≡ k = omega arith in e))

root_right : (s : System) (U : ConstraintName → Bool) (lines : List Line) (group i : ℕ) → group < root s → IsLineOf lines i group [] → IsRightLine s U lines (length lines + 1) (line_of (root s) (Inst i group) [])
root_right s U lines group i lt a =
    let site = root_site s group lt in
    record {
      group = omega arith;
      clause = no_clause s (root s);
      right = record {
        site_there = site.0;
        line = a.line;
        there = a.there;
        earlier = number_earlier lines i a.line a.there;
        group = a.is_group ∙ sym site.1;
        lits = [];
        is_carried = ap (λ (c : List Literal). carried (at_site s (root s) group) c) a.is_lits;
        in_order = refl;
      };
    }

pub root_valid : (s : System) (U : ConstraintName → Bool) (trail : List Step) (end : ℕ) (old mid new : Writer) (group i j k : ℕ) (l : Literal) (n : Option ℕ)
    → IsSpelled s U trail end old.lines.items → group ≤ root s → IsLineOf old.lines.items i group (l ∷ []) → IsLineOf old.lines.items j group (opposite l ∷ [])
    → Puts group (Resolve i j) [] old mid (Some k) → group ≢ root s → Puts (root s) (Inst k group) [] mid new n
    → IsValidIn s U new.lines.items × NoClauseTwice new.lines.items
root_valid s U trail end old mid new group i j k l n h le a b p ne q =
    let v = empty_valid s U trail end old mid group i j l (Some k) h le a b p in (
      subst (λ (ls : List Line). IsValidIn s U ls) (sym q.lines)
          (valid_push s U mid.lines.items (line_of (root s) (Inst k group) []) v.0
          (root_right s U mid.lines.items group k (omega (arith, le, ne)) (puts_line group (Resolve i j) [] old mid k p))),
      subst (λ (ls : List Line). NoClauseTwice ls) (sym q.lines)
          (once_push mid.lines.items (line_of (root s) (Inst k group) []) v.1
          (λ n m at g e. elim (get_push_cases old.lines.items (line_of group (Resolve i j) []) n m (ap (λ (ls : List Line). slice_get ls n) (sym p.lines) ∙ at)) [
            | inl o ↦ none_empty s U trail end old.lines.items h n m o e
            | inr o ↦ ne (ap (λ (x : Line). x.group) o.1 ∙ g)
          ])),
    )

pub root_over : (s : System) (U : ConstraintName → Bool) (trail : List Step) (end : ℕ) (old mid new : Writer) (group i j k : ℕ) (l : Literal)
    → IsSpelled s U trail end old.lines.items → group ≤ root s → IsLineOf old.lines.items i group (l ∷ []) → IsLineOf old.lines.items j group (opposite l ∷ []) → IsWithin old
    → Puts group (Resolve i j) [] old mid (Some k) → group ≢ root s → Puts (root s) (Inst k group) [] mid new None → IsOver s U new
root_over s U trail end old mid new group i j k l h le a b w p ne q =
    let v = root_valid s U trail end old mid new group i j k l None h le a b p ne q in
    put_over s U (root s) (Inst k group) [] mid new (puts_within group (Resolve i j) [] old mid k w p) q v.0 v.1

pub whole_carried : (s : System) (U : ConstraintName → Bool) (trail : List Step) (end : ℕ) (old mid new : Writer) (group i j k n : ℕ) (l : Literal)
    → IsSpelled s U trail end old.lines.items → group ≤ root s → IsLineOf old.lines.items i group (l ∷ []) → IsLineOf old.lines.items j group (opposite l ∷ []) → IsWithin old
    → Puts group (Resolve i j) [] old mid (Some k) → group ≢ root s → Puts (root s) (Inst k group) [] mid new (Some n) → IsWhole s U new
whole_carried s U trail end old mid new group i j k n l h le a b w p ne q =
    let v = root_valid s U trail end old mid new group i j k l (Some n) h le a b p ne q in
    record {
      valid = v.0;
      once = v.1;
      refutes = record { before = mid.lines.items; last = line_of (root s) (Inst k group) []; is = q.lines; group = refl; empty = refl };
      within = puts_within (root s) (Inst k group) [] mid new n (puts_within group (Resolve i j) [] old mid k w p) q;
    }
