-- How a ledger grows by lines of one group.
use Rattle.std.proofs.Common.{◌≡◌, ℕ, zero, suc, ◌+◌, ◌<◌, ◌≤◌, ◌⊎◌, inl, inr, List, [], ◌∷◌, ◌++◌, length, Some, refl, sym, ap, subst, ◌∙◌, arith}
use Rattle.std.proofs.lemmas.List.{append_assoc, append-nil}
use Rattle.std.proofs.lemmas.List.Sums.{sum_by_push}
use Rattle.zo_core.specs.Literals.{Literal}
use Rattle.conflict_proof.specs.declared.derivation.How.{How}
use Rattle.conflict_proof.specs.declared.derivation.How.TheVariants.{Axiom, Resolve, Inst}
use Rattle.conflict_proof.specs.declared.derivation.Line.{Line}
use Rattle.transfer_rules.specs.Names.{NamedClause}
use Rattle.verdict_meaning.specs.Derivations.{line_at, line_cost, cost_of, NoClauseTwice}
use Rattle.call_search.specs.Ledgers.{IsNew}
use Rattle.call_search.specs.Indexes.{Ledger}
use Rattle.group_solver.specs.Copies.{IsOwnHow, IsOwnLine, IsLineOf, IsCopied}
use Rattle.group_solver.proofs.Lists.{get_kept, get_push_cases, numbered_within}

-- Lines by their numbers

pub line_kept : (lines more : List Line) (n : ℕ) (x : Line) → line_at lines n ≡ Some x → line_at (lines ++ more) n ≡ Some x
line_kept lines more zero x e = cc
line_kept lines more (suc k) x e = get_kept lines more k x e

pub line_within : (lines : List Line) (n : ℕ) (x : Line) → line_at lines n ≡ Some x → n ≤ length lines
line_within lines zero x e = cc
line_within lines (suc k) x e = let h = numbered_within lines (suc k) x e in h.1

pub line_cases : (lines : List Line) (y : Line) (n : ℕ) (x : Line) → line_at (lines ++ y ∷ []) n ≡ Some x → (line_at lines n ≡ Some x) ⊎ ((n ≡ suc (length lines)) × (y ≡ x))
line_cases lines y zero x e = cc
line_cases lines y (suc k) x e = elim (get_push_cases lines y k x e) [ inl h ↦ inl h | inr h ↦ inr (ap suc h.0, h.1) ]

pub line_of_kept : (lines more : List Line) (n g : ℕ) (c : List Literal) → IsLineOf lines n g c → IsLineOf (lines ++ more) n g c
line_of_kept lines more n g c h = record { line = h.line; there = line_kept lines more n h.line h.there; group = h.group; clause = h.clause }

-- Lines of a group's own

how_kept : (rows : List NamedClause) (lines more : List Line) (n g : ℕ) (how : How) (c : List Literal) → IsOwnHow rows lines n g how c → IsOwnHow rows (lines ++ more) n g how c
how_kept rows lines more n g (Axiom name) c h = h
how_kept rows lines more n g (Resolve i j) c h = record {
  first = h.first;
  second = h.second;
  first_at = line_kept lines more i h.first h.first_at;
  second_at = line_kept lines more j h.second h.second_at;
  first_earlier = h.first_earlier;
  second_earlier = h.second_earlier;
  first_group = h.first_group;
  second_group = h.second_group;
  resolvent = h.resolvent;
}
how_kept rows lines more n g (Inst i site) c h = h

pub own_kept : (rows : List NamedClause) (lines more : List Line) (n g vars : ℕ) (x : Line) → IsOwnLine rows lines n g vars x → IsOwnLine rows (lines ++ more) n g vars x
own_kept rows lines more n g vars x h = record { group = h.group; clause = h.clause; right = how_kept rows lines more n g x.how x.lits h.right }

-- a line more of a clause that has none in its group
once_push : (lines : List Line) (y : Line) → NoClauseTwice lines → IsNew lines y.group y.lits → NoClauseTwice (lines ++ y ∷ [])
once_push lines y all new j k l m at_l at_m g c =
    elim (get_push_cases lines y j l at_l) [
      | inl a ↦ elim (get_push_cases lines y k m at_m) [
        | inl b ↦ all j k l m a b g c
        | inr b ↦ absurd (new (suc j) l a (g ∙ ap (λ (x : Line). x.group) (sym b.1)) (c ∙ ap (λ (x : Line). x.lits) (sym b.1)))
      ]
      | inr a ↦ elim (get_push_cases lines y k m at_m) [
        | inl b ↦ absurd (new (suc k) m b (sym g ∙ ap (λ (x : Line). x.group) (sym a.1)) (sym c ∙ ap (λ (x : Line). x.lits) (sym a.1)))
        | inr b ↦ a.0 ∙ sym b.0
      ]
    ]

cost_push : (lines : List Line) (x : Line) → cost_of (lines ++ x ∷ []) ≡ cost_of lines + (length x.lits + 1)
cost_push lines x = sum_by_push line_cost lines x

-- nothing was added
pub copied_none : (rows : List NamedClause) (g vars : ℕ) (l : Ledger) → NoClauseTwice l.lines → IsCopied rows g vars l l
copied_none rows g vars l once = record {
  more = [];
  is = sym (append-nil l.lines);
  right = λ n x after at. absurd (let le = line_within l.lines n x at in omega arith);
  once = once;
  paid = refl;
}

-- a line was put behind the others
pub copied_push : (rows : List NamedClause) (g vars : ℕ) (old mid new : Ledger) (x : Line) → IsCopied rows g vars old mid → new.lines ≡ mid.lines ++ x ∷ []
    → IsOwnLine rows mid.lines (suc (length mid.lines)) g vars x → IsNew mid.lines x.group x.lits → new.words + (length x.lits + 1) ≡ mid.words → IsCopied rows g vars old new
copied_push rows g vars old mid new x h is own fresh words = record {
  more = h.more ++ x ∷ [];
  is = is ∙ ap (λ (ls : List Line). ls ++ x ∷ []) h.is ∙ append_assoc old.lines h.more (x ∷ []);
  right = λ n y after at. subst (λ (ls : List Line). IsOwnLine rows ls n g vars y) (sym is) (right n y after (subst (λ (ls : List Line). line_at ls n ≡ Some y) is at));
  once = subst NoClauseTwice (sym is) (once_push mid.lines x h.once fresh);
  paid =
      let before = h.paid in
      let cost = ap cost_of is in
      let more = cost_push mid.lines x in
      omega arith;
}
  where
    right : (n : ℕ) (y : Line) → length old.lines < n → line_at (mid.lines ++ x ∷ []) n ≡ Some y → IsOwnLine rows (mid.lines ++ x ∷ []) n g vars y
    right n y after at = elim (line_cases mid.lines x n y at) [
      | inl was ↦ own_kept rows mid.lines (x ∷ []) n g vars y (h.right n y after was)
      | inr e ↦
          subst (λ (z : Line). IsOwnLine rows (mid.lines ++ x ∷ []) n g vars z) e.1
          (subst (λ (m : ℕ). IsOwnLine rows (mid.lines ++ x ∷ []) m g vars x) (sym e.0) (own_kept rows mid.lines (x ∷ []) (suc (length mid.lines)) g vars x own))
    ]
