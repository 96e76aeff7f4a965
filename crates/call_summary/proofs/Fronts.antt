-- Derivations that begin with known lines.
use Rattle.std.proofs.Common.{◌≡◌, ◌≢◌, ℕ, zero, suc, ◌+◌, ◌<◌, ◌≤◌, ◌⊎◌, inl, inr, ⊎_elim, Bool, true, false, List, [], ◌∷◌, ◌++◌, Some, refl, sym, ap, ◌∙◌, subst, arith, length, map, get_or, slice_get, append_assoc}
use Rattle.std.proofs.lemmas.Bool.{cases_lt}
use Rattle.zo_core.specs.Literals.{Literal}
use Rattle.conflict_proof.specs.declared.names.ConstraintName.{ConstraintName}
use Rattle.conflict_proof.specs.declared.derivation.How.{How}
use Rattle.conflict_proof.specs.declared.derivation.How.TheVariants.{Axiom, Resolve, Inst}
use Rattle.conflict_proof.specs.declared.derivation.Line.{Line}
use Rattle.verdict_meaning.specs.Systems.{System, root, first}
use Rattle.verdict_meaning.specs.Derivations.{line_at, cost_of, at_site, carried, IsRight, IsRightLine, IsValidIn}
use Rattle.verdict_meaning.specs.Selected.{rank, renumbered, with_numbers, selected_from, selected}
use Rattle.verdict_meaning.proofs.Bits.{root_many, root_callee}
use Rattle.call_search.specs.Verdicts.{AreKnown, BeginsWith, IsRefutation}
use Rattle.call_search.proofs.Grow.{line-append, right_line-more, valid-push, cost-append, get-within}
use Rattle.unit_refutation.specs.Refutations.{IsUnitRefutation}
use Rattle.call_summary.specs.Trims.{IsBehind, StandBack, IsTrim}
use Rattle.call_summary.specs.Joins.{HasClauseSomewhere, HaveClauses}
use Rattle.call_summary.specs.Knowing.{shifted_how, shifted}
use Rattle.call_summary.proofs.Selecting.{Origin, origin}

-- A derivation behind known lines

get_behind : (xs ys : List Line) (m : ℕ) → slice_get (xs ++ ys) (length xs + m) ≡ slice_get ys m
get_behind [] ys m = ap (slice_get ys) (omega arith)
get_behind (x ∷ xs) ys m =
    let e : length (x ∷ xs) + m ≡ suc (length xs + m) = omega arith in
    ap (slice_get (x ∷ (xs ++ ys))) e ∙ get_behind xs ys m

-- where a line of two lists stands in the second
record Behind (xs ys : List Line) (m : ℕ) (x : Line) : Type 0 where
  place : ℕ
  is : m ≡ length xs + place
  there : slice_get ys place ≡ Some x

split_get : (xs ys : List Line) (m : ℕ) (x : Line) → slice_get (xs ++ ys) m ≡ Some x → (slice_get xs m ≡ Some x) ⊎ Behind xs ys m x
split_get [] ys m x at = inr (record { place = m; is = omega arith; there = at })
split_get (z ∷ xs) ys zero x at = inl at
split_get (z ∷ xs) ys (suc m) x at =
    ⊎_elim (λ (h : slice_get xs m ≡ Some x). inl h)
    (λ (b : Behind xs ys m x). inr (record { place = b.place; is = (let e = b.is in omega arith); there = b.there }))
    (split_get xs ys m x at)

get_shifted : (k : ℕ) (ys : List Line) (m : ℕ) (y : Line) → slice_get ys m ≡ Some y → slice_get (map (shifted k) ys) m ≡ Some (shifted k y)
get_shifted k [] m y at = cc
get_shifted k (z ∷ ys) zero y at = ap (λ (x : Line). Some (shifted k x)) (one z y at)
  where
    one : (a b : Line) → Some a ≡ Some b → a ≡ b
    one a b e = cc
get_shifted k (z ∷ ys) (suc m) y at = get_shifted k ys m y at

record Shifted (k : ℕ) (ys : List Line) (m : ℕ) (x : Line) : Type 0 where
  line : Line
  there : slice_get ys m ≡ Some line
  is : x ≡ shifted k line

get_unshifted : (k : ℕ) (ys : List Line) (m : ℕ) (x : Line) → slice_get (map (shifted k) ys) m ≡ Some x → Shifted k ys m x
get_unshifted k [] m x at = cc
get_unshifted k (z ∷ ys) zero x at = record { line = z; there = refl; is = one (shifted k z) x at }
  where
    one : (a b : Line) → Some a ≡ Some b → b ≡ a
    one a b e = cc
get_unshifted k (z ∷ ys) (suc m) x at =
    let h : Shifted k ys m x = get_unshifted k ys m x at in
    record { line = h.line; there = h.there; is = h.is }

-- line n of the second has the number n after those of the first
line_behind : (xs ys : List Line) (n : ℕ) (y : Line) → line_at ys n ≡ Some y → line_at (xs ++ map (shifted (length xs)) ys) (length xs + n) ≡ Some (shifted (length xs) y)
line_behind xs ys zero y at = cc
line_behind xs ys (suc m) y at =
    let e : length xs + suc m ≡ suc (length xs + m) = omega arith in
    ap (line_at (xs ++ map (shifted (length xs)) ys)) e ∙ get_behind xs (map (shifted (length xs)) ys) m ∙ get_shifted (length xs) ys m y at

right_behind : (s : System) (U : ConstraintName → Bool) (xs ys : List Line) (n g : ℕ) (how : How) (c : List Literal) → IsRight s U ys n g how c
    → IsRight s U (xs ++ map (shifted (length xs)) ys) (length xs + n) g (shifted_how (length xs) how) c
right_behind s U xs ys n g (Axiom name) c r = r
right_behind s U xs ys n g (Resolve i j) c r = record {
  first = shifted (length xs) r.first;
  second = shifted (length xs) r.second;
  first_at = line_behind xs ys i r.first r.first_at;
  second_at = line_behind xs ys j r.second r.second_at;
  first_earlier = let h = r.first_earlier in omega arith;
  second_earlier = let h = r.second_earlier in omega arith;
  first_group = r.first_group;
  second_group = r.second_group;
  resolvent = r.resolvent;
}
right_behind s U xs ys n g (Inst i site) c r = record {
  site_there = r.site_there;
  line = shifted (length xs) r.line;
  there = line_behind xs ys i r.line r.there;
  earlier = let h = r.earlier in omega arith;
  group = r.group;
  lits = r.lits;
  is_carried = r.is_carried;
  in_order = r.in_order;
}

valid_behind : (s : System) (U : ConstraintName → Bool) (xs ys : List Line) → IsValidIn s U xs → IsValidIn s U ys → IsValidIn s U (xs ++ map (shifted (length xs)) ys)
valid_behind s U xs ys old new zero x at = cc
valid_behind s U xs ys old new (suc m) x at =
    ⊎_elim (λ (h : slice_get xs m ≡ Some x). right_line-more s U xs (map (shifted (length xs)) ys) (suc m) x (old (suc m) x h))
    (λ (b : Behind xs (map (shifted (length xs)) ys) m x).
    let h : Shifted (length xs) ys b.place x = get_unshifted (length xs) ys b.place x b.there in
    let r : IsRightLine s U ys (suc b.place) h.line = new (suc b.place) h.line h.there in
    let number : length xs + suc b.place ≡ suc m = (let e = b.is in omega arith) in
    subst (λ (y : Line). IsRightLine s U (xs ++ map (shifted (length xs)) ys) (suc m) y) (sym h.is)
    (subst (λ n. IsRightLine s U (xs ++ map (shifted (length xs)) ys) n (shifted (length xs) h.line)) number
    (record { group = r.group; clause = r.clause; right = right_behind s U xs ys (suc b.place) h.line.group h.line.how h.line.lits r.right })))
    (split_get xs (map (shifted (length xs)) ys) m x at)

shifted_cost : (k : ℕ) (ys : List Line) → cost_of (map (shifted k) ys) ≡ cost_of ys
shifted_cost k [] = refl
shifted_cost k (y ∷ ys) =
    let h = shifted_cost k ys in
    let a : cost_of (shifted k y ∷ map (shifted k) ys) ≡ cost_of (shifted k y ∷ []) + cost_of (map (shifted k) ys) = cost-append (shifted k y ∷ []) (map (shifted k) ys) in
    let b : cost_of (y ∷ ys) ≡ cost_of (y ∷ []) + cost_of ys = cost-append (y ∷ []) ys in
    let same : cost_of (shifted k y ∷ []) ≡ cost_of (y ∷ []) = refl in
    omega (arith, h, a, b, same)

shifted_end : (k : ℕ) (ys : List Line) (y : Line) → map (shifted k) (ys ++ y ∷ []) ≡ map (shifted k) ys ++ shifted k y ∷ []
shifted_end k [] y = refl
shifted_end k (z ∷ ys) y = ap (λ (l : List Line). shifted k z ∷ l) (shifted_end k ys y)

-- the refutation that propagation gives refutes behind the known lines
pub units_refute : (s : System) (U : ConstraintName → Bool) (known : List Line) (budget : ℕ) (more lines : List Line) → AreKnown s U known → IsUnitRefutation s U budget more
    → lines ≡ known ++ map (shifted (length known)) more → IsRefutation s U known budget lines
units_refute s U known budget more lines are unit is =
    let old = unit.refutes in
    record {
      begins = record { more = map (shifted (length known)) more; is = is };
      valid = subst (λ (ls : List Line). IsValidIn s U ls) (sym is) (valid_behind s U known more are.valid unit.valid);
      refutes = record {
        before = known ++ map (shifted (length known)) old.before;
        last = shifted (length known) old.last;
        is = is ∙ ap (λ (ls : List Line). known ++ map (shifted (length known)) ls) old.is ∙ ap (λ (ls : List Line). known ++ ls) (shifted_end (length known) old.before old.last) ∙ sym (append_assoc known (map (shifted (length known)) old.before) (shifted (length known) old.last ∷ []));
        group = old.group;
        empty = old.empty;
      };
      cost =
          let a = cost-append known (map (shifted (length known)) more) in
          let b = shifted_cost (length known) more in
          let e : cost_of lines ≡ cost_of (known ++ map (shifted (length known)) more) = ap cost_of is in
          let c = unit.within in
          omega arith;
    }

-- A known line without literals, carried to the root

abbrev root_line : System → ℕ → ℕ → Line
root_line s at g = record { group = root s; how = Inst at g; lits = [] }

root_right : (s : System) (U : ConstraintName → Bool) (known : List Line) (at : ℕ) (line : Line) → line.group < root s → line_at known at ≡ Some line → line.lits ≡ []
    → IsRightLine s U known (suc (length known)) (root_line s at line.group)
root_right s U known at line low there empty = record {
  group = omega arith;
  clause = (tt, λ k d lt. absurd (omega (arith, lt)));
  right = record {
    site_there = let e = root_many s in omega arith;
    line = line;
    there = there;
    earlier = within at there;
    group = sym (ap (λ c. c.group) (root_callee s line.group low));
    lits = [];
    is_carried = ap (carried (at_site s (root s) line.group)) empty;
    in_order = refl;
  };
}
  where
    within : (n : ℕ) → line_at known n ≡ Some line → n < suc (length known)
    within zero e = cc
    within (suc n) e = let h = get-within known line n e in omega arith

pub root_refutes : (s : System) (U : ConstraintName → Bool) (known : List Line) (budget at top : ℕ) (line : Line) (lines : List Line) → AreKnown s U known → 0 < budget → top ≡ root s
    → line_at known at ≡ Some line → line.lits ≡ [] → lines ≡ known ++ record { group = top; how = Inst at line.group; lits = [] } ∷ [] → IsRefutation s U known budget lines
root_refutes s U known budget at top line lines are some top_is there empty is =
    let here : lines ≡ known ++ root_line s at line.group ∷ [] = is ∙ ap (λ t. known ++ record { group = t; how = Inst at line.group; lits = [] } ∷ []) top_is in
    record {
      begins = record { more = root_line s at line.group ∷ []; is = here };
      valid = subst (λ (ls : List Line). IsValidIn s U ls) (sym here) (valid-push s U known (root_line s at line.group) are.valid (root_right s U known at line (low at there) there empty));
      refutes = record { before = known; last = root_line s at line.group; is = here; group = refl; empty = refl };
      cost =
          let a = cost-append known (root_line s at line.group ∷ []) in
          let e : cost_of lines ≡ cost_of (known ++ root_line s at line.group ∷ []) = ap cost_of here in
          omega arith;
    }
  where
    low : (n : ℕ) → line_at known n ≡ Some line → line.group < root s
    low zero e = cc
    low (suc n) e =
        let r = are.valid (suc n) line e in
        let le : line.group ≤ root s = r.group in
        let ne : line.group ≢ root s = are.groups n line e in
        less line.group (root s) le ne
      where
        less : (a b : ℕ) → a ≤ b → a ≢ b → a < b
        less a b le ne = ⊎_elim (λ (lt : a < b). lt) (λ (ge : b ≤ a). absurd (ne (omega arith))) (cases_lt a b)

-- What is left of a derivation that begins with known lines

rank_front : (ms : List Bool) (k i : ℕ) → ((m : ℕ) → m < k → get_or ms m false ≡ true) → i ≤ k → rank ms i ≡ i
rank_front [] zero i f le = omega arith
rank_front [] (suc k) i f le = let h : false ≡ true = f 0 (omega arith) in cc
rank_front (b ∷ ms) k zero f le = refl
rank_front (b ∷ ms) zero (suc i) f le = absurd (omega arith)
rank_front (true ∷ ms) (suc k) (suc i) f le = ap suc (rank_front ms k i (λ m lt. f (suc m) (omega arith)) (omega arith))
rank_front (false ∷ ms) (suc k) (suc i) f le = let h : false ≡ true = f 0 (omega arith) in cc

record Front (all ms : List Bool) (known more : List Line) : Type 0 where
  rest : List Line
  is : selected_from all ms (known ++ more) ≡ map (with_numbers all) known ++ rest

front_from : (all ms : List Bool) (known more : List Line) → ((m : ℕ) → m < length known → get_or ms m false ≡ true) → Front all ms known more
front_from all ms [] more f = record { rest = selected_from all ms more; is = refl }
front_from all [] (x ∷ known) more f = let h : false ≡ true = f 0 (omega arith) in cc
front_from all (true ∷ ms) (x ∷ known) more f =
    let h : Front all ms known more = front_from all ms known more (λ m lt. f (suc m) (omega arith)) in
    record { rest = h.rest; is = ap (λ (ls : List Line). with_numbers all x ∷ ls) h.is }
front_from all (false ∷ ms) (x ∷ known) more f = let h : false ≡ true = f 0 (omega arith) in cc

map_same : (f : Line → Line) (xs : List Line) → ((n : ℕ) (x : Line) → slice_get xs n ≡ Some x → f x ≡ x) → map f xs ≡ xs
map_same f [] same = refl
map_same f (x ∷ xs) same =
    let tail : map f xs ≡ xs = map_same f xs (λ n y at. same (suc n) y at) in
    let head : f x ≡ x = same 0 x refl in
    rw (head, tail) refl

same_how : (ms : List Bool) (k n : ℕ) (how : How) → ((i : ℕ) → i ≤ k → rank ms i ≡ i) → n ≤ suc k → IsBehind how n → renumbered ms how ≡ how
same_how ms k n (Axiom name) same le b = refl
same_how ms k n (Resolve i j) same le b =
    let p = same i (let h = b.1 in omega arith) in
    let q = same j (let h = b.3 in omega arith) in
    rw (p, q) refl
same_how ms k n (Inst i site) same le b = let p = same i (let h = b.1 in omega arith) in rw p refl

pub trim_begins : (known lines new : List Line) → BeginsWith known lines → StandBack lines → IsTrim lines (length known) new → BeginsWith known new
trim_begins known lines new begins back trim =
    let h : Front trim.marks trim.marks known begins.more = front_from trim.marks trim.marks known begins.more trim.left.front in
    let numbers : (i : ℕ) → i ≤ length known → rank trim.marks i ≡ i = λ i le. rank_front trim.marks (length known) i trim.left.front le in
    let same : map (with_numbers trim.marks) known ≡ known =
    map_same (with_numbers trim.marks) known
    (λ n x at.
    let there : line_at lines (suc n) ≡ Some x = ap (λ (ls : List Line). slice_get ls n) begins.is ∙ line-append known begins.more x (suc n) at in
    ap (λ (how : How). record { group = x.group; how = how; lits = x.lits })
    (same_how trim.marks (length known) (suc n) x.how numbers (let w = get-within known x n at in omega arith) (back (suc n) x there))) in
    record { more = h.rest; is = trim.is ∙ ap (selected trim.marks) begins.is ∙ h.is ∙ ap (λ (ls : List Line). ls ++ h.rest) same }

pub trim_have : (top first : ℕ) (out lines new : List Line) → IsTrim lines first new → HaveClauses top out lines → HaveClauses top out new
trim_have top first out lines new trim have n x at ne =
    let o : Origin trim.marks trim.marks lines n x = origin trim.marks trim.marks lines n x (ap (λ (ls : List Line). slice_get ls n) (sym trim.is) ∙ at) in
    let group : x.group ≡ o.line.group = ap (λ (y : Line). y.group) o.is in
    let h : HasClauseSomewhere out o.line = have o.index o.line o.there (λ e. ne (group ∙ e)) in
    record { number = h.number; has = record { line = h.has.line; there = h.has.there; group = h.has.group ∙ sym group; lits = h.has.lits ∙ sym (ap (λ (y : Line). y.lits) o.is) } }
