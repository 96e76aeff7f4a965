-- Lines are valid without others on which none of them stands.
use Rattle.std.proofs.Common.{◌≡◌, ℕ, zero, suc, ◌<◌, ◌≤◌, Bool, true, false, List, [], ◌∷◌, Some, refl, sym, ap, ◌∙◌, subst, arith, get_or, slice_get}
use Rattle.zo_core.specs.Literals.{Literal}
use Rattle.conflict_proof.specs.declared.names.ConstraintName.{ConstraintName}
use Rattle.conflict_proof.specs.declared.derivation.How.{How}
use Rattle.conflict_proof.specs.declared.derivation.How.TheVariants.{Axiom, Resolve, Inst}
use Rattle.conflict_proof.specs.declared.derivation.Line.{Line}
use Rattle.verdict_meaning.specs.Systems.{System}
use Rattle.verdict_meaning.specs.Derivations.{line_at, IsRight, IsRightLine}
use Rattle.verdict_meaning.specs.Selected.{rank, renumbered, with_numbers, selected_from, selected, is_marked, PremisesAreMarked, SelectedAreValid}

rank-mono : (ms : List Bool) (a b : ℕ) → a ≤ b → rank ms a ≤ rank ms b
rank-mono [] a b le = omega arith
rank-mono (c ∷ ms) zero b le = omega arith
rank-mono (c ∷ ms) (suc a) zero le = absurd (omega arith)
rank-mono (true ∷ ms) (suc a) (suc b) le = let h = rank-mono ms a b (omega arith) in omega arith
rank-mono (false ∷ ms) (suc a) (suc b) le = rank-mono ms a b (omega arith)

rank-marked : (ms : List Bool) (n : ℕ) → get_or ms n false ≡ true → rank ms (suc n) ≡ suc (rank ms n)
rank-marked [] n e = cc
rank-marked (true ∷ ms) zero e = ap suc (zero_rank ms)
  where
    zero_rank : (ms : List Bool) → rank ms 0 ≡ 0
    zero_rank [] = refl
    zero_rank (b ∷ ms) = refl
rank-marked (false ∷ ms) zero e = cc
rank-marked (true ∷ ms) (suc n) e = ap suc (rank-marked ms n e)
rank-marked (false ∷ ms) (suc n) e = rank-marked ms n e

kept_there : (all ms : List Bool) (ls : List Line) (n : ℕ) (l : Line) → slice_get ls n ≡ Some l → get_or ms n false ≡ true → slice_get (selected_from all ms ls) (rank ms n) ≡ Some (with_numbers all l)
kept_there all [] ls n l at m = cc
kept_there all (b ∷ ms) [] n l at m = cc
kept_there all (true ∷ ms) (x ∷ ls) zero l at m = ap (λ (o : Line). Some (with_numbers all o)) (one x l at)
  where
    one : (a b : Line) → Some a ≡ Some b → a ≡ b
    one a b e = cc
kept_there all (false ∷ ms) (x ∷ ls) zero l at m = cc
kept_there all (true ∷ ms) (x ∷ ls) (suc n) l at m = kept_there all ms ls n l at m
kept_there all (false ∷ ms) (x ∷ ls) (suc n) l at m = kept_there all ms ls n l at m

record Origin (all ms : List Bool) (ls : List Line) (k : ℕ) (x : Line) : Type 0 where
  index : ℕ
  line : Line
  there : slice_get ls index ≡ Some line
  marked : get_or ms index false ≡ true
  number : k ≡ rank ms index
  is : x ≡ with_numbers all line

origin : (all ms : List Bool) (ls : List Line) (k : ℕ) (x : Line) → slice_get (selected_from all ms ls) k ≡ Some x → Origin all ms ls k x
origin all [] ls k x at = cc
origin all (b ∷ ms) [] k x at = cc
origin all (true ∷ ms) (l ∷ ls) zero x at = record { index = 0; line = l; there = refl; marked = refl; number = refl; is = one (with_numbers all l) x at }
  where
    one : (a b : Line) → Some a ≡ Some b → b ≡ a
    one a b e = cc
origin all (true ∷ ms) (l ∷ ls) (suc k) x at =
    let o : Origin all ms ls k x = origin all ms ls k x at in
    record { index = suc o.index; line = o.line; there = o.there; marked = o.marked; number = ap suc o.number; is = o.is }
origin all (false ∷ ms) (l ∷ ls) k x at =
    let o : Origin all ms ls k x = origin all ms ls k x at in
    record { index = suc o.index; line = o.line; there = o.there; marked = o.marked; number = o.number; is = o.is }

module _ (s : System) (U : ConstraintName → Bool) (marks : List Bool) (lines : List Line) where
  -- a marked premise has its new number, which is less than that of the line
  new_line : (i : ℕ) (l : Line) → line_at lines i ≡ Some l → is_marked marks i ≡ true → line_at (selected marks lines) (rank marks i) ≡ Some (with_numbers marks l)
  new_line zero l at m = cc
  new_line (suc n) l at m = ap (line_at (selected marks lines)) (rank-marked marks n m) ∙ kept_there marks marks lines n l at m

  new_less : (i n : ℕ) → is_marked marks n ≡ true → i < n → rank marks i < rank marks n
  new_less i zero m lt = cc
  new_less i (suc n) m lt = let e = rank-marked marks n m in let h = rank-mono marks i n (omega arith) in omega arith

  right : (n g : ℕ) (how : How) (c : List Literal) → is_marked marks n ≡ true → PremisesAreMarked marks how → IsRight s U lines n g how c → IsRight s U (selected marks lines) (rank marks n) g (renumbered marks how) c
  right n g (Axiom name) c m p r = r
  right n g (Resolve i j) c m p r = record {
    first = with_numbers marks r.first;
    second = with_numbers marks r.second;
    first_at = new_line i r.first r.first_at p.0;
    second_at = new_line j r.second r.second_at p.1;
    first_earlier = new_less i n m r.first_earlier;
    second_earlier = new_less j n m r.second_earlier;
    first_group = r.first_group;
    second_group = r.second_group;
    resolvent = r.resolvent;
  }
  right n g (Inst i site) c m p r = record {
    site_there = r.site_there;
    line = with_numbers marks r.line;
    there = new_line i r.line r.there p;
    earlier = new_less i n m r.earlier;
    group = r.group;
    lits = r.lits;
    is_carried = r.is_carried;
    in_order = r.in_order;
  }

pub selected_are_valid : SelectedAreValid
selected_are_valid s U marks lines valid closed zero x at = cc
selected_are_valid s U marks lines valid closed (suc k) x at =
    let o : Origin marks marks lines k x = origin marks marks lines k x at in
    let r : IsRightLine s U lines (suc o.index) o.line = valid (suc o.index) o.line o.there in
    let n : rank marks (suc o.index) ≡ suc k = rank-marked marks o.index o.marked ∙ ap suc (sym o.number) in
    subst (λ (y : Line). IsRightLine s U (selected marks lines) (suc k) y) (sym o.is)
    (subst (λ m. IsRightLine s U (selected marks lines) m (with_numbers marks o.line)) n
    (record { group = r.group; clause = r.clause; right = right s U marks lines (suc o.index) o.line.group o.line.how o.line.lits o.marked (closed (suc o.index) o.line o.there o.marked) r.right }))
