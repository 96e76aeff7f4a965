-- Lines that are selected by marks.
use Rattle.std.proofs.Common.{◌≡◌, ℕ, zero, suc, ◌+◌, ◌<◌, ◌≤◌, ◌⊎◌, inl, inr, Bool, true, false, List, [], ◌∷◌, ◌++◌, Some, refl, sym, ap, ◌∙◌, subst, arith, length, length-append, take, get_or, slice_get}
use Rattle.std.proofs.lemmas.Bool.{cases_lt}
use Rattle.std.proofs.lemmas.List.{append-nil, get_or_append_left, get_or_at}
use Rattle.std.proofs.lemmas.Option.{slice_get_within}
use Rattle.conflict_proof.specs.declared.derivation.How.{How}
use Rattle.conflict_proof.specs.declared.derivation.How.TheVariants.{Axiom, Resolve, Inst}
use Rattle.conflict_proof.specs.declared.derivation.Line.{Line}
use Rattle.verdict_meaning.specs.Derivations.{line_at, cost_of}
use Rattle.verdict_meaning.specs.Selected.{rank, renumbered, with_numbers, selected_from, selected, is_marked, PremisesAreMarked}
use Rattle.call_search.proofs.Grow.{cost-append}
use Rattle.call_summary.specs.Trims.{IsBehind, StandBack, AreRanks, by_numbers, by_new, line_if}

-- New numbers

pub rank-mono : (ms : List Bool) (a b : ℕ) → a ≤ b → rank ms a ≤ rank ms b
rank-mono [] a b le = omega arith
rank-mono (c ∷ ms) zero b le = omega arith
rank-mono (c ∷ ms) (suc a) zero le = absurd (omega arith)
rank-mono (true ∷ ms) (suc a) (suc b) le = let h = rank-mono ms a b (omega arith) in omega arith
rank-mono (false ∷ ms) (suc a) (suc b) le = rank-mono ms a b (omega arith)

rank-zero : (ms : List Bool) → rank ms 0 ≡ 0
rank-zero [] = refl
rank-zero (b ∷ ms) = refl

pub rank-marked : (ms : List Bool) (n : ℕ) → get_or ms n false ≡ true → rank ms (suc n) ≡ suc (rank ms n)
rank-marked [] n e = cc
rank-marked (true ∷ ms) zero e = ap suc (rank-zero ms)
rank-marked (false ∷ ms) zero e = cc
rank-marked (true ∷ ms) (suc n) e = ap suc (rank-marked ms n e)
rank-marked (false ∷ ms) (suc n) e = rank-marked ms n e

-- Line by line

first_is : (x l : Line) → Some x ≡ Some l → x ≡ l
first_is x l e = cc

pub kept_more : (all ms : List Bool) (ls : List Line) (k : ℕ) (l : Line) → slice_get ls k ≡ Some l → get_or ms k false ≡ true
    → selected_from all (take (suc k) ms) (take (suc k) ls) ≡ selected_from all (take k ms) (take k ls) ++ with_numbers all l ∷ []
kept_more all [] ls k l at m = cc
kept_more all (b ∷ ms) [] k l at m = cc
kept_more all (true ∷ ms) (x ∷ ls) zero l at m = ap (λ (y : Line). with_numbers all y ∷ []) (first_is x l at)
kept_more all (false ∷ ms) (x ∷ ls) zero l at m = cc
kept_more all (true ∷ ms) (x ∷ ls) (suc k) l at m = ap (λ (ys : List Line). with_numbers all x ∷ ys) (kept_more all ms ls k l at m)
kept_more all (false ∷ ms) (x ∷ ls) (suc k) l at m = kept_more all ms ls k l at m

none_selected : (all ms : List Bool) → selected_from all ms [] ≡ []
none_selected all [] = refl
none_selected all (b ∷ ms) = refl

pub left_out : (all ms : List Bool) (ls : List Line) (k : ℕ) → get_or ms k false ≡ false → selected_from all (take (suc k) ms) (take (suc k) ls) ≡ selected_from all (take k ms) (take k ls)
left_out all [] ls zero m = refl
left_out all [] ls (suc k) m = refl
left_out all (b ∷ ms) [] zero m = refl
left_out all (b ∷ ms) [] (suc k) m = refl
left_out all (true ∷ ms) (x ∷ ls) zero m = cc
left_out all (false ∷ ms) (x ∷ ls) zero m = refl
left_out all (true ∷ ms) (x ∷ ls) (suc k) m = ap (λ (ys : List Line). with_numbers all x ∷ ys) (left_out all ms ls k m)
left_out all (false ∷ ms) (x ∷ ls) (suc k) m = left_out all ms ls k m

pub selected_count : (all ms : List Bool) (ls : List Line) (k : ℕ) → length ms ≡ length ls → k ≤ length ls → length (selected_from all (take k ms) (take k ls)) ≡ rank ms k
selected_count all [] ls zero e le = refl
selected_count all [] ls (suc k) e le = refl
selected_count all (b ∷ ms) [] k e le = absurd (omega arith)
selected_count all (b ∷ ms) (l ∷ ls) zero e le = refl
selected_count all (true ∷ ms) (l ∷ ls) (suc k) e le = let h = selected_count all ms ls k (omega arith) (omega arith) in omega arith
selected_count all (false ∷ ms) (l ∷ ls) (suc k) e le = selected_count all ms ls k (omega arith) (omega arith)

-- Origins

pub renumbered_by : (marks : List Bool) (numbers : List ℕ) (how : How) (k : ℕ) → AreRanks marks numbers k → IsBehind how (suc k) → by_numbers numbers how ≡ renumbered marks how
renumbered_by marks numbers (Axiom name) k are behind = refl
renumbered_by marks numbers (Resolve i j) k are behind =
    let a = are.each i (let h = behind.1 in omega arith) in
    let b = are.each j (let h = behind.3 in omega arith) in
    rw (a, b) refl
renumbered_by marks numbers (Inst i site) k are behind =
    let a = are.each i (let h = behind.1 in omega arith) in
    rw a refl

-- Going on by one line

pub ranks_begin : (marks : List Bool) → AreRanks marks (0 ∷ []) 0
ranks_begin marks = record { count = omega arith; each = λ n le. at n le }
  where
    at : (n : ℕ) → n ≤ 0 → get_or (0 ∷ []) n 0 ≡ rank marks n
    at zero le = sym (rank-zero marks)
    at (suc n) le = absurd (omega arith)

ranks_more : (marks : List Bool) (numbers : List ℕ) (k at : ℕ) → AreRanks marks numbers k → at ≡ rank marks (suc k) → AreRanks marks (numbers ++ at ∷ []) (suc k)
ranks_more marks numbers k at are is = record {
  count = length-append numbers (at ∷ []) ∙ (let c = are.count in omega arith);
  each = λ n le. split n le (cases_lt k n);
}
  where
    split : (n : ℕ) → n ≤ suc k → (k < n) ⊎ (n ≤ k) → get_or (numbers ++ at ∷ []) n 0 ≡ rank marks n
    split n le (inl lt) =
        let e : n ≡ suc k = omega arith in
        ap (λ m. get_or (numbers ++ at ∷ []) m 0) e ∙ get_or_at numbers at [] 0 (suc k) are.count ∙ is ∙ ap (rank marks) (sym e)
    split n le (inr old) = get_or_append_left numbers (at ∷ []) 0 n (let c = are.count in omega arith) ∙ are.each n old

-- the first k lines were gone through
pub record AreSelected (marks : List Bool) (lines : List Line) (items : List Line) (numbers : List ℕ) (k : ℕ) : Type 0 where
  pub items_are : items ≡ selected_from marks (take k marks) (take k lines)
  pub numbers_are : AreRanks marks numbers k

pub none_gone : (marks : List Bool) (lines : List Line) → AreSelected marks lines [] (0 ∷ []) 0
none_gone [] lines = record { items_are = refl; numbers_are = ranks_begin [] }
none_gone (b ∷ ms) [] = record { items_are = refl; numbers_are = ranks_begin (b ∷ ms) }
none_gone (b ∷ ms) (l ∷ ls) = record { items_are = refl; numbers_are = ranks_begin (b ∷ ms) }

-- where a line stands back, so does its origin before its number
pub behind_count : (lines : List Line) (numbers : List ℕ) (marks : List Bool) (k : ℕ) (line : Line) → StandBack lines → AreRanks marks numbers k → slice_get lines k ≡ Some line → IsBehind line.how (length numbers)
behind_count lines numbers marks k line back are there = subst (λ n. IsBehind line.how n) (sym are.count) (back (suc k) line there)

selected_line : (marks : List Bool) (lines items : List Line) (numbers : List ℕ) (k : ℕ) (line : Line) (marked : Bool) → StandBack lines → AreSelected marks lines items numbers k → slice_get lines k ≡ Some line
    → get_or marks k false ≡ marked → items ++ line_if marked (by_new numbers line) ≡ selected_from marks (take (suc k) marks) (take (suc k) lines)
selected_line marks lines items numbers k line true back are there mark =
    let how : by_numbers numbers line.how ≡ renumbered marks line.how = renumbered_by marks numbers line.how k are.numbers_are (back (suc k) line there) in
    ap (λ (h : How). items ++ record { group = line.group; how = h; lits = line.lits } ∷ []) how
    ∙ ap (λ (ls : List Line). ls ++ with_numbers marks line ∷ []) are.items_are
    ∙ sym (kept_more marks marks lines k line there mark)
selected_line marks lines items numbers k line false back are there mark = append-nil items ∙ are.items_are ∙ sym (left_out marks marks lines k mark)

pub gone_on : (marks : List Bool) (lines items new : List Line) (numbers more : List ℕ) (k at : ℕ) (line : Line) (marked : Bool) → StandBack lines → length marks ≡ length lines
    → AreSelected marks lines items numbers k → slice_get lines k ≡ Some line → get_or marks k false ≡ marked → new ≡ items ++ line_if marked (by_new numbers line)
    → at ≡ length new → more ≡ numbers ++ at ∷ [] → AreSelected marks lines new more (k + 1)
gone_on marks lines items new numbers more k at line marked back same are there mark new_is at_is more_is =
    let next : suc k ≡ k + 1 = omega arith in
    let lt : k < length lines = slice_get_within lines k line there in
    let new_are : new ≡ selected_from marks (take (suc k) marks) (take (suc k) lines) = new_is ∙ selected_line marks lines items numbers k line marked back are there mark in
    let count : at ≡ rank marks (suc k) = at_is ∙ ap length new_are ∙ selected_count marks marks lines (suc k) same (omega arith) in
    subst (λ n. AreSelected marks lines new more n) next
    (record { items_are = new_are; numbers_are = subst (λ (ns : List ℕ). AreRanks marks ns (suc k)) (sym more_is) (ranks_more marks numbers k at are.numbers_are count) })

take_whole : {A : Type 0} (xs : List A) (n : ℕ) → n ≡ length xs → take n xs ≡ xs
take_whole [] zero e = refl
take_whole [] (suc n) e = refl
take_whole (x ∷ xs) zero e = absurd (omega arith)
take_whole (x ∷ xs) (suc n) e = ap (λ ys. x ∷ ys) (take_whole xs n (omega arith))

pub all_gone : (marks : List Bool) (lines items : List Line) (numbers : List ℕ) (k : ℕ) → length marks ≡ length lines → k ≡ length lines → AreSelected marks lines items numbers k → items ≡ selected marks lines
all_gone marks lines items numbers k same end are =
    are.items_are
    ∙ ap (λ (ms : List Bool). selected_from marks ms (take k lines)) (take_whole marks k (end ∙ sym same))
    ∙ ap (λ (ls : List Line). selected_from marks marks ls) (take_whole lines k end)

-- Where a selected line comes from

pub record Origin (all ms : List Bool) (ls : List Line) (k : ℕ) (x : Line) : Type 0 where
  pub index : ℕ
  pub line : Line
  pub there : slice_get ls index ≡ Some line
  pub marked : get_or ms index false ≡ true
  pub number : k ≡ rank ms index
  pub is : x ≡ with_numbers all line

pub origin : (all ms : List Bool) (ls : List Line) (k : ℕ) (x : Line) → slice_get (selected_from all ms ls) k ≡ Some x → Origin all ms ls k x
origin all [] ls k x at = cc
origin all (b ∷ ms) [] k x at = cc
origin all (true ∷ ms) (l ∷ ls) zero x at = record { index = 0; line = l; there = refl; marked = refl; number = refl; is = one (with_numbers all l) x at }
  where
    one : (a b : Line) → Some a ≡ Some b → b ≡ a
    one a b e = cc
origin all (true ∷ ms) (l ∷ ls) (suc k) x at =
    let o : Origin all ms ls k x = origin all ms ls k x at in
    record { index = suc o.index; line = o.line; there = o.there; marked = o.marked; number = ap suc o.number; is = o.is }
origin all (false ∷ ms) (l ∷ ls) k x at =
    let o : Origin all ms ls k x = origin all ms ls k x at in
    record { index = suc o.index; line = o.line; there = o.there; marked = o.marked; number = o.number; is = o.is }

-- Selected lines stand on earlier lines

rank_some : (ms : List Bool) (i : ℕ) → is_marked ms i ≡ true → 0 < rank ms i
rank_some ms zero m = cc
rank_some ms (suc i) m = let e = rank-marked ms i m in omega arith

rank_less : (ms : List Bool) (i n : ℕ) → is_marked ms n ≡ true → i < n → rank ms i < rank ms n
rank_less ms i zero m lt = absurd (omega arith)
rank_less ms i (suc n) m lt = let e = rank-marked ms n m in let h = rank-mono ms i n (omega arith) in omega arith

behind_selected : (ms : List Bool) (n : ℕ) (how : How) → is_marked ms n ≡ true → PremisesAreMarked ms how → IsBehind how n → IsBehind (renumbered ms how) (rank ms n)
behind_selected ms n (Axiom name) m p b = tt
behind_selected ms n (Resolve i j) m p b = (rank_some ms i p.0, rank_less ms i n m b.1, rank_some ms j p.1, rank_less ms j n m b.3)
behind_selected ms n (Inst i site) m p b = (rank_some ms i p, rank_less ms i n m b.1)

pub selected_stand_back : (lines : List Line) (marks : List Bool) → StandBack lines
    → ((n : ℕ) (line : Line) → line_at lines n ≡ Some line → is_marked marks n ≡ true → PremisesAreMarked marks line.how) → StandBack (selected marks lines)
selected_stand_back lines marks back closed zero x at = cc
selected_stand_back lines marks back closed (suc k) x at =
    let o : Origin marks marks lines k x = origin marks marks lines k x at in
    let n : rank marks (suc o.index) ≡ suc k = rank-marked marks o.index o.marked ∙ ap suc (sym o.number) in
    subst (λ (y : Line). IsBehind y.how (suc k)) (sym o.is)
    (subst (λ m. IsBehind (renumbered marks o.line.how) m) n
    (behind_selected marks (suc o.index) o.line.how o.marked (closed (suc o.index) o.line o.there o.marked) (back (suc o.index) o.line o.there)))

-- What selected lines cost

pub selected_cost : (all ms : List Bool) (ls : List Line) → cost_of (selected_from all ms ls) ≤ cost_of ls
selected_cost all [] ls = omega arith
selected_cost all (b ∷ ms) [] = omega arith
selected_cost all (true ∷ ms) (l ∷ ls) =
    let h : cost_of (selected_from all ms ls) ≤ cost_of ls = selected_cost all ms ls in
    let a : cost_of (with_numbers all l ∷ selected_from all ms ls) ≡ cost_of (with_numbers all l ∷ []) + cost_of (selected_from all ms ls) = cost-append (with_numbers all l ∷ []) (selected_from all ms ls) in
    let b : cost_of (l ∷ ls) ≡ cost_of (l ∷ []) + cost_of ls = cost-append (l ∷ []) ls in
    let same : cost_of (with_numbers all l ∷ []) ≡ cost_of (l ∷ []) = refl in
    omega (arith, h, a, b, same)
selected_cost all (false ∷ ms) (l ∷ ls) =
    let h : cost_of (selected_from all (false ∷ ms) (l ∷ ls)) ≤ cost_of ls = selected_cost all ms ls in
    let b : cost_of (l ∷ ls) ≡ cost_of (l ∷ []) + cost_of ls = cost-append (l ∷ []) ls in
    omega (arith, h, b)

-- The last line

pub record EndsWith (lines : List Line) (last : Line) : Type 0 where
  pub before : List Line
  pub is : lines ≡ before ++ last ∷ []

pub last_selected : (all ms : List Bool) (before : List Line) (last : Line) → get_or ms (length before) false ≡ true → EndsWith (selected_from all ms (before ++ last ∷ [])) (with_numbers all last)
last_selected all [] before last m = cc
last_selected all (true ∷ ms) [] last m = record { before = []; is = ap (λ (ys : List Line). with_numbers all last ∷ ys) (none_selected all ms) }
last_selected all (false ∷ ms) [] last m = cc
last_selected all (true ∷ ms) (l ∷ ls) last m =
    let h : EndsWith (selected_from all ms (ls ++ last ∷ [])) (with_numbers all last) = last_selected all ms ls last m in
    record { before = with_numbers all l ∷ h.before; is = ap (λ (ys : List Line). with_numbers all l ∷ ys) h.is }
last_selected all (false ∷ ms) (l ∷ ls) last m =
    let h : EndsWith (selected_from all ms (ls ++ last ∷ [])) (with_numbers all last) = last_selected all ms ls last m in
    record { before = h.before; is = h.is }
