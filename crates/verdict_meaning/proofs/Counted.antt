-- How many clauses there are, and so what a derivation costs at most.
use Rattle.std.proofs.Common.{◌≡◌, ℕ, zero, suc, ◌+◌, ◌*◌, ◌^◌, ◌/◌, ◌%◌, ◌<◌, ◌≤◌, Bool, true, false, cond, ◌||◌, eqb, List, [], ◌∷◌, Some, refl, sym, ap, ◌∙◌, subst, arith, length, map, slice_get}
use Rattle.std.specs.List.{All, IsDistinct, AllByRecursion, list_any}
use Rattle.std.specs.Prelude.{nat_eq}
use Rattle.std.proofs.lemmas.Bool.{eqb-true, eq-eqb}
use Rattle.std.proofs.lemmas.Nat.{mul-add-lt, div-mul-add, mod-mul-add}
use Rattle.std.proofs.Math.Nat.{pow-zero, pow-succ', mul-le-mul_left, mul-le-mul_right, mul_assoc, mul_comm}
use Rattle.std.proofs.lemmas.Map.Steps.{length-le_from_distinct_below}
use Rattle.std.proofs.lemmas.List.Sums.{sum_by-cons}
use Rattle.zo_core.specs.Literals.{Literal}
use Rattle.zo_core.specs.Order.{Ascends}
use Rattle.conflict_proof.specs.declared.derivation.Line.{Line}
use Rattle.verdict_meaning.specs.Systems.{System, root, count}
use Rattle.verdict_meaning.specs.Derivations.{line_cost, cost_of, NoClauseTwice, HasAtMost, most_cost}
use Rattle.verdict_meaning.specs.Laws.{CostIsBounded, BudgetSuffices}

-- a clause of unknowns above k up to k + n, as a number of n digits below 3

abbrev sign_digit : Bool → ℕ
sign_digit true = 1
sign_digit false = 2

abbrev code : ℕ → ℕ → List Literal → ℕ
code k zero c = 0
code k (suc n) [] = 3 * code (suc k) n []
code k (suc n) (l ∷ c) = cond (nat_eq l.var (suc k)) (sign_digit l.sign + 3 * code (suc k) n c) (3 * code (suc k) n (l ∷ c))

abbrev Within : ℕ → List Literal → Type 0
Within m [] = Unit {0}
Within m (l ∷ c) = (l.var ≤ m) × Within m c

abbrev literal : ℕ → Bool → Literal
literal v b = record { var = v; sign = b }

-- the clause that begins as the digit says
abbrev built : ℕ → ℕ → List Literal → List Literal
built k zero c = c
built k (suc zero) c = literal (suc k) true ∷ c
built k (suc (suc d)) c = literal (suc k) false ∷ c

record Digit (k n : ℕ) (c : List Literal) : Type 0 where
  first : ℕ
  rest : List Literal
  small : first ≤ 2
  number : code k (suc n) c ≡ first + 3 * code (suc k) n rest
  ascends : Ascends (suc k) rest
  within : Within (suc k + n) rest
  is : c ≡ built k first rest

more_within : (m n : ℕ) (c : List Literal) → m ≡ n → Within m c → Within n c
more_within m n c e h = subst (λ x. Within x c) e h

digit_of : (k n : ℕ) (c : List Literal) → Ascends k c → Within (k + suc n) c → Digit k n c
digit_of k n [] a w = record { first = 0; rest = []; small = omega arith; number = omega arith; ascends = tt; within = tt; is = refl }
digit_of k n (l ∷ c) a w = at (nat_eq l.var (suc k)) refl l.sign refl
  where
    at : (b : Bool) → nat_eq l.var (suc k) ≡ b → (z : Bool) → l.sign ≡ z → Digit k n (l ∷ c)
    at true e true f = let v : l.var ≡ suc k = eqb-true l.var (suc k) e in
        record {
          first = 1;
          rest = c;
          small = omega arith;
          number = rw (e, f) refl;
          ascends = subst (λ x. Ascends x c) v a.1;
          within = more_within (k + suc n) (suc k + n) c (omega arith) w.1;
          is = ap (λ x. literal x l.sign ∷ c) v ∙ ap (λ x. literal (suc k) x ∷ c) f;
        }
    at true e false f = let v : l.var ≡ suc k = eqb-true l.var (suc k) e in
        record {
          first = 2;
          rest = c;
          small = omega arith;
          number = rw (e, f) refl;
          ascends = subst (λ x. Ascends x c) v a.1;
          within = more_within (k + suc n) (suc k + n) c (omega arith) w.1;
          is = ap (λ x. literal x l.sign ∷ c) v ∙ ap (λ x. literal (suc k) x ∷ c) f;
        }
    at false e z f =
        record {
          first = 0;
          rest = l ∷ c;
          small = omega arith;
          number = rw e (omega arith);
          ascends = (let h = a.0 in later l.var k h (λ same. differ (sym (eq-eqb l.var (suc k) same) ∙ e)), a.1);
          within = more_within (k + suc n) (suc k + n) (l ∷ c) (omega arith) w;
          is = refl;
        }
      where
        differ : true ≡ false → ⊥
        differ e = cc

        later : (v k : ℕ) → k < v → (v ≡ suc k → ⊥) → suc k < v
        later v k lt ne = omega arith

pub code-below : (k n : ℕ) (c : List Literal) → Ascends k c → Within (k + n) c → code k n c < 3 ^ n
code-below k zero c a w = omega arith
code-below k (suc n) c a w =
    let d : Digit k n c = digit_of k n c a w in
    let lower : code (suc k) n d.rest < 3 ^ n = code-below (suc k) n d.rest d.ascends d.within in
    let p : 3 ^ suc n ≡ 3 * 3 ^ n = pow-succ' 3 n in
    let e = d.number in let s = d.small in omega arith

same_digit : (a b x y : ℕ) → a ≤ 2 → b ≤ 2 → a + 3 * x ≡ b + 3 * y → (a ≡ b) × (x ≡ y)
same_digit a b x y ha hb e = (omega arith, omega arith)

pub code-apart : (k n : ℕ) (c d : List Literal) → Ascends k c → Ascends k d → Within (k + n) c → Within (k + n) d → code k n c ≡ code k n d → c ≡ d
code-apart k zero [] [] a b w v e = refl
code-apart k zero (l ∷ c) d a b w v e = absurd (let h = a.0 in let i = w.0 in omega arith)
code-apart k zero [] (m ∷ d) a b w v e = absurd (let h = b.0 in let i = v.0 in omega arith)
code-apart k (suc n) c d a b w v e =
    let p : Digit k n c = digit_of k n c a w in
    let q : Digit k n d = digit_of k n d b v in
    let same : (p.first ≡ q.first) × (code (suc k) n p.rest ≡ code (suc k) n q.rest) = same_digit p.first q.first (code (suc k) n p.rest) (code (suc k) n q.rest) p.small q.small (sym p.number ∙ e ∙ q.number) in
    let rest : p.rest ≡ q.rest = code-apart (suc k) n p.rest q.rest p.ascends q.ascends p.within q.within same.1 in
    p.is ∙ ap (λ x. built k x p.rest) same.0 ∙ ap (λ r. built k q.first r) rest ∙ sym q.is

all_within : (m : ℕ) (c : List Literal) → All (λ (l : Literal). l.var ≤ m) c → Within m c
all_within m [] h = tt
all_within m (l ∷ c) h = (h 0 l (omega arith), all_within m c (λ i d lt. h (suc i) d (omega arith)))

within_less : (m n : ℕ) (c : List Literal) → m ≤ n → Within m c → Within n c
within_less m n [] le h = tt
within_less m n (l ∷ c) le h = (let i = h.0 in omega arith, within_less m n c le h.1)

short : (k m : ℕ) (c : List Literal) → k ≤ m → Ascends k c → Within m c → length c + k ≤ m
short k m [] le a w = omega arith
short k m (l ∷ c) le a w = let h = short l.var m c w.0 a.1 w.1 in let i = a.0 in omega arith

-- lines by numbers

pub record IsFit (top most : ℕ) (line : Line) : Type 0 where
  pub group : line.group ≤ top
  pub ascends : Ascends 0 line.lits
  pub within : Within most line.lits

abbrev AllFit : ℕ → ℕ → List Line → Type 0
AllFit top most [] = Unit {0}
AllFit top most (l ∷ ls) = IsFit top most l × AllFit top most ls

abbrev line_code : ℕ → Line → ℕ
line_code most line = line.group * 3 ^ most + code 0 most line.lits

below_of : (most : ℕ) (line : Line) → Ascends 0 line.lits → Within most line.lits → code 0 most line.lits < 3 ^ most
below_of most line a w = code-below 0 most line.lits a (more_within most (0 + most) line.lits (omega arith) w)

apart_of : (most : ℕ) (c d : List Literal) → Ascends 0 c → Ascends 0 d → Within most c → Within most d → code 0 most c ≡ code 0 most d → c ≡ d
apart_of most c d a b w v e = code-apart 0 most c d a b (more_within most (0 + most) c (omega arith) w) (more_within most (0 + most) d (omega arith) v) e

line_code-below : (top most : ℕ) (line : Line) → IsFit top most line → line_code most line < 3 ^ most * (top + 1)
line_code-below top most line f =
    mul-add-lt line.group (3 ^ most) (code 0 most line.lits) (top + 1) (let g = f.group in omega arith) (below_of most line f.ascends f.within)

record OneLine (x y : Line) : Type 0 where
  group : x.group ≡ y.group
  lits : x.lits ≡ y.lits

line_code-apart : (top most : ℕ) (x y : Line) → IsFit top most x → IsFit top most y → line_code most x ≡ line_code most y → OneLine x y
line_code-apart top most x y f h e =
    let w : ℕ = 3 ^ most in
    let a : ℕ = code 0 most x.lits in
    let b : ℕ = code 0 most y.lits in
    let la : a < w = below_of most x f.ascends f.within in
    let lb : b < w = below_of most y h.ascends h.within in
    record {
      group = sym (div-mul-add x.group w a la) ∙ ap (λ n. n / w) e ∙ div-mul-add y.group w b lb;
      lits = apart_of most x.lits y.lits f.ascends h.ascends f.within h.within (sym (mod-mul-add x.group w a la) ∙ ap (λ n. n % w) e ∙ mod-mul-add y.group w b lb);
    }

unequal : (m n : ℕ) → (m ≡ n → ⊥) → eqb m n ≡ false
unequal m n ne = pick (eqb m n) refl
  where
    pick : (b : Bool) → eqb m n ≡ b → b ≡ false
    pick true e = absurd (ne (eqb-true m n e))
    pick false e = refl

module _ (top most : ℕ) where
  others : (x : Line) → IsFit top most x → (ls : List Line) → AllFit top most ls → ((m : ℕ) (y : Line) → slice_get ls m ≡ Some y → x.group ≡ y.group → x.lits ≡ y.lits → ⊥)
      → AllByRecursion (λ n. eqb (line_code most x) n ≡ false) (map (line_code most) ls)
  others x f [] h ne = tt
  others x f (y ∷ ls) h ne = (
    unequal (line_code most x) (line_code most y) (λ e. let o = line_code-apart top most x y f h.0 e in ne 0 y refl o.group o.lits),
    others x f ls h.1 (λ m. ne (suc m)),
  )

  distinct_codes : (ls : List Line) → AllFit top most ls → NoClauseTwice ls → IsDistinct eqb (map (line_code most) ls)
  unfolding IsDistinct
  distinct_codes [] h once = tt
  distinct_codes (x ∷ ls) h once = (
    others x h.0 ls h.1 (λ m y at g l. zero_suc m (once 0 (suc m) x y refl at g l)),
    distinct_codes ls h.1 (λ n m y z p q g l. down n m (once (suc n) (suc m) y z p q g l)),
  )
    where
      zero_suc : (m : ℕ) → 0 ≡ suc m → ⊥
      zero_suc m e = omega arith

      down : (n m : ℕ) → suc n ≡ suc m → n ≡ m
      down n m e = omega arith

  codes_below : (ls : List Line) → AllFit top most ls → (q : ℕ) → list_any (eqb q) (map (line_code most) ls) ≡ true → q < 3 ^ most * (top + 1)
  codes_below [] h q e = cc
  codes_below (x ∷ ls) h q e = pick (codes_below ls h.1 q) (eqb q (line_code most x)) refl e
    where
      pick : (list_any (eqb q) (map (line_code most) ls) ≡ true → q < 3 ^ most * (top + 1)) → (b : Bool) → eqb q (line_code most x) ≡ b → (b || list_any (eqb q) (map (line_code most) ls)) ≡ true → q < 3 ^ most * (top + 1)
      pick rest true t k = subst (λ n. n < 3 ^ most * (top + 1)) (sym (eqb-true q (line_code most x) t)) (line_code-below top most x h.0)
      pick rest false t k = rest k

  length-codes : (ls : List Line) → length (map (line_code most) ls) ≡ length ls
  length-codes [] = refl
  length-codes (x ∷ ls) = ap suc (length-codes ls)

  pub few_lines : (ls : List Line) → AllFit top most ls → NoClauseTwice ls → length ls ≤ 3 ^ most * (top + 1)
  few_lines ls h once =
      let le = length-le_from_distinct_below (map (line_code most) ls) (3 ^ most * (top + 1)) (distinct_codes ls h once) (codes_below ls h) in
      let e = length-codes ls in omega arith

  cheap : (ls : List Line) → AllFit top most ls → cost_of ls ≤ (most + 1) * length ls
  cheap [] h = omega arith
  cheap (x ∷ ls) h =
      let f = short 0 most x.lits (omega arith) (h.0).ascends (h.0).within in
      let g = cheap ls h.1 in
      let more = sum_by-cons line_cost x ls in
      omega arith

-- each line of a valid derivation fits
all_fit : (s : System) (most : ℕ) → HasAtMost s most → (ls : List Line) → ((k : ℕ) (line : Line) → slice_get ls k ≡ Some line → (line.group ≤ root s) × Ascends 0 line.lits × All (λ (l : Literal). l.var ≤ count s line.group) line.lits)
    → AllFit (root s) most ls
all_fit s most bound [] h = tt
all_fit s most bound (x ∷ ls) h =
    let one = h 0 x refl in (
      record { group = one.0; ascends = one.1; within = within_less (count s x.group) most x.lits (bound x.group one.0) (all_within (count s x.group) x.lits one.2) },
      all_fit s most bound ls (λ k. h (suc k)),
    )

square : (m : ℕ) → m + 1 ≤ (m + 2) ^ 2
square m = let e : (m + 2) ^ 2 ≡ (m + 2) * (m + 2) = pow-succ' (m + 2) 1 ∙ ap (λ x. (m + 2) * x) (pow-succ' (m + 2) 0 ∙ (let z : (m + 2) ^ 0 ≡ 1 = pow-zero (m + 2) in ap (λ x. (m + 2) * x) z ∙ omega arith)) in omega arith

pub cost_is_bounded : CostIsBounded
cost_is_bounded s V lines most valid once bound =
    let fit : AllFit (root s) most lines = all_fit s most bound lines (λ k line at. let r = valid (suc k) line at in (r.group, (r.clause).0, (r.clause).1)) in
    let w : ℕ = 3 ^ most in
    let g : ℕ = root s + 1 in
    let few : length lines ≤ w * g = few_lines (root s) most lines fit once in
    let cost : cost_of lines ≤ (most + 1) * length lines = cheap (root s) most lines fit in
    let up : (most + 1) * length lines ≤ (most + 1) * (w * g) = mul-le-mul_left (most + 1) few in
    let sq : (most + 1) * (w * g) ≤ (most + 2) ^ 2 * (w * g) = mul-le-mul_right (w * g) (square most) in
    let same : (most + 2) ^ 2 * (w * g) ≡ g * (most + 2) ^ 2 * w = shuffle ((most + 2) ^ 2) w g in
    omega arith
  where
    shuffle : (a w g : ℕ) → a * (w * g) ≡ g * a * w
    shuffle a w g = ap (λ x. a * x) (mul_comm w g) ∙ sym (mul_assoc a g w) ∙ ap (λ x. x * w) (mul_comm a g)

pub budget_suffices : BudgetSuffices
budget_suffices s V lines budget most bound enough spent =
    let le : cost_of lines ≤ most_cost (root s) most = cost_is_bounded s V lines most spent.valid spent.once bound in
    let over : budget < cost_of lines = spent.over in
    omega arith
