-- What is spelled goes on being read: which operators may follow, and the loops over operands and steps.
use Rattle.std.proofs.Common.{◌≡◌, ◌≤◌, ◌<◌, ◌+◌, ℕ, zero, suc, true, false, List, [], ◌∷◌, refl, sym, ap, ◌∙◌, Option, Some, None, arith}
use Rattle.std.specs.Prelude.{codes, bytes_eq, nat_le, ◌==◌, if◌then◌else◌}
use Rattle.std.proofs.lemmas.Bool.{eqb-true, le-leb, eq-eqb}
use Rattle.std.proofs.lemmas.Slice.Eq.{bytes_eq-Decides}
use Rattle.c_tree.specs.declared.tree.BinaryOp.{BinaryOp}
use Rattle.c_tree.specs.Plain.{Expr}
use Rattle.c_token.specs.declared.token.Token.{Token}
use Rattle.c_token.specs.declared.token.TokenKind.{TokenKind}
use Rattle.c_token.specs.declared.token.TokenKind.TheVariants as kind
use Rattle.c_grammar.specs.Parts.{Part, Next}
use Rattle.c_grammar.specs.Exprs.{Operator, operator, operator_of, operation, arrowed, indexed}
use Rattle.c_grammar.specs.Reading.{is_mark, after_mark}
use Rattle.c_grammar.specs.ReadExprs.{Reader, Found, find, Finder, operations, no_way, by_index, way, steps}
use Rattle.c_grammar.proofs.Fronts.{by_bool, by_option, is_mark_true, next_mark, next_name}

abbrev rank_op : Option Operator → ℕ
rank_op None = 8
rank_op (Some o) = suc o.line

-- how loosely the token goes on what stands before it: `(` after a name, the steps of a postfix, the operators by line, and the others
abbrev pub rank_of : TokenKind → ℕ
rank_of (kind.Mark m) = if bytes_eq m (codes "(") then 0 else (if bytes_eq m (codes "->") then 1 else (if bytes_eq m (codes "[") then 1 else rank_op (operator_of m)))
rank_of _ = 8

abbrev pub rank : List Token → ℕ
rank [] = 8
rank (t ∷ ts) = rank_of t.kind

pub next_rank : (k : TokenKind) (ts us : List Token) (t : Token) → Next k ts t us → rank ts ≡ rank_of k
next_rank k ts us t n = rw (n.0, n.1) refl

no_operator : (m w : List ℕ) (o : Operator) → operator_of w ≡ None → operator_of m ≡ Some o → bytes_eq m w ≡ false
no_operator m w o none some = by_bool (bytes_eq m w)
    (λ yes'. let same : m ≡ w = (bytes_eq-Decides m w).0 yes' in let wrong : None ≡ Some o = sym none ∙ (ap operator_of (sym same) ∙ some) in cc)
    (λ no'. no')

pub operator_rank : (k : TokenKind) (o : Operator) → operator k ≡ Some o → rank_of k ≡ suc o.line
operator_rank (kind.Mark m) o e =
    let a = no_operator m (codes "(") o refl e in
    let b = no_operator m (codes "->") o refl e in
    let c = no_operator m (codes "[") o refl e in
    rw (a, b, c, e) refl
operator_rank _ o e = cc

-- an operator of a looser line, or none
pub find_none : (k : ℕ) (ts : List Token) → suc k < rank ts → find k ts ≡ None
find_none k [] low = refl
find_none k (t ∷ ts) low = by_option (operator t.kind)
    (λ o is. let r = operator_rank t.kind o is in by_bool (o.line == k)
    (λ yes'. let same : o.line ≡ k = eqb-true o.line k yes' in absurd (omega arith))
    (λ no'. rw (is, no') refl))
    (λ none. rw none refl)

pub find_some : (k : ℕ) (t : Token) (o : BinaryOp) (ts us : List Token) → ts ≡ t ∷ us → operator t.kind ≡ Some (record { line = k; op = o })
    → find k ts ≡ Some (record { op = o; rest = us })
find_some k t o ts us split is = let same : (k == k) ≡ true = eq-eqb k k refl in rw (split, is, same) refl

pub mark_none : (m : List ℕ) (n : ℕ) (ts : List Token) → rank_of (kind.Mark m) ≤ n → n < rank ts → after_mark m ts ≡ None
mark_none m n [] low high = refl
mark_none m n (t ∷ ts) low high = by_bool (is_mark m t.kind)
    (λ yes'. let same = ap rank_of (is_mark_true m t.kind yes') in absurd (omega arith))
    (λ no'. rw no' refl)

pub way_none : (ts : List Token) → 1 < rank ts → way ts ≡ no_way
way_none ts high =
    let a = mark_none (codes "->") 1 ts (omega arith) high in
    let b = mark_none (codes "[") 1 ts (omega arith) high in
    rw (a, b) refl

-- the loop over operands
pub operations_done : (n : ℕ) (found : Finder) (read : Reader) (d : ℕ) (l : Part Expr) → found l.rest ≡ None → operations n found read d l ≡ Some l
operations_done zero found read d l none = rw none refl
operations_done (suc n) found read d l none = rw none refl

pub operations_go : (n : ℕ) (found : Finder) (read : Reader) (d : ℕ) (l r : Part Expr) (f : Found) → suc d ≤ n + l.depth → l.depth ≤ d → r.depth ≤ d
    → found l.rest ≡ Some f → read f.rest ≡ Some r
    → (k : ℕ) × (suc d ≤ k + (operation f.op l r).depth) × (operations n found read d l ≡ operations k found read d (operation f.op l r))
operations_go zero found read d l r f enough low low_r is one = absurd (omega arith)
operations_go (suc n) found read d l r f enough low low_r is one =
    let test : nat_le l.depth d ≡ true = le-leb l.depth d low in
    (n, omega arith, rw (is, test, one) refl)

-- the loop over steps
pub steps_done : (n : ℕ) (read : Reader) (d : ℕ) (p : Part Expr) → way p.rest ≡ no_way → steps n read d p ≡ Some p
steps_done zero read d p none = rw none refl
steps_done (suc n) read d p none = rw none refl

pub arrow_goes : (n : ℕ) (read : Reader) (d : ℕ) (p : Part Expr) (t m : Token) (us vs : List Token) (f : List ℕ) → suc d ≤ n + p.depth → p.depth ≤ d
    → Next (kind.Mark (codes "->")) p.rest t us → Next (kind.Name f) us m vs
    → (k : ℕ) × (suc d ≤ k + (arrowed p m f vs).depth) × (steps n read d p ≡ steps k read d (arrowed p m f vs))
arrow_goes zero read d p t m us vs f enough low x y = absurd (omega arith)
arrow_goes (suc n) read d p t m us vs f enough low x y =
    let test : nat_le p.depth d ≡ true = le-leb p.depth d low in
    (n, omega arith, rw (next_mark _ p.rest us t x, test, next_name f us vs m y) refl)

bracket_way : (ts us : List Token) (t : Token) → Next (kind.Mark (codes "[")) ts t us → way ts ≡ by_index (record { token = t; rest = us })
bracket_way ts us t n = rw (n.0, n.1) refl

pub index_goes : (n : ℕ) (read : Reader) (d : ℕ) (p i : Part Expr) (t c : Token) (us vs : List Token) → suc d ≤ n + p.depth → p.depth ≤ d → i.depth ≤ d
    → Next (kind.Mark (codes "[")) p.rest t us → read us ≡ Some i → Next (kind.Mark (codes "]")) i.rest c vs
    → (k : ℕ) × (suc d ≤ k + (indexed p i c vs).depth) × (steps n read d p ≡ steps k read d (indexed p i c vs))
index_goes zero read d p i t c us vs enough low low_i x one y = absurd (omega arith)
index_goes (suc n) read d p i t c us vs enough low low_i x one y =
    let test : nat_le p.depth d ≡ true = le-leb p.depth d low in
    (n, omega arith, rw (bracket_way p.rest us t x, test, one, next_mark _ i.rest vs c y) refl)
