-- One turn of each loop of the parser, as a fact about what is read.
use Rattle.std.proofs.Common.{◌≡◌, ◌≤◌, ◌<◌, ◌+◌, ℕ, zero, suc, max, true, false, List, [], ◌∷◌, ◌++◌, length, refl, sym, ap, ◌∙◌, Option, Some, None, arith}
use Rattle.std.specs.Prelude.{codes, option_and_then, nat_le, if◌then◌else◌}
use Rattle.std.proofs.lemmas.Bool.{le-leb, leb-true}
use Rattle.c_tree.specs.declared.tree.Expr as code
use Rattle.c_tree.specs.Plain.{Expr, Exprs, no_exprs}
use Rattle.c_tree.specs.Plain as tree
use Rattle.c_tree.specs.View.{expr_view, exprs_view}
use Rattle.c_token.specs.declared.token.Token.{Token}
use Rattle.c_grammar.specs.Parts.{Part, Row}
use Rattle.c_grammar.specs.Exprs.{operation}
use Rattle.c_grammar.specs.Reading.{Front, after_mark}
use Rattle.c_grammar.specs.ReadExprs.{Reader, Found, Finder, operand_after, operations, Way, no_way, by_arrow, by_index, way, steps, more_args, some_args}
use Rattle.c_grammar.proofs.Fronts.{by_bool}
use Rattle.c_parser.specs.Below.{one_step, begins_step}

pub not_le : (m n : ℕ) → n < m → nat_le m n ≡ false
not_le m n less = by_bool (nat_le m n) (λ y. let low : m ≤ n = leb-true m n y in absurd (omega arith)) (λ f. f)

-- operators
pub operations_end : (n : ℕ) (found : Finder) (read : Reader) (d : ℕ) (l : Part Expr) → found l.rest ≡ None → operations n found read d l ≡ Some l
operations_end zero found read d l none = rw none refl
operations_end (suc n) found read d l none = rw none refl

pub operations_refused : (n : ℕ) (found : Finder) (read : Reader) (d : ℕ) (l : Part Expr) (f : Found) → found l.rest ≡ Some f
    → operand_after read d l f ≡ None → operations n found read d l ≡ None
operations_refused zero found read d l f is none = rw (is, none) refl
operations_refused (suc n) found read d l f is none = rw (is, none) refl

pub operand_deep : (read : Reader) (d : ℕ) (l : Part Expr) (f : Found) → d < l.depth → operand_after read d l f ≡ None
operand_deep read d l f deep = let test = not_le l.depth d deep in rw test refl

pub operand_refused : (read : Reader) (d : ℕ) (l : Part Expr) (f : Found) → l.depth ≤ d → read f.rest ≡ None → operand_after read d l f ≡ None
operand_refused read d l f low none = let test : nat_le l.depth d ≡ true = le-leb l.depth d low in rw (test, none) refl

pub operand_taken : (read : Reader) (d : ℕ) (l r : Part Expr) (f : Found) → l.depth ≤ d → read f.rest ≡ Some r → operand_after read d l f ≡ Some (operation f.op l r)
operand_taken read d l r f low some = let test : nat_le l.depth d ≡ true = le-leb l.depth d low in rw (test, some) refl

pub operations_more : (n : ℕ) (found : Finder) (read : Reader) (d : ℕ) (l p : Part Expr) (f : Found) → suc d ≤ n + l.depth → l.depth < p.depth → p.depth ≤ suc d
    → found l.rest ≡ Some f → operand_after read d l f ≡ Some p → (k : ℕ) × (suc d ≤ k + p.depth) × (operations k found read d p ≡ operations n found read d l)
operations_more zero found read d l p f enough deeper within is some = absurd (omega arith)
operations_more (suc n) found read d l p f enough deeper within is some = (n, omega arith, rw (is, some) refl)

-- steps of a postfix
abbrev pub next_steps : ℕ → Reader → ℕ → Part Expr → Option (Part Expr)
next_steps zero read d = λ q. None
next_steps (suc n) read d = steps n read d

pub steps_end : (n : ℕ) (read : Reader) (d : ℕ) (p : Part Expr) → begins_step p.rest ≡ false → steps n read d p ≡ Some p
steps_end n read d p none = go n (way p.rest) refl
  where
    go : (m : ℕ) (w : Way) → way p.rest ≡ w → steps m read d p ≡ Some p
    go zero no_way is = rw is refl
    go (suc m) no_way is = rw is refl
    go m (by_arrow q) is = let never : true ≡ false = rw is at none in cc
    go m (by_index q) is = let never : true ≡ false = rw is at none in cc

-- where a step begins, it is taken unless what it follows is too deep
pub steps_by : (n : ℕ) (read : Reader) (d : ℕ) (p : Part Expr) → begins_step p.rest ≡ true
    → steps n read d p ≡ option_and_then (next_steps n read d) (if nat_le p.depth d then one_step read p else None)
steps_by n read d p begins = go n (way p.rest) refl
  where
    go : (m : ℕ) (w : Way) → way p.rest ≡ w → steps m read d p ≡ option_and_then (next_steps m read d) (if nat_le p.depth d then one_step read p else None)
    go m no_way is = let never : false ≡ true = rw is at begins in cc
    go zero (by_arrow q) is = rw is refl
    go (suc m) (by_arrow q) is = rw is refl
    go zero (by_index q) is = rw is refl
    go (suc m) (by_index q) is = rw is refl

pub steps_deep : (n : ℕ) (read : Reader) (d : ℕ) (p : Part Expr) → begins_step p.rest ≡ true → d < p.depth → steps n read d p ≡ None
steps_deep n read d p begins deep = let test = not_le p.depth d deep in steps_by n read d p begins ∙ rw test refl

pub steps_refused : (n : ℕ) (read : Reader) (d : ℕ) (p : Part Expr) → begins_step p.rest ≡ true → p.depth ≤ d → one_step read p ≡ None → steps n read d p ≡ None
steps_refused n read d p begins low none = let test : nat_le p.depth d ≡ true = le-leb p.depth d low in steps_by n read d p begins ∙ rw (test, none) refl

pub steps_more : (n : ℕ) (read : Reader) (d : ℕ) (p q : Part Expr) → suc d ≤ n + p.depth → p.depth < q.depth → q.depth ≤ suc d
    → begins_step p.rest ≡ true → p.depth ≤ d → one_step read p ≡ Some q → (k : ℕ) × (suc d ≤ k + q.depth) × (steps k read d q ≡ steps n read d p)
steps_more zero read d p q enough deeper within begins low some = absurd (omega arith)
steps_more (suc n) read d p q enough deeper within begins low some =
    let test : nat_le p.depth d ≡ true = le-leb p.depth d low in
    (n, omega arith, sym (steps_by (suc n) read d p begins ∙ rw (test, some) refl))

-- arguments
abbrev pub joined : Exprs → Exprs → Exprs
joined no_exprs es = es
joined (tree.expr d ds) es = tree.expr d (joined ds es)

-- arguments before others, with the depth of the deepest
abbrev pub prepended : Exprs → ℕ → Row Exprs → Option (Row Exprs)
prepended es h a = Some (record { tree = joined es a.tree; depth = max h a.depth; rest = a.rest })

pub joined_one : (es as' : Exprs) (e : Expr) → joined es (tree.expr e as') ≡ joined (joined es (tree.expr e no_exprs)) as'
joined_one no_exprs as' e = refl
joined_one (tree.expr d ds) as' e = ap (tree.expr d) (joined_one ds as' e)

pub view_one : (es : List code.Expr) (e : code.Expr) → exprs_view (es ++ e ∷ []) ≡ joined (exprs_view es) (tree.expr (expr_view e) no_exprs)
view_one [] e = refl
view_one (d ∷ ds) e = ap (tree.expr (expr_view d)) (view_one ds e)

pub prepended_none : (o : Option (Row Exprs)) → option_and_then (prepended no_exprs 0) o ≡ o
prepended_none None = refl
prepended_none (Some a) = let deep : max 0 a.depth ≡ a.depth = omega arith in rw deep refl

prepended_more : (es : Exprs) (h : ℕ) (p : Part Expr) (o : Option (Row Exprs))
    → option_and_then (prepended es h) (option_and_then (more_args p) o) ≡ option_and_then (prepended (joined es (tree.expr p.tree no_exprs)) (max p.depth h)) o
prepended_more es h p None = refl
prepended_more es h p (Some a) =
    let deep : max h (max p.depth a.depth) ≡ max (max p.depth h) a.depth = omega arith in
    let trees = joined_one es a.tree p.tree in
    rw (deep, trees) refl

pub args_more : (n : ℕ) (read : Reader) (es : Exprs) (h : ℕ) (ts : List Token) (p : Part Expr) (q : Front) → length ts ≤ n → length q.rest < length ts
    → read ts ≡ Some p → after_mark (codes ",") p.rest ≡ Some q
    → (k : ℕ) × (length q.rest ≤ k)
    × (option_and_then (prepended es h) (some_args n read ts) ≡ option_and_then (prepended (joined es (tree.expr p.tree no_exprs)) (max p.depth h)) (some_args k read q.rest))
args_more zero read es h ts p q enough less is comma = absurd (omega arith)
args_more (suc n) read es h ts p q enough less is comma = (n, omega arith, rw (is, comma) (prepended_more es h p (some_args n read q.rest)))

pub args_last : (n : ℕ) (read : Reader) (es : Exprs) (h : ℕ) (ts : List Token) (p : Part Expr) → 0 < n
    → read ts ≡ Some p → after_mark (codes ",") p.rest ≡ None
    → option_and_then (prepended es h) (some_args n read ts) ≡ Some (record { tree = joined es (tree.expr p.tree no_exprs); depth = max p.depth h; rest = p.rest })
args_last zero read es h ts p enough is comma = absurd (omega arith)
args_last (suc n) read es h ts p enough is comma = let deep : max h p.depth ≡ max p.depth h = omega arith in rw (is, comma, deep) refl

pub args_refused : (n : ℕ) (read : Reader) (ts : List Token) → read ts ≡ None → some_args n read ts ≡ None
args_refused zero read ts none = refl
args_refused (suc n) read ts none = rw none refl
