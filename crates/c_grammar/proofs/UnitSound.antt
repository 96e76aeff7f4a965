-- What is read of a unit and of arguments is spelled so.
use Rattle.std.proofs.Common.{◌≡◌, ◌≤◌, ◌<◌, ℕ, zero, suc, true, false, List, ◌∷◌, sym, subst, Option, Some, None, arith}
use Rattle.std.specs.Prelude.{option_and_then, codes}
use Rattle.c_tree.specs.declared.tree.Unit.{Unit as Measured}
use Rattle.c_tree.specs.declared.tree.Unit.TheVariants as measured
use Rattle.c_tree.specs.Plain.{Expr, Exprs}
use Rattle.c_token.specs.declared.token.Token.{Token}
use Rattle.c_token.specs.declared.token.TokenKind.TheVariants as kind
use Rattle.c_grammar.specs.Parts.{Part, Row, Next}
use Rattle.c_grammar.specs.Exprs.{IsUnit, Args, SomeArgs, Line, expr_line}
use Rattle.c_grammar.specs.Exprs as grammar
use Rattle.c_grammar.specs.Reading.{after_mark, after_word, after_name, read_base}
use Rattle.c_grammar.specs.ReadExprs.{Reader, Group, group, unit_behind, unit_type, unit_enclosed, unit_after, read_unit, more_args, args_after, some_args, args_closed, read_args}
use Rattle.c_grammar.proofs.Fronts.{binding, by_option, given, mark_next, word_next, name_next}
use Rattle.c_grammar.proofs.TypeSound.{base_sound}

-- a unit that is not deeper than this
abbrev pub FitsUnit : ℕ → List Token → Row Measured → Type 0
FitsUnit limit ts u = IsUnit ts u × (u.depth ≤ limit)

type_sound : (limit : ℕ) (t opening : Token) (ts us : List Token) (u : Row Measured) → t.kind ≡ kind.Word (codes "sizeof")
    → Next (kind.Mark (codes "(")) ts opening us → 0 < limit → option_and_then unit_type (read_base us) ≡ Some u → FitsUnit limit (t ∷ ts) u
type_sound limit t opening ts us u is first low e = binding (read_base us) unit_type u e (λ b read closed.
    binding (after_mark (codes ")") b.rest) (λ q. Some (record { tree = b.tree; depth = 1; rest = q.rest })) u closed (λ q end made.
    given (FitsUnit limit (t ∷ ts)) _ u made
    (grammar.type t opening q.token ts us q.rest b is first (base_sound us b read) (mark_next (codes ")") b.rest q end), omega arith)))

behind_enclosed_sound : (limit : ℕ) (t opening star : Token) (ts us vs : List Token) (u : Row Measured) → t.kind ≡ kind.Word (codes "sizeof")
    → Next (kind.Mark (codes "(")) ts opening us → Next (kind.Mark (codes "*")) us star vs → 0 < limit
    → option_and_then (unit_behind true) (after_name vs) ≡ Some u → FitsUnit limit (t ∷ ts) u
behind_enclosed_sound limit t opening star ts us vs u is first second low e = binding (after_name vs) (unit_behind true) u e (λ n named closed.
    binding (after_mark (codes ")") n.rest) (λ q. Some (record { tree = measured.Behind n.name; depth = 1; rest = q.rest })) u closed (λ q end made.
    given (FitsUnit limit (t ∷ ts)) _ u made
    (grammar.behind_enclosed t opening star n.token q.token ts us vs n.rest q.rest n.name is first second (name_next vs n named) (mark_next (codes ")") n.rest q end), omega arith)))

enclosed_sound : (limit : ℕ) (t opening : Token) (ts us : List Token) (u : Row Measured) → t.kind ≡ kind.Word (codes "sizeof")
    → Next (kind.Mark (codes "(")) ts opening us → unit_enclosed limit us ≡ Some u → FitsUnit limit (t ∷ ts) u
enclosed_sound zero t opening ts us u is first e = cc
enclosed_sound (suc d) t opening ts us u is first e = by_option (after_mark (codes "*") us)
    (λ q star. behind_enclosed_sound (suc d) t opening q.token ts us q.rest u is first (mark_next (codes "*") us q star) (omega arith) (rw star at e))
    (λ none. type_sound (suc d) t opening ts us u is first (omega arith) (rw none at e))

behind_sound : (limit : ℕ) (t : Token) (ts : List Token) (u : Row Measured) → t.kind ≡ kind.Word (codes "sizeof")
    → unit_after limit ts None ≡ Some u → FitsUnit limit (t ∷ ts) u
behind_sound limit t ts u is e = binding (after_mark (codes "*") ts) (λ q. option_and_then (unit_behind false) (after_name q.rest)) u e (λ q star named.
    binding (after_name q.rest) (unit_behind false) u named (λ n name made.
    given (FitsUnit limit (t ∷ ts)) _ u made
    (grammar.behind t q.token n.token ts q.rest n.rest n.name is (mark_next (codes "*") ts q star) (name_next q.rest n name), omega arith)))

pub unit_sound : (limit : ℕ) (ts : List Token) (u : Row Measured) → read_unit limit ts ≡ Some u → FitsUnit limit ts u
unit_sound limit ts u e = binding (after_word (codes "sizeof") ts) (λ q. unit_after limit q.rest (after_mark (codes "(") q.rest)) u e (λ q word read.
    let n = word_next (codes "sizeof") ts q word in
    subst (λ (us : List Token). FitsUnit limit us u) (sym n.0) (by_option (after_mark (codes "(") q.rest)
    (λ f opening. enclosed_sound limit q.token f.token q.rest f.rest u n.1 (mark_next (codes "(") q.rest f opening) (rw opening at read))
    (λ none. behind_sound limit q.token q.rest u n.1 (rw none at read))))

-- a reading of expressions that are not deeper than this
abbrev pub IsSoundAt : ℕ → ℕ → Reader → Type 0
IsSoundAt k d read = (ts : List Token) (p : Part Expr) → read ts ≡ Some p → Line k ts p × (p.depth ≤ d)

abbrev FitsArgs : ℕ → List Token → Row Exprs → Type 0
FitsArgs d ts a = SomeArgs ts a × (a.depth ≤ d)

args_after_sound : (d : ℕ) (ts : List Token) (p : Part Expr) (a : Row Exprs) (next : List Token → Option (Row Exprs))
    → ((us : List Token) (b : Row Exprs) → next us ≡ Some b → FitsArgs d us b) → Line expr_line ts p → p.depth ≤ d
    → args_after next p (after_mark (codes ",") p.rest) ≡ Some a → FitsArgs d ts a
args_after_sound d ts p a next sound line low e = by_option (after_mark (codes ",") p.rest)
    (λ q comma. binding (next q.rest) (more_args p) a (rw comma at e) (λ b read made.
    let s = sound q.rest b read in
    let low_b = s.1 in
    given (FitsArgs d ts) _ a made (grammar.SomeArgs.more ts q.rest q.token p b line (mark_next (codes ",") p.rest q comma) s.0, omega arith)))
    (λ none. given (FitsArgs d ts) _ a (rw none at e) (grammar.SomeArgs.last ts p line, low))

some_args_sound : (k d : ℕ) (read : Reader) → IsSoundAt expr_line d read → (ts : List Token) (a : Row Exprs) → some_args k read ts ≡ Some a → FitsArgs d ts a
some_args_sound zero d read sound ts a e = cc
some_args_sound (suc k) d read sound ts a e = binding (read ts) (λ p. args_after (some_args k read) p (after_mark (codes ",") p.rest)) a e (λ p one rest.
    let s = sound ts p one in
    args_after_sound d ts p a (some_args k read) (some_args_sound k d read sound) s.0 s.1 rest)

-- arguments in their parentheses
pub record IsGroup (d : ℕ) (ts : List Token) (g : Group Exprs) : Type 0 where
  pub opening : Token
  pub inner : List Token
  pub opens : Next (kind.Mark (codes "(")) ts opening inner
  pub args : Args inner g.row
  pub closes : Next (kind.Mark (codes ")")) g.row.rest g.closing g.rest
  pub within : suc g.row.depth ≤ d

pub args_sound : (d : ℕ) (read : Reader) → IsSoundAt expr_line d read → (ts : List Token) (g : Group Exprs) → read_args read ts ≡ Some g → IsGroup (suc d) ts g
args_sound d read sound ts g e = binding (after_mark (codes "(") ts) _ g e (λ q first rest.
    by_option (after_mark (codes ")") q.rest)
    (λ c end. given (IsGroup (suc d) ts) _ g (rw end at rest) (record {
      opening = q.token;
      inner = q.rest;
      opens = mark_next (codes "(") ts q first;
      args = grammar.Args.none q.rest;
      closes = mark_next (codes ")") q.rest c end;
      within = omega arith;
    }))
    (λ none. binding (some_args _ read q.rest) args_closed g (rw none at rest) (λ a some closed.
    let s = some_args_sound _ d read sound q.rest a some in
    binding (after_mark (codes ")") a.rest) (group a) g closed (λ c end made.
    given (IsGroup (suc d) ts) _ g made (record {
      opening = q.token;
      inner = q.rest;
      opens = mark_next (codes "(") ts q first;
      args = grammar.Args.some q.rest a s.0;
      closes = mark_next (codes ")") a.rest c end;
      within = let low = s.1 in omega arith;
    })))))
