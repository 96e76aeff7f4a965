-- What is read of a simple statement is spelled so.
use Rattle.std.proofs.Common.{◌≡◌, ◌≤◌, ◌<◌, ℕ, zero, suc, Bool, true, false, List, [], ◌∷◌, refl, sym, ap, subst, ◌∙◌, inl, inr, Option, Some, None, arith}
use Rattle.std.specs.Prelude.{option_and_then, codes, ◌⊎◌, nat_lt}
use Rattle.std.proofs.lemmas.Bool.{ltb-true}
use Rattle.c_tree.specs.declared.position.Span.{Span}
use Rattle.c_tree.specs.declared.tree.BinaryOp.{BinaryOp}
use Rattle.c_tree.specs.declared.tree.BinaryOp.TheVariants as op
use Rattle.c_tree.specs.Plain.{Expr, Exprs, Stmt, Stmts}
use Rattle.c_tree.specs.Plain as tree
use Rattle.c_token.specs.declared.token.Token.{Token}
use Rattle.c_token.specs.declared.token.TokenKind.TheVariants as kind
use Rattle.c_grammar.specs.Parts.{Part, Next}
use Rattle.c_grammar.specs.Exprs.{Line, Postfix, Primary, Call, arrowed, indexed, expr_line}
use Rattle.c_grammar.specs.Exprs as exprs
use Rattle.c_grammar.specs.Stmts.{IsTarget, IsPath, Simple, Enclosed, assigned, stepped, holding, freed}
use Rattle.c_grammar.specs.Stmts as grammar
use Rattle.c_grammar.specs.Reading.{is_word, Front, after_mark}
use Rattle.c_grammar.specs.ReadExprs.{Reader, stage, read_primary, steps, steps_at, step_by, Way, no_way, by_arrow, by_index, way}
use Rattle.c_grammar.specs.ReadStmts.{is_path, Change, by_assign, by_one, no_change, change, step_one, changed, from_target, from_tree, from_way, from_primary, is_name, free_closed, read_simple, read_enclosed}
use Rattle.c_grammar.proofs.Fronts.{binding, by_bool, by_option, given, is_word_true, mark_next}
use Rattle.c_grammar.proofs.Begins.{begins}
use Rattle.c_grammar.proofs.LineSound.{FitsPostfix, steps_keep, arrow_fits, index_fits}
use Rattle.c_grammar.proofs.PrimarySound.{primary_sound}
use Rattle.c_grammar.proofs.StageSound.{stage_sound}
use Rattle.c_grammar.proofs.LocalSound.{enclosed_sound}

-- the loop ends where no step comes
steps_at_ended : (read : Reader) (d : ℕ) (next : Part Expr → Option (Part Expr)) (p q : Part Expr) → ((r : Part Expr) → next r ≡ Some q → way q.rest ≡ no_way)
    → (w : Way) → way p.rest ≡ w → steps_at next read d p w ≡ Some q → way q.rest ≡ no_way
steps_at_ended read d next p q again no_way is e = given (λ (r : Part Expr). way r.rest ≡ no_way) p q e is
steps_at_ended read d next p q again (by_arrow f) is e = binding (step_by read d p (by_arrow f)) next q e (λ r one rest. again r rest)
steps_at_ended read d next p q again (by_index f) is e = binding (step_by read d p (by_index f)) next q e (λ r one rest. again r rest)

pub steps_ended : (n : ℕ) (read : Reader) (d : ℕ) (p q : Part Expr) → steps n read d p ≡ Some q → way q.rest ≡ no_way
steps_ended zero read d p q e = steps_at_ended read d (λ r. None) p q (λ r never. cc) (way p.rest) refl e
steps_ended (suc n) read d p q e = steps_at_ended read d (steps n read d) p q (λ r rest. steps_ended n read d r q rest) (way p.rest) refl e

-- a primary that begins with a name is that name or a call
name_primary : (ts : List Token) (p : Part Expr) (at : Span) (x : List ℕ) → Primary ts p → begins is_name ts ≡ true → p.tree ≡ tree.name at x → IsTarget ts p × IsPath ts p
name_primary ts p at x (exprs.Primary.number t us z is) named same = let wrong = rw is at named in cc
name_primary ts p at x (exprs.Primary.char t us z is) named same = let wrong = rw is at named in cc
name_primary ts p at x (exprs.Primary.string t us z is) named same = let wrong = rw is at named in cc
name_primary ts p at x (exprs.Primary.null t us is) named same = let wrong = rw is at named in cc
name_primary ts p at x (exprs.Primary.name t us y is) named same = (grammar.IsTarget.name t us y is, grammar.IsPath.name t us y is)
name_primary ts p at x (exprs.Primary.call us q (exprs.call_of t o c f vs ws xs a is y z w)) named same = cc
name_primary ts p at x (exprs.Primary.new us q (exprs.New.plain vs a (exprs.malloc t o c ws xs ys r is y z w))) named same = let wrong = rw is at named in cc
name_primary ts p at x (exprs.Primary.new us q (exprs.New.plain vs a (exprs.calloc t o m c ws xs ys zs r u is y z w e f))) named same = let wrong = rw is at named in cc
name_primary ts p at x (exprs.Primary.new us q (exprs.New.plain vs a (exprs.calloc_bytes t o m n c ws xs ys zs as' r is y z w e f))) named same = let wrong = rw is at named in cc
name_primary ts p at x (exprs.Primary.new us q (exprs.New.cast o c vs ws xs b s k a is y z w e f)) named same = let wrong = rw is at named in cc
name_primary ts p at x (exprs.Primary.enclosed o c us vs q is y z) named same = let wrong = rw is at named in cc

call_primary : (ts : List Token) (p : Part Expr) (at : Span) (x : List ℕ) (es : Exprs) → Primary ts p → begins is_name ts ≡ true → p.tree ≡ tree.call at x es → Call ts p
call_primary ts p at x es (exprs.Primary.number t us z is) named same = let wrong = rw is at named in cc
call_primary ts p at x es (exprs.Primary.char t us z is) named same = let wrong = rw is at named in cc
call_primary ts p at x es (exprs.Primary.string t us z is) named same = let wrong = rw is at named in cc
call_primary ts p at x es (exprs.Primary.null t us is) named same = let wrong = rw is at named in cc
call_primary ts p at x es (exprs.Primary.name t us y is) named same = cc
call_primary ts p at x es (exprs.Primary.call us q from) named same = from
call_primary ts p at x es (exprs.Primary.new us q (exprs.New.plain vs a (exprs.malloc t o c ws xs ys r is y z w))) named same = let wrong = rw is at named in cc
call_primary ts p at x es (exprs.Primary.new us q (exprs.New.plain vs a (exprs.calloc t o m c ws xs ys zs r u is y z w e f))) named same = let wrong = rw is at named in cc
call_primary ts p at x es (exprs.Primary.new us q (exprs.New.plain vs a (exprs.calloc_bytes t o m n c ws xs ys zs as' r is y z w e f))) named same = let wrong = rw is at named in cc
call_primary ts p at x es (exprs.Primary.new us q (exprs.New.cast o c vs ws xs b s k a is y z w e f)) named same = let wrong = rw is at named in cc
call_primary ts p at x es (exprs.Primary.enclosed o c us vs q is y z) named same = let wrong = rw is at named in cc

no_arrow : {X : Type 0} (ts : List Token) (p : Part Expr) (at : Span) (b : Expr) (f : List ℕ) → Primary ts p → begins is_name ts ≡ true → p.tree ≡ tree.arrow at b f → X
no_arrow ts p at b f (exprs.Primary.number t us z is) named same = let wrong = rw is at named in cc
no_arrow ts p at b f (exprs.Primary.char t us z is) named same = let wrong = rw is at named in cc
no_arrow ts p at b f (exprs.Primary.string t us z is) named same = let wrong = rw is at named in cc
no_arrow ts p at b f (exprs.Primary.null t us is) named same = let wrong = rw is at named in cc
no_arrow ts p at b f (exprs.Primary.name t us y is) named same = absurd cc
no_arrow ts p at b f (exprs.Primary.call us q (exprs.call_of t o c g vs ws xs a is y z w)) named same = absurd cc
no_arrow ts p at b f (exprs.Primary.new us q (exprs.New.plain vs a (exprs.malloc t o c ws xs ys r is y z w))) named same = let wrong = rw is at named in cc
no_arrow ts p at b f (exprs.Primary.new us q (exprs.New.plain vs a (exprs.calloc t o m c ws xs ys zs r u is y z w e g))) named same = let wrong = rw is at named in cc
no_arrow ts p at b f (exprs.Primary.new us q (exprs.New.plain vs a (exprs.calloc_bytes t o m n c ws xs ys zs as' r is y z w e g))) named same = let wrong = rw is at named in cc
no_arrow ts p at b f (exprs.Primary.new us q (exprs.New.cast o c vs ws xs d s k a is y z w e g)) named same = let wrong = rw is at named in cc
no_arrow ts p at b f (exprs.Primary.enclosed o c us vs q is y z) named same = let wrong = rw is at named in cc

-- which change comes
assign_next : (ts : List Token) (q : Front) → change ts ≡ by_assign q → Next (kind.Mark (codes "=")) ts q.token q.rest
assign_next ts q e = by_option (after_mark (codes "=") ts)
    (λ f is. let s : by_assign f ≡ by_assign q = rw is at e in let same : f ≡ q = cc in subst (λ (g : Front). Next (kind.Mark (codes "=")) ts g.token g.rest) same (mark_next (codes "=") ts f is))
    (λ none. let e' = rw none at e in by_option (after_mark (codes "++") ts)
    (λ f is. let wrong : by_one op.Add f ≡ by_assign q = rw is at e' in cc)
    (λ none'. let e'' = rw none' at e' in by_option (after_mark (codes "--") ts)
    (λ f is. let wrong : by_one op.Sub f ≡ by_assign q = rw is at e'' in cc)
    (λ none''. let wrong : no_change ≡ by_assign q = rw none'' at e'' in cc)))

data IsOne (ts : List Token) (q : Front) : BinaryOp → Type 0 where
  more : Next (kind.Mark (codes "++")) ts q.token q.rest → IsOne ts q op.Add
  less : Next (kind.Mark (codes "--")) ts q.token q.rest → IsOne ts q op.Sub

abbrev Ones : List Token → Change → Type 0
Ones ts (by_one o q) = IsOne ts q o
Ones ts _ = Unit {0}

one_next : (ts : List Token) → Ones ts (change ts)
one_next ts = by_option (after_mark (codes "=") ts)
    (λ f is. rw is tt)
    (λ none. by_option (after_mark (codes "++") ts)
    (λ f is. rw (none, is) (more (mark_next (codes "++") ts f is)))
    (λ none'. by_option (after_mark (codes "--") ts)
    (λ f is. rw (none, none', is) (less (mark_next (codes "--") ts f is)))
    (λ none''. rw (none, none', none'') tt)))

abbrev pub FitsSimple : ℕ → List Token → Part Stmt → Type 0
FitsSimple d ts p = Simple ts p × (p.depth ≤ d)

pub path_deep : (ts : List Token) (p : Part Expr) → IsPath ts p → 0 < p.depth
path_deep ts p (grammar.IsPath.name t us x is) = omega arith
path_deep ts p (grammar.IsPath.arrow us vs ws t n f q from x y) = omega arith

module _ (e : ℕ) (ts : List Token) where
  step_one_sound : (p : Part Expr) (q : Part Stmt) (o : BinaryOp) (f : Front) → IsPath ts p → IsOne p.rest f o → step_one (suc e) p o f ≡ Some q
      → FitsSimple (suc (suc e)) ts q
  step_one_sound p q o f path (more next) is = by_bool (nat_lt p.depth (suc e))
      (λ test. let low : p.depth < suc e = ltb-true p.depth (suc e) test in
      let deep = path_deep ts p path in
      given (FitsSimple (suc (suc e)) ts) (stepped op.Add p f.token f.rest) q (rw test at is) (grammar.increment ts f.rest f.token p path next, omega arith))
      (λ test. let wrong : None ≡ Some q = rw test at is in cc)
  step_one_sound p q o f path (less next) is = by_bool (nat_lt p.depth (suc e))
      (λ test. let low : p.depth < suc e = ltb-true p.depth (suc e) test in
      let deep = path_deep ts p path in
      given (FitsSimple (suc (suc e)) ts) (stepped op.Sub p f.token f.rest) q (rw test at is) (grammar.decrement ts f.rest f.token p path next, omega arith))
      (λ test. let wrong : None ≡ Some q = rw test at is in cc)

  changed_sound : (p : Part Expr) (q : Part Stmt) (path : Bool) → IsTarget ts p → p.depth ≤ suc e → (path ≡ true → IsPath ts p)
      → (c : Change) → change p.rest ≡ c → changed (suc e) path p c ≡ Some q → FitsSimple (suc (suc e)) ts q
  changed_sound p q path target low paths (by_assign f) is made = binding ((stage (suc e)).line expr_line f.rest) (λ r. Some (assigned p r)) q made (λ r read same.
      let s = (stage_sound (suc e)).line expr_line f.rest r read in
      let low_r = s.1 in
      given (FitsSimple (suc (suc e)) ts) (assigned p r) q same (grammar.assign ts f.rest f.token p r target (assign_next p.rest f is) s.0, omega arith))
  changed_sound p q path target low paths (by_one o f) is made = by_bool path
      (λ yes'. step_one_sound p q o f (paths yes') (subst (λ (c : Change). Ones p.rest c) is (one_next p.rest)) (rw yes' at made))
      (λ no'. let wrong : None ≡ Some q = rw no' at made in cc)
  changed_sound p q path target low paths no_change is made = cc

  -- what a part at the front of the statement is
  pub record IsStart (first p : Part Expr) : Type 0 where
    pub fits : FitsPostfix (suc e) ts p
    pub target : (p ≡ first) ⊎ IsTarget ts p
    pub path : begins is_name ts ≡ true → is_path p.tree ≡ true → IsPath ts p

  target_sound : (p : Part Expr) (q : Part Stmt) (named : Bool) → begins is_name ts ≡ named → IsTarget ts p → p.depth ≤ suc e
      → (begins is_name ts ≡ true → is_path p.tree ≡ true → IsPath ts p) → from_target (suc e) named p ≡ Some q → FitsSimple (suc (suc e)) ts q
  target_sound p q true is target low paths made = changed_sound p q (is_path p.tree) target low (paths is) (change p.rest) refl made
  target_sound p q false is target low paths made = changed_sound p q false target low (λ wrong. cc) (change p.rest) refl made

  start_sound : (first p : Part Expr) → Primary ts first → first.depth ≤ suc e → steps (suc e) ((stage e).line expr_line) e first ≡ Some p → IsStart first p
  start_sound first p primary low loop = steps_keep e ((stage e).line expr_line) (IsStart first)
      (λ q t n us vs f starts low' x y. record {
        fits = arrow_fits e ((stage e).line expr_line) ((stage_sound e).line expr_line) ts q t n us vs f starts.fits low' x y;
        target = inr (grammar.IsTarget.arrow ts us vs t n f q starts.fits.0 x y);
        path = λ named is. grammar.IsPath.arrow ts us vs t n f q (starts.path named is) x y;
      })
      (λ q i t c us vs starts low' x one y. record {
        fits = index_fits e ((stage e).line expr_line) ((stage_sound e).line expr_line) ts q i t c us vs starts.fits low' x one y;
        target = inr (grammar.IsTarget.index ts us vs t c q i starts.fits.0 x ((stage_sound e).line expr_line us i one).0 y);
        path = λ named is. cc;
      })
      (suc e) first p
      (record { fits = (exprs.Postfix.primary ts first primary, low); target = inl refl; path = λ named is. first_path first.tree refl named is })
      loop
    where
      first_path : (x : Expr) → first.tree ≡ x → begins is_name ts ≡ true → is_path x ≡ true → IsPath ts first
      first_path (tree.name at x) same named is = (name_primary ts first at x primary named same).1
      first_path (tree.arrow at b f) same named is = no_arrow ts first at b f primary named same
      first_path _ same named is = cc

  steps_sound_at : (p : Part Expr) (q : Part Stmt) (named : Bool) → begins is_name ts ≡ named → Primary ts p → p.depth ≤ suc e → (w : Way) → way p.rest ≡ w
      → (w ≡ no_way → ⊥) → option_and_then (from_target (suc e) named) (steps (suc e) ((stage e).line expr_line) e p) ≡ Some q → FitsSimple (suc (suc e)) ts q
  steps_sound_at p q named is primary low w some step made = binding (steps (suc e) ((stage e).line expr_line) e p) (from_target (suc e) named) q made (λ r loop changes.
      let starts = start_sound p r primary low loop in
      let ended = steps_ended (suc e) ((stage e).line expr_line) e p r loop in
      target_sound r q named is (target_of r starts.target ended) starts.fits.1 starts.path changes)
    where
      target_of : (r : Part Expr) → (r ≡ p) ⊎ IsTarget ts r → way r.rest ≡ no_way → IsTarget ts r
      target_of r (inl same) ended = absurd (step (sym some ∙ (ap (λ (x : Part Expr). way x.rest) (sym same) ∙ ended)))
      target_of r (inr target) ended = target

  tree_sound : (p : Part Expr) (q : Part Stmt) → Primary ts p → p.depth ≤ suc e → begins is_name ts ≡ true → (x : Expr) → p.tree ≡ x
      → from_tree (suc e) p x ≡ Some q → FitsSimple (suc (suc e)) ts q
  tree_sound p q primary low named (tree.name at x) same made =
      let both = name_primary ts p at x primary named same in
      target_sound p q true named both.0 low (λ n i. both.1) made
  tree_sound p q primary low named (tree.call at f es) same made =
      given (FitsSimple (suc (suc e)) ts) (holding tree.do_call p.at p p.rest) q made
      (grammar.Simple.call ts p (call_primary ts p at f es primary named same), omega arith)
  tree_sound p q primary low named _ same made = cc

  way_sound : (p : Part Expr) (q : Part Stmt) (named : Bool) → begins is_name ts ≡ named → Primary ts p → p.depth ≤ suc e → (w : Way) → way p.rest ≡ w
      → from_way e (stage e) named p w ≡ Some q → FitsSimple (suc (suc e)) ts q
  way_sound p q true is primary low no_way none made = tree_sound p q primary low is p.tree refl made
  way_sound p q false is primary low no_way none made = cc
  way_sound p q named is primary low (by_arrow f) some made = steps_sound_at p q named is primary low (by_arrow f) some (λ wrong. cc) made
  way_sound p q named is primary low (by_index f) some made = steps_sound_at p q named is primary low (by_index f) some (λ wrong. cc) made

pub simple_sound : (d : ℕ) (ts : List Token) (p : Part Stmt) → read_simple d ts ≡ Some p → FitsSimple d ts p
simple_sound zero ts p e = cc
simple_sound (suc d) [] p e = cc
simple_sound (suc zero) (t ∷ ts) p e = cc
simple_sound (suc (suc d)) (t ∷ ts) p e = by_bool (is_word (codes "free") t.kind)
    (λ yes'. binding (read_enclosed (suc d) ts) (free_closed t) p (rw yes' at e) (λ c read made.
    let f = enclosed_sound (suc d) ts c read in
    free_sound t ts p c (is_word_true (codes "free") t.kind yes') f.0 f.1 made))
    (λ no'. binding (read_primary (stage d) (t ∷ ts)) (from_primary d (stage d) (is_name t.kind)) p (rw no' at e) (λ q read rest.
    let f = primary_sound d (stage d) (stage_sound d) (t ∷ ts) q read in
    way_sound d (t ∷ ts) q p (is_name t.kind) refl f.0 f.1 (way q.rest) refl rest))
  where
    free_sound : (t : Token) (ts : List Token) (p : Part Stmt) (c : Part Expr) → t.kind ≡ kind.Word (codes "free") → Enclosed ts c → c.depth ≤ suc d
        → free_closed t c ≡ Some p → FitsSimple (suc (suc d)) (t ∷ ts) p
    free_sound t ts p c is (grammar.enclosed us vs ws opening closing r x y z) low made =
        given (FitsSimple (suc (suc d)) (t ∷ ts)) (freed t r closing ws) p made (grammar.free t opening closing us vs ws r is x y z, omega arith)
