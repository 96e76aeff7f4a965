-- Each line of a valid derivation follows from the constraints on which it stands.
use Rattle.std.proofs.Common.{◌≡◌, ℕ, zero, suc, ◌<◌, Bool, true, false, not, ◌||◌, ◌&&◌, cond, List, [], ◌∷◌, ◌++◌, Option, Some, None, refl, sym, ap, ◌∙◌, subst, arith, length, get_or, map, nat_eq}
use Rattle.std.specs.List.{Contains}
use Rattle.std.proofs.lemmas.Bool.{eqb-true}
use Rattle.zo_core.specs.Literals.{Literal}
use Rattle.zo_core.specs.Truth.{holds, clause_true, all_true}
use Rattle.zo_core.specs.Order.{gathered}
use Rattle.zo_core.specs.Values.{value, value-with_more}
use Rattle.zo_core.proofs.ResolventLemmas.{joined_on-sound}
use Rattle.conflict_proof.specs.declared.names.ConstraintName.{ConstraintName}
use Rattle.conflict_proof.specs.declared.derivation.How.{How}
use Rattle.conflict_proof.specs.declared.derivation.How.TheVariants.{Axiom, Resolve, Inst}
use Rattle.conflict_proof.specs.declared.derivation.Line.{Line}
use Rattle.verdict_meaning.specs.Systems.{System, callee, phi_numbers, pi_numbers, sigma_numbers}
use Rattle.verdict_meaning.specs.Solutions.{counts, IsLocal, phi_by, pi_by, sigma_by, IsSolvable, by_assignment, IsAdmitted}
use Rattle.verdict_meaning.specs.Derivations.{line_at, Carried, paired, at_site, carried_number, with_number, carried_before, carried, IsRight, IsValidIn, IsCarriedBy, InstLinesAreTrue}
use Rattle.verdict_meaning.specs.UsedNames.{itself, by_first, by_second, by_site, IsAxiomOf}
use Rattle.verdict_meaning.specs.Laws.{LinesAreTrue, LocalLinesAreTrue, MoreAreValid}

-- two assignments agree on what stands for one another
abbrev pub Agreeing : (ℕ → Bool) → (ℕ → Bool) → List Carried → Type 0
Agreeing b a [] = Unit {0}
Agreeing b a (p ∷ ps) = (b p.from ≡ a p.to) × Agreeing b a ps

head_is : (x y : Bool) (xs ys : List Bool) → x ∷ xs ≡ y ∷ ys → x ≡ y
head_is x y xs ys e = cc

tail_is : (x y : Bool) (xs ys : List Bool) → x ∷ xs ≡ y ∷ ys → xs ≡ ys
tail_is x y xs ys e = cc

pub agreeing-paired : (b a : ℕ → Bool) (ns ms : List ℕ) → map b ns ≡ map a ms → Agreeing b a (paired ns ms)
agreeing-paired b a [] ms e = tt
agreeing-paired b a (n ∷ ns) [] e = tt
agreeing-paired b a (n ∷ ns) (m ∷ ms) e =
    (head_is (b n) (a m) (map b ns) (map a ms) e, agreeing-paired b a ns ms (tail_is (b n) (a m) (map b ns) (map a ms) e))

pub agreeing-append : (b a : ℕ → Bool) (ps qs : List Carried) → Agreeing b a ps → Agreeing b a qs → Agreeing b a (ps ++ qs)
agreeing-append b a [] qs h k = k
agreeing-append b a (p ∷ ps) qs h k = (h.0, agreeing-append b a ps qs h.1 k)

some_is : (v w : ℕ) → Some v ≡ Some w → v ≡ w
some_is v w e = cc

by_cond : (c : Bool) (x y z : Option ℕ) (P : Type 0) → (c ≡ true → x ≡ z → P) → (c ≡ false → y ≡ z → P) → cond c x y ≡ z → P
by_cond true x y z P f g e = f refl e
by_cond false x y z P f g e = g refl e

pub number_agrees : (b a : ℕ → Bool) (ps : List Carried) (v w : ℕ) → Agreeing b a ps → carried_number ps v ≡ Some w → b v ≡ a w
number_agrees b a [] v w h e = cc
number_agrees b a (p ∷ ps) v w h e =
    by_cond (nat_eq p.from v) (Some p.to) (carried_number ps v) (Some w) (b v ≡ a w)
    (λ t k. ap b (sym (eqb-true p.from v t)) ∙ h.0 ∙ ap a (some_is p.to w k))
    (λ t k. number_agrees b a ps v w h.1 k) e

list_is : (c d : List Literal) → Some c ≡ Some d → c ≡ d
list_is c d e = cc

number_step : (b a : ℕ → Bool) (l : Literal) (c d ls : List Literal) (n : Option ℕ) → ((w : ℕ) → n ≡ Some w → b l.var ≡ a w) → clause_true a d ≡ clause_true b c → with_number l.sign d n ≡ Some ls
    → clause_true a ls ≡ (holds b l || clause_true b c)
number_step b a l c d ls None h k e = cc
number_step b a l c d ls (Some w) h k e =
    let m : Literal = record { var = w; sign = l.sign } in
    ap (clause_true a) (sym (list_is (m ∷ d) ls e))
    ∙ ap (λ (x : Bool). cond l.sign x (not x) || clause_true a d) (sym (h w refl))
    ∙ ap (λ (x : Bool). holds b l || x) k

before_step : (b a : ℕ → Bool) (ps : List Carried) (l : Literal) (c ls : List Literal) (o : Option (List Literal)) → Agreeing b a ps → ((d : List Literal) → o ≡ Some d → clause_true a d ≡ clause_true b c) → carried_before ps l o ≡ Some ls
    → clause_true a ls ≡ (holds b l || clause_true b c)
before_step b a ps l c ls None h k e = cc
before_step b a ps l c ls (Some d) h k e = number_step b a l c d ls (carried_number ps l.var) (λ w. number_agrees b a ps l.var w h) (k d refl) e

-- a carried clause is as true as the clause
pub carried-true : (b a : ℕ → Bool) (ps : List Carried) (c ls : List Literal) → Agreeing b a ps → carried ps c ≡ Some ls → clause_true a ls ≡ clause_true b c
carried-true b a ps [] ls h e = ap (clause_true a) (sym (list_is [] ls e))
carried-true b a ps (l ∷ c) ls h e = before_step b a ps l c ls (carried ps c) h (λ d k. carried-true b a ps c d h k) e

pub or_false : (x : Bool) → x ≡ true → (x || false) ≡ true
or_false x e = rw e refl

clause_true-gathered : (t : ℕ → Bool) (ls c : List Literal) → gathered ls ≡ Some c → clause_true t ls ≡ true → clause_true t c ≡ true
clause_true-gathered t ls c e h = ap (value t) (sym e) ∙ value-with_more t ls (Some []) ∙ or_false (clause_true t ls) h

and_first : (x y : Bool) → (x && y) ≡ true → x ≡ true
and_first true y e = refl
and_first false y e = cc

and_second : (x y : Bool) → (x && y) ≡ true → y ≡ true
and_second true y e = e
and_second false y e = cc

one_true : (a : ℕ → Bool) (cs : List (List Literal)) (c : List Literal) (k : ℕ) → k < length cs → get_or cs k c ≡ c → all_true a cs ≡ true → clause_true a c ≡ true
one_true a [] c k lt e h = absurd (omega arith)
one_true a (d ∷ cs) c zero lt e h = ap (clause_true a) (sym e) ∙ and_first (clause_true a d) (all_true a cs) h
one_true a (d ∷ cs) c (suc k) lt e h = one_true a cs c k (omega arith) e (and_second (clause_true a d) (all_true a cs) h)

pub contained_true : (a : ℕ → Bool) (cs : List (List Literal)) (c : List Literal) → Contains cs c → all_true a cs ≡ true → clause_true a c ≡ true
contained_true a cs c there h = one_true a cs c there.0 there.1 there.2 h

-- what is true of each admitted assignment is true of the one by which an interface can be had
pub record Solves (s : System) (phi : List Bool) (e k : ℕ) (v : List Bool) (c : List Literal) : Type 0 where
  pub by : ℕ → Bool
  pub phi_is : phi_by s by ≡ phi
  pub pi_is : pi_by s e by k ≡ v
  pub true_there : clause_true by c ≡ true

pub solved : (s : System) (U : ConstraintName → Bool) (phi : List Bool) (e k : ℕ) (v : List Bool) (c : List Literal) → IsSolvable s U phi e k v → ((b : ℕ → Bool) → IsAdmitted s U e b → clause_true b c ≡ true)
    → Solves s phi e k v c
solved s U phi e k v c (by_assignment b p q local sites) h =
    record {
      by = b;
      phi_is = p;
      pi_is = q;
      true_there =
          h b (record {
            local = local;
            sites = λ site lt. subst (λ f. IsSolvable s U f (callee s e site).group (callee s e site).proc (sigma_by s e b site)) (sym p) (sites site lt);
          });
    }

module _ (s : System) (V U : ConstraintName → Bool) (lines : List Line) (valid : IsValidIn s V lines) where
  follow : (fuel n : ℕ) (line : Line) (how : How) → n < fuel → line_at lines n ≡ Some line → line.how ≡ how → IsRight s V lines n line.group how line.lits
      → ((name : ConstraintName) → IsAxiomOf lines n name → counts U name ≡ true)
      → (a : ℕ → Bool) → IsAdmitted s U line.group a → clause_true a line.lits ≡ true
  follow zero n line how lt at he right used a adm = absurd (omega arith)
  follow (suc fuel) n line (Axiom name) lt at he right used a adm =
      contained_true a (s.clauses line.group name) line.lits right.clause
      (adm.local name right.there (used name (record { number = n; line = line; stands = itself; there = at; how = he })))
  follow (suc fuel) n line (Resolve i j) lt at he right used a adm =
      let fi : i < n = right.first_earlier in
      let fj : j < n = right.second_earlier in
      joined_on-sound right.resolvent.0 right.first.lits right.second.lits line.lits right.resolvent.1.2 a
      (follow fuel i right.first right.first.how (omega arith) right.first_at refl (valid i right.first right.first_at).right
      (λ name u. used name (record { number = u.number; line = u.line; stands = by_first line at he u.stands; there = u.there; how = u.how }))
      a (subst (λ g. IsAdmitted s U g a) (sym right.first_group) adm))
      (follow fuel j right.second right.second.how (omega arith) right.second_at refl (valid j right.second right.second_at).right
      (λ name u. used name (record { number = u.number; line = u.line; stands = by_second line at he u.stands; there = u.there; how = u.how }))
      a (subst (λ g. IsAdmitted s U g a) (sym right.second_group) adm))
  follow (suc fuel) n line (Inst i site) lt at he right used a adm =
      let fi : i < n = right.earlier in
      let g : ℕ = line.group in
      let e : ℕ = (callee s g site).group in
      let k : ℕ = (callee s g site).proc in
      let lower : Solves s (phi_by s a) e k (sigma_by s g a site) right.line.lits =
      solved s U (phi_by s a) e k (sigma_by s g a site) right.line.lits (adm.sites site right.site_there)
      (λ b under. follow fuel i right.line right.line.how (omega arith) right.there refl (valid i right.line right.there).right
      (λ name u. used name (record { number = u.number; line = u.line; stands = by_site line at he u.stands; there = u.there; how = u.how }))
      b (subst (λ h. IsAdmitted s U h b) (sym right.group) under)) in
      clause_true-gathered a right.lits line.lits right.in_order
      (carried-true lower.by a (at_site s g site) right.line.lits right.lits
      (agreeing-append lower.by a (paired (phi_numbers s) (phi_numbers s)) (paired (pi_numbers s e k) (sigma_numbers s g site))
      (agreeing-paired lower.by a (phi_numbers s) (phi_numbers s) lower.phi_is)
      (agreeing-paired lower.by a (pi_numbers s e k) (sigma_numbers s g site) lower.pi_is))
      right.is_carried
      ∙ lower.true_there)

pub lines_are_true : LinesAreTrue
lines_are_true s V U lines valid n line at used a adm = follow s V U lines valid (suc n) n line line.how (omega arith) at refl (valid n line at).right used a adm

module _ (s : System) (U : ConstraintName → Bool) (lines : List Line) (g : ℕ) (a : ℕ → Bool) (valid : IsValidIn s U lines) (met : IsLocal s U g a) (insts : InstLinesAreTrue lines g a) where
  here : (fuel n : ℕ) (line : Line) (how : How) → n < fuel → line_at lines n ≡ Some line → line.group ≡ g → line.how ≡ how → IsRight s U lines n line.group how line.lits → clause_true a line.lits ≡ true
  here zero n line how lt at e he right = absurd (omega arith)
  here (suc fuel) n line (Axiom name) lt at e he right =
      let r : IsRight s U lines n g (Axiom name) line.lits = subst (λ h. IsRight s U lines n h (Axiom name) line.lits) e right in
      contained_true a (s.clauses g name) line.lits r.clause (met name r.there r.counting)
  here (suc fuel) n line (Resolve i j) lt at e he right =
      let fi : i < n = right.first_earlier in
      let fj : j < n = right.second_earlier in
      joined_on-sound right.resolvent.0 right.first.lits right.second.lits line.lits right.resolvent.1.2 a
      (here fuel i right.first right.first.how (omega arith) right.first_at (right.first_group ∙ e) refl (valid i right.first right.first_at).right)
      (here fuel j right.second right.second.how (omega arith) right.second_at (right.second_group ∙ e) refl (valid j right.second right.second_at).right)
  here (suc fuel) n line (Inst i site) lt at e he right = insts n line at e (subst IsCarriedBy (sym he) tt)

pub local_lines_are_true : LocalLinesAreTrue
local_lines_are_true s U lines g a valid met insts n line at e = here s U lines g a valid met insts (suc n) n line line.how (omega arith) at e refl (valid n line at).right

or_same : (b x y : Bool) → (x ≡ true → y ≡ true) → (b || x) ≡ true → (b || y) ≡ true
or_same true x y f e = refl
or_same false x y f e = f e

more_right : (s : System) (V U : ConstraintName → Bool) (lines : List Line) (n g : ℕ) (how : How) (c : List Literal) → ((name : ConstraintName) → V name ≡ true → U name ≡ true) → IsRight s V lines n g how c → IsRight s U lines n g how c
more_right s V U lines n g (Axiom name) c more r = record { there = r.there; counting = or_same (nat_eq name.rule 21) (V name) (U name) (more name) r.counting; clause = r.clause }
more_right s V U lines n g (Resolve i j) c more r = r
more_right s V U lines n g (Inst i site) c more r = r

pub more_are_valid : MoreAreValid
more_are_valid s V U lines more valid n line at =
    let r = valid n line at in
    record { group = r.group; clause = r.clause; right = more_right s V U lines n line.group line.how line.lits more r.right }
