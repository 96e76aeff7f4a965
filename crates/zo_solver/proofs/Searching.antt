-- One step of a search, over plain variables.
use Rattle.std.proofs.Common.{◌≡◌, ℕ, zero, suc, ◌+◌, ◌-◌, ◌≤◌, Bool, true, false, cond, List, [], ◌∷◌, ◌++◌, length, Option, Some, None, sym, ap, ◌∙◌, arith}
use Rattle.std.specs.Prelude.{slice_get, Vec}
use Rattle.std.specs.Global.{Global}
use Rattle.std.specs.Vec.{vec_capacity}
use Rattle.std.proofs.lemmas.Option.{cond_some}
use Rattle.std.proofs.lemmas.List.{length-append}
use Rattle.zo_core.specs.Literals.{Literal, opposite}
use Rattle.zo_core.specs.Order.{Ascends}
use Rattle.zo_core.specs.Resolvents.{has_literal, joined_on}
use Rattle.zo_solver.specs.Clauses.{numbered}
use Rattle.zo_solver.specs.Stores.{Shelf}
use Rattle.zo_solver.specs.Derived.{IsTrueOrigin, IsNoLemma}
use Rattle.zo_solver.specs.Trail.{clause_of, IsReason, IsClauseOver, IsWhole, IsDeniedAt, IsDeniedWith, with_mark}
use Rattle.zo_solver.specs.Steps.{Stays, IsOn, IsPair, HoldsAgainst, ResolventIs, IsMarked}
use Rattle.zo_solver.specs.declared.answers.Origin.{Origin}
use Rattle.zo_solver.specs.declared.backward.Move.{Move}
use Rattle.zo_solver.specs.declared.backward.Move.TheVariants as Moves
use Rattle.zo_solver.specs.declared.search.Search.{Search}
use Rattle.zo_solver.specs.declared.search.Mark.{Mark}
use Rattle.zo_solver.specs.declared.search.Source.{Source}
use Rattle.zo_solver.specs.declared.search.Source.TheVariants.{FromGiven, FromLine}
use Rattle.zo_solver.proofs.Bucketing.{some_same, none_some, numbered-at_end}
use Rattle.zo_solver.proofs.Marking.{clause_of-more, denied-lacking, contains-has}
use Rattle.zo_solver.proofs.Growing.{derived-push, each_clause-push, each_clause-at, grows-same, grows-push, grows-trans, whole-stays, joins}

pub on-same : (old new : Search) → IsWhole old → Stays old new → new.values ≡ old.values → new.trail ≡ old.trail → IsOn old new
on-same old new w s values trail = record {
  whole = whole-stays old new w s (ap (λ (v : Vec (Option Bool) Global). length v.items) values);
  grows = grows-same old new s.vars s.given s.lines;
  values = values;
  trail = trail;
}

-- a line more
pub record IsLineMore (old new : Search) (c : List Literal) (o : Origin) : Type 0 where
  pub vars : new.vars ≡ old.vars
  pub given : new.given ≡ old.given
  pub values : new.values ≡ old.values
  pub trail : new.trail ≡ old.trail
  pub made_room : vec_capacity old.made ≤ vec_capacity new.made
  pub clauses : new.lines.clauses ≡ old.lines.clauses ++ c ∷ []
  pub origins : new.lines.origins ≡ old.lines.origins ++ o ∷ []
  pub words : new.lines.words + (length c + 1) ≡ old.lines.words
  pub count : length new.lines.origins ≡ length new.lines.clauses
  pub over : IsClauseOver old.vars c
  pub origin_true : IsTrueOrigin old.given.clauses old.lines.clauses (length old.lines.clauses + 1) c o
  pub not_lemma : IsNoLemma o

pub on-push : (old new : Search) (c : List Literal) (o : Origin) → IsWhole old → IsLineMore old new c o → IsOn old new
on-push old new c o w m =
    let vars = m.vars in let made = m.made_room in
    let vars_old = w.vars in let values_old = w.values in let made_old = w.made_room in let trail_old = w.trail_room in
    let values_len : length new.values.items ≡ length old.values.items = ap (λ (v : Vec (Option Bool) Global). length v.items) m.values in
    let trail_cap : vec_capacity new.trail ≡ vec_capacity old.trail = ap vec_capacity m.trail in
    let a = length-append old.lines.origins (o ∷ []) in
    let b = length-append old.lines.clauses (c ∷ []) in
    let d = ap length m.origins in
    let e = ap length m.clauses in
    let count = m.count in
    record {
      whole = record {
        given = rw (m.vars, m.given) w.given;
        lines = rw (m.vars, m.clauses) (each_clause-push (IsClauseOver old.vars) old.lines.clauses c w.lines m.over);
        derived = rw (m.given, m.clauses, m.origins) (derived-push old.given.clauses old.lines.clauses old.lines.origins c o (omega arith) w.derived m.origin_true);
        values = omega arith;
        vars = omega arith;
        trail_room = omega arith;
        made_room = omega arith;
      };
      grows = grows-push old new c o m.vars m.given m.clauses m.origins m.words m.not_lemma;
      values = m.values;
      trail = m.trail;
    }

pub on-trans : (a b c : Search) → IsOn a b → IsOn b c → IsOn a c
on-trans a b c g h = record { whole = h.whole; grows = grows-trans a b c g.grows h.grows; values = h.values ∙ g.values; trail = h.trail ∙ g.trail }

-- the line that was added last
pub last-line : (old new : List (List Literal)) (c : List Literal) (n : ℕ) → new ≡ old ++ c ∷ [] → n ≡ length new → numbered new n ≡ Some c
last-line old new c n e is =
    let l : n ≡ length old + 1 = is ∙ ap length e ∙ length-append old (c ∷ []) in
    rw (e, l) (numbered-at_end old c)

pub numbered-slice : {X : Type 0} (xs : List X) (n : ℕ) (x : X) → numbered xs n ≡ Some x → slice_get xs (n - 1) ≡ Some x
numbered-slice xs zero x e = absurd (none_some x e)
numbered-slice xs (suc k) x e = let one : suc k - 1 ≡ k = omega arith in rw one e

pub joined_is : (s : Search) (lit : Literal) (first second : ℕ) (p : IsPair s lit first second) (x y m : List Literal) (r : Bool) → numbered s.lines.clauses first ≡ Some x → numbered s.lines.clauses second ≡ Some y → joined_on lit x y ≡ cond r (Some m) None → joined_on lit p.a p.b ≡ Some m
joined_is s lit first second p x y m r x_at y_at k =
    let j = joins s lit first second p in
    let e : x ≡ p.a = some_same x p.a (sym x_at ∙ p.a_at) in
    let f : y ≡ p.b = some_same y p.b (sym y_at ∙ p.b_at) in
    let h : joined_on lit p.a p.b ≡ cond r (Some m) None = rw (e, f) at k in
    let t = cond_some r m j.0 (sym h ∙ j.1) in
    j.1 ∙ ap Some (sym t.1)

-- a source's clause where there are more lines
pub clause-on : (old new : Search) (r : Source) (c : List Literal) → IsOn old new → clause_of old.given.clauses old.lines.clauses r ≡ Some c → clause_of new.given.clauses new.lines.clauses r ≡ Some c
clause-on old new r c o e =
    rw (o.grows.clauses, ap (λ (s : Shelf). s.clauses) o.grows.given) (clause_of-more old.given.clauses old.lines.clauses o.grows.more r c e)

pub resolvent-trans : (a b c : Search) (m : Move) → IsOn a b → ResolventIs b c m → ResolventIs a c m
resolvent-trans a b c (Moves.On s) g h = (on-trans a b c g h.0, h.1)
resolvent-trans a b c Moves.Turned g h = h
resolvent-trans a b c Moves.Spent g h = (on-trans a b c g h.0, h.1)

-- the two lines of two sources, that can be resolved
pub pair_of : (s one two : Search) (lit : Literal) (reason now : Source) (first second : ℕ) → IsReason s.given.clauses s.lines.clauses s.values.items lit reason → (d : IsDeniedWith s lit now) → HoldsAgainst s lit now → IsOn s one → IsOn one two
    → numbered one.lines.clauses first ≡ clause_of s.given.clauses s.lines.clauses reason → numbered two.lines.clauses second ≡ clause_of one.given.clauses one.lines.clauses now → IsPair two lit first second
pair_of s one two lit reason now first second r d against g h first_at second_at =
    let values : two.values.items ≡ s.values.items = ap (λ (v : Vec (Option Bool) Global). v.items) (h.values ∙ g.values) in
    record {
      a = r.clause;
      b = d.clause;
      a_at = clause-on one two (FromLine first) r.clause h (first_at ∙ r.clause_at);
      b_at = second_at ∙ clause-on s one now d.clause g d.clause_at;
      a_held = r.held;
      b_held = against d.clause d.clause_at;
      a_others = rw values r.others;
      b_others = rw values d.others;
    }

-- a clause that lacks the mark's opposite is denied without it
-- a clause's literals are in order
pub in_order : (s : Search) (r : Source) (c : List Literal) → IsWhole s → clause_of s.given.clauses s.lines.clauses r ≡ Some c → Ascends 0 c
in_order s (FromGiven n) c w at = (each_clause-at (IsClauseOver s.vars) s.given.clauses n c w.given at).0
in_order s (FromLine n) c w at = (each_clause-at (IsClauseOver s.vars) s.lines.clauses n c w.lines at).0

pub denied-on : (s : Search) (lit : Literal) (now : Source) (c : List Literal) → IsDeniedWith s lit now → clause_of s.given.clauses s.lines.clauses now ≡ Some c → has_literal (opposite lit) c ≡ false → IsDeniedAt s now
denied-on s lit now c d at lacks =
    let same : c ≡ d.clause = some_same c d.clause (sym at ∙ d.clause_at) in
    record { clause = d.clause; clause_at = d.clause_at; denied = denied-lacking s.values.items (opposite lit) d.clause (rw same at lacks) d.others }

pub holds_against : (s : Search) (lit : Literal) (now : Source) (c : List Literal) → clause_of s.given.clauses s.lines.clauses now ≡ Some c → has_literal (opposite lit) c ≡ true → HoldsAgainst s lit now
holds_against s lit now c at holds e e_at = let same : e ≡ c = some_same e c (sym e_at ∙ at) in rw same (contains-has (opposite lit) c holds)

-- a guess is turned, with the clause that is denied with it as its reason
pub turned_reason : (s : Search) (lit : Literal) (now : Source) → IsDeniedWith s lit now → HoldsAgainst s lit now → IsReason s.given.clauses s.lines.clauses s.values.items (opposite lit) now
turned_reason s lit now d against = record { clause = d.clause; clause_at = d.clause_at; held = against d.clause d.clause_at; others = d.others }

pub marked-from : (s one new : Search) (m : Mark) → Stays s one → one.values ≡ s.values → one.trail ≡ s.trail → IsMarked one new m → IsMarked s new m
marked-from s one new m st values trail h =
    let a = st.trail_room in let b = st.made_room in let c = h.stays.trail_room in let d = h.stays.made_room in
    record {
      stays = record {
        vars = h.stays.vars ∙ st.vars;
        given = h.stays.given ∙ st.given;
        lines = h.stays.lines ∙ st.lines;
        trail_room = omega arith;
        made_room = omega arith;
      };
      values = h.values ∙ ap (λ (v : Vec (Option Bool) Global). with_mark v.items m.lit) values;
      trail = h.trail ∙ ap (λ (v : Vec Mark Global). v.items ++ m ∷ []) trail;
    }
