-- How a group's set begins: with what stands at its sites.
use Rattle.std.proofs.Common.{◌≡◌, ℕ, ◌+◌, ◌<◌, ◌^◌, inl, inr, List, [], length, map, Some, slice_get, sym, ap, subst, ◌∙◌, arith}
use Rattle.std.proofs.lemmas.Bool.{cases_eq}
use Rattle.std.proofs.lemmas.Option.{slice_get_within}
use Rattle.std.specs.List.{Contains}
use Rattle.zo_core.specs.Literals.{Literal}
use Rattle.transfer_rules.specs.Names.{NamedClause}
use Rattle.verdict_meaning.specs.Systems.{System, callee, callees}
use Rattle.verdict_meaning.specs.Closures.{StandsFor}
use Rattle.verdict_meaning.specs.declared.callee.Callee.{Callee}
use Rattle.unit_answers.specs.declared.findings.Finding.{Finding}
use Rattle.unit_answers.specs.declared.layouts.Call.{Call}
use Rattle.unit_answers.specs.Sets.{UnitSet, set_at, found, lit_of}
use Rattle.unit_answers.specs.Reasons.{IsCarried}
use Rattle.unit_answers.specs.Layouts.{IsCallAt, Numbers, group_at, IsLayoutOf, IsLayout, CallFits, StandsAt}
use Rattle.unit_answers.specs.Trails.{Trail, known}
use Rattle.unit_answers.specs.Propagation.{HaveReasons, Forces, AreClosed}
use Rattle.unit_answers.specs.Settled.{TakesAll, IsEntered, IsSettled, AreLower}
use Rattle.unit_answers.proofs.Forcing.{grows_kept}
use Rattle.unit_answers.proofs.Standing.{stands_for, stands_at}

pub call_is : (s : System) (l : Numbers) → IsLayoutOf s l → (g site : ℕ) (c : Call) → g < length l.groups → slice_get (group_at l g).calls site ≡ Some c → IsCallAt s g site c
call_is s l is g site c lt at = (is.each g (let many = is.groups in omega arith)).each site c at

pub call_fits : (l : Numbers) → IsLayout l → (g site : ℕ) (c : Call) → g < length l.groups → slice_get (group_at l g).calls site ≡ Some c → CallFits l g c
call_fits l (s, is) g site c lt at =
    let many = is.groups in
    let call = call_is s l is g site c lt at in
    let below = call.lower in
    let own = is.each g (omega arith) in
    let called = is.each c.callee.group (omega arith) in
    let outer = called.outer in
    record {
      lower = call.lower;
      size = call.size;
      fields = (let fields = is.fields in omega arith);
      there_last = (let last = call.there_last in omega arith);
      here_first = call.here_first;
      here_last = (let last = call.here_last in let count = own.count in omega arith);
    }

pub small_count : (l : Numbers) → IsLayout l → (g : ℕ) → g < length l.groups → (group_at l g).count < 2 ^ 31
small_count l (s, is) g lt = (is.each g (let many = is.groups in omega arith)).small

module _ (s : System) (l : Numbers) (is : IsLayoutOf s l) (g : ℕ) (lt : g < length l.groups) (rows : List NamedClause) (sets : List UnitSet) (lower : AreLower g sets) where
  pub entered_none : (t : Trail) → t.findings ≡ [] → IsEntered s g rows sets 0 t
  entered_none t e = record {
    reasons = λ p f at. let no : slice_get [] p ≡ Some f = ap (λ (fs : List Finding). slice_get fs p) (sym e) ∙ at in cc;
    sites = λ site m x less. absurd (omega arith);
  }

  module _ (site : ℕ) (c : Call) (at : slice_get (group_at l g).calls site ≡ Some c) (old new : Trail) where
    call : IsCallAt s g site c
    call = call_is s l is g site c lt at

    abbrev below : UnitSet
    below = set_at sets c.callee.group

    there : site < length (callees s g)
    there = let inside = slice_get_within (group_at l g).calls site c at in let many = (is.each g (let all = is.groups in omega arith)).sites in omega arith

    carried_is : (m x : Literal) → Contains below.lits m → StandsAt l.fields c m x → IsCarried s g sets site m x
    carried_is m x within stands =
        let ordered = lower.each c.callee.group call.lower in
        record {
          there = there;
          stands = stands_for s g site c call m x (ordered.some m within) (subst (λ (n : ℕ). StandsAt n c m x) is.fields stands);
          lower = subst (λ (k : Callee). k.group < g) call.callee call.lower;
          found = subst (λ (k : Callee). Contains (found (set_at sets k.group)) m) call.callee ((ordered.same m).0 within);
        }

    pub entered_more : TakesAll l.fields site c below.lits old new → IsEntered s g rows sets site old → IsEntered s g rows sets (site + 1) new
    entered_more takes h = record {
      reasons = takes.keeps s g rows sets [] carried_is h.reasons;
      sites = λ k m x less stands within. elim (cases_eq k site) [
        | inl e ↦
            let here : StandsFor s g site x m = subst (λ (n : ℕ). StandsFor s g n x m) e stands in
            let known_there : Contains below.lits m = subst (λ (q : Callee). Contains (set_at sets q.group).lits m) (sym call.callee)
            (subst (λ (n : ℕ). Contains (set_at sets (callee s g n).group).lits m) e within) in
            takes.holds m x known_there (subst (λ (n : ℕ). StandsAt n c m x) (sym is.fields) (stands_at s g site c call m x here))
        | inr ne ↦ grows_kept old new takes.grows x (h.sites k m x (omega arith) stands within)
      ];
    }

  pub entered_settled : (old new : Trail) (set : UnitSet) → set.findings ≡ new.findings → IsEntered s g rows sets (length (callees s g)) old → Forces rows old new
      → AreClosed (known new) rows → IsSettled s g rows sets [] set
  entered_settled old new set e h up closed =
      let same : known new ≡ found set = ap (map lit_of) (sym e) in
      record {
        reasons = subst (λ (fs : List Finding). HaveReasons s g rows sets [] fs) (sym e) (up.keeps s g sets [] h.reasons);
        givens = λ m none. absurd (let less = none.1 in omega arith);
        clauses = subst (λ (ls : List Literal). AreClosed ls rows) same closed;
        sites = λ k m x less stands within. subst (λ (ls : List Literal). Contains ls x) same (grows_kept old new up.grows x (h.sites k m x less stands within));
      }
