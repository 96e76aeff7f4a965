use Rattle.std.proofs.Common.{◌≡◌, ℕ, List, map, Option, Some, None, inl, inr, ap, sym, subst, arith}
use Rattle.std.specs.Prelude.{MatchOption}
use Rattle.std.proofs.lemmas.Bool.{cases_eq}
use Rattle.zo_core.specs.Literals.{Literal}
use Rattle.unit_answers.specs.Sets.{set_at, found, lit_of}
use Rattle.unit_answers.specs.Contradictions.{AreConsistent, IsFirstClash, IsFirstContradiction}
use Rattle.unit_answers.proofs.contradicting.contradiction.Goals as goal

-- what an answer says
abbrev Says : List Literal → Option ℕ → Type 0
Says ls o = MatchOption o (AreConsistent ls) (IsFirstClash ls)

at_some : (ls : List Literal) (o : Option ℕ) (p : ℕ) → o ≡ Some p → Says ls o → IsFirstClash ls p
at_some ls o p e h = subst (Says ls) e h

at_none : (ls : List Literal) (o : Option ℕ) → o ≡ None → Says ls o → AreConsistent ls
at_none ls o e h = subst (Says ls) e h

pub returns-in-Some : goal.returns-in-Some
returns-in-Some c =
    let sets = c.args.closures.now in
    let g = c.loop-group.group in
    let lits : map lit_of c.findings_at-findings.result.now ≡ found (set_at sets g) = ap (map lit_of) c.findings_at-findings.ensures in
    let clash : IsFirstClash (found (set_at sets g)) c.in-Some.place =
    subst (λ (ls : List Literal). IsFirstClash ls c.in-Some.place) lits
    (at_some (map lit_of c.findings_at-findings.result.now) c.in_ok-place.field-0 c.in-Some.place c.in-Some.is c.in_ok-place.ensures) in
    let is : c.in-Ok.group ≡ g = (let both = c.in-Ok.ensures in both.1) in
    let P : ℕ → Type 0 = λ n. IsFirstContradiction sets (record { group = n; place = c.in-Some.place }) in
    subst P (sym is) (record { within = (let len = c.count-group-end.ensures in let lt = c.loop-group-test.true in omega arith); clash = clash; lower = c.loop-group.invariant })

pub loop-group-preserved : goal.loop-group-preserved
loop-group-preserved c = λ e lt.
    let sets = c.args.closures.now in
    let g = c.loop-group.group in
    let lits : map lit_of c.findings_at-findings.result.now ≡ found (set_at sets g) = ap (map lit_of) c.findings_at-findings.ensures in
    let here : AreConsistent (found (set_at sets g)) =
    subst (λ (ls : List Literal). AreConsistent ls) lits
    (at_none (map lit_of c.findings_at-findings.result.now) c.in_ok-place.field-0 c.in_default.is c.in_ok-place.ensures) in
    elim (cases_eq e g) [
      | inl same ↦ subst (λ (n : ℕ). AreConsistent (found (set_at sets n))) (sym same) here
      | inr ne ↦ c.loop-group.invariant e (omega arith)
    ]

pub returns : goal.returns
returns c = λ g lt. c.loop-group.invariant g (let len = c.count-group-end.ensures in let end = c.loop-group-test.false in omega arith)
