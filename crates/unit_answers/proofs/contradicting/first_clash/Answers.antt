use Rattle.std.proofs.Common.{◌≡◌, ℕ, ◌<◌, Bool, true, false, List, [], ◌∷◌, ◌++◌, length, take, map, get_or, Some, slice_get, inl, inr, ◌∙◌, ap, sym, subst, arith}
use Rattle.std.specs.Prelude.{◌↔◌}
use Rattle.std.specs.List.{Contains}
use Rattle.std.proofs.lemmas.List.{length-map, get_or-map}
use Rattle.std.proofs.lemmas.List.Elements.{Contains-push, Contains-push_cases, Contains-append_left}
use Rattle.std.proofs.lemmas.Option.{slice_get-get_or}
use Rattle.zo_core.specs.Literals.{Literal, opposite}
use Rattle.unit_answers.specs.declared.findings.Reason.{Reason}
use Rattle.unit_answers.specs.declared.findings.Finding.{Finding}
use Rattle.unit_answers.specs.Sets.{lit_of}
use Rattle.unit_answers.specs.Trails.{Trail, known, Adds}
use Rattle.unit_answers.specs.Contradictions.{IsFirstClash}
use Rattle.unit_answers.proofs.Forcing.{added_known, adds_grows, added_there, grows_kept}
use Rattle.unit_answers.proofs.Contradictory.{front_more, consistent_more, consistent_whole}
use Rattle.unit_answers.proofs.contradicting.first_clash.Goals as goal

-- the literal in a place
lit_at : (fs : List Finding) (p : ℕ) (f : Finding) → p < length fs → f ≡ get_or fs p f → slice_get (map lit_of fs) p ≡ Some f.lit
lit_at fs p f lt e =
    let many = length-map fs lit_of in
    slice_get-get_or (map lit_of fs) p f.lit (omega arith) ∙ ap Some (get_or-map lit_of fs p f f.lit lt ∙ ap lit_of (sym e))

-- what is known after one more
same_more : (l : Literal) (r : Reason) (a b : Trail) (added : Bool) (front : List Literal) → Adds l r a b added
    → ((x : Literal) → Contains (known a) x ↔ Contains front x) → (x : Literal) → Contains (known b) x ↔ Contains (front ++ l ∷ []) x
same_more l r a b true front adds same x =
    let is = added_known l r a b adds in (
      (λ h. elim (Contains-push_cases (known a) l x (subst (λ (ls : List Literal). Contains ls x) is h)) [
        | inl old ↦ Contains-append_left front (l ∷ []) x ((same x).0 old)
        | inr e ↦ subst (λ (y : Literal). Contains (front ++ l ∷ []) y) e (Contains-push front l)
      ]),
      (λ h. elim (Contains-push_cases front l x h) [
        | inl old ↦ grows_kept a b (adds_grows l r a b true adds) x ((same x).1 old)
        | inr e ↦ subst (λ (y : Literal). Contains (known b) y) e (added_there l r a b true adds)
      ]),
    )
same_more l r a b false front adds same x = (
  (λ h. Contains-append_left front (l ∷ []) x ((same x).0 (subst (λ (t : Trail). Contains (known t) x) adds.1 h))),
  (λ h. elim (Contains-push_cases front l x h) [
    | inl old ↦ subst (λ (t : Trail). Contains (known t) x) (sym adds.1) ((same x).1 old)
    | inr e ↦ subst (λ (t : Trail). Contains (known t) x) (sym adds.1) (subst (λ (y : Literal). Contains (known a) y) e adds.0)
  ]),
)

pub loop-place-preserved : goal.loop-place-preserved
loop-place-preserved c =
    let fs = c.args.findings.now in
    let f = c.index-findings-place.result in
    let p = c.loop-place.place in
    let ls = map lit_of fs in
    let at = lit_at fs p f (omega arith) c.index-findings-place.is in
    let inv = c.loop-place.invariant in
    let more = front_more ls p f.lit at in
    let adds = c.in_ok-add.ensures in
    record {
      unknowns = (adds_grows f.lit f.reason c.loop-place.trail c.add.new.self c.in_ok-add.field-0 adds).unknowns ∙ inv.unknowns;
      same = λ x. subst (λ (us : List Literal). Contains (known c.add.new.self) x ↔ Contains us x) (sym more)
          (same_more f.lit f.reason c.loop-place.trail c.add.new.self c.in_ok-add.field-0 (take p ls) adds inv.same x);
      consistent = consistent_more ls p f.lit at inv.consistent (λ h.
          c.if-has.ensures (subst (Contains (known c.loop-place.trail)) (sym c.negated.ensures) ((inv.same (opposite f.lit)).1 h)));
    }

pub returns-then-has : goal.returns-then-has
returns-then-has c =
    let fs = c.args.findings.now in
    let f = c.index-findings-place.result in
    let p = c.loop-place.place in
    let ls = map lit_of fs in
    let at = lit_at fs p f (omega arith) c.index-findings-place.is in
    let inv = c.loop-place.invariant in
    let is : c.in-Ok.place ≡ p = (let both = c.in-Ok.ensures in both.1) in
    subst (λ (n : ℕ). IsFirstClash ls n) (sym is) (record {
      lit = f.lit;
      at = at;
      before = (inv.same (opposite f.lit)).0 (subst (Contains (known c.loop-place.trail)) c.negated.ensures c.if-has.ensures);
      consistent = inv.consistent;
    })

pub returns : goal.returns
returns c =
    let fs = c.args.findings.now in
    let many = length-map fs lit_of in
    consistent_whole (map lit_of fs) c.loop-place.place (omega arith) c.loop-place.invariant.consistent
