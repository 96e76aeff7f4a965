-- How long a trail is at most, and what its lines cost.
use Rattle.std.proofs.Common.{◌≡◌, ℕ, ◌+◌, ◌-◌, ◌*◌, ◌/◌, ◌<◌, ◌≤◌, inl, inr, Bool, true, false, not, List, [], ◌∷◌, length, get_or, map, Some, slice_get, option_map, Result, Ok, Err, IfOk, refl, sym, ap, subst, ◌∙◌, arith, eqb}
use Rattle.std.proofs.lemmas.Bool.{cases_Bool, false≢true, ne_eqb, eqb-true}
use Rattle.std.proofs.lemmas.Nat.{div-mul-add}
use Rattle.std.proofs.Math.Nat.{mul-le-mul_right}
use Rattle.std.proofs.lemmas.List.{length_push, length-map}
use Rattle.std.proofs.lemmas.Option.{slice_get_within, slice_get-map, get_or_from_slice_get}
use Rattle.std.proofs.lemmas.Map.Keys.{IsDistinct-from_apart}
use Rattle.std.proofs.lemmas.Map.Steps.{length-le_from_distinct_below}
use Rattle.std.proofs.lemmas.Map.Views.{Contains-from_any}
use Rattle.std.specs.List.{list_any}
use Rattle.zo_core.specs.Literals.{Literal, opposite, literal_eq}
use Rattle.zo_core.specs.Equality.{literal_eq-true, literal_eq-of}
use Rattle.conflict_proof.specs.declared.names.ConstraintName.{ConstraintName}
use Rattle.verdict_meaning.specs.Systems.{System, root}
use Rattle.verdict_meaning.specs.Derivations.{HasAtMost}
use Rattle.unit_refutation.specs.declared.steps.Step.{Step}
use Rattle.std.specs.Prelude.{MatchBool}
use Rattle.unit_refutation.specs.Numbers.{number_of}
use Rattle.unit_refutation.specs.Trails.{EndsIn, IsTrail}
use Rattle.unit_refutation.specs.declared.writing.Writer.{Writer}
use Rattle.unit_refutation.specs.Lines.{IsLineOf, Grows, IsOver, IsWhole, IsNumbered, AreNumbered, SpellsTrail, Ends, WritesTrail}
use Rattle.unit_refutation.specs.Refutations.{most_unit_cost, IsUnitRefutation, IsUnitSpent}
use Rattle.unit_refutation.proofs.ListLemmas.{get_kept, get_next, get_below, at_contains, same_some}

-- two literals of one unknown are one, or opposite
opposite_of : (l m : Literal) → l.var ≡ m.var → (l ≡ m → ⊥) → l ≡ opposite m
opposite_of l m e ne = by_sign l.sign m.sign refl refl
  where
    lit : ℕ → Bool → Literal
    lit v b = record { var = v; sign = b }

    same : (b : Bool) → l.sign ≡ b → m.sign ≡ b → ⊥
    same b p q = ne (ap (λ (v : ℕ). lit v l.sign) e ∙ ap (lit m.var) (p ∙ sym q))

    differ : (b : Bool) → l.sign ≡ b → not m.sign ≡ b → l ≡ opposite m
    differ b p q = ap (λ (v : ℕ). lit v l.sign) e ∙ ap (lit m.var) (p ∙ sym q)

    by_sign : (a b : Bool) → l.sign ≡ a → m.sign ≡ b → l ≡ opposite m
    by_sign true true p q = absurd (same true p q)
    by_sign true false p q = differ true p (ap not q)
    by_sign false true p q = differ false p (ap not q)
    by_sign false false p q = absurd (same false p q)

-- a number for the group and the unknown of a literal
code : ℕ → Step → ℕ
code most f = f.group * most + (f.lit.var - 1)

code-apart : (most : ℕ) (e f : Step) → 0 < e.lit.var → e.lit.var ≤ most → 0 < f.lit.var → f.lit.var ≤ most → code most e ≡ code most f → (e.group ≡ f.group) × (e.lit.var ≡ f.lit.var)
unfolding code
code-apart most e f some_e le_e some_f le_f same =
    let first : (e.group * most + (e.lit.var - 1)) / most ≡ e.group = div-mul-add e.group most (e.lit.var - 1) (omega (arith, some_e, le_e)) in
    let second : (f.group * most + (f.lit.var - 1)) / most ≡ f.group = div-mul-add f.group most (f.lit.var - 1) (omega (arith, some_f, le_f)) in
    let groups : e.group ≡ f.group = sym first ∙ ap (λ (n : ℕ). n / most) same ∙ second in
    let products : e.group * most ≡ f.group * most = ap (λ (n : ℕ). n * most) groups in
    (groups, omega (arith, same, products, some_e, some_f))

code-below : (most roots : ℕ) (f : Step) → f.group ≤ roots → 0 < f.lit.var → f.lit.var ≤ most → code most f < (roots + 1) * most
unfolding code
code-below most roots f le some within =
    let more : (f.group + 1) * most ≤ (roots + 1) * most = mul-le-mul_right most (omega (arith, le)) in
    omega (arith, more, some, within)

-- but for the last one there are no more literals than unknowns
pub trail_length : (s : System) (U : ConstraintName → Bool) (trail : List Step) (most : ℕ) → IsTrail s U trail → HasAtMost s most → length trail ≤ (root s + 1) * most + 1
trail_length s U trail most h bound =
    let size : length trail ≡ length before + 1 = ap length h.clash.is ∙ length_push before h.clash.last in
    let codes = length-map before (code most) in
    let few = length-le_from_distinct_below (map (code most) before) ((root s + 1) * most) (IsDistinct-from_apart eqb (map (code most) before) apart) below in
    omega (arith, size, codes, few)
  where
    before : List Step
    before = h.clash.before

    kept : (k : ℕ) (f : Step) → slice_get before k ≡ Some f → slice_get trail k ≡ Some f
    kept k f at = ap (λ (fs : List Step). slice_get fs k) h.clash.is ∙ get_kept before (h.clash.last ∷ []) k f at

    within : (k : ℕ) (f : Step) → slice_get before k ≡ Some f → f.lit.var ≤ most
    within k f at = let g = h.each k f (kept k f at) in let own = g.within in let all = bound f.group g.group in omega (arith, own, all)

    some : (k : ℕ) (f : Step) → slice_get before k ≡ Some f → 0 < f.lit.var
    some k f at = (h.each k f (kept k f at)).some

    coded : (k : ℕ) (f : Step) → slice_get before k ≡ Some f → slice_get (map (code most) before) k ≡ Some (code most f)
    coded k f at = slice_get-map (code most) before k ∙ ap (option_map (code most)) at

    inside : (k : ℕ) → k < length before → k + 1 < length trail
    inside k lt = let size : length trail ≡ length before + 1 = ap length h.clash.is ∙ length_push before h.clash.last in omega (arith, size, lt)

    differ : (i j : ℕ) (e f : Step) → i < j → slice_get before i ≡ Some e → slice_get before j ≡ Some f → code most e ≡ code most f → ⊥
    differ i j e f lt at_e at_f same =
        let parts = code-apart most e f (some i e at_e) (within i e at_e) (some j f at_f) (within j f at_f) same in
        elim (cases_Bool (literal_eq e.lit f.lit)) [
          | inl t ↦ let one : i ≡ j = h.once i j e f (kept i e at_e) (kept j f at_f) parts.0 (literal_eq-true e.lit f.lit t) in omega (arith, lt, one)
          | inr t ↦
              h.consistent i j e f (inside i (slice_get_within before i e at_e)) (inside j (slice_get_within before j f at_f)) (kept i e at_e) (kept j f at_f) parts.0
              (opposite_of e.lit f.lit parts.1 (λ q. false≢true (sym t ∙ literal_eq-of e.lit f.lit q)))
        ]

    apart : (i j d : ℕ) → i < j → j < length (map (code most) before) → eqb (get_or (map (code most) before) i d) (get_or (map (code most) before) j d) ≡ false
    apart i j d lt end =
        let size = length-map before (code most) in
        let e = get_below before i (omega (arith, lt, end, size)) in
        let f = get_below before j (omega (arith, end, size)) in
        ap (λ (n : ℕ). eqb n (get_or (map (code most) before) j d)) (get_or_from_slice_get (map (code most) before) i (code most e.0) d (coded i e.0 e.1))
        ∙ ap (λ (n : ℕ). eqb (code most e.0) n) (get_or_from_slice_get (map (code most) before) j (code most f.0) d (coded j f.0 f.1))
        ∙ ne_eqb (code most e.0) (code most f.0) (differ i j e.0 f.0 lt e.1 f.1)

    below : (q : ℕ) → list_any (eqb q) (map (code most) before) ≡ true → q < (root s + 1) * most
    below q t =
        let at = at_contains (map (code most) before) q (Contains-from_any {eq = eqb} eqb-true q (map (code most) before) t) in
        let size = length-map before (code most) in
        let inner = slice_get_within (map (code most) before) at.0 q at.1 in
        let f = get_below before at.0 (omega (arith, inner, size)) in
        let is : code most f.0 ≡ q = same_some (code most f.0) q (sym (coded at.0 f.0 f.1) ∙ at.1) in
        subst (λ (n : ℕ). n < (root s + 1) * most) is (code-below most (root s) f.0 (h.each at.0 f.0 (kept at.0 f.0 f.1)).group (some at.0 f.0 f.1) (within at.0 f.0 f.1))

-- so many words suffice
pub words_bound : (groups most trail words : ℕ) → trail ≤ (groups + 1) * most + 1 → words ≤ 16 * trail + 2 → words ≤ most_unit_cost groups most
words_bound groups most trail words le cost = omega (arith, le, cost)

pub whole_is : (s : System) (U : ConstraintName → Bool) (trail : List Step) (budget : ℕ) (w : Writer) → IsTrail s U trail → w.words ≤ 16 * length trail + 2 → w.budget ≡ budget
    → IsWhole s U w → IsUnitRefutation s U budget w.lines.items
whole_is s U trail budget w h words e whole =
    let cost = whole.within.cost in
    record {
      valid = whole.valid;
      once = whole.once;
      refutes = whole.refutes;
      within = let le = whole.within.within in omega (arith, cost, le, e);
      cost = λ most all. let bound = words_bound (root s) most (length trail) w.words (trail_length s U trail most h all) words in omega (arith, bound, cost);
    }

pub over_is : (s : System) (U : ConstraintName → Bool) (trail : List Step) (budget : ℕ) (w : Writer) → IsTrail s U trail → w.words ≤ 16 * length trail + 2 → w.budget ≡ budget
    → IsOver s U w → IsUnitSpent s U budget w.lines.items
over_is s U trail budget w h words e over =
    let cost = over.cost in
    let more = over.over in
    record {
      spent = record {
        valid = over.valid;
        once = over.once;
        over = omega (arith, cost, more, e);
        before = over.before;
        last = over.last;
        is = over.is;
        within = let le = over.within in omega (arith, le, e);
      };
      small = λ most all. let bound = words_bound (root s) most (length trail) w.words (trail_length s U trail most h all) words in omega (arith, bound, more, e);
    }

-- What is written

-- two answers say more together
pub both_ok : {X : Type 0} {E : Type 0} (r : Result X E) (P Q R : X → Type 0) → IfOk r P → IfOk r Q → ((x : X) → P x → Q x → R x) → IfOk r R
both_ok (Ok x) P Q R p q f = f x p q
both_ok (Err e) P Q R p q f = p

pub written : (steps : List Step) (group : ℕ) (lit : Literal) (top first second : ℕ) (old mid new : Writer) (numbers : List (List ℕ)) (whole : Bool) → SpellsTrail steps old mid numbers true
    → first ≡ number_of numbers group lit → second ≡ number_of numbers group (opposite lit) → Grows 2 mid new → Ends group top first second mid new whole → WritesTrail steps group lit top old new whole
written steps group lit top first second old mid new numbers whole spells is_first is_second grows ends s U e h =
    let all = spells s U h.is in
    let words = all.grows.words in
    let more = grows.words in
    record {
      words = omega (arith, words, more);
      budget = grows.budget ∙ all.grows.budget;
      answer = ends s U steps lit e (let le = (h.is.each (length h.is.clash.before) h.is.clash.last there).group in let g = h.is_group in omega (arith, le, g, e)) all.answer.0
          (subst (λ (k : ℕ). IsLineOf mid.lines.items k group (lit ∷ [])) (sym is_first) (line all.answer.2))
          (subst (λ (k : ℕ). IsLineOf mid.lines.items k group (opposite lit ∷ [])) (sym is_second) (other all.answer.2));
    }
  where
    there : slice_get steps (length h.is.clash.before) ≡ Some h.is.clash.last
    there = ap (λ (xs : List Step). slice_get xs (length h.is.clash.before)) h.is.clash.is ∙ get_next h.is.clash.before h.is.clash.last

    line : AreNumbered steps numbers mid.lines.items (length steps) → IsNumbered numbers mid.lines.items group lit
    line all =
        subst (λ (g : ℕ). IsNumbered numbers mid.lines.items g lit) h.is_group
        (subst (λ (l : Literal). IsNumbered numbers mid.lines.items h.is.clash.last.group l) h.is_lit
        (all (length h.is.clash.before) h.is.clash.last (slice_get_within steps (length h.is.clash.before) h.is.clash.last there) there))

    other : AreNumbered steps numbers mid.lines.items (length steps) → IsNumbered numbers mid.lines.items group (opposite lit)
    other all =
        let b = h.is.clash.clash in
        subst (λ (g : ℕ). IsNumbered numbers mid.lines.items g (opposite lit)) (b.stands.is_group ∙ h.is_group)
        (subst (λ (l : Literal). IsNumbered numbers mid.lines.items b.stands.step.group l) (b.stands.is_lit ∙ ap opposite h.is_lit)
        (all b.place b.stands.step (slice_get_within steps b.place b.stands.step b.stands.there) b.stands.there))

pub written_over : (steps : List Step) (group : ℕ) (lit : Literal) (top : ℕ) (old new : Writer) (numbers : List (List ℕ)) → SpellsTrail steps old new numbers false → WritesTrail steps group lit top old new false
written_over steps group lit top old new numbers spells s U e h =
    let all = spells s U h.is in
    let words = all.grows.words in
    record { words = omega (arith, words); budget = all.grows.budget; answer = all.answer }

pub refuted : (s : System) (U : ConstraintName → Bool) (steps others : List Step) (group : ℕ) (lit : Literal) (top budget : ℕ) (old new : Writer) (whole : Bool) → WritesTrail others group lit top old new whole
    → others ≡ steps → EndsIn s U group lit steps → top ≡ root s → old.words ≡ 0 → old.budget ≡ budget → whole ≡ true → IsUnitRefutation s U budget new.lines.items
refuted s U steps others group lit top budget old new whole writes same ends e words limit yes_whole =
    let all = subst (λ (xs : List Step). WritesTrail xs group lit top old new whole) same writes s U (sym e) ends in
    let more = all.words in
    whole_is s U steps budget new ends.is (omega (arith, more, words)) (all.budget ∙ limit)
    (subst (λ (b : Bool). MatchBool b (IsWhole s U new) (IsOver s U new)) yes_whole all.answer)

pub spent : (s : System) (U : ConstraintName → Bool) (steps others : List Step) (group : ℕ) (lit : Literal) (top budget : ℕ) (old new : Writer) (whole : Bool) → WritesTrail others group lit top old new whole
    → others ≡ steps → EndsIn s U group lit steps → top ≡ root s → old.words ≡ 0 → old.budget ≡ budget → whole ≡ false → IsUnitSpent s U budget new.lines.items
spent s U steps others group lit top budget old new whole writes same ends e words limit not_whole =
    let all = subst (λ (xs : List Step). WritesTrail xs group lit top old new whole) same writes s U (sym e) ends in
    let more = all.words in
    over_is s U steps budget new ends.is (omega (arith, more, words)) (all.budget ∙ limit)
    (subst (λ (b : Bool). MatchBool b (IsWhole s U new) (IsOver s U new)) not_whole all.answer)
