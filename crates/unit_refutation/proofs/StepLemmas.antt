-- What the lines of one literal, and of all, come to.
use Rattle.std.proofs.Common.{◌≡◌, ◌≢◌, ℕ, ◌+◌, ◌*◌, ◌≤◌, inl, inr, Bool, true, false, List, [], ◌∷◌, length, Option, Some, None, slice_get, refl, sym, ap, subst, ◌∙◌, arith}
use Rattle.std.specs.Prelude.{MatchOption}
use Rattle.std.proofs.lemmas.Bool.{cases_eq}
use Rattle.std.proofs.lemmas.Option.{slice_get_within}
use Rattle.std.specs.List.{Contains}
use Rattle.zo_core.specs.Literals.{Literal, opposite}
use Rattle.zo_core.specs.Order.{Ascends}
use Rattle.zo_core.specs.Resolvents.{without}
use Rattle.conflict_proof.specs.declared.names.ConstraintName.{ConstraintName}
use Rattle.conflict_proof.specs.declared.derivation.How.TheVariants.{Axiom, Resolve, Inst}
use Rattle.conflict_proof.specs.declared.derivation.Line.{Line}
use Rattle.verdict_meaning.specs.Systems.{System}
use Rattle.unit_refutation.specs.declared.steps.Cause.{Cause}
use Rattle.unit_refutation.specs.declared.steps.Cause.TheVariants.{Clause, Site}
use Rattle.unit_refutation.specs.declared.steps.Step.{Step}
use Rattle.unit_refutation.specs.declared.writing.Writer.{Writer}
use Rattle.unit_refutation.specs.Numbers.{HasRoom, number_of, with_number}
use Rattle.unit_refutation.specs.Trails.{StandsBefore, IsForced, IsCarried, IsCause, IsStep, IsOnce, IsTrail}
use Rattle.unit_refutation.specs.Lines.{IsLineOf, IsWithin, Puts, Grows, rest_of, IsClauseFor, IsSpelled, IsSpelling, IsOver, IsNumbered, DenialsAreNumbered, PremisesAreNumbered, AreNumbered, IsRoomyCause, IsRoomy, AreRoomy, IsReached, Spells, SpellsStep, SpellsAll}
use Rattle.unit_refutation.proofs.ListLemmas.{contains_at, same_some}
use Rattle.unit_refutation.proofs.ClauseLemmas.{ascends_without}
use Rattle.unit_refutation.proofs.RestLemmas.{rest_step, rest_stays, rest_end, rest_holds}
use Rattle.unit_refutation.proofs.NumberLemmas.{number_same, number_other, room_kept}
use Rattle.unit_refutation.proofs.LineLemmas.{valid_none, once_none, puts_line, puts_within, puts_grows, line_of_kept, grows_more, grows_later, grows_none}
use Rattle.unit_refutation.proofs.SpellLemmas.{without-no_longer, without-shorter, forced_for, alone_for, clause_within, axiom_right, resolvent_right, instance_right, spelling_begins, spelling_ends, spelling_put, spelling_over}

-- The lines of a literal that a clause forces

-- the clause
pub forced_first : (s : System) (U : ConstraintName → Bool) (trail : List Step) (place : ℕ) (step : Step) (name : ConstraintName) (c : List Literal) (old new : Writer) (n : Option ℕ)
    → IsTrail s U trail → slice_get trail place ≡ Some step → IsForced s U trail place step.group name c step.lit → IsSpelled s U trail place old.lines.items
    → Puts step.group (Axiom name) c old new n → IsSpelling s U trail place (length c) new.lines.items
forced_first s U trail place step name c old new n h at f before p =
    let own : IsClauseFor trail place step.group c = forced_for s U trail place step name c 0 at f in
    spelling_put s U trail place (length c + 1) old new step.group (Axiom name) c n h.once h.consistent (spelling_begins s U trail place (length c + 1) old.lines.items before) (omega arith) own
    (axiom_right s U old.lines.items step.group name c (h.each place step at).group (clause_within s U trail place step.group c h.each f.order own) f.clause) p

-- a resolvent
pub forced_step : (s : System) (U : ConstraintName → Bool) (trail : List Step) (place : ℕ) (step : Step) (name : ConstraintName) (c rest : List Literal) (numbers : List (List ℕ))
    (old a b : Writer) (most i number denial : ℕ) (m : Literal) (n : Option ℕ)
    → IsTrail s U trail → slice_get trail place ≡ Some step → IsForced s U trail place step.group name c step.lit
    → slice_get c i ≡ Some m → m ≢ step.lit → rest ≡ rest_of step.lit i c → Ascends 0 rest
    → IsSpelling s U trail place (length rest) a.lines.items → IsLineOf a.lines.items number step.group rest
    → Grows most old a → DenialsAreNumbered numbers old.lines.items c step.group step.lit → denial ≡ number_of numbers step.group (opposite m)
    → Puts step.group (Resolve number denial) (without m rest) a b n → IsSpelling s U trail place (length (without m rest)) b.lines.items
forced_step s U trail place step name c rest numbers old a b most i number denial m n h there f get ne is order now line grows denials second p =
    let has : Contains rest m = subst (λ (ls : List Literal). Contains ls m) (sym is) (rest_holds step.lit c i m get) in
    let next : without m rest ≡ rest_of step.lit (i + 1) c = ap (without m) is ∙ rest_step step.lit c i m f.order get ne in
    let own : IsClauseFor trail place step.group (without m rest) =
    subst (λ (ls : List Literal). IsClauseFor trail place step.group ls) (sym next) (forced_for s U trail place step name c (i + 1) there f) in
    let other : IsLineOf a.lines.items denial step.group (opposite m ∷ []) =
    line_of_kept most old a denial step.group (opposite m ∷ []) grows
    (subst (λ (k : ℕ). IsLineOf old.lines.items k step.group (opposite m ∷ [])) (sym second) (denials m (contains_at c i m get) ne)) in
    spelling_put s U trail place (length rest) a b step.group (Resolve number denial) (without m rest) n h.once h.consistent now (without-shorter m rest has) own
    (resolvent_right s U a.lines.items step.group number denial rest m (h.each place step there).group
    (clause_within s U trail place step.group (without m rest) h.each (ascends_without 0 m rest order) own) order has line other) p

-- What is written while the first i literals of the clause are gone but for the forced one: the last line is the rest.
pub record IsWriting (s : System) (U : ConstraintName → Bool) (trail : List Step) (place group : ℕ) (lit : Literal) (c : List Literal) (i : ℕ) (old now : Writer) (number : ℕ) (rest : List Literal) : Type 0 where
  pub spelling : IsSpelling s U trail place (length rest) now.lines.items
  pub within : IsWithin now
  pub grows : Grows (4 * (i + 1)) old now
  pub line : IsLineOf now.lines.items number group rest
  pub left : rest ≡ rest_of lit i c
  pub order : Ascends 0 rest
  pub few : length rest ≤ 3

pub writing_first : (s : System) (U : ConstraintName → Bool) (trail : List Step) (place : ℕ) (step : Step) (name : ConstraintName) (c rest : List Literal) (old new : Writer) (k : ℕ)
    → IsTrail s U trail → slice_get trail place ≡ Some step → IsForced s U trail place step.group name c step.lit → IsSpelled s U trail place old.lines.items → IsWithin old
    → Puts step.group (Axiom name) c old new (Some k) → rest ≡ c → IsWriting s U trail place step.group step.lit c 0 old new k rest
writing_first s U trail place step name c rest old new k h at f before w p e =
    subst (λ (ls : List Literal). IsWriting s U trail place step.group step.lit c 0 old new k ls) (sym e) (record {
      spelling = forced_first s U trail place step name c old new (Some k) h at f before p;
      within = puts_within step.group (Axiom name) c old new k w p;
      grows = puts_grows step.group (Axiom name) c old new (Some k) 4 (let few = f.few in omega (arith, few)) p;
      line = puts_line step.group (Axiom name) c old new k p;
      left = refl;
      order = f.order;
      few = f.few;
    })

pub first_over : (s : System) (U : ConstraintName → Bool) (trail : List Step) (place : ℕ) (step : Step) (name : ConstraintName) (c : List Literal) (old new : Writer)
    → IsTrail s U trail → slice_get trail place ≡ Some step → IsForced s U trail place step.group name c step.lit → IsSpelled s U trail place old.lines.items → IsWithin old
    → Puts step.group (Axiom name) c old new None → Spells s U trail place step.group step.lit old new None
first_over s U trail place step name c old new h at f before w p = record {
  grows = puts_grows step.group (Axiom name) c old new None 16 (let few = f.few in omega (arith, few)) p;
  answer = spelling_over s U trail place (length c) step.group (Axiom name) c old new w p (forced_first s U trail place step name c old new None h at f before p);
}

pub writing_step : (s : System) (U : ConstraintName → Bool) (trail : List Step) (place : ℕ) (step : Step) (name : ConstraintName) (c rest next : List Literal) (numbers : List (List ℕ))
    (old a b : Writer) (i number denial k : ℕ) (m : Literal)
    → IsTrail s U trail → slice_get trail place ≡ Some step → IsForced s U trail place step.group name c step.lit
    → slice_get c i ≡ Some m → m ≢ step.lit → IsWriting s U trail place step.group step.lit c i old a number rest
    → DenialsAreNumbered numbers old.lines.items c step.group step.lit → denial ≡ number_of numbers step.group (opposite m) → next ≡ without m rest
    → Puts step.group (Resolve number denial) (without m rest) a b (Some k) → IsWriting s U trail place step.group step.lit c (i + 1) old b k next
writing_step s U trail place step name c rest next numbers old a b i number denial k m h there f get ne w denials second e p =
    let few = w.few in
    let short = without-no_longer m rest in
    subst (λ (ls : List Literal). IsWriting s U trail place step.group step.lit c (i + 1) old b k ls) (sym e) (record {
      spelling = forced_step s U trail place step name c rest numbers old a b (4 * (i + 1)) i number denial m (Some k) h there f get ne w.left w.order w.spelling w.line w.grows denials second p;
      within = puts_within step.group (Resolve number denial) (without m rest) a b k w.within p;
      grows = grows_later (4 * (i + 1) + 4) (4 * (i + 1 + 1)) old b (omega arith)
          (grows_more (4 * (i + 1)) 4 old a b w.grows (puts_grows step.group (Resolve number denial) (without m rest) a b (Some k) 4 (omega (arith, few, short)) p));
      line = puts_line step.group (Resolve number denial) (without m rest) a b k p;
      left = ap (without m) w.left ∙ rest_step step.lit c i m f.order get ne;
      order = ascends_without 0 m rest w.order;
      few = omega (arith, few, short);
    })

pub step_over : (s : System) (U : ConstraintName → Bool) (trail : List Step) (place : ℕ) (step : Step) (name : ConstraintName) (c rest : List Literal) (numbers : List (List ℕ))
    (old a b : Writer) (i number denial : ℕ) (m : Literal)
    → IsTrail s U trail → slice_get trail place ≡ Some step → IsForced s U trail place step.group name c step.lit
    → slice_get c i ≡ Some m → m ≢ step.lit → IsWriting s U trail place step.group step.lit c i old a number rest
    → DenialsAreNumbered numbers old.lines.items c step.group step.lit → denial ≡ number_of numbers step.group (opposite m)
    → Puts step.group (Resolve number denial) (without m rest) a b None → Spells s U trail place step.group step.lit old b None
step_over s U trail place step name c rest numbers old a b i number denial m h there f get ne w denials second p =
    let few = w.few in
    let size = f.few in
    let short = without-no_longer m rest in
    let lt = slice_get_within c i m get in
    record {
      grows = grows_later (4 * (i + 1) + 4) 16 old b (omega (arith, size, lt))
          (grows_more (4 * (i + 1)) 4 old a b w.grows (puts_grows step.group (Resolve number denial) (without m rest) a b None 4 (omega (arith, few, short)) p));
      answer = spelling_over s U trail place (length (without m rest)) step.group (Resolve number denial) (without m rest) a b w.within p
          (forced_step s U trail place step name c rest numbers old a b (4 * (i + 1)) i number denial m None h there f get ne w.left w.order w.spelling w.line w.grows denials second p);
    }

-- the forced literal itself stays
pub writing_same : (s : System) (U : ConstraintName → Bool) (trail : List Step) (place group : ℕ) (lit m : Literal) (c : List Literal) (i : ℕ) (old now : Writer) (number : ℕ) (rest : List Literal)
    → slice_get c i ≡ Some m → m ≡ lit → IsWriting s U trail place group lit c i old now number rest → IsWriting s U trail place group lit c (i + 1) old now number rest
writing_same s U trail place group lit m c i old now number rest get e w = record {
  spelling = w.spelling;
  within = w.within;
  grows = grows_later (4 * (i + 1)) (4 * (i + 1 + 1)) old now (omega arith) w.grows;
  line = w.line;
  left = w.left ∙ rest_stays lit c i (get ∙ ap Some e);
  order = w.order;
  few = w.few;
}

pub writing_end : (s : System) (U : ConstraintName → Bool) (trail : List Step) (place : ℕ) (step : Step) (name : ConstraintName) (c : List Literal) (i : ℕ) (old now : Writer) (number : ℕ) (rest : List Literal)
    → IsForced s U trail place step.group name c step.lit → i ≡ length c → IsWriting s U trail place step.group step.lit c i old now number rest → Spells s U trail place step.group step.lit old now (Some number)
writing_end s U trail place step name c i old now number rest f e w =
    let size = f.few in
    let alone : rest ≡ step.lit ∷ [] = w.left ∙ rest_end step.lit c i f.order f.holds (omega (arith, e)) in
    record {
      grows = grows_later (4 * (i + 1)) 16 old now (omega (arith, size, e)) w.grows;
      answer = (spelling_ends s U trail place (length rest) now.lines.items w.spelling, w.within, subst (λ (ls : List Literal). IsLineOf now.lines.items number step.group ls) alone w.line);
    }

-- The line of a literal that a site carries

-- the cause of a step at a place of a trail
pub forced_of : (s : System) (U : ConstraintName → Bool) (trail : List Step) (place : ℕ) (step : Step) (name : ConstraintName) (c : List Literal) → IsStep s U trail place step → step.cause ≡ Clause name c
    → IsForced s U trail place step.group name c step.lit
forced_of s U trail place step name c h e = subst (λ (why : Cause). IsCause s U trail place step.group step.lit why) e h.cause

carried_of : (s : System) (U : ConstraintName → Bool) (trail : List Step) (place : ℕ) (step : Step) (site lower : ℕ) (m : Literal) → IsStep s U trail place step → step.cause ≡ Site site lower m
    → IsCarried s trail place step.group site lower m step.lit
carried_of s U trail place step site lower m h e = subst (λ (why : Cause). IsCause s U trail place step.group step.lit why) e h.cause

pub denials_of : (numbers : List (List ℕ)) (lines : List Line) (group : ℕ) (lit : Literal) (why : Cause) (name : ConstraintName) (c : List Literal) → why ≡ Clause name c → PremisesAreNumbered numbers lines group lit why
    → DenialsAreNumbered numbers lines c group lit
denials_of numbers lines group lit why name c e h = subst (λ (x : Cause). PremisesAreNumbered numbers lines group lit x) e h

pub roomy_clause : (numbers : List (List ℕ)) (step : Step) (name : ConstraintName) (c : List Literal) → IsRoomy numbers step → step.cause ≡ Clause name c → IsRoomyCause numbers step.group step.lit (Clause name c)
roomy_clause numbers step name c h e = subst (λ (x : Cause). IsRoomyCause numbers step.group step.lit x) e h.cause

pub roomy_site : (numbers : List (List ℕ)) (step : Step) (site lower : ℕ) (m : Literal) → IsRoomy numbers step → step.cause ≡ Site site lower m → HasRoom numbers lower m
roomy_site numbers step site lower m h e = subst (λ (x : Cause). IsRoomyCause numbers step.group step.lit x) e h.cause

pub carried_spells : (numbers : List (List ℕ)) (step : Step) (site lower from : ℕ) (m : Literal) (old new : Writer) (n : Option ℕ) → step.cause ≡ Site site lower m → from ≡ number_of numbers lower m → IsWithin old
    → Puts step.group (Inst from site) (step.lit ∷ []) old new n → SpellsStep numbers step old new n
carried_spells numbers step site lower from m old new n why number w p s U trail place r =
    record { grows = puts_grows step.group (Inst from site) (step.lit ∷ []) old new n 16 (omega arith) p; answer = by_answer n p (spelled n p) }
  where
    line : IsLineOf old.lines.items from lower (m ∷ [])
    line =
        subst (λ (k : ℕ). IsLineOf old.lines.items k lower (m ∷ [])) (sym number)
        (subst (λ (x : Cause). PremisesAreNumbered numbers old.lines.items step.group step.lit x) why r.premises)

    spelled : (n : Option ℕ) → Puts step.group (Inst from site) (step.lit ∷ []) old new n → IsSpelling s U trail place 1 new.lines.items
    spelled n p =
        let f = r.trail_is.each place step r.there in
        let carried = carried_of s U trail place step site lower m f why in
        let own = alone_for trail place step r.there in
        spelling_put s U trail place 2 old new step.group (Inst from site) (step.lit ∷ []) n r.trail_is.once r.trail_is.consistent (spelling_begins s U trail place 2 old.lines.items r.spelled) (omega arith) own
        (instance_right s U old.lines.items trail place step.group from site lower m step.lit f.group
        (clause_within s U trail place step.group (step.lit ∷ []) r.trail_is.each (f.some, tt) own) carried line) p

    by_answer : (n : Option ℕ) → Puts step.group (Inst from site) (step.lit ∷ []) old new n → IsSpelling s U trail place 1 new.lines.items
        → MatchOption n (IsOver s U new) (λ k. IsSpelled s U trail (place + 1) new.lines.items × IsWithin new × IsLineOf new.lines.items k step.group (step.lit ∷ []))
    by_answer None p now = spelling_over s U trail place 1 step.group (Inst from site) (step.lit ∷ []) old new w p now
    by_answer (Some k) p now = (
      spelling_ends s U trail place 1 new.lines.items now,
      puts_within step.group (Inst from site) (step.lit ∷ []) old new k w p,
      puts_line step.group (Inst from site) (step.lit ∷ []) old new k p,
    )

-- All literals

spelled_none : (s : System) (U : ConstraintName → Bool) (trail : List Step) (lines : List Line) → lines ≡ [] → IsSpelled s U trail 0 lines
spelled_none s U trail lines e = subst (λ (ls : List Line). IsSpelled s U trail 0 ls) (sym e) (record { valid = valid_none s U; once = once_none; each = λ k line at. cc })

-- one place more
numbered_more : (trail : List Step) (numbers : List (List ℕ)) (old new : Writer) (most place number : ℕ) (step : Step) → IsOnce trail → slice_get trail place ≡ Some step → HasRoom numbers step.group step.lit
    → Grows most old new → AreNumbered trail numbers old.lines.items place → IsLineOf new.lines.items number step.group (step.lit ∷ [])
    → AreNumbered trail (with_number numbers step.group step.lit number) new.lines.items (place + 1)
numbered_more trail numbers old new most place number step once there room grows h line p f lt at = elim (cases_eq p place) [
  | inl e ↦
      let same : f ≡ step = same_some f step (sym at ∙ ap (slice_get trail) e ∙ there) in
      subst (λ (x : Step). IsNumbered (with_number numbers step.group step.lit number) new.lines.items x.group x.lit) (sym same)
      (subst (λ (k : ℕ). IsLineOf new.lines.items k step.group (step.lit ∷ [])) (sym (number_same numbers step.group step.lit number room)) line)
  | inr ne ↦
      let other = number_other numbers step.group f.group step.lit f.lit number (λ g l. ne (once p place f step at there g l)) in
      subst (λ (k : ℕ). IsLineOf new.lines.items k f.group (f.lit ∷ [])) (sym other)
      (line_of_kept most old new (number_of numbers f.group f.lit) f.group (f.lit ∷ []) grows (h p f (omega (arith, lt, ne)) at))
]

-- What is there once the lines of all steps before a place are written.
pub record IsStage (s : System) (U : ConstraintName → Bool) (trail : List Step) (place : ℕ) (old now : Writer) (numbers : List (List ℕ)) : Type 0 where
  pub spelled : IsSpelled s U trail place now.lines.items
  pub grows : Grows (16 * place) old now
  pub numbered : AreNumbered trail numbers now.lines.items place

pub stage_first : (s : System) (U : ConstraintName → Bool) (trail : List Step) (old : Writer) (numbers : List (List ℕ)) → old.lines.items ≡ [] → IsStage s U trail 0 old old numbers
stage_first s U trail old numbers e = record {
  spelled = spelled_none s U trail old.lines.items e;
  grows = grows_none 0 old;
  numbered = λ p f lt at. absurd (omega arith);
}

-- what a step stands on has lines
premises_numbered : (s : System) (U : ConstraintName → Bool) (trail : List Step) (place : ℕ) (numbers : List (List ℕ)) (lines : List Line) (group : ℕ) (lit : Literal) (why : Cause)
    → AreNumbered trail numbers lines place → IsCause s U trail place group lit why → PremisesAreNumbered numbers lines group lit why
premises_numbered s U trail place numbers lines group lit (Clause name c) h f = λ m has ne. standing (opposite m) (f.denied m has ne)
  where
    standing : (l : Literal) → StandsBefore trail place group l → IsNumbered numbers lines group l
    standing l b =
        subst (λ (g : ℕ). IsNumbered numbers lines g l) b.stands.is_group
        (subst (λ (x : Literal). IsNumbered numbers lines b.stands.step.group x) b.stands.is_lit (h b.place b.stands.step b.earlier b.stands.there))
premises_numbered s U trail place numbers lines group lit (Site site lower m) h f =
    let b = f.before in
    subst (λ (g : ℕ). IsNumbered numbers lines g m) b.stands.is_group
    (subst (λ (x : Literal). IsNumbered numbers lines b.stands.step.group x) b.stands.is_lit (h b.place b.stands.step b.earlier b.stands.there))

pub stage_reached : (s : System) (U : ConstraintName → Bool) (trail : List Step) (place : ℕ) (old now : Writer) (numbers : List (List ℕ)) (step : Step) → IsTrail s U trail → slice_get trail place ≡ Some step
    → IsStage s U trail place old now numbers → IsReached s U trail place numbers step now
stage_reached s U trail place old now numbers step h at stage = record {
  trail_is = h;
  there = at;
  spelled = stage.spelled;
  premises = premises_numbered s U trail place numbers now.lines.items step.group step.lit step.cause stage.numbered (h.each place step at).cause;
}

pub stage_more : (s : System) (U : ConstraintName → Bool) (trail : List Step) (place : ℕ) (old now new : Writer) (numbers : List (List ℕ)) (step : Step) (k : ℕ) → IsTrail s U trail → slice_get trail place ≡ Some step
    → HasRoom numbers step.group step.lit → IsStage s U trail place old now numbers → SpellsStep numbers step now new (Some k)
    → IsStage s U trail (place + 1) old new (with_number numbers step.group step.lit k)
stage_more s U trail place old now new numbers step k h at room stage spells =
    let next = spells s U trail place (stage_reached s U trail place old now numbers step h at stage) in
    record {
      spelled = next.answer.0;
      grows = grows_later (16 * place + 16) (16 * (place + 1)) old new (omega arith) (grows_more (16 * place) 16 old now new stage.grows next.grows);
      numbered = numbered_more trail numbers now new 16 place k step h.once at room next.grows stage.numbered next.answer.2;
    }

pub stage_over : (s : System) (U : ConstraintName → Bool) (trail : List Step) (place : ℕ) (old now new : Writer) (numbers others : List (List ℕ)) (step : Step) → IsTrail s U trail → slice_get trail place ≡ Some step
    → IsStage s U trail place old now numbers → SpellsStep numbers step now new None → SpellsAll s U trail old new others false
stage_over s U trail place old now new numbers others step h at stage spells =
    let next = spells s U trail place (stage_reached s U trail place old now numbers step h at stage) in
    let lt = slice_get_within trail place step at in
    record {
      grows = grows_later (16 * place + 16) (16 * length trail) old new (omega (arith, lt)) (grows_more (16 * place) 16 old now new stage.grows next.grows);
      answer = next.answer;
    }

pub stage_last : (s : System) (U : ConstraintName → Bool) (trail : List Step) (place : ℕ) (old now : Writer) (numbers : List (List ℕ)) → place ≡ length trail → IsWithin now
    → IsStage s U trail place old now numbers → SpellsAll s U trail old now numbers true
stage_last s U trail place old now numbers e w stage =
    let last : IsStage s U trail (length trail) old now numbers = subst (λ (k : ℕ). IsStage s U trail k old now numbers) e stage in
    record { grows = last.grows; answer = (last.spelled, w, last.numbered) }

-- every step keeps its room
pub roomy_kept : (numbers : List (List ℕ)) (group k : ℕ) (lit : Literal) (trail : List Step) → AreRoomy numbers trail → AreRoomy (with_number numbers group lit k) trail
roomy_kept numbers group k lit trail h p f at =
    let old = h p f at in
    record { some = old.some; own = room_kept numbers group f.group lit f.lit k old.own; cause = by_cause f.cause old.cause }
  where
    by_cause : (why : Cause) → IsRoomyCause numbers f.group f.lit why → IsRoomyCause (with_number numbers group lit k) f.group f.lit why
    by_cause (Clause name c) r = (r.0, r.1, λ m has ne. room_kept numbers group f.group lit (opposite m) k (r.2 m has ne))
    by_cause (Site site lower m) r = room_kept numbers group lower lit m k r

-- The same of a step that is reached, in every system

pub reached_first : (numbers : List (List ℕ)) (step : Step) (name : ConstraintName) (c rest : List Literal) (old new : Writer) (k : ℕ) → step.cause ≡ Clause name c → IsWithin old
    → Puts step.group (Axiom name) c old new (Some k) → rest ≡ c → (s : System) (U : ConstraintName → Bool) (trail : List Step) (place : ℕ) → IsReached s U trail place numbers step old
    → IsWriting s U trail place step.group step.lit c 0 old new k rest
reached_first numbers step name c rest old new k why w p e s U trail place r =
    writing_first s U trail place step name c rest old new k r.trail_is r.there (forced_of s U trail place step name c (r.trail_is.each place step r.there) why) r.spelled w p e

pub reached_first_over : (numbers : List (List ℕ)) (step : Step) (name : ConstraintName) (c : List Literal) (old new : Writer) → step.cause ≡ Clause name c → IsWithin old
    → Puts step.group (Axiom name) c old new None → SpellsStep numbers step old new None
reached_first_over numbers step name c old new why w p s U trail place r =
    first_over s U trail place step name c old new r.trail_is r.there (forced_of s U trail place step name c (r.trail_is.each place step r.there) why) r.spelled w p

pub reached_step : (numbers : List (List ℕ)) (step : Step) (name : ConstraintName) (c rest next : List Literal) (old a b : Writer) (i number denial k : ℕ) (m : Literal) → step.cause ≡ Clause name c
    → slice_get c i ≡ Some m → m ≢ step.lit → denial ≡ number_of numbers step.group (opposite m) → next ≡ without m rest → Puts step.group (Resolve number denial) (without m rest) a b (Some k)
    → ((s : System) (U : ConstraintName → Bool) (trail : List Step) (place : ℕ) → IsReached s U trail place numbers step old → IsWriting s U trail place step.group step.lit c i old a number rest)
    → (s : System) (U : ConstraintName → Bool) (trail : List Step) (place : ℕ) → IsReached s U trail place numbers step old → IsWriting s U trail place step.group step.lit c (i + 1) old b k next
reached_step numbers step name c rest next old a b i number denial k m why get ne second e p h s U trail place r =
    writing_step s U trail place step name c rest next numbers old a b i number denial k m r.trail_is r.there (forced_of s U trail place step name c (r.trail_is.each place step r.there) why) get ne (h s U trail place r)
    (denials_of numbers old.lines.items step.group step.lit step.cause name c why r.premises) second e p

pub reached_step_over : (numbers : List (List ℕ)) (step : Step) (name : ConstraintName) (c rest : List Literal) (old a b : Writer) (i number denial : ℕ) (m : Literal) → step.cause ≡ Clause name c
    → slice_get c i ≡ Some m → m ≢ step.lit → denial ≡ number_of numbers step.group (opposite m) → Puts step.group (Resolve number denial) (without m rest) a b None
    → ((s : System) (U : ConstraintName → Bool) (trail : List Step) (place : ℕ) → IsReached s U trail place numbers step old → IsWriting s U trail place step.group step.lit c i old a number rest)
    → SpellsStep numbers step old b None
reached_step_over numbers step name c rest old a b i number denial m why get ne second p h s U trail place r =
    step_over s U trail place step name c rest numbers old a b i number denial m r.trail_is r.there (forced_of s U trail place step name c (r.trail_is.each place step r.there) why) get ne (h s U trail place r)
    (denials_of numbers old.lines.items step.group step.lit step.cause name c why r.premises) second p

pub reached_end : (numbers : List (List ℕ)) (step : Step) (name : ConstraintName) (c : List Literal) (i : ℕ) (old now : Writer) (number : ℕ) (rest : List Literal) → step.cause ≡ Clause name c → i ≡ length c
    → ((s : System) (U : ConstraintName → Bool) (trail : List Step) (place : ℕ) → IsReached s U trail place numbers step old → IsWriting s U trail place step.group step.lit c i old now number rest)
    → SpellsStep numbers step old now (Some number)
reached_end numbers step name c i old now number rest why e h s U trail place r =
    writing_end s U trail place step name c i old now number rest (forced_of s U trail place step name c (r.trail_is.each place step r.there) why) e (h s U trail place r)
