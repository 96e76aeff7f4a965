-- What has been asked for stays there while more is asked for.
use Rattle.std.proofs.Common.{◌≡◌, ℕ, zero, suc, ◌+◌, ◌-◌, ◌<◌, ◌≤◌, ◌⊎◌, inl, inr, ⊎_elim, Bool, true, false, cond, List, [], ◌∷◌, ◌++◌, Option, Some, None, refl, sym, ap, ◌∙◌, subst, arith, length, slice_get, length-append, append_assoc}
use Rattle.std.specs.Prelude.{nat_eq}
use Rattle.std.proofs.lemmas.Bool.{cases_eq, cases_lt, eq-eqb, eqb-true}
use Rattle.conflict_proof.specs.declared.names.ConstraintName.{ConstraintName}
use Rattle.conflict_proof.specs.declared.derivation.Line.{Line}
use Rattle.verdict_meaning.specs.declared.callee.Callee.{Callee}
use Rattle.verdict_meaning.specs.Systems.{System, root, callee, callees, callee_parts, count, phi_numbers, sigma_numbers}
use Rattle.verdict_meaning.specs.Solutions.{phi_by, sigma_by}
use Rattle.verdict_meaning.specs.Certificates.{bit_at}
use Rattle.verdict_meaning.specs.Derivations.{cost_of, InstLinesAreTrue}
use Rattle.verdict_meaning.proofs.Bits.{length-by, length-numbers, get_at}
use Rattle.call_search.specs.Indexes.{Ledger}
use Rattle.call_search.specs.declared.entries.Entry.{Entry}
use Rattle.call_search.specs.Shapes.{IsShaped}
use Rattle.std.specs.List.{Contains, All}
use Rattle.zo_core.specs.Literals.{Literal, opposite}
use Rattle.call_search.specs.declared.groups.Outcome.{Outcome}
use Rattle.call_search.specs.declared.groups.Outcome.TheVariants as outcome
use Rattle.call_search.specs.declared.fill.Answered.{Answered}
use Rattle.call_search.specs.declared.fill.Answered.TheVariants as answered
use Rattle.call_search.specs.declared.fill.Asked.{Asked}
use Rattle.call_search.specs.declared.fill.Asked.TheVariants as asked
use Rattle.call_search.specs.Ledgers.{Extends, Solves, IsSolved, IsOver, IsDenied}
use Rattle.call_search.specs.Entries.{in_group, IsKept, IsAnswered, IsTable, IsAskedAt, Grows, AllAnswered, IsAskedBy, AreBitsAt, AreLeft}
use Rattle.call_search.specs.Answers.{IsObtained, IsAsker, IsProvided, IsPaid, IsDeepened, IsFilling, IsFilled, AnsweredIs, CarriedIs, AskedIs, DeepenedIs, FilledIs, given_for, OutcomeIs, IsRefuting, HasSolution}
use Rattle.call_search.proofs.Lists.{get_append, append_cases, append_none}
use Rattle.call_search.proofs.Grow.{cost-append, extends-trans}

pub phi_length : (s : System) (a : ℕ → Bool) → length (phi_by s a) ≡ s.fields
phi_length s a = length-by a (phi_numbers s) ∙ length-numbers 1 s.fields

pub sigma_length : (s : System) (g : ℕ) (a : ℕ → Bool) (site : ℕ) → length (sigma_by s g a site) ≡ callee_parts s (callee s g site)
sigma_length s g a site = length-by a (sigma_numbers s g site) ∙ length-numbers _ (callee_parts s (callee s g site))

pub answered-more : (s : System) (es fs more : List Entry) (c : Callee) (face : List Bool) → fs ≡ es ++ more → IsAnswered s es c face → IsAnswered s fs c face
answered-more s es fs more c face e h = record {
  number = h.number;
  entry = h.entry;
  there = ap (λ (xs : List Entry). slice_get xs h.number) e ∙ get_append es more h.entry h.number h.there;
  answers = h.answers;
}

-- after one site

abbrev grown_by : ℕ → List Entry → ℕ → List Entry
grown_by g more h = cond (nat_eq h g) more []

module _ (s : System) (U : ConstraintName → Bool) (shaped : IsShaped s) (phi : List Bool) (g : ℕ) (bits : List Bool) (site : ℕ) (lt : site < length (callees s g)) where
  abbrev c : Callee
  c = callee s g site

  abbrev face : List Bool
  face = sigma_by s g (bit_at bits) site

  below : c.group < g
  below = shaped.below g site lt

  pub provided : (old new : Ledger) (t u : List (List Entry)) (upto : ℕ) → upto ≡ site + 1 → IsObtained s U phi c face old new t u → IsProvided s U phi g bits old new t u site upto
  provided old new t u upto eu o = record {
    ledger = o.ledger;
    table = o.table;
    grows = record {
      size = o.adds.size;
      same = λ h le. o.adds.others h (above h le);
      more = grown_by c.group o.adds.more;
      is = λ h. is_at h;
      wanted = λ h n e at. want h n e at;
    };
    answered = λ x le up. subst (λ y. IsAnswered s (in_group u (callee s g y).group) (callee s g y) (sigma_by s g (bit_at bits) y)) (one x le up) o.answered;
  }
    where
      one : (x : ℕ) → site ≤ x → x < upto → site ≡ x
      one x le up = omega arith

      above : (h : ℕ) → g ≤ h → h ≡ c.group → ⊥
      above h le e = let b = below in omega arith

      is_at : (h : ℕ) → in_group u h ≡ in_group t h ++ grown_by c.group o.adds.more h
      is_at h = split (nat_eq h c.group) refl
        where
          split : (b : Bool) → nat_eq h c.group ≡ b → in_group u h ≡ in_group t h ++ cond b o.adds.more []
          split true e = subst (λ k. in_group u k ≡ in_group t k ++ o.adds.more) (sym (eqb-true h c.group e)) o.adds.is
          split false e = o.adds.others h (λ same. clash (sym (eq-eqb h c.group same) ∙ e)) ∙ sym (append_none (in_group t h))
            where
              clash : true ≡ false → ⊥
              clash e = cc

      want : (h n : ℕ) (e : Entry) → slice_get (grown_by c.group o.adds.more h) n ≡ Some e → IsAskedAt s g bits e
      want h n e at = split (nat_eq h c.group) at
        where
          split : (b : Bool) → slice_get (cond b o.adds.more []) n ≡ Some e → IsAskedAt s g bits e
          split true at = record { site = site; within = lt; answers = o.adds.each n e at }
          split false at = cc

  -- the asker after a solver of the called group added its lines
  pub asker-more : (old new : Ledger) → Solves s U c.group old new → IsAsker s U old.lines phi g bits → IsAsker s U new.lines (phi_by s (bit_at bits)) g bits
  asker-more old new sol a = record {
    size = a.size;
    local = a.local;
    phi_is = refl;
    carried = λ n x at group by. still n x at group by;
  }
    where
      still : InstLinesAreTrue new.lines g (bit_at bits)
      still zero x at group by = cc
      still (suc n) x at group by =
          ⊎_elim
          (λ (i : slice_get old.lines n ≡ Some x). a.carried (suc n) x i group by)
          (λ (i : (m : ℕ) × (slice_get sol.extends.more m ≡ Some x)). absurd ((sol.own i.0 x i.1).1 by))
          (append_cases old.lines sol.extends.more x n (ap (λ (ls : List Line). slice_get ls n) (sym sol.extends.is) ∙ at))

pub fewer-words : (s : System) (U : ConstraintName → Bool) (old new : Ledger) → Extends s U old new → new.words ≤ old.words
fewer-words s U old new e =
    let p : cost_of new.lines + new.words ≡ cost_of old.lines + old.words = e.paid in
    let c : cost_of new.lines ≡ cost_of old.lines + cost_of e.more = ap cost_of e.is ∙ cost-append old.lines e.more in
    omega arith

pub paid-after : (s : System) (U : ConstraintName → Bool) (g : ℕ) (a b c : Ledger) → Solves s U g a b → IsPaid s U b c → IsPaid s U a c
paid-after s U g a b c p q = record {
  extends = extends-trans s U a b c p.extends q.extends;
  fewer = let h = fewer-words s U a b p.extends in let k = q.fewer in omega arith;
  own = p.extends.more ++ q.own;
  last = q.last;
  is = q.is ∙ ap (λ ls. ls ++ (q.own ++ q.last ∷ [])) p.extends.is ∙ append_assoc a.lines p.extends.more (q.own ++ q.last ∷ []) ∙ ap (λ ls. a.lines ++ ls) (sym (append_assoc p.extends.more q.own (q.last ∷ [])));
  none = λ n x at. ⊎_elim (λ (i : slice_get p.extends.more n ≡ Some x). (p.own n x i).1) (λ (i : (m : ℕ) × (slice_get q.own m ≡ Some x)). q.none i.0 x i.1) (append_cases p.extends.more q.own x n at);
}

-- one site after others

pub grows-none : (s : System) (g : ℕ) (bits : List Bool) (t : List (List Entry)) → Grows s g bits t t
grows-none s g bits t = record { size = refl; same = λ h le. refl; more = λ h. []; is = λ h. sym (append_none (in_group t h)); wanted = λ h n e at. cc }

grows-trans : (s : System) (g : ℕ) (bits : List Bool) (t u v : List (List Entry)) → Grows s g bits t u → Grows s g bits u v → Grows s g bits t v
grows-trans s g bits t u v p q = record {
  size = q.size ∙ p.size;
  same = λ h le. q.same h le ∙ p.same h le;
  more = λ h. p.more h ++ q.more h;
  is = λ h. q.is h ∙ ap (λ es. es ++ q.more h) (p.is h) ∙ append_assoc (in_group t h) (p.more h) (q.more h);
  wanted = λ h n e at. ⊎_elim (λ (i : slice_get (p.more h) n ≡ Some e). p.wanted h n e i) (λ (i : (m : ℕ) × (slice_get (q.more h) m ≡ Some e)). q.wanted h i.0 e i.1) (append_cases (p.more h) (q.more h) e n at);
}

pub provided-none : (s : System) (U : ConstraintName → Bool) (phi : List Bool) (g : ℕ) (bits : List Bool) (l : Ledger) (t : List (List Entry)) → IsTable s U l.lines phi t → IsProvided s U phi g bits l l t t 0 0
provided-none s U phi g bits l t table = record { ledger = refl; table = table; grows = grows-none s g bits t; answered = λ x le up. absurd (omega arith) }

pub provided-next : (s : System) (U : ConstraintName → Bool) (phi : List Bool) (g : ℕ) (bits : List Bool) (a b c : Ledger) (t u v : List (List Entry)) (from mid upto : ℕ) → IsProvided s U phi g bits a b t u from mid → IsProvided s U phi g bits b c u v mid upto
    → IsProvided s U phi g bits a c t v from upto
provided-next s U phi g bits a b c t u v from mid upto p q = record {
  ledger = q.ledger ∙ p.ledger;
  table = q.table;
  grows = grows-trans s g bits t u v p.grows q.grows;
  answered = λ x le up. at x le up;
}
  where
    at : (x : ℕ) → from ≤ x → x < upto → IsAnswered s (in_group v (callee s g x).group) (callee s g x) (sigma_by s g (bit_at bits) x)
    at x le up = elim (cases_lt x mid) [
      | inl low ↦ answered-more s (in_group u (callee s g x).group) (in_group v (callee s g x).group) (q.grows.more (callee s g x).group) (callee s g x) (sigma_by s g (bit_at bits) x) (q.grows.is (callee s g x).group) (p.answered x le low)
      | inr high ↦ q.answered x high up
    ]

-- one instance of a group after others

pub all-more : (s : System) (u v : List (List Entry)) (more : ℕ → List Entry) (g : ℕ) (bits : List Bool) → ((h : ℕ) → in_group v h ≡ in_group u h ++ more h) → AllAnswered s u g bits → AllAnswered s v g bits
all-more s u v more g bits is h x up =
    answered-more s (in_group u (callee s g x).group) (in_group v (callee s g x).group) (more (callee s g x).group) (callee s g x) (sigma_by s g (bit_at bits) x) (is (callee s g x).group) (h x up)

pub asked-more : (s : System) (u v : List (List Entry)) (more : ℕ → List Entry) (e : Entry) → ((h : ℕ) → in_group v h ≡ in_group u h ++ more h) → IsAskedBy s u e → IsAskedBy s v e
asked-more s u v more e is h = record {
  group = h.group;
  number = h.number;
  caller = h.caller;
  there = ap (λ (es : List Entry). slice_get es h.number) (is h.group) ∙ get_append (in_group u h.group) (more h.group) h.caller h.number h.there;
  asked = h.asked;
}

pub kept-asker : (s : System) (U : ConstraintName → Bool) (lines : List Line) (phi : List Bool) (g : ℕ) (e : Entry) → e.group ≡ g → IsKept s U lines phi e → IsAsker s U lines phi g e.bits
kept-asker s U lines phi g e same k = subst (λ h. IsAsker s U lines phi h e.bits) same (record { size = k.size; local = k.local; phi_is = k.phi_is; carried = k.carried })

pub deepened-none : (s : System) (U : ConstraintName → Bool) (phi : List Bool) (g : ℕ) (l : Ledger) (t : List (List Entry)) → IsTable s U l.lines phi t → IsDeepened s U phi g l l t t 0
deepened-none s U phi g l t table = record {
  ledger = refl;
  table = table;
  same = λ h le. refl;
  more = λ h. [];
  is = λ h. sym (append_none (in_group t h));
  wanted = λ h n e at. cc;
  answered = λ n e lt at. absurd (omega arith);
}

pub deepened-next : (s : System) (U : ConstraintName → Bool) (phi : List Bool) (g : ℕ) (a b c : Ledger) (t u v : List (List Entry)) (k : ℕ) (e : Entry) (upto : ℕ) → upto ≡ k + 1 → IsDeepened s U phi g a b t u k → slice_get (in_group u g) k ≡ Some e
    → IsProvided s U phi g e.bits b c u v 0 (length (callees s g)) → IsDeepened s U phi g a c t v upto
deepened-next s U phi g a b c t u v k e upto eu p at q = record {
  ledger = q.ledger ∙ p.ledger;
  table = q.table;
  same = λ h le. q.grows.same h le ∙ p.same h le;
  more = λ h. p.more h ++ q.grows.more h;
  is = λ h. q.grows.is h ∙ ap (λ es. es ++ q.grows.more h) (p.is h) ∙ append_assoc (in_group t h) (p.more h) (q.grows.more h);
  wanted = λ h n f here. ⊎_elim
      (λ (i : slice_get (p.more h) n ≡ Some f). asked-more s u v q.grows.more f q.grows.is (p.wanted h n f i))
      (λ (i : (m : ℕ) × (slice_get (q.grows.more h) m ≡ Some f)). asker f (q.grows.wanted h i.0 f i.1))
      (append_cases (p.more h) (q.grows.more h) f n here);
  answered = λ n f lt here. all n f lt here;
}
  where
    still : slice_get (in_group v g) k ≡ Some e
    still = ap (λ (es : List Entry). slice_get es k) (q.grows.same g (omega arith)) ∙ at

    asker : (f : Entry) → IsAskedAt s g e.bits f → IsAskedBy s v f
    asker f h = record { group = g; number = k; caller = e; there = still; asked = h }

    one : (x y : Entry) → Some x ≡ Some y → x ≡ y
    one x y e = cc

    all : (n : ℕ) (f : Entry) → n < upto → slice_get (in_group v g) n ≡ Some f → AllAnswered s v g f.bits
    all n f lt here = elim (cases_lt n k) [
      | inl low ↦ all-more s u v q.grows.more g f.bits q.grows.is (p.answered n f low (ap (λ (es : List Entry). slice_get es n) (sym (q.grows.same g (omega arith))) ∙ here))
      | inr high ↦ subst (λ (x : Entry). AllAnswered s v g x.bits) (one e f (sym still ∙ ap (λ m. slice_get (in_group v g) m) (same_number high) ∙ here)) (λ x up. q.answered x (omega arith) up)
    ]
      where
        same_number : k ≤ n → k ≡ n
        same_number high = omega arith

-- one group after those above it

pub filling-first : (s : System) (U : ConstraintName → Bool) (phi top : List Bool) (a b : Ledger) (t u : List (List Entry)) → ((g : ℕ) → in_group t g ≡ []) → IsProvided s U phi (root s) top a b t u 0 (length (callees s (root s)))
    → IsFilling s U phi top a b u (root s)
filling-first s U phi top a b t u empty p = record {
  ledger = p.ledger;
  table = p.table;
  root = λ x up. p.answered x (omega arith) up;
  down = λ g n e le at. absurd (none g n e le at);
  wanted = λ g n e at. inl (p.grows.wanted g n e (ap (λ (es : List Entry). slice_get es n) (sym (only g)) ∙ at));
}
  where
    only : (g : ℕ) → in_group u g ≡ p.grows.more g
    only g = p.grows.is g ∙ ap (λ es. es ++ p.grows.more g) (empty g)

    none : (g n : ℕ) (e : Entry) → root s ≤ g → slice_get (in_group u g) n ≡ Some e → ⊥
    none g n e le at = no_entry n (ap (λ (es : List Entry). slice_get es n) (sym (p.grows.same g le ∙ empty g)) ∙ at)
      where
        no_entry : (n : ℕ) → slice_get {X = Entry} [] n ≡ Some e → ⊥
        no_entry n h = cc

pub filling-next : (s : System) (U : ConstraintName → Bool) (phi top : List Bool) (a b c : Ledger) (u v : List (List Entry)) (from g : ℕ) → from ≡ g + 1 → IsFilling s U phi top a b u from → IsDeepened s U phi g b c u v (length (in_group v g))
    → IsFilling s U phi top a c v g
filling-next s U phi top a b c u v from g ef p q = record {
  ledger = q.ledger ∙ p.ledger;
  table = q.table;
  root = all-more s u v q.more (root s) top q.is p.root;
  down = λ h n e le at. deep h n e le at;
  wanted = λ h n e at. want h n e at;
}
  where
    within : (xs : List Entry) (n : ℕ) (e : Entry) → slice_get xs n ≡ Some e → n < length xs
    within [] n e h = cc
    within (x ∷ xs) zero e h = omega arith
    within (x ∷ xs) (suc n) e h = let k = within xs n e h in omega arith

    deep : (h n : ℕ) (e : Entry) → g ≤ h → slice_get (in_group v h) n ≡ Some e → AllAnswered s v h e.bits
    deep h n e le at = elim (cases_eq g h) [
      | inl same ↦ subst (λ k. AllAnswered s v k e.bits) same (q.answered n e (within (in_group v g) n e (subst (λ k. slice_get (in_group v k) n ≡ Some e) (sym same) at)) (subst (λ k. slice_get (in_group v k) n ≡ Some e) (sym same) at))
      | inr other ↦ all-more s u v q.more h e.bits q.is (p.down h n e (omega arith) (ap (λ (es : List Entry). slice_get es n) (sym (q.same h le)) ∙ at))
    ]

    want : (h n : ℕ) (e : Entry) → slice_get (in_group v h) n ≡ Some e → IsAskedAt s (root s) top e ⊎ IsAskedBy s v e
    want h n e at =
        ⊎_elim
        (λ (i : slice_get (in_group u h) n ≡ Some e). ⊎_elim (λ (x : IsAskedAt s (root s) top e). inl x) (λ (x : IsAskedBy s u e). inr (asked-more s u v q.more e q.is x)) (p.wanted h n e i))
        (λ (i : (m : ℕ) × (slice_get (q.more h) m ≡ Some e)). inr (q.wanted h i.0 e i.1))
        (append_cases (in_group u h) (q.more h) e n (ap (λ (es : List Entry). slice_get es n) (sym (q.is h)) ∙ at))

pub filled : (s : System) (U : ConstraintName → Bool) (phi top : List Bool) (a b : Ledger) (u : List (List Entry)) → IsFilling s U phi top a b u 0 → IsFilled s U phi top a b u
filled s U phi top a b u f = record { ledger = f.ledger; table = f.table; full = record { root = f.root; down = f.down; wanted = f.wanted } }

-- as the code answers

pub yes_provided : (s : System) (U : ConstraintName → Bool) (shaped : IsShaped s) (phi : List Bool) (g : ℕ) (bits : List Bool) (site : ℕ) → site < length (callees s g) → (old new : Ledger) (t u : List (List Entry)) (k : Callee) (f : List Bool) (o : Answered)
    → o ≡ answered.Yes → AnsweredIs s U phi k f old new t u o → k ≡ callee s g site → f ≡ sigma_by s g (bit_at bits) site → IsProvided s U phi g bits old new t u site (site + 1)
yes_provided s U shaped phi g bits site lt old new t u k f o oe is ke fe =
    let here : IsObtained s U phi k f old new t u = subst (AnsweredIs s U phi k f old new t u) oe is in
    provided s U shaped phi g bits site lt old new t u (site + 1) refl
    (subst (λ (x : Callee). IsObtained s U phi x (sigma_by s g (bit_at bits) site) old new t u) ke (subst (λ (x : List Bool). IsObtained s U phi k x old new t u) fe here))

pub refused_asker : (s : System) (U : ConstraintName → Bool) (shaped : IsShaped s) (phi : List Bool) (g : ℕ) (bits : List Bool) (site : ℕ) → site < length (callees s g) → (old new : Ledger) (t u : List (List Entry)) (k : Callee) (f : List Bool) (o : Answered) (n : ℕ)
    → o ≡ answered.Refused n → AnsweredIs s U phi k f old new t u o → k ≡ callee s g site → IsAsker s U old.lines phi g bits → IsAsker s U new.lines (phi_by s (bit_at bits)) g bits
refused_asker s U shaped phi g bits site lt old new t u k f o n oe is ke a =
    let here : Solves s U k.group old new × IsDenied new.lines k.group (given_for s phi k f) n = subst (AnsweredIs s U phi k f old new t u) oe is in
    asker-more s U shaped phi g bits site lt old new (subst (λ (x : Callee). Solves s U x.group old new) ke here.0) a

pub refused_extends : (s : System) (U : ConstraintName → Bool) (phi : List Bool) (old new : Ledger) (t u : List (List Entry)) (k : Callee) (f : List Bool) (o : Answered) (n : ℕ)
    → o ≡ answered.Refused n → AnsweredIs s U phi k f old new t u o → Extends s U old new
refused_extends s U phi old new t u k f o n oe is =
    let here : Solves s U k.group old new × IsDenied new.lines k.group (given_for s phi k f) n = subst (AnsweredIs s U phi k f old new t u) oe is in
    here.0.extends

pub none_paid : (s : System) (U : ConstraintName → Bool) (g : ℕ) (a b c : Ledger) (o : Option Line) → o ≡ None → CarriedIs s U b c o → Solves s U g a b → IsPaid s U a c
none_paid s U g a b c o oe is e = paid-after s U g a b c e (subst (CarriedIs s U b c) oe is)

pub refused_solves : (s : System) (U : ConstraintName → Bool) (phi : List Bool) (old new : Ledger) (t u : List (List Entry)) (k : Callee) (f : List Bool) (o : Answered) (n : ℕ)
    → o ≡ answered.Refused n → AnsweredIs s U phi k f old new t u o → Solves s U k.group old new
refused_solves s U phi old new t u k f o n oe is =
    let here : Solves s U k.group old new × IsDenied new.lines k.group (given_for s phi k f) n = subst (AnsweredIs s U phi k f old new t u) oe is in
    here.0

pub some_over : (s : System) (U : ConstraintName → Bool) (a b c : Ledger) (o : Option Line) (line : Line) → o ≡ Some line → CarriedIs s U b c o → Extends s U a b → Extends s U a c × IsOver s U c line
some_over s U a b c o line oe is e =
    let here : (c ≡ b) × IsOver s U c line = subst (CarriedIs s U b c) oe is in
    (subst (λ (x : Ledger). Extends s U a x) (sym here.0) e, here.1)

pub kept_provided : (s : System) (U : ConstraintName → Bool) (phi : List Bool) (g : ℕ) (bits : List Bool) (old new : Ledger) (t u : List (List Entry)) (from upto : ℕ) (o : Asked) → o ≡ asked.Kept → AskedIs s U phi g bits old new t u from upto o → IsProvided s U phi g bits old new t u from upto
kept_provided s U phi g bits old new t u from upto o oe is = subst (AskedIs s U phi g bits old new t u from upto) oe is

pub kept_deepened : (s : System) (U : ConstraintName → Bool) (phi : List Bool) (g : ℕ) (old new : Ledger) (t u : List (List Entry)) (o : Asked) → o ≡ asked.Kept → DeepenedIs s U phi g old new t u o → IsDeepened s U phi g old new t u (length (in_group u g))
kept_deepened s U phi g old new t u o oe is = subst (DeepenedIs s U phi g old new t u) oe is

pub bits_asker : (s : System) (U : ConstraintName → Bool) (lines : List Line) (phi : List Bool) (t : List (List Entry)) (g n : ℕ) (bits xs : List Bool) → IsTable s U lines phi t → n < length (in_group t g) → AreBitsAt t g n bits → xs ≡ bits → IsAsker s U lines phi g xs
bits_asker s U lines phi t g n bits xs table lt at e =
    let one : (x : Entry) × (slice_get (in_group t g) n ≡ Some x) = get_at (in_group t g) n lt in
    subst (λ (ys : List Bool). IsAsker s U lines phi g ys) (sym (e ∙ at one.0 one.1)) (kept-asker s U lines phi g one.0 (table.group g n one.0 one.1) (table.kept g n one.0 one.1))

pub deepened_step : (s : System) (U : ConstraintName → Bool) (phi : List Bool) (g : ℕ) (a b c : Ledger) (t u v : List (List Entry)) (k : ℕ) (bits xs : List Bool) → IsDeepened s U phi g a b t u k → k < length (in_group u g) → AreBitsAt u g k bits → xs ≡ bits
    → IsProvided s U phi g xs b c u v 0 (length (callees s g)) → IsDeepened s U phi g a c t v (k + 1)
deepened_step s U phi g a b c t u v k bits xs p lt at e q =
    let one : (x : Entry) × (slice_get (in_group u g) k ≡ Some x) = get_at (in_group u g) k lt in
    deepened-next s U phi g a b c t u v k one.0 (k + 1) refl p one.1
    (subst (λ (ys : List Bool). IsProvided s U phi g ys b c u v 0 (length (callees s g))) (e ∙ at one.0 one.1) q)

pub still_within : (t u : List (List Entry)) (es : List Entry) (g k n : ℕ) → k < n → n ≡ length es → es ≡ in_group t g → in_group u g ≡ in_group t g → k < length (in_group u g)
still_within t u es g k n lt ne e same = let a : length es ≡ length (in_group t g) = ap length e in let b : length (in_group u g) ≡ length (in_group t g) = ap length same in omega arith

pub deepened_all : (s : System) (U : ConstraintName → Bool) (phi : List Bool) (g : ℕ) (a b : Ledger) (t u : List (List Entry)) (es : List Entry) (k n : ℕ) → IsDeepened s U phi g a b t u k → n ≤ k → n ≡ length es → es ≡ in_group t g → IsDeepened s U phi g a b t u (length (in_group u g))
deepened_all s U phi g a b t u es k n d le ne e = record {
  ledger = d.ledger;
  table = d.table;
  same = d.same;
  more = d.more;
  is = d.is;
  wanted = d.wanted;
  answered = λ m x lt at. d.answered m x (let p : length es ≡ length (in_group t g) = ap length e in let q : length (in_group u g) ≡ length (in_group t g) = ap length (d.same g (omega arith)) in omega arith) at;
}

pub first_filled : (s : System) (U : ConstraintName → Bool) (phi top : List Bool) (a b : Ledger) (t u : List (List Entry)) (r q : ℕ) (o : Asked) → r ≡ root s → q ≡ root s → o ≡ asked.Kept → AskedIs s U phi r top a b t u 0 (length (callees s r)) o → ((g : ℕ) → in_group t g ≡ [])
    → IsFilling s U phi top a b u q
first_filled s U phi top a b t u r q o re qe oe is empty =
    let here : IsProvided s U phi r top a b t u 0 (length (callees s r)) = kept_provided s U phi r top a b t u 0 (length (callees s r)) o oe is in
    subst (λ n. IsFilling s U phi top a b u n) (sym qe) (filling-first s U phi top a b t u empty (subst (λ n. IsProvided s U phi n top a b t u 0 (length (callees s n))) re here))

pub next_filled : (s : System) (U : ConstraintName → Bool) (phi top : List Bool) (a b c : Ledger) (u v : List (List Entry)) (from : ℕ) (o : Asked) → 0 < from → IsFilling s U phi top a b u from → o ≡ asked.Kept → DeepenedIs s U phi (from - 1) b c u v o → IsFilling s U phi top a c v (from - 1)
next_filled s U phi top a b c u v from o lt f oe is = filling-next s U phi top a b c u v from (from - 1) (omega arith) f (kept_deepened s U phi (from - 1) b c u v o oe is)

pub last_filled : (s : System) (U : ConstraintName → Bool) (phi top : List Bool) (a b : Ledger) (u : List (List Entry)) (n : ℕ) → n ≤ 0 → IsFilling s U phi top a b u n → IsFilled s U phi top a b u
last_filled s U phi top a b u n le f = let z : n ≡ 0 = omega arith in filled s U phi top a b u (subst (λ k. IsFilling s U phi top a b u k) z f)

-- the root

pub empty_table : (s : System) (U : ConstraintName → Bool) (lines : List Line) (phi : List Bool) (t : List (List Entry)) → length t ≡ root s → ((g : ℕ) → in_group t g ≡ []) → IsTable s U lines phi t
empty_table s U lines phi t size empty = record {
  size = size;
  kept = λ g n e at. absurd (none g n e at);
  group = λ g n e at. absurd (none g n e at);
  apart = λ g n m e f p q a. absurd (none g n e p);
}
  where
    no_entry : (n : ℕ) (e : Entry) → slice_get [] n ≡ Some e → ⊥
    no_entry n e h = cc

    none : (g n : ℕ) (e : Entry) → slice_get (in_group t g) n ≡ Some e → ⊥
    none g n e at = no_entry n e (ap (λ (es : List Entry). slice_get es n) (sym (empty g)) ∙ at)

pub empty_more : (t : List (List Entry)) (e : List Entry) → e ≡ [] → ((g : ℕ) → in_group t g ≡ []) → (g : ℕ) → in_group (t ++ e ∷ []) g ≡ []
empty_more t e ee h g = at t g h
  where
    at : (t : List (List Entry)) (g : ℕ) → ((g : ℕ) → in_group t g ≡ []) → in_group (t ++ e ∷ []) g ≡ []
    at [] zero h = ee
    at [] (suc g) h = refl
    at (x ∷ t) zero h = h 0
    at (x ∷ t) (suc g) h = at t g (λ k. h (suc k))

pub top_asker : (s : System) (U : ConstraintName → Bool) (r : ℕ) (given : List Literal) (old new : Ledger) (o : Outcome) (bits xs phi : List Bool) → r ≡ root s → o ≡ outcome.Sat bits → OutcomeIs s U r given old new o → xs ≡ bits → phi ≡ phi_by s (bit_at xs)
    → IsAsker s U new.lines phi (root s) xs
top_asker s U r given old new o bits xs phi re oe is xe pe =
    let here : (new ≡ old) × IsSolved s U old.lines r given bits = subst (OutcomeIs s U r given old new) oe is in
    let sol : IsSolved s U new.lines (root s) given xs = subst (λ (l : Ledger). IsSolved s U l.lines (root s) given xs) (sym here.0) (subst (λ ys. IsSolved s U old.lines (root s) given ys) (sym xe) (subst (λ n. IsSolved s U old.lines n given bits) re here.1)) in
    record { size = sol.size; local = sol.local; phi_is = sym pe; carried = sol.carried }

pub top_same : (s : System) (U : ConstraintName → Bool) (r : ℕ) (given : List Literal) (old new : Ledger) (o : Outcome) (bits : List Bool) → o ≡ outcome.Sat bits → OutcomeIs s U r given old new o → new ≡ old
top_same s U r given old new o bits oe is = let here : (new ≡ old) × IsSolved s U old.lines r given bits = subst (OutcomeIs s U r given old new) oe is in here.0

pub top_size : (s : System) (U : ConstraintName → Bool) (r : ℕ) (given : List Literal) (old new : Ledger) (o : Outcome) (bits xs : List Bool) → r ≡ root s → o ≡ outcome.Sat bits → OutcomeIs s U r given old new o → xs ≡ bits → length xs ≡ count s (root s)
top_size s U r given old new o bits xs re oe is xe =
    let here : (new ≡ old) × IsSolved s U old.lines r given bits = subst (OutcomeIs s U r given old new) oe is in
    ap length xe ∙ here.1.size ∙ ap (count s) re

pub root_refuted : (s : System) (U : ConstraintName → Bool) (r : ℕ) (given : List Literal) (first old new : Ledger) (o : Outcome) (n : ℕ) → r ≡ root s → given ≡ [] → o ≡ outcome.Conflict n → OutcomeIs s U r given old new o → Extends s U first old → Extends s U first new × IsRefuting s new.lines n
root_refuted s U r given first old new o n re ge oe is e =
    let here : Solves s U r old new × IsDenied new.lines r given n = subst (OutcomeIs s U r given old new) oe is in
    let d : IsDenied new.lines r given n = here.1 in
    (extends-trans s U first old new e here.0.extends, record { line = d.line; there = d.there; group = d.group ∙ re; empty = no_literal d.line.lits (subst (λ (ls : List Literal). All (λ (l : Literal). Contains ls (opposite l)) d.line.lits) ge d.denied) })
  where
    no_literal : (c : List Literal) → All (λ (l : Literal). Contains [] (opposite l)) c → c ≡ []
    no_literal [] h = refl
    no_literal (l ∷ c) h = absurd (let k : Contains {X = Literal} [] (opposite l) = h 0 l (omega arith) in let lt = k.1 in omega arith)

pub root_spent : (s : System) (U : ConstraintName → Bool) (r : ℕ) (given : List Literal) (first old new : Ledger) (o : Outcome) (line : Line) → o ≡ outcome.Spent line → OutcomeIs s U r given old new o → Extends s U first old → Extends s U first new × IsOver s U new line
root_spent s U r given first old new o line oe is e =
    let here : Solves s U r old new × IsOver s U new line = subst (OutcomeIs s U r given old new) oe is in
    (extends-trans s U first old new e here.0.extends, here.1)

pub fill_solution : (s : System) (U : ConstraintName → Bool) (phi top xs : List Bool) (first mid new : Ledger) (u : List (List Entry)) (o : Asked) → o ≡ asked.Kept → FilledIs s U phi xs mid new u o → phi ≡ phi_by s (bit_at xs) → xs ≡ top → IsAsker s U mid.lines phi (root s) xs → Extends s U first mid
    → Extends s U first new × HasSolution s U new.lines top u
fill_solution s U phi top xs first mid new u o oe is pe xe asker e =
    let here : IsFilled s U phi xs mid new u = subst (FilledIs s U phi xs mid new u) oe is in (
      subst (λ (l : Ledger). Extends s U first l) (sym here.ledger) e,
      subst (λ ys. HasSolution s U new.lines ys u) xe
          (record {
            asker = subst (λ p. IsAsker s U new.lines p (root s) xs) pe (subst (λ (l : Ledger). IsAsker s U l.lines phi (root s) xs) (sym here.ledger) asker);
            table = subst (λ p. IsTable s U new.lines p u) pe here.table;
            full = here.full;
          }),
    )

pub length_more : (u t : List (List Entry)) (e : List Entry) (k : ℕ) → u ≡ t ++ e ∷ [] → length t ≡ k → length u ≡ k + 1
length_more u t e k is size = let a = ap length is in let b = length-append t (e ∷ []) in omega arith

-- what is left in both tables, by equal ledgers

pub left_to : (s : System) (U : ConstraintName → Bool) (phi : List Bool) (a b : Ledger) (t k : List (List Entry)) → a ≡ b → AreLeft s U a.lines phi t k → AreLeft s U b.lines phi t k
left_to s U phi a b t k e h = subst (λ (l : Ledger). AreLeft s U l.lines phi t k) e h
