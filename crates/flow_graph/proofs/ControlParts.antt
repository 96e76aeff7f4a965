-- Parts that are laid one before another: each of their places has no edges or ways, and each edge leads on.
use Rattle.std.proofs.Common.{◌≡◌, ℕ, ◌≤◌, ◌⊎◌, inl, inr, false, List, [], ◌∷◌, ◌++◌, Some, refl, sym, ap, subst, ◌∙◌, arith}
use Rattle.std.specs.List.{All}
use Rattle.std.proofs.lemmas.Bool.{cases_Bool}
use Rattle.std.proofs.lemmas.List.{append-nil, append_assoc}
use Rattle.std.proofs.lemmas.List.Elements.{All-nil, All-cons, All-append, All-weaker}
use Rattle.c_tree.specs.declared.position.Place.{Place}
use Rattle.flow_graph.specs.declared.raw.RawAction.{RawAction}
use Rattle.flow_graph.specs.declared.raw.RawEdge.{RawEdge}
use Rattle.flow_graph.specs.Parts.{Part, edge, ending, one, two, before}
use Rattle.flow_graph.proofs.RawWays.{same_place, raw_at, raw_is_test, raw_other_side, AreRawWays}
use Rattle.flow_graph.proofs.ControlPlaces.{Inside, inside_wider, inside_apart, same_place_self, ways_inside, NoneOrWays, AreApart, ways_first, ways_second, none_or_ways_append}

-- to one of some places, or to one that has ways
abbrev pub Goes : (Place → Type 0) → List RawEdge → Place → Type 0
Goes T es p = T p ⊎ AreRawWays (raw_at es p)

-- edges that begin in a range of keys and are entered at a place; they go on at places of T
pub record IsFragment (low high : ℕ) (T : Place → Type 0) (start : Place) (es : List RawEdge) : Type 0 where
  pub begins : All (λ e. Inside low high e.from) es
  pub places : (p : Place) → NoneOrWays es p
  pub leads : All (λ e. Goes T es e.to) es
  pub starts : Goes T es start

-- a part that appends such edges
pub record IsPart (low high : ℕ) (T : Place → Type 0) (p : Part) : Type 0 where
  pub appends : (es : List RawEdge) → p.after es ≡ es ++ p.after []
  pub fragment : IsFragment low high T p.start (p.after [])

-- Fragments

pub begins_wider : (low high a b : ℕ) (es : List RawEdge) → a ≤ low → high ≤ b → All (λ e. Inside low high e.from) es → All (λ e. Inside a b e.from) es
begins_wider low high a b es x y = All-weaker (λ e. Inside low high e.from) (λ e. Inside a b e.from) (λ e. inside_wider low high a b x y e.from) es

module _ (T : Place → Type 0) (es ds : List RawEdge) (apart : AreApart es ds)
    (firsts : (p : Place) → NoneOrWays es p) (seconds : (p : Place) → NoneOrWays ds p) where
  goes_first : (p : Place) → Goes T es p → Goes T (es ++ ds) p
  goes_first p (inl t) = inl t
  goes_first p (inr w) = inr (ways_first es ds p apart (seconds p) w)

  goes_second : (p : Place) → Goes (Goes T es) ds p → Goes T (es ++ ds) p
  goes_second p (inl g) = goes_first p g
  goes_second p (inr w) = inr (ways_second es ds p apart (firsts p) w)

-- the later edges go on at places of T and of the first
join : (low high a b c d : ℕ) (T : Place → Type 0) (s t : Place) (es ds : List RawEdge) → AreApart es ds
    → low ≤ a → b ≤ high → low ≤ c → d ≤ high
    → IsFragment a b T s es → IsFragment c d (Goes T es) t ds → IsFragment low high T t (es ++ ds)
join low high a b c d T s t es ds apart x y z v f g = record {
  begins = All-append (λ e. Inside low high e.from) es ds (begins_wider a b low high es x y f.begins) (begins_wider c d low high ds z v g.begins);
  places = λ p. none_or_ways_append es ds p apart (f.places p) (g.places p);
  leads = All-append (λ e. Goes T (es ++ ds) e.to) es ds
      (All-weaker (λ e. Goes T es e.to) (λ e. Goes T (es ++ ds) e.to) (λ e. goes_first T es ds apart f.places g.places e.to) es f.leads)
      (All-weaker (λ e. Goes (Goes T es) ds e.to) (λ e. Goes T (es ++ ds) e.to) (λ e. goes_second T es ds apart f.places g.places e.to) ds g.leads);
  starts = goes_second T es ds apart f.places g.places t g.starts;
}

-- Parts

ranges_apart : (low mid high : ℕ) (es ds : List RawEdge) → All (λ e. Inside low mid e.from) es → All (λ e. Inside mid high e.from) ds → AreApart es ds
ranges_apart low mid high es ds x y p v w = inside_apart low mid high p (ways_inside low mid es p x v) (ways_inside mid high ds p y w)

back_apart : (low mid high : ℕ) (es ds : List RawEdge) → All (λ e. Inside mid high e.from) es → All (λ e. Inside low mid e.from) ds → AreApart es ds
back_apart low mid high es ds x y p v w = ranges_apart low mid high ds es y x p w v

appends_before : (r l : Part) → ((es : List RawEdge) → r.after es ≡ es ++ r.after []) → ((es : List RawEdge) → l.after es ≡ es ++ l.after [])
    → (es : List RawEdge) → l.after (r.after es) ≡ es ++ l.after (r.after [])
appends_before r l x y es =
    y (r.after es) ∙ ap (λ ds. ds ++ l.after []) (x es) ∙ append_assoc es (r.after []) (l.after []) ∙ ap (λ ds. es ++ ds) (sym (y (r.after [])))

-- the edges of the later part have the lower keys
pub before_up : (low mid high : ℕ) (T : Place → Type 0) (l r : Part) → low ≤ mid → mid ≤ high
    → IsPart low mid T r → IsPart mid high (Goes T (r.after [])) l → IsPart low high T (before l r)
before_up low mid high T l r x y p q = record {
  appends = appends_before r l p.appends q.appends;
  fragment = subst (IsFragment low high T l.start) (sym (q.appends (r.after [])))
      (join low high low mid mid high T r.start l.start (r.after []) (l.after [])
      (ranges_apart low mid high (r.after []) (l.after []) p.fragment.begins q.fragment.begins)
      (omega arith) y x (omega arith) p.fragment q.fragment);
}

-- they have the higher keys
pub before_down : (low mid high : ℕ) (T : Place → Type 0) (l r : Part) → low ≤ mid → mid ≤ high
    → IsPart mid high T r → IsPart low mid (Goes T (r.after [])) l → IsPart low high T (before l r)
before_down low mid high T l r x y p q = record {
  appends = appends_before r l p.appends q.appends;
  fragment = subst (IsFragment low high T l.start) (sym (q.appends (r.after [])))
      (join low high mid high low mid T r.start l.start (r.after []) (l.after [])
      (back_apart low mid high (r.after []) (l.after []) p.fragment.begins q.fragment.begins)
      x (omega arith) (omega arith) y p.fragment q.fragment);
}

pub part_wider : (low high a b : ℕ) (T : Place → Type 0) (p : Part) → a ≤ low → high ≤ b → IsPart low high T p → IsPart a b T p
part_wider low high a b T p x y h = record {
  appends = h.appends;
  fragment = record {
    begins = begins_wider low high a b (p.after []) x y h.fragment.begins;
    places = h.fragment.places;
    leads = h.fragment.leads;
    starts = h.fragment.starts;
  };
}

-- places of U that are places of T or have ways
pub part_goes : (low high : ℕ) (U T : Place → Type 0) (p : Part) → ((q : Place) → U q → Goes T (p.after []) q) → IsPart low high U p → IsPart low high T p
part_goes low high U T p on h = record {
  appends = h.appends;
  fragment = record {
    begins = h.fragment.begins;
    places = h.fragment.places;
    leads = All-weaker (λ e. Goes U (p.after []) e.to) (λ e. Goes T (p.after []) e.to) (λ e. goes e.to) (p.after []) h.fragment.leads;
    starts = goes p.start h.fragment.starts;
  };
}
  where
    goes : (q : Place) → Goes U (p.after []) q → Goes T (p.after []) q
    goes q (inl u) = on q u
    goes q (inr w) = inr w

-- Single steps

pub ending_part : (low high : ℕ) (T : Place → Type 0) (q : Place) → T q → IsPart low high T (ending q)
ending_part low high T q t = record {
  appends = λ es. sym (append-nil es);
  fragment = record {
    begins = All-nil (λ e. Inside low high e.from);
    places = λ p. inl refl;
    leads = All-nil (λ e. Goes T [] e.to);
    starts = inl t;
  };
}

one_at : (p : Place) (a : RawAction) (q : Place) → raw_at (edge p a q ∷ []) p ≡ edge p a q ∷ []
one_at p a q = rw (same_place_self p) refl

pub one_ways : (p : Place) (a : RawAction) (q : Place) → raw_is_test a ≡ false → AreRawWays (raw_at (edge p a q ∷ []) p)
one_ways p a q plain = subst AreRawWays (sym (one_at p a q)) plain

one_places : (p : Place) (a : RawAction) (q : Place) → raw_is_test a ≡ false → (k : Place) → NoneOrWays (edge p a q ∷ []) k
one_places p a q plain k = elim (cases_Bool (same_place p k)) [
  | inl is ↦ inr (rw is plain)
  | inr is ↦ inl (rw is refl)
]

-- an edge that is no test
pub one_part : (low high : ℕ) (T : Place → Type 0) (p : Place) (a : RawAction) (q : Place) → Inside low high p → raw_is_test a ≡ false → T q
    → IsPart low high T (one p a q)
one_part low high T p a q inside plain t = record {
  appends = λ es. refl;
  fragment = record {
    begins = All-cons (λ e. Inside low high e.from) (edge p a q) [] inside (All-nil (λ e. Inside low high e.from));
    places = one_places p a q plain;
    leads = All-cons (λ e. Goes T (edge p a q ∷ []) e.to) (edge p a q) [] (inl t) (All-nil (λ e. Goes T (edge p a q ∷ []) e.to));
    starts = inr (one_ways p a q plain);
  };
}

two_ways : (p : Place) (a : RawAction) (q : Place) (b : RawAction) (r : Place) → raw_other_side a ≡ Some b → AreRawWays (raw_at (edge p a q ∷ edge p b r ∷ []) p)
two_ways p a q b r sides = rw (same_place_self p) sides

two_places : (p : Place) (a : RawAction) (q : Place) (b : RawAction) (r : Place) → raw_other_side a ≡ Some b → (k : Place) → NoneOrWays (edge p a q ∷ edge p b r ∷ []) k
two_places p a q b r sides k = elim (cases_Bool (same_place p k)) [
  | inl is ↦ inr (rw is sides)
  | inr is ↦ inl (rw is refl)
]

-- the two sides of a test
pub two_part : (low high : ℕ) (T : Place → Type 0) (p : Place) (a : RawAction) (q : Place) (b : RawAction) (r : Place)
    → Inside low high p → raw_other_side a ≡ Some b → T q → T r → IsPart low high T (two p a q b r)
two_part low high T p a q b r inside sides t u = record {
  appends = λ es. append_assoc es (edge p a q ∷ []) (edge p b r ∷ []);
  fragment = record {
    begins = All-cons (λ e. Inside low high e.from) (edge p a q) (edge p b r ∷ []) inside
        (All-cons (λ e. Inside low high e.from) (edge p b r) [] inside (All-nil (λ e. Inside low high e.from)));
    places = two_places p a q b r sides;
    leads = All-cons (λ e. Goes T (edge p a q ∷ edge p b r ∷ []) e.to) (edge p a q) (edge p b r ∷ []) (inl t)
        (All-cons (λ e. Goes T (edge p a q ∷ edge p b r ∷ []) e.to) (edge p b r) [] (inl u) (All-nil (λ e. Goes T (edge p a q ∷ edge p b r ∷ []) e.to)));
    starts = inr (two_ways p a q b r sides);
  };
}

-- Loops

-- a place that has ways in one of two parts has them in both together
pub ways_before : (l r : Part) (p : Place) → ((es : List RawEdge) → l.after es ≡ es ++ l.after []) → AreApart (r.after []) (l.after [])
    → NoneOrWays (r.after []) p → AreRawWays (raw_at (l.after []) p) → AreRawWays (raw_at (l.after (r.after [])) p)
ways_before l r p appends apart none w = subst (λ es. AreRawWays (raw_at es p)) (sym (appends (r.after []))) (ways_second (r.after []) (l.after []) p apart none w)

pub ways_after : (l r : Part) (p : Place) → ((es : List RawEdge) → l.after es ≡ es ++ l.after []) → AreApart (r.after []) (l.after [])
    → NoneOrWays (l.after []) p → AreRawWays (raw_at (r.after []) p) → AreRawWays (raw_at (l.after (r.after [])) p)
ways_after l r p appends apart none w = subst (λ es. AreRawWays (raw_at es p)) (sym (appends (r.after []))) (ways_first (r.after []) (l.after []) p apart none w)

-- these places, and a place more
abbrev pub With : (Place → Type 0) → Place → Place → Type 0
With T h q = T q ⊎ (q ≡ h)

-- a part that comes round to a place of the part before it
pub round_part : (low mid high : ℕ) (T : Place → Type 0) (h : Place) (l r : Part) → low ≤ mid → mid ≤ high
    → IsPart mid high (With T h) r → IsPart low mid (Goes (With T h) (r.after [])) l → AreRawWays (raw_at (l.after []) h) → IsPart low high T (before l r)
round_part low mid high T h l r x y p q w = part_goes low high (With T h) T (before l r) on (before_down low mid high (With T h) l r x y p q)
  where
    on : (k : Place) → With T h k → Goes T (l.after (r.after [])) k
    on k (inl t) = inl t
    on k (inr e) = inr (subst (λ g. AreRawWays (raw_at (l.after (r.after [])) g)) (sym e) (ways_before l r h q.appends
        (back_apart low mid high (r.after []) (l.after []) p.fragment.begins q.fragment.begins) (p.fragment.places h) w))

-- a place of the later of two parts with keys one above another
pub later_ways : (low mid high : ℕ) (T U : Place → Type 0) (l r : Part) (p : Place) → IsPart low mid T r → IsPart mid high U l → AreRawWays (raw_at (r.after []) p)
    → AreRawWays (raw_at (l.after (r.after [])) p)
later_ways low mid high T U l r p x y w = ways_after l r p y.appends
    (ranges_apart low mid high (r.after []) (l.after []) x.fragment.begins y.fragment.begins) (y.fragment.places p) w
