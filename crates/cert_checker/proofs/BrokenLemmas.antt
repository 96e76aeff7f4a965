-- False constraints: those that the runs of the tables show, place by place and instance by instance.
use Rattle.std.proofs.Common.{◌≡◌, ℕ, zero, suc, ◌+◌, ◌-◌, ◌<◌, ◌≤◌, ◌⊎◌, inl, inr, ⊎_elim, Bool, true, false, cond, List, [], ◌∷◌, ◌++◌, Option, Some, None, refl, sym, ap, ◌∙◌, subst, arith, length, get_or, take, map, set, replicate, slice_get}
use Rattle.std.specs.Prelude.{MatchBool, nat_eq, IfOk, Result, Ok, Err}
use Rattle.std.specs.List.{Contains, flat_map}
use Rattle.std.proofs.lemmas.Option.{slice_get_within, get_or_from_slice_get}
use Rattle.zo_core.specs.Literals.{Literal}
use Rattle.zo_core.specs.Truth.{clause_true, all_true}
use Rattle.conflict_proof.specs.declared.names.ConstraintName.{ConstraintName}
use Rattle.conflict_proof.specs.declared.faults.Reason.TheVariants.{Range, Broken}
use Rattle.own_cert.specs.declared.certificate.Instance.{Instance}
use Rattle.own_cert.specs.declared.certificate.Certificate.{Certificate}
use Rattle.transfer_rules.specs.Names.{NamedClause, named_clause}
use Rattle.transfer_rules.specs.Table.{no_clause}
use Rattle.std.proofs.lemmas.List.{get_or_default, get_or-set_other, take_more, take_all}
use Rattle.std.proofs.lemmas.List.Elements.{Contains-append_left, Contains-append_right, Contains-append_cases}
use Rattle.std.proofs.lemmas.Bool.{cases_eq, ne_eqb}
use Rattle.verdict_meaning.specs.Systems.{System, root, names_of}
use Rattle.verdict_meaning.specs.Solutions.{counts}
use Rattle.verdict_meaning.specs.Certificates.{Spot, spots, assignment_of}
use Rattle.verdict_meaning.specs.CertificateFaults.{HasFault, instance_line, line_of, last_line, unknowns_of, greatest}
use Rattle.verdict_meaning.specs.CertificateFaults as fault
use Rattle.cert_checker.specs.Tables.{table_of, row, IsRunEnd, IsRun, HasFalse, run_line, IsFalseRun, IsFalseAmong}
use Rattle.cert_checker.specs.Finding.{IsBelow, IsFirstAt, IsFirstBelow, IsCleanBelow, AreMarksOf, IsBrokenIn, IsLeftOut, IsGroupMissing, earliest}
use Rattle.cert_checker.proofs.LineLemmas.{lt_or_le, match_false}
use Rattle.cert_checker.proofs.FirstLemmas.{below_mono, below_first, or_same, or_first}
use Rattle.cert_checker.proofs.Among.{here, there, first_or_rest, none_there, in_map, of_map, in_all, of_all}
use Rattle.cert_checker.proofs.RunLemmas.{row_of_table, in_table, in_run, run_around, some_false, false_one, same_truth, le_greatest, greatest_le, le_run, run_le}
use Rattle.cert_checker.proofs.MarkLemmas.{other_line, other_value}

-- Lines of a constraint

module _ (s : System) (c : Certificate) (n g : ℕ) (name : ConstraintName) where
  pub le_last : (ls : List Literal) (l : Literal) → Contains (s.clauses g name) ls → Contains ls l → line_of s c n g l.var ≤ last_line s c n g name
  le_last ls l among h =
      le_greatest (map (line_of s c n g) (unknowns_of s g name)) (line_of s c n g l.var)
      (in_map (line_of s c n g) (unknowns_of s g name) l.var
      (in_all (map (λ (m : Literal). m.var)) (s.clauses g name) ls l.var among (in_map (λ (m : Literal). m.var) ls l h)))

  pub last_le : (most : ℕ) → ((ls : List Literal) (l : Literal) → Contains (s.clauses g name) ls → Contains ls l → line_of s c n g l.var ≤ most) → last_line s c n g name ≤ most
  last_le most f =
      greatest_le (map (line_of s c n g) (unknowns_of s g name)) most
      (λ k h.
      let o = of_map (line_of s c n g) (unknowns_of s g name) k h in
      let p = of_all (map (λ (m : Literal). m.var)) (s.clauses g name) o.0 o.1 in
      let q = of_map (λ (m : Literal). m.var) p.0 o.0 p.2 in
      let le = f p.0 q.0 p.1 q.1 in
      let e : line_of s c n g q.0.var ≡ k = ap (line_of s c n g) q.2 ∙ o.2 in
      omega (arith, le, e))

-- Runs that are false by what is read of an instance, and false constraints of the instance

module _ (s : System) (U : ConstraintName → Bool) (c : Certificate) (n : ℕ) (i : Instance) (b : Option ℕ) (value : ℕ → Bool) (line : ℕ → ℕ) (marks : AreMarksOf s c n i b value line) (ns : List ConstraintName) where
  abbrev rs : List NamedClause
  rs = table_of s U i.group ns

  -- the last line of a run is that of its constraint
  run_is_last : (from to : ℕ) (name : ConstraintName) → IsRun rs from to → (row rs from).name ≡ name → run_line line rs from to ≡ last_line s c n i.group name
  run_is_last from to name run e =
      let x : run_line line rs from to ≤ last_line s c n i.group name =
      run_le line rs from to run.end.within (last_line s c n i.group name)
      (λ k ge lt l h.
      let le = run.end.within in
      let m = marks.lines l.var in
      let y = le_last s c n i.group name (row rs k).lits l (row_of_table s U i.group ns k (omega (arith, le)) name (run.end.same k ge lt ∙ e)).2 h in
      omega (arith, y, m)) in
      let y : last_line s c n i.group name ≤ run_line line rs from to =
      last_le s c n i.group name (run_line line rs from to)
      (λ ls l among h.
      let o = in_run s U i.group ns name from to run e ls among in
      let z = le_run line rs from to run.end.within o.0 o.1 o.2 l (subst (λ (ms : List Literal). Contains ms l) (sym o.3) h) in
      let m = marks.lines l.var in
      omega (arith, z, m)) in
      omega (arith, x, y)

  -- a clause whose unknowns stand before the bound is as true by what is read
  as_true : (ls : List Literal) (most : ℕ) → IsBelow b most → ((l : Literal) → Contains ls l → line l.var ≤ most) → clause_true value ls ≡ clause_true (assignment_of s c i) ls
  as_true ls most below f = same_truth value (assignment_of s c i) ls (λ l h. marks.values l.var (below_mono b (line l.var) most (f l h) below))

  pub run_to_broken : ((m : ConstraintName) → Contains ns m → Contains (names_of s i.group) m) → slice_get c.instances n ≡ Some i → i.group < root s → (at : ℕ) → IsFalseRun rs value line at → IsBelow b at → IsBrokenIn s U c n at
  run_to_broken inside here lt at r below =
      let run = r.run in
      let off = r.off in
      let e : at ≡ run_line line rs r.from r.to = r.is in
      let name : ConstraintName = (row rs r.from).name in
      let some = run.end.some in
      let le = run.end.within in
      let first = row_of_table s U i.group ns r.from (omega (arith, some, le)) name refl in
      let k : ℕ = off.number in
      let below_k = off.below in
      let mine = row_of_table s U i.group ns k (omega (arith, below_k, le)) name (run.end.same k off.from off.below) in
      let truth : clause_true value (row rs k).lits ≡ clause_true (assignment_of s c i) (row rs k).lits =
      as_true (row rs k).lits (run_line line rs r.from r.to) (subst (IsBelow b) e below) (λ l h. le_run line rs r.from r.to run.end.within k off.from off.below l h) in
      record {
        instance = i;
        there = here;
        group = lt;
        name = name;
        among = inside name first.0;
        counting = first.1;
        off = some_false (assignment_of s c i) (s.clauses i.group name) (row rs k).lits mine.2 (sym truth ∙ off.off);
        is = e ∙ run_is_last r.from r.to name run refl;
      }

  pub broken_to_run : slice_get c.instances n ≡ Some i → (at : ℕ) (broken : IsBrokenIn s U c n at) → Contains ns broken.name → IsBelow b at → IsFalseRun rs value line at
  broken_to_run here at broken among below =
      let there' = broken.there in
      let same : i ≡ broken.instance = cc in
      let name : ConstraintName = broken.name in
      let off : all_true (assignment_of s c i) (s.clauses i.group name) ≡ false = subst (λ (x : Instance). all_true (assignment_of s c x) (s.clauses x.group name) ≡ false) (sym same) broken.off in
      let e : at ≡ last_line s c n i.group name = subst (λ (x : Instance). at ≡ last_line s c n x.group name) (sym same) broken.is in
      let one = false_one (assignment_of s c i) (s.clauses i.group name) off in
      let place = in_table s U i.group ns name one.0 among broken.counting one.1 in
      let k : ℕ = place.0 in
      let is : row rs k ≡ named_clause name one.0 = get_or_default rs k no_clause (named_clause name one.0) place.1 ∙ place.2 in
      let around = run_around rs k place.1 in
      let first = around.first in
      let last = around.last in
      let first_name : (row rs around.from).name ≡ name = sym (around.run.end.same k first last) ∙ ap (λ (r : NamedClause). r.name) is in
      let line_is : run_line line rs around.from around.to ≡ last_line s c n i.group name = run_is_last around.from around.to name around.run first_name in
      let at_is : at ≡ run_line line rs around.from around.to = e ∙ sym line_is in
      let lits : (row rs k).lits ≡ one.0 = ap (λ (r : NamedClause). r.lits) is in
      let truth : clause_true value one.0 ≡ clause_true (assignment_of s c i) one.0 =
      as_true one.0 at below
      (λ l h.
      let x = le_run line rs around.from around.to around.run.end.within k first last l (subst (λ (ls : List Literal). Contains ls l) (sym lits) h) in
      omega (arith, x, at_is)) in
      record {
        from = around.from;
        to = around.to;
        run = around.run;
        off = record { number = k; from = first; below = last; off = ap (clause_true value) lits ∙ truth ∙ one.2 };
        is = at_is;
      }

-- The constraints of a group are those of its places

-- a group is not the root
pub own_names : (s : System) (g : ℕ) → g < root s → names_of s g ≡ s.names g
own_names s g lt = pick (nat_eq g (root s)) (ne_eqb g (root s) (λ h. omega (arith, h)))
  where
    pick : (b : Bool) → b ≡ false → cond b [] (s.names g) ≡ s.names g
    pick true x = cc
    pick false x = refl

pub found_then : {E : Type 0} (r : Result (Option ℕ) E) (P Q : ℕ → Type 0) (b : Option ℕ) → IfOk r (IsFirstBelow b P) → ((found : Option ℕ) → IsFirstBelow b P found → IsFirstBelow b Q found) → IfOk r (IsFirstBelow b Q)
found_then (Ok found) P Q b h f = f found h
found_then (Err e) P Q b h f = h

module _ (s : System) (U : ConstraintName → Bool) (c : Certificate) (n : ℕ) (i : Instance) (b : Option ℕ) (value : ℕ → Bool) (line : ℕ → ℕ) (marks : AreMarksOf s c n i b value line) (names : Spot → List ConstraintName)
    (placed : names_of s i.group ≡ flat_map names (spots s i.group)) where
  of_place : slice_get c.instances n ≡ Some i → i.group < root s → (at : ℕ) → IsFalseAmong s U i.group names (spots s i.group) value line at → IsBelow b at → IsBrokenIn s U c n at
  of_place here lt at f below =
      run_to_broken s U c n i b value line marks (names f.spot)
      (λ m h. subst (λ (ns : List ConstraintName). Contains ns m) (sym placed) (in_all names (spots s i.group) f.spot m f.among h)) here lt at f.run below

  at_place : slice_get c.instances n ≡ Some i → (at : ℕ) → IsBrokenIn s U c n at → IsBelow b at → IsFalseAmong s U i.group names (spots s i.group) value line at
  at_place here at broken below =
      let there' = broken.there in
      let same : i ≡ broken.instance = cc in
      let among : Contains (names_of s i.group) broken.name = subst (λ (x : Instance). Contains (names_of s x.group) broken.name) (sym same) broken.among in
      let o = of_all names (spots s i.group) broken.name (subst (λ (ns : List ConstraintName). Contains ns broken.name) placed among) in
      record { spot = o.0; among = o.1; run = broken_to_run s U c n i b value line marks (names o.0) here at broken o.2 below }

  -- the first run of a place that is false is the first false constraint
  pub broken_first : slice_get c.instances n ≡ Some i → i.group < root s → (found : Option ℕ) → IsFirstBelow b (IsFalseAmong s U i.group names (spots s i.group) value line) found
      → IsFirstBelow b (IsBrokenIn s U c n) found
  broken_first here lt None f = λ at broken below. f at (at_place here at broken below) below
  broken_first here lt (Some l) f = record {
    is = of_place here lt l f.is f.below;
    below = f.below;
    first = λ other broken. earliest other broken;
  }
    where
      earliest : (other : ℕ) → IsBrokenIn s U c n other → l ≤ other
      earliest other broken = ⊎_elim
          (λ (small : other < l). f.first other (at_place here other broken (below_mono b other l (omega arith) f.below)))
          (λ (le : l ≤ other). le) (lt_or_le other l)

-- Places one after another

module _ (s : System) (U : ConstraintName → Bool) (g : ℕ) (names : Spot → List ConstraintName) (value : ℕ → Bool) (line : ℕ → ℕ) (b : Option ℕ) where
  pub no_places : IsFirstBelow b (IsFalseAmong s U g names [] value line) None
  no_places at f below = none_there f.spot f.among

  pub one_more_place : (ps : List Spot) (k : ℕ) (p : Spot) → slice_get ps k ≡ Some p → (one other : Option ℕ) → IsFirstBelow b (IsFalseAmong s U g names (take k ps) value line) one
      → IsFirstBelow b (IsFalseRun (table_of s U g (names p)) value line) other → IsFirstBelow b (IsFalseAmong s U g names (take (k + 1) ps) value line) (earliest one other)
  one_more_place ps k p at one other x y =
      or_first b (IsFalseAmong s U g names (take k ps) value line) (IsFalseRun (table_of s U g (names p)) value line) (IsFalseAmong s U g names (take (k + 1) ps) value line) split left right one other x y
    where
      next : take (k + 1) ps ≡ take k ps ++ p ∷ []
      next = take_more ps k p (slice_get_within ps k p at) ∙ ap (λ (q : Spot). take k ps ++ q ∷ []) (get_or_from_slice_get ps k p p at)

      last : (q : Spot) → Contains (p ∷ []) q → p ≡ q
      last q h = ⊎_elim (λ (e : p ≡ q). e) (λ (r : Contains [] q). absurd (none_there q r)) (first_or_rest p [] q h)

      split : (l : ℕ) → IsFalseAmong s U g names (take (k + 1) ps) value line l → IsFalseAmong s U g names (take k ps) value line l ⊎ IsFalseRun (table_of s U g (names p)) value line l
      split l f =
          ⊎_elim (λ (h : Contains (take k ps) f.spot). inl (record { spot = f.spot; among = h; run = f.run }))
          (λ (h : Contains (p ∷ []) f.spot). inr (subst (λ (q : Spot). IsFalseRun (table_of s U g (names q)) value line l) (sym (last f.spot h)) f.run))
          (Contains-append_cases (take k ps) (p ∷ []) f.spot (subst (λ (qs : List Spot). Contains qs f.spot) next f.among))

      left : (l : ℕ) → IsFalseAmong s U g names (take k ps) value line l → IsFalseAmong s U g names (take (k + 1) ps) value line l
      left l f = record {
        spot = f.spot;
        among = subst (λ (qs : List Spot). Contains qs f.spot) (sym next) (Contains-append_left (take k ps) (p ∷ []) f.spot f.among);
        run = f.run;
      }

      right : (l : ℕ) → IsFalseRun (table_of s U g (names p)) value line l → IsFalseAmong s U g names (take (k + 1) ps) value line l
      right l f = record {
        spot = p;
        among = subst (λ (qs : List Spot). Contains qs p) (sym next) (Contains-append_right (take k ps) (p ∷ []) p (here p [] p refl));
        run = f;
      }

  pub all_places : (ps : List Spot) (k : ℕ) (found : Option ℕ) → length ps ≤ k → IsFirstBelow b (IsFalseAmong s U g names (take k ps) value line) found
      → IsFirstBelow b (IsFalseAmong s U g names ps value line) found
  all_places ps k found le h = subst (λ (qs : List Spot). IsFirstBelow b (IsFalseAmong s U g names qs value line) found) (take_all k ps le) h

-- Instances one after another

-- a constraint is false in an instance before n
pub record BrokenBefore (s : System) (U : ConstraintName → Bool) (c : Certificate) (n : ℕ) (line : ℕ) : Type 0 where
  pub number : ℕ
  pub before : number < n
  pub broken : IsBrokenIn s U c number line

-- an instance before n is of the group
pub record SeenBefore (is : List Instance) (n g : ℕ) : Type 0 where
  pub number : ℕ
  pub before : number < n
  pub instance : Instance
  pub there : slice_get is number ≡ Some instance
  pub group : instance.group ≡ g

-- of the groups that were seen there is an instance before n
abbrev pub AreSeenGroups : List Instance → List Bool → ℕ → Type 0
AreSeenGroups is seen n = (g : ℕ) → get_or seen g false ≡ true → SeenBefore is n g

module _ (s : System) (U : ConstraintName → Bool) (c : Certificate) where
  pub before_split : (n line : ℕ) → BrokenBefore s U c (n + 1) line → BrokenBefore s U c n line ⊎ IsBrokenIn s U c n line
  before_split n line h =
      let lt = h.before in
      ⊎_elim (λ (less : h.number < n). inl (record { number = h.number; before = less; broken = h.broken }))
      (λ (ge : n ≤ h.number). let e : h.number ≡ n = omega (arith, lt) in inr (subst (λ (k : ℕ). IsBrokenIn s U c k line) e h.broken)) (lt_or_le h.number n)

  pub before_left : (n line : ℕ) → BrokenBefore s U c n line → BrokenBefore s U c (n + 1) line
  before_left n line h = record { number = h.number; before = (let lt = h.before in omega (arith, lt)); broken = h.broken }

  pub before_right : (n line : ℕ) → IsBrokenIn s U c n line → BrokenBefore s U c (n + 1) line
  before_right n line h = record { number = n; before = omega arith; broken = h }

  pub none_before : (b : Option ℕ) → IsFirstBelow b (BrokenBefore s U c 0) None
  none_before b line h below = let lt = h.before in omega (arith, lt)

  pub to_broken : (n line : ℕ) → IsBrokenIn s U c n line → HasFault s U c Broken line
  to_broken n line h = subst (HasFault s U c Broken) (sym h.is) (fault.broken n h.instance h.name h.there h.group h.among h.counting h.off)

  pub from_broken : (line : ℕ) → HasFault s U c Broken line → BrokenBefore s U c (length c.instances) line
  from_broken line (fault.broken n i name at lt among counting off) = record {
    number = n;
    before = slice_get_within c.instances n i at;
    broken = record { instance = i; there = at; group = lt; name = name; among = among; counting = counting; off = off; is = refl };
  }

  pub all_broken : (b : Option ℕ) (n : ℕ) (found : Option ℕ) → length c.instances ≤ n → IsFirstBelow b (BrokenBefore s U c n) found → IsFirstBelow b (HasFault s U c Broken) found
  all_broken b n None le f = λ line h below. f line (far n le line (from_broken line h)) below
    where
      far : (n : ℕ) → length c.instances ≤ n → (line : ℕ) → BrokenBefore s U c (length c.instances) line → BrokenBefore s U c n line
      far n le line o = record { number = o.number; before = (let lt = o.before in omega (arith, lt)); broken = o.broken }
  all_broken b n (Some l) le f = record {
    is = to_broken f.is.number l f.is.broken;
    below = f.below;
    first = λ other h. f.first other (far n le other (from_broken other h));
  }
    where
      far : (n : ℕ) → length c.instances ≤ n → (line : ℕ) → BrokenBefore s U c (length c.instances) line → BrokenBefore s U c n line
      far n le line o = record { number = o.number; before = (let lt = o.before in omega (arith, lt)); broken = o.broken }

  -- an instance of no group has none
  pub no_group : (n : ℕ) (i : Instance) → slice_get c.instances n ≡ Some i → root s ≤ i.group → (line : ℕ) → IsBrokenIn s U c n line → ⊥
  no_group n i at ge line h =
      let there' = h.there in
      let same : i ≡ h.instance = cc in
      let lt = h.group in
      let e : i.group ≡ h.instance.group = ap (λ (x : Instance). x.group) same in
      omega (arith, e, lt)

  -- one that begins at the bound has none but those of an instance of its group that was seen
  pub as_seen : (b : Option ℕ) (n : ℕ) (i : Instance) → slice_get c.instances n ≡ Some i → IsCleanBelow b (HasFault s U c Range) → (IsBelow b (instance_line c.instances n) → ⊥)
      → SeenBefore c.instances n i.group → (line : ℕ) → IsBrokenIn s U c n line → IsBelow b line → BrokenBefore s U c n line
  as_seen b n i at shapes never seen line h below =
      let there' = h.there in
      let same : h.instance ≡ i = cc in
      let j : Instance = seen.instance in
      let m : ℕ = seen.number in
      let group : i.group ≡ j.group = sym seen.group in
      let name : ConstraintName = h.name in
      let among : Contains (names_of s j.group) name = subst (λ (g : ℕ). Contains (names_of s g) name) (ap (λ (x : Instance). x.group) same ∙ group) h.among in
      let off : all_true (assignment_of s c i) (s.clauses i.group name) ≡ false = subst (λ (x : Instance). all_true (assignment_of s c x) (s.clauses x.group name) ≡ false) same h.off in
      let e : line ≡ last_line s c n i.group name = subst (λ (x : Instance). line ≡ last_line s c n x.group name) same h.is in
      let one = false_one (assignment_of s c i) (s.clauses i.group name) off in
      let early : (ls : List Literal) (l : Literal) → Contains (s.clauses i.group name) ls → Contains ls l → IsBelow b (line_of s c n i.group l.var) =
      λ ls l a g. below_mono b (line_of s c n i.group l.var) line (let x = le_last s c n i.group name ls l a g in omega (arith, x, e)) below in
      let truth : clause_true (assignment_of s c j) one.0 ≡ clause_true (assignment_of s c i) one.0 =
      same_truth (assignment_of s c j) (assignment_of s c i) one.0 (λ l g. other_value s U c b n m i j group shapes never l.var (early one.0 l one.1 g)) in
      let there_j : Contains (s.clauses j.group name) one.0 = subst (λ (g : ℕ). Contains (s.clauses g name) one.0) group one.1 in
      let up : last_line s c m j.group name ≤ line =
      last_le s c m j.group name line
      (λ ls l a g.
      let a' : Contains (s.clauses i.group name) ls = subst (λ (k : ℕ). Contains (s.clauses k name) ls) (sym group) a in
      let x = other_line s U c b n m i j group shapes never l.var (early ls l a' g) in
      let y = le_last s c n i.group name ls l a' g in
      omega (arith, x, y, e)) in
      let down : line ≤ last_line s c m j.group name =
      (let z : last_line s c n i.group name ≤ last_line s c m j.group name =
      last_le s c n i.group name (last_line s c m j.group name)
      (λ ls l a g.
      let a' : Contains (s.clauses j.group name) ls = subst (λ (k : ℕ). Contains (s.clauses k name) ls) group a in
      let x = other_line s U c b n m i j group shapes never l.var (early ls l a g) in
      let y = le_last s c m j.group name ls l a' g in
      omega (arith, x, y)) in
      omega (arith, z, e)) in
      record {
        number = m;
        before = seen.before;
        broken = record {
          instance = j;
          there = seen.there;
          group = subst (λ (g : ℕ). g < root s) (ap (λ (x : Instance). x.group) same ∙ group) h.group;
          name = name;
          among = among;
          counting = h.counting;
          off = some_false (assignment_of s c j) (s.clauses j.group name) one.0 there_j (truth ∙ one.2);
          is = omega (arith, up, down);
        };
      }

-- Groups that were seen

pub none_seen_yet : (is : List Instance) (k : ℕ) → AreSeenGroups is (replicate k false) 0
none_seen_yet is k g e = absurd (never k g e)
  where
    never : (k g : ℕ) → get_or (replicate k false) g false ≡ true → ⊥
    never zero g e = cc
    never (suc k) zero e = cc
    never (suc k) (suc g) e = never k g e

pub later_seen : (is : List Instance) (seen : List Bool) (n : ℕ) → AreSeenGroups is seen n → AreSeenGroups is seen (n + 1)
later_seen is seen n f g e = let o = f g e in record { number = o.number; before = (let lt = o.before in omega (arith, lt)); instance = o.instance; there = o.there; group = o.group }

pub one_more_seen : (is : List Instance) (seen : List Bool) (n : ℕ) (i : Instance) → slice_get is n ≡ Some i → AreSeenGroups is seen n → i.group < length seen → AreSeenGroups is (set seen i.group true) (n + 1)
one_more_seen is seen n i at f lt g e =
    ⊎_elim (λ (same : i.group ≡ g). record { number = n; before = omega arith; instance = i; there = at; group = same })
    (λ (ne : i.group ≡ g → ⊥). later_seen is seen n f g (sym (get_or-set_other seen i.group g true false (λ h. ne (sym h))) ∙ e)) (cases_eq i.group g)

-- One instance more

module _ (s : System) (U : ConstraintName → Bool) (c : Certificate) (b : Option ℕ) (n : ℕ) (i : Instance) (at : slice_get c.instances n ≡ Some i) where
  pub left_out : IsCleanBelow b (HasFault s U c Range) → (seen : List Bool) (start : ℕ) (below : Bool) (found : Option ℕ) → length seen ≡ root s → start ≡ instance_line c.instances n
      → MatchBool below (IsBelow b start) (IsBelow b start → ⊥) → AreSeenGroups c.instances seen n → IsLeftOut seen i.group below
      → IsFirstBelow b (BrokenBefore s U c n) found → IsFirstBelow b (BrokenBefore s U c (n + 1)) found
  left_out shapes seen start below found long e m f out p =
      or_same b (BrokenBefore s U c n) (IsBrokenIn s U c n) (BrokenBefore s U c (n + 1)) (before_split s U c n) (before_left s U c n) found p
      (λ line h lt. ⊎_elim
      (λ (ge : length seen ≤ i.group). absurd (no_group s U c n i at (omega (arith, ge, long)) line h))
      (λ (x : (below ≡ false) × (i.group < length seen) × (get_or seen i.group false ≡ true)).
      as_seen s U c b n i at shapes (λ k. match_false below (IsBelow b start) (IsBelow b start → ⊥) x.0 m (subst (IsBelow b) (sym e) k)) (f i.group x.2) line h lt) out)

  pub taken : (one other : Option ℕ) → IsFirstBelow b (BrokenBefore s U c n) one → IsFirstBelow b (IsBrokenIn s U c n) other
      → IsFirstBelow b (BrokenBefore s U c (n + 1)) (earliest one other)
  taken one other p q =
      or_first b (BrokenBefore s U c n) (IsBrokenIn s U c n) (BrokenBefore s U c (n + 1)) (before_split s U c n) (before_left s U c n) (before_right s U c n) one other p q

-- where each group was seen none is missing
pub none_missing : (s : System) (is : List Instance) (seen : List Bool) (n : ℕ) → AreSeenGroups is seen n → ((k : ℕ) → k < root s → get_or seen k false ≡ true) → IsGroupMissing s is → ⊥
none_missing s is seen n f all m =
    let o = f m.group (all m.group m.exists) in
    m.never (record { number = o.number; instance = o.instance; there = o.there; group = o.group })
