-- The clauses of one name stand together in the table, and are those of its constraint.
use Rattle.std.proofs.Common.{◌≡◌, ℕ, zero, suc, ◌+◌, ◌-◌, ◌<◌, ◌≤◌, ◌⊎◌, inl, inr, ⊎_elim, Bool, true, false, not, ◌&&◌, ◌||◌, cond, List, [], ◌∷◌, ◌++◌, Option, Some, None, refl, sym, ap, ◌∙◌, subst, arith, length, get_or, take, drop, map, max, slice_get, length-append, add-zero}
use Rattle.std.specs.Prelude.{MatchBool}
use Rattle.std.specs.List.{Contains, flat_map}
use Rattle.std.proofs.lemmas.List.{length-map, get_or-map, get_or_append_left, get_or-append_right, get_or-take, get_or-drop, length-take-le, length-drop, get_or_default, map-append, take_more}
use Rattle.std.proofs.lemmas.List.Elements.{Contains-get_or}
use Rattle.std.proofs.lemmas.Bool.{cases_eq}
use Rattle.zo_core.specs.Literals.{Literal}
use Rattle.zo_core.specs.Truth.{holds, clause_true, all_true}
use Rattle.conflict_proof.specs.declared.names.ConstraintName.{ConstraintName}
use Rattle.transfer_rules.specs.Names.{NamedClause, named_clause, name_key}
use Rattle.transfer_rules.specs.Table.{no_clause}
use Rattle.verdict_meaning.specs.Systems.{System}
use Rattle.verdict_meaning.specs.Solutions.{counts}
use Rattle.verdict_meaning.specs.CertificateFaults.{greatest, unknowns_of}
use Rattle.cert_checker.specs.Tables.{clauses_if, table_of, row, IsRunEnd, IsRun, HasFalse, clause_line, run_line, IsFalseRun}
use Rattle.cert_checker.specs.Finding.{IsBelow, IsFirstAt, IsFirstBelow}
use Rattle.cert_checker.proofs.LineLemmas.{lt_or_le}
use Rattle.cert_checker.proofs.Among.{here, there, first_or_rest, none_there, in_map, of_map, in_all, of_all}

-- Rows that are made name by name

module _ (B : ConstraintName → List NamedClause) (named : (n : ConstraintName) (k : ℕ) → k < length (B n) → (row (B n) k).name ≡ n) where
  abbrev all_rows : List ConstraintName → List NamedClause
  all_rows ns = flat_map B ns

  left_row : (m : ConstraintName) (ms : List ConstraintName) (k : ℕ) → k < length (B m) → row (all_rows (m ∷ ms)) k ≡ row (B m) k
  left_row m ms k lt = get_or_append_left (B m) (all_rows ms) no_clause k lt

  right_row : (m : ConstraintName) (ms : List ConstraintName) (k : ℕ) → row (all_rows (m ∷ ms)) (length (B m) + k) ≡ row (all_rows ms) k
  right_row m ms k =
      get_or-append_right (B m) (all_rows ms) (length (B m)) (length (B m) + k) no_clause refl (omega arith)
      ∙ (let e : length (B m) + k - length (B m) ≡ k = omega arith in ap (row (all_rows ms)) e)

  -- a run has all the rows of its name
  pub whole_run : (ns : List ConstraintName) (n : ConstraintName) (a b : ℕ) → a < b → b ≤ length (all_rows ns)
      → ((k : ℕ) → a ≤ k → k < b → (row (all_rows ns) k).name ≡ n)
      → ((k : ℕ) → k + 1 ≡ a → (row (all_rows ns) k).name ≡ n → ⊥)
      → (b < length (all_rows ns) → (row (all_rows ns) b).name ≡ n → ⊥)
      → (j : ℕ) → j < length (B n) → (a + j < b) × (row (all_rows ns) (a + j) ≡ row (B n) j)
  whole_run [] n a b lt le same before after j small = absurd (omega arith)
  whole_run (m ∷ ms) n a b lt le same before after j small =
      by_place (lt_or_le a (length (B m)))
      (λ past. whole_run ms n (a - length (B m)) (b - length (B m)) (omega arith) (omega (arith, total)) (same' past) (before' past) (after' past) j small)
    where
      total : length (all_rows (m ∷ ms)) ≡ length (B m) + length (all_rows ms)
      total = length-append (B m) (all_rows ms)

      to_left : (k : ℕ) → length (B m) ≤ k → length (B m) + (k - length (B m)) ≡ k
      to_left k ge = omega arith

      name_right : (k : ℕ) → (row (all_rows (m ∷ ms)) (length (B m) + k)).name ≡ (row (all_rows ms) k).name
      name_right k = ap (λ (r : NamedClause). r.name) (right_row m ms k)

      same' : length (B m) ≤ a → (k : ℕ) → a - length (B m) ≤ k → k < b - length (B m) → (row (all_rows ms) k).name ≡ n
      same' past k ge lt' = sym (name_right k) ∙ same (length (B m) + k) (omega arith) (omega arith)

      before' : length (B m) ≤ a → (k : ℕ) → k + 1 ≡ a - length (B m) → (row (all_rows ms) k).name ≡ n → ⊥
      before' past k e name = before (length (B m) + k) (omega arith) (name_right k ∙ name)

      after' : length (B m) ≤ a → b - length (B m) < length (all_rows ms) → (row (all_rows ms) (b - length (B m))).name ≡ n → ⊥
      after' past lt' name =
          after (omega (arith, total, lt', past, lt))
          (ap (λ (x : ℕ). (row (all_rows (m ∷ ms)) x).name) (sym (to_left b (omega arith))) ∙ name_right (b - length (B m)) ∙ name)

      earlier : a < length (B m) → m ≡ n → (a ≡ 0 → ⊥) → ⊥
      earlier in_first name ne =
          let back : (a - 1) + 1 ≡ a = omega (arith, ne) in
          let inside : a - 1 < length (B m) = omega arith in
          before (a - 1) back (ap (λ (r : NamedClause). r.name) (left_row m ms (a - 1) inside) ∙ named m (a - 1) inside ∙ name)

      later : m ≡ n → b < length (B m) → ⊥
      later name inside = after (omega (arith, total, inside)) (ap (λ (r : NamedClause). r.name) (left_row m ms b inside) ∙ named m b inside ∙ name)

      by_place : (a < length (B m)) ⊎ (length (B m) ≤ a)
          → (length (B m) ≤ a → (a - length (B m) + j < b - length (B m)) × (row (all_rows ms) (a - length (B m) + j) ≡ row (B n) j))
          → (a + j < b) × (row (all_rows (m ∷ ms)) (a + j) ≡ row (B n) j)
      by_place (inl in_first) rest =
          let name : m ≡ n = sym (named m a in_first) ∙ sym (ap (λ (r : NamedClause). r.name) (left_row m ms a in_first)) ∙ same a (omega arith) lt in
          let start : a ≡ 0 = ⊎_elim (λ (e : a ≡ 0). e) (λ (ne : a ≡ 0 → ⊥). absurd (earlier in_first name ne)) (cases_eq a 0) in
          let small' : j < length (B m) = (let e = ap (λ (x : ConstraintName). length (B x)) name in omega (arith, e)) in
          let below : j < b = ⊎_elim (λ (h : j < b). h) (λ (ge : b ≤ j). absurd (later name (omega arith))) (lt_or_le j b) in
          let at : a + j ≡ j = omega (arith, start) in
          (omega (arith, start, below), ap (row (all_rows (m ∷ ms))) at ∙ left_row m ms j small' ∙ ap (λ (x : ConstraintName). row (B x) j) name)
      by_place (inr past) rest =
          let r = rest past in
          let lt' = r.0 in
          let ej : a + j ≡ length (B m) + (a - length (B m) + j) = omega arith in
          (omega (arith, lt', past), ap (row (all_rows (m ∷ ms))) ej ∙ right_row m ms (a - length (B m) + j) ∙ r.1)

-- The table of some names

module _ (s : System) (U : ConstraintName → Bool) (g : ℕ) (ns : List ConstraintName) where
  abbrev rows : List NamedClause
  rows = table_of s U g ns

  off_if : (n : ConstraintName) → counts U n ≡ false → clauses_if s U g n ≡ []
  off_if n e = ap (λ (b : Bool). cond b (map (named_clause n) (s.clauses g n)) []) e

  on_if : (n : ConstraintName) → counts U n ≡ true → clauses_if s U g n ≡ map (named_clause n) (s.clauses g n)
  on_if n e = ap (λ (b : Bool). cond b (map (named_clause n) (s.clauses g n)) []) e

  -- a row of those of a name
  of_if : (n : ConstraintName) (r : NamedClause) → Contains (clauses_if s U g n) r → (counts U n ≡ true) × (r.name ≡ n) × Contains (s.clauses g n) r.lits
  of_if n r h = by_count (counts U n) refl
    where
      by_count : (b : Bool) → counts U n ≡ b → (counts U n ≡ true) × (r.name ≡ n) × Contains (s.clauses g n) r.lits
      by_count true e =
          let o = of_map (named_clause n) (s.clauses g n) r (subst (λ (xs : List NamedClause). Contains xs r) (on_if n e) h) in
          (e, ap (λ (x : NamedClause). x.name) (sym o.2), subst (λ (x : NamedClause). Contains (s.clauses g n) x.lits) o.2 o.1)
      by_count false e = absurd (none_there r (subst (λ (xs : List NamedClause). Contains xs r) (off_if n e) h))

  named_if : (n : ConstraintName) (k : ℕ) → k < length (clauses_if s U g n) → (row (clauses_if s U g n) k).name ≡ n
  named_if n k lt = (of_if n (row (clauses_if s U g n) k) (Contains-get_or (clauses_if s U g n) k no_clause lt)).1

  -- a row of the table
  pub row_of_table : (k : ℕ) → k < length rows → (n : ConstraintName) → (row rows k).name ≡ n
      → Contains ns n × (counts U n ≡ true) × Contains (s.clauses g n) (row rows k).lits
  row_of_table k lt n e =
      let o = of_all (clauses_if s U g) ns (row rows k) (Contains-get_or rows k no_clause lt) in
      let p = of_if o.0 (row rows k) o.2 in
      let same : o.0 ≡ n = sym p.1 ∙ e in
      (subst (Contains ns) same o.1, subst (λ (m : ConstraintName). counts U m ≡ true) same p.0, subst (λ (m : ConstraintName). Contains (s.clauses g m) (row rows k).lits) same p.2)

  -- a clause of a constraint that counts is in the table
  pub in_table : (n : ConstraintName) (ls : List Literal) → Contains ns n → counts U n ≡ true → Contains (s.clauses g n) ls → Contains rows (named_clause n ls)
  in_table n ls among on there =
      in_all (clauses_if s U g) ns n (named_clause n ls) among (subst (λ (xs : List NamedClause). Contains xs (named_clause n ls)) (sym (on_if n on)) (in_map (named_clause n) (s.clauses g n) ls there))

  -- a run has all clauses of its constraint
  pub in_run : (n : ConstraintName) (a b : ℕ) → IsRun rows a b → (row rows a).name ≡ n → (ls : List Literal) → Contains (s.clauses g n) ls
      → (k : ℕ) × (a ≤ k) × (k < b) × ((row rows k).lits ≡ ls)
  in_run n a b run e ls there =
      let on = (row_of_table a (let lt = run.end.some in let le = run.end.within in omega (arith, lt, le)) n e).1 in
      let h = in_map (named_clause n) (s.clauses g n) ls there in
      let j : ℕ = h.0 in
      let small : j < length (clauses_if s U g n) = (let e' = ap length (on_if n on) in let lt = h.1 in omega (arith, e', lt)) in
      let w = whole_run (clauses_if s U g) named_if ns n a b run.end.some run.end.within
      (λ k ge lt. run.end.same k ge lt ∙ e) (λ k next name. run.before k next (name ∙ sym e)) (λ lt name. run.end.after lt (name ∙ sym e)) j small in
      let is : row (clauses_if s U g n) j ≡ named_clause n ls =
      ap (λ (xs : List NamedClause). row xs j) (on_if n on) ∙ get_or_default (map (named_clause n) (s.clauses g n)) j no_clause (named_clause n ls) h.1 ∙ h.2 in
      (a + j, omega arith, w.0, ap (λ (r : NamedClause). r.lits) (w.1 ∙ is))

-- Truth

no_both : (b : Bool) → b ≡ true → b ≡ false → ⊥
no_both true e f = cc
no_both false e f = cc

pub some_false : (a : ℕ → Bool) (cs : List (List Literal)) (ls : List Literal) → Contains cs ls → clause_true a ls ≡ false → all_true a cs ≡ false
some_false a [] ls h e = absurd (none_there ls h)
some_false a (c ∷ cs) ls h e =
    ⊎_elim (λ (same : c ≡ ls). left (clause_true a c) (all_true a cs) (ap (clause_true a) same ∙ e))
    (λ (r : Contains cs ls). right (clause_true a c) (all_true a cs) (some_false a cs ls r e)) (first_or_rest c cs ls h)
  where
    left : (x y : Bool) → x ≡ false → (x && y) ≡ false
    left true y f = cc
    left false y f = refl

    right : (x y : Bool) → y ≡ false → (x && y) ≡ false
    right true y f = f
    right false y f = refl

pub false_one : (a : ℕ → Bool) (cs : List (List Literal)) → all_true a cs ≡ false → (ls : List Literal) × Contains cs ls × (clause_true a ls ≡ false)
false_one a [] e = cc
false_one a (c ∷ cs) e = by_first (clause_true a c) refl (false_one a cs)
  where
    by_first : (b : Bool) → clause_true a c ≡ b → (all_true a cs ≡ false → (ls : List Literal) × Contains cs ls × (clause_true a ls ≡ false)) → (ls : List Literal) × Contains (c ∷ cs) ls × (clause_true a ls ≡ false)
    by_first false f later = (c, here c cs c refl, f)
    by_first true f later =
        let rest : all_true a cs ≡ false = sym (ap (λ (b : Bool). b && all_true a cs) f) ∙ e in
        let o = later rest in
        (o.0, there c cs o.0 o.1, o.2)

pub same_truth : (a b : ℕ → Bool) (ls : List Literal) → ((l : Literal) → Contains ls l → a l.var ≡ b l.var) → clause_true a ls ≡ clause_true b ls
same_truth a b [] f = refl
same_truth a b (l ∷ ls) f =
    ap (λ (v : Bool). cond l.sign v (not v) || clause_true a ls) (f l (here l ls l refl))
    ∙ ap (λ (v : Bool). holds b l || v) (same_truth a b ls (λ m h. f m (there l ls m h)))

-- Greatest numbers

pub le_greatest : (ns : List ℕ) (n : ℕ) → Contains ns n → n ≤ greatest ns
le_greatest [] n h = absurd (none_there n h)
le_greatest (m ∷ ns) n h =
    ⊎_elim (λ (e : m ≡ n). (omega (arith, e))) (λ (r : Contains ns n). let le = le_greatest ns n r in omega (arith, le)) (first_or_rest m ns n h)

pub greatest_le : (ns : List ℕ) (b : ℕ) → ((n : ℕ) → Contains ns n → n ≤ b) → greatest ns ≤ b
greatest_le [] b f = omega arith
greatest_le (m ∷ ns) b f = let x = f m (here m ns m refl) in let y = greatest_le ns b (λ n h. f n (there m ns n h)) in omega (arith, x, y)

-- The last line of a run

module _ (line : ℕ → ℕ) (rs : List NamedClause) (a b : ℕ) (le : b ≤ length rs) where
  piece_length : length (take (b - a) (drop a rs)) ≡ b - a
  piece_length = length-take-le (b - a) (drop a rs) (let e = length-drop a rs in omega (arith, e))

  piece_row : (j : ℕ) → j < b - a → row (take (b - a) (drop a rs)) j ≡ row rs (a + j)
  piece_row j lt = get_or-take (b - a) (drop a rs) j no_clause lt ∙ get_or-drop a rs j no_clause

  pub le_run : (k : ℕ) → a ≤ k → k < b → (l : Literal) → Contains (row rs k).lits l → line l.var ≤ run_line line rs a b
  le_run k ge lt l h =
      let j : ℕ = k - a in
      let small : j < b - a = omega arith in
      let back : a + j ≡ k = omega arith in
      let there' : Contains (take (b - a) (drop a rs)) (row rs k) =
      subst (Contains (take (b - a) (drop a rs))) (piece_row j small ∙ ap (row rs) back) (Contains-get_or (take (b - a) (drop a rs)) j no_clause (let e = piece_length in omega (arith, e, small))) in
      let x : clause_line line (row rs k).lits ≤ run_line line rs a b =
      le_greatest (map (λ (r : NamedClause). clause_line line r.lits) (take (b - a) (drop a rs))) (clause_line line (row rs k).lits)
      (in_map (λ (r : NamedClause). clause_line line r.lits) (take (b - a) (drop a rs)) (row rs k) there') in
      let y : line l.var ≤ clause_line line (row rs k).lits =
      le_greatest (map (λ (m : Literal). line m.var) (row rs k).lits) (line l.var) (in_map (λ (m : Literal). line m.var) (row rs k).lits l h) in
      omega (arith, x, y)

  pub run_le : (most : ℕ) → ((k : ℕ) → a ≤ k → k < b → (l : Literal) → Contains (row rs k).lits l → line l.var ≤ most) → run_line line rs a b ≤ most
  run_le most f =
      greatest_le (map (λ (r : NamedClause). clause_line line r.lits) (take (b - a) (drop a rs))) most
      (λ n h. let o = of_map (λ (r : NamedClause). clause_line line r.lits) (take (b - a) (drop a rs)) n h in one n o.0 o.1 o.2)
    where
      one : (n : ℕ) (r : NamedClause) → Contains (take (b - a) (drop a rs)) r → clause_line line r.lits ≡ n → n ≤ most
      one n r at e =
          let j : ℕ = at.0 in
          let small : j < b - a = (let lt = at.1 in let e' = piece_length in omega (arith, lt, e')) in
          let is : row rs (a + j) ≡ r = sym (piece_row j small) ∙ get_or_default (take (b - a) (drop a rs)) j no_clause r at.1 ∙ at.2 in
          let le' : clause_line line r.lits ≤ most =
          greatest_le (map (λ (m : Literal). line m.var) r.lits) most
          (λ v h. let p = of_map (λ (m : Literal). line m.var) r.lits v h in
          let x = f (a + j) (omega arith) (omega (arith, small)) p.0 (subst (λ (q : NamedClause). Contains q.lits p.0) (sym is) p.1) in
          let e'' = p.2 in omega (arith, x, e'')) in
          omega (arith, le', e)

-- Names are one or are not

same_numbers : (xs ys : List ℕ) → (xs ≡ ys) ⊎ (xs ≡ ys → ⊥)
same_numbers [] [] = inl refl
same_numbers [] (y ∷ ys) = inr (λ e. cc)
same_numbers (x ∷ xs) [] = inr (λ e. cc)
same_numbers (x ∷ xs) (y ∷ ys) =
    ⊎_elim (λ (e : x ≡ y). ⊎_elim (λ (f : xs ≡ ys). inl (ap (λ (n : ℕ). n ∷ xs) e ∙ ap (λ (l : List ℕ). y ∷ l) f)) (λ (ne : xs ≡ ys → ⊥). inr (λ h. ne cc)) (same_numbers xs ys))
    (λ (ne : x ≡ y → ⊥). inr (λ h. ne cc)) (cases_eq x y)

numbered : List ℕ → ConstraintName
numbered ns = record { proc = get_or ns 0 0; place = get_or ns 1 0; edge = get_or ns 2 0; rule = get_or ns 3 0; slot = get_or ns 4 0; field = get_or ns 5 0; other = get_or ns 6 0 }

name_cases : (m n : ConstraintName) → (m ≡ n) ⊎ (m ≡ n → ⊥)
unfolding numbered
name_cases m n =
    ⊎_elim (λ (e : name_key m ≡ name_key n). inl (ap numbered e)) (λ (ne : name_key m ≡ name_key n → ⊥). inr (λ e. ne (ap name_key e))) (same_numbers (name_key m) (name_key n))

-- The run around a row

module _ (rs : List NamedClause) where
  abbrev name_at : ℕ → ConstraintName
  name_at k = (row rs k).name

  record Back (k : ℕ) : Type 0 where
    from : ℕ
    to_here : from ≤ k
    same : (j : ℕ) → from ≤ j → j ≤ k → name_at j ≡ name_at k
    before : (j : ℕ) → j + 1 ≡ from → name_at j ≡ name_at k → ⊥

  back : (k : ℕ) → Back k
  back zero = record {
    from = 0;
    to_here = omega arith;
    same = λ j ge le. (let e : j ≡ 0 = omega arith in ap name_at e);
    before = λ j e h. omega arith;
  }
  back (suc k) = by_name (name_cases (name_at k) (name_at (suc k))) (back k)
    where
      by_name : (name_at k ≡ name_at (suc k)) ⊎ (name_at k ≡ name_at (suc k) → ⊥) → Back k → Back (suc k)
      by_name (inl e) o =
          record {
            from = o.from;
            to_here = (let le = o.to_here in omega (arith, le));
            same = λ j ge le. ⊎_elim (λ (lt : j < suc k). o.same j ge (omega arith) ∙ e) (λ (ge' : suc k ≤ j). let x : j ≡ suc k = omega arith in ap name_at x) (lt_or_le j (suc k));
            before = λ j e' h. o.before j e' (h ∙ sym e);
          }
      by_name (inr ne) o = record {
        from = suc k;
        to_here = omega arith;
        same = λ j ge le. (let x : j ≡ suc k = omega arith in ap name_at x);
        before = λ j e' h. (let x : j ≡ k = omega arith in ne (ap name_at (sym x) ∙ h));
      }

  forth : (d k : ℕ) → k + suc d ≡ length rs → (to : ℕ) × IsRunEnd rs k to
  forth zero k e = (
    k + 1,
    record {
      some = omega arith;
      within = omega arith;
      same = λ j ge lt. (let x : j ≡ k = omega arith in ap name_at x);
      after = λ lt h. omega arith;
    },
  )
  forth (suc d) k e = by_name (name_cases (name_at (k + 1)) (name_at k)) (forth d (k + 1) (omega arith))
    where
      by_name : (name_at (k + 1) ≡ name_at k) ⊎ (name_at (k + 1) ≡ name_at k → ⊥) → (to : ℕ) × IsRunEnd rs (k + 1) to → (to : ℕ) × IsRunEnd rs k to
      by_name (inl same) o =
          let end = o.1 in
          let lt = end.some in (
            o.0,
            record {
              some = omega (arith, lt);
              within = end.within;
              same = λ j ge lt'. ⊎_elim (λ (l : j < k + 1). let x : j ≡ k = omega arith in ap name_at x) (λ (g : k + 1 ≤ j). end.same j g lt' ∙ same) (lt_or_le j (k + 1));
              after = λ lt' h. end.after lt' (h ∙ sym same);
            },
          )
      by_name (inr ne) o = (
        k + 1,
        record {
          some = omega arith;
          within = omega arith;
          same = λ j ge lt. (let x : j ≡ k = omega arith in ap name_at x);
          after = λ lt h. ne h;
        },
      )

  pub record Around (k : ℕ) : Type 0 where
    pub from : ℕ
    pub to : ℕ
    pub run : IsRun rs from to
    pub first : from ≤ k
    pub last : k < to

  pub run_around : (k : ℕ) → k < length rs → Around k
  run_around k lt =
      let b = back k in
      let f = forth (length rs - k - 1) k (omega arith) in
      let end = f.1 in
      let some = end.some in
      let le = b.to_here in
      let first : name_at b.from ≡ name_at k = b.same b.from (omega arith) le in
      record {
        from = b.from;
        to = f.0;
        run = record {
          end = record {
            some = omega (arith, some, le);
            within = end.within;
            same = λ j ge lt'. ⊎_elim (λ (l : j < k). b.same j ge (omega arith) ∙ sym first) (λ (g : k ≤ j). end.same j g lt' ∙ sym first) (lt_or_le j k);
            after = λ lt' h. end.after lt' (h ∙ first);
          };
          before = λ j e h. b.before j e (h ∙ first);
        };
        first = le;
        last = some;
      }

-- Runs one after another

-- a false run that ends at this row or before
pub record FalseUpTo (rs : List NamedClause) (value : ℕ → Bool) (line : ℕ → ℕ) (end : ℕ) (at : ℕ) : Type 0 where
  pub from : ℕ
  pub to : ℕ
  pub run : IsRun rs from to
  pub off : HasFalse rs value from to
  pub is : at ≡ run_line line rs from to
  pub ends : to ≤ end

-- this run is false
pub record FalseHere (rs : List NamedClause) (value : ℕ → Bool) (line : ℕ → ℕ) (from to : ℕ) (at : ℕ) : Type 0 where
  pub off : HasFalse rs value from to
  pub is : at ≡ run_line line rs from to

module _ (rs : List NamedClause) (value : ℕ → Bool) (line : ℕ → ℕ) where
  pub none_up_to : (b : Option ℕ) → IsFirstBelow b (FalseUpTo rs value line 0) None
  none_up_to b at h below = let lt = h.run.end.some in let e = h.ends in omega (arith, lt, e)

  pub up_to_left : (from to at : ℕ) → IsRun rs from to → FalseUpTo rs value line from at → FalseUpTo rs value line to at
  up_to_left from to at run h = record { from = h.from; to = h.to; run = h.run; off = h.off; is = h.is; ends = (let a = h.ends in let b = run.end.some in omega (arith, a, b)) }

  pub up_to_right : (from to at : ℕ) → IsRun rs from to → FalseHere rs value line from to at → FalseUpTo rs value line to at
  up_to_right from to at run h = record { from = from; to = to; run = run; off = h.off; is = h.is; ends = omega arith }

  pub up_to_split : (from to at : ℕ) → IsRun rs from to → FalseUpTo rs value line to at → FalseUpTo rs value line from at ⊎ FalseHere rs value line from to at
  up_to_split from to at run h = by_end (lt_or_le from h.to)
    where
      not_before : from < h.to → h.from < from → ⊥
      not_before inside less =
          let back : (from - 1) + 1 ≡ from = omega arith in
          run.before (from - 1) back (h.run.end.same (from - 1) (omega arith) (omega arith) ∙ sym (h.run.end.same from (omega arith) inside))

      not_after : from < h.from → ⊥
      not_after more =
          let back : (h.from - 1) + 1 ≡ h.from = omega arith in
          let some = h.run.end.some in
          let e = h.ends in
          h.run.before (h.from - 1) back (run.end.same (h.from - 1) (omega arith) (omega (arith, some, e)) ∙ sym (run.end.same h.from (omega arith) (omega (arith, some, e))))

      one_start : from < h.to → h.from ≡ from
      one_start inside =
          ⊎_elim (λ (less : h.from < from). absurd (not_before inside less))
          (λ (ge : from ≤ h.from). ⊎_elim (λ (more : from < h.from). absurd (not_after more)) (λ (le : h.from ≤ from). omega arith) (lt_or_le from h.from)) (lt_or_le h.from from)

      one_end : h.from ≡ from → h.to ≡ to
      one_end e = ⊎_elim
          (λ (less : h.to < to).
          let some = h.run.end.some in
          let within = run.end.within in
          absurd (h.run.end.after (omega (arith, less, within)) (run.end.same h.to (omega (arith, some, e)) less ∙ ap (λ (k : ℕ). (row rs k).name) (sym e))))
          (λ (ge : to ≤ h.to). let le = h.ends in omega (arith, le)) (lt_or_le h.to to)

      by_end : (from < h.to) ⊎ (h.to ≤ from) → FalseUpTo rs value line from at ⊎ FalseHere rs value line from to at
      by_end (inr past) = inl (record { from = h.from; to = h.to; run = h.run; off = h.off; is = h.is; ends = past })
      by_end (inl inside) =
          let e = one_start inside in
          let f = one_end e in
          inr (record {
            off = record { number = h.off.number; from = (let x = h.off.from in omega (arith, x, e)); below = (let x = h.off.below in omega (arith, x, f)); off = h.off.off };
            is = h.is ∙ ap (λ (k : ℕ). run_line line rs k h.to) e ∙ ap (run_line line rs from) f;
          })

  pub all_runs : (b : Option ℕ) (end : ℕ) (found : Option ℕ) → length rs ≤ end → IsFirstBelow b (FalseUpTo rs value line end) found → IsFirstBelow b (IsFalseRun rs value line) found
  all_runs b end None le f = λ at h below.
      f at (record { from = h.from; to = h.to; run = h.run; off = h.off; is = h.is; ends = (let w = h.run.end.within in omega (arith, w)) }) below
  all_runs b end (Some l) le f = record {
    is = (let x = f.is in record { from = x.from; to = x.to; run = x.run; off = x.off; is = x.is });
    below = f.below;
    first = λ other h. f.first other (record { from = h.from; to = h.to; run = h.run; off = h.off; is = h.is; ends = (let w = h.run.end.within in omega (arith, w)) });
  }

  -- the run that ends here, where one may begin
  pub begins : (from to : ℕ) → ((k : ℕ) → k + 1 ≡ from → from < length rs → (row rs k).name ≡ (row rs from).name → ⊥) → IsRunEnd rs from to → IsRun rs from to
  begins from to start end = record {
    end = end;
    before = λ k e. start k e (let a = end.some in let b = end.within in omega (arith, a, b));
  }

  pub next_begins : (from to : ℕ) → IsRunEnd rs from to → (k : ℕ) → k + 1 ≡ to → to < length rs → (row rs k).name ≡ (row rs to).name → ⊥
  next_begins from to end k e lt h = let some = end.some in end.after lt (sym h ∙ end.same k (omega (arith, some)) (omega arith))

  pub here_first : (b : Option ℕ) (from to last : ℕ) → HasFalse rs value from to → last ≡ run_line line rs from to → IsBelow b last → IsFirstAt b (FalseHere rs value line from to) last
  here_first b from to last off e below = record { is = record { off = off; is = e }; below = below; first = λ other h. (let x = h.is in omega (arith, x, e)) }

  pub here_beyond : (b : Option ℕ) (from to last : ℕ) → last ≡ run_line line rs from to → (IsBelow b last → ⊥) → (at : ℕ) → FalseHere rs value line from to at → IsBelow b at → ⊥
  here_beyond b from to last e never at h below = never (subst (IsBelow b) (h.is ∙ sym e) below)

  pub here_none : (b : Option ℕ) (from to : ℕ) → (HasFalse rs value from to → ⊥) → (at : ℕ) → FalseHere rs value line from to at → IsBelow b at → ⊥
  here_none b from to none at h below = none h.off

-- the greatest of some numbers and one more
pub greatest_push : (ns : List ℕ) (n : ℕ) → greatest (ns ++ n ∷ []) ≡ max n (greatest ns)
greatest_push [] n = refl
greatest_push (m ∷ ns) n = let e = greatest_push ns n in omega (arith, e)

pub one_more_lit : (line : ℕ → ℕ) (ls : List Literal) (k : ℕ) (l : Literal) (last next : ℕ) → k < length ls → l ≡ get_or ls k l → last ≡ clause_line line (take k ls)
    → next ≡ max (line l.var) last → next ≡ clause_line line (take (k + 1) ls)
one_more_lit line ls k l last next lt is e f =
    f ∙ ap (max (line l.var)) e ∙ sym (greatest_push (map (λ (m : Literal). line m.var) (take k ls)) (line l.var))
    ∙ ap greatest (sym (map-append (λ (m : Literal). line m.var) (take k ls) (l ∷ [])))
    ∙ ap (λ (m : Literal). clause_line line (take k ls ++ m ∷ [])) is ∙ ap (clause_line line) (sym (take_more ls k l lt))

pub one_more_row : (line : ℕ → ℕ) (rs : List NamedClause) (from k last next : ℕ) → from ≤ k → k < length rs → last ≡ run_line line rs from k
    → next ≡ max (clause_line line (row rs k).lits) last → next ≡ run_line line rs from (k + 1)
one_more_row line rs from k last next le lt e f =
    let piece : List NamedClause = take (k - from) (drop from rs) in
    let f' : NamedClause → ℕ = λ (r : NamedClause). clause_line line r.lits in
    let small : k - from < length (drop from rs) = (let l = length-drop from rs in omega (arith, l)) in
    let here' : get_or (drop from rs) (k - from) no_clause ≡ row rs k = get_or-drop from rs (k - from) no_clause ∙ (let x : from + (k - from) ≡ k = omega arith in ap (row rs) x) in
    let longer : k - from + 1 ≡ k + 1 - from = omega arith in
    f ∙ ap (max (clause_line line (row rs k).lits)) e ∙ sym (greatest_push (map (λ (r : NamedClause). clause_line line r.lits) (take (k - from) (drop from rs))) (clause_line line (row rs k).lits))
    ∙ ap greatest (sym (map-append (λ (r : NamedClause). clause_line line r.lits) (take (k - from) (drop from rs)) (row rs k ∷ [])))
    ∙ ap (λ (r : NamedClause). greatest (map (λ (r : NamedClause). clause_line line r.lits) (take (k - from) (drop from rs) ++ r ∷ []))) (sym here')
    ∙ ap (λ (xs : List NamedClause). greatest (map (λ (r : NamedClause). clause_line line r.lits) xs)) (sym (take_more (drop from rs) (k - from) no_clause small))
    ∙ ap (λ (n : ℕ). greatest (map (λ (r : NamedClause). clause_line line r.lits) (take n (drop from rs)))) longer
