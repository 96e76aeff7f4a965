-- What a solve of a group answers.
use Rattle.std.proofs.Common.{◌≡◌, ℕ, zero, suc, ◌+◌, ◌<◌, ◌≤◌, inl, inr, Bool, true, not, cond, ◌||◌, ◌&&◌, List, [], ◌∷◌, ◌++◌, length, drop, get_or, Some, slice_get, refl, sym, ap, subst, ◌∙◌, arith}
use Rattle.std.specs.List.{Contains, All}
use Rattle.std.specs.Prelude.{IsTrue}
use Rattle.std.proofs.lemmas.Bool.{cases_lt}
use Rattle.std.proofs.lemmas.List.{drop_at}
use Rattle.std.proofs.lemmas.Option.{slice_get_within}
use Rattle.zo_core.specs.Literals.{Literal, opposite}
use Rattle.zo_core.specs.Order.{Ascends}
use Rattle.zo_core.specs.Truth.{holds, clause_true, all_true}
use Rattle.conflict_proof.specs.declared.names.ConstraintName.{ConstraintName}
use Rattle.conflict_proof.specs.declared.derivation.How.{How}
use Rattle.conflict_proof.specs.declared.derivation.How.TheVariants.{Axiom, Resolve, Inst}
use Rattle.conflict_proof.specs.declared.derivation.Line.{Line}
use Rattle.transfer_rules.specs.Names.{NamedClause, named_clause, lits_of}
use Rattle.verdict_meaning.specs.Systems.{System, count, names_of}
use Rattle.verdict_meaning.specs.Solutions.{counts}
use Rattle.verdict_meaning.specs.Certificates.{bit_at}
use Rattle.verdict_meaning.specs.Derivations.{line_at, IsRight, IsRightLine, IsValidIn, NoClauseTwice, IsCarriedBy}
use Rattle.zo_solver.specs.Clauses.{numbered, cost, EachLiteral, AreWithin}
use Rattle.zo_solver.specs.Values.{assignment}
use Rattle.zo_solver.specs.Derived.{AreMet}
use Rattle.zo_solver.specs.Accounts.{Account, Advances, IsSatisfied}
use Rattle.zo_solver.specs.declared.answers.Origin.{Origin}
use Rattle.zo_solver.specs.declared.answers.Origin.TheVariants.{Lemma}
use Rattle.call_search.specs.Ledgers.{IsLedger, IsOver, IsDenied, IsSolved, IsGiven, AreOwn, Solves}
use Rattle.call_search.specs.Indexes.{Ledger}
use Rattle.group_solver.specs.Rows.{IsSolvedFor}
use Rattle.group_solver.specs.Lemmas.{AreOver, IsBegun}
use Rattle.group_solver.specs.Values.{AreValues}
use Rattle.group_solver.specs.Copies.{IsOwnHow, IsOwnLine, IsLineOf, IsCopied, IsNext, IsReady}
use Rattle.group_solver.proofs.Lists.{same_some, get_old, get_kept, get_behind, get_below, at_contains, clause_over, get_map, each_all, all_each}
use Rattle.group_solver.proofs.Growing.{line_kept, line_within, copied_none}

-- Before a solve

over_step : (g n vars : ℕ) (c : List Literal) → All (λ (l : Literal). l.var ≤ n) c → vars ≡ n → AreWithin vars c
over_step g n vars c all e = all_each (λ (l : Literal). l.var ≤ vars) c (λ k d lt. let h = all k d lt in omega arith)

-- the lines of a group are of its unknowns
pub lines_over : (s : System) (U : ConstraintName → Bool) (g vars : ℕ) (l : Ledger) → IsLedger s U l → vars ≡ count s g → AreOver vars g l.lines
lines_over s U g vars l ledger e n x at gr =
    let right = ledger.valid (suc n) x at in
    over_step g (count s x.group) vars x.lits right.clause.1 (e ∙ ap (count s) (sym gr))

-- what is given is of the group's unknowns
pub given_over : (s : System) (g vars : ℕ) (given : List Literal) → IsGiven s g given → vars ≡ count s g → AreWithin vars given
given_over s g vars given h e = over_step g (count s g) vars given h.within e

-- After a solve

-- what was learnt is ready to be copied
pub ready : (rows : List NamedClause) (g bound vars : ℕ) (l : Ledger) (ns : List ℕ) (a b : Account) → IsBegun rows g bound l ns a → Advances a b → NoClauseTwice l.lines → IsReady rows g vars b l ns
ready rows g bound vars l ns a b begun step once wanted = record {
  given = step.given ∙ begun.given;
  copied = copied_none rows g vars l once;
  known = λ n x at gr. (let k = begun.are.all n x (line_within l.lines n x at) at gr in (k.0, (let lt = slice_get_within a.lines k.0 x.lits k.1 in let s = begun.are.size in omega arith), kept k.0 x.lits k.1));
  placed = λ k n c at clause mark.
      let e = begun.are.each k n at in
      record { line = e.line; there = e.there; group = e.group; clause = same_some e.line.lits c (sym (kept k e.line.lits e.clause) ∙ clause) };
  low = let w = words in omega arith;
  exact = λ every. let w = words in omega arith;
}
  where
    kept : (k : ℕ) (c : List Literal) → slice_get a.lines k ≡ Some c → slice_get b.lines k ≡ Some c
    kept k c e = ap (λ (cs : List (List Literal)). slice_get cs k) step.lines ∙ get_kept a.lines step.more k c e

    words : l.words ≡ b.words + cost (drop (length ns) b.lines)
    words =
        let rest : drop (length ns) b.lines ≡ step.more = ap (λ (cs : List (List Literal)). drop (length ns) cs) step.lines ∙ drop_at a.lines step.more (length ns) (sym begun.are.size) in
        let all = ap cost rest in
        let paid = step.words in
        let was = begun.words in
        omega arith

-- a line that denies what was given
pub denied_is : (lines : List Line) (g n : ℕ) (given c : List Literal) → IsLineOf lines n g c → EachLiteral (λ l. Contains given (opposite l)) c → IsDenied lines g given n
denied_is lines g n given c at each = record {
  line = at.line;
  there = at.there;
  group = at.group;
  denied = subst (λ (d : List Literal). All (λ (l : Literal). Contains given (opposite l)) d) (sym at.clause) (each_all (λ (l : Literal). Contains given (opposite l)) c each);
}

module _ (s : System) (U : ConstraintName → Bool) (g vars : ℕ) (rows : List NamedClause) (l : Ledger) (is : IsSolvedFor s U g vars rows l) where
  right_how : (lines : List Line) (n : ℕ) (how : How) (c : List Literal) → IsOwnHow rows lines n g how c → IsRight s U lines n g how c
  right_how lines n (Axiom name) c h = let k = at_contains rows (named_clause name c) h in is.table.each k.0 (named_clause name c) k.1
  right_how lines n (Resolve i j) c h = h
  right_how lines n (Inst i site) c h = absurd h

  right_own : (lines : List Line) (n : ℕ) (x : Line) → IsOwnLine rows lines n g vars x → IsRightLine s U lines n x
  right_own lines n x h =
      let same = h.group in
      let bound = is.unknowns in
      let many : count s x.group ≡ count s g = ap (count s) same in
      record {
        group = (let le = is.group in omega arith);
        clause = (h.clause.0, (λ k d lt. let le = each_all (λ (m : Literal). m.var ≤ vars) x.lits h.clause.1 k d lt in omega arith));
        right = subst (λ (e : ℕ). IsRight s U lines n e x.how x.lits) (sym same) (right_how lines n x.how x.lits h.right);
      }

  right_kept : (lines more : List Line) (n e : ℕ) (how : How) (c : List Literal) → IsRight s U lines n e how c → IsRight s U (lines ++ more) n e how c
  right_kept lines more n e (Axiom name) c h = h
  right_kept lines more n e (Resolve i j) c h = record {
    first = h.first;
    second = h.second;
    first_at = line_kept lines more i h.first h.first_at;
    second_at = line_kept lines more j h.second h.second_at;
    first_earlier = h.first_earlier;
    second_earlier = h.second_earlier;
    first_group = h.first_group;
    second_group = h.second_group;
    resolvent = h.resolvent;
  }
  right_kept lines more n e (Inst i site) c h = record {
    site_there = h.site_there;
    line = h.line;
    there = line_kept lines more i h.line h.there;
    earlier = h.earlier;
    group = h.group;
    lits = h.lits;
    is_carried = h.is_carried;
    in_order = h.in_order;
  }

  -- a line up to a number of them is one of the first
  line_before : (lines more : List Line) (n : ℕ) (x : Line) → n ≤ length lines → line_at (lines ++ more) n ≡ Some x → line_at lines n ≡ Some x
  line_before lines more zero x le at = cc
  line_before lines more (suc k) x le at = sym (get_old lines more k (omega arith)) ∙ at

  not_carried : (lines : List Line) (n : ℕ) (how : How) (c : List Literal) → IsOwnHow rows lines n g how c → IsCarriedBy how → ⊥
  not_carried lines n (Axiom name) c h k = k
  not_carried lines n (Resolve i j) c h k = k
  not_carried lines n (Inst i site) c h k = h

  module _ (new : Ledger) (h : IsCopied rows g vars l new) where
    valid : IsValidIn s U new.lines
    valid n x at = elim (cases_lt (length l.lines) n) [
      | inl lt ↦ right_own new.lines n x (h.right n x lt at)
      | inr le ↦
          let was : line_at l.lines n ≡ Some x = line_before l.lines h.more n x le (subst (λ (ls : List Line). line_at ls n ≡ Some x) h.is at) in
          let old = is.ledger.valid n x was in
          subst (λ (ls : List Line). IsRightLine s U ls n x) (sym h.is)
          (record { group = old.group; clause = old.clause; right = right_kept l.lines h.more n x.group x.how x.lits old.right })
    ]

    own : AreOwn g h.more
    own k x at =
        let there : line_at new.lines (suc (length l.lines + k)) ≡ Some x = ap (λ (ls : List Line). slice_get ls (length l.lines + k)) h.is ∙ get_behind l.lines h.more k ∙ at in
        let line = h.right (suc (length l.lines + k)) x (omega arith) there in
        (line.group, not_carried new.lines (suc (length l.lines + k)) x.how x.lits line.right)

    pub solves : Solves s U g l new
    solves = record {
      extends = record {
        more = h.more;
        is = h.is;
        paid = h.paid;
        ledger = record { valid = valid; once = h.once; small = let p = h.paid in let q = is.ledger.small in omega arith };
      };
      own = own;
    }

    pub over : (x : Line) → IsNext rows g vars new x → IsOver s U new x
    over x n = record { right = right_own new.lines (suc (length new.lines)) x n.own; new = n.new; over = n.over }

  -- Values

  module _ (bits : List Bool) (t : ℕ → Bool) (values : AreValues t vars bits) where
    holds_same : (m : Literal) → 0 < m.var → m.var ≤ vars → holds (bit_at bits) m ≡ holds t m
    holds_same m some le = ap (λ (b : Bool). cond m.sign b (not b)) (values.each m.var some le)

    clause_same : (n : ℕ) (c : List Literal) → Ascends n c → AreWithin vars c → clause_true (bit_at bits) c ≡ clause_true t c
    clause_same n [] up within = refl
    clause_same n (m ∷ c) up within =
        let lt : n < m.var = up.0 in
        let first : holds (bit_at bits) m ≡ holds t m = holds_same m (omega arith) within.0 in
        ap (λ (b : Bool). b || clause_true (bit_at bits) c) first ∙ ap (λ (b : Bool). holds t m || b) (clause_same m.var c up.1 within.1)

    each_true : (cs : List (List Literal)) → ((c : List Literal) → Contains cs c → clause_true (bit_at bits) c ≡ true) → all_true (bit_at bits) cs ≡ true
    each_true [] h = refl
    each_true (c ∷ cs) h =
        let first : clause_true (bit_at bits) c ≡ true = h c (0, omega arith, refl) in
        ap (λ (b : Bool). b && all_true (bit_at bits) cs) first
        ∙ each_true cs (λ d has. h d (suc has.0, (let lt = has.1 in omega arith), has.2))

    module _ (ns : List ℕ) (a b : Account) (begun : IsBegun rows g vars l ns a) (step : Advances a b) (t_is : t ≡ assignment b.values) (given : List Literal) (found : IsSatisfied given b)
        (within : AreWithin vars given) (some : All (λ (m : Literal). 0 < m.var) given) where
      met : AreMet b.given b.lines b.origins t
      met = subst (λ (f : ℕ → Bool). AreMet b.given b.lines b.origins f) (sym t_is) found.met

      -- the clauses of the group
      row_true : (name : ConstraintName) (c : List Literal) → Contains (names_of s g) name → counts U name ≡ true → Contains (s.clauses g name) c → clause_true (bit_at bits) c ≡ true
      row_true name c there counting clause =
          let k = at_contains rows (named_clause name c) (is.table.whole name c (record { there = there; counting = counting; clause = clause })) in
          let at : slice_get (lits_of rows) k.0 ≡ Some c = get_map (λ (r : NamedClause). r.lits) rows k.0 (named_clause name c) k.1 in
          let over = clause_over vars (lits_of rows) k.0 c begun.over at in
          let given_at : slice_get b.given k.0 ≡ Some c = ap (λ (cs : List (List Literal)). slice_get cs k.0) (step.given ∙ begun.given) ∙ at in
          clause_same 0 c over.0 over.1 ∙ met.0 k.0 c given_at

      -- the lines of the group
      line_true : (n : ℕ) (x : Line) → line_at l.lines n ≡ Some x → x.group ≡ g → clause_true (bit_at bits) x.lits ≡ true
      line_true n x at gr =
          let k = begun.are.all n x (line_within l.lines n x at) at gr in
          let lt = slice_get_within a.lines k.0 x.lits k.1 in
          let o = get_below a.origins k.0 (let size = begun.are.sources in omega arith) in
          let clause : numbered b.lines (suc k.0) ≡ Some x.lits = ap (λ (cs : List (List Literal)). slice_get cs k.0) step.lines ∙ get_kept a.lines step.more k.0 x.lits k.1 in
          let source : numbered b.origins (suc k.0) ≡ Some Lemma =
          ap (λ (os : List Origin). slice_get os k.0) step.origins ∙ get_kept a.origins step.more_origins k.0 o.0 o.1 ∙ ap Some (begun.are.lemmas k.0 o.0 o.1) in
          let right = is.ledger.valid n x at in
          let bound : AreWithin vars x.lits = over_step g (count s x.group) vars x.lits right.clause.1 (is.unknowns ∙ ap (count s) (sym gr)) in
          clause_same 0 x.lits right.clause.0 bound ∙ met.1 (suc k.0) x.lits clause source

      pub solved : IsSolved s U l.lines g given bits
      solved = record {
        size = values.size ∙ is.unknowns;
        local = λ name there counting. each_true (s.clauses g name) (λ c has. row_true name c there counting has);
        holding = λ k d lt.
            let m = get_or given k d in
            let low : 0 < m.var = some k d lt in
            let high : m.var ≤ vars = each_all (λ (x : Literal). x.var ≤ vars) given within k d lt in
            let true_ : holds (assignment b.values) m ≡ true = each_all (λ (x : Literal). IsTrue (holds (assignment b.values) x)) given found.assumptions k d lt in
            holds_same m low high ∙ ap (λ (f : ℕ → Bool). holds f m) t_is ∙ true_;
        carried = λ n x at gr how. line_true n x at gr;
      }
