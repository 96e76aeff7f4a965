-- The solver's lines get their places in the ledger, one after another.
use Rattle.std.proofs.Common.{◌≡◌, ℕ, zero, suc, ◌+◌, ◌-◌, ◌<◌, ◌≤◌, inl, inr, Bool, true, false, List, [], ◌∷◌, ◌++◌, length, drop, get_or, Some, slice_get, refl, sym, ap, subst, ◌∙◌, arith}
use Rattle.std.proofs.lemmas.List.{length_push, drop_all}
use Rattle.std.proofs.lemmas.Option.{get_or_from_slice_get, slice_get_within}
use Rattle.zo_core.specs.Literals.{Literal}
use Rattle.zo_core.specs.Resolvents.{IsResolvent}
use Rattle.conflict_proof.specs.declared.derivation.How.{How}
use Rattle.conflict_proof.specs.declared.derivation.Line.{Line}
use Rattle.transfer_rules.specs.Names.{NamedClause, named_clause, lits_of}
use Rattle.transfer_rules.specs.Table.{no_clause}
use Rattle.verdict_meaning.specs.Derivations.{line_at, IsResolventLine}
use Rattle.zo_solver.specs.Clauses.{numbered, cost}
use Rattle.zo_solver.specs.Derived.{AreApart, IsTrueOrigin}
use Rattle.zo_solver.specs.Trail.{IsClauseOver}
use Rattle.zo_solver.specs.Accounts.{Account, IsOver}
use Rattle.zo_solver.specs.declared.answers.Origin.{Origin}
use Rattle.zo_solver.specs.declared.answers.Origin.TheVariants.{Given, Lemma, Resolved}
use Rattle.call_search.specs.Ledgers.{IsNew}
use Rattle.call_search.specs.Indexes.{Ledger}
use Rattle.group_solver.specs.Copies.{IsOwnHow, IsLineOf, IsNext, IsCopying, HasRow, HowIs, IsPut}
use Rattle.group_solver.specs.Marks.{AreAll, IsClosedFrom, PremisesAreBelow, PremisesAreMarked}
use Rattle.group_solver.proofs.Marked.{below_is}
use Rattle.group_solver.proofs.Lists.{same_some, get_next, get_push_cases, get_mapped, contains_at, drop_step}
use Rattle.group_solver.proofs.Reading.{read_at}
use Rattle.group_solver.proofs.Growing.{line_within, line_cases, line_of_kept, copied_push}

abbrev row_lits : NamedClause → List Literal
row_lits r = r.lits

same_row : (r : NamedClause) (c : List Literal) → r.lits ≡ c → r ≡ named_clause r.name c
same_row r c e = ap (named_clause r.name) e

-- a given clause is that of a row
pub row_of : (rows : List NamedClause) (k : ℕ) (c : List Literal) → slice_get (lits_of rows) k ≡ Some c → slice_get rows k ≡ Some (named_clause (get_or rows k no_clause).name c)
row_of rows k c at =
    let m = get_mapped row_lits rows k c at in
    let read : get_or rows k no_clause ≡ m.0 = get_or_from_slice_get rows k m.0 no_clause m.1 in
    m.1 ∙ ap Some (same_row m.0 c m.2 ∙ ap (λ (r : NamedClause). named_clause r.name c) (sym read))

module _ (rows : List NamedClause) (g vars : ℕ) (a : Account) (wanted : List Bool) (old mid : Ledger) (ns : List ℕ) (h : IsCopying rows g vars a wanted old mid ns) where
  -- the line of the ledger that one of the solver's is
  placed_at : (n p : ℕ) (c : List Literal) → numbered ns n ≡ Some p → numbered a.lines n ≡ Some c → numbered wanted n ≡ Some true → IsLineOf mid.lines p g c
  placed_at zero p c at clause mark = cc
  placed_at (suc k) p c at clause mark = h.placed k p c at clause mark

  resolvent_is : (p q n : ℕ) (x y c : List Literal) → IsLineOf mid.lines p g x → IsLineOf mid.lines q g y → IsResolvent x y c → suc (length mid.lines) ≡ n → IsResolventLine mid.lines n g p q c
  resolvent_is p q n x y c one other is e =
      let low = line_within mid.lines p one.line one.there in
      let high = line_within mid.lines q other.line other.there in
      record {
        first = one.line;
        second = other.line;
        first_at = one.there;
        second_at = other.there;
        first_earlier = omega arith;
        second_earlier = omega arith;
        first_group = one.group;
        second_group = other.group;
        resolvent = subst (λ (z : List Literal). IsResolvent z other.line.lits c) (sym one.clause) (subst (λ (z : List Literal). IsResolvent x z c) (sym other.clause) is);
      }

  -- what a line comes from, in the ledger
  pub right_of : (n : ℕ) (c : List Literal) (o : Origin) (how : How) → HowIs rows ns o how → IsTrueOrigin a.given a.lines n c o → PremisesAreMarked wanted o
      → IsOwnHow rows mid.lines (suc (length mid.lines)) g how c
  right_of n c (Given k) how is origin marked =
      let at : slice_get (lits_of rows) k ≡ Some c = ap (λ (cs : List (List Literal)). slice_get cs k) (sym h.given) ∙ origin in
      subst (λ (w : How). IsOwnHow rows mid.lines (suc (length mid.lines)) g w c) (sym is) (contains_at rows k (named_clause (get_or rows k no_clause).name c) (row_of rows k c at))
  right_of n c Lemma how is origin marked = absurd is
  right_of n c (Resolved i j) how is origin marked =
      let one = placed_at i is.first origin.first is.first_at origin.first_at marked.0 in
      let other = placed_at j is.second origin.second is.second_at origin.second_at marked.1 in
      subst (λ (w : How). IsOwnHow rows mid.lines (suc (length mid.lines)) g w c) (sym is.is)
      (resolvent_is is.first is.second (suc (length mid.lines)) origin.first origin.second c one other origin.resolvent refl)

  -- a clause that the solver has later is new
  pub fresh_is : AreApart a.lines → (n : ℕ) (c : List Literal) → n ≡ suc (length ns) → numbered a.lines n ≡ Some c → IsNew mid.lines g c
  fresh_is apart n c e at m x there group clause =
      let k = h.known m x there group in
      let same : suc k.0 ≡ n = apart (suc k.0) n c (k.2 ∙ ap Some clause) at in
      let lt : k.0 < length ns = k.1 in
      omega arith

  module _ (new : Ledger) (number place : ℕ) (is : number ≡ suc (length ns)) (put : IsPut rows g vars a ns number mid new place) where
    here : slice_get a.lines (length ns) ≡ Some put.line.lits
    here = subst (λ (n : ℕ). numbered a.lines n ≡ Some put.line.lits) is put.clause_at

    size : length (ns ++ place ∷ []) ≡ suc (length ns)
    size = let l = length_push ns place in omega arith

    rest : drop (length ns) a.lines ≡ put.line.lits ∷ drop (length (ns ++ place ∷ [])) a.lines
    rest = drop_step a.lines (length ns) put.line.lits here ∙ ap (λ (n : ℕ). put.line.lits ∷ drop n a.lines) (sym (length_push ns place))

    kept : (n : ℕ) (c : List Literal) → IsLineOf mid.lines n g c → IsLineOf new.lines n g c
    kept n c l = subst (λ (ls : List Line). IsLineOf ls n g c) (sym put.is) (line_of_kept mid.lines (put.line ∷ []) n g c l)

    last : IsLineOf new.lines place g put.line.lits
    last =
        let many : length new.lines ≡ suc (length mid.lines) = (let l = length_push mid.lines put.line in let e = ap length put.is in omega arith) in
        let at : line_at new.lines (suc (length mid.lines)) ≡ Some put.line = ap (λ (ls : List Line). line_at ls (suc (length mid.lines))) put.is ∙ get_next mid.lines put.line in
        record { line = put.line; there = subst (λ (n : ℕ). line_at new.lines n ≡ Some put.line) (sym (put.place_is ∙ many)) at; group = put.group; clause = refl }

    origin_here : slice_get a.origins (length ns) ≡ Some put.origin
    origin_here = subst (λ (n : ℕ). numbered a.origins n ≡ Some put.origin) is put.origin_at

    marked_of : (first : ℕ) → IsClosedFrom first a.origins wanted → first ≤ length ns → slice_get wanted (length ns) ≡ Some true → PremisesAreMarked wanted put.origin
    marked_of first closed le mark_here =
        closed (length ns) put.origin le mark_here origin_here (subst (λ (n : ℕ). PremisesAreBelow n put.origin) is (below_is a.given a.lines number put.line.lits put.origin put.origin_true))

    pub put_next : (first : ℕ) → AreApart a.lines → IsClosedFrom first a.origins wanted → first ≤ length ns → slice_get wanted (length ns) ≡ Some true → IsCopying rows g vars a wanted old new (ns ++ place ∷ [])
    put_next first apart closed low_first mark_here = record {
      given = h.given;
      copied = copied_push rows g vars old mid new put.line h.copied put.is
          (record { group = put.group; clause = put.clause; right = right_of number put.line.lits put.origin put.line.how put.how put.origin_true (marked_of first closed low_first mark_here) })
          (λ m x there group clause. fresh_is apart number put.line.lits is put.clause_at m x there (group ∙ put.group) clause)
          put.words;
      known = λ m x at group. elim (line_cases mid.lines put.line m x (subst (λ (ls : List Line). line_at ls m ≡ Some x) put.is at)) [
        | inl was ↦ (let k = h.known m x was group in (k.0, (let lt : k.0 < length ns = k.1 in let s = size in omega arith), k.2))
        | inr e ↦ (length ns, (let s = size in omega arith), here ∙ ap (λ (y : Line). Some y.lits) e.1)
      ];
      placed = λ k n c at clause mark. elim (get_push_cases ns place k n at) [
        | inl was ↦ kept n c (h.placed k n c was clause mark)
        | inr e ↦
            let same : put.line.lits ≡ c = same_some put.line.lits c (sym here ∙ ap (λ (j : ℕ). slice_get a.lines j) (sym e.0) ∙ clause) in
            subst (λ (m : ℕ). IsLineOf new.lines m g c) e.1 (subst (λ (d : List Literal). IsLineOf new.lines place g d) same last)
      ];
      low =
          let all : cost (drop (length ns) a.lines) ≡ length put.line.lits + 1 + cost (drop (length (ns ++ place ∷ [])) a.lines) = ap cost rest in
          let before = h.low in
          let paid = put.words in
          omega arith;
      exact = λ every.
          let all : cost (drop (length ns) a.lines) ≡ length put.line.lits + 1 + cost (drop (length (ns ++ place ∷ [])) a.lines) = ap cost rest in
          let before = h.exact every in
          let paid = put.words in
          omega arith;
    }

  -- a line that isn't wanted is left out
  pub skip_next : (c : List Literal) → slice_get a.lines (length ns) ≡ Some c → slice_get wanted (length ns) ≡ Some false → IsCopying rows g vars a wanted old mid (ns ++ 0 ∷ [])
  skip_next c there unmarked =
      let many = length_push ns 0 in
      let rest : drop (length ns) a.lines ≡ c ∷ drop (length (ns ++ 0 ∷ [])) a.lines = drop_step a.lines (length ns) c there ∙ ap (λ (n : ℕ). c ∷ drop n a.lines) (sym many) in
      record {
        given = h.given;
        copied = h.copied;
        known = λ m x at group. (let k = h.known m x at group in (k.0, (let lt : k.0 < length ns = k.1 in omega arith), k.2));
        placed = λ k n d at clause mark. elim (get_push_cases ns 0 k n at) [
          | inl was ↦ h.placed k n d was clause mark
          | inr e ↦
              let mark_here : slice_get wanted (length ns) ≡ Some true = ap (λ (j : ℕ). slice_get wanted j) (sym e.0) ∙ mark in
              let clash : Some false ≡ Some true = sym unmarked ∙ mark_here in
              cc
        ];
        low =
            let all : cost (drop (length ns) a.lines) ≡ length c + 1 + cost (drop (length (ns ++ 0 ∷ [])) a.lines) = ap cost rest in
            let before = h.low in
            omega arith;
        exact = λ every. let clash : false ≡ true = every (length ns) false unmarked in cc;
      }

  -- the words suffice for the next line
  pub room_for : (c : List Literal) → slice_get a.lines (length ns) ≡ Some c → length c + 1 ≤ mid.words
  room_for c there =
      let all : cost (drop (length ns) a.lines) ≡ length c + 1 + cost (drop (length ns + 1) a.lines) = ap cost (drop_step a.lines (length ns) c there) in
      let before = h.low in
      omega arith

  pub room_at : (n : ℕ) (c : List Literal) → n ≡ suc (length ns) → numbered a.lines n ≡ Some c → length c + 1 ≤ mid.words
  room_at n c e at = room_for c (subst (λ (m : ℕ). numbered a.lines m ≡ Some c) e at)

  -- the place of a wanted line
  pub placed_read : (n p : ℕ) (c : List Literal) → 0 < n → n ≤ length ns → p ≡ get_or ns (n - 1) p → numbered a.lines n ≡ Some c → numbered wanted n ≡ Some true → IsLineOf mid.lines p g c
  placed_read zero p c some le read clause mark = absurd (omega arith)
  placed_read (suc k) p c some le read clause mark =
      let same : suc k - 1 ≡ k = omega arith in
      placed_at (suc k) p c (read_at ns k p (omega arith) (read ∙ ap (λ (i : ℕ). get_or ns i p) same)) clause mark

  -- the next line, where all lines were wanted and have their places
  pub next_is : AreAll wanted → length a.lines ≤ length ns → (over : IsOver a) → (c : List Literal) (o : Origin) (how : How) → over.clause ≡ c → over.origin ≡ o → HowIs rows ns o how → PremisesAreMarked wanted o → IsClauseOver vars c
      → IsNext rows g vars mid (record { group = g; how = how; lits = c })
  next_is every all over c o how same_c same_o is marked clause = record {
    own = record {
      group = refl;
      clause = clause;
      right = right_of (length a.lines + 1) c o how is (subst (λ (p : Origin). IsTrueOrigin a.given a.lines (length a.lines + 1) c p) same_o (subst (λ (d : List Literal). IsTrueOrigin a.given a.lines (length a.lines + 1) d over.origin) same_c over.origin_true)) marked;
    };
    new = λ n x at group lits. (let k = h.known n x at group in over.is_new (suc k.0) (k.2 ∙ ap Some (lits ∙ sym same_c)));
    over =
        let rest : cost (drop (length ns) a.lines) ≡ 0 = ap cost (drop_all (length ns) a.lines all) in
        let words = h.exact every in
        let few = over.cost in
        let same = ap (λ (d : List Literal). length d) same_c in
        omega arith;
  }

-- a line's origin names a clause of the table
pub row_there : (rows : List NamedClause) (a : Account) (n : ℕ) (c : List Literal) (o : Origin) → a.given ≡ lits_of rows → IsTrueOrigin a.given a.lines n c o → HasRow rows o
row_there rows a n c (Given k) given h =
    let at : slice_get (lits_of rows) k ≡ Some c = ap (λ (cs : List (List Literal)). slice_get cs k) (sym given) ∙ h in
    slice_get_within rows k (named_clause (get_or rows k no_clause).name c) (row_of rows k c at)
row_there rows a n c Lemma given h = tt
row_there rows a n c (Resolved i j) given h = tt

-- what is read of the next line belongs together
pub next_parts : (a : Account) (over : IsOver a) (c : List Literal) (o : Origin) → a.next ≡ Some (c, o) → (over.clause ≡ c) × (over.origin ≡ o)
next_parts a over c o e =
    let same = same_some (over.clause, over.origin) (c, o) (sym over.next ∙ e) in
    (ap (λ (p : List Literal × Origin). p.0) same, ap (λ (p : List Literal × Origin). p.1) same)
