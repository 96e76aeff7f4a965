-- What the lines of a search show.
use Rattle.std.proofs.Common.{◌≡◌, ℕ, zero, suc, ◌+◌, ◌-◌, ◌<◌, ◌≤◌, ◌^◌, ◌⊎◌, inl, inr, Bool, List, [], ◌∷◌, ◌++◌, Some, sym, ap, ◌∙◌, subst, arith, length, take, drop, slice_get, append_assoc}
use Rattle.std.proofs.lemmas.List.{take-append-drop}
use Rattle.std.proofs.lemmas.Bool.{cases_lt}
use Rattle.conflict_proof.specs.declared.names.ConstraintName.{ConstraintName}
use Rattle.conflict_proof.specs.declared.derivation.How.{How}
use Rattle.conflict_proof.specs.declared.derivation.How.TheVariants.{Axiom, Resolve, Inst}
use Rattle.conflict_proof.specs.declared.derivation.Line.{Line}
use Rattle.zo_core.specs.Literals.{Literal}
use Rattle.verdict_meaning.specs.Systems.{System}
use Rattle.own_cert.specs.declared.certificate.Certificate.{Certificate}
use Rattle.verdict_meaning.specs.Certificates.{IsGoodIn, HasNoNeedless}
use Rattle.verdict_meaning.specs.Derivations.{line_at, cost_of, IsRight, IsRightLine, IsValidIn, NoClauseTwice}
use Rattle.call_search.specs.Indexes.{Ledger}
use Rattle.call_search.specs.declared.entries.Entry.{Entry}
use Rattle.call_search.specs.declared.search.Found.{Found}
use Rattle.call_search.specs.declared.search.Found.TheVariants as found
use Rattle.call_search.specs.Ledgers.{Extends, IsLedger, IsOver}
use Rattle.call_search.specs.Answers.{FoundIs, IsRefuting, HasSolution}
use Rattle.call_search.specs.Shapes.{IsShaped}
use Rattle.call_search.specs.Made.{IsMade}
use Rattle.call_search.specs.Verdicts.{AreKnown, BeginsWith, AreLearnt, IsAcceptance, IsRefutation, IsUndecided}
use Rattle.call_search.proofs.Lists.{get_within}
use Rattle.call_search.proofs.Made.{made_is_good, made_has_no_needless}
use Rattle.call_search.proofs.Grow.{line-append, valid-push, once-push, cost-append}

-- what a line of the front says it says of the front

front_get : (xs ys : List Line) (x : Line) (n : ℕ) → n < length xs → slice_get (xs ++ ys) n ≡ Some x → slice_get xs n ≡ Some x
front_get [] ys x n lt e = absurd (omega arith)
front_get (z ∷ xs) ys x zero lt e = e
front_get (z ∷ xs) ys x (suc n) lt e = front_get xs ys x n (omega arith) e

front_line : (xs ys : List Line) (x : Line) (n : ℕ) → n ≤ length xs → line_at (xs ++ ys) n ≡ Some x → line_at xs n ≡ Some x
front_line xs ys x zero le e = cc
front_line xs ys x (suc n) le e = front_get xs ys x n (omega arith) e

front_right : (s : System) (U : ConstraintName → Bool) (xs ys : List Line) (n g : ℕ) (how : How) (c : List Literal) → n ≤ length xs → IsRight s U (xs ++ ys) n g how c → IsRight s U xs n g how c
front_right s U xs ys n g (Axiom name) c le r = r
front_right s U xs ys n g (Resolve i j) c le r = record {
  first = r.first;
  second = r.second;
  first_at = front_line xs ys r.first i (let h = r.first_earlier in omega arith) r.first_at;
  second_at = front_line xs ys r.second j (let h = r.second_earlier in omega arith) r.second_at;
  first_earlier = r.first_earlier;
  second_earlier = r.second_earlier;
  first_group = r.first_group;
  second_group = r.second_group;
  resolvent = r.resolvent;
}
front_right s U xs ys n g (Inst i site) c le r = record {
  site_there = r.site_there;
  line = r.line;
  there = front_line xs ys r.line i (let h = r.earlier in omega arith) r.there;
  earlier = r.earlier;
  group = r.group;
  lits = r.lits;
  is_carried = r.is_carried;
  in_order = r.in_order;
}

line_within : (xs : List Line) (x : Line) (n : ℕ) → line_at xs n ≡ Some x → n ≤ length xs
line_within xs x zero e = cc
line_within xs x (suc n) e = let h = get_within xs x n e in omega arith

pub front_valid : (s : System) (U : ConstraintName → Bool) (xs ys : List Line) → IsValidIn s U (xs ++ ys) → IsValidIn s U xs
front_valid s U xs ys valid n line at =
    let r : IsRightLine s U (xs ++ ys) n line = valid n line (line-append xs ys line n at) in
    record { group = r.group; clause = r.clause; right = front_right s U xs ys n line.group line.how line.lits (line_within xs line n at) r.right }

-- the first n lines, of which the last is line n
take_line : (xs : List Line) (m : ℕ) (x : Line) → slice_get xs m ≡ Some x → take (suc m) xs ≡ take m xs ++ x ∷ []
take_line [] m x e = cc
take_line (z ∷ xs) zero x e = ap (λ (y : Line). y ∷ []) (one z x e)
  where
    one : (a b : Line) → Some a ≡ Some b → a ≡ b
    one a b e = cc
take_line (z ∷ xs) (suc m) x e = ap (λ (l : List Line). z ∷ l) (take_line xs m x e)

take_front : (xs ys : List Line) (n : ℕ) → length xs ≤ n → take n (xs ++ ys) ≡ xs ++ take (n - length xs) ys
take_front [] ys n le = ap (λ k. take k ys) (omega arith)
take_front (x ∷ xs) ys zero le = absurd (omega arith)
take_front (x ∷ xs) ys (suc n) le =
    let e : suc n - suc (length xs) ≡ n - length xs = omega arith in
    ap (λ (l : List Line). x ∷ l) (take_front xs ys n (omega arith) ∙ ap (λ k. xs ++ take k ys) (sym e))

cost_front : (xs ys : List Line) → cost_of xs ≤ cost_of (xs ++ ys)
cost_front xs ys = let h = cost-append xs ys in omega arith

module _ (s : System) (U : ConstraintName → Bool) (known : List Line) (budget : ℕ) (ledger : Ledger) (are : AreKnown s U known) (first : Ledger) (lines_is : first.lines ≡ known) (words_is : first.words ≡ budget) (ext : Extends s U first ledger) where
  abbrev begins : BeginsWith known ledger.lines
  begins = record { more = ext.more; is = ext.is ∙ ap (λ ls. ls ++ ext.more) lines_is }

  total : cost_of ledger.lines + ledger.words ≡ cost_of known + budget
  total = ext.paid ∙ ap (λ ls. cost_of ls + first.words) lines_is ∙ ap (λ w. cost_of known + w) words_is

  pub refutation : (n : ℕ) (d : List Line) → IsRefuting s ledger.lines n → d ≡ take n ledger.lines → IsRefutation s U known budget d
  refutation n d r e = at n r.there e
    where
      at : (n : ℕ) → line_at ledger.lines n ≡ Some r.line → d ≡ take n ledger.lines → IsRefutation s U known budget d
      at zero there e = cc
      at (suc m) there e =
          let behind : length known ≤ m = not_known m there in
          let whole : take (suc m) ledger.lines ++ drop (suc m) ledger.lines ≡ ledger.lines = take-append-drop (suc m) ledger.lines in
          record {
            begins = record { more = take (suc m - length known) ext.more; is = e ∙ ap (take (suc m)) begins.is ∙ take_front known ext.more (suc m) (omega arith) };
            valid = subst (λ (ls : List Line). IsValidIn s U ls) (sym e) (front_valid s U (take (suc m) ledger.lines) (drop (suc m) ledger.lines) (subst (λ (ls : List Line). IsValidIn s U ls) (sym whole) ext.ledger.valid));
            refutes = record { before = take m ledger.lines; last = r.line; is = e ∙ take_line ledger.lines m r.line there; group = r.group; empty = r.empty };
            cost = let c = cost_front (take (suc m) ledger.lines) (drop (suc m) ledger.lines) in let w : cost_of (take (suc m) ledger.lines ++ drop (suc m) ledger.lines) ≡ cost_of ledger.lines = ap cost_of whole in let q : cost_of d ≡ cost_of (take (suc m) ledger.lines) = ap cost_of e in let t = total in omega arith;
          }
        where
          not_known : (m : ℕ) → slice_get ledger.lines m ≡ Some r.line → length known ≤ m
          not_known m there = split (cases_lt m (length known))
            where
              split : (m < length known) ⊎ (length known ≤ m) → length known ≤ m
              split (inl lt) = absurd (are.groups m r.line (front_get known ext.more r.line m lt (ap (λ (ls : List Line). slice_get ls m) (sym begins.is) ∙ there)) r.group)
              split (inr le) = le

  pub undecided : (line : Line) (d : List Line) → IsOver s U ledger line → d ≡ ledger.lines ++ line ∷ [] → IsUndecided s U known budget d
  undecided line d o e = record {
    begins = record { more = ext.more ++ line ∷ []; is = e ∙ ap (λ ls. ls ++ line ∷ []) begins.is ∙ append_assoc known ext.more (line ∷ []) };
    spent = record {
      valid = subst (λ (ls : List Line). IsValidIn s U ls) (sym e) (valid-push s U ledger.lines line ext.ledger.valid o.right);
      once = subst (λ (ls : List Line). NoClauseTwice ls) (sym e) (once-push ledger.lines line ext.ledger.once o.new);
      over = let c = cost-append ledger.lines (line ∷ []) in let q : cost_of d ≡ cost_of (ledger.lines ++ line ∷ []) = ap cost_of e in let t = total in let w = o.over in omega arith;
      before = ledger.lines;
      last = line;
      is = e;
      within = let t = total in omega arith;
    };
  }

-- the ledger with which the search begins
pub begun : (s : System) (U : ConstraintName → Bool) (known : List Line) (budget : ℕ) (l : Ledger) → AreKnown s U known → cost_of known + budget < 2 ^ 32 → l.lines ≡ known → l.words ≡ budget → IsLedger s U l
begun s U known budget l are small lines words = record {
  valid = subst (λ (ls : List Line). IsValidIn s U ls) (sym lines) are.valid;
  once = subst (λ (ls : List Line). NoClauseTwice ls) (sym lines) are.once;
  small = let e = ap cost_of lines in omega arith;
}

pub judged_refuted : (s : System) (U : ConstraintName → Bool) (known : List Line) (budget : ℕ) (old new : Ledger) (t : List (List Entry)) (o : Found) (n : ℕ) (d ls : List Line) → AreKnown s U known → old.lines ≡ known → old.words ≡ budget → o ≡ found.Refuted n → FoundIs s U old new t o
    → ls ≡ new.lines → d ≡ take n ls → IsRefutation s U known budget d
judged_refuted s U known budget old new t o n d ls are le we oe is l e =
    let here : Extends s U old new × IsRefuting s new.lines n = subst (FoundIs s U old new t) oe is in
    refutation s U known budget new are old le we here.0 n d here.1 (e ∙ ap (take n) l)

pub judged_undecided : (s : System) (U : ConstraintName → Bool) (known : List Line) (budget : ℕ) (old new : Ledger) (t : List (List Entry)) (o : Found) (line : Line) (d ls : List Line) → AreKnown s U known → old.lines ≡ known → old.words ≡ budget → o ≡ found.Spent line → FoundIs s U old new t o
    → ls ≡ new.lines → d ≡ ls ++ line ∷ [] → IsUndecided s U known budget d
judged_undecided s U known budget old new t o line d ls are le we oe is l e =
    let here : Extends s U old new × IsOver s U new line = subst (FoundIs s U old new t) oe is in
    undecided s U known budget new are old le we here.0 line d here.1 (e ∙ ap (λ xs. xs ++ line ∷ []) l)

pub judged_accepted : (s : System) (U : ConstraintName → Bool) (known : List Line) (old new : Ledger) (t : List (List Entry)) (o : Found) (top : List Bool) (c : Certificate) (ls : List Line) → AreKnown s U known → old.lines ≡ known → o ≡ found.Solution top → FoundIs s U old new t o
    → ls ≡ new.lines → IsGoodIn s U c → HasNoNeedless s c → IsAcceptance s U known c ls
judged_accepted s U known old new t o top c ls are le oe is l good needed =
    let here : Extends s U old new × HasSolution s U new.lines top t = subst (FoundIs s U old new t) oe is in
    record {
      good = good;
      needed = needed;
      learnt = subst (λ (xs : List Line). AreLearnt s U known xs) (sym l) (record { begins = record { more = here.0.more; is = here.0.is ∙ ap (λ xs. xs ++ here.0.more) le }; valid = here.0.ledger.valid; once = here.0.ledger.once });
    }

pub found_has : (s : System) (U : ConstraintName → Bool) (old new : Ledger) (t : List (List Entry)) (o : Found) (top xs : List Bool) → o ≡ found.Solution top → FoundIs s U old new t o → xs ≡ top → HasSolution s U new.lines xs t
found_has s U old new t o top xs oe is xe =
    let here : Extends s U old new × HasSolution s U new.lines top t = subst (FoundIs s U old new t) oe is in
    subst (λ (ys : List Bool). HasSolution s U new.lines ys t) (sym xe) here.1

pub made_good : (s : System) (U : ConstraintName → Bool) (old new : Ledger) (t : List (List Entry)) (o : Found) (top xs : List Bool) (c : Certificate) → IsShaped s → o ≡ found.Solution top → FoundIs s U old new t o → xs ≡ top → IsMade s xs t c → IsGoodIn s U c
made_good s U old new t o top xs c shaped oe is xe made = made_is_good s U new.lines xs t shaped (found_has s U old new t o top xs oe is xe) c made

pub made_needed : (s : System) (U : ConstraintName → Bool) (old new : Ledger) (t : List (List Entry)) (o : Found) (top xs : List Bool) (c : Certificate) → IsShaped s → o ≡ found.Solution top → FoundIs s U old new t o → xs ≡ top → IsMade s xs t c → HasNoNeedless s c
made_needed s U old new t o top xs c shaped oe is xe made = made_has_no_needless s U new.lines xs t shaped (found_has s U old new t o top xs oe is xe) c made
