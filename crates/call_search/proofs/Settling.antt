-- What is kept where a line more refutes some instances.
use Rattle.std.proofs.Common.{◌≡◌, ℕ, zero, suc, ◌⊎◌, ⊎_elim, Bool, true, List, [], ◌∷◌, ◌++◌, Some, refl, sym, ap, ◌∙◌, subst, arith, slice_get, append_assoc}
use Rattle.zo_core.specs.Truth.{clause_true}
use Rattle.conflict_proof.specs.declared.names.ConstraintName.{ConstraintName}
use Rattle.conflict_proof.specs.declared.derivation.Line.{Line}
use Rattle.verdict_meaning.specs.Systems.{System, root}
use Rattle.verdict_meaning.specs.Solutions.{phi_by}
use Rattle.verdict_meaning.specs.Certificates.{bit_at}
use Rattle.verdict_meaning.specs.Derivations.{InstLinesAreTrue}
use Rattle.call_search.specs.Indexes.{Ledger}
use Rattle.call_search.specs.declared.entries.Entry.{Entry}
use Rattle.call_search.specs.declared.fill.Asked.{Asked}
use Rattle.call_search.specs.declared.fill.Asked.TheVariants as asked
use Rattle.call_search.specs.Ledgers.{IsLedger, Extends}
use Rattle.call_search.specs.Entries.{in_group, IsKept, IsFrom, AreKept, AreLeft, AreKeptBy, AreEmpty, IsTable}
use Rattle.call_search.specs.Answers.{IsAsker, IsPaid, IsFilled, FilledIs, IsSettled, IsTurned, SettledIs, HasSolution}
use Rattle.call_search.proofs.Lists.{append_cases, append_none}
use Rattle.call_search.proofs.Grow.{extends-trans}
use Rattle.call_search.proofs.Asking.{fewer-words, empty_table}

-- the lines that were carried to a group are true, where the last line is of another one or is true
pub still_true : (s : System) (U : ConstraintName → Bool) (old new : Ledger) (paid : IsPaid s U old new) (g : ℕ) (a : ℕ → Bool) → InstLinesAreTrue old.lines g a → (paid.last.group ≡ g → clause_true a paid.last.lits ≡ true) → InstLinesAreTrue new.lines g a
still_true s U old new paid g a h last zero x at group by = cc
still_true s U old new paid g a h last (suc n) x at group by =
    ⊎_elim
    (λ (i : slice_get old.lines n ≡ Some x). h (suc n) x i group by)
    (λ (i : (m : ℕ) × (slice_get (paid.own ++ paid.last ∷ []) m ≡ Some x)).
    ⊎_elim
    (λ (j : slice_get paid.own i.0 ≡ Some x). absurd (paid.none i.0 x j by))
    (λ (j : (k : ℕ) × (slice_get (paid.last ∷ []) k ≡ Some x)). only j.0 j.1)
    (append_cases paid.own (paid.last ∷ []) x i.0 i.1))
    (append_cases old.lines (paid.own ++ paid.last ∷ []) x n (ap (λ (ls : List Line). slice_get ls n) (sym paid.is) ∙ at))
  where
    one : (b c : Line) → Some b ≡ Some c → b ≡ c
    one b c e = cc

    only : (k : ℕ) → slice_get (paid.last ∷ []) k ≡ Some x → clause_true a x.lits ≡ true
    only zero e = let same : paid.last ≡ x = one paid.last x e in subst (λ (y : Line). clause_true a y.lits ≡ true) same (last (ap (λ (y : Line). y.group) same ∙ group))
    only (suc k) e = cc

pub asker_after : (s : System) (U : ConstraintName → Bool) (old new : Ledger) (phi top : List Bool) (paid : IsPaid s U old new) → (paid.last.group ≡ root s → ⊥) → IsAsker s U old.lines phi (root s) top → IsAsker s U new.lines phi (root s) top
asker_after s U old new phi top paid other a = record { size = a.size; local = a.local; phi_is = a.phi_is; carried = still_true s U old new paid (root s) (bit_at top) a.carried (λ e. absurd (other e)) }

pub by_line : (s : System) (U : ConstraintName → Bool) (old new : Ledger) (phi : List Bool) (t k k2 : List (List Entry)) (line : Line) (paid : IsPaid s U old new) → AreKept s U old.lines phi t → AreKept s U old.lines phi k → line ≡ paid.last → AreKeptBy line k t k2 → AreKept s U new.lines phi k2
by_line s U old new phi t k k2 line paid other kept le by = record {
  size = by.size ∙ kept.size;
  kept = λ g n e at. (whole g n e at).0;
  group = λ g n e at. (whole g n e at).1;
}
  where
    before : (g : ℕ) (e : Entry) → IsFrom k g e ⊎ IsFrom t g e → IsKept s U old.lines phi e × (e.group ≡ g)
    before g e h = ⊎_elim
        (λ (i : IsFrom k g e). (kept.kept g i.0 e i.1, kept.group g i.0 e i.1))
        (λ (i : IsFrom t g e). (other.kept g i.0 e i.1, other.group g i.0 e i.1)) h

    whole : (g n : ℕ) (e : Entry) → slice_get (in_group k2 g) n ≡ Some e → IsKept s U new.lines phi e × (e.group ≡ g)
    whole g n e at =
        let r : (IsFrom k g e ⊎ IsFrom t g e) × (line.group ≡ g → clause_true (bit_at e.bits) line.lits ≡ true) = by.each g n e at in
        let b : IsKept s U old.lines phi e × (e.group ≡ g) = before g e r.0 in
        let same : paid.last.group ≡ e.group → clause_true (bit_at e.bits) paid.last.lits ≡ true =
        λ h. ap (λ (x : Line). clause_true (bit_at e.bits) x.lits) (sym le) ∙ r.1 (ap (λ (x : Line). x.group) le ∙ h ∙ b.1) in
        (record { there = b.0.there; size = b.0.size; local = b.0.local; phi_is = b.0.phi_is; carried = still_true s U old new paid e.group (bit_at e.bits) b.0.carried same }, b.1)

pub kept_after : (s : System) (U : ConstraintName → Bool) (old new : Ledger) (phi : List Bool) (t k k2 : List (List Entry)) (line : Line) (paid : IsPaid s U old new) → AreLeft s U old.lines phi t k → line ≡ paid.last → AreKeptBy line k t k2 → AreKept s U new.lines phi k2
kept_after s U old new phi t k k2 line paid left le by =
    by_line s U old new phi t k k2 line paid (record { size = left.table.size; kept = left.table.kept; group = left.table.group }) left.kept le by

pub turned : (s : System) (U : ConstraintName → Bool) (first old new : Ledger) (phi : List Bool) (k2 : List (List Entry)) → Extends s U first old → IsPaid s U old new → AreKept s U new.lines phi k2 → IsTurned s U phi first new k2
turned s U first old new phi k2 e paid kept = record {
  extends = extends-trans s U first old new e paid.extends;
  fewer = let h = fewer-words s U first old e in let k = paid.fewer in omega arith;
  kept = kept;
}

pub settled : (s : System) (U : ConstraintName → Bool) (phi top : List Bool) (first old new : Ledger) (t : List (List Entry)) → Extends s U first old → IsAsker s U old.lines phi (root s) top → IsFilled s U phi top old new t → IsSettled s U phi top first new t
settled s U phi top first old new t e a f = record {
  extends = subst (λ (l : Ledger). Extends s U first l) (sym f.ledger) e;
  asker = subst (λ (l : Ledger). IsAsker s U l.lines phi (root s) top) (sym f.ledger) a;
  table = f.table;
  full = f.full;
}

pub fresh_left : (s : System) (U : ConstraintName → Bool) (lines : List Line) (phi : List Bool) (r : ℕ) (t k : List (List Entry)) → r ≡ root s → AreEmpty r t → AreKept s U lines phi k → AreLeft s U lines phi t k
fresh_left s U lines phi r t k re empty kept = record { table = empty_table s U lines phi t (empty.size ∙ re) empty.each; kept = kept }

pub empty_kept : (s : System) (U : ConstraintName → Bool) (lines : List Line) (phi : List Bool) (r : ℕ) (t : List (List Entry)) → r ≡ root s → AreEmpty r t → AreKept s U lines phi t
empty_kept s U lines phi r t re empty =
    let h : IsTable s U lines phi t = empty_table s U lines phi t (empty.size ∙ re) empty.each in
    record { size = h.size; kept = h.kept; group = h.group }

pub renewed : (s : System) (U : ConstraintName → Bool) (lines : List Line) (before now : List Bool) (r : ℕ) (k k2 : List (List Entry)) → r ≡ root s → AreKept s U lines before k → ((before ≡ now) × (k2 ≡ k)) ⊎ AreEmpty r k2 → AreKept s U lines now k2
renewed s U lines before now r k k2 re kept h = ⊎_elim
    (λ (i : (before ≡ now) × (k2 ≡ k)). subst (λ (t : List (List Entry)). AreKept s U lines now t) (sym i.1) (subst (λ p. AreKept s U lines p k) i.0 kept))
    (λ (i : AreEmpty r k2). empty_kept s U lines now r k2 re i) h

pub found_solution : (s : System) (U : ConstraintName → Bool) (phi top xs : List Bool) (first mid new : Ledger) (t : List (List Entry)) → Extends s U first mid → IsSettled s U phi xs mid new t → phi ≡ phi_by s (bit_at xs) → xs ≡ top → Extends s U first new × HasSolution s U new.lines top t
found_solution s U phi top xs first mid new t e h pe xe = (
  extends-trans s U first mid new e h.extends,
  subst (λ (ys : List Bool). HasSolution s U new.lines ys t) xe (record {
    asker = subst (λ p. IsAsker s U new.lines p (root s) xs) pe h.asker;
    table = subst (λ p. IsTable s U new.lines p t) pe h.table;
    full = h.full;
  }),
)

pub extends_none : (s : System) (U : ConstraintName → Bool) (l : Ledger) → IsLedger s U l → Extends s U l l
extends_none s U l h = record { more = []; is = sym (append_none l.lines); paid = refl; ledger = h }

pub filled_paid : (s : System) (U : ConstraintName → Bool) (phi top : List Bool) (old new : Ledger) (t : List (List Entry)) (o : Asked) → o ≡ asked.Carried → FilledIs s U phi top old new t o → IsPaid s U old new
filled_paid s U phi top old new t o oe is = subst (FilledIs s U phi top old new t) oe is

pub filled_kept : (s : System) (U : ConstraintName → Bool) (phi top : List Bool) (old new : Ledger) (t : List (List Entry)) (o : Asked) → o ≡ asked.Kept → FilledIs s U phi top old new t o → IsFilled s U phi top old new t
filled_kept s U phi top old new t o oe is = subst (FilledIs s U phi top old new t) oe is

pub last_is : (s : System) (U : ConstraintName → Bool) (old new : Ledger) (line : Line) (paid : IsPaid s U old new) → ((before : List Line) (last : Line) → new.lines ≡ before ++ last ∷ [] → line ≡ last) → line ≡ paid.last
last_is s U old new line paid h = h (old.lines ++ paid.own) paid.last (paid.is ∙ sym (append_assoc old.lines paid.own (paid.last ∷ [])))

pub settled_kept : (s : System) (U : ConstraintName → Bool) (phi top : List Bool) (old new : Ledger) (k t : List (List Entry)) (o : Asked) → o ≡ asked.Kept → SettledIs s U phi top old new k t o → IsSettled s U phi top old new t
settled_kept s U phi top old new k t o oe is = subst (SettledIs s U phi top old new k t) oe is
