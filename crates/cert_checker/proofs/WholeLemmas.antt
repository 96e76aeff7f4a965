-- In the scope of all names the constraints that count are all.
use Rattle.std.proofs.Common.{◌≡◌, ℕ, zero, suc, ◌<◌, ◌≤◌, ◌⊎◌, Bool, true, false, cond, ◌||◌, ◌&&◌, List, [], ◌∷◌, Option, Some, None, Result, Ok, Err, refl, sym, ap, ◌∙◌, subst, arith, map, slice_index_or, length}
use Rattle.std.specs.Prelude.{nat_eq, nat_lt, OnOk, IfErr, IfOk}
use Rattle.c_tree.specs.declared.memory.Memory.{Memory}
use Rattle.heap_meaning.specs.declared.states.State.{State}
use Rattle.std.specs.List.{Contains}
use Rattle.std.proofs.lemmas.Bool.{lt-ltb}
use Rattle.conflict_proof.specs.declared.names.ConstraintName.{ConstraintName}
use Rattle.conflict_proof.specs.declared.faults.Reason.{Reason}
use Rattle.conflict_proof.specs.declared.faults.BadLine.{BadLine}
use Rattle.conflict_proof.specs.declared.faults.CheckError.{CheckError}
use Rattle.conflict_proof.specs.declared.faults.CheckError.TheVariants as error
use Rattle.own_cert.specs.declared.certificate.Instance.{Instance}
use Rattle.own_cert.specs.declared.certificate.Certificate.{Certificate}
use Rattle.flow_graph.specs.FlowGraph.{FlowGraph}
use Rattle.path_facts.specs.Tables.{FactTables}
use Rattle.transfer_rules.specs.declared.constraint.Constraint.{Constraint}
use Rattle.transfer_rules.specs.declared.scope.Scope.{Scope}
use Rattle.transfer_rules.specs.Rules.{constraints}
use Rattle.transfer_rules.specs.Names.{name_of, in_scope}
use Rattle.verdict_meaning.specs.Systems.{System, root, names_of}
use Rattle.verdict_meaning.specs.Solutions.{all_names, counts}
use Rattle.verdict_meaning.specs.Certificates.{IsGoodInstance, IsGoodIn}
use Rattle.verdict_meaning.specs.CertificateFaults.{HasFault, IsFirstFault}
use Rattle.verdict_meaning.specs.CertificateFaults as fault
use Rattle.verdict_meaning.specs.Programs.{system_of, IsWhole}
use Rattle.verdict_meaning.proofs.Conditions.{rules_positive}
use Rattle.cert_checker.specs.Checking.{IsRejected, IsRefused}
use Rattle.cert_checker.proofs.Among.{of_map}

-- Two tests of names by which the same constraints count

module _ (s : System) (U V : ConstraintName → Bool) (agree : (g : ℕ) (n : ConstraintName) → g < root s → Contains (names_of s g) n → counts U n ≡ counts V n) (c : Certificate) where
  pub fault_by : (why : Reason) (line : ℕ) → HasFault s U c why line → HasFault s V c why line
  fault_by why line (fault.phi ne) = fault.phi ne
  fault_by why line (fault.group n i at ge) = fault.group n i at ge
  fault_by why line (fault.entry n i at none) = fault.entry n i at none
  fault_by why line (fault.iface n i at ne) = fault.iface n i at ne
  fault_by why line (fault.count n i at ne) = fault.count n i at ne
  fault_by why line (fault.place n k i row at there ne) = fault.place n k i row at there ne
  fault_by why line (fault.width n k i row at there ne) = fault.width n k i row at there ne
  fault_by why line (fault.missing_place n i at lt) = fault.missing_place n i at lt
  fault_by why line (fault.twice n m i j lt at at' a) = fault.twice n m i j lt at at' a
  fault_by why line (fault.site n k m i at there none) = fault.site n k m i at there none
  fault_by why line (fault.broken n i name at lt there on off) = fault.broken n i name at lt there (sym (agree i.group name lt there) ∙ on) off
  fault_by why line (fault.missing_group g lt none) = fault.missing_group g lt none

  pub good_by : IsGoodIn s U c → IsGoodIn s V c
  good_by good = record {
    phi = good.phi;
    each = λ n i at.
        let h : IsGoodInstance s U c n i = good.each n i at in
        record {
          group = h.group;
          entry = h.entry;
          iface = h.iface;
          count = h.count;
          rows = h.rows;
          sites = h.sites;
          local = λ name there on. h.local name there (agree i.group name h.group there ∙ on);
        };
    apart = good.apart;
    all = good.all;
  }

pub refused_by : (s : System) (U V : ConstraintName → Bool) → ((g : ℕ) (n : ConstraintName) → g < root s → Contains (names_of s g) n → counts U n ≡ counts V n) → (c : Certificate) (e : CheckError)
    → IsRefused s U c e → IsRefused s V c e
refused_by s U V agree c error.Memory h = tt
refused_by s U V agree c (error.Invalid bad) h = record {
  fault = record {
    fault = fault_by s U V agree c bad.reason bad.line h.fault.fault;
    first = λ why line f. h.fault.first why line (fault_by s V U (λ g n lt there. sym (agree g n lt there)) c why line f);
  };
  never = λ good. h.never (good_by s V U (λ g n lt there. sym (agree g n lt there)) c good);
}

-- The scope of all names

less_or_zero : (n : ℕ) (rest : Bool) → (n ≡ 0 → rest ≡ true) → (nat_lt 0 n || (nat_eq 0 n && rest)) ≡ true
less_or_zero zero rest f = f refl
less_or_zero (suc n) rest f = rw (lt-ltb 0 (suc n) (omega arith)) refl

in_whole : (scope : Scope) → IsWhole scope → (n : ConstraintName) → 0 < n.rule → in_scope scope n ≡ true
in_whole scope whole n some =
    rw (whole.keep, whole.without, whole.after)
    (rw (less_or_zero n.proc _ (λ p. less_or_zero n.place _ (λ q. less_or_zero n.edge _ (λ e. less_or_zero n.rule _ (λ z. absurd (omega arith)))))) refl)

or_true : (a b : Bool) → b ≡ true → (a || b) ≡ true
or_true true b e = refl
or_true false b e = e

pub whole_agrees : (g : FlowGraph) (facts : FactTables) (groups : List (List ℕ)) (scope : Scope) → IsWhole scope → (e : ℕ) (n : ConstraintName) → e < root (system_of g facts groups)
    → Contains (names_of (system_of g facts groups) e) n → counts (in_scope scope) n ≡ counts all_names n
whole_agrees g facts groups scope whole e n lt there =
    or_true (nat_eq n.rule 21) (in_scope scope n) (in_whole scope whole n (positive (nat_eq e (root (system_of g facts groups))) there)) ∙ sym (or_true (nat_eq n.rule 21) true refl)
  where
    positive : (b : Bool) → Contains (cond b [] ((system_of g facts groups).names e)) n → 0 < n.rule
    positive true h = absurd (let l = h.1 in omega arith)
    positive false h =
        let o = of_map name_of (constraints g facts (slice_index_or groups e [])) n h in
        subst (λ (m : ConstraintName). 0 < m.rule) o.2 (rules_positive g facts (slice_index_or groups e []) o.0 o.1)

-- Results

pub ok_then : (r : Result (Unit {0}) CheckError) (P Q : Type 0) → OnOk r P → (P → Q) → OnOk r Q
ok_then (Ok x) P Q p f = f p
ok_then (Err e) P Q p f = tt

pub err_then : (r : Result (Unit {0}) CheckError) (P Q : CheckError → Type 0) → IfErr r P → ((e : CheckError) → P e → Q e) → IfErr r Q
err_then (Ok x) P Q p f = tt
err_then (Err e) P Q p f = f e p

pub state_then : (r : Result State Memory) (P Q : State → Type 0) → IfOk r P → ((s : State) → P s → Q s) → IfOk r Q
state_then (Ok s) P Q p f = f s p
state_then (Err e) P Q p f = tt
