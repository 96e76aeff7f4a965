-- The scope of all names.
use Rattle.std.proofs.Common.{◌≡◌, ℕ, zero, suc, ◌<◌, Bool, true, false, cond, ◌||◌, ◌&&◌, List, [], ◌∷◌, refl, subst, arith, map, slice_index_or}
use Rattle.std.specs.Prelude.{nat_eq, nat_lt}
use Rattle.std.specs.List.{Contains}
use Rattle.std.proofs.lemmas.Bool.{lt-ltb}
use Rattle.zo_core.specs.Literals.{Literal}
use Rattle.conflict_proof.specs.declared.names.ConstraintName.{ConstraintName}
use Rattle.conflict_proof.specs.declared.derivation.How.{How}
use Rattle.conflict_proof.specs.declared.derivation.How.TheVariants.{Axiom, Resolve, Inst}
use Rattle.conflict_proof.specs.declared.derivation.Line.{Line}
use Rattle.own_cert.specs.declared.certificate.Certificate.{Certificate}
use Rattle.flow_graph.specs.FlowGraph.{FlowGraph}
use Rattle.path_facts.specs.Tables.{FactTables}
use Rattle.transfer_rules.specs.declared.constraint.Constraint.{Constraint}
use Rattle.transfer_rules.specs.declared.scope.Scope.{Scope}
use Rattle.transfer_rules.specs.Rules.{constraints}
use Rattle.transfer_rules.specs.Names.{name_of, in_scope}
use Rattle.verdict_meaning.specs.Systems.{System, root, names_of}
use Rattle.verdict_meaning.specs.Solutions.{all_names, counts, IsLocal}
use Rattle.verdict_meaning.specs.Certificates.{IsGoodIn}
use Rattle.verdict_meaning.specs.Derivations.{IsRight, IsValidIn}
use Rattle.verdict_meaning.specs.Programs.{system_of, IsWhole, GoodInWhole, ValidInWhole}
use Rattle.verdict_meaning.proofs.Conditions.{rules_positive}
use Rattle.verdict_meaning.proofs.Follow.{more_are_valid}

abbrev zeros : ConstraintName
zeros = record { proc = 0; place = 0; edge = 0; rule = 0; slot = 0; field = 0; other = 0 }

less_or_zero : (n : ℕ) (rest : Bool) → (n ≡ 0 → rest ≡ true) → (nat_lt 0 n || (nat_eq 0 n && rest)) ≡ true
less_or_zero zero rest f = f refl
less_or_zero (suc n) rest f = rw (lt-ltb 0 (suc n) (omega arith)) refl

-- each name of a rule is in it
in_whole : (scope : Scope) → IsWhole scope → (n : ConstraintName) → 0 < n.rule → in_scope scope n ≡ true
in_whole scope whole n some =
    rw (whole.keep, whole.without, whole.after)
    (rw (less_or_zero n.proc _ (λ p. less_or_zero n.place _ (λ q. less_or_zero n.edge _ (λ e. less_or_zero n.rule _ (λ z. absurd (omega arith)))))) refl)

module _ (g : FlowGraph) (facts : FactTables) (groups : List (List ℕ)) where
  abbrev s : System
  s = system_of g facts groups

  -- the constraint of a name
  named : (cs : List Constraint) (n : ConstraintName) → Contains (map name_of cs) n → (c : Constraint) × Contains cs c × (c.name ≡ n)
  named [] n there = absurd (let lt = there.1 in omega arith)
  named (c ∷ cs) n (zero, lt, e) = (c, (0, omega arith, refl), e)
  named (c ∷ cs) n (suc k, lt, e) =
      let rest = named cs n (k, omega arith, e) in
      let at = rest.1 in
      (rest.0, (suc at.0, (let small = at.1 in omega arith), at.2), rest.2)

  rule_of : (e : ℕ) (n : ConstraintName) → Contains (names_of s e) n → 0 < n.rule
  rule_of e n there = by_root (nat_eq e (root s)) there
    where
      by_root : (b : Bool) → Contains (cond b [] (s.names e)) n → 0 < n.rule
      by_root true there = absurd (let lt = there.1 in omega arith)
      by_root false there =
          let c = named (constraints g facts (slice_index_or groups e [])) n there in
          subst (λ (m : ConstraintName). 0 < m.rule) c.2 (rules_positive g facts (slice_index_or groups e []) c.0 c.1)

  module _ (scope : Scope) (whole : IsWhole scope) where
    or_on : (a b : Bool) → b ≡ true → (a || b) ≡ true
    or_on true b e = refl
    or_on false b e = e

    scoped : (e : ℕ) (n : ConstraintName) → Contains (names_of s e) n → counts (in_scope scope) n ≡ true
    scoped e n there = or_on (nat_eq n.rule 21) (in_scope scope n) (in_whole scope whole n (rule_of e n there))

    counted : (n : ConstraintName) → counts all_names n ≡ true
    counted n = or_on (nat_eq n.rule 21) true refl

    to_all : (e : ℕ) (a : ℕ → Bool) → IsLocal s (in_scope scope) e a → IsLocal s all_names e a
    to_all e a local n there counting = local n there (scoped e n there)

    from_all : (e : ℕ) (a : ℕ → Bool) → IsLocal s all_names e a → IsLocal s (in_scope scope) e a
    from_all e a local n there counting = local n there (counted n)

    instance_with : (U V : ConstraintName → Bool) → ((e : ℕ) (a : ℕ → Bool) → IsLocal s U e a → IsLocal s V e a) → (c : Certificate) → IsGoodIn s U c → IsGoodIn s V c
    instance_with U V with_ c good = record {
      phi = good.phi;
      each = λ n i at.
          let ok = good.each n i at in
          record { group = ok.group; entry = ok.entry; iface = ok.iface; count = ok.count; rows = ok.rows; sites = ok.sites; local = with_ i.group _ ok.local };
      apart = good.apart;
      all = good.all;
    }

    right_in : (lines : List Line) (n e : ℕ) (how : How) (c : List Literal) → IsRight s all_names lines n e how c → IsRight s (in_scope scope) lines n e how c
    right_in lines n e (Axiom name) c r = record { there = r.there; counting = scoped e name r.there; clause = r.clause }
    right_in lines n e (Resolve i j) c r = r
    right_in lines n e (Inst i site) c r = r

    valid_in : (lines : List Line) → IsValidIn s all_names lines → IsValidIn s (in_scope scope) lines
    valid_in lines valid n line at = let r = valid n line at in record { group = r.group; clause = r.clause; right = right_in lines n line.group line.how line.lits r.right }

pub good_in_whole : GoodInWhole
good_in_whole g facts groups scope c whole = (
  instance_with g facts groups scope whole (in_scope scope) all_names (to_all g facts groups scope whole) c,
  instance_with g facts groups scope whole all_names (in_scope scope) (from_all g facts groups scope whole) c,
)

pub valid_in_whole : ValidInWhole
valid_in_whole g facts groups scope lines whole = (
  more_are_valid (system_of g facts groups) (in_scope scope) all_names lines (λ name _. refl),
  valid_in g facts groups scope whole lines,
)
