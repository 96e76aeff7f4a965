-- Two tests by which the same constraints count.
use Rattle.std.proofs.Common.{◌≡◌, ℕ, Bool, List, sym, ◌∙◌}
use Rattle.std.specs.List.{Contains}
use Rattle.zo_core.specs.Literals.{Literal, opposite}
use Rattle.conflict_proof.specs.declared.names.ConstraintName.{ConstraintName}
use Rattle.conflict_proof.specs.declared.derivation.How.{How}
use Rattle.conflict_proof.specs.declared.derivation.How.TheVariants.{Axiom, Resolve, Inst}
use Rattle.conflict_proof.specs.declared.derivation.Line.{Line}
use Rattle.own_cert.specs.declared.certificate.Certificate.{Certificate}
use Rattle.verdict_meaning.specs.Systems.{System, names_of}
use Rattle.verdict_meaning.specs.Solutions.{counts, IsLocal}
use Rattle.verdict_meaning.specs.Certificates.{IsGoodIn}
use Rattle.verdict_meaning.specs.Derivations.{IsRight, IsValidIn}
use Rattle.verdict_meaning.specs.Closures.{Closed, given, forced, carried, IsUnitRefuted}
use Rattle.verdict_meaning.specs.Plain.{IsLeast, PlainIn, plain, IsPlainSat}
use Rattle.call_summary.specs.declared.inferred.Inferred.{Inferred}
use Rattle.call_summary.specs.declared.inferred.Inferred.TheVariants.{Accepted, Refuted, Undecided}
use Rattle.call_summary.specs.Inferences.{MayBeSpent, AnswerIs}

-- of the names of each group the same ones count
abbrev pub AreAlike : System → (ConstraintName → Bool) → (ConstraintName → Bool) → Type 0
AreAlike s U V = (g : ℕ) (n : ConstraintName) → Contains (names_of s g) n → counts U n ≡ counts V n

module _ (s : System) (U V : ConstraintName → Bool) (alike : AreAlike s U V) where
  local : (g : ℕ) (a : ℕ → Bool) → IsLocal s U g a → IsLocal s V g a
  local g a is n there counting = is n there (alike g n there ∙ counting)

  good : (c : Certificate) → IsGoodIn s U c → IsGoodIn s V c
  good c is = record {
    phi = is.phi;
    each = λ n i at.
        let ok = is.each n i at in
        record { group = ok.group; entry = ok.entry; iface = ok.iface; count = ok.count; rows = ok.rows; sites = ok.sites; local = local i.group _ ok.local };
    apart = is.apart;
    all = is.all;
  }

  right : (lines : List Line) (n g : ℕ) (how : How) (c : List Literal) → IsRight s U lines n g how c → IsRight s V lines n g how c
  right lines n g (Axiom name) c r = record { there = r.there; counting = sym (alike g name r.there) ∙ r.counting; clause = r.clause }
  right lines n g (Resolve i j) c r = r
  right lines n g (Inst i site) c r = r

  pub valid : (lines : List Line) → IsValidIn s U lines → IsValidIn s V lines
  valid lines is n line at = let r = is n line at in record { group = r.group; clause = r.clause; right = right lines n line.group line.how line.lits r.right }

  closed : (g : ℕ) (from : List Literal) (l : Literal) → Closed s U g from l → Closed s V g from l
  closed g from l (given there) = given there
  closed g from l (forced name c there counting clause has others) =
      forced name c there (sym (alike g name there) ∙ counting) clause has (λ m within ne. closed g from (opposite m) (others m within ne))
  closed g from l (carried site m within stands lower) = carried site m within stands (closed _ _ m lower)

  refuted : IsUnitRefuted s U → IsUnitRefuted s V
  refuted is = record { group = is.group; there = is.there; unknown = is.unknown; positive = closed is.group _ _ is.positive; negative = closed is.group _ _ is.negative }

module _ (s : System) (U V : ConstraintName → Bool) (alike : AreAlike s U V) where
  abbrev back : AreAlike s V U
  back g n there = sym (alike g n there)

  least : (g : ℕ) (from : List Literal) (a : ℕ → Bool) → IsLeast s U g from a → IsLeast s V g from a
  least g from a is v some within =
      let here = is v some within in
      (λ one. closed s U V alike g from _ (here.0 one), λ there. here.1 (closed s V U back g from _ there))

  plain_in : (phi : List Bool) (g h : ℕ) (v : List Bool) → PlainIn s U phi g h v → PlainIn s V phi g h v
  plain_in phi g h v (plain a is fields face meets sites) =
      plain a (least g _ a is) fields face (local s U V alike g a meets) (λ site within. plain_in phi _ _ _ (sites site within))

  plain_sat : IsPlainSat s U → IsPlainSat s V
  plain_sat is = record { values = is.values; least = least _ _ is.values is.least; each = λ g within. plain_in _ g _ _ (is.each g within) }

module _ (s : System) (U V : ConstraintName → Bool) (alike : AreAlike s U V) where
  abbrev other : AreAlike s V U
  other g n there = sym (alike g n there)

  may_be_spent : (budget : ℕ) → MayBeSpent s U budget → MayBeSpent s V budget
  may_be_spent budget may = record {
    bound = may.bound;
    units = λ is. may.units (refuted s V U other is);
    plain = λ is. may.plain (plain_sat s V U other is);
  }

  -- an answer with the ones is one with the others
  pub same_answer : (words budget : ℕ) (i : Inferred) → AnswerIs s U words budget i → AnswerIs s V words budget i
  same_answer words budget (Accepted c) is = record { good = good s U V alike c is.good; needed = is.needed }
  same_answer words budget (Refuted d names) is = record { valid = valid s U V alike d.lines is.valid; refutes = is.refutes; used = is.used; cost = is.cost }
  same_answer words budget (Undecided d) is =
      let spent = is.0 in (
        record { valid = valid s U V alike d.lines spent.valid; once = spent.once; over = spent.over; before = spent.before; last = spent.last; is = spent.is; within = spent.within },
        may_be_spent budget is.1,
      )
