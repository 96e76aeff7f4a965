use Rattle.std.proofs.Common.{◌≡◌, ℕ, ◌++◌, Bool, List, subst, sym, ap, ◌∙◌, rules}
use Rattle.std.specs.Prelude.{IfOk}
use Rattle.std.specs.List.{flat_map}
use Rattle.conflict_proof.specs.declared.names.ConstraintName.{ConstraintName}
use Rattle.verdict_meaning.specs.Systems.{System, names_of}
use Rattle.verdict_meaning.specs.Certificates.{Spot, spots, bit_at}
use Rattle.cert_checker.specs.Tables.{line_in, IsFalseAmong}
use Rattle.cert_checker.specs.Finding.{IsFirstBelow, IsBrokenIn}
use Rattle.cert_checker.proofs.BrokenLemmas.{broken_first, found_then, own_names}
use Rattle.cert_checker.proofs.broken.broken_in.Goals as goal

pub returns : goal.returns
returns g c =
    let s : System = g.G.Groups.system c.args.groups.now in
    let U : ConstraintName → Bool = g.G.Groups.scope c.args.groups.now in
    let e : ℕ = c.args.instance.now.group in
    let names : Spot → List ConstraintName = g.G.Groups.names c.args.groups.now e in
    let m = c.in_ok-marks.marks in
    let phi : c.as_slice-phi.result.now ≡ c.args.certificate.now.phi = search rules in
    let value : ℕ → Bool = bit_at (c.args.certificate.now.phi ++ m.bits.items) in
    let line : ℕ → ℕ = line_in m.fields m.lines.items m.after in
    let placed : names_of s e ≡ flat_map names (spots s e) = own_names s e c.requires.group ∙ g.met.G.Groups.placed c.args.groups.now e in
    found_then c.false_in.result (IsFalseAmong s U e names (spots s e) value line) (IsBrokenIn s U c.args.certificate.now c.args.n) c.args.bound
    (subst (λ (bs : List Bool). IfOk c.false_in.result (IsFirstBelow c.args.bound (IsFalseAmong s U e names (spots s e) (bit_at (bs ++ m.bits.items)) line))) phi c.false_in.ensures)
    (broken_first s U c.args.certificate.now c.args.n c.args.instance.now c.args.bound value line c.in_ok-marks.ensures names placed c.requires.there c.requires.group)
