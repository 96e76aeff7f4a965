use Rattle.std.proofs.Common.{rules, ◌≡◌, List, sym, subst}
use Rattle.conflict_proof.specs.declared.derivation.Line.{Line}
use Rattle.verdict_meaning.specs.Systems.{root}
use Rattle.call_summary.specs.Joins.{IsJoined}
use Rattle.call_summary.specs.Trims.{StandBack}
use Rattle.call_summary.proofs.Knowns.{joined_known, joined_have}
use Rattle.call_summary.proofs.Left.{valid_stand_back}
use Rattle.call_summary.proofs.knowing.group_lines.Goals as goal

pub joined-requires-clause-back : goal.joined-requires-clause-back
joined-requires-clause-back g c =
    let same : c.as_slice.result.now ≡ c.args.more.now = search rules in
    subst (λ (ls : List Line). StandBack ls) (sym same) (valid_stand_back (g.G.Shapes.system c.args.groups.now) (g.G.Groups.counting c.args.groups.now) c.args.more.now c.requires.valid)

pub returns-clause-known : goal.returns-clause-known
returns-clause-known g c =
    let same : c.as_slice.result.now ≡ c.args.more.now = search rules in
    joined_known (g.G.Shapes.system c.args.groups.now) (g.G.Groups.counting c.args.groups.now) c.root.result c.args.known.now c.args.more.now c.in_ok-items.items.items c.root.ensures (g.met.G.Shapes.shaped c.args.groups.now).below
    c.requires.known c.requires.valid (subst (λ (ls : List Line). IsJoined c.root.result c.args.known.now ls c.in_ok-items.items.items) same c.in_ok-items.ensures)

pub returns-clause-have : goal.returns-clause-have
returns-clause-have g c =
    let same : c.as_slice.result.now ≡ c.args.more.now = search rules in
    joined_have c.root.result (root (g.G.Shapes.system c.args.groups.now)) c.args.known.now c.args.more.now c.in_ok-items.items.items c.root.ensures
    (subst (λ (ls : List Line). IsJoined c.root.result c.args.known.now ls c.in_ok-items.items.items) same c.in_ok-items.ensures)
