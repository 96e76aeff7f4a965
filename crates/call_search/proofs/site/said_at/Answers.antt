use Rattle.std.proofs.Common.{sym, refl, subst, List}
use Rattle.zo_core.specs.Literals.{Literal}
use Rattle.zo_core.specs.Renames.{KeepsApart}
use Rattle.verdict_meaning.specs.Certificates.{bit_at}
use Rattle.call_search.specs.Sites.{image_at}
use Rattle.call_search.proofs.Carry.{keeps_apart, next_said}
use Rattle.call_search.proofs.site.said_at.Goals as goal

pub carried_clause-requires-clause-apart : goal.carried_clause-requires-clause-apart
carried_clause-requires-clause-apart g c =
    subst (λ (ls : List Literal). KeepsApart (image_at (g.G.Shapes.system c.args.groups.now) c.args.group c.args.site) ls) (sym (c.line_lits.ensures.line c.requires.denied.line c.requires.denied.there))
    (keeps_apart (g.G.Shapes.system c.args.groups.now) (g.met.G.Shapes.shaped c.args.groups.now) (bit_at c.args.bits.now) c.args.group c.args.site c.requires.site c.requires.denied.line.lits c.requires.denied.denied)

pub returns : goal.returns
returns g c =
    next_said (g.G.Shapes.system c.args.groups.now) (g.met.G.Shapes.shaped c.args.groups.now) (bit_at c.args.bits.now) c.args.group c.args.site c.requires.site (g.G.Groups.counting c.args.groups.now) c.args.ledger.now.lines c.requires.group c.args.n c.requires.denied
    c.line_lits.result.now c.in_ok-lits.lits (c.line_lits.ensures.line c.requires.denied.line c.requires.denied.there) c.in_ok-lits.ensures c.args.bits.now refl
