use Rattle.std.proofs.Common.{◌≡◌, false, List, ℕ, sym, ap, ◌∙◌, rules}
use Rattle.flow_graph.specs.Fits.{is_in}
use Rattle.transfer_rules.specs.Programs.{group_at}
use Rattle.transfer_rules.proofs.Named.{no_member}
use Rattle.transfer_rules.proofs.listing.clauses_of.Goals as goal

pub returns-then-not-is_in : goal.returns-then-not-is_in
returns-then-not-is_in c =
    let p = c.args.program.now in
    let out : c.is_in.result ≡ false = search rules in
    no_member p.graph p.facts (group_at p.groups c.args.group) c.args.name.now
    (ap (λ (ms : List ℕ). is_in ms c.args.name.now.proc) (sym c.members-members.ensures) ∙ sym c.is_in.ensures ∙ out)
