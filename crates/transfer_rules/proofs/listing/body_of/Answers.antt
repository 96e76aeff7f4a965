use Rattle.std.proofs.Common.{ℕ, List, sym, ap, subst, ◌∙◌}
use Rattle.transfer_rules.specs.Body.{Body}
use Rattle.transfer_rules.specs.Bodies.{IsBodyOf}
use Rattle.transfer_rules.specs.Programs.{Parts}
use Rattle.transfer_rules.proofs.Whole.{member_body, body_is}
use Rattle.transfer_rules.proofs.listing.body_of.Goals as goal

pub pointers-pointers-requires : goal.pointers-pointers-requires
pointers-pointers-requires c = member_body c.args.program.now c.args.group c.args.proc c.law.ensures c.requires.group c.requires.member

pub invariant_of-result : goal.invariant_of-result
invariant_of-result c =
    let p = c.args.program.now in
    let at : Parts → List ℕ → Body = λ q ms. record { graph = q.graph; facts = q.facts; members = ms; proc = c.args.proc } in
    let same = ap (λ (q : Parts). at q c.members-members.result.now) c.program.view_is ∙ ap (λ (ms : List ℕ). at p ms) c.members-members.ensures in
    let P : Body → Type 0 = λ b. IsBodyOf b c.numbering-numbers.result.now c.fields-fields.result.now c.sites-sites.result.now c.pointers-pointers.result.now c.targets-targets.result.now in
    subst P (sym same) (body_is p c.args.group c.args.proc c.law.ensures c.requires.group c.requires.member
    c.path_laws.ensures.slots c.unknown_laws.ensures.there c.site_laws.ensures
    c.numbering-numbers.result.now c.fields-fields.result.now c.sites-sites.result.now c.pointers-pointers.result.now c.targets-targets.result.now
    c.numbering-numbers.ensures c.fields-fields.ensures c.sites-sites.ensures c.pointers-pointers.ensures c.targets-targets.ensures)
