use Rattle.std.proofs.Common.{ℕ, Option, sym, ap, subst, ◌∙◌}
use Rattle.flow_graph.specs.FlowGraph.{FlowGraph, members_of}
use Rattle.flow_graph.specs.Fits.{HasPointer}
use Rattle.owner_vars.specs.Fields.{points_to}
use Rattle.transfer_rules.specs.Body.{Body, setting, slot_kind, is_field_behind}
use Rattle.transfer_rules.proofs.Few.{pointer_there}
use Rattle.transfer_rules.proofs.body.BodyScene.field_at.Goals as goal

pub number-requires : goal.number-requires
number-requires c =
    let view = c.self.view_is in
    let has = ap (λ (b : Body). (setting b).is_field c.args.slot c.args.member) view ∙ c.requires.member in
    let kind = ap (λ (b : Body). slot_kind b c.args.slot) view ∙ sym c.kind.ensures in
    let points = ap points_to kind ∙ sym c.in-Some.ensures in
    let P : FlowGraph → Type 0 = λ g. HasPointer (members_of g c.in-Some.structure) c.args.member in
    let is = ap (λ (o : Option ℕ). is_field_behind c.self.inside.graph.now o c.args.member) (sym points) ∙ has in
    subst P (sym c.self.invariant.fields) (pointer_there (members_of c.self.inside.graph.now c.in-Some.structure) c.args.member is)
