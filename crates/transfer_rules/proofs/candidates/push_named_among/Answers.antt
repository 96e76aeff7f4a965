use Rattle.std.proofs.Common.{◌≡◌, ◌++◌, ◌<◌, ◌≤◌, List, length, get_or, sym, ap, ◌∙◌, subst, append-nil}
use Rattle.std.specs.Prelude.{OnOk}
use Rattle.flow_graph.specs.declared.action.Edge.{Edge}
use Rattle.transfer_rules.specs.declared.constraint.Constraint.{Constraint}
use Rattle.transfer_rules.specs.Single.{named_edge}
use Rattle.transfer_rules.proofs.Among.{among_at, among_past}
use Rattle.transfer_rules.proofs.candidates.push_named_among.Goals as goal

pub returns-then-number-edges : goal.returns-then-number-edges
returns-then-number-edges g c =
    let v = g.S.View.sight c.args.scene.now in
    let s = g.S.Scene.setting c.args.scene.now in
    let out = c.args.out.now.items in
    let past = among_past v s c.args.name.now (s.edges c.args.name.now.place) c.args.name.now.edge (subst (λ (es : List Edge). length es ≤ c.args.name.now.edge) c.edges-edges.ensures c.if-number-edges.true) in
    sym (append-nil out) ∙ ap (λ (cs : List Constraint). out ++ cs) (sym past)

pub returns : goal.returns
returns g c =
    let v = g.S.View.sight c.args.scene.now in
    let s = g.S.Scene.setting c.args.scene.now in
    let n = c.args.name.now in
    let out = c.args.out.now.items in
    let e = c.index-edges-number.result in
    let lt = subst (λ (es : List Edge). n.edge < length es) c.edges-edges.ensures c.if-number-edges.false in
    let is : e ≡ get_or (s.edges n.place) n.edge e = c.index-edges-number.is ∙ ap (λ (es : List Edge). get_or es n.edge e) c.edges-edges.ensures in
    let at = ap (named_edge v s n) is ∙ sym (among_at v s n (s.edges n.place) n.edge e lt) in
    let P : List Constraint → Type 0 = λ cs. OnOk c.push_named_edge.result (c.push_named_edge.new.out.items ≡ out ++ cs) in
    subst P at c.push_named_edge.ensures
