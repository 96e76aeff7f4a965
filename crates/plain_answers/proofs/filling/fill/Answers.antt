use Rattle.std.proofs.Common.{rules, ◌≡◌, Bool, List, length, set, take, sym, ap, subst, ◌∙◌}
use Rattle.std.specs.List.{All, Contains}
use Rattle.std.proofs.lemmas.Option.{MatchOption-at_some, MatchOption-at_none}
use Rattle.verdict_meaning.specs.Systems.{root, callees, count}
use Rattle.verdict_meaning.specs.Solutions.{phi_by}
use Rattle.verdict_meaning.specs.Certificates.{bit_at}
use Rattle.call_search.specs.declared.entries.Entry.{Entry}
use Rattle.call_search.specs.Entries.{AreEmpty}
use Rattle.plain_answers.specs.declared.wants.Want.{Want}
use Rattle.plain_answers.specs.Wants.{AreAsked}
use Rattle.plain_answers.specs.Stages.{IsAskable, HasUnplain, AreEntries, AreAllAsked}
use Rattle.plain_answers.proofs.Assigned.{entries_sized, front_values}
use Rattle.plain_answers.proofs.Staging.{first_stage, last_askable, unplain_stage, next_stage}
use Rattle.plain_answers.proofs.filling.fill.Goals as goal

pub loop-wants-init : goal.loop-wants-init
loop-wants-init g c =
    let s = g.G.Shapes.system c.args.groups.now in
    let U = g.G.GroupClauses.counting c.args.groups.now in
    first_stage s U c.args.top.now c.requires.top (g.met.G.Shapes.shaped c.args.groups.now) c.in_ok-wanted.wanted.items c.ask_all.new.wanted.items c.in_ok-table.table.items
    (subst (λ n. AreEmpty n c.in_ok-table.table.items) c.root-root.ensures c.in_ok-table.ensures) (c.in_ok-wanted.ensures.count ∙ c.root-root.ensures) c.in_ok-wanted.ensures.none
    (subst (λ k. AreAsked s k c.args.top.now c.in_ok-wanted.wanted.items c.ask_all.new.wanted.items (length (callees s k))) c.root-root.ensures c.in_ok-ask_all.ensures)

pub entries-requires-clause-wants : goal.entries-requires-clause-wants
entries-requires-clause-wants g c =
    let s = g.G.Shapes.system c.args.groups.now in
    let U = g.G.GroupClauses.counting c.args.groups.now in
    let top = c.args.top.now in
    let front = c.pop.new.self.items in
    let ws = c.in-Some.wants in
    let vs = c.in_order-wants.result.items in
    let group : length front ≡ c.len-group.result = search rules in
    let kept : (q : Want) → Contains ws q → Contains vs q = λ q h. c.in_order-wants.ensures.kept q (subst (λ (l : List Want). Contains l q) (sym c.wants.view_is) h) in
    let from : (q : Want) → Contains vs q → Contains ws q = λ q h. subst (λ (l : List Want). Contains l q) c.wants.view_is (c.in_order-wants.ensures.from q h) in
    subst (λ k. All (IsAskable s k) c.deref.result.now) group (subst (λ (qs : List Want). All (IsAskable s (length front)) qs) (sym c.deref.ensures.value) (last_askable s U top c.requires.top (g.met.G.Shapes.shaped c.args.groups.now) c.loop-wants.wanted.items front ws vs c.loop-wants.table.items c.loop-wants.invariant c.in-Some.ensures.items c.in_order-wants.ensures.sorted kept from))

pub returns-in-None : goal.returns-in-None
returns-in-None g c =
    let s = g.G.Shapes.system c.args.groups.now in
    let U = g.G.GroupClauses.counting c.args.groups.now in
    let top = c.args.top.now in
    let front = c.pop.new.self.items in
    let ws = c.in-Some.wants in
    let vs = c.in_order-wants.result.items in
    let group : length front ≡ c.len-group.result = search rules in
    let kept : (q : Want) → Contains ws q → Contains vs q = λ q h. c.in_order-wants.ensures.kept q (subst (λ (l : List Want). Contains l q) (sym c.wants.view_is) h) in
    let from : (q : Want) → Contains vs q → Contains ws q = λ q h. subst (λ (l : List Want). Contains l q) c.wants.view_is (c.in_order-wants.ensures.from q h) in
    let phi : take c.fields.result top ≡ phi_by s (bit_at top) = front_values s (root s) top c.fields.result c.fields.ensures c.requires.top.size in
    let found : HasUnplain s U (take c.fields.result top) c.len-group.result c.deref.result.now = MatchOption-at_none (HasUnplain s U (take c.fields.result top) c.len-group.result c.deref.result.now) _ c.in-None.is c.in_ok-entries.ensures in
    unplain_stage s U top c.requires.top (g.met.G.Shapes.shaped c.args.groups.now) c.loop-wants.wanted.items front ws vs c.loop-wants.table.items c.loop-wants.invariant c.in-Some.ensures.items c.in_order-wants.ensures.sorted kept from
    (subst (λ (qs : List Want). HasUnplain s U (phi_by s (bit_at top)) (length front) qs) c.deref.ensures.value
    (subst (λ k. HasUnplain s U (phi_by s (bit_at top)) k c.deref.result.now) (sym group)
    (subst (λ (p : List Bool). HasUnplain s U p c.len-group.result c.deref.result.now) phi found)))

pub ask_for-requires-clause-size : goal.ask_for-requires-clause-size
ask_for-requires-clause-size g c =
    let s = g.G.Shapes.system c.args.groups.now in
    let U = g.G.GroupClauses.counting c.args.groups.now in
    let top = c.args.top.now in
    let made : AreEntries s U (take c.fields.result top) c.len-group.result c.deref.result.now c.in-Some-2.made.items =
    MatchOption-at_some _ (λ v. AreEntries s U (take c.fields.result top) c.len-group.result c.deref.result.now v.items) c.in-Some-2.made c.in-Some-2.is c.in_ok-entries.ensures in
    subst (λ (es : List Entry). All (λ (e : Entry). length e.bits ≡ count s c.len-group.result) es) (sym c.deref-in-Some-2.ensures.value)
    (entries_sized s U (take c.fields.result top) c.len-group.result c.deref.result.now c.in-Some-2.made.items made)

pub loop-wants-preserved : goal.loop-wants-preserved
loop-wants-preserved g c =
    let s = g.G.Shapes.system c.args.groups.now in
    let U = g.G.GroupClauses.counting c.args.groups.now in
    let top = c.args.top.now in
    let front = c.pop.new.self.items in
    let ws = c.in-Some.wants in
    let vs = c.in_order-wants.result.items in
    let group : length front ≡ c.len-group.result = search rules in
    let kept : (q : Want) → Contains ws q → Contains vs q = λ q h. c.in_order-wants.ensures.kept q (subst (λ (l : List Want). Contains l q) (sym c.wants.view_is) h) in
    let from : (q : Want) → Contains vs q → Contains ws q = λ q h. subst (λ (l : List Want). Contains l q) c.wants.view_is (c.in_order-wants.ensures.from q h) in
    let phi : take c.fields.result top ≡ phi_by s (bit_at top) = front_values s (root s) top c.fields.result c.fields.ensures c.requires.top.size in
    let es = c.in-Some-2.made.items in
    let found : AreEntries s U (take c.fields.result top) c.len-group.result c.deref.result.now es =
    MatchOption-at_some _ (λ v. AreEntries s U (take c.fields.result top) c.len-group.result c.deref.result.now v.items) c.in-Some-2.made c.in-Some-2.is c.in_ok-entries.ensures in
    let made : AreEntries s U (phi_by s (bit_at top)) (length front) vs es =
    subst (λ (qs : List Want). AreEntries s U (phi_by s (bit_at top)) (length front) qs es) c.deref.ensures.value
    (subst (λ k. AreEntries s U (phi_by s (bit_at top)) k c.deref.result.now es) (sym group)
    (subst (λ (p : List Bool). AreEntries s U p c.len-group.result c.deref.result.now es) phi found)) in
    let added : AreAllAsked s (length front) es front c.ask_for.new.wanted.items =
    subst (λ (xs : List Entry). AreAllAsked s (length front) xs front c.ask_for.new.wanted.items) c.deref-in-Some-2.ensures.value
    (subst (λ k. AreAllAsked s k c.deref-in-Some-2.result.now front c.ask_for.new.wanted.items) (sym group) c.in_ok-ask_for-in-Some-2.ensures) in
    next_stage s U top c.requires.top (g.met.G.Shapes.shaped c.args.groups.now) c.loop-wants.wanted.items front ws vs c.loop-wants.table.items c.loop-wants.invariant c.in-Some.ensures.items c.in_order-wants.ensures.sorted kept from es made c.ask_for.new.wanted.items added c.place.new.table.items
    (c.place.ensures ∙ ap (λ k. set c.loop-wants.table.items k es) (sym group))
