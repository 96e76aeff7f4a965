use Rattle.std.proofs.Common.{◌≡◌, ℕ, suc, ◌+◌, ◌-◌, ◌≤◌, List, [], ◌∷◌, ◌++◌, refl, sym, subst, rules, arith}
use Rattle.zo_core.specs.Literals.{Literal}
use Rattle.std.specs.List.{Contains}
use Rattle.transfer_rules.specs.Names.{NamedClause, in_scope}
use Rattle.verdict_meaning.specs.Systems.{System, root, count}
use Rattle.unit_answers.specs.Sets.{UnitSet}
use Rattle.unit_answers.specs.Layouts.{group_at}
use Rattle.unit_answers.specs.Settled.{AreLower, AreSettled, IsOrdered, IsSettled}
use Rattle.verdict_meaning.specs.Programs.{system_in}
use Rattle.unit_answers.specs.Tables.{table_in}
use Rattle.unit_answers.proofs.Rows.{tables_are, root_rows}
use Rattle.unit_answers.proofs.Settling.{CallsLower, calls_lower, settled_none, settled_lower, settled_push, are_closures, are_within, are_reasoned}
use Rattle.unit_answers.proofs.groups.closures.Goals as goal

-- the root's set on top of all
done : (s : System) (table : ℕ → List NamedClause) (lower : CallsLower s) (n r : ℕ) (sets below all : List UnitSet) (set : UnitSet) → n ≡ root s → r ≡ root s → below ≡ sets
    → all ≡ sets ++ set ∷ [] → table (root s) ≡ [] → AreSettled s table n sets → IsOrdered set → ((l : Literal) → Contains set.lits l → l.var ≤ count s (root s))
    → IsSettled s r [] below [] set → AreSettled s table (suc (root s)) all
done s table lower n r sets below all set at here same more none h ordered inside settled =
    let next : n + 1 ≡ suc (root s) = omega arith in
    let own : IsSettled s n (table n) sets [] set =
    subst (λ (xs : List UnitSet). IsSettled s n (table n) xs [] set) same
    (subst (λ (k : ℕ). IsSettled s k (table k) below [] set) (sym at)
    (subst (λ (rows : List NamedClause). IsSettled s (root s) rows below [] set) (sym none) (subst (λ (k : ℕ). IsSettled s k [] below [] set) here settled))) in
    subst (λ (xs : List UnitSet). AreSettled s table (suc (root s)) xs) (sym more)
    (subst (λ (k : ℕ). AreSettled s table k (sets ++ set ∷ [])) next
    (settled_push s table lower n sets set (omega arith) h ordered (subst (λ (k : ℕ). (l : Literal) → Contains set.lits l → l.var ≤ count s k) (sym at) inside) own))

pub loop-group-init : goal.loop-group-init
loop-group-init c =
    let p = c.args.program.now in
    let none = settled_none (system_in p) (table_in p c.args.scope.now) (calls_lower (system_in p) c.in_ok-layout.layout c.in_ok-layout.ensures) in
    subst (λ (xs : List UnitSet). AreSettled (system_in p) (table_in p c.args.scope.now) 0 xs) (sym c.new-sets.ensures.items) none

pub set_of-requires-clause-lower : goal.set_of-requires-clause-lower
set_of-requires-clause-lower c =
    let p = c.args.program.now in
    let lower = settled_lower (system_in p) (table_in p c.args.scope.now) (calls_lower (system_in p) c.in_ok-layout.layout c.in_ok-layout.ensures)
    c.loop-group.group c.loop-group.sets.items c.loop-group.invariant in
    subst (λ (xs : List UnitSet). AreLower c.loop-group.group xs) (sym c.deref.ensures.value) lower

pub loop-group-preserved : goal.loop-group-preserved
loop-group-preserved c =
    let p = c.args.program.now in
    let s = system_in p in
    let table = table_in p c.args.scope.now in
    let sets = c.loop-group.sets.items in
    let set = c.in_ok-set.set in
    let items : c.push.new.self.items ≡ sets ++ set ∷ [] = search rules in
    let is = c.in_ok-layout.ensures in
    let within : c.loop-group.group ≤ root s = search rules in
    subst (λ (xs : List UnitSet). AreSettled s table (c.loop-group.group + 1) xs) (sym items)
    (settled_push s table (calls_lower s c.in_ok-layout.layout is) c.loop-group.group sets set within c.loop-group.invariant c.in_ok-set.ensures.ordered c.in_ok-set.ensures.within
    (subst (λ (xs : List UnitSet). IsSettled s c.loop-group.group (table c.loop-group.group) xs [] set) c.deref.ensures.value c.in_ok-set.ensures.settled))

pub root_set-requires-clause-lower : goal.root_set-requires-clause-lower
root_set-requires-clause-lower c =
    let p = c.args.program.now in
    let s = system_in p in
    let lower = settled_lower s (table_in p c.args.scope.now) (calls_lower s c.in_ok-layout.layout c.in_ok-layout.ensures)
    c.loop-group.group c.loop-group.sets.items c.loop-group.invariant in
    let end = c.loop-group-test.false in
    let high = c.loop-group.auto.group-end in
    let at : c.loop-group.group ≡ c.len-root.result - 1 = omega arith in
    subst (λ (xs : List UnitSet). AreLower (c.len-root.result - 1) xs) (sym c.deref-2.ensures.value)
    (subst (λ (n : ℕ). AreLower n c.loop-group.sets.items) at lower)

pub returns-clause-exact : goal.returns-clause-exact
returns-clause-exact c =
    let p = c.args.program.now in
    let s = system_in p in
    let table = table_in p c.args.scope.now in
    let is = c.in_ok-layout.ensures in
    let lower = calls_lower s c.in_ok-layout.layout is in
    let items : c.push-2.new.self.items ≡ c.loop-group.sets.items ++ c.in_ok-set-2.set ∷ [] = search rules in
    let size : c.len-root.result ≡ suc (root s) = search rules in
    let end = c.loop-group-test.false in
    let high = c.loop-group.auto.group-end in
    let own = (is.each (root s) (omega arith)).count in
    let r : c.len-root.result - 1 ≡ root s = omega arith in
    let inside : (l : Literal) → Contains c.in_ok-set-2.set.lits l → l.var ≤ count s (root s) = λ l there.
    (let most = subst (λ (k : ℕ). l.var ≤ (group_at c.in_ok-layout.layout k).count) r (c.in_ok-set-2.ensures.within l there) in omega arith) in
    let all : AreSettled s table (suc (root s)) c.push-2.new.self.items =
    done s table lower c.loop-group.group (c.len-root.result - 1) c.loop-group.sets.items c.deref-2.result.now c.push-2.new.self.items c.in_ok-set-2.set
    (omega arith) r c.deref-2.ensures.value items (root_rows p.graph p.facts p.groups c.args.scope.now (root s) refl) c.loop-group.invariant c.in_ok-set-2.ensures.ordered
    inside (c.in_ok-set-2.ensures.settled s is) in
    let tables = tables_are p.graph p.facts p.groups c.args.scope.now (c.names_are_apart.ensures p.graph p.facts) in
    are_closures s table lower (in_scope c.args.scope.now) tables c.push-2.new.self.items all

pub returns-clause-within : goal.returns-clause-within
returns-clause-within c =
    let p = c.args.program.now in
    let s = system_in p in
    let table = table_in p c.args.scope.now in
    let is = c.in_ok-layout.ensures in
    let lower = calls_lower s c.in_ok-layout.layout is in
    let items : c.push-2.new.self.items ≡ c.loop-group.sets.items ++ c.in_ok-set-2.set ∷ [] = search rules in
    let size : c.len-root.result ≡ suc (root s) = search rules in
    let end = c.loop-group-test.false in
    let high = c.loop-group.auto.group-end in
    let own = (is.each (root s) (omega arith)).count in
    let r : c.len-root.result - 1 ≡ root s = omega arith in
    let inside : (l : Literal) → Contains c.in_ok-set-2.set.lits l → l.var ≤ count s (root s) = λ l there.
    (let most = subst (λ (k : ℕ). l.var ≤ (group_at c.in_ok-layout.layout k).count) r (c.in_ok-set-2.ensures.within l there) in omega arith) in
    let all : AreSettled s table (suc (root s)) c.push-2.new.self.items =
    done s table lower c.loop-group.group (c.len-root.result - 1) c.loop-group.sets.items c.deref-2.result.now c.push-2.new.self.items c.in_ok-set-2.set
    (omega arith) r c.deref-2.ensures.value items (root_rows p.graph p.facts p.groups c.args.scope.now (root s) refl) c.loop-group.invariant c.in_ok-set-2.ensures.ordered
    inside (c.in_ok-set-2.ensures.settled s is) in
    let tables = tables_are p.graph p.facts p.groups c.args.scope.now (c.names_are_apart.ensures p.graph p.facts) in
    are_within s table lower (in_scope c.args.scope.now) tables c.push-2.new.self.items all

pub returns-clause-reasons : goal.returns-clause-reasons
returns-clause-reasons c =
    let p = c.args.program.now in
    let s = system_in p in
    let table = table_in p c.args.scope.now in
    let is = c.in_ok-layout.ensures in
    let lower = calls_lower s c.in_ok-layout.layout is in
    let items : c.push-2.new.self.items ≡ c.loop-group.sets.items ++ c.in_ok-set-2.set ∷ [] = search rules in
    let size : c.len-root.result ≡ suc (root s) = search rules in
    let end = c.loop-group-test.false in
    let high = c.loop-group.auto.group-end in
    let own = (is.each (root s) (omega arith)).count in
    let r : c.len-root.result - 1 ≡ root s = omega arith in
    let inside : (l : Literal) → Contains c.in_ok-set-2.set.lits l → l.var ≤ count s (root s) = λ l there.
    (let most = subst (λ (k : ℕ). l.var ≤ (group_at c.in_ok-layout.layout k).count) r (c.in_ok-set-2.ensures.within l there) in omega arith) in
    let all : AreSettled s table (suc (root s)) c.push-2.new.self.items =
    done s table lower c.loop-group.group (c.len-root.result - 1) c.loop-group.sets.items c.deref-2.result.now c.push-2.new.self.items c.in_ok-set-2.set
    (omega arith) r c.deref-2.ensures.value items (root_rows p.graph p.facts p.groups c.args.scope.now (root s) refl) c.loop-group.invariant c.in_ok-set-2.ensures.ordered
    inside (c.in_ok-set-2.ensures.settled s is) in
    let tables = tables_are p.graph p.facts p.groups c.args.scope.now (c.names_are_apart.ensures p.graph p.facts) in
    are_reasoned s table lower (in_scope c.args.scope.now) tables c.push-2.new.self.items all
