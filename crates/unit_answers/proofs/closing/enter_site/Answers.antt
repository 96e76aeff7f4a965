use Rattle.std.proofs.Common.{◌≡◌, ◌<◌, List, map, get_or, ap, sym, subst, ◌∙◌, arith}
use Rattle.std.specs.List.Sorted.{IsStrictlyIncreasing}
use Rattle.std.proofs.lemmas.List.{get_or_default}
use Rattle.zo_core.specs.Literals.{Literal}
use Rattle.unit_answers.specs.Sets.{UnitSet, set_at, no_set, rank}
use Rattle.unit_answers.specs.Layouts.{Numbers}
use Rattle.unit_answers.specs.Settled.{TakesAll, AreLower}
use Rattle.unit_answers.proofs.Entering.{entered_more}
use Rattle.unit_answers.proofs.closing.enter_site.Goals as goal

-- what was read is the set of the group
read : (sets : List UnitSet) (g : _) (set : UnitSet) → AreLower g sets → (k : _) → k < g → set ≡ get_or sets k set → set ≡ set_at sets k
read sets g set lower k lt e = e ∙ get_or_default sets k set no_set (let many = lower.count in omega arith)

pub carry-requires-clause-ascend : goal.carry-requires-clause-ascend
carry-requires-clause-ascend c =
    let sets = c.args.lower.now in
    let k = c.call_at-call.result.callee.group in
    let below = c.call_at-call.ensures.fits.lower in
    let is : c.index-lower-below.result ≡ set_at sets k = read sets c.args.group c.index-lower-below.result c.requires.lower k below c.index-lower-below.is in
    let lits : c.lits_of-lits.result.now ≡ (set_at sets k).lits = c.lits_of-lits.ensures ∙ ap (λ (set : UnitSet). set.lits) is in
    subst (λ (ls : List Literal). IsStrictlyIncreasing (map rank ls)) (sym lits) (c.requires.lower.each k below).ascend

pub returns-clause-entered : goal.returns-clause-entered
returns-clause-entered c = λ s rows is h.
    let sets = c.args.lower.now in
    let call = c.call_at-call.result in
    let k = call.callee.group in
    let below = c.call_at-call.ensures.fits.lower in
    let set : c.index-lower-below.result ≡ set_at sets k = read sets c.args.group c.index-lower-below.result c.requires.lower k below c.index-lower-below.is in
    let lits : c.lits_of-lits.result.now ≡ (set_at sets k).lits = c.lits_of-lits.ensures ∙ ap (λ (x : UnitSet). x.lits) set in
    let fields : c.layout.inside.fields ≡ c.args.layout.now.fields = ap (λ (l : Numbers). l.fields) c.layout.view_is in
    let takes : TakesAll c.args.layout.now.fields c.args.site call (set_at sets k).lits c.args.trail.now c.carry.new.trail =
    subst (λ n. TakesAll n c.args.site call (set_at sets k).lits c.args.trail.now c.carry.new.trail) fields
    (subst (λ (ls : List Literal). TakesAll c.layout.inside.fields c.args.site call ls c.args.trail.now c.carry.new.trail) lits c.in_ok-carry.ensures) in
    entered_more s c.args.layout.now is c.args.group c.requires.group rows sets c.requires.lower c.args.site call c.call_at-call.ensures.at c.args.trail.now c.carry.new.trail takes h
