use Rattle.std.proofs.Common.{ℕ, ◌≤◌, Bool, List, [], sym, subst, ◌∙◌, arith}
use Rattle.std.specs.List.{All}
use Rattle.zo_core.specs.Literals.{Literal}
use Rattle.verdict_meaning.specs.Systems.{count}
use Rattle.verdict_meaning.specs.Certificates.{bit_at}
use Rattle.unit_answers.specs.Sets.{IsSetOf}
use Rattle.plain_answers.specs.Stages.{IsFitting, AreTrue}
use Rattle.plain_answers.proofs.Assigned.{least_given, unfit_unplain, unmet_unplain, right_by, own_within_by, table_within_by, match_false, match_true}
use Rattle.plain_answers.proofs.assigning.assignment.Goals as goal

pub of-own-requires : goal.of-own-requires
of-own-requires g c = let n = c.requires.closures.count in let lt = c.requires.callee.group in omega arith

pub closed_over-requires : goal.closed_over-requires
closed_over-requires g c = record {
  few = c.requires.few;
  small = (let m = (g.met.G.Shapes.shaped c.args.groups.now).small c.args.callee.group (let lt = c.requires.callee.group in omega arith) in let e = c.count-unknowns.ensures in omega arith);
  own = own_within_by (g.G.Shapes.system c.args.groups.now) c.args.closures.now c.args.callee.group c.count-unknowns.result c.of-own.result.now c.requires.callee.group c.requires.sets c.of-own.ensures c.count-unknowns.ensures;
  given = subst (λ (n : ℕ). All (λ (l : Literal). l.var ≤ n) c.deref.result.now) (sym c.count-unknowns.ensures) (subst (λ (ls : List Literal). All (λ (l : Literal). l.var ≤ count (g.G.Shapes.system c.args.groups.now) c.args.callee.group) ls) (sym c.deref.ensures.value) c.in_ok-given.ensures.given.within);
  table = table_within_by c.args.table.now (count (g.G.Shapes.system c.args.groups.now) c.args.callee.group) c.count-unknowns.result c.count-unknowns.ensures c.requires.within;
}

pub returns-then-not-fits : goal.returns-then-not-fits
returns-then-not-fits g c =
    let s = g.G.Shapes.system c.args.groups.now in
    let U = g.G.GroupClauses.counting c.args.groups.now in
    let own : IsSetOf s U c.args.callee.group [] c.of-own.result.now = subst (λ (ls : List Literal). IsSetOf s U c.args.callee.group [] ls) (sym c.of-own.ensures) (c.requires.closures.each c.args.callee.group (let lt = c.requires.callee.group in omega arith)) in
    let set : IsSetOf s U c.args.callee.group c.in_ok-given.given.items c.deref-2.result.now =
    subst (λ (ls : List Literal). IsSetOf s U c.args.callee.group c.in_ok-given.given.items ls) (sym c.deref-2.ensures.value)
    (subst (λ (ls : List Literal). IsSetOf s U c.args.callee.group ls c.in_ok-lits.lits.items) c.deref.ensures.value (c.in_ok-lits.ensures s U c.args.callee.group c.requires.table own)) in
    let least = least_given s U c.args.phi.now c.args.callee c.args.face.now c.in_ok-bits.bits.items c.in_ok-given.given.items c.deref-2.result.now c.count-unknowns.result c.requires.phi c.requires.face c.in_ok-given.ensures.literals c.count-unknowns.ensures set c.in_ok-bits.ensures.each in
    let unfit : IsFitting s c.args.phi.now c.args.callee c.args.face.now c.in_ok-bits.bits.items → ⊥ =
    subst (λ (bs : List Bool). IsFitting s c.args.phi.now c.args.callee c.args.face.now bs → ⊥) c.deref-3.ensures.value (match_false c.fits.result _ _ c.if-not-fits.true c.fits.ensures) in
    unfit_unplain s U c.args.phi.now c.args.callee c.args.face.now c.in_ok-bits.bits.items c.requires.callee least unfit

pub returns-then-not-are_met : goal.returns-then-not-are_met
returns-then-not-are_met g c =
    let s = g.G.Shapes.system c.args.groups.now in
    let U = g.G.GroupClauses.counting c.args.groups.now in
    let own : IsSetOf s U c.args.callee.group [] c.of-own.result.now = subst (λ (ls : List Literal). IsSetOf s U c.args.callee.group [] ls) (sym c.of-own.ensures) (c.requires.closures.each c.args.callee.group (let lt = c.requires.callee.group in omega arith)) in
    let set : IsSetOf s U c.args.callee.group c.in_ok-given.given.items c.deref-2.result.now =
    subst (λ (ls : List Literal). IsSetOf s U c.args.callee.group c.in_ok-given.given.items ls) (sym c.deref-2.ensures.value)
    (subst (λ (ls : List Literal). IsSetOf s U c.args.callee.group ls c.in_ok-lits.lits.items) c.deref.ensures.value (c.in_ok-lits.ensures s U c.args.callee.group c.requires.table own)) in
    let least = least_given s U c.args.phi.now c.args.callee c.args.face.now c.in_ok-bits.bits.items c.in_ok-given.given.items c.deref-2.result.now c.count-unknowns.result c.requires.phi c.requires.face c.in_ok-given.ensures.literals c.count-unknowns.ensures set c.in_ok-bits.ensures.each in
    let unmet : AreTrue (bit_at c.in_ok-bits.bits.items) c.args.table.now → ⊥ =
    subst (λ (bs : List Bool). AreTrue (bit_at bs) c.args.table.now → ⊥) c.deref-4.ensures.value (match_false c.are_met.result _ _ c.if-not-are_met.true c.are_met.ensures) in
    unmet_unplain s U c.args.phi.now c.args.callee c.args.face.now c.in_ok-bits.bits.items c.requires.callee least c.args.table.now c.requires.table c.requires.within unmet

pub returns : goal.returns
returns g c =
    let s = g.G.Shapes.system c.args.groups.now in
    let U = g.G.GroupClauses.counting c.args.groups.now in
    let own : IsSetOf s U c.args.callee.group [] c.of-own.result.now = subst (λ (ls : List Literal). IsSetOf s U c.args.callee.group [] ls) (sym c.of-own.ensures) (c.requires.closures.each c.args.callee.group (let lt = c.requires.callee.group in omega arith)) in
    let set : IsSetOf s U c.args.callee.group c.in_ok-given.given.items c.deref-2.result.now =
    subst (λ (ls : List Literal). IsSetOf s U c.args.callee.group c.in_ok-given.given.items ls) (sym c.deref-2.ensures.value)
    (subst (λ (ls : List Literal). IsSetOf s U c.args.callee.group ls c.in_ok-lits.lits.items) c.deref.ensures.value (c.in_ok-lits.ensures s U c.args.callee.group c.requires.table own)) in
    let least = least_given s U c.args.phi.now c.args.callee c.args.face.now c.in_ok-bits.bits.items c.in_ok-given.given.items c.deref-2.result.now c.count-unknowns.result c.requires.phi c.requires.face c.in_ok-given.ensures.literals c.count-unknowns.ensures set c.in_ok-bits.ensures.each in
    let fits : IsFitting s c.args.phi.now c.args.callee c.args.face.now c.in_ok-bits.bits.items =
    subst (λ (bs : List Bool). IsFitting s c.args.phi.now c.args.callee c.args.face.now bs) c.deref-3.ensures.value (match_true c.fits.result _ _ c.if-not-fits.false c.fits.ensures) in
    let met : AreTrue (bit_at c.in_ok-bits.bits.items) c.args.table.now =
    subst (λ (bs : List Bool). AreTrue (bit_at bs) c.args.table.now) c.deref-4.ensures.value (match_true c.are_met.result _ _ c.if-not-are_met.false c.are_met.ensures) in
    right_by s U c.args.phi.now c.args.callee c.args.face.now c.in_ok-bits.bits.items c.requires.callee least c.args.table.now c.requires.table (c.in_ok-bits.ensures.size ∙ c.count-unknowns.ensures) fits met
