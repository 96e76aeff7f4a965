use Rattle.std.proofs.Common.{◌≡◌, ◌≢◌, Bool, true, false, not, List, length, Some, slice_get, refl, sym, ap, subst, ◌∙◌, arith}
use Rattle.std.proofs.lemmas.Bool.{false≢true}
use Rattle.std.proofs.lemmas.List.{take_all}
use Rattle.std.proofs.lemmas.Option.{slice_get_read}
use Rattle.std.specs.List.{Contains}
use Rattle.zo_core.specs.Literals.{Literal, opposite, literal_eq}
use Rattle.zo_core.specs.Equality.{literal_eq-true, literal_eq-of}
use Rattle.unit_refutation.specs.Numbers.{with_number}
use Rattle.unit_refutation.proofs.ListLemmas.{contains_at}
use Rattle.unit_refutation.proofs.CollectLemmas.{adds_none, adds_more, mark_adds, mark_is, marked_step}
use Rattle.unit_refutation.proofs.collecting.mark_denials.Goals as goal
use Rattle.unit_refutation.proofs.collecting.mark_denials.Goals.{then-ne, else-ne}

not_true : (x : Bool) → not x ≡ true → x ≡ false
not_true true e = cc
not_true false e = refl

not_false : (x : Bool) → not x ≡ false → x ≡ true
not_false true e = refl
not_false false e = cc

differs : (a lit : Literal) → not (literal_eq a lit) ≡ true → a ≢ lit
differs a lit ne e = false≢true (sym (not_true (literal_eq a lit) ne) ∙ literal_eq-of a lit e)

pub set-requires : goal.set-requires
set-requires c =
    let clause = c.args.clause.now in
    let i = c.loop-m.m-index in
    let m = c.m-item.result in
    let at : slice_get clause i ≡ Some m = slice_get_read clause (length clause) i m refl (omega arith) c.m-item.is in
    rw c.negated.ensures (c.loop-m.invariant.adds.room c.args.group (opposite m) (c.requires m (contains_at clause i m at) (differs m c.args.lit (sym c.ne.ensures ∙ c.if-ne.true))))

pub loop-m-preserved : goal.loop-m-preserved
loop-m-preserved c =
    let clause = c.args.clause.now in
    let i = c.loop-m.m-index in
    let m = c.m-item.result in
    let old = c.loop-m.marks in
    let inv = c.loop-m.invariant in
    let at : slice_get clause i ≡ Some m = slice_get_read clause (length clause) i m refl (omega arith) c.m-item.is in
    elim c.if-ne.branch [
      | then-ne w ↦
          let room = inv.adds.room c.args.group (opposite m) (c.requires m (contains_at clause i m at) (differs m c.args.lit (sym c.ne.ensures ∙ w.if-ne.true))) in
          let is = w.set.ensures ∙ ap (λ (l : Literal). with_number old c.args.group l 1) w.negated.ensures in
          let adds = mark_adds old c.args.group (opposite m) room in
          rw (w.marks-is, is) (record {
            adds = adds_more c.args.marks.now old (with_number old c.args.group (opposite m) 1) inv.adds adds;
            marked = marked_step old (with_number old c.args.group (opposite m) 1) clause i c.args.group c.args.lit m at adds inv.marked (λ ne. mark_is old c.args.group (opposite m) room);
          })
      | else-ne w ↦
          let same : m ≡ c.args.lit = literal_eq-true m c.args.lit (not_false _ (sym c.ne.ensures ∙ w.if-ne.false)) in
          rw w.marks-is (record {
            adds = inv.adds;
            marked = marked_step old old clause i c.args.group c.args.lit m at (adds_none old) inv.marked (λ ne. absurd (ne same));
          })
    ]

pub returns-clause-marked : goal.returns-clause-marked
returns-clause-marked c =
    λ m has ne. c.loop-m.invariant.marked m (subst (λ (ls : List Literal). Contains ls m) (sym (take_all c.loop-m.m-index c.args.clause.now (omega arith))) has) ne
