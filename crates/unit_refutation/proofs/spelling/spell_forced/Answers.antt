use Rattle.std.proofs.Common.{◌≡◌, ◌≢◌, ℕ, ◌≤◌, Bool, true, false, not, List, length, Option, Some, slice_get, refl, sym, ap, subst, ◌∙◌, rules, arith}
use Rattle.std.proofs.lemmas.Bool.{false≢true}
use Rattle.std.proofs.lemmas.Option.{slice_get_read}
use Rattle.zo_core.specs.Literals.{Literal, literal_eq}
use Rattle.zo_core.specs.Equality.{literal_eq-true, literal_eq-of}
use Rattle.zo_core.specs.Order.{Ascends}
use Rattle.zo_core.specs.Resolvents.{without}
use Rattle.conflict_proof.specs.declared.derivation.How.TheVariants.{Axiom, Resolve}
use Rattle.unit_refutation.specs.Numbers.{number_of}
use Rattle.unit_refutation.specs.Lines.{Puts}
use Rattle.unit_refutation.proofs.ListLemmas.{contains_at}
use Rattle.unit_refutation.proofs.ClauseLemmas.{ascends_without}
use Rattle.unit_refutation.proofs.LineLemmas.{puts_within}
use Rattle.unit_refutation.proofs.SpellLemmas.{without-no_longer}
use Rattle.unit_refutation.proofs.StepLemmas.{roomy_clause, writing_same, reached_first, reached_first_over, reached_step, reached_step_over, reached_end}
use Rattle.unit_refutation.proofs.spelling.spell_forced.Goals as goal
use Rattle.unit_refutation.proofs.spelling.spell_forced.Goals.{then-ne+in_ok-rest-2+in_ok-put+in-Some-2, else-ne}

not_true : (x : Bool) → not x ≡ true → x ≡ false
not_true true e = cc
not_true false e = refl

not_false : (x : Bool) → not x ≡ false → x ≡ true
not_false true e = refl
not_false false e = cc

differs : (a lit : Literal) → not (literal_eq a lit) ≡ true → a ≢ lit
differs a lit ne e = false≢true (sym (not_true (literal_eq a lit) ne) ∙ literal_eq-of a lit e)

pub put-requires-clause-canonical : goal.put-requires-clause-canonical
put-requires-clause-canonical c = (roomy_clause c.args.numbers.now c.args.step.now c.args.name c.args.clause.now c.requires.room c.requires.cause).0

pub put-requires-clause-few : goal.put-requires-clause-few
put-requires-clause-few c = (roomy_clause c.args.numbers.now c.args.step.now c.args.name c.args.clause.now c.requires.room c.requires.cause).1

pub returns-in_default-clause-spells : goal.returns-in_default-clause-spells
returns-in_default-clause-spells c =
    let step = c.args.step.now in
    let put = subst (λ (n : Option ℕ). Puts step.group (Axiom c.args.name) c.args.clause.now c.args.writer.now c.put.new.self n) c.in_default.is c.in_ok-first.ensures in
    reached_first_over c.args.numbers.now step c.args.name c.args.clause.now c.args.writer.now c.put.new.self c.requires.cause c.requires.within put

pub loop-m-init : goal.loop-m-init
loop-m-init c =
    let step = c.args.step.now in
    let clause = c.args.clause.now in
    let items : c.in_ok-rest.rest.items ≡ clause = search rules in
    let room = roomy_clause c.args.numbers.now step c.args.name clause c.requires.room c.requires.cause in
    let put = subst (λ (n : Option ℕ). Puts step.group (Axiom c.args.name) clause c.args.writer.now c.put.new.self n) c.in-Some.is c.in_ok-first.ensures in
    record {
      within = puts_within step.group (Axiom c.args.name) clause c.args.writer.now c.put.new.self c.in-Some.first c.requires.within put;
      order = subst (λ (ls : List Literal). Ascends 0 ls) (sym items) room.0;
      few = subst (λ (ls : List Literal). length ls ≤ 3) (sym items) room.1;
      writing = reached_first c.args.numbers.now step c.args.name clause c.in_ok-rest.rest.items c.args.writer.now c.put.new.self c.in-Some.first c.requires.cause c.requires.within put items;
    }

pub get-denial-requires : goal.get-denial-requires
get-denial-requires c =
    let step = c.args.step.now in
    let clause = c.args.clause.now in
    let i = c.loop-m.m-index in
    let m = c.m-item.result in
    let at : slice_get clause i ≡ Some m = slice_get_read clause (length clause) i m refl (omega arith) c.m-item.is in
    let room = roomy_clause c.args.numbers.now step c.args.name clause c.requires.room c.requires.cause in
    rw c.negated.ensures (room.2 m (contains_at clause i m at) (differs m step.lit (sym c.ne.ensures ∙ c.if-ne.true)))

pub put-requires-then-ne-clause-canonical : goal.put-requires-then-ne-clause-canonical
put-requires-then-ne-clause-canonical c =
    let m = c.m-item.result in
    let e = c.deref-then-ne.ensures.value ∙ c.in_ok-rest-2.ensures ∙ ap (without m) c.deref.ensures.value in
    subst (λ (ls : List Literal). Ascends 0 ls) (sym e) (ascends_without 0 m c.loop-m.rest.items c.loop-m.invariant.order)

pub put-requires-then-ne-clause-few : goal.put-requires-then-ne-clause-few
put-requires-then-ne-clause-few c =
    let m = c.m-item.result in
    let e = c.deref-then-ne.ensures.value ∙ c.in_ok-rest-2.ensures ∙ ap (without m) c.deref.ensures.value in
    let n = ap length e in
    omega (arith, n, without-no_longer m c.loop-m.rest.items, c.loop-m.invariant.few)

pub returns-in-None-clause-spells : goal.returns-in-None-clause-spells
returns-in-None-clause-spells c =
    let step = c.args.step.now in
    let clause = c.args.clause.now in
    let i = c.loop-m.m-index in
    let m = c.m-item.result in
    let rest = c.loop-m.rest.items in
    let at : slice_get clause i ≡ Some m = slice_get_read clause (length clause) i m refl (omega arith) c.m-item.is in
    let e = c.deref-then-ne.ensures.value ∙ c.in_ok-rest-2.ensures ∙ ap (without m) c.deref.ensures.value in
    let second = c.get-denial.ensures.number ∙ ap (λ (l : Literal). number_of c.args.numbers.now step.group l) c.negated.ensures in
    let put = subst (λ (n : Option ℕ). Puts step.group (Resolve c.loop-m.number c.get-denial.result) (without m rest) c.loop-m.writer c.put-then-ne.new.self n) c.in-None.is
    (subst (λ (ls : List Literal). Puts step.group (Resolve c.loop-m.number c.get-denial.result) ls c.loop-m.writer c.put-then-ne.new.self c.in_ok-put.field-0) e c.in_ok-put.ensures) in
    reached_step_over c.args.numbers.now step c.args.name clause rest c.args.writer.now c.loop-m.writer c.put-then-ne.new.self i c.loop-m.number c.get-denial.result m c.requires.cause at
    (differs m step.lit (sym c.ne.ensures ∙ c.if-ne.true)) second put c.loop-m.invariant.writing

pub loop-m-preserved : goal.loop-m-preserved
loop-m-preserved c =
    let step = c.args.step.now in
    let clause = c.args.clause.now in
    let i = c.loop-m.m-index in
    let m = c.m-item.result in
    let rest = c.loop-m.rest.items in
    let at : slice_get clause i ≡ Some m = slice_get_read clause (length clause) i m refl (omega arith) c.m-item.is in
    elim c.if-ne.branch [
      | then-ne+in_ok-rest-2+in_ok-put+in-Some-2 w ↦
          let next = w.in_ok-rest-2.ensures ∙ ap (without m) w.deref.ensures.value in
          let e = w.deref-then-ne.ensures.value ∙ next in
          let second = w.get-denial.ensures.number ∙ ap (λ (l : Literal). number_of c.args.numbers.now step.group l) w.negated.ensures in
          let put = subst (λ (n : Option ℕ). Puts step.group (Resolve c.loop-m.number w.get-denial.result) (without m rest) c.loop-m.writer w.put-then-ne.new.self n) w.in-Some-2.is
          (subst (λ (ls : List Literal). Puts step.group (Resolve c.loop-m.number w.get-denial.result) ls c.loop-m.writer w.put-then-ne.new.self w.in_ok-put.field-0) e w.in_ok-put.ensures) in
          let size = ap length next in
          rw (w.writer-is, w.number-is, w.rest-is) (record {
            within = puts_within step.group (Resolve c.loop-m.number w.get-denial.result) (without m rest) c.loop-m.writer w.put-then-ne.new.self w.in-Some-2.n c.loop-m.invariant.within put;
            order = subst (λ (ls : List Literal). Ascends 0 ls) (sym next) (ascends_without 0 m rest c.loop-m.invariant.order);
            few = omega (arith, size, without-no_longer m rest, c.loop-m.invariant.few);
            writing = reached_step c.args.numbers.now step c.args.name clause rest w.in_ok-rest-2.rest.items c.args.writer.now c.loop-m.writer w.put-then-ne.new.self i c.loop-m.number w.get-denial.result w.in-Some-2.n m
                c.requires.cause at (differs m step.lit (sym c.ne.ensures ∙ w.if-ne.true)) second next put c.loop-m.invariant.writing;
          })
      | else-ne w ↦
          let same : m ≡ step.lit = literal_eq-true m step.lit (not_false _ (sym c.ne.ensures ∙ w.if-ne.false)) in
          rw (w.writer-is, w.number-is, w.rest-is) (record {
            within = c.loop-m.invariant.within;
            order = c.loop-m.invariant.order;
            few = c.loop-m.invariant.few;
            writing = λ s U trail place r.
                writing_same s U trail place step.group step.lit m clause i c.args.writer.now c.loop-m.writer c.loop-m.number rest at same (c.loop-m.invariant.writing s U trail place r);
          })
    ]

pub returns-clause-spells : goal.returns-clause-spells
returns-clause-spells c =
    reached_end c.args.numbers.now c.args.step.now c.args.name c.args.clause.now c.loop-m.m-index c.args.writer.now c.loop-m.writer c.loop-m.number c.loop-m.rest.items c.requires.cause (omega arith)
    c.loop-m.invariant.writing
