use Rattle.std.proofs.Common.{◌≡◌, ◌+◌, ◌∷◌, ◌++◌, [], ℕ, suc, List, Some, length, slice_get, refl, sym, subst, arith}
use Rattle.std.proofs.lemmas.Option.{slice_get_read}
use Rattle.conflict_proof.specs.declared.derivation.Line.{Line}
use Rattle.call_summary.specs.Trims.{IsBehind}
use Rattle.call_summary.specs.Joins.{IsIndexOf}
use Rattle.call_summary.proofs.Joints.{IsJoint, joint_begin, joint_skip, joint_add, joint_end}
use Rattle.call_summary.proofs.joining.joined.Goals as goal
use Rattle.call_summary.proofs.joining.joined.Goals.{then-line-root+in_ok-push, else-line-root+in_ok-add}

pub loop-line-init : goal.loop-line-init
loop-line-init c =
    let known = c.args.known.now in
    record {
      joint =
          subst (λ (ls : List Line). IsJoint c.args.root known c.args.more.now ls c.in_ok-numbers.numbers.items 0) (sym c.in_ok-lines.ensures.lines)
          (subst (λ (ns : List ℕ). IsJoint c.args.root known c.args.more.now known ns 0) (sym c.in_ok-numbers.ensures.items) (joint_begin c.args.root known c.args.more.now c.requires.once c.requires.groups));
      index = subst (λ (ls : List Line). IsIndexOf ls c.indexed.new.index) (sym c.in_ok-lines.ensures.lines) c.in_ok-lines.ensures.index;
    }

pub add-requires-clause-back : goal.add-requires-clause-back
add-requires-clause-back c =
    let item = c.line-item.result in
    let there : slice_get c.args.more.now c.loop-line.line-index ≡ Some item = slice_get_read c.args.more.now (length c.args.more.now) c.loop-line.line-index item refl c.loop-line-test.true c.line-item.is in
    subst (λ n. IsBehind item.how n) (sym c.loop-line.invariant.joint.count) (c.requires.back (suc c.loop-line.line-index) item there)

pub loop-line-preserved : goal.loop-line-preserved
loop-line-preserved c =
    let known = c.args.known.now in
    let more = c.args.more.now in
    let k = c.loop-line.line-index in
    let item = c.line-item.result in
    let there : slice_get more k ≡ Some item = slice_get_read more (length more) k item refl c.loop-line-test.true c.line-item.is in
    let next : suc k ≡ k + 1 = omega arith in
    record {
      joint = elim c.if-line-root.branch [
        | then-line-root+in_ok-push w ↦
            rw (w.lines-is, w.numbers-is, w.in_ok-push.ensures.items)
            (subst (λ n. IsJoint c.args.root known more c.loop-line.lines.items (c.loop-line.numbers.items ++ 0 ∷ []) n) next (joint_skip c.args.root known more c.loop-line.lines.items c.loop-line.numbers.items k c.loop-line.invariant.joint item there w.if-line-root.true))
        | else-line-root+in_ok-add w ↦
            rw (w.lines-is, w.numbers-is)
            (subst (λ n. IsJoint c.args.root known more w.add.new.lines.items w.add.new.numbers.items n) next
            (joint_add c.args.root known more c.loop-line.lines.items c.loop-line.numbers.items k c.loop-line.invariant.joint item there w.if-line-root.false w.add.new.lines.items w.add.new.numbers.items w.in_ok-add.ensures.added))
      ];
      index = elim c.if-line-root.branch [
        | then-line-root+in_ok-push w ↦ rw (w.lines-is, w.index-is) c.loop-line.invariant.index
        | else-line-root+in_ok-add w ↦ rw (w.lines-is, w.index-is) w.in_ok-add.ensures.index
      ];
    }

pub returns : goal.returns
returns c =
    let all : c.loop-line.line-index ≡ length c.args.more.now = omega (arith, c.loop-line-test.false, c.loop-line.auto.line-index-end) in
    joint_end c.args.root c.args.known.now c.args.more.now c.loop-line.lines.items c.loop-line.numbers.items
    (subst (λ n. IsJoint c.args.root c.args.known.now c.args.more.now c.loop-line.lines.items c.loop-line.numbers.items n) all c.loop-line.invariant.joint)
