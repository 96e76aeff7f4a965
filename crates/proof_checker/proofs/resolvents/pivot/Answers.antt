use Rattle.std.proofs.Common.{◌≡◌, ◌<◌, ◌≤◌, ◌⊎◌, inl, inr, length, arith, rules}
use Rattle.zo_core.specs.Literals.{Literal}
use Rattle.zo_core.proofs.Merging.{one_ends}
use Rattle.proof_checker.proofs.PivotLemmas.{AreNext, are_next, left-first, left-second, left-both, none_left}
use Rattle.proof_checker.proofs.resolvents.pivot.Goals as goal
use Rattle.proof_checker.proofs.resolvents.pivot.Goals.{then-loop-i-test+else-j-b, else-loop-i-test}

pub loop-i-preserved-then-number : goal.loop-i-preserved-then-number
loop-i-preserved-then-number c =
    let l : Literal = c.index-a-i.result in
    let m : Literal = c.index-b-j.result in
    let n : AreNext c.args.a.now c.args.b.now c.loop-i.i c.loop-i.j l m = are_next c.args.a.now c.args.b.now c.loop-i.i c.loop-i.j l m (omega arith) (omega arith) c.index-a-i.is c.index-b-j.is in
    let lt : l.var < m.var = omega arith in
    record {
      first = omega arith;
      second = omega arith;
      left = left-first c.args.a.now c.args.b.now c.loop-i.i c.loop-i.j l m n c.requires.second lt c.loop-i.invariant.left;
    }

pub loop-i-preserved-then-number-2 : goal.loop-i-preserved-then-number-2
loop-i-preserved-then-number-2 c =
    let l : Literal = c.index-a-i.result in
    let m : Literal = c.index-b-j.result in
    let n : AreNext c.args.a.now c.args.b.now c.loop-i.i c.loop-i.j l m = are_next c.args.a.now c.args.b.now c.loop-i.i c.loop-i.j l m (omega arith) (omega arith) c.index-a-i.is c.index-b-j.is in
    let lt : m.var < l.var = omega arith in
    record {
      first = omega arith;
      second = omega arith;
      left = left-second c.args.a.now c.args.b.now c.loop-i.i c.loop-i.j l m n c.requires.first lt c.loop-i.invariant.left;
    }

pub loop-i-preserved : goal.loop-i-preserved
loop-i-preserved c =
    let l : Literal = c.index-a-i.result in
    let m : Literal = c.index-b-j.result in
    let n : AreNext c.args.a.now c.args.b.now c.loop-i.i c.loop-i.j l m = are_next c.args.a.now c.args.b.now c.loop-i.i c.loop-i.j l m (omega arith) (omega arith) c.index-a-i.is c.index-b-j.is in
    let same : l.var ≡ m.var = omega arith in
    let signed : l.sign ≡ m.sign = search rules in
    record {
      first = omega arith;
      second = omega arith;
      left = left-both c.args.a.now c.args.b.now c.loop-i.i c.loop-i.j l m n c.requires.first c.requires.second same signed c.loop-i.invariant.left;
    }

pub returns : goal.returns
returns c =
    let ends : (length c.args.a.now ≤ c.loop-i.i) ⊎ (length c.args.b.now ≤ c.loop-i.j) =
    elim c.loop-i-test.branch [ then-loop-i-test+else-j-b w ↦ inr (omega arith) | else-loop-i-test w ↦ inl (omega arith) ] in
    none_left c.args.a.now c.args.b.now c.loop-i.i c.loop-i.j (one_ends c.loop-i.i c.loop-i.j c.args.a.now c.args.b.now ends) c.loop-i.invariant.left
