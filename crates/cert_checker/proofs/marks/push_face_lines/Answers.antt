use Rattle.std.proofs.Common.{◌≡◌, ℕ, ◌+◌, ◌++◌, List, get_or, take, replicate, sym, ap, ◌∙◌, arith, subst}
use Rattle.cert_checker.proofs.MarkLemmas.{one_more_part}
use Rattle.verdict_meaning.specs.Systems.{System}
use Rattle.cert_checker.proofs.marks.push_face_lines.Goals as goal

pub loop-proc-preserved : goal.loop-proc-preserved
loop-proc-preserved g c =
    let s : System = g.G.Groups.system c.args.groups.now in
    one_more_part s.parts c.members-members.result.now c.args.lines.now.items c.loop-proc.lines.items c.push_copies.new.lines.items c.loop-proc.proc-index 0 c.args.line c.loop-proc-test.true c.loop-proc.invariant
    (c.in_ok-push_copies.ensures ∙ ap (λ (n : ℕ). c.loop-proc.lines.items ++ replicate n c.args.line) c.face.ensures.count)
