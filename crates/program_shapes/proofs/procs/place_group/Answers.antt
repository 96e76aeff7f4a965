use Rattle.std.proofs.Common.{◌≡◌, ℕ, ◌+◌, ◌<◌, ◌≤◌, List, length, get_or, set, sym, ap, subst, ◌∙◌, arith}
use Rattle.std.specs.List.{Contains}
use Rattle.std.proofs.lemmas.List.Elements.{Contains-get_or}
use Rattle.transfer_rules.specs.Programs.{group_at}
use Rattle.verdict_meaning.specs.Programs.{system_in}
use Rattle.program_shapes.specs.Tables.{IsProcOf}
use Rattle.program_shapes.proofs.Members.{group_ascends, member_body}
use Rattle.program_shapes.proofs.Placing.{IsPlacing, placing_next, placing_all}
use Rattle.program_shapes.proofs.procs.place_group.Goals as goal

pub index_mut-requires : goal.index_mut-requires
index_mut-requires c =
    let p = c.args.program.now in
    let member : Contains c.members-proc-items.result.now (get_or c.members-proc-items.result.now c.loop-proc.proc-index 0) = Contains-get_or c.members-proc-items.result.now c.loop-proc.proc-index 0 c.loop-proc-test.true in
    let body = member_body p.graph p.groups c.args.group (get_or c.members-proc-items.result.now c.loop-proc.proc-index 0) c.law.ensures.groups c.requires.group
    (subst (λ (ms : List ℕ). Contains ms (get_or c.members-proc-items.result.now c.loop-proc.proc-index 0)) c.members-proc-items.ensures member) in
    let size = c.loop-proc.invariant.size in
    let room = c.requires.room in
    omega (arith, c.loop-proc.procs.ok.0, c.args.procs.now.ok.0)

pub loop-proc-preserved : goal.loop-proc-preserved
loop-proc-preserved c =
    let p = c.args.program.now in
    let here = c.members-proc-items.ensures in
    let k = get_or c.members-proc-items.result.now c.loop-proc.proc-index 0 in
    let same : k ≡ get_or (group_at p.groups c.args.group) c.loop-proc.proc-index 0 = ap (λ (ms : List ℕ). get_or ms c.loop-proc.proc-index 0) here in
    let lt : c.loop-proc.proc-index < length (group_at p.groups c.args.group) = subst (λ (ms : List ℕ). c.loop-proc.proc-index < length ms) here c.loop-proc-test.true in
    let member : Contains (group_at p.groups c.args.group) (get_or (group_at p.groups c.args.group) c.loop-proc.proc-index 0) = Contains-get_or (group_at p.groups c.args.group) c.loop-proc.proc-index 0 lt in
    let body = member_body p.graph p.groups c.args.group (get_or (group_at p.groups c.args.group) c.loop-proc.proc-index 0) c.law.ensures.groups c.requires.group member in
    let size = c.loop-proc.invariant.size in
    let room = c.requires.room in
    subst (λ (n : ℕ). IsPlacing (system_in p) c.args.group (c.loop-proc.proc-index + 1) c.args.procs.now.items (set c.loop-proc.procs.items n c.proc_shape-shape.result) c.in_ok-before.before) (sym same)
    (placing_next (system_in p) c.args.group c.loop-proc.proc-index c.args.procs.now.items c.loop-proc.procs.items c.loop-proc.before (group_ascends p.graph p.groups c.args.group c.law.ensures.groups c.requires.group) lt c.loop-proc.invariant
    c.proc_shape-shape.result (subst (λ (n : ℕ). IsProcOf (system_in p) n c.loop-proc.before c.proc_shape-shape.result) same c.proc_shape-shape.ensures) (omega arith) c.in_ok-before.before c.in_ok-before.ensures)

pub returns : goal.returns
returns c =
    placing_all (system_in c.args.program.now) c.args.group c.loop-proc.proc-index c.args.procs.now.items c.loop-proc.procs.items c.loop-proc.before
    (subst (λ (ms : List ℕ). length ms ≤ c.loop-proc.proc-index) c.members-proc-items.ensures c.loop-proc-test.false) c.loop-proc.invariant
