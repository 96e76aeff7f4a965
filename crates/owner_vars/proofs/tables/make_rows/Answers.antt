use Rattle.std.proofs.Common.{◌≡◌, ◌*◌, suc, get_or, ap, ◌∙◌, arith}
use Rattle.owner_vars.specs.Tables.{Rows, rows_size}
use Rattle.owner_vars.proofs.Sizes.{all_rows_small}
use Rattle.owner_vars.proofs.tables.make_rows.Goals as goal

pub overflow_add-end : goal.overflow_add-end
overflow_add-end c =
    let l = c.loop-member in
    let g = c.args.graph.now in
    let a = all_rows_small g c.law.ensures.graph c.args.members.now c.requires.ascend c.requires.bodies (suc l.member-index) (omega arith) in
    let rows = c.rows.view_is ∙ c.in_ok-rows.ensures in
    let size : c.from.result * c.from-in-loop-member.result ≡ rows_size g (get_or c.args.members.now l.member-index 0) =
    ap (λ n. n * c.from-in-loop-member.result) c.from.ensures ∙ ap (λ n. c.rows.inside.places * n) c.from-in-loop-member.ensures ∙ ap (λ (r : Rows). r.places * r.width) rows in
    omega (arith, a, size, l.invariant.end, c.requires.fits)
