use Rattle.std.proofs.Common.{◌≡◌, ◌-◌, get_or, take, drop, sym, ap, ◌∙◌, arith}
use Rattle.transfer_rules.specs.Table.{start}
use Rattle.transfer_rules.proofs.Pieces.{is_within, cut_at}
use Rattle.transfer_rules.proofs.table.piece.Goals as goal

pub part-requires : goal.part-requires
part-requires c =
    let h = is_within 0 c.args.number c.args.ends.now c.args.lits.now c.requires.ends c.requires.within in
    let e = c.begin-from.ensures in
    let o = h.ordered in
    let w = h.within in
    record { ordered = omega arith; within = omega arith }

pub returns : goal.returns
returns c =
    let es = c.args.ends.now in
    let ls = c.args.lits.now in
    let n = c.args.number in
    let h = is_within 0 n es ls c.requires.ends c.requires.within in
    let e = c.begin-from.ensures in
    let none : start 0 es n ≡ start 0 es n - 0 = omega arith in
    c.part.ensures ∙ ap (λ k. take (get_or es n 0 - k) (drop k ls)) e ∙ ap (λ k. take (get_or es n 0 - start 0 es n) (drop k ls)) none
    ∙ sym (cut_at 0 n es ls c.requires.ends c.requires.within)
