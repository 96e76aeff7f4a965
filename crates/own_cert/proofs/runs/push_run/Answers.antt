use Rattle.std.proofs.Common.{◌≡◌, ◌+◌, ◌-◌, ◌++◌, ◌∷◌, [], ◌∙◌, ap, rules, arith}
use Rattle.own_cert.specs.Runs.{rows_from, places_in, rows_of, row_at}
use Rattle.own_cert.proofs.RunLemmas.{rows_extended}
use Rattle.own_cert.proofs.runs.push_run.Goals as goal

pub loop-place-preserved : goal.loop-place-preserved
loop-place-preserved c =
    let l = c.loop-place in
    let run = c.args.run in
    let bits = c.bits.inside.items.items in
    let items : c.push.new.self.items ≡ l.rows-inside.items.items ++ row_at run.proc bits l.place ∷ [] = search rules in
    rows_extended run.proc bits run.first (l.place - run.first) l.place (l.place + 1 - run.first) c.reserve.new.self.items l.rows-inside.items.items c.push.new.self.items
    (omega (arith, l.auto.place)) (omega (arith, l.auto.place)) l.invariant items

pub returns : goal.returns
returns c =
    let l = c.loop-place in
    let run = c.args.run in
    let bits = c.bits.inside.items.items in
    let rows = c.reserve.new.self.items in
    let same_bits : bits ≡ run.bits = search rules in
    let same_rows : rows ≡ c.args.rows.now = search rules in
    let items : c.push-2.new.self.items ≡ l.rows-inside.items.items ++ row_at run.proc bits run.last ∷ [] = search rules in
    rows_extended run.proc bits run.first (l.place - run.first) run.last (places_in run) rows l.rows-inside.items.items c.push-2.new.self.items
    (omega (arith, l.auto.place, c.requires, c.loop-place-test.false, l.auto.place-end)) (omega (arith, l.auto.place, c.requires, c.loop-place-test.false, l.auto.place-end)) l.invariant items
    ∙ ap (λ w. rows ++ rows_from run.proc w run.first (places_in run)) same_bits
    ∙ ap (λ w. w ++ rows_of run) same_rows
