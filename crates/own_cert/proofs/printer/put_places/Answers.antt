use Rattle.std.proofs.Common.{◌≡◌, ◌++◌, [], ◌∙◌, ap, codes, rules}
use Rattle.own_cert.specs.LineForms.{words_text}
use Rattle.own_cert.specs.Values.{IsRow}
use Rattle.own_cert.proofs.LineLemmas.{two}
use Rattle.own_cert.proofs.PrintLemmas.{place_put, place_words, row_small}
use Rattle.own_cert.proofs.RunLemmas.{more_pushed}
use Rattle.own_cert.proofs.printer.put_places.Goals as goal

pub loop-row-preserved : goal.loop-row-preserved
loop-row-preserved c =
    let l = c.loop-row in
    let row = c.row-item.result in
    let new = c.put_line.new.out.items in
    let added : new ≡ l.out.items ++ words_text (codes "place") (two row.proc row.place) row.bits = search rules in
    let is : IsRow row = row_small row [] (search rules) in
    record {
      text = place_put c.args.rows.now l.row-index row c.args.out.now.items l.out.items new c.loop-row-test.true c.row-item.is l.invariant.text (added ∙ ap (λ w. l.out.items ++ w) (place_words row));
      is = more_pushed c.args.rows.now l.row-index row c.loop-row-test.true c.row-item.is l.invariant.is is;
    }
