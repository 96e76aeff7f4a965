use Rattle.std.proofs.Common.{◌≡◌, ◌<◌, ◌++◌, ◌∷◌, [], ◌∙◌, length, map, ap, sym, subst, codes, drop, get_or, rules, arith}
use Rattle.std.specs.List.{All}
use Rattle.own_cert.specs.declared.lines.Line.TheVariants as line
use Rattle.own_cert.specs.Text.{runs_of}
use Rattle.own_cert.specs.Runs.{more_of_run}
use Rattle.own_cert.specs.LineForms.{words_text}
use Rattle.own_cert.specs.Values.{IsRow}
use Rattle.conflict_proof.proofs.LineLemmas.{three}
use Rattle.own_cert.proofs.RunLemmas.{run_at, get_any}
use Rattle.own_cert.proofs.ReadLemmas.{bytes_of}
use Rattle.own_cert.proofs.PrintLemmas.{run_put, run_words, rows_before, none_left, row_small}
use Rattle.own_cert.proofs.printer.put_runs.Goals as goal

pub loop-first-preserved : goal.loop-first-preserved
loop-first-preserved c =
    let l = c.loop-first in
    let first = c.in-Some.first.now in
    let more = c.in-Some.more.now in
    let n = c.more_of_run-count.result in
    let last = c.index-rest-count.result in
    let new = c.put_line.new.out.items in
    let count : n ≡ more_of_run first more = c.more_of_run-count.ensures.count in
    let whole : l.rest.now ≡ first ∷ more = c.in-Some.ensures.cases.0 in
    let after : c.split_at.result.1.now ≡ drop (more_of_run first more) more = c.split_at.ensures.back ∙ ap (λ k. drop k more) count in
    let added : new ≡ l.out.items ++ words_text (codes "places") (three first.proc first.place last.place) first.bits = search rules in
    let is : IsRow first = row_small first (last.place ∷ []) (search rules) in
    let low : n < length l.rest.now = omega (arith, c.more_of_run-count.ensures.within, c.in-Some.ensures.cases.1) in
    let end : last.place ≡ (get_or l.rest.now (more_of_run first more) first).place =
    ap (λ r. r.place) (c.index-rest-count.is ∙ get_any l.rest.now n last first low ∙ ap (λ k. get_or l.rest.now k first) count) in
    let words = run_words (run_at first.proc first.bits first.place last.place) in
    record {
      text =
          ap (λ w. new ++ bytes_of (map line.Places (runs_of w))) after
          ∙ run_put first more l.rest.now last.place (c.args.out.now.items ++ bytes_of (map line.Places (runs_of c.args.rows.now))) l.out.items new whole end l.invariant.text
          (added ∙ ap (λ w. l.out.items ++ w) words);
      is = λ (others : All IsRow c.split_at.result.1.now).
          l.invariant.is (subst (All IsRow) (sym whole) (rows_before first more n is c.more_of_run-count.ensures.is (subst (All IsRow) c.split_at.ensures.back others)));
    }

pub returns-clause-is : goal.returns-clause-is
returns-clause-is c = c.loop-first.invariant.is (none_left c.loop-first.rest.now c.in_default.ensures.cases)
