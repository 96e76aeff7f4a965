use Rattle.std.proofs.Common.{◌≡◌, ◌<◌, ◌≤◌, ◌+◌, ◌-◌, ◌∙◌, length, take, get_or, sym, ap, subst, arith, rules}
use Rattle.own_cert.specs.Text.{runs_of}
use Rattle.own_cert.proofs.HolderLemmas.{Walks, holds_first, fewer_runs, walks_start, walks_first, walks_head, walks_place, walks_on, walks_end, stands}
use Rattle.own_cert.proofs.versions.line_in_2.Goals as goal

pub returns-then-line-le2-clause-holder : goal.returns-then-line-le2-clause-holder
returns-then-line-le2-clause-holder c =
    stands c.args.c.now c.args.line c.args.line c.requires.some c.requires.within (walks_first c.args.c.now c.args.line c.requires.some c.if-line-le2.true)

pub returns-then-line-le2-clause-all : goal.returns-then-line-le2-clause-all
returns-then-line-le2-clause-all c = holds_first c.args.c.now

pub loop-instance-init : goal.loop-instance-init
loop-instance-init c = walks_start c.args.c.now c.args.line c.if-line-le2.false c.requires.within

pub returns-then-left-le3-clause-holder : goal.returns-then-left-le3-clause-holder
returns-then-left-le3-clause-holder c =
    let l = c.loop-instance in
    let i = c.instance-item.result in
    let all : c.deref-instance-items.result.now ≡ c.args.c.now.instances = search rules in
    let low : l.instance-index < length c.args.c.now.instances = omega (arith, c.loop-instance-test.true, ap length all) in
    let here : i ≡ get_or c.args.c.now.instances l.instance-index i = c.instance-item.is ∙ ap (λ w. get_or w l.instance-index i) all in
    stands c.args.c.now c.args.line (l.at + l.left) c.requires.some c.requires.within (walks_head c.args.c.now c.args.line l.at l.left l.instance-index i low here l.invariant c.if-left-le3.true)

pub returns-then-left-le3-clause-all : goal.returns-then-left-le3-clause-all
returns-then-left-le3-clause-all c = holds_first c.args.c.now

pub overflow_add-result-then-place-rows-2 : goal.overflow_add-result-then-place-rows-2
overflow_add-result-then-place-rows-2 c =
    let l = c.loop-instance in
    let counted : c.count_runs.result ≡ length (runs_of c.split_at.result.0.now) = c.count_runs.ensures in
    omega (arith, counted, fewer_runs c.split_at.result.0.now, c.split_at.ensures.front_len, l.invariant.low, c.if-left-le3.false, c.ranges.line.fits)

pub returns-then-place-rows-clause-holder : goal.returns-then-place-rows-clause-holder
returns-then-place-rows-clause-holder c =
    let l = c.loop-instance in
    let i = c.instance-item.result in
    let all : c.deref-instance-items.result.now ≡ c.args.c.now.instances = search rules in
    let low : l.instance-index < length c.args.c.now.instances = omega (arith, c.loop-instance-test.true, ap length all) in
    let here : i ≡ get_or c.args.c.now.instances l.instance-index i = c.instance-item.is ∙ ap (λ w. get_or w l.instance-index i) all in
    let rows : c.as_slice-rows.result.now ≡ i.places = search rules in
    let long : length c.as_slice-rows.result.now ≡ length i.places = ap length rows in
    let counted : c.count_runs.result ≡ length (runs_of (take (l.left - 3) i.places)) =
    c.count_runs.ensures ∙ ap (λ w. length (runs_of w)) (c.split_at.ensures.front ∙ ap (take (l.left - 3)) rows) in
    stands c.args.c.now c.args.line (l.at + 3 + c.count_runs.result) c.requires.some c.requires.within
    (walks_place c.args.c.now c.args.line l.at l.left l.instance-index i low here l.invariant c.if-left-le3.false (omega (arith, c.if-place-rows.true, long)) ∙ omega (arith, counted))

pub returns-then-place-rows-clause-all : goal.returns-then-place-rows-clause-all
returns-then-place-rows-clause-all c = holds_first c.args.c.now

pub overflow_add-at : goal.overflow_add-at
overflow_add-at c =
    let l = c.loop-instance in
    let counted : c.count_runs-in-loop-instance.result ≡ length (runs_of c.as_slice-rows.result.now) = c.count_runs-in-loop-instance.ensures in
    omega (arith, counted, fewer_runs c.as_slice-rows.result.now, l.invariant.low, c.if-left-le3.false, c.if-place-rows.false, c.ranges.line.fits)

pub overflow_add-at-in-loop-instance : goal.overflow_add-at-in-loop-instance
overflow_add-at-in-loop-instance c =
    let l = c.loop-instance in
    let counted : c.count_runs-in-loop-instance.result ≡ length (runs_of c.as_slice-rows.result.now) = c.count_runs-in-loop-instance.ensures in
    omega (arith, counted, fewer_runs c.as_slice-rows.result.now, l.invariant.low, c.if-left-le3.false, c.if-place-rows.false, c.ranges.line.fits)

pub loop-instance-preserved : goal.loop-instance-preserved
loop-instance-preserved c =
    let l = c.loop-instance in
    let i = c.instance-item.result in
    let all : c.deref-instance-items.result.now ≡ c.args.c.now.instances = search rules in
    let low : l.instance-index < length c.args.c.now.instances = omega (arith, c.loop-instance-test.true, ap length all) in
    let here : i ≡ get_or c.args.c.now.instances l.instance-index i = c.instance-item.is ∙ ap (λ w. get_or w l.instance-index i) all in
    let rows : i.places ≡ c.as_slice-rows.result.now = search rules in
    let long : length i.places ≡ length c.as_slice-rows.result.now = ap length rows in
    let counted : length (runs_of i.places) ≡ c.count_runs-in-loop-instance.result = ap (λ w. length (runs_of w)) rows ∙ sym c.count_runs-in-loop-instance.ensures in
    let on = walks_on c.args.c.now c.args.line l.at l.left l.instance-index i low here l.invariant c.if-left-le3.false (omega (arith, c.if-place-rows.false, long)) in
    subst (λ n. Walks c.args.c.now c.args.line (l.at + (3 + n)) (l.left - 3 - length c.as_slice-rows.result.now) (l.instance-index + 1)) counted
    (subst (λ n. Walks c.args.c.now c.args.line (l.at + (3 + length (runs_of i.places))) (l.left - 3 - n) (l.instance-index + 1)) long on)

pub returns-clause-holder : goal.returns-clause-holder
returns-clause-holder c =
    let l = c.loop-instance in
    let all : c.deref-instance-items.result.now ≡ c.args.c.now.instances = search rules in
    let end : length c.args.c.now.instances ≤ l.instance-index = omega (arith, c.loop-instance-test.false, ap length all) in
    stands c.args.c.now c.args.line (l.at + l.left) c.requires.some c.requires.within (walks_end c.args.c.now c.args.line l.at l.left l.instance-index end l.invariant)

pub returns-clause-all : goal.returns-clause-all
returns-clause-all c = holds_first c.args.c.now
