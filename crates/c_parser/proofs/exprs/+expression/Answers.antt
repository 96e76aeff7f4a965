use Rattle.std.proofs.Common.{◌≡◌, ◌≤◌, ◌<◌, ◌-◌, ℕ, suc, List, ◌∷◌, length, ap, refl, sym, ◌∙◌, subst, add-one, Some, None, arith}
use Rattle.std.specs.Prelude.{codes, true, false}
use Rattle.c_tree.specs.View.{exprs_view}
use Rattle.c_tree.specs.Plain as tree
use Rattle.c_tree.specs.Plain.{no_exprs}
use Rattle.c_grammar.specs.Exprs.{called, allocated, expr_line}
use Rattle.c_grammar.specs.Parts.{Part}
use Rattle.c_tree.specs.declared.position.Span.{Span}
use Rattle.c_grammar.specs.Reading.{after_mark, is_word, is_mark}
use Rattle.c_grammar.specs.ReadExprs.{stage, read_line, read_primary, find, operations}
use Rattle.c_parser.specs.Views.{front_of, found_of, expr_part, args_row, size_row, allocation_part, finder}
use Rattle.c_parser.proofs.Lookups.{mark_shorter}
use Rattle.c_parser.proofs.Loops.{joined, view_one, args_last, args_more, operations_refused, operand_deep, operand_refused, steps_end}
use Rattle.c_parser.proofs.Stages.{line_at_none, line_below, line_refused, higher_refused, line_shorter, refused, paren_cast, allocation_malloc, allocation_calloc, allocation_other, nothing_allocated, primary_call, primary_first, args_none, args_below, size_units, size_none, size_below, higher_rise, first_not, first_neg}
use Rattle.c_parser.proofs.exprs.+expression.Goals as goal
use Rattle.c_parser.proofs.exprs.+expression.Goals.{allocation-else-limit-gt0-via-then-limit-gt0+else-is_word, allocation-else-limit-gt0-via-else-limit-gt0, allocation-else-limit-gt1-via-then-limit-gt1+else-is_word-2, allocation-else-limit-gt1-via-else-limit-gt1, unary-then-is_not-via-then-is_not, unary-then-is_not-via-else-is_not+then-is_mark}

pub args-returns-in_default-clause-read : goal.args-returns-in_default-clause-read
args-returns-in_default-clause-read t c =
    let inv = c.loop-items.invariant.read in
    let p = expr_part c.in_ok-arg.arg in
    let read = c.in_ok-arg.ensures.read in
    let less : length p.rest < length c.loop-items.rest.now = line_shorter c.args.limit expr_line c.loop-items.rest.now p read in
    let shown : exprs_view c.push.new.self ≡ joined (exprs_view c.loop-items.items) (tree.expr p.tree no_exprs) =
    ap exprs_view c.in_ok-push.ensures.ok ∙ view_one c.loop-items.items c.in_ok-arg.arg.tree in
    let none : after_mark (codes ",") p.rest ≡ None = sym (rw c.in_default.is at c.after_mark-in-loop-items.ensures) in
    rw (shown, c.max-depth.ensures)
    (inv.2 ∙ args_last inv.0 ((stage c.args.limit).line expr_line) (exprs_view c.loop-items.items) c.loop-items.depth c.loop-items.rest.now p (omega arith) read none)

pub args-loop-items-smaller : goal.args-loop-items-smaller
args-loop-items-smaller t c =
    let p = expr_part c.in_ok-arg.arg in
    let less : length p.rest < length c.loop-items.rest.now = line_shorter c.args.limit expr_line c.loop-items.rest.now p c.in_ok-arg.ensures.read in
    let comma : length c.in-Some.comma.rest.now < length p.rest = mark_shorter (codes ",") p.rest (front_of c.in-Some.comma) (sym c.in-Some.ensures) in
    omega (arith, less, comma)

pub args-loop-items-preserved : goal.args-loop-items-preserved
args-loop-items-preserved t c =
    let inv = c.loop-items.invariant.read in
    let p = expr_part c.in_ok-arg.arg in
    let read = c.in_ok-arg.ensures.read in
    let less : length p.rest < length c.loop-items.rest.now = line_shorter c.args.limit expr_line c.loop-items.rest.now p read in
    let comma : length c.in-Some.comma.rest.now < length p.rest = mark_shorter (codes ",") p.rest (front_of c.in-Some.comma) (sym c.in-Some.ensures) in
    let shown : exprs_view c.push.new.self ≡ joined (exprs_view c.loop-items.items) (tree.expr p.tree no_exprs) =
    ap exprs_view c.in_ok-push.ensures.ok ∙ view_one c.loop-items.items c.in_ok-arg.arg.tree in
    let next = args_more inv.0 ((stage c.args.limit).line expr_line) (exprs_view c.loop-items.items) c.loop-items.depth c.loop-items.rest.now p (front_of c.in-Some.comma)
    inv.1 (omega (arith, less, comma)) read (sym c.in-Some.ensures) in
    record {
      within = rw c.max-depth.ensures (omega (arith, c.in_ok-arg.ensures.within));
      read = (next.0, next.1, rw (shown, c.max-depth.ensures) (inv.2 ∙ next.2));
    }

pub enclosed-returns-in_err-new-clause-read : goal.enclosed-returns-in_err-new-clause-read
enclosed-returns-in_err-new-clause-read t c =
    let begins = sym c.begins_base.ensures ∙ c.if-begins_base.true in
    refused expr_part _ _ _ _ c.from_residual-in_err-new.ensures.1 c.in_err-new.ensures.read
    (λ none. paren_cast (stage c.args.limit) c.args.opening.now c.args.tokens.now _ begins c.in_ok-cast.ensures ∙ rw none refl)

pub enclosed-returns-then-begins_base-clause-read :
    goal.enclosed-returns-then-begins_base-clause-read
enclosed-returns-then-begins_base-clause-read t c =
    let begins = sym c.begins_base.ensures ∙ c.if-begins_base.true in
    paren_cast (stage c.args.limit) c.args.opening.now c.args.tokens.now _ begins c.in_ok-cast.ensures ∙ rw (c.in_ok-new.ensures.read) (ap (λ (p : Part tree.Expr). Some p)
    (sym (c.in_ok-allocated.ensures ∙ ap (λ (at : Span). allocated (Some c.in_ok-cast.cast.kind) at (allocation_part c.in_ok-new.new)) c.join-at.ensures)))

pub line-returns-then-limit-eq0-clause-read : goal.line-returns-then-limit-eq0-clause-read
line-returns-then-limit-eq0-clause-read t c = rw c.if-limit-eq0.true (line_at_none c.args.number c.args.tokens.now)

pub line-returns-in_err-left-clause-read : goal.line-returns-in_err-left-clause-read
line-returns-in_err-left-clause-read t c =
    let some : 0 < c.args.limit = omega (arith, c.if-limit-eq0.false) in
    let d = c.args.limit - 1 in
    refused expr_part _ _ _ _ c.from_residual.ensures.1 c.in_err-left.ensures.read
    (λ none. line_below c.args.limit c.args.number c.args.tokens.now some ∙ line_refused (stage d) d c.args.number c.args.tokens.now none)

pub line-returns-in_err-left-2-clause-read : goal.line-returns-in_err-left-2-clause-read
line-returns-in_err-left-2-clause-read t c =
    let some : 0 < c.args.limit = omega (arith, c.if-limit-eq0.false) in
    let d = c.args.limit - 1 in
    let k = c.loop-below.below in
    let less : suc k ≤ c.args.number = omega (arith, c.loop-below-test.true) in
    refused expr_part _ _ _ _ c.from_residual-in_err-left-2.ensures.1 c.in_err-left-2.ensures.read
    (λ none. line_below c.args.limit c.args.number c.args.tokens.now some ∙
    higher_refused (stage d) d (suc k) c.args.number c.args.tokens.now less (rw c.loop-below.invariant.read none))

pub line-returns-clause-read : goal.line-returns-clause-read
line-returns-clause-read t c =
    let some : 0 < c.args.limit = omega (arith, c.if-limit-eq0.false) in
    let d = c.args.limit - 1 in
    let all : c.loop-below.below ≡ c.args.number = omega (arith, c.loop-below.auto.below-end, c.loop-below-test.false) in
    let P : ℕ → Type 0 = λ n. read_line (stage d) d n c.args.tokens.now ≡ Some (expr_part c.loop-below.left) in
    line_below c.args.limit c.args.number c.args.tokens.now some ∙ subst P all c.loop-below.invariant.read

pub operations-loop-found-init : goal.operations-loop-found-init
operations-loop-found-init t c = record { within = omega arith; read = (suc c.args.limit, omega arith, refl) }

pub operations-returns-then-left-limit-clause-read :
    goal.operations-returns-then-left-limit-clause-read
operations-returns-then-left-limit-clause-read t c =
    let inv = c.loop-found.invariant.read in
    let p = expr_part c.loop-found.left in
    let f = found_of c.in-Some.found in
    let k = c.args.below in
    let found : finder c.args.before_unit (suc k) p.rest ≡ Some f = ap (λ (n : ℕ). finder c.args.before_unit n p.rest) (sym (add-one k)) ∙ sym c.in-Some.ensures in
    let read = (stage c.args.limit).line k in
    sym inv.2 ∙ operations_refused inv.0 (finder c.args.before_unit (suc k)) read c.args.limit p f found
    (operand_deep read c.args.limit p f c.if-left-limit.true)

pub operations-returns-in_err-right-clause-read : goal.operations-returns-in_err-right-clause-read
operations-returns-in_err-right-clause-read t c =
    let inv = c.loop-found.invariant.read in
    let p = expr_part c.loop-found.left in
    let f = found_of c.in-Some.found in
    let k = c.args.below in
    let found : finder c.args.before_unit (suc k) p.rest ≡ Some f = ap (λ (n : ℕ). finder c.args.before_unit n p.rest) (sym (add-one k)) ∙ sym c.in-Some.ensures in
    let read = (stage c.args.limit).line k in
    refused expr_part _ _ _ _ c.from_residual.ensures.1 c.in_err-right.ensures.read
    (λ none. sym inv.2 ∙ operations_refused inv.0 (finder c.args.before_unit (suc k)) read c.args.limit p f found
    (operand_refused read c.args.limit p f c.if-left-limit.false none))

pub allocation-returns-in_default-clause-read : goal.allocation-returns-in_default-clause-read
allocation-returns-in_default-clause-read t c = rw c.in_default.ensures (nothing_allocated c.args.limit)

pub allocation-returns-then-is_word-clause-read : goal.allocation-returns-then-is_word-clause-read
allocation-returns-then-is_word-clause-read t c =
    let some : 0 < c.args.limit = omega arith in
    let is : is_word (codes "malloc") c.in-Some.front.token.now.kind ≡ true = cc in
    rw (c.in-Some.ensures, allocation_malloc c.args.limit c.in-Some.front.token.now c.in-Some.front.rest.now some is) c.malloc.ensures.read

pub allocation-returns-in_err-opening-clause-read :
    goal.allocation-returns-in_err-opening-clause-read
allocation-returns-in_err-opening-clause-read t c =
    let some : 0 < c.args.limit = omega arith in
    let is : is_word (codes "calloc") c.in-Some.front.token.now.kind ≡ true = cc in
    refused allocation_part _ _ _ _ c.from_residual.ensures.1 c.in_err-opening.ensures
    (λ none. rw c.in-Some.ensures (allocation_calloc c.args.limit c.in-Some.front.token.now c.in-Some.front.rest.now some is ∙ rw none refl))

pub allocation-returns-in_err-count-clause-read : goal.allocation-returns-in_err-count-clause-read
allocation-returns-in_err-count-clause-read t c =
    let some : 0 < c.args.limit = omega arith in
    let is : is_word (codes "calloc") c.in-Some.front.token.now.kind ≡ true = cc in
    refused allocation_part _ _ _ _ c.from_residual-in_err-count.ensures.1 c.in_err-count.ensures.read
    (λ none. rw c.in-Some.ensures (allocation_calloc c.args.limit c.in-Some.front.token.now c.in-Some.front.rest.now some is ∙ rw (c.in_ok-opening.ensures, none) refl))

pub allocation-returns-then-is_word-2-clause-read :
    goal.allocation-returns-then-is_word-2-clause-read
allocation-returns-then-is_word-2-clause-read t c =
    let some : 0 < c.args.limit = omega arith in
    let is : is_word (codes "calloc") c.in-Some.front.token.now.kind ≡ true = cc in
    rw (c.in-Some.ensures, allocation_calloc c.args.limit c.in-Some.front.token.now c.in-Some.front.rest.now some is, c.in_ok-opening.ensures, c.in_ok-count.ensures.read) c.calloc_rest.ensures.read

pub allocation-returns-clause-read : goal.allocation-returns-clause-read
allocation-returns-clause-read t c =
    let k = c.in-Some.front.token.now.kind in
    rw c.in-Some.ensures (allocation_other c.args.limit c.in-Some.front.token.now c.in-Some.front.rest.now
    (λ some. elim c.else-limit-gt0.branch [
      | allocation-else-limit-gt0-via-then-limit-gt0+else-is_word w ↦ sym w.is_word.ensures ∙ w.if-is_word.false
      | allocation-else-limit-gt0-via-else-limit-gt0 w ↦ absurd (omega (arith, some, w.if-limit-gt0.false))
    ])
    (λ some. elim c.else-limit-gt1.branch [
      | allocation-else-limit-gt1-via-then-limit-gt1+else-is_word-2 w ↦ sym w.is_word-then-limit-gt1.ensures ∙ w.if-is_word-2.false
      | allocation-else-limit-gt1-via-else-limit-gt1 w ↦ absurd (omega (arith, some, w.if-limit-gt1.false))
    ]))

pub primary-returns-then-limit-eq0-clause-read : goal.primary-returns-then-limit-eq0-clause-read
primary-returns-then-limit-eq0-clause-read t c =
    let none : (stage c.args.limit).args c.in-Some.front.rest.now ≡ None = rw c.if-limit-eq0.true (args_none c.in-Some.front.rest.now) in
    rw c.in-Some.ensures (primary_call (stage c.args.limit) c.in-Some.front.token.now c.in-Some.front.rest.now c.in-Name.name _ c.in-Name.is (sym c.in-Some-after_mark.ensures)
    ∙ rw none refl)

pub primary-returns-in_err-args-in-Name-clause-read : goal.primary-returns-in_err-args-in-Name-clause-read
primary-returns-in_err-args-in-Name-clause-read t c =
    let some : 0 < c.args.limit = omega (arith, c.if-limit-eq0.false) in
    let q = front_of c.in-Some-after_mark.opening in
    let rest = c.in-Some.front.rest.now in
    refused expr_part _ _ _ _ c.from_residual-in_err-args-in-Name.ensures.1 c.in_err-args-in-Name.ensures.read
    (λ none. rw c.in-Some.ensures (primary_call (stage c.args.limit) c.in-Some.front.token.now rest c.in-Name.name q c.in-Name.is (sym c.in-Some-after_mark.ensures)
    ∙ rw (args_below c.args.limit rest q some (sym c.in-Some-after_mark.ensures), none) refl))

pub primary-returns-in_err-closing-in-Name-clause-read : goal.primary-returns-in_err-closing-in-Name-clause-read
primary-returns-in_err-closing-in-Name-clause-read t c =
    let some : 0 < c.args.limit = omega (arith, c.if-limit-eq0.false) in
    let q = front_of c.in-Some-after_mark.opening in
    let rest = c.in-Some.front.rest.now in
    refused expr_part _ _ _ _ c.from_residual-in_err-closing-in-Name.ensures.1 c.in_err-closing-in-Name.ensures
    (λ none. rw c.in-Some.ensures (primary_call (stage c.args.limit) c.in-Some.front.token.now rest c.in-Name.name q c.in-Name.is (sym c.in-Some-after_mark.ensures)
    ∙ rw (args_below c.args.limit rest q some (sym c.in-Some-after_mark.ensures), c.in_ok-args-in-Name.ensures.read, none) refl))

pub primary-returns-then-limit-eq0-2-clause-read : goal.primary-returns-then-limit-eq0-2-clause-read
primary-returns-then-limit-eq0-2-clause-read t c =
    rw (c.in-Some.ensures, c.if-limit-eq0-2.true) (primary_first c.in-Some.front.token.now c.in-Some.front.rest.now c.in-Mark.field-0 c.in-Mark.is)

pub primary-returns-in_ok-closing-in-Name-clause-read : goal.primary-returns-in_ok-closing-in-Name-clause-read
primary-returns-in_ok-closing-in-Name-clause-read t c =
    let some : 0 < c.args.limit = omega (arith, c.if-limit-eq0.false) in
    let q = front_of c.in-Some-after_mark.opening in
    let rest = c.in-Some.front.rest.now in
    let closing = c.in_ok-closing-in-Name.closing in
    let made : expr_part c.called.result
    ≡ called c.in-Some.front.token.now c.in_ok-name-in-Name.name (args_row c.in_ok-args-in-Name.args) closing.token.now closing.rest.now = c.called.ensures in
    let read : read_primary (stage c.args.limit) (c.in-Some.front.token.now ∷ rest)
    ≡ Some (called c.in-Some.front.token.now c.in-Name.name (args_row c.in_ok-args-in-Name.args) closing.token.now closing.rest.now) =
    primary_call (stage c.args.limit) c.in-Some.front.token.now rest c.in-Name.name q c.in-Name.is (sym c.in-Some-after_mark.ensures)
    ∙ rw (args_below c.args.limit rest q some (sym c.in-Some-after_mark.ensures), c.in_ok-args-in-Name.ensures.read, c.in_ok-closing-in-Name.ensures) refl in
    rw (c.in-Some.ensures, read) (ap (λ (p : Part tree.Expr). Some p)
    (sym (made ∙ ap (λ (x : List ℕ). called c.in-Some.front.token.now x (args_row c.in_ok-args-in-Name.args) closing.token.now closing.rest.now) c.in_ok-name-in-Name.ensures)))

pub size-returns-in_err-unit-clause-read : goal.size-returns-in_err-unit-clause-read
size-returns-in_err-unit-clause-read t c =
    let begins = sym c.begins_sizeof.ensures ∙ c.if-begins_sizeof.true in
    refused size_row _ _ _ _ c.from_residual.ensures.1 c.in_err-unit.ensures.read
    (λ none. size_units c.args.limit c.args.tokens.now begins ∙ rw none refl)

pub size-returns-then-begins_sizeof-clause-read : goal.size-returns-then-begins_sizeof-clause-read
size-returns-then-begins_sizeof-clause-read t c =
    let begins = sym c.begins_sizeof.ensures ∙ c.if-begins_sizeof.true in
    rw (size_units c.args.limit c.args.tokens.now begins, c.in_ok-unit.ensures.read) c.units.ensures.read

pub size-returns-then-limit-eq0-clause-read : goal.size-returns-then-limit-eq0-clause-read
size-returns-then-limit-eq0-clause-read t c =
    let begins = sym c.begins_sizeof.ensures ∙ c.if-begins_sizeof.false in
    rw c.if-limit-eq0.true (size_none c.args.tokens.now begins)

pub size-returns-in_err-first-clause-read : goal.size-returns-in_err-first-clause-read
size-returns-in_err-first-clause-read t c =
    let begins = sym c.begins_sizeof.ensures ∙ c.if-begins_sizeof.false in
    let some : 0 < c.args.limit = omega (arith, c.if-limit-eq0.false) in
    refused size_row _ _ _ _ c.from_residual-in_err-first.ensures.1 c.in_err-first.ensures.read
    (λ none. size_below c.args.limit c.args.tokens.now some ∙ rw (begins, none) refl)

pub size-returns-in_err-count-clause-read : goal.size-returns-in_err-count-clause-read
size-returns-in_err-count-clause-read t c =
    let begins = sym c.begins_sizeof.ensures ∙ c.if-begins_sizeof.false in
    let some : 0 < c.args.limit = omega (arith, c.if-limit-eq0.false) in
    refused size_row _ _ _ _ c.from_residual-in_err-count.ensures.1 c.in_err-count.ensures.read
    (λ none. size_below c.args.limit c.args.tokens.now some ∙ rw (begins, c.in_ok-first.ensures.read, none) refl)

pub size-returns-in_err-unit-2-clause-read : goal.size-returns-in_err-unit-2-clause-read
size-returns-in_err-unit-2-clause-read t c =
    let begins = sym c.begins_sizeof.ensures ∙ c.if-begins_sizeof.false in
    let some : 0 < c.args.limit = omega (arith, c.if-limit-eq0.false) in
    refused size_row _ _ _ _ c.from_residual-in_err-unit-2.ensures.1 c.in_err-unit-2.ensures.read
    (λ none. size_below c.args.limit c.args.tokens.now some ∙ rw (begins, c.in_ok-first.ensures.read, c.in_ok-count.ensures.read, sym c.in-Some.ensures, none) refl)

pub size-returns-in-Some-clause-read : goal.size-returns-in-Some-clause-read
size-returns-in-Some-clause-read t c =
    let begins = sym c.begins_sizeof.ensures ∙ c.if-begins_sizeof.false in
    let some : 0 < c.args.limit = omega (arith, c.if-limit-eq0.false) in
    size_below c.args.limit c.args.tokens.now some
    ∙ rw (begins, c.in_ok-first.ensures.read, c.in_ok-count.ensures.read, sym c.in-Some.ensures, c.in_ok-unit-2.ensures.read, c.max.ensures) refl

pub size-returns-in_err-bytes-clause-read : goal.size-returns-in_err-bytes-clause-read
size-returns-in_err-bytes-clause-read t c =
    let begins = sym c.begins_sizeof.ensures ∙ c.if-begins_sizeof.false in
    let some : 0 < c.args.limit = omega (arith, c.if-limit-eq0.false) in
    refused size_row _ _ _ _ c.from_residual-in_err-bytes.ensures.1 c.in_err-bytes.ensures.read
    (λ none. size_below c.args.limit c.args.tokens.now some ∙ rw (begins, c.in_ok-first.ensures.read, c.in_ok-count.ensures.read, sym c.in_default.ensures, none) refl)

pub size-returns-clause-read : goal.size-returns-clause-read
size-returns-clause-read t c =
    let begins = sym c.begins_sizeof.ensures ∙ c.if-begins_sizeof.false in
    let some : 0 < c.args.limit = omega (arith, c.if-limit-eq0.false) in
    size_below c.args.limit c.args.tokens.now some
    ∙ rw (begins, c.in_ok-first.ensures.read, c.in_ok-count.ensures.read, sym c.in_default.ensures, c.in_ok-bytes.ensures.read) refl

pub steps-loop-parser-init : goal.steps-loop-parser-init
steps-loop-parser-init t c = record { within = omega arith; read = (suc c.args.limit, omega arith, refl) }

pub steps-returns-clause-read : goal.steps-returns-clause-read
steps-returns-clause-read t c =
    let inv = c.loop-parser.invariant.read in
    sym inv.2 ∙ steps_end inv.0 ((stage c.args.limit).line expr_line) c.args.limit (expr_part c.loop-parser.part) (sym c.loop-parser-test.ensures)

pub sum_of-returns-in_err-left-clause-read : goal.sum_of-returns-in_err-left-clause-read
sum_of-returns-in_err-left-clause-read t c =
    let less : suc c.loop-line.line ≤ 5 = omega (arith, c.loop-line-test.true) in
    refused expr_part _ _ _ _ c.from_residual.ensures.1 c.in_err-left.ensures.read
    (λ none. higher_rise (stage c.args.limit) c.args.limit (suc c.loop-line.line) 5 (expr_part c.args.product) less
    (rw c.loop-line.invariant.read
    (let P : ℕ → Type 0 = λ n. operations (suc c.args.limit) (find (suc n)) ((stage c.args.limit).line n) c.args.limit (expr_part c.loop-line.left) ≡ None in
    subst P (add-one c.loop-line.line) none)))

pub sum_of-loop-line-preserved : goal.sum_of-loop-line-preserved
sum_of-loop-line-preserved t c =
    let P : ℕ → Type 0 =
    λ n. operations (suc c.args.limit) (find (suc n)) ((stage c.args.limit).line n) c.args.limit (expr_part c.loop-line.left) ≡ Some (expr_part c.in_ok-left.left) in
    let next = subst P (add-one c.loop-line.line) c.in_ok-left.ensures.read in
    record { within = c.in_ok-left.ensures.within; read = rw (add-one c.loop-line.line, c.loop-line.invariant.read) next }

pub unary-returns-then-limit-eq0-clause-read : goal.unary-returns-then-limit-eq0-clause-read
unary-returns-then-limit-eq0-clause-read t c =
    let front = c.in-Some.front in
    rw (c.in-Some.ensures, c.if-limit-eq0.true) (elim c.then-is_not.branch [
      | unary-then-is_not-via-then-is_not w ↦
          let is : is_mark (codes "!") front.token.now.kind ≡ true = cc in first_not front.token.now front.rest.now is
      | unary-then-is_not-via-else-is_not+then-is_mark w ↦
          let other : is_mark (codes "!") front.token.now.kind ≡ false = cc in
          let is : is_mark (codes "-") front.token.now.kind ≡ true = cc in first_neg front.token.now front.rest.now other is
    ])

pub units-returns-then-limit-eq0-clause-read : goal.units-returns-then-limit-eq0-clause-read
units-returns-then-limit-eq0-clause-read t c = rw (sym c.in-Some.ensures, c.if-limit-eq0.true, line_at_none) refl
