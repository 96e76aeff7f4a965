use Rattle.std.proofs.Common.{rules, ◌≡◌, ℕ, ◌+◌, [], ◌∷◌, ◌++◌, ◌↔◌, ap, ◌∙◌, arith}
use Rattle.std.proofs.lemmas.List.{length_push}
use Rattle.std.specs.List.{Contains}
use Rattle.recursion_groups.specs.Calls.{Calls}
use Rattle.recursion_groups.proofs.CallLemmas.{each_push}
use Rattle.recursion_groups.proofs.calls.call_lists.Goals as goal

pub loop-proc-preserved : goal.loop-proc-preserved
loop-proc-preserved c =
    let l = c.loop-proc in
    let us = c.in_ok-callees.field-0 in
    let items : c.push.new.self.items ≡ l.calls.items ++ us ∷ [] = search rules in
    record {
      count = rw items (length_push l.calls.items us ∙ ap (λ n. n + 1) l.invariant.count);
      each = rw items (λ p q lt. each_push (λ p us. (q : ℕ) → Contains us q ↔ Calls c.args.graph.now p q) l.calls.items us [] l.proc l.invariant.count (λ p lt q. l.invariant.each p q lt) c.in_ok-callees.ensures p lt q);
    }

pub returns : goal.returns
returns c = record { count = omega arith; each = λ p q lt. c.loop-proc.invariant.each p q (omega arith) }
