-- The order of names of constraints.
use Rattle.std.specs.declared.cmp.Ordering.{Ordering}
use Rattle.std.specs.Ordering.{nat_cmp, on, then_cmp}
use Rattle.conflict_proof.specs.declared.names.ConstraintName.{ConstraintName}

-- by procedure, and within one by place, edge, rule, slot, field and other
abbrev pub name_order : ConstraintName → ConstraintName → Ordering
name_order =
    then_cmp (on (λ n. n.proc) nat_cmp)
    (then_cmp (on (λ n. n.place) nat_cmp)
    (then_cmp (on (λ n. n.edge) nat_cmp)
    (then_cmp (on (λ n. n.rule) nat_cmp)
    (then_cmp (on (λ n. n.slot) nat_cmp)
    (then_cmp (on (λ n. n.field) nat_cmp)
    (on (λ n. n.other) nat_cmp))))))
