-- The order in which instances stand.
use Rattle.std.specs.Prelude.{Bool, List}
use Rattle.std.specs.declared.cmp.Ordering.{Ordering}
use Rattle.std.specs.Ordering.{nat_cmp, bool_cmp, ordering_then, on, then_cmp}
use Rattle.std.specs.Cmp.{IsTotalOrder, then_total, on_total, nat_cmp_total, bool_cmp_total}
use Rattle.std.specs.Cmp.Lexicographic.{slice_cmp, lists_total}
use Rattle.own_cert.specs.declared.certificate.Instance.{Instance}
use Rattle.verdict_meaning.specs.Systems.{System}
use Rattle.verdict_meaning.specs.Certificates.{face_of}
use Rattle.plain_answers.specs.declared.wants.Want.{Want}

-- interfaces from the front, 0 before 1
abbrev pub face_order : List Bool → List Bool → Ordering
face_order = slice_cmp bool_cmp

-- by procedure, then by interface
abbrev pub want_order : Want → Want → Ordering
want_order = then_cmp (on (λ (w : Want). w.proc) nat_cmp) (on (λ (w : Want). w.face) face_order)

pub want_order_total : IsTotalOrder want_order
want_order_total = then_total (on_total (λ (w : Want). w.proc) nat_cmp_total) (on_total (λ (w : Want). w.face) (lists_total bool_cmp_total))

-- instances by group, then by entry, then by the entry's interface
abbrev pub instance_order : System → Instance → Instance → Ordering
instance_order s i j =
    ordering_then (nat_cmp i.group j.group) (ordering_then (nat_cmp i.entry j.entry) (face_order (face_of s i i.entry) (face_of s j j.entry)))
