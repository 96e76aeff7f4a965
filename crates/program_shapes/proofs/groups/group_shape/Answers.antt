use Rattle.std.proofs.Common.{List, length, ap, sym, subst, ◌∙◌}
use Rattle.std.specs.Prelude.{sum_by}
use Rattle.unit_answers.specs.declared.layouts.Call.{Call}
use Rattle.unit_answers.specs.Layouts.{GroupNumbers, AreGroupNumbers}
use Rattle.program_shapes.specs.Tables.{AreSitesOf, parts_there}
use Rattle.program_shapes.proofs.Sums.{table_of}
use Rattle.program_shapes.proofs.groups.group_shape.Goals as goal

pub returns : goal.returns
returns c s g fields are =
    let calls = c.as_slice-calls.ensures.value in
    table_of s g c.args.fields c.saturating_sub.result c.in_ok-site_parts.site_parts (record { count = c.numbers.inside.count; outer = c.numbers.inside.outer; calls = c.numbers.inside.calls.items }) c.in_ok-sites.sites.items fields
    (subst (λ (n : GroupNumbers). AreGroupNumbers s g n) (sym c.numbers.view_is) are) c.saturating_sub.ensures
    (subst (λ (cs : List Call). AreSitesOf c.numbers.inside.outer (length cs) cs c.in_ok-sites.sites.items) calls c.in_ok-sites.ensures)
    (c.in_ok-site_parts.ensures ∙ ap (sum_by parts_there) calls)
