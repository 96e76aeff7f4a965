use Rattle.std.proofs.Common.{◌≡◌, length, take}
use Rattle.std.specs.Prelude.{slice_index}
use Rattle.std.specs.List.{flat_map}
use Rattle.owner_vars.specs.Tables.{listed, sites_from, site_row}
use Rattle.owner_vars.proofs.site_walk.sites.Given as goal

abbrev pub invariant-loop-member : goal.invariant-loop-member
invariant-loop-member l = record {
  items : l.items.items ≡ flat_map (sites_from l.graph l.members) (take l.member-index l.members);
  rows : l.rows.items ≡ listed l.member-index (λ i. site_row l.graph l.members (length (flat_map (sites_from l.graph l.members) (take i l.members))) (slice_index l.members i));
}
