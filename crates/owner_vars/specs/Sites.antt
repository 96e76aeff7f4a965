-- The numbers of sites by procedure and place. A call stands alone at its place, so a place has one site at most.
use Rattle.std.specs.Prelude.{ℕ, List, Bool, ◌&&◌, Option, nat_eq, position}
use Rattle.flow_graph.specs.FlowGraph.{FlowGraph}
use Rattle.owner_vars.specs.Unknowns.{Site, sites}

-- the call begins at this place of this procedure
abbrev pub is_site_of : ℕ → ℕ → Site → Bool
is_site_of k p s = nat_eq s.proc k && nat_eq s.place p

-- the number of the first of these sites that is at a place
abbrev pub site_among : List Site → ℕ → ℕ → Option ℕ
site_among ss k p = position (is_site_of k p) ss

-- the number of the site at a place of a member
abbrev pub site_at : FlowGraph → List ℕ → ℕ → ℕ → Option ℕ
site_at g members k p = site_among (sites g members) k p
