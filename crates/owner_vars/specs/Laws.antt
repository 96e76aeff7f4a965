-- What numbers of pointer fields, of sites and of unknowns keep.
use Rattle.std.specs.Prelude.{◌≡◌, ℕ, ◌+◌, ◌*◌, ◌<◌, ◌≤◌, true, false, List, length, take, map, Some, sum_by, slice_get, slice_index}
use Rattle.std.specs.List.{Contains, filter, range_with_len}
use Rattle.flow_graph.specs.declared.action.Edge.{Edge}
use Rattle.flow_graph.specs.Calls.{callee_of}
use Rattle.flow_graph.specs.FlowGraph.{Flow, FlowGraph, flow_of, edges_from, members_of, member_type, slot_type}
use Rattle.flow_graph.specs.Fits.{HasPointer, is_in}
use Rattle.owner_vars.specs.Unknowns.{Phi, Pi, Sigma, Rho, Omega, Site, field_count, fields_of, fields_behind, returns_pointer, parts_of, interface, sites, site_callees, place_unknowns, unknowns, root_unknowns, number_of}
use Rattle.owner_vars.specs.Fields.{points_to, field_number, field_owner, field_member, field_target, part_of}
use Rattle.owner_vars.specs.Sites.{site_at}
use Rattle.owner_vars.specs.Rows.{is_pi_of, is_sigma_of, is_at}

-- Pointer fields and parts

-- Each pointer member has a number up to the count, no two have one, and the tables lead back from it; and each number up to
-- the count is that of a pointer member.
pub record FieldsAreNumbered (g : FlowGraph) : Type 0 where
  pub above : (s m : ℕ) → HasPointer (members_of g s) m → 0 < field_number g s m
  pub within : (s m : ℕ) → HasPointer (members_of g s) m → field_number g s m ≤ field_count g
  pub among : (s m : ℕ) → HasPointer (members_of g s) m → Contains (fields_of g s) (field_number g s m)
  pub apart : (s m t n : ℕ) → HasPointer (members_of g s) m → HasPointer (members_of g t) n → field_number g s m ≡ field_number g t n → (s ≡ t) × (m ≡ n)
  pub owner : (s m : ℕ) → HasPointer (members_of g s) m → field_owner g (field_number g s m) ≡ s
  pub member : (s m : ℕ) → HasPointer (members_of g s) m → field_member g (field_number g s m) ≡ m
  pub target : (s m : ℕ) → HasPointer (members_of g s) m → field_target g (field_number g s m) ≡ points_to (member_type g s m)
  pub each : (f : ℕ) → 0 < f → f ≤ field_count g → HasPointer (members_of g (field_owner g f)) (field_member g f)
  pub back : (f : ℕ) → 0 < f → f ≤ field_count g → field_number g (field_owner g f) (field_member g f) ≡ f

-- each pointer parameter is a part of the interface, and so is a result that is a pointer
pub record PartsAreNumbered (f : Flow) : Type 0 where
  pub param : (j : ℕ) → HasPointer f.params j → Contains (parts_of f) (part_of f.params j)
  pub result : returns_pointer f.result ≡ true → Contains (parts_of f) 0

-- Which unknowns there are

pub record HasUnknowns (g : FlowGraph) (members : List ℕ) : Type 0 where
  pub phi : (f : ℕ) → 0 < f → f ≤ field_count g → Contains (unknowns g members) (Phi f)
  pub pi : (k i : ℕ) → Contains members k → Contains (parts_of (flow_of g k)) i → Contains (unknowns g members) (Pi k i)
  pub sigma : (s i : ℕ) → s < length (site_callees g members) → Contains (parts_of (flow_of g (slice_index (site_callees g members) s))) i
      → Contains (unknowns g members) (Sigma s i)
  pub rho : (k p x : ℕ) → Contains members k → p < length (flow_of g k).places → HasPointer (flow_of g k).slots x
      → Contains (unknowns g members) (Rho k p x)
  pub omega : (k p x f : ℕ) → Contains members k → p < length (flow_of g k).places → HasPointer (flow_of g k).slots x → Contains (fields_behind g (slot_type g k x)) f
      → Contains (unknowns g members) (Omega k p x f)

pub record HasRootUnknowns (g : FlowGraph) (firsts : List ℕ) : Type 0 where
  pub phi : (f : ℕ) → 0 < f → f ≤ field_count g → Contains (root_unknowns g firsts) (Phi f)
  pub sigma : (s i : ℕ) → s < length firsts → Contains (parts_of (flow_of g (slice_index firsts s))) i → Contains (root_unknowns g firsts) (Sigma s i)

-- Sites

-- a procedure with a body outside the group is called along an edge of this place of a member
pub record CallsOut (g : FlowGraph) (members : List ℕ) (k p callee : ℕ) : Type 0 where
  pub member : Contains members k
  pub place : p < length (flow_of g k).places
  pub edge : Edge
  pub at : Contains (edges_from g k p) edge
  pub calls : callee_of edge.action ≡ Some callee
  pub body : callee < g.bodies
  pub outside : is_in members callee ≡ false

-- the site of this number is at this place, and calls this procedure
pub record IsSiteAt (g : FlowGraph) (members : List ℕ) (k p callee site : ℕ) : Type 0 where
  pub number : site_at g members k p ≡ Some site
  pub within : site < length (sites g members)
  pub called : slice_index (site_callees g members) site ≡ callee

pub record SitesAreNumbered (g : FlowGraph) (members : List ℕ) : Type 0 where
  -- a call out of the group has a site, which calls whom the call does
  pub there : (k p callee : ℕ) → CallsOut g members k p callee → (site : ℕ) × IsSiteAt g members k p callee site
  -- each site is the one at its place
  pub each : (site : ℕ) (s : Site) → slice_get (sites g members) site ≡ Some s → site_at g members s.proc s.place ≡ Some site
  -- and stands for such a call
  pub calls : (site : ℕ) (s : Site) → slice_get (sites g members) site ≡ Some s → CallsOut g members s.proc s.place s.callee

-- Unknowns that stand one after another

pub record RowsAreTogether (g : FlowGraph) (members : List ℕ) : Type 0 where
  pub pi : (k : ℕ) → Contains members k → filter (is_pi_of k) (unknowns g members) ≡ interface g k
  pub sigma : (s : ℕ) → s < length (site_callees g members)
      → filter (is_sigma_of s) (unknowns g members) ≡ map (Sigma s) (parts_of (flow_of g (slice_index (site_callees g members) s)))
  pub place : (k p : ℕ) → Contains members k → p < length (flow_of g k).places → filter (is_at k p) (unknowns g members) ≡ place_unknowns g k p

abbrev pub part_count : FlowGraph → ℕ → ℕ
part_count g k = length (parts_of (flow_of g k))

-- how many unknowns a place of a procedure has, and all of them together
abbrev pub place_width : FlowGraph → ℕ → ℕ
place_width g k = length (place_unknowns g k 0)

abbrev pub place_total : FlowGraph → ℕ → ℕ
place_total g k = length (flow_of g k).places * place_width g k

-- The numbers of a group's unknowns: first the fields, then the interfaces of the members, then those of the sites,
-- then those of the places, each from the number after what stands before.
pub record NumbersFollow (g : FlowGraph) (members : List ℕ) : Type 0 where
  pub phi : (f : ℕ) → 0 < f → f ≤ field_count g → number_of (unknowns g members) (Phi f) ≡ f
  pub pi : (i : ℕ) → i < length members
      → map (number_of (unknowns g members)) (interface g (slice_index members i))
      ≡ range_with_len (1 + field_count g + sum_by (part_count g) (take i members)) (part_count g (slice_index members i))
  pub sigma : (s : ℕ) → s < length (site_callees g members)
      → map (number_of (unknowns g members)) (map (Sigma s) (parts_of (flow_of g (slice_index (site_callees g members) s))))
      ≡ range_with_len (1 + field_count g + sum_by (part_count g) members + sum_by (part_count g) (take s (site_callees g members))) (part_count g (slice_index (site_callees g members) s))
  pub place : (i p : ℕ) → i < length members → p < length (flow_of g (slice_index members i)).places
      → map (number_of (unknowns g members)) (place_unknowns g (slice_index members i) p)
      ≡ range_with_len (1 + field_count g + sum_by (part_count g) members + sum_by (part_count g) (site_callees g members)
      + sum_by (place_total g) (take i members) + p * place_width g (slice_index members i)) (place_width g (slice_index members i))
  pub width : (k p : ℕ) → length (place_unknowns g k p) ≡ place_width g k
  pub count : length (unknowns g members)
      ≡ field_count g + sum_by (part_count g) members + sum_by (part_count g) (site_callees g members) + sum_by (place_total g) members

-- the same of the root
pub record RootNumbersFollow (g : FlowGraph) (firsts : List ℕ) : Type 0 where
  pub phi : (f : ℕ) → 0 < f → f ≤ field_count g → number_of (root_unknowns g firsts) (Phi f) ≡ f
  pub sigma : (s : ℕ) → s < length firsts
      → map (number_of (root_unknowns g firsts)) (map (Sigma s) (parts_of (flow_of g (slice_index firsts s))))
      ≡ range_with_len (1 + field_count g + sum_by (part_count g) (take s firsts)) (part_count g (slice_index firsts s))
  pub together : (s : ℕ) → s < length firsts
      → filter (is_sigma_of s) (root_unknowns g firsts) ≡ map (Sigma s) (parts_of (flow_of g (slice_index firsts s)))
  pub count : length (root_unknowns g firsts) ≡ field_count g + sum_by (part_count g) firsts
