-- The members of a program's groups.
use Rattle.std.proofs.Common.{◌≡◌, ℕ, ◌<◌, Bool, List, [], length, map, slice_get, ap, ◌∙◌, subst, sym, refl}
use Rattle.std.specs.List.{Contains, All, filter}
use Rattle.std.specs.List.Sorted.{IsStrictlyIncreasing}
use Rattle.std.proofs.lemmas.List.{length-map}
use Rattle.std.proofs.lemmas.List.Sums.{length-filter}
use Rattle.std.proofs.lemmas.List.Elements.{All-contains}
use Rattle.std.proofs.lemmas.Option.{slice_get_within}
use Rattle.std.specs.List.{count_by}
use Rattle.zo_core.specs.declared.number_range.NumberRange.{NumberRange}
use Rattle.flow_graph.specs.FlowGraph.{FlowGraph, flow_of}
use Rattle.flow_graph.specs.Fits.{IsFlowGraph}
use Rattle.recursion_groups.specs.Grouping.{IsGrouping}
use Rattle.recursion_groups.proofs.Each.{group_at}
use Rattle.owner_vars.specs.Unknowns.{Unknown, Pi, unknowns, interface, parts_of, place_unknowns}
use Rattle.owner_vars.specs.Rows.{is_pi_of, is_at, range_where}
use Rattle.owner_vars.specs.Laws.{RowsAreTogether, part_count, place_width}
use Rattle.transfer_rules.specs.Programs.{group_at as members_at}

pub group_ascends : (g : FlowGraph) (groups : List (List ℕ)) (e : ℕ) → IsGrouping g groups → e < length groups → IsStrictlyIncreasing (members_at groups e)
group_ascends g groups e grouping lt = (group_at g [] groups e grouping lt).ascend

pub member_body : (g : FlowGraph) (groups : List (List ℕ)) (e k : ℕ) → IsGrouping g groups → e < length groups → Contains (members_at groups e) k → k < g.bodies
member_body g groups e k grouping lt member = All-contains (λ (j : ℕ). j < g.bodies) (members_at groups e) k (group_at g [] groups e grouping lt).bodies member

pub some_place : (g : FlowGraph) (k : ℕ) → IsFlowGraph g → k < g.bodies → 0 < length (flow_of g k).places
some_place g k graph lt = slice_get_within (flow_of g k).places 0 _ (graph.body k lt).entry

count_is : (p : Unknown → Bool) (us xs : List Unknown) → filter p us ≡ xs → count_by p us ≡ length xs
count_is p us xs e = sym (length-filter p us) ∙ ap length e

module _ (g : FlowGraph) (groups : List (List ℕ)) (e : ℕ) (us : List Unknown) (is : us ≡ unknowns g (members_at groups e)) (together : RowsAreTogether g (members_at groups e)) where
  pub face_count : (k : ℕ) (range : NumberRange) → Contains (members_at groups e) k → range ≡ range_where (is_pi_of k) us → range.count ≡ part_count g k
  face_count k range member r =
      ap (λ (x : NumberRange). x.count) r ∙ count_is (is_pi_of k) us (interface g k) (ap (filter (is_pi_of k)) is ∙ together.pi k member) ∙ length-map (parts_of (flow_of g k)) (Pi k)

  pub width_is : (k : ℕ) (range : NumberRange) → Contains (members_at groups e) k → 0 < length (flow_of g k).places → range ≡ range_where (is_at k 0) us → range.count ≡ place_width g k
  width_is k range member some r =
      ap (λ (x : NumberRange). x.count) r ∙ count_is (is_at k 0) us (place_unknowns g k 0) (ap (filter (is_at k 0)) is ∙ together.place k 0 member some)
