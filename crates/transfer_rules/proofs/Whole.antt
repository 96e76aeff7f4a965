-- A member of a group of a program, as the rules see it.
use Rattle.std.proofs.Common.{◌≡◌, ℕ, ◌<◌, List, [], length, subst, arith}
use Rattle.std.specs.List.{All, Contains}
use Rattle.std.specs.List.Sorted.{IsStrictlyIncreasing}
use Rattle.flow_graph.specs.FlowGraph.{FlowGraph, flow_of}
use Rattle.flow_graph.specs.Fits.{IsFlowGraph}
use Rattle.path_facts.specs.Tables.{FactTables, AreFactsOf, HasSlot}
use Rattle.recursion_groups.specs.Grouping.{IsGroup}
use Rattle.owner_vars.specs.declared.site.Site.{Site}
use Rattle.owner_vars.specs.Unknowns.{Unknown, unknowns, sites}
use Rattle.owner_vars.specs.Fields.{structs_of}
use Rattle.owner_vars.specs.Laws as laws
use Rattle.transfer_rules.specs.Body.{sight, setting}
use Rattle.transfer_rules.specs.Bodies.{IsBodyOf}
use Rattle.transfer_rules.specs.Exist.{EdgesExist}
use Rattle.transfer_rules.specs.Programs.{Parts, IsProgram, AreTargets, group_at, pointer_slots}
use Rattle.transfer_rules.specs.Rules.{body_of}
use Rattle.transfer_rules.proofs.BodyExists.{is_sight, edges_exist}
use Rattle.transfer_rules.proofs.Few.{few_slots, few_args}
use Rattle.transfer_rules.proofs.Groupings.{group_is}
use Rattle.transfer_rules.proofs.Members.{unknowns_there}

SlotsThere : Type 0
SlotsThere = (g : FlowGraph) (ts : FactTables) → AreFactsOf g ts → (k p x : ℕ) → k < g.bodies → p < length (flow_of g k).places → x < length (flow_of g k).slots → HasSlot ts k p x

at : {X : Type 0} (P : X → Type 0) (xs : List X) (x : X) → All P xs → Contains xs x → P x
at P xs x h c = subst P c.2 (h c.0 x c.1)

module _ (p : Parts) (group proc : ℕ) (whole : IsProgram p) (within : group < length p.groups) (member : Contains (group_at p.groups group) proc) where
  abbrev ms : List ℕ
  ms = group_at p.groups group

  is_group : IsGroup p.graph (group_at p.groups group)
  is_group = group_is p.graph p.groups whole.groups group [] within

  pub member_body : proc < p.graph.bodies
  member_body = at (λ k. k < p.graph.bodies) (group_at p.groups group) proc is_group.bodies member

  pub member_edges : (q : ℕ) → q < (sight (body_of p.graph p.facts (group_at p.groups group) proc)).places
      → EdgesExist (sight (body_of p.graph p.facts (group_at p.groups group) proc)) (setting (body_of p.graph p.facts (group_at p.groups group) proc)) q
  member_edges q lt = edges_exist (body_of p.graph p.facts (group_at p.groups group) proc) whole.fits member_body q lt (few_args p.graph proc q whole.fits member_body)

  pub body_is : ((g : FlowGraph) (ts : FactTables) → AreFactsOf g ts → (k q x : ℕ) → k < g.bodies → q < length (flow_of g k).places → x < length (flow_of g k).slots → HasSlot ts k q x)
      → ((g : FlowGraph) (us : List ℕ) → laws.HasUnknowns g us)
      → ((g : FlowGraph) (us : List ℕ) → IsFlowGraph g → IsStrictlyIncreasing us → All (λ k. k < g.bodies) us → laws.SitesAreNumbered g us)
      → (numbers : List Unknown) (structs : FlowGraph) (calls : List Site) (slots : List ℕ) (targets : List (List ℕ))
      → numbers ≡ unknowns p.graph (group_at p.groups group) → structs ≡ structs_of p.graph → calls ≡ sites p.graph (group_at p.groups group) → slots ≡ pointer_slots p.graph proc → AreTargets p.graph targets
      → IsBodyOf (body_of p.graph p.facts (group_at p.groups group) proc) numbers structs calls slots targets
  body_is slots_there unknown_law site_law numbers structs calls slots targets n f c x t =
      let b = body_of p.graph p.facts (group_at p.groups group) proc in
      let seen = is_sight b whole.fits member_body in
      record {
        graph = whole.fits;
        body = member_body;
        facts = λ q y h. slots_there p.graph p.facts whole.facts proc q y member_body h.place h.slot;
        few = (let le = seen.params in let few = few_slots p.graph proc whole.fits member_body in omega arith);
        entry = seen.entry;
        unknowns = unknowns_there p.graph p.facts (group_at p.groups group) proc whole.fits member_body member (unknown_law p.graph (group_at p.groups group))
            (site_law p.graph (group_at p.groups group) whole.fits is_group.ascend is_group.bodies) numbers n;
        fields = f;
        sites = c;
        pointers = x;
        to_struct = record { count = t.count; each = t.each };
      }
