-- The system of a program.
use Rattle.std.specs.Prelude.{◌≡◌, ℕ, ◌<◌, ◌≤◌, ◌↔◌, Bool, List, [], length, map, slice_index, slice_index_or, Option, Some, None}
use Rattle.std.specs.List.{Contains, position_or_len}
use Rattle.zo_core.specs.Literals.{Literal}
use Rattle.conflict_proof.specs.declared.derivation.Line.{Line}
use Rattle.conflict_proof.specs.declared.names.ConstraintName.{ConstraintName}
use Rattle.own_cert.specs.declared.certificate.Certificate.{Certificate}
use Rattle.flow_graph.specs.FlowGraph.{FlowGraph, flow_of}
use Rattle.flow_graph.specs.Fits.{is_in, IsFlowGraph}
use Rattle.path_facts.specs.Tables.{FactTables}
use Rattle.recursion_groups.specs.Grouping.{IsGrouping}
use Rattle.owner_vars.specs.Unknowns.{Phi, Sigma, field_count, field_unknowns, interface, parts_of, site_callees, unknowns, root_unknowns, number_of}
use Rattle.owner_vars.specs.Laws.{SitesAreNumbered, part_count, place_width}
use Rattle.transfer_rules.specs.declared.constraint.Constraint.{Constraint}
use Rattle.transfer_rules.specs.Body.{sight, setting}
use Rattle.transfer_rules.specs.Rules.{constraints, body_of}
use Rattle.transfer_rules.specs.declared.scope.Scope.{Scope}
use Rattle.transfer_rules.specs.Names.{names, condition_in, clauses_of_name, in_scope}
use Rattle.transfer_rules.specs.Holds.{ProcHolds}
use Rattle.transfer_rules.specs.Programs.{Parts}
use Rattle.verdict_meaning.specs.declared.callee.Callee.{Callee}
use Rattle.verdict_meaning.specs.Systems.{System, root, members, first, callee, callees, phi_numbers, pi_numbers, sigma_numbers, count}
use Rattle.verdict_meaning.specs.Solutions.{IsLocal, all_names}
use Rattle.verdict_meaning.specs.Certificates.{IsGoodIn, IsGoodCertificate}
use Rattle.verdict_meaning.specs.Derivations.{IsValidIn}

-- the number of the group that holds a procedure
abbrev pub group_of : List (List ℕ) → ℕ → ℕ
group_of groups k = position_or_len (λ (ms : List ℕ). is_in ms k) groups

-- a procedure that is called, with its group
abbrev pub callee_in : List (List ℕ) → ℕ → Callee
callee_in groups k = record { proc = k; group = group_of groups k }

-- the system of a graph with these call groups, whose names and clauses by the members of a group are these
abbrev pub system_with : FlowGraph → List (List ℕ) → (List ℕ → List ConstraintName) → (List ℕ → ConstraintName → List (List Literal)) → System
system_with g groups names clauses = record {
  groups = groups;
  fields = field_count g;
  parts = part_count g;
  places = λ k. length (flow_of g k).places;
  width = place_width g;
  sites = λ e. map (callee_in groups) (site_callees g (slice_index_or groups e []));
  names = λ e. names (slice_index_or groups e []);
  clauses = λ e. clauses (slice_index_or groups e []);
}

-- the clauses that were found, none where there is no such constraint
abbrev pub clauses_found : Option (List (List Literal)) → List (List Literal)
clauses_found None = []
clauses_found (Some cs) = cs

-- the system of a program, of its graph, facts and call groups: the names and the clauses of the rules
abbrev pub system_of : FlowGraph → FactTables → List (List ℕ) → System
system_of g facts groups = system_with g groups (names g facts) (λ members n. clauses_found (clauses_of_name g facts members n))

-- the system of a program whose parts are these
abbrev pub system_in : Parts → System
system_in p = system_of p.graph p.facts p.groups

-- What is known of the system of a program

-- the unknowns of group e, the fields, the interfaces of the members and those at the sites, have the numbers that the system
-- gives them, and there are as many
pub record NumbersAgree (g : FlowGraph) (s : System) (e : ℕ) : Type 0 where
  pub phi : map (number_of (unknowns g (members s e))) (field_unknowns g) ≡ phi_numbers s
  pub pi : (k : ℕ) → Contains (members s e) k → map (number_of (unknowns g (members s e))) (interface g k) ≡ pi_numbers s e k
  pub sigma : (site : ℕ) → site < length (callees s e)
      → map (number_of (unknowns g (members s e))) (map (Sigma site) (parts_of (flow_of g (callee s e site).proc))) ≡ sigma_numbers s e site
  pub count : length (unknowns g (members s e)) ≡ count s e

-- whom the sites of the root call
abbrev pub root_callees : System → List ℕ
root_callees s = map (λ (c : Callee). c.proc) (callees s (root s))

-- the same of the root
pub record RootNumbersAgree (g : FlowGraph) (s : System) : Type 0 where
  pub phi : map (number_of (root_unknowns g (root_callees s))) (field_unknowns g) ≡ phi_numbers s
  pub sigma : (site : ℕ) → site < root s
      → map (number_of (root_unknowns g (root_callees s))) (map (Sigma site) (parts_of (flow_of g (first s site)))) ≡ sigma_numbers s (root s) site
  pub count : length (root_unknowns g (root_callees s)) ≡ count s (root s)

-- the system is that of a graph: its numbers are those of the unknowns, its sites are the calls out of groups, and what
-- meets all constraints of a group meets the rules of its procedures
pub record IsSystemOf (g : FlowGraph) (facts : FactTables) (s : System) : Type 0 where
  pub fields : s.fields ≡ field_count g
  pub field : (e f : ℕ) → e < root s → 0 < f → f ≤ field_count g → number_of (unknowns g (members s e)) (Phi f) ≡ f
  pub numbers : (e : ℕ) → e < root s → NumbersAgree g s e
  pub root_numbers : RootNumbersAgree g s
  pub sites : (e : ℕ) → e < root s → SitesAreNumbered g (members s e)
  pub count : (e : ℕ) → e < root s → length (callees s e) ≡ length (site_callees g (members s e))
  pub called : (e site : ℕ) → e < root s → site < length (callees s e) → (callee s e site).proc ≡ slice_index (site_callees g (members s e)) site
  pub bodies : (e k : ℕ) → e < root s → Contains (members s e) k → k < g.bodies
  pub main : (e : ℕ) × (e < root s) × Contains (members s e) g.main_proc
  pub rules : (e k : ℕ) (t : ℕ → Bool) → e < root s → IsLocal s all_names e t → Contains (members s e) k
      → ProcHolds (sight (body_of g facts (members s e) k)) (setting (body_of g facts (members s e) k)) t

-- each constraint of a call group is the one of its name
abbrev pub NamesAreApart : FlowGraph → FactTables → List ℕ → Type 0
NamesAreApart g facts members =
    (c : Constraint) → Contains (constraints g facts members) c → condition_in (constraints g facts members) c.name ≡ Some c.condition

-- the system of a program is that of its graph
abbrev pub SystemIsOfGraph : Type 0
SystemIsOfGraph =
    (g : FlowGraph) (facts : FactTables) (groups : List (List ℕ)) → IsFlowGraph g → IsGrouping g groups → IsSystemOf g facts (system_of g facts groups)

-- Scopes

-- the scope of all names: it keeps none, leaves none out, and begins after the name of zeros
pub record IsWhole (scope : Scope) : Type 0 where
  pub keep : scope.keep ≡ []
  pub without : scope.without ≡ []
  pub after : scope.after ≡ record { proc = 0; place = 0; edge = 0; rule = 0; slot = 0; field = 0; other = 0 }

-- in this scope a certificate is good exactly where it is with all constraints
abbrev pub GoodInWhole : Type 0
GoodInWhole =
    (g : FlowGraph) (facts : FactTables) (groups : List (List ℕ)) (scope : Scope) (c : Certificate) → IsWhole scope
    → IsGoodIn (system_of g facts groups) (in_scope scope) c ↔ IsGoodCertificate (system_of g facts groups) c

-- and lines are valid exactly where they are with all constraints
abbrev pub ValidInWhole : Type 0
ValidInWhole =
    (g : FlowGraph) (facts : FactTables) (groups : List (List ℕ)) (scope : Scope) (lines : List Line) → IsWhole scope
    → IsValidIn (system_of g facts groups) (in_scope scope) lines ↔ IsValidIn (system_of g facts groups) all_names lines
