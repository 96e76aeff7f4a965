-- A program's certificate as marks: the bits of its instances, by the numbers of unknowns.
use Rattle.std.specs.Prelude.{ℕ, ◌&&◌, Bool, List, [], length, nat_lt, slice_get, slice_index_or, Option, Some, None}
use Rattle.std.specs.List.{All, position_or_len}
use Rattle.c_types.specs.Types.{is_pointer}
use Rattle.flow_graph.specs.FlowGraph.{FlowGraph, member_type}
use Rattle.flow_graph.specs.Fits.{is_in, IsFlowGraph}
use Rattle.path_facts.specs.Tables.{FactTables, AreFactsOf}
use Rattle.recursion_groups.specs.Grouping.{IsGrouping}
use Rattle.owner_vars.specs.Fields.{field_number}
use Rattle.owner_vars.specs.Sites.{site_at}
use Rattle.own_cert.specs.declared.certificate.Instance.{Instance}
use Rattle.own_cert.specs.declared.certificate.Certificate.{Certificate}
use Rattle.transfer_rules.specs.Rules.{body_of}
use Rattle.verdict_meaning.specs.Systems.{System, members}
use Rattle.verdict_meaning.specs.Certificates.{bit_at, assignment_of, IsGoodCertificate}
use Rattle.verdict_meaning.specs.Programs.{system_of}
use Rattle.heap_law.specs.Assigned.{own_face, marks_at}
use Rattle.heap_law.specs.Markings.{Marking}
use Rattle.heap_meaning.specs.declared.choices.Choice.{Choice}
use Rattle.heap_meaning.specs.Run.{states_of}
use Rattle.heap_law.specs.Law.{IsOwned, IsCertified}

-- where there is none
abbrev pub no_instance : Instance
no_instance = record { group = 0; entry = 0; iface = []; sites = []; places = [] }

-- the instance of this number
abbrev pub instance_at : Certificate → ℕ → Instance
instance_at c i = slice_index_or c.instances i no_instance

-- the procedures of its group
abbrev pub members_in : System → Certificate → ℕ → List ℕ
members_in s c i = members s (instance_at c i).group

-- what it says of its group's unknowns
abbrev pub value_in : System → Certificate → ℕ → ℕ → Bool
value_in s c i = assignment_of s c (instance_at c i)

-- the instance that it names at a site, where there is a site
abbrev pub named_at : Certificate → ℕ → Option ℕ → Option ℕ
named_at c i None = None
named_at c i (Some site) = slice_get (instance_at c i).sites site

-- the marks of a certificate: a member, a slot or an interface owns, and a member is open, where the bit of its unknown says so
abbrev pub marking_of : FlowGraph → FactTables → System → Certificate → Marking
marking_of g facts s c = record {
  phi = λ z f. is_pointer (member_type g z f) && bit_at c.phi (field_number g z f);
  first = position_or_len (λ (i : Instance). is_in (members s i.group) g.main_proc) c.instances;
  has = λ i k. nat_lt i (length c.instances) && is_in (members_in s c i) k;
  site = λ i k p. named_at c i (site_at g (members_in s c i) k p);
  face = λ i k. own_face (body_of g facts (members_in s c i) k) (value_in s c i);
  marks = λ i k p. marks_at (body_of g facts (members_in s c i) k) (value_in s c i) p;
}

-- a flow graph, its facts and its call groups
pub record IsProgram (g : FlowGraph) (facts : FactTables) (groups : List (List ℕ)) : Type 0 where
  pub graph : IsFlowGraph g
  pub facts_are : AreFactsOf g facts
  pub grouping : IsGrouping g groups

-- a good certificate of a program is a good marking of its graph
abbrev pub GoodIsCertified : Type 0
GoodIsCertified =
    (g : FlowGraph) (facts : FactTables) (groups : List (List ℕ)) (c : Certificate) → IsProgram g facts groups → IsGoodCertificate (system_of g facts groups) c
    → IsCertified g facts (marking_of g facts (system_of g facts groups) c)

-- so in every state of every run each object has the owners that it should, by the marks of the certificate
abbrev pub GoodRunsAreOwned : Type 0
GoodRunsAreOwned =
    (g : FlowGraph) (facts : FactTables) (groups : List (List ℕ)) (c : Certificate) → IsProgram g facts groups → IsGoodCertificate (system_of g facts groups) c
    → (choices : List Choice) → All (IsOwned g (marking_of g facts (system_of g facts groups) c)) (states_of g choices)
