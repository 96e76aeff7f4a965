-- How the bytes of a source read, and why they are refused.
use Rattle.std.specs.Prelude.{◌≡◌, ℕ, List, Some, None, ⊤}
use Rattle.c_tree.specs.Plain.{Tree}
use Rattle.c_tree.specs.View.{tree_view}
use Rattle.c_token.specs.declared.token.Token.{Token}
use Rattle.c_token.specs.Reading.{IsTokenReading, IsStuck}
use Rattle.c_grammar.specs.Items.{IsSpelled}
use Rattle.c_types.specs.declared.error.LimitKind.{LimitKind}
use Rattle.c_types.specs.declared.error.TypeError.{TypeError}
use Rattle.c_types.specs.declared.typed.Typed.{Typed}
use Rattle.c_types.specs.Items.{refusal_of}
use Rattle.flow_graph.specs.GraphOf.{graph_of}
use Rattle.transfer_rules.specs.Programs.{Parts, IsProgram, IsFirstOver, AllFit}
use Rattle.source_program.specs.declared.refusal.Refusal.{Refusal}
use Rattle.source_program.specs.declared.failure.Failure.{Failure}

-- the most bytes that a source may have
abbrev pub most_bytes : ℕ
most_bytes = 4194304

-- the bytes read as the tree: the tokens of their one reading spell it
pub record Reads (bytes : List ℕ) (tree : Tree) : Type 0 where
  pub tokens : List Token
  pub read : IsTokenReading bytes tokens
  pub spelled : IsSpelled tokens tree

-- the bytes have tokens, and these spell no tree
pub record ReadsNothing (bytes : List ℕ) : Type 0 where
  pub tokens : List Token
  pub read : IsTokenReading bytes tokens
  pub unspelled : (tree : Tree) → IsSpelled tokens tree → ⊥

-- the bytes read as a tree that breaks no rule of types, has a `main`, and passes no limit on what it declares
abbrev pub ReadsTyped : List ℕ → Tree → Type 0
ReadsTyped bytes tree = Reads bytes tree × (refusal_of tree ≡ None)

-- Why the bytes of a source have no typed tree. Bytes have one reading or one place where it is stuck, and tokens spell at
-- most one tree, so that at most one of these holds; of the rules, `main` and the limits the first counts.
pub data IsUntyped (bytes : List ℕ) : Refusal → Type 0 where
  no_token : (k : ℕ) → IsStuck bytes k → IsUntyped bytes (Refusal.Lex k)
  no_tree : (k : ℕ) → ReadsNothing bytes → IsUntyped bytes (Refusal.Parse k)
  ill_typed : (tree : Tree) (k rule : ℕ) → Reads bytes tree → refusal_of tree ≡ Some (TypeError.BadType k rule)
      → IsUntyped bytes (Refusal.BadType k rule)
  no_main : (tree : Tree) → Reads bytes tree → refusal_of tree ≡ Some TypeError.NoMain → IsUntyped bytes Refusal.NoMain
  past_limit : (tree : Tree) (kind : LimitKind) (count : ℕ) → Reads bytes tree → refusal_of tree ≡ Some (TypeError.Limit kind count)
      → IsUntyped bytes (Refusal.Limit kind count)

-- Why the bytes of a source have no program: they have no typed tree, or a call group of it has more unknowns than may be
pub data IsCause (bytes : List ℕ) : Refusal → Type 0 where
  untyped : (r : Refusal) → IsUntyped bytes r → IsCause bytes r
  past_unknowns : (typed : Typed) (count : ℕ) → ReadsTyped bytes (tree_view typed.tree) → IsFirstOver (graph_of typed) count
      → IsCause bytes (Refusal.Limit LimitKind.Unknowns count)

-- a failure comes from want of memory, or is a refusal with a cause
abbrev pub IsFailure : (Refusal → Type 0) → Failure → Type 0
IsFailure Cause Failure.Memory = ⊤
IsFailure Cause (Failure.Refused r) = Cause r

-- the parts are those of the tree as which the bytes read, and within all limits
pub record IsProgramOf (bytes : List ℕ) (p : Parts) : Type 0 where
  pub typed : ReadsTyped bytes (tree_view p.typed.tree)
  pub parts : IsProgram p
  pub fits : AllFit p.graph p.groups
