-- Where a name is looked up: the constraints of its place, edge and rule on its slot, field and other alone.
use Rattle.std.specs.Prelude.{ℕ, zero, suc, ◌+◌, ◌-◌, cond, ◌&&◌, List, [], ◌∷◌, ◌++◌, Option, nat_eq, nat_lt, nat_le}
use Rattle.zo_core.specs.declared.number_range.NumberRange.{NumberRange}
use Rattle.conflict_proof.specs.declared.names.ConstraintName.{ConstraintName}
use Rattle.flow_graph.specs.declared.action.Action.{Action}
use Rattle.flow_graph.specs.declared.action.Action.TheVariants as act
use Rattle.flow_graph.specs.declared.action.Edge.{Edge}
use Rattle.field_rules.specs.declared.edges.FieldEdge.TheVariants as edge
use Rattle.field_rules.specs.Lists.{when}
use Rattle.field_rules.specs.Sight.{Sight}
use Rattle.field_rules.specs.Lines.{call_lines, bound_lines, pair_lines}
use Rattle.transfer_rules.specs.declared.constraint.Constraint.{Constraint}
use Rattle.transfer_rules.specs.Body.{Setting}
use Rattle.transfer_rules.specs.Rules.{call_args, args, of_lines, target, closed, call_arg_of, result_rules, call_results, field_rules, action_rules, same_slot, entry_slot, exit_ret, exit_own, exit_closed}

-- the number alone, where it is of the range
abbrev pub only : NumberRange → ℕ → NumberRange
only r f = record { first = f; count = cond (nat_le r.first f && nat_lt f (r.first + r.count)) 1 0 }

-- what is seen of a procedure where no struct has another field
abbrev pub one_field : Sight → ℕ → Sight
one_field v f = record v { fields_of = λ s. only (v.fields_of s) f }

module _ (v : Sight) (s : Setting) (n : ConstraintName) where
  abbrev pub here : Sight
  here = one_field v n.field

  -- rules 12 and 14, and the others of a call
  abbrev pub named_arg : ℕ → List ℕ → List Constraint
  named_arg callee us = when (nat_lt n.slot v.slots) (call_arg_of v s n.place n.edge (args v s n.place callee us) n.slot)

  abbrev pub named_closed : ℕ → List ℕ → List Constraint
  named_closed callee us = when (nat_lt n.slot v.slots) (of_lines v s n.place n.edge (call_lines here (call_args (args v s n.place callee us)) n.place n.slot))

  abbrev pub named_result : ℕ → ℕ → Option ℕ → List Constraint
  named_result q callee r = result_rules here s n.place n.edge q r ++ call_results v s n.place n.edge q callee r

  abbrev pub named_call : ℕ → Option ℕ → ℕ → List ℕ → List Constraint
  named_call q r callee us = cond (nat_eq n.rule 12) (named_arg callee us) (cond (nat_eq n.rule 14) (named_closed callee us) (named_result q callee r))

  -- rules 1 to 14, on the edge from the name's place to q
  abbrev pub named_action : ℕ → Action → List Constraint
  named_action q (act.Load x y m) =
      target here s n.place n.edge x ++ closed here s n.place n.edge q x ++ field_rules v s n.place n.edge q (edge.Load x y (s.field_at y m))
  named_action q (act.Store y m x) = field_rules v s n.place n.edge q (edge.Store y (s.field_at y m) x)
  named_action q (act.Call r callee us) = named_call q r callee us
  named_action q a = action_rules here s n.place n.edge q a

  -- rule 21
  abbrev pub named_same : ℕ → Action → List Constraint
  named_same q a = when (nat_lt n.slot v.slots) (same_slot here s n.place n.edge q a n.slot)

  abbrev pub named_edge : Edge → List Constraint
  named_edge e = cond (nat_lt n.rule 15) (named_action e.to e.action) (when (nat_eq n.rule 21) (named_same e.to e.action))

  -- on the edge with this number
  abbrev pub named_among : List Edge → ℕ → List Constraint
  named_among [] k = []
  named_among (e ∷ es) zero = named_edge e
  named_among (e ∷ es) (suc k) = named_among es k

  -- rules 15 to 20
  abbrev pub named_entry : List Constraint
  named_entry = when (nat_eq n.place 0 && nat_lt n.slot s.params) (entry_slot here s n.place n.slot)

  abbrev pub named_exit : List Constraint
  named_exit =
      cond (nat_eq n.rule 16) (exit_ret v s n.place n.slot)
      (cond (nat_eq n.rule 17) (exit_own v s n.place n.slot) (exit_closed here s n.place n.slot))

  abbrev pub named_pair : List Constraint
  named_pair = when (nat_lt n.other v.slots) (of_lines v s n.place 0 (pair_lines here n.place n.slot n.other))

  abbrev pub named_slot : List Constraint
  named_slot =
      cond (nat_lt n.rule 19) (when (nat_eq n.place (v.places - 1)) named_exit)
      (cond (nat_eq n.rule 19) (of_lines v s n.place 0 (bound_lines here n.place n.slot)) named_pair)

  abbrev pub named_place : List Constraint
  named_place = cond (nat_eq n.rule 15) named_entry (when (nat_lt n.slot v.slots) named_slot)

  abbrev pub named_at : List Constraint
  named_at = cond (nat_lt 14 n.rule && nat_lt n.rule 21) (when (nat_eq n.edge 0) named_place) (named_among (s.edges n.place) n.edge)
