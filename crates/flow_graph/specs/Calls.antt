-- Whom actions call.
use Rattle.std.specs.Prelude.{ℕ, Option, Some, None}
use Rattle.flow_graph.specs.declared.action.Action.{Action}
use Rattle.flow_graph.specs.declared.action.Action.TheVariants as act

-- the procedure that an action calls
abbrev pub callee_of : Action → Option ℕ
callee_of (act.Call r callee us) = Some callee
callee_of _ = None
