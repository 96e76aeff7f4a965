use Rattle.std.proofs.Common.{◌≡◌, take, map}
use Rattle.unit_answers.specs.Contradictions.{AreConsistent}
use Rattle.unit_answers.specs.Sets.{lit_of}
use Rattle.unit_answers.specs.Trails.{known}
use Rattle.std.specs.Prelude.{◌↔◌}
use Rattle.std.specs.List.{Contains}
use Rattle.zo_core.specs.Literals.{Literal}
use Rattle.unit_answers.proofs.contradicting.first_clash.Given as goal

abbrev pub invariant-loop-place : goal.invariant-loop-place
invariant-loop-place l = record {
  unknowns : l.trail.unknowns ≡ l.initial.trail.unknowns;
  same : (x : Literal) → Contains (known l.trail) x ↔ Contains (take l.place (map lit_of l.findings)) x;
  consistent : AreConsistent (take l.place (map lit_of l.findings));
}
