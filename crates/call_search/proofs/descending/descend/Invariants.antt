use Rattle.std.proofs.Common.{◌≡◌, ◌+◌, ◌≤◌, [], Some}
use Rattle.verdict_meaning.specs.Systems.{root}
use Rattle.call_search.specs.Ledgers.{Extends}
use Rattle.call_search.specs.Entries.{AreKept}
use Rattle.call_search.specs.Frames.{AreFrames, bottom, frame_of, refuted_in}
use Rattle.call_search.proofs.Steps.{measure}
use Rattle.call_search.proofs.descending.descend.Given as goal

abbrev pub invariant-loop-frame : goal.invariant-loop-frame
invariant-loop-frame g l = record {
  extends : Extends (g.G.Shapes.system l.groups) (g.G.Groups.counting l.groups) l.fn.ledger l.ledger;
  frames : AreFrames (g.G.Shapes.system l.groups) (g.G.Groups.counting l.groups) l.ledger.lines l.phi l.stack.items;
  kept : AreKept (g.G.Shapes.system l.groups) (g.G.Groups.counting l.groups) l.ledger.lines l.phi l.kept.items;
  same : bottom l.stack.items ≡ Some (frame_of (root (g.G.Shapes.system l.groups)) l.top []);
  paid : l.ledger.words + refuted_in l.stack.items ≤ l.fn.ledger.words;
}

abbrev pub decreases-loop-frame : goal.decreases-loop-frame
decreases-loop-frame g l = measure (g.G.Shapes.system l.groups) l.ledger l.stack.items
