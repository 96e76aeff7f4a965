use Rattle.std.proofs.Common.{◌≡◌, ◌-◌, ◌≤◌, ℕ, List, length, vec_len}
use Rattle.io_edge.proofs.Taken.{HasTaken}
use Rattle.io_edge.proofs.transfer.read_file.Given as goal

abbrev pub invariant-loop-n : goal.invariant-loop-n
invariant-loop-n g l = record {
  same : (n : List ℕ) → g.F.Files.held l.files n ≡ g.F.Files.held l.fn.files n;
  taken : HasTaken (g.F.Files.held l.fn.files l.name) (g.F.Files.left l.files) l.bytes.items;
  fits : length l.bytes.items ≤ l.most;
  later : g.F.Files.faults l.fn.files ≤ g.F.Files.faults l.files;
}

abbrev pub decreases-loop-n : goal.decreases-loop-n
decreases-loop-n g l = l.most - vec_len l.bytes
