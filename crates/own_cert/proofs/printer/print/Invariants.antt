use Rattle.std.proofs.Common.{◌≡◌, ◌∷◌, take}
use Rattle.std.specs.List.{All, flat_map}
use Rattle.own_cert.specs.declared.lines.Line.TheVariants as line
use Rattle.own_cert.specs.Text.{instance_lines}
use Rattle.own_cert.specs.Values.{IsInstance}
use Rattle.own_cert.proofs.ReadLemmas.{bytes_of}
use Rattle.own_cert.proofs.printer.print.Given as goal

abbrev pub invariant-loop-instance : goal.invariant-loop-instance
invariant-loop-instance l = record {
  text : l.out.items ≡ bytes_of (line.Header l.version ∷ line.Phi l.value.phi ∷ flat_map (instance_lines l.version) (take l.instance-index l.instance-items));
  each : All IsInstance (take l.instance-index l.instance-items);
}
