use Rattle.std.proofs.Common.{◌≡◌, ℕ, ◌+◌, ◌<◌, ◌++◌, Bool, List, length, arith}
use Rattle.transfer_rules.specs.Names.{NamedClause}
use Rattle.verdict_meaning.specs.Certificates.{bit_at}
use Rattle.cert_checker.specs.Tables.{line_in, IsRun}
use Rattle.cert_checker.specs.Finding.{IsBelow}
use Rattle.cert_checker.proofs.FirstLemmas.{or_none, or_either}
use Rattle.cert_checker.proofs.RunLemmas.{FalseUpTo, FalseHere, up_to_split, up_to_left, up_to_right, all_runs, begins, next_begins, here_first, here_beyond, here_none}
use Rattle.cert_checker.proofs.runs.first_false.Goals as goal

pub loop-from-preserved-then-not-are_true : goal.loop-from-preserved-then-not-are_true
loop-from-preserved-then-not-are_true c =
    let rs : List NamedClause = c.args.table.now in
    let value : ℕ → Bool = bit_at (c.args.phi.now ++ c.args.marks.now.bits.items) in
    let line : ℕ → ℕ = line_in c.args.marks.now.fields c.args.marks.now.lines.items c.args.marks.now.after in
    let from : ℕ = c.loop-from.from in
    let to : ℕ = c.run_end-to.result in
    let run : IsRun rs from to = begins rs value line from to c.loop-from.invariant.begins c.run_end-to.ensures in
    record {
      first = or_either c.args.bound (FalseUpTo rs value line from) (FalseHere rs value line from to) (FalseUpTo rs value line to)
          (λ at h. up_to_split rs value line from to at run h) (λ at h. up_to_left rs value line from to at run h) (λ at h. up_to_right rs value line from to at run h)
          c.loop-from.found c.last_line.result c.earlier-found.result c.loop-from.invariant.first
          (λ below. here_first rs value line c.args.bound from to c.last_line.result c.if-not-are_true.ensures c.last_line.ensures below)
          (λ never. here_beyond rs value line c.args.bound from to c.last_line.result c.last_line.ensures never)
          c.earlier-found.ensures;
      begins = next_begins rs value line from to c.run_end-to.ensures;
    }

pub loop-from-preserved : goal.loop-from-preserved
loop-from-preserved c =
    let rs : List NamedClause = c.args.table.now in
    let value : ℕ → Bool = bit_at (c.args.phi.now ++ c.args.marks.now.bits.items) in
    let line : ℕ → ℕ = line_in c.args.marks.now.fields c.args.marks.now.lines.items c.args.marks.now.after in
    let from : ℕ = c.loop-from.from in
    let to : ℕ = c.run_end-to.result in
    let run : IsRun rs from to = begins rs value line from to c.loop-from.invariant.begins c.run_end-to.ensures in
    record {
      first = or_none c.args.bound (FalseUpTo rs value line from) (FalseHere rs value line from to) (FalseUpTo rs value line to)
          (λ at h. up_to_split rs value line from to at run h) (λ at h. up_to_left rs value line from to at run h)
          c.loop-from.found c.loop-from.invariant.first (here_none rs value line c.args.bound from to c.if-not-are_true.ensures);
      begins = next_begins rs value line from to c.run_end-to.ensures;
    }

pub returns : goal.returns
returns c =
    all_runs c.args.table.now (bit_at (c.args.phi.now ++ c.args.marks.now.bits.items)) (line_in c.args.marks.now.fields c.args.marks.now.lines.items c.args.marks.now.after)
    c.args.bound c.loop-from.from c.loop-from.found (let e = c.len.ensures in omega arith) c.loop-from.invariant.first
