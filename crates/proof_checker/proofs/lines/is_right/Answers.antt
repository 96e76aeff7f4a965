use Rattle.std.proofs.Common.{◌+◌}
use Rattle.proof_checker.proofs.LineLemmas.{earlier_first, earlier_second, earlier_inst}
use Rattle.proof_checker.proofs.lines.is_right.Goals as goal

pub is_resolvent_line-requires-clause-first : goal.is_resolvent_line-requires-clause-first
is_resolvent_line-requires-clause-first g c = earlier_first _ (c.args.k + 1) c.in-Resolve.i c.in-Resolve.j c.in-Resolve.is c.requires.earlier

pub is_resolvent_line-requires-clause-second : goal.is_resolvent_line-requires-clause-second
is_resolvent_line-requires-clause-second g c = earlier_second _ (c.args.k + 1) c.in-Resolve.i c.in-Resolve.j c.in-Resolve.is c.requires.earlier

pub is_inst_line-requires-clause-earlier : goal.is_inst_line-requires-clause-earlier
is_inst_line-requires-clause-earlier g c = earlier_inst _ (c.args.k + 1) c.in-Inst.i c.in-Inst.site c.in-Inst.is c.requires.earlier
