use Rattle.std.proofs.Common.{◌≡◌, ◌<◌, ◌≤◌, ◌∙◌, length, ap, sym, arith}
use Rattle.verdict_meaning.specs.declared.callee.Callee.{Callee}
use Rattle.unit_refutation.proofs.program.ProgramTablesTables.callee.Goals as goal

pub call_at-requires-clause-group : goal.call_at-requires-clause-group
call_at-requires-clause-group c =
    let many = c.args.self.now.is_layout.groups in
    let le = c.requires.group in
    omega (arith, many, le)

pub call_at-requires-clause-site : goal.call_at-requires-clause-site
call_at-requires-clause-site c =
    let count = (c.args.self.now.is_layout.each c.args.group c.requires.group).sites in
    let lt = c.requires.site in
    omega (arith, count, lt)

pub returns : goal.returns
returns c = ap (λ (x : Callee). x.group) ((c.args.self.now.is_layout.each c.args.group c.requires.group).each c.args.site c.call_at.result c.call_at.ensures).callee
