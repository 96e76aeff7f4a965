use Rattle.std.proofs.Common.{ap, ◌∙◌, arith}
use Rattle.verdict_meaning.specs.Derivations.{at_site, carried_number}
use Rattle.verdict_meaning.specs.Programs.{system_in}
use Rattle.proof_checker.proofs.NumberLemmas.{field_itself, behind_fields, sizes}
use Rattle.proof_checker.proofs.in_scope.InScopeConstraints.carried.Goals as goal

pub returns-then-number-self : goal.returns-then-number-self
returns-then-number-self c =
    let s = system_in c.args.self.now.program.now in
    let is = c.args.self.now.tables.fields_are in
    let some = c.number-number.ensures.range.0 in
    field_itself s c.args.group c.args.site c.number-number.result some (omega arith) ∙ ap (carried_number (at_site s c.args.group c.args.site)) c.number-number.ensures.number

pub moved-requires-clause-size : goal.moved-requires-clause-size
moved-requires-clause-size c =
    sizes (system_in c.args.self.now.program.now) c.args.group c.args.site c.called.result c.interface-from.result c.site_interface-to.result c.called.ensures.callee c.interface-from.ensures c.site_interface-to.ensures.numbers

pub returns : goal.returns
returns c =
    let s = system_in c.args.self.now.program.now in
    let is = c.args.self.now.tables.fields_are in
    behind_fields s c.args.group c.args.site c.number-number.result c.called.result c.interface-from.result c.site_interface-to.result c.moved.result c.called.ensures.callee (omega arith) c.interface-from.ensures
    c.site_interface-to.ensures.numbers c.moved.ensures
    ∙ ap (carried_number (at_site s c.args.group c.args.site)) c.number-number.ensures.number
