use Rattle.std.proofs.Common.{sym, refl}
use Rattle.c_parser.proofs.ItemLoops.{bare_by}
use Rattle.c_parser.proofs.file.item_of.Goals as goal

pub returns-in-Defined : goal.returns-in-Defined
returns-in-Defined c = rw (bare_by c.args.tokens.now c.in-Some.front.token.now c.in-Some.front.rest.now _ c.in-Some.ensures (sym c.in-Defined.ensures)) c.struct_item.ensures

pub returns-in-Forward : goal.returns-in-Forward
returns-in-Forward c = rw (bare_by c.args.tokens.now c.in-Some.front.token.now c.in-Some.front.rest.now _ c.in-Some.ensures (sym c.in-Forward.ensures), c.forward.ensures) refl

pub returns-in-Procedure : goal.returns-in-Procedure
returns-in-Procedure c = rw (bare_by c.args.tokens.now c.in-Some.front.token.now c.in-Some.front.rest.now _ c.in-Some.ensures (sym c.in-Procedure.ensures)) c.proc_row.ensures
