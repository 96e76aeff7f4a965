use Rattle.std.proofs.Common.{bytes_eq, sym, ◌∙◌}
use Rattle.c_types.proofs.NameLemmas.{position_or_len-none}
use Rattle.c_types.proofs.names.Names.place.Goals as goal

pub returns-in-None : goal.returns-in-None
returns-in-None c = c.len.ensures ∙ position_or_len-none (bytes_eq c.args.name.now) c.args.self.now (sym c.in-None.ensures)
