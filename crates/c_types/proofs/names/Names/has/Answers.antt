use Rattle.std.proofs.Common.{bytes_eq, sym, ap, ◌∙◌}
use Rattle.c_types.specs.Names.{has_name}
use Rattle.c_types.proofs.NameLemmas.{list_any-map}
use Rattle.c_types.proofs.names.Names.has.Goals as goal

pub returns : goal.returns
returns c = c.contains.ensures ∙ sym (list_any-map (bytes_eq c.args.name.now) (λ k. k.now) c.self.inside.names.keys) ∙ ap (λ ns. has_name ns c.args.name.now) c.self.view_is
