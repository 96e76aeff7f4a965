use Rattle.std.proofs.Common.{not, bytes_eq, map, sym, ap, ◌∙◌}
use Rattle.c_types.specs.Names.{has_name, with_name}
use Rattle.c_types.proofs.NameLemmas.{list_any-map, with_name-map}
use Rattle.c_types.proofs.names.Names.add.Goals as goal

pub returns-clause-known : goal.returns-clause-known
returns-clause-known c =
    c.in_ok-new.ensures.added
    ∙ ap not (sym (list_any-map (bytes_eq c.args.name.now) (λ k. k.now) c.self.inside.names.keys) ∙ ap (λ ns. has_name ns c.args.name.now) c.self.view_is)

pub returns-clause-names : goal.returns-clause-names
returns-clause-names c =
    ap (map (λ k. k.now)) c.in_ok-new.ensures.keys
    ∙ with_name-map (λ k. k.now) c.self.inside.names.keys c.args.name
    ∙ ap (λ ns. with_name ns c.args.name.now) c.self.view_is
